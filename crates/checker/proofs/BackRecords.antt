-- What is accepted is the encoding of a well-formed program: a record of each sort.
use Rattle.std.proofs.Common.{◌≡◌, ℕ, zero, suc, ◌+◌, ◌*◌, ◌/◌, ◌%◌, ◌^◌, ◌<◌, Bool, true, false, cond, ltb, leb, List, [], ◌∷◌, length, take, drop, Some, Ok, Err, sym, refl, ap, ◌∙◌, subst, arith, ltb-true, leb-true}
use Rattle.std.proofs.lemmas.List.{take-append-drop, length-take-le}
use Rattle.terms.specs.declared.refusal.Refusal.TheVariants.{Missing, Fill}
use Rattle.terms.specs.declared.kind.Kind.{Kind}
use Rattle.terms.specs.Kinds.{kind_of, kind_byte, fits}
use Rattle.tree.specs.Reading.{Body, fault, and_then, or_fault, place, action, filled, tree}
use Rattle.program.specs.Tree.{Action, Entry}
use Rattle.program.specs.Encoding.{two_bytes, four_bytes, action_bytes}
use Rattle.program.specs.Typing.{GoodRule, GoodEntry}
use Rattle.program.specs.Verdict.{four_of, register_of, rule_of, entry_of, body_at, rules}
use Rattle.checker.specs.Accepted.{Bytes}
use Rattle.checker.proofs.Accepts.{action_front}
use Rattle.checker.proofs.Inverses.{err_ok, ok_ok, none_some, some_some, then_ok, cond_ok, or_ok, kind_byte_only, four_bytes_of}
use Rattle.checker.proofs.BackTrees.{action_done}

all_take : (n : ℕ) (s : List ℕ) → Bytes s → Bytes (take n s)
all_take zero s all = tt
all_take (suc n) [] all = tt
all_take (suc n) (b ∷ s) all = (all.0, all_take n s all.1)

all_drop : (n : ℕ) (s : List ℕ) → Bytes s → Bytes (drop n s)
all_drop zero s all = all
all_drop (suc n) [] all = tt
all_drop (suc n) (b ∷ s) all = all_drop n s all.1

pub four_got : (s : List ℕ) (x : ℕ × List ℕ) → Bytes s → four_of s ≡ Some x → (s ≡ four_bytes x.0 x.1) × Bytes x.1
four_got [] x all h = absurd (none_some x h)
four_got (a ∷ []) x all h = absurd (none_some x h)
four_got (a ∷ (b ∷ [])) x all h = absurd (none_some x h)
four_got (a ∷ (b ∷ (c ∷ []))) x all h = absurd (none_some x h)
four_got (a ∷ (b ∷ (c ∷ (d ∷ s)))) x all h =
    let e = some_some (a * 16777216 + b * 65536 + c * 256 + d, s) x h in
    let P : ℕ × List ℕ → Type 0 = λ y. (a ∷ (b ∷ (c ∷ (d ∷ s))) ≡ four_bytes y.0 y.1) × Bytes y.1 in
    subst P e (sym (four_bytes_of a b c d s all.0 all.1.0 all.1.1.0 all.1.1.1.0), all.1.1.1.1)

pub register_got : (end : ℕ) (s : List ℕ) (x : Kind × List ℕ) → Bytes s → register_of end s ≡ Ok x →
    (v : ℕ) × (s ≡ kind_byte x.0 ∷ four_bytes v x.1) × (fits x.0 v ≡ true) × Bytes x.1
register_got end [] x all h = absurd (err_ok (fault Missing end) x h)
register_got end (b ∷ s) x all h =
    let k = then_ok (or_fault _ (kind_of b)) _ x h in
    let is : b ≡ kind_byte k.0 = kind_byte_only b k.0 (or_ok _ (kind_of b) k.0 k.1) in
    let v = then_ok (or_fault (fault Missing end) (four_of s)) _ x k.2 in
    let g = four_got s v.0 all.1 (or_ok _ (four_of s) v.0 v.1) in
    let fit = cond_ok (fits k.0 v.0.0) (Ok (k.0, v.0.1)) _ x v.2 in
    let e : ◌≡◌ {A = Kind × List ℕ} (k.0, v.0.1) x = ok_ok (k.0, v.0.1) x fit.1 in
    let four = g.0 in
    let P : Kind × List ℕ → Type 0 =
    λ y. (n : ℕ) × (b ∷ s ≡ kind_byte y.0 ∷ four_bytes n y.1) × (fits y.0 n ≡ true) × Bytes y.1 in
    subst P e (v.0.0, cc, fit.0, g.1)

tree_got : (t : Body) (s : List ℕ) → Bytes s → tree t s ≡ Ok tt → (a : Action) × GoodRule t.kinds a × (s ≡ action_bytes a [])
tree_got t s all h =
    let r = then_ok (action 24 t 8 8 [] s) (filled t) tt h in
    let g = action_done t 24 8 8 [] s r.0 all r.1 in
    let none : r.0 ≡ [] = nothing r.0 r.2 in
    let is = g.is in (
      g.tree,
      record { well_typed = g.well_typed; depth_within = g.depth_within; lets_within = g.lets_within; forks_within = g.forks_within },
      cc,
    )
  where
    nothing : (m : List ℕ) → filled t m ≡ Ok tt → m ≡ []
    nothing [] h = refl
    nothing (b ∷ m) h = absurd (err_ok (fault Fill (place t.end (b ∷ m))) tt h)

body_got : (end : ℕ) (kinds : List Kind) (n : ℕ) (s m : List ℕ) → Bytes s → body_at end kinds n s ≡ Ok m →
    (a : Action) × GoodRule kinds a × (s ≡ action_bytes a m) × (length (action_bytes a []) ≡ n) × Bytes m
body_got end kinds n s m all h = go (leb n (length s)) refl h
  where
    whole : Body
    whole = record { end = place end (drop n s); kinds = kinds; short = Fill }

    part : Body
    part = record { end = end; kinds = kinds; short = Missing }

    go : (b : Bool) → leb n (length s) ≡ b →
        cond b (and_then (tree whole (take n s)) (λ u. Ok (drop n s))) (and_then (tree part s) (λ u. Err (fault Missing end))) ≡ Ok m →
        (a : Action) × GoodRule kinds a × (s ≡ action_bytes a m) × (length (action_bytes a []) ≡ n) × Bytes m
    go true e h =
        let r = then_ok (tree whole (take n s)) _ m h in
        let g = tree_got whole (take n s) (all_take n s all) r.1 in
        let end : drop n s ≡ m = ok_ok (drop n s) m r.2 in
        let front = take-append-drop n s in
        let body = g.2 in
        let join = action_front g.0 m in
        let long = length-take-le n s (leb-true n (length s) e) in
        (g.0, g.1, cc, sym (ap length body) ∙ long, subst Bytes end (all_drop n s all))
    go false e h = let r = then_ok (tree part s) _ m h in absurd (err_ok (fault Missing end) m r.2)

pub rule_got : (end : ℕ) (kinds : List Kind) (s m : List ℕ) → Bytes s → rule_of end kinds s ≡ Ok m →
    (a : Action) × GoodRule kinds a × (s ≡ two_bytes (length (action_bytes a [])) (action_bytes a m)) × Bytes m
rule_got end kinds [] m all h = absurd (err_ok (fault Missing end) m h)
rule_got end kinds (x ∷ []) m all h = absurd (err_ok (fault Missing end) m h)
rule_got end kinds (x ∷ (y ∷ s)) m all h =
    let g = body_got end kinds (x * 256 + y) s m all.1.1 h in
    let low : y < 256 = all.1.0 in
    let a : (x * 256 + y) / 256 ≡ x = omega arith in
    let b : (x * 256 + y) % 256 ≡ y = omega arith in
    let is = g.2 in
    (g.0, g.1, rw (g.3, a, b) (ap (λ (r : List ℕ). x ∷ (y ∷ r)) is), g.4)

pub entry_got : (end rules : ℕ) (s m : List ℕ) → Bytes s → entry_of end rules s ≡ Ok m →
    (e : Entry) × GoodEntry rules e × (s ≡ e.rule ∷ four_bytes e.blockers m) × Bytes m
entry_got end rules [] m all h = absurd (err_ok (fault Missing end) m h)
entry_got end rules (r ∷ s) m all h =
    let u = cond_ok (ltb r rules) _ _ m h in
    let v = then_ok (or_fault (fault Missing end) (four_of s)) _ m u.1 in
    let g = four_got s v.0 all.1 (or_ok _ (four_of s) v.0 v.1) in
    let w = cond_ok (ltb v.0.0 (2 ^ rules)) (Ok v.0.1) _ m v.2 in
    let end : v.0.1 ≡ m = ok_ok v.0.1 m w.1 in
    let four = g.0 in
    (record { rule = r; blockers = v.0.0 }, (ltb-true r rules u.0, ltb-true v.0.0 (2 ^ rules) w.0), cc, subst Bytes end g.1)
