-- Reading a program, beside reading only its first bytes.
use Rattle.std.proofs.Common.{◌≡◌, ℕ, zero, suc, ◌+◌, ◌-◌, ◌*◌, ◌^◌, ◌<◌, ◌≤◌, Bool, true, false, cond, ltb, leb, List, [], ◌∷◌, ◌++◌, length, take, drop, Some, None, Ok, Err, Option, Result, sym, refl, ap, ◌∙◌, arith, length-append, length-drop, le-leb, leb-false, leb-true}
use Rattle.std.proofs.lemmas.List.{length-take-le, take-append-le, drop-append-le}
use Rattle.terms.specs.declared.refusal.Refusal.{Refusal}
use Rattle.terms.specs.declared.refusal.Refusal.TheVariants.{Missing, Sort, Name, Fill}
use Rattle.terms.specs.declared.refusal.Fault.{Fault}
use Rattle.terms.specs.declared.kind.Kind.{Kind}
use Rattle.terms.specs.Kinds.{kind_of, fits}
use Rattle.tree.specs.Reading.{Body, Read, Passed, fault, and_then, or_fault, place, action, filled, tree}
use Rattle.program.specs.Verdict.{four_of, register_of, rule_of, entry_of, body_at, rules}
use Rattle.checker.proofs.Prefix.{Beyond, Late, Beside, stays, fails, past, late_on, weaken, left, longer, behind, further, place_same, body}
use Rattle.checker.proofs.PrefixTrees.{action_beyond, action_beside}

-- Four bytes are there, whatever comes behind, or not.
data Four (s : List ℕ) : Type 0 where
  few : four_of s ≡ None → length s < 4 → Four s
  enough : (n : ℕ) (m : List ℕ) → four_of s ≡ Some (n, m) → length s ≡ 4 + length m →
      ((v : List ℕ) → four_of (s ++ v) ≡ Some (n, m ++ v)) → Four s

four : (s : List ℕ) → Four s
four [] = few refl (omega arith)
four (a ∷ []) = few refl (omega arith)
four (a ∷ (b ∷ [])) = few refl (omega arith)
four (a ∷ (b ∷ (c ∷ []))) = few refl (omega arith)
four (a ∷ (b ∷ (c ∷ (d ∷ s)))) = enough (a * 16777216 + b * 65536 + c * 256 + d) s refl (omega arith) (λ v. refl)

-- A value or a mask: a number of four bytes that has to pass a test.
module _ {A : Type 0} (rest : A → List ℕ) (make : List ℕ → A) (is : (m : List ℕ) → rest (make m) ≡ m) (test : ℕ → Bool) (q : Refusal) where
  abbrev tested : ℕ → List ℕ → Bool → List ℕ → Result A Fault
  tested end s b m = cond b (Ok (make m)) (Err (fault q (place end s)))

  abbrev valued : ℕ → List ℕ → Result A Fault
  valued end s = and_then (or_fault (fault Missing end) (four_of s)) (λ x. tested end s (test x.0) x.1)

  tested_beyond : (end : ℕ) (s : List ℕ) (b : Bool) (m : List ℕ) → length m ≤ length s → Beyond rest end s (tested end s b m)
  tested_beyond end s true m le = rw (is m) le
  tested_beyond end s false m le = omega arith

  valued_beyond : (end : ℕ) (s : List ℕ) → Beyond rest end s (valued end s)
  valued_beyond end s = go (four s)
    where
      go : Four s → Beyond rest end s (valued end s)
      go (few e less) = rw e (omega arith)
      go (enough n m e long more) = rw e (tested_beyond end s (test n) m (omega arith))

  module _ (a : ℕ) (v : List ℕ) (grow : A → A) (grown : (m : List ℕ) → grow (make m) ≡ make (m ++ v)) where
    tested_late : (w m : List ℕ) (b : Bool) → length w < 4 → length (w ++ v) ≡ 4 + length m →
        Late a rest (a + length v) (tested (a + length v) (w ++ v) b m)
    tested_late w m true less long = rw (is m) (omega (arith, length-append w v))
    tested_late w m false less long = omega (arith, length-append w v)

    valued_late : (w : List ℕ) → length w < 4 → Late a rest (a + length v) (valued (a + length v) (w ++ v))
    valued_late w less = go (four (w ++ v))
      where
        go : Four (w ++ v) → Late a rest (a + length v) (valued (a + length v) (w ++ v))
        go (few e short) = rw e (omega arith)
        go (enough n m e long more) = rw e (tested_late w m (test n) less long)

    tested_beside : (w m : List ℕ) (b : Bool) →
        Beside a (a + length v) rest grow (tested a w b m) (tested (a + length v) (w ++ v) b (m ++ v))
    tested_beside w m true = stays (make m) refl (ap Ok (sym (grown m)))
    tested_beside w m false = fails (fault q (place a w)) refl (ap (λ (p : ℕ). Err (fault q p)) (place_same a v w))

    valued_beside : (w : List ℕ) → Beside a (a + length v) rest grow (valued a w) (valued (a + length v) (w ++ v))
    valued_beside w = go (four w)
      where
        go : Four w → Beside a (a + length v) rest grow (valued a w) (valued (a + length v) (w ++ v))
        go (few e less) = past (rw e (omega arith)) (valued_late w less)
        go (enough n m e long more) = rw (e, more v) (tested_beside w m (test n))

-- The value of a register of this kind, and the mask of an entry in a program of so many rules.
abbrev initial : Kind → ℕ → List ℕ → Read Kind
initial k = valued behind (λ m. (k, m)) (λ m. refl) (fits k) Sort

abbrev mask : ℕ → ℕ → List ℕ → Passed
mask rules = valued left left (λ m. refl) (λ n. ltb n (2 ^ rules)) Name

pub register_beyond : (end : ℕ) (s : List ℕ) → Beyond behind end s (register_of end s)
register_beyond end [] = omega arith
register_beyond end (b ∷ s) = go (kind_of b)
  where
    go : (o : Option Kind) →
        Beyond behind end (b ∷ s) (and_then (or_fault (fault Sort (place end (b ∷ s))) o) (λ k. initial k end s))
    go None = omega arith
    go (Some k) = weaken left behind end (b ∷ s) s (initial k end s) (omega arith) (valued_beyond behind (λ m. (k, m)) (λ m. refl) (fits k) Sort end s)

pub entry_beyond : (end n : ℕ) (s : List ℕ) → Beyond left end s (entry_of end n s)
entry_beyond end n [] = omega arith
entry_beyond end n (r ∷ s) = go (ltb r n)
  where
    go : (b : Bool) → Beyond left end (r ∷ s) (cond b (mask n end s) (Err (fault Name (place end (r ∷ s)))))
    go true = weaken left left end (r ∷ s) s (mask n end s) (omega arith) (valued_beyond left left (λ m. refl) (λ k. ltb k (2 ^ n)) Name end s)
    go false = omega arith

-- The tree of a body, by what an action leaves.
filled_beyond : (t : Body) (s m : List ℕ) → length m ≤ length s → Beyond (λ u. []) t.end s (filled t m)
filled_beyond t s [] le = omega arith
filled_beyond t s (b ∷ m) le = omega arith

tree_beyond : (kinds : List Kind) (end : ℕ) (q : Refusal) (s : List ℕ) → Beyond (λ u. []) end s (tree (body kinds end q) s)
tree_beyond kinds end q s = go (action 24 (body kinds end q) 8 8 [] s) (action_beyond kinds end q 24 8 8 [] s)
  where
    go : (r : Passed) → Beyond left end s r → Beyond (λ u. []) end s (and_then r (filled (body kinds end q)))
    go (Ok m) h = filled_beyond (body kinds end q) s m h
    go (Err f) h = h

body_beyond : (end : ℕ) (kinds : List Kind) (n : ℕ) (s : List ℕ) → Beyond left end s (body_at end kinds n s)
body_beyond end kinds n s = go (leb n (length s)) refl
  where
    whole : Body
    whole = body kinds (place end (drop n s)) Fill

    cut_off : Body
    cut_off = body kinds end Missing

    all_there : (r : Result (Unit {0}) Fault) → n ≤ length s → Beyond (λ u. []) (place end (drop n s)) (take n s) r →
        Beyond left end s (and_then r (λ u. Ok (drop n s)))
    all_there (Ok u) le h = omega (arith, length-drop n s)
    all_there (Err f) le h = omega (arith, length-drop n s, length-take-le n s le)

    part_there : (r : Result (Unit {0}) Fault) → Beyond (λ u. []) end s r → Beyond left end s (and_then r (λ u. Err (fault Missing end)))
    part_there (Ok u) h = omega arith
    part_there (Err f) h = h

    go : (b : Bool) → leb n (length s) ≡ b →
        Beyond left end s (cond b (and_then (tree whole (take n s)) (λ u. Ok (drop n s))) (and_then (tree cut_off s) (λ u. Err (fault Missing end))))
    go true e =
        all_there (tree whole (take n s)) (leb-true n (length s) e) (tree_beyond kinds (place end (drop n s)) Fill (take n s))
    go false e = part_there (tree cut_off s) (tree_beyond kinds end Missing s)

pub rule_beyond : (end : ℕ) (kinds : List Kind) (s : List ℕ) → Beyond left end s (rule_of end kinds s)
rule_beyond end kinds [] = omega arith
rule_beyond end kinds (x ∷ []) = omega arith
rule_beyond end kinds (x ∷ (y ∷ s)) =
    weaken left left end (x ∷ (y ∷ s)) s (body_at end kinds (x * 256 + y) s) (omega arith) (body_beyond end kinds (x * 256 + y) s)

take_over : (n : ℕ) (w v : List ℕ) → length w ≤ n → take n (w ++ v) ≡ w ++ take (n - length w) v
take_over n [] v le = ap (λ (k : ℕ). take k v) (omega arith)
take_over zero (b ∷ w) v le = absurd (omega arith)
take_over (suc n) (b ∷ w) v le =
    let same : suc n - suc (length w) ≡ n - length w = omega arith in
    ap (λ (s : List ℕ). b ∷ s) (take_over n w v (omega arith) ∙ ap (λ (k : ℕ). w ++ take k v) (sym same))

module _ (a : ℕ) (v : List ℕ) where
  abbrev end : ℕ
  end = a + length v

  pub register_beside : (w : List ℕ) → Beside a end behind (further v) (register_of a w) (register_of end (w ++ v))
  register_beside [] = past (omega arith) (late_on left behind a end v (register_of end v) (omega arith) (register_beyond end v))
  register_beside (b ∷ w) = go (kind_of b)
    where
      go : (o : Option Kind) → Beside a end behind (further v)
          (and_then (or_fault (fault Sort (place a (b ∷ w))) o) (λ k. initial k a w))
          (and_then (or_fault (fault Sort (place end (b ∷ (w ++ v)))) o) (λ k. initial k end (w ++ v)))
      go None = fails (fault Sort (place a (b ∷ w))) refl (ap (λ (p : ℕ). Err (fault Sort p)) (place_same a v (b ∷ w)))
      go (Some k) = valued_beside behind (λ m. (k, m)) (λ m. refl) (fits k) Sort a v (further v) (λ m. refl) w

  pub entry_beside : (n : ℕ) (w : List ℕ) → Beside a end left (longer v) (entry_of a n w) (entry_of end n (w ++ v))
  entry_beside n [] = past (omega arith) (late_on left left a end v (entry_of end n v) (omega arith) (entry_beyond end n v))
  entry_beside n (r ∷ w) = go (ltb r n)
    where
      go : (b : Bool) → Beside a end left (longer v)
          (cond b (mask n a w) (Err (fault Name (place a (r ∷ w)))))
          (cond b (mask n end (w ++ v)) (Err (fault Name (place end (r ∷ (w ++ v))))))
      go true = valued_beside left left (λ m. refl) (λ k. ltb k (2 ^ n)) Name a v (longer v) (λ m. refl) w
      go false = fails (fault Name (place a (r ∷ w))) refl (ap (λ (p : ℕ). Err (fault Name p)) (place_same a v (r ∷ w)))

  -- A tree that is cut off at `a` in the first bytes, and not there in the whole: v₁ is what is left of its body.
  module _ (kinds : List Kind) (v₁ : List ℕ) (q : Refusal) (X : Passed) (late-X : Late a left end X) where
    abbrev tend : ℕ
    tend = a + length v₁

    finish_late : (far out : ℕ) (r Y : Passed) (t : Body) → t.end ≡ far → Late a left far r → Late a left out Y →
        Late a left out (and_then (and_then r (filled t)) (λ u. Y))
    finish_late far out (Ok []) Y t e h k = k
    finish_late far out (Ok (b ∷ m)) Y t e h k = rw e (omega arith)
    finish_late far out (Err f) Y t e h k = h

    abbrev t₀ : Body
    t₀ = body kinds a Missing

    abbrev t₁ : Body
    t₁ = body kinds tend q

    left_beside : (y : List ℕ) → Beside a end left (longer v)
        (and_then (filled t₀ y) (λ u. Err (fault Missing a))) (and_then (filled t₁ (y ++ v₁)) (λ u. X))
    left_beside [] = past (omega arith) (finish_late tend end (Ok v₁) X t₁ refl (omega arith) late-X)
    left_beside (b ∷ y) = fails (fault Fill (place a (b ∷ y))) refl (ap (λ (p : ℕ). Err (fault Fill p)) (place_same a v₁ (b ∷ y)))

    cut_beside : (w : List ℕ) → Beside a end left (longer v)
        (and_then (tree t₀ w) (λ u. Err (fault Missing a))) (and_then (tree t₁ (w ++ v₁)) (λ u. X))
    cut_beside w = go (action 24 t₀ 8 8 [] w) (action 24 t₁ 8 8 [] (w ++ v₁)) (action_beside kinds a v₁ Missing q w)
      where
        go : (r₀ r : Passed) → Beside a tend left (longer v₁) r₀ r → Beside a end left (longer v)
            (and_then (and_then r₀ (filled t₀)) (λ u. Err (fault Missing a))) (and_then (and_then r (filled t₁)) (λ u. X))
        go r₀ r (stays y e e') = rw (e, e') (left_beside y)
        go r₀ r (fails f e e') = rw (e, e') (fails f refl refl)
        go r₀ r (past l₀ l) =
            past (finish_late a a r₀ (Err (fault Missing a)) t₀ refl l₀ (omega arith)) (finish_late tend end r X t₁ refl l late-X)

  module _ (kinds : List Kind) (n : ℕ) (w : List ℕ) where
    whole_beside : (r : Result (Unit {0}) Fault) →
        Beside a end left (longer v) (and_then r (λ u. Ok (drop n w))) (and_then r (λ u. Ok (drop n w ++ v)))
    whole_beside (Ok u) = stays (drop n w) refl refl
    whole_beside (Err f) = fails f refl refl

    body_cut : (b : Bool) → length w < n → leb n (length (w ++ v)) ≡ b → Beside a end left (longer v)
        (and_then (tree (body kinds a Missing) w) (λ u. Err (fault Missing a)))
        (cond b (and_then (tree (body kinds (place end (drop n (w ++ v))) Fill) (take n (w ++ v))) (λ u. Ok (drop n (w ++ v))))
        (and_then (tree (body kinds end Missing) (w ++ v)) (λ u. Err (fault Missing end))))
    body_cut true over e =
        let fit : n ≤ length (w ++ v) = leb-true n (length (w ++ v)) e in
        let long = length-append w v in
        let gone = length-drop n (w ++ v) in
        let left_over : length (take (n - length w) v) ≡ n - length w = length-take-le (n - length w) v (omega arith) in
        let far : place end (drop n (w ++ v)) ≡ a + length (take (n - length w) v) = omega arith in
        rw (far, take_over n w v (omega arith))
        (cut_beside kinds (take (n - length w) v) Fill (Ok (drop n (w ++ v))) (omega arith) w)
    body_cut false over e = cut_beside kinds v Missing (Err (fault Missing end)) (omega arith) w

    body_beside : Beside a end left (longer v) (body_at a kinds n w) (body_at end kinds n (w ++ v))
    body_beside = go (leb n (length w)) refl
      where
        go : (b : Bool) → leb n (length w) ≡ b → Beside a end left (longer v)
            (cond b (and_then (tree (body kinds (place a (drop n w)) Fill) (take n w)) (λ u. Ok (drop n w)))
            (and_then (tree (body kinds a Missing) w) (λ u. Err (fault Missing a))))
            (body_at end kinds n (w ++ v))
        go true e =
            let fit : n ≤ length w = leb-true n (length w) e in
            let long : n ≤ length (w ++ v) = simp length-append (omega arith) in
            rw (le-leb n (length (w ++ v)) long, take-append-le n w v fit, drop-append-le n w v fit, place_same a v (drop n w))
            (whole_beside (tree (body kinds (place a (drop n w)) Fill) (take n w)))
        go false e = body_cut (leb n (length (w ++ v))) (leb-false n (length w) e) refl

  pub rule_beside : (kinds : List Kind) (w : List ℕ) → Beside a end left (longer v) (rule_of a kinds w) (rule_of end kinds (w ++ v))
  rule_beside kinds [] = past (omega arith) (late_on left left a end v (rule_of end kinds v) (omega arith) (rule_beyond end kinds v))
  rule_beside kinds (x ∷ []) =
      past (omega arith) (late_on left left a end (x ∷ v) (rule_of end kinds (x ∷ v)) (omega arith) (rule_beyond end kinds (x ∷ v)))
  rule_beside kinds (x ∷ (y ∷ w)) = body_beside kinds (x * 256 + y) w
