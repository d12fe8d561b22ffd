-- An array of 64 options as a set of writes.
use Rattle.std.proofs.Common.{◌≡◌, ℕ, zero, suc, ◌+◌, ◌<◌, ◌≤◌, Bool, true, false, cond, eqb, ltb, List, length, get_or, set, replicate, MatchBool, None, Option, sym, refl, subst, ◌∙◌, arith, ltb-true, ltb-false, lt-ltb, eqb-true}
use denote.Param.Members.{Mut, Called}
use Rattle.std.specs.Array.{IsFromFnResultFrom, IsFromFnResult}
use borrow.Author.Tests.{eqb-false}
use Rattle.std.proofs.lemmas.List.{get_or-replicate, get_or-set_same, get_or-set_other}
use Rattle.std.specs.List.{zip, HoldsAt, AllWithin}
use Rattle.std.proofs.lemmas.Slice.Zip.{length-zip, get_or-zip}
use Rattle.outcome.specs.Writes.{Writes, is_write, both, shared}
use Rattle.outcome.proofs.Shared.{one_is_none, neither_is_none, not_shared, is_shared}

-- What an array means at a register.
abbrev pub at : List (Option ℕ) → Writes
at xs r = cond (ltb r 64) (get_or xs r None) None

pub at_below : (xs : List (Option ℕ)) (r : ℕ) → r < 64 → at xs r ≡ get_or xs r None
at_below xs r less = rw (lt-ltb r 64 less)

pub at_none : (r : ℕ) → at (replicate 64 None) r ≡ None
at_none r = go (ltb r 64) refl
  where
    go : (t : Bool) → ltb r 64 ≡ t → ◌≡◌ {A = Option ℕ} (cond t (get_or (replicate 64 None) r None) None) None
    go true e = get_or-replicate 64 r None None (ltb-true r 64 e)
    go false e = refl

-- A write in an array that is long enough.
pub at_set : (xs : List (Option ℕ)) (i : ℕ) (o : Option ℕ) (r : ℕ) → i < 64 → i < length xs → at (set xs i o) r ≡ cond (eqb r i) o (at xs r)
at_set xs i o r less long = go (eqb r i) refl
  where
    go : (t : Bool) → eqb r i ≡ t → at (set xs i o) r ≡ cond t o (at xs r)
    go true e = rw (eqb-true r i e, lt-ltb i 64 less) (get_or-set_same xs i o None long)
    go false e = rw (get_or-set_other xs i r o None (eqb-false r i e))

-- The elements of an array that a closure makes, where each call answers h of its index and changes nothing.
made_from : {F B : Type 0} (g : Mut F (ℕ × Unit {0}) B) (f : F) (h : ℕ → B) →
    ((i : ℕ) (y : B) (q : F) → Called g f (i, tt) y q → (q ≡ f) × (y ≡ h i)) →
    (ys : List B) (d : B) (n i : ℕ) → IsFromFnResultFrom g f ys i n → (k : ℕ) → i ≤ k → k < i + n → get_or ys k d ≡ h k
made_from g f h pure ys d zero i each k low high = absurd (omega arith)
made_from {F} {B} g f h pure ys d (suc n) i each k low high =
    go (eqb k i) refl (λ rest. made_from g f h pure ys d n (i + 1) rest k)
  where
    p : (each.0 ≡ f) × (each.1 ≡ h i)
    p = pure i each.1 each.0 each.3

    go : (t : Bool) → eqb k i ≡ t →
        (IsFromFnResultFrom g f ys (i + 1) n → i + 1 ≤ k → k < i + 1 + n → get_or ys k d ≡ h k) → get_or ys k d ≡ h k
    go true e later = rw (eqb-true k i e) (each.2.1 d ∙ p.1)
    go false e later =
        let ne = eqb-false k i e in
        later (subst (λ (q : F). IsFromFnResultFrom g q ys (i + 1) n) p.0 each.4) (omega arith) (omega arith)

-- The same of 64 options, as a set of writes.
pub at_made : {F : Type 0} (g : Mut F (ℕ × Unit {0}) (Option ℕ)) (f : F) (h : Writes) (ys : List (Option ℕ)) →
    ((i : ℕ) (y : Option ℕ) (q : F) → Called g f (i, tt) y q → (q ≡ f) × (y ≡ h i)) → IsFromFnResult g f ys 64 →
    ((r : ℕ) → 64 ≤ r → h r ≡ None) → (r : ℕ) → at ys r ≡ h r
at_made g f h ys pure made past r = go (ltb r 64) refl
  where
    go : (t : Bool) → ltb r 64 ≡ t → cond t (get_or ys r None) None ≡ h r
    go true e = made_from g f h pure ys None 64 0 made.each r (omega arith) (omega (arith, ltb-true r 64 e))
    go false e = sym (past r (ltb-false r 64 e))

-- What an `any` over the pairs of two arrays of 64 options answers.
pub shared_is : (r : Bool) (xs ys : List (Option ℕ)) → length xs ≡ 64 → length ys ≡ 64 →
    MatchBool r ((k : ℕ) × (k < length (zip xs ys)) × HoldsAt (λ p. both (is_write p.0) (is_write p.1) ≡ true) (zip xs ys) k)
    (AllWithin (λ p. both (is_write p.0) (is_write p.1) ≡ false) (zip xs ys) 0 (length (zip xs ys))) → r ≡ shared (at xs) (at ys)
shared_is true xs ys many more h =
    let long : length (zip xs ys) ≡ 64 = length-zip xs ys ∙ (rw (many, more) refl) in
    let less : h.0 < 64 = omega (arith, h.1) in
    let pair = get_or-zip xs ys h.0 (None, None) (omega arith) (omega arith) in
    let here : both (is_write (at xs h.0)) (is_write (at ys h.0)) ≡ true =
    rw (at_below xs h.0 less, at_below ys h.0 less) (rw pair at (h.2 (None, None))) in
    let there = neither_is_none (at xs h.0) (at ys h.0) here in
    sym (is_shared 64 (at xs) (at ys) h.0 less there.0 there.1)
shared_is false xs ys many more h =
    sym (not_shared 64 (at xs) (at ys) (λ r less. one_is_none (at xs r) (at ys r) (apart r less)))
  where
    apart : (r : ℕ) → r < 64 → both (is_write (at xs r)) (is_write (at ys r)) ≡ false
    apart r less =
        let long : length (zip xs ys) ≡ 64 = length-zip xs ys ∙ (rw (many, more) refl) in
        let pair = get_or-zip xs ys r (None, None) (omega arith) (omega arith) in
        rw (at_below xs r less, at_below ys r less) (rw pair at (h r (None, None) (omega arith) (omega arith)))
