-- Whether two sets of writes share a register, as a test and as a statement.
use Rattle.std.proofs.Common.{◌≡◌, ℕ, zero, suc, ◌<◌, Bool, true, false, cond, eqb, ◌⊎◌, Some, None, Option, sym, refl, subst, inl, inr, arith, eqb-true}
use borrow.Author.Tests.{eqb-false}
use Rattle.outcome.specs.Writes.{Writes, is_write, both, shared_below}

-- Two options are not both there, or are.
pub one_is_none : (x y : Option ℕ) → both (is_write x) (is_write y) ≡ false → (x ≡ None) ⊎ (y ≡ None)
one_is_none None y h = inl refl
one_is_none (Some v) None h = inr refl
one_is_none (Some v) (Some u) h = cc

pub neither_is_none : (x y : Option ℕ) → both (is_write x) (is_write y) ≡ true → (x ≡ None → ⊥) × (y ≡ None → ⊥)
neither_is_none None y h = cc
neither_is_none (Some v) None h = cc
neither_is_none (Some v) (Some u) h = (λ e. cc, λ e. cc)

not_both : (x y : Option ℕ) → (x ≡ None) ⊎ (y ≡ None) → both (is_write x) (is_write y) ≡ false
not_both None y h = refl
not_both (Some v) None h = refl
not_both (Some v) (Some u) (inl h) = cc
not_both (Some v) (Some u) (inr h) = cc

both_there : (x y : Option ℕ) → (x ≡ None → ⊥) → (y ≡ None → ⊥) → both (is_write x) (is_write y) ≡ true
both_there None y h k = absurd (h refl)
both_there (Some v) None h k = absurd (k refl)
both_there (Some v) (Some u) h k = refl

-- An index below suc n is n or below n.
at_or_below : {P : ℕ → Type 0} (n : ℕ) → P n → ((r : ℕ) → r < n → P r) → (r : ℕ) → r < suc n → P r
at_or_below {P} n here below r h = go (eqb r n) refl
  where
    go : (t : Bool) → eqb r n ≡ t → P r
    go true e = subst P (sym (eqb-true r n e)) here
    go false e = let ne = eqb-false r n e in below r (omega arith)

pub apart_below : (n : ℕ) (p q : Writes) → shared_below n p q ≡ false → (r : ℕ) → r < n → (p r ≡ None) ⊎ (q r ≡ None)
unfolding shared_below
apart_below zero p q h r less = absurd (omega arith)
apart_below (suc n) p q h r less = go (both (is_write (p n)) (is_write (q n))) refl (apart_below n p q) h r less
  where
    go : (t : Bool) → both (is_write (p n)) (is_write (q n)) ≡ t →
        (shared_below n p q ≡ false → (r : ℕ) → r < n → (p r ≡ None) ⊎ (q r ≡ None)) → cond t true (shared_below n p q) ≡ false →
        (r : ℕ) → r < suc n → (p r ≡ None) ⊎ (q r ≡ None)
    go true e inner h = cc
    go false e inner h = at_or_below {P = λ r. (p r ≡ None) ⊎ (q r ≡ None)} n (one_is_none (p n) (q n) e) (inner h)

pub written_twice : (n : ℕ) (p q : Writes) → shared_below n p q ≡ true → (r : ℕ) × (r < n) × (p r ≡ None → ⊥) × (q r ≡ None → ⊥)
unfolding shared_below
written_twice zero p q h = cc
written_twice (suc n) p q h = go (both (is_write (p n)) (is_write (q n))) refl (written_twice n p q) h
  where
    go : (t : Bool) → both (is_write (p n)) (is_write (q n)) ≡ t →
        (shared_below n p q ≡ true → (r : ℕ) × (r < n) × (p r ≡ None → ⊥) × (q r ≡ None → ⊥)) → cond t true (shared_below n p q) ≡ true →
        (r : ℕ) × (r < suc n) × (p r ≡ None → ⊥) × (q r ≡ None → ⊥)
    go true e inner h = let k = neither_is_none (p n) (q n) e in (n, omega arith, k.0, k.1)
    go false e inner h = let k = inner h in (k.0, omega (arith, k.1), k.2, k.3)

pub not_shared : (n : ℕ) (p q : Writes) → ((r : ℕ) → r < n → (p r ≡ None) ⊎ (q r ≡ None)) → shared_below n p q ≡ false
unfolding shared_below
not_shared zero p q h = refl
not_shared (suc n) p q h =
    rw (not_both (p n) (q n) (h n (omega arith))) (not_shared n p q (λ r less. h r (omega arith)))

pub is_shared : (n : ℕ) (p q : Writes) (r : ℕ) → r < n → (p r ≡ None → ⊥) → (q r ≡ None → ⊥) → shared_below n p q ≡ true
is_shared zero p q r less x y = absurd (omega arith)
is_shared (suc n) p q r less x y = go (shared_below (suc n) p q) refl
  where
    go : (t : Bool) → shared_below (suc n) p q ≡ t → shared_below (suc n) p q ≡ true
    go true e = e
    go false e = absurd (clash (apart_below (suc n) p q e r less))
      where
        clash : (p r ≡ None) ⊎ (q r ≡ None) → ⊥
        clash (inl h) = x h
        clash (inr h) = y h
