-- The mask of a set of writes, and the values after it.
use Rattle.std.proofs.Common.{◌≡◌, ℕ, zero, suc, ◌+◌, ◌*◌, ◌%◌, ◌^◌, ◌<◌, ◌≤◌, Bool, true, false, cond, ltb, List, [], ◌∷◌, length, get_or, sym, refl, ap, ◌∙◌, one-mul, pow-suc, add-one, arith, ext_get_or, shl_exact, lt-ltb}
use native.Mathlib.Nat.{pow-zero}
use Rattle.std.proofs.Math.Nat.{div-eq_of_lt, zero-mul}
use Rattle.std.proofs.lemmas.Nat.{or_disjoint}
use Rattle.std.proofs.lemmas.Nat.Bits.{and_pow}
use Rattle.std.specs.Int.{bit_at}
use Rattle.std.specs.Prelude.{bit_or}
use Rattle.outcome.specs.Writes.{Writes, is_write, value_or, reading, mask_below, after_from, after}

-- One register more that may be written.
pub mask_more : (n : ℕ) (w : Writes) → mask_below (n + 1) w ≡ cond (is_write (w n)) (mask_below n w + 2 ^ n) (mask_below n w)
unfolding mask_below
mask_more n w = rw (add-one n)

pub mask_none : (w : Writes) → mask_below 0 w ≡ 0
unfolding mask_below
mask_none w = refl

doubled : (n : ℕ) → 2 ^ suc n ≡ 2 ^ n + 2 ^ n
doubled n = pow-suc 2 n ∙ twice (2 ^ n)
  where
    twice : (x : ℕ) → x * 2 ≡ x + x
    twice x = omega arith

-- A mask of n registers has no bit behind the first n.
pub mask_small : (n : ℕ) (w : Writes) → mask_below n w < 2 ^ n
unfolding mask_below
mask_small zero w = let one : 2 ^ 0 ≡ 1 = pow-zero 2 in omega arith
mask_small (suc n) w = go (is_write (w n)) (mask_small n w)
  where
    go : (t : Bool) → mask_below n w < 2 ^ n → cond t (mask_below n w + 2 ^ n) (mask_below n w) < 2 ^ suc n
    go true small = let d = doubled n in omega arith
    go false small = let d = doubled n in omega arith

-- The bit of a register, set in a mask of the registers before it.
pub mask_set : (i : ℕ) (w : Writes) → i < 64 → bit_or (mask_below i w) (1 * 2 ^ i % 18446744073709551616) ≡ mask_below i w + 2 ^ i
mask_set i w less =
    let bit : 1 * 2 ^ i % 18446744073709551616 ≡ 2 ^ i = shl_exact {a = 1} 1 i 64 (omega arith) (omega arith) ∙ one-mul (2 ^ i) in
    let none : bit_at (mask_below i w) i ≡ 0 = ap (λ (n : ℕ). n % 2) (div-eq_of_lt (mask_small i w)) in
    rw bit (or_disjoint (mask_below i w) (2 ^ i) (and_pow (mask_below i w) i ∙ ap (λ (n : ℕ). n * 2 ^ i) none ∙ zero-mul (2 ^ i)))

-- The values after the writes: as many, and each is what its register then reads as.
length_after : (r : ℕ) (w : Writes) (vs : List ℕ) → length (after_from r w vs) ≡ length vs
length_after r w [] = refl
length_after r w (v ∷ vs) = ap suc (length_after (r + 1) w vs)

after_at : (r : ℕ) (w : Writes) (vs : List ℕ) (k : ℕ) → k < length vs → get_or (after_from r w vs) k 0 ≡ value_or (w (r + k)) (get_or vs k 0)
after_at r w [] k less = absurd (omega arith)
after_at r w (v ∷ vs) zero less = let e : r + 0 ≡ r = omega arith in rw e
after_at r w (v ∷ vs) (suc k) less =
    let e : r + suc k ≡ r + 1 + k = omega arith in rw e (after_at (r + 1) w vs k (omega arith))

pub is_after : (w : Writes) (vs new : List ℕ) (n : ℕ) → length new ≡ length vs → length vs ≤ n →
    ((r : ℕ) → get_or new r 0 ≡ cond (ltb r n) (reading vs w r) (get_or vs r 0)) → new ≡ after w vs
is_after w vs new n long all at =
    ext_get_or 0 new (after w vs) (long ∙ sym (length_after 0 w vs)) (λ k less.
    at k ∙ there k (omega arith) ∙ sym (after_at 0 w vs k (omega arith) ∙ ap (λ (r : ℕ). value_or (w r) (get_or vs k 0)) (zero_plus k)))
  where
    zero_plus : (k : ℕ) → 0 + k ≡ k
    zero_plus k = omega arith

    there : (k : ℕ) → k < n → cond (ltb k n) (reading vs w k) (get_or vs k 0) ≡ reading vs w k
    there k less = rw (lt-ltb k n less)
