use Rattle.std.proofs.Common.{◌≡◌, ℕ, ◌*◌, ◌/◌, ◌^◌, ◌<◌, Bool, true, false, eqb, ltb, sym, refl, ◌∙◌, div-lt_iff_lt-mul, one-mul, arith, pow_pos, ltb-false, ltb-true, eq-eqb, ne_eqb}
use Rattle.std.proofs.Math.Nat.{div-eq_of_lt}
use Rattle.std.proofs.Math.Pow.{pow_mono}
use Rattle.std.proofs.lemmas.Bool.Decides.{nat_tests}
use Rattle.program.proofs.record.names_below.Goals as goal

-- What is left of a number behind its low digits is nothing exactly where it has no others.
shifted : (m p : ℕ) → 0 < p → eqb (m / p) 0 ≡ ltb m p
shifted m p h = go (ltb m p) refl
  where
    go : (t : Bool) → ltb m p ≡ t → eqb (m / p) 0 ≡ ltb m p
    go true e = eq-eqb (m / p) 0 (div-eq_of_lt (ltb-true m p e)) ∙ sym e
    go false e =
        ne_eqb (m / p) 0 (λ z. let b : m < 1 * p = (div-lt_iff_lt-mul {k = p} {x = m} {y = 1} h).0 (omega arith) in omega (arith, ltb-false m p e, one-mul p)) ∙ sym e

pub returns-then-rules-ge32 : goal.returns-then-rules-ge32
returns-then-rules-ge32 c = let p = pow_mono c.if-rules-ge32.true in grind (arith, nat_tests)

pub returns-else-rules-ge32 : goal.returns-else-rules-ge32
returns-else-rules-ge32 c = shifted c.args.mask (2 ^ c.args.rules) (pow_pos c.args.rules)
