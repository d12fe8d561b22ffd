-- A number and the operator that it names give the same.
use Rattle.std.proofs.Common.{◌≡◌, ℕ, zero, suc, ◌<◌, false, eqb, refl, ap, arith, ne_eqb}
use Rattle.terms.specs.Kinds.{operator_number}
use Rattle.outcome.specs.Outcome.{Given, ready, not_ready, operated}
use Rattle.outcome.specs.Working.{operator_gives}
use Rattle.outcome.specs.Numbers.{named}

other : (n k : ℕ) → k < 9 → eqb (suc (suc (suc (suc (suc (suc (suc (suc (suc n))))))))) k ≡ false
other n k h = ne_eqb (suc (suc (suc (suc (suc (suc (suc (suc (suc n))))))))) k (λ z. omega arith)

pub operated_named : (n x y : ℕ) → operated (operator_number (named n)) x y ≡ operated n x y
unfolding named
operated_named zero x y = refl
operated_named (suc zero) x y = refl
operated_named (suc (suc zero)) x y = refl
operated_named (suc (suc (suc zero))) x y = refl
operated_named (suc (suc (suc (suc zero)))) x y = refl
operated_named (suc (suc (suc (suc (suc zero))))) x y = refl
operated_named (suc (suc (suc (suc (suc (suc zero)))))) x y = refl
operated_named (suc (suc (suc (suc (suc (suc (suc zero))))))) x y = refl
operated_named (suc (suc (suc (suc (suc (suc (suc (suc zero)))))))) x y = refl
operated_named (suc (suc (suc (suc (suc (suc (suc (suc (suc n))))))))) x y = simp (
  other n 0 (omega arith),
  other n 1 (omega arith),
  other n 2 (omega arith),
  other n 3 (omega arith),
  other n 4 (omega arith),
  other n 5 (omega arith),
  other n 6 (omega arith),
  other n 7 (omega arith),
  other n 8 (omega arith),
)

pub gives_named : (n : ℕ) (a b : Given ℕ) → operator_gives (operator_number (named n)) a b ≡ operator_gives n a b
gives_named n (ready x) (ready y) = ap ready (operated_named n x y)
gives_named n (ready x) not_ready = refl
gives_named n not_ready b = refl
