use Rattle.std.proofs.Common.{◌≡◌, ℕ, cond, ltb, length, get_or}
use Rattle.outcome.specs.Kept.{meaning}
use Rattle.outcome.specs.Writes.{reading}
use Rattle.outcome.proofs.writes.Kept.make.Given as goal

-- The registers before this one have their new values, and the others their old ones.
abbrev pub invariant-loop-register : goal.invariant-loop-register
invariant-loop-register l =
    (length l.values ≡ length l.initial.values)
    × ((r : ℕ) → get_or l.values r 0 ≡ cond (ltb r l.register) (reading l.initial.values (meaning l.self) r) (get_or l.initial.values r 0))
