use Rattle.std.proofs.Common.{◌≡◌}
use Rattle.outcome.specs.Kept.{meaning}
use Rattle.outcome.specs.Writes.{mask_below}
use Rattle.outcome.proofs.writes.Kept.mask.Given as goal

abbrev pub invariant-loop-register : goal.invariant-loop-register
invariant-loop-register l = l.mask ≡ mask_below l.register (meaning l.self)
