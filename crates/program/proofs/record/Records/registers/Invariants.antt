use Rattle.std.proofs.Common.{◌≡◌, ◌-◌, ◌≤◌, [], length}
use Rattle.program.specs.Verdict.{registers}
use Rattle.program.proofs.record.Records.registers.Given as goal

-- What is left gives what the whole gives.
abbrev pub invariant-loop-fields : goal.invariant-loop-fields
invariant-loop-fields l =
    (registers (64 - length l.kinds.items) l.self.end l.kinds.items l.input.now ≡ registers 64 l.self.end [] l.initial.input.now)
    × (length l.kinds.items ≤ 64)

abbrev pub decreases-loop-fields : goal.decreases-loop-fields
decreases-loop-fields l = 64 - length l.kinds.items
