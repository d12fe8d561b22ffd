use Rattle.std.proofs.Common.{◌≡◌, ◌-◌, ◌≤◌}
use Rattle.program.specs.Verdict.{entries}
use Rattle.program.proofs.record.Records.entries.Given as goal

-- What is left gives what the whole gives.
abbrev pub invariant-loop-fields : goal.invariant-loop-fields
invariant-loop-fields l =
    (entries (64 - l.count) l.self.end l.rules l.count l.input.now ≡ entries 64 l.self.end l.rules 0 l.initial.input.now)
    × (l.count ≤ 64)

abbrev pub decreases-loop-fields : goal.decreases-loop-fields
decreases-loop-fields l = 64 - l.count
