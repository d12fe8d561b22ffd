use Rattle.std.proofs.Common.{◌≡◌, ◌-◌, ◌≤◌}
use Rattle.program.specs.Verdict.{rules}
use Rattle.program.proofs.record.Records.rules.Given as goal

-- What is left gives what the whole gives.
abbrev pub invariant-loop-fields : goal.invariant-loop-fields
invariant-loop-fields l =
    (rules (32 - l.count) l.self.end l.kinds l.count l.input.now ≡ rules 32 l.self.end l.kinds 0 l.initial.input.now)
    × (l.count ≤ 32)

abbrev pub decreases-loop-fields : goal.decreases-loop-fields
decreases-loop-fields l = 32 - l.count
