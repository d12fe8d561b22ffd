use Rattle.std.proofs.Common.{◌≡◌, ◌-◌}
use Rattle.proofread.specs.Steps.{body_at}
use Rattle.proofread.proofs.body.Given as goal

-- What is left gives what the whole gives.
abbrev pub invariant-loop : goal.invariant-loop
invariant-loop l = body_at (l.number - l.counter) l.rest ≡ body_at l.number l.rules
