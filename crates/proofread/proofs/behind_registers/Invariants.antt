use Rattle.std.proofs.Common.{◌≡◌, drop}
use Rattle.proofread.specs.Steps.{fitting}
use Rattle.proofread.proofs.behind_registers.Given as goal

-- What is left gives what the whole gives.
abbrev pub invariant-loop-value : goal.invariant-loop-value
invariant-loop-value l = fitting (drop l.value-index l.values) l.rest ≡ fitting l.values l.program
