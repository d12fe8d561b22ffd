use Rattle.std.proofs.Common.{rules}
use Rattle.outcome.proofs.Again.{gives_outcome}
use Rattle.outcome.proofs.worker.work_out.Goals as goal

-- One for each way out.
pub returns-in_err-done-clause-outcome : goal.returns-in_err-done-clause-outcome
returns-in_err-done-clause-outcome c = gives_outcome _ _ _ (search rules)

pub returns-clause-outcome : goal.returns-clause-outcome
returns-clause-outcome c = gives_outcome _ _ _ (search rules)
