use Rattle.outcome.proofs.Laws.{no_double_write}
use Rattle.outcome.proofs.meaning_stands.Goals as goal

pub returns-clause-no_double_write : goal.returns-clause-no_double_write
returns-clause-no_double_write c = no_double_write
