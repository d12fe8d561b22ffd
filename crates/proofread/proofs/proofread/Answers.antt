use Rattle.std.proofs.Common.{rules}
use Rattle.outcome.proofs.Laws.{no_double_write}
use Rattle.proofread.proofs.Through.{reads}
use Rattle.proofread.proofs.proofread.Goals as goal

-- One for each way out: what is asked at each is the same, and not found from the lemma's name on the function.
pub returns-then-rule-counts-clause-is : goal.returns-then-rule-counts-clause-is
returns-then-rule-counts-clause-is c = reads _ _ _ _ c.type_inv.program (search rules)

pub returns-in_err-rules-clause-is : goal.returns-in_err-rules-clause-is
returns-in_err-rules-clause-is c = reads _ _ _ _ c.type_inv.program (search rules)

pub returns-clause-is : goal.returns-clause-is
returns-clause-is c = reads _ _ _ _ c.type_inv.program (search rules)

pub returns-in_err-counts-clause-no_double_write : goal.returns-in_err-counts-clause-no_double_write
returns-in_err-counts-clause-no_double_write c = no_double_write

pub returns-then-rule-counts-clause-no_double_write : goal.returns-then-rule-counts-clause-no_double_write
returns-then-rule-counts-clause-no_double_write c = no_double_write

pub returns-in_err-rules-clause-no_double_write : goal.returns-in_err-rules-clause-no_double_write
returns-in_err-rules-clause-no_double_write c = no_double_write

pub returns-clause-no_double_write : goal.returns-clause-no_double_write
returns-clause-no_double_write c = no_double_write
