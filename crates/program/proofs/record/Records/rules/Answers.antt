use Rattle.std.proofs.Common.{rules}
use Rattle.program.proofs.Steps.{rules_left}
use Rattle.program.proofs.record.Records.rules.Goals as goal

-- These stand here since the search finds them from the lemma in scope, and not from its name on the function.
pub returns-in_err-allow : goal.returns-in_err-allow
returns-in_err-allow c =
    let e = rules_left c.args.self.end c.args.kinds.now c.loop-fields.count c.loop-fields.input.now in search rules

pub returns-in_err-rule : goal.returns-in_err-rule
returns-in_err-rule c =
    let e = rules_left c.args.self.end c.args.kinds.now c.loop-fields.count c.loop-fields.input.now in search rules
