use Rattle.std.proofs.Common.{rules}
use Rattle.tree.proofs.Steps.{expression_is}
use Rattle.tree.proofs.reader.Reader.+expression.Goals as goal

-- These stand here since the search finds them from the lemma in scope, and from its name on the function only with its limits doubled.
pub returns-in_err-expression-in-Operator : goal.returns-in_err-expression-in-Operator
returns-in_err-expression-in-Operator t c =
    let w = c.args.way.now in
    let e = expression_is w.depth c.args.self.now w.lets w.scope c.args.want c.args.input.now.now in
    search rules

pub returns-in_ok-expression-in-Operator : goal.returns-in_ok-expression-in-Operator
returns-in_ok-expression-in-Operator t c =
    let w = c.args.way.now in
    let e = expression_is w.depth c.args.self.now w.lets w.scope c.args.want c.args.input.now.now in
    search rules
