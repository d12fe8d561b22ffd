use Rattle.std.proofs.Common.{rules}
use Rattle.tree.proofs.Steps.{action_is}
use Rattle.tree.proofs.reader.Reader.+action.Goals as goal

pub returns-in_ok-way-in-Local : goal.returns-in_ok-way-in-Local
returns-in_ok-way-in-Local t c =
    let w = c.args.way.now in
    let e = action_is w.depth c.args.self.now w.lets w.forks w.scope c.args.input.now.now in
    search rules
