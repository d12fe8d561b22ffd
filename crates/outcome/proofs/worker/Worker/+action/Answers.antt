use Rattle.std.proofs.Common.{◌≡◌, ◌<◌, rules}
use Rattle.outcome.proofs.Steps.{writes_none, writes_more, level_left}
use Rattle.outcome.proofs.worker.Worker.+action.Goals as goal

pub returns-in_err-way : goal.returns-in_err-way
returns-in_err-way t c = let none : c.args.way.now.depth ≡ 0 = search rules in rw writes_none (search rules)

pub returns-in_ok-action-in-If : goal.returns-in_ok-action-in-If
returns-in_ok-action-in-If t c =
    let deep : 0 < c.args.way.now.depth = level_left c.args.way.now c.in_ok-way.way (search rules) in
    rw writes_more (search rules)
