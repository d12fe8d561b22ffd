use Rattle.std.proofs.Common.{◌≡◌, ◌<◌, rules}
use Rattle.outcome.specs.Held.{given, itself}
use Rattle.outcome.proofs.Numbers.{gives_named}
use Rattle.outcome.proofs.Steps.{value_none, value_more, level_left}
use Rattle.outcome.proofs.worker.Worker.+value.Goals as goal

pub returns-in_err-way : goal.returns-in_err-way
returns-in_err-way t c = let none : c.args.way.now.depth ≡ 0 = search rules in rw value_none (search rules)

pub returns-in_ok-right-in-Operator : goal.returns-in_ok-right-in-Operator
returns-in_ok-right-in-Operator t c =
    let same =
    gives_named c.in_ok-byte-in-Operator.field-0 (given itself c.in_ok-left-in-Operator.left) (given itself c.in_ok-right-in-Operator.right) in
    let deep : 0 < c.args.way.now.depth = level_left c.args.way.now c.in_ok-way.way (search rules) in
    rw value_more (search rules)
