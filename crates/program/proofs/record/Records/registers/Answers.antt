use Rattle.std.proofs.Common.{length, rules}
use Rattle.program.proofs.Steps.{registers_left}
use Rattle.program.proofs.record.Records.registers.Goals as goal

pub loop-fields-preserved : goal.loop-fields-preserved
loop-fields-preserved c =
    let kinds = c.loop-fields.kinds.items in
    let e = registers_left 64 c.args.self.end (length kinds) kinds c.loop-fields.input.now in
    rw (c.push.ensures.len, c.push.ensures.items) (search rules)
