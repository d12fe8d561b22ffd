use Rattle.std.proofs.Common.{rules}
use Rattle.outcome.specs.Kept.{meaning}
use Rattle.outcome.proofs.Masks.{is_after}
use Rattle.outcome.proofs.writes.Kept.make.Goals as goal

pub returns : goal.returns
returns c =
    is_after (meaning c.args.self.now) c.args.values.now c.loop-register.values c.loop-register.register
    (search rules) (search rules) (search rules)
