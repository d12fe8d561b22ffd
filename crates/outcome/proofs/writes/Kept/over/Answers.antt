use Rattle.std.proofs.Common.{rules}
use Rattle.std.proofs.lemmas.Bool.{le-ltb}
use mathlib.Core.Path.{fun_ext}
use Rattle.outcome.specs.Kept.{meaning}
use Rattle.outcome.specs.Writes.{over}
use Rattle.outcome.proofs.Arrays.{at_made}
use Rattle.outcome.proofs.writes.Kept.over.Goals as goal

pub returns : goal.returns
returns c =
    fun_ext (at_made _ _ (over (meaning c.args.self.now) (meaning c.args.earlier.now)) c.from_fn.result
    (λ i y q k. search rules) c.from_fn.ensures.items (λ r past. simp (le-ltb r 64 past)))
