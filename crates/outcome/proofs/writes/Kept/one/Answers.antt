use Rattle.std.proofs.Common.{ℕ, cond, eqb, replicate, rules, Some, None, Option, ap, ◌∙◌}
use mathlib.Core.Path.{fun_ext}
use Rattle.outcome.proofs.Arrays.{at_none, at_set}
use Rattle.outcome.proofs.writes.Kept.one.Goals as goal

pub returns : goal.returns
returns c =
    fun_ext (λ r.
    at_set (replicate 64 None) c.args.register.number (Some c.args.value) r (search rules) (search rules)
    ∙ ap (λ (o : Option ℕ). cond (eqb r c.args.register.number) (Some c.args.value) o) (at_none r))
