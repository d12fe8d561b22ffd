use mathlib.Core.Path.{fun_ext}
use Rattle.outcome.proofs.Arrays.{at_none}
use Rattle.outcome.proofs.writes.Kept.none.Goals as goal

pub returns : goal.returns
returns c = fun_ext at_none
