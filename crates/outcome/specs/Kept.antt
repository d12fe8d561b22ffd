-- What a set of writes in the code means: which value is written to which register.
use Rattle.std.specs.Prelude.{cond, None, nat_lt, slice_index_or}
use Rattle.outcome.specs.declared.writes.Kept.{Kept}
use Rattle.outcome.specs.Writes.{Writes}

-- Which value is written to a register, if any.
abbrev pub meaning : Kept → Writes
meaning w r = cond (nat_lt r 64) (slice_index_or w.values r None) None
