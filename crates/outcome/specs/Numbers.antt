-- Operators by their numbers.
use Rattle.std.specs.Prelude.{ℕ, unwrap_or}
use Rattle.terms.specs.declared.kind.Operator.{Operator}
use Rattle.terms.specs.declared.kind.Operator.TheVariants.{Either}
use Rattle.terms.specs.Kinds.{operator_of}

-- The operator of a number, where a number that is none counts as that of the last operator.
unfoldable pub named : ℕ → Operator
named n = unwrap_or (operator_of n) Either
