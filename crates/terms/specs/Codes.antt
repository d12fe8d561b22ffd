-- Bytes that stand for something.
use Rattle.std.specs.Prelude.{Some, None, Ok, Err, Option, Result}
use Rattle.terms.specs.declared.code.Unknown.{Unknown}

-- What the code answers for a byte: what it stands for, or that it is unknown.
abbrev pub known : {A : Type 0} → Option A → Result A Unknown
known (Some x) = Ok x
known None = Err (record {})
