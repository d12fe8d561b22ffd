-- Steps that may be mistaken.
use Rattle.std.specs.Prelude.{Ok, Err, Result}
use Rattle.command.specs.declared.mistake.Mistake.{Mistake}

-- What a function makes of the answer of a step, unless that is a mistake.
abbrev pub mapped : {A B : Type 0} → (A → B) → Result A Mistake → Result B Mistake
mapped f (Ok x) = Ok (f x)
mapped f (Err e) = Err e

-- A second step on the answer of the first, unless that is a mistake.
abbrev pub and_then : {A B : Type 0} → Result A Mistake → (A → Result B Mistake) → Result B Mistake
and_then (Ok x) f = f x
and_then (Err e) f = Err e
