-- What the reader of a body answers, in the words of the definitions.
use Rattle.std.specs.Prelude.{ℕ, List, Ok, Err, Result}
use Rattle.terms.specs.declared.refusal.Fault.{Fault}
use Rattle.tree.specs.Reading.{Read, Passed}

-- What a reader answered, with what it left.
abbrev pub after : {A : Type 0} → Result A Fault → List ℕ → Read A
after (Ok x) s = Ok (x, s)
after (Err e) s = Err e

-- The same of one that answers only whether all is well.
abbrev pub passed : Result (Unit {0}) Fault → List ℕ → Passed
passed (Ok x) s = Ok s
passed (Err e) s = Err e
