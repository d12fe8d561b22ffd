-- What the code holds, in the words of the definitions.
use Rattle.std.specs.Prelude.{Ok, Err, Result}
use Rattle.outcome.specs.declared.given.NotReady.{NotReady}
use Rattle.outcome.specs.Outcome.{Given, ready, not_ready}

-- What the code gives of a part, where f says what its values stand for: a value is ready, and the error says that the part is not.
abbrev pub given : {A B : Type 0} → (A → B) → Result A NotReady → Given B
given f (Ok x) = ready (f x)
given f (Err e) = not_ready

-- A value that stands for itself.
abbrev pub itself : {A : Type 0} → A → A
itself x = x
