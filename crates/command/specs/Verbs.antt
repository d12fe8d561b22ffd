-- The names of the commands.
use Rattle.std.specs.Prelude.{ℕ, cond, List, codes, Ok, Err, Result}
use Rattle.std.specs.Str.{bytes_eq}
use Rattle.command.specs.declared.mistake.Mistake.{Mistake}
use Rattle.command.specs.declared.mistake.Mistake.TheVariants.{Unknown}
use Rattle.command.specs.declared.verb.Verb.{Verb}
use Rattle.command.specs.declared.verb.Verb.TheVariants.{Manual, Load, Check, Help}

-- The command that a word names, if it names one.
abbrev pub verb_of : List ℕ → Result Verb Mistake
verb_of w =
    cond (bytes_eq w (codes "manual")) (Ok Manual) (cond (bytes_eq w (codes "load")) (Ok Load)
    (cond (bytes_eq w (codes "check")) (Ok Check) (cond (bytes_eq w (codes "help")) (Ok Help) (Err Unknown))))
