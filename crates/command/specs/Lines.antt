-- The command that a line gives: its first word names the command, and what is behind it is what the command takes.
use Rattle.std.specs.Prelude.{ℕ, cond, List, [], ◌∷◌, Some, None, Ok, Err, Option, Result, ◌==◌}
use Rattle.command.specs.declared.mistake.Mistake.{Mistake}
use Rattle.command.specs.declared.mistake.Mistake.TheVariants.{Superfluous, NoFile}
use Rattle.command.specs.declared.verb.Verb.{Verb}
use Rattle.command.specs.declared.line.Command.{Command}
use Rattle.command.specs.Steps.{mapped, and_then}
use Rattle.command.specs.Words.{stripped, word, behind}
use Rattle.command.specs.Verbs.{verb_of}

-- A command: `manual` with its digits, `load` with a file's name, and those that take nothing.
pub data Said : Type 0 where
  manual : List ℕ → Said
  load : List ℕ → Said
  check : Said
  help : Said

-- What nothing may stand behind.
abbrev pub alone : {A : Type 0} → A → List ℕ → Result A Mistake
alone x [] = Ok x
alone x (b ∷ s) = Err Superfluous

-- A file's name, one word that nothing may stand behind.
abbrev pub file_of : List ℕ → List ℕ → Result (List ℕ) Mistake
file_of [] s = Err NoFile
file_of (b ∷ w) s = alone (b ∷ w) s

-- A command with what is behind its name.
abbrev pub meant : Verb → List ℕ → Result Said Mistake
meant Verb.Manual s = Ok (manual s)
meant Verb.Load s = mapped load (file_of (word (stripped s)) (stripped (behind (stripped s))))
meant Verb.Check s = alone check (stripped s)
meant Verb.Help s = alone help (stripped s)

-- A line without words, or whose first word begins with the sign #, gives no command.
abbrev pub said : List ℕ → List ℕ → Result (Option Said) Mistake
said [] s = Ok None
said (b ∷ w) s = cond (b == 35) (Ok None) (and_then (verb_of (b ∷ w)) (λ v. mapped Some (meant v s)))

abbrev pub said_of : List ℕ → Result (Option Said) Mistake
said_of line = said (word (stripped line)) (behind (stripped line))

-- What the code answers, in the words of the definitions.
abbrev pub seen : Command → Said
seen (Command.Manual s) = manual s.now
seen (Command.Load s) = load s.now
seen Command.Check = check
seen Command.Help = help
