-- What the reader prints.
use Rattle.std.specs.Prelude.{ℕ, List, ◌++◌, codes, decimal}
use Rattle.terms.specs.Refusals.{number}
use Rattle.command.specs.Told.{told}
use Rattle.reader.specs.declared.answer.Answer.{Answer}
use Rattle.reader.specs.declared.answer.Answer.TheVariants.{Manual, Accepted, Help}
use Rattle.reader.specs.declared.failure.Failure.{Failure}
use Rattle.reader.specs.declared.failure.Failure.TheVariants.{Refused, Mistaken, Unread}
use Rattle.reader.specs.declared.failure.Reason.{Reason}
use Rattle.reader.specs.declared.failure.Reason.TheVariants.{NotThere, Folder, Other}

-- The line that an answer is printed as.
abbrev pub printed : Answer → List ℕ
printed (Manual n) = codes "manual " ++ (decimal n ++ codes " bytes")
printed (Accepted c) =
    codes "accepted, " ++ (decimal c.registers ++ (codes " registers, " ++ (decimal c.rules ++ (codes " rules, "
    ++ (decimal c.entries ++ codes " entries")))))
printed Help =
    codes "commands: manual HEX (white space may stand between pairs of digits) | load FILE | check | help"

-- Why a file could not be read.
abbrev pub why : Reason → List ℕ
why NotThere = codes "there is no such file"
why Folder = codes "a folder is no file to load"
why Other = codes "the file cannot be read"

-- The line that a failure is printed as, in place of an answer.
abbrev pub printed_failure : Failure → List ℕ
printed_failure (Refused f) = codes "refused " ++ (decimal (number f.refusal) ++ (codes " at " ++ decimal f.place))
printed_failure (Mistaken m) = codes "error: " ++ told m
printed_failure (Unread r) = codes "error: " ++ why r
