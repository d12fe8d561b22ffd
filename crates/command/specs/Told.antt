-- The words that say what is wrong with a line.
use Rattle.std.specs.Prelude.{ℕ, cond, List, ◌++◌, codes, decimal}
use Rattle.std.specs.Char.{encode_utf8, is_ascii_graphic}
use Rattle.command.specs.declared.mistake.Mistake.{Mistake}
use Rattle.command.specs.declared.mistake.Mistake.TheVariants.{Unknown, Superfluous, NoFile, NoDigit, LoneDigit, Memory}

-- A byte that is no digit is shown as the character that it is, if it is a printed one, and else by its number.
abbrev pub no_digit : ℕ → List ℕ
no_digit b =
    cond (is_ascii_graphic b) (codes "'" ++ (encode_utf8 b ++ codes "' is no hexadecimal digit"))
    (codes "the byte " ++ (decimal b ++ codes " is no hexadecimal digit"))

abbrev pub told : Mistake → List ℕ
told Unknown = codes "there is no such command"
told Superfluous = codes "there are more words than the command takes"
told NoFile = codes "the name of a file is missing"
told (NoDigit b) = no_digit b
told LoneDigit = codes "the hexadecimal digits do not come in pairs"
told Memory = codes "there is not enough memory"
