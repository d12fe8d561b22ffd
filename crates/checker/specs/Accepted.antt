-- What it means that the check accepts a program: the bytes are the encoding of a well-formed program, and of only one.
use Rattle.std.specs.Prelude.{◌≡◌, ℕ, ◌<◌, List, length, Ok, Result}
use Rattle.program.specs.declared.examine.Counts.{Counts}
use Rattle.terms.specs.declared.refusal.Fault.{Fault}
use Rattle.program.specs.Tree.{Program}
use Rattle.program.specs.Encoding.{encode}
use Rattle.program.specs.Decoding.{program_of}
use Rattle.program.specs.Typing.{All, WellFormed}

-- A list of bytes, as the contents of every slice of `u8` are.
abbrev pub Bytes : List ℕ → Type 0
Bytes = All (λ b. b < 256)

-- How many records of each sort a program has.
abbrev pub counts : Program → Counts
counts p = record { registers = length p.registers; rules = length p.rules; entries = length p.entries }

-- The bytes are the encoding of the program, and the program is well formed.
abbrev pub Encodes : List ℕ → Program → Type 0
Encodes bytes p = WellFormed p × (bytes ≡ encode p)

-- An answer that accepts tells the truth: the bytes encode the program that they decode to, which has these counts.
abbrev pub Sound : List ℕ → Result Counts Fault → Type 0
Sound bytes r = (c : Counts) → r ≡ Ok c → Encodes bytes (program_of bytes) × (c ≡ counts (program_of bytes))

-- No encoding of a well-formed program is refused, and bytes encode one such program at most.
abbrev pub Complete : List ℕ → Result Counts Fault → Type 0
Complete bytes r = (p : Program) → Encodes bytes p → (r ≡ Ok (counts p)) × (p ≡ program_of bytes)
