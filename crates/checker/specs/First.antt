-- What it means that a fault is the first one. A fault is a byte, or the first byte of a mark, a value or a mask, which have at
-- most four bytes. So what lies behind the four bytes from the fault on cannot matter, and what lies before it is not at fault.
use Rattle.std.specs.Prelude.{◌≡◌, ℕ, ◌+◌, ◌<◌, ◌≤◌, List, length, take, Err, Result}
use Rattle.terms.specs.declared.refusal.Fault.{Fault}
use Rattle.program.specs.declared.examine.Counts.{Counts}
use Rattle.program.specs.Verdict.{verdict}

-- The two programs are not too long, and begin with the same n bytes, or are the same where they have fewer.
pub record Alike (n : ℕ) (others bytes : List ℕ) : Type 0 where
  pub others_fit : length others ≤ 16384
  pub bytes_fit : length bytes ≤ 16384
  pub beginning : take n others ≡ take n bytes

-- No change behind the fault cures it: every program that begins alike, the four bytes at the fault included, has that fault.
abbrev pub Incurable : List ℕ → Fault → Type 0
Incurable bytes f = (others : List ℕ) → Alike (f.place + 4) others bytes → verdict others ≡ Err f

-- Nothing before the fault is at fault: no program that begins with the bytes before it has a fault that lies wholly before it.
abbrev pub ClearBefore : List ℕ → Fault → Type 0
ClearBefore bytes f =
    (others : List ℕ) (g : Fault) → Alike f.place others bytes → verdict others ≡ Err g → f.place < g.place + 4

-- The fault that an answer names is the first one, and its place is one of the program or its end.
pub record First (bytes : List ℕ) (f : Fault) : Type 0 where
  pub inside : f.place ≤ length bytes
  pub incurable : Incurable bytes f
  pub clear_before : ClearBefore bytes f

abbrev pub NamesFirst : List ℕ → Result Counts Fault → Type 0
NamesFirst bytes r = (f : Fault) → r ≡ Err f → First bytes f
