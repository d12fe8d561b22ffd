-- What is taken from the front of bytes.
use Rattle.std.specs.Prelude.{ℕ, ◌+◌, ◌-◌, ◌*◌, List, [], ◌∷◌, length, Some, None, Option}

-- The place of the next byte, where s is what is left of a text that ends at `end`.
abbrev pub place : ℕ → List ℕ → ℕ
place end s = end - length s

-- What is found at the beginning of bytes, and what is behind it.
abbrev pub Decoder : Type 0 → Type 0
Decoder A = List ℕ → Option (A × List ℕ)

-- One byte.
abbrev pub one : Decoder ℕ
one [] = None
one (b ∷ s) = Some (b, s)

-- A number of four bytes, the highest first, where all of them are there.
abbrev pub four_of : Decoder ℕ
four_of [] = None
four_of (a ∷ []) = None
four_of (a ∷ (b ∷ [])) = None
four_of (a ∷ (b ∷ (c ∷ []))) = None
four_of (a ∷ (b ∷ (c ∷ (d ∷ s)))) = Some (a * 16777216 + b * 65536 + c * 256 + d, s)

-- What the code took, with the bytes that it left.
abbrev pub taken : {A : Type 0} → Option A → List ℕ → Option (A × List ℕ)
taken (Some x) s = Some (x, s)
taken None s = None
