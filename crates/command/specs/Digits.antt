-- The bytes that hexadecimal digits stand for.
use Rattle.std.specs.Prelude.{◌≡◌, ℕ, ◌+◌, ◌-◌, ◌*◌, Bool, cond, ◌&&◌, ◌⊎◌, List, [], ◌∷◌, Ok, Err, vec_items, Result, Vec, nat_le}
use Rattle.std.specs.declared.alloc.Global.{Global}
use Rattle.command.specs.declared.mistake.Mistake.{Mistake}
use Rattle.command.specs.declared.mistake.Mistake.TheVariants.{NoDigit, LoneDigit, Memory}
use Rattle.command.specs.Steps.{mapped, and_then}
use Rattle.command.specs.Words.{white}

-- Whether b is one of the bytes from a to c.
abbrev pub from_to : ℕ → ℕ → ℕ → Bool
from_to a c b = nat_le a b && nat_le b c

-- What a digit stands for: 0 to 9, and A to F or a to f for ten to fifteen.
abbrev pub digit_of : ℕ → Result ℕ Mistake
digit_of b =
    cond (from_to 48 57 b) (Ok (b - 48)) (cond (from_to 65 70 b) (Ok (b - 65 + 10))
    (cond (from_to 97 102 b) (Ok (b - 97 + 10)) (Err (NoDigit b))))

-- The byte that the two digits at the front of a text stand for, and what is behind them.
abbrev pub second_of : ℕ → List ℕ → Result (ℕ × List ℕ) Mistake
second_of h [] = Err LoneDigit
second_of h (b ∷ s) = cond (white b) (Err LoneDigit) (mapped (λ l. (h * 16 + l, s)) (digit_of b))

abbrev pub pair_of : List ℕ → Result (ℕ × List ℕ) Mistake
pair_of [] = Err LoneDigit
pair_of (a ∷ s) = and_then (digit_of a) (λ h. second_of h s)

-- The bytes that pairs of digits stand for, between which there may be white space, or the first mistake.
abbrev pub bytes_of : List ℕ → Result (List ℕ) Mistake
bytes_of [] = Ok []
bytes_of (a ∷ []) = cond (white a) (Ok []) (and_then (digit_of a) (λ h. Err LoneDigit))
bytes_of (a ∷ (b ∷ s)) =
    cond (white a) (bytes_of (b ∷ s))
    (and_then (pair_of (a ∷ (b ∷ s))) (λ p. mapped (λ bytes. p.0 ∷ bytes) (bytes_of s)))

-- The answer is the one that is right, or memory ran out.
abbrev pub Answers : Result (Vec ℕ Global) Mistake → Result (List ℕ) Mistake → Type 0
Answers (Ok v) right = Ok (vec_items v) ≡ right
Answers (Err e) right = (e ≡ Memory) ⊎ (Err e ≡ right)
