-- The words of a line, which white space keeps apart.
use Rattle.std.specs.Prelude.{ℕ, ◌+◌, Bool, true, cond, List, [], ◌∷◌, take, drop, ◌==◌}

-- White space: a tab, a line feed, a carriage return or a space.
abbrev pub white : ℕ → Bool
white b = cond (b == 9) true (cond (b == 10) true (cond (b == 13) true (b == 32)))

-- A text without the white space at its front.
abbrev pub stripped : List ℕ → List ℕ
stripped [] = []
stripped (b ∷ s) = cond (white b) (stripped s) (b ∷ s)

-- How many bytes stand before a text's first white space.
abbrev pub word_length : List ℕ → ℕ
word_length [] = 0
word_length (b ∷ s) = cond (white b) 0 (1 + word_length s)

-- Those bytes, and what is behind them.
abbrev pub word : List ℕ → List ℕ
word s = take (word_length s) s

abbrev pub behind : List ℕ → List ℕ
behind s = drop (word_length s) s
