-- Writes: for some registers a value that is to be written. A set of writes says of each register which value, if any.
use Rattle.std.specs.Prelude.{◌≡◌, ℕ, zero, suc, ◌+◌, ◌^◌, ◌<◌, Bool, true, false, cond, ◌⊎◌, List, [], ◌∷◌, Some, None, Option, ◌==◌, slice_index}

abbrev pub Writes : Type 0
Writes = ℕ → Option ℕ

abbrev pub no_writes : Writes
no_writes r = None

abbrev pub one_write : ℕ → ℕ → Writes
one_write r v k = cond (k == r) (Some v) None

-- The first where there is one, and else the second.
abbrev pub or_else : {A : Type 0} → Option A → Option A → Option A
or_else (Some x) o = Some x
or_else None o = o

-- Later writes over earlier ones.
abbrev pub over : Writes → Writes → Writes
over later earlier k = or_else (later k) (earlier k)

abbrev pub is_write : Option ℕ → Bool
is_write (Some v) = true
is_write None = false

abbrev pub both : Bool → Bool → Bool
both true b = b
both false b = false

-- Whether some register below n is written in both.
unfoldable pub shared_below : ℕ → Writes → Writes → Bool
shared_below zero p q = false
shared_below (suc n) p q = cond (both (is_write (p n)) (is_write (q n))) true (shared_below n p q)

-- Registers have numbers below 64.
abbrev pub shared : Writes → Writes → Bool
shared p q = shared_below 64 p q

-- No register is written in both.
abbrev pub Apart : Writes → Writes → Type 0
Apart p q = (r : ℕ) → r < 64 → (p r ≡ None) ⊎ (q r ≡ None)

-- What a register reads as: its latest write so far, else the store's value.
abbrev pub value_or : Option ℕ → ℕ → ℕ
value_or (Some v) d = v
value_or None d = d

abbrev pub reading : List ℕ → Writes → ℕ → ℕ
reading values so_far r = value_or (so_far r) (slice_index values r)

-- The registers below n that are written, as a number: the bit of value 2 to the rth stands for register r.
unfoldable pub mask_below : ℕ → Writes → ℕ
mask_below zero w = 0
mask_below (suc n) w = cond (is_write (w n)) (mask_below n w + 2 ^ n) (mask_below n w)

-- All the written registers, as a number of 64 bits.
abbrev pub mask : Writes → ℕ
mask w = mask_below 64 w

-- The registers' values, from register r on, when the writes have been made.
abbrev pub after_from : ℕ → Writes → List ℕ → List ℕ
after_from r w [] = []
after_from r w (v ∷ vs) = value_or (w r) v ∷ after_from (r + 1) w vs

-- The values of all registers, when the writes have been made.
abbrev pub after : Writes → List ℕ → List ℕ
after w values = after_from 0 w values
