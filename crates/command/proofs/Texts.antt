-- What is at the front of a text, and what the definitions make of it.
use Rattle.std.proofs.Common.{◌≡◌, ℕ, ◌+◌, ◌*◌, ◌≤◌, ◌⊎◌, inl, inr, Bool, true, false, cond, List, [], ◌∷◌, ◌++◌, length, drop, Ok, Err, Result, refl, sym, ap, ◌∙◌, append_assoc, arith, length-drop}
use Rattle.std.specs.Prelude.{take_while, not}
use Rattle.std.proofs.lemmas.List.Sums.{take_while-cons}
use Rattle.command.specs.declared.mistake.Mistake.{Mistake}
use Rattle.command.specs.declared.mistake.Mistake.TheVariants.{LoneDigit}
use Rattle.command.specs.Steps.{mapped, and_then}
use Rattle.command.specs.Words.{white, stripped, word_length}
use Rattle.command.specs.Digits.{digit_of, second_of, pair_of, bytes_of}

-- The definitions that go byte by byte, by the library's words.
stripped_by : (b : ℕ) (s : List ℕ) (w : Bool) → white b ≡ w → drop (length (take_while white s)) s ≡ stripped s →
    drop (length (take_while white (b ∷ s))) (b ∷ s) ≡ stripped (b ∷ s)
stripped_by b s true e rest = rw (take_while-cons white b s, e) rest
stripped_by b s false e rest = rw (take_while-cons white b s, e)

pub stripped_is : (s : List ℕ) → drop (length (take_while white s)) s ≡ stripped s
stripped_is [] = refl
stripped_is (b ∷ s) = stripped_by b s (white b) refl (stripped_is s)

word_by : (b : ℕ) (s : List ℕ) (w : Bool) → white b ≡ w → length (take_while (λ b. not (white b)) s) ≡ word_length s →
    length (take_while (λ b. not (white b)) (b ∷ s)) ≡ word_length (b ∷ s)
word_by b s true e rest = rw (take_while-cons (λ b. not (white b)) b s, e)
word_by b s false e rest = rw (take_while-cons (λ b. not (white b)) b s, e, rest) (omega arith)

pub word_length_is : (s : List ℕ) → length (take_while (λ b. not (white b)) s) ≡ word_length s
word_length_is [] = refl
word_length_is (b ∷ s) = word_by b s (white b) refl (word_length_is s)

-- A first byte of white space goes, and any other stays with all that is behind it.
abbrev Front : ℕ → List ℕ → Type 0
Front b s = ((white b ≡ true) × (stripped (b ∷ s) ≡ stripped s)) ⊎ ((white b ≡ false) × (stripped (b ∷ s) ≡ b ∷ s))

front_by : (b : ℕ) (s : List ℕ) (w : Bool) → white b ≡ w → Front b s
front_by b s true e = inl (e, rw e)
front_by b s false e = inr (e, rw e)

front : (b : ℕ) (s : List ℕ) → Front b s
front b s = front_by b s (white b) refl

pub stripped_twice : (s : List ℕ) → stripped (stripped s) ≡ stripped s
stripped_twice [] = refl
stripped_twice (b ∷ s) =
    elim (front b s) [ inl p ↦ ap stripped p.1 ∙ stripped_twice s ∙ sym p.1 | inr p ↦ ap stripped p.1 ]

bytes_white : (b : ℕ) (s : List ℕ) → white b ≡ true → bytes_of (b ∷ s) ≡ bytes_of s
bytes_white b [] w = rw w
bytes_white b (c ∷ s) w = rw w

-- White space at the front stands for no bytes.
pub bytes_stripped : (s : List ℕ) → bytes_of (stripped s) ≡ bytes_of s
bytes_stripped [] = refl
bytes_stripped (b ∷ s) =
    elim (front b s) [ inl p ↦ ap bytes_of p.1 ∙ bytes_stripped s ∙ sym (bytes_white b s p.0) | inr p ↦ ap bytes_of p.1 ]

-- A byte before those that the rest of a text stands for.
abbrev pub put : ℕ × List ℕ → Result (List ℕ) Mistake
put p = mapped (λ bytes. p.0 ∷ bytes) (bytes_of p.1)

lone : (d : Result ℕ Mistake) → and_then d (λ h. Err LoneDigit) ≡ and_then (and_then d (λ h. second_of h [])) put
lone (Ok h) = refl
lone (Err e) = refl

both : (d e : Result ℕ Mistake) (w : Bool) (s : List ℕ) →
    let pairs : Result (ℕ × List ℕ) Mistake = and_then d (λ h. cond w (Err LoneDigit) (mapped (λ l. (h * 16 + l, s)) e)) in
    and_then pairs (λ p. mapped (λ bytes. p.0 ∷ bytes) (bytes_of s)) ≡ and_then pairs put
both (Ok h) (Ok l) true s = refl
both (Ok h) (Err x) true s = refl
both (Ok h) (Ok l) false s = refl
both (Ok h) (Err x) false s = refl
both (Err x) e w s = refl

bytes_word : (b : ℕ) (s : List ℕ) → white b ≡ false → bytes_of (b ∷ s) ≡ and_then (pair_of (b ∷ s)) put
bytes_word b [] w = rw w (lone (digit_of b))
bytes_word b (c ∷ s) w = rw w (both (digit_of b) (digit_of c) (white c) s)

-- What is stripped is no longer than the text.
pub stripped_within : (s : List ℕ) → length (stripped s) ≤ length s
stripped_within s = omega (arith, ap length (stripped_is s), length-drop (length (take_while white s)) s)

-- The bytes of a text that does not begin with white space.
bytes_pair : (s : List ℕ) → stripped s ≡ s → 1 ≤ length s → bytes_of s ≡ and_then (pair_of s) put
bytes_pair [] h l = absurd (omega arith)
bytes_pair (b ∷ s) h l =
    elim (front b s) [ inl p ↦ absurd (omega (arith, ap length (sym p.1 ∙ h), stripped_within s)) | inr p ↦ bytes_word b s p.0 ]

-- One byte more, at the end of those so far.
pushed : (xs : List ℕ) (y : ℕ) (r : Result (List ℕ) Mistake) →
    mapped (λ more. (xs ++ (y ∷ [])) ++ more) r ≡ mapped (λ more. xs ++ more) (mapped (λ bytes. y ∷ bytes) r)
pushed xs y (Ok ys) = ap Ok (append_assoc xs (y ∷ []) ys)
pushed xs y (Err e) = refl

-- The bytes so far, with those of the rest, are the whole; and the rest does not begin with white space.
pub record SoFar (bytes rest : List ℕ) (whole : Result (List ℕ) Mistake) : Type 0 where
  pub joined : mapped (λ more. bytes ++ more) (bytes_of rest) ≡ whole
  pub no_margin : stripped rest ≡ rest

joined_none : (r : Result (List ℕ) Mistake) → mapped (λ more. [] ++ more) r ≡ r
joined_none (Ok xs) = refl
joined_none (Err e) = refl

pub so_far_none : (text : List ℕ) → SoFar [] (stripped text) (bytes_of text)
so_far_none text = record { joined = joined_none (bytes_of (stripped text)) ∙ bytes_stripped text; no_margin = stripped_twice text }

-- A pair is at the front of the rest, or a mistake.
so_far_pair : (bytes rest : List ℕ) (whole : Result (List ℕ) Mistake) →
    SoFar bytes rest whole → 1 ≤ length rest → mapped (λ more. bytes ++ more) (and_then (pair_of rest) put) ≡ whole
so_far_pair bytes rest whole h l = ap (mapped (λ more. bytes ++ more)) (sym (bytes_pair rest h.no_margin l)) ∙ h.joined

pub so_far_more : (bytes rest : List ℕ) (whole : Result (List ℕ) Mistake) (byte : ℕ) (behind : List ℕ) →
    SoFar bytes rest whole → 1 ≤ length rest → Ok (byte, behind) ≡ pair_of rest → SoFar (bytes ++ (byte ∷ [])) (stripped behind) whole
so_far_more bytes rest whole byte behind h l e = record {
  joined =
      ap (mapped (λ more. (bytes ++ (byte ∷ [])) ++ more)) (bytes_stripped behind) ∙ pushed bytes byte (bytes_of behind)
      ∙ ap (λ r. mapped (λ more. bytes ++ more) (and_then r put)) e ∙ so_far_pair bytes rest whole h l;
  no_margin = stripped_twice behind;
}

pub so_far_mistaken : (bytes rest : List ℕ) (whole : Result (List ℕ) Mistake) (m : Mistake) →
    SoFar bytes rest whole → 1 ≤ length rest → Err m ≡ pair_of rest → Err m ≡ whole
so_far_mistaken bytes rest whole m h l e =
    ap (λ r. mapped (λ more. bytes ++ more) (and_then r put)) e ∙ so_far_pair bytes rest whole h l
