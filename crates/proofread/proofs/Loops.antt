-- The definitions over registers and rules, unfolded once, as the loops meet them.
use Rattle.std.proofs.Common.{◌≡◌, ℕ, zero, suc, ◌+◌, ◌-◌, ◌<◌, ◌≤◌, cond, List, [], ◌∷◌, length, get_or, drop, Some, None, refl, arith}
use Rattle.terms.specs.Kinds.{fits}
use Rattle.program.specs.Decoding.{and_some, register_of}
use Rattle.parts.specs.Parts.{body_of}
use Rattle.proofread.specs.Steps.{no_more, fitting, body_at}

pub fitting_next : (vs : List ℕ) (i : ℕ) (s : List ℕ) → i < length vs →
    fitting (drop i vs) s
    ≡ and_some (register_of s) (λ r. cond (fits r.0.kind (get_or vs i 0)) (fitting (drop (i + 1) vs) r.1) None)
fitting_next [] i s less = absurd (omega arith)
fitting_next (v ∷ vs) zero s less = refl
fitting_next (v ∷ vs) (suc i) s less = let e : suc i + 1 ≡ suc (i + 1) = omega arith in rw e (fitting_next vs i s (omega arith))

pub fitting_end : (vs : List ℕ) (i : ℕ) (s : List ℕ) → length vs ≤ i → fitting (drop i vs) s ≡ no_more (register_of s) s
fitting_end [] zero s less = refl
fitting_end [] (suc i) s less = refl
fitting_end (v ∷ vs) zero s less = absurd (omega arith)
fitting_end (v ∷ vs) (suc i) s less = fitting_end vs i s (omega arith)

pub body_next : (n i : ℕ) (s : List ℕ) → i < n → body_at (n - i) s ≡ and_some (body_of s) (λ b. body_at (n - (i + 1)) b.1)
unfolding body_at
body_next n i s less = let e : n - i ≡ suc (n - (i + 1)) = omega arith in rw e

pub body_here : (n i : ℕ) (s : List ℕ) → n ≤ i → body_at (n - i) s ≡ and_some (body_of s) (λ b. Some b.0)
unfolding body_at
body_here n i s less = let e : n - i ≡ 0 = omega arith in rw e
