-- What accepted bytes decode to.
use Rattle.std.proofs.Common.{◌≡◌, ℕ, zero, suc, List, [], ◌∷◌, get_or, Ok, sym, ap, ◌∙◌, subst, arith, w8, Fits}
use Rattle.program.specs.declared.examine.Counts.{Counts}
use Rattle.program.specs.Tree.{Program}
use Rattle.program.specs.Decoding.{program_of}
use Rattle.program.specs.Verdict.{verdict}
use Rattle.checker.specs.Accepted.{Bytes, Encodes, counts}
use Rattle.checker.proofs.BackRows.{encoded}
use Rattle.checker.proofs.Decode.{decodes}

-- What the type of a slice says of its elements.
pub each : (s : List ℕ) → ((i : ℕ) → Fits w8 (get_or s i 0)) → Bytes s
each [] h = tt
each (b ∷ s) h = (omega (arith, h zero), each s (λ i. h (suc i)))

-- The program that accepted bytes encode is the one that they decode to.
pub decoded : (bytes : List ℕ) (c : Counts) → Bytes bytes → verdict bytes ≡ Ok c →
    Encodes bytes (program_of bytes) × (c ≡ counts (program_of bytes))
decoded bytes c all ok =
    let e = encoded bytes c all ok in
    let is : e.0 ≡ program_of bytes = sym (decodes e.0 e.1) ∙ ap program_of (sym e.2) in
    let P : Program → Type 0 = λ p. Encodes bytes p × (c ≡ counts p) in
    subst P is ((e.1, e.2), e.3)
