-- What the answer for a faulty program depends on: the bytes up to the fault.
use Rattle.std.proofs.Common.{◌≡◌, ℕ, ◌+◌, ◌<◌, ◌≤◌, min, Bool, true, false, cond, ltb, List, ◌++◌, length, take, drop, Ok, Err, Result, sym, refl, ap, ◌∙◌, subst, arith, length-append, length-take, ltb-false, ltb-true, le-ltb}
use Rattle.std.proofs.lemmas.List.{take-append-drop, take-take, take_all, length-take-le}
use Rattle.terms.specs.declared.refusal.Refusal.TheVariants.{Length}
use Rattle.terms.specs.declared.refusal.Fault.{Fault}
use Rattle.program.specs.declared.examine.Counts.{Counts}
use Rattle.tree.specs.Reading.{fault}
use Rattle.program.specs.Verdict.{records_of, verdict}
use Rattle.checker.proofs.Prefix.{Beyond, Late, Beside, stays, fails, past}
use Rattle.checker.proofs.PrefixProgram.{records_beyond, records_beside, nothing, as_is}

-- A program of no more bytes than it may have is judged by its records.
by_records : (s : List ℕ) → length s ≤ 16384 → verdict s ≡ records_of (length s) s
by_records s few = rw (le-ltb 16384 (length s) few)

err_err : (f g : Fault) → ◌≡◌ {A = Result Counts Fault} (Err f) (Err g) → f ≡ g
err_err f g h = cc

ok_err : (c : Counts) (f : Fault) → ◌≡◌ {A = Result Counts Fault} (Ok c) (Err f) → ⊥
ok_err c f h = let z : ◌≡◌ {A = ℕ} 0 1 = cc in omega arith

pub inside : (s : List ℕ) (f : Fault) → verdict s ≡ Err f → f.place ≤ length s
inside s f h = go (ltb 16384 (length s)) refl h
  where
    go : (b : Bool) → ltb 16384 (length s) ≡ b → cond b (Err (fault Length 0)) (records_of (length s) s) ≡ Err f → f.place ≤ length s
    go true e h = let is : f ≡ fault Length 0 = sym (err_err (fault Length 0) f h) in rw is (omega arith)
    go false e h = (subst (Beyond nothing (length s) s) h (records_beyond (length s) s)).1

-- The common beginning u of two programs decides a fault that lies four bytes before its end.
same_fault : (u v v' : List ℕ) (f : Fault) → f.place + 4 ≤ length u →
    records_of (length u + length v) (u ++ v) ≡ Err f → records_of (length u + length v') (u ++ v') ≡ Err f
same_fault u v v' f near h = go (records_beside (length u) v u)
  where
    other : records_of (length u) u ≡ Err f →
        Beside (length u) (length u + length v') nothing as_is (records_of (length u) u) (records_of (length u + length v') (u ++ v')) →
        records_of (length u + length v') (u ++ v') ≡ Err f
    other e (stays c e₀ e₁) = absurd (ok_err c f (sym e₀ ∙ e))
    other e (fails g e₀ e₁) = e₁ ∙ ap Err (err_err g f (sym e₀ ∙ e))
    other e (past l₀ l) = let late : length u < f.place + 4 = subst (Late (length u) nothing (length u)) e l₀ in absurd (omega arith)

    go : Beside (length u) (length u + length v) nothing as_is (records_of (length u) u) (records_of (length u + length v) (u ++ v)) →
        records_of (length u + length v') (u ++ v') ≡ Err f
    go (stays c e₀ e₁) = absurd (ok_err c f (sym e₁ ∙ h))
    go (fails g e₀ e₁) = other (e₀ ∙ ap Err (err_err g f (sym e₁ ∙ h))) (records_beside (length u) v' u)
    go (past l₀ l) =
        let late : length u < f.place + 4 = subst (Late (length u) nothing (length u + length v)) h l in absurd (omega arith)

-- A program that ends within the four bytes at its fault is the whole of what begins like it.
whole : (n : ℕ) (s t : List ℕ) → length s < n → take n t ≡ take n s → t ≡ s
whole n s t short same =
    let all : take n s ≡ s = take_all n s (omega arith) in
    let long : min n (length t) ≡ length s = sym (length-take n t) ∙ ap length (same ∙ all) in
    sym (take_all n t (omega arith)) ∙ same ∙ all

pub decided : (s t : List ℕ) (f : Fault) → length s ≤ 16384 → length t ≤ 16384 → take (f.place + 4) t ≡ take (f.place + 4) s →
    verdict s ≡ Err f → verdict t ≡ Err f
decided s t f few-s few-t same h = go (ltb (length s) (f.place + 4)) refl
  where
    n : ℕ
    n = f.place + 4

    go : (b : Bool) → ltb (length s) (f.place + 4) ≡ b → verdict t ≡ Err f
    go true e = ap verdict (whole (f.place + 4) s t (ltb-true (length s) (f.place + 4) e) same) ∙ h
    go false e =
        let enough : f.place + 4 ≤ length s = ltb-false (length s) (f.place + 4) e in
        let u : List ℕ = take (f.place + 4) s in
        let long : length u ≡ f.place + 4 = length-take-le (f.place + 4) s enough in
        let s-is : u ++ drop (f.place + 4) s ≡ s = take-append-drop (f.place + 4) s in
        let t-is : u ++ drop (f.place + 4) t ≡ t =
        ap (λ (x : List ℕ). x ++ drop (f.place + 4) t) (sym same) ∙ take-append-drop (f.place + 4) t in
        let s-long : length u + length (drop (f.place + 4) s) ≡ length s = sym (length-append u (drop (f.place + 4) s)) ∙ ap length s-is in
        let t-long : length u + length (drop (f.place + 4) t) ≡ length t = sym (length-append u (drop (f.place + 4) t)) ∙ ap length t-is in
        let first : records_of (length u + length (drop (f.place + 4) s)) (u ++ drop (f.place + 4) s) ≡ Err f =
        rw (s-long, s-is) (sym (by_records s few-s) ∙ h) in
        let then = same_fault u (drop (f.place + 4) s) (drop (f.place + 4) t) f (omega arith) first in
        by_records t few-t ∙ rw (t-long, t-is) at then

pub clear_before : (s t : List ℕ) (f g : Fault) → length s ≤ 16384 → length t ≤ 16384 → take f.place t ≡ take f.place s →
    verdict s ≡ Err f → verdict t ≡ Err g → f.place < g.place + 4
clear_before s t f g few-s few-t same h k = go (ltb f.place (g.place + 4)) refl
  where
    go : (b : Bool) → ltb f.place (g.place + 4) ≡ b → f.place < g.place + 4
    go true e = ltb-true f.place (g.place + 4) e
    go false e =
        let before : g.place + 4 ≤ f.place = ltb-false f.place (g.place + 4) e in
        let alike : take (g.place + 4) s ≡ take (g.place + 4) t =
        sym (take-take (g.place + 4) f.place s before) ∙ ap (λ (x : List ℕ). take (g.place + 4) x) (sym same)
        ∙ take-take (g.place + 4) f.place t before in
        let is : g ≡ f = err_err g f (sym (decided t s g few-t few-s alike k) ∙ h) in
        let at : g.place ≡ f.place = ap (λ (x : Fault). x.place) is in
        absurd (omega arith)
