-- Reading a row of records, beside reading only its first bytes.
use Rattle.std.proofs.Common.{◌≡◌, ℕ, zero, suc, ◌+◌, ◌<◌, ◌≤◌, Bool, true, false, cond, eqb, ◌⊎◌, List, [], ◌∷◌, ◌++◌, length, Ok, Err, refl, ap, inl, inr, arith, length-append}
use Rattle.terms.specs.declared.refusal.Refusal.TheVariants.{Order, Count}
use Rattle.tree.specs.Reading.{Read, fault, and_then, place}
use Rattle.program.specs.Verdict.{Opening, register, rule, entry, unknown, cut, marked, opening_of}
use Rattle.checker.proofs.Prefix.{Beyond, Beside, stays, fails, past, beyond_then, late_on, weaken, then_beside, left, behind, further, place_same}

-- What two bytes open, whatever is behind them.
pub data Mark (b c : ℕ) : Type 0 where
  of_register : ((s : List ℕ) → marked b c s ≡ register s) → Mark b c
  of_rule : ((s : List ℕ) → marked b c s ≡ rule s) → Mark b c
  of_entry : ((s : List ℕ) → marked b c s ≡ entry s) → Mark b c
  of_none : ((s : List ℕ) → marked b c s ≡ unknown) → Mark b c

pub mark_of : (b c : ℕ) → Mark b c
mark_of b c = go (eqb b 82) (eqb c 71) (eqb c 76) (eqb b 83) (eqb c 69) refl refl refl refl refl
  where
    go : (t1 t2 t3 t4 t5 : Bool) → eqb b 82 ≡ t1 → eqb c 71 ≡ t2 → eqb c 76 ≡ t3 → eqb b 83 ≡ t4 → eqb c 69 ≡ t5 → Mark b c
    go true true t3 t4 t5 e1 e2 e3 e4 e5 = of_register (λ s. rw (e1, e2))
    go true false true t4 t5 e1 e2 e3 e4 e5 = of_rule (λ s. rw (e1, e2, e3))
    go true false false t4 t5 e1 e2 e3 e4 e5 = of_none (λ s. rw (e1, e2, e3))
    go false t2 t3 true true e1 e2 e3 e4 e5 = of_entry (λ s. rw (e1, e4, e5))
    go false t2 t3 true false e1 e2 e3 e4 e5 = of_none (λ s. rw (e1, e4, e5))
    go false t2 t3 false t5 e1 e2 e3 e4 e5 = of_none (λ s. rw (e1, e4))

-- A row of records, of whichever sort: `on` follows its mark, which may be banned here, and `step` reads one record.
module _ {S : Type 0} (on : Opening → (List ℕ → Read S) → Read S → Read S) (banned : Bool) (step : ℕ → S → List ℕ → Read S) where
  abbrev pub banned_or : ℕ → List ℕ → Read S → Read S
  banned_or end s r = cond banned (Err (fault Order (place end s))) r

  unfoldable pub row : ℕ → ℕ → S → List ℕ → Read S
  row zero end x s = on (opening_of s) (λ f. banned_or end s (Err (fault Count (place end s)))) (Ok (x, s))
  row (suc n) end x s =
      on (opening_of s) (λ f. banned_or end s (and_then (step end x f) (λ y. row n end y.0 y.1))) (Ok (x, s))

  -- At any two bytes `on` sees its mark or does not, whatever is behind them; at less it does not.
  module _
      (sees : (b c : ℕ) → ((s : List ℕ) (f : List ℕ → Read S) (r : Read S) → on (marked b c s) f r ≡ f s)
      ⊎ ((s : List ℕ) (f : List ℕ → Read S) (r : Read S) → on (marked b c s) f r ≡ r))
      (sees-no-cut : (f : List ℕ → Read S) (r : Read S) → on cut f r ≡ r)
      (step-beyond : (end : ℕ) (x : S) (s : List ℕ) → Beyond behind end s (step end x s)) where
    banned_beyond : (end : ℕ) (s m : List ℕ) (t : Bool) (r : Read S) → length m ≤ length s → Beyond behind end m r →
        Beyond behind end s (cond t (Err (fault Order (place end s))) r)
    banned_beyond end s m true r le h = omega arith
    banned_beyond end s m false r le h = weaken left behind end s m r le h

    pub row_beyond : (n end : ℕ) (x : S) (s : List ℕ) → Beyond behind end s (row n end x s)
    unfolding row
    row_beyond zero end x [] = rw sees-no-cut (omega arith)
    row_beyond zero end x (b ∷ []) = rw sees-no-cut (omega arith)
    row_beyond zero end x (b ∷ (c ∷ s)) = go (sees b c)
      where
        go : ((s : List ℕ) (f : List ℕ → Read S) (r : Read S) → on (marked b c s) f r ≡ f s)
            ⊎ ((s : List ℕ) (f : List ℕ → Read S) (r : Read S) → on (marked b c s) f r ≡ r) →
            Beyond behind end (b ∷ (c ∷ s)) (row zero end x (b ∷ (c ∷ s)))
        go (inl e) = rw e (banned_beyond end (b ∷ (c ∷ s)) (b ∷ (c ∷ s)) banned _ (omega arith) (omega arith))
        go (inr e) = rw e (omega arith)
    row_beyond (suc n) end x [] = rw sees-no-cut (omega arith)
    row_beyond (suc n) end x (b ∷ []) = rw sees-no-cut (omega arith)
    row_beyond (suc n) end x (b ∷ (c ∷ s)) = go (row_beyond n end) (sees b c)
      where
        go : ((x : S) (s : List ℕ) → Beyond behind end s (row n end x s)) →
            ((s : List ℕ) (f : List ℕ → Read S) (r : Read S) → on (marked b c s) f r ≡ f s)
            ⊎ ((s : List ℕ) (f : List ℕ → Read S) (r : Read S) → on (marked b c s) f r ≡ r) →
            Beyond behind end (b ∷ (c ∷ s)) (row (suc n) end x (b ∷ (c ∷ s)))
        go inner (inl e) =
            rw e (banned_beyond end (b ∷ (c ∷ s)) s banned _ (omega arith)
            (beyond_then behind behind end s (step end x s) _ (step-beyond end x s) (λ y. inner y.0 y.1)))
        go inner (inr e) = rw e (omega arith)

    module _ (a : ℕ) (v : List ℕ)
        (step-beside : (x : S) (w : List ℕ) → Beside a (a + length v) behind (further v) (step a x w) (step (a + length v) x (w ++ v))) where
      -- Less than a mark is left of the first bytes.
      cut_row : (n : ℕ) (x : S) (w : List ℕ) → length w < 2 →
          Beside a (a + length v) behind (further v) (row n a x w) (row n (a + length v) x (w ++ v))
      cut_row n x w less =
          past (late_on left behind a a w (row n a x w) (omega arith) (row_beyond n a x w))
          (late_on left behind a (a + length v) (w ++ v) (row n (a + length v) x (w ++ v)) (simp length-append (omega arith))
          (row_beyond n (a + length v) x (w ++ v)))

      banned_beside : (w : List ℕ) (t : Bool) (r₀ r : Read S) → Beside a (a + length v) behind (further v) r₀ r →
          Beside a (a + length v) behind (further v)
          (cond t (Err (fault Order (place a w))) r₀) (cond t (Err (fault Order (place (a + length v) (w ++ v)))) r)
      banned_beside w true r₀ r h =
          fails (fault Order (place a w)) refl (ap (λ (p : ℕ). Err (fault Order p)) (place_same a v w))
      banned_beside w false r₀ r h = h

      pub row_beside : (n : ℕ) (x : S) (w : List ℕ) →
          Beside a (a + length v) behind (further v) (row n a x w) (row n (a + length v) x (w ++ v))
      unfolding row
      row_beside zero x [] = cut_row zero x [] (omega arith)
      row_beside zero x (b ∷ []) = cut_row zero x (b ∷ []) (omega arith)
      row_beside zero x (b ∷ (c ∷ w)) = go (sees b c)
        where
          go : ((s : List ℕ) (f : List ℕ → Read S) (r : Read S) → on (marked b c s) f r ≡ f s)
              ⊎ ((s : List ℕ) (f : List ℕ → Read S) (r : Read S) → on (marked b c s) f r ≡ r) →
              Beside a (a + length v) behind (further v) (row zero a x (b ∷ (c ∷ w))) (row zero (a + length v) x (b ∷ (c ∷ (w ++ v))))
          go (inl e) =
              rw (e w, e (w ++ v)) (banned_beside (b ∷ (c ∷ w)) banned _ _
              (fails (fault Count (place a (b ∷ (c ∷ w)))) refl (ap (λ (p : ℕ). Err (fault Count p)) (place_same a v (b ∷ (c ∷ w))))))
          go (inr e) = rw (e w, e (w ++ v)) (stays (x, b ∷ (c ∷ w)) refl refl)
      row_beside (suc n) x [] = cut_row (suc n) x [] (omega arith)
      row_beside (suc n) x (b ∷ []) = cut_row (suc n) x (b ∷ []) (omega arith)
      row_beside (suc n) x (b ∷ (c ∷ w)) = go (row_beside n) (sees b c)
        where
          go : ((x : S) (w : List ℕ) → Beside a (a + length v) behind (further v) (row n a x w) (row n (a + length v) x (w ++ v))) →
              ((s : List ℕ) (f : List ℕ → Read S) (r : Read S) → on (marked b c s) f r ≡ f s)
              ⊎ ((s : List ℕ) (f : List ℕ → Read S) (r : Read S) → on (marked b c s) f r ≡ r) →
              Beside a (a + length v) behind (further v) (row (suc n) a x (b ∷ (c ∷ w))) (row (suc n) (a + length v) x (b ∷ (c ∷ (w ++ v))))
          go inner (inl e) =
              rw (e w, e (w ++ v)) (banned_beside (b ∷ (c ∷ w)) banned _ _
              (then_beside a (a + length v) behind (further v) behind (further v) (step a x w) (step (a + length v) x (w ++ v)) _ _
              (step-beside x w) (λ y. inner y.0 y.1)
              (λ y. row_beyond n a y.0 y.1) (λ y. row_beyond n (a + length v) y.0 y.1)))
          go inner (inr e) = rw (e w, e (w ++ v)) (stays (x, b ∷ (c ∷ w)) refl refl)
