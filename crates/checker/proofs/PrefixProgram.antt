-- Reading a whole program, beside reading only its first bytes.
use Rattle.std.proofs.Common.{◌≡◌, ℕ, zero, suc, ◌+◌, Bool, true, false, cond, eqb, ◌⊎◌, List, [], ◌∷◌, ◌++◌, length, Ok, Err, Result, refl, ap, inl, inr, arith}
use mathlib.Core.Path.{fun_ext}
use Rattle.terms.specs.declared.refusal.Refusal.TheVariants.{Missing, Order}
use Rattle.terms.specs.declared.refusal.Fault.{Fault}
use Rattle.program.specs.declared.examine.Counts.{Counts}
use Rattle.terms.specs.declared.kind.Kind.{Kind}
use Rattle.tree.specs.Reading.{Read, fault, and_then, place}
use Rattle.program.specs.Verdict.{Opening, marked, opening_of, on_register, on_rule, on_entry, register_of, rule_of, entry_of, registers, rules, entries, ended, records_of}
use Rattle.checker.proofs.Prefix.{Beyond, Beside, stays, fails, past, beyond_then, late_on, then_beside, left, longer, behind, further, place_same}
use Rattle.checker.proofs.PrefixRow.{of_register, of_rule, of_entry, of_none, mark_of, row, row_beyond, row_beside}
use Rattle.checker.proofs.PrefixRecords.{register_beyond, entry_beyond, rule_beyond, register_beside, entry_beside, rule_beside}

regroup : {A B C : Type 0} (r : Result A Fault) (g : A → B) (h : A → Result C Fault) (k : B → Result C Fault) → ((y : A) → h y ≡ k (g y)) →
    and_then r h ≡ and_then (and_then r (λ y. Ok (g y))) k
regroup (Ok y) g h k e = e y
regroup (Err f) g h k e = refl

-- The three rows of records, each as such a row.
abbrev register_step : ℕ → List Kind → List ℕ → Read (List Kind)
register_step end kinds f = and_then (register_of end f) (λ k. Ok (kinds ++ (k.0 ∷ []), k.1))

abbrev rule_step : List Kind → ℕ → ℕ → List ℕ → Read ℕ
rule_step kinds end count f = and_then (rule_of end kinds f) (λ l. Ok (count + 1, l))

abbrev entry_step : ℕ → ℕ → ℕ → List ℕ → Read ℕ
entry_step rules end count f = and_then (entry_of end rules f) (λ l. Ok (count + 1, l))

registers_row : (n end : ℕ) (kinds : List Kind) (s : List ℕ) → registers n end kinds s ≡ row on_register false register_step n end kinds s
unfolding registers row
registers_row zero end kinds s = refl
registers_row (suc n) end kinds s =
    ap (λ (F : List ℕ → Read (List Kind)). on_register (opening_of s) F (Ok (kinds, s)))
    (fun_ext (λ f. regroup (register_of end f) (λ k. (kinds ++ (k.0 ∷ []), k.1)) _ _
    (λ k. registers_row n end (kinds ++ (k.0 ∷ [])) k.1)))

rules_row : (kinds : List Kind) (n end count : ℕ) (s : List ℕ) →
    rules n end kinds count s ≡ row on_rule (eqb (length kinds) 0) (rule_step kinds) n end count s
unfolding rules row
rules_row kinds zero end count s = refl
rules_row kinds (suc n) end count s =
    ap (λ (F : List ℕ → Read ℕ). on_rule (opening_of s) F (Ok (count, s)))
    (fun_ext (λ f. ap (λ (r : Read ℕ). cond (eqb (length kinds) 0) (Err (fault Order (place end s))) r)
    (regroup (rule_of end kinds f) (λ l. (count + 1, l)) _ _ (λ l. rules_row kinds n end (count + 1) l))))

entries_row : (u n end count : ℕ) (s : List ℕ) →
    entries n end u count s ≡ row on_entry (eqb u 0) (entry_step u) n end count s
unfolding entries row
entries_row u zero end count s = refl
entries_row u (suc n) end count s =
    ap (λ (F : List ℕ → Read ℕ). on_entry (opening_of s) F (Ok (count, s)))
    (fun_ext (λ f. ap (λ (r : Read ℕ). cond (eqb u 0) (Err (fault Order (place end s))) r)
    (regroup (entry_of end u f) (λ l. (count + 1, l)) _ _ (λ l. entries_row u n end (count + 1) l))))

-- Whether a row's mark is seen in two bytes does not depend on what is behind them.
abbrev Sees : {S : Type 0} → (Opening → (List ℕ → Read S) → Read S → Read S) → Type 0
Sees {S} on =
    (b c : ℕ) → ((s : List ℕ) (f : List ℕ → Read S) (r : Read S) → on (marked b c s) f r ≡ f s)
    ⊎ ((s : List ℕ) (f : List ℕ → Read S) (r : Read S) → on (marked b c s) f r ≡ r)

sees_register : Sees {S = List Kind} on_register
sees_register b c =
    elim (mark_of b c) [
      | of_register e ↦ inl (λ s f r. rw (e s))
      | of_rule e ↦ inr (λ s f r. rw (e s))
      | of_entry e ↦ inr (λ s f r. rw (e s))
      | of_none e ↦ inr (λ s f r. rw (e s))
    ]

sees_rule : Sees {S = ℕ} on_rule
sees_rule b c =
    elim (mark_of b c) [
      | of_register e ↦ inr (λ s f r. rw (e s))
      | of_rule e ↦ inl (λ s f r. rw (e s))
      | of_entry e ↦ inr (λ s f r. rw (e s))
      | of_none e ↦ inr (λ s f r. rw (e s))
    ]

sees_entry : Sees {S = ℕ} on_entry
sees_entry b c =
    elim (mark_of b c) [
      | of_register e ↦ inr (λ s f r. rw (e s))
      | of_rule e ↦ inr (λ s f r. rw (e s))
      | of_entry e ↦ inl (λ s f r. rw (e s))
      | of_none e ↦ inr (λ s f r. rw (e s))
    ]

-- What each row reads lies beyond where it begins.
register_step_beyond : (end : ℕ) (kinds : List Kind) (s : List ℕ) → Beyond behind end s (register_step end kinds s)
register_step_beyond end kinds s = beyond_then behind behind end s (register_of end s) _ (register_beyond end s) (λ k. omega arith)

rule_step_beyond : (kinds : List Kind) (end count : ℕ) (s : List ℕ) → Beyond behind end s (rule_step kinds end count s)
rule_step_beyond kinds end count s = beyond_then left behind end s (rule_of end kinds s) _ (rule_beyond end kinds s) (λ l. omega arith)

entry_step_beyond : (u end count : ℕ) (s : List ℕ) → Beyond behind end s (entry_step u end count s)
entry_step_beyond u end count s = beyond_then left behind end s (entry_of end u s) _ (entry_beyond end u s) (λ l. omega arith)

rules_beyond : (kinds : List Kind) (n end count : ℕ) (s : List ℕ) → Beyond behind end s (rules n end kinds count s)
rules_beyond kinds n end count s =
    rw (rules_row kinds n end count s)
    (row_beyond on_rule (eqb (length kinds) 0) (rule_step kinds) sees_rule (λ f r. refl) (rule_step_beyond kinds) n end count s)

entries_beyond : (u n end count : ℕ) (s : List ℕ) → Beyond behind end s (entries n end u count s)
entries_beyond u n end count s =
    rw (entries_row u n end count s)
    (row_beyond on_entry (eqb u 0) (entry_step u) sees_entry (λ f r. refl) (entry_step_beyond u) n end count s)

-- A result that leaves nothing to read.
abbrev pub nothing : {A : Type 0} → A → List ℕ
nothing x = []

abbrev pub as_is : {A : Type 0} → A → A
as_is x = x

ended_beyond : (end n : ℕ) (s : List ℕ) → Beyond nothing end s (ended end n s)
ended_beyond end n [] = go (eqb n 0)
  where
    go : (b : Bool) → Beyond {A = Unit {0}} nothing end [] (cond b (Err (fault Missing end)) (Ok tt))
    go true = omega arith
    go false = omega arith
ended_beyond end n (b ∷ []) = omega arith
ended_beyond end n (b ∷ (c ∷ s)) = omega arith

-- A program from its end backwards: behind its entries, behind its rules, behind its registers.
abbrev behind_entries : ℕ → List Kind × List ℕ → ℕ × List ℕ → ℕ × List ℕ → Result Counts Fault
behind_entries end g u e =
    and_then (ended end e.0 e.1) (λ z. Ok (record { registers = length g.0; rules = u.0; entries = e.0 }))

abbrev behind_rules : ℕ → List Kind × List ℕ → ℕ × List ℕ → Result Counts Fault
behind_rules end g u = and_then (entries 64 end u.0 0 u.1) (behind_entries end g u)

abbrev behind_registers : ℕ → List Kind × List ℕ → Result Counts Fault
behind_registers end g = and_then (rules 32 end g.0 0 g.1) (behind_rules end g)

entries_end_beyond : (end : ℕ) (g : List Kind × List ℕ) (u e : ℕ × List ℕ) → Beyond nothing end e.1 (behind_entries end g u e)
entries_end_beyond end g u e = beyond_then nothing nothing end e.1 (ended end e.0 e.1) _ (ended_beyond end e.0 e.1) (λ z. omega arith)

rules_end_beyond : (end : ℕ) (g : List Kind × List ℕ) (u : ℕ × List ℕ) → Beyond nothing end u.1 (behind_rules end g u)
rules_end_beyond end g u =
    beyond_then behind nothing end u.1 (entries 64 end u.0 0 u.1) (behind_entries end g u) (entries_beyond u.0 64 end 0 u.1)
    (entries_end_beyond end g u)

registers_end_beyond : (end : ℕ) (g : List Kind × List ℕ) → Beyond nothing end g.1 (behind_registers end g)
registers_end_beyond end g =
    beyond_then behind nothing end g.1 (rules 32 end g.0 0 g.1) (behind_rules end g) (rules_beyond g.0 32 end 0 g.1)
    (rules_end_beyond end g)

module _ (a : ℕ) (v : List ℕ) where
  abbrev end : ℕ
  end = a + length v

  registers_beside : (n : ℕ) (kinds : List Kind) (w : List ℕ) →
      Beside a end behind (further v) (registers n a kinds w) (registers n end kinds (w ++ v))
  registers_beside n kinds w =
      rw (registers_row n a kinds w, registers_row n end kinds (w ++ v))
      (row_beside on_register false register_step sees_register (λ f r. refl) register_step_beyond a v
      (λ x w. then_beside a end behind (further v) behind (further v) (register_of a w) (register_of end (w ++ v)) _ _
      (register_beside a v w) (λ k. stays (x ++ (k.0 ∷ []), k.1) refl refl) (λ k. omega arith) (λ k. omega arith))
      n kinds w)

  rules_beside : (kinds : List Kind) (n count : ℕ) (w : List ℕ) →
      Beside a end behind (further v) (rules n a kinds count w) (rules n end kinds count (w ++ v))
  rules_beside kinds n count w =
      rw (rules_row kinds n a count w, rules_row kinds n end count (w ++ v))
      (row_beside on_rule (eqb (length kinds) 0) (rule_step kinds) sees_rule (λ f r. refl) (rule_step_beyond kinds) a v
      (λ x w. then_beside a end left (longer v) behind (further v) (rule_of a kinds w) (rule_of end kinds (w ++ v)) _ _
      (rule_beside a v kinds w) (λ l. stays (x + 1, l) refl refl) (λ l. omega arith) (λ l. omega arith))
      n count w)

  entries_beside : (u n count : ℕ) (w : List ℕ) →
      Beside a end behind (further v) (entries n a u count w) (entries n end u count (w ++ v))
  entries_beside u n count w =
      rw (entries_row u n a count w, entries_row u n end count (w ++ v))
      (row_beside on_entry (eqb u 0) (entry_step u) sees_entry (λ f r. refl) (entry_step_beyond u) a v
      (λ x w. then_beside a end left (longer v) behind (further v) (entry_of a u w) (entry_of end u (w ++ v)) _ _
      (entry_beside a v u w) (λ l. stays (x + 1, l) refl refl) (λ l. omega arith) (λ l. omega arith))
      n count w)

  ended_beside : (n : ℕ) (w : List ℕ) → Beside a end nothing as_is (ended a n w) (ended end n (w ++ v))
  ended_beside n [] =
      past (late_on left nothing a a [] (ended a n []) (omega arith) (ended_beyond a n []))
      (late_on left nothing a end v (ended end n v) (omega arith) (ended_beyond end n v))
  ended_beside n (b ∷ []) =
      past (omega arith) (late_on left nothing a end (b ∷ v) (ended end n (b ∷ v)) (omega arith) (ended_beyond end n (b ∷ v)))
  ended_beside n (b ∷ (c ∷ w)) =
      fails (fault Order (place a (b ∷ (c ∷ w)))) refl (ap (λ (p : ℕ). Err (fault Order p)) (place_same a v (b ∷ (c ∷ w))))

  entries_end_beside : (g : List Kind × List ℕ) (u e : ℕ × List ℕ) →
      Beside a end nothing as_is (behind_entries a g u e) (behind_entries end (further v g) (further v u) (further v e))
  entries_end_beside g u e =
      then_beside a end nothing as_is nothing as_is (ended a e.0 e.1) (ended end e.0 (e.1 ++ v)) _ _ (ended_beside e.0 e.1)
      (λ z. stays (record { registers = length g.0; rules = u.0; entries = e.0 }) refl refl) (λ z. omega arith) (λ z. omega arith)

  rules_end_beside : (g : List Kind × List ℕ) (u : ℕ × List ℕ) →
      Beside a end nothing as_is (behind_rules a g u) (behind_rules end (further v g) (further v u))
  rules_end_beside g u =
      then_beside a end behind (further v) nothing as_is (entries 64 a u.0 0 u.1) (entries 64 end u.0 0 (u.1 ++ v))
      (behind_entries a g u) (behind_entries end (further v g) (further v u)) (entries_beside u.0 64 0 u.1)
      (entries_end_beside g u) (entries_end_beyond a g u) (entries_end_beyond end (further v g) (further v u))

  registers_end_beside : (g : List Kind × List ℕ) →
      Beside a end nothing as_is (behind_registers a g) (behind_registers end (further v g))
  registers_end_beside g =
      then_beside a end behind (further v) nothing as_is (rules 32 a g.0 0 g.1) (rules 32 end g.0 0 (g.1 ++ v))
      (behind_rules a g) (behind_rules end (further v g)) (rules_beside g.0 32 0 g.1)
      (rules_end_beside g) (rules_end_beyond a g) (rules_end_beyond end (further v g))

  pub records_beside : (w : List ℕ) → Beside a end nothing as_is (records_of a w) (records_of end (w ++ v))
  records_beside w =
      then_beside a end behind (further v) nothing as_is (registers 64 a [] w) (registers 64 end [] (w ++ v))
      (behind_registers a) (behind_registers end) (registers_beside 64 [] w)
      registers_end_beside (registers_end_beyond a) (registers_end_beyond end)

registers_beyond : (n end : ℕ) (kinds : List Kind) (s : List ℕ) → Beyond behind end s (registers n end kinds s)
registers_beyond n end kinds s =
    rw (registers_row n end kinds s)
    (row_beyond on_register false register_step sees_register (λ f r. refl) register_step_beyond n end kinds s)

pub records_beyond : (end : ℕ) (s : List ℕ) → Beyond nothing end s (records_of end s)
records_beyond end s =
    beyond_then behind nothing end s (registers 64 end [] s) (behind_registers end) (registers_beyond 64 end [] s) (registers_end_beyond end)
