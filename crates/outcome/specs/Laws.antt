-- What the meaning of rules comes to: worked cases, and laws that rule out other readings.
use Rattle.std.specs.Prelude.{◌≡◌, ℕ, ◌<◌, List, [], ◌∷◌, None, ◌≢◌}
use Rattle.terms.specs.declared.kind.Kind.TheVariants.{Truth, Word}
use Rattle.program.specs.Tree.{Expr, Fetch, Constant, Variable, Operate, Guard, Action, Assign, If, Parallel, Sequence, When, LetIn, Local}
use Rattle.outcome.specs.Writes.{Writes, no_writes, over, reading}
use Rattle.outcome.specs.Outcome.{Given, ready, not_ready, and_ready, Bindings, value, writes, outcome}
use Rattle.outcome.specs.Rules.{Gives, Does}

-- By the operational rules every expression and every action has exactly one result, and the definition gives it.
pub record RulesAgree : Type 0 where
  pub value_given : (store : List ℕ) (so_far : Writes) (bound : Bindings) (e : Expr) → Gives store so_far bound e (value store so_far bound e)
  pub value_only : (store : List ℕ) (so_far : Writes) (bound : Bindings) (e : Expr) (r : Given ℕ) → Gives store so_far bound e r →
      r ≡ value store so_far bound e
  pub writes_given : (store : List ℕ) (so_far : Writes) (bound : Bindings) (a : Action) → Does store so_far bound a (writes store so_far bound a)
  pub writes_only : (store : List ℕ) (so_far : Writes) (bound : Bindings) (a : Action) (w : Given Writes) → Does store so_far bound a w →
      w ≡ writes store so_far bound a

-- In the cases the registers are x, number 0, a word that holds 3, and y, number 1, a word that holds 5.
abbrev pub x_and_y : List ℕ
x_and_y = 3 ∷ (5 ∷ [])

abbrev pub x : Expr
x = Fetch 0

abbrev pub y : Expr
y = Fetch 1

abbrev pub word : ℕ → Expr
word n = Constant Word n

abbrev pub truth : ℕ → Expr
truth n = Constant Truth n

-- What x and y hold when the rule has been carried out, where it is ready.
abbrev pub x_y_after : Action → Given (List ℕ)
x_y_after a = and_ready (outcome x_and_y a) (λ w. ready (reading x_and_y w 0 ∷ (reading x_and_y w 1 ∷ [])))

pub record WorkedCases : Type 0 where
  -- x := y beside y := x
  pub parallel_swap : x_y_after (Parallel (Assign 0 y) (Assign 1 x)) ≡ ready (5 ∷ (3 ∷ []))
  -- x := y, then y := x
  pub sequence_swap : x_y_after (Sequence (Assign 0 y) (Assign 1 x)) ≡ ready (5 ∷ (5 ∷ []))
  -- x := 1 beside x := 1
  pub double_write : outcome x_and_y (Parallel (Assign 0 (word 1)) (Assign 0 (word 1))) ≡ not_ready
  -- x := 1, then (x := x + 1 beside y := x)
  pub mixed : x_y_after (Sequence (Assign 0 (word 1)) (Parallel (Assign 0 (Operate 0 x (word 1))) (Assign 1 x))) ≡ ready (2 ∷ (1 ∷ []))
  -- a local guard around (x := 1 when 0)
  pub local_guard : outcome x_and_y (Local (When (Assign 0 (word 1)) (truth 0))) ≡ ready no_writes
  -- x := 9 beside a local guard around (x := 1 beside x := 2)
  pub local_double_write :
      x_y_after (Parallel (Assign 0 (word 9)) (Local (Parallel (Assign 0 (word 1)) (Assign 0 (word 2))))) ≡ ready (9 ∷ (5 ∷ []))
  -- if (1 when 0) then x := 1
  pub if_waits : outcome x_and_y (If (Guard (truth 1) (truth 0)) (Assign 0 (word 1))) ≡ not_ready
  -- let t = (1 when 0) in y := 2
  pub unused_binding : x_y_after (LetIn Word (Guard (word 1) (truth 0)) (Assign 1 (word 2))) ≡ ready (3 ∷ (2 ∷ []))
  -- let t = (1 when 0) in y := t
  pub used_binding : outcome x_and_y (LetIn Word (Guard (word 1) (truth 0)) (Assign 1 (Variable 0))) ≡ not_ready
  -- x := 0 - 1
  pub below_zero : x_y_after (Assign 0 (Operate 1 (word 0) (word 1))) ≡ ready (4294967295 ∷ (5 ∷ []))

-- A register that both branches of a parallel action write makes it not ready, whatever the values are.
abbrev pub NoDoubleWrite : Type 0
NoDoubleWrite =
    (store : List ℕ) (so_far : Writes) (bound : Bindings) (a b : Action) (p q : Writes) (r : ℕ) →
    writes store so_far bound a ≡ ready p → writes store so_far bound b ≡ ready q → r < 64 → (p r ≢ None) → (q r ≢ None) →
    writes store so_far bound (Parallel a b) ≡ not_ready

-- The branches of a ready parallel action give what each gives alone: neither sees the other's writes.
abbrev pub BranchesAlone : Type 0
BranchesAlone =
    (store : List ℕ) (so_far : Writes) (bound : Bindings) (a b : Action) (w : Writes) → writes store so_far bound (Parallel a b) ≡ ready w →
    (p : Writes) × (q : Writes) × (writes store so_far bound a ≡ ready p) × (writes store so_far bound b ≡ ready q) × (w ≡ over q p)

-- A guard that fails keeps nothing that was written before it.
abbrev pub FailureKeepsNothing : Type 0
FailureKeepsNothing =
    (store : List ℕ) (so_far : Writes) (bound : Bindings) (a b : Action) (c : Expr) (p : Writes) →
    writes store so_far bound a ≡ ready p → value store (over p so_far) bound c ≡ ready 0 →
    (writes store so_far bound (Sequence a (When b c)) ≡ not_ready) × (writes store so_far bound (Local (Sequence a (When b c))) ≡ ready no_writes)

-- Two results are the same: both not ready, or both ready with the same write for each register.
abbrev pub SameWrites : Given Writes → Given Writes → Type 0
SameWrites (ready p) (ready q) = (r : ℕ) → r < 64 → p r ≡ q r
SameWrites (ready p) not_ready = ⊥
SameWrites not_ready (ready q) = ⊥
SameWrites not_ready not_ready = Unit {0}

-- Exchanging the branches of a parallel action changes nothing.
abbrev pub BranchesExchange : Type 0
BranchesExchange =
    (store : List ℕ) (so_far : Writes) (bound : Bindings) (a b : Action) →
    SameWrites (writes store so_far bound (Parallel a b)) (writes store so_far bound (Parallel b a))
