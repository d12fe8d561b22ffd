-- The operational rules: which value or writes a node gives, by rules from what its parts give. A node whose part is not ready is
-- not ready itself, except where a rule says otherwise.
use Rattle.std.specs.Prelude.{ℕ, ◌<◌, List, [], ◌∷◌, ◌++◌, None, ◌≢◌, slice_index_or}
use Rattle.terms.specs.declared.kind.Kind.{Kind}
use Rattle.program.specs.Tree.{Expr, Fetch, Constant, Variable, Operate, Choose, Guard, Let, Action, Assign, If, Parallel, Sequence, When, LetIn, Local}
use Rattle.outcome.specs.Writes.{Writes, no_writes, one_write, over, Apart, reading}
use Rattle.outcome.specs.Outcome.{Given, ready, not_ready, Bindings, operated}

-- On these values of the store, with these writes so far and these bindings, the expression gives this.
pub data Gives (store : List ℕ) (so_far : Writes) : Bindings → Expr → Given ℕ → Type 0 where
  -- a register: its latest write so far, else the store's value
  register_read : {bound : Bindings} (r : ℕ) → Gives store so_far bound (Fetch r) (ready (reading store so_far r))
  constant : {bound : Bindings} (k : Kind) (n : ℕ) → Gives store so_far bound (Constant k n) (ready n)
  -- a variable: what its let has bound, which may be not ready
  variable : {bound : Bindings} (t : ℕ) → Gives store so_far bound (Variable t) (slice_index_or bound t not_ready)
  operator : {bound : Bindings} (o : ℕ) {a b : Expr} {x y : ℕ} → Gives store so_far bound a (ready x) → Gives store so_far bound b (ready y) →
      Gives store so_far bound (Operate o a b) (ready (operated o x y))
  operator_left_waits : {bound : Bindings} (o : ℕ) {a : Expr} (b : Expr) → Gives store so_far bound a not_ready →
      Gives store so_far bound (Operate o a b) not_ready
  operator_right_waits : {bound : Bindings} (o : ℕ) (a : Expr) {b : Expr} → Gives store so_far bound b not_ready →
      Gives store so_far bound (Operate o a b) not_ready
  -- a choice: the other part is not looked at
  choice_true : {bound : Bindings} {c a : Expr} (b : Expr) {t : ℕ} {r : Given ℕ} → Gives store so_far bound c (ready t) → (t ≢ 0) →
      Gives store so_far bound a r → Gives store so_far bound (Choose c a b) r
  choice_false : {bound : Bindings} {c : Expr} (a : Expr) {b : Expr} {r : Given ℕ} → Gives store so_far bound c (ready 0) →
      Gives store so_far bound b r → Gives store so_far bound (Choose c a b) r
  choice_waits : {bound : Bindings} {c : Expr} (a b : Expr) → Gives store so_far bound c not_ready →
      Gives store so_far bound (Choose c a b) not_ready
  guard_true : {bound : Bindings} {a c : Expr} {t : ℕ} {r : Given ℕ} → Gives store so_far bound c (ready t) → (t ≢ 0) →
      Gives store so_far bound a r → Gives store so_far bound (Guard a c) r
  guard_false : {bound : Bindings} (a : Expr) {c : Expr} → Gives store so_far bound c (ready 0) →
      Gives store so_far bound (Guard a c) not_ready
  guard_waits : {bound : Bindings} (a : Expr) {c : Expr} → Gives store so_far bound c not_ready →
      Gives store so_far bound (Guard a c) not_ready
  -- a let: what is bound may be not ready, which does no harm until it is used
  let_bound : {bound : Bindings} (k : Kind) {a b : Expr} {x r : Given ℕ} → Gives store so_far bound a x →
      Gives store so_far (bound ++ (x ∷ [])) b r → Gives store so_far bound (Let k a b) r

-- The same of an action, which gives writes of its own.
pub data Does (store : List ℕ) : Writes → Bindings → Action → Given Writes → Type 0 where
  register_update : {so_far : Writes} {bound : Bindings} (r : ℕ) {e : Expr} {v : ℕ} → Gives store so_far bound e (ready v) →
      Does store so_far bound (Assign r e) (ready (one_write r v))
  update_waits : {so_far : Writes} {bound : Bindings} (r : ℕ) {e : Expr} → Gives store so_far bound e not_ready →
      Does store so_far bound (Assign r e) not_ready
  if_true : {so_far : Writes} {bound : Bindings} {c : Expr} {a : Action} {t : ℕ} {w : Given Writes} → Gives store so_far bound c (ready t) →
      (t ≢ 0) → Does store so_far bound a w → Does store so_far bound (If c a) w
  if_false : {so_far : Writes} {bound : Bindings} {c : Expr} (a : Action) → Gives store so_far bound c (ready 0) →
      Does store so_far bound (If c a) (ready no_writes)
  if_waits : {so_far : Writes} {bound : Bindings} {c : Expr} (a : Action) → Gives store so_far bound c not_ready →
      Does store so_far bound (If c a) not_ready
  when_true : {so_far : Writes} {bound : Bindings} {a : Action} {c : Expr} {t : ℕ} {w : Given Writes} → Gives store so_far bound c (ready t) →
      (t ≢ 0) → Does store so_far bound a w → Does store so_far bound (When a c) w
  when_false : {so_far : Writes} {bound : Bindings} (a : Action) {c : Expr} → Gives store so_far bound c (ready 0) →
      Does store so_far bound (When a c) not_ready
  when_waits : {so_far : Writes} {bound : Bindings} (a : Action) {c : Expr} → Gives store so_far bound c not_ready →
      Does store so_far bound (When a c) not_ready
  -- two actions side by side: both see the same writes so far, and no register may be written in both
  parallel : {so_far : Writes} {bound : Bindings} {a b : Action} {p q : Writes} → Does store so_far bound a (ready p) →
      Does store so_far bound b (ready q) → Apart p q → Does store so_far bound (Parallel a b) (ready (over q p))
  parallel_twice : {so_far : Writes} {bound : Bindings} {a b : Action} {p q : Writes} → Does store so_far bound a (ready p) →
      Does store so_far bound b (ready q) → (r : ℕ) → r < 64 → (p r ≢ None) → (q r ≢ None) →
      Does store so_far bound (Parallel a b) not_ready
  parallel_left_waits : {so_far : Writes} {bound : Bindings} {a : Action} (b : Action) → Does store so_far bound a not_ready →
      Does store so_far bound (Parallel a b) not_ready
  parallel_right_waits : {so_far : Writes} {bound : Bindings} (a : Action) {b : Action} → Does store so_far bound b not_ready →
      Does store so_far bound (Parallel a b) not_ready
  -- one action after the other: the second sees the first's writes, and its writes stand over them
  sequence : {so_far : Writes} {bound : Bindings} {a b : Action} {p q : Writes} → Does store so_far bound a (ready p) →
      Does store (over p so_far) bound b (ready q) → Does store so_far bound (Sequence a b) (ready (over q p))
  sequence_first_waits : {so_far : Writes} {bound : Bindings} {a : Action} (b : Action) → Does store so_far bound a not_ready →
      Does store so_far bound (Sequence a b) not_ready
  sequence_second_waits : {so_far : Writes} {bound : Bindings} {a b : Action} {p : Writes} → Does store so_far bound a (ready p) →
      Does store (over p so_far) bound b not_ready → Does store so_far bound (Sequence a b) not_ready
  let_action : {so_far : Writes} {bound : Bindings} (k : Kind) {e : Expr} {a : Action} {x : Given ℕ} {w : Given Writes} →
      Gives store so_far bound e x → Does store so_far (bound ++ (x ∷ [])) a w → Does store so_far bound (LetIn k e a) w
  local_ready : {so_far : Writes} {bound : Bindings} {a : Action} {p : Writes} → Does store so_far bound a (ready p) →
      Does store so_far bound (Local a) (ready p)
  local_waits : {so_far : Writes} {bound : Bindings} {a : Action} → Does store so_far bound a not_ready →
      Does store so_far bound (Local a) (ready no_writes)
