-- What an expression, an action and a rule give. This is the meaning of a manual's rules.
use Rattle.std.specs.Prelude.{ℕ, ◌+◌, ◌-◌, ◌%◌, ◌^◌, Bool, true, false, cond, List, [], ◌∷◌, ◌++◌, ◌==◌, bit_and, bit_or, bit_xor, nat_lt, slice_index_or}
use Rattle.program.specs.Tree.{Expr, Fetch, Constant, Variable, Operate, Choose, Guard, Let, Action, Assign, If, Parallel, Sequence, When, LetIn, Local}
use Rattle.outcome.specs.Writes.{Writes, no_writes, one_write, over, shared, reading}

-- A part gives something, or is not ready.
pub data Given (A : Type 0) : Type 0 where
  ready : A → Given A
  not_ready : Given A

-- A part that is not ready makes its node not ready.
abbrev pub and_ready : {A B : Type 0} → Given A → (A → Given B) → Given B
and_ready (ready x) f = f x
and_ready not_ready f = not_ready

-- The second where the truth is 1, and the third where it is 0.
abbrev pub where_true : {A : Type 0} → ℕ → A → A → A
where_true t x y = cond (t == 0) y x

abbrev pub truth_of : Bool → ℕ
truth_of true = 1
truth_of false = 0

-- Both and either count any number but 0 as 1.
abbrev pub both_hold : ℕ → ℕ → ℕ
both_hold x y = where_true x (where_true y 1 0) 0

abbrev pub either_holds : ℕ → ℕ → ℕ
either_holds x y = where_true x 1 (where_true y 1 0)

-- The value of an operator. A sum and a difference are taken modulo 2 to the 32nd.
abbrev pub operated : ℕ → ℕ → ℕ → ℕ
operated o x y =
    cond (o == 0) ((x + y) % 2 ^ 32) (cond (o == 1) ((x + 2 ^ 32 - y) % 2 ^ 32)
    (cond (o == 2) (bit_and x y) (cond (o == 3) (bit_or x y) (cond (o == 4) (bit_xor x y)
    (cond (o == 5) (truth_of (nat_lt x y)) (cond (o == 6) (truth_of (x == y))
    (cond (o == 7) (both_hold x y) (either_holds x y))))))))

-- What the lets around have bound, by number.
abbrev pub Bindings : Type 0
Bindings = List (Given ℕ)

-- The value of an expression on the store's values, the writes so far and the bindings.
abbrev pub value : List ℕ → Writes → Bindings → Expr → Given ℕ
value store so_far bound (Fetch r) = ready (reading store so_far r)
value store so_far bound (Constant k n) = ready n
value store so_far bound (Variable t) = slice_index_or bound t not_ready
value store so_far bound (Operate o a b) =
    and_ready (value store so_far bound a) (λ x. and_ready (value store so_far bound b) (λ y. ready (operated o x y)))
value store so_far bound (Choose c a b) =
    and_ready (value store so_far bound c) (λ t. where_true t (value store so_far bound a) (value store so_far bound b))
value store so_far bound (Guard a c) =
    and_ready (value store so_far bound c) (λ t. where_true t (value store so_far bound a) not_ready)
value store so_far bound (Let k a b) = value store so_far (bound ++ (value store so_far bound a ∷ [])) b

-- Both branches' writes, where no register is written in both.
abbrev pub joined : Writes → Writes → Given Writes
joined p q = cond (shared p q) not_ready (ready (over q p))

-- An action's writes where it is ready, and else none.
abbrev pub or_none : Given Writes → Given Writes
or_none (ready p) = ready p
or_none not_ready = ready no_writes

-- The writes that an action gives of its own.
abbrev pub writes : List ℕ → Writes → Bindings → Action → Given Writes
writes store so_far bound (Assign r e) = and_ready (value store so_far bound e) (λ v. ready (one_write r v))
writes store so_far bound (If c a) =
    and_ready (value store so_far bound c) (λ t. where_true t (writes store so_far bound a) (ready no_writes))
writes store so_far bound (Parallel a b) =
    and_ready (writes store so_far bound a) (λ p. and_ready (writes store so_far bound b) (λ q. joined p q))
writes store so_far bound (Sequence a b) =
    and_ready (writes store so_far bound a) (λ p. and_ready (writes store (over p so_far) bound b) (λ q. ready (over q p)))
writes store so_far bound (When a c) =
    and_ready (value store so_far bound c) (λ t. where_true t (writes store so_far bound a) not_ready)
writes store so_far bound (LetIn k e a) = writes store so_far (bound ++ (value store so_far bound e ∷ [])) a
writes store so_far bound (Local a) = or_none (writes store so_far bound a)

-- The outcome of a rule on the store's values: its writes, of which there may be none, or that it is not ready.
abbrev pub outcome : List ℕ → Action → Given Writes
outcome store a = writes store no_writes [] a
