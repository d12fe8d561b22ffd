-- Which programs are well formed: every name names something, every part has the kind that is wanted there, and all is within the limits.
use Rattle.std.specs.Prelude.{◌≡◌, ℕ, ◌+◌, ◌^◌, ◌<◌, ◌≤◌, max, true, List, [], ◌∷◌, ◌++◌, map, length, slice_index_or}
use Rattle.terms.specs.declared.kind.Kind.{Kind}
use Rattle.terms.specs.declared.kind.Kind.TheVariants.{Truth}
use Rattle.terms.specs.Kinds.{fits, takes, gives}
use Rattle.program.specs.Tree.{Expr, Fetch, Constant, Variable, Operate, Choose, Guard, Let, Action, Assign, If, Parallel, Sequence, When, LetIn, Local, Register, Entry, Program}
use Rattle.program.specs.Encoding.{encode}

-- The number names one of these things, and that has the kind.
abbrev pub Names : List Kind → ℕ → Kind → Type 0
Names kinds n k = (n < length kinds) × (slice_index_or kinds n Truth ≡ k)

-- The expression gives values of the kind `want`, where the registers have these kinds and the lets in whose last part it lies
-- have bound the kinds of `scope`, the outermost first.
abbrev pub Typed : List Kind → List Kind → Kind → Expr → Type 0
Typed registers scope want (Fetch r) = Names registers r want
Typed registers scope want (Constant k n) = (k ≡ want) × (fits k n ≡ true)
Typed registers scope want (Variable t) = Names scope t want
Typed registers scope want (Operate o a b) =
    (o < 9) × (gives o ≡ want) × Typed registers scope (takes o) a × Typed registers scope (takes o) b
Typed registers scope want (Choose c a b) =
    Typed registers scope Truth c × Typed registers scope want a × Typed registers scope want b
Typed registers scope want (Guard a c) = Typed registers scope want a × Typed registers scope Truth c
Typed registers scope want (Let k a b) = Typed registers scope k a × Typed registers (scope ++ (k ∷ [])) want b

-- The action is well typed: each part has the kind that is wanted there, and what is assigned has the register's kind.
abbrev pub WellTyped : List Kind → List Kind → Action → Type 0
WellTyped registers scope (Assign r e) = (r < length registers) × Typed registers scope (slice_index_or registers r Truth) e
WellTyped registers scope (If c a) = Typed registers scope Truth c × WellTyped registers scope a
WellTyped registers scope (Parallel a b) = WellTyped registers scope a × WellTyped registers scope b
WellTyped registers scope (Sequence a b) = WellTyped registers scope a × WellTyped registers scope b
WellTyped registers scope (When a c) = WellTyped registers scope a × Typed registers scope Truth c
WellTyped registers scope (LetIn k e a) = Typed registers scope k e × WellTyped registers (scope ++ (k ∷ [])) a
WellTyped registers scope (Local a) = WellTyped registers scope a

-- How many nodes lie on the longest way into a tree.
abbrev pub deep : Expr → ℕ
deep (Fetch r) = 1
deep (Constant k n) = 1
deep (Variable t) = 1
deep (Operate o a b) = 1 + max (deep a) (deep b)
deep (Choose c a b) = 1 + max (deep c) (max (deep a) (deep b))
deep (Guard a c) = 1 + max (deep a) (deep c)
deep (Let k a b) = 1 + max (deep a) (deep b)

abbrev pub depth : Action → ℕ
depth (Assign r e) = 1 + deep e
depth (If c a) = 1 + max (deep c) (depth a)
depth (Parallel a b) = 1 + max (depth a) (depth b)
depth (Sequence a b) = 1 + max (depth a) (depth b)
depth (When a c) = 1 + max (depth a) (deep c)
depth (LetIn k e a) = 1 + max (deep e) (depth a)
depth (Local a) = 1 + depth a

-- The most lets that lie on a way into a tree.
abbrev pub lets : Expr → ℕ
lets (Fetch r) = 0
lets (Constant k n) = 0
lets (Variable t) = 0
lets (Operate o a b) = max (lets a) (lets b)
lets (Choose c a b) = max (lets c) (max (lets a) (lets b))
lets (Guard a c) = max (lets a) (lets c)
lets (Let k a b) = 1 + max (lets a) (lets b)

abbrev pub lets_in : Action → ℕ
lets_in (Assign r e) = lets e
lets_in (If c a) = max (lets c) (lets_in a)
lets_in (Parallel a b) = max (lets_in a) (lets_in b)
lets_in (Sequence a b) = max (lets_in a) (lets_in b)
lets_in (When a c) = max (lets_in a) (lets c)
lets_in (LetIn k e a) = 1 + max (lets e) (lets_in a)
lets_in (Local a) = lets_in a

-- The most parallel actions and local guards that lie on a way into a tree.
abbrev pub forks : Action → ℕ
forks (Assign r e) = 0
forks (If c a) = forks a
forks (Parallel a b) = 1 + max (forks a) (forks b)
forks (Sequence a b) = max (forks a) (forks b)
forks (When a c) = forks a
forks (LetIn k e a) = forks a
forks (Local a) = 1 + forks a

-- P holds of each element.
abbrev pub All : {A : Type 0} → (A → Type 0) → List A → Type 0
All P [] = Unit {0}
All P (x ∷ xs) = P x × All P xs

-- A count of records that a program may have.
abbrev pub SomeUpTo : ℕ → {A : Type 0} → List A → Type 0
SomeUpTo most xs = (1 ≤ length xs) × (length xs ≤ most)

-- The kinds of the registers, by number.
abbrev pub kinds_of : List Register → List Kind
kinds_of = map (λ (r : Register). r.kind)

-- A register begins with a value of its kind.
abbrev pub GoodRegister : Register → Type 0
GoodRegister r = fits r.kind r.initial ≡ true

-- A rule is well typed and within the nesting limits.
pub record GoodRule (kinds : List Kind) (a : Action) : Type 0 where
  pub well_typed : WellTyped kinds [] a
  pub depth_within : depth a ≤ 24
  pub lets_within : lets_in a ≤ 8
  pub forks_within : forks a ≤ 8

-- An entry's rule and blockers are there.
abbrev pub GoodEntry : ℕ → Entry → Type 0
GoodEntry n e = (e.rule < n) × (e.blockers < 2 ^ n)

-- A program is well formed: at least one record of each sort and not too many, each of them good, and not too many bytes in all.
pub record WellFormed (p : Program) : Type 0 where
  pub some_registers : SomeUpTo 64 p.registers
  pub some_rules : SomeUpTo 32 p.rules
  pub some_entries : SomeUpTo 64 p.entries
  pub good_registers : All GoodRegister p.registers
  pub good_rules : All (GoodRule (kinds_of p.registers)) p.rules
  pub good_entries : All (GoodEntry (length p.rules)) p.entries
  pub size : length (encode p) ≤ 16384
