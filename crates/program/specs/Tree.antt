-- A manual's program as a tree: registers, rules and a schedule of entries.
use Rattle.std.specs.Prelude.{ℕ, List}
use Rattle.terms.specs.declared.kind.Kind.{Kind}

-- An expression gives a value or is not ready.
pub data Expr : Type 0 where
  -- what a register holds
  Fetch : ℕ → Expr
  -- a number
  Constant : Kind → ℕ → Expr
  -- what the let of this number has bound
  Variable : ℕ → Expr
  -- an operator of two values
  Operate : ℕ → Expr → Expr → Expr
  -- the second value where the first, a truth, is 1, and else the third
  Choose : Expr → Expr → Expr → Expr
  -- a value, where the truth behind it is 1
  Guard : Expr → Expr → Expr
  -- the last value, in which the first is bound
  Let : Kind → Expr → Expr → Expr

-- An action gives writes, at most one for each register, or is not ready.
pub data Action : Type 0 where
  -- a value into a register
  Assign : ℕ → Expr → Action
  -- an action where a truth is 1, and else no writes
  If : Expr → Action → Action
  -- two actions side by side
  Parallel : Action → Action → Action
  -- one action after the other
  Sequence : Action → Action → Action
  -- an action, where the truth behind it is 1
  When : Action → Expr → Action
  -- an action, in which a value is bound
  LetIn : Kind → Expr → Action → Action
  -- an action where it is ready, and else no writes
  Local : Action → Action

-- A register: its kind, and the value that it begins with.
pub record Register : Type 0 where
  pub kind : Kind
  pub initial : ℕ

-- An entry of the schedule: a rule, and a mask of the rules that block it, in which 2 ^ i stands for rule i.
pub record Entry : Type 0 where
  pub rule : ℕ
  pub blockers : ℕ

-- A program: its registers, its rules, and its schedule.
pub record Program : Type 0 where
  pub registers : List Register
  pub rules : List Action
  pub entries : List Entry
