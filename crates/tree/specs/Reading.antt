-- How a rule's body is read, byte by byte: what is left of it after each part, or the first fault.
use Rattle.std.specs.Prelude.{ℕ, zero, suc, ◌-◌, Bool, true, cond, List, [], ◌∷◌, ◌++◌, length, Some, None, Ok, Err, Option, Result, ◌==◌, nat_lt, slice_index_or}
use Rattle.terms.specs.declared.refusal.Refusal.{Refusal}
use Rattle.terms.specs.declared.refusal.Refusal.TheVariants.{Sort, Name, Nesting, Fill}
use Rattle.terms.specs.declared.refusal.Fault.{Fault}
use Rattle.terms.specs.declared.kind.Kind.{Kind}
use Rattle.terms.specs.declared.kind.Kind.TheVariants.{Truth, Word}
use Rattle.terms.specs.declared.kind.Operator.{Operator}
use Rattle.terms.specs.declared.node.ValueNode.{ValueNode}
use Rattle.terms.specs.declared.node.ActionNode.{ActionNode}
pub use Rattle.terms.specs.Refusals.{fault}
pub use Rattle.terms.specs.Inputs.{place}
use Rattle.terms.specs.Inputs.{four_of}
use Rattle.terms.specs.Kinds.{kind_of, same, operator_of, operand_kind, value_kind}
use Rattle.terms.specs.Nodes.{value_node, action_node}

-- One reading after another: the first fault ends it.
abbrev pub and_then : {A B : Type 0} → Result A Fault → (A → Result B Fault) → Result B Fault
and_then (Ok x) f = f x
and_then (Err e) f = Err e

-- What an option holds, or the fault where it holds nothing.
abbrev pub or_fault : {A : Type 0} → Fault → Option A → Result A Fault
or_fault e (Some x) = Ok x
or_fault e None = Err e

-- What a reader answers: what it read, and the bytes that are left.
abbrev pub Read : Type 0 → Type 0
Read A = Result (A × List ℕ) Fault

-- The same of a reader that answers only whether all is well.
abbrev pub Passed : Type 0
Passed = Result (List ℕ) Fault

-- What stays the same while a body is read: the place behind its last byte, the kinds of the registers, and what is refused
-- where it ends too early.
pub record Body : Type 0 where
  pub end : ℕ
  pub kinds : List Kind
  pub short : Refusal

-- One byte of a text that ends at `end`, where q is refused if the byte is missing.
abbrev pub next : ℕ → Refusal → List ℕ → Read ℕ
next end q [] = Err (fault q end)
next end q (b ∷ s) = Ok (b, s)

-- A number of four bytes, the highest first.
abbrev pub four_at : ℕ → Refusal → List ℕ → Read ℕ
four_at end q s = or_fault (fault q end) (four_of s)

-- A byte that stands for something, where f says what each byte stands for, if for anything.
abbrev pub coded : {A : Type 0} → ℕ → Refusal → (ℕ → Option A) → List ℕ → Read A
coded end q f s =
    and_then (next end q s) (λ b. and_then (or_fault (fault Sort (place end s)) (f b.0)) (λ x. Ok (x, b.1)))

-- One byte of a body.
abbrev pub byte_of : Body → List ℕ → Read ℕ
byte_of t s = next t.end t.short s

-- Four bytes, whatever they are.
abbrev pub word_of : Body → List ℕ → Passed
word_of t s =
    and_then (byte_of t s) (λ a. and_then (byte_of t a.1) (λ b. and_then (byte_of t b.1) (λ c.
    and_then (byte_of t c.1) (λ d. Ok d.1))))

-- A truth: a byte 0 or 1.
abbrev pub truth_of : Body → List ℕ → Passed
truth_of t s = and_then (byte_of t s) (λ b. cond (nat_lt b.0 2) (Ok b.1) (Err (fault Sort (place t.end s))))

-- A type.
abbrev pub kind_at : Body → List ℕ → Read Kind
kind_at t s = coded t.end t.short kind_of s

-- A byte that stands for what may give the kind that is wanted: f says what each byte stands for, and fit whether that may.
abbrev pub giving : {A : Type 0} → Body → (ℕ → Option A) → (Kind → A → Bool) → Kind → List ℕ → Read A
giving t f fit want s =
    and_then (byte_of t s) (λ b. and_then (or_fault (fault Sort (place t.end s)) (f b.0)) (λ x.
    cond (fit want x) (Ok (x, b.1)) (Err (fault Sort (place t.end s)))))

-- An operator that gives what is wanted.
abbrev pub operator_at : Body → Kind → List ℕ → Read Operator
operator_at t want s = giving t operator_of (λ k o. same (value_kind o) k) want s

-- A number that names one of the things of these kinds: its kind.
abbrev pub named_of : Body → List Kind → List ℕ → Read Kind
named_of t kinds s =
    and_then (byte_of t s) (λ b.
    cond (nat_lt b.0 (length kinds)) (Ok (slice_index_or kinds b.0 Truth, b.1)) (Err (fault Name (place t.end s))))

-- The same, where the thing named has to be of the kind that is wanted.
abbrev pub wanted_of : Body → List Kind → Kind → List ℕ → Passed
wanted_of t kinds want s =
    and_then (named_of t kinds s) (λ k. cond (same k.0 want) (Ok k.1) (Err (fault Name (place t.end s))))

-- The nodes 02 and 03 give a word and a truth; what another gives depends on its parts.
abbrev pub suits : Kind → ValueNode → Bool
suits want ValueNode.Register = true
suits want ValueNode.Word = same want Word
suits want ValueNode.Truth = same want Truth
suits want ValueNode.Variable = true
suits want ValueNode.Operator = true
suits want ValueNode.Choice = true
suits want ValueNode.Guard = true
suits want ValueNode.Let = true

-- The byte of a node that may give what is wanted.
abbrev pub value_at : Body → Kind → List ℕ → Read ValueNode
value_at t want s = giving t value_node suits want s

-- The byte of a node that gives writes.
abbrev pub action_at : Body → List ℕ → Read ActionNode
action_at t s = coded t.end t.short action_node s

-- A reader of expressions: how many lets may still be nested, what the lets around have bound, what is wanted, the bytes.
abbrev pub Values : Type 0
Values = ℕ → List Kind → Kind → List ℕ → Passed

-- A reader of actions: how many lets, and how many of the nodes 13 and 17, may still be nested, what is bound, the bytes.
abbrev pub Actions : Type 0
Actions = ℕ → ℕ → List Kind → List ℕ → Passed

-- What is read behind a node's byte, where `from` begins at the node and s behind its byte.
abbrev pub value_parts : Body → Values → ℕ → List Kind → Kind → List ℕ → ValueNode → List ℕ → Passed
value_parts t value lets scope want from ValueNode.Register s = wanted_of t t.kinds want s
value_parts t value lets scope want from ValueNode.Word s = word_of t s
value_parts t value lets scope want from ValueNode.Truth s = truth_of t s
value_parts t value lets scope want from ValueNode.Variable s = wanted_of t scope want s
value_parts t value lets scope want from ValueNode.Operator s =
    and_then (operator_at t want s) (λ o.
    and_then (value lets scope (operand_kind o.0) o.1) (λ l. value lets scope (operand_kind o.0) l))
value_parts t value lets scope want from ValueNode.Choice s =
    and_then (value lets scope Truth s) (λ c. and_then (value lets scope want c) (λ l. value lets scope want l))
value_parts t value lets scope want from ValueNode.Guard s =
    and_then (value lets scope want s) (λ l. value lets scope Truth l)
value_parts t value lets scope want from ValueNode.Let s =
    cond (lets == 0) (Err (fault Nesting (place t.end from)))
    (and_then (kind_at t s) (λ k. and_then (value (lets - 1) scope k.0 k.1) (λ l.
    value (lets - 1) (scope ++ (k.0 ∷ [])) want l)))

-- The same of an action's node.
abbrev pub action_parts : Body → Values → Actions → ℕ → ℕ → List Kind → List ℕ → ActionNode → List ℕ → Passed
action_parts t value act lets forks scope from ActionNode.Assign s =
    and_then (named_of t t.kinds s) (λ k. value lets scope k.0 k.1)
action_parts t value act lets forks scope from ActionNode.If s =
    and_then (value lets scope Truth s) (λ l. act lets forks scope l)
action_parts t value act lets forks scope from ActionNode.Parallel s =
    cond (forks == 0) (Err (fault Nesting (place t.end from)))
    (and_then (act lets (forks - 1) scope s) (λ l. act lets (forks - 1) scope l))
action_parts t value act lets forks scope from ActionNode.Sequence s =
    and_then (act lets forks scope s) (λ l. act lets forks scope l)
action_parts t value act lets forks scope from ActionNode.When s =
    and_then (act lets forks scope s) (λ l. value lets scope Truth l)
action_parts t value act lets forks scope from ActionNode.Let s =
    cond (lets == 0) (Err (fault Nesting (place t.end from)))
    (and_then (kind_at t s) (λ k. and_then (value (lets - 1) scope k.0 k.1) (λ l.
    act (lets - 1) forks (scope ++ (k.0 ∷ [])) l)))
action_parts t value act lets forks scope from ActionNode.Local s =
    cond (forks == 0) (Err (fault Nesting (place t.end from))) (act lets (forks - 1) scope s)

-- An expression that may be d nodes deep.
unfoldable pub expression : ℕ → Body → Values
expression zero t lets scope want s =
    and_then (value_at t want s) (λ n. Err (fault Nesting (place t.end s)))
expression (suc d) t lets scope want s =
    and_then (value_at t want s) (λ n. value_parts t (expression d t) lets scope want s n.0 n.1)

-- An action that may be d nodes deep.
unfoldable pub action : ℕ → Body → Actions
action zero t lets forks scope s =
    and_then (action_at t s) (λ n. Err (fault Nesting (place t.end s)))
action (suc d) t lets forks scope s =
    and_then (action_at t s) (λ n. action_parts t (expression d t) (action d t) lets forks scope s n.0 n.1)

-- Nothing may be left of a body behind its tree.
abbrev pub filled : Body → List ℕ → Result (Unit {0}) Fault
filled t [] = Ok tt
filled t (b ∷ s) = Err (fault Fill (place t.end (b ∷ s)))

-- A body: one action that fills it. Depth 24, eight lets and eight of the nodes 13 and 17 are the limits.
abbrev pub tree : Body → List ℕ → Result (Unit {0}) Fault
tree t s = and_then (action 24 t 8 8 [] s) (filled t)
