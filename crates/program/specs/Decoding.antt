-- The program that bytes encode. It is said for all bytes, and means something for those that the check accepts.
use Rattle.std.specs.Prelude.{ℕ, zero, suc, List, [], ◌∷◌, Some, None, Option}
use Rattle.terms.specs.declared.kind.Kind.TheVariants.{Truth, Word}
use Rattle.terms.specs.declared.node.ValueNode.{ValueNode}
use Rattle.terms.specs.declared.node.ActionNode.{ActionNode}
pub use Rattle.terms.specs.Inputs.{Decoder, one}
use Rattle.terms.specs.Kinds.{kind_of}
use Rattle.terms.specs.Nodes.{value_node, action_node}
use Rattle.program.specs.Tree.{Expr, Fetch, Constant, Variable, Operate, Choose, Guard, Let, Action, Assign, If, Parallel, Sequence, When, LetIn, Local, Register, Entry, Program}
use Rattle.program.specs.Verdict.{opening_of, on_register, on_rule, on_entry, four_of}

-- One decoding after another.
abbrev pub and_some : {A B : Type 0} → Option A → (A → Option B) → Option B
and_some (Some x) f = f x
and_some None f = None

-- What is behind a node's byte, where `part` decodes its parts.
abbrev pub value_of : Decoder Expr → ValueNode → Decoder Expr
value_of part ValueNode.Register s = and_some (one s) (λ r. Some (Fetch r.0, r.1))
value_of part ValueNode.Word s = and_some (four_of s) (λ n. Some (Constant Word n.0, n.1))
value_of part ValueNode.Truth s = and_some (one s) (λ n. Some (Constant Truth n.0, n.1))
value_of part ValueNode.Variable s = and_some (one s) (λ t. Some (Variable t.0, t.1))
value_of part ValueNode.Operator s =
    and_some (one s) (λ o. and_some (part o.1) (λ a. and_some (part a.1) (λ b. Some (Operate o.0 a.0 b.0, b.1))))
value_of part ValueNode.Choice s =
    and_some (part s) (λ c. and_some (part c.1) (λ a. and_some (part a.1) (λ b. Some (Choose c.0 a.0 b.0, b.1))))
value_of part ValueNode.Guard s = and_some (part s) (λ a. and_some (part a.1) (λ c. Some (Guard a.0 c.0, c.1)))
value_of part ValueNode.Let s =
    and_some (one s) (λ y. and_some (kind_of y.0) (λ k. and_some (part y.1) (λ a. and_some (part a.1) (λ b.
    Some (Let k a.0 b.0, b.1)))))

-- An expression and an action of at most so many levels.
unfoldable pub expr_of : ℕ → Decoder Expr
expr_of zero s = None
expr_of (suc d) s = and_some (one s) (λ b. and_some (value_node b.0) (λ n. value_of (expr_of d) n b.1))

-- The same of an action's node.
abbrev pub act_of : Decoder Expr → Decoder Action → ActionNode → Decoder Action
act_of value part ActionNode.Assign s = and_some (one s) (λ r. and_some (value r.1) (λ e. Some (Assign r.0 e.0, e.1)))
act_of value part ActionNode.If s = and_some (value s) (λ c. and_some (part c.1) (λ a. Some (If c.0 a.0, a.1)))
act_of value part ActionNode.Parallel s = and_some (part s) (λ a. and_some (part a.1) (λ b. Some (Parallel a.0 b.0, b.1)))
act_of value part ActionNode.Sequence s = and_some (part s) (λ a. and_some (part a.1) (λ b. Some (Sequence a.0 b.0, b.1)))
act_of value part ActionNode.When s = and_some (part s) (λ a. and_some (value a.1) (λ c. Some (When a.0 c.0, c.1)))
act_of value part ActionNode.Let s =
    and_some (one s) (λ y. and_some (kind_of y.0) (λ k. and_some (value y.1) (λ e. and_some (part e.1) (λ a.
    Some (LetIn k e.0 a.0, a.1)))))
act_of value part ActionNode.Local s = and_some (part s) (λ a. Some (Local a.0, a.1))

unfoldable pub action_of : ℕ → Decoder Action
action_of zero s = None
action_of (suc d) s = and_some (one s) (λ b. and_some (action_node b.0) (λ n. act_of (expr_of d) (action_of d) n b.1))

-- A record of each sort.
abbrev pub register_of : Decoder Register
register_of s =
    on_register (opening_of s)
    (λ f. and_some (one f) (λ y. and_some (kind_of y.0) (λ k. and_some (four_of y.1) (λ v.
    Some (record { kind = k; initial = v.0 }, v.1)))))
    None

abbrev pub rule_of : Decoder Action
rule_of s = on_rule (opening_of s) (λ f. and_some (one f) (λ h. and_some (one h.1) (λ l. action_of 24 l.1))) None

abbrev pub entry_of : Decoder Entry
entry_of s =
    on_entry (opening_of s)
    (λ f. and_some (one f) (λ r. and_some (four_of r.1) (λ m. Some (record { rule = r.0; blockers = m.0 }, m.1))))
    None

-- A row of at most n of them, and what is behind it.
abbrev pub add : {A : Type 0} → A → List A × List ℕ → List A × List ℕ
add x r = (x ∷ r.0, r.1)

abbrev pub go_on : {A : Type 0} → Option (A × List ℕ) → (List ℕ → List A × List ℕ) → List ℕ → List A × List ℕ
go_on (Some x) more s = add x.0 (more x.1)
go_on None more s = ([], s)

unfoldable pub row_of : {A : Type 0} → Decoder A → ℕ → List ℕ → List A × List ℕ
row_of f zero s = ([], s)
row_of f (suc n) s = go_on (f s) (row_of f n) s

abbrev pub program_of : List ℕ → Program
program_of s =
    let rs = row_of register_of 64 s in
    let us = row_of rule_of 32 rs.1 in
    let es = row_of entry_of 64 us.1 in
    record { registers = rs.0; rules = us.0; entries = es.0 }
