-- The byte that opens each node of a rule's tree.
use Rattle.std.specs.Prelude.{ℕ, cond, Some, None, Option, ◌==◌}
use Rattle.terms.specs.declared.node.ValueNode.{ValueNode}
use Rattle.terms.specs.declared.node.ActionNode.{ActionNode}

-- The nodes that give a value.
abbrev pub value_node : ℕ → Option ValueNode
value_node b =
    cond (b == 1) (Some ValueNode.Register) (cond (b == 2) (Some ValueNode.Word)
    (cond (b == 3) (Some ValueNode.Truth) (cond (b == 4) (Some ValueNode.Variable)
    (cond (b == 5) (Some ValueNode.Operator) (cond (b == 6) (Some ValueNode.Choice)
    (cond (b == 7) (Some ValueNode.Guard) (cond (b == 8) (Some ValueNode.Let) None)))))))

-- The nodes that give writes.
abbrev pub action_node : ℕ → Option ActionNode
action_node b =
    cond (b == 17) (Some ActionNode.Assign) (cond (b == 18) (Some ActionNode.If)
    (cond (b == 19) (Some ActionNode.Parallel) (cond (b == 20) (Some ActionNode.Sequence)
    (cond (b == 21) (Some ActionNode.When) (cond (b == 22) (Some ActionNode.Let)
    (cond (b == 23) (Some ActionNode.Local) None))))))
