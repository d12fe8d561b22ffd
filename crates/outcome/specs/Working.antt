-- Working a rule out on its bytes: what each expression and action at the front of the bytes gives, and what is behind it.
-- It is said for all bytes; where they are no tree there is nothing.
use Rattle.std.specs.Prelude.{◌≡◌, ℕ, zero, suc, ◌-◌, ◌≤◌, cond, List, [], ◌∷◌, ◌++◌, length, Some, None, Option, ◌==◌, nat_lt, slice_index_or}
use Rattle.terms.specs.declared.kind.Kind.{Kind}
use Rattle.terms.specs.declared.node.ValueNode.{ValueNode}
use Rattle.terms.specs.declared.node.ActionNode.{ActionNode}
use Rattle.terms.specs.Nodes.{value_node, action_node}
use Rattle.program.specs.Tree.{Action}
use Rattle.program.specs.Encoding.{action_bytes}
use Rattle.program.specs.Typing.{GoodRule}
use Rattle.program.specs.Verdict.{four_of}
use Rattle.program.specs.Decoding.{Decoder, and_some, one}
use Rattle.outcome.specs.Writes.{Writes, no_writes, one_write, over, reading}
use Rattle.outcome.specs.Outcome.{Given, ready, not_ready, and_ready, where_true, operated, Bindings, joined, or_none, outcome}

-- The result of a node from its parts' results.
abbrev pub operator_gives : ℕ → Given ℕ → Given ℕ → Given ℕ
operator_gives o x y = and_ready x (λ l. and_ready y (λ r. ready (operated o l r)))

abbrev pub choice_gives : {A : Type 0} → Given ℕ → Given A → Given A → Given A
choice_gives t x y = and_ready t (λ n. where_true n x y)

abbrev pub guard_gives : Given ℕ → Given ℕ → Given ℕ
guard_gives x t = and_ready t (λ n. where_true n x not_ready)

module _ (store : List ℕ) (so_far : Writes) where
  -- What is behind a node's byte, where `part` works out its parts: so many lets may still be nested, and these bindings are seen.
  abbrev pub node_worked : (ℕ → Bindings → Decoder (Given ℕ)) → ℕ → Bindings → ValueNode → Decoder (Given ℕ)
  node_worked part lets bound ValueNode.Register s = and_some (one s) (λ r. Some (ready (reading store so_far r.0), r.1))
  node_worked part lets bound ValueNode.Word s = and_some (four_of s) (λ n. Some (ready n.0, n.1))
  node_worked part lets bound ValueNode.Truth s = and_some (one s) (λ n. Some (ready n.0, n.1))
  node_worked part lets bound ValueNode.Variable s = and_some (one s) (λ t. Some (slice_index_or bound t.0 not_ready, t.1))
  node_worked part lets bound ValueNode.Operator s =
      and_some (one s) (λ o. and_some (part lets bound o.1) (λ a. and_some (part lets bound a.1) (λ b.
      Some (operator_gives o.0 a.0 b.0, b.1))))
  node_worked part lets bound ValueNode.Choice s =
      and_some (part lets bound s) (λ t. and_some (part lets bound t.1) (λ a. and_some (part lets bound a.1) (λ b.
      Some (choice_gives t.0 a.0 b.0, b.1))))
  node_worked part lets bound ValueNode.Guard s =
      and_some (part lets bound s) (λ a. and_some (part lets bound a.1) (λ t. Some (guard_gives a.0 t.0, t.1)))
  node_worked part lets bound ValueNode.Let s =
      cond (lets == 0) None
      (and_some (one s) (λ k. and_some (part (lets - 1) bound k.1) (λ a. part (lets - 1) (bound ++ (a.0 ∷ [])) a.1)))

  -- An expression of at most d levels.
  unfoldable pub value_worked : ℕ → ℕ → Bindings → Decoder (Given ℕ)
  value_worked zero lets bound s = None
  value_worked (suc d) lets bound s =
      and_some (one s) (λ b. and_some (value_node b.0) (λ n. node_worked (value_worked d) lets bound n b.1))

-- The same of an action's node.
abbrev pub update_gives : ℕ → Given ℕ → Given Writes
update_gives r v = and_ready v (λ n. ready (one_write r n))

abbrev pub if_gives : Given ℕ → Given Writes → Given Writes
if_gives t w = and_ready t (λ n. where_true n w (ready no_writes))

abbrev pub when_gives : Given Writes → Given ℕ → Given Writes
when_gives w t = and_ready t (λ n. where_true n w not_ready)

abbrev pub parallel_gives : Given Writes → Given Writes → Given Writes
parallel_gives x y = and_ready x (λ p. and_ready y (λ q. joined p q))

abbrev pub sequence_gives : Given Writes → Given Writes → Given Writes
sequence_gives x y = and_ready x (λ p. and_ready y (λ q. ready (over q p)))

-- The writes so far behind the first action of a sequence. Where that is not ready they do not matter.
abbrev pub so_far_behind : Writes → Given Writes → Writes
so_far_behind so_far (ready p) = over p so_far
so_far_behind so_far not_ready = so_far

module _ (store : List ℕ) where
  -- What is behind an action's byte, where `value` and `part` work out its parts. Registers have numbers below 64.
  abbrev pub act_worked : (Writes → ℕ → Bindings → Decoder (Given ℕ)) → (Writes → ℕ → Bindings → Decoder (Given Writes)) →
      Writes → ℕ → Bindings → ActionNode → Decoder (Given Writes)
  act_worked value part so_far lets bound ActionNode.Assign s =
      and_some (one s) (λ r. cond (nat_lt r.0 64)
      (and_some (value so_far lets bound r.1) (λ v. Some (update_gives r.0 v.0, v.1))) None)
  act_worked value part so_far lets bound ActionNode.If s =
      and_some (value so_far lets bound s) (λ t. and_some (part so_far lets bound t.1) (λ a. Some (if_gives t.0 a.0, a.1)))
  act_worked value part so_far lets bound ActionNode.Parallel s =
      and_some (part so_far lets bound s) (λ a. and_some (part so_far lets bound a.1) (λ b. Some (parallel_gives a.0 b.0, b.1)))
  act_worked value part so_far lets bound ActionNode.Sequence s =
      and_some (part so_far lets bound s) (λ a. and_some (part (so_far_behind so_far a.0) lets bound a.1) (λ b.
      Some (sequence_gives a.0 b.0, b.1)))
  act_worked value part so_far lets bound ActionNode.When s =
      and_some (part so_far lets bound s) (λ a. and_some (value so_far lets bound a.1) (λ t. Some (when_gives a.0 t.0, t.1)))
  act_worked value part so_far lets bound ActionNode.Let s =
      cond (lets == 0) None
      (and_some (one s) (λ k. and_some (value so_far (lets - 1) bound k.1) (λ v. part so_far (lets - 1) (bound ++ (v.0 ∷ [])) v.1)))
  act_worked value part so_far lets bound ActionNode.Local s =
      and_some (part so_far lets bound s) (λ a. Some (or_none a.0, a.1))

  -- An action of at most d levels.
  unfoldable pub writes_worked : ℕ → Writes → ℕ → Bindings → Decoder (Given Writes)
  writes_worked zero so_far lets bound s = None
  writes_worked (suc d) so_far lets bound s =
      and_some (one s) (λ b. and_some (action_node b.0) (λ n.
      act_worked (λ w. value_worked store w d) (writes_worked d) so_far lets bound n b.1))

-- A body: one action of at most 24 levels with at most eight lets on a way, and nothing behind it.
abbrev pub nothing_behind : Given Writes → List ℕ → Option (Given Writes)
nothing_behind w [] = Some w
nothing_behind w (b ∷ s) = None

-- What a body gives, where the bytes are one.
abbrev pub body_worked : List ℕ → List ℕ → Option (Given Writes)
body_worked store s = and_some (writes_worked store 24 no_writes 8 [] s) (λ r. nothing_behind r.0 r.1)

-- Where the bytes are those of a well-formed rule, what is worked out is its outcome.
abbrev pub GivesOutcome : List ℕ → List ℕ → Option (Given Writes) → Type 0
GivesOutcome store body r =
    (kinds : List Kind) (a : Action) → length kinds ≤ 64 → GoodRule kinds a → body ≡ action_bytes a [] → r ≡ Some (outcome store a)
