-- The definitions of what is worked out, unfolded once: with no level left, and with one at least.
use Rattle.std.proofs.Common.{◌≡◌, ℕ, zero, suc, ◌-◌, ◌<◌, cond, eqb, List, Some, None, Option, refl, arith}
use Rattle.terms.specs.Nodes.{value_node, action_node}
use Rattle.program.specs.Decoding.{and_some, one}
use Rattle.tree.specs.Paths.{Path, deeper}
use Rattle.outcome.specs.Writes.{Writes}
use Rattle.outcome.specs.Outcome.{Bindings}
use Rattle.outcome.specs.Working.{node_worked, value_worked, act_worked, writes_worked}

pub value_none : (store : List ℕ) (so_far : Writes) (d lets : ℕ) (bound : Bindings) (s : List ℕ) → d ≡ 0 →
    value_worked store so_far d lets bound s ≡ None
unfolding value_worked
value_none store so_far zero lets bound s e = refl
value_none store so_far (suc d) lets bound s e = absurd (omega arith)

pub value_more : (store : List ℕ) (so_far : Writes) (d lets : ℕ) (bound : Bindings) (s : List ℕ) → 0 < d →
    value_worked store so_far d lets bound s
    ≡ and_some (one s) (λ b. and_some (value_node b.0) (λ n.
    node_worked store so_far (value_worked store so_far (d - 1)) lets bound n b.1))
unfolding value_worked
value_more store so_far zero lets bound s less = absurd (omega arith)
value_more store so_far (suc d) lets bound s less = let e : suc d - 1 ≡ d = omega arith in rw e

pub writes_none : (store : List ℕ) (d : ℕ) (so_far : Writes) (lets : ℕ) (bound : Bindings) (s : List ℕ) → d ≡ 0 →
    writes_worked store d so_far lets bound s ≡ None
unfolding writes_worked
writes_none store zero so_far lets bound s e = refl
writes_none store (suc d) so_far lets bound s e = absurd (omega arith)

pub writes_more : (store : List ℕ) (d : ℕ) (so_far : Writes) (lets : ℕ) (bound : Bindings) (s : List ℕ) → 0 < d →
    writes_worked store d so_far lets bound s
    ≡ and_some (one s) (λ b. and_some (action_node b.0) (λ n.
    act_worked store (λ w. value_worked store w (d - 1)) (writes_worked store (d - 1)) so_far lets bound n b.1))
unfolding writes_worked
writes_more store zero so_far lets bound s less = absurd (omega arith)
writes_more store (suc d) so_far lets bound s less = let e : suc d - 1 ≡ d = omega arith in rw e

-- Where there is a way deeper, a level is left.
some_of : {T : Type 0} (v : T) (d : ℕ) (o : Option T) → Some v ≡ cond (eqb d 0) None o → 0 < d
some_of v zero o e = let z : ◌≡◌ {A = ℕ} 0 1 = cc in absurd (omega arith)
some_of v (suc d) o e = omega arith

pub level_left : {T : Type 0} (w v : Path T) → Some v ≡ deeper w → 0 < w.depth
level_left w v e = some_of v w.depth _ e
