-- The definitions of an expression and of an action, unfolded once at any depth.
use Rattle.std.proofs.Common.{◌≡◌, ℕ, zero, suc, ◌-◌, cond, eqb, List, Err, refl, arith}
use lib.Dec.{eqb-suc-zero}
use Rattle.terms.specs.declared.refusal.Refusal.TheVariants.{Nesting}
use Rattle.terms.specs.declared.kind.Kind.{Kind}
use Rattle.tree.specs.Reading.{Body, fault, and_then, place, value_at, value_parts, expression, action_at, action_parts, action}

pub expression_is : (d : ℕ) (t : Body) (lets : ℕ) (scope : List Kind) (want : Kind) (s : List ℕ) →
    expression d t lets scope want s
    ≡ and_then (value_at t want s) (λ n.
    cond (eqb d 0) (Err (fault Nesting (place t.end s)))
    (value_parts t (expression (d - 1) t) lets scope want s n.0 n.1))
unfolding expression
expression_is zero t lets scope want s = refl
expression_is (suc d) t lets scope want s = let e : suc d - 1 ≡ d = omega arith in simp (e, eqb-suc-zero)

pub action_is : (d : ℕ) (t : Body) (lets forks : ℕ) (scope : List Kind) (s : List ℕ) →
    action d t lets forks scope s
    ≡ and_then (action_at t s) (λ n.
    cond (eqb d 0) (Err (fault Nesting (place t.end s)))
    (action_parts t (expression (d - 1) t) (action (d - 1) t) lets forks scope s n.0 n.1))
unfolding action
action_is zero t lets forks scope s = refl
action_is (suc d) t lets forks scope s = let e : suc d - 1 ≡ d = omega arith in simp (e, eqb-suc-zero)
