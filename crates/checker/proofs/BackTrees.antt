-- What is accepted is the encoding of a well-formed program.
use Rattle.std.proofs.Common.{◌≡◌, ℕ, zero, suc, ◌-◌, ◌≤◌, true, eqb, List, [], ◌∷◌, ◌++◌, Ok, sym, refl, ap, ◌∙◌, arith}
use borrow.Author.Tests.{eqb-false}
use Rattle.terms.specs.declared.refusal.Refusal.TheVariants.{Nesting}
use Rattle.terms.specs.declared.kind.Kind.{Kind}
use Rattle.terms.specs.declared.kind.Kind.TheVariants.{Truth, Word}
use Rattle.terms.specs.declared.node.ValueNode.{ValueNode}
use Rattle.terms.specs.declared.node.ActionNode.{ActionNode}
use Rattle.terms.specs.Kinds.{takes, operand_kind}
use Rattle.tree.specs.Reading.{Body, fault, place, kind_at, operator_at, named_of, suits, value_at, value_parts, expression, action_at, action_parts, action}
use Rattle.program.specs.Tree.{Expr, Fetch, Constant, Variable, Operate, Choose, Guard, Let, Action, Assign, If, Parallel, Sequence, When, LetIn, Local}
use Rattle.program.specs.Encoding.{expr_bytes, action_bytes}
use Rattle.program.specs.Typing.{Typed, WellTyped, deep, depth, lets, lets_in, forks}
use Rattle.checker.specs.Accepted.{Bytes}
use Rattle.checker.proofs.Inverses.{err_ok, then_ok, not_ok, same_true, value_code, action_code, word_got, truth_got, kind_got, named_got, wanted_got, operator_got, value_got, action_got}

pub positive : (n : ℕ) → (n ≡ 0 → ⊥) → 1 ≤ n
positive zero h = absurd (h refl)
positive (suc n) h = omega arith

-- There is an expression at the beginning of s, well typed and within the limits, and m is behind it.
pub record Found (t : Body) (d l : ℕ) (scope : List Kind) (want : Kind) (s m : List ℕ) : Type 0 where
  pub tree : Expr
  pub typed : Typed t.kinds scope want tree
  pub deep_within : deep tree ≤ d
  pub lets_within : lets tree ≤ l
  pub is : s ≡ expr_bytes tree m
  pub rest : Bytes m

module _ (t : Body) (d : ℕ)
    (inner : (l : ℕ) (scope : List Kind) (want : Kind) (s m : List ℕ) → Bytes s → expression d t l scope want s ≡ Ok m →
    Found t d l scope want s m)
    (l : ℕ) (scope : List Kind) (want : Kind) (from : List ℕ) where
  value_parts_got : (n : ValueNode) (s m : List ℕ) → from ≡ value_code n ∷ s → suits want n ≡ true → Bytes s →
      value_parts t (expression d t) l scope want from n s ≡ Ok m → Found t (suc d) l scope want from m
  value_parts_got ValueNode.Register s m first fit all h =
      let g = wanted_got t t.kinds want s m all h in
      let is = g.1 in
      record { tree = Fetch g.0; typed = g.2; deep_within = omega arith; lets_within = omega arith; is = cc; rest = g.3 }
  value_parts_got ValueNode.Word s m first fit all h =
      let g = word_got t s m all h in
      let is = g.1 in
      record {
        tree = Constant Word g.0;
        typed = (sym (same_true want Word fit), g.2);
        deep_within = omega arith;
        lets_within = omega arith;
        is = cc;
        rest = g.3;
      }
  value_parts_got ValueNode.Truth s m first fit all h =
      let g = truth_got t s m all h in
      let is = g.1 in
      record {
        tree = Constant Truth g.0;
        typed = (sym (same_true want Truth fit), g.2);
        deep_within = omega arith;
        lets_within = omega arith;
        is = cc;
        rest = g.3;
      }
  value_parts_got ValueNode.Variable s m first fit all h =
      let g = wanted_got t scope want s m all h in
      let is = g.1 in
      record { tree = Variable g.0; typed = g.2; deep_within = omega arith; lets_within = omega arith; is = cc; rest = g.3 }
  value_parts_got ValueNode.Operator s m first fit all h =
      let r = then_ok (operator_at t want s) _ m h in
      let g = operator_got t want s r.0 all r.1 in
      let o : ℕ = g.0 in
      let q = then_ok (expression d t l scope (operand_kind r.0.0) r.0.1) _ m r.2 in
      let x = inner l scope (takes o) r.0.1 q.0 g.5 (ap (λ (k : Kind). expression d t l scope k r.0.1) (sym g.4) ∙ q.1) in
      let y = inner l scope (takes o) q.0 m x.rest (ap (λ (k : Kind). expression d t l scope k q.0) (sym g.4) ∙ q.2) in
      let is = g.1 in let a = x.is in let b = y.is in
      record {
        tree = Operate o x.tree y.tree;
        typed = (g.2, g.3, x.typed, y.typed);
        deep_within = omega (arith, x.deep_within, y.deep_within);
        lets_within = omega (arith, x.lets_within, y.lets_within);
        is = cc;
        rest = y.rest;
      }
  value_parts_got ValueNode.Choice s m first fit all h =
      let p = then_ok (expression d t l scope Truth s) _ m h in
      let q = then_ok (expression d t l scope want p.0) _ m p.2 in
      let z = inner l scope Truth s p.0 all p.1 in
      let x = inner l scope want p.0 q.0 z.rest q.1 in
      let y = inner l scope want q.0 m x.rest q.2 in
      let c = z.is in let a = x.is in let b = y.is in
      record {
        tree = Choose z.tree x.tree y.tree;
        typed = (z.typed, x.typed, y.typed);
        deep_within = omega (arith, z.deep_within, x.deep_within, y.deep_within);
        lets_within = omega (arith, z.lets_within, x.lets_within, y.lets_within);
        is = cc;
        rest = y.rest;
      }
  value_parts_got ValueNode.Guard s m first fit all h =
      let q = then_ok (expression d t l scope want s) _ m h in
      let x = inner l scope want s q.0 all q.1 in
      let y = inner l scope Truth q.0 m x.rest q.2 in
      let a = x.is in let b = y.is in
      record {
        tree = Guard x.tree y.tree;
        typed = (x.typed, y.typed);
        deep_within = omega (arith, x.deep_within, y.deep_within);
        lets_within = omega (arith, x.lets_within, y.lets_within);
        is = cc;
        rest = y.rest;
      }
  value_parts_got ValueNode.Let s m first fit all h =
      let u = not_ok (eqb l 0) _ _ m h in
      let some = eqb-false l 0 u.0 in
      let k = then_ok (kind_at t s) _ m u.1 in
      let g = kind_got t s k.0 all k.1 in
      let q = then_ok (expression d t (l - 1) scope k.0.0 k.0.1) _ m k.2 in
      let x = inner (l - 1) scope k.0.0 k.0.1 q.0 g.1 q.1 in
      let y = inner (l - 1) (scope ++ (k.0.0 ∷ [])) want q.0 m x.rest q.2 in
      let is = g.0 in let a = x.is in let b = y.is in
      let one : 1 ≤ l = positive l some in
      record {
        tree = Let k.0.0 x.tree y.tree;
        typed = (x.typed, y.typed);
        deep_within = omega (arith, x.deep_within, y.deep_within);
        lets_within = omega (arith, x.lets_within, y.lets_within);
        is = cc;
        rest = y.rest;
      }

pub expression_got : (t : Body) (d l : ℕ) (scope : List Kind) (want : Kind) (s m : List ℕ) → Bytes s →
    expression d t l scope want s ≡ Ok m → Found t d l scope want s m
unfolding expression
expression_got t zero l scope want s m all h =
    let r = then_ok (value_at t want s) _ m h in absurd (err_ok (fault Nesting (place t.end s)) m r.2)
expression_got t (suc d) l scope want s m all h =
    let r = then_ok (value_at t want s) _ m h in
    let g = value_got t want s r.0 all r.1 in
    value_parts_got t d (expression_got t d) l scope want s r.0.0 r.0.1 m g.0 g.1 g.2 r.2

-- The same of an action.
pub record Done (t : Body) (d l f : ℕ) (scope : List Kind) (s m : List ℕ) : Type 0 where
  pub tree : Action
  pub well_typed : WellTyped t.kinds scope tree
  pub depth_within : depth tree ≤ d
  pub lets_within : lets_in tree ≤ l
  pub forks_within : forks tree ≤ f
  pub is : s ≡ action_bytes tree m
  pub rest : Bytes m

module _ (t : Body) (d : ℕ)
    (inner : (l f : ℕ) (scope : List Kind) (s m : List ℕ) → Bytes s → action d t l f scope s ≡ Ok m → Done t d l f scope s m)
    (l f : ℕ) (scope : List Kind) (from : List ℕ) where
  action_parts_got : (n : ActionNode) (s m : List ℕ) → from ≡ action_code n ∷ s → Bytes s →
      action_parts t (expression d t) (action d t) l f scope from n s ≡ Ok m → Done t (suc d) l f scope from m
  action_parts_got ActionNode.Assign s m first all h =
      let r = then_ok (named_of t t.kinds s) _ m h in
      let g = named_got t t.kinds s r.0 all r.1 in
      let x = expression_got t d l scope r.0.0 r.0.1 m g.3 r.2 in
      let is = g.1 in let a = x.is in
      record {
        tree = Assign g.0 x.tree;
        well_typed = (g.2.0, rw g.2.1 x.typed);
        depth_within = omega (arith, x.deep_within);
        lets_within = x.lets_within;
        forks_within = omega arith;
        is = cc;
        rest = x.rest;
      }
  action_parts_got ActionNode.If s m first all h =
      let r = then_ok (expression d t l scope Truth s) _ m h in
      let z = expression_got t d l scope Truth s r.0 all r.1 in
      let x = inner l f scope r.0 m z.rest r.2 in
      let c = z.is in let a = x.is in
      record {
        tree = If z.tree x.tree;
        well_typed = (z.typed, x.well_typed);
        depth_within = omega (arith, z.deep_within, x.depth_within);
        lets_within = omega (arith, z.lets_within, x.lets_within);
        forks_within = x.forks_within;
        is = cc;
        rest = x.rest;
      }
  action_parts_got ActionNode.Parallel s m first all h =
      let u = not_ok (eqb f 0) _ _ m h in
      let r = then_ok (action d t l (f - 1) scope s) _ m u.1 in
      let x = inner l (f - 1) scope s r.0 all r.1 in
      let y = inner l (f - 1) scope r.0 m x.rest r.2 in
      let one : 1 ≤ f = positive f (eqb-false f 0 u.0) in
      let a = x.is in let b = y.is in
      record {
        tree = Parallel x.tree y.tree;
        well_typed = (x.well_typed, y.well_typed);
        depth_within = omega (arith, x.depth_within, y.depth_within);
        lets_within = omega (arith, x.lets_within, y.lets_within);
        forks_within = omega (arith, x.forks_within, y.forks_within);
        is = cc;
        rest = y.rest;
      }
  action_parts_got ActionNode.Sequence s m first all h =
      let r = then_ok (action d t l f scope s) _ m h in
      let x = inner l f scope s r.0 all r.1 in
      let y = inner l f scope r.0 m x.rest r.2 in
      let a = x.is in let b = y.is in
      record {
        tree = Sequence x.tree y.tree;
        well_typed = (x.well_typed, y.well_typed);
        depth_within = omega (arith, x.depth_within, y.depth_within);
        lets_within = omega (arith, x.lets_within, y.lets_within);
        forks_within = omega (arith, x.forks_within, y.forks_within);
        is = cc;
        rest = y.rest;
      }
  action_parts_got ActionNode.When s m first all h =
      let r = then_ok (action d t l f scope s) _ m h in
      let x = inner l f scope s r.0 all r.1 in
      let z = expression_got t d l scope Truth r.0 m x.rest r.2 in
      let a = x.is in let c = z.is in
      record {
        tree = When x.tree z.tree;
        well_typed = (x.well_typed, z.typed);
        depth_within = omega (arith, x.depth_within, z.deep_within);
        lets_within = omega (arith, x.lets_within, z.lets_within);
        forks_within = x.forks_within;
        is = cc;
        rest = z.rest;
      }
  action_parts_got ActionNode.Let s m first all h =
      let u = not_ok (eqb l 0) _ _ m h in
      let k = then_ok (kind_at t s) _ m u.1 in
      let g = kind_got t s k.0 all k.1 in
      let q = then_ok (expression d t (l - 1) scope k.0.0 k.0.1) _ m k.2 in
      let x = expression_got t d (l - 1) scope k.0.0 k.0.1 q.0 g.1 q.1 in
      let y = inner (l - 1) f (scope ++ (k.0.0 ∷ [])) q.0 m x.rest q.2 in
      let one : 1 ≤ l = positive l (eqb-false l 0 u.0) in
      let is = g.0 in let a = x.is in let b = y.is in
      record {
        tree = LetIn k.0.0 x.tree y.tree;
        well_typed = (x.typed, y.well_typed);
        depth_within = omega (arith, x.deep_within, y.depth_within);
        lets_within = omega (arith, x.lets_within, y.lets_within);
        forks_within = y.forks_within;
        is = cc;
        rest = y.rest;
      }
  action_parts_got ActionNode.Local s m first all h =
      let u = not_ok (eqb f 0) _ _ m h in
      let x = inner l (f - 1) scope s m all u.1 in
      let one : 1 ≤ f = positive f (eqb-false f 0 u.0) in
      let a = x.is in
      record {
        tree = Local x.tree;
        well_typed = x.well_typed;
        depth_within = omega (arith, x.depth_within);
        lets_within = x.lets_within;
        forks_within = omega (arith, x.forks_within);
        is = cc;
        rest = x.rest;
      }

pub action_done : (t : Body) (d l f : ℕ) (scope : List Kind) (s m : List ℕ) → Bytes s →
    action d t l f scope s ≡ Ok m → Done t d l f scope s m
unfolding action
action_done t zero l f scope s m all h =
    let r = then_ok (action_at t s) _ m h in absurd (err_ok (fault Nesting (place t.end s)) m r.2)
action_done t (suc d) l f scope s m all h =
    let r = then_ok (action_at t s) _ m h in
    let g = action_got t s r.0 all r.1 in
    action_parts_got t d (action_done t d) l f scope s r.0.0 r.0.1 m g.0 g.1 r.2
