-- Working out the bytes of a tree gives what the tree gives.
use Rattle.std.proofs.Common.{◌≡◌, ℕ, zero, suc, ◌-◌, ◌≤◌, List, [], ◌∷◌, ◌++◌, length, Some, Option, refl, ap, ◌∙◌, arith, lt-ltb}
use lib.Dec.{eqb-suc-zero}
use Rattle.terms.specs.declared.kind.Kind.{Kind}
use Rattle.terms.specs.declared.kind.Kind.TheVariants.{Truth, Word}
use Rattle.program.specs.Tree.{Expr, Fetch, Constant, Variable, Operate, Choose, Guard, Let, Action, Assign, If, Parallel, Sequence, When, LetIn, Local}
use Rattle.program.specs.Encoding.{expr_bytes, action_bytes}
use Rattle.program.specs.Typing.{WellTyped, deep, depth, lets, lets_in}
use Rattle.checker.proofs.Accepts.{four_again}
use Rattle.outcome.specs.Writes.{Writes, no_writes, over}
use Rattle.outcome.specs.Outcome.{Given, ready, not_ready, and_ready, Bindings, value, writes}
use Rattle.outcome.specs.Working.{value_worked, writes_worked, so_far_behind, sequence_gives, body_worked, GivesOutcome}

module _ (store : List ℕ) where
  pub value_again : (so_far : Writes) (e : Expr) (d l : ℕ) (bound : Bindings) (s : List ℕ) → deep e ≤ d → lets e ≤ l →
      value_worked store so_far d l bound (expr_bytes e s) ≡ Some (value store so_far bound e, s)
  unfolding value_worked
  value_again so_far (Fetch r) zero l bound s p q = absurd (omega arith)
  value_again so_far (Fetch r) (suc d) l bound s p q = refl
  value_again so_far (Constant k n) zero l bound s p q = absurd (omega arith)
  value_again so_far (Constant Truth n) (suc d) l bound s p q = refl
  value_again so_far (Constant Word n) (suc d) l bound s p q = ap (λ (m : ℕ). Some (ready m, s)) (four_again n)
  value_again so_far (Variable v) zero l bound s p q = absurd (omega arith)
  value_again so_far (Variable v) (suc d) l bound s p q = refl
  value_again so_far (Operate o a b) zero l bound s p q = absurd (omega arith)
  value_again so_far (Operate o a b) (suc d) l bound s p q =
      rw (value_again so_far a d l bound (expr_bytes b s) (omega arith) (omega arith), value_again so_far b d l bound s (omega arith) (omega arith))
  value_again so_far (Choose c a b) zero l bound s p q = absurd (omega arith)
  value_again so_far (Choose c a b) (suc d) l bound s p q =
      rw (
        value_again so_far c d l bound (expr_bytes a (expr_bytes b s)) (omega arith) (omega arith),
        value_again so_far a d l bound (expr_bytes b s) (omega arith) (omega arith),
        value_again so_far b d l bound s (omega arith) (omega arith),
      )
  value_again so_far (Guard a c) zero l bound s p q = absurd (omega arith)
  value_again so_far (Guard a c) (suc d) l bound s p q =
      rw (value_again so_far a d l bound (expr_bytes c s) (omega arith) (omega arith), value_again so_far c d l bound s (omega arith) (omega arith))
  value_again so_far (Let k a b) zero l bound s p q = absurd (omega arith)
  value_again so_far (Let k a b) (suc d) zero bound s p q = absurd (omega arith)
  value_again so_far (Let k a b) (suc d) (suc l) bound s p q =
      let one : suc l - 1 ≡ l = omega arith in
      rw (eqb-suc-zero, one, value_again so_far a d l bound (expr_bytes b s) (omega arith) (omega arith))
      (value_again so_far b d l (bound ++ (value store so_far bound a ∷ [])) s (omega arith) (omega arith))

  -- A sequence, by what its first action gives.
  in_sequence : (so_far : Writes) (bound : Bindings) (b : Action) (x : Given Writes) →
      sequence_gives x (writes store (so_far_behind so_far x) bound b)
      ≡ and_ready x (λ p. and_ready (writes store (over p so_far) bound b) (λ q. ready (over q p)))
  in_sequence so_far bound b (ready p) = refl
  in_sequence so_far bound b not_ready = refl

  pub writes_again : (kinds : List Kind) → length kinds ≤ 64 → (a : Action) (d l : ℕ) (so_far : Writes) (bound : Bindings) (scope : List Kind) (s : List ℕ) →
      WellTyped kinds scope a → depth a ≤ d → lets_in a ≤ l →
      writes_worked store d so_far l bound (action_bytes a s) ≡ Some (writes store so_far bound a, s)
  unfolding writes_worked
  writes_again kinds few (Assign r e) zero l so_far bound scope s ty p q = absurd (omega arith)
  writes_again kinds few (Assign r e) (suc d) l so_far bound scope s ty p q =
      rw (lt-ltb r 64 (omega (arith, ty.0)), value_again so_far e d l bound s (omega arith) q)
  writes_again kinds few (If c a) zero l so_far bound scope s ty p q = absurd (omega arith)
  writes_again kinds few (If c a) (suc d) l so_far bound scope s ty p q =
      rw (
        value_again so_far c d l bound (action_bytes a s) (omega arith) (omega arith),
        writes_again kinds few a d l so_far bound scope s ty.1 (omega arith) (omega arith),
      )
  writes_again kinds few (Parallel a b) zero l so_far bound scope s ty p q = absurd (omega arith)
  writes_again kinds few (Parallel a b) (suc d) l so_far bound scope s ty p q =
      rw (
        writes_again kinds few a d l so_far bound scope (action_bytes b s) ty.0 (omega arith) (omega arith),
        writes_again kinds few b d l so_far bound scope s ty.1 (omega arith) (omega arith),
      )
  writes_again kinds few (Sequence a b) zero l so_far bound scope s ty p q = absurd (omega arith)
  writes_again kinds few (Sequence a b) (suc d) l so_far bound scope s ty p q =
      rw (
        writes_again kinds few a d l so_far bound scope (action_bytes b s) ty.0 (omega arith) (omega arith),
        writes_again kinds few b d l (so_far_behind so_far (writes store so_far bound a)) bound scope s ty.1 (omega arith) (omega arith),
      )
      (ap (λ (w : Given Writes). Some (w, s)) (in_sequence so_far bound b (writes store so_far bound a)))
  writes_again kinds few (When a c) zero l so_far bound scope s ty p q = absurd (omega arith)
  writes_again kinds few (When a c) (suc d) l so_far bound scope s ty p q =
      rw (
        writes_again kinds few a d l so_far bound scope (expr_bytes c s) ty.0 (omega arith) (omega arith),
        value_again so_far c d l bound s (omega arith) (omega arith),
      )
  writes_again kinds few (LetIn k e a) zero l so_far bound scope s ty p q = absurd (omega arith)
  writes_again kinds few (LetIn k e a) (suc d) zero so_far bound scope s ty p q = absurd (omega arith)
  writes_again kinds few (LetIn k e a) (suc d) (suc l) so_far bound scope s ty p q =
      let one : suc l - 1 ≡ l = omega arith in
      rw (eqb-suc-zero, one, value_again so_far e d l bound (action_bytes a s) (omega arith) (omega arith))
      (writes_again kinds few a d l so_far (bound ++ (value store so_far bound e ∷ [])) (scope ++ (k ∷ [])) s ty.1 (omega arith) (omega arith))
  writes_again kinds few (Local a) zero l so_far bound scope s ty p q = absurd (omega arith)
  writes_again kinds few (Local a) (suc d) l so_far bound scope s ty p q =
      rw (writes_again kinds few a d l so_far bound scope s ty (omega arith) q)

-- What a body gives is the outcome, where the body is that of a well-formed rule.
pub gives_outcome : (store body : List ℕ) (r : Option (Given Writes)) → r ≡ body_worked store body → GivesOutcome store body r
gives_outcome store body r e kinds a few good is =
    e ∙ rw (is, writes_again store kinds few a 24 8 no_writes [] [] [] good.well_typed good.depth_within good.lets_within)
