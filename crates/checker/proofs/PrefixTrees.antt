-- Reading an expression or an action, beside reading only its first bytes.
use Rattle.std.proofs.Common.{ℕ, zero, suc, ◌+◌, ◌-◌, ◌≤◌, Bool, true, false, cond, eqb, List, [], ◌∷◌, ◌++◌, length, Ok, Err, Result, refl, ap, arith}
use Rattle.terms.specs.declared.refusal.Refusal.{Refusal}
use Rattle.terms.specs.declared.refusal.Refusal.TheVariants.{Nesting}
use Rattle.terms.specs.declared.refusal.Fault.{Fault}
use Rattle.terms.specs.declared.kind.Kind.{Kind}
use Rattle.terms.specs.declared.kind.Kind.TheVariants.{Truth}
use Rattle.terms.specs.declared.node.ValueNode.{ValueNode}
use Rattle.terms.specs.declared.node.ActionNode.{ActionNode}
use Rattle.terms.specs.Kinds.{operand_kind}
use Rattle.tree.specs.Reading.{Body, Read, Passed, fault, and_then, place, byte_of, kind_at, operator_at, named_of, value_at, action_at, value_parts, action_parts, expression, action}
use Rattle.checker.proofs.Prefix.{Beyond, Beside, stays, fails, past, OneByte, weaken, beyond_then, late_on, then_beside, then_same, left, longer, behind, further, place_same, one_beyond, one_beside, one_same, body, byte_one, truth_one, kind_one, operator_one, value_one, action_one, named_one, wanted_one}

-- One reader after another, both at rests.
and_beyond : {A : Type 0} (rest : A → List ℕ) (end : ℕ) (s : List ℕ) (r : Result A Fault) (f : A → Passed) →
    Beyond rest end s r → ((y : A) → Beyond left end (rest y) (f y)) → Beyond left end s (and_then r f)
and_beyond rest end s r f h k = beyond_then rest left end s r f h k

-- The same where the second may also find fault with the beginning.
from_beyond : {A : Type 0} (rest : A → List ℕ) (end : ℕ) (s : List ℕ) (r : Result A Fault) (f : A → Passed) →
    Beyond rest end s r → ((y : A) → length (rest y) ≤ length s → Beyond left end s (f y)) → Beyond left end s (and_then r f)
from_beyond rest end s (Ok y) f h k = k y h
from_beyond rest end s (Err e) f h k = h

-- A fault at the beginning, or what follows.
unless_beyond : (end : ℕ) (from s : List ℕ) (b : Bool) (r : Passed) → length s ≤ length from → Beyond left end s r →
    Beyond left end from (cond b (Err (fault Nesting (place end from))) r)
unless_beyond end from s true r le h = omega arith
unless_beyond end from s false r le h = weaken left left end from s r le h

-- So many bytes, whatever they are.
abbrev skip : ℕ → Body → List ℕ → Passed
skip zero t s = Ok s
skip (suc n) t s = and_then (byte_of t s) (λ b. skip n t b.1)

module _ (kinds : List Kind) (end : ℕ) (q : Refusal) where
  abbrev t : Body
  t = body kinds end q

  skip_beyond : (n : ℕ) (s : List ℕ) → Beyond left end s (skip n t s)
  skip_beyond zero s = omega arith
  skip_beyond (suc n) s =
      and_beyond behind end s (byte_of t s) _ (one_beyond (byte_one kinds) end q s) (λ b. skip_beyond n b.1)

  module _ (d : ℕ) (inner : (l : ℕ) (scope : List Kind) (want : Kind) (s : List ℕ) → Beyond left end s (expression d t l scope want s))
      (l : ℕ) (scope : List Kind) (want : Kind) (from : List ℕ) where
    value_parts_beyond : (n : ValueNode) (s : List ℕ) → length s ≤ length from →
        Beyond left end from (value_parts t (expression d t) l scope want from n s)
    value_parts_beyond ValueNode.Register s le =
        weaken left left end from s _ le (one_beyond (wanted_one kinds kinds want) end q s)
    value_parts_beyond ValueNode.Word s le = weaken left left end from s _ le (skip_beyond 4 s)
    value_parts_beyond ValueNode.Truth s le = weaken left left end from s _ le (one_beyond (truth_one kinds) end q s)
    value_parts_beyond ValueNode.Variable s le =
        weaken left left end from s _ le (one_beyond (wanted_one kinds scope want) end q s)
    value_parts_beyond ValueNode.Operator s le =
        weaken left left end from s _ le
        (and_beyond behind end s (operator_at t want s) _ (one_beyond (operator_one kinds want) end q s) (λ o.
        and_beyond left end o.1 (expression d t l scope (operand_kind o.0) o.1) _ (inner l scope (operand_kind o.0) o.1) (λ m.
        inner l scope (operand_kind o.0) m)))
    value_parts_beyond ValueNode.Choice s le =
        weaken left left end from s _ le
        (and_beyond left end s (expression d t l scope Truth s) _ (inner l scope Truth s) (λ c.
        and_beyond left end c (expression d t l scope want c) _ (inner l scope want c) (λ m. inner l scope want m)))
    value_parts_beyond ValueNode.Guard s le =
        weaken left left end from s _ le
        (and_beyond left end s (expression d t l scope want s) _ (inner l scope want s) (λ m. inner l scope Truth m))
    value_parts_beyond ValueNode.Let s le =
        unless_beyond end from s (eqb l 0) _ le
        (and_beyond behind end s (kind_at t s) _ (one_beyond (kind_one kinds) end q s) (λ k.
        and_beyond left end k.1 (expression d t (l - 1) scope k.0 k.1) _ (inner (l - 1) scope k.0 k.1) (λ m.
        inner (l - 1) (scope ++ (k.0 ∷ [])) want m)))

  pub expression_beyond : (d l : ℕ) (scope : List Kind) (want : Kind) (s : List ℕ) → Beyond left end s (expression d t l scope want s)
  unfolding expression
  expression_beyond zero l scope want s =
      from_beyond behind end s (value_at t want s) _ (one_beyond (value_one kinds want) end q s) (λ n le. omega arith)
  expression_beyond (suc d) l scope want s =
      from_beyond behind end s (value_at t want s) _ (one_beyond (value_one kinds want) end q s) (λ n le.
      value_parts_beyond d (expression_beyond d) l scope want s n.0 n.1 le)

  module _ (d : ℕ) (inner : (l f : ℕ) (scope : List Kind) (s : List ℕ) → Beyond left end s (action d t l f scope s))
      (l f : ℕ) (scope : List Kind) (from : List ℕ) where
    action_parts_beyond : (n : ActionNode) (s : List ℕ) → length s ≤ length from →
        Beyond left end from (action_parts t (expression d t) (action d t) l f scope from n s)
    action_parts_beyond ActionNode.Assign s le =
        weaken left left end from s _ le
        (and_beyond behind end s (named_of t kinds s) _ (one_beyond (named_one kinds kinds) end q s) (λ k.
        expression_beyond d l scope k.0 k.1))
    action_parts_beyond ActionNode.If s le =
        weaken left left end from s _ le
        (and_beyond left end s (expression d t l scope Truth s) _ (expression_beyond d l scope Truth s) (λ m. inner l f scope m))
    action_parts_beyond ActionNode.Parallel s le =
        unless_beyond end from s (eqb f 0) _ le
        (and_beyond left end s (action d t l (f - 1) scope s) _ (inner l (f - 1) scope s) (λ m. inner l (f - 1) scope m))
    action_parts_beyond ActionNode.Sequence s le =
        weaken left left end from s _ le
        (and_beyond left end s (action d t l f scope s) _ (inner l f scope s) (λ m. inner l f scope m))
    action_parts_beyond ActionNode.When s le =
        weaken left left end from s _ le
        (and_beyond left end s (action d t l f scope s) _ (inner l f scope s) (λ m. expression_beyond d l scope Truth m))
    action_parts_beyond ActionNode.Let s le =
        unless_beyond end from s (eqb l 0) _ le
        (and_beyond behind end s (kind_at t s) _ (one_beyond (kind_one kinds) end q s) (λ k.
        and_beyond left end k.1 (expression d t (l - 1) scope k.0 k.1) _ (expression_beyond d (l - 1) scope k.0 k.1) (λ m.
        inner (l - 1) f (scope ++ (k.0 ∷ [])) m)))
    action_parts_beyond ActionNode.Local s le = unless_beyond end from s (eqb f 0) _ le (inner l (f - 1) scope s)

  pub action_beyond : (d l f : ℕ) (scope : List Kind) (s : List ℕ) → Beyond left end s (action d t l f scope s)
  unfolding action
  action_beyond zero l f scope s =
      from_beyond behind end s (action_at t s) _ (one_beyond (action_one kinds) end q s) (λ n le. omega arith)
  action_beyond (suc d) l f scope s =
      from_beyond behind end s (action_at t s) _ (one_beyond (action_one kinds) end q s) (λ n le.
      action_parts_beyond d (action_beyond d) l f scope s n.0 n.1 le)

-- The first bytes, which end at `a`, and the whole text, which has v behind them.
module _ (kinds : List Kind) (a : ℕ) (v : List ℕ) (q₀ q : Refusal) where
  abbrev end : ℕ
  end = a + length v

  abbrev t₀ : Body
  t₀ = body kinds a q₀

  abbrev t₁ : Body
  t₁ = body kinds end q

  -- Two readings of rests side by side.
  abbrev Side : Passed → Passed → Type 0
  Side r₀ r = Beside a end left (longer v) r₀ r

  -- Where nothing is left of the first bytes, both are past them.
  nothing_left : (r₀ r : Passed) → Beyond left a [] r₀ → Beyond left end v r → Side r₀ r
  nothing_left r₀ r b₀ b = past (late_on left left a a [] r₀ (omega arith) b₀) (late_on left left a end v r (omega arith) b)

  -- Two readers side by side, neither of which looks back.
  record Both (F₀ F : List ℕ → Passed) : Type 0 where
    side : (w : List ℕ) → Side (F₀ w) (F (w ++ v))
    low : (s : List ℕ) → Beyond left a s (F₀ s)
    high : (s : List ℕ) → Beyond left end s (F s)

  one_both : {L : ℕ → Refusal → List ℕ → Passed} → OneByte left longer L → Both (L a q₀) (L end q)
  one_both o = record { side = one_beside o a v q₀ q; low = one_beyond o a q₀; high = one_beyond o end q }

  both_then : {F₀ F G₀ G : List ℕ → Passed} → Both F₀ F → Both G₀ G → Both (λ s. and_then (F₀ s) G₀) (λ s. and_then (F s) G)
  both_then {F₀} {F} {G₀} {G} f g = record {
    side = λ w. then_beside a end left (longer v) left (longer v) (F₀ w) (F (w ++ v)) G₀ G (f.side w) g.side g.low g.high;
    low = λ s. and_beyond left a s (F₀ s) G₀ (f.low s) g.low;
    high = λ s. and_beyond left end s (F s) G (f.high s) g.high;
  }

  value_then : {X : Type 0} {L : ℕ → Refusal → List ℕ → Read X} {G₀ G : X → List ℕ → Passed} → OneByte behind further L →
      ((x : X) → Both (G₀ x) (G x)) →
      Both (λ s. and_then (L a q₀ s) (λ y. G₀ y.0 y.1)) (λ s. and_then (L end q s) (λ y. G y.0 y.1))
  value_then {X} {L} {G₀} {G} o g = record {
    side = λ w. then_beside a end behind (further v) left (longer v) (L a q₀ w) (L end q (w ++ v)) (λ y. G₀ y.0 y.1) (λ y. G y.0 y.1)
        (one_beside o a v q₀ q w) (λ y. (g y.0).side y.1) (λ y. (g y.0).low y.1) (λ y. (g y.0).high y.1);
    low = λ s. and_beyond behind a s (L a q₀ s) (λ y. G₀ y.0 y.1) (one_beyond o a q₀ s) (λ y. (g y.0).low y.1);
    high = λ s. and_beyond behind end s (L end q s) (λ y. G y.0 y.1) (one_beyond o end q s) (λ y. (g y.0).high y.1);
  }

  -- A fault at the beginning in both, or what follows in both.
  unless_side : (from : List ℕ) (b : Bool) (r₀ r : Passed) → Side r₀ r →
      Side (cond b (Err (fault Nesting (place a from))) r₀) (cond b (Err (fault Nesting (place end (from ++ v)))) r)
  unless_side from true r₀ r h =
      fails (fault Nesting (place a from)) refl (ap (λ (p : ℕ). Err (fault Nesting p)) (place_same a v from))
  unless_side from false r₀ r h = h

  skip_both : (n : ℕ) → Both (skip n t₀) (skip n t₁)
  skip_both zero = record { side = λ w. stays w refl refl; low = λ s. omega arith; high = λ s. omega arith }
  skip_both (suc n) = value_then (byte_one kinds) (λ x. skip_both n)

  module _ (d : ℕ)
      (inner : (l : ℕ) (scope : List Kind) (want : Kind) → Both (expression d t₀ l scope want) (expression d t₁ l scope want))
      (l : ℕ) (scope : List Kind) (want : Kind) (from : List ℕ) where
    value_parts_side : (n : ValueNode) (w : List ℕ) →
        Side (value_parts t₀ (expression d t₀) l scope want from n w) (value_parts t₁ (expression d t₁) l scope want (from ++ v) n (w ++ v))
    value_parts_side ValueNode.Register w = (one_both (wanted_one kinds kinds want)).side w
    value_parts_side ValueNode.Word w = (skip_both 4).side w
    value_parts_side ValueNode.Truth w = (one_both (truth_one kinds)).side w
    value_parts_side ValueNode.Variable w = (one_both (wanted_one kinds scope want)).side w
    value_parts_side ValueNode.Operator w =
        (value_then (operator_one kinds want) (λ o. both_then (inner l scope (operand_kind o)) (inner l scope (operand_kind o)))).side w
    value_parts_side ValueNode.Choice w =
        (both_then (inner l scope Truth) (both_then (inner l scope want) (inner l scope want))).side w
    value_parts_side ValueNode.Guard w = (both_then (inner l scope want) (inner l scope Truth)).side w
    value_parts_side ValueNode.Let w =
        unless_side from (eqb l 0) _ _
        ((value_then (kind_one kinds) (λ k. both_then (inner (l - 1) scope k) (inner (l - 1) (scope ++ (k ∷ [])) want))).side w)

  expression_both : (d l : ℕ) (scope : List Kind) (want : Kind) → Both (expression d t₀ l scope want) (expression d t₁ l scope want)
  unfolding expression
  expression_both zero l scope want = record {
    side = elim [
      | [] ↦ nothing_left _ _ (expression_beyond kinds a q₀ zero l scope want []) (expression_beyond kinds end q zero l scope want v)
      | c ∷ w ↦ then_same a end (further v) left (longer v) (value_at t₀ want (c ∷ w)) (value_at t₁ want (c ∷ (w ++ v))) _ _
          (one_same (value_one kinds want) a v q₀ q c w)
          (λ n. fails (fault Nesting (place a (c ∷ w))) refl (ap (λ (p : ℕ). Err (fault Nesting p)) (place_same a v (c ∷ w))))
    ];
    low = expression_beyond kinds a q₀ zero l scope want;
    high = expression_beyond kinds end q zero l scope want;
  }
  expression_both (suc d) l scope want = record {
    side = elim [
      | [] ↦ nothing_left _ _ (expression_beyond kinds a q₀ (suc d) l scope want []) (expression_beyond kinds end q (suc d) l scope want v)
      | c ∷ w ↦ then_same a end (further v) left (longer v) (value_at t₀ want (c ∷ w)) (value_at t₁ want (c ∷ (w ++ v))) _ _
          (one_same (value_one kinds want) a v q₀ q c w)
          (λ n. value_parts_side d (expression_both d) l scope want (c ∷ w) n.0 n.1)
    ];
    low = expression_beyond kinds a q₀ (suc d) l scope want;
    high = expression_beyond kinds end q (suc d) l scope want;
  }

  module _ (d : ℕ)
      (inner : (l f : ℕ) (scope : List Kind) → Both (action d t₀ l f scope) (action d t₁ l f scope))
      (l f : ℕ) (scope : List Kind) (from : List ℕ) where
    action_parts_side : (n : ActionNode) (w : List ℕ) →
        Side (action_parts t₀ (expression d t₀) (action d t₀) l f scope from n w)
        (action_parts t₁ (expression d t₁) (action d t₁) l f scope (from ++ v) n (w ++ v))
    action_parts_side ActionNode.Assign w = (value_then (named_one kinds kinds) (λ k. expression_both d l scope k)).side w
    action_parts_side ActionNode.If w = (both_then (expression_both d l scope Truth) (inner l f scope)).side w
    action_parts_side ActionNode.Parallel w =
        unless_side from (eqb f 0) _ _ ((both_then (inner l (f - 1) scope) (inner l (f - 1) scope)).side w)
    action_parts_side ActionNode.Sequence w = (both_then (inner l f scope) (inner l f scope)).side w
    action_parts_side ActionNode.When w = (both_then (inner l f scope) (expression_both d l scope Truth)).side w
    action_parts_side ActionNode.Let w =
        unless_side from (eqb l 0) _ _
        ((value_then (kind_one kinds) (λ k. both_then (expression_both d (l - 1) scope k) (inner (l - 1) f (scope ++ (k ∷ []))))).side w)
    action_parts_side ActionNode.Local w = unless_side from (eqb f 0) _ _ ((inner l (f - 1) scope).side w)

  action_both : (d l f : ℕ) (scope : List Kind) → Both (action d t₀ l f scope) (action d t₁ l f scope)
  unfolding action
  action_both zero l f scope = record {
    side = elim [
      | [] ↦ nothing_left _ _ (action_beyond kinds a q₀ zero l f scope []) (action_beyond kinds end q zero l f scope v)
      | c ∷ w ↦ then_same a end (further v) left (longer v) (action_at t₀ (c ∷ w)) (action_at t₁ (c ∷ (w ++ v))) _ _
          (one_same (action_one kinds) a v q₀ q c w)
          (λ n. fails (fault Nesting (place a (c ∷ w))) refl (ap (λ (p : ℕ). Err (fault Nesting p)) (place_same a v (c ∷ w))))
    ];
    low = action_beyond kinds a q₀ zero l f scope;
    high = action_beyond kinds end q zero l f scope;
  }
  action_both (suc d) l f scope = record {
    side = elim [
      | [] ↦ nothing_left _ _ (action_beyond kinds a q₀ (suc d) l f scope []) (action_beyond kinds end q (suc d) l f scope v)
      | c ∷ w ↦ then_same a end (further v) left (longer v) (action_at t₀ (c ∷ w)) (action_at t₁ (c ∷ (w ++ v))) _ _
          (one_same (action_one kinds) a v q₀ q c w)
          (λ n. action_parts_side d (action_both d) l f scope (c ∷ w) n.0 n.1)
    ];
    low = action_beyond kinds a q₀ (suc d) l f scope;
    high = action_beyond kinds end q (suc d) l f scope;
  }

  pub action_beside : (w : List ℕ) → Side (action 24 t₀ 8 8 [] w) (action 24 t₁ 8 8 [] (w ++ v))
  action_beside w = (action_both 24 8 8 []).side w
