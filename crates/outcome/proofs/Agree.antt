-- The rules and the definition agree: every node has exactly one result by the rules, and the definition gives it.
use Rattle.std.proofs.Common.{◌≡◌, ℕ, Bool, true, false, cond, eqb, List, [], ◌∷◌, ◌++◌, sym, refl, ap, ◌∙◌, subst, ne_eqb, eqb-true}
use borrow.Author.Tests.{eqb-false}
use Rattle.program.specs.Tree.{Expr, Fetch, Constant, Variable, Operate, Choose, Guard, Let, Action, Assign, If, Parallel, Sequence, When, LetIn, Local}
use Rattle.outcome.specs.Writes.{Writes, no_writes, one_write, over, shared}
use Rattle.outcome.specs.Outcome.{Given, ready, not_ready, and_ready, where_true, operated, Bindings, value, joined, or_none, writes}
use Rattle.outcome.specs.Laws.{RulesAgree}
use Rattle.outcome.specs.Rules.{Gives, register_read, constant, variable, operator, operator_left_waits, operator_right_waits, choice_true, choice_false, choice_waits, guard_true, guard_false, guard_waits, let_bound, Does, register_update, update_waits, if_true, if_false, if_waits, when_true, when_false, when_waits, parallel, parallel_twice, parallel_left_waits, parallel_right_waits, sequence, sequence_first_waits, sequence_second_waits, let_action, local_ready, local_waits}
use Rattle.outcome.proofs.Shared.{apart_below, written_twice, not_shared, is_shared}

waits_after : {A B : Type 0} (x : Given A) → ◌≡◌ {A = Given B} (and_ready x (λ y. not_ready)) not_ready
waits_after (ready x) = refl
waits_after not_ready = refl

-- By the rules the definition's value is given.
module _ (store : List ℕ) (so_far : Writes) where
  operate_gives : (bound : Bindings) (o : ℕ) (a b : Expr) (x y : Given ℕ) → Gives store so_far bound a x → Gives store so_far bound b y →
      Gives store so_far bound (Operate o a b) (and_ready x (λ l. and_ready y (λ r. ready (operated o l r))))
  operate_gives bound o a b (ready x) (ready y) p q = operator o p q
  operate_gives bound o a b (ready x) not_ready p q = operator_right_waits o a q
  operate_gives bound o a b not_ready y p q = operator_left_waits o b p

  choose_gives : (bound : Bindings) (c a b : Expr) (t x y : Given ℕ) → Gives store so_far bound c t → Gives store so_far bound a x →
      Gives store so_far bound b y → Gives store so_far bound (Choose c a b) (and_ready t (λ n. where_true n x y))
  choose_gives bound c a b not_ready x y p q r = choice_waits a b p
  choose_gives bound c a b (ready n) x y p q r = go (eqb n 0) refl
    where
      go : (z : Bool) → eqb n 0 ≡ z → Gives store so_far bound (Choose c a b) (cond z y x)
      go true e = choice_false a (subst (λ (m : ℕ). Gives store so_far bound c (ready m)) (eqb-true n 0 e) p) r
      go false e = choice_true b p (eqb-false n 0 e) q

  guard_gives : (bound : Bindings) (a c : Expr) (x t : Given ℕ) → Gives store so_far bound a x → Gives store so_far bound c t →
      Gives store so_far bound (Guard a c) (and_ready t (λ n. where_true n x not_ready))
  guard_gives bound a c x not_ready p q = guard_waits a q
  guard_gives bound a c x (ready n) p q = go (eqb n 0) refl
    where
      go : (z : Bool) → eqb n 0 ≡ z → Gives store so_far bound (Guard a c) (cond z not_ready x)
      go true e = guard_false a (subst (λ (m : ℕ). Gives store so_far bound c (ready m)) (eqb-true n 0 e) q)
      go false e = guard_true q (eqb-false n 0 e) p

  pub value_given : (bound : Bindings) (e : Expr) → Gives store so_far bound e (value store so_far bound e)
  value_given bound (Fetch r) = register_read r
  value_given bound (Constant k n) = constant k n
  value_given bound (Variable t) = variable t
  value_given bound (Operate o a b) =
      operate_gives bound o a b (value store so_far bound a) (value store so_far bound b) (value_given bound a) (value_given bound b)
  value_given bound (Choose c a b) =
      choose_gives bound c a b (value store so_far bound c) (value store so_far bound a) (value store so_far bound b)
      (value_given bound c) (value_given bound a) (value_given bound b)
  value_given bound (Guard a c) =
      guard_gives bound a c (value store so_far bound a) (value store so_far bound c) (value_given bound a) (value_given bound c)
  value_given bound (Let k a b) = let_bound k (value_given bound a) (value_given (bound ++ (value store so_far bound a ∷ [])) b)

  -- And it alone.
  pub value_only : {bound : Bindings} {e : Expr} {r : Given ℕ} → Gives store so_far bound e r → r ≡ value store so_far bound e
  value_only (register_read r) = refl
  value_only (constant k n) = refl
  value_only (variable t) = refl
  value_only (operator o p q) = rw (sym (value_only p), sym (value_only q))
  value_only (operator_left_waits o b p) = rw (sym (value_only p))
  value_only (operator_right_waits {bound} o a p) =
      sym (waits_after (value store so_far bound a))
      ∙ ap (λ (y : Given ℕ). and_ready (value store so_far bound a) (λ l. and_ready y (λ r. ready (operated o l r)))) (value_only p)
  value_only (choice_true b {t} p some q) = rw (sym (value_only p), ne_eqb t 0 some) (value_only q)
  value_only (choice_false a p q) = rw (sym (value_only p)) (value_only q)
  value_only (choice_waits a b p) = rw (sym (value_only p))
  value_only (guard_true {t} p some q) = rw (sym (value_only p), ne_eqb t 0 some) (value_only q)
  value_only (guard_false a p) = rw (sym (value_only p))
  value_only (guard_waits a p) = rw (sym (value_only p))
  value_only (let_bound k p q) = rw (sym (value_only p)) (value_only q)

module _ (store : List ℕ) where
  if_does : (so_far : Writes) (bound : Bindings) (c : Expr) (a : Action) (t : Given ℕ) (w : Given Writes) → Gives store so_far bound c t →
      Does store so_far bound a w → Does store so_far bound (If c a) (and_ready t (λ n. where_true n w (ready no_writes)))
  if_does so_far bound c a not_ready w p q = if_waits a p
  if_does so_far bound c a (ready n) w p q = go (eqb n 0) refl
    where
      go : (z : Bool) → eqb n 0 ≡ z → Does store so_far bound (If c a) (cond z (ready no_writes) w)
      go true e = if_false a (subst (λ (m : ℕ). Gives store so_far bound c (ready m)) (eqb-true n 0 e) p)
      go false e = if_true p (eqb-false n 0 e) q

  when_does : (so_far : Writes) (bound : Bindings) (a : Action) (c : Expr) (w : Given Writes) (t : Given ℕ) → Does store so_far bound a w →
      Gives store so_far bound c t → Does store so_far bound (When a c) (and_ready t (λ n. where_true n w not_ready))
  when_does so_far bound a c w not_ready p q = when_waits a q
  when_does so_far bound a c w (ready n) p q = go (eqb n 0) refl
    where
      go : (z : Bool) → eqb n 0 ≡ z → Does store so_far bound (When a c) (cond z not_ready w)
      go true e = when_false a (subst (λ (m : ℕ). Gives store so_far bound c (ready m)) (eqb-true n 0 e) q)
      go false e = when_true q (eqb-false n 0 e) p

  assign_does : (so_far : Writes) (bound : Bindings) (r : ℕ) (e : Expr) (v : Given ℕ) → Gives store so_far bound e v →
      Does store so_far bound (Assign r e) (and_ready v (λ n. ready (one_write r n)))
  assign_does so_far bound r e (ready v) p = register_update r p
  assign_does so_far bound r e not_ready p = update_waits r p

  parallel_does : (so_far : Writes) (bound : Bindings) (a b : Action) (x y : Given Writes) → Does store so_far bound a x →
      Does store so_far bound b y → Does store so_far bound (Parallel a b) (and_ready x (λ p. and_ready y (λ q. joined p q)))
  parallel_does so_far bound a b not_ready y d e = parallel_left_waits b d
  parallel_does so_far bound a b (ready p) not_ready d e = parallel_right_waits a e
  parallel_does so_far bound a b (ready p) (ready q) d e = go (shared p q) refl
    where
      go : (z : Bool) → shared p q ≡ z → Does store so_far bound (Parallel a b) (cond z not_ready (ready (over q p)))
      go true s = let k = written_twice 64 p q s in parallel_twice d e k.0 k.1 k.2 k.3
      go false s = parallel d e (apart_below 64 p q s)

  local_does : (so_far : Writes) (bound : Bindings) (a : Action) (w : Given Writes) → Does store so_far bound a w →
      Does store so_far bound (Local a) (or_none w)
  local_does so_far bound a (ready p) d = local_ready d
  local_does so_far bound a not_ready d = local_waits d

  sequence_does : (so_far : Writes) (bound : Bindings) (a b : Action) (x : Given Writes) (second : Writes → Given Writes) →
      Does store so_far bound a x → ((p : Writes) → Does store (over p so_far) bound b (second p)) →
      Does store so_far bound (Sequence a b) (and_ready x (λ p. and_ready (second p) (λ q. ready (over q p))))
  sequence_does so_far bound a b not_ready second d e = sequence_first_waits b d
  sequence_does so_far bound a b (ready p) second d e = go (second p) (e p)
    where
      go : (y : Given Writes) → Does store (over p so_far) bound b y →
          Does store so_far bound (Sequence a b) (and_ready y (λ q. ready (over q p)))
      go (ready q) f = sequence d f
      go not_ready f = sequence_second_waits d f

  pub writes_given : (so_far : Writes) (bound : Bindings) (a : Action) → Does store so_far bound a (writes store so_far bound a)
  writes_given so_far bound (Assign r e) = assign_does so_far bound r e (value store so_far bound e) (value_given store so_far bound e)
  writes_given so_far bound (If c a) =
      if_does so_far bound c a (value store so_far bound c) (writes store so_far bound a) (value_given store so_far bound c) (writes_given so_far bound a)
  writes_given so_far bound (Parallel a b) =
      parallel_does so_far bound a b (writes store so_far bound a) (writes store so_far bound b) (writes_given so_far bound a) (writes_given so_far bound b)
  writes_given so_far bound (Sequence a b) =
      sequence_does so_far bound a b (writes store so_far bound a) (λ p. writes store (over p so_far) bound b)
      (writes_given so_far bound a) (λ p. writes_given (over p so_far) bound b)
  writes_given so_far bound (When a c) =
      when_does so_far bound a c (writes store so_far bound a) (value store so_far bound c) (writes_given so_far bound a) (value_given store so_far bound c)
  writes_given so_far bound (LetIn k e a) =
      let_action k (value_given store so_far bound e) (writes_given so_far (bound ++ (value store so_far bound e ∷ [])) a)
  writes_given so_far bound (Local a) = local_does so_far bound a (writes store so_far bound a) (writes_given so_far bound a)

  pub writes_only : {so_far : Writes} {bound : Bindings} {a : Action} {w : Given Writes} → Does store so_far bound a w →
      w ≡ writes store so_far bound a
  writes_only (register_update {so_far} r p) = rw (sym (value_only store so_far p))
  writes_only (update_waits {so_far} r p) = rw (sym (value_only store so_far p))
  writes_only (if_true {so_far} {t} p some d) = rw (sym (value_only store so_far p), ne_eqb t 0 some) (writes_only d)
  writes_only (if_false {so_far} a p) = rw (sym (value_only store so_far p))
  writes_only (if_waits {so_far} a p) = rw (sym (value_only store so_far p))
  writes_only (when_true {so_far} {t} p some d) = rw (sym (value_only store so_far p), ne_eqb t 0 some) (writes_only d)
  writes_only (when_false {so_far} a p) = rw (sym (value_only store so_far p))
  writes_only (when_waits {so_far} a p) = rw (sym (value_only store so_far p))
  writes_only (parallel {p} {q} d e apart) = rw (sym (writes_only d), sym (writes_only e), not_shared 64 p q apart)
  writes_only (parallel_twice {p} {q} d e r less x y) = rw (sym (writes_only d), sym (writes_only e), is_shared 64 p q r less x y)
  writes_only (parallel_left_waits b d) = rw (sym (writes_only d))
  writes_only (parallel_right_waits {so_far} {bound} a d) =
      sym (waits_after (writes store so_far bound a))
      ∙ ap (λ (y : Given Writes). and_ready (writes store so_far bound a) (λ p. and_ready y (λ q. joined p q))) (writes_only d)
  writes_only (sequence d e) = rw (sym (writes_only d), sym (writes_only e))
  writes_only (sequence_first_waits b d) = rw (sym (writes_only d))
  writes_only (sequence_second_waits d e) = rw (sym (writes_only d), sym (writes_only e))
  writes_only (let_action {so_far} k p d) = rw (sym (value_only store so_far p)) (writes_only d)
  writes_only (local_ready d) = rw (sym (writes_only d))
  writes_only (local_waits d) = rw (sym (writes_only d))

-- The operational rules and the definition agree.
pub rules_agree : RulesAgree
rules_agree = record {
  value_given = value_given;
  value_only = λ store so_far bound e r d. value_only store so_far d;
  writes_given = writes_given;
  writes_only = λ store so_far bound a w d. writes_only store d;
}
