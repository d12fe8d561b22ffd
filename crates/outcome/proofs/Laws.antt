-- The laws of parallel actions, sequences and guards.
use Rattle.std.proofs.Common.{◌≡◌, ℕ, Bool, true, false, cond, ◌⊎◌, Some, None, Option, sym, refl, inl, inr, arith}
use Rattle.outcome.specs.Writes.{shared_below, Writes, or_else, over, shared}
use Rattle.outcome.specs.Outcome.{Given, ready, not_ready, and_ready, joined, writes}
use Rattle.outcome.specs.Laws.{WorkedCases, NoDoubleWrite, BranchesAlone, FailureKeepsNothing, SameWrites, BranchesExchange}
use Rattle.outcome.proofs.Agree.{rules_agree}
use Rattle.outcome.proofs.Shared.{apart_below, not_shared, is_shared, written_twice}

pub worked_cases : WorkedCases
unfolding shared_below
worked_cases = record {
  parallel_swap = refl;
  sequence_swap = refl;
  double_write = refl;
  mixed = refl;
  local_guard = refl;
  local_double_write = refl;
  if_waits = refl;
  unused_binding = refl;
  used_binding = refl;
  below_zero = refl;
}

pub no_double_write : NoDoubleWrite
no_double_write store so_far bound a b p q r d e less x y = rw (d, e, is_shared 64 p q r less x y)

ready_ready : {A : Type 0} (x y : A) → ready x ≡ ready y → x ≡ y
ready_ready x y h = cc

not_ready_ready : {A : Type 0} (y : A) → not_ready ≡ ready y → ⊥
not_ready_ready y h = let z : ◌≡◌ {A = ℕ} 0 1 = cc in omega arith

pub branches_alone : BranchesAlone
branches_alone store so_far bound a b w h = go (writes store so_far bound a) (writes store so_far bound b) refl refl h
  where
    go : (x y : Given Writes) → writes store so_far bound a ≡ x → writes store so_far bound b ≡ y →
        and_ready x (λ p. and_ready y (λ q. joined p q)) ≡ ready w →
        (p : Writes) × (q : Writes) × (writes store so_far bound a ≡ ready p) × (writes store so_far bound b ≡ ready q) × (w ≡ over q p)
    go not_ready y d e h = absurd (not_ready_ready w h)
    go (ready p) not_ready d e h = absurd (not_ready_ready w h)
    go (ready p) (ready q) d e h = (p, q, d, e, sym (apart (shared p q) h))
      where
        apart : (z : Bool) → cond z not_ready (ready (over q p)) ≡ ready w → over q p ≡ w
        apart true h = absurd (not_ready_ready w h)
        apart false h = ready_ready (over q p) w h

pub failure_keeps_nothing : FailureKeepsNothing
failure_keeps_nothing store so_far bound a b c p d e = (rw (d, e), rw (d, e))

-- Writes that share no register can be put over one another either way.
either_way : (x y : Option ℕ) → (x ≡ None) ⊎ (y ≡ None) → or_else y x ≡ or_else x y
either_way None None h = refl
either_way None (Some v) h = refl
either_way (Some v) None h = refl
either_way (Some v) (Some u) (inl h) = let z : ◌≡◌ {A = ℕ} 0 1 = cc in absurd (omega arith)
either_way (Some v) (Some u) (inr h) = let z : ◌≡◌ {A = ℕ} 0 1 = cc in absurd (omega arith)

turned : {A B : Type 0} → A ⊎ B → B ⊎ A
turned (inl x) = inr x
turned (inr y) = inl y

exchanged : (p q : Writes) → SameWrites (joined p q) (joined q p)
exchanged p q = go (shared p q) refl
  where
    go : (z : Bool) → shared p q ≡ z → SameWrites (cond z not_ready (ready (over q p))) (joined q p)
    go true e =
        let k = written_twice 64 p q e in rw (is_shared 64 q p k.0 k.1 k.3 k.2) tt
    go false e =
        let apart = apart_below 64 p q e in
        rw (not_shared 64 q p (λ r less. turned (apart r less))) (λ r less. either_way (p r) (q r) (apart r less))

pub branches_exchange : BranchesExchange
branches_exchange store so_far bound a b = go (writes store so_far bound a) (writes store so_far bound b)
  where
    go : (x y : Given Writes) →
        SameWrites (and_ready x (λ p. and_ready y (λ q. joined p q))) (and_ready y (λ q. and_ready x (λ p. joined q p)))
    go (ready p) (ready q) = exchanged p q
    go (ready p) not_ready = tt
    go not_ready (ready q) = tt
    go not_ready not_ready = tt

-- All that is said of the meaning of rules.
pub ruleset laws = (rules_agree, worked_cases, no_double_write, branches_alone, failure_keeps_nothing, branches_exchange)
