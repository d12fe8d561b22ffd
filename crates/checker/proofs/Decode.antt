-- Decoding gives back what was encoded.
use Rattle.std.proofs.Common.{◌≡◌, ℕ, zero, suc, ◌≤◌, List, [], ◌∷◌, length, Some, None, sym, refl, ap, ◌∙◌, arith}
use Rattle.terms.specs.declared.kind.Kind.TheVariants.{Truth, Word}
use Rattle.program.specs.Tree.{Expr, Fetch, Constant, Variable, Operate, Choose, Guard, Let, Action, Assign, If, Parallel, Sequence, When, LetIn, Local, Register, Entry, Program}
use Rattle.program.specs.Encoding.{expr_bytes, action_bytes, register_bytes, rule_bytes, entry_bytes, all_bytes, encode}
use Rattle.program.specs.Typing.{deep, depth, All, SomeUpTo, GoodRule, kinds_of, WellFormed}
use Rattle.program.specs.Decoding.{Decoder, expr_of, action_of, register_of, rule_of, entry_of, row_of, program_of}
use Rattle.checker.proofs.Accepts.{kind_again, four_again}

pub expr_again : (e : Expr) (d : ℕ) (s : List ℕ) → deep e ≤ d → expr_of d (expr_bytes e s) ≡ Some (e, s)
unfolding expr_of
expr_again (Fetch r) zero s p = absurd (omega arith)
expr_again (Fetch r) (suc d) s p = refl
expr_again (Constant k n) zero s p = absurd (omega arith)
expr_again (Constant Truth n) (suc d) s p = refl
expr_again (Constant Word n) (suc d) s p = ap (λ (m : ℕ). Some (Constant Word m, s)) (four_again n)
expr_again (Variable v) zero s p = absurd (omega arith)
expr_again (Variable v) (suc d) s p = refl
expr_again (Operate o a b) zero s p = absurd (omega arith)
expr_again (Operate o a b) (suc d) s p =
    rw (expr_again a d (expr_bytes b s) (omega arith), expr_again b d s (omega arith))
expr_again (Choose c a b) zero s p = absurd (omega arith)
expr_again (Choose c a b) (suc d) s p =
    rw (
      expr_again c d (expr_bytes a (expr_bytes b s)) (omega arith),
      expr_again a d (expr_bytes b s) (omega arith),
      expr_again b d s (omega arith),
    )
expr_again (Guard a c) zero s p = absurd (omega arith)
expr_again (Guard a c) (suc d) s p =
    rw (expr_again a d (expr_bytes c s) (omega arith), expr_again c d s (omega arith))
expr_again (Let k a b) zero s p = absurd (omega arith)
expr_again (Let k a b) (suc d) s p =
    rw (kind_again k, expr_again a d (expr_bytes b s) (omega arith), expr_again b d s (omega arith))

pub action_again : (a : Action) (d : ℕ) (s : List ℕ) → depth a ≤ d → action_of d (action_bytes a s) ≡ Some (a, s)
unfolding action_of
action_again (Assign r e) zero s p = absurd (omega arith)
action_again (Assign r e) (suc d) s p = rw (expr_again e d s (omega arith))
action_again (If c a) zero s p = absurd (omega arith)
action_again (If c a) (suc d) s p =
    rw (expr_again c d (action_bytes a s) (omega arith), action_again a d s (omega arith))
action_again (Parallel a b) zero s p = absurd (omega arith)
action_again (Parallel a b) (suc d) s p =
    rw (action_again a d (action_bytes b s) (omega arith), action_again b d s (omega arith))
action_again (Sequence a b) zero s p = absurd (omega arith)
action_again (Sequence a b) (suc d) s p =
    rw (action_again a d (action_bytes b s) (omega arith), action_again b d s (omega arith))
action_again (When a c) zero s p = absurd (omega arith)
action_again (When a c) (suc d) s p =
    rw (action_again a d (expr_bytes c s) (omega arith), expr_again c d s (omega arith))
action_again (LetIn k e a) zero s p = absurd (omega arith)
action_again (LetIn k e a) (suc d) s p =
    rw (kind_again k, expr_again e d (action_bytes a s) (omega arith), action_again a d s (omega arith))
action_again (Local a) zero s p = absurd (omega arith)
action_again (Local a) (suc d) s p = rw (action_again a d s (omega arith))

pub register_again : (r : Register) (s : List ℕ) → register_of (register_bytes r s) ≡ Some (r, s)
register_again r s = rw (kind_again r.kind, four_again r.initial)

rule_again : (a : Action) (s : List ℕ) → depth a ≤ 24 → rule_of (rule_bytes a s) ≡ Some (a, s)
rule_again a s within = action_again a 24 s within

entry_again : (e : Entry) (s : List ℕ) → entry_of (entry_bytes e s) ≡ Some (e, s)
entry_again e s = rw (four_again e.blockers)

-- A row of records, each of which is decoded, before what is no such record.
row_again : {A : Type 0} (f : Decoder A) (bytes : A → List ℕ → List ℕ) (P : A → Type 0) →
    ((x : A) (s : List ℕ) → P x → f (bytes x s) ≡ Some (x, s)) →
    (xs : List A) (n : ℕ) (s : List ℕ) → All P xs → f s ≡ None → length xs ≤ n → row_of f n (all_bytes bytes xs s) ≡ (xs, s)
unfolding row_of
row_again f bytes P again [] zero s good stop few = refl
row_again f bytes P again [] (suc n) s good stop few = rw stop
row_again f bytes P again (x ∷ xs) zero s good stop few = absurd (omega arith)
row_again f bytes P again (x ∷ xs) (suc n) s good stop few =
    rw (again x (all_bytes bytes xs s) good.0, row_again f bytes P again xs n s good.1 stop (omega arith))

all_of : {A : Type 0} {P Q : A → Type 0} → ((x : A) → P x → Q x) → (xs : List A) → All P xs → All Q xs
all_of f [] all = tt
all_of f (x ∷ xs) all = (f x all.0, all_of f xs all.1)

always : {A : Type 0} (xs : List A) → All (λ (x : A). Unit {0}) xs
always [] = tt
always (x ∷ xs) = (tt, always xs)

pub decodes : (p : Program) → WellFormed p → program_of (encode p) ≡ p
decodes p good =
    go p.registers p.rules p.entries good.some_registers good.some_rules good.some_entries
    (all_of (λ (a : Action) (g : GoodRule (kinds_of p.registers) a). g.depth_within) p.rules good.good_rules)
  where
    go : (rs : List Register) (us : List Action) (es : List Entry) → SomeUpTo 64 rs → SomeUpTo 32 us → SomeUpTo 64 es →
        All (λ (a : Action). depth a ≤ 24) us →
        program_of (encode (record { registers = rs; rules = us; entries = es })) ≡ record { registers = rs; rules = us; entries = es }
    go rs [] es x y z within = absurd (omega arith)
    go rs (u ∷ us) [] x y z within = absurd (omega arith)
    go rs (u ∷ us) (e ∷ es) x y z within =
        let behind : List ℕ = all_bytes entry_bytes (e ∷ es) [] in
        let a = row_again register_of register_bytes (λ (r : Register). Unit {0}) (λ r s t. register_again r s) rs 64
        (all_bytes rule_bytes (u ∷ us) behind) (always rs) refl x.1 in
        let b = row_again rule_of rule_bytes (λ (a : Action). depth a ≤ 24) rule_again (u ∷ us) 32 behind within refl y.1 in
        let c = row_again entry_of entry_bytes (λ (r : Entry). Unit {0}) (λ r s t. entry_again r s) (e ∷ es) 64 [] (always (e ∷ es)) refl z.1 in
        rw (a, b, c)

pub only_one : (p q : Program) → WellFormed p → WellFormed q → encode p ≡ encode q → p ≡ q
only_one p q good fine same = sym (decodes p good) ∙ ap program_of same ∙ decodes q fine
