-- The bytes of a program. Each function writes its part in front of the bytes that come behind.
use Rattle.std.specs.Prelude.{ℕ, ◌/◌, ◌%◌, List, [], ◌∷◌, length}
use Rattle.terms.specs.declared.kind.Kind.{Kind}
use Rattle.terms.specs.declared.kind.Kind.TheVariants.{Truth, Word}
use Rattle.terms.specs.Kinds.{kind_byte}
use Rattle.program.specs.Tree.{Expr, Fetch, Constant, Variable, Operate, Choose, Guard, Let, Action, Assign, If, Parallel, Sequence, When, LetIn, Local, Register, Entry, Program}

-- A number of two bytes and one of four, the highest first.
abbrev pub two_bytes : ℕ → List ℕ → List ℕ
two_bytes n s = n / 256 ∷ (n % 256 ∷ s)

abbrev pub four_bytes : ℕ → List ℕ → List ℕ
four_bytes n s = n / 16777216 ∷ (n / 65536 % 256 ∷ (n / 256 % 256 ∷ (n % 256 ∷ s)))

-- A constant is 03 and its truth, or 02 and its word.
abbrev pub constant_bytes : Kind → ℕ → List ℕ → List ℕ
constant_bytes Truth n s = 3 ∷ (n ∷ s)
constant_bytes Word n s = 2 ∷ four_bytes n s

-- An expression: its node's byte, then its parts.
abbrev pub expr_bytes : Expr → List ℕ → List ℕ
expr_bytes (Fetch r) s = 1 ∷ (r ∷ s)
expr_bytes (Constant k n) s = constant_bytes k n s
expr_bytes (Variable t) s = 4 ∷ (t ∷ s)
expr_bytes (Operate o a b) s = 5 ∷ (o ∷ expr_bytes a (expr_bytes b s))
expr_bytes (Choose c a b) s = 6 ∷ expr_bytes c (expr_bytes a (expr_bytes b s))
expr_bytes (Guard a c) s = 7 ∷ expr_bytes a (expr_bytes c s)
expr_bytes (Let k a b) s = 8 ∷ (kind_byte k ∷ expr_bytes a (expr_bytes b s))

-- An action likewise.
abbrev pub action_bytes : Action → List ℕ → List ℕ
action_bytes (Assign r e) s = 17 ∷ (r ∷ expr_bytes e s)
action_bytes (If c a) s = 18 ∷ expr_bytes c (action_bytes a s)
action_bytes (Parallel a b) s = 19 ∷ action_bytes a (action_bytes b s)
action_bytes (Sequence a b) s = 20 ∷ action_bytes a (action_bytes b s)
action_bytes (When a c) s = 21 ∷ action_bytes a (expr_bytes c s)
action_bytes (LetIn k e a) s = 22 ∷ (kind_byte k ∷ expr_bytes e (action_bytes a s))
action_bytes (Local a) s = 23 ∷ action_bytes a s

-- A register is 52 47, its kind and its initial value.
abbrev pub register_bytes : Register → List ℕ → List ℕ
register_bytes r s = 82 ∷ (71 ∷ (kind_byte r.kind ∷ four_bytes r.initial s))

-- A rule is 52 4C, the length of its body and the body.
abbrev pub rule_bytes : Action → List ℕ → List ℕ
rule_bytes a s = 82 ∷ (76 ∷ two_bytes (length (action_bytes a [])) (action_bytes a s))

-- An entry is 53 45, the number of its rule and its mask of blockers.
abbrev pub entry_bytes : Entry → List ℕ → List ℕ
entry_bytes e s = 83 ∷ (69 ∷ (e.rule ∷ four_bytes e.blockers s))

-- A row of records.
abbrev pub all_bytes : {A : Type 0} → (A → List ℕ → List ℕ) → List A → List ℕ → List ℕ
all_bytes f [] s = s
all_bytes f (x ∷ xs) s = f x (all_bytes f xs s)

-- Registers, then rules, then entries.
abbrev pub encode : Program → List ℕ
encode p =
    all_bytes register_bytes p.registers (all_bytes rule_bytes p.rules (all_bytes entry_bytes p.entries []))
