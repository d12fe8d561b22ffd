-- The records at the front of a program's bytes.
use Rattle.std.specs.Prelude.{◌≡◌, ℕ, ◌+◌, ◌*◌, cond, List, [], length, take, drop, Some, None, Option, nat_le}
use Rattle.std.specs.Borrow.{Bor}
use Rattle.program.specs.Tree as Tree
use Rattle.program.specs.Encoding.{action_bytes, rule_bytes}
use Rattle.program.specs.Verdict.{opening_of, on_rule}
use Rattle.program.specs.Decoding.{and_some, one}
use Rattle.parts.specs.declared.Register.{Register}

-- The first n bytes and those behind them, where there are so many.
abbrev pub parted : ℕ → List ℕ → Option (List ℕ × List ℕ)
parted n s = cond (nat_le n (length s)) (Some (take n s, drop n s)) None

-- The body of the rule at the front of the bytes, as many bytes as its length says, and what is behind it.
abbrev pub body_of : List ℕ → Option (List ℕ × List ℕ)
body_of s =
    on_rule (opening_of s) (λ f. and_some (one f) (λ h. and_some (one h.1) (λ l. parted (h.0 * 256 + l.0) l.1))) None

-- What is taken from the front of a rule's bytes is the bytes of its action.
abbrev pub OfRule : List ℕ → Option (List ℕ × List ℕ) → Type 0
OfRule bytes r = (a : Tree.Action) (s : List ℕ) → bytes ≡ rule_bytes a s → r ≡ Some (action_bytes a [], s)

-- A register that the code answers, with the bytes behind it, in the words of the definitions.
abbrev pub register_taken : Option (Register × Bor (List ℕ)) → Option (Tree.Register × List ℕ)
register_taken (Some x) = Some (record { kind = x.0.kind; initial = x.0.initial }, x.1.now)
register_taken None = None

-- The same of a body.
abbrev pub body_taken : Option (Bor (List ℕ) × Bor (List ℕ)) → Option (List ℕ × List ℕ)
body_taken (Some x) = Some (x.0.now, x.1.now)
body_taken None = None
