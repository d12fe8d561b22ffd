-- Proofreading as it goes over the bytes. It is said for all bytes; where no record stands there is nothing.
use Rattle.std.specs.Prelude.{ℕ, zero, suc, cond, List, [], ◌∷◌, Some, None, Ok, Err, Option, Result, nat_lt}
use Rattle.std.specs.Borrow.{Bor}
use Rattle.terms.specs.declared.refusal.Fault.{Fault}
use Rattle.terms.specs.Answers.{answers, refuses}
use Rattle.terms.specs.Refusals.{number}
use Rattle.terms.specs.Kinds.{fits}
use Rattle.program.specs.declared.examine.Counts.{Counts}
use Rattle.program.specs.Decoding.{and_some, register_of}
use Rattle.program.specs.Verdict.{verdict}
use Rattle.parts.specs.Parts.{body_of}
use Rattle.outcome.specs.Writes.{Writes}
use Rattle.outcome.specs.Outcome.{Given, not_ready}
use Rattle.outcome.specs.Working.{body_worked}
use Rattle.proofread.specs.Proofreading.{Read, found}

-- What is behind the registers, where no other register stands there.
abbrev pub no_more : {A : Type 0} → Option A → List ℕ → Option (List ℕ)
no_more (Some r) s = None
no_more None s = Some s

-- What is behind the registers, where each of the values fits one of them and there are no more.
abbrev pub fitting : List ℕ → List ℕ → Option (List ℕ)
fitting [] s = no_more (register_of s) s
fitting (v ∷ vs) s = and_some (register_of s) (λ r. cond (fits r.0.kind v) (fitting vs r.1) None)

-- The body of the rule of a number.
unfoldable pub body_at : ℕ → List ℕ → Option (List ℕ)
body_at zero s = and_some (body_of s) (λ b. Some b.0)
body_at (suc n) s = and_some (body_of s) (λ b. body_at n b.1)

-- What the rule of a number gives.
abbrev pub worked_at : ℕ → List ℕ → List ℕ → Option (Given Writes)
worked_at n values rules = and_some (body_at n rules) (λ b. body_worked values b)

-- What is answered where a body gives this. An accepted program has a body wherever it has a rule, so the last line only makes
-- the definition whole.
abbrev pub found_at : List ℕ → Option (Given Writes) → Read
found_at values (Some w) = found values w
found_at values None = (answers not_ready, values)

-- What is answered where the list fits and these are the bytes of the rules, and where it does not fit.
abbrev pub read_rules : ℕ → List ℕ → Option (List ℕ) → Read
read_rules rule values (Some rules) = found_at values (worked_at rule values rules)
read_rules rule values None = (refuses 18 None, values)

-- What is answered by the check's answer. The rule's number is asked for before the list.
abbrev pub read_accepted : List ℕ → ℕ → List ℕ → Result Counts Fault → Read
read_accepted bytes rule values (Ok counts) =
    cond (nat_lt rule counts.rules) (read_rules rule values (fitting values bytes)) (refuses 14 None, values)
read_accepted bytes rule values (Err fault) = (refuses (number fault.refusal) (Some fault.place), values)

-- What is answered on any bytes. For all of them this is `proofreading`, which speaks of the tree.
abbrev pub read_through : List ℕ → ℕ → List ℕ → Read
read_through bytes rule values = read_accepted bytes rule values (verdict bytes)

-- Bytes that the code answers.
abbrev pub bytes_of : Option (Bor (List ℕ)) → Option (List ℕ)
bytes_of (Some s) = Some s.now
bytes_of None = None
