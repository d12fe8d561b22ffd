-- What proofreading answers for every string of bytes, every number of a rule and every list of values, and what it leaves in the list.
use Rattle.std.specs.Prelude.{ℕ, zero, suc, Bool, true, false, cond, List, [], ◌∷◌, Some, None, Ok, Err, Option, Result}
use Rattle.terms.specs.declared.kind.Kind.{Kind}
use Rattle.terms.specs.declared.refusal.Fault.{Fault}
use Rattle.terms.specs.Answers.{Says, answers, refuses}
use Rattle.terms.specs.Kinds.{fits}
use Rattle.terms.specs.Refusals.{number}
use Rattle.program.specs.declared.examine.Counts.{Counts}
use Rattle.program.specs.Tree.{Action}
use Rattle.program.specs.Typing.{kinds_of}
use Rattle.program.specs.Decoding.{program_of}
use Rattle.program.specs.Verdict.{verdict}
use Rattle.outcome.specs.Writes.{Writes, mask, after}
use Rattle.outcome.specs.Outcome.{Given, ready, not_ready, outcome}

-- What proofreading says, and the values in the list. A rule is ready, and then there is the mask of the registers that it writes,
-- or it is not ready.
abbrev pub Read : Type 0
Read = Says (Given ℕ) × List ℕ

-- The list has just one value for each register, and each value fits its register's kind: a truth is at most 1.
abbrev pub values_fit : List Kind → List ℕ → Bool
values_fit [] [] = true
values_fit [] (v ∷ vs) = false
values_fit (k ∷ ks) [] = false
values_fit (k ∷ ks) (v ∷ vs) = cond (fits k v) (values_fit ks vs) false

-- The rule of a number, where it is there. Rules count from 0.
abbrev pub rule_at : List Action → ℕ → Option Action
rule_at [] n = None
rule_at (a ∷ us) zero = Some a
rule_at (a ∷ us) (suc n) = rule_at us n

-- A rule that is ready: the mask of the registers that it writes, and its writes are made in the list. Otherwise the list stays.
abbrev pub found : List ℕ → Given Writes → Read
found values (ready w) = (answers (ready (mask w)), after w values)
found values not_ready = (answers not_ready, values)

-- Of a rule that is there: the list is asked for first.
abbrev pub of_rule : List Kind → List ℕ → Option Action → Read
of_rule kinds values (Some a) = cond (values_fit kinds values) (found values (outcome values a)) (refuses 18 None, values)
of_rule kinds values None = (refuses 14 None, values)

-- Of a program that the check accepts.
abbrev pub of_program : List ℕ → ℕ → List ℕ → Result Counts Fault → Read
of_program bytes rule values (Ok counts) =
    of_rule (kinds_of (program_of bytes).registers) values (rule_at (program_of bytes).rules rule)
of_program bytes rule values (Err fault) = (refuses (number fault.refusal) (Some fault.place), values)

-- The check is asked first, and its refusal is the call's, place and all.
abbrev pub proofreading : List ℕ → ℕ → List ℕ → Read
proofreading bytes rule values = of_program bytes rule values (verdict bytes)
