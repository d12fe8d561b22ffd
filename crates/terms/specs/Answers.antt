-- What a call says: its answer, or that it refuses, by the number of the question that was answered no.
use Rattle.std.specs.Prelude.{ℕ, Some, None, Ok, Err, Option, Result}
use Rattle.terms.specs.declared.refusal.Refused.{Refused}
use Rattle.terms.specs.declared.refusal.Refused.TheVariants.{Program, Rule, Values}
use Rattle.terms.specs.Refusals.{refused_number}

-- A refusal by one of the check's questions has the place of the byte at fault too.
pub data Says (A : Type 0) : Type 0 where
  answers : A → Says A
  refuses : ℕ → Option ℕ → Says A

-- The place of a refusal, where it has one.
abbrev pub refused_place : Refused → Option ℕ
refused_place (Program f) = Some f.place
refused_place Rule = None
refused_place Values = None

-- What a result of the code stands for, where `of` says what its answers stand for.
abbrev pub stands_for : {A B : Type 0} → (A → B) → Result A Refused → Says B
stands_for of (Ok x) = answers (of x)
stands_for of (Err e) = refuses (refused_number e) (refused_place e)
