-- Refusals. Each stands for one question that was answered no, and is shown to people by that question's number.
use Rattle.std.specs.Prelude.{ℕ}
use Rattle.terms.specs.declared.refusal.Refusal.{Refusal}
use Rattle.terms.specs.declared.refusal.Fault.{Fault}
use Rattle.terms.specs.declared.refusal.Refused.{Refused}
use Rattle.terms.specs.declared.refusal.Refused.TheVariants.{Program, Rule, Values}
use Rattle.terms.specs.declared.refusal.Refusal.TheVariants.{Length, Missing, Order, Count, Sort, Name, Nesting, Fill}

-- What is wrong, and where.
abbrev pub fault : Refusal → ℕ → Fault
fault q p = record { refusal = q; place = p }

-- The number of a refusal's question.
abbrev pub number : Refusal → ℕ
number Length = 1
number Missing = 2
number Order = 3
number Count = 4
number Sort = 5
number Name = 6
number Nesting = 7
number Fill = 8

-- The number of a call's refusal: that of the program's fault, or of the call's own question.
abbrev pub refused_number : Refused → ℕ
refused_number (Program f) = number f.refusal
refused_number Rule = 14
refused_number Values = 18
