-- The two types of value, here called kinds, and the operators on them.
use Rattle.std.specs.Prelude.{ℕ, ◌^◌, Bool, true, false, cond, Some, None, Option, ◌==◌, nat_lt}
use Rattle.terms.specs.declared.kind.Kind.{Kind}
use Rattle.terms.specs.declared.kind.Kind.TheVariants.{Truth, Word}
use Rattle.terms.specs.declared.kind.Operator.{Operator}
use Rattle.terms.specs.declared.kind.Operator.TheVariants.{Sum, Difference, And, Or, ExclusiveOr, Less, Equal, Both, Either}

-- The byte that stands for a kind.
abbrev pub kind_byte : Kind → ℕ
kind_byte Truth = 0
kind_byte Word = 1

-- The kind that a byte stands for.
abbrev pub kind_of : ℕ → Option Kind
kind_of b = cond (b == 0) (Some Truth) (cond (b == 1) (Some Word) None)

-- Whether two kinds are the same.
abbrev pub same : Kind → Kind → Bool
same Truth Truth = true
same Truth Word = false
same Word Truth = false
same Word Word = true

-- Whether a value is one of the kind: a truth is 0 or 1, a word a number of 32 bits.
abbrev pub fits : Kind → ℕ → Bool
fits Truth v = nat_lt v 2
fits Word v = nat_lt v (2 ^ 32)

-- What an operator takes, twice, and what it gives, by its number.
abbrev pub takes : ℕ → Kind
takes o = cond (nat_lt o 7) Word Truth

abbrev pub gives : ℕ → Kind
gives o = cond (nat_lt o 5) Word Truth

-- There are nine operators: 0 sum, 1 difference, 2 and, 3 or and 4 exclusive or of bits, 5 less, 6 equal, 7 both, 8 either.
abbrev pub operator_of : ℕ → Option Operator
operator_of o =
    cond (o == 0) (Some Sum) (cond (o == 1) (Some Difference) (cond (o == 2) (Some And)
    (cond (o == 3) (Some Or) (cond (o == 4) (Some ExclusiveOr) (cond (o == 5) (Some Less)
    (cond (o == 6) (Some Equal) (cond (o == 7) (Some Both) (cond (o == 8) (Some Either) None))))))))

-- The number of an operator.
abbrev pub operator_number : Operator → ℕ
operator_number Sum = 0
operator_number Difference = 1
operator_number And = 2
operator_number Or = 3
operator_number ExclusiveOr = 4
operator_number Less = 5
operator_number Equal = 6
operator_number Both = 7
operator_number Either = 8

-- What an operator takes and gives.
abbrev pub operand_kind : Operator → Kind
operand_kind o = takes (operator_number o)

abbrev pub value_kind : Operator → Kind
value_kind o = gives (operator_number o)
