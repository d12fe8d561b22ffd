-- What the readers of records answer, in the words of the definitions.
use Rattle.std.specs.Prelude.{ℕ, cond, List, Ok, Err, Result, ◌==◌}
use Rattle.terms.specs.declared.refusal.Refusal.TheVariants.{Order, Count}
use Rattle.terms.specs.declared.refusal.Fault.{Fault}
use Rattle.terms.specs.declared.kind.Kind.{Kind}
use Rattle.program.specs.declared.record.Opening.{Opening}
use Rattle.tree.specs.Reading.{fault, place}
use Rattle.arrayvec.specs.ArrayVec.{ArrayVec}
use Rattle.program.specs.Verdict as Verdict

-- A mark that was seen, with what is behind it.
abbrev pub seen : Opening → Verdict.Opening
seen (Opening.Register s) = Verdict.register s.now
seen (Opening.Rule s) = Verdict.rule s.now
seen (Opening.Entry s) = Verdict.entry s.now
seen Opening.Unknown = Verdict.unknown
seen Opening.Cut = Verdict.cut

-- The kinds that a reader has noted, as a list.
abbrev pub listed : Result (ArrayVec Kind) Fault → Result (List Kind) Fault
listed (Ok kinds) = Ok kinds.items
listed (Err e) = Err e

-- Whether a record may stand here, behind so many of the sort before and with room for so many more of its own.
abbrev pub allowed : ℕ → ℕ → ℕ → List ℕ → Result (Unit {0}) Fault
allowed end before room s =
    cond (before == 0) (Err (fault Order (place end s))) (cond (room == 0) (Err (fault Count (place end s))) (Ok tt))
