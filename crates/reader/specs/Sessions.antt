-- What a session answers to a line, and which manual it has afterwards. A manual is the list of its bytes.
use Rattle.std.specs.Prelude.{◌≡◌, ℕ, ◌⊎◌, List, length, Some, None, Ok, Err, Option, Result}
use Rattle.program.specs.declared.examine.Counts.{Counts}
use Rattle.terms.specs.declared.refusal.Fault.{Fault}
use Rattle.program.specs.Verdict.{verdict}
use Rattle.command.specs.declared.mistake.Mistake.{Mistake}
use Rattle.command.specs.declared.mistake.Mistake.TheVariants.{Memory}
use Rattle.command.specs.Digits.{bytes_of}
use Rattle.command.specs.Lines.{Said, manual, load, check, help}
use Rattle.reader.specs.declared.answer.Answer.{Answer}
use Rattle.reader.specs.declared.answer.Answer.TheVariants.{Manual, Accepted, Help}
use Rattle.reader.specs.declared.failure.Failure.{Failure}
use Rattle.reader.specs.declared.failure.Failure.TheVariants.{Refused, Mistaken, Unread}
use Rattle.reader.specs.declared.failure.Reason.{Reason}

-- What the check's verdict is answered by.
abbrev pub checked : Result Counts Fault → Result Answer Failure
checked (Ok counts) = Ok (Accepted counts)
checked (Err fault) = Err (Refused fault)

-- The manual becomes the bytes that digits stand for, or stays where they are mistaken.
abbrev pub SetTo : Result (List ℕ) Mistake → List ℕ → Result Answer Failure → List ℕ → Type 0
SetTo (Ok bytes) old answer new = (answer ≡ Ok (Manual (length bytes))) × (new ≡ bytes)
SetTo (Err mistake) old answer new = (answer ≡ Err (Mistaken mistake)) × (new ≡ old)

-- The manual becomes what a file holds, or stays where it cannot be read. No definition says what a file holds.
abbrev pub Loaded : List ℕ → Result Answer Failure → List ℕ → Type 0
Loaded old answer new =
    (answer ≡ Ok (Manual (length new))) ⊎ ((reason : Reason) × (answer ≡ Err (Unread reason)) × (new ≡ old))

-- What a command answers, and the manual before and after it. Memory may run out where a manual is set.
abbrev pub Obeyed : Said → List ℕ → Result Answer Failure → List ℕ → Type 0
Obeyed (manual digits) old answer new =
    ((answer ≡ Err (Mistaken Memory)) × (new ≡ old)) ⊎ SetTo (bytes_of digits) old answer new
Obeyed (load name) old answer new = Loaded old answer new
Obeyed check old answer new = (answer ≡ checked (verdict old)) × (new ≡ old)
Obeyed help old answer new = (answer ≡ Ok Help) × (new ≡ old)

-- A command's answer, where there may also be none.
abbrev pub some_answer : Result Answer Failure → Result (Option Answer) Failure
some_answer (Ok answer) = Ok (Some answer)
some_answer (Err failure) = Err failure

-- What a line is answered by. One that gives no command is not answered.
abbrev pub Answered : Result (Option Said) Mistake → List ℕ → Result (Option Answer) Failure → List ℕ → Type 0
Answered (Ok None) old answer new = (answer ≡ Ok None) × (new ≡ old)
Answered (Ok (Some command)) old answer new =
    (given : Result Answer Failure) × (answer ≡ some_answer given) × Obeyed command old given new
Answered (Err mistake) old answer new = (answer ≡ Err (Mistaken mistake)) × (new ≡ old)
