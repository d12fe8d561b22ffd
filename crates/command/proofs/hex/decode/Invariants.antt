use Rattle.std.proofs.Common.{length, vec_items}
use Rattle.command.specs.Digits.{bytes_of}
use Rattle.command.proofs.Texts.{SoFar}
use Rattle.command.proofs.hex.decode.Given as goal

abbrev pub invariant-loop-rest : goal.invariant-loop-rest
invariant-loop-rest l = SoFar (vec_items l.bytes) l.rest (bytes_of l.fn.text)

abbrev pub decreases-loop-rest : goal.decreases-loop-rest
decreases-loop-rest l = length l.rest
