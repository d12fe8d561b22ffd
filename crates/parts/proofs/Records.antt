-- The body of a rule that was encoded.
use Rattle.std.proofs.Common.{◌≡◌, ℕ, ◌+◌, ◌*◌, ◌/◌, ◌%◌, ◌≤◌, List, [], ◌++◌, length, Some, refl, arith, length-append, le-leb}
use Rattle.std.proofs.lemmas.List.{take_at, drop_at}
use Rattle.program.specs.Tree.{Action}
use Rattle.program.specs.Encoding.{action_bytes, rule_bytes}
use Rattle.checker.proofs.Accepts.{action_front}
use Rattle.parts.specs.Parts.{body_of}

pub body_again : (a : Action) (s : List ℕ) → body_of (rule_bytes a s) ≡ Some (action_bytes a [], s)
body_again a s =
    let n : ℕ = length (action_bytes a []) in
    let long : n / 256 * 256 + n % 256 ≡ n = omega arith in
    let room : n ≤ length (action_bytes a [] ++ s) = simp length-append (omega arith) in
    rw (
      long,
      action_front a s,
      le-leb n (length (action_bytes a [] ++ s)) room,
      take_at (action_bytes a []) s n refl,
      drop_at (action_bytes a []) s n refl,
    )
