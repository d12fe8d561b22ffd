use Rattle.std.proofs.Common.{◌≡◌, ap, ◌∙◌, arith}
use Rattle.std.proofs.lemmas.Grind.{common_steps}
use Rattle.parts.specs.Parts.{body_of, body_taken}
use Rattle.parts.proofs.Records.{body_again}
use Rattle.parts.proofs.take_rule.Goals as goal

pub returns-clause-of_rule : goal.returns-clause-of_rule
returns-clause-of_rule c =
    let is : body_taken c.split_at_checked.result ≡ body_of c.args.bytes.now = grind (arith, common_steps) in
    λ a s same. is ∙ ap body_of same ∙ body_again a s
