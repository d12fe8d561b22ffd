use Rattle.std.proofs.Common.{rules, codes}
use Rattle.std.proofs.lemmas.Slice.Eq.{text_from_reads}
use Rattle.command.proofs.verb.VerbTryFromRefSliceU8.try_from.Goals as goal

pub returns-in-manual : goal.returns-in-manual
returns-in-manual c = rw (text_from_reads c.args.word.now (codes "manual") (search rules) (search rules))

pub returns-in-check : goal.returns-in-check
returns-in-check c = rw (text_from_reads c.args.word.now (codes "check") (search rules) (search rules))
