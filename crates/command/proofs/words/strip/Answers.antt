use Rattle.std.proofs.lemmas.List.{take_rest}
use Rattle.command.proofs.Texts.{stripped_is}
use Rattle.command.proofs.words.strip.Goals as goal

pub returns : goal.returns
returns c = rw (c.margin.ensures, take_rest) (stripped_is c.args.text.now)
