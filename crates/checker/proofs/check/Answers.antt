use Rattle.std.proofs.Common.{sym, ap, ◌∙◌}
use Rattle.program.specs.Decoding.{program_of}
use Rattle.program.specs.Verdict.{verdict}
use Rattle.checker.proofs.Accepts.{accepts}
use Rattle.checker.proofs.Decode.{decodes}
use Rattle.checker.proofs.Decoded.{each, decoded}
use Rattle.checker.proofs.First.{inside, decided, clear_before}
use Rattle.checker.proofs.check.Goals as goal

pub returns : goal.returns
returns c = record {
  is = c.examine.ensures;
  sound = λ n ok. decoded c.args.bytes.now n (each c.args.bytes.now c.type_inv.bytes) (sym c.examine.ensures ∙ ok);
  complete = λ p e.
      (c.examine.ensures ∙ ap verdict e.1 ∙ accepts p e.0, sym (decodes p e.0) ∙ ap program_of (sym e.1));
  first = λ f bad.
      let is = sym c.examine.ensures ∙ bad in
      record {
        inside = inside c.args.bytes.now f is;
        incurable = λ others alike.
            decided c.args.bytes.now others f alike.bytes_fit alike.others_fit alike.beginning is;
        clear_before = λ others g alike wrong.
            clear_before c.args.bytes.now others f g alike.bytes_fit alike.others_fit alike.beginning is wrong;
      };
}
