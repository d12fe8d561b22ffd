use Rattle.std.proofs.Common.{arith, rules}
use Rattle.command.proofs.Texts.{stripped_within, so_far_none, so_far_more, so_far_mistaken}
use Rattle.command.proofs.hex.decode.Goals as goal

pub loop-rest-init : goal.loop-rest-init
loop-rest-init c = rw (c.new-bytes.ensures.items, c.strip-rest.ensures) (so_far_none c.args.text.now)

pub returns-in_err-byte : goal.returns-in_err-byte
returns-in_err-byte c =
    let e = so_far_mistaken c.loop-rest.bytes.items c.loop-rest.rest.now _ c.in_err-byte.field-0.0 c.loop-rest.invariant (search rules) c.in_err-byte.ensures.is in
    search rules

pub loop-rest-preserved : goal.loop-rest-preserved
loop-rest-preserved c =
    rw (c.in_ok-push.ensures.items, c.strip-rest-in-loop-rest.ensures)
    (so_far_more c.loop-rest.bytes.items c.loop-rest.rest.now _ c.in_ok-byte.byte c.in_ok-byte.behind.now c.loop-rest.invariant (search rules) c.in_ok-byte.ensures.is)

pub loop-rest-smaller : goal.loop-rest-smaller
loop-rest-smaller c = let within = stripped_within c.in_ok-byte.behind.now in grind (arith, c.in_ok-byte.ensures.shorter)
