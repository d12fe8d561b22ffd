use Rattle.std.proofs.Common.{◌≡◌, true, false, Option, ℕ, rules, tests}
use Rattle.std.proofs.lemmas.Iterator.{cases_from_any, YieldsList-from_slice, YieldsList-from_zip}
use Rattle.outcome.specs.Writes.{is_write, both}
use Rattle.outcome.proofs.Arrays.{shared_is}
use Rattle.outcome.proofs.writes.Kept.shares.Goals as goal

pub returns : goal.returns
returns c =
    let xs = c.args.self.now.values in
    let ys = c.args.other.now.values in
    shared_is c.any.result xs ys (search rules) (search rules)
    (cases_from_any c.any.new.self _ _ (λ (p : Option ℕ × Option ℕ). both (is_write p.0) (is_write p.1) ≡ true)
    (λ (p : Option ℕ × Option ℕ). both (is_write p.0) (is_write p.1) ≡ false) c.any.ensures.ran
    (YieldsList-from_zip (YieldsList-from_slice xs cc) (YieldsList-from_slice ys cc))
    (λ x q k. search (rules, tests)) (λ x q k. search (rules, tests)))
