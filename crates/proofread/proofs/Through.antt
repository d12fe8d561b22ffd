-- What proofreading finds on the bytes of an accepted program is what the program's rules give.
use Rattle.std.proofs.Common.{◌≡◌, ℕ, zero, suc, ◌<◌, ◌≤◌, Bool, true, false, cond, ltb, List, [], ◌∷◌, length, get_or, w8, Fits, Some, None, Ok, Err, Result, refl, ap, ◌∙◌, arith, ltb-false, ltb-true}
use lib.ListN.{length-map}
use Rattle.terms.specs.declared.kind.Kind.{Kind}
use Rattle.terms.specs.declared.refusal.Fault.{Fault}
use Rattle.terms.specs.Answers.{refuses}
use Rattle.terms.specs.Kinds.{fits}
use Rattle.program.specs.declared.examine.Counts.{Counts}
use Rattle.program.specs.Tree.{Action, Register, Program}
use Rattle.program.specs.Encoding.{action_bytes, register_bytes, rule_bytes, entry_bytes, all_bytes, encode}
use Rattle.program.specs.Typing.{All, kinds_of, GoodRule, SomeUpTo, WellFormed}
use Rattle.program.specs.Decoding.{register_of, program_of}
use Rattle.program.specs.Verdict.{verdict}
use Rattle.checker.specs.Accepted.{Bytes}
use Rattle.checker.proofs.Decode.{register_again}
use Rattle.checker.proofs.Decoded.{each, decoded}
use Rattle.parts.proofs.Records.{body_again}
use Rattle.outcome.specs.Outcome.{outcome}
use Rattle.outcome.specs.Working.{body_worked}
use Rattle.outcome.proofs.Again.{gives_outcome}
use Rattle.proofread.specs.Proofreading.{Read, found, values_fit, rule_at, of_rule, of_program, proofreading}
use Rattle.proofread.specs.Steps.{fitting, body_at, read_rules, read_accepted, read_through}

-- The registers that were encoded, before what is no register.
fitting_again : (rs : List Register) (vs s : List ℕ) → register_of s ≡ None →
    fitting vs (all_bytes register_bytes rs s) ≡ cond (values_fit (kinds_of rs) vs) (Some s) None
fitting_again [] [] s stop = rw stop
fitting_again [] (v ∷ vs) s stop = rw stop
fitting_again (r ∷ rs) [] s stop = rw (register_again r (all_bytes register_bytes rs s))
fitting_again (r ∷ rs) (v ∷ vs) s stop =
    rw (register_again r (all_bytes register_bytes rs s)) (go (fits r.kind v) (fitting_again rs vs s stop))
  where
    go : (t : Bool) → fitting vs (all_bytes register_bytes rs s) ≡ cond (values_fit (kinds_of rs) vs) (Some s) None →
        cond t (fitting vs (all_bytes register_bytes rs s)) None ≡ cond (cond t (values_fit (kinds_of rs) vs) false) (Some s) None
    go true e = e
    go false e = refl

-- A rule that is there: it is good, and its body is found.
record There (kinds : List Kind) (us : List Action) (n : ℕ) (s : List ℕ) : Type 0 where
  rule : Action
  is : rule_at us n ≡ Some rule
  good : GoodRule kinds rule
  body : body_at n (all_bytes rule_bytes us s) ≡ Some (action_bytes rule [])

there : (kinds : List Kind) (us : List Action) (n : ℕ) (s : List ℕ) → All (GoodRule kinds) us → n < length us → There kinds us n s
unfolding body_at
there kinds [] n s good less = absurd (omega arith)
there kinds (u ∷ us) zero s good less =
    record { rule = u; is = refl; good = good.0; body = rw (body_again u (all_bytes rule_bytes us s)) }
there kinds (u ∷ us) (suc n) s good less =
    let t = there kinds us n s good.1 (omega arith) in
    record { rule = t.rule; is = t.is; good = t.good; body = rw (body_again u (all_bytes rule_bytes us s)) t.body }

not_there : (us : List Action) (n : ℕ) → length us ≤ n → rule_at us n ≡ None
not_there [] n more = refl
not_there (u ∷ us) zero more = absurd (omega arith)
not_there (u ∷ us) (suc n) more = not_there us n (omega arith)

module _ (rule : ℕ) (values : List ℕ) where
  -- A rule that is there gives its outcome, where the list fits.
  found_there : (kinds : List Kind) (us : List Action) (s : List ℕ) → length kinds ≤ 64 → (t : There kinds us rule s) → (fit : Bool) →
      read_rules rule values (cond fit (Some (all_bytes rule_bytes us s)) None)
      ≡ cond fit (found values (outcome values t.rule)) (refuses 18 None, values)
  found_there kinds us s few t true = rw (t.body, gives_outcome values (action_bytes t.rule []) (body_worked values (action_bytes t.rule [])) refl kinds t.rule few t.good refl)
  found_there kinds us s few t false = refl

  accepted : (p : Program) → WellFormed p →
      cond (ltb rule (length p.rules)) (read_rules rule values (fitting values (encode p))) (refuses 14 None, values)
      ≡ of_rule (kinds_of p.registers) values (rule_at p.rules rule)
  accepted p good = go p.registers p.rules good.some_registers good.some_rules good.good_rules
    where
      behind : List ℕ
      behind = all_bytes entry_bytes p.entries []

      by : (rs : List Register) (us : List Action) → length (kinds_of rs) ≤ 64 → All (GoodRule (kinds_of rs)) us →
          register_of (all_bytes rule_bytes us behind) ≡ None → (t : Bool) → ltb rule (length us) ≡ t →
          cond t (read_rules rule values (fitting values (all_bytes register_bytes rs (all_bytes rule_bytes us behind)))) (refuses 14 None, values)
          ≡ of_rule (kinds_of rs) values (rule_at us rule)
      by rs us few all stop true e =
          let t = there (kinds_of rs) us rule behind all (ltb-true rule (length us) e) in
          rw (fitting_again rs values (all_bytes rule_bytes us behind) stop, t.is)
          (found_there (kinds_of rs) us behind few t (values_fit (kinds_of rs) values))
      by rs us few all stop false e = rw (not_there us rule (omega (arith, ltb-false rule (length us) e)))

      go : (rs : List Register) (us : List Action) → SomeUpTo 64 rs → SomeUpTo 32 us → All (GoodRule (kinds_of rs)) us →
          cond (ltb rule (length us)) (read_rules rule values (fitting values (all_bytes register_bytes rs (all_bytes rule_bytes us behind))))
          (refuses 14 None, values)
          ≡ of_rule (kinds_of rs) values (rule_at us rule)
      go rs [] x y all = absurd (omega arith)
      go rs (u ∷ us) x y all =
          let many : length (kinds_of rs) ≡ length rs = length-map rs (λ (r : Register). r.kind) in
          by rs (u ∷ us) (omega arith) all refl (ltb rule (length (u ∷ us))) refl

  pub through : (bytes : List ℕ) → Bytes bytes → read_through bytes rule values ≡ proofreading bytes rule values
  through bytes all = go (verdict bytes) refl
    where
      go : (v : Result Counts Fault) → verdict bytes ≡ v → read_accepted bytes rule values v ≡ of_program bytes rule values v
      go (Err fault) e = refl
      go (Ok c) e =
          let d = decoded bytes c all e in
          let p : Program = program_of bytes in
          ap (λ (n : ℕ). cond (ltb rule n) (read_rules rule values (fitting values bytes)) (refuses 14 None, values)) (ap (λ (k : Counts). k.rules) d.1)
          ∙ ap (λ (b : List ℕ). cond (ltb rule (length p.rules)) (read_rules rule values (fitting values b)) (refuses 14 None, values)) d.0.1
          ∙ accepted p d.0.0

-- What is read through on a slice of bytes is what proofreading says.
pub reads : (bytes : List ℕ) (rule : ℕ) (values : List ℕ) (x : Read) → ((i : ℕ) → Fits w8 (get_or bytes i 0)) →
    x ≡ read_through bytes rule values → x ≡ proofreading bytes rule values
reads bytes rule values x all e = e ∙ through rule values bytes (each bytes all)
