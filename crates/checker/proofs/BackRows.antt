-- What is accepted is the encoding of a well-formed program: rows of records, and the whole.
use Rattle.std.proofs.Common.{◌≡◌, ℕ, zero, suc, ◌+◌, ◌≤◌, Bool, true, false, eqb, ltb, List, [], ◌∷◌, ◌++◌, length, Ok, sym, refl, ap, ◌∙◌, subst, append_assoc, append-nil, add-zero, arith, ltb-false, eqb-true}
use lib.ListN.{length-map}
use borrow.Author.Tests.{eqb-false}
use Rattle.terms.specs.declared.refusal.Refusal.TheVariants.{Missing, Order, Count}
use Rattle.program.specs.declared.examine.Counts.{Counts}
use Rattle.terms.specs.declared.kind.Kind.{Kind}
use Rattle.tree.specs.Reading.{Read, fault, place}
use Rattle.program.specs.Tree.{Action, Register, Entry, Program}
use Rattle.program.specs.Encoding.{register_bytes, rule_bytes, entry_bytes, all_bytes, encode}
use Rattle.program.specs.Typing.{All, kinds_of, GoodRegister, GoodRule, GoodEntry, WellFormed}
use Rattle.program.specs.Verdict.{register, rule, entry, unknown, cut, opening_of, register_of, rule_of, entry_of, registers, rules, entries, ended, records_of, verdict}
use Rattle.checker.specs.Accepted.{Bytes, counts}
use Rattle.checker.proofs.Inverses.{err_ok, ok_ok, then_ok, not_ok}
use Rattle.checker.proofs.BackRecords.{register_got, rule_got, entry_got}
use Rattle.checker.proofs.BackTrees.{positive}

-- What stands where a record may begin.
data Shape (s : List ℕ) : Type 0 where
  is_register : (g : List ℕ) → s ≡ 82 ∷ (71 ∷ g) → opening_of s ≡ register g → Shape s
  is_rule : (g : List ℕ) → s ≡ 82 ∷ (76 ∷ g) → opening_of s ≡ rule g → Shape s
  is_entry : (g : List ℕ) → s ≡ 83 ∷ (69 ∷ g) → opening_of s ≡ entry g → Shape s
  is_unknown : opening_of s ≡ unknown → Shape s
  is_cut : opening_of s ≡ cut → Shape s

shape : (s : List ℕ) → Shape s
shape [] = is_cut refl
shape (a ∷ []) = is_cut refl
shape (a ∷ (b ∷ s)) = go (eqb a 82) (eqb b 71) (eqb b 76) (eqb a 83) (eqb b 69) refl refl refl refl refl
  where
    pair : (x y : ℕ) → a ≡ x → b ≡ y → a ∷ (b ∷ s) ≡ x ∷ (y ∷ s)
    pair x y p q = cc

    go : (t1 t2 t3 t4 t5 : Bool) → eqb a 82 ≡ t1 → eqb b 71 ≡ t2 → eqb b 76 ≡ t3 → eqb a 83 ≡ t4 → eqb b 69 ≡ t5 → Shape (a ∷ (b ∷ s))
    go true true t3 t4 t5 e1 e2 e3 e4 e5 = is_register s (pair 82 71 (eqb-true a 82 e1) (eqb-true b 71 e2)) (rw (e1, e2))
    go true false true t4 t5 e1 e2 e3 e4 e5 = is_rule s (pair 82 76 (eqb-true a 82 e1) (eqb-true b 76 e3)) (rw (e1, e2, e3))
    go true false false t4 t5 e1 e2 e3 e4 e5 = is_unknown (rw (e1, e2, e3))
    go false t2 t3 true true e1 e2 e3 e4 e5 = is_entry s (pair 83 69 (eqb-true a 83 e4) (eqb-true b 69 e5)) (rw (e1, e4, e5))
    go false t2 t3 true false e1 e2 e3 e4 e5 = is_unknown (rw (e1, e4, e5))
    go false t2 t3 false t5 e1 e2 e3 e4 e5 = is_unknown (rw (e1, e4))

-- A row of registers, and what is behind it.
record Registers (n : ℕ) (kinds : List Kind) (s : List ℕ) (x : List Kind × List ℕ) : Type 0 where
  row : List Register
  good : All GoodRegister row
  few : length row ≤ n
  all_kinds : x.0 ≡ kinds ++ kinds_of row
  is : s ≡ all_bytes register_bytes row x.1
  rest : Bytes x.1

no_registers : (n : ℕ) (kinds : List Kind) (s : List ℕ) (x : List Kind × List ℕ) → Bytes s →
    ◌≡◌ {A = Read (List Kind)} (Ok (kinds, s)) (Ok x) → Registers n kinds s x
no_registers n kinds s x all h =
    let P : List Kind × List ℕ → Type 0 = λ y. Registers n kinds s y in
    subst P (ok_ok (kinds, s) x h)
    (record { row = []; good = tt; few = omega arith; all_kinds = sym (append-nil kinds); is = refl; rest = all })

module _ (end n : ℕ)
    (inner : (kinds : List Kind) (s : List ℕ) (x : List Kind × List ℕ) → Bytes s → registers n end kinds s ≡ Ok x → Registers n kinds s x)
    (kinds : List Kind) (s : List ℕ) (x : List Kind × List ℕ) (all : Bytes s) (h : registers (suc n) end kinds s ≡ Ok x) where
  more_registers : Shape s → Registers (suc n) kinds s x
  unfolding registers
  more_registers (is_register g e o) =
      let r = then_ok (register_of end g) _ x (rw o at h) in
      let behind : Bytes g = (subst Bytes e all).1.1 in
      let f = register_got end g r.0 behind r.1 in
      let y = inner (kinds ++ (r.0.0 ∷ [])) r.0.1 x f.3 r.2 in
      let first : Register = record { kind = r.0.0; initial = f.0 } in
      let one = f.1 in let others = y.is in
      record {
        row = first ∷ y.row;
        good = (f.2, y.good);
        few = omega (arith, y.few);
        all_kinds = y.all_kinds ∙ append_assoc kinds (r.0.0 ∷ []) (kinds_of y.row);
        is = cc;
        rest = y.rest;
      }
  more_registers (is_rule g e o) = no_registers (suc n) kinds s x all (rw o at h)
  more_registers (is_entry g e o) = no_registers (suc n) kinds s x all (rw o at h)
  more_registers (is_unknown o) = no_registers (suc n) kinds s x all (rw o at h)
  more_registers (is_cut o) = no_registers (suc n) kinds s x all (rw o at h)

registers_got : (end n : ℕ) (kinds : List Kind) (s : List ℕ) (x : List Kind × List ℕ) → Bytes s → registers n end kinds s ≡ Ok x →
    Registers n kinds s x
unfolding registers
registers_got end zero kinds s x all h = go (shape s)
  where
    go : Shape s → Registers zero kinds s x
    go (is_register g e o) = absurd (err_ok (fault Count (place end s)) x (rw o at h))
    go (is_rule g e o) = no_registers zero kinds s x all (rw o at h)
    go (is_entry g e o) = no_registers zero kinds s x all (rw o at h)
    go (is_unknown o) = no_registers zero kinds s x all (rw o at h)
    go (is_cut o) = no_registers zero kinds s x all (rw o at h)
registers_got end (suc n) kinds s x all h = more_registers end n (registers_got end n) kinds s x all h (shape s)

-- A row of rules behind `count` others, and what is behind it.
record Rules (n : ℕ) (kinds : List Kind) (count : ℕ) (s : List ℕ) (x : ℕ × List ℕ) : Type 0 where
  row : List Action
  good : All (GoodRule kinds) row
  few : length row ≤ n
  after_some : 1 ≤ length row → 1 ≤ length kinds
  number : x.0 ≡ count + length row
  is : s ≡ all_bytes rule_bytes row x.1
  rest : Bytes x.1

no_rules : (n : ℕ) (kinds : List Kind) (count : ℕ) (s : List ℕ) (x : ℕ × List ℕ) → Bytes s →
    ◌≡◌ {A = Read ℕ} (Ok (count, s)) (Ok x) → Rules n kinds count s x
no_rules n kinds count s x all h =
    let P : ℕ × List ℕ → Type 0 = λ y. Rules n kinds count s y in
    subst P (ok_ok (count, s) x h)
    (record { row = []; good = tt; few = omega arith; after_some = λ z. absurd (omega arith); number = sym (add-zero count); is = refl; rest = all })

module _ (end : ℕ) (kinds : List Kind) (n : ℕ)
    (inner : (count : ℕ) (s : List ℕ) (x : ℕ × List ℕ) → Bytes s → rules n end kinds count s ≡ Ok x → Rules n kinds count s x)
    (count : ℕ) (s : List ℕ) (x : ℕ × List ℕ) (all : Bytes s) (h : rules (suc n) end kinds count s ≡ Ok x) where
  more_rules : Shape s → Rules (suc n) kinds count s x
  unfolding rules
  more_rules (is_register g e o) = no_rules (suc n) kinds count s x all (rw o at h)
  more_rules (is_rule g e o) =
      let u = not_ok (eqb (length kinds) 0) _ _ x (rw o at h) in
      let r = then_ok (rule_of end kinds g) _ x u.1 in
      let behind : Bytes g = (subst Bytes e all).1.1 in
      let f = rule_got end kinds g r.0 behind r.1 in
      let y = inner (count + 1) r.0 x f.3 r.2 in
      let one = f.2 in let others = y.is in
      record {
        row = f.0 ∷ y.row;
        good = (f.1, y.good);
        few = omega (arith, y.few);
        after_some = λ z. positive (length kinds) (eqb-false (length kinds) 0 u.0);
        number = omega (arith, y.number);
        is = cc;
        rest = y.rest;
      }
  more_rules (is_entry g e o) = no_rules (suc n) kinds count s x all (rw o at h)
  more_rules (is_unknown o) = no_rules (suc n) kinds count s x all (rw o at h)
  more_rules (is_cut o) = no_rules (suc n) kinds count s x all (rw o at h)

rules_got : (end : ℕ) (kinds : List Kind) (n count : ℕ) (s : List ℕ) (x : ℕ × List ℕ) → Bytes s → rules n end kinds count s ≡ Ok x →
    Rules n kinds count s x
unfolding rules
rules_got end kinds zero count s x all h = go (shape s)
  where
    go : Shape s → Rules zero kinds count s x
    go (is_register g e o) = no_rules zero kinds count s x all (rw o at h)
    go (is_rule g e o) =
        let u = not_ok (eqb (length kinds) 0) _ _ x (rw o at h) in absurd (err_ok (fault Count (place end s)) x u.1)
    go (is_entry g e o) = no_rules zero kinds count s x all (rw o at h)
    go (is_unknown o) = no_rules zero kinds count s x all (rw o at h)
    go (is_cut o) = no_rules zero kinds count s x all (rw o at h)
rules_got end kinds (suc n) count s x all h = more_rules end kinds n (rules_got end kinds n) count s x all h (shape s)

-- A row of entries behind `count` others, and what is behind it.
record Entries (n rules count : ℕ) (s : List ℕ) (x : ℕ × List ℕ) : Type 0 where
  row : List Entry
  good : All (GoodEntry rules) row
  few : length row ≤ n
  after_some : 1 ≤ length row → 1 ≤ rules
  number : x.0 ≡ count + length row
  is : s ≡ all_bytes entry_bytes row x.1

no_entries : (n rules count : ℕ) (s : List ℕ) (x : ℕ × List ℕ) → ◌≡◌ {A = Read ℕ} (Ok (count, s)) (Ok x) → Entries n rules count s x
no_entries n rules count s x h =
    let P : ℕ × List ℕ → Type 0 = λ y. Entries n rules count s y in
    subst P (ok_ok (count, s) x h)
    (record { row = []; good = tt; few = omega arith; after_some = λ z. absurd (omega arith); number = sym (add-zero count); is = refl })

module _ (end rules n : ℕ)
    (inner : (count : ℕ) (s : List ℕ) (x : ℕ × List ℕ) → Bytes s → entries n end rules count s ≡ Ok x → Entries n rules count s x)
    (count : ℕ) (s : List ℕ) (x : ℕ × List ℕ) (all : Bytes s) (h : entries (suc n) end rules count s ≡ Ok x) where
  more_entries : Shape s → Entries (suc n) rules count s x
  unfolding entries
  more_entries (is_register g e o) = no_entries (suc n) rules count s x (rw o at h)
  more_entries (is_rule g e o) = no_entries (suc n) rules count s x (rw o at h)
  more_entries (is_entry g e o) =
      let u = not_ok (eqb rules 0) _ _ x (rw o at h) in
      let r = then_ok (entry_of end rules g) _ x u.1 in
      let behind : Bytes g = (subst Bytes e all).1.1 in
      let f = entry_got end rules g r.0 behind r.1 in
      let y = inner (count + 1) r.0 x f.3 r.2 in
      let one = f.2 in let others = y.is in
      record {
        row = f.0 ∷ y.row;
        good = (f.1, y.good);
        few = omega (arith, y.few);
        after_some = λ z. positive rules (eqb-false rules 0 u.0);
        number = omega (arith, y.number);
        is = cc;
      }
  more_entries (is_unknown o) = no_entries (suc n) rules count s x (rw o at h)
  more_entries (is_cut o) = no_entries (suc n) rules count s x (rw o at h)

entries_got : (end rules n count : ℕ) (s : List ℕ) (x : ℕ × List ℕ) → Bytes s → entries n end rules count s ≡ Ok x →
    Entries n rules count s x
unfolding entries
entries_got end rules zero count s x all h = go (shape s)
  where
    go : Shape s → Entries zero rules count s x
    go (is_register g e o) = no_entries zero rules count s x (rw o at h)
    go (is_rule g e o) = no_entries zero rules count s x (rw o at h)
    go (is_entry g e o) =
        let u = not_ok (eqb rules 0) _ _ x (rw o at h) in absurd (err_ok (fault Count (place end s)) x u.1)
    go (is_unknown o) = no_entries zero rules count s x (rw o at h)
    go (is_cut o) = no_entries zero rules count s x (rw o at h)
entries_got end rules (suc n) count s x all h = more_entries end rules n (entries_got end rules n) count s x all h (shape s)

-- A program ends where nothing is left, behind some entries.
ended_got : (end n : ℕ) (s : List ℕ) → ended end n s ≡ Ok tt → (s ≡ []) × (1 ≤ n)
ended_got end n [] h = let u = not_ok (eqb n 0) _ (Ok tt) tt h in (refl, positive n (eqb-false n 0 u.0))
ended_got end n (a ∷ []) h = absurd (err_ok (fault Missing end) tt h)
ended_got end n (a ∷ (b ∷ s)) h = absurd (err_ok (fault Order (place end (a ∷ (b ∷ s)))) tt h)

pub encoded : (bytes : List ℕ) (c : Counts) → Bytes bytes → verdict bytes ≡ Ok c →
    (p : Program) × WellFormed p × (bytes ≡ encode p) × (c ≡ counts p)
encoded bytes c all h =
    let end : ℕ = length bytes in
    let short = not_ok (ltb 16384 (length bytes)) _ (records_of end bytes) c h in
    let g = then_ok (registers 64 end [] bytes) _ c short.1 in
    let rs = registers_got end 64 [] bytes g.0 all g.1 in
    let u = then_ok (rules 32 end g.0.0 0 g.0.1) _ c g.2 in
    let us = rules_got end g.0.0 32 0 g.0.1 u.0 rs.rest u.1 in
    let e = then_ok (entries 64 end u.0.0 0 u.0.1) _ c u.2 in
    let es = entries_got end u.0.0 64 0 u.0.1 e.0 us.rest e.1 in
    let z = then_ok (ended end e.0.0 e.0.1) _ c e.2 in
    let last = ended_got end e.0.0 e.0.1 z.1 in
    let p : Program = record { registers = rs.row; rules = us.row; entries = es.row } in
    let kinds : g.0.0 ≡ kinds_of rs.row = rs.all_kinds in
    let many : length (kinds_of rs.row) ≡ length rs.row = length-map rs.row (λ (r : Register). r.kind) in
    let some_entries : 1 ≤ length es.row = omega (arith, es.number, last.1) in
    let number : u.0.0 ≡ length us.row = omega (arith, us.number) in
    let some_rules : 1 ≤ length us.row = omega (arith, es.after_some some_entries) in
    let some_registers : 1 ≤ length rs.row = omega (arith, us.after_some some_rules, ap length kinds) in
    let a = rs.is in let b = us.is in let d = es.is in let nothing = last.0 in
    let whole : bytes ≡ encode p = cc in
    let A : List Kind → Type 0 = λ ks. All (GoodRule ks) us.row in
    let B : ℕ → Type 0 = λ n. All (GoodEntry n) es.row in
    let made : Counts = record { registers = length g.0.0; rules = u.0.0; entries = e.0.0 } in (
      p,
      record {
        some_registers = (some_registers, rs.few);
        some_rules = (some_rules, us.few);
        some_entries = (some_entries, es.few);
        good_registers = rs.good;
        good_rules = subst A kinds us.good;
        good_entries = subst B number es.good;
        size = subst (λ (s : List ℕ). length s ≤ 16384) whole (ltb-false 16384 (length bytes) short.0);
      },
      whole,
      sym (ok_ok made c z.2) ∙ counted (length g.0.0) (length rs.row) u.0.0 (length us.row) e.0.0 (length es.row)
          (ap length kinds ∙ many) number (omega (arith, es.number)),
    )
  where
    counted : (r r' u u' e e' : ℕ) → r ≡ r' → u ≡ u' → e ≡ e' →
        ◌≡◌ {A = Counts} (record { registers = r; rules = u; entries = e }) (record { registers = r'; rules = u'; entries = e' })
    counted r r' u u' e e' p q s = rw (p, q, s)
