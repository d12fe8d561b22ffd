-- What is the encoding of a well-formed program is accepted.
use Rattle.std.proofs.Common.{◌≡◌, ℕ, zero, suc, ◌+◌, ◌-◌, ◌*◌, ◌/◌, ◌%◌, ◌^◌, ◌<◌, ◌≤◌, true, List, [], ◌∷◌, ◌++◌, length, get_or, Some, Ok, sym, refl, ap, ◌∙◌, append_assoc, append-nil, add-zero, zero-add, arith, length-append, le-ltb, lt-ltb, ne_eqb, le-leb}
use lib.Dec.{eqb-suc-zero}
use lib.ListN.{length-map}
use Rattle.std.proofs.lemmas.List.{take_at, drop_at}
use Rattle.terms.specs.declared.refusal.Refusal.TheVariants.{Fill}
use Rattle.terms.specs.declared.kind.Kind.{Kind}
use Rattle.terms.specs.declared.kind.Kind.TheVariants.{Truth, Word}
use Rattle.terms.specs.declared.kind.Operator.{Operator}
use Rattle.terms.specs.declared.kind.Operator.TheVariants.{Sum, Difference, And, Or, ExclusiveOr, Less, Equal, Both, Either}
use Rattle.terms.specs.Kinds.{kind_of, kind_byte, same, fits, takes, gives, operand_kind, value_kind, operator_of}
use Rattle.tree.specs.Reading.{Body, Read, place, expression, action}
use Rattle.program.specs.Tree.{Expr, Fetch, Constant, Variable, Operate, Choose, Guard, Let, Action, Assign, If, Parallel, Sequence, When, LetIn, Local, Register, Entry, Program}
use Rattle.program.specs.Encoding.{two_bytes, four_bytes, expr_bytes, action_bytes, register_bytes, rule_bytes, entry_bytes, all_bytes, encode}
use Rattle.program.specs.Typing.{Typed, WellTyped, deep, depth, lets, lets_in, forks, All, kinds_of, GoodRegister, GoodRule, GoodEntry, SomeUpTo, WellFormed}
use Rattle.checker.specs.Accepted.{counts}
use Rattle.program.specs.Verdict.{opening_of, on_register, on_rule, on_entry, register_of, rule_of, entry_of, registers, rules, entries, records_of, verdict}

same_kind : (k : Kind) → same k k ≡ true
same_kind Truth = refl
same_kind Word = refl

-- A number below 9 is that of an operator, which takes and gives what the number says.
record Known (o : ℕ) : Type 0 where
  operator : Operator
  found : operator_of o ≡ Some operator
  takes_it : operand_kind operator ≡ takes o
  gives_it : value_kind operator ≡ gives o

known : (o : ℕ) → o < 9 → Known o
known zero h = record { operator = Sum; found = refl; takes_it = refl; gives_it = refl }
known (suc zero) h = record { operator = Difference; found = refl; takes_it = refl; gives_it = refl }
known (suc (suc zero)) h = record { operator = And; found = refl; takes_it = refl; gives_it = refl }
known (suc (suc (suc zero))) h = record { operator = Or; found = refl; takes_it = refl; gives_it = refl }
known (suc (suc (suc (suc zero)))) h = record { operator = ExclusiveOr; found = refl; takes_it = refl; gives_it = refl }
known (suc (suc (suc (suc (suc zero))))) h = record { operator = Less; found = refl; takes_it = refl; gives_it = refl }
known (suc (suc (suc (suc (suc (suc zero)))))) h = record { operator = Equal; found = refl; takes_it = refl; gives_it = refl }
known (suc (suc (suc (suc (suc (suc (suc zero))))))) h = record { operator = Both; found = refl; takes_it = refl; gives_it = refl }
known (suc (suc (suc (suc (suc (suc (suc (suc zero)))))))) h = record { operator = Either; found = refl; takes_it = refl; gives_it = refl }
known (suc (suc (suc (suc (suc (suc (suc (suc (suc o))))))))) h = absurd (omega arith)

pub kind_again : (k : Kind) → kind_of (kind_byte k) ≡ Some k
kind_again Truth = refl
kind_again Word = refl

module _ (t : Body) where
  constant_reads : (k : Kind) (n d l : ℕ) (scope : List Kind) (want : Kind) (s : List ℕ) → k ≡ want → fits k n ≡ true →
      expression (suc d) t l scope want (expr_bytes (Constant k n) s) ≡ Ok s
  unfolding expression
  constant_reads Truth n d l scope want s is fit = rw (← is, fit)
  constant_reads Word n d l scope want s is fit = rw (← is)

  pub expression_reads : (e : Expr) (d l : ℕ) (scope : List Kind) (want : Kind) (s : List ℕ) →
      Typed t.kinds scope want e → deep e ≤ d → lets e ≤ l → expression d t l scope want (expr_bytes e s) ≡ Ok s
  unfolding expression
  expression_reads (Fetch r) zero l scope want s ty p q = absurd (omega arith)
  expression_reads (Fetch r) (suc d) l scope want s ty p q =
      rw (lt-ltb r (length t.kinds) ty.0, ty.1, same_kind want)
  expression_reads (Constant k n) zero l scope want s ty p q = absurd (omega arith)
  expression_reads (Constant k n) (suc d) l scope want s ty p q = constant_reads k n d l scope want s ty.0 ty.1
  expression_reads (Variable v) zero l scope want s ty p q = absurd (omega arith)
  expression_reads (Variable v) (suc d) l scope want s ty p q =
      rw (lt-ltb v (length scope) ty.0, ty.1, same_kind want)
  expression_reads (Operate o a b) zero l scope want s ty p q = absurd (omega arith)
  expression_reads (Operate o a b) (suc d) l scope want s ty p q =
      let x = expression_reads a d l scope (takes o) (expr_bytes b s) ty.2 (omega arith) (omega arith) in
      let y = expression_reads b d l scope (takes o) s ty.3 (omega arith) (omega arith) in
      let n = known o ty.0 in
      rw (n.found, n.gives_it, ty.1, same_kind want, n.takes_it, x, y)
  expression_reads (Choose c a b) zero l scope want s ty p q = absurd (omega arith)
  expression_reads (Choose c a b) (suc d) l scope want s ty p q =
      let z = expression_reads c d l scope Truth (expr_bytes a (expr_bytes b s)) ty.0 (omega arith) (omega arith) in
      let x = expression_reads a d l scope want (expr_bytes b s) ty.1 (omega arith) (omega arith) in
      let y = expression_reads b d l scope want s ty.2 (omega arith) (omega arith) in
      rw (z, x, y)
  expression_reads (Guard a c) zero l scope want s ty p q = absurd (omega arith)
  expression_reads (Guard a c) (suc d) l scope want s ty p q =
      let x = expression_reads a d l scope want (expr_bytes c s) ty.0 (omega arith) (omega arith) in
      let z = expression_reads c d l scope Truth s ty.1 (omega arith) (omega arith) in
      rw (x, z)
  expression_reads (Let k a b) zero l scope want s ty p q = absurd (omega arith)
  expression_reads (Let k a b) (suc d) zero scope want s ty p q = absurd (omega arith)
  expression_reads (Let k a b) (suc d) (suc l) scope want s ty p q =
      let one : suc l - 1 ≡ l = omega arith in
      let x = expression_reads a d l scope k (expr_bytes b s) ty.0 (omega arith) (omega arith) in
      let y = expression_reads b d l (scope ++ (k ∷ [])) want s ty.1 (omega arith) (omega arith) in
      rw (eqb-suc-zero, kind_again k, one, x, y)

  pub action_reads : (e : Action) (d l f : ℕ) (scope : List Kind) (s : List ℕ) →
      WellTyped t.kinds scope e → depth e ≤ d → lets_in e ≤ l → forks e ≤ f →
      action d t l f scope (action_bytes e s) ≡ Ok s
  unfolding action
  action_reads (Assign r e) zero l f scope s ty p q o = absurd (omega arith)
  action_reads (Assign r e) (suc d) l f scope s ty p q o =
      let x = expression_reads e d l scope (get_or t.kinds r Truth) s ty.1 (omega arith) (omega arith) in
      rw (lt-ltb r (length t.kinds) ty.0, x)
  action_reads (If c a) zero l f scope s ty p q o = absurd (omega arith)
  action_reads (If c a) (suc d) l f scope s ty p q o =
      let z = expression_reads c d l scope Truth (action_bytes a s) ty.0 (omega arith) (omega arith) in
      let x = action_reads a d l f scope s ty.1 (omega arith) (omega arith) (omega arith) in
      rw (z, x)
  action_reads (Parallel a b) zero l f scope s ty p q o = absurd (omega arith)
  action_reads (Parallel a b) (suc d) l zero scope s ty p q o = absurd (omega arith)
  action_reads (Parallel a b) (suc d) l (suc f) scope s ty p q o =
      let one : suc f - 1 ≡ f = omega arith in
      let x = action_reads a d l f scope (action_bytes b s) ty.0 (omega arith) (omega arith) (omega arith) in
      let y = action_reads b d l f scope s ty.1 (omega arith) (omega arith) (omega arith) in
      rw (eqb-suc-zero, one, x, y)
  action_reads (Sequence a b) zero l f scope s ty p q o = absurd (omega arith)
  action_reads (Sequence a b) (suc d) l f scope s ty p q o =
      let x = action_reads a d l f scope (action_bytes b s) ty.0 (omega arith) (omega arith) (omega arith) in
      let y = action_reads b d l f scope s ty.1 (omega arith) (omega arith) (omega arith) in
      rw (x, y)
  action_reads (When a c) zero l f scope s ty p q o = absurd (omega arith)
  action_reads (When a c) (suc d) l f scope s ty p q o =
      let x = action_reads a d l f scope (expr_bytes c s) ty.0 (omega arith) (omega arith) (omega arith) in
      let z = expression_reads c d l scope Truth s ty.1 (omega arith) (omega arith) in
      rw (x, z)
  action_reads (LetIn k e a) zero l f scope s ty p q o = absurd (omega arith)
  action_reads (LetIn k e a) (suc d) zero f scope s ty p q o = absurd (omega arith)
  action_reads (LetIn k e a) (suc d) (suc l) f scope s ty p q o =
      let one : suc l - 1 ≡ l = omega arith in
      let x = expression_reads e d l scope k (action_bytes a s) ty.0 (omega arith) (omega arith) in
      let y = action_reads a d l f (scope ++ (k ∷ [])) s ty.1 (omega arith) (omega arith) (omega arith) in
      rw (eqb-suc-zero, kind_again k, one, x, y)
  action_reads (Local a) zero l f scope s ty p q o = absurd (omega arith)
  action_reads (Local a) (suc d) l zero scope s ty p q o = absurd (omega arith)
  action_reads (Local a) (suc d) l (suc f) scope s ty p q o =
      let one : suc f - 1 ≡ f = omega arith in
      let x = action_reads a d l f scope s ty (omega arith) (omega arith) (omega arith) in
      rw (eqb-suc-zero, one, x)

-- What a function writes stands in front of what comes behind.
abbrev Front : (List ℕ → List ℕ) → Type 0
Front f = (s : List ℕ) → f s ≡ f [] ++ s

both : (f g : List ℕ → List ℕ) → Front f → Front g → Front (λ s. f (g s))
both f g p q s = p (g s) ∙ ap (λ x. f [] ++ x) (q s) ∙ sym (append_assoc (f []) (g []) s) ∙ ap (λ x. x ++ s) (sym (p (g [])))

expr_front : (e : Expr) → Front (expr_bytes e)
expr_front (Fetch r) s = refl
expr_front (Constant Truth n) s = refl
expr_front (Constant Word n) s = refl
expr_front (Variable v) s = refl
expr_front (Operate o a b) s = ap (λ x. 5 ∷ (o ∷ x)) (both (expr_bytes a) (expr_bytes b) (expr_front a) (expr_front b) s)
expr_front (Choose c a b) s =
    ap (λ x. 6 ∷ x)
    (both (expr_bytes c) (λ r. expr_bytes a (expr_bytes b r)) (expr_front c)
    (both (expr_bytes a) (expr_bytes b) (expr_front a) (expr_front b)) s)
expr_front (Guard a c) s = ap (λ x. 7 ∷ x) (both (expr_bytes a) (expr_bytes c) (expr_front a) (expr_front c) s)
expr_front (Let k a b) s =
    ap (λ x. 8 ∷ (kind_byte k ∷ x)) (both (expr_bytes a) (expr_bytes b) (expr_front a) (expr_front b) s)

pub action_front : (a : Action) → Front (action_bytes a)
action_front (Assign r e) s = ap (λ x. 17 ∷ (r ∷ x)) (expr_front e s)
action_front (If c a) s = ap (λ x. 18 ∷ x) (both (expr_bytes c) (action_bytes a) (expr_front c) (action_front a) s)
action_front (Parallel a b) s = ap (λ x. 19 ∷ x) (both (action_bytes a) (action_bytes b) (action_front a) (action_front b) s)
action_front (Sequence a b) s = ap (λ x. 20 ∷ x) (both (action_bytes a) (action_bytes b) (action_front a) (action_front b) s)
action_front (When a c) s = ap (λ x. 21 ∷ x) (both (action_bytes a) (expr_bytes c) (action_front a) (expr_front c) s)
action_front (LetIn k e a) s =
    ap (λ x. 22 ∷ (kind_byte k ∷ x)) (both (expr_bytes e) (action_bytes a) (expr_front e) (action_front a) s)
action_front (Local a) s = ap (λ x. 23 ∷ x) (action_front a s)

-- The number that the four bytes of a number make.
pub four_again : (n : ℕ) → n / 16777216 * 16777216 + n / 65536 % 256 * 65536 + n / 256 % 256 * 256 + n % 256 ≡ n
four_again n = omega arith

register_reads : (end : ℕ) (r : Register) (s : List ℕ) → GoodRegister r →
    register_of end (kind_byte r.kind ∷ four_bytes r.initial s) ≡ Ok (r.kind, s)
register_reads end r s good = rw (kind_again r.kind, four_again r.initial, good)

rule_reads : (end : ℕ) (kinds : List Kind) (a : Action) (s : List ℕ) → GoodRule kinds a →
    rule_of end kinds (two_bytes (length (action_bytes a [])) (action_bytes a s)) ≡ Ok s
rule_reads end kinds a s good =
    let n : ℕ = length (action_bytes a []) in
    let long : n / 256 * 256 + n % 256 ≡ n = omega arith in
    let room : n ≤ length (action_bytes a [] ++ s) = simp length-append (omega arith) in
    let body = action_reads (record { end = place end s; kinds = kinds; short = Fill }) a 24 8 8 [] []
    good.well_typed good.depth_within good.lets_within good.forks_within in
    rw (
      long,
      action_front a s,
      le-leb n (length (action_bytes a [] ++ s)) room,
      take_at (action_bytes a []) s n refl,
      drop_at (action_bytes a []) s n refl,
      body,
    )

entry_reads : (end rules : ℕ) (e : Entry) (s : List ℕ) → GoodEntry rules e →
    entry_of end rules (e.rule ∷ four_bytes e.blockers s) ≡ Ok s
entry_reads end rules e s good =
    rw (lt-ltb e.rule rules good.0, four_again e.blockers, lt-ltb e.blockers (2 ^ rules) good.1)

-- The three rows of records, each before what does not go on with it.
registers_read : (end : ℕ) (rs : List Register) (n : ℕ) (kinds : List Kind) (s : List ℕ) → All GoodRegister rs → length rs ≤ n →
    ((f : List ℕ → Read (List Kind)) (other : Read (List Kind)) → on_register (opening_of s) f other ≡ other) →
    registers n end kinds (all_bytes register_bytes rs s) ≡ Ok (kinds ++ kinds_of rs, s)
unfolding registers
registers_read end [] zero kinds s good few stop = rw (stop, append-nil kinds)
registers_read end [] (suc n) kinds s good few stop = rw (stop, append-nil kinds)
registers_read end (r ∷ rs) zero kinds s good few stop = absurd (omega arith)
registers_read end (r ∷ rs) (suc n) kinds s good few stop =
    let x = register_reads end r (all_bytes register_bytes rs s) good.0 in
    let y = registers_read end rs n (kinds ++ (r.kind ∷ [])) s good.1 (omega arith) stop in
    rw x (y ∙ ap (λ (ks : List Kind). Ok (ks, s)) (append_assoc kinds (r.kind ∷ []) (kinds_of rs)))

rules_read : (end : ℕ) (kinds : List Kind) (us : List Action) (n count : ℕ) (s : List ℕ) → 1 ≤ length kinds →
    All (GoodRule kinds) us → length us ≤ n →
    ((f : List ℕ → Read ℕ) (other : Read ℕ) → on_rule (opening_of s) f other ≡ other) →
    rules n end kinds count (all_bytes rule_bytes us s) ≡ Ok (count + length us, s)
unfolding rules
rules_read end kinds [] zero count s some good few stop = rw (stop, add-zero count)
rules_read end kinds [] (suc n) count s some good few stop = rw (stop, add-zero count)
rules_read end kinds (u ∷ us) zero count s some good few stop = absurd (omega arith)
rules_read end kinds (u ∷ us) (suc n) count s some good few stop =
    let x = rule_reads end kinds u (all_bytes rule_bytes us s) good.0 in
    let y = rules_read end kinds us n (count + 1) s some good.1 (omega arith) stop in
    let more : count + 1 + length us ≡ count + suc (length us) = omega arith in
    rw (ne_eqb (length kinds) 0 (λ z. omega arith), x) (y ∙ ap (λ (m : ℕ). Ok (m, s)) more)

entries_read : (end rules : ℕ) (es : List Entry) (n count : ℕ) (s : List ℕ) → 1 ≤ rules →
    All (GoodEntry rules) es → length es ≤ n →
    ((f : List ℕ → Read ℕ) (other : Read ℕ) → on_entry (opening_of s) f other ≡ other) →
    entries n end rules count (all_bytes entry_bytes es s) ≡ Ok (count + length es, s)
unfolding entries
entries_read end rules [] zero count s some good few stop = rw (stop, add-zero count)
entries_read end rules [] (suc n) count s some good few stop = rw (stop, add-zero count)
entries_read end rules (e ∷ es) zero count s some good few stop = absurd (omega arith)
entries_read end rules (e ∷ es) (suc n) count s some good few stop =
    let x = entry_reads end rules e (all_bytes entry_bytes es s) good.0 in
    let y = entries_read end rules es n (count + 1) s some good.1 (omega arith) stop in
    let more : count + 1 + length es ≡ count + suc (length es) = omega arith in
    rw (ne_eqb rules 0 (λ z. omega arith), x) (y ∙ ap (λ (m : ℕ). Ok (m, s)) more)

-- The records of a program that has some of each sort, in front of its end.
records_read : (end : ℕ) (p : Program) → WellFormed p → records_of end (encode p) ≡ Ok (counts p)
records_read end p good =
    go p.registers p.rules p.entries good.some_registers good.some_rules good.some_entries
    good.good_registers good.good_rules good.good_entries
  where
    go : (rs : List Register) (us : List Action) (es : List Entry) → SomeUpTo 64 rs → SomeUpTo 32 us → SomeUpTo 64 es →
        All GoodRegister rs → All (GoodRule (kinds_of rs)) us → All (GoodEntry (length us)) es →
        records_of end (encode (record { registers = rs; rules = us; entries = es }))
        ≡ Ok (record { registers = length rs; rules = length us; entries = length es })
    go rs [] es x y z g h k = absurd (omega arith)
    go rs (u ∷ us) [] x y z g h k = absurd (omega arith)
    go rs (u ∷ us) (e ∷ es) x y z g h k =
        let behind : List ℕ = all_bytes entry_bytes (e ∷ es) [] in
        let kinds : length (kinds_of rs) ≡ length rs = length-map rs (λ (r : Register). r.kind) in
        let a = registers_read end rs 64 [] (all_bytes rule_bytes (u ∷ us) behind) g x.1 (λ f o. refl) in
        let b = rules_read end (kinds_of rs) (u ∷ us) 32 0 behind (omega arith) h y.1 (λ f o. refl) in
        let c = entries_read end (length (u ∷ us)) (e ∷ es) 64 0 [] y.0 k z.1 (λ f o. refl) in
        rw (a, b, zero-add (length (u ∷ us)), c, zero-add (length (e ∷ es)), ne_eqb (length (e ∷ es)) 0 (λ n. omega arith), kinds)

pub accepts : (p : Program) → WellFormed p → verdict (encode p) ≡ Ok (counts p)
accepts p good = rw (le-ltb 16384 (length (encode p)) good.size) (records_read (length (encode p)) p good)
