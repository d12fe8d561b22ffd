-- What stood in the bytes where a reader of one part was content.
use Rattle.std.proofs.Common.{◌≡◌, ℕ, ◌+◌, ◌*◌, ◌/◌, ◌%◌, ◌^◌, ◌<◌, Bool, true, false, cond, eqb, ltb, List, [], ◌∷◌, length, get_or, Some, None, Ok, Err, Option, Result, sym, refl, ap, ◌∙◌, subst, arith, ltb-true, lt-ltb, eqb-true}
use Rattle.terms.specs.declared.refusal.Fault.{Fault}
use Rattle.terms.specs.declared.kind.Kind.{Kind}
use Rattle.terms.specs.declared.kind.Kind.TheVariants.{Truth, Word}
use Rattle.terms.specs.declared.kind.Operator.{Operator}
use Rattle.terms.specs.declared.kind.Operator.TheVariants.{Sum, Difference, And, Or, ExclusiveOr, Less, Equal, Both, Either}
use Rattle.terms.specs.declared.node.ValueNode.{ValueNode}
use Rattle.terms.specs.declared.node.ActionNode.{ActionNode}
use Rattle.terms.specs.Kinds.{kind_of, kind_byte, same, fits, takes, gives, operator_of, operator_number, operand_kind, value_kind}
use Rattle.terms.specs.Nodes.{value_node, action_node}
use Rattle.tree.specs.Reading.{Body, fault, and_then, or_fault, byte_of, word_of, truth_of, kind_at, operator_at, named_of, wanted_of, suits, value_at, action_at}
use Rattle.program.specs.Encoding.{four_bytes}
use Rattle.program.specs.Typing.{Names}
use Rattle.checker.specs.Accepted.{Bytes}

-- Results and options.
pub err_ok : {A : Type 0} (e : Fault) (y : A) → ◌≡◌ {A = Result A Fault} (Err e) (Ok y) → ⊥
err_ok e y h = let z : ◌≡◌ {A = ℕ} 0 1 = cc in omega arith

pub ok_ok : {A : Type 0} (x y : A) → ◌≡◌ {A = Result A Fault} (Ok x) (Ok y) → x ≡ y
ok_ok x y h = cc

pub none_some : {A : Type 0} (y : A) → ◌≡◌ {A = Option A} None (Some y) → ⊥
none_some y h = let z : ◌≡◌ {A = ℕ} 0 1 = cc in omega arith

pub some_some : {A : Type 0} (x y : A) → ◌≡◌ {A = Option A} (Some x) (Some y) → x ≡ y
some_some x y h = cc

pub then_ok : {A B : Type 0} (r : Result A Fault) (f : A → Result B Fault) (y : B) → and_then r f ≡ Ok y →
    (x : A) × (r ≡ Ok x) × (f x ≡ Ok y)
then_ok (Ok x) f y h = (x, refl, h)
then_ok (Err e) f y h = absurd (err_ok e y h)

pub cond_ok : {A : Type 0} (b : Bool) (x : Result A Fault) (e : Fault) (y : A) → cond b x (Err e) ≡ Ok y → (b ≡ true) × (x ≡ Ok y)
cond_ok true x e y h = (refl, h)
cond_ok false x e y h = absurd (err_ok e y h)

-- The way into a `cond` whose first case is the fault.
pub not_ok : {A : Type 0} (b : Bool) (e : Fault) (x : Result A Fault) (y : A) → cond b (Err e) x ≡ Ok y → (b ≡ false) × (x ≡ Ok y)
not_ok true e x y h = absurd (err_ok e y h)
not_ok false e x y h = (refl, h)

pub or_ok : {A : Type 0} (e : Fault) (o : Option A) (x : A) → or_fault e o ≡ Ok x → o ≡ Some x
or_ok e (Some a) x h = ap Some (ok_ok a x h)
or_ok e None x h = absurd (err_ok e x h)

-- A choice by a number, and what it says of the number.
pick : {A R : Type 0} (b k : ℕ) (x : A) (rest : Option A) (y : A) → cond (eqb b k) (Some x) rest ≡ Some y →
    (b ≡ k → x ≡ y → R) → (rest ≡ Some y → R) → R
pick {A} {R} b k x rest y h yes-here other = go (eqb b k) refl h
  where
    go : (t : Bool) → eqb b k ≡ t → cond t (Some x) rest ≡ Some y → R
    go true e h = yes-here (eqb-true b k e) (some_some x y h)
    go false e h = other h

pub same_true : (k want : Kind) → same k want ≡ true → k ≡ want
same_true Truth Truth h = refl
same_true Truth Word h = let z : ◌≡◌ {A = ℕ} 0 1 = cc in absurd (omega arith)
same_true Word Truth h = let z : ◌≡◌ {A = ℕ} 0 1 = cc in absurd (omega arith)
same_true Word Word h = refl

pub kind_byte_only : (b : ℕ) (k : Kind) → kind_of b ≡ Some k → b ≡ kind_byte k
kind_byte_only b k h =
    pick b 0 Truth _ k h (λ e q. e ∙ ap kind_byte q) (λ h. pick b 1 Word _ k h (λ e q. e ∙ ap kind_byte q) (λ h. absurd (none_some k h)))

abbrev pub value_code : ValueNode → ℕ
value_code ValueNode.Register = 1
value_code ValueNode.Word = 2
value_code ValueNode.Truth = 3
value_code ValueNode.Variable = 4
value_code ValueNode.Operator = 5
value_code ValueNode.Choice = 6
value_code ValueNode.Guard = 7
value_code ValueNode.Let = 8

abbrev pub action_code : ActionNode → ℕ
action_code ActionNode.Assign = 17
action_code ActionNode.If = 18
action_code ActionNode.Parallel = 19
action_code ActionNode.Sequence = 20
action_code ActionNode.When = 21
action_code ActionNode.Let = 22
action_code ActionNode.Local = 23

pub value_byte : (b : ℕ) (n : ValueNode) → value_node b ≡ Some n → b ≡ value_code n
value_byte b n h =
    pick b 1 ValueNode.Register _ n h (λ e q. e ∙ ap value_code q) (λ h.
    pick b 2 ValueNode.Word _ n h (λ e q. e ∙ ap value_code q) (λ h.
    pick b 3 ValueNode.Truth _ n h (λ e q. e ∙ ap value_code q) (λ h.
    pick b 4 ValueNode.Variable _ n h (λ e q. e ∙ ap value_code q) (λ h.
    pick b 5 ValueNode.Operator _ n h (λ e q. e ∙ ap value_code q) (λ h.
    pick b 6 ValueNode.Choice _ n h (λ e q. e ∙ ap value_code q) (λ h.
    pick b 7 ValueNode.Guard _ n h (λ e q. e ∙ ap value_code q) (λ h.
    pick b 8 ValueNode.Let _ n h (λ e q. e ∙ ap value_code q) (λ h. absurd (none_some n h)))))))))

pub action_byte : (b : ℕ) (n : ActionNode) → action_node b ≡ Some n → b ≡ action_code n
action_byte b n h =
    pick b 17 ActionNode.Assign _ n h (λ e q. e ∙ ap action_code q) (λ h.
    pick b 18 ActionNode.If _ n h (λ e q. e ∙ ap action_code q) (λ h.
    pick b 19 ActionNode.Parallel _ n h (λ e q. e ∙ ap action_code q) (λ h.
    pick b 20 ActionNode.Sequence _ n h (λ e q. e ∙ ap action_code q) (λ h.
    pick b 21 ActionNode.When _ n h (λ e q. e ∙ ap action_code q) (λ h.
    pick b 22 ActionNode.Let _ n h (λ e q. e ∙ ap action_code q) (λ h.
    pick b 23 ActionNode.Local _ n h (λ e q. e ∙ ap action_code q) (λ h. absurd (none_some n h))))))))

pub operator_only : (b : ℕ) (o : Operator) → operator_of b ≡ Some o → b ≡ operator_number o
operator_only b o h =
    pick b 0 Sum _ o h (λ e q. e ∙ ap operator_number q) (λ h.
    pick b 1 Difference _ o h (λ e q. e ∙ ap operator_number q) (λ h.
    pick b 2 And _ o h (λ e q. e ∙ ap operator_number q) (λ h.
    pick b 3 Or _ o h (λ e q. e ∙ ap operator_number q) (λ h.
    pick b 4 ExclusiveOr _ o h (λ e q. e ∙ ap operator_number q) (λ h.
    pick b 5 Less _ o h (λ e q. e ∙ ap operator_number q) (λ h.
    pick b 6 Equal _ o h (λ e q. e ∙ ap operator_number q) (λ h.
    pick b 7 Both _ o h (λ e q. e ∙ ap operator_number q) (λ h.
    pick b 8 Either _ o h (λ e q. e ∙ ap operator_number q) (λ h. absurd (none_some o h))))))))))

operator_below : (o : Operator) → operator_number o < 9
operator_below Sum = omega arith
operator_below Difference = omega arith
operator_below And = omega arith
operator_below Or = omega arith
operator_below ExclusiveOr = omega arith
operator_below Less = omega arith
operator_below Equal = omega arith
operator_below Both = omega arith
operator_below Either = omega arith

pub operator_low : (b : ℕ) (o : Operator) → operator_of b ≡ Some o → (b < 9) × (operand_kind o ≡ takes b) × (value_kind o ≡ gives b)
operator_low b o h =
    let is : b ≡ operator_number o = operator_only b o h in
    let low = operator_below o in
    (omega arith, ap takes (sym is), ap gives (sym is))

-- The four bytes of the number that four bytes make.
pub four_bytes_of : (a b c d : ℕ) (s : List ℕ) → a < 256 → b < 256 → c < 256 → d < 256 →
    four_bytes (a * 16777216 + b * 65536 + c * 256 + d) s ≡ a ∷ (b ∷ (c ∷ (d ∷ s)))
four_bytes_of a b c d s p q r t =
    let e0 : (a * 16777216 + b * 65536 + c * 256 + d) / 16777216 ≡ a = omega arith in
    let e1 : (a * 16777216 + b * 65536 + c * 256 + d) / 65536 % 256 ≡ b = omega arith in
    let e2 : (a * 16777216 + b * 65536 + c * 256 + d) / 256 % 256 ≡ c = omega arith in
    let e3 : (a * 16777216 + b * 65536 + c * 256 + d) % 256 ≡ d = omega arith in
    rw (e0, e1, e2, e3)

-- A byte that was read, what came before it and what is behind it.
pub record Got (s : List ℕ) (b : ℕ) (r : List ℕ) : Type 0 where
  pub is : s ≡ b ∷ r
  pub small : b < 256
  pub rest : Bytes r

module _ (t : Body) where
  pub byte_got : (s : List ℕ) (x : ℕ × List ℕ) → Bytes s → byte_of t s ≡ Ok x → Got s x.0 x.1
  byte_got [] x all h = absurd (err_ok (fault t.short t.end) x h)
  byte_got (b ∷ s) x all h =
      let e : ◌≡◌ {A = ℕ × List ℕ} (b, s) x = ok_ok (b, s) x h in
      let P : ℕ × List ℕ → Type 0 = λ y. Got (b ∷ s) y.0 y.1 in
      subst P e (record { is = refl; small = all.0; rest = all.1 })

  pub word_got : (s m : List ℕ) → Bytes s → word_of t s ≡ Ok m →
      (n : ℕ) × (s ≡ four_bytes n m) × (fits Word n ≡ true) × Bytes m
  word_got s m all h =
      let ra = then_ok (byte_of t s) _ m h in
      let a = byte_got s ra.0 all ra.1 in
      let rb = then_ok (byte_of t ra.0.1) _ m ra.2 in
      let b = byte_got ra.0.1 rb.0 a.rest rb.1 in
      let rc = then_ok (byte_of t rb.0.1) _ m rb.2 in
      let c = byte_got rb.0.1 rc.0 b.rest rc.1 in
      let rd = then_ok (byte_of t rc.0.1) _ m rc.2 in
      let d = byte_got rc.0.1 rd.0 c.rest rd.1 in
      let end : rd.0.1 ≡ m = ok_ok rd.0.1 m rd.2 in
      let n : ℕ = ra.0.0 * 16777216 + rb.0.0 * 65536 + rc.0.0 * 256 + rd.0.0 in
      let whole = four_bytes_of ra.0.0 rb.0.0 rc.0.0 rd.0.0 m a.small b.small c.small d.small in
      let e0 = a.is in let e1 = b.is in let e2 = c.is in let e3 = d.is in
      let small : ra.0.0 * 16777216 + rb.0.0 * 65536 + rc.0.0 * 256 + rd.0.0 < 4294967296 =
      omega (arith, a.small, b.small, c.small, d.small) in
      (n, cc, lt-ltb n (2 ^ 32) small, subst Bytes end d.rest)

  pub truth_got : (s m : List ℕ) → Bytes s → truth_of t s ≡ Ok m → (n : ℕ) × (s ≡ n ∷ m) × (fits Truth n ≡ true) × Bytes m
  truth_got s m all h =
      let r = then_ok (byte_of t s) _ m h in
      let g = byte_got s r.0 all r.1 in
      let k = cond_ok (ltb r.0.0 2) (Ok r.0.1) _ m r.2 in
      let end : r.0.1 ≡ m = ok_ok r.0.1 m k.1 in
      let is = g.is in
      (r.0.0, cc, k.0, subst Bytes end g.rest)

  pub kind_got : (s : List ℕ) (x : Kind × List ℕ) → Bytes s → kind_at t s ≡ Ok x → (s ≡ kind_byte x.0 ∷ x.1) × Bytes x.1
  kind_got s x all h =
      let r = then_ok (byte_of t s) _ x h in
      let g = byte_got s r.0 all r.1 in
      let k = then_ok (or_fault _ (kind_of r.0.0)) _ x r.2 in
      let b : r.0.0 ≡ kind_byte k.0 = kind_byte_only r.0.0 k.0 (or_ok _ (kind_of r.0.0) k.0 k.1) in
      let end : ◌≡◌ {A = Kind × List ℕ} (k.0, r.0.1) x = ok_ok (k.0, r.0.1) x k.2 in
      let P : Kind × List ℕ → Type 0 = λ y. (s ≡ kind_byte y.0 ∷ y.1) × Bytes y.1 in
      subst P end (g.is ∙ ap (λ (n : ℕ). n ∷ r.0.1) b, g.rest)

  pub named_got : (kinds : List Kind) (s : List ℕ) (x : Kind × List ℕ) → Bytes s → named_of t kinds s ≡ Ok x →
      (n : ℕ) × (s ≡ n ∷ x.1) × Names kinds n x.0 × Bytes x.1
  named_got kinds s x all h =
      let r = then_ok (byte_of t s) _ x h in
      let g = byte_got s r.0 all r.1 in
      let k = cond_ok (ltb r.0.0 (length kinds)) _ _ x r.2 in
      let end : ◌≡◌ {A = Kind × List ℕ} (get_or kinds r.0.0 Truth, r.0.1) x = ok_ok _ x k.1 in
      let P : Kind × List ℕ → Type 0 = λ y. (n : ℕ) × (s ≡ n ∷ y.1) × Names kinds n y.0 × Bytes y.1 in
      subst P end (r.0.0, g.is, (ltb-true r.0.0 (length kinds) k.0, refl), g.rest)

  pub wanted_got : (kinds : List Kind) (want : Kind) (s m : List ℕ) → Bytes s → wanted_of t kinds want s ≡ Ok m →
      (n : ℕ) × (s ≡ n ∷ m) × Names kinds n want × Bytes m
  wanted_got kinds want s m all h =
      let r = then_ok (named_of t kinds s) _ m h in
      let g = named_got kinds s r.0 all r.1 in
      let k = cond_ok (same r.0.0 want) (Ok r.0.1) _ m r.2 in
      let end : r.0.1 ≡ m = ok_ok r.0.1 m k.1 in
      let kind : r.0.0 ≡ want = same_true r.0.0 want k.0 in
      let is = g.1 in
      (g.0, cc, (g.2.0, g.2.1 ∙ kind), subst Bytes end g.3)

  pub operator_got : (want : Kind) (s : List ℕ) (x : Operator × List ℕ) → Bytes s → operator_at t want s ≡ Ok x →
      (o : ℕ) × (s ≡ o ∷ x.1) × (o < 9) × (gives o ≡ want) × (operand_kind x.0 ≡ takes o) × Bytes x.1
  operator_got want s x all h =
      let r = then_ok (byte_of t s) _ x h in
      let g = byte_got s r.0 all r.1 in
      let o = then_ok (or_fault _ (operator_of r.0.0)) _ x r.2 in
      let known = or_ok _ (operator_of r.0.0) o.0 o.1 in
      let k = cond_ok (same (value_kind o.0) want) (Ok (o.0, r.0.1)) _ x o.2 in
      let end : ◌≡◌ {A = Operator × List ℕ} (o.0, r.0.1) x = ok_ok (o.0, r.0.1) x k.1 in
      let low = operator_low r.0.0 o.0 known in
      let P : Operator × List ℕ → Type 0 =
      λ y. (n : ℕ) × (s ≡ n ∷ y.1) × (n < 9) × (gives n ≡ want) × (operand_kind y.0 ≡ takes n) × Bytes y.1 in
      subst P end (r.0.0, g.is, low.0, sym low.2 ∙ same_true (value_kind o.0) want k.0, low.1, g.rest)

  pub value_got : (want : Kind) (s : List ℕ) (x : ValueNode × List ℕ) → Bytes s → value_at t want s ≡ Ok x →
      (s ≡ value_code x.0 ∷ x.1) × (suits want x.0 ≡ true) × Bytes x.1
  value_got want s x all h =
      let r = then_ok (byte_of t s) _ x h in
      let g = byte_got s r.0 all r.1 in
      let n = then_ok (or_fault _ (value_node r.0.0)) _ x r.2 in
      let b : r.0.0 ≡ value_code n.0 = value_byte r.0.0 n.0 (or_ok _ (value_node r.0.0) n.0 n.1) in
      let k = cond_ok (suits want n.0) (Ok (n.0, r.0.1)) _ x n.2 in
      let end : ◌≡◌ {A = ValueNode × List ℕ} (n.0, r.0.1) x = ok_ok (n.0, r.0.1) x k.1 in
      let P : ValueNode × List ℕ → Type 0 = λ y. (s ≡ value_code y.0 ∷ y.1) × (suits want y.0 ≡ true) × Bytes y.1 in
      subst P end (g.is ∙ ap (λ (c : ℕ). c ∷ r.0.1) b, k.0, g.rest)

  pub action_got : (s : List ℕ) (x : ActionNode × List ℕ) → Bytes s → action_at t s ≡ Ok x →
      (s ≡ action_code x.0 ∷ x.1) × Bytes x.1
  action_got s x all h =
      let r = then_ok (byte_of t s) _ x h in
      let g = byte_got s r.0 all r.1 in
      let n = then_ok (or_fault _ (action_node r.0.0)) _ x r.2 in
      let b : r.0.0 ≡ action_code n.0 = action_byte r.0.0 n.0 (or_ok _ (action_node r.0.0) n.0 n.1) in
      let end : ◌≡◌ {A = ActionNode × List ℕ} (n.0, r.0.1) x = ok_ok (n.0, r.0.1) x n.2 in
      let P : ActionNode × List ℕ → Type 0 = λ y. (s ≡ action_code y.0 ∷ y.1) × Bytes y.1 in
      subst P end (g.is ∙ ap (λ (c : ℕ). c ∷ r.0.1) b, g.rest)
