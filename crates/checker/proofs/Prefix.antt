-- Reading a text, and reading only its first bytes: both come to the same until the first bytes run out.
use Rattle.std.proofs.Common.{◌≡◌, ℕ, suc, ◌+◌, ◌<◌, ◌≤◌, Bool, true, false, cond, ltb, List, [], ◌∷◌, ◌++◌, length, get_or, Some, None, Ok, Err, Option, Result, sym, refl, ap, ◌∙◌, arith, length-append}
use Rattle.terms.specs.declared.refusal.Refusal.{Refusal}
use Rattle.terms.specs.declared.refusal.Refusal.TheVariants.{Sort, Name}
use Rattle.terms.specs.declared.refusal.Fault.{Fault}
use Rattle.terms.specs.declared.kind.Kind.{Kind}
use Rattle.terms.specs.declared.kind.Kind.TheVariants.{Truth}
use Rattle.tree.specs.Reading.{Body, fault, and_then, or_fault, place, byte_of, truth_of, kind_at, operator_at, named_of, wanted_of, suits, value_at, action_at}
use Rattle.terms.specs.Kinds.{kind_of, same, operator_of, value_kind}
use Rattle.terms.specs.Nodes.{value_node, action_node}

-- What is read lies at or behind the place where reading began, and before the end: `rest` is what is left of a text that ends at `end`.
abbrev pub Beyond : {A : Type 0} → (A → List ℕ) → ℕ → List ℕ → Result A Fault → Type 0
Beyond rest end s (Ok y) = length (rest y) ≤ length s
Beyond rest end s (Err f) = (end ≤ f.place + length s) × (f.place ≤ end)

-- Reading has come to the place `a`, or nearly, or has failed there: no fault lies four bytes before it.
abbrev pub Late : {A : Type 0} → ℕ → (A → List ℕ) → ℕ → Result A Fault → Type 0
Late a rest end (Ok y) = a + length (rest y) < end + 2
Late a rest end (Err f) = a < f.place + 4

module _ {A B : Type 0} (restA : A → List ℕ) (restB : B → List ℕ) where
  pub weaken : (end : ℕ) (s s' : List ℕ) (r : Result B Fault) → length s' ≤ length s → Beyond restB end s' r → Beyond restB end s r
  weaken end s s' (Ok y) le h = omega arith
  weaken end s s' (Err f) le h = omega arith

  pub beyond_then : (end : ℕ) (s : List ℕ) (r : Result A Fault) (f : A → Result B Fault) →
      Beyond restA end s r → ((y : A) → Beyond restB end (restA y) (f y)) → Beyond restB end s (and_then r f)
  beyond_then end s (Ok y) f h k = weaken end s (restA y) (f y) h (k y)
  beyond_then end s (Err e) f h k = h

  pub late_on : (a end : ℕ) (s : List ℕ) (r : Result B Fault) → a + length s < end + 2 → Beyond restB end s r → Late a restB end r
  late_on a end s (Ok y) le h = omega arith
  late_on a end s (Err f) le h = omega arith

  pub late_then : (a end : ℕ) (r : Result A Fault) (f : A → Result B Fault) →
      Late a restA end r → ((y : A) → Beyond restB end (restA y) (f y)) → Late a restB end (and_then r f)
  late_then a end (Ok y) f h k = late_on a end (restA y) (f y) h (k y)
  late_then a end (Err e) f h k = h

-- A reading of the first bytes, which end at `a`, beside one of the whole text, which ends at `end` and has v behind them.
pub data Beside {A : Type 0} (a end : ℕ) (rest : A → List ℕ) (grow : A → A) (r₀ r : Result A Fault) : Type 0 where
  stays : (y : A) → r₀ ≡ Ok y → r ≡ Ok (grow y) → Beside a end rest grow r₀ r
  fails : (f : Fault) → r₀ ≡ Err f → r ≡ Err f → Beside a end rest grow r₀ r
  past : Late a rest a r₀ → Late a rest end r → Beside a end rest grow r₀ r

-- The same, where the first bytes do not run out.
pub data Same {A : Type 0} (grow : A → A) (r₀ r : Result A Fault) : Type 0 where
  stays_same : (y : A) → r₀ ≡ Ok y → r ≡ Ok (grow y) → Same grow r₀ r
  fails_same : (f : Fault) → r₀ ≡ Err f → r ≡ Err f → Same grow r₀ r

pub then_same : {A B : Type 0} (a end : ℕ) (growA : A → A) (restB : B → List ℕ) (growB : B → B)
    (r₀ r : Result A Fault) (f₀ f : A → Result B Fault) → Same growA r₀ r →
    ((y : A) → Beside a end restB growB (f₀ y) (f (growA y))) → Beside a end restB growB (and_then r₀ f₀) (and_then r f)
then_same a end growA restB growB r₀ r f₀ f (stays_same y e e') k = rw (e, e') (k y)
then_same a end growA restB growB r₀ r f₀ f (fails_same x e e') k = rw (e, e') (fails x refl refl)

module _ {A B : Type 0} (a end : ℕ) (restA : A → List ℕ) (growA : A → A) (restB : B → List ℕ) (growB : B → B)
    (r₀ r : Result A Fault) (f₀ f : A → Result B Fault) where
  pub then_beside : Beside a end restA growA r₀ r →
      ((y : A) → Beside a end restB growB (f₀ y) (f (growA y))) →
      ((y : A) → Beyond restB a (restA y) (f₀ y)) → ((y : A) → Beyond restB end (restA y) (f y)) →
      Beside a end restB growB (and_then r₀ f₀) (and_then r f)
  then_beside (stays y e e') k b₀ b = rw (e, e') (k y)
  then_beside (fails x e e') k b₀ b = rw (e, e') (fails x refl refl)
  then_beside (past l₀ l) k b₀ b = past (late_then restA restB a a r₀ f₀ l₀ b₀) (late_then restA restB a end r f l b)

-- A reader of one byte, once it has the byte: content, and then it leaves the bytes behind it, or not.
pub data Judged {A : Type 0} (rest : A → List ℕ) (grow : A → A) (v : List ℕ) (p : ℕ) (g : List ℕ → Result A Fault) : Type 0 where
  content : (y : List ℕ → A) → ((m : List ℕ) → g m ≡ Ok (y m)) → ((m : List ℕ) → rest (y m) ≡ m) →
      ((m : List ℕ) → grow (y m) ≡ y (m ++ v)) → Judged rest grow v p g
  refused : (q : Refusal) → ((m : List ℕ) → g m ≡ Err (fault q p)) → Judged rest grow v p g

abbrev pub left : List ℕ → List ℕ
left s = s

abbrev pub longer : List ℕ → List ℕ → List ℕ
longer v s = s ++ v

abbrev pub behind : {A : Type 0} → A × List ℕ → List ℕ
behind x = x.1

abbrev pub further : {A : Type 0} → List ℕ → A × List ℕ → A × List ℕ
further v x = (x.0, x.1 ++ v)

module _ (v : List ℕ) (p : ℕ) (q : Refusal) where
  judged_test : (b : Bool) → Judged left (longer v) v p (λ m. cond b (Ok m) (Err (fault q p)))
  judged_test true = content left (λ m. refl) (λ m. refl) (λ m. refl)
  judged_test false = refused q (λ m. refl)

  module _ {X : Type 0} where
    judged_value : (b : Bool) (x : X) → Judged behind (further v) v p (λ m. cond b (Ok (x, m)) (Err (fault q p)))
    judged_value true x = content (λ m. (x, m)) (λ m. refl) (λ m. refl) (λ m. refl)
    judged_value false x = refused q (λ m. refl)

    -- A byte that stands for something that passes a test, or for nothing.
    judged_option : (o : Option X) (test : X → Bool) →
        Judged behind (further v) v p (λ m. and_then (or_fault (fault q p) o) (λ x. cond (test x) (Ok (x, m)) (Err (fault q p))))
    judged_option (Some x) test = judged_value (test x) x
    judged_option None test = refused q (λ m. refl)

    judged_plain : (o : Option X) → Judged behind (further v) v p (λ m. and_then (or_fault (fault q p) o) (λ x. Ok (x, m)))
    judged_plain (Some x) = judged_value true x
    judged_plain None = refused q (λ m. refl)

    judged_both : (b : Bool) (x : X) (test : X → Bool) →
        Judged left (longer v) v p
        (λ m. and_then {A = X × List ℕ} (cond b (Ok (x, m)) (Err (fault q p))) (λ k. cond (test k.0) (Ok k.1) (Err (fault q p))))
    judged_both true x test = judged_test (test x)
    judged_both false x test = refused q (λ m. refl)

pub place_same : (a : ℕ) (v w : List ℕ) → place (a + length v) (w ++ v) ≡ place a w
place_same a v w = simp length-append (omega arith)

-- A reader that begins with one byte, by the byte, its place and what is behind it.
pub record OneByte {A : Type 0} (rest : A → List ℕ) (grow : List ℕ → A → A) (L : ℕ → Refusal → List ℕ → Result A Fault) : Type 0 where
  pub judge : ℕ → ℕ → List ℕ → Result A Fault
  pub none : (end : ℕ) (q : Refusal) → L end q [] ≡ Err (fault q end)
  pub some : (end : ℕ) (q : Refusal) (c : ℕ) (m : List ℕ) → L end q (c ∷ m) ≡ judge c (place end (c ∷ m)) m
  pub judged : (v : List ℕ) (c p : ℕ) → Judged rest (grow v) v p (judge c p)

module _ {A : Type 0} {rest : A → List ℕ} {grow : List ℕ → A → A} {L : ℕ → Refusal → List ℕ → Result A Fault} (o : OneByte rest grow L) where
  pub one_beyond : (end : ℕ) (q : Refusal) (s : List ℕ) → Beyond rest end s (L end q s)
  one_beyond end q [] = rw (o.none end q) (omega arith)
  one_beyond end q (c ∷ m) = rw (o.some end q c m) (go (o.judged [] c (place end (c ∷ m))))
    where
      go : Judged rest (grow []) [] (place end (c ∷ m)) (o.judge c (place end (c ∷ m))) →
          Beyond rest end (c ∷ m) (o.judge c (place end (c ∷ m)) m)
      go (content y is r g) = rw (is m) (rw (r m) (omega arith))
      go (refused x is) = rw (is m) (omega arith)

  pub one_late : (a : ℕ) (q : Refusal) (s : List ℕ) → Late a rest (a + length s) (L (a + length s) q s)
  one_late a q [] = rw (o.none (a + 0) q) (omega arith)
  one_late a q (c ∷ m) = rw (o.some (a + suc (length m)) q c m) (go (o.judged [] c (place (a + suc (length m)) (c ∷ m))))
    where
      go : Judged rest (grow []) [] (place (a + suc (length m)) (c ∷ m)) (o.judge c (place (a + suc (length m)) (c ∷ m))) →
          Late a rest (a + suc (length m)) (o.judge c (place (a + suc (length m)) (c ∷ m)) m)
      go (content y is r g) = rw (is m) (rw (r m) (omega arith))
      go (refused x is) = rw (is m) (omega arith)

  pub one_same : (a : ℕ) (v : List ℕ) (q₀ q : Refusal) (c : ℕ) (w : List ℕ) →
      Same (grow v) (L a q₀ (c ∷ w)) (L (a + length v) q (c ∷ (w ++ v)))
  one_same a v q₀ q c w =
      rw (o.some a q₀ c w, o.some (a + length v) q c (w ++ v), place_same a v (c ∷ w)) (go (o.judged v c (place a (c ∷ w))))
    where
      go : Judged rest (grow v) v (place a (c ∷ w)) (o.judge c (place a (c ∷ w))) →
          Same (grow v) (o.judge c (place a (c ∷ w)) w) (o.judge c (place a (c ∷ w)) (w ++ v))
      go (content y is r g) = stays_same (y w) (is w) (is (w ++ v) ∙ ap Ok (sym (g w)))
      go (refused x is) = fails_same (fault x (place a (c ∷ w))) (is w) (is (w ++ v))

  pub one_beside : (a : ℕ) (v : List ℕ) (q₀ q : Refusal) (w : List ℕ) →
      Beside a (a + length v) rest (grow v) (L a q₀ w) (L (a + length v) q (w ++ v))
  one_beside a v q₀ q [] = past (rw (o.none a q₀) (omega arith)) (one_late a q v)
  one_beside a v q₀ q (c ∷ w) = go (one_same a v q₀ q c w)
    where
      go : Same (grow v) (L a q₀ (c ∷ w)) (L (a + length v) q (c ∷ (w ++ v))) →
          Beside a (a + length v) rest (grow v) (L a q₀ (c ∷ w)) (L (a + length v) q (c ∷ (w ++ v)))
      go (stays_same y e e') = stays y e e'
      go (fails_same f e e') = fails f e e'

-- The readers of one byte.
module _ (kinds : List Kind) where
  abbrev pub body : ℕ → Refusal → Body
  body end q = record { end = end; kinds = kinds; short = q }

  pub byte_one : OneByte behind further (λ end q. byte_of (body end q))
  byte_one = record {
    judge = λ c p m. Ok (c, m);
    none = λ end q. refl;
    some = λ end q c m. refl;
    judged = λ v c p. judged_value v p Sort true c;
  }

  pub truth_one : OneByte left longer (λ end q. truth_of (body end q))
  truth_one = record {
    judge = λ c p m. cond (ltb c 2) (Ok m) (Err (fault Sort p));
    none = λ end q. refl;
    some = λ end q c m. refl;
    judged = λ v c p. judged_test v p Sort (ltb c 2);
  }

  pub kind_one : OneByte behind further (λ end q. kind_at (body end q))
  kind_one = record {
    judge = λ c p m. and_then (or_fault (fault Sort p) (kind_of c)) (λ k. Ok (k, m));
    none = λ end q. refl;
    some = λ end q c m. refl;
    judged = λ v c p. judged_plain v p Sort (kind_of c);
  }

  pub operator_one : (want : Kind) → OneByte behind further (λ end q. operator_at (body end q) want)
  operator_one want = record {
    judge = λ c p m. and_then (or_fault (fault Sort p) (operator_of c)) (λ o. cond (same (value_kind o) want) (Ok (o, m)) (Err (fault Sort p)));
    none = λ end q. refl;
    some = λ end q c m. refl;
    judged = λ v c p. judged_option v p Sort (operator_of c) (λ o. same (value_kind o) want);
  }

  pub value_one : (want : Kind) → OneByte behind further (λ end q. value_at (body end q) want)
  value_one want = record {
    judge = λ c p m. and_then (or_fault (fault Sort p) (value_node c)) (λ n. cond (suits want n) (Ok (n, m)) (Err (fault Sort p)));
    none = λ end q. refl;
    some = λ end q c m. refl;
    judged = λ v c p. judged_option v p Sort (value_node c) (suits want);
  }

  pub action_one : OneByte behind further (λ end q. action_at (body end q))
  action_one = record {
    judge = λ c p m. and_then (or_fault (fault Sort p) (action_node c)) (λ n. Ok (n, m));
    none = λ end q. refl;
    some = λ end q c m. refl;
    judged = λ v c p. judged_plain v p Sort (action_node c);
  }

  pub named_one : (names : List Kind) → OneByte behind further (λ end q. named_of (body end q) names)
  named_one names = record {
    judge = λ c p m. cond (ltb c (length names)) (Ok (get_or names c Truth, m)) (Err (fault Name p));
    none = λ end q. refl;
    some = λ end q c m. refl;
    judged = λ v c p. judged_value v p Name (ltb c (length names)) (get_or names c Truth);
  }

  pub wanted_one : (names : List Kind) (want : Kind) → OneByte left longer (λ end q. wanted_of (body end q) names want)
  wanted_one names want = record {
    judge = λ c p m. and_then {A = Kind × List ℕ} (cond (ltb c (length names)) (Ok (get_or names c Truth, m)) (Err (fault Name p)))
        (λ k. cond (same k.0 want) (Ok k.1) (Err (fault Name p)));
    none = λ end q. refl;
    some = λ end q c m. refl;
    judged = λ v c p. judged_both v p Name (ltb c (length names)) (get_or names c Truth) (λ k. same k want);
  }
