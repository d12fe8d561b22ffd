-- What the check answers for every string of bytes: how many registers, rules and entries it has, or its first fault.
-- A program is a row of records, each opened by a mark of two bytes: registers, then rules, then entries.
use Rattle.std.specs.Prelude.{ℕ, zero, suc, ◌+◌, ◌*◌, ◌^◌, cond, List, [], ◌∷◌, ◌++◌, length, take, drop, Ok, Err, Result, ◌==◌, nat_le, nat_lt}
use Rattle.terms.specs.declared.refusal.Refusal.TheVariants.{Length, Missing, Order, Count, Sort, Name, Fill}
use Rattle.terms.specs.declared.refusal.Fault.{Fault}
use Rattle.terms.specs.declared.kind.Kind.{Kind}
use Rattle.program.specs.declared.examine.Counts.{Counts}
use Rattle.terms.specs.Kinds.{kind_of, fits}
pub use Rattle.terms.specs.Inputs.{four_of}
use Rattle.tree.specs.Reading.{fault, and_then, or_fault, Read, Passed, place, tree}

-- What stands where a record may begin: one of the three marks with what is behind it, two other bytes, or less than two.
pub data Opening : Type 0 where
  register : List ℕ → Opening
  rule : List ℕ → Opening
  entry : List ℕ → Opening
  unknown : Opening
  cut : Opening

-- The marks are 52 47 for a register, 52 4C for a rule and 53 45 for an entry.
abbrev pub marked : ℕ → ℕ → List ℕ → Opening
marked a b s =
    cond (a == 82) (cond (b == 71) (register s) (cond (b == 76) (rule s) unknown))
    (cond (a == 83) (cond (b == 69) (entry s) unknown) unknown)

-- What the first bytes open.
abbrev pub opening_of : List ℕ → Opening
opening_of [] = cut
opening_of (a ∷ []) = cut
opening_of (a ∷ (b ∷ s)) = marked a b s

-- What follows at a mark of one sort, and what otherwise.
abbrev pub on_register : {A : Type 0} → Opening → (List ℕ → A) → A → A
on_register (register s) f other = f s
on_register (rule s) f other = other
on_register (entry s) f other = other
on_register unknown f other = other
on_register cut f other = other

abbrev pub on_rule : {A : Type 0} → Opening → (List ℕ → A) → A → A
on_rule (register s) f other = other
on_rule (rule s) f other = f s
on_rule (entry s) f other = other
on_rule unknown f other = other
on_rule cut f other = other

abbrev pub on_entry : {A : Type 0} → Opening → (List ℕ → A) → A → A
on_entry (register s) f other = other
on_entry (rule s) f other = other
on_entry (entry s) f other = f s
on_entry unknown f other = other
on_entry cut f other = other

-- Behind a register's mark: a type, and an initial value of that type, judged only where all of it is there.
abbrev pub register_of : ℕ → List ℕ → Read Kind
register_of end [] = Err (fault Missing end)
register_of end (b ∷ s) =
    and_then (or_fault (fault Sort (place end (b ∷ s))) (kind_of b)) (λ k.
    and_then (or_fault (fault Missing end) (four_of s)) (λ v.
    cond (fits k v.0) (Ok (k, v.1)) (Err (fault Sort (place end s)))))

-- A body of n bytes at the beginning of s. One that is cut off is judged as far as it is there.
abbrev pub body_at : ℕ → List Kind → ℕ → List ℕ → Passed
body_at end kinds n s =
    cond (nat_le n (length s))
    (and_then (tree (record { end = place end (drop n s); kinds = kinds; short = Fill }) (take n s)) (λ _. Ok (drop n s)))
    (and_then (tree (record { end = end; kinds = kinds; short = Missing }) s) (λ _. Err (fault Missing end)))

-- Behind a rule's mark: a length of two bytes, and a body of that length.
abbrev pub rule_of : ℕ → List Kind → List ℕ → Passed
rule_of end kinds [] = Err (fault Missing end)
rule_of end kinds (h ∷ []) = Err (fault Missing end)
rule_of end kinds (h ∷ (l ∷ s)) = body_at end kinds (h * 256 + l) s

-- Behind an entry's mark: the number of a rule, and a mask that names rules, judged only where all of it is there.
abbrev pub entry_of : ℕ → ℕ → List ℕ → Passed
entry_of end rules [] = Err (fault Missing end)
entry_of end rules (r ∷ s) =
    cond (nat_lt r rules)
    (and_then (or_fault (fault Missing end) (four_of s)) (λ m.
    cond (nat_lt m.0 (2 ^ rules)) (Ok m.1) (Err (fault Name (place end s)))))
    (Err (fault Name (place end (r ∷ s))))

-- The registers, where n more may come and these kinds have come: the kinds of all.
unfoldable pub registers : ℕ → ℕ → List Kind → List ℕ → Read (List Kind)
registers zero end kinds s = on_register (opening_of s) (λ f. Err (fault Count (place end s))) (Ok (kinds, s))
registers (suc n) end kinds s =
    on_register (opening_of s)
    (λ f. and_then (register_of end f) (λ k. registers n end (kinds ++ (k.0 ∷ [])) k.1))
    (Ok (kinds, s))

-- The rules, where n more may come and so many have come. There is none before the first register.
unfoldable pub rules : ℕ → ℕ → List Kind → ℕ → List ℕ → Read ℕ
rules zero end kinds count s =
    on_rule (opening_of s)
    (λ f. cond (length kinds == 0) (Err (fault Order (place end s))) (Err (fault Count (place end s))))
    (Ok (count, s))
rules (suc n) end kinds count s =
    on_rule (opening_of s)
    (λ f. cond (length kinds == 0) (Err (fault Order (place end s)))
    (and_then (rule_of end kinds f) (λ l. rules n end kinds (count + 1) l)))
    (Ok (count, s))

-- The entries, likewise. There is none before the first rule.
unfoldable pub entries : ℕ → ℕ → ℕ → ℕ → List ℕ → Read ℕ
entries zero end rules count s =
    on_entry (opening_of s)
    (λ f. cond (rules == 0) (Err (fault Order (place end s))) (Err (fault Count (place end s))))
    (Ok (count, s))
entries (suc n) end rules count s =
    on_entry (opening_of s)
    (λ f. cond (rules == 0) (Err (fault Order (place end s)))
    (and_then (entry_of end rules f) (λ l. entries n end rules (count + 1) l)))
    (Ok (count, s))

-- Behind the last entry, of which there is at least one, a program ends.
abbrev pub ended : ℕ → ℕ → List ℕ → Result (Unit {0}) Fault
ended end entries [] = cond (entries == 0) (Err (fault Missing end)) (Ok tt)
ended end entries (a ∷ []) = Err (fault Missing end)
ended end entries (a ∷ (b ∷ s)) = Err (fault Order (place end (a ∷ (b ∷ s))))

-- All records of a program that ends at `end`, and how many there are of each sort.
abbrev pub records_of : ℕ → List ℕ → Result Counts Fault
records_of end s =
    and_then (registers 64 end [] s) (λ g. and_then (rules 32 end g.0 0 g.1) (λ u.
    and_then (entries 64 end u.0 0 u.1) (λ e. and_then (ended end e.0 e.1) (λ _.
    Ok (record { registers = length g.0; rules = u.0; entries = e.0 })))))

-- A program has at most 16,384 bytes, 64 registers, 32 rules and 64 entries.
abbrev pub verdict : List ℕ → Result Counts Fault
verdict s = cond (nat_lt 16384 (length s)) (Err (fault Length 0)) (records_of (length s) s)
