-- The definitions of the rows of records, unfolded once.
use Rattle.std.proofs.Common.{◌≡◌, ℕ, zero, suc, ◌+◌, ◌-◌, cond, eqb, List, [], ◌∷◌, ◌++◌, length, Ok, Err, refl, arith}
use lib.Dec.{eqb-suc-zero}
use Rattle.terms.specs.declared.refusal.Refusal.TheVariants.{Order, Count}
use Rattle.terms.specs.declared.kind.Kind.{Kind}
use Rattle.tree.specs.Reading.{fault, and_then, place}
use Rattle.program.specs.Verdict.{opening_of, on_register, on_rule, on_entry, register_of, rule_of, entry_of, registers, rules, entries}

-- The definitions of the three rows of records, unfolded once at any room.
pub registers_is : (n end : ℕ) (kinds : List Kind) (s : List ℕ) →
    registers n end kinds s
    ≡ on_register (opening_of s)
    (λ f. cond (eqb n 0) (Err (fault Count (place end s)))
    (and_then (register_of end f) (λ k. registers (n - 1) end (kinds ++ (k.0 ∷ [])) k.1)))
    (Ok (kinds, s))
unfolding registers
registers_is zero end kinds s = refl
registers_is (suc n) end kinds s = let e : suc n - 1 ≡ n = omega arith in simp (e, eqb-suc-zero)

pub rules_is : (n end : ℕ) (kinds : List Kind) (count : ℕ) (s : List ℕ) →
    rules n end kinds count s
    ≡ on_rule (opening_of s)
    (λ f. cond (eqb (length kinds) 0) (Err (fault Order (place end s)))
    (cond (eqb n 0) (Err (fault Count (place end s)))
    (and_then (rule_of end kinds f) (λ l. rules (n - 1) end kinds (count + 1) l))))
    (Ok (count, s))
unfolding rules
rules_is zero end kinds count s = refl
rules_is (suc n) end kinds count s = let e : suc n - 1 ≡ n = omega arith in simp (e, eqb-suc-zero)

pub entries_is : (n end rules count : ℕ) (s : List ℕ) →
    entries n end rules count s
    ≡ on_entry (opening_of s)
    (λ f. cond (eqb rules 0) (Err (fault Order (place end s)))
    (cond (eqb n 0) (Err (fault Count (place end s)))
    (and_then (entry_of end rules f) (λ l. entries (n - 1) end rules (count + 1) l))))
    (Ok (count, s))
unfolding entries
entries_is zero end rules count s = refl
entries_is (suc n) end rules count s = let e : suc n - 1 ≡ n = omega arith in simp (e, eqb-suc-zero)

-- The same as a loop meets them, behind the records that it has counted.
pub registers_left : (most end count : ℕ) (kinds : List Kind) (s : List ℕ) →
    registers (most - count) end kinds s
    ≡ on_register (opening_of s)
    (λ f. cond (eqb (most - count) 0) (Err (fault Count (place end s)))
    (and_then (register_of end f) (λ k. registers (most - (count + 1)) end (kinds ++ (k.0 ∷ [])) k.1)))
    (Ok (kinds, s))
registers_left most end count kinds s =
    let e : most - (count + 1) ≡ most - count - 1 = omega arith in rw e (registers_is (most - count) end kinds s)

pub rules_left : (end : ℕ) (kinds : List Kind) (count : ℕ) (s : List ℕ) →
    rules (32 - count) end kinds count s
    ≡ on_rule (opening_of s)
    (λ f. cond (eqb (length kinds) 0) (Err (fault Order (place end s)))
    (cond (eqb (32 - count) 0) (Err (fault Count (place end s)))
    (and_then (rule_of end kinds f) (λ l. rules (32 - (count + 1)) end kinds (count + 1) l))))
    (Ok (count, s))
rules_left end kinds count s =
    let e : 32 - (count + 1) ≡ 32 - count - 1 = omega arith in rw e (rules_is (32 - count) end kinds count s)

pub entries_left : (end rules count : ℕ) (s : List ℕ) →
    entries (64 - count) end rules count s
    ≡ on_entry (opening_of s)
    (λ f. cond (eqb rules 0) (Err (fault Order (place end s)))
    (cond (eqb (64 - count) 0) (Err (fault Count (place end s)))
    (and_then (entry_of end rules f) (λ l. entries (64 - (count + 1)) end rules (count + 1) l))))
    (Ok (count, s))
entries_left end rules count s =
    let e : 64 - (count + 1) ≡ 64 - count - 1 = omega arith in rw e (entries_is (64 - count) end rules count s)
