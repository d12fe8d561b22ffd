-- Ways from a rule's body down to a node.
use Rattle.std.specs.Prelude.{ℕ, ◌-◌, cond, List, [], ◌∷◌, ◌++◌, Some, None, Option, ◌==◌}

-- How many levels, lets and nodes 13 and 17 may still be nested on the way, and what the lets around have bound, the outermost first.
pub record Path (T : Type 0) : Type 0 where
  pub depth : ℕ
  pub lets : ℕ
  pub forks : ℕ
  pub scope : List T

-- The way to a body.
abbrev pub to_body : {T : Type 0} → Path T
to_body = record { depth = 24; lets = 8; forks = 8; scope = [] }

-- The way to the parts of a node, one deeper.
abbrev pub deeper : {T : Type 0} → Path T → Option (Path T)
deeper w =
    cond (w.depth == 0) None (Some (record { depth = w.depth - 1; lets = w.lets; forks = w.forks; scope = w.scope }))

-- The way past a let.
abbrev pub past_let : {T : Type 0} → Path T → Option (Path T)
past_let w =
    cond (w.lets == 0) None (Some (record { depth = w.depth; lets = w.lets - 1; forks = w.forks; scope = w.scope }))

-- The way to the parts of a node 13 or 17.
abbrev pub past_fork : {T : Type 0} → Path T → Option (Path T)
past_fork w =
    cond (w.forks == 0) None (Some (record { depth = w.depth; lets = w.lets; forks = w.forks - 1; scope = w.scope }))

-- The way to the last part of a let, which sees what was bound.
abbrev pub bind : {T : Type 0} → Path T → T → Path T
bind w x = record { depth = w.depth; lets = w.lets; forks = w.forks; scope = w.scope ++ (x ∷ []) }
