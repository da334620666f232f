-- The character at the front of a text.
use Rattle.std.specs.Prelude.{ℕ, Bool, false, nat_eq, cond, Option, None, Some, List, [], ◌∷◌}

-- whether the first character is this one
abbrev pub begins_with : ℕ → List ℕ → Bool
begins_with c [] = false
begins_with c (d ∷ cs) = nat_eq d c

-- the characters behind this one, where it is the first
abbrev pub behind : ℕ → List ℕ → Option (List ℕ)
behind c [] = None
behind c (d ∷ cs) = cond (nat_eq d c) (Some cs) None
