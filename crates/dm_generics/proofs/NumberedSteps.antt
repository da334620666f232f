-- One numbered name more.
use Rattle.std.proofs.Common.{◌≡◌, ℕ, ◌+◌, List, [], ◌∷◌, ◌++◌, arith}
use Rattle.std.proofs.lemmas.List.FromFn.{map-range_with_len_more}
use Rattle.dm_generics.specs.Numbered.{numbered_var, numbered_vars}

pub one_more : (n : ℕ) (prefix : List ℕ) → numbered_vars (n + 1) prefix ≡ numbered_vars n prefix ++ numbered_var prefix n ∷ []
one_more n prefix = map-range_with_len_more (numbered_var prefix) 0 n n (omega arith)
