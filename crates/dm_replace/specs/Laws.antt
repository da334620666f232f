-- Replacing `Self` twice is replacing it once.
use Rattle.std.specs.Prelude.{◌≡◌, ℕ, Bool, false, All}
use Rattle.dm_stream.specs.Trees.{Trees}
use Rattle.dm_ast.specs.Declarations.{ParamTree, lifetime_param, type_param, const_param, Declaration}
use Rattle.dm_ast.specs.Spelling.{Marks}
use Rattle.dm_ast.specs.Parsed.{SpelledBy}
use Rattle.dm_copy.specs.Replaced.{is_self}
use Rattle.dm_replace.specs.Replaced.{replaced}

-- a type or const parameter spelled `Self`
abbrev pub is_self_param : ParamTree → Bool
is_self_param (lifetime_param attrs l bs) = false
is_self_param (type_param attrs i bs default) = is_self i
is_self_param (const_param attrs i t default) = is_self i

-- where no parameter is spelled `Self`
abbrev pub TwiceIsOnce : Type 0
TwiceIsOnce = (d : Declaration) → All (λ p. is_self_param p ≡ false) d.generics.params.items → replaced (replaced d) ≡ replaced d

-- so for each declaration that trees spell
abbrev pub SpelledTwiceIsOnce : Type 0
SpelledTwiceIsOnce = (d : Declaration) (limit : ℕ) (ts : Trees) (m : Marks) → SpelledBy d limit ts m → replaced (replaced d) ≡ replaced d
