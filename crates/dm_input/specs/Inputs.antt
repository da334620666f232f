-- What a rule over an input ensures.
use Rattle.std.specs.Prelude.{◌≡◌, ℕ, ◌-◌, Result, Ok, Err}
use Rattle.dm_stream.specs.declared.error.Error.{Error}
use Rattle.dm_stream.specs.declared.error.Error.TheVariants as error
use Rattle.dm_stream.specs.declared.error.Refusal.{Refusal}
use Rattle.dm_stream.specs.Trees.{Trees}
use Rattle.dm_ast.specs.Spelling.{Where}
use Rattle.dm_ast.specs.Readers.{Parser, inside_at}
use Rattle.dm_input.specs.State.{State}

-- what the reader reads at the old state, and the new state is what is left, unless memory fails
abbrev pub Reads : {A X : Type 0} → (X → A) → (Where → Parser A) → State → Result X Error → State → Type 0
Reads view reader old (Ok x) new = (reader old.at old.trees ≡ Ok (view x, new.trees)) × (new.at ≡ old.at)
Reads view reader old (Err (error.Refused r)) new = reader old.at old.trees ≡ Err r
Reads view reader old (Err error.NoMemory) new = Unit {0}

-- the inside of a group, and what follows the group
abbrev pub Opens : (Where → Trees → Result (Trees × ℕ × Trees) Refusal) → State → Result State Error → State → Type 0
Opens opener old (Ok inside) new = (opener old.at old.trees ≡ Ok (inside.trees, inside.at.limit, new.trees)) × ((inside.at ≡ inside_at old.at inside.at.limit) × (new.at ≡ old.at))
Opens opener old (Err (error.Refused r)) new = opener old.at old.trees ≡ Err r
Opens opener old (Err error.NoMemory) new = Unit {0}

-- one level less deep, in the same list
unfoldable pub shallower : Where → Where
shallower w = record { level = w.level - 1; limit = w.limit }
