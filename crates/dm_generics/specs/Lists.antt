-- Lists of a declaration.
use Rattle.std.specs.Prelude.{List, [], false, Option, Some, None}
use Rattle.dm_ast.specs.Declarations.{Listed}

-- these items, with separators between them alone
abbrev pub separated : {A : Type 0} → List A → Listed A
separated xs = record { items = xs; trailing = false }

-- none where there is no list
abbrev pub items_in : {A : Type 0} → Option (Listed A) → List A
items_in None = []
items_in (Some xs) = xs.items
