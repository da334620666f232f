-- Which attributes are examined under a name.
use Rattle.std.specs.Prelude.{ℕ, List, [], ◌∷◌, Bool, false, not, ◌&&◌}
use Rattle.std.specs.Str.{bytes_eq}
use Rattle.dm_stream.specs.declared.tokens.Ident.{Ident}
use Rattle.dm_ast.specs.declared.plain.Attribute.{Attribute}

-- an identifier that isn't raw, of these characters
abbrev pub is_spelled : List ℕ → Ident → Bool
is_spelled word i = not i.raw && bytes_eq i.name word

abbrev pub is_one_word : List ℕ → List Ident → Bool
is_one_word word [] = false
is_one_word word (i ∷ []) = is_spelled word i
is_one_word word (i ∷ j ∷ more) = false

-- an attribute whose path is exactly one identifier spelled so
abbrev pub is_examined : List ℕ → Attribute → Bool
is_examined name a = not a.path.leading_colon && is_one_word name a.path.segments
