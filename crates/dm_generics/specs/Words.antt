-- Names and types that emitted code has beside those of the declaration.
use Rattle.std.specs.Prelude.{ℕ, List, [], ◌∷◌, false, codes, None}
use Rattle.dm_stream.specs.declared.tokens.Ident.{Ident}
use Rattle.dm_stream.specs.Layout.{nowhere}
use Rattle.dm_ast.specs.Tree.{TypeTree, type_tree, reference, SegmentTree, segment, absent}
use Rattle.dm_ast.specs.Implementors.{name_type}

-- what isn't in the declaration's text stands at the range 0..0
abbrev pub word : List ℕ → Ident
word x = record { name = x; raw = false; span = nowhere }

abbrev pub words : List (List ℕ) → List Ident
words [] = []
words (x ∷ xs) = word x ∷ words xs

-- the segments of a path of these names
abbrev pub plain_segments : List (List ℕ) → List SegmentTree
plain_segments [] = []
plain_segments (x ∷ xs) = segment (word x) absent ∷ plain_segments xs

abbrev pub self_type : TypeTree
self_type = name_type (word (codes "Self"))

abbrev pub ref_self : TypeTree
ref_self = type_tree (reference None false self_type) nowhere
