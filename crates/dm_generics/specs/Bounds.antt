-- Bounds that emitted code has beside those of the declaration.
use Rattle.std.specs.Prelude.{ℕ, List, [], ◌∷◌, ◌++◌, map, Bool, true, false, None, codes}
use Rattle.dm_stream.specs.declared.tokens.Ident.{Ident}
use Rattle.dm_ast.specs.Tree.{BoundTree, implements, trait_bound, path_tree, SegmentTree, segment, segments_of, ArgumentsTree, absent, angle, argument_then, no_arguments, assoc_type, arguments_absent}
use Rattle.dm_ast.specs.Implementors.{plain_path, name_type}
use Rattle.dm_generics.specs.Words.{word, words, plain_segments}

-- derive_more::core::marker::NAME, with `?` before it or not
abbrev pub marker : Bool → List ℕ → BoundTree
marker maybe name =
    implements (trait_bound false maybe None (plain_path (words (codes "derive_more" ∷ codes "core" ∷ codes "marker" ∷ name ∷ []))))

-- <Output = T>
abbrev pub output : Ident → ArgumentsTree
output i = angle false (argument_then (assoc_type (word (codes "Output")) arguments_absent (name_type i)) no_arguments) false

-- derive_more::core::ops::NAME<Output = T>
abbrev pub op_output : List ℕ → Ident → BoundTree
op_output name i =
    implements (trait_bound false false None (path_tree false (segments_of
    (plain_segments (codes "derive_more" ∷ codes "core" ∷ codes "ops" ∷ []) ++ segment (word name) (output i) ∷ []))))
