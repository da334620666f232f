-- The type that `Self` stands for, as a segment of a path.
use Rattle.std.specs.Prelude.{false, List, [], ◌∷◌, map, Option, option_map}
use Rattle.dm_ast.specs.Tree.{SegmentTree, segment, ArgumentsTree, absent, angle, ArgumentTree, lifetime_arg, type_arg, arguments_of}
use Rattle.dm_ast.specs.Implementors.{name_type}
use Rattle.dm_copy.specs.declared.self_type.SelfArgument.{SelfArgument}
use Rattle.dm_copy.specs.declared.self_type.SelfArgument.TheVariants as a
use Rattle.dm_copy.specs.declared.self_type.SelfType.{SelfType}

abbrev pub argument_of : SelfArgument → ArgumentTree
argument_of (a.Lifetime l) = lifetime_arg l
argument_of (a.Name i) = type_arg (name_type i)

-- arguments between `<` and `>`, where there is any
abbrev pub bracketed : List ArgumentTree → ArgumentsTree
bracketed [] = absent
bracketed (g ∷ gs) = angle false (arguments_of (g ∷ gs)) false

abbrev pub segment_of : SelfType → SegmentTree
segment_of own = segment own.ident (bracketed (map argument_of own.arguments))

-- that of a type, where there is one
abbrev pub own_segment : Option SelfType → Option SegmentTree
own_segment own = option_map segment_of own
