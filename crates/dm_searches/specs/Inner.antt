-- The type that a path type wraps: the first argument of its last segment, where that is a type.
use Rattle.std.specs.Prelude.{Bool, true, false, ◌||◌, codes, if◌then◌else◌, Option, Some, None}
use Rattle.std.specs.Str.{bytes_eq}
use Rattle.dm_stream.specs.declared.tokens.Ident.{Ident}
use Rattle.dm_ast.specs.Tree.{TypeTree, type_tree, TypeNode, paren, path, path_tree, SegmentTree, segment, SegmentTrees, no_segments, segment_then, ArgumentsTree, absent, angle, parens, ArgumentTree, lifetime_arg, type_arg, const_arg, assoc_type, assoc_const, constraint, ArgumentTrees, no_arguments, argument_then}

abbrev pub type_in : ArgumentTree → Option TypeTree
type_in (lifetime_arg l) = None
type_in (type_arg t) = Some t
type_in (const_arg c) = None
type_in (assoc_type i gs t) = None
type_in (assoc_const i gs c) = None
type_in (constraint i gs bs trailing) = None

abbrev pub first_type : ArgumentTrees → Option TypeTree
first_type no_arguments = None
first_type (argument_then g gs) = type_in g

abbrev pub wrapped : ArgumentsTree → Option TypeTree
wrapped absent = None
wrapped (angle double gs trailing) = first_type gs
wrapped (parens ts trailing out) = None

abbrev pub is_named_option : Ident → Bool
is_named_option i = bytes_eq i.name (codes "Option")

-- of a segment with any name, or of one that is named `Option`
abbrev pub segment_inner : Bool → SegmentTree → Option TypeTree
segment_inner any_name (segment i as') = if any_name || is_named_option i then wrapped as' else None

-- what the last segment of a path gives
abbrev pub of_last : (SegmentTree → Option TypeTree) → SegmentTrees → Option TypeTree
of_last gives no_segments = None
of_last gives (segment_then s no_segments) = gives s
of_last gives (segment_then s (segment_then r ss)) = of_last gives (segment_then r ss)

abbrev pub last_inner : Bool → SegmentTrees → Option TypeTree
last_inner any_name ss = of_last (segment_inner any_name) ss

-- in parentheses the name is `Option`
abbrev pub node_inner : Bool → TypeNode → Option TypeTree
node_inner any_name (paren (type_tree n range)) = node_inner false n
node_inner any_name (path q (path_tree leading ss)) = last_inner any_name ss
node_inner any_name other = None

-- the `T` of `Option<T>`, by whichever path, in parentheses or not
abbrev pub option_inner : TypeTree → Option TypeTree
option_inner (type_tree n range) = node_inner false n

-- the `T` of `Name<T>` for any name; in parentheses for `Option` alone
abbrev pub inner : TypeTree → Option TypeTree
inner (type_tree n range) = node_inner true n
