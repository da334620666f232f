-- What an implementation takes over from a declaration: its parameters, its predicates, and its type with an argument for each
-- parameter.
use Rattle.std.specs.Prelude.{List, [], ◌∷◌, ◌++◌, map, filter, Bool, true, false, not, Option, Some, None}
use Rattle.dm_stream.specs.declared.tokens.Ident.{Ident}
use Rattle.dm_stream.specs.Layout.{nowhere}
use Rattle.dm_ast.specs.Tree.{TypeTree, type_tree, path, PathTree, path_tree, SegmentTrees, segment, no_segments, segment_then, ArgumentsTree, absent, angle, ArgumentTree, lifetime_arg, type_arg, arguments_of, no_self}
use Rattle.dm_ast.specs.Declarations.{Listed, ParamTree, lifetime_param, type_param, const_param, PredicateTree, Declaration}

-- a path of these names, without arguments
abbrev pub segments : List Ident → SegmentTrees
segments [] = no_segments
segments (i ∷ is) = segment_then (segment i absent) (segments is)

abbrev pub plain_path : List Ident → PathTree
plain_path is = path_tree false (segments is)

abbrev pub name_type : Ident → TypeTree
name_type i = type_tree (path no_self (plain_path (i ∷ []))) nowhere

-- ---- parameters and predicates

abbrev pub is_lifetime : ParamTree → Bool
is_lifetime (lifetime_param attrs l bounds) = true
is_lifetime (type_param attrs i bounds default) = false
is_lifetime (const_param attrs i t default) = false

abbrev pub is_other : ParamTree → Bool
is_other p = not (is_lifetime p)

-- a parameter without its attributes and its default
abbrev pub bare : ParamTree → ParamTree
bare (lifetime_param attrs l bounds) = lifetime_param [] l bounds
bare (type_param attrs i bounds default) = type_param [] i bounds None
bare (const_param attrs i t default) = const_param [] i t None

-- the declared parameters, lifetimes first
abbrev pub params_of : Declaration → List ParamTree
params_of d = map bare (filter is_lifetime d.generics.params.items) ++ map bare (filter is_other d.generics.params.items)

abbrev pub predicates_in : Option (Listed PredicateTree) → List PredicateTree
predicates_in None = []
predicates_in (Some ps) = ps.items

-- the declared predicates
abbrev pub predicates_of : Declaration → List PredicateTree
predicates_of d = predicates_in d.generics.where_clause

-- ---- the type

-- what stands for a parameter between `<` and `>`; a constant's name is read as a type
abbrev pub argument : ParamTree → ArgumentTree
argument (lifetime_param attrs l bounds) = lifetime_arg l
argument (type_param attrs i bounds default) = type_arg (name_type i)
argument (const_param attrs i t default) = type_arg (name_type i)

-- `<..>` where there is any parameter
abbrev pub arguments : List ParamTree → ArgumentsTree
arguments [] = absent
arguments (p ∷ ps) = angle false (arguments_of (map argument (p ∷ ps))) false

-- the declared type with an argument for each of its parameters
abbrev pub implementor : Declaration → TypeTree
implementor d = type_tree (path no_self (path_tree false (segment_then (segment d.ident (arguments (params_of d))) no_segments))) nowhere
