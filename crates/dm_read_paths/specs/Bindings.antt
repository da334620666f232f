-- The name and the arguments that stand before `=` or `:` among generic arguments, by what was read as a type; and a path behind `as`.
use Rattle.std.specs.Prelude.{Bool, true, false, List, map, Option, Some, None}
use Rattle.dm_stream.specs.declared.seq.Punctuated.{Punctuated}
use Rattle.dm_stream.specs.declared.tokens.Ident.{Ident}
use Rattle.dm_ast.specs.declared.ty.GenericArgument.{GenericArgument}
use Rattle.dm_ast.specs.declared.ty.PathSegment.{PathSegment}
use Rattle.dm_ast.specs.Tree.{segment_view, TypeTree, type_tree, path, no_self, PathTree, path_tree, SegmentTree, segment, SegmentTrees, segment_then, no_segments, MaybeArguments, maybe_arguments_view}
use Rattle.dm_read_paths.specs.TypeReaders.{named_by}

abbrev pub binding_view : Ident × Option (Punctuated GenericArgument) → Ident × MaybeArguments
binding_view b = (b.0, maybe_arguments_view b.1)

abbrev pub segment_binding : SegmentTree → Option (Ident × MaybeArguments)
segment_binding (segment i as') = named_by i as'

abbrev pub segments_binding : SegmentTrees → Option (Ident × MaybeArguments)
segments_binding (segment_then s no_segments) = segment_binding s
segments_binding _ = None

abbrev pub path_binding : PathTree → Option (Ident × MaybeArguments)
path_binding (path_tree true ss) = None
path_binding (path_tree false ss) = segments_binding ss

-- the path that a type is, where it is a path alone
abbrev pub path_alone : TypeTree → Option PathTree
path_alone (type_tree (path no_self p) range) = Some p
path_alone _ = None

-- a path behind `as`
abbrev pub as_view : Option (Bool × List PathSegment) → Option (Bool × List SegmentTree)
as_view None = None
as_view (Some v) = Some (v.0, map segment_view v.1)
