-- Paths that are one identifier, as `Path::get_ident` of syn has them.
use Rattle.std.specs.Prelude.{true, false, Option, Some, None}
use Rattle.dm_stream.specs.declared.tokens.Ident.{Ident}
use Rattle.dm_ast.specs.Tree.{PathTree, path_tree, SegmentTree, segment, SegmentTrees, no_segments, segment_then, ArgumentsTree, absent, angle, parens}

abbrev pub without_arguments : Ident → ArgumentsTree → Option Ident
without_arguments i absent = Some i
without_arguments i (angle double gs trailing) = None
without_arguments i (parens ts trailing out) = None

-- the name of a segment without arguments
abbrev pub segment_ident : SegmentTree → Option Ident
segment_ident (segment i as') = without_arguments i as'

-- the name that is all segments
abbrev pub segments_ident : SegmentTrees → Option Ident
segments_ident no_segments = None
segments_ident (segment_then s no_segments) = segment_ident s
segments_ident (segment_then s (segment_then r ss)) = None

-- the name that is the whole path, without `::` before it and without arguments
abbrev pub path_ident : PathTree → Option Ident
path_ident (path_tree true ss) = None
path_ident (path_tree false ss) = segments_ident ss
