-- Parts of types like `<T as A::B>::C`, as they are read, as plain data.
use Rattle.std.proofs.Common.{Bool, List, Option, map}
use Rattle.dm_ast.specs.declared.ty.PathSegment.{PathSegment}
use Rattle.dm_ast.specs.declared.ty.Ty.{Ty}
use Rattle.dm_ast.specs.Tree.{TypeTree, SegmentTree, ty_view, segment_view}
use Rattle.dm_read_paths.specs.Bindings.{as_view}

-- `::` and segments
abbrev pub leading_view : Bool × List PathSegment → Bool × List SegmentTree
leading_view v = (v.0, map segment_view v.1)

-- what stands before `>` and behind it
abbrev pub behind_view : Option (Bool × List PathSegment) × List PathSegment → Option (Bool × List SegmentTree) × List SegmentTree
behind_view v = (as_view v.0, map segment_view v.1)

-- with the type
abbrev pub qualified_view : Ty × (Option (Bool × List PathSegment) × List PathSegment) → TypeTree × (Option (Bool × List SegmentTree) × List SegmentTree)
qualified_view v = (ty_view v.0, behind_view v.1)
