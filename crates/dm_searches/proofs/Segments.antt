-- The only segment of a path, and the last.
use Rattle.std.proofs.Common.{◌≡◌, List, [], ◌∷◌, ◌++◌, map, Option, refl}
use Rattle.dm_ast.specs.declared.ty.PathSegment.{PathSegment}
use Rattle.dm_ast.specs.Tree.{TypeTree, SegmentTree, segments_of, segment_view}
use Rattle.dm_ast.proofs.View.{view_steps}
use Rattle.dm_searches.specs.Inner.{of_last}

pub last_gives : (gives : SegmentTree → Option TypeTree) (l : List PathSegment) (s : PathSegment) →
    of_last gives (segments_of (map segment_view (l ++ s ∷ []))) ≡ gives (segment_view s)
last_gives gives [] s = refl
last_gives gives (x ∷ []) s = refl
last_gives gives (x ∷ y ∷ l) s = last_gives gives (y ∷ l) s

pub ruleset last_steps = (view_steps, last_gives)
