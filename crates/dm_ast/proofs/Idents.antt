-- One segment alone.
use Rattle.std.proofs.Common.{◌≡◌, ◌≢◌, List, [], ◌∷◌, length, map, get_or, None, refl, sym, ap}
use Rattle.dm_ast.specs.declared.ty.PathSegment.{PathSegment}
use Rattle.dm_ast.specs.Idents.{segment_ident, segments_ident}
use Rattle.dm_ast.specs.Tree.{segments_of, segment_view}
use Rattle.dm_ast.proofs.View.{view_steps}

pub none_alone : (l : List PathSegment) → length l ≢ 1 → segments_ident (segments_of (map segment_view l)) ≡ None
none_alone [] n = refl
none_alone (x ∷ []) n = absurd (n refl)
none_alone (x ∷ y ∷ l) n = refl

pub one_alone : (l : List PathSegment) (s : PathSegment) → length l ≡ 1 → s ≡ get_or l 0 s → segments_ident (segments_of (map segment_view l)) ≡ segment_ident (segment_view s)
one_alone [] s n e = absurd (cc)
one_alone (x ∷ []) s n e = let f : s ≡ x = e in ap (λ y. segment_ident (segment_view y)) (sym f)
one_alone (x ∷ y ∷ l) s n e = absurd (cc)

pub ruleset alone_steps = (view_steps, none_alone, one_alone)
