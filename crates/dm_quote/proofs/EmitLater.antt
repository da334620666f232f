-- One step of the loop that writes the later segments of a qualified path.
use Rattle.std.proofs.Common.{◌≡◌, ℕ, suc, ◌+◌, ◌-◌, ◌<◌, ◌≤◌, length, List, ◌∷◌, map, drop, get_or, false, sym, ap, ◌∙◌, add-one}
use Rattle.std.proofs.Math.Seq.{drop-cons}
use Rattle.dm_stream.specs.declared.tokens.Span.{Span}
use Rattle.dm_stream.specs.Trees.{Trees, join, join_assoc}
use Rattle.dm_ast.specs.declared.ty.PathSegment.{PathSegment}
use Rattle.dm_ast.specs.Tree.{segments_of, segment_view}
use Rattle.dm_ast.specs.TypeTokens.{spaced, colons, each_segment, segment_trees}
use Rattle.dm_ast.proofs.Split.{drop_none, drop_later}

split_at : (all : List PathSegment) (x : PathSegment) (i : ℕ) → i < length all → x ≡ get_or all i x → drop i all ≡ x ∷ drop (i + 1) all
split_at all x i h e = drop-cons all i x h ∙ ap (λ y. y ∷ drop (suc i) all) (sym e) ∙ ap (λ k. x ∷ drop k all) (sym (add-one i))

pub later_step : (s : Span) (all : List PathSegment) (x : PathSegment) (i position : ℕ) → i < length all → x ≡ get_or all i x → position ≤ i →
    spaced (colons s) false (drop (position - i) (each_segment s (segments_of (map segment_view (drop i all))))) ≡
    join (colons s) (join (segment_trees s (segment_view x)) (spaced (colons s) false (drop (position - (i + 1)) (each_segment s (segments_of (map segment_view (drop (i + 1) all)))))))
later_step s all x i position h e p =
    ap (λ l. spaced (colons s) false l) (drop_none position i (each_segment s (segments_of (map segment_view (drop i all)))) p) ∙
    ap (λ l. spaced (colons s) false (each_segment s (segments_of (map segment_view l)))) (split_at all x i h e) ∙
    ap (λ l. join (colons s) (join (segment_trees s (segment_view x)) (spaced (colons s) false l)))
    (sym (drop_later position i (each_segment s (segments_of (map segment_view (drop (i + 1) all)))) p))

pub later_kept : (s : Span) (all : List PathSegment) (x : PathSegment) (i position : ℕ) (o o1 o2 j : Trees) →
    i < length all → x ≡ get_or all i x → position ≤ i → o1 ≡ join o (colons s) → o2 ≡ join o1 (segment_trees s (segment_view x)) →
    join o (spaced (colons s) false (drop (position - i) (each_segment s (segments_of (map segment_view (drop i all)))))) ≡ j →
    join o2 (spaced (colons s) false (drop (position - (i + 1)) (each_segment s (segments_of (map segment_view (drop (i + 1) all)))))) ≡ j
later_kept s all x i position o o1 o2 j h e p e1 e2 v =
    let rest : Trees = spaced (colons s) false (drop (position - (i + 1)) (each_segment s (segments_of (map segment_view (drop (i + 1) all))))) in
    let seg : Trees = segment_trees s (segment_view x) in
    ap (λ u. join u rest) e2 ∙ ap (λ u. join (join u seg) rest) e1 ∙ join_assoc (join o (colons s)) seg rest ∙
    join_assoc o (colons s) (join seg rest) ∙ sym (ap (λ u. join o u) (later_step s all x i position h e p)) ∙ v
