-- Lists of bounds in declarations: what their reader decides, where that of one bound does.
use Rattle.std.proofs.Common.{◌≡◌, Bool, true, false, not, ◌||◌, List, [], ◌∷◌, codes, refl, ap, ◌∙◌, subst}
use Rattle.dm_stream.specs.declared.tokens.Delim.TheVariants.{Paren}
use Rattle.dm_ast.specs.Tree.{BoundTree, outlives, implements, TraitBoundTree, trait_bound, bounds_of, PathTree, path_tree, SegmentTrees, no_segments, segment_then, segment}
use Rattle.dm_ast.specs.Spelling.{Where, ◌then◌, sees, sees_word, sees_lifetime, sees_group, sees_colons, is_word, lifetime, punct, keyword, colons, items}
use Rattle.dm_ast.specs.TypeGrammar.{sees_path_word, is_path_word, ends_bounds, bound, trait_bound_spelled, for_lifetimes, path_spelled, segments, between_angles}
use Rattle.dm_ast.specs.DeclarationGrammar.{bound_list}
use Rattle.dm_ast.specs.Readers.{Parser, read_list}
use Rattle.dm_read.specs.DeclarationReaders.{to_listed, read_bound_list}
use Rattle.dm_read.proofs.Deciding.{Reader, pair}
use Rattle.dm_read.proofs.Tokens.{punct_seen}
use Rattle.dm_read.proofs.Groups.{pair_seen}
use Rattle.dm_read_paths.proofs.Listing.{reads_list}
use Rattle.dm_read_paths.proofs.PlainParts.{reads_by}
use Rattle.dm_read_paths.proofs.TypeLists as lists
use Rattle.dm_grammar_laws.proofs.TypeFronts.{Begins, behind_flag, behind_perhaps}

-- ---- the first token of a bound

or_left : (a b : Bool) → a ≡ true → (a || b) ≡ true
or_left a b e = ap (λ v. v || b) e

or_right : (a b : Bool) → b ≡ true → (a || b) ≡ true
or_right true b e = refl
or_right false b e = e

module _ (a b c d e f : Bool) where
  second_true : b ≡ true → (a || b || c || d || e || f) ≡ true
  second_true h = or_left (a || b || c || d || e) f (or_left (a || b || c || d) e (or_left (a || b || c) d (or_left (a || b) c (or_right a b h))))

  fifth_true : e ≡ true → (a || b || c || d || e || f) ≡ true
  fifth_true h = or_left (a || b || c || d || e) f (or_right (a || b || c || d) e h)

by_mark : (w : Where) → Begins ends_bounds false (punct w 63)
by_mark w ts o m s =
    ap not (second_true (sees_lifetime ts) (sees 63 ts) (sees_group Paren ts) (sees_word (codes "for") ts) (sees_colons ts) (sees_path_word ts) (punct_seen 63 w ts o m s))

by_for : (w : Where) → Begins ends_bounds false (keyword w (codes "for"))
by_for w ts o m s = ap ends_bounds s.there.spelled

by_colons : (w : Where) → Begins ends_bounds false (colons w)
by_colons w ts o m s =
    ap not (fifth_true (sees_lifetime ts) (sees 63 ts) (sees_group Paren ts) (sees_word (codes "for") ts) (sees_colons ts) (sees_path_word ts) (pair_seen 58 58 w ts o m s))

segments_front : (w : Where) (ss : SegmentTrees) → Begins ends_bounds false (segments ss w)
segments_front w no_segments ts o m s = absurd s.fact
segments_front w (segment_then (segment i as') ss) ts o m s =
    ap ends_bounds s.first.first.part.spelled ∙ ap not (or_right (is_word (codes "for") i || false) (is_path_word i) s.first.first.fact)

path_front : (w : Where) (p : PathTree) → Begins ends_bounds false (path_spelled p w)
path_front w (path_tree leading ss) = behind_flag ends_bounds false (segments ss w) sees_colons leading (colons w) (by_colons w) (segments_front w ss)

trait_front : (w : Where) (b : TraitBoundTree) → Begins ends_bounds false (trait_bound_spelled b w)
trait_front w (trait_bound true maybe ls p) = λ ts o m s. ap ends_bounds s.spelled
trait_front w (trait_bound false maybe ls p) =
    behind_flag ends_bounds false (for_lifetimes w ls then path_spelled p w) (sees 63) maybe (punct w 63) (by_mark w)
    (behind_perhaps ends_bounds false (path_spelled p w) (sees_word (codes "for")) ls
    (λ l. keyword w (codes "for") then between_angles w (λ v. items v 44 (sees 62) (lifetime v) l.items l.trailing))
    (λ l ts o m s. by_for w ts s.middle s.first_marks s.first) (path_front w p))

pub bound_front : (w : Where) (b : BoundTree) → Begins ends_bounds false (bound b w)
bound_front w (outlives l) ts o m s = ap ends_bounds s.spelled
bound_front w (implements b) ts o m s = trait_front w b ts o m s

-- ---- lists

bounds_same : (bs : List BoundTree) → lists.bound_list (bounds_of bs) ≡ bs
bounds_same [] = refl
bounds_same (b ∷ bs) = ap (λ l. b ∷ l) (bounds_same bs)

pub reads_bound_list : (one : Where → Parser BoundTree) (w : Where) → Reader (λ b. bound b w) (one w) → Reader (bound_list w) (read_bound_list one w)
reads_bound_list one w h =
    reads_by to_listed (λ r. items w 43 ends_bounds (λ b. bound b w) r.0 r.1) (bound_list w) (read_list w 43 ends_bounds (one w))
    (λ r ts o m s. lists.bounds_to w r.1 r.0 ts o m s)
    (λ bs ts o m s. record {
      value = pair bs.items bs.trailing;
      is_it = refl;
      spelled = subst (λ l. items w 43 ends_bounds (λ b. bound b w) l bs.trailing ts o m) (bounds_same bs.items) (lists.bounds_back w bs.trailing (bounds_of bs.items) ts o m s);
    })
    (reads_list w 43 ends_bounds (λ b. bound b w) (one w) (bound_front w) h)
