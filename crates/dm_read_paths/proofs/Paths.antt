-- Paths: what their readers decide, where the readers of generic arguments and of the types in them decide those.
use Rattle.std.proofs.Common.{◌≡◌, Bool, true, false, if◌then◌else◌, ◌||◌, [], Ok, refl, sym, ap, ◌∙◌, subst, arith}
use Rattle.dm_stream.specs.declared.tokens.Delim.TheVariants.{Paren}
use Rattle.dm_stream.specs.declared.tokens.Ident.{Ident}
use Rattle.dm_stream.specs.Trees.{Trees}
use Rattle.dm_read_paths.specs.declared.kind.Mode.{Mode}
use Rattle.dm_read_paths.specs.declared.kind.Mode.TheVariants.{Whole, Single}
use Rattle.dm_ast.specs.Spelling.{Where, deeper, Marks, Spelling, Nothing, ◌then◌, Provided, Before, GroupAt, sees, sees_group, sees_colons, punct, colons, flag, chain}
use Rattle.dm_ast.specs.TypeGrammar.{types, output, between_angles, arguments, arguments_of_segment, segment_spelled, segments, segments_left, path_spelled, word, is_path_word, sees_arguments, sees_turbofish, behind_colons}
use Rattle.dm_ast.specs.Tree.{TypeTree, TypeTrees, MaybeType, ArgumentTrees, ArgumentsTree, absent, angle, parens, SegmentTree, segment, SegmentTrees, no_segments, segment_then, segments_of, PathTree, path_tree}
use Rattle.dm_ast.specs.Readers.{Parser, ◌and◌, read_ident, read_colons, read_group, inside_at}
use Rattle.dm_ast.specs.PlainReaders.{read_leading, read_angles}
use Rattle.dm_read_paths.specs.TypeReaders.{read_types, read_output, parens_of, angle_of, segment_of, path_of, read_arguments, read_angled, read_parens, read_segment_arguments, read_own_arguments, read_segment_parts, read_segment, read_segment_list, read_segment_trees, read_path_by, read_segments, read_path}
use Rattle.dm_read.proofs.Deciding.{Same, Reader, Image, Both, pair, decides_by, decides_test, reads_and}
use Rattle.dm_read.proofs.Tokens.{reads_ident, punct_seen, both_true}
use Rattle.dm_read.proofs.Groups.{reads_pair, pair_seen, reads_group, group_seen}
use Rattle.dm_read_paths.proofs.Listing.{reads_chain}
use Rattle.dm_read_paths.proofs.PlainParts.{decides_nothing, reads_by, reads_leading, reads_angles, leading_behind, colons_some}
use Rattle.dm_read_paths.proofs.TypeLists.{chained_to, chained_back, segments_listed}
use Rattle.dm_read_paths.proofs.TypeRules.{ReadsDeeper, reads_types, reads_output}

-- ---- arguments of a segment

pub or_second : (a b : Bool) → b ≡ true → (a || b) ≡ true
or_second true b e = refl
or_second false b e = e

pub or_first : (a b : Bool) → a ≡ true → (a || b) ≡ true
or_first a b e = ap (λ x. x || b) e

abbrev pub Angled : Where → Bool × (ArgumentTrees × Bool) → Spelling
Angled w r = flag sees_colons r.0 (colons w) then between_angles w (λ v. arguments r.1.0 r.1.1 v)

abbrev pub Parens : Where → (TypeTrees × Bool) × MaybeType → Spelling
Parens w r = GroupAt w Paren (λ v. types r.0.0 r.0.1 v) then output r.1 w (deeper w)

angle_by : (w : Where) (double : Bool) (Rest : Spelling) (ts o : Trees) (m : Marks) → (flag sees_colons double (colons w) then (punct w 60 then Rest)) ts o m →
    (sees_arguments ts ≡ true) × (sees_group Paren ts ≡ false)
angle_by w true Rest ts o m s =
    let b : behind_colons ts ≡ s.middle = leading_behind w true ts s.middle s.first_marks s.first in
    let c : sees 60 (behind_colons ts) ≡ true = ap (sees 60) b ∙ punct_seen 60 w s.middle s.rest.middle s.rest.first_marks s.rest.first in
    let d : sees_turbofish ts ≡ true = both_true (sees_colons ts) (sees 60 (behind_colons ts)) (pair_seen 58 58 w ts s.middle s.first_marks s.first) c in
    (or_first (sees 60 ts || sees_turbofish ts) (sees_group Paren ts) (or_second (sees 60 ts) (sees_turbofish ts) d), ap (sees_group Paren) s.first.spelled)
angle_by w false Rest ts o m s =
    let b : sees 60 ts ≡ true = ap (sees 60) s.first.part.spelled ∙ punct_seen 60 w s.middle s.rest.middle s.rest.first_marks s.rest.first in
    (or_first (sees 60 ts || sees_turbofish ts) (sees_group Paren ts) (or_first (sees 60 ts) (sees_turbofish ts) b), ap (sees_group Paren) (s.first.part.spelled ∙ s.rest.first.there.spelled))

parens_seen : (ts : Trees) → sees_group Paren ts ≡ true → sees_arguments ts ≡ true
parens_seen ts e = or_second (sees 60 ts || sees_turbofish ts) (sees_group Paren ts) e

absent_no : (ts o : Trees) (m : Marks) → sees_arguments ts ≡ true → Before (λ others. sees_arguments others ≡ false) Nothing ts o m → ⊥
absent_no ts o m e s = let f : sees_arguments ts ≡ false = ap sees_arguments s.part.spelled ∙ s.fact in absurd (cc)

module _ (w : Where) (ts : Trees) where
  parens_back : sees_group Paren ts ≡ true → (y : ArgumentsTree) (o : Trees) (m : Marks) → arguments_of_segment y w ts o m → Image parens_of (Parens w) y ts o m
  parens_back e absent o m s = absurd (absent_no ts o m (parens_seen ts e) s)
  parens_back e (angle double gs u) o m s =
      let f = (angle_by w double (arguments gs u (deeper w) then punct w 62) ts o m s).1 in
      absurd (cc)
  parens_back e (parens xs u out) o m s = record { value = pair (pair xs u) out; is_it = refl; spelled = s }

  angle_back : sees_group Paren ts ≡ false → sees_arguments ts ≡ true → (y : ArgumentsTree) (o : Trees) (m : Marks) → arguments_of_segment y w ts o m → Image angle_of (Angled w) y ts o m
  angle_back d e absent o m s = absurd (absent_no ts o m e s)
  angle_back d e (angle double gs u) o m s = record { value = pair double (pair gs u); is_it = refl; spelled = s }
  angle_back d e (parens xs u out) o m s =
      let f = group_seen w Paren (λ v. types xs u v) ts s.middle s.first_marks s.first in
      absurd (cc)

  absent_only : sees_arguments ts ≡ false → (y : ArgumentsTree) (o : Trees) (m : Marks) → arguments_of_segment y w ts o m → Same absent ts [] y o m
  absent_only e absent o m s = record { value = refl; left = sym s.part.spelled; marks = s.part.marks }
  absent_only e (angle double gs u) o m s =
      let f = (angle_by w double (arguments gs u (deeper w) then punct w 62) ts o m s).0 in
      absurd (cc)
  absent_only e (parens xs u out) o m s =
      let f = parens_seen ts (group_seen w Paren (λ v. types xs u v) ts s.middle s.first_marks s.first) in
      absurd (cc)

-- ---- paths, by what spells the arguments of their segments

module _ (inner : Mode → Where → Parser TypeTree) (bare : Bool) (w : Where) (Args : ArgumentsTree → Spelling) (Segment : SegmentTree → Spelling)
    (Left Segments : SegmentTrees → Spelling) (Path : PathTree → Spelling) (segment_is : (i : Ident) (a : ArgumentsTree) → Segment (segment i a) ≡ (word w i then Args a))
    (left_none : Left no_segments ≡ Before (λ others. sees_colons others ≡ false) Nothing)
    (left_one : (x : SegmentTree) (xs : SegmentTrees) → Left (segment_then x xs) ≡ (colons w then (Segment x then Left xs)))
    (none : Segments no_segments ≡ Provided ⊥ Nothing) (one : (x : SegmentTree) (xs : SegmentTrees) → Segments (segment_then x xs) ≡ (Segment x then Left xs))
    (path_is : (b : Bool) (ss : SegmentTrees) → Path (path_tree b ss) ≡ (flag sees_colons b (colons w) then Segments ss)) (args : Reader Args (read_own_arguments inner bare w)) where
  segment_back : (y : SegmentTree) (ts o : Trees) (m : Marks) → Segment y ts o m → Image segment_of (Both (word w) Args) y ts o m
  segment_back (segment i a) ts o m s = record { value = pair i a; is_it = refl; spelled = subst (λ S. S ts o m) (segment_is i a) s }

  reads_segment : Reader Segment (read_segment inner bare w)
  reads_segment =
      reads_by segment_of (Both (word w) Args) Segment (read_segment_parts inner bare w) (λ x ts o m s. subst (λ S. S ts o m) (sym (segment_is x.0 x.1)) s) segment_back
      (reads_and (word w) Args (read_ident is_path_word w) (read_own_arguments inner bare w) (reads_ident is_path_word w) args)

  pub reads_segment_list : Reader (chain (colons w) sees_colons Segment) (read_segment_list inner bare w)
  reads_segment_list =
      reads_chain w (colons w) (read_colons w) sees_colons Segment (read_segment inner bare w) (pair_seen 58 58 w) (colons_some w) (reads_pair 58 58 w) reads_segment

  reads_segment_trees : Reader Segments (read_segment_trees inner bare w)
  reads_segment_trees =
      reads_by segments_of (chain (colons w) sees_colons Segment) Segments (read_segment_list inner bare w)
      (chained_to segments_of segments_listed (colons w) sees_colons Segment Left Segments left_none (λ x xs. left_one x (segments_of xs)) none (λ x xs. one x (segments_of xs)))
      (λ y ts o m s. record {
        value = (segments_listed y).list;
        is_it = sym (segments_listed y).again;
        spelled =
            chained_back segments_of segments_listed (colons w) sees_colons Segment Left Segments left_none (λ x xs. left_one x (segments_of xs)) none
            (λ x xs. one x (segments_of xs)) y ts o m s;
      })
      reads_segment_list

  path_back : (y : PathTree) (ts o : Trees) (m : Marks) → Path y ts o m → Image path_of (Both (λ b. flag sees_colons b (colons w)) Segments) y ts o m
  path_back (path_tree b ss) ts o m s = record { value = pair b ss; is_it = refl; spelled = subst (λ S. S ts o m) (path_is b ss) s }

  pub reads_path_by : Reader Path (read_path_by inner bare w)
  reads_path_by =
      reads_by path_of (Both (λ b. flag sees_colons b (colons w)) Segments) Path (read_leading w and read_segment_trees inner bare w)
      (λ x ts o m s. subst (λ S. S ts o m) (sym (path_is x.0 x.1)) s) path_back
      (reads_and (λ b. flag sees_colons b (colons w)) Segments (read_leading w) (read_segment_trees inner bare w) (reads_leading w) reads_segment_trees)

pub reads_angled : (inner : Mode → Where → Parser TypeTree) (w : Where) → Reader (λ r. arguments r.0 r.1 (deeper w)) (read_arguments inner (deeper w)) →
    Reader (Angled w) (read_leading w and read_angles (read_arguments inner) w)
reads_angled inner w args =
    reads_and (λ b. flag sees_colons b (colons w)) (λ r. between_angles w (λ v. arguments r.0 r.1 v)) (read_leading w) (read_angles (read_arguments inner) w)
    (reads_leading w) (reads_angles (λ r v. arguments r.0 r.1 v) (read_arguments inner) w args)

module _ (inner : Mode → Where → Parser TypeTree) (w : Where) (h : ReadsDeeper inner w.level)
    (args : Reader (λ r. arguments r.0 r.1 (deeper w)) (read_arguments inner (deeper w))) where
  reads_parens : Reader (Parens w) (read_group Paren (read_types inner) w and read_output inner w (deeper w))
  reads_parens =
      reads_and (λ r. GroupAt w Paren (λ v. types r.0 r.1 v)) (λ y. output y w (deeper w)) (read_group Paren (read_types inner) w) (read_output inner w (deeper w))
      (reads_group Paren (λ r v. types r.0 r.1 v) (read_types inner) w (λ limit. reads_types inner (inside_at w limit) (h Whole (inside_at w limit) (omega arith))))
      (reads_output inner w (deeper w) (h Single (deeper w) (omega arith)))

  pub reads_segment_arguments : Reader (λ y. arguments_of_segment y w) (read_segment_arguments inner w)
  reads_segment_arguments ts =
      decides_test (λ y. arguments_of_segment y w) ts (sees_group Paren ts) (read_parens inner w ts) (if sees_arguments ts then read_angled inner w ts else Ok (absent, ts))
      (λ e. decides_by parens_of (Parens w) (λ y. arguments_of_segment y w) ts (λ x o m s. s) (parens_back w ts e)
      ((read_group Paren (read_types inner) w and read_output inner w (deeper w)) ts) (reads_parens ts))
      (λ d.
      decides_test (λ y. arguments_of_segment y w) ts (sees_arguments ts) (read_angled inner w ts) (Ok (absent, ts))
      (λ e. decides_by angle_of (Angled w) (λ y. arguments_of_segment y w) ts (λ x o m s. s) (angle_back w ts d e) ((read_leading w and read_angles (read_arguments inner) w) ts) (reads_angled inner w args ts))
      (λ e. decides_nothing (λ y. arguments_of_segment y w) absent ts (record { part = record { spelled = refl; marks = refl }; fact = e }) (absent_only w ts e)))

  pub reads_segments : Reader (chain (colons w) sees_colons (λ y. segment_spelled y w)) (read_segments inner w)
  reads_segments =
      reads_segment_list inner false w (λ a. arguments_of_segment a w) (λ y. segment_spelled y w) (λ ss. segments_left ss w) (λ ss. segments ss w) (λ p. path_spelled p w)
      (λ i a. refl) refl (λ x xs. refl) refl (λ x xs. refl) (λ b ss. refl) reads_segment_arguments

  pub reads_path : Reader (λ p. path_spelled p w) (read_path inner w)
  reads_path =
      reads_path_by inner false w (λ a. arguments_of_segment a w) (λ y. segment_spelled y w) (λ ss. segments_left ss w) (λ ss. segments ss w) (λ p. path_spelled p w)
      (λ i a. refl) refl (λ x xs. refl) refl (λ x xs. refl) (λ b ss. refl) reads_segment_arguments
