-- Qualified paths, `<T as Trait>::Name`: what their reader decides, where the readers of generic arguments decide those.
use Rattle.std.proofs.Common.{◌≡◌, ℕ, zero, suc, ◌<◌, Bool, true, false, ◌&&◌, nat_eq, List, [], ◌∷◌, ◌++◌, length, codes, Option, Some, None, refl, sym, ap, ap₂, ◌∙◌, subst, arith}
use Rattle.dm_stream.specs.Trees.{Trees}
use Rattle.dm_read_paths.specs.declared.kind.NodeKind.TheVariants as kind
use Rattle.dm_read_paths.specs.declared.kind.Mode.{Mode}
use Rattle.dm_read_paths.specs.declared.kind.Mode.TheVariants.{Whole}
use Rattle.dm_ast.specs.Spelling.{Where, deeper, Marks, Spelling, Nothing, ◌then◌, Before, is_joint, sees, sees_word, sees_colons, punct, keyword, colons, flag, perhaps, repeated, chain}
use Rattle.dm_ast.specs.TypeGrammar.{type_spelled, node, sees_macro, is_macro, arguments, segment_spelled, qualified, trait_segments, some_segments_left}
use Rattle.dm_ast.specs.Tree.{TypeTree, TypeNode, path, no_self, some_self, path_tree, SegmentTree, SegmentTrees, no_segments, segment_then, segments_of}
use Rattle.dm_ast.specs.Readers.{Parser, ◌and◌, ◌next◌, read_punct, read_word, read_colons}
use Rattle.dm_ast.specs.PlainReaders.{read_leading}
use Rattle.dm_read_paths.specs.TypeReaders.{node_kind, read_arguments, read_segments, read_as, qualified_by, qualified_of, read_qualified}
use Rattle.dm_read.proofs.Deciding.{Decides, Reader, Image, pair, reads_and, reads_next, reads_perhaps}
use Rattle.dm_read.proofs.Tokens.{reads_punct, reads_word, word_seen}
use Rattle.dm_read.proofs.Groups.{reads_pair}
use Rattle.dm_read_paths.proofs.PlainParts.{reads_leading}
use Rattle.dm_read_paths.proofs.NodeKinds.{kind_of}
use Rattle.dm_read_paths.proofs.Sequences.{then_right, then_left, then_map, then_with}
use Rattle.dm_read_paths.proofs.TypeLists.{segments_listed, segments_left_to, segments_left_back}
use Rattle.dm_read_paths.proofs.TypeRules.{ReadsDeeper, NodeAt, rule_by}
use Rattle.dm_read_paths.proofs.Paths.{reads_segments}

-- ---- a part that is missing

skipped : (Fact : Trees → Type 0) (Q : Spelling) (ts o : Trees) (m : Marks) → (Before Fact Nothing then Q) ts o m → Q ts o m
skipped Fact Q ts o m s =
    let a : Q ts o s.rest_marks = subst (λ x. Q x o s.rest_marks) (sym s.first.part.spelled) s.rest in
    subst (λ k. Q ts o k) (sym (s.marks ∙ ap (λ l. l ++ s.rest_marks) s.first.part.marks)) a

missing : (Fact : Trees → Type 0) (Q : Spelling) (ts o : Trees) (m : Marks) → Fact ts → Q ts o m → (Before Fact Nothing then Q) ts o m
missing Fact Q ts o m f s =
    record { middle = ts; first_marks = []; rest_marks = m; first = record { part = record { spelled = refl; marks = refl }; fact = f }; rest = s; marks = refl }

-- `>` is neither `as` nor `::`
angle_no_word : (w : Where) (ts o : Trees) (m : Marks) → punct w 62 ts o m → sees_word (codes "as") ts ≡ false
angle_no_word w ts o m s = ap (sees_word (codes "as")) s.there.spelled

angle_no_colons : (w : Where) (ts o : Trees) (m : Marks) → punct w 62 ts o m → sees_colons ts ≡ false
angle_no_colons w ts o m s = ap sees_colons s.there.spelled ∙ ap (λ c. (nat_eq c 58 && is_joint s.punct.spacing) && sees 58 o) s.is

-- ---- segments

abbrev Segments : Where → List SegmentTree → Spelling
Segments w ss = chain (colons w) sees_colons (λ y. segment_spelled y w) ss

-- from the `>` on
abbrev Closed : Where → List SegmentTree → Spelling
Closed w ss = punct w 62 then (colons w then Segments w ss)

abbrev ClosedTrees : Where → SegmentTrees → Spelling
ClosedTrees w ss = punct w 62 then some_segments_left ss w

closed_to : (w : Where) (ss : List SegmentTree) (ts o : Trees) (m : Marks) → Closed w ss ts o m → ClosedTrees w (segments_of ss) ts o m
closed_to w [] ts o m s = absurd s.rest.rest.fact
closed_to w (x ∷ xs) ts o m s = then_map (λ a b r. then_map (λ c d q. then_map (λ e f p. segments_left_to w xs e o f p) q) r) s

closed_back : (w : Where) (ss : SegmentTrees) (ts o : Trees) (m : Marks) → ClosedTrees w ss ts o m → Closed w (segments_listed ss).list ts o m
closed_back w no_segments ts o m s = absurd s.rest.fact
closed_back w (segment_then x xs) ts o m s = then_map (λ a b r. then_map (λ c d q. then_map (λ e f p. segments_left_back w xs e o f p) q) r) s

module _ (w : Where) where
  abbrev Item : SegmentTree → Spelling
  Item y = segment_spelled y (deeper w)

  abbrev Apart : SegmentTree → Spelling
  Apart y = colons (deeper w) then Item y

  abbrev More : List SegmentTree → Spelling
  More xs = repeated sees_colons Apart xs

  -- the segments of the trait, and what follows them
  abbrev Inside : List SegmentTree → List SegmentTree → Spelling
  Inside xs ss = Segments (deeper w) xs then Closed w ss

  inside_to : (x : SegmentTree) (xs ss : List SegmentTree) (ts o : Trees) (m : Marks) → Inside (x ∷ xs) ss ts o m → trait_segments (length xs) (segment_then x (segments_of (xs ++ ss))) w ts o m
  inside_to x [] ss ts o m s =
      then_map (λ a b r. closed_to w ss a o b (skipped (λ others. sees_colons others ≡ false) (Closed w ss) a o b r))
      (then_right (Item x) (More []) (Closed w ss) ts o m s)
  inside_to x (y ∷ ys) ss ts o m s =
      then_map (λ a b r.
      then_map (λ c d q. inside_to y ys ss c o d (then_left (Item y) (More ys) (Closed w ss) c o d q))
      (then_right (colons (deeper w)) (Item y) (More ys then Closed w ss) a o b (then_right (Apart y) (More ys) (Closed w ss) a o b r)))
      (then_right (Item x) (More (y ∷ ys)) (Closed w ss) ts o m s)

  one_more : (x : SegmentTree) (xs ss : List SegmentTree) (ts o : Trees) (m : Marks) → (Item x then (colons (deeper w) then Inside xs ss)) ts o m → Inside (x ∷ xs) ss ts o m
  one_more x [] ss ts o m s = absurd s.rest.rest.first.fact
  one_more x (y ∷ ys) ss ts o m s =
      then_left (Item x) (More (y ∷ ys)) (Closed w ss) ts o m
      (then_map (λ a b r.
      then_left (Apart y) (More ys) (Closed w ss) a o b
      (then_left (colons (deeper w)) (Item y) (More ys then Closed w ss) a o b
      (then_map (λ c d q. then_right (Item y) (More ys) (Closed w ss) c o d q) r))) s)

  -- how many of the segments are those of the trait
  record Split (n : ℕ) (ss : SegmentTrees) (ts o : Trees) (m : Marks) : Type 0 where
    front : List SegmentTree
    others : List SegmentTree
    count : length front ≡ suc n
    again : segments_of (front ++ others) ≡ ss
    there : Inside front others ts o m

  split : (n : ℕ) (ss : SegmentTrees) (ts o : Trees) (m : Marks) → trait_segments n ss w ts o m → Split n ss ts o m
  split n no_segments ts o m s = absurd s.fact
  split zero (segment_then x ss) ts o m s =
      record {
        front = x ∷ [];
        others = (segments_listed ss).list;
        count = refl;
        again = ap (segment_then x) (segments_listed ss).again;
        there =
            then_left (Item x) (More []) (Closed w (segments_listed ss).list) ts o m
            (then_map (λ a b r. missing (λ others. sees_colons others ≡ false) (Closed w (segments_listed ss).list) a o b (angle_no_colons w a r.middle r.first_marks r.first) (closed_back w ss a o b r)) s);
      }
  split (suc n) (segment_then x ss) ts o m s =
      let r : Split n ss s.rest.middle o s.rest.rest_marks = split n ss s.rest.middle o s.rest.rest_marks s.rest.rest in
      record {
        front = x ∷ r.front;
        others = r.others;
        count = ap suc r.count;
        again = ap (segment_then x) r.again;
        there =
            one_more x r.front r.others ts o m
            (then_with s (then_with s.rest r.there));
      }

  -- ---- `as` and the trait

  abbrev Leading : Bool → Spelling
  Leading b = flag sees_colons b (colons (deeper w))

  abbrev As : Bool × List SegmentTree → Spelling
  As v = keyword (deeper w) (codes "as") then (Leading v.0 then Segments (deeper w) v.1)

  as_to : (b : Bool) (xs ss : List SegmentTree) (ts o : Trees) (m : Marks) → (As (pair b xs) then Closed w ss) ts o m → qualified (length xs) (path_tree b (segments_of (xs ++ ss))) w ts o m
  as_to b [] ss ts o m s = absurd s.first.rest.rest.fact
  as_to b (x ∷ xs) ss ts o m s =
      then_map (λ a c r.
      then_map (λ d e q. inside_to x xs ss d o e q) (then_right (Leading b) (Segments (deeper w) (x ∷ xs)) (Closed w ss) a o c r))
      (then_right (keyword (deeper w) (codes "as")) (Leading b then Segments (deeper w) (x ∷ xs)) (Closed w ss) ts o m s)

  as_back : (b : Bool) (xs ss : List SegmentTree) (ts o : Trees) (m : Marks) → (keyword (deeper w) (codes "as") then (Leading b then Inside xs ss)) ts o m → (As (pair b xs) then Closed w ss) ts o m
  as_back b xs ss ts o m s =
      then_left (keyword (deeper w) (codes "as")) (Leading b then Segments (deeper w) xs) (Closed w ss) ts o m
      (then_map (λ a c r. then_left (Leading b) (Segments (deeper w) xs) (Closed w ss) a o c r) s)

  -- ---- the whole

  abbrev BehindType : Option (Bool × List SegmentTree) × List SegmentTree → Spelling
  BehindType v = perhaps (sees_word (codes "as")) v.0 As then Closed w v.1

  abbrev Qualified : TypeTree × (Option (Bool × List SegmentTree) × List SegmentTree) → Spelling
  Qualified v = punct w 60 then (type_spelled v.0 false (deeper w) then BehindType v.1)

  behind_to : (ss : List SegmentTree) (ts o : Trees) (m : Marks) → BehindType (pair None ss) ts o m → qualified zero (path_tree true (segments_of ss)) w ts o m
  behind_to ss ts o m s =
      record { fact = refl; part = closed_to w ss ts o m (skipped (λ others. sees_word (codes "as") others ≡ false) (Closed w ss) ts o m s) }

  qualified_to : (t : TypeTree) (a : Option (Bool × List SegmentTree)) (ss : List SegmentTree) (single : Bool) (ts o : Trees) (m : Marks) →
      Qualified (pair t (pair a ss)) ts o m → node (qualified_by t a ss) single w ts o m
  qualified_to t None ss single ts o m s = then_map (λ a b r. then_map (λ c d q. behind_to ss c o d q) r) s
  qualified_to t (Some v) ss single ts o m s = then_map (λ a b r. then_map (λ c d q. as_to v.0 v.1 ss c o d q) r) s

  no_call : (t : TypeTree) (a : Option (Bool × List SegmentTree)) (ss : List SegmentTree) → is_macro (qualified_by t a ss) ≡ false
  no_call t None ss = refl
  no_call t (Some v) ss = refl

  zero_back : (t : TypeTree) (leading : Bool) (ss : SegmentTrees) (ts o : Trees) (m : Marks) →
      (punct w 60 then (type_spelled t false (deeper w) then qualified zero (path_tree leading ss) w)) ts o m → Image qualified_of Qualified (path (some_self t zero) (path_tree leading ss)) ts o m
  zero_back t false ss ts o m s = let f = s.rest.rest.fact in absurd (cc)
  zero_back t true ss ts o m s =
      record {
        value = pair t (pair None (segments_listed ss).list);
        is_it = sym (ap (λ x. path (some_self t zero) (path_tree true x)) (segments_listed ss).again);
        spelled = then_map (λ a b r.
            then_map (λ c d q. missing (λ others. sees_word (codes "as") others ≡ false) (Closed w (segments_listed ss).list) c o d (angle_no_word w c q.part.middle q.part.first_marks q.part.first) (closed_back w ss c o d q.part)) r) s;
      }

  suc_back : (t : TypeTree) (n : ℕ) (b : Bool) (ss : SegmentTrees) (ts o : Trees) (m : Marks) →
      (punct w 60 then (type_spelled t false (deeper w) then (keyword (deeper w) (codes "as") then (Leading b then trait_segments n ss w)))) ts o m →
      Image qualified_of Qualified (path (some_self t (suc n)) (path_tree b ss)) ts o m
  suc_back t n b ss ts o m s =
      let k = s.rest.rest in
      let r : Split n ss k.rest.middle o k.rest.rest_marks = split n ss k.rest.middle o k.rest.rest_marks k.rest.rest in
      let at_as : (As (pair b r.front) then Closed w r.others) s.rest.middle o s.rest.rest_marks =
      as_back b r.front r.others s.rest.middle o s.rest.rest_marks
      (then_with k (then_with k.rest r.there)) in
      record {
        value = pair t (pair (Some (pair b r.front)) r.others);
        is_it = sym (ap₂ (λ x y. path (some_self t x) (path_tree b y)) r.count r.again);
        spelled = then_with s (then_with s.rest at_as);
      }

  qualified_back : (single : Bool) (y : TypeNode) (ts o : Trees) (m : Marks) → NodeAt single w y ts o m → kind_of y ≡ kind.Qualified → Image qualified_of Qualified y ts o m
  qualified_back single (path no_self p) ts o m s e = absurd (cc)
  qualified_back single (path (some_self t zero) (path_tree b ss)) ts o m s e = zero_back t b ss ts o m s.part
  qualified_back single (path (some_self t (suc n)) (path_tree b ss)) ts o m s e = suc_back t n b ss ts o m s.part
  qualified_back single _ ts o m s e = absurd (cc)

module _ (inner : Mode → Where → Parser TypeTree) (single : Bool) (w : Where) (h : ReadsDeeper inner w.level)
    (args : (v : Where) → w.level < v.level → Reader (λ r. arguments r.0 r.1 v) (read_arguments inner v)) where
  reads_as : Reader (λ v. perhaps (sees_word (codes "as")) v (As w)) (read_as inner w)
  reads_as =
      reads_perhaps (sees_word (codes "as")) (As w) (read_word (codes "as") (deeper w) next (read_leading (deeper w) and read_segments inner (deeper w)))
      (λ x ts o m s. word_seen (codes "as") (deeper w) ts s.middle s.first_marks s.first)
      (reads_next (keyword (deeper w) (codes "as")) (λ v. Leading w v.0 then Segments (deeper w) v.1) (read_word (codes "as") (deeper w)) (read_leading (deeper w) and read_segments inner (deeper w))
      (reads_word (codes "as") (deeper w))
      (reads_and (Leading w) (Segments (deeper w)) (read_leading (deeper w)) (read_segments inner (deeper w)) (reads_leading (deeper w))
      (reads_segments inner (deeper w) (λ mode v g. h mode v (omega (arith, g))) (args (deeper (deeper w)) (omega arith)))))

  reads_closed : Reader (Closed w) (read_punct 62 w next (read_colons w next read_segments inner w))
  reads_closed =
      reads_next (punct w 62) (λ ss. colons w then Segments w ss) (read_punct 62 w) (read_colons w next read_segments inner w) (reads_punct 62 w)
      (reads_next (colons w) (Segments w) (read_colons w) (read_segments inner w) (reads_pair 58 58 w) (reads_segments inner w h (args (deeper w) (omega arith))))

  reads_whole : Reader (Qualified w) (read_punct 60 w next (inner Whole (deeper w) and (read_as inner w and (read_punct 62 w next (read_colons w next read_segments inner w)))))
  reads_whole =
      reads_next (punct w 60) (λ v. type_spelled v.0 false (deeper w) then BehindType w v.1) (read_punct 60 w)
      (inner Whole (deeper w) and (read_as inner w and (read_punct 62 w next (read_colons w next read_segments inner w)))) (reads_punct 60 w)
      (reads_and (λ t. type_spelled t false (deeper w)) (BehindType w) (inner Whole (deeper w)) (read_as inner w and (read_punct 62 w next (read_colons w next read_segments inner w)))
      (h Whole (deeper w) (omega arith))
      (reads_and (λ v. perhaps (sees_word (codes "as")) v (As w)) (Closed w) (read_as inner w) (read_punct 62 w next (read_colons w next read_segments inner w)) reads_as reads_closed))

  pub qualified_rule : (ts : Trees) → node_kind ts ≡ kind.Qualified → sees_macro ts ≡ false → Decides (NodeAt single w) ts (read_qualified inner w ts)
  qualified_rule =
      rule_by inner qualified_of (Qualified w) single w kind.Qualified
      (read_punct 60 w next (inner Whole (deeper w) and (read_as inner w and (read_punct 62 w next (read_colons w next read_segments inner w)))))
      (λ x ts o m s. qualified_to w x.0 x.1.0 x.1.1 single ts o m s) (λ x. no_call w x.0 x.1.0 x.1.1) (qualified_back w single) reads_whole
