-- The walk over the rules of types themselves.
use Rattle.std.proofs.Common.{◌≡◌, ℕ, zero, suc, Bool, true, false, List, [], ◌∷◌, codes, Some, None, refl}
use Rattle.dm_stream.specs.declared.tokens.Span.{Span}
use Rattle.dm_stream.specs.declared.tokens.Delim.TheVariants.{Paren, Bracket}
use Rattle.dm_stream.specs.declared.tokens.Token.TheVariants as t
use Rattle.dm_stream.specs.Trees.{Trees, no_trees, join}
use Rattle.dm_ast.specs.Tree.{TypeTree, type_tree, TypeNode, paren, tuple, slice, array, reference, pointer, bare_fn, trait_object, impl_trait, infer, never, path, macro_type, TypeTrees, no_types, type_then, MaybeType, no_type, some_type, no_self, some_self, BoundTree, outlives, implements, BoundTrees, no_bounds, bound_then, TraitBoundTree, trait_bound, FnTree, fn_tree, InputTree, input, InputTrees, no_inputs, input_then, PathTree, path_tree, SegmentTree, segment, SegmentTrees, no_segments, segment_then, ArgumentsTree, absent, angle, parens, ArgumentTree, lifetime_arg, type_arg, const_arg, assoc_type, assoc_const, constraint, ArgumentTrees, no_arguments, argument_then, MaybeArguments, arguments_absent, some_arguments}
use Rattle.dm_ast.specs.Spelling.{Where, deeper, Marks, ◌then◌, at_end, sees, sees_word, sees_colons, punct, keyword, colons, flag}
use Rattle.dm_ast.specs.TypeGrammar.{opaque, for_lifetimes, type_spelled, node, types, types_left, output, function, input_spelled, inputs, inputs_left, bound, trait_bound_spelled, some_bounds, more_bounds, bounds, bounds_left, path_spelled, segments, segments_left, trait_segments, segment_spelled, arguments_of_segment, arguments, arguments_left, argument, maybe_angled, ends_bounds}
use Rattle.dm_ast.specs.TypeTokens as spell
use Rattle.dm_syntax.specs.Unread.{Part, in_type, in_node, in_types, in_output, in_function, in_inputs, in_input, in_bounds, in_bound, in_trait, in_path, in_segments, in_segment, in_segment_arguments, in_arguments, in_argument, in_maybe_arguments}
use Rattle.dm_syntax.proofs.Walked.{IsWalked, Left, Cut, no_trait, some_are_left, walk_abi, walk_angle, walk_angles, walk_attributes, walk_constant, walk_cut_last, walk_cut_next, walk_first, walk_flag, walk_for, walk_group, walk_join, walk_kept, walk_last_item, walk_lone, walk_maybe_lifetime, walk_next, walk_next_segment, walk_no_items, walk_none, walk_opaque, walk_pair, walk_plain, walk_pointer_word, walk_punct, walk_qualified, walk_token, walk_word}

module _ {P : List Part → Trees → Trees → Trees → Type 0} (laws : IsWalked P) where
  mutual
    pub walk_type : (x : TypeTree) (single : Bool) (w : Where) (ts o : Trees) (m : Marks) → type_spelled x single w ts o m → P (in_type x) (spell.type_trees x) ts o
    walk_type (type_tree n r) single w ts o m s = walk_node n r single w ts o m s.part.part

    walk_node : (n : TypeNode) (r : Span) (single : Bool) (w : Where) (ts o : Trees) (m : Marks) → node n single w ts o m → P (in_node n) (spell.node_trees r n) ts o
    walk_node (paren x) r single w ts o m s =
        walk_group laws w Paren (spell.type_trees x) (λ v. type_spelled x false v) ts o m s (λ v i k h. walk_type x false v i no_trees k h)
    walk_node (tuple xs u) r single w ts o m s =
        walk_group laws w Paren (spell.listed 44 r (spell.each_type xs) u) (λ v. types xs u v) ts o m s.part (λ v i k h. walk_types xs r u v i no_trees k h)
    walk_node (slice x) r single w ts o m s =
        walk_group laws w Bracket (spell.type_trees x) (λ v. type_spelled x false v) ts o m s (λ v i k h. walk_type x false v i no_trees k h)
    walk_node (array x n) r single w ts o m s =
        walk_group laws w Bracket (join (spell.type_trees x) (join (spell.punct 59 r) n.tokens.trees)) (λ v. type_spelled x false v then (punct v 59 then opaque v n)) ts o m s
        (λ v i k h.
        walk_join laws (spell.type_trees x) (join (spell.punct 59 r) n.tokens.trees) i h.middle no_trees (walk_type x false v i h.middle h.first_marks h.first)
        (walk_join laws (spell.punct 59 r) n.tokens.trees h.middle h.rest.middle no_trees (walk_punct laws r v 59 h.middle h.rest.middle h.rest.first_marks h.rest.first)
        (walk_opaque laws v n h.rest.middle no_trees h.rest.rest_marks h.rest.rest)))
    walk_node (reference l b x) r single w ts o m s =
        let q = s.rest in
        let z = q.rest in
        walk_join laws (spell.punct 38 r) (join (spell.maybe_lifetime l) (join (spell.given b (spell.word (codes "mut") r)) (spell.type_trees x))) ts s.middle o
        (walk_punct laws r w 38 ts s.middle s.first_marks s.first)
        (walk_join laws (spell.maybe_lifetime l) (join (spell.given b (spell.word (codes "mut") r)) (spell.type_trees x)) s.middle q.middle o
        (walk_maybe_lifetime laws (deeper w) l s.middle q.middle q.first_marks q.first)
        (walk_join laws (spell.given b (spell.word (codes "mut") r)) (spell.type_trees x) q.middle z.middle o
        (walk_flag laws (sees_word (codes "mut")) b (keyword (deeper w) (codes "mut")) (spell.word (codes "mut") r) q.middle z.middle z.first_marks z.first
        (walk_word laws r (deeper w) (codes "mut") q.middle z.middle z.first_marks))
        (walk_type x true (deeper w) z.middle o z.rest_marks z.rest)))
    walk_node (pointer true x) r single w ts o m s =
        walk_pointer_word laws r w (codes "mut") (spell.type_trees x) ts o m (type_spelled x true (deeper w)) s (λ i k h. walk_type x true (deeper w) i o k h)
    walk_node (pointer false x) r single w ts o m s =
        walk_pointer_word laws r w (codes "const") (spell.type_trees x) ts o m (type_spelled x true (deeper w)) s (λ i k h. walk_type x true (deeper w) i o k h)
    walk_node (bare_fn f) r single w ts o m s = walk_function f r w ts o m s
    walk_node (trait_object bs u) r single w ts o m s =
        let q = s.part in
        walk_join laws (spell.word (codes "dyn") r) (spell.listed 43 r (spell.each_bound r bs) u) ts q.middle o (walk_word laws r w (codes "dyn") ts q.middle q.first_marks q.first)
        (walk_some_bounds bs r single u (deeper w) q.middle o q.rest_marks s.fact q.rest)
    walk_node (impl_trait bs u) r single w ts o m s =
        let q = s.part in
        walk_join laws (spell.word (codes "impl") r) (spell.listed 43 r (spell.each_bound r bs) u) ts q.middle o (walk_word laws r w (codes "impl") ts q.middle q.first_marks q.first)
        (walk_some_bounds bs r single u (deeper w) q.middle o q.rest_marks s.fact q.rest)
    walk_node infer r single w ts o m s = walk_word laws r w (codes "_") ts o m s
    walk_node never r single w ts o m s = walk_punct laws r w 33 ts o m s
    walk_node (path no_self p) r single w ts o m s = walk_path p r w ts o m s
    walk_node (path (some_self x n) (path_tree b ss)) r single w ts o m s =
        let q = s.rest in
        let behind : Trees = spell.behind_self_trees r n b (spell.each_segment r ss) in
        walk_join laws (spell.punct 60 r) (join (spell.type_trees x) behind) ts s.middle o (walk_punct laws r w 60 ts s.middle s.first_marks s.first)
        (walk_join laws (spell.type_trees x) behind s.middle q.middle o (walk_type x false (deeper w) s.middle q.middle q.first_marks q.first)
        (walk_qualified laws ss n r b w q.middle o q.rest_marks q.rest (λ k i l h. walk_trait_segments ss k r w i o l h) (λ i l h. walk_segments_left ss r w i o l (some_are_left ss w i o l h))))
    walk_node (macro_type p d x) r single w ts o m s =
        walk_join laws (spell.plain_trees r p) (join (spell.punct 33 r) (spell.grouped d x.trees)) ts s.middle o (walk_plain laws r w p ts s.middle s.first_marks s.first)
        (walk_join laws (spell.punct 33 r) (spell.grouped d x.trees) s.middle s.rest.middle o (walk_punct laws r w 33 s.middle s.rest.middle s.rest.first_marks s.rest.first)
        (walk_kept laws w d x s.rest.middle o s.rest.rest_marks s.rest.rest))

    walk_types : (xs : TypeTrees) (r : Span) (u : Bool) (w : Where) (ts o : Trees) (m : Marks) → types xs u w ts o m → P (in_types xs) (spell.listed 44 r (spell.each_type xs) u) ts o
    walk_types no_types r u w ts o m s = walk_no_items laws 44 r w at_end u ts o m s
    walk_types (type_then x xs) r u w ts o m s =
        walk_first laws 44 r (spell.type_trees x) (spell.each_type xs) u ts s.middle o (walk_type x false w ts s.middle s.first_marks s.first)
        (walk_types_left xs r u w s.middle o s.rest_marks s.rest)

    walk_types_left : (xs : TypeTrees) (r : Span) (u : Bool) (w : Where) (ts o : Trees) (m : Marks) → types_left xs u w ts o m → P (in_types xs) (Left 44 r (spell.each_type xs) u) ts o
    walk_types_left no_types r u w ts o m s = walk_last_item laws r w 44 at_end u ts o m s
    walk_types_left (type_then x xs) r u w ts o m s =
        walk_next laws 44 r (spell.type_trees x) (spell.each_type xs) u ts s.middle s.rest.middle o (walk_punct laws r w 44 ts s.middle s.first_marks s.first)
        (walk_type x false w s.middle s.rest.middle s.rest.first_marks s.rest.first) (walk_types_left xs r u w s.rest.middle o s.rest.rest_marks s.rest.rest)

    walk_output : (x : MaybeType) (r : Span) (w deep : Where) (ts o : Trees) (m : Marks) → output x w deep ts o m → P (in_output x) (spell.output_trees r x) ts o
    walk_output no_type r w deep ts o m s = walk_none laws ts o s.part.spelled
    walk_output (some_type x) r w deep ts o m s =
        walk_join laws (spell.arrow r) (spell.type_trees x) ts s.middle o (walk_pair laws r w 45 62 ts s.middle s.first_marks s.first)
        (walk_type x true deep s.middle o s.rest_marks s.rest)

    walk_function : (f : FnTree) (r : Span) (w : Where) (ts o : Trees) (m : Marks) → function f w ts o m → P (in_function f) (spell.fn_trees r f) ts o
    walk_function (fn_tree ls b abi is u out) r w ts o m s =
        let q = s.rest in
        let z = q.rest in
        let y = z.rest in
        let v = y.rest in
        let inside : Trees = spell.grouped Paren (spell.listed 44 r (spell.each_input r is) u) in
        let last : Trees = join (spell.word (codes "fn") r) (join inside (spell.output_trees r out)) in
        walk_join laws (spell.for_trees r ls) (join (spell.given b (spell.word (codes "unsafe") r)) (join (spell.abi_trees r abi) last)) ts s.middle o
        (walk_for laws r w ls ts s.middle s.first_marks s.first)
        (walk_join laws (spell.given b (spell.word (codes "unsafe") r)) (join (spell.abi_trees r abi) last) s.middle q.middle o
        (walk_flag laws (sees_word (codes "unsafe")) b (keyword w (codes "unsafe")) (spell.word (codes "unsafe") r) s.middle q.middle q.first_marks q.first
        (walk_word laws r w (codes "unsafe") s.middle q.middle q.first_marks))
        (walk_join laws (spell.abi_trees r abi) last q.middle z.middle o (walk_abi laws r w abi q.middle z.middle z.first_marks z.first)
        (walk_join laws (spell.word (codes "fn") r) (join inside (spell.output_trees r out)) z.middle y.middle o (walk_word laws r w (codes "fn") z.middle y.middle y.first_marks y.first)
        (walk_join laws inside (spell.output_trees r out) y.middle v.middle o
        (walk_group laws (deeper w) Paren (spell.listed 44 r (spell.each_input r is) u) (λ d. inputs is u d) y.middle v.middle v.first_marks v.first
        (λ d i k h. walk_inputs is r u d i no_trees k h))
        (walk_output out r (deeper w) (deeper w) v.middle o v.rest_marks v.rest)))))

    walk_input : (x : InputTree) (r : Span) (w : Where) (ts o : Trees) (m : Marks) → input_spelled x w ts o m → P (in_input x) (spell.input_trees r x) ts o
    walk_input (input as' None x) r w ts o m s =
        walk_join laws (spell.attributes_trees as') (spell.type_trees x) ts s.middle o (walk_attributes laws w as' ts s.middle s.first_marks s.first)
        (walk_type x false w s.middle o s.rest_marks s.rest.part)
    walk_input (input as' (Some n) x) r w ts o m s =
        let q = s.rest in
        let z = q.rest in
        walk_join laws (spell.attributes_trees as') (join (join (spell.name n) (spell.punct 58 r)) (spell.type_trees x)) ts s.middle o
        (walk_attributes laws w as' ts s.middle s.first_marks s.first)
        (walk_join laws (join (spell.name n) (spell.punct 58 r)) (spell.type_trees x) s.middle z.middle o
        (walk_join laws (spell.name n) (spell.punct 58 r) s.middle q.middle z.middle (walk_token laws w (t.Ident n) refl s.middle q.middle q.first_marks q.first.part)
        (walk_lone laws r w 58 (58 ∷ []) q.middle z.middle z.first_marks z.first))
        (walk_type x false w z.middle o z.rest_marks z.rest))

    walk_inputs : (xs : InputTrees) (r : Span) (u : Bool) (w : Where) (ts o : Trees) (m : Marks) → inputs xs u w ts o m → P (in_inputs xs) (spell.listed 44 r (spell.each_input r xs) u) ts o
    walk_inputs no_inputs r u w ts o m s = walk_no_items laws 44 r w at_end u ts o m s
    walk_inputs (input_then x xs) r u w ts o m s =
        walk_first laws 44 r (spell.input_trees r x) (spell.each_input r xs) u ts s.middle o (walk_input x r w ts s.middle s.first_marks s.first)
        (walk_inputs_left xs r u w s.middle o s.rest_marks s.rest)

    walk_inputs_left : (xs : InputTrees) (r : Span) (u : Bool) (w : Where) (ts o : Trees) (m : Marks) → inputs_left xs u w ts o m → P (in_inputs xs) (Left 44 r (spell.each_input r xs) u) ts o
    walk_inputs_left no_inputs r u w ts o m s = walk_last_item laws r w 44 at_end u ts o m s
    walk_inputs_left (input_then x xs) r u w ts o m s =
        walk_next laws 44 r (spell.input_trees r x) (spell.each_input r xs) u ts s.middle s.rest.middle o (walk_punct laws r w 44 ts s.middle s.first_marks s.first)
        (walk_input x r w s.middle s.rest.middle s.rest.first_marks s.rest.first) (walk_inputs_left xs r u w s.rest.middle o s.rest.rest_marks s.rest.rest)

    walk_bound : (b : BoundTree) (r : Span) (w : Where) (ts o : Trees) (m : Marks) → bound b w ts o m → P (in_bound b) (spell.bound_trees r b) ts o
    walk_bound (outlives l) r w ts o m s = walk_token laws w (t.Lifetime l) refl ts o m s
    walk_bound (implements b) r w ts o m s = walk_trait b r w ts o m s

    walk_trait : (b : TraitBoundTree) (r : Span) (w : Where) (ts o : Trees) (m : Marks) → trait_bound_spelled b w ts o m → P (in_trait b) (spell.trait_bound_trees r b) ts o
    walk_trait (trait_bound true b ls p) r w ts o m s =
        walk_group laws w Paren (join (spell.given b (spell.punct 63 r)) (join (spell.for_trees r ls) (spell.path_trees r p)))
        (λ v. flag (sees 63) b (punct v 63) then (for_lifetimes v ls then path_spelled p v)) ts o m s
        (λ v i k h.
        walk_join laws (spell.given b (spell.punct 63 r)) (join (spell.for_trees r ls) (spell.path_trees r p)) i h.middle no_trees
        (walk_flag laws (sees 63) b (punct v 63) (spell.punct 63 r) i h.middle h.first_marks h.first (walk_punct laws r v 63 i h.middle h.first_marks))
        (walk_join laws (spell.for_trees r ls) (spell.path_trees r p) h.middle h.rest.middle no_trees (walk_for laws r v ls h.middle h.rest.middle h.rest.first_marks h.rest.first)
        (walk_path p r v h.rest.middle no_trees h.rest.rest_marks h.rest.rest)))
    walk_trait (trait_bound false b ls p) r w ts o m s =
        walk_join laws (spell.given b (spell.punct 63 r)) (join (spell.for_trees r ls) (spell.path_trees r p)) ts s.middle o
        (walk_flag laws (sees 63) b (punct w 63) (spell.punct 63 r) ts s.middle s.first_marks s.first (walk_punct laws r w 63 ts s.middle s.first_marks))
        (walk_join laws (spell.for_trees r ls) (spell.path_trees r p) s.middle s.rest.middle o (walk_for laws r w ls s.middle s.rest.middle s.rest.first_marks s.rest.first)
        (walk_path p r w s.rest.middle o s.rest.rest_marks s.rest.rest))

    walk_some_bounds : (bs : BoundTrees) (r : Span) (single u : Bool) (w : Where) (ts o : Trees) (m : Marks) → u ≡ false → some_bounds bs single w ts o m →
        P (in_bounds bs) (spell.listed 43 r (spell.each_bound r bs) u) ts o
    walk_some_bounds no_bounds r single u w ts o m e s = absurd s.fact
    walk_some_bounds (bound_then b bs) r single u w ts o m e s =
        walk_first laws 43 r (spell.bound_trees r b) (spell.each_bound r bs) u ts s.middle o (walk_bound b r w ts s.middle s.first_marks s.first)
        (walk_more_bounds bs r single u w s.middle o s.rest_marks e s.rest)

    walk_more_bounds : (bs : BoundTrees) (r : Span) (single u : Bool) (w : Where) (ts o : Trees) (m : Marks) → u ≡ false → more_bounds bs single w ts o m →
        P (in_bounds bs) (Left 43 r (spell.each_bound r bs) u) ts o
    walk_more_bounds no_bounds r single true w ts o m e s = absurd (cc)
    walk_more_bounds no_bounds r single false w ts o m e s = walk_none laws ts o s.part.spelled
    walk_more_bounds (bound_then b bs) r single u w ts o m e s =
        let q = s.part in
        walk_next laws 43 r (spell.bound_trees r b) (spell.each_bound r bs) u ts q.middle q.rest.middle o (walk_punct laws r w 43 ts q.middle q.first_marks q.first)
        (walk_bound b r w q.middle q.rest.middle q.rest.first_marks q.rest.first) (walk_more_bounds bs r single u w q.rest.middle o q.rest.rest_marks e q.rest.rest)

    walk_bounds_left : (bs : BoundTrees) (r : Span) (u : Bool) (w : Where) (ts o : Trees) (m : Marks) → bounds_left bs u w ts o m → P (in_bounds bs) (Left 43 r (spell.each_bound r bs) u) ts o
    walk_bounds_left no_bounds r u w ts o m s = walk_last_item laws r w 43 ends_bounds u ts o m s
    walk_bounds_left (bound_then b bs) r u w ts o m s =
        walk_next laws 43 r (spell.bound_trees r b) (spell.each_bound r bs) u ts s.middle s.rest.middle o (walk_punct laws r w 43 ts s.middle s.first_marks s.first)
        (walk_bound b r w s.middle s.rest.middle s.rest.first_marks s.rest.first) (walk_bounds_left bs r u w s.rest.middle o s.rest.rest_marks s.rest.rest)

    pub walk_bounds : (bs : BoundTrees) (r : Span) (u : Bool) (w : Where) (ts o : Trees) (m : Marks) → bounds bs u w ts o m → P (in_bounds bs) (spell.listed 43 r (spell.each_bound r bs) u) ts o
    walk_bounds no_bounds r u w ts o m s = walk_no_items laws 43 r w ends_bounds u ts o m s
    walk_bounds (bound_then b bs) r u w ts o m s =
        walk_first laws 43 r (spell.bound_trees r b) (spell.each_bound r bs) u ts s.middle o (walk_bound b r w ts s.middle s.first_marks s.first)
        (walk_bounds_left bs r u w s.middle o s.rest_marks s.rest)

    walk_path : (p : PathTree) (r : Span) (w : Where) (ts o : Trees) (m : Marks) → path_spelled p w ts o m → P (in_path p) (spell.path_trees r p) ts o
    walk_path (path_tree b ss) r w ts o m s =
        walk_join laws (spell.given b (spell.colons r)) (spell.spaced (spell.colons r) true (spell.each_segment r ss)) ts s.middle o
        (walk_flag laws sees_colons b (colons w) (spell.colons r) ts s.middle s.first_marks s.first (walk_pair laws r w 58 58 ts s.middle s.first_marks))
        (walk_segments ss r w s.middle o s.rest_marks s.rest)

    walk_segments : (ss : SegmentTrees) (r : Span) (w : Where) (ts o : Trees) (m : Marks) → segments ss w ts o m → P (in_segments ss) (spell.spaced (spell.colons r) true (spell.each_segment r ss)) ts o
    walk_segments no_segments r w ts o m s = absurd s.fact
    walk_segments (segment_then x ss) r w ts o m s =
        walk_join laws (spell.segment_trees r x) (spell.spaced (spell.colons r) false (spell.each_segment r ss)) ts s.middle o
        (walk_segment x r w ts s.middle s.first_marks s.first) (walk_segments_left ss r w s.middle o s.rest_marks s.rest)

    walk_segments_left : (ss : SegmentTrees) (r : Span) (w : Where) (ts o : Trees) (m : Marks) → segments_left ss w ts o m →
        P (in_segments ss) (spell.spaced (spell.colons r) false (spell.each_segment r ss)) ts o
    walk_segments_left no_segments r w ts o m s = walk_none laws ts o s.part.spelled
    walk_segments_left (segment_then x ss) r w ts o m s =
        walk_next_segment laws r w (spell.segment_trees r x) (spell.each_segment r ss) ts s.middle s.rest.middle o s.first_marks s.first
        (walk_segment x r w s.middle s.rest.middle s.rest.first_marks s.rest.first) (walk_segments_left ss r w s.rest.middle o s.rest.rest_marks s.rest.rest)

    -- the segments of the trait, `>`, and the others
    walk_trait_segments : (ss : SegmentTrees) (n : ℕ) (r : Span) (w : Where) (ts o : Trees) (m : Marks) → trait_segments n ss w ts o m →
        P (in_segments ss) (Cut n r (spell.each_segment r ss)) ts o
    walk_trait_segments no_segments zero r w ts o m s = absurd s.fact
    walk_trait_segments no_segments (suc n) r w ts o m s = absurd s.fact
    walk_trait_segments (segment_then x ss) zero r w ts o m s =
        walk_cut_last laws r (spell.segment_trees r x) (spell.each_segment r ss) ts s.middle s.rest.middle o (walk_segment x r (deeper w) ts s.middle s.first_marks s.first)
        (walk_punct laws r w 62 s.middle s.rest.middle s.rest.first_marks s.rest.first) (walk_segments_left ss r w s.rest.middle o s.rest.rest_marks (some_are_left ss w s.rest.middle o s.rest.rest_marks s.rest.rest))
    walk_trait_segments (segment_then x no_segments) (suc n) r w ts o m s = absurd (no_trait n w s.rest.middle o s.rest.rest_marks s.rest.rest)
    walk_trait_segments (segment_then x (segment_then y ss)) (suc n) r w ts o m s =
        walk_cut_next laws n r (spell.segment_trees r x) (spell.segment_trees r y) (spell.each_segment r ss) ts s.middle s.rest.middle o
        (walk_segment x r (deeper w) ts s.middle s.first_marks s.first) (walk_pair laws r (deeper w) 58 58 s.middle s.rest.middle s.rest.first_marks s.rest.first)
        (walk_trait_segments (segment_then y ss) n r w s.rest.middle o s.rest.rest_marks s.rest.rest)

    walk_segment : (x : SegmentTree) (r : Span) (w : Where) (ts o : Trees) (m : Marks) → segment_spelled x w ts o m → P (in_segment x) (spell.segment_trees r x) ts o
    walk_segment (segment n gs) r w ts o m s =
        walk_join laws (spell.name n) (spell.arguments_trees r gs) ts s.middle o (walk_token laws w (t.Ident n) refl ts s.middle s.first_marks s.first.part)
        (walk_segment_arguments gs r w s.middle o s.rest_marks s.rest)

    walk_segment_arguments : (gs : ArgumentsTree) (r : Span) (w : Where) (ts o : Trees) (m : Marks) → arguments_of_segment gs w ts o m → P (in_segment_arguments gs) (spell.arguments_trees r gs) ts o
    walk_segment_arguments absent r w ts o m s = walk_none laws ts o s.part.spelled
    walk_segment_arguments (angle b gs u) r w ts o m s = walk_angle laws gs r b u w ts o m s (λ i j k h. walk_arguments gs r u (deeper w) i j k h)
    walk_segment_arguments (parens xs u out) r w ts o m s =
        walk_join laws (spell.grouped Paren (spell.listed 44 r (spell.each_type xs) u)) (spell.output_trees r out) ts s.middle o
        (walk_group laws w Paren (spell.listed 44 r (spell.each_type xs) u) (λ v. types xs u v) ts s.middle s.first_marks s.first (λ v i k h. walk_types xs r u v i no_trees k h))
        (walk_output out r w (deeper w) s.middle o s.rest_marks s.rest)

    pub walk_arguments : (gs : ArgumentTrees) (r : Span) (u : Bool) (w : Where) (ts o : Trees) (m : Marks) → arguments gs u w ts o m →
        P (in_arguments gs) (spell.listed 44 r (spell.each_argument r gs) u) ts o
    walk_arguments no_arguments r u w ts o m s = walk_no_items laws 44 r w (sees 62) u ts o m s
    walk_arguments (argument_then g gs) r u w ts o m s =
        walk_first laws 44 r (spell.argument_trees r g) (spell.each_argument r gs) u ts s.middle o (walk_argument g r w ts s.middle s.first_marks s.first)
        (walk_arguments_left gs r u w s.middle o s.rest_marks s.rest)

    walk_arguments_left : (gs : ArgumentTrees) (r : Span) (u : Bool) (w : Where) (ts o : Trees) (m : Marks) → arguments_left gs u w ts o m →
        P (in_arguments gs) (Left 44 r (spell.each_argument r gs) u) ts o
    walk_arguments_left no_arguments r u w ts o m s = walk_last_item laws r w 44 (sees 62) u ts o m s
    walk_arguments_left (argument_then g gs) r u w ts o m s =
        walk_next laws 44 r (spell.argument_trees r g) (spell.each_argument r gs) u ts s.middle s.rest.middle o (walk_punct laws r w 44 ts s.middle s.first_marks s.first)
        (walk_argument g r w s.middle s.rest.middle s.rest.first_marks s.rest.first) (walk_arguments_left gs r u w s.rest.middle o s.rest.rest_marks s.rest.rest)

    walk_maybe_angled : (gs : MaybeArguments) (r : Span) (w : Where) (ts o : Trees) (m : Marks) → maybe_angled gs w ts o m → P (in_maybe_arguments gs) (spell.maybe_angle_trees r gs) ts o
    walk_maybe_angled arguments_absent r w ts o m s = walk_none laws ts o s.spelled
    walk_maybe_angled (some_arguments gs u) r w ts o m s =
        walk_angles laws r w (spell.listed 44 r (spell.each_argument r gs) u) (λ v. arguments gs u v) ts o m s (λ i j k h. walk_arguments gs r u (deeper w) i j k h)

    walk_argument : (g : ArgumentTree) (r : Span) (w : Where) (ts o : Trees) (m : Marks) → argument g w ts o m → P (in_argument g) (spell.argument_trees r g) ts o
    walk_argument (lifetime_arg l) r w ts o m s = walk_token laws w (t.Lifetime l) refl ts o m s
    walk_argument (type_arg x) r w ts o m s = walk_type x false w ts o m s.part
    walk_argument (const_arg c) r w ts o m s = walk_constant laws r w c ts o m s.part.part
    walk_argument (assoc_type i gs x) r w ts o m s =
        let q = s.rest in
        let z = q.rest in
        walk_join laws (spell.name i) (join (spell.maybe_angle_trees r gs) (join (spell.punct 61 r) (spell.type_trees x))) ts s.middle o
        (walk_token laws w (t.Ident i) refl ts s.middle s.first_marks s.first.part)
        (walk_join laws (spell.maybe_angle_trees r gs) (join (spell.punct 61 r) (spell.type_trees x)) s.middle q.middle o (walk_maybe_angled gs r w s.middle q.middle q.first_marks q.first)
        (walk_join laws (spell.punct 61 r) (spell.type_trees x) q.middle z.middle o (walk_lone laws r w 61 (61 ∷ 62 ∷ []) q.middle z.middle z.first_marks z.first)
        (walk_type x false w z.middle o z.rest_marks z.rest)))
    walk_argument (assoc_const i gs c) r w ts o m s =
        let q = s.rest in
        let z = q.rest in
        walk_join laws (spell.name i) (join (spell.maybe_angle_trees r gs) (join (spell.punct 61 r) (spell.const_trees r c))) ts s.middle o
        (walk_token laws w (t.Ident i) refl ts s.middle s.first_marks s.first.part)
        (walk_join laws (spell.maybe_angle_trees r gs) (join (spell.punct 61 r) (spell.const_trees r c)) s.middle q.middle o (walk_maybe_angled gs r w s.middle q.middle q.first_marks q.first)
        (walk_join laws (spell.punct 61 r) (spell.const_trees r c) q.middle z.middle o (walk_lone laws r w 61 (61 ∷ 62 ∷ []) q.middle z.middle z.first_marks z.first)
        (walk_constant laws r w c z.middle o z.rest_marks z.rest.part.part)))
    walk_argument (constraint i gs bs u) r w ts o m s =
        let q = s.rest in
        let z = q.rest in
        let all : Trees = spell.listed 43 r (spell.each_bound r bs) u in
        walk_join laws (spell.name i) (join (spell.maybe_angle_trees r gs) (join (spell.punct 58 r) all)) ts s.middle o (walk_token laws w (t.Ident i) refl ts s.middle s.first_marks s.first.part)
        (walk_join laws (spell.maybe_angle_trees r gs) (join (spell.punct 58 r) all) s.middle q.middle o (walk_maybe_angled gs r w s.middle q.middle q.first_marks q.first)
        (walk_join laws (spell.punct 58 r) all q.middle z.middle o (walk_lone laws r w 58 (58 ∷ []) q.middle z.middle z.first_marks z.first)
        (walk_bounds bs r u w z.middle o z.rest_marks z.rest)))
