-- A type that is spelled before other trees is spelled before them also where an end stands behind these, and so are the parts of types.
use Rattle.std.proofs.Common.{◌≡◌, ℕ, zero, suc, Bool, true, false, ◌||◌, [], ◌∷◌, codes, Option, Some, None, refl, ap, ◌∙◌}
use Rattle.dm_stream.specs.declared.tokens.Delim.TheVariants.{Paren, Bracket, Brace}
use Rattle.dm_stream.specs.declared.tokens.Literal.{Literal}
use Rattle.dm_stream.specs.declared.tokens.Token.TheVariants as t
use Rattle.dm_stream.specs.Trees.{Trees, no_trees, token, join}
use Rattle.dm_ast.specs.declared.plain.ConstArg.{ConstArg}
use Rattle.dm_ast.specs.declared.plain.ConstArg.TheVariants as constant
use Rattle.dm_ast.specs.Tree.{TypeTree, type_tree, TypeNode, paren, tuple, slice, array, reference, pointer, bare_fn, trait_object, impl_trait, infer, never, path, macro_type, MaybeType, no_type, some_type, no_self, some_self, BoundTree, outlives, implements, BoundTrees, no_bounds, bound_then, TraitBoundTree, trait_bound, FnTree, fn_tree, PathTree, path_tree, SegmentTree, segment, SegmentTrees, no_segments, segment_then, ArgumentsTree, absent, angle, parens, ArgumentTree, lifetime_arg, type_arg, const_arg, assoc_type, assoc_const, constraint, ArgumentTrees, no_arguments, argument_then, MaybeArguments, arguments_absent, some_arguments}
use Rattle.dm_ast.specs.Spelling.{Where, deeper, Marks, Spelling, at_end, one_of, sees, sees_word, sees_colon, sees_equals, punct, keyword, flag}
use Rattle.dm_ast.specs.TypeGrammar.{ends_bounds, types, inputs, kept, type_spelled, node, output, function, bound, trait_bound_spelled, some_bounds, more_bounds, bounds, bounds_left, path_spelled, segments, segments_left, qualified, trait_segments, some_segments_left, segment_spelled, arguments_of_segment, arguments, arguments_left, argument, maybe_angled, constant_spelled, constant_argument}
use Rattle.dm_read_paths.proofs.TypeEnds.{type_goes_on}
use Rattle.dm_reread.proofs.TypeLeafEnds.{Stop, apart, no_arrow, unmet_sees, unmet_colons, unmet_arguments, unmet_word, unmet_lifetime, unmet_literal, bounds_end}
use Rattle.dm_reread.proofs.TypeLeafParts.{Listed, ExtendsIf, Extends, ext_then, ext_before, ext_if, ext_nothing, ext_where, ext_facing, ext_provided, ext_ranged, ext_absent, ext_flag, ext_perhaps, ext_token, ext_punct, ext_word, ext_pair, ext_group, ext_equals, ext_colon, ext_for, ext_plain, ext_angles, Ends, angle_over, ext_none, ext_last, last_before, listed_punct}
use Rattle.dm_reread.proofs.TypeLeafCalls.{Calm, Extern, calm_listed, calm_punct, calm_left, calm_trait, calm_qualified, calm_more, same_call, uncalled_constant}

module _ (rest : Trees) (stop : Stop rest) where
  -- an item of a list stands before what is no call
  pub as_item : {S : Spelling} → ExtendsIf rest (Calm rest stop) S → ExtendsIf rest Listed S
  as_item f ts others m s c = f ts others m s (calm_listed rest stop others c)

  -- ---- constants

  pub ext_constant : (c : ConstArg) (w : Where) → Extends rest (constant_spelled w c)
  ext_constant (constant.Literal true l) w = ext_then rest (ext_punct rest w 45) (ext_token rest w (t.Literal l))
  ext_constant (constant.Literal false l) w =
      ext_then rest (ext_absent rest (unmet_sees rest stop 45 refl)) (ext_token rest w (t.Literal l))
  ext_constant (constant.Bool i) w = ext_provided rest (λ e. ext_token rest w (t.Ident i))
  ext_constant (constant.Block o) w = ext_group rest w Brace (kept o)
  ext_constant (constant.Name i) w = ext_provided rest (λ e. ext_token rest w (t.Ident i))

  ext_constant_argument : (c : ConstArg) (w : Where) → ExtendsIf rest Listed (constant_argument c w)
  ext_constant_argument c w =
      ext_facing rest (λ ts others m s g e. uncalled_constant rest stop c w ts others m s.part s.fact (calm_listed rest stop others g))
      (ext_provided rest (λ e. ext_if rest _ (ext_constant c w)))

  pub constant_goes_on : (c : ConstArg) (w : Where) (ts others : Trees) (m : Marks) → constant_spelled w c ts others m → at_end ts ≡ false
  constant_goes_on (constant.Literal true l) w ts others m s = ap at_end s.first.there.spelled
  constant_goes_on (constant.Literal false l) w ts others m s = ap at_end (s.first.part.spelled ∙ s.rest.spelled)
  constant_goes_on (constant.Bool i) w ts others m s = ap at_end s.part.spelled
  constant_goes_on (constant.Block o) w ts others m s = ap at_end s.spelled
  constant_goes_on (constant.Name i) w ts others m s = ap at_end s.part.spelled

  -- a type in a list makes no binding
  pub no_binding : (ts : Trees) → Listed ts → (sees_equals (join ts rest) || sees_colon (join ts rest)) ≡ false
  no_binding no_trees g = absurd (cc)
  no_binding (token (t.Punct p) ts) g =
      let a = apart (43 ∷ 44 ∷ 62 ∷ []) p.ch 61 g refl in
      let b = apart (43 ∷ 44 ∷ 62 ∷ []) p.ch 58 g refl in
      rw (a, b) refl
  no_binding _ g = refl

  -- ---- behind `for<..>` something stands

  path_goes_on : (p : PathTree) (w : Where) (ts others : Trees) (m : Marks) → path_spelled p w ts others m → at_end ts ≡ false
  path_goes_on (path_tree true ss) w ts others m s = ap at_end s.first.spelled
  path_goes_on (path_tree false no_segments) w ts others m s = absurd s.rest.fact
  path_goes_on (path_tree false (segment_then (segment i a) ss)) w ts others m s =
      ap at_end (s.first.part.spelled ∙ s.rest.first.first.part.spelled)

  called_goes_on : (abi : Option (Option Literal)) (w : Where) (ts mid others : Trees) (m k : Marks) → Extern rest stop w abi ts mid m →
      keyword w (codes "fn") mid others k → at_end ts ≡ false
  called_goes_on None w ts mid others m k s f = ap at_end (s.part.spelled ∙ f.there.spelled)
  called_goes_on (Some called) w ts mid others m k s f = ap at_end s.first.there.spelled

  function_goes_on : (b : Bool) (abi : Option (Option Literal)) (w : Where) (ts us mid others : Trees) (n m k : Marks) →
      flag (sees_word (codes "unsafe")) b (keyword w (codes "unsafe")) ts us n → Extern rest stop w abi us mid m →
      keyword w (codes "fn") mid others k → at_end ts ≡ false
  function_goes_on true abi w ts us mid others n m k u s f = ap at_end u.there.spelled
  function_goes_on false abi w ts us mid others n m k u s f = ap at_end u.part.spelled ∙ called_goes_on abi w us mid others m k s f

  -- ---- lists

  -- what bounds stand before
  abbrev pub Bounded : Trees → Type 0
  Bounded ts = Calm rest stop ts × (sees_word (codes "for") (join ts rest) ≡ false)

  pub bounded_punct : (w : Where) (c : ℕ) → one_of (58 ∷ 33 ∷ 45 ∷ []) c ≡ false → (ts others : Trees) (m : Marks) →
      punct w c ts others m → Bounded ts
  bounded_punct w c h ts others m s =
      (calm_punct rest stop w c h ts others m s, ap (λ x. sees_word (codes "for") (join x rest)) s.there.spelled)

  listed_no_for : (ts : Trees) → Listed ts → sees_word (codes "for") (join ts rest) ≡ false
  listed_no_for (token (t.Punct p) ts) g = refl
  listed_no_for _ g = absurd (cc)

  pub bounded_listed : (ts : Trees) → Listed ts → Bounded ts
  bounded_listed ts g = (calm_listed rest stop ts g, listed_no_for ts g)

  pub bounded_item : {S : Spelling} → ExtendsIf rest Bounded S → ExtendsIf rest Listed S
  bounded_item f ts others m s c = f ts others m s (bounded_listed others c)

  pub bounded : {S : Spelling} → ExtendsIf rest (Calm rest stop) S → ExtendsIf rest Bounded S
  bounded f ts others m s c = f ts others m s c.0

  bounds_over : (w : Where) → Ends rest Bounded w 43 ends_bounds
  bounds_over w =
      record {
        apart = λ ts g e. unmet_sees rest stop 43 refl ts e;
        ends = λ ts g e. bounds_end rest stop ts g.1 e;
        before = λ ts others m s. bounded_punct w 43 refl ts others m s;
      }

  before_bounds : (bs : BoundTrees) (u : Bool) (w : Where) (ts others : Trees) (m : Marks) → bounds_left bs u w ts others m →
      Bounded others → Bounded ts
  before_bounds no_bounds u w ts others m s g = last_before rest _ w 43 ends_bounds (bounds_over w) u ts others m s g
  before_bounds (bound_then b bs) u w ts others m s g = bounded_punct w 43 refl ts s.middle s.first_marks s.first

  before_arguments : (gs : ArgumentTrees) (u : Bool) (w : Where) (ts others : Trees) (m : Marks) → arguments_left gs u w ts others m →
      Listed others →
      Listed ts
  before_arguments no_arguments u w ts others m s g = last_before rest Listed w 44 (sees 62) (angle_over rest w) u ts others m s g
  before_arguments (argument_then a gs) u w ts others m s g = listed_punct rest refl ts s.middle s.first_marks s.first

  -- behind the type of a qualified path, by what is known of the segments
  ext_qualified : (ss : SegmentTrees) (n : ℕ) (b : Bool) (w : Where) → ((k : ℕ) → ExtendsIf rest (Calm rest stop) (trait_segments k ss w)) →
      ExtendsIf rest (Calm rest stop) (some_segments_left ss w) → ExtendsIf rest (Calm rest stop) (qualified n (path_tree b ss) w)
  ext_qualified ss zero b w first later = ext_provided rest (λ e. ext_then rest (ext_punct rest w 62) later)
  ext_qualified ss (suc n) b w first later =
      ext_then rest (ext_word rest (deeper w) (codes "as"))
      (ext_then rest (ext_flag rest b (unmet_colons rest stop) (ext_pair rest (deeper w) 58 58)) (first n))

  -- ---- types

  mutual
    pub ext_type : (x : TypeTree) (single : Bool) (w : Where) → ExtendsIf rest (Calm rest stop) (type_spelled x single w)
    ext_type (type_tree n range) single w =
        ext_ranged rest
        (ext_facing rest
        (λ ts others m s c e. same_call rest stop n single w ts others m s c (ext_node n single w ts others m s c))
        (ext_node n single w))

    ext_node : (n : TypeNode) (single : Bool) (w : Where) → ExtendsIf rest (Calm rest stop) (node n single w)
    ext_node (paren x) single w = ext_if rest _ (ext_group rest w Paren (λ v. type_spelled x false v))
    ext_node (tuple xs u) single w = ext_provided rest (λ e. ext_if rest _ (ext_group rest w Paren (λ v. types xs u v)))
    ext_node (slice x) single w = ext_if rest _ (ext_group rest w Bracket (λ v. type_spelled x false v))
    ext_node (array x o) single w = ext_if rest _ (ext_group rest w Bracket _)
    ext_node (reference l b x) single w =
        ext_then rest (ext_punct rest w 38)
        (ext_then rest (ext_perhaps rest l (unmet_lifetime rest stop) (λ k. ext_token rest (deeper w) (t.Lifetime k)))
        (ext_then rest (ext_flag rest b (unmet_word rest stop (codes "mut") refl) (ext_word rest (deeper w) (codes "mut")))
        (ext_type x true (deeper w))))
    ext_node (pointer true x) single w =
        ext_then rest (ext_punct rest w 42) (ext_then rest (ext_word rest (deeper w) (codes "mut")) (ext_type x true (deeper w)))
    ext_node (pointer false x) single w =
        ext_then rest (ext_punct rest w 42) (ext_then rest (ext_word rest (deeper w) (codes "const")) (ext_type x true (deeper w)))
    ext_node (bare_fn f) single w = ext_function f w
    ext_node (trait_object bs u) single w =
        ext_provided rest (λ e. ext_then rest (ext_word rest w (codes "dyn")) (ext_some_bounds bs single (deeper w)))
    ext_node (impl_trait bs u) single w =
        ext_provided rest (λ e. ext_then rest (ext_word rest w (codes "impl")) (ext_some_bounds bs single (deeper w)))
    ext_node infer single w = ext_if rest _ (ext_word rest w (codes "_"))
    ext_node never single w = ext_if rest _ (ext_punct rest w 33)
    ext_node (path no_self p) single w = ext_path p w
    ext_node (path (some_self x n) (path_tree b ss)) single w =
        ext_then rest (ext_punct rest w 60)
        (ext_before rest (λ mid others m s c. calm_qualified rest stop n (path_tree b ss) w mid others m s) (ext_type x false (deeper w))
        (ext_qualified ss n b w (λ k. ext_trait_segments ss k w) (ext_some_left ss w)))
    ext_node (macro_type p d o) single w =
        ext_then rest (ext_plain rest stop w p) (ext_then rest (ext_punct rest w 33) (ext_if rest _ (ext_group rest w d (kept o))))

    ext_output : (x : MaybeType) (w inner : Where) → ExtendsIf rest (Calm rest stop) (output x w inner)
    ext_output no_type w inner = ext_where rest (λ others c e. no_arrow (join others rest) c.1) (ext_if rest _ (ext_nothing rest))
    ext_output (some_type x) w inner = ext_then rest (ext_pair rest w 45 62) (ext_type x true inner)

    ext_function : (f : FnTree) (w : Where) → ExtendsIf rest (Calm rest stop) (function f w)
    ext_function (fn_tree ls b abi is u out) w =
        ext_before rest
        (λ mid others m s c.
        let x = s.rest in
        let y = x.rest in
        function_goes_on b abi w mid s.middle x.middle y.middle s.first_marks x.first_marks y.first_marks s.first x.first y.first)
        (ext_for rest stop w ls)
        (ext_then rest (ext_flag rest b (unmet_word rest stop (codes "unsafe") refl) (ext_word rest w (codes "unsafe")))
        (ext_then rest
        (ext_perhaps rest abi (unmet_word rest stop (codes "extern") refl)
        (λ called.
        ext_then rest (ext_word rest w (codes "extern"))
        (ext_perhaps rest called (unmet_literal rest stop) (λ l. ext_token rest w (t.Literal l)))))
        (ext_then rest (ext_word rest w (codes "fn"))
        (ext_then rest (ext_group rest (deeper w) Paren (λ v. inputs is u v)) (ext_output out (deeper w) (deeper w))))))

    -- ---- bounds

    ext_bound : (b : BoundTree) (w : Where) → ExtendsIf rest (Calm rest stop) (bound b w)
    ext_bound (outlives l) w = ext_if rest _ (ext_token rest w (t.Lifetime l))
    ext_bound (implements b) w = ext_trait b w

    ext_trait : (b : TraitBoundTree) (w : Where) → ExtendsIf rest (Calm rest stop) (trait_bound_spelled b w)
    ext_trait (trait_bound true b ls p) w = ext_if rest _ (ext_group rest w Paren _)
    ext_trait (trait_bound false b ls p) w =
        ext_then rest (ext_flag rest b (unmet_sees rest stop 63 refl) (ext_punct rest w 63))
        (ext_before rest (λ mid others m s c. path_goes_on p w mid others m s) (ext_for rest stop w ls) (ext_path p w))

    ext_some_bounds : (bs : BoundTrees) (single : Bool) (w : Where) → ExtendsIf rest (Calm rest stop) (some_bounds bs single w)
    ext_some_bounds no_bounds single w = ext_provided rest (λ e. absurd e)
    ext_some_bounds (bound_then b bs) single w =
        ext_before rest (λ mid others m s c. calm_more rest stop bs single w mid others m s c) (ext_bound b w) (ext_more_bounds bs single w)

    ext_more_bounds : (bs : BoundTrees) (single : Bool) (w : Where) → ExtendsIf rest (Calm rest stop) (more_bounds bs single w)
    ext_more_bounds no_bounds true w = ext_if rest _ (ext_where rest (λ others c e. refl) (ext_nothing rest))
    ext_more_bounds no_bounds false w =
        ext_if rest _ (ext_where rest (λ others c e. unmet_sees rest stop 43 refl others e) (ext_nothing rest))
    ext_more_bounds (bound_then b bs) single w =
        ext_provided rest
        (λ e.
        ext_then rest (ext_punct rest w 43)
        (ext_before rest (λ mid others m s c. calm_more rest stop bs single w mid others m s c) (ext_bound b w)
        (ext_more_bounds bs single w)))

    pub ext_bounds : (bs : BoundTrees) (u : Bool) (w : Where) → ExtendsIf rest Bounded (bounds bs u w)
    ext_bounds no_bounds u w = ext_none rest _ w 43 ends_bounds (bounds_over w) u
    ext_bounds (bound_then b bs) u w =
        ext_before rest (λ mid others m s g. before_bounds bs u w mid others m s g) (bounded (ext_bound b w)) (ext_bounds_left bs u w)

    ext_bounds_left : (bs : BoundTrees) (u : Bool) (w : Where) → ExtendsIf rest Bounded (bounds_left bs u w)
    ext_bounds_left no_bounds u w = ext_last rest _ w 43 ends_bounds (bounds_over w) u
    ext_bounds_left (bound_then b bs) u w =
        ext_then rest (ext_punct rest w 43)
        (ext_before rest (λ mid others m s g. before_bounds bs u w mid others m s g) (bounded (ext_bound b w)) (ext_bounds_left bs u w))

    -- ---- paths

    pub ext_path : (p : PathTree) (w : Where) → ExtendsIf rest (Calm rest stop) (path_spelled p w)
    ext_path (path_tree b ss) w = ext_then rest (ext_flag rest b (unmet_colons rest stop) (ext_pair rest w 58 58)) (ext_segments ss w)

    ext_segments : (ss : SegmentTrees) (w : Where) → ExtendsIf rest (Calm rest stop) (segments ss w)
    ext_segments no_segments w = ext_provided rest (λ e. absurd e)
    ext_segments (segment_then x ss) w =
        ext_before rest (λ mid others m s c. calm_left rest stop ss w mid others m s c) (ext_segment x w) (ext_segments_left ss w)

    ext_segments_left : (ss : SegmentTrees) (w : Where) → ExtendsIf rest (Calm rest stop) (segments_left ss w)
    ext_segments_left no_segments w = ext_if rest _ (ext_absent rest (unmet_colons rest stop))
    ext_segments_left (segment_then x ss) w =
        ext_then rest (ext_pair rest w 58 58)
        (ext_before rest (λ mid others m s c. calm_left rest stop ss w mid others m s c) (ext_segment x w) (ext_segments_left ss w))

    ext_some_left : (ss : SegmentTrees) (w : Where) → ExtendsIf rest (Calm rest stop) (some_segments_left ss w)
    ext_some_left no_segments w = ext_provided rest (λ e. absurd e)
    ext_some_left (segment_then x ss) w =
        ext_then rest (ext_pair rest w 58 58)
        (ext_before rest (λ mid others m s c. calm_left rest stop ss w mid others m s c) (ext_segment x w) (ext_segments_left ss w))

    ext_trait_segments : (ss : SegmentTrees) (n : ℕ) (w : Where) → ExtendsIf rest (Calm rest stop) (trait_segments n ss w)
    ext_trait_segments no_segments zero w = ext_provided rest (λ e. absurd e)
    ext_trait_segments no_segments (suc n) w = ext_provided rest (λ e. absurd e)
    ext_trait_segments (segment_then x ss) zero w =
        ext_before rest (λ mid others m s c. calm_punct rest stop w 62 refl mid s.middle s.first_marks s.first)
        (ext_segment x (deeper w))
        (ext_then rest (ext_punct rest w 62) (ext_some_left ss w))
    ext_trait_segments (segment_then x ss) (suc n) w =
        ext_before rest (λ mid others m s c. calm_trait rest stop n ss
        (deeper w) w mid s.middle others s.first_marks s.rest_marks s.first s.rest) (ext_segment x (deeper w))
        (ext_then rest (ext_pair rest (deeper w) 58 58) (ext_trait_segments ss n w))

    ext_segment : (x : SegmentTree) (w : Where) → ExtendsIf rest (Calm rest stop) (segment_spelled x w)
    ext_segment (segment i a) w = ext_then rest (ext_provided rest (λ e. ext_token rest w (t.Ident i))) (ext_arguments_of a w)

    ext_arguments_of : (a : ArgumentsTree) (w : Where) → ExtendsIf rest (Calm rest stop) (arguments_of_segment a w)
    ext_arguments_of absent w = ext_if rest _ (ext_absent rest (unmet_arguments rest stop))
    ext_arguments_of (angle b gs u) w =
        ext_then rest (ext_flag rest b (unmet_colons rest stop) (ext_pair rest w 58 58))
        (ext_if rest _ (ext_angles rest w (λ v. arguments gs u v) (λ v. ext_arguments gs u v)))
    ext_arguments_of (parens xs u out) w = ext_then rest (ext_group rest w Paren (λ v. types xs u v)) (ext_output out w (deeper w))

    ext_arguments : (gs : ArgumentTrees) (u : Bool) (w : Where) → ExtendsIf rest Listed (arguments gs u w)
    ext_arguments no_arguments u w = ext_none rest Listed w 44 (sees 62) (angle_over rest w) u
    ext_arguments (argument_then g gs) u w =
        ext_before rest (λ mid others m s c. before_arguments gs u w mid others m s c) (ext_argument g w) (ext_arguments_left gs u w)

    ext_arguments_left : (gs : ArgumentTrees) (u : Bool) (w : Where) → ExtendsIf rest Listed (arguments_left gs u w)
    ext_arguments_left no_arguments u w = ext_last rest Listed w 44 (sees 62) (angle_over rest w) u
    ext_arguments_left (argument_then g gs) u w =
        ext_then rest (ext_punct rest w 44)
        (ext_before rest (λ mid others m s c. before_arguments gs u w mid others m s c) (ext_argument g w) (ext_arguments_left gs u w))

    ext_maybe_angled : (gs : MaybeArguments) (w : Where) → Extends rest (maybe_angled gs w)
    ext_maybe_angled arguments_absent w = ext_nothing rest
    ext_maybe_angled (some_arguments gs u) w = ext_angles rest w (λ v. arguments gs u v) (λ v. ext_arguments gs u v)

    ext_argument : (g : ArgumentTree) (w : Where) → ExtendsIf rest Listed (argument g w)
    ext_argument (lifetime_arg l) w = ext_if rest _ (ext_token rest w (t.Lifetime l))
    ext_argument (type_arg x) w = ext_where rest (λ others c e. no_binding others c) (as_item (ext_type x false w))
    ext_argument (const_arg c) w = ext_constant_argument c w
    ext_argument (assoc_type i gs x) w =
        ext_then rest (ext_provided rest (λ e. ext_token rest w (t.Ident i)))
        (ext_then rest (ext_maybe_angled gs w)
        (ext_before rest (λ mid others m s c. type_goes_on x false w mid others m s) (ext_equals rest w) (as_item (ext_type x false w))))
    ext_argument (assoc_const i gs c) w =
        ext_then rest (ext_provided rest (λ e. ext_token rest w (t.Ident i)))
        (ext_then rest (ext_maybe_angled gs w)
        (ext_before rest (λ mid others m s g. constant_goes_on c w mid others m s.part.part) (ext_equals rest w)
        (ext_constant_argument c w)))
    ext_argument (constraint i gs bs u) w =
        ext_then rest (ext_provided rest (λ e. ext_token rest w (t.Ident i)))
        (ext_then rest (ext_maybe_angled gs w) (ext_then rest (ext_colon rest stop w) (bounded_item (ext_bounds bs u w))))
