-- Where types, paths and bounds are refused: at a place in the trees, and as too deep only behind too many openers.
use Rattle.std.proofs.Common.{ℕ, zero, suc, ◌+◌, ◌<◌, ◌≤◌, Bool, true, false, ◌||◌, codes, Option, Some, None, refl, arith}
use Rattle.dm_stream.specs.declared.tokens.Delim.TheVariants.{Paren, Bracket}
use Rattle.dm_stream.specs.declared.tokens.Ident.{Ident}
use Rattle.dm_read_paths.specs.declared.kind.NodeKind.{NodeKind}
use Rattle.dm_read_paths.specs.declared.kind.NodeKind.TheVariants as kind
use Rattle.dm_read_paths.specs.declared.kind.Mode.{Mode}
use Rattle.dm_read_paths.specs.declared.kind.Mode.TheVariants.{Whole, Single, PathOnly}
use Rattle.dm_ast.specs.Spelling.{Where, deeper, deepest, at_end, sees, sees_word, sees_lifetime, sees_literal, sees_group, sees_colons, sees_arrow, sees_colon, sees_equals}
use Rattle.dm_ast.specs.TypeGrammar.{is_path_word, is_input_name, sees_arguments, sees_named, ends_bounds}
use Rattle.dm_ast.specs.Tree.{TypeTree, pointer, absent, PathTree, MaybeArguments, type_arg, segments_of, bounds_of, maybe_type}
use Rattle.dm_ast.specs.Readers.{Parser, ◌and◌, read_arrow, inside_at, and_then}
use Rattle.dm_read_paths.specs.TypeReaders.{node_kind, types_pair, arguments_pair, inputs_pair, bounds_pair, round_of, square_of, reference_of, segment_of, angle_of, parens_of, path_of, outlives_of, implements_of, trait_of, one_bound, sees_angled, sees_constant, binding_of, type_value, constant_value, constraint_of, lifetime_of, constant_of, type_of, path_type, as_path, path_node, call_of, object_of, implied_of, infer_of, never_of, function_of, input_of, some_name, no_name, qualified_of, read_types, read_output, read_round, read_length, read_square, read_reference, pointed, read_pointer, inner_path, read_plain_trait, read_trait, read_bound, read_bounds, read_some_bounds, read_binding_value, behind_name, behind_type, read_argument, read_arguments, read_angled, read_parens, read_segment_arguments, read_own_arguments, read_segment_list, read_path_by, read_path, read_as, read_qualified, read_named_type, read_input, read_inputs, read_abi, read_signature, read_function, read_call, node_by, read_node, read_level, read_type}
use Rattle.dm_grammar_laws.proofs.Licensing.{Licenses, deep_in_front, licensed_bind, licensed_any, licensed_raised, licensed_gives, licensed_and, licensed_and_deeper, licensed_next, licensed_next_deeper, licensed_till, licensed_either, licensed_nothing, licensed_refuse, licensed_ident, licensed_lifetime, licensed_literal, licensed_punct, licensed_word, licensed_opener, licensed_fn, licensed_dyn, licensed_impl, licensed_group, licensed_flag, licensed_perhaps, licensed_list, licensed_chain, licensed_ranged}
use Rattle.dm_grammar_laws.proofs.LicensedParts.{licensed_colons, licensed_arrow, licensed_colon, licensed_equals, licensed_leading, licensed_plain, licensed_kept, licensed_opaque, licensed_attributes, licensed_angles, licensed_for, licensed_constant}

-- the readers of the types in a rule are licensed at deeper levels
abbrev pub LicensesDeeper : (Mode → Where → Parser TypeTree) → ℕ → Type 0
LicensesDeeper inner n = (mode : Mode) (v : Where) → n < v.level → Licenses 0 v (inner mode v)

module _ (inner : Mode → Where → Parser TypeTree) where
  licensed_types : (v : Where) → Licenses 0 v (inner Whole v) → Licenses 0 v (read_types inner v)
  licensed_types v h = licensed_gives (licensed_list 44 at_end h) types_pair

  -- `-> T`, which stands behind an opener
  licensed_output : (w v : Where) → Licenses 0 v (read_arrow w) → Licenses 0 v (inner Single v) → Licenses 0 v (read_output inner w v)
  licensed_output w v a h = licensed_gives (licensed_perhaps sees_arrow (licensed_next a h)) maybe_type

  -- ---- bounds

  pub licensed_inner_path : (v : Where) → Licenses 0 v (inner PathOnly v) → Licenses 0 v (inner_path inner v)
  licensed_inner_path v h = licensed_gives h as_path

  module _ (bound_path : Where → Parser PathTree) where
    licensed_plain_trait : (v : Where) → Licenses 0 v (bound_path v) → Licenses 0 v (read_plain_trait inner bound_path v)
    licensed_plain_trait v h = licensed_and (licensed_flag (sees 63) (licensed_punct 63 v)) (licensed_and (licensed_for v) h)

    licensed_trait : (w : Where) → ((v : Where) → w.level ≤ v.level → Licenses 0 v (bound_path v)) → Licenses 0 w (read_trait inner bound_path w)
    licensed_trait w h =
        licensed_either (sees_group Paren)
        (licensed_gives
        (licensed_any
        (licensed_group Paren (read_plain_trait inner bound_path) w
        (λ limit. licensed_plain_trait (inside_at w limit) (h (inside_at w limit) (omega arith))))) (trait_of true))
        (licensed_gives (licensed_plain_trait w (h w (omega arith))) (trait_of false))

    pub licensed_bound : (w : Where) → ((v : Where) → w.level ≤ v.level → Licenses 0 v (bound_path v)) → Licenses 0 w (read_bound inner bound_path w)
    licensed_bound w h =
        licensed_either sees_lifetime (licensed_gives (licensed_lifetime w) outlives_of) (licensed_gives (licensed_trait w h) implements_of)

    licensed_bounds : (w : Where) → ((v : Where) → w.level ≤ v.level → Licenses 0 v (bound_path v)) → Licenses 0 w (read_bounds inner bound_path w)
    licensed_bounds w h = licensed_gives (licensed_list 43 ends_bounds (licensed_bound w h)) bounds_pair

    licensed_some_bounds : (single : Bool) (w : Where) → ((v : Where) → w.level ≤ v.level → Licenses 0 v (bound_path v)) →
        Licenses 0 w (read_some_bounds inner bound_path single w)
    licensed_some_bounds true w h = licensed_gives (licensed_bound w h) one_bound
    licensed_some_bounds false w h = licensed_gives (licensed_chain (sees 43) (licensed_punct 43 w) (licensed_bound w h)) bounds_of

  module _ (n : ℕ) (h : LicensesDeeper inner n) where
    path_deeper : (w : Where) → n < w.level → (v : Where) → w.level ≤ v.level → Licenses 0 v (inner_path inner v)
    path_deeper w e v below = licensed_inner_path v (h PathOnly v (omega (arith, e, below)))

    -- ---- generic arguments, which stand deeper

    licensed_binding_value : (b : Ident × MaybeArguments) (w : Where) → n < w.level → Licenses 0 w (read_binding_value inner b w)
    licensed_binding_value b w e =
        licensed_either sees_constant (licensed_gives (licensed_constant w) (constant_value b)) (licensed_gives (h Whole w e) (type_value b))

    licensed_behind_name : (w : Where) → n < w.level → (b : Option (Ident × MaybeArguments)) → Licenses 0 w (behind_name inner w b)
    licensed_behind_name w e None = licensed_refuse
    licensed_behind_name w e (Some b) =
        licensed_either sees_equals (licensed_next (licensed_equals w) (licensed_binding_value b w e))
        (licensed_gives (licensed_next (licensed_colon w) (licensed_bounds (inner_path inner) w (path_deeper w e))) (constraint_of b))

    licensed_behind_type : (w : Where) → n < w.level → (t : TypeTree) → Licenses 0 w (behind_type inner w t)
    licensed_behind_type w e t =
        licensed_either (λ ts. sees_equals ts || sees_colon ts) (licensed_behind_name w e (binding_of t)) (licensed_nothing (type_arg t))

    licensed_type_argument : (w : Where) → n < w.level → Licenses 0 w (λ ts. and_then (inner Whole w ts) (behind_type inner w))
    licensed_type_argument w e =
        record { at = λ ts. licensed_bind w ts (inner Whole w ts) (behind_type inner w) ((h Whole w e).at ts) (λ t. (licensed_behind_type w e t).at) }

    licensed_argument : (w : Where) → n < w.level → Licenses 0 w (read_argument inner w)
    licensed_argument w e =
        licensed_either sees_lifetime (licensed_gives (licensed_lifetime w) lifetime_of)
        (licensed_either sees_constant (licensed_gives (licensed_constant w) constant_of) (licensed_type_argument w e))

    licensed_arguments : (w : Where) → n < w.level → Licenses 0 w (read_arguments inner w)
    licensed_arguments w e = licensed_gives (licensed_list 44 (sees 62) (licensed_argument w e)) arguments_pair

    -- ---- paths

    pub licensed_angled : (w : Where) → n ≤ w.level → Licenses 0 w (read_angled inner w)
    licensed_angled w e =
        licensed_gives (licensed_and (licensed_leading w) (licensed_any
        (licensed_angles (read_arguments inner) w (licensed_arguments (deeper w) (omega (arith, e)))))) angle_of

    -- the parenthesis opens before `->`
    licensed_parens : (w : Where) → n ≤ w.level → Licenses 1 w (read_parens inner w)
    licensed_parens w e =
        licensed_gives
        (licensed_and_deeper
        (licensed_group Paren (read_types inner) w (λ limit. licensed_types (inside_at w limit) (h Whole (inside_at w limit) (omega (arith, e)))))
        (licensed_output w (deeper w) (licensed_raised (licensed_arrow w)) (h Single (deeper w) (omega (arith, e))))) parens_of

    licensed_segment_arguments : (w : Where) → n ≤ w.level → Licenses 0 w (read_segment_arguments inner w)
    licensed_segment_arguments w e =
        licensed_either (sees_group Paren) (licensed_any (licensed_parens w e)) (licensed_either sees_arguments (licensed_angled w e) (licensed_nothing absent))

    licensed_own_arguments : (bare : Bool) (w : Where) → n ≤ w.level → Licenses 0 w (read_own_arguments inner bare w)
    licensed_own_arguments true w e = licensed_either sees_angled (licensed_angled w e) (licensed_nothing absent)
    licensed_own_arguments false w e = licensed_segment_arguments w e

    licensed_segment_list : (bare : Bool) (w : Where) → n ≤ w.level → Licenses 0 w (read_segment_list inner bare w)
    licensed_segment_list bare w e =
        licensed_chain sees_colons (licensed_colons w) (licensed_gives (licensed_and (licensed_ident is_path_word w) (licensed_own_arguments bare w e)) segment_of)

    pub licensed_path : (bare : Bool) (w : Where) → n ≤ w.level → Licenses 0 w (read_path_by inner bare w)
    licensed_path bare w e = licensed_gives (licensed_and (licensed_leading w) (licensed_gives (licensed_segment_list bare w e) segments_of)) path_of

  -- ---- nodes, over types that stand deeper

  module _ (w : Where) (h : LicensesDeeper inner w.level) where
    licensed_inside_types : (limit : ℕ) → Licenses 0 (inside_at w limit) (inner Whole (inside_at w limit))
    licensed_inside_types limit = h Whole (inside_at w limit) (omega arith)

    licensed_deeper : (mode : Mode) → Licenses 0 (deeper w) (inner mode (deeper w))
    licensed_deeper mode = h mode (deeper w) (omega arith)

    licensed_round : Licenses 0 w (read_round inner w)
    licensed_round =
        licensed_gives (licensed_any (licensed_group Paren (read_types inner) w
        (λ limit. licensed_types (inside_at w limit) (licensed_inside_types limit)))) round_of

    licensed_length : (v : Where) → Licenses 0 v (read_length inner v)
    licensed_length v = licensed_perhaps (sees 59) (licensed_next (licensed_punct 59 v) (licensed_opaque v))

    licensed_square : Licenses 0 w (read_square inner w)
    licensed_square =
        licensed_gives
        (licensed_any
        (licensed_group Bracket (λ v. inner Whole v and read_length inner v) w
        (λ limit. licensed_and (licensed_inside_types limit) (licensed_length (inside_at w limit))))) square_of

    licensed_reference : Licenses 0 w (read_reference inner w)
    licensed_reference =
        licensed_gives
        (licensed_any
        (licensed_next_deeper (licensed_opener 38 refl w)
        (licensed_and (licensed_perhaps sees_lifetime (licensed_lifetime (deeper w)))
        (licensed_and (licensed_flag (sees_word (codes "mut")) (licensed_word (codes "mut") (deeper w))) (licensed_deeper Single))))) reference_of

    licensed_pointed : (mutable : Bool) → Licenses 0 (deeper w) (pointed inner mutable w)
    licensed_pointed true = licensed_next (licensed_word (codes "mut") (deeper w)) (licensed_deeper Single)
    licensed_pointed false = licensed_next (licensed_word (codes "const") (deeper w)) (licensed_deeper Single)

    licensed_pointer : Licenses 0 w (read_pointer inner w)
    licensed_pointer =
        licensed_any
        (licensed_next_deeper (licensed_opener 42 refl w)
        (licensed_either (sees_word (codes "mut")) (licensed_gives (licensed_pointed true) (pointer true))
        (licensed_gives (licensed_pointed false) (pointer false))))

    -- ---- qualified paths: all behind `<` stands one level deeper, or no deeper

    licensed_as : Licenses 0 (deeper w) (read_as inner w)
    licensed_as =
        licensed_perhaps (sees_word (codes "as"))
        (licensed_next (licensed_word (codes "as") (deeper w))
        (licensed_and (licensed_leading (deeper w)) (licensed_segment_list w.level h false (deeper w) (omega arith))))

    licensed_qualified : Licenses 0 w (read_qualified inner w)
    licensed_qualified =
        licensed_gives
        (licensed_any
        (licensed_next_deeper (licensed_opener 60 refl w)
        (licensed_and (licensed_deeper Whole)
        (licensed_and licensed_as
        (licensed_raised (licensed_next (licensed_punct 62 w)
        (licensed_next (licensed_colons w) (licensed_segment_list w.level h false w (omega arith))))))))) qualified_of

    -- ---- functions: `fn` opens, and the parenthesis behind it

    licensed_named_type : (v : Where) → Licenses 0 v (inner Whole v) → Licenses 0 v (read_named_type inner v)
    licensed_named_type v g =
        licensed_either sees_named (licensed_gives (licensed_and (licensed_till (licensed_ident is_input_name v) (licensed_colon v)) g) some_name)
        (licensed_gives g no_name)

    licensed_input : (v : Where) → Licenses 0 v (inner Whole v) → Licenses 0 v (read_input inner v)
    licensed_input v g = licensed_gives (licensed_and (licensed_attributes v) (licensed_named_type v g)) input_of

    licensed_inputs : (v : Where) → Licenses 0 v (inner Whole v) → Licenses 0 v (read_inputs inner v)
    licensed_inputs v g = licensed_gives (licensed_list 44 at_end (licensed_input v g)) inputs_pair

    licensed_abi : Licenses 0 w (read_abi inner w)
    licensed_abi =
        licensed_perhaps (sees_word (codes "extern")) (licensed_next (licensed_word (codes "extern") w) (licensed_perhaps sees_literal (licensed_literal w)))

    licensed_signature : Licenses 0 w (read_signature inner w)
    licensed_signature =
        licensed_any
        (licensed_next_deeper (licensed_fn w)
        (licensed_and
        (licensed_any
        (licensed_group Paren (read_inputs inner) (deeper w)
        (λ limit. licensed_inputs (inside_at (deeper w) limit) (h Whole (inside_at (deeper w) limit) (omega arith)))))
        (licensed_output (deeper w) (deeper w) (licensed_arrow (deeper w)) (licensed_deeper Single))))

    licensed_function : Licenses 0 w (read_function inner w)
    licensed_function =
        licensed_gives
        (licensed_and (licensed_for w)
        (licensed_and (licensed_flag (sees_word (codes "unsafe")) (licensed_word (codes "unsafe") w))
        (licensed_and licensed_abi licensed_signature))) function_of

    -- ---- bounds behind `dyn` and `impl`, which open

    some_bounds_deeper : (single : Bool) → Licenses 0 (deeper w) (read_some_bounds inner (inner_path inner) single (deeper w))
    some_bounds_deeper single = licensed_some_bounds (inner_path inner) single (deeper w) (path_deeper w.level h (deeper w) (omega arith))

    licensed_call : Licenses 0 w (read_call inner w)
    licensed_call = licensed_gives (licensed_and (licensed_plain w) (licensed_next (licensed_punct 33 w) (licensed_kept w))) call_of

    licensed_own_path : Licenses 0 w (read_path inner w)
    licensed_own_path = licensed_path w.level h false w (omega arith)

    -- ---- each kind of node

    licensed_node_by : (k : NodeKind) (single : Bool) → Licenses 0 w (node_by inner k single w)
    licensed_node_by kind.Call single = licensed_call
    licensed_node_by kind.Round single = licensed_round
    licensed_node_by kind.Square single = licensed_square
    licensed_node_by kind.Reference single = licensed_reference
    licensed_node_by kind.Pointer single = licensed_pointer
    licensed_node_by kind.Function single = licensed_function
    licensed_node_by kind.Object single = licensed_gives (licensed_any (licensed_next_deeper (licensed_dyn w) (some_bounds_deeper single))) object_of
    licensed_node_by kind.Implied single = licensed_gives (licensed_any (licensed_next_deeper (licensed_impl w) (some_bounds_deeper single))) implied_of
    licensed_node_by kind.Infer single = licensed_gives (licensed_word (codes "_") w) infer_of
    licensed_node_by kind.Never single = licensed_gives (licensed_punct 33 w) never_of
    licensed_node_by kind.Qualified single = licensed_qualified
    licensed_node_by kind.Path single = licensed_gives licensed_own_path path_node

    licensed_node : (single : Bool) → Licenses 0 w (read_node inner single w)
    licensed_node single = record { at = λ ts. (licensed_node_by (node_kind ts) single).at ts }

    licensed_one_level : (mode : Mode) → Licenses 0 w (read_level inner mode w)
    licensed_one_level Whole = licensed_gives (licensed_ranged (licensed_node false)) type_of
    licensed_one_level Single = licensed_gives (licensed_ranged (licensed_node true)) type_of
    licensed_one_level PathOnly = licensed_gives (licensed_ranged licensed_own_path) path_type

-- ---- types at every place

pub licensed_type : (depth : ℕ) (mode : Mode) (w : Where) → deepest < depth + w.level → Licenses 0 w (read_type depth mode w)
licensed_type zero mode w h = record { at = λ ts. deep_in_front w.level w.limit ts (omega (arith, h)) }
licensed_type (suc depth) mode w h = licensed_one_level (read_type depth) w (λ inside v below. licensed_type depth inside v (omega (arith, h, below))) mode
