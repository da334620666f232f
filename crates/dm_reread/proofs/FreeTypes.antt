-- Types, paths and bounds are read alike wherever their list ends.
use Rattle.std.proofs.Common.{ℕ, zero, suc, ◌+◌, Bool, true, false, ◌||◌, codes, Option, Some, None, refl}
use Rattle.dm_stream.specs.declared.tokens.Delim.TheVariants.{Paren, Bracket}
use Rattle.dm_stream.specs.declared.tokens.Ident.{Ident}
use Rattle.dm_read_paths.specs.declared.kind.NodeKind.{NodeKind}
use Rattle.dm_read_paths.specs.declared.kind.NodeKind.TheVariants as kind
use Rattle.dm_read_paths.specs.declared.kind.Mode.{Mode}
use Rattle.dm_read_paths.specs.declared.kind.Mode.TheVariants.{Whole, Single, PathOnly}
use Rattle.dm_ast.specs.Spelling.{Where, sees, sees_word, sees_lifetime, sees_literal, sees_group, sees_colons, sees_arrow, sees_colon, sees_equals}
use Rattle.dm_ast.specs.TypeGrammar.{is_path_word, sees_arguments, ends_bounds}
use Rattle.dm_ast.specs.Tree.{TypeTree, pointer, PathTree, MaybeArguments, segments_of, bounds_of, maybe_type}
use Rattle.dm_ast.specs.Readers.{Parser}
use Rattle.dm_read_paths.specs.TypeReaders.{node_kind, arguments_pair, bounds_pair, round_of, square_of, reference_of, segment_of, angle_of, parens_of, path_of, outlives_of, implements_of, trait_of, one_bound, sees_angled, sees_constant, binding_of, type_value, constant_value, constraint_of, lifetime_of, constant_of, type_of, path_type, as_path, path_node, call_of, object_of, implied_of, infer_of, never_of, function_of, qualified_of, read_types, read_output, read_round, square_inside, read_square, read_reference, pointed_at, read_pointer, inner_path, read_plain_trait, read_trait, read_bound, read_bounds, read_some_bounds, read_binding_value, behind_name, behind_type, read_argument, read_arguments, read_angled, read_parens, read_segment_arguments, read_own_arguments, read_segment_list, read_path, read_as, read_qualified, read_inputs, read_abi, read_signature, read_function, read_call, node_by, read_node, read_level, read_type}
use Rattle.dm_reread.proofs.FreeSteps.{Same, Free, ending, same_itself, same_refused, same_bind, same_gives, same_and, same_next, same_either, free_ident, free_lifetime, free_literal, free_punct, free_word, free_group, same_flag, same_perhaps, same_list, same_chain, same_ranged}
use Rattle.dm_reread.proofs.FreePlain.{free_colons, free_arrow, free_colon, free_equals, free_leading, free_plain, free_kept, free_angles, free_for, free_constant}

module _ (inner : Mode → Where → Parser TypeTree) where
  -- ---- bounds, by the reader of their paths

  module _ (bound_path : Where → Parser PathTree) (h : Free bound_path) where
    free_plain_trait : Free (read_plain_trait inner bound_path)
    free_plain_trait l m n = same_and (same_flag (sees 63) (free_punct 63 l m n)) (same_and (free_for l m n) (h l m n))

    free_trait : Free (read_trait inner bound_path)
    free_trait l m n =
        same_either (sees_group Paren) (same_gives (free_group Paren (read_plain_trait inner bound_path) l m n) (trait_of true))
        (same_gives (free_plain_trait l m n) (trait_of false))

    pub free_bound : Free (read_bound inner bound_path)
    free_bound l m n =
        same_either sees_lifetime (same_gives (free_lifetime l m n) outlives_of) (same_gives (free_trait l m n) implements_of)

    free_bounds : Free (read_bounds inner bound_path)
    free_bounds l m n = same_gives (same_list l m n 43 ends_bounds (free_bound l m n)) bounds_pair

    free_some_bounds : (single : Bool) → Free (read_some_bounds inner bound_path single)
    free_some_bounds true l m n = same_gives (free_bound l m n) one_bound
    free_some_bounds false l m n =
        same_gives (same_chain (ending l m) (ending l n) (sees 43) (free_punct 43 l m n) (free_bound l m n)) bounds_of

  module _ (h : (mode : Mode) → Free (inner mode)) where
    -- `-> T`, of which the type may stand at another level
    free_output : (l k m n : ℕ) → Same (read_output inner (ending l m) (ending k m)) (read_output inner (ending l n) (ending k n))
    free_output l k m n = same_gives (same_perhaps sees_arrow (same_next (free_arrow l m n) (h Single k m n))) maybe_type

    pub free_inner_path : Free (inner_path inner)
    free_inner_path l m n = same_gives (h PathOnly l m n) as_path

    -- ---- generic arguments

    free_binding_value : (b : Ident × MaybeArguments) → Free (read_binding_value inner b)
    free_binding_value b l m n =
        same_either sees_constant (same_gives (free_constant l m n) (constant_value b)) (same_gives (h Whole l m n) (type_value b))

    free_behind_name : (b : Option (Ident × MaybeArguments)) (l m n : ℕ) →
        Same (behind_name inner (ending l m) b) (behind_name inner (ending l n) b)
    free_behind_name None l m n = same_refused (ending l m) (ending l n)
    free_behind_name (Some b) l m n =
        same_either sees_equals (same_next (free_equals l m n) (free_binding_value b l m n))
        (same_gives (same_next (free_colon l m n) (free_bounds (inner_path inner) free_inner_path l m n)) (constraint_of b))

    free_behind_type : (t : TypeTree) (l m n : ℕ) → Same (behind_type inner (ending l m) t) (behind_type inner (ending l n) t)
    free_behind_type t l m n = same_either (λ ts. sees_equals ts || sees_colon ts) (free_behind_name (binding_of t) l m n) same_itself

    free_argument : Free (read_argument inner)
    free_argument l m n =
        same_either sees_lifetime (same_gives (free_lifetime l m n) lifetime_of)
        (same_either sees_constant (same_gives (free_constant l m n) constant_of)
        (same_bind (h Whole l m n) (λ t. free_behind_type t l m n)))

    free_arguments : Free (read_arguments inner)
    free_arguments l m n = same_gives (same_list l m n 44 (sees 62) (free_argument l m n)) arguments_pair

    -- ---- paths

    free_angled : Free (read_angled inner)
    free_angled l m n = same_gives (same_and (free_leading l m n) (free_angles (read_arguments inner) free_arguments l m n)) angle_of

    free_parens : Free (read_parens inner)
    free_parens l m n = same_gives (same_and (free_group Paren (read_types inner) l m n) (free_output l (l + 1) m n)) parens_of

    free_segment_arguments : Free (read_segment_arguments inner)
    free_segment_arguments l m n =
        same_either (sees_group Paren) (free_parens l m n) (same_either sees_arguments (free_angled l m n) same_itself)

    free_own_arguments : (bare : Bool) → Free (read_own_arguments inner bare)
    free_own_arguments true l m n = same_either sees_angled (free_angled l m n) same_itself
    free_own_arguments false l m n = free_segment_arguments l m n

    free_segment_list : (bare : Bool) → Free (read_segment_list inner bare)
    free_segment_list bare l m n =
        same_chain (ending l m) (ending l n) sees_colons (free_colons l m n)
        (same_gives (same_and (free_ident is_path_word l m n) (free_own_arguments bare l m n)) segment_of)

    free_path : Free (read_path inner)
    free_path l m n = same_gives (same_and (free_leading l m n) (same_gives (free_segment_list false l m n) segments_of)) path_of

    -- ---- nodes

    free_round : Free (read_round inner)
    free_round l m n = same_gives (free_group Paren (read_types inner) l m n) round_of

    free_square : Free (read_square inner)
    free_square l m n = same_gives (free_group Bracket (square_inside inner) l m n) square_of

    free_reference : Free (read_reference inner)
    free_reference l m n =
        same_gives
        (same_next (free_punct 38 l m n)
        (same_and (same_perhaps sees_lifetime (free_lifetime (l + 1) m n))
        (same_and (same_flag (sees_word (codes "mut")) (free_word (codes "mut") (l + 1) m n)) (h Single (l + 1) m n)))) reference_of

    free_pointed : (mutable : Bool) → Free (pointed_at inner mutable)
    free_pointed true l m n = same_next (free_word (codes "mut") l m n) (h Single l m n)
    free_pointed false l m n = same_next (free_word (codes "const") l m n) (h Single l m n)

    free_pointer : Free (read_pointer inner)
    free_pointer l m n =
        same_next (free_punct 42 l m n)
        (same_either (sees_word (codes "mut")) (same_gives (free_pointed true (l + 1) m n) (pointer true))
        (same_gives (free_pointed false (l + 1) m n) (pointer false)))

    -- ---- qualified paths

    free_as : Free (read_as inner)
    free_as l m n =
        same_perhaps (sees_word (codes "as"))
        (same_next (free_word (codes "as") (l + 1) m n) (same_and (free_leading (l + 1) m n) (free_segment_list false (l + 1) m n)))

    free_qualified : Free (read_qualified inner)
    free_qualified l m n =
        same_gives
        (same_next (free_punct 60 l m n)
        (same_and (h Whole (l + 1) m n)
        (same_and (free_as l m n)
        (same_next (free_punct 62 l m n) (same_next (free_colons l m n) (free_segment_list false l m n)))))) qualified_of

    -- ---- functions

    free_abi : Free (read_abi inner)
    free_abi l m n =
        same_perhaps (sees_word (codes "extern"))
        (same_next (free_word (codes "extern") l m n) (same_perhaps sees_literal (free_literal l m n)))

    free_signature : Free (read_signature inner)
    free_signature l m n =
        same_next (free_word (codes "fn") l m n)
        (same_and (free_group Paren (read_inputs inner) (l + 1) m n) (free_output (l + 1) (l + 1) m n))

    free_function : Free (read_function inner)
    free_function l m n =
        same_gives
        (same_and (free_for l m n)
        (same_and (same_flag (sees_word (codes "unsafe")) (free_word (codes "unsafe") l m n))
        (same_and (free_abi l m n) (free_signature l m n)))) function_of

    -- ---- each kind of node

    free_call : Free (read_call inner)
    free_call l m n = same_gives (same_and (free_plain l m n) (same_next (free_punct 33 l m n) (free_kept l m n))) call_of

    free_own_bounds : (single : Bool) → Free (read_some_bounds inner (inner_path inner) single)
    free_own_bounds = free_some_bounds (inner_path inner) free_inner_path

    free_node_by : (k : NodeKind) (single : Bool) → Free (node_by inner k single)
    free_node_by kind.Call single l m n = free_call l m n
    free_node_by kind.Round single l m n = free_round l m n
    free_node_by kind.Square single l m n = free_square l m n
    free_node_by kind.Reference single l m n = free_reference l m n
    free_node_by kind.Pointer single l m n = free_pointer l m n
    free_node_by kind.Function single l m n = free_function l m n
    free_node_by kind.Object single l m n =
        same_gives (same_next (free_word (codes "dyn") l m n) (free_own_bounds single (l + 1) m n)) object_of
    free_node_by kind.Implied single l m n =
        same_gives (same_next (free_word (codes "impl") l m n) (free_own_bounds single (l + 1) m n)) implied_of
    free_node_by kind.Infer single l m n = same_gives (free_word (codes "_") l m n) infer_of
    free_node_by kind.Never single l m n = same_gives (free_punct 33 l m n) never_of
    free_node_by kind.Qualified single l m n = free_qualified l m n
    free_node_by kind.Path single l m n = same_gives (free_path l m n) path_node

    free_node : (single : Bool) → Free (read_node inner single)
    free_node single l m n = record { at = λ ts. (free_node_by (node_kind ts) single l m n).at ts }

    free_level : (mode : Mode) → Free (read_level inner mode)
    free_level Whole l m n = same_gives (same_ranged (free_node false l m n)) type_of
    free_level Single l m n = same_gives (same_ranged (free_node true l m n)) type_of
    free_level PathOnly l m n = same_gives (same_ranged (free_path l m n)) path_type

-- ---- types at every depth

pub free_type : (depth : ℕ) (mode : Mode) → Free (read_type depth mode)
free_type zero mode l m n = record { at = λ ts. refl }
free_type (suc depth) mode l m n = free_level (read_type depth) (free_type depth) mode l m n
