-- Readers of types, paths, bounds and generic arguments. A rule takes the reader of the types in it.
use Rattle.std.specs.Prelude.{ℕ, zero, suc, Bool, true, false, not, if◌then◌else◌, ◌&&◌, ◌||◌, nat_eq, List, [], ◌∷◌, ◌++◌, length, codes, Option, Some, None, Ok}
use Rattle.dm_stream.specs.declared.tokens.Span.{Span}
use Rattle.dm_stream.specs.declared.tokens.Delim.{Delim}
use Rattle.dm_stream.specs.declared.tokens.Delim.TheVariants.{Paren, Bracket, Brace}
use Rattle.dm_stream.specs.declared.tokens.Ident.{Ident}
use Rattle.dm_stream.specs.declared.tokens.Lifetime.{Lifetime}
use Rattle.dm_stream.specs.declared.tokens.Literal.{Literal}
use Rattle.dm_stream.specs.declared.tokens.Token.TheVariants as t
use Rattle.dm_stream.specs.Trees.{Trees, token, group, Stream}
use Rattle.dm_stream.specs.Cursors.{front_span}
use Rattle.dm_ast.specs.declared.plain.PlainPath.{PlainPath}
use Rattle.dm_ast.specs.declared.plain.Attribute.{Attribute}
use Rattle.dm_ast.specs.declared.plain.Opaque.{Opaque}
use Rattle.dm_ast.specs.declared.plain.ConstArg.{ConstArg}
use Rattle.dm_read_paths.specs.declared.kind.NodeKind.{NodeKind}
use Rattle.dm_read_paths.specs.declared.kind.NodeKind.TheVariants as kind
use Rattle.dm_read_paths.specs.declared.kind.Mode.{Mode}
use Rattle.dm_read_paths.specs.declared.kind.Mode.TheVariants.{Whole, Single, PathOnly}
use Rattle.dm_ast.specs.Keywords.{is_name}
use Rattle.dm_ast.specs.Spelling.{Where, deeper, at_end, sees, sees_word, sees_lifetime, sees_literal, sees_group, sees_colons, sees_arrow, sees_colon, sees_equals, is_word}
use Rattle.dm_ast.specs.TypeGrammar.{is_path_word, is_input_name, sees_macro, sees_arguments, sees_turbofish, sees_named, ends_bounds}
use Rattle.dm_ast.specs.Tree.{Lifetimes, TypeTree, type_tree, TypeNode, paren, tuple, slice, array, reference, pointer, bare_fn, trait_object, impl_trait, infer, never, path, macro_type, TypeTrees, no_types, type_then, MaybeType, no_self, some_self, BoundTree, outlives, implements, BoundTrees, TraitBoundTree, trait_bound, fn_tree, InputTree, input, InputTrees, PathTree, path_tree, SegmentTree, segment, SegmentTrees, segments_of, segment_then, no_segments, ArgumentsTree, absent, angle, parens, ArgumentTree, lifetime_arg, type_arg, const_arg, assoc_type, assoc_const, constraint, ArgumentTrees, MaybeArguments, arguments_absent, some_arguments, types_of, bounds_of, inputs_of, arguments_of, maybe_type}
use Rattle.dm_ast.specs.Readers.{Parser, and_then, mapped, ◌and◌, ◌next◌, ◌till◌, ◌gives◌, refuse, read_flag, read_perhaps, read_ident, read_lifetime, read_literal, read_punct, read_word, read_colons, read_arrow, read_colon, read_equals, read_group, read_list, read_chain, ranged, too_deep_at}
use Rattle.dm_ast.specs.PlainReaders.{read_leading, read_plain, read_kept, read_opaque, read_attributes, read_angles, read_for, read_constant, sees_truth}

-- ---- which rule

abbrev pub punct_kind : ℕ → NodeKind
punct_kind c =
    if nat_eq c 38 then kind.Reference else (if nat_eq c 42 then kind.Pointer else (if nat_eq c 33 then kind.Never else (if nat_eq c 60 then kind.Qualified else kind.Path)))

abbrev pub begins_function : Ident → Bool
begins_function i = is_word (codes "for") i || (is_word (codes "unsafe") i || (is_word (codes "extern") i || is_word (codes "fn") i))

abbrev pub word_kind : Ident → NodeKind
word_kind i =
    if begins_function i then kind.Function
    else (if is_word (codes "dyn") i then kind.Object else (if is_word (codes "impl") i then kind.Implied else (if is_word (codes "_") i then kind.Infer else kind.Path)))

abbrev pub delim_kind : Delim → NodeKind
delim_kind Paren = kind.Round
delim_kind Bracket = kind.Square
delim_kind Brace = kind.Path

abbrev pub front_kind : Trees → NodeKind
front_kind (token (t.Punct p) rest) = punct_kind p.ch
front_kind (token (t.Ident i) rest) = word_kind i
front_kind (group d from inside upto rest) = delim_kind d
front_kind _ = kind.Path

abbrev pub node_kind : Trees → NodeKind
node_kind ts = if sees_macro ts then kind.Call else front_kind ts

-- ---- parts and what they make

abbrev pub types_pair : List TypeTree × Bool → TypeTrees × Bool
types_pair v = (types_of v.0, v.1)

abbrev pub arguments_pair : List ArgumentTree × Bool → ArgumentTrees × Bool
arguments_pair v = (arguments_of v.0, v.1)

abbrev pub inputs_pair : List InputTree × Bool → InputTrees × Bool
inputs_pair v = (inputs_of v.0, v.1)

abbrev pub bounds_pair : List BoundTree × Bool → BoundTrees × Bool
bounds_pair v = (bounds_of v.0, v.1)

-- one type without a comma is no tuple
abbrev pub round_by : TypeTrees → Bool → TypeNode
round_by (type_then t no_types) false = paren t
round_by ts trailing = tuple ts trailing

abbrev pub round_of : TypeTrees × Bool → TypeNode
round_of v = round_by v.0 v.1

abbrev pub square_by : TypeTree → Option Opaque → TypeNode
square_by t None = slice t
square_by t (Some o) = array t o

abbrev pub square_of : TypeTree × Option Opaque → TypeNode
square_of v = square_by v.0 v.1

abbrev pub reference_of : Option Lifetime × (Bool × TypeTree) → TypeNode
reference_of v = reference v.0 v.1.0 v.1.1

abbrev pub segment_of : Ident × ArgumentsTree → SegmentTree
segment_of v = segment v.0 v.1

abbrev pub angle_of : Bool × (ArgumentTrees × Bool) → ArgumentsTree
angle_of v = angle v.0 v.1.0 v.1.1

abbrev pub parens_of : (TypeTrees × Bool) × MaybeType → ArgumentsTree
parens_of v = parens v.0.0 v.0.1 v.1

abbrev pub path_of : Bool × SegmentTrees → PathTree
path_of v = path_tree v.0 v.1

abbrev pub outlives_of : Lifetime → BoundTree
outlives_of l = outlives l

abbrev pub implements_of : TraitBoundTree → BoundTree
implements_of b = implements b

abbrev pub trait_of : Bool → Bool × (Lifetimes × PathTree) → TraitBoundTree
trait_of in_parens v = trait_bound in_parens v.0 v.1.0 v.1.1

abbrev pub one_bound : BoundTree → BoundTrees
one_bound b = bounds_of (b ∷ [])

-- ---- generic arguments

-- arguments that stand between `<` and `>`
abbrev pub sees_angled : Trees → Bool
sees_angled ts = sees 60 ts || sees_turbofish ts

abbrev pub sees_constant : Trees → Bool
sees_constant ts = not (sees_macro ts) && (sees 45 ts || (sees_literal ts || (sees_group Brace ts || sees_truth ts)))

-- the name and the arguments that a type is, before `=` or `:`
abbrev pub named_by : Ident → ArgumentsTree → Option (Ident × MaybeArguments)
named_by i absent = if is_name i then Some (i, arguments_absent) else None
named_by i (angle false gs trailing) = if is_name i then Some (i, some_arguments gs trailing) else None
named_by i _ = None

abbrev pub binding_of : TypeTree → Option (Ident × MaybeArguments)
binding_of (type_tree (path no_self (path_tree false (segment_then (segment i as') no_segments))) range) = named_by i as'
binding_of _ = None

abbrev pub type_value : Ident × MaybeArguments → TypeTree → ArgumentTree
type_value b t = assoc_type b.0 b.1 t

abbrev pub constant_value : Ident × MaybeArguments → ConstArg → ArgumentTree
constant_value b c = assoc_const b.0 b.1 c

abbrev pub read_constant_value : Ident × MaybeArguments → Where → Parser ArgumentTree
read_constant_value b w ts = mapped (constant_value b) (read_constant w ts)

abbrev pub constraint_of : Ident × MaybeArguments → BoundTrees × Bool → ArgumentTree
constraint_of b v = constraint b.0 b.1 v.0 v.1

abbrev pub lifetime_of : Lifetime → ArgumentTree
lifetime_of l = lifetime_arg l

abbrev pub constant_of : ConstArg → ArgumentTree
constant_of c = const_arg c

abbrev pub type_of : TypeNode × Span → TypeTree
type_of v = type_tree v.0 v.1

abbrev pub path_type : PathTree × Span → TypeTree
path_type v = type_tree (path no_self v.0) v.1

-- the path that a type is
abbrev pub as_path : TypeTree → PathTree
as_path (type_tree (path no_self p) range) = p
as_path _ = path_tree false no_segments

abbrev pub path_node : PathTree → TypeNode
path_node p = path no_self p

abbrev pub call_of : PlainPath × (Delim × Stream) → TypeNode
call_of v = macro_type v.0 v.1.0 v.1.1

abbrev pub object_of : BoundTrees → TypeNode
object_of bs = trait_object bs false

abbrev pub implied_of : BoundTrees → TypeNode
implied_of bs = impl_trait bs false

abbrev pub infer_of : Unit {0} → TypeNode
infer_of _ = infer

abbrev pub never_of : Unit {0} → TypeNode
never_of _ = never

abbrev pub function_of : Lifetimes × (Bool × (Option (Option Literal) × ((InputTrees × Bool) × MaybeType))) → TypeNode
function_of v = bare_fn (fn_tree v.0 v.1.0 v.1.1.0 v.1.1.1.0.0 v.1.1.1.0.1 v.1.1.1.1)

abbrev pub input_of : List Attribute × (Option Ident × TypeTree) → InputTree
input_of v = input v.0 v.1.0 v.1.1

abbrev pub some_name : Ident × TypeTree → Option Ident × TypeTree
some_name v = (Some v.0, v.1)

abbrev pub no_name : TypeTree → Option Ident × TypeTree
no_name t = (None, t)

abbrev pub qualified_by : TypeTree → Option (Bool × List SegmentTree) → List SegmentTree → TypeNode
qualified_by t None ss = path (some_self t 0) (path_tree true (segments_of ss))
qualified_by t (Some v) ss = path (some_self t (length v.1)) (path_tree v.0 (segments_of (v.1 ++ ss)))

-- what stands before `>` and behind it
abbrev pub qualified_of : TypeTree × (Option (Bool × List SegmentTree) × List SegmentTree) → TypeNode
qualified_of v = qualified_by v.0 v.1.0 v.1.1

-- ---- parts of the rules that hold no types

abbrev pub read_keyword : List ℕ → Where → Parser Bool
read_keyword spelled w = read_flag (sees_word spelled) (read_word spelled w)

abbrev pub read_maybe_lifetime : Where → Parser (Option Lifetime)
read_maybe_lifetime w = read_perhaps sees_lifetime (read_lifetime w)

abbrev pub read_maybe_literal : Where → Parser (Option Literal)
read_maybe_literal w = read_perhaps sees_literal (read_literal w)

-- `; LENGTH`
abbrev pub read_some_length : Where → Parser Opaque
read_some_length w = read_punct 59 w next read_opaque w

abbrev pub read_maybe_length : Where → Parser (Option Opaque)
read_maybe_length w = read_perhaps (sees 59) (read_some_length w)

-- `extern`, perhaps with a literal
abbrev pub read_some_abi : Where → Parser (Option Literal)
read_some_abi w = read_word (codes "extern") w next read_maybe_literal w

abbrev pub read_maybe_abi : Where → Parser (Option (Option Literal))
read_maybe_abi w = read_perhaps (sees_word (codes "extern")) (read_some_abi w)

-- a name of a parameter and `:`
abbrev pub read_label : Where → Parser Ident
read_label w = read_ident is_input_name w till read_colon w

-- `!` and a group
abbrev pub read_behind_bang : Where → Parser (Delim × Stream)
read_behind_bang w = read_punct 33 w next read_kept w

abbrev pub read_call_parts : Where → Parser (PlainPath × (Delim × Stream))
read_call_parts w = read_plain w and read_behind_bang w

abbrev pub read_macro_type : Where → Parser TypeNode
read_macro_type w = read_call_parts w gives call_of

abbrev pub read_infer : Where → Parser TypeNode
read_infer w = read_word (codes "_") w gives infer_of

abbrev pub read_never : Where → Parser TypeNode
read_never w = read_punct 33 w gives never_of

-- `?` before a bound
abbrev pub read_question : Where → Parser Bool
read_question w = read_flag (sees 63) (read_punct 63 w)

-- ---- the rules. `inner` reads the types in them, at deeper levels; its truth value says whether a `dyn` or an `impl` has one bound.

module _ (inner : Mode → Where → Parser TypeTree) where
  abbrev pub read_types : Where → Parser (TypeTrees × Bool)
  read_types v = read_list v 44 at_end (inner Whole v) gives types_pair

  -- a type whose tokens stand one level deeper
  abbrev pub read_deep : Mode → Where → Parser TypeTree
  read_deep mode w = inner mode (deeper w)

  abbrev pub read_enclosed : Where → Parser (TypeTrees × Bool)
  read_enclosed w = read_group Paren read_types w

  -- `-> T`
  abbrev pub read_output : Where → Where → Parser MaybeType
  read_output w deep = read_perhaps sees_arrow (read_arrow w next inner Single deep) gives maybe_type

  abbrev pub read_behind_arrow : Where → Parser TypeTree
  read_behind_arrow w = read_arrow w next inner Single w

  abbrev pub read_output_here : Where → Parser MaybeType
  read_output_here w = read_output w w

  abbrev pub read_deep_behind_arrow : Where → Parser TypeTree
  read_deep_behind_arrow w = read_arrow w next read_deep Single w

  abbrev pub read_deep_output : Where → Parser MaybeType
  read_deep_output w = read_output w (deeper w)

  abbrev pub read_round : Where → Parser TypeNode
  read_round w = read_enclosed w gives round_of

  abbrev pub read_length : Where → Parser (Option Opaque)
  read_length v = read_maybe_length v

  abbrev pub square_inside : Where → Parser (TypeTree × Option Opaque)
  square_inside v = inner Whole v and read_length v

  abbrev pub read_bracketed : Where → Parser (TypeTree × Option Opaque)
  read_bracketed w = read_group Bracket square_inside w

  abbrev pub read_square : Where → Parser TypeNode
  read_square w = read_bracketed w gives square_of

  -- a type, perhaps behind `mut`
  abbrev pub read_mutable : Where → Parser (Bool × TypeTree)
  read_mutable w = read_keyword (codes "mut") w and inner Single w

  abbrev pub read_referred : Where → Parser (Option Lifetime × (Bool × TypeTree))
  read_referred w = read_maybe_lifetime w and read_mutable w

  abbrev pub read_deep_referred : Where → Parser (Option Lifetime × (Bool × TypeTree))
  read_deep_referred w = read_referred (deeper w)

  abbrev pub read_behind_and : Where → Parser (Option Lifetime × (Bool × TypeTree))
  read_behind_and w = read_punct 38 w next read_deep_referred w

  abbrev pub read_reference : Where → Parser TypeNode
  read_reference w = read_behind_and w gives reference_of

  abbrev pub pointed_at : Bool → Where → Parser TypeTree
  pointed_at true v = read_word (codes "mut") v next inner Single v
  pointed_at false v = read_word (codes "const") v next inner Single v

  abbrev pub pointed : Bool → Where → Parser TypeTree
  pointed is_mut w = pointed_at is_mut (deeper w)

  abbrev pub pointer_at : Bool → Where → Parser TypeNode
  pointer_at is_mut v ts = mapped (pointer is_mut) (pointed_at is_mut v ts)

  abbrev pub read_pointed_at : Where → Parser TypeNode
  read_pointed_at v ts = if sees_word (codes "mut") ts then pointer_at true v ts else pointer_at false v ts

  abbrev pub read_pointed : Where → Parser TypeNode
  read_pointed w = read_pointed_at (deeper w)

  abbrev pub read_pointer : Where → Parser TypeNode
  read_pointer w = read_punct 42 w next read_pointed w

  -- ---- bounds

  abbrev pub inner_path : Where → Parser PathTree
  inner_path v = inner PathOnly v gives as_path

  -- by the reader of their paths
  module _ (bound_path : Where → Parser PathTree) where
    abbrev pub read_bound_path : Where → Parser (Lifetimes × PathTree)
    read_bound_path v = read_for v and bound_path v

    abbrev pub read_plain_trait : Where → Parser (Bool × (Lifetimes × PathTree))
    read_plain_trait v = read_question v and read_bound_path v

    abbrev pub read_enclosed_trait : Where → Parser (Bool × (Lifetimes × PathTree))
    read_enclosed_trait w = read_group Paren read_plain_trait w

    abbrev pub read_trait : Where → Parser TraitBoundTree
    read_trait w ts = if sees_group Paren ts then mapped (trait_of true) (read_enclosed_trait w ts) else mapped (trait_of false) (read_plain_trait w ts)

    abbrev pub read_bound : Where → Parser BoundTree
    read_bound w ts = if sees_lifetime ts then mapped outlives_of (read_lifetime w ts) else mapped implements_of (read_trait w ts)

    abbrev pub read_bound_list : Where → Parser (List BoundTree × Bool)
    read_bound_list w = read_list w 43 ends_bounds (read_bound w)

    abbrev pub read_bounds : Where → Parser (BoundTrees × Bool)
    read_bounds w = read_bound_list w gives bounds_pair

    -- those of a `dyn` or an `impl`
    abbrev pub read_one_bound : Where → Parser BoundTrees
    read_one_bound w = read_bound w gives one_bound

    abbrev pub read_all_bounds : Where → Parser BoundTrees
    read_all_bounds w = read_chain w (read_punct 43 w) (sees 43) (read_bound w) gives bounds_of

    abbrev pub read_some_bounds : Bool → Where → Parser BoundTrees
    read_some_bounds true w = read_one_bound w
    read_some_bounds false w = read_all_bounds w

  -- ---- generic arguments

  -- behind `Name =`
  abbrev pub read_type_value : Ident × MaybeArguments → Where → Parser ArgumentTree
  read_type_value b w ts = mapped (type_value b) (inner Whole w ts)

  abbrev pub read_binding_value : Ident × MaybeArguments → Where → Parser ArgumentTree
  read_binding_value b w ts = if sees_constant ts then read_constant_value b w ts else read_type_value b w ts

  abbrev pub read_behind_equals : Ident × MaybeArguments → Where → Parser ArgumentTree
  read_behind_equals b w = read_equals w next read_binding_value b w

  abbrev pub read_behind_colon : Where → Parser (BoundTrees × Bool)
  read_behind_colon w = read_colon w next read_bounds inner_path w

  abbrev pub read_constraint : Ident × MaybeArguments → Where → Parser ArgumentTree
  read_constraint b w ts = mapped (constraint_of b) (read_behind_colon w ts)

  abbrev pub read_behind_name : Ident × MaybeArguments → Where → Parser ArgumentTree
  read_behind_name b w ts = if sees_equals ts then read_behind_equals b w ts else read_constraint b w ts

  abbrev pub behind_name : Where → Option (Ident × MaybeArguments) → Parser ArgumentTree
  behind_name w None = refuse w
  behind_name w (Some b) = read_behind_name b w

  abbrev pub behind_type : Where → TypeTree → Parser ArgumentTree
  behind_type w t = λ ts. if sees_equals ts || sees_colon ts then behind_name w (binding_of t) ts else Ok (type_arg t, ts)

  -- a type, and what follows it
  abbrev pub read_typed_argument : Where → Parser ArgumentTree
  read_typed_argument w ts = and_then (inner Whole w ts) (behind_type w)

  abbrev pub read_argument : Where → Parser ArgumentTree
  read_argument w ts =
      if sees_lifetime ts then mapped lifetime_of (read_lifetime w ts)
      else (if sees_constant ts then mapped constant_of (read_constant w ts) else read_typed_argument w ts)

  abbrev pub read_arguments : Where → Parser (ArgumentTrees × Bool)
  read_arguments v = read_list v 44 (sees 62) (read_argument v) gives arguments_pair

  -- ---- paths

  abbrev pub read_deep_arguments : Where → Parser (ArgumentTrees × Bool)
  read_deep_arguments w = read_arguments (deeper w)

  abbrev pub read_till_angle : Where → Parser (ArgumentTrees × Bool)
  read_till_angle w = read_deep_arguments w till read_punct 62 w

  abbrev pub read_between_angles : Where → Parser (ArgumentTrees × Bool)
  read_between_angles w = read_angles read_arguments w

  abbrev pub read_angled : Where → Parser ArgumentsTree
  read_angled w = (read_leading w and read_between_angles w) gives angle_of

  -- types in parentheses, and what follows `->`
  abbrev pub read_parens_parts : Where → Parser ((TypeTrees × Bool) × MaybeType)
  read_parens_parts w = read_enclosed w and read_deep_output w

  abbrev pub read_parens : Where → Parser ArgumentsTree
  read_parens w = read_parens_parts w gives parens_of

  abbrev pub read_segment_arguments : Where → Parser ArgumentsTree
  read_segment_arguments w ts =
      if sees_group Paren ts then read_parens w ts else (if sees_arguments ts then read_angled w ts else Ok (absent, ts))

  -- a bare path has no list in parentheses of its own
  abbrev pub read_bare_arguments : Where → Parser ArgumentsTree
  read_bare_arguments w ts = if sees_angled ts then read_angled w ts else Ok (absent, ts)

  abbrev pub read_own_arguments : Bool → Where → Parser ArgumentsTree
  read_own_arguments true w = read_bare_arguments w
  read_own_arguments false w = read_segment_arguments w

  abbrev pub read_segment_parts : Bool → Where → Parser (Ident × ArgumentsTree)
  read_segment_parts bare w = read_ident is_path_word w and read_own_arguments bare w

  abbrev pub read_segment : Bool → Where → Parser SegmentTree
  read_segment bare w = read_segment_parts bare w gives segment_of

  abbrev pub read_segment_list : Bool → Where → Parser (List SegmentTree)
  read_segment_list bare w = read_chain w (read_colons w) sees_colons (read_segment bare w)

  abbrev pub read_segment_trees : Bool → Where → Parser SegmentTrees
  read_segment_trees bare w = read_segment_list bare w gives segments_of

  abbrev pub read_path_by : Bool → Where → Parser PathTree
  read_path_by bare w = (read_leading w and read_segment_trees bare w) gives path_of

  abbrev pub read_segments : Where → Parser (List SegmentTree)
  read_segments w = read_segment_list false w

  abbrev pub read_path : Where → Parser PathTree
  read_path w = read_path_by false w

  -- behind `<` and a type: `as` and a path
  abbrev pub read_as_path : Where → Parser (Bool × List SegmentTree)
  read_as_path w = read_leading w and read_segments w

  abbrev pub read_some_as : Where → Parser (Bool × List SegmentTree)
  read_some_as w = read_word (codes "as") w next read_as_path w

  abbrev pub read_deep_as : Where → Parser (Bool × List SegmentTree)
  read_deep_as w = read_some_as (deeper w)

  abbrev pub read_as : Where → Parser (Option (Bool × List SegmentTree))
  read_as w = read_perhaps (sees_word (codes "as")) (read_deep_as w)

  -- `::` and segments
  abbrev pub read_further : Where → Parser (List SegmentTree)
  read_further w = read_colons w next read_segments w

  abbrev pub read_behind_angle : Where → Parser (List SegmentTree)
  read_behind_angle w = read_punct 62 w next read_further w

  -- what follows the type
  abbrev pub read_behind_self : Where → Parser (Option (Bool × List SegmentTree) × List SegmentTree)
  read_behind_self w = read_as w and read_behind_angle w

  abbrev pub read_self_and_path : Where → Parser (TypeTree × (Option (Bool × List SegmentTree) × List SegmentTree))
  read_self_and_path w = read_deep Whole w and read_behind_self w

  abbrev pub read_qualified : Where → Parser TypeNode
  read_qualified w = (read_punct 60 w next read_self_and_path w) gives qualified_of

  -- ---- functions

  abbrev pub read_labelled : Where → Parser (Ident × TypeTree)
  read_labelled w = read_label w and inner Whole w

  abbrev pub read_named_type : Where → Parser (Option Ident × TypeTree)
  read_named_type w ts = if sees_named ts then mapped some_name (read_labelled w ts) else mapped no_name (inner Whole w ts)

  abbrev pub read_input_parts : Where → Parser (List Attribute × (Option Ident × TypeTree))
  read_input_parts w = read_attributes w and read_named_type w

  abbrev pub read_input : Where → Parser InputTree
  read_input w = read_input_parts w gives input_of

  abbrev pub read_inputs : Where → Parser (InputTrees × Bool)
  read_inputs v = read_list v 44 at_end (read_input v) gives inputs_pair

  abbrev pub read_enclosed_inputs : Where → Parser (InputTrees × Bool)
  read_enclosed_inputs w = read_group Paren read_inputs w

  abbrev pub read_abi : Where → Parser (Option (Option Literal))
  read_abi w = read_maybe_abi w

  -- parameters and what follows `->`
  abbrev pub read_behind_fn : Where → Parser ((InputTrees × Bool) × MaybeType)
  read_behind_fn w = read_enclosed_inputs w and read_output_here w

  abbrev pub read_deep_behind_fn : Where → Parser ((InputTrees × Bool) × MaybeType)
  read_deep_behind_fn w = read_behind_fn (deeper w)

  abbrev pub read_signature : Where → Parser ((InputTrees × Bool) × MaybeType)
  read_signature w = read_word (codes "fn") w next read_deep_behind_fn w

  abbrev pub read_behind_unsafe : Where → Parser (Option (Option Literal) × ((InputTrees × Bool) × MaybeType))
  read_behind_unsafe w = read_abi w and read_signature w

  abbrev pub read_behind_for : Where → Parser (Bool × (Option (Option Literal) × ((InputTrees × Bool) × MaybeType)))
  read_behind_for w = read_keyword (codes "unsafe") w and read_behind_unsafe w

  abbrev pub read_function_parts : Where → Parser (Lifetimes × (Bool × (Option (Option Literal) × ((InputTrees × Bool) × MaybeType))))
  read_function_parts w = read_for w and read_behind_for w

  abbrev pub read_function : Where → Parser TypeNode
  read_function w = read_function_parts w gives function_of

  -- ---- types

  abbrev pub read_call : Where → Parser TypeNode
  read_call w = read_macro_type w

  -- bounds whose tokens stand one level deeper
  abbrev pub read_deep_bounds : Bool → Where → Parser BoundTrees
  read_deep_bounds single w = read_some_bounds inner_path single (deeper w)

  abbrev pub read_behind_dyn : Bool → Where → Parser BoundTrees
  read_behind_dyn single w = read_word (codes "dyn") w next read_deep_bounds single w

  abbrev pub read_behind_impl : Bool → Where → Parser BoundTrees
  read_behind_impl single w = read_word (codes "impl") w next read_deep_bounds single w

  abbrev pub read_object : Bool → Where → Parser TypeNode
  read_object single w = read_behind_dyn single w gives object_of

  abbrev pub read_implied : Bool → Where → Parser TypeNode
  read_implied single w = read_behind_impl single w gives implied_of

  abbrev pub read_path_type : Where → Parser TypeNode
  read_path_type w = read_path w gives path_node

  abbrev pub node_by : NodeKind → Bool → Where → Parser TypeNode
  node_by kind.Call single w = read_call w
  node_by kind.Round single w = read_round w
  node_by kind.Square single w = read_square w
  node_by kind.Reference single w = read_reference w
  node_by kind.Pointer single w = read_pointer w
  node_by kind.Function single w = read_function w
  node_by kind.Object single w = read_object single w
  node_by kind.Implied single w = read_implied single w
  node_by kind.Infer single w = read_infer w
  node_by kind.Never single w = read_never w
  node_by kind.Qualified single w = read_qualified w
  node_by kind.Path single w = read_path_type w

  abbrev pub read_node : Bool → Where → Parser TypeNode
  read_node single w ts = node_by (node_kind ts) single w ts

  abbrev pub read_ranged_node : Bool → Where → Parser TypeTree
  read_ranged_node single w = ranged (read_node single w) gives type_of

  abbrev pub read_ranged_path : Where → Parser TypeTree
  read_ranged_path w = ranged (read_path w) gives path_type

  abbrev pub read_level : Mode → Where → Parser TypeTree
  read_level Whole w = read_ranged_node false w
  read_level Single w = read_ranged_node true w
  read_level PathOnly w = read_ranged_path w

-- types that nest at most so deep
abbrev pub read_type : ℕ → Mode → Where → Parser TypeTree
read_type zero mode w ts = too_deep_at (front_span ts w.limit)
read_type (suc depth) mode w ts = read_level (read_type depth) mode w ts
