-- Types, paths and bounds are read the same of the same tokens, ranges aside.
use Rattle.std.proofs.Common.{◌≡◌, ℕ, zero, suc, ◌+◌, Bool, true, false, not, ◌&&◌, ◌||◌, List, [], ◌∷◌, map, codes, Option, option_map, Some, None, refl, sym, ap, ap₂, ◌∙◌, subst}
use Rattle.std.proofs.lemmas.List.{map-append, length-map}
use Rattle.dm_stream.specs.declared.tokens.Delim.TheVariants.{Paren, Bracket}
use Rattle.dm_stream.specs.declared.tokens.Ident.{Ident}
use Rattle.dm_stream.specs.declared.tokens.Token.TheVariants as t
use Rattle.dm_stream.specs.Trees.{Trees, token, group}
use Rattle.dm_lexer.specs.Written.{unplaced}
use Rattle.dm_ast.specs.declared.plain.Opaque.{Opaque}
use Rattle.dm_read_paths.specs.declared.kind.NodeKind.{NodeKind}
use Rattle.dm_read_paths.specs.declared.kind.NodeKind.TheVariants as kind
use Rattle.dm_read_paths.specs.declared.kind.Mode.{Mode}
use Rattle.dm_read_paths.specs.declared.kind.Mode.TheVariants.{Whole, Single, PathOnly}
use Rattle.dm_ast.specs.Spelling.{Where, at_end, sees, sees_word, sees_lifetime, sees_literal, sees_group, sees_colons, sees_arrow, sees_colon, sees_equals}
use Rattle.dm_ast.specs.TypeGrammar.{is_path_word, is_input_name, behind_colons, sees_turbofish, sees_arguments, sees_path_word, sees_bound, sees_named, ends_bounds}
use Rattle.dm_ast.specs.Tree.{TypeTree, type_tree, pointer, path, TypeTrees, no_types, type_then, no_self, BoundTree, InputTree, PathTree, path_tree, SegmentTree, segment, no_segments, segment_then, ArgumentsTree, absent, angle, parens, ArgumentTree, type_arg, MaybeArguments, arguments_absent, some_arguments, types_of, bounds_of, inputs_of, arguments_of, segments_of, maybe_type}
use Rattle.dm_ast.specs.Keywords.{is_name}
use Rattle.dm_ast.specs.Readers.{Parser}
use Rattle.dm_read_paths.specs.TypeReaders.{front_kind, node_kind, types_pair, arguments_pair, inputs_pair, bounds_pair, round_by, round_of, square_by, square_of, reference_of, segment_of, angle_of, parens_of, path_of, outlives_of, implements_of, trait_of, one_bound, sees_angled, sees_constant, named_by, binding_of, type_value, constant_value, constraint_of, lifetime_of, constant_of, type_of, path_type, as_path, path_node, call_of, object_of, implied_of, infer_of, never_of, function_of, input_of, some_name, no_name, qualified_by, qualified_of, read_types, read_output, read_round, square_inside, read_square, read_reference, pointed_at, read_pointer, inner_path, read_plain_trait, read_trait, read_bound, read_bounds, read_some_bounds, read_binding_value, behind_name, behind_type, read_argument, read_arguments, read_angled, read_parens, read_segment_arguments, read_own_arguments, read_segment_list, read_path, read_as, read_qualified, read_named_type, read_input, read_inputs, read_maybe_length, read_abi, read_signature, read_function, read_call, node_by, read_node, read_level, read_type}
use Rattle.dm_type_eq.specs.Unplaced.{unplaced_abi, unplaced_argument, unplaced_arguments, unplaced_arguments_of, unplaced_bound, unplaced_bounds, unplaced_ident, unplaced_input, unplaced_inputs, unplaced_lifetimes, unplaced_maybe_arguments, unplaced_maybe_type, unplaced_node, unplaced_opaque, unplaced_path, unplaced_segment, unplaced_segments, unplaced_trait, unplaced_type, unplaced_types}
use Rattle.dm_reread.specs.TypeLeaves.{answer_of}
use Rattle.dm_reread.proofs.BareNext.{map-cond}
use Rattle.dm_reread.proofs.FreeSteps.{ending}
use Rattle.dm_read_laws.proofs.NaturalSteps.{Alike, Natural, Blind, same, both, alike_nothing, alike_refused, alike_bind, alike_gives_by, alike_gives, alike_and, alike_next, alike_till, alike_either, at_end_blind, sees_blind, pair_blind, lone_blind, word_blind, lifetime_blind, literal_blind, group_blind, or_blind, natural_ident, natural_lifetime, natural_literal, natural_punct, natural_word, natural_group, alike_flag, alike_perhaps, alike_list, alike_chain, alike_ranged}
use Rattle.dm_read_laws.proofs.NaturalPlain.{colons_blind, equals_blind, truth_blind, behind_colons_bare, macro_blind, natural_colons, natural_arrow, natural_colon, natural_equals, natural_leading, natural_plain, natural_kept, natural_opaque, natural_attributes, natural_angles, natural_for, natural_constant}

-- ---- tests

turbofish_blind : Blind sees_turbofish
turbofish_blind ts = ap₂ (λ a b. a && b) (colons_blind ts) (ap (sees 60) (behind_colons_bare ts) ∙ sees_blind 60 (behind_colons ts))

arguments_blind : Blind sees_arguments
arguments_blind ts = simp (sees_blind, turbofish_blind, group_blind)

angled_blind : Blind sees_angled
angled_blind = or_blind (sees 60) sees_turbofish (sees_blind 60) turbofish_blind

path_word_blind : Blind sees_path_word
path_word_blind (token (t.Ident i) rest) = refl
path_word_blind _ = refl

bound_blind : Blind sees_bound
bound_blind ts = simp (lifetime_blind, sees_blind, group_blind, word_blind, colons_blind, path_word_blind)

pub ends_bounds_blind : Blind ends_bounds
ends_bounds_blind ts = ap not (bound_blind ts)

pub colon_blind : Blind sees_colon
colon_blind = lone_blind 58 (58 ∷ [])

constant_blind : Blind sees_constant
constant_blind ts = simp (macro_blind, sees_blind, literal_blind, group_blind, truth_blind)

named_blind : Blind sees_named
named_blind (token (t.Ident i) rest) = ap (λ b. is_input_name i && b) (colon_blind rest)
named_blind _ = refl

front_bare : (ts : Trees) → front_kind (unplaced ts) ≡ front_kind ts
front_bare (token (t.Punct p) rest) = refl
front_bare (token (t.Ident i) rest) = refl
front_bare (group d from inside upto rest) = refl
front_bare _ = refl

kind_bare : (ts : Trees) → node_kind (unplaced ts) ≡ node_kind ts
kind_bare ts = simp (macro_blind, front_bare)

-- ---- what is made of the parts

types_of_bare : (xs : List TypeTree) → types_of (map unplaced_type xs) ≡ unplaced_types (types_of xs)
types_of_bare [] = refl
types_of_bare (x ∷ xs) = ap (type_then (unplaced_type x)) (types_of_bare xs)

pub bounds_of_bare : (bs : List BoundTree) → bounds_of (map unplaced_bound bs) ≡ unplaced_bounds (bounds_of bs)
bounds_of_bare [] = refl
bounds_of_bare (b ∷ bs) = simp (bounds_of_bare bs)

inputs_of_bare : (is : List InputTree) → inputs_of (map unplaced_input is) ≡ unplaced_inputs (inputs_of is)
inputs_of_bare [] = refl
inputs_of_bare (i ∷ is) = simp (inputs_of_bare is)

segments_of_bare : (ss : List SegmentTree) → segments_of (map unplaced_segment ss) ≡ unplaced_segments (segments_of ss)
segments_of_bare [] = refl
segments_of_bare (s ∷ ss) = ap (segment_then (unplaced_segment s)) (segments_of_bare ss)

arguments_of_bare : (gs : List ArgumentTree) → arguments_of (map unplaced_argument gs) ≡ unplaced_arguments (arguments_of gs)
arguments_of_bare [] = refl
arguments_of_bare (g ∷ gs) = simp (arguments_of_bare gs)

maybe_type_bare : (o : Option TypeTree) → maybe_type (option_map unplaced_type o) ≡ unplaced_maybe_type (maybe_type o)
maybe_type_bare None = refl
maybe_type_bare (Some x) = refl

round_bare : (xs : TypeTrees) (trailing : Bool) → round_by (unplaced_types xs) trailing ≡ unplaced_node (round_by xs trailing)
round_bare (type_then x no_types) false = refl
round_bare _ trailing = refl

square_bare : (x : TypeTree) (o : Option Opaque) → square_by (unplaced_type x) (option_map unplaced_opaque o) ≡ unplaced_node (square_by x o)
square_bare x None = refl
square_bare x (Some o) = refl

as_path_bare : (x : TypeTree) → as_path (unplaced_type x) ≡ unplaced_path (as_path x)
as_path_bare (type_tree (path no_self p) range) = refl
as_path_bare _ = refl

-- a name and its arguments
abbrev bare_binding : Ident × MaybeArguments → Ident × MaybeArguments
bare_binding b = (unplaced_ident b.0, unplaced_maybe_arguments b.1)

named_bare : (i : Ident) (gs : ArgumentsTree) → named_by (unplaced_ident i) (unplaced_arguments_of gs) ≡ option_map bare_binding (named_by i gs)
named_bare i absent = sym (map-cond bare_binding (is_name i) (Some (i, arguments_absent)) None)
named_bare i (angle false gs trailing) = sym (map-cond bare_binding (is_name i) (Some (i, some_arguments gs trailing)) None)
named_bare i (angle true gs trailing) = refl
named_bare i (parens xs trailing out) = refl

binding_bare : (x : TypeTree) → binding_of (unplaced_type x) ≡ option_map bare_binding (binding_of x)
binding_bare (type_tree (path no_self (path_tree false (segment_then (segment i gs) no_segments))) range) = named_bare i gs
binding_bare _ = refl

qualified_bare : (x : TypeTree) (o : Option (Bool × List SegmentTree)) (ss : List SegmentTree) →
    qualified_by (unplaced_type x) (option_map (both same (map unplaced_segment)) o) (map unplaced_segment ss) ≡ unplaced_node (qualified_by x o ss)
qualified_bare x None ss = simp (segments_of_bare)
qualified_bare x (Some v) ss = simp (length-map, ← map-append, segments_of_bare)

module _ (inner : Mode → Where → Parser TypeTree) (h : (mode : Mode) → Natural unplaced_type (inner mode)) where
  -- ---- bounds, by the reader of their paths

  module _ (bound_path : Where → Parser PathTree) (k : Natural unplaced_path bound_path) where
    natural_plain_trait : Natural (both same (both unplaced_lifetimes unplaced_path)) (read_plain_trait inner bound_path)
    natural_plain_trait l m =
        alike_and (alike_flag (sees 63) (sees_blind 63) (natural_punct 63 l m)) (alike_and (natural_for l m) (k l m))

    natural_trait : Natural unplaced_trait (read_trait inner bound_path)
    natural_trait l m =
        alike_either (sees_group Paren) (group_blind Paren)
        (alike_gives (natural_group Paren (read_plain_trait inner bound_path) natural_plain_trait l m) (trait_of true) (λ v. refl))
        (alike_gives (natural_plain_trait l m) (trait_of false) (λ v. refl))

    pub natural_bound : Natural unplaced_bound (read_bound inner bound_path)
    natural_bound l m =
        alike_either sees_lifetime lifetime_blind (alike_gives (natural_lifetime l m) outlives_of (λ b. refl))
        (alike_gives (natural_trait l m) implements_of (λ b. refl))

    natural_bounds : Natural (both unplaced_bounds same) (read_bounds inner bound_path)
    natural_bounds l m =
        alike_gives (alike_list l m 43 ends_bounds ends_bounds_blind (natural_bound l m)) bounds_pair
        (λ v. ap (λ bs. (bs, v.1)) (bounds_of_bare v.0))

    natural_some_bounds : (single : Bool) → Natural unplaced_bounds (read_some_bounds inner bound_path single)
    natural_some_bounds true l m = alike_gives (natural_bound l m) one_bound (λ b. refl)
    natural_some_bounds false l m =
        alike_gives
        (alike_chain (ending l m) (ending l 0) (sees 43) (sees_blind 43) (natural_punct 43 l m) (natural_bound l m)) bounds_of bounds_of_bare

  -- `-> T`, of which the type may stand at another level
  natural_output : (l k m : ℕ) → Alike unplaced_maybe_type (read_output inner (ending l m) (ending k m)) (read_output inner (ending l 0) (ending k 0))
  natural_output l k m =
      alike_gives (alike_perhaps sees_arrow (pair_blind 45 62) (alike_next (natural_arrow l m) (h Single k m))) maybe_type maybe_type_bare

  pub natural_inner_path : Natural unplaced_path (inner_path inner)
  natural_inner_path l m = alike_gives (h PathOnly l m) as_path as_path_bare

  natural_types : Natural (both unplaced_types same) (read_types inner)
  natural_types l m =
      alike_gives (alike_list l m 44 at_end at_end_blind (h Whole l m)) types_pair (λ v. ap (λ xs. (xs, v.1)) (types_of_bare v.0))

  -- ---- generic arguments

  natural_binding_value : (b : Ident × MaybeArguments) (l m : ℕ) →
      Alike unplaced_argument (read_binding_value inner b (ending l m)) (read_binding_value inner (bare_binding b) (ending l 0))
  natural_binding_value b l m =
      alike_either sees_constant constant_blind
      (alike_gives_by (natural_constant l m) (constant_value b) (constant_value (bare_binding b)) (λ c. refl))
      (alike_gives_by (h Whole l m) (type_value b) (type_value (bare_binding b)) (λ x. refl))

  natural_behind_name : (b : Option (Ident × MaybeArguments)) (l m : ℕ) →
      Alike unplaced_argument (behind_name inner (ending l m) b) (behind_name inner (ending l 0) (option_map bare_binding b))
  natural_behind_name None l m = alike_refused (ending l m) (ending l 0)
  natural_behind_name (Some b) l m =
      alike_either sees_equals equals_blind (alike_next (natural_equals l m) (natural_binding_value b l m))
      (alike_gives_by (alike_next (natural_colon l m) (natural_bounds (inner_path inner) natural_inner_path l m)) (constraint_of b)
      (constraint_of (bare_binding b)) (λ v. refl))

  natural_behind_type : (x : TypeTree) (l m : ℕ) →
      Alike unplaced_argument (behind_type inner (ending l m) x) (behind_type inner (ending l 0) (unplaced_type x))
  natural_behind_type x l m =
      alike_either (λ ts. sees_equals ts || sees_colon ts) (or_blind sees_equals sees_colon equals_blind colon_blind)
      (subst (λ b. Alike unplaced_argument (behind_name inner (ending l m) (binding_of x)) (behind_name inner (ending l 0) b))
      (sym (binding_bare x)) (natural_behind_name (binding_of x) l m))
      (alike_nothing (type_arg x) (type_arg (unplaced_type x)) refl)

  natural_argument : Natural unplaced_argument (read_argument inner)
  natural_argument l m =
      alike_either sees_lifetime lifetime_blind (alike_gives (natural_lifetime l m) lifetime_of (λ x. refl))
      (alike_either sees_constant constant_blind (alike_gives (natural_constant l m) constant_of (λ c. refl))
      (alike_bind _ (h Whole l m) (λ x. natural_behind_type x l m)))

  natural_arguments : Natural (both unplaced_arguments same) (read_arguments inner)
  natural_arguments l m =
      alike_gives (alike_list l m 44 (sees 62) (sees_blind 62) (natural_argument l m)) arguments_pair
      (λ v. ap (λ gs. (gs, v.1)) (arguments_of_bare v.0))

  -- ---- paths

  natural_angled : Natural unplaced_arguments_of (read_angled inner)
  natural_angled l m =
      alike_gives (alike_and (natural_leading l m) (natural_angles (read_arguments inner) natural_arguments l m)) angle_of (λ v. refl)

  natural_parens : Natural unplaced_arguments_of (read_parens inner)
  natural_parens l m =
      alike_gives (alike_and (natural_group Paren (read_types inner) natural_types l m) (natural_output l (l + 1) m)) parens_of (λ v. refl)

  natural_segment_arguments : Natural unplaced_arguments_of (read_segment_arguments inner)
  natural_segment_arguments l m =
      alike_either (sees_group Paren) (group_blind Paren) (natural_parens l m)
      (alike_either sees_arguments arguments_blind (natural_angled l m) (alike_nothing absent absent refl))

  natural_own_arguments : (bare : Bool) → Natural unplaced_arguments_of (read_own_arguments inner bare)
  natural_own_arguments true l m = alike_either sees_angled angled_blind (natural_angled l m) (alike_nothing absent absent refl)
  natural_own_arguments false l m = natural_segment_arguments l m

  natural_segment_list : (bare : Bool) → Natural (map unplaced_segment) (read_segment_list inner bare)
  natural_segment_list bare l m =
      alike_chain (ending l m) (ending l 0) sees_colons colons_blind (natural_colons l m)
      (alike_gives (alike_and (natural_ident is_path_word (λ i. refl) l m) (natural_own_arguments bare l m)) segment_of (λ v. refl))

  natural_path : Natural unplaced_path (read_path inner)
  natural_path l m =
      alike_gives (alike_and (natural_leading l m) (alike_gives (natural_segment_list false l m) segments_of segments_of_bare)) path_of
      (λ v. refl)

  -- ---- nodes

  natural_round : Natural unplaced_node (read_round inner)
  natural_round l m =
      alike_gives (natural_group Paren (read_types inner) natural_types l m) round_of (λ v. round_bare v.0 v.1)

  natural_length : Natural (option_map unplaced_opaque) read_maybe_length
  natural_length l m = alike_perhaps (sees 59) (sees_blind 59) (alike_next (natural_punct 59 l m) (natural_opaque l m))

  natural_square_inside : Natural (both unplaced_type (option_map unplaced_opaque)) (square_inside inner)
  natural_square_inside l m = alike_and (h Whole l m) (natural_length l m)

  natural_square : Natural unplaced_node (read_square inner)
  natural_square l m =
      alike_gives (natural_group Bracket (square_inside inner) natural_square_inside l m) square_of (λ v. square_bare v.0 v.1)

  natural_reference : Natural unplaced_node (read_reference inner)
  natural_reference l m =
      alike_gives
      (alike_next (natural_punct 38 l m)
      (alike_and (alike_perhaps sees_lifetime lifetime_blind (natural_lifetime (l + 1) m))
      (alike_and (alike_flag (sees_word (codes "mut")) (word_blind (codes "mut")) (natural_word (codes "mut") (l + 1) m)) (h Single (l + 1) m))))
      reference_of (λ v. refl)

  natural_pointed : (mutable : Bool) → Natural unplaced_type (pointed_at inner mutable)
  natural_pointed true l m = alike_next (natural_word (codes "mut") l m) (h Single l m)
  natural_pointed false l m = alike_next (natural_word (codes "const") l m) (h Single l m)

  natural_pointer : Natural unplaced_node (read_pointer inner)
  natural_pointer l m =
      alike_next (natural_punct 42 l m)
      (alike_either (sees_word (codes "mut")) (word_blind (codes "mut"))
      (alike_gives (natural_pointed true (l + 1) m) (pointer true) (λ x. refl))
      (alike_gives (natural_pointed false (l + 1) m) (pointer false) (λ x. refl)))

  -- ---- qualified paths

  natural_as : Natural (option_map (both same (map unplaced_segment))) (read_as inner)
  natural_as l m =
      alike_perhaps (sees_word (codes "as")) (word_blind (codes "as"))
      (alike_next (natural_word (codes "as") (l + 1) m) (alike_and (natural_leading (l + 1) m) (natural_segment_list false (l + 1) m)))

  natural_qualified : Natural unplaced_node (read_qualified inner)
  natural_qualified l m =
      alike_gives
      (alike_next (natural_punct 60 l m)
      (alike_and (h Whole (l + 1) m)
      (alike_and (natural_as l m)
      (alike_next (natural_punct 62 l m) (alike_next (natural_colons l m) (natural_segment_list false l m))))))
      qualified_of (λ v. qualified_bare v.0 v.1.0 v.1.1)

  -- ---- functions

  natural_named_type : Natural (both (option_map unplaced_ident) unplaced_type) (read_named_type inner)
  natural_named_type l m =
      alike_either sees_named named_blind
      (alike_gives (alike_and (alike_till (natural_ident is_input_name (λ i. refl) l m) (natural_colon l m)) (h Whole l m)) some_name (λ v. refl))
      (alike_gives (h Whole l m) no_name (λ x. refl))

  natural_input : Natural unplaced_input (read_input inner)
  natural_input l m = alike_gives (alike_and (natural_attributes l m) (natural_named_type l m)) input_of (λ v. refl)

  natural_inputs : Natural (both unplaced_inputs same) (read_inputs inner)
  natural_inputs l m =
      alike_gives (alike_list l m 44 at_end at_end_blind (natural_input l m)) inputs_pair (λ v. ap (λ is. (is, v.1)) (inputs_of_bare v.0))

  natural_abi : Natural unplaced_abi (read_abi inner)
  natural_abi l m =
      alike_perhaps (sees_word (codes "extern")) (word_blind (codes "extern"))
      (alike_next (natural_word (codes "extern") l m) (alike_perhaps sees_literal literal_blind (natural_literal l m)))

  natural_signature : Natural (both (both unplaced_inputs same) unplaced_maybe_type) (read_signature inner)
  natural_signature l m =
      alike_next (natural_word (codes "fn") l m)
      (alike_and (natural_group Paren (read_inputs inner) natural_inputs (l + 1) m) (natural_output (l + 1) (l + 1) m))

  natural_function : Natural unplaced_node (read_function inner)
  natural_function l m =
      alike_gives
      (alike_and (natural_for l m)
      (alike_and (alike_flag (sees_word (codes "unsafe")) (word_blind (codes "unsafe")) (natural_word (codes "unsafe") l m))
      (alike_and (natural_abi l m) (natural_signature l m)))) function_of (λ v. refl)

  -- ---- each kind of node

  natural_call : Natural unplaced_node (read_call inner)
  natural_call l m =
      alike_gives (alike_and (natural_plain l m) (alike_next (natural_punct 33 l m) (natural_kept l m))) call_of (λ v. refl)

  natural_own_bounds : (single : Bool) → Natural unplaced_bounds (read_some_bounds inner (inner_path inner) single)
  natural_own_bounds = natural_some_bounds (inner_path inner) natural_inner_path

  natural_node_by : (k : NodeKind) (single : Bool) → Natural unplaced_node (node_by inner k single)
  natural_node_by kind.Call single l m = natural_call l m
  natural_node_by kind.Round single l m = natural_round l m
  natural_node_by kind.Square single l m = natural_square l m
  natural_node_by kind.Reference single l m = natural_reference l m
  natural_node_by kind.Pointer single l m = natural_pointer l m
  natural_node_by kind.Function single l m = natural_function l m
  natural_node_by kind.Object single l m =
      alike_gives (alike_next (natural_word (codes "dyn") l m) (natural_own_bounds single (l + 1) m)) object_of (λ bs. refl)
  natural_node_by kind.Implied single l m =
      alike_gives (alike_next (natural_word (codes "impl") l m) (natural_own_bounds single (l + 1) m)) implied_of (λ bs. refl)
  natural_node_by kind.Infer single l m = alike_gives (natural_word (codes "_") l m) infer_of (λ u. refl)
  natural_node_by kind.Never single l m = alike_gives (natural_punct 33 l m) never_of (λ u. refl)
  natural_node_by kind.Qualified single l m = natural_qualified l m
  natural_node_by kind.Path single l m = alike_gives (natural_path l m) path_node (λ p. refl)

  natural_node : (single : Bool) → Natural unplaced_node (read_node inner single)
  natural_node single l m =
      record {
        at = λ ts.
            ap (λ k. answer_of (node_by inner k single (ending l 0) (unplaced ts))) (kind_bare ts) ∙
            (natural_node_by (node_kind ts) single l m).at ts;
      }

  natural_level : (mode : Mode) → Natural unplaced_type (read_level inner mode)
  natural_level Whole l m = alike_gives (alike_ranged (natural_node false l m)) type_of (λ v. refl)
  natural_level Single l m = alike_gives (alike_ranged (natural_node true l m)) type_of (λ v. refl)
  natural_level PathOnly l m = alike_gives (alike_ranged (natural_path l m)) path_type (λ v. refl)

-- ---- types at every depth

pub natural_type : (depth : ℕ) (mode : Mode) → Natural unplaced_type (read_type depth mode)
natural_type zero mode l m = record { at = λ ts. refl }
natural_type (suc depth) mode l m = natural_level (read_type depth) (natural_type depth) mode l m
