-- The associated types, parameters and outputs that operators and `PartialEq` emit are of the grammar. Their types are made of words,
-- perhaps with arguments between `<` and `>`, so they are written without ranges at every place that isn't too deep.
use Rattle.std.proofs.Common.{◌≡◌, ℕ, Bool, true, false, cond, List, [], ◌∷◌, ◌++◌, map, codes, Some, None, option_map, IsTrue, refl}
use Rattle.dm_stream.specs.declared.tokens.Ident.{Ident}
use Rattle.dm_stream.specs.Layout.{nowhere}
use Rattle.dm_stream.specs.Trees.{Trees, no_trees}
use Rattle.dm_ast.specs.Keywords.{is_keyword}
use Rattle.dm_ast.specs.Tree.{TypeTree, type_tree, path, no_self, PathTree, path_tree, segments_of, segment, ArgumentsTree, angle, type_arg, arguments_of}
use Rattle.dm_ast.specs.Declarations.{Declaration}
use Rattle.dm_ast.specs.Spelling.{Where, deeper, Marks, first_too_deep, sees_word, sees_lifetime, ◌then◌}
use Rattle.dm_ast.specs.TypeGrammar.{name, is_path_word, type_spelled}
use Rattle.dm_ast.specs.TypeTokens as spell
use Rattle.dm_ast.specs.Parsed.{SpelledBy}
use Rattle.dm_ast.specs.Implementors.{segments, plain_path, name_type, params_of, implementor}
use Rattle.dm_output.specs.Output.{BlockTree}
use Rattle.dm_output.specs.Values.{is_enum}
use Rattle.dm_generics.specs.Words.{word, words, plain_segments, self_type, ref_self}
use Rattle.dm_type_eq.specs.Unplaced.{unplaced_type}
use Rattle.dm_reread.specs.Bare.{bare_assoc, bare_param_of, bare_method}
use Rattle.dm_reread.specs.ItemGrammar.{AreAssocs, IsParam, IsOutput}
use Rattle.dm_reread.specs.ReadBack.{leaf_grammar}
use Rattle.dm_reread.specs.TypeLeaves.{top, IsType}
use Rattle.dm_reread.proofs.TypeLeafUnplaced.{once_type}
use Rattle.dm_head_laws.specs.Parts.{inner, Each}
use Rattle.dm_head_laws.proofs.Flat.{flat_within, flat_range}
use Rattle.dm_head_laws.proofs.WordPaths.{Shallow, ArgumentsOf}
use Rattle.dm_head_laws.proofs.NamedTypes.{Written, written_then, written_absent, written_punct, TypeWritten, PathWritten, InnerWritten, written_path, written_type, written_plain, written_name_type, named_written}
use Rattle.dm_head_laws.proofs.DeclaredParts.{declared_names}
use Rattle.dm_derived_laws.proofs.WordsAlone.{ending_words}
use Rattle.dm_operators.specs.Operators.{Form, structural, scalar, unary, Operator}
use Rattle.dm_operators.specs.Attributes.{form_in}
use Rattle.dm_operators.specs.Meaning.{has_unit}
use Rattle.dm_bounds.specs.RightSide.{right_type}
use Rattle.dm_operators.specs.Heads.{result_of, binary_output, unary_output, output_type, assocs, own_output, returned, method_param, method_output}
use Rattle.dm_partial_eq.specs.Emitted.{method_with}

-- a path of fixed words, and a last one that may have arguments
pub written_ending : (w : Where) → Shallow w → Shallow (deeper w) → (ls : List (List ℕ)) → Each (λ l. IsTrue (is_path_word (word l))) ls → (i : Ident) →
    IsTrue (is_path_word i) →
    (a : ArgumentsTree) → ArgumentsOf (InnerWritten w) a →
    PathWritten (path_tree false (segments_of (plain_segments ls ++ segment i a ∷ []))) w
written_ending w h k ls e i n a g =
    written_path w h k (segments_of (plain_segments ls ++ segment i a ∷ [])) (ending_words (InnerWritten w) ls e i n a g)

-- ---- the types that emitted code has beside those of the declaration

pub self_written : (w : Where) → Shallow w → Shallow (deeper w) → (single : Bool) →
    Written (type_spelled (unplaced_type self_type) single w) (spell.type_trees (unplaced_type self_type)) no_trees
unfolding is_keyword
self_written w h k single =
    written_type w h k (plain_path (word (codes "Self") ∷ [])) nowhere single
    (written_path w h k (segments (word (codes "Self") ∷ [])) (refl, tt))

ref_self_written : TypeWritten ref_self top
ref_self_written =
    let own : Trees = spell.type_trees (unplaced_type self_type) in
    let s =
    written_then (written_punct top refl 38 own)
    (written_then (written_absent sees_lifetime own refl)
    (written_then (written_absent (sees_word (codes "mut")) own refl) (self_written inner refl refl true))) in
    record {
      marks = s.marks;
      spelled = record { part = record { fact = refl; part = s.spelled }; is_range = flat_range s.marks s.flat };
      flat = s.flat;
    }

pub right_written : (w : Where) → Shallow w → Shallow (deeper w) → TypeWritten right_type w
unfolding is_keyword
right_written w h k = written_name_type w h k (word (codes "__derive_more_Rhs")) refl

own_output_written : TypeWritten own_output top
unfolding is_keyword
own_output_written = written_plain top refl refl (word (codes "Self")) (word (codes "Output") ∷ []) (refl, (refl, tt))

bool_written : TypeWritten (name_type (word (codes "bool"))) top
unfolding is_keyword
bool_written = written_name_type top refl refl (word (codes "bool")) refl

-- derive_more::core::result::Result<T, derive_more::NAME>
abbrev fallible : TypeTree → List ℕ → TypeTree
fallible x l = result_of x (codes "derive_more" ∷ l ∷ [])

-- derive_more::NAME
abbrev error_type : List ℕ → TypeTree
error_type l = type_tree (path no_self (plain_path (words (codes "derive_more" ∷ l ∷ [])))) nowhere

abbrev fallible_arguments : TypeTree → List ℕ → ArgumentsTree
fallible_arguments x l = angle false (arguments_of (type_arg x ∷ type_arg (error_type l) ∷ [])) false

abbrev result_words : List (List ℕ)
result_words = codes "derive_more" ∷ codes "core" ∷ codes "result" ∷ []

abbrev fallible_path : TypeTree → List ℕ → PathTree
fallible_path x l =
    path_tree false (segments_of (plain_segments result_words ++ segment (word (codes "Result")) (fallible_arguments x l) ∷ []))

error_written : (l : List ℕ) → IsTrue (is_path_word (word l)) → TypeWritten (error_type l) inner
unfolding is_keyword
error_written l n = written_plain inner refl refl (word (codes "derive_more")) (word l ∷ []) (refl, (n, tt))

fallible_written : (x : TypeTree) (l : List ℕ) → TypeWritten x inner → IsTrue (is_path_word (word l)) → TypeWritten (fallible x l) top
unfolding is_keyword
fallible_written x l s n =
    written_type top refl refl (fallible_path x l) nowhere false
    (written_ending top refl refl result_words (refl, (refl, (refl, tt))) (word (codes "Result")) refl (fallible_arguments x l)
    (s, (error_written l n, tt)))

-- ---- types of the output language

-- those that their own tokens spell where nothing follows them
is_type : (x : TypeTree) → TypeWritten x top → IsType (unplaced_type x)
is_type x s =
    record {
      unplaced = once_type x;
      spelled = record {
        like = unplaced_type x;
        same = refl;
        single = false;
        place = top;
        trees = spell.type_trees (unplaced_type x);
        others = no_trees;
        marks = s.marks;
        spelled = s.spelled;
        within = flat_within s.marks s.flat;
      };
    }

either_type : (b : Bool) (x y : TypeTree) → IsType (unplaced_type x) → IsType (unplaced_type y) → IsType (unplaced_type (cond b x y))
either_type true x y h k = h
either_type false x y h k = k

self_is_type : IsType (unplaced_type self_type)
self_is_type = is_type self_type (self_written top refl refl false)

-- what the operator of two values gives
binary_type : (b : Bool) → IsType (unplaced_type (binary_output b))
unfolding is_keyword
binary_type true =
    is_type (fallible self_type (codes "BinaryError"))
    (fallible_written self_type (codes "BinaryError") (self_written inner refl refl false) refl)
binary_type false = self_is_type

-- ---- `PartialEq`: its parameter and its output

-- of `eq` and `ne`, with any body
pub comparison_types : (c : _) (b : BlockTree) →
    IsParam leaf_grammar (bare_method (method_with c b)).param × IsOutput leaf_grammar (bare_method (method_with c b)).output
unfolding is_keyword
comparison_types c b = ((refl, is_type ref_self ref_self_written), is_type (name_type (word (codes "bool"))) bool_written)

-- ---- operators

-- the parameter
pub operator_param : (form : Form) → IsParam leaf_grammar (option_map bare_param_of (method_param form))
unfolding is_keyword
operator_param structural = (refl, self_is_type)
operator_param scalar = (refl, is_type right_type (right_written top refl refl))
operator_param unary = tt

-- what isn't there, or of the grammar
either_assocs : (b : Bool) (x : TypeTree) → IsType (unplaced_type x) →
    AreAssocs leaf_grammar (map bare_assoc (cond b [] (record { name = word (codes "Output"); ty = x } ∷ [])))
unfolding is_keyword
either_assocs true x h = tt
either_assocs false x h = ((refl, h), tt)

either_output : (b : Bool) (x : TypeTree) → IsType (unplaced_type x) → IsOutput leaf_grammar (option_map unplaced_type (cond b None (Some x)))
either_output true x h = tt
either_output false x h = h

module _ (d : Declaration) (limit : ℕ) (ts : Trees) (m : Marks) (s : SpelledBy d limit ts m) (within : first_too_deep m ≡ None) where
  pub implementor_written : (w : Where) → Shallow w → Shallow (deeper w) → Shallow (deeper (deeper w)) → TypeWritten (implementor d) w
  implementor_written w h k l =
      let named = declared_names d limit ts m s within in named_written w h k l d.ident named.0 (params_of d) named.1

  -- what the operator of one value gives
  unary_type : IsType (unplaced_type (unary_output d))
  unfolding is_keyword
  unary_type =
      either_type (has_unit d) (fallible (implementor d) (codes "UnitError")) (implementor d)
      (is_type (fallible (implementor d) (codes "UnitError"))
      (fallible_written (implementor d) (codes "UnitError") (implementor_written inner refl refl refl) refl))
      (is_type (implementor d) (implementor_written top refl refl refl))

  output_is_type : (form : Form) → IsType (unplaced_type (output_type form d))
  output_is_type structural = binary_type (is_enum d)
  output_is_type scalar = self_is_type
  output_is_type unary = unary_type

  returned_is_type : (form : Form) → IsType (unplaced_type (returned form d))
  returned_is_type structural = is_type own_output own_output_written
  returned_is_type scalar = is_type own_output own_output_written
  returned_is_type unary = unary_type

  -- the associated type
  pub operator_assocs : (form : Form) (o : Operator) → AreAssocs leaf_grammar (map bare_assoc (assocs form o d))
  operator_assocs form o = either_assocs o.assigning (output_type form d) (output_is_type form)

  -- the output
  pub operator_output : (form : Form) (o : Operator) → IsOutput leaf_grammar (option_map unplaced_type (method_output form o d))
  operator_output form o = either_output o.assigning (returned form d) (returned_is_type form)

  -- all of them
  pub operator_types : (o : Operator) →
      AreAssocs leaf_grammar (map bare_assoc (assocs (form_in o d) o d)) ×
      IsParam leaf_grammar (option_map bare_param_of (method_param (form_in o d))) ×
      IsOutput leaf_grammar (option_map unplaced_type (method_output (form_in o d) o d))
  operator_types o = (operator_assocs (form_in o d) o, operator_param (form_in o d), operator_output (form_in o d) o)
