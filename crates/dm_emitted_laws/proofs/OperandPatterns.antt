-- Operands of one case: what their fields are called are names, and their patterns without ranges are patterns of the grammar.
use Rattle.std.proofs.Common.{◌≡◌, ℕ, ◌+◌, Bool, true, false, cond, List, [], ◌∷◌, ◌++◌, IsTrue, codes, refl}
use Rattle.dm_stream.specs.declared.tokens.Ident.{Ident}
use Rattle.dm_ast.specs.Keywords.{is_keyword}
use Rattle.dm_ast.specs.TypeGrammar.{is_path_word}
use Rattle.dm_ast.specs.Tree.{PathTree}
use Rattle.dm_ast.specs.Declarations.{Declaration}
use Rattle.dm_ast.specs.Implementors.{segments, plain_path}
use Rattle.dm_output.specs.Output.{PatternTree, patterns_of, named_of}
use Rattle.dm_output.specs.Values.{Text, is_enum}
use Rattle.dm_generics.specs.Words.{word}
use Rattle.dm_generics.specs.Numerals.{numeral}
use Rattle.dm_type_eq.specs.Unplaced.{unplaced_path, unplaced_segments}
use Rattle.dm_reread.specs.Bare.{bare_pattern, bare_patterns, bare_named}
use Rattle.dm_reread.specs.Grammar.{IsName, ArePlain, IsPlainPath, is_single, IsPattern, ArePatterns, AreNamedPatterns}
use Rattle.dm_reread.proofs.Words.{name-path}
use Rattle.dm_operands.specs.declared.cases.Form.{Form}
use Rattle.dm_operands.specs.declared.cases.Form.TheVariants as forms
use Rattle.dm_operands.specs.Marked.{MarkedField, MarkedCase}
use Rattle.dm_operands.specs.Sides.{binding, bindings, field_ident, named_bindings, side_pattern, side}
use Rattle.dm_operands.specs.Numbered.{self_name, other_name, right_name, inner_name}
use Rattle.dm_head_laws.specs.Parts.{Each}
use Rattle.dm_emitted_laws.specs.Ready.{CaseReady}

-- ---- numbered names

-- no keyword begins with `__`, and neither does `_`
pub underscored_name : (x : Text) → IsName (word (codes "__" ++ x))
unfolding is_keyword
underscored_name x = refl

-- what fields are called by their numbers
abbrev pub AreNames : (ℕ → Text) → Type 0
AreNames naming = (n : ℕ) → IsName (word (naming n))

pub self_names : AreNames self_name
self_names n = underscored_name (codes "self_" ++ numeral n)

pub other_names : AreNames other_name
other_names n = underscored_name (codes "other_" ++ numeral n)

pub right_names : AreNames right_name
right_names n = underscored_name (codes "rhs_" ++ numeral n)

pub inner_names : AreNames inner_name
inner_names n = underscored_name (numeral n)

-- ---- paths of words

pub plain_words : (is : List Ident) → Each (λ i. IsTrue (is_path_word i)) is → ArePlain (unplaced_segments (segments is))
plain_words [] h = tt
plain_words (i ∷ is) h = (h.0, plain_words is h.1)

pub plain_path_of : (i : Ident) (is : List Ident) → Each (λ j. IsTrue (is_path_word j)) (i ∷ is) →
    IsPlainPath (unplaced_path (plain_path (i ∷ is)))
plain_path_of i is h = (tt, plain_words (i ∷ is) h)

pub self_word : IsTrue (is_path_word (word (codes "self")))
unfolding is_keyword
self_word = refl

-- `Self` is a word of a path, but no name
pub type_word : IsTrue (is_path_word (word (codes "Self")))
unfolding is_keyword
type_word = refl

type_binds_nothing : is_single (unplaced_path (plain_path (word (codes "Self") ∷ []))) ≡ false
unfolding is_keyword
type_binds_nothing = refl

-- the path of a pattern, which is no name alone
abbrev pub IsCasePath : PathTree → Type 0
IsCasePath p = IsPlainPath (unplaced_path p) × (is_single (unplaced_path p) ≡ false)

-- `Self::V`, or `Self`
pub case_path_plain : (enum : Bool) (i : Ident) → IsName i →
    IsCasePath (cond enum (plain_path (word (codes "Self") ∷ i ∷ [])) (plain_path (word (codes "Self") ∷ [])))
case_path_plain true i h = (plain_path_of (word (codes "Self")) (i ∷ []) (type_word, (name-path i h, tt)), refl)
case_path_plain false i h = (plain_path_of (word (codes "Self")) [] (type_word, tt), type_binds_nothing)

-- ---- the fields

binding_pattern : (skip : Bool) (x : Text) → IsName (word x) → IsPattern (bare_pattern (binding skip x))
binding_pattern true x h = tt
binding_pattern false x h = h

named_if : (skip : Bool) (i : Ident) (p : PatternTree) (ps : List (Ident × PatternTree)) → IsName i → IsPattern (bare_pattern p) →
    AreNamedPatterns (bare_named (named_of ps)) → AreNamedPatterns (bare_named (named_of (cond skip ps ((i, p) ∷ ps))))
named_if true i p ps h k m = m
named_if false i p ps h k m = (h, (k, m))

-- the declared name of a field
abbrev pub FieldReady : MarkedField → Type 0
FieldReady f = IsName (field_ident f.field.ident)

module _ (naming : ℕ → Text) (names : AreNames naming) where
  pub bindings_patterns : (n : ℕ) (fs : List MarkedField) → ArePatterns (bare_patterns (patterns_of (bindings naming n fs)))
  bindings_patterns n [] = tt
  bindings_patterns n (f ∷ fs) = (binding_pattern f.left_out (naming n) (names n), bindings_patterns (n + 1) fs)

  pub named_bindings_patterns : (n : ℕ) (fs : List MarkedField) → Each FieldReady fs →
      AreNamedPatterns (bare_named (named_of (named_bindings naming n fs)))
  named_bindings_patterns n [] h = tt
  named_bindings_patterns n (f ∷ fs) h =
      named_if f.left_out (field_ident f.field.ident) _ (named_bindings naming (n + 1) fs) h.0 (names n)
      (named_bindings_patterns (n + 1) fs h.1)

  -- ---- an operand

  pub side_pattern_of : (p : PathTree) → IsCasePath p → (form : Form) (fs : List MarkedField) → (form ≡ forms.Named → Each FieldReady fs) →
      IsPattern (bare_pattern (side_pattern naming p form fs))
  side_pattern_of p h forms.Named fs k = (h.0, named_bindings_patterns 0 fs (k refl))
  side_pattern_of p h forms.Unnamed fs k = (h.0, bindings_patterns 0 fs)
  side_pattern_of p h forms.Unit fs k = h

  pub side_is_pattern : (d : Declaration) (c : MarkedCase) → CaseReady c → IsPattern (bare_pattern (side naming d c))
  side_is_pattern d c h = side_pattern_of _ (case_path_plain (is_enum d) c.ident h.ident) c.form c.fields h.named
