-- The readers of declarations, over the readers of their parts: what is read next is told by the first tokens.
use Rattle.std.specs.Prelude.{ℕ, Bool, true, false, not, if◌then◌else◌, List, codes, Option, Some, None, Result, Ok, Err}
use Rattle.dm_stream.specs.declared.seq.Punctuated.{Punctuated}
use Rattle.dm_stream.specs.declared.tokens.Span.{Span}
use Rattle.dm_stream.specs.declared.tokens.Delim.TheVariants.{Paren, Brace}
use Rattle.dm_stream.specs.declared.tokens.Ident.{Ident}
use Rattle.dm_stream.specs.declared.tokens.Lifetime.{Lifetime}
use Rattle.dm_stream.specs.declared.error.Refusal.{Refusal}
use Rattle.dm_stream.specs.Trees.{Trees, no_trees}
use Rattle.dm_ast.specs.declared.plain.Attribute.{Attribute}
use Rattle.dm_ast.specs.declared.plain.Vis.{Vis}
use Rattle.dm_ast.specs.declared.plain.Opaque.{Opaque}
use Rattle.dm_ast.specs.declared.plain.ConstArg.{ConstArg}
use Rattle.dm_ast.specs.Tree.{Lifetimes, TypeTree, BoundTree}
use Rattle.dm_ast.specs.Declarations.{Listed, FieldTree, FieldsTree, named, unnamed, unit, VariantTree, ShapeTree, struct_shape, enum_shape, union_shape, ParamTree, lifetime_param, type_param, const_param, PredicateTree, lifetime_predicate, type_predicate, GenericsTree, Declaration}
use Rattle.dm_ast.specs.Keywords.{is_name}
use Rattle.dm_ast.specs.Spelling.{Where, at_end, sees, sees_group, sees_lifetime, sees_word, sees_colon, sees_equals, is_word}
use Rattle.dm_ast.specs.TypeGrammar.{ends_bounds}
use Rattle.dm_ast.specs.DeclarationGrammar.{no_params, ends_where}
use Rattle.dm_ast.specs.Readers.{Outcome, Parser, and_then, ◌and◌, ◌next◌, ◌till◌, ◌gives◌, read_ident, read_lifetime, read_punct, read_word, read_colon, read_equals, read_group, ended, read_perhaps, read_list, ranged}
use Rattle.dm_ast.specs.PlainReaders.{read_attributes, read_angles, punctuated, read_for, read_constant, read_visibility}

-- the readers of the parts of a declaration
pub record Parts : Type 0 where
  pub types : Where → Parser TypeTree
  pub bounds : Where → Parser (Listed BoundTree)
  pub attributes : Where → Parser (List Attribute)
  pub visibility : Where → Parser (Option Vis)
  pub lifetimes : Where → Parser Lifetimes
  pub constant : Where → Parser ConstArg
  pub run : Where → Parser Opaque

abbrev pub read_name : Where → Parser Ident
read_name = read_ident is_name

-- the range of a word
abbrev pub read_word_at : List ℕ → Where → Parser Span
read_word_at word w = read_ident (is_word word) w gives (λ i. i.span)

abbrev pub to_listed : {A : Type 0} → List A × Bool → Listed A
to_listed r = record { items = r.0; trailing = r.1 }

-- items with a comma between
abbrev pub read_listed : {A : Type 0} → (Trees → Bool) → (Where → Parser A) → Where → Parser (Listed A)
read_listed ends item w = read_list w 44 ends (item w) gives to_listed

-- bounds with `+` between, by the reader of one
abbrev pub read_bound_list : (Where → Parser BoundTree) → Where → Parser (Listed BoundTree)
read_bound_list one w = read_list w 43 ends_bounds (one w) gives to_listed

-- those parts that hold no types are read in one way
abbrev pub parts_of : (Where → Parser TypeTree) → (Where → Parser BoundTree) → (Where → Parser Opaque) → Parts
parts_of types one run =
    record {
      types = types;
      bounds = read_bound_list one;
      attributes = read_attributes;
      visibility = read_visibility;
      lifetimes = read_for;
      constant = read_constant;
      run = run;
    }

abbrev pub ends_lifetimes : Trees → Bool
ends_lifetimes ts = not (sees_lifetime ts)

abbrev pub read_lifetime_bounds : Where → Parser (Punctuated Lifetime)
read_lifetime_bounds w = read_list w 43 ends_lifetimes (read_lifetime w) gives punctuated

abbrev pub to_params : Option (Listed ParamTree) → Bool × Listed ParamTree
to_params None = (false, no_params)
to_params (Some ps) = (true, ps)

-- ---- what is made of the parts

abbrev pub to_field : (List Attribute × (Option Vis × (Ident × TypeTree))) × Span → FieldTree
to_field v = record { attrs = v.0.0; vis = v.0.1.0; ident = Some v.0.1.1.0; ty = v.0.1.1.1; span = v.1 }

abbrev pub to_slot : (List Attribute × (Option Vis × TypeTree)) × Span → FieldTree
to_slot v = record { attrs = v.0.0; vis = v.0.1.0; ident = None; ty = v.0.1.1; span = v.1 }

abbrev pub to_variant : (List Attribute × (Option Vis × (Ident × (FieldsTree × Option Opaque)))) × Span → VariantTree
to_variant v =
    record { attrs = v.0.0; vis = v.0.1.0; ident = v.0.1.1.0; fields = v.0.1.1.1.0; discriminant = v.0.1.1.1.1; span = v.1 }

-- a shape with the name and the generics
abbrev pub Shaped : Type 0
Shaped = ShapeTree × (Ident × GenericsTree)

abbrev pub to_struct : Span × (Ident × ((Bool × Listed ParamTree) × (FieldsTree × Option (Listed PredicateTree)))) → Shaped
to_struct v = (struct_shape v.0 v.1.1.1.0, (v.1.0, record { angled = v.1.1.0.0; params = v.1.1.0.1; where_clause = v.1.1.1.1 }))

abbrev pub to_braced : {A : Type 0} → (Span → A → ShapeTree) → Span × (Ident × ((Bool × Listed ParamTree) × (Option (Listed PredicateTree) × A))) → Shaped
to_braced build v = (build v.0 v.1.1.1.1, (v.1.0, record { angled = v.1.1.0.0; params = v.1.1.0.1; where_clause = v.1.1.1.0 }))

abbrev pub to_declaration : List Attribute × (Option Vis × Shaped) → Declaration
to_declaration v = record { attrs = v.0; vis = v.1.0; ident = v.1.1.1.0; generics = v.1.1.1.1; shape = v.1.1.0 }

abbrev pub value_of : {A : Type 0} → Outcome A → Result A Refusal
value_of (Ok r) = Ok r.0
value_of (Err r) = Err r

module _ (p : Parts) where
  -- ---- generics

  abbrev pub read_lifetime_param : List Attribute → Where → Parser ParamTree
  read_lifetime_param attrs w =
      (read_lifetime w and read_perhaps sees_colon (read_colon w next read_lifetime_bounds w)) gives (λ v. lifetime_param attrs v.0 v.1)

  abbrev pub read_const_param : List Attribute → Where → Parser ParamTree
  read_const_param attrs w =
      (read_word (codes "const") w next (read_name w and (read_colon w next (p.types w and read_perhaps sees_equals (read_equals w next p.constant w)))))
      gives (λ v. const_param attrs v.0 v.1.0 v.1.1)

  abbrev pub read_type_param : List Attribute → Where → Parser ParamTree
  read_type_param attrs w =
      (read_name w and (read_perhaps sees_colon (read_colon w next p.bounds w) and read_perhaps sees_equals (read_equals w next p.types w)))
      gives (λ v. type_param attrs v.0 v.1.0 v.1.1)

  -- a parameter behind its attributes
  abbrev pub read_param_behind : List Attribute → Where → Parser ParamTree
  read_param_behind attrs w ts =
      if sees_lifetime ts then read_lifetime_param attrs w ts
      else if sees_word (codes "const") ts then read_const_param attrs w ts
      else read_type_param attrs w ts

  abbrev pub read_param : Where → Parser ParamTree
  read_param w ts = and_then (p.attributes w ts) (λ attrs. read_param_behind attrs w)

  -- whether `<` and `>` stand there, and the parameters
  abbrev pub read_generics : Where → Parser (Bool × Listed ParamTree)
  read_generics w = read_perhaps (sees 60) (read_angles (read_listed (sees 62) read_param) w) gives to_params

  -- ---- predicates

  abbrev pub read_lifetime_predicate : Where → Parser PredicateTree
  read_lifetime_predicate w = (read_lifetime w and (read_colon w next read_lifetime_bounds w)) gives (λ v. lifetime_predicate v.0 v.1)

  abbrev pub read_type_predicate : Where → Parser PredicateTree
  read_type_predicate w =
      (p.lifetimes w and (p.types w and (read_colon w next p.bounds w))) gives (λ v. type_predicate v.0 v.1.0 v.1.1)

  abbrev pub read_predicate : Where → Parser PredicateTree
  read_predicate w ts = if sees_lifetime ts then read_lifetime_predicate w ts else read_type_predicate w ts

  abbrev pub read_where : Where → Parser (Option (Listed PredicateTree))
  read_where w = read_perhaps (sees_word (codes "where")) (read_word (codes "where") w next read_listed ends_where read_predicate w)

  -- ---- fields and variants

  abbrev pub read_field : Where → Parser FieldTree
  read_field w =
      ranged (p.attributes w and (p.visibility w and ((read_name w till read_colon w) and p.types w)))
      gives to_field

  abbrev pub read_slot : Where → Parser FieldTree
  read_slot w =
      ranged (p.attributes w and (p.visibility w and p.types w))
      gives to_slot

  -- `{..}` with names, and `(..)` without
  abbrev pub read_fields : Where → Parser (Listed FieldTree)
  read_fields = read_group Brace (read_listed at_end read_field)

  abbrev pub read_slots : Where → Parser (Listed FieldTree)
  read_slots = read_group Paren (read_listed at_end read_slot)

  abbrev pub read_variant_fields : Where → Parser FieldsTree
  read_variant_fields w ts =
      if sees_group Brace ts then (read_fields w gives named) ts
      else if sees_group Paren ts then (read_slots w gives unnamed) ts
      else Ok (unit, ts)

  abbrev pub read_discriminant : Where → Parser (Option Opaque)
  read_discriminant w = read_perhaps sees_equals (read_equals w next p.run w)

  abbrev pub read_variant : Where → Parser VariantTree
  read_variant w =
      ranged (p.attributes w and (p.visibility w and (read_name w and (read_variant_fields w and read_discriminant w))))
      gives to_variant

  abbrev pub read_variants : Where → Parser (Listed VariantTree)
  read_variants = read_group Brace (read_listed at_end read_variant)

  -- ---- the three shapes

  -- fields in braces, or the `;` of a struct without fields
  abbrev pub read_named_or_unit : Where → Parser FieldsTree
  read_named_or_unit w ts = if sees_group Brace ts then (read_fields w gives named) ts else (read_punct 59 w gives (λ _. unit)) ts

  -- what follows the generics of a struct
  abbrev pub read_struct_body : Where → Parser (FieldsTree × Option (Listed PredicateTree))
  read_struct_body w ts =
      if sees_group Paren ts then ((read_slots w and (read_where w till read_punct 59 w)) gives (λ v. (unnamed v.0, v.1))) ts
      else ((read_where w and read_named_or_unit w) gives (λ v. (v.1, v.0))) ts

  abbrev pub read_struct : Where → Parser Shaped
  read_struct w = (read_word_at (codes "struct") w and (read_name w and (read_generics w and read_struct_body w))) gives to_struct

  -- an enum or a union, with its body in braces
  abbrev pub read_braced : {A : Type 0} → List ℕ → (Where → Parser A) → (Span → A → ShapeTree) → Where → Parser Shaped
  read_braced word body build w =
      (read_word_at word w and (read_name w and (read_generics w and (read_where w and body w)))) gives to_braced build

  abbrev pub read_shape : Where → Parser Shaped
  read_shape w ts =
      if sees_word (codes "struct") ts then read_struct w ts
      else if sees_word (codes "enum") ts then read_braced (codes "enum") read_variants enum_shape w ts
      else read_braced (codes "union") read_fields union_shape w ts

  -- ---- the whole declaration

  abbrev pub read_front : Where → Parser Declaration
  read_front w = (p.attributes w and (p.visibility w and read_shape w)) gives to_declaration

  -- trees whose list ends at `limit`, read whole
  abbrev pub read_declaration : ℕ → Trees → Result Declaration Refusal
  read_declaration limit ts =
      value_of (and_then (read_front (record { level = 0; limit = limit }) ts) (ended (record { level = 0; limit = limit }) no_trees))
