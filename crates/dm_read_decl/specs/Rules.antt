-- Names for the inner readers of a declaration, over the readers of its parts that the program has.
use Rattle.std.specs.Prelude.{ℕ, Bool, List, codes, Option}
use Rattle.dm_stream.specs.declared.seq.Punctuated.{Punctuated}
use Rattle.dm_stream.specs.declared.tokens.Span.{Span}
use Rattle.dm_stream.specs.declared.tokens.Delim.{Delim}
use Rattle.dm_stream.specs.declared.tokens.Delim.TheVariants.{Brace}
use Rattle.dm_stream.specs.declared.tokens.Ident.{Ident}
use Rattle.dm_stream.specs.declared.tokens.Lifetime.{Lifetime}
use Rattle.dm_ast.specs.declared.plain.Attribute.{Attribute}
use Rattle.dm_ast.specs.declared.plain.Vis.{Vis}
use Rattle.dm_ast.specs.declared.plain.Opaque.{Opaque}
use Rattle.dm_ast.specs.declared.plain.ConstArg.{ConstArg}
use Rattle.dm_ast.specs.Tree.{Lifetimes, TypeTree, BoundTree}
use Rattle.dm_ast.specs.Declarations.{Listed, FieldTree, FieldsTree, ParamTree, PredicateTree}
use Rattle.dm_ast.specs.Spelling.{Where, deeper, at_end, sees, sees_colon, sees_equals}
use Rattle.dm_ast.specs.DeclarationGrammar.{ends_where}
use Rattle.dm_ast.specs.Readers.{Parser, ◌and◌, ◌next◌, ◌till◌, read_lifetime, read_punct, read_word, read_colon, read_equals, read_group, read_perhaps}
use Rattle.dm_ast.specs.PlainReaders.{read_attributes, read_visibility, read_constant, read_for}
use Rattle.dm_ast.specs.Runs.{read_run}
use Rattle.dm_read.specs.DeclarationReaders as spec
use Rattle.dm_read.specs.DeclarationReaders.{read_name, read_word_at, read_listed, read_bound_list, read_lifetime_bounds}
use Rattle.dm_read_paths.specs.WholeReaders.{whole_type, whole_bound, parts}

-- ---- forms

-- a part behind its visibility
abbrev pub visible : {A : Type 0} → (Where → Parser A) → Where → Parser (Option Vis × A)
visible inner w = read_visibility w and inner w

-- a part behind its attributes and its visibility
abbrev pub marked : {A : Type 0} → (Where → Parser A) → Where → Parser (List Attribute × (Option Vis × A))
marked inner w = read_attributes w and visible inner w

-- parts in a group, with commas between
abbrev pub enclosed : {A : Type 0} → Delim → (Where → Parser A) → Where → Parser (Listed A)
enclosed d item = read_group d (read_listed at_end item)

-- ---- parameters

abbrev pub read_some_outlived : Where → Parser (Punctuated Lifetime)
read_some_outlived w = read_colon w next read_lifetime_bounds w

abbrev pub read_outlived : Where → Parser Lifetimes
read_outlived w = read_perhaps sees_colon (read_some_outlived w)

abbrev pub read_lifetime_parts : Where → Parser (Lifetime × Lifetimes)
read_lifetime_parts w = read_lifetime w and read_outlived w

abbrev pub read_some_value : Where → Parser ConstArg
read_some_value w = read_equals w next read_constant w

abbrev pub read_value : Where → Parser (Option ConstArg)
read_value w = read_perhaps sees_equals (read_some_value w)

abbrev pub read_type_value : Where → Parser (TypeTree × Option ConstArg)
read_type_value w = whole_type w and read_value w

abbrev pub read_typed_value : Where → Parser (TypeTree × Option ConstArg)
read_typed_value w = read_colon w next read_type_value w

abbrev pub read_named_value : Where → Parser (Ident × (TypeTree × Option ConstArg))
read_named_value w = read_name w and read_typed_value w

abbrev pub read_const_parts : Where → Parser (Ident × (TypeTree × Option ConstArg))
read_const_parts w = read_word (codes "const") w next read_named_value w

abbrev pub read_some_bounds : Where → Parser (Listed BoundTree)
read_some_bounds w = read_colon w next read_bound_list whole_bound w

abbrev pub read_bounds : Where → Parser (Option (Listed BoundTree))
read_bounds w = read_perhaps sees_colon (read_some_bounds w)

abbrev pub read_some_default : Where → Parser TypeTree
read_some_default w = read_equals w next whole_type w

abbrev pub read_default : Where → Parser (Option TypeTree)
read_default w = read_perhaps sees_equals (read_some_default w)

abbrev pub read_bounds_default : Where → Parser (Option (Listed BoundTree) × Option TypeTree)
read_bounds_default w = read_bounds w and read_default w

abbrev pub read_type_parts : Where → Parser (Ident × (Option (Listed BoundTree) × Option TypeTree))
read_type_parts w = read_name w and read_bounds_default w

-- ---- generics

abbrev pub read_params : Where → Parser (Listed ParamTree)
read_params = read_listed (sees 62) (spec.read_param parts)

abbrev pub read_deep_params : Where → Parser (Listed ParamTree)
read_deep_params w = read_params (deeper w)

abbrev pub read_till_angle : Where → Parser (Listed ParamTree)
read_till_angle w = read_deep_params w till read_punct 62 w

abbrev pub read_angled : Where → Parser (Listed ParamTree)
read_angled w = read_punct 60 w next read_till_angle w

abbrev pub read_outlives_parts : Where → Parser (Lifetime × Punctuated Lifetime)
read_outlives_parts w = read_lifetime w and read_some_outlived w

abbrev pub read_bounded : Where → Parser (TypeTree × Listed BoundTree)
read_bounded w = whole_type w and read_some_bounds w

abbrev pub read_predicate_parts : Where → Parser (Lifetimes × (TypeTree × Listed BoundTree))
read_predicate_parts w = read_for w and read_bounded w

abbrev pub read_predicates : Where → Parser (Listed PredicateTree)
read_predicates = read_listed ends_where (spec.read_predicate parts)

abbrev pub read_some_where : Where → Parser (Listed PredicateTree)
read_some_where w = read_word (codes "where") w next read_predicates w

-- ---- fields and variants

abbrev pub read_field_name : Where → Parser Ident
read_field_name w = read_name w till read_colon w

abbrev pub read_named_type : Where → Parser (Ident × TypeTree)
read_named_type w = read_field_name w and whole_type w

abbrev pub read_some_discriminant : Where → Parser Opaque
read_some_discriminant w = read_equals w next read_run w

abbrev pub read_body : Where → Parser (FieldsTree × Option Opaque)
read_body w = spec.read_variant_fields parts w and spec.read_discriminant parts w

abbrev pub read_named_body : Where → Parser (Ident × (FieldsTree × Option Opaque))
read_named_body w = read_name w and read_body w

-- ---- structs, enums and unions

abbrev pub read_ended_where : Where → Parser (Option (Listed PredicateTree))
read_ended_where w = spec.read_where parts w till read_punct 59 w

abbrev pub read_slots_body : Where → Parser (Listed FieldTree × Option (Listed PredicateTree))
read_slots_body w = spec.read_slots parts w and read_ended_where w

abbrev pub read_other_body : Where → Parser (Option (Listed PredicateTree) × FieldsTree)
read_other_body w = spec.read_where parts w and spec.read_named_or_unit parts w

-- a `where` clause, and parts in braces
abbrev pub read_braces : {A : Type 0} → (Where → Parser A) → Where → Parser (Option (Listed PredicateTree) × Listed A)
read_braces item w = spec.read_where parts w and enclosed Brace item w

abbrev pub behind_name : {A : Type 0} → (Where → Parser A) → Where → Parser ((Bool × Listed ParamTree) × A)
behind_name body w = spec.read_generics parts w and body w

abbrev pub behind_word : {A : Type 0} → (Where → Parser A) → Where → Parser (Ident × ((Bool × Listed ParamTree) × A))
behind_word body w = read_name w and behind_name body w

-- a word, a name, generics, and what follows them
abbrev pub headed : {A : Type 0} → List ℕ → (Where → Parser A) → Where → Parser (Span × (Ident × ((Bool × Listed ParamTree) × A)))
headed word body w = read_word_at word w and behind_word body w
