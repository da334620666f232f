-- Names, constructors and patterns: what a name is bound to, which variant a path names, and what a pattern binds.
use Rattle.std.specs.Prelude.{ℕ, ℤ, pos, negsuc, zero, suc, ◌+◌, List, [], ◌∷◌, length, Bool, true, false, not, cond, ◌&&◌, ◌||◌, eqb, nat_eq, Option, Some, None, codes, slice_get, option_and_then, option_map}
use Rattle.std.specs.Str.{bytes_eq}
use Rattle.dm_stream.specs.declared.tokens.Ident.{Ident}
use Rattle.dm_lexer.specs.Values.{str_value}
use Rattle.dm_ast.specs.Tree.{PathTree, path_tree, segment, SegmentTrees, no_segments, segment_then, absent, MaybeSelf, no_self, some_self}
use Rattle.dm_ast.specs.Declarations.{Declaration, FieldTree, FieldsTree, named, unnamed, unit}
use Rattle.dm_output.specs.declared.pattern.Binding.TheVariants as binding
use Rattle.dm_output.specs.Output.{PatternTree, wild, bind, str_pattern, path_pattern, tuple_pattern, named_pattern, pair_pattern, PatternTrees, no_patterns, pattern_then, NamedPatterns, no_named, named_then}
use Rattle.dm_output.specs.Values.{Text, Origin, of_side, another, Thing, number, text, input_text, value, place, tuple_of, Things, no_things, thing_then, Case, cases, is_enum}

-- ---- names

-- what the names of receivers, parameters, patterns and `let` are bound to, the last bound first; and the numbers of constants
pub record Env : Type 0 where
  pub names : List (Text × Thing)
  pub constants : List (Text × ℤ)

-- without constants
abbrev pub plain : List (Text × Thing) → Env
plain names = record { names = names; constants = [] }

abbrev pub with_name : Text → Thing → Env → Env
with_name name x env = record { names = (name, x) ∷ env.names; constants = env.constants }

abbrev pub with_constant : Text → ℤ → Env → Env
with_constant name n env = record { names = env.names; constants = (name, n) ∷ env.constants }

abbrev pub found : {A : Type 0} → List (Text × A) → Text → Option A
found [] name = None
found (b ∷ rest) name = cond (bytes_eq name b.0) (Some b.1) (found rest name)

abbrev pub or_number : Option Thing → Option ℤ → Option Thing
or_number (Some x) o = Some x
or_number None o = option_map number o

-- what a name is bound to
abbrev pub bound : Env → Text → Option Thing
bound env name = or_number (found env.names name) (found env.constants name)

-- ---- paths

-- the names of a path without `::` in front and without arguments
abbrev pub segment_names : SegmentTrees → Option (List Text)
segment_names no_segments = Some []
segment_names (segment_then (segment i absent) ss) = option_map (λ names. i.name ∷ names) (segment_names ss)
segment_names (segment_then (segment i _) ss) = None

abbrev pub path_names : PathTree → Option (List Text)
path_names (path_tree true ss) = None
path_names (path_tree false ss) = segment_names ss

abbrev pub expr_names : MaybeSelf → PathTree → Option (List Text)
expr_names no_self p = path_names p
expr_names (some_self t n) p = None

abbrev pub case_named : List Case → ℕ → Text → Option ℕ
case_named [] n name = None
case_named (c ∷ cs) n name = cond (bytes_eq name c.ident.name) (Some n) (case_named cs (n + 1) name)

-- `Self`, or the name of the type
abbrev pub names_type : Declaration → Text → Bool
names_type d a = bytes_eq a (codes "Self") || bytes_eq a d.ident.name

-- the number of the struct, or of the variant, that these names are
abbrev pub constructor : Declaration → List Text → Option ℕ
constructor d [] = None
constructor d (a ∷ []) = cond (names_type d a && not (is_enum d)) (Some 0) None
constructor d (a ∷ b ∷ []) = cond (names_type d a && is_enum d) (case_named (cases d) 0 b) None
constructor d (a ∷ b ∷ c ∷ more) = None

abbrev pub path_case : Declaration → PathTree → Option ℕ
path_case d p = option_and_then (constructor d) (path_names p)

abbrev pub names_eq : List Text → List Text → Bool
names_eq [] [] = true
names_eq [] (b ∷ bs) = false
names_eq (a ∷ as') [] = false
names_eq (a ∷ as') (b ∷ bs) = bytes_eq a b && names_eq as' bs

-- ---- fields

-- the declared fields of a variant, between parentheses or between braces
abbrev pub paren_fields : FieldsTree → Option (List FieldTree)
paren_fields (unnamed fs) = Some fs.items
paren_fields (named fs) = None
paren_fields unit = None

abbrev pub brace_fields : FieldsTree → Option (List FieldTree)
brace_fields (named fs) = Some fs.items
brace_fields (unnamed fs) = None
brace_fields unit = None

-- a unit has no fields, also between braces
abbrev pub pattern_fields : FieldsTree → Option (List FieldTree)
pattern_fields (named fs) = Some fs.items
pattern_fields (unnamed fs) = None
pattern_fields unit = Some []

abbrev pub unit_fields : FieldsTree → Option (List FieldTree)
unit_fields (named fs) = None
unit_fields (unnamed fs) = None
unit_fields unit = Some []

abbrev pub fields_of_case : (FieldsTree → Option (List FieldTree)) → Declaration → Option ℕ → Option (List FieldTree)
fields_of_case kind d None = None
fields_of_case kind d (Some n) = option_and_then (λ (c : Case). kind c.fields) (slice_get (cases d) n)

-- a list with so many items, or none
abbrev pub of_length : ℕ → Option (List FieldTree) → Option (List FieldTree)
of_length n None = None
of_length n (Some fs) = cond (eqb n (length fs)) (Some fs) None

-- the number of the field of that name
abbrev pub same_name : Text → Option Ident → Bool
same_name name None = false
same_name name (Some i) = bytes_eq name i.name

abbrev pub field_named : List FieldTree → ℕ → Text → Option ℕ
field_named [] n name = None
field_named (f ∷ fs) n name = cond (same_name name f.ident) (Some n) (field_named fs (n + 1) name)

abbrev pub nth : Things → ℕ → Option Thing
nth no_things n = None
nth (thing_then x xs) zero = Some x
nth (thing_then x xs) (suc n) = nth xs n

-- field n of a value: a place of its side, or its term
abbrev pub part_of : Origin → ℕ → Things → Option Thing
part_of (of_side s) n xs = Some (place s n)
part_of another n xs = nth xs n

-- ---- patterns

abbrev pub text_of : Thing → Option Text
text_of (text t) = Some t
text_of (input_text t lower) = Some t
text_of _ = None

abbrev pub is_number : ℤ → ℤ → Bool
is_number (pos n) (pos m) = nat_eq n m
is_number (negsuc n) (negsuc m) = nat_eq n m
is_number _ _ = false

-- a value of a variant: whose it is, and its fields
abbrev pub as_value : Thing → Option (Origin × (ℕ × Things))
as_value (value o n xs) = Some (o, (n, xs))
as_value _ = None

abbrev pub as_pair : Thing → Option (Thing × Thing)
as_pair (tuple_of (thing_then x (thing_then y no_things))) = Some (x, y)
as_pair _ = None

-- whose a value of the variant n is, and its fields
abbrev pub fields_in : Option ℕ → Option (Origin × (ℕ × Things)) → Option (Origin × Things)
fields_in None v = None
fields_in (Some n) None = None
fields_in (Some n) (Some v) = cond (eqb n v.1.0) (Some (v.0, v.1.1)) None

abbrev pub count_patterns : PatternTrees → ℕ
count_patterns no_patterns = 0
count_patterns (pattern_then p ps) = suc (count_patterns ps)

abbrev pub count_named : NamedPatterns → ℕ
count_named no_named = 0
count_named (named_then i p ps) = suc (count_named ps)

abbrev pub given_if : {A : Type 0} → Bool → A → Option A
given_if b x = cond b (Some x) None

-- a constant fits its number
abbrev pub fits_number : ℤ → Thing → Env → Option Env
fits_number n (number m) env = given_if (is_number n m) env
fits_number n _ env = None

-- a name binds, where it is no constant
abbrev pub fits_name : Option ℤ → Text → Thing → Env → Option Env
fits_name None name x env = Some (with_name name x env)
fits_name (Some n) name x env = fits_number n x env

-- a string fits an equal text
abbrev pub fits_text : Option Text → Option Text → Env → Option Env
fits_text (Some a) (Some b) env = given_if (bytes_eq a b) env
fits_text _ _ env = None

-- what a pattern binds, or none where it doesn't fit
abbrev mutual
  pub fits : Declaration → PatternTree → Thing → Env → Option Env
  fits d wild x env = Some env
  fits d (bind binding.Plain name) x env = fits_name (found env.constants name.name) name.name x env
  fits d (bind how name) x env = Some (with_name name.name x env)
  fits d (str_pattern l) x env = fits_text (str_value l.kind l.text) (text_of x) env
  fits d (path_pattern p) x env =
      option_and_then (λ v. option_map (λ fs. env) (fields_of_case unit_fields d (path_case d p))) (fields_in (path_case d p) (as_value x))
  fits d (tuple_pattern p ps) x env =
      option_and_then
      (λ v. option_and_then (λ fs. fits_fields d ps v.0 v.1 0 env) (of_length (count_patterns ps) (fields_of_case paren_fields d (path_case d p))))
      (fields_in (path_case d p) (as_value x))
  fits d (named_pattern p ps rest) x env =
      option_and_then
      (λ v. option_and_then (λ fs. fits_named d ps fs v.0 v.1 env) (cond rest (fields_of_case pattern_fields d (path_case d p)) (of_length (count_named ps) (fields_of_case pattern_fields d (path_case d p)))))
      (fields_in (path_case d p) (as_value x))
  fits d (pair_pattern a b) x env = option_and_then (λ p. option_and_then (fits d b p.1) (fits d a p.0 env)) (as_pair x)

  -- the fields of a value, from field n on
  pub fits_fields : Declaration → PatternTrees → Origin → Things → ℕ → Env → Option Env
  fits_fields d no_patterns o xs n env = Some env
  fits_fields d (pattern_then p ps) o xs n env =
      option_and_then (λ x. option_and_then (fits_fields d ps o xs (n + 1)) (fits d p x env)) (part_of o n xs)

  -- the fields of a value, by name
  pub fits_named : Declaration → NamedPatterns → List FieldTree → Origin → Things → Env → Option Env
  fits_named d no_named fs o xs env = Some env
  fits_named d (named_then i p ps) fs o xs env =
      option_and_then (λ n. option_and_then (λ x. option_and_then (fits_named d ps fs o xs) (fits d p x env)) (part_of o n xs)) (field_named fs 0 i.name)

abbrev pub or_else : Option Env → Option Env → Option Env
or_else None o = o
or_else (Some e) o = Some e

-- the first of several patterns that fits
abbrev pub first_fits : Declaration → PatternTrees → Thing → Env → Option Env
first_fits d no_patterns x env = None
first_fits d (pattern_then p ps) x env = or_else (fits d p x env) (first_fits d ps x env)
