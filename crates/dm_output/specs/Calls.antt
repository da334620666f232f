-- What calls give: constructors of the declaration, the functions that this language knows, and terms.
use Rattle.std.specs.Prelude.{ℕ, ℤ, List, [], ◌∷◌, length, Bool, true, false, not, cond, ◌&&◌, ◌||◌, eqb, Option, Some, None, codes, slice_get, set, option_and_then, option_map}
use Rattle.std.specs.Str.{bytes_eq, chars}
use Rattle.dm_stream.specs.declared.tokens.Ident.{Ident}
use Rattle.dm_stream.specs.Trees.{Trees}
use Rattle.dm_lexer.specs.Numbers.{literal_value}
use Rattle.dm_ast.specs.Tree.{PathTree, MaybeSelf}
use Rattle.dm_ast.specs.Declarations.{Declaration, FieldTree, FieldsTree}
use Rattle.dm_output.specs.declared.expr.Member.{Member}
use Rattle.dm_output.specs.declared.expr.Member.TheVariants as member
use Rattle.dm_output.specs.Values.{Text, Side, mine, theirs, Origin, of_side, another, Operation, function, qualified, method, mapping_error, tokens, Thing, apply, truth, text, input_text, value, place, discriminant, tuple_of, success, failure, present, missing, done, pass, written, listing, Things, no_things, thing_then, things_of, list_of, no_fields, also, also_named, Ending, begun, closed, left_open, Case, cases, is_enum, field_list}
use Rattle.dm_output.specs.Fits.{Env, bound, names_type, constructor, names_eq, paren_fields, brace_fields, unit_fields, fields_of_case, of_length, field_named, part_of, text_of, as_value, nth}
use Rattle.dm_output.specs.Written.{letters}

-- ---- what runs

-- The declaration, the outcomes of the comparisons of self's fields with the right side's, the right side's fields, and whether the receiver is
-- `&mut self`.
pub record Setting : Type 0 where
  pub decl : Declaration
  pub outcomes : List Bool
  pub right : List Thing
  pub may_assign : Bool

-- the fields of self as they are now, and the numbers of the constants still to come
pub record State : Type 0 where
  pub fields : List Thing
  pub numbers : List ℤ

-- an expression goes on with what it gives, or ends the method with that
pub data Flow (A : Type 0) : Type 0 where
  goes : A → State → Flow A
  ends : Thing → State → Flow A

abbrev pub then : {A B : Type 0} → Option (Flow A) → (A → State → Option (Flow B)) → Option (Flow B)
then None go = None
then (Some (goes x st)) go = go x st
then (Some (ends x st)) go = Some (ends x st)

-- ---- terms

abbrev pub or_given : Option Thing → Thing → Thing
or_given (Some x) other = x
or_given None other = other

-- the fields of a value as they are now
abbrev pub fields_now : Setting → State → Origin → Things → Things
fields_now s st (of_side mine) xs = things_of st.fields
fields_now s st (of_side theirs) xs = xs
fields_now s st another xs = xs

abbrev pub field_now : Setting → State → Side → ℕ → Thing
field_now s st mine n = or_given (slice_get st.fields n) (place mine n)
field_now s st theirs n = or_given (slice_get s.right n) (place theirs n)

-- a thing where a term is asked for: a place stands for its field
abbrev mutual
  pub as_term : Setting → State → Thing → Thing
  as_term s st (place side n) = field_now s st side n
  as_term s st (value o n xs) = value another n (fields_now s st o xs)
  as_term s st (tuple_of xs) = tuple_of (as_terms s st xs)
  as_term s st x = x

  pub as_terms : Setting → State → Things → Things
  as_terms s st no_things = no_things
  as_terms s st (thing_then x xs) = thing_then (as_term s st x) (as_terms s st xs)

-- the term of an operation on things
abbrev pub term : Setting → State → Operation → List Thing → Thing
term s st o xs = apply o (as_terms s st (things_of xs))

-- ---- comparisons

abbrev pub outcome : Option Bool → Option Thing
outcome o = option_map truth o

abbrev pub compare_texts : Option Text → Option Text → Option Thing
compare_texts (Some a) (Some b) = Some (truth (bytes_eq a b))
compare_texts _ _ = None

-- field n of self with field n of the right side, two discriminants or two texts
abbrev pub compare : List Bool → Thing → Thing → Option Thing
compare outcomes (place mine n) (place theirs m) = cond (eqb n m) (outcome (slice_get outcomes n)) None
compare outcomes (discriminant n) (discriminant m) = Some (truth (eqb n m))
compare outcomes x y = compare_texts (text_of x) (text_of y)

abbrev pub negated : Option Thing → Option Thing
negated (Some (truth b)) = Some (truth (not b))
negated _ = None

-- ---- members

abbrev pub field_number : List FieldTree → Member → Option ℕ
field_number fs (member.Named i) = field_named fs 0 i.name
field_number fs (member.Index l) = literal_value l.kind l.text

abbrev pub within : List FieldTree → Option ℕ → Option ℕ
within fs None = None
within fs (Some n) = option_map (λ f. n) (slice_get fs n)

abbrev pub fields_of : Option Case → List FieldTree
fields_of None = []
fields_of (Some c) = field_list c.fields

-- a field of a value of a struct, or a part of a tuple
abbrev pub member_of : Declaration → Member → Thing → Option Thing
member_of d m (value o n xs) = cond (is_enum d) None (option_and_then (λ i. part_of o i xs) (within (fields_of (slice_get (cases d) n)) (field_number (fields_of (slice_get (cases d) n)) m)))
member_of d (member.Index l) (tuple_of xs) = option_and_then (nth xs) (literal_value l.kind l.text)
member_of d m x = None

-- ---- constructors

-- whether these names begin with the type's
abbrev pub are_own : Declaration → List Text → Bool
are_own d [] = false
are_own d (a ∷ more) = names_type d a

abbrev pub made : Option ℕ → Option (List FieldTree) → Things → Option Thing
made None fs xs = None
made (Some n) None xs = None
made (Some n) (Some fs) xs = Some (value another n xs)

-- a value of the struct or variant of these names, whose fields are declared so, with as many terms
abbrev pub constructed : (FieldsTree → Option (List FieldTree)) → Declaration → List Text → List Thing → Option Thing
constructed kind d names xs = made (constructor d names) (of_length (length xs) (fields_of_case kind d (constructor d names))) (things_of xs)

-- ---- values with named fields

-- the things given for a field of that name, where just one is
abbrev pub given_for : List (Text × Thing) → Option Ident → Option Thing
given_for xs None = None
given_for [] (Some i) = None
given_for (x ∷ xs) (Some i) = cond (bytes_eq x.0 i.name) (Some x.1) (given_for xs (Some i))

-- a term for each declared field, in the declared order
abbrev pub in_order : List (Text × Thing) → List FieldTree → Option (List Thing)
in_order xs [] = Some []
in_order xs (f ∷ fs) = option_and_then (λ x. option_map (λ more. x ∷ more) (in_order xs fs)) (given_for xs f.ident)

abbrev pub constructed_named : Declaration → List Text → List (Text × Thing) → Option Thing
constructed_named d names xs =
    option_and_then (λ fs. option_and_then (λ ts. made (constructor d names) (Some fs) (things_of ts)) (in_order xs fs))
    (of_length (length xs) (fields_of_case brace_fields d (constructor d names)))

-- ---- known functions

-- `derive_more::core::` and these names
abbrev pub core : List Text → List Text
core names = codes "derive_more" ∷ codes "core" ∷ names

-- `derive_more::__private::` and these names
abbrev pub private : List Text → List Text
private names = codes "derive_more" ∷ codes "__private" ∷ names

abbrev pub discriminant_names : List Text
discriminant_names = core (codes "mem" ∷ codes "discriminant" ∷ [])

abbrev pub unreachable_names : List Text
unreachable_names = core (codes "hint" ∷ codes "unreachable_unchecked" ∷ [])

abbrev pub ok_names : List Text
ok_names = core (codes "result" ∷ codes "Result" ∷ codes "Ok" ∷ [])

abbrev pub err_names : List Text
err_names = core (codes "result" ∷ codes "Result" ∷ codes "Err" ∷ [])

-- ---- assigning calls: `derive_more::core::ops::TRAIT::METHOD`

-- the assigning traits of `core::ops`, each with its method
abbrev pub assigning_methods : List (Text × Text)
assigning_methods =
    (codes "AddAssign", codes "add_assign") ∷ (codes "BitAndAssign", codes "bitand_assign") ∷ (codes "BitOrAssign", codes "bitor_assign") ∷
    (codes "BitXorAssign", codes "bitxor_assign") ∷ (codes "SubAssign", codes "sub_assign") ∷ (codes "DivAssign", codes "div_assign") ∷
    (codes "MulAssign", codes "mul_assign") ∷ (codes "RemAssign", codes "rem_assign") ∷ (codes "ShlAssign", codes "shl_assign") ∷
    (codes "ShrAssign", codes "shr_assign") ∷ []

abbrev pub is_among : List (Text × Text) → Text → Text → Bool
is_among [] t m = false
is_among (p ∷ ps) t m = bytes_eq t p.0 && bytes_eq m p.1 || is_among ps t m

-- the names behind `derive_more::core::ops::`, or behind `derive_more::core::fmt::`
abbrev pub behind_names : List Text → List Text → Option (List Text)
behind_names [] names = Some names
behind_names (a ∷ as') [] = None
behind_names (a ∷ as') (b ∷ bs) = cond (bytes_eq a b) (behind_names as' bs) None

abbrev pub is_method_of : List (Text × Text) → Option (List Text) → Bool
is_method_of table (Some (t ∷ m ∷ [])) = is_among table t m
is_method_of table _ = false

abbrev pub assigns : List Text → Bool
assigns names = is_method_of assigning_methods (behind_names (core (codes "ops" ∷ [])) names)

-- a field of `&mut self` becomes the term of the call with its old term and the operand
abbrev pub assigned : Setting → State → List Text → List Thing → Option (Flow Thing)
assigned s st names (place mine n ∷ y ∷ []) =
    cond s.may_assign (Some (goes done (record { fields = set st.fields n (term s st (function names) (place mine n ∷ y ∷ [])); numbers = st.numbers }))) None
assigned s st names _ = None

-- ---- formatting calls

-- the trait of `derive_more::core::fmt::TRAIT::fmt`
abbrev pub formatting_of : Option (List Text) → Option Text
formatting_of (Some (t ∷ m ∷ [])) = cond (bytes_eq m (codes "fmt")) (Some t) None
formatting_of _ = None

abbrev pub formatting : List Text → Option Text
formatting names = formatting_of (behind_names (core (codes "fmt" ∷ [])) names)

abbrev pub passed : Setting → State → Option Text → List Thing → Option Thing
passed s st (Some t) (x ∷ f ∷ []) = Some (pass t (as_term s st x))
passed s st _ _ = None

abbrev pub named_list : Bool → List Thing → Option Thing
named_list braces (f ∷ x ∷ []) = option_map (λ t. listing t no_fields (begun braces)) (text_of x)
named_list braces _ = None

-- one field more of a list that is begun
abbrev pub with_field : Setting → State → List Thing → Option Thing
with_field s st (listing t fs (begun false) ∷ x ∷ []) = Some (listing t (also fs (as_term s st x)) (begun false))
with_field s st (listing t fs (begun true) ∷ name ∷ x ∷ []) = option_map (λ n. listing t (also_named fs n (as_term s st x)) (begun true)) (text_of name)
with_field s st _ = None

abbrev pub ended : Ending → List Thing → Option Thing
ended e (listing t fs (begun b) ∷ []) = Some (listing t fs e)
ended e _ = None

abbrev pub written_text : List Thing → Option Thing
written_text (f ∷ x ∷ []) = option_map (λ t. written (letters (chars t))) (text_of x)
written_text _ = None

-- ---- calls of functions

abbrev pub discriminant_of : Option (Origin × (ℕ × Things)) → Option Thing
discriminant_of None = None
discriminant_of (Some v) = Some (discriminant v.1.0)

-- what is made of the only argument
abbrev pub of_one : (Thing → Option Thing) → List Thing → Option Thing
of_one f (x ∷ []) = f x
of_one f _ = None

pub data Known : Type 0 where
  discriminating : Known
  unreachable : Known
  succeeding : Known
  failing : Known
  writing : Known
  naming : Bool → Known
  listing_field : Known
  ending : Ending → Known
  assigning : Known
  formatting_by : Text → Known
  unknown : Known

abbrev pub Table : Type 0
Table = List (List Text × Known)

-- the functions with names of their own
abbrev pub table : Table
table =
    (discriminant_names, discriminating) ∷ (unreachable_names, unreachable) ∷ (ok_names, succeeding) ∷ (err_names, failing) ∷
    (core (codes "fmt" ∷ codes "Formatter" ∷ codes "write_str" ∷ []), writing) ∷
    (core (codes "fmt" ∷ codes "Formatter" ∷ codes "debug_struct" ∷ []), naming true) ∷
    (private (codes "debug_tuple" ∷ []), naming false) ∷
    (core (codes "fmt" ∷ codes "DebugStruct" ∷ codes "field" ∷ []), listing_field) ∷
    (private (codes "DebugTuple" ∷ codes "field" ∷ []), listing_field) ∷
    (core (codes "fmt" ∷ codes "DebugStruct" ∷ codes "finish" ∷ []), ending closed) ∷
    (private (codes "DebugTuple" ∷ codes "finish" ∷ []), ending closed) ∷
    (core (codes "fmt" ∷ codes "DebugStruct" ∷ codes "finish_non_exhaustive" ∷ []), ending left_open) ∷
    (private (codes "DebugTuple" ∷ codes "finish_non_exhaustive" ∷ []), ending left_open) ∷ []

abbrev pub by_trait : Bool → Option Text → Known
by_trait true t = assigning
by_trait false (Some t) = formatting_by t
by_trait false None = unknown

abbrev pub known_in : Table → List Text → Known
known_in [] names = by_trait (assigns names) (formatting names)
known_in (r ∷ rs) names = cond (names_eq names r.0) r.1 (known_in rs names)

abbrev pub known : List Text → Known
known names = known_in table names

abbrev pub going : Option Thing → State → Option (Flow Thing)
going o st = option_map (λ x. goes x st) o

abbrev pub or_term : Option Thing → Thing → Option Thing
or_term (Some x) t = Some x
or_term None t = Some t

-- What a function gives. A discriminant is that of a value, an assigning call changes a field of `&mut self`, and what is unreachable has no
-- answer. Any other call, and a known one with other arguments, is a term.
abbrev pub known_call : Setting → State → List Text → Known → List Thing → Option (Flow Thing)
known_call s st names discriminating xs = going (of_one (λ x. discriminant_of (as_value x)) xs) st
known_call s st names unreachable [] = None
known_call s st names succeeding (x ∷ []) = Some (goes (success (as_term s st x)) st)
known_call s st names failing (x ∷ []) = Some (goes (failure (as_term s st x)) st)
known_call s st names writing xs = going (or_term (written_text xs) (term s st (function names) xs)) st
known_call s st names (naming braces) xs = going (or_term (named_list braces xs) (term s st (function names) xs)) st
known_call s st names listing_field xs = going (or_term (with_field s st xs) (term s st (function names) xs)) st
known_call s st names (ending e) xs = going (or_term (ended e xs) (term s st (function names) xs)) st
known_call s st names assigning xs = assigned s st names xs
known_call s st names (formatting_by t) xs = going (or_term (passed s st (Some t) xs) (term s st (function names) xs)) st
known_call s st names _ xs = Some (goes (term s st (function names) xs) st)

-- a constructor of the declaration, or a function
abbrev pub call_of_names : (FieldsTree → Option (List FieldTree)) → Setting → State → List Text → List Thing → Option (Flow Thing)
call_of_names kind s st names xs =
    cond (are_own s.decl names) (going (constructed kind s.decl names (list_of (as_terms s st (things_of xs)))) st) (known_call s st names (known names) xs)

-- a call without a comma behind its arguments: `Some (x)` is no constructor, also where the struct is called so
abbrev pub called : Setting → State → MaybeSelf → PathTree → Option (List Text) → List Thing → Option (Flow Thing)
called s st q p None xs = Some (goes (term s st (qualified q p) xs) st)
called s st q p (Some (a ∷ [])) (x ∷ []) =
    cond (bytes_eq a (codes "Some")) (Some (goes (present (as_term s st x)) st)) (call_of_names paren_fields s st (a ∷ []) (x ∷ []))
called s st q p (Some names) xs = call_of_names paren_fields s st names xs

-- with a comma behind each argument
abbrev pub built : Setting → State → MaybeSelf → PathTree → Option (List Text) → List Thing → Option (Flow Thing)
built s st q p None xs = Some (goes (term s st (qualified q p) xs) st)
built s st q p (Some names) xs = call_of_names paren_fields s st names xs

-- with named fields, which only the declaration's constructors have
abbrev pub built_named : Setting → State → Option (List Text) → List (Text × Thing) → Option (Flow Thing)
built_named s st None xs = None
built_named s st (Some names) xs = going (constructed_named s.decl names xs) st

-- ---- names

abbrev pub alone : Setting → State → Text → Option Thing → Option (Flow Thing)
alone s st a (Some x) = Some (goes x st)
alone s st a None = cond (bytes_eq a (codes "None")) (Some (goes missing st)) (going (constructed unit_fields s.decl (a ∷ []) []) st)

-- a bound name, `None`, a constructor without fields, or any other path
abbrev pub path_gives : Setting → State → MaybeSelf → PathTree → Option (List Text) → Env → Option (Flow Thing)
path_gives s st q p None env = Some (goes (term s st (qualified q p) []) st)
path_gives s st q p (Some (a ∷ [])) env = alone s st a (bound env a)
path_gives s st q p (Some names) env =
    cond (are_own s.decl names) (going (constructed unit_fields s.decl names []) st) (Some (goes (term s st (function names) []) st))

-- ---- methods

-- the lowercase text of the input text
abbrev pub lowered : Thing → Option Thing
lowered (apply (method m) (thing_then (input_text t lower) no_things)) = cond (bytes_eq m (codes "to_lowercase")) (Some (text lower)) None
lowered _ = None

abbrev pub as_str_of : Text → Thing → Option Thing
as_str_of m x = cond (bytes_eq m (codes "as_str")) (lowered x) None

abbrev pub write_str_of : Text → List Thing → Option Thing
write_str_of m xs = cond (bytes_eq m (codes "write_str")) (written_text xs) None

-- what a method gives of its receiver and its arguments
abbrev pub method_gives : Setting → State → Text → List Thing → Thing
method_gives s st m (x ∷ []) = or_given (as_str_of m x) (term s st (method m) (x ∷ []))
method_gives s st m xs = or_given (write_str_of m xs) (term s st (method m) xs)

-- `x . map_err (p)`: of an answer only its error is changed
abbrev pub error_mapped : Setting → State → Trees → Thing → Thing
error_mapped s st p (failure y) = failure (term s st (tokens p) (y ∷ []))
error_mapped s st p (success y) = success y
error_mapped s st p (present y) = present y
error_mapped s st p missing = missing
error_mapped s st p (pass t y) = pass t y
error_mapped s st p (written ps) = written ps
error_mapped s st p (listing t fs e) = listing t fs e
error_mapped s st p x = term s st (mapping_error p) (x ∷ [])
