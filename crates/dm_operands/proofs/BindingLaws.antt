-- What the patterns of a side bind: a name for each field that isn't left out, whichever these are and however they are named.
use Rattle.std.proofs.Common.{◌≡◌, ◌≢◌, ℕ, suc, ◌+◌, ◌<◌, ◌≤◌, List, [], ◌∷◌, length, map, Bool, true, false, cond, ◌||◌, eqb, Option, Some, None, slice_get, refl, sym, ap, ◌∙◌, arith}
use Rattle.std.specs.Prelude.{option_and_then}
use Rattle.std.specs.Str.{bytes_eq}
use Rattle.dm_ast.specs.declared.plain.Attribute.{Attribute}
use Rattle.dm_ast.specs.Tree.{PathTree}
use Rattle.dm_ast.specs.Declarations.{Declaration, FieldTree, FieldsTree, named, unnamed, unit}
use Rattle.dm_output.specs.declared.pattern.Binding.TheVariants.{Plain}
use Rattle.dm_output.specs.Output.{bind, patterns_of, pattern_then, named_of}
use Rattle.dm_output.specs.Values.{Text, Side, Origin, of_side, Thing, Things, value, place, Case, cases, field_list}
use Rattle.dm_output.specs.Fits.{Env, plain, found, bound, or_number, path_case, paren_fields, brace_fields, pattern_fields, unit_fields, fields_of_case, count_patterns, count_named, of_length, fits, fits_fields, fits_named}
use Rattle.dm_operands.specs.declared.cases.Form.{Form}
use Rattle.dm_operands.specs.declared.cases.Form.TheVariants as forms
use Rattle.dm_generics.specs.Words.{word}
use Rattle.dm_operands.specs.Marked.{MarkedField, form_of, mark_field, mark_case}
use Rattle.dm_operands.specs.Sides.{binding, bindings, named_bindings, field_ident, some_left_out, side_pattern}
use Rattle.dm_operands.specs.Named.{AreFieldsNamed}
use Rattle.dm_operands.proofs.FromLaws.{from-start}
use Rattle.dm_operands.proofs.NameLaws.{Differ, Apart, bytes_same, AreFound, are-found}

-- ---- names for the fields from number n on

abbrev pub Names : Type 0
Names = List (Text × Thing)

abbrev pub bound_side : (ℕ → Text) → Side → ℕ → List MarkedField → Names → Names
bound_side naming s n [] env = env
bound_side naming s n (f ∷ fs) env = bound_side naming s (n + 1) fs (cond f.left_out env ((naming n, place s n) ∷ env))

found-miss : (naming : ℕ → Text) (s : Side) (n : ℕ) (fs : List MarkedField) (env : Names) (x : Text) →
    ((m : ℕ) → n ≤ m → m < n + length fs → bytes_eq x (naming m) ≡ false) → found (bound_side naming s n fs env) x ≡ found env x
found-miss naming s n [] env x h = refl
found-miss naming s n (f ∷ fs) env x h =
    found-miss naming s (n + 1) fs (cond f.left_out env ((naming n, place s n) ∷ env)) x (λ m a b. h m (omega arith) (omega arith)) ∙
    elim f.left_out as (λ b. found (cond b env ((naming n, place s n) ∷ env)) x ≡ found env x)
    [ true ↦ refl | false ↦ ap (λ c. cond c (Some (place s n)) (found env x)) (h n (omega arith) (omega arith)) ]

-- a name that is none of the bound ones keeps its thing
pub bound-miss : (naming : ℕ → Text) (s : Side) (n : ℕ) (fs : List MarkedField) (env : Names) (x : Text) →
    ((m : ℕ) → n ≤ m → m < n + length fs → bytes_eq x (naming m) ≡ false) → bound (plain (bound_side naming s n fs env)) x ≡ bound (plain env) x
bound-miss naming s n fs env x h = ap (λ o. or_number o None) (found-miss naming s n fs env x h)

-- each field from n on that isn't left out is bound to its place
abbrev pub Knows : (ℕ → Text) → Side → Names → ℕ → List MarkedField → Type 0
Knows naming s env n [] = Unit {0}
Knows naming s env n (f ∷ fs) = (f.left_out ≡ false → bound (plain env) (naming n) ≡ Some (place s n)) × Knows naming s env (n + 1) fs

pub knows : (naming : ℕ → Text) (differ : Differ naming) (s : Side) (n : ℕ) (fs : List MarkedField) (env : Names) →
    Knows naming s (bound_side naming s n fs env) n fs
knows naming differ s n [] env = tt
knows naming differ s n (f ∷ fs) env = (
  λ kept.
      bound-miss naming s (n + 1) fs (cond f.left_out env ((naming n, place s n) ∷ env)) (naming n)
      (λ m a b. differ n m (omega arith)) ∙
      ap (λ b. bound (plain (cond b env ((naming n, place s n) ∷ env))) (naming n)) kept ∙
      ap (λ c. or_number (cond c (Some (place s n)) (found env (naming n))) None) (bytes_same (naming n)),
  knows naming differ s (n + 1) fs (cond f.left_out env ((naming n, place s n) ∷ env)),
)

-- the names of a side stay known behind those of another
pub knows-behind : (naming others : ℕ → Text) (apart : Apart naming others) (s t : Side) (n : ℕ) (fs gs : List MarkedField) (env : Names) →
    Knows naming s env n fs → Knows naming s (bound_side others t 0 gs env) n fs
knows-behind naming others apart s t n [] gs env k = tt
knows-behind naming others apart s t n (f ∷ fs) gs env k = (
  λ kept. bound-miss others t 0 gs env (naming n) (λ m a b. apart n m) ∙ k.0 kept,
  knows-behind naming others apart s t (n + 1) fs gs env k.1,
)

-- ---- the patterns that bind them

-- fields between parentheses
fits-bindings : (d : Declaration) (naming : ℕ → Text) (s : Side) (xs : Things) (n : ℕ) (fs : List MarkedField) (env : Names) →
    fits_fields d (patterns_of (bindings naming n fs)) (of_side s) xs n (plain env) ≡ Some (plain (bound_side naming s n fs env))
fits-bindings d naming s xs n [] env = refl
fits-bindings d naming s xs n (f ∷ fs) env =
    elim f.left_out as (λ b.
    fits_fields d (pattern_then (binding b (naming n)) (patterns_of (bindings naming (n + 1) fs))) (of_side s) xs n (plain env) ≡
    Some (plain (bound_side naming s (n + 1) fs (cond b env ((naming n, place s n) ∷ env)))))
    [ true ↦ fits-bindings d naming s xs (n + 1) fs env | false ↦ fits-bindings d naming s xs (n + 1) fs ((naming n, place s n) ∷ env) ]

-- the fields without their marks
abbrev pub unmarked : List MarkedField → List FieldTree
unmarked [] = []
unmarked (f ∷ fs) = f.field ∷ unmarked fs

count-bindings : (naming : ℕ → Text) (n : ℕ) (fs : List MarkedField) → count_patterns (patterns_of (bindings naming n fs)) ≡ length (unmarked fs)
count-bindings naming n [] = refl
count-bindings naming n (f ∷ fs) = ap suc (count-bindings naming (n + 1) fs)

-- fields between braces
fits-named-bindings : (d : Declaration) (naming : ℕ → Text) (s : Side) (xs : Things) (all : List FieldTree) (n : ℕ) (fs : List MarkedField) (env : Names) →
    AreFound all n (unmarked fs) → fits_named d (named_of (named_bindings naming n fs)) all (of_side s) xs (plain env) ≡ Some (plain (bound_side naming s n fs env))
fits-named-bindings d naming s xs all n [] env are = refl
fits-named-bindings d naming s xs all n (f ∷ fs) env are =
    elim f.left_out as (λ b.
    fits_named d (named_of (cond b (named_bindings naming (n + 1) fs) ((field_ident f.field.ident, bind Plain (word (naming n))) ∷ named_bindings naming (n + 1) fs))) all (of_side s) xs (plain env) ≡
    Some (plain (bound_side naming s (n + 1) fs (cond b env ((naming n, place s n) ∷ env))))) [
      | true ↦ fits-named-bindings d naming s xs all (n + 1) fs env are.1
      | false ↦ rw are.0 (fits-named-bindings d naming s xs all (n + 1) fs ((naming n, place s n) ∷ env) are.1)
    ]

-- where no field is left out
count-named-bindings : (naming : ℕ → Text) (n : ℕ) (fs : List MarkedField) → some_left_out fs ≡ false →
    count_named (named_of (named_bindings naming n fs)) ≡ length (unmarked fs)
count-named-bindings naming n [] kept = refl
count-named-bindings naming n (f ∷ fs) kept =
    (elim f.left_out as (λ b. (b || some_left_out fs) ≡ false →
    count_named (named_of (cond b (named_bindings naming (n + 1) fs) ((field_ident f.field.ident, bind Plain (word (naming n))) ∷ named_bindings naming (n + 1) fs))) ≡ suc (length (unmarked fs)))
    [ true ↦ λ k. cc | false ↦ λ k. ap suc (count-named-bindings naming (n + 1) fs k) ]) kept

-- ---- a side

pub eqb-same : (n : ℕ) → eqb n n ≡ true
eqb-same n = grind arith

pub eqb-other : (n m : ℕ) → n ≢ m → eqb n m ≡ false
eqb-other n m ne = grind arith

fits-paren : (d : Declaration) (naming : ℕ → Text) (s : Side) (p : PathTree) (fs : List MarkedField) (n : ℕ) (xs : Things) (env : Names) →
    path_case d p ≡ Some n → fields_of_case paren_fields d (Some n) ≡ Some (unmarked fs) →
    fits d (side_pattern naming p forms.Unnamed fs) (value (of_side s) n xs) (plain env) ≡ Some (plain (bound_side naming s 0 fs env))
fits-paren d naming s p fs n xs env at has =
    rw (at, eqb-same n, has, count-bindings naming 0 fs, eqb-same (length (unmarked fs))) (fits-bindings d naming s xs 0 fs env)

fits-brace : (d : Declaration) (naming : ℕ → Text) (s : Side) (p : PathTree) (fs : List MarkedField) (n : ℕ) (xs : Things) (env : Names) →
    path_case d p ≡ Some n → fields_of_case pattern_fields d (Some n) ≡ Some (unmarked fs) → AreFieldsNamed (unmarked fs) →
    fits d (side_pattern naming p forms.Named fs) (value (of_side s) n xs) (plain env) ≡ Some (plain (bound_side naming s 0 fs env))
fits-brace d naming s p fs n xs env at has names =
    let all = unmarked fs in
    let whole = fits-named-bindings d naming s xs all 0 fs env (are-found all 0 all names (from-start all)) in
    rw (at, eqb-same n, has)
    ((elim (some_left_out fs) as (λ b. some_left_out fs ≡ b →
    option_and_then (λ gs. fits_named d (named_of (named_bindings naming 0 fs)) gs (of_side s) xs (plain env))
    (cond b (Some all) (of_length (count_named (named_of (named_bindings naming 0 fs))) (Some all))) ≡
    Some (plain (bound_side naming s 0 fs env))) [
      | true ↦ λ h. whole
      | false ↦ λ h. rw (count-named-bindings naming 0 fs h, eqb-same (length all)) whole
    ]) refl)

none-unmarked : (fs : List MarkedField) → unmarked fs ≡ [] → fs ≡ []
none-unmarked [] h = refl
none-unmarked (f ∷ fs) h = cc

unit-none : (fs : FieldsTree) (gs : List FieldTree) → unit_fields fs ≡ Some gs → gs ≡ []
unit-none (named fs) gs h = cc
unit-none (unnamed fs) gs h = cc
unit-none unit gs h = cc

case-none : (o : Option Case) (gs : List FieldTree) → option_and_then (λ (c : Case). unit_fields c.fields) o ≡ Some gs → gs ≡ []
case-none None gs h = cc
case-none (Some c) gs h = unit-none c.fields gs h

-- a unit binds nothing
fits-unit : (d : Declaration) (naming : ℕ → Text) (s : Side) (p : PathTree) (fs : List MarkedField) (n : ℕ) (xs : Things) (env : Names) →
    path_case d p ≡ Some n → fields_of_case unit_fields d (Some n) ≡ Some (unmarked fs) →
    fits d (side_pattern naming p forms.Unit fs) (value (of_side s) n xs) (plain env) ≡ Some (plain (bound_side naming s 0 fs env))
fits-unit d naming s p fs n xs env at has =
    let none : fs ≡ [] = none-unmarked fs (case-none (slice_get (cases d) n) (unmarked fs) has) in
    rw (at, eqb-same n, has) (ap (λ gs. Some (plain (bound_side naming s 0 gs env))) (sym none))

-- the fields that a pattern of this form looks at
abbrev pub looked_at : Form → FieldsTree → Option (List FieldTree)
looked_at forms.Named fs = pattern_fields fs
looked_at forms.Unnamed fs = paren_fields fs
looked_at forms.Unit fs = unit_fields fs

-- between braces they have names
abbrev pub AreNamedIn : Form → List FieldTree → Type 0
AreNamedIn forms.Named fs = AreFieldsNamed fs
AreNamedIn forms.Unnamed fs = Unit {0}
AreNamedIn forms.Unit fs = Unit {0}

-- a side of a case at a value of the case
pub fits-side : (d : Declaration) (naming : ℕ → Text) (s : Side) (p : PathTree) (form : Form) (fs : List MarkedField) (n : ℕ) (xs : Things) (env : Names) →
    path_case d p ≡ Some n → fields_of_case (looked_at form) d (Some n) ≡ Some (unmarked fs) → AreNamedIn form (unmarked fs) →
    fits d (side_pattern naming p form fs) (value (of_side s) n xs) (plain env) ≡ Some (plain (bound_side naming s 0 fs env))
fits-side d naming s p forms.Named fs n xs env at has names = fits-brace d naming s p fs n xs env at has names
fits-side d naming s p forms.Unnamed fs n xs env at has names = fits-paren d naming s p fs n xs env at has
fits-side d naming s p forms.Unit fs n xs env at has names = fits-unit d naming s p fs n xs env at has

-- at a value of another case, whosever it is
pub misses-side : (d : Declaration) (naming : ℕ → Text) (p : PathTree) (form : Form) (fs : List MarkedField) (n : ℕ) (o : Origin) (m : ℕ) (xs : Things) (env : Env) →
    path_case d p ≡ Some n → n ≢ m → fits d (side_pattern naming p form fs) (value o m xs) env ≡ None
misses-side d naming p forms.Named fs n o m xs env at ne = rw (at, eqb-other n m ne) refl
misses-side d naming p forms.Unnamed fs n o m xs env at ne = rw (at, eqb-other n m ne) refl
misses-side d naming p forms.Unit fs n o m xs env at ne = rw (at, eqb-other n m ne) refl

-- ---- what is marked

pub unmarked-marked : (leaves_out : List Attribute → Bool) (fs : List FieldTree) → unmarked (map (mark_field leaves_out) fs) ≡ fs
unmarked-marked leaves_out [] = refl
unmarked-marked leaves_out (f ∷ fs) = ap (λ gs. f ∷ gs) (unmarked-marked leaves_out fs)

-- a case that isn't left out has its fields
pub fields-marked : (leaves_out : List Attribute → Bool) (c : Case) → leaves_out c.attrs ≡ false →
    (mark_case leaves_out c).fields ≡ map (mark_field leaves_out) (field_list c.fields)
fields-marked leaves_out c kept = ap (λ b. cond b [] (map (mark_field leaves_out) (field_list c.fields))) kept

pub fields-kept : (leaves_out : List Attribute → Bool) (c : Case) → leaves_out c.attrs ≡ false → unmarked (mark_case leaves_out c).fields ≡ field_list c.fields
fields-kept leaves_out c kept = ap unmarked (fields-marked leaves_out c kept) ∙ unmarked-marked leaves_out (field_list c.fields)

pub looked-in : (fs : FieldsTree) → looked_at (form_of fs) fs ≡ Some (field_list fs)
looked-in (named fs) = refl
looked-in (unnamed fs) = refl
looked-in unit = refl

pub named-in : (fs : FieldsTree) → ((gs : List FieldTree) → brace_fields fs ≡ Some gs → AreFieldsNamed gs) → AreNamedIn (form_of fs) (field_list fs)
named-in (named fs) names = names fs.items refl
named-in (unnamed fs) names = tt
named-in unit names = tt
