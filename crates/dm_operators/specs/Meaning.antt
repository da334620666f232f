-- What an operator means: the trait's operation, field by field over the fields that aren't skipped.
use Rattle.std.specs.Prelude.{◌≡◌, List, [], ◌∷◌, map, length, Bool, true, false, cond, ◌||◌, eqb, Option, Some, None, codes, slice_get}
use Rattle.dm_ast.specs.Declarations.{Declaration, FieldTree, FieldsTree, named, unnamed, unit}
use Rattle.dm_output.specs.Output.{MethodTree}
use Rattle.dm_output.specs.Values.{Text, another, function, Thing, apply, text, value, success, failure, place, of_side, tuple_of, Things, no_things, thing_then, things_of, Value, Case, cases, is_enum, field_list, IsValue, Input, no_input, value_input, term_input}
use Rattle.dm_output.specs.Run.{run_method}
use Rattle.dm_operators.specs.Operators.{Form, structural, scalar, unary, Operator, method_names}
use Rattle.dm_operators.specs.Attributes.{skips, form_in}

-- the term of the trait's method on its operands
abbrev pub operation : Operator → List Thing → Thing
operation o xs = apply (function (method_names o)) (things_of xs)

-- ---- fields

-- the operation of a field with its right operand in each kept field, and self's field in the others
abbrev pub combined : Operator → List FieldTree → List Thing → List Thing → List Thing
combined o (f ∷ fs) (x ∷ xs) (y ∷ ys) = cond (skips o f.attrs) x (operation o (x ∷ y ∷ [])) ∷ combined o fs xs ys
combined o _ _ _ = []

-- self's variant with other fields
abbrev pub with_fields : Value → List Thing → Thing
with_fields x ts = value another x.variant (things_of ts)

-- ---- errors of `derive_more`

-- what `new` of an error gives for the method's name
abbrev pub new_error : Text → Operator → Thing
new_error type o = apply (function (codes "derive_more" ∷ type ∷ codes "new" ∷ [])) (things_of (text o.method ∷ []))

-- an error of two values, of this kind
abbrev pub binary_error : Text → Thing → Thing
binary_error kind error = failure (apply (function (codes "derive_more" ∷ codes "BinaryError" ∷ kind ∷ [])) (things_of (error ∷ [])))

-- two values of different variants
abbrev pub mismatch : Operator → Thing
mismatch o = binary_error (codes "Mismatch") (new_error (codes "WrongVariantError") o)

-- two values of a variant without fields
abbrev pub binary_unit : Operator → Thing
binary_unit o = binary_error (codes "Unit") (new_error (codes "UnitError") o)

-- a value of a variant without fields
abbrev pub unary_unit : Operator → Thing
unary_unit o = failure (new_error (codes "UnitError") o)

-- ---- the forms

-- inside `Ok` where there may be an error
abbrev pub ok_if : Bool → Thing → Thing
ok_if b x = cond b (success x) x

-- a struct or variant without parentheses and braces
abbrev pub is_unit : FieldsTree → Bool
is_unit (named fs) = false
is_unit (unnamed fs) = false
is_unit unit = true

-- the fields of a variant, where there is one
abbrev pub fields_in : Option Case → List FieldTree
fields_in None = []
fields_in (Some c) = field_list c.fields

-- whether it is a unit, where there is one
abbrev pub is_unit_in : Option Case → Bool
is_unit_in None = false
is_unit_in (Some c) = is_unit c.fields

-- the declared variant of a value
abbrev pub case_of : Declaration → Value → Option Case
case_of d x = slice_get (cases d) x.variant

-- self with the operation in each kept field
abbrev pub changed : Operator → Declaration → Value → List Thing → Thing
changed o d x ys = with_fields x (combined o (fields_in (case_of d x)) x.fields ys)

-- two values: an enum answers with a `Result`
abbrev pub of_two : Operator → Declaration → Value → Value → Thing
of_two o d x y =
    cond (eqb x.variant y.variant)
    (cond (is_unit_in (case_of d x)) (binary_unit o) (ok_if (is_enum d) (changed o d x y.fields)))
    (mismatch o)

-- self afterwards: where the variants differ it stays as it was
abbrev pub after_two : Operator → Declaration → Value → Value → Thing
after_two o d x y = cond (eqb x.variant y.variant) (changed o d x y.fields) (with_fields x x.fields)

-- self and any term, which is the right operand of each field
abbrev pub of_any : Operator → Declaration → Value → Thing → Thing
of_any o d x t = changed o d x (map (λ _. t) x.fields)

-- whether one of them is a unit
abbrev pub some_unit : List Case → Bool
some_unit [] = false
some_unit (c ∷ cs) = is_unit c.fields || some_unit cs

-- whether an enum has a variant without fields, so that it answers with a `Result`
abbrev pub has_unit : Declaration → Bool
has_unit d = cond (is_enum d) (some_unit (cases d)) false

-- self alone
abbrev pub of_one : Operator → Declaration → Value → Thing
of_one o d x =
    cond (has_unit d)
    (cond (is_unit_in (case_of d x)) (unary_unit o) (success (with_fields x (map (λ t. operation o (t ∷ [])) x.fields))))
    (with_fields x (map (λ t. operation o (t ∷ [])) x.fields))

-- ---- the meaning

-- what the method gives; of an assigning operator it is self afterwards
abbrev pub direct_in : Form → Operator → Declaration → Value → Input → Option Thing
direct_in structural o d x (value_input y) = Some (cond o.assigning (after_two o d x y) (of_two o d x y))
direct_in scalar o d x (term_input t) = Some (of_any o d x t)
direct_in unary o d x no_input = Some (of_one o d x)
direct_in _ o d x _ = None

-- of the operator in the form that the declaration gives it
abbrev pub direct : Operator → Declaration → Value → Input → Option Thing
direct o d x y = direct_in (form_in o d) o d x y

-- ---- right sides

-- a term: no field of self or of the right side, and no value of these
abbrev mutual
  pub IsTerm : Thing → Type 0
  IsTerm (place side n) = ⊥
  IsTerm (value (of_side side) n xs) = ⊥
  IsTerm (tuple_of xs) = AreTerms xs
  IsTerm x = Unit {0}

  pub AreTerms : Things → Type 0
  AreTerms no_things = Unit {0}
  AreTerms (thing_then x xs) = IsTerm x × AreTerms xs

-- what may stand right of self
abbrev pub IsRight : Form → Declaration → Input → Type 0
IsRight structural d (value_input y) = IsValue d y
IsRight scalar d (term_input t) = IsTerm t
IsRight unary d no_input = Unit {0}
IsRight _ d _ = ⊥

-- the method gives its meaning for every value, right side and list of outcomes, one for each field of self
pub record Gives (o : Operator) (d : Declaration) (m : MethodTree) : Type 0 where
  pub gives : (x : Value) (y : Input) (os : List Bool) → IsValue d x → IsRight (form_in o d) d y → length os ≡ length x.fields →
      run_method d os m x y ≡ direct o d x y
