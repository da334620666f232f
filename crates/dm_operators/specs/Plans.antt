-- The walk over the places that an operator looks at: its refusals step by step, and the cases that it gives.
use Rattle.std.specs.Prelude.{◌≡◌, List, [], ◌∷◌, map, Bool, false, not, cond, ◌||◌, ◌&&◌, Option, Some, None, Result, Ok, Err}
use Rattle.std.specs.Option.{option_or}
use Rattle.std.specs.declared.alloc.Global.{Global}
use Rattle.std.specs.declared.vec.Vec.{Vec}
use Rattle.dm_stream.specs.declared.tokens.Span.{Span}
use Rattle.dm_stream.specs.declared.error.Error.{Error}
use Rattle.dm_stream.specs.declared.error.Kind.TheVariants.{WrongShape, AllSkipped}
use Rattle.dm_stream.specs.declared.error.Refusal.{Refusal}
use Rattle.dm_ast.specs.declared.plain.Attribute.{Attribute}
use Rattle.dm_ast.specs.Declarations.{Declaration, FieldTree, VariantTree, ShapeTree, struct_shape, enum_shape, union_shape}
use Rattle.dm_output.specs.Values.{Case, is_enum, field_list}
use Rattle.dm_attr.specs.Answers.{IsWalked}
use Rattle.dm_attr.specs.SkipRefusals.{unskipped_refusal}
use Rattle.dm_operands.specs.declared.cases.CaseRef.{CaseRef}
use Rattle.dm_operands.specs.Marked.{MarkedCase, form_of, mark_field}
use Rattle.dm_operands.specs.Places.{attrs_of, first_by}
use Rattle.dm_operands.specs.CaseViews.{case_view}
use Rattle.dm_operators.specs.declared.operator.Form.{Form}
use Rattle.dm_operators.specs.declared.places.Plan.{Plan}
use Rattle.dm_operators.specs.Operators.{Operator}
use Rattle.dm_operators.specs.Table.{form_view}
use Rattle.dm_operators.specs.Attributes.{cases_for, forwards, form_in}
use Rattle.dm_operators.specs.Meaning.{is_unit}
use Rattle.dm_operators.specs.Refusals.{refused_if, skip_refusal, forward_refusal, all_skipped, is_union, is_unit_struct, wrong_if, refusal}

-- ---- refusals, each where no earlier one is

-- of fields: of one's attributes, or that none is left
abbrev pub fields_refusal : Operator → Span → List FieldTree → Option Refusal
fields_refusal o at fs = option_or (first_by (skip_refusal o) (map attrs_of fs)) (refused_if (all_skipped o fs) AllSkipped at)

-- of a variant's fields, which needs none
abbrev pub own_refusal : Operator → VariantTree → Option Refusal
own_refusal o v = cond (is_unit v.fields) None (fields_refusal o v.span (field_list v.fields))

-- of a variant, which isn't skipped itself
abbrev pub variant_refusal : Operator → VariantTree → Option Refusal
variant_refusal o v = option_or (unskipped_refusal o.method v.attrs) (own_refusal o v)

abbrev pub first_variant : Operator → List VariantTree → Option Refusal
first_variant o [] = None
first_variant o (v ∷ vs) = option_or (variant_refusal o v) (first_variant o vs)

-- of a struct's fields, or of an enum's variants; a union has neither
abbrev pub parts_refusal : Operator → ShapeTree → Option Refusal
parts_refusal o (struct_shape word fs) = fields_refusal o word (field_list fs)
parts_refusal o (enum_shape word vs) = first_variant o vs.items
parts_refusal o (union_shape word fs) = Some (record { kind = WrongShape; span = word })

-- with a value of the same type on the right
abbrev pub structural_refusal : Operator → Declaration → Option Refusal
structural_refusal o d =
    option_or (wrong_if (is_union d.shape || o.assigning && is_enum d) d)
    (option_or (unskipped_refusal o.method d.attrs)
    (option_or (wrong_if (is_unit_struct d.shape) d) (parts_refusal o d.shape)))

-- with any value on the right: of the type alone
abbrev pub type_refusal : Operator → Declaration → Option Refusal
type_refusal o d =
    option_or (wrong_if (is_union d.shape || is_unit_struct d.shape || o.assigning && is_enum d) d)
    (option_or (forward_refusal o d.attrs) (wrong_if (not (forwards o d.attrs) && is_enum d) d))

-- and of its parts
abbrev pub scalar_refusal : Operator → Declaration → Option Refusal
scalar_refusal o d = option_or (type_refusal o d) (parts_refusal o d.shape)

-- where no attributes are looked at
abbrev pub whole_refusal : ShapeTree → Option Refusal
whole_refusal (struct_shape word fs) = None
whole_refusal (enum_shape word vs) = None
whole_refusal (union_shape word fs) = Some (record { kind = WrongShape; span = word })

-- without a right side
abbrev pub unary_refusal : Declaration → Option Refusal
unary_refusal d = option_or (wrong_if (is_union d.shape || is_unit_struct d.shape) d) (whole_refusal d.shape)

-- ---- cases

-- a case that isn't skipped itself, with its fields marked so
abbrev pub opened : (List Attribute → Bool) → Case → MarkedCase
opened leaves c =
    record { ident = c.ident; form = form_of c.fields; left_out = false; fields = map (mark_field leaves) (field_list c.fields) }

abbrev pub AreOpened : (List Attribute → Bool) → List Case → List CaseRef → Type 0
AreOpened leaves cs found = map case_view found ≡ map (opened leaves) cs

-- the form in which the operator is implemented for a declaration, and the cases that it works on
pub record IsPlan (o : Operator) (d : Declaration) (p : Plan) : Type 0 where
  pub form : form_view p.form ≡ form_in o d
  pub cases : map case_view p.cases.items ≡ cases_for o d

-- what a declaration is answered with, want of memory aside: a plan, or its first refusal
abbrev pub IsPlanned : Operator → Declaration → Result Plan Error → Type 0
IsPlanned o d r = IsWalked (refusal o d) (IsPlan o d) r

-- the cases in this form
abbrev pub planned : Form → Result (Vec CaseRef Global) Error → Result Plan Error
planned form (Ok cs) = Ok (record { form = form; cases = cs })
planned form (Err e) = Err e
