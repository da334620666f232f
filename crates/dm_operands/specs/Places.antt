-- The places of a declaration whose attributes are looked at, and the first of them that is refused.
use Rattle.std.specs.Prelude.{◌≡◌, List, [], ◌∷◌, Bool, cond, Option, Some, None, Result, map, flat_map}
use Rattle.std.specs.Option.{option_or}
use Rattle.std.specs.declared.alloc.Global.{Global}
use Rattle.std.specs.declared.vec.Vec.{Vec}
use Rattle.dm_stream.specs.declared.error.Error.{Error}
use Rattle.dm_stream.specs.declared.error.Kind.TheVariants.{WrongShape}
use Rattle.dm_stream.specs.declared.error.Refusal.{Refusal}
use Rattle.dm_ast.specs.declared.plain.Attribute.{Attribute}
use Rattle.dm_ast.specs.Declarations.{Declaration, FieldTree, ShapeTree, struct_shape, enum_shape, union_shape}
use Rattle.dm_output.specs.Values.{Case, cases, field_list}
pub use Rattle.dm_attr.specs.Answers.{IsWalked}
use Rattle.dm_attr.specs.Skips.{is_skipped}
use Rattle.dm_attr.specs.SkipRefusals.{place_refusal}
use Rattle.dm_operands.specs.declared.cases.FieldRef.{FieldRef}
use Rattle.dm_operands.specs.declared.cases.CaseRef.{CaseRef}
use Rattle.dm_operands.specs.Marked.{mark_field, mark_case, marked}
use Rattle.dm_operands.specs.CaseViews.{field_ref_view, case_view}

abbrev pub attrs_of : FieldTree → List Attribute
attrs_of f = f.attrs

-- a variant, or a struct, and its fields in order if it isn't skipped
abbrev pub places : Case → List (List Attribute)
places c = c.attrs ∷ cond (is_skipped c.attrs) [] (map attrs_of (field_list c.fields))

-- the first of some refusals that is there
abbrev pub first : List (Option Refusal) → Option Refusal
first [] = None
first (r ∷ rs) = option_or r (first rs)

-- the first refusal of places, each of which may be refused
abbrev pub first_by : (List Attribute → Option Refusal) → List (List Attribute) → Option Refusal
first_by refuses ps = first (map refuses ps)

abbrev pub first_refusal : List (List Attribute) → Option Refusal
first_refusal ps = first_by place_refusal ps

-- a union is refused, at its word
abbrev pub refused_union : ShapeTree → Option Refusal
refused_union (struct_shape word fs) = None
refused_union (enum_shape word vs) = None
refused_union (union_shape word fs) = Some (record { kind = WrongShape; span = word })

-- what a declaration may be refused for, in order: that it is a union, and each of its places
abbrev pub refusals : Declaration → List (Option Refusal)
refusals d = refused_union d.shape ∷ map place_refusal (flat_map places (cases d))

-- the first refusal of a declaration
abbrev pub refusal : Declaration → Option Refusal
refusal d = first (refusals d)

-- fields, each marked whether it is left out, or the first refusal of one
abbrev pub AreFieldsMarked : (List Attribute → Option Refusal) → (List Attribute → Bool) → List FieldTree → Result (Vec FieldRef Global) Error → Type 0
AreFieldsMarked refuses leaves_out fs r =
    IsWalked (first_by refuses (map attrs_of fs)) (λ x. map field_ref_view x.items ≡ map (mark_field leaves_out) fs) r

-- a case, marked
abbrev pub IsCaseWalked : Case → Result CaseRef Error → Type 0
IsCaseWalked c r = IsWalked (first_refusal (places c)) (λ x. case_view x ≡ mark_case is_skipped c) r

-- the cases, each marked
abbrev pub AreCasesWalked : List Case → Result (Vec CaseRef Global) Error → Type 0
AreCasesWalked cs r = IsWalked (first_refusal (flat_map places cs)) (λ x. map case_view x.items ≡ map (mark_case is_skipped) cs) r

-- these are the cases of the declaration, marked by their attributes
abbrev pub AreCases : Declaration → List CaseRef → Type 0
AreCases d cs = map case_view cs ≡ marked is_skipped d

-- what a declaration is answered with, want of memory aside: its cases, or its first refusal
abbrev pub IsMarking : Declaration → Result (Vec CaseRef Global) Error → Type 0
IsMarking d r = IsWalked (refusal d) (λ x. AreCases d x.items) r
