-- What holds of a declaration that an operator doesn't refuse.
use Rattle.std.proofs.Common.{◌≡◌, ℕ, zero, suc, List, [], ◌∷◌, map, Bool, true, false, not, ◌||◌, ◌&&◌, Some, None, codes, slice_get, refl, sym, ap, ◌∙◌}
use Rattle.std.specs.Prelude.{flat_map}
use Rattle.std.specs.Option.{is_some}
use Rattle.std.specs.Str.{bytes_eq}
use Rattle.std.proofs.lemmas.Slice.Eq.{bytes_eq-Decides}
use Rattle.dm_stream.specs.declared.tokens.Ident.{Ident}
use Rattle.dm_stream.specs.declared.tokens.Span.{Span}
use Rattle.dm_stream.specs.declared.error.Kind.{Kind}
use Rattle.dm_stream.specs.declared.error.Kind.TheVariants.{WrongShape}
use Rattle.dm_stream.specs.Trees.{Trees, no_trees, token}
use Rattle.dm_stream.specs.declared.tokens.Token.TheVariants as t
use Rattle.dm_ast.specs.declared.plain.Attribute.{Attribute}
use Rattle.dm_ast.specs.declared.plain.AttrArgs.{AttrArgs}
use Rattle.dm_ast.specs.declared.plain.AttrArgs.TheVariants as args
use Rattle.dm_ast.specs.Declarations.{Declaration, VariantTree, ShapeTree, struct_shape, enum_shape, union_shape}
use Rattle.dm_output.specs.Values.{Text, Value, Case, case_of_variant, cases_of_shape, is_enum, is_enum_shape}
use Rattle.dm_attr.specs.Skips.{is_spelled, skip_named, skip_in, reads_skip, skip_among, is_yes}
use Rattle.dm_attr.specs.Kinds.{forward_named, forward_in}
use Rattle.dm_operators.specs.Operators.{Form, structural, scalar, unary, Operator}
use Rattle.dm_operators.specs.Attributes.{skipped_by, skips, reads_forward, forwards, form_by, form_in}
use Rattle.dm_operators.specs.Meaning.{is_unit_in, case_of}
use Rattle.dm_operators.specs.Refusals.{first, refused_if, reading_refusal, given_refusal, examined, unskipped_refusals, word_of, is_union, is_unit_struct, wrong_if, variant_refusals, shape_refusals, refusals_by, refusal}
use Rattle.dm_operands.proofs.FirstLaws.{AllNone, first-none, none-front, none-behind}
use Rattle.dm_operators.proofs.BinaryArms.{AreOpen}

-- ---- lists of refusals

pub not-refused : (b : Bool) (k : Kind) (at : Span) → refused_if b k at ≡ None → b ≡ false
not-refused true k at h = absurd cc
not-refused false k at h = refl

pub or-false : (a b : Bool) → (a || b) ≡ false → (a ≡ false) × (b ≡ false)
or-false true b h = absurd cc
or-false false b h = (refl, h)

-- ---- attributes

-- none is given
pub none-given : (as' : List Attribute) → given_refusal as' ≡ None → as' ≡ []
none-given [] h = refl
none-given (a ∷ more) h = absurd cc

-- the word `forward` isn't one that skips
spelled-forward : (i : Ident) → is_spelled (codes "forward") i ≡ true → i.name ≡ codes "forward"
spelled-forward i h =
    (bytes_eq-Decides i.name (codes "forward")).0
    ((elim i.raw as (λ b. (not b && bytes_eq i.name (codes "forward")) ≡ true → bytes_eq i.name (codes "forward") ≡ true)
    [ true ↦ λ k. absurd cc | false ↦ λ k. k ]) h)

other-word : (i : Ident) (w : Text) → i.name ≡ codes "forward" → bytes_eq (codes "forward") w ≡ false → is_spelled w i ≡ false
other-word i w e ne =
    ap (λ (x : Text). not i.raw && bytes_eq x w) e ∙ ap (λ (b : Bool). not i.raw && b) ne ∙
    (elim i.raw as (λ b. (not b && false) ≡ false) [ true ↦ refl | false ↦ refl ])

forward-word : (i : Ident) → is_some (forward_named (Some i)) ≡ true → is_some (skip_named i) ≡ false
forward-word i h =
    (elim (is_spelled (codes "forward") i) as (λ b. is_spelled (codes "forward") i ≡ b → is_some (skip_named i) ≡ false) [
      | true ↦ λ e.
          let name = spelled-forward i e in
          let skip = other-word i (codes "skip") name refl in
          let ignore = other-word i (codes "ignore") name refl in
          rw (skip, ignore) refl
      | false ↦ λ e. let z = rw e at h in absurd cc
    ]) refl

forward-trees : (ts : Trees) → is_some (forward_in ts) ≡ true → is_some (skip_in ts) ≡ false
forward-trees (token (t.Ident i) no_trees) h = forward-word i h
forward-trees ts h = refl

no-skip : (a : AttrArgs) → reads_forward a ≡ true → reads_skip a ≡ false
no-skip args.Absent h = refl
no-skip (args.List d inside) h = forward-trees inside.trees h
no-skip (args.Value o) h = refl

forwarded-alone : (as' : List Attribute) → reading_refusal reads_forward as' ≡ None → is_yes (skip_among as') ≡ false
forwarded-alone [] h = refl
forwarded-alone (a ∷ []) h =
    (elim (reads_forward a.args) as (λ b. reads_forward a.args ≡ b → is_yes (skip_among (a ∷ [])) ≡ false) [
      | true ↦ λ e. let no = no-skip a.args e in rw no refl
      | false ↦ λ e. let z = rw e at h in absurd cc
    ]) refl
forwarded-alone (a ∷ b ∷ more) h = refl

-- whatever the form, a place is left in if no attribute of it says that it is skipped
kept-by : (o : Operator) (attrs : List Attribute) → is_yes (skip_among (examined o attrs)) ≡ false → skips o attrs ≡ false
kept-by o attrs h = elim o.form as (λ f. skipped_by f o.method attrs ≡ false) [ structural ↦ h | scalar ↦ h | unary ↦ refl ]

unskipped : (o : Operator) (attrs : List Attribute) → AllNone (unskipped_refusals o attrs) → skips o attrs ≡ false
unskipped o attrs h = kept-by o attrs (ap (λ (as' : List Attribute). is_yes (skip_among as')) (none-given (examined o attrs) h.1.0))

-- ---- cases

-- no case is skipped, where the type isn't, nor any variant
open-shape : (o : Operator) (attrs : List Attribute) (i : Ident) (k : ShapeTree) → (is_enum_shape k ≡ false → skips o attrs ≡ false) →
    AllNone (shape_refusals o k) →
    (n : ℕ) (c : Case) → slice_get (cases_of_shape attrs i k) n ≡ Some c → skips o c.attrs ≡ false
open-shape o attrs i (struct_shape word fs) own h zero c at = let same : attrs ≡ c.attrs = cc in rw (← same) (own refl)
open-shape o attrs i (struct_shape word fs) own h (suc n) c at = absurd cc
open-shape o attrs i (union_shape word fs) own h zero c at = let same : attrs ≡ c.attrs = cc in rw (← same) (own refl)
open-shape o attrs i (union_shape word fs) own h (suc n) c at = absurd cc
open-shape o attrs i (enum_shape word vs) own h n c at = by-variant vs.items n h at
  where
    by-variant : (xs : List VariantTree) (n : ℕ) → AllNone (flat_map (variant_refusals o) xs) →
        slice_get (map case_of_variant xs) n ≡ Some c → skips o c.attrs ≡ false
    by-variant [] n h at = absurd cc
    by-variant (v ∷ xs) zero h at =
        let same : v.attrs ≡ c.attrs = cc in
        rw (← same) (unskipped o v.attrs (none-front (unskipped_refusals o v.attrs) _
        (none-front (variant_refusals o v) (flat_map (variant_refusals o) xs) h)))
    by-variant (v ∷ xs) (suc n) h at = by-variant xs n (none-behind (variant_refusals o v) (flat_map (variant_refusals o) xs) h) at

-- no variant of an operator without a right side is skipped
open-unary : (o : Operator) (d : Declaration) → o.form ≡ unary → AreOpen o d
open-unary o d e n c at = ap (λ (f : Form). skipped_by f o.method c.attrs) e

open-structural : (o : Operator) (d : Declaration) → AllNone (refusals_by structural o d) → AreOpen o d
open-structural o d h n c at =
    open-shape o d.attrs d.ident d.shape (λ e. unskipped o d.attrs (none-front (unskipped_refusals o d.attrs)
    (wrong_if (is_unit_struct d.shape) d ∷ shape_refusals o d.shape) h.1))
    (none-behind (unskipped_refusals o d.attrs) (wrong_if (is_unit_struct d.shape) d ∷ shape_refusals o d.shape) h.1).1 n c at

open-scalar : (o : Operator) (d : Declaration) → AllNone (refusals_by scalar o d) → AreOpen o d
open-scalar o d h n c at =
    open-shape o d.attrs d.ident d.shape (λ e. kept-by o d.attrs (forwarded-alone (examined o d.attrs) h.1.0)) h.1.1.1 n c at

all-open : (o : Operator) (d : Declaration) (f : Form) → o.form ≡ f → AllNone (refusals_by f o d) → AreOpen o d
all-open o d structural e h = open-structural o d h
all-open o d scalar e h = open-scalar o d h
all-open o d unary e h = open-unary o d e

-- no case of a declaration is skipped
pub unrefused-open : (o : Operator) (d : Declaration) → refusal o d ≡ None → AreOpen o d
unrefused-open o d h = all-open o d o.form refl (first-none (refusals_by o.form o d) h)

-- ---- units

-- a struct that isn't a unit one, where a value isn't an enum's
struct-full : (attrs : List Attribute) (i : Ident) (k : ShapeTree) (n : ℕ) → is_union k ≡ false →
    is_unit_struct k ≡ false → is_enum_shape k ≡ false →
    is_unit_in (slice_get (cases_of_shape attrs i k) n) ≡ false
struct-full attrs i (struct_shape word fs) zero union full struct = full
struct-full attrs i (struct_shape word fs) (suc n) union full struct = refl
struct-full attrs i (enum_shape word vs) n union full struct = absurd cc
struct-full attrs i (union_shape word fs) n union full struct = absurd cc

-- where nothing stands right of self, a struct isn't a unit one
unary-full : (o : Operator) (d : Declaration) (x : Value) → AllNone (refusals_by unary o d) → is_enum d ≡ false →
    is_unit_in (case_of d x) ≡ false
unary-full o d x h struct =
    let shape = or-false (is_union d.shape) (is_unit_struct d.shape) (not-refused _ WrongShape (word_of d.shape) h.0) in
    struct-full d.attrs d.ident d.shape x.variant shape.0 shape.1 struct

pub unrefused-unary : (o : Operator) (d : Declaration) (x : Value) → o.form ≡ unary → refusal o d ≡ None → is_enum d ≡ false →
    is_unit_in (case_of d x) ≡ false
unrefused-unary o d x e h struct = unary-full o d x (first-none (refusals_by unary o d)
    (ap (λ (f : Form). first (refusals_by f o d)) (sym e) ∙ h)) struct

-- where anything may stand right of self, the type is a struct, and no unit one
no-enum : (forwarded enum : Bool) → forwarded ≡ false → (not forwarded && enum) ≡ false → enum ≡ false
no-enum true enum e h = absurd cc
no-enum false enum e h = h

scalar-full : (o : Operator) (d : Declaration) (x : Value) → AllNone (refusals_by scalar o d) → forwards o d.attrs ≡ false →
    is_unit_in (case_of d x) ≡ false
scalar-full o d x h any =
    let wrong = or-false (is_union d.shape || is_unit_struct d.shape) (o.assigning && is_enum d)
    (not-refused _ WrongShape (word_of d.shape) h.0) in
    let shape = or-false (is_union d.shape) (is_unit_struct d.shape) wrong.0 in
    let struct = no-enum (forwards o d.attrs) (is_enum d) any (not-refused _ WrongShape (word_of d.shape) h.1.1.0) in
    struct-full d.attrs d.ident d.shape x.variant shape.0 shape.1 struct

scalar-by : (f : Form) (b : Bool) → form_by f b ≡ scalar → (f ≡ scalar) × (b ≡ false)
scalar-by structural b h = absurd cc
scalar-by scalar true h = absurd cc
scalar-by scalar false h = (refl, refl)
scalar-by unary b h = absurd cc

pub unrefused-scalar : (o : Operator) (d : Declaration) (x : Value) → form_in o d ≡ scalar → refusal o d ≡ None →
    is_unit_in (case_of d x) ≡ false
unrefused-scalar o d x e h =
    let own = scalar-by o.form (forwards o d.attrs) e in
    scalar-full o d x (first-none (refusals_by scalar o d) (ap (λ (f : Form). first (refusals_by f o d)) (sym own.0) ∙ h)) own.1
