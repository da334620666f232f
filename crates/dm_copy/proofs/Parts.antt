-- Parts of a declaration with what stands for `Self`, put together.
use Rattle.std.proofs.Common.{◌≡◌, List, Option, option_map, ap, sym, ◌∙◌}
use Rattle.dm_stream.specs.declared.seq.Punctuated.{Punctuated}
use Rattle.dm_stream.specs.declared.tokens.Ident.{Ident}
use Rattle.dm_stream.specs.declared.tokens.Lifetime.{Lifetime}
use Rattle.dm_ast.specs.declared.plain.Attribute.{Attribute}
use Rattle.dm_ast.specs.declared.plain.ConstArg.{ConstArg}
use Rattle.dm_ast.specs.declared.plain.Opaque.{Opaque}
use Rattle.dm_ast.specs.declared.plain.Vis.{Vis}
use Rattle.dm_ast.specs.declared.ty.Bound.{Bound}
use Rattle.dm_ast.specs.declared.ty.Ty.{Ty}
use Rattle.dm_ast.specs.declared.decl.ConstParam.{ConstParam}
use Rattle.dm_ast.specs.declared.decl.Data.{Data}
use Rattle.dm_ast.specs.declared.decl.DeriveInput.{DeriveInput}
use Rattle.dm_ast.specs.declared.decl.Field.{Field}
use Rattle.dm_ast.specs.declared.decl.Fields.{Fields}
use Rattle.dm_ast.specs.declared.decl.Generics.{Generics}
use Rattle.dm_ast.specs.declared.decl.LifetimeParam.{LifetimeParam}
use Rattle.dm_ast.specs.declared.decl.TyParam.{TyParam}
use Rattle.dm_ast.specs.declared.decl.Variant.{Variant}
use Rattle.dm_ast.specs.declared.decl.WherePredicate.{WherePredicate}
use Rattle.dm_ast.specs.declared.decl.WherePredicate.TheVariants as w
use Rattle.dm_ast.specs.Tree.{SegmentTree, ty_view, bound_view}
use Rattle.dm_ast.specs.Declarations.{lifetime_param, type_param, const_param, type_predicate, predicate_view, listed, field_view, fields_view, variant_view, shape_view, generics_view, declaration_view}
use Rattle.dm_copy.specs.Replaced.{replaced_type, replaced_bound_list, replaced_param, replaced_predicate, replaced_field, replaced_fields, replaced_variant, replaced_shape, replaced_generics, replaced_declaration}

pub field_made : (own : Option SegmentTree) (f : Field) (as' : List Attribute) (v : Option Vis) (i : Option Ident) (t : Ty) →
    as' ≡ f.attrs → v ≡ f.vis → i ≡ f.ident → ty_view t ≡ replaced_type own (ty_view f.ty) →
    field_view (record { attrs = as'; vis = v; ident = i; ty = t; span = f.span }) ≡ replaced_field own (field_view f)
field_made own f as' v i t attrs vis ident ty = λ k. record { attrs = attrs k; vis = vis k; ident = ident k; ty = ty k; span = f.span }

pub variant_made : (own : Option SegmentTree) (w : Variant) (as' : List Attribute) (v : Option Vis) (i : Ident) (fs : Fields) (d : Option Opaque) →
    as' ≡ w.attrs → v ≡ w.vis → i ≡ w.ident → fields_view fs ≡ replaced_fields own (fields_view w.fields) → d ≡ w.discriminant →
    variant_view (record { attrs = as'; vis = v; ident = i; fields = fs; discriminant = d; span = w.span }) ≡ replaced_variant own (variant_view w)
variant_made own w as' v i fs d attrs vis ident fields value =
    λ k. record { attrs = attrs k; vis = vis k; ident = ident k; fields = fields k; discriminant = value k; span = w.span }

pub type_param_made : (own : Option SegmentTree) (p : TyParam) (as' : List Attribute) (i : Ident) (bs : Option (Punctuated Bound)) (o : Option Ty) →
    as' ≡ p.attrs → i ≡ p.ident →
    option_map (listed bound_view) bs ≡ option_map (replaced_bound_list own) (option_map (listed bound_view) p.bounds) →
    option_map ty_view o ≡ option_map (replaced_type own) (option_map ty_view p.default_ty) →
    type_param as' i (option_map (listed bound_view) bs) (option_map ty_view o) ≡
    replaced_param own (type_param p.attrs p.ident (option_map (listed bound_view) p.bounds) (option_map ty_view p.default_ty))
type_param_made own p as' i bs o attrs ident bounds default = λ k. type_param (attrs k) (ident k) (bounds k) (default k)

pub const_param_made : (own : Option SegmentTree) (p : ConstParam) (as' : List Attribute) (i : Ident) (t : Ty) (o : Option ConstArg) →
    as' ≡ p.attrs → i ≡ p.ident → ty_view t ≡ replaced_type own (ty_view p.ty) → o ≡ p.default_value →
    const_param as' i (ty_view t) o ≡ replaced_param own (const_param p.attrs p.ident (ty_view p.ty) p.default_value)
const_param_made own p as' i t o attrs ident ty default = λ k. const_param (attrs k) (ident k) (ty k) (default k)

pub declaration_made : (own : Option SegmentTree) (d : DeriveInput) (as' : List Attribute) (v : Option Vis) (i : Ident) (g : Generics) (k : Data) →
    as' ≡ d.attrs → v ≡ d.vis → i ≡ d.ident → generics_view g ≡ replaced_generics own (generics_view d.generics) →
    shape_view k ≡ replaced_shape own (shape_view d.shape) →
    declaration_view (record { attrs = as'; vis = v; ident = i; generics = g; shape = k }) ≡ replaced_declaration own (declaration_view d)
declaration_made own d as' v i g k attrs vis ident generics shape =
    λ j. record { attrs = attrs j; vis = vis j; ident = ident j; generics = generics j; shape = shape j }

pub lifetime_param_made : (p : LifetimeParam) (as' : List Attribute) (l : Lifetime) (bs : Option (Punctuated Lifetime)) →
    as' ≡ p.attrs → l ≡ p.lifetime → bs ≡ p.bounds → lifetime_param as' l bs ≡ lifetime_param p.attrs p.lifetime p.bounds
lifetime_param_made p as' l bs attrs lifetime bounds = λ k. lifetime_param (attrs k) (lifetime k) (bounds k)

pub type_predicate_made : (own : Option SegmentTree) (k : WherePredicate) (l m : Option (Punctuated Lifetime)) (t u : Ty) (bs cs : Punctuated Bound) →
    k ≡ w.Ty m u cs → l ≡ m → ty_view t ≡ replaced_type own (ty_view u) →
    listed bound_view bs ≡ replaced_bound_list own (listed bound_view cs) →
    predicate_view (w.Ty l t bs) ≡ replaced_predicate own (predicate_view k)
type_predicate_made own k l m t u bs cs is lifetimes ty bounds =
    (λ j. type_predicate (lifetimes j) (ty j) (bounds j)) ∙ ap (λ z. replaced_predicate own (predicate_view z)) (sym is)
