-- No field of a declaration that is let pass has a macro type.
use Rattle.std.proofs.Common.{◌≡◌, ℕ, ◌+◌, true, false, List, [], ◌∷◌, ◌++◌, Option, All, map, flat_map, refl}
use Rattle.std.proofs.lemmas.List.Elements.{All-nil, All-cons, All-head, All-tail}
use Rattle.dm_stream.specs.declared.tokens.Ident.{Ident}
use Rattle.dm_ast.specs.declared.plain.Attribute.{Attribute}
use Rattle.dm_ast.specs.Tree.{TypeTree, type_tree, macro_type}
use Rattle.dm_ast.specs.Declarations.{Listed, FieldTree, FieldsTree, named, unnamed, unit, VariantTree, PredicateTree, ShapeTree, struct_shape, enum_shape, union_shape, Declaration}
use Rattle.dm_ast.specs.Names.{Found, macro_at, is_macro, in_some, declared, types, variants, fields, in_type, in_field, in_fields, in_variants, in_where, in_shape, in_param, Named}
use Rattle.dm_output.specs.Values.{case_of_variant, cases_of_shape, field_list}
use Rattle.dm_head_laws.specs.Parts.{Each}
use Rattle.dm_derived_laws.proofs.NeededAlone.{calls_for, EachField}

-- none of these is a macro type
abbrev NoMacro : List Found → Type 0
NoMacro fs = All (λ f. is_macro f ≡ false) fs

front : (xs ys : List Found) → NoMacro (xs ++ ys) → NoMacro xs
front [] ys h = All-nil (λ f. is_macro f ≡ false)
front (x ∷ xs) ys h =
    All-cons (λ f. is_macro f ≡ false) x xs (All-head (λ f. is_macro f ≡ false) x (xs ++ ys) h)
    (front xs ys (All-tail (λ f. is_macro f ≡ false) x (xs ++ ys) h))

behind : (xs ys : List Found) → NoMacro (xs ++ ys) → NoMacro ys
behind [] ys h = h
behind (x ∷ xs) ys h = behind xs ys (All-tail (λ f. is_macro f ≡ false) x (xs ++ ys) h)

plain_type : (x : TypeTree) → NoMacro (in_type x) → calls_for x ≡ false
plain_type (type_tree (macro_type p d o) range) h =
    let no : true ≡ false = All-head (λ f. is_macro f ≡ false) (macro_at range) [] h in absurd (cc)
plain_type (type_tree _ range) h = refl

plain_list : (n : ℕ) (fs : List FieldTree) → NoMacro (flat_map (in_field n) fs) → Each (λ f. calls_for f.ty ≡ false) fs
plain_list n [] h = tt
plain_list n (f ∷ fs) h =
    let first : NoMacro (in_field n f) = front (in_field n f) (flat_map (in_field n) fs) h in (
      plain_type f.ty (behind (in_some (λ i. declared (fields n) i ∷ []) f.ident) (in_type f.ty) first),
      plain_list n fs (behind (in_field n f) (flat_map (in_field n) fs) h),
    )

plain_fields : (n : ℕ) (fs : FieldsTree) → NoMacro (in_fields n fs) → Each (λ f. calls_for f.ty ≡ false) (field_list fs)
plain_fields n (named fs) h = plain_list n fs.items h
plain_fields n (unnamed fs) h = plain_list n fs.items h
plain_fields n unit h = tt

plain_variants : (n : ℕ) (vs : List VariantTree) → NoMacro (in_variants n vs) →
    Each (λ c. Each (λ f. calls_for f.ty ≡ false) (field_list c.fields)) (map case_of_variant vs)
plain_variants n [] h = tt
plain_variants n (v ∷ vs) h =
    let own : List Found = in_fields n v.fields in
    let rest : List Found = in_variants (n + 1) vs in
    let both : NoMacro (own ++ rest) = All-tail (λ f. is_macro f ≡ false) (declared variants v.ident) (own ++ rest) h in
    (plain_fields n v.fields (front own rest both), plain_variants (n + 1) vs (behind own rest both))

plain_shape : (attrs : List Attribute) (i : Ident) (s : ShapeTree) (c : Option (Listed PredicateTree)) → NoMacro (in_shape s c) →
    Each (λ x. Each (λ f. calls_for f.ty ≡ false) (field_list x.fields)) (cases_of_shape attrs i s)
plain_shape attrs i (struct_shape word (named fs)) c h = (plain_fields 0 (named fs) (behind (in_where c) (in_fields 0 (named fs)) h), tt)
plain_shape attrs i (struct_shape word (unnamed fs)) c h = (plain_fields 0 (unnamed fs) (front (in_fields 0 (unnamed fs)) (in_where c) h), tt)
plain_shape attrs i (struct_shape word unit) c h = (tt, tt)
plain_shape attrs i (enum_shape word vs) c h = plain_variants 0 vs.items (behind (in_where c) (in_variants 0 vs.items) h)
plain_shape attrs i (union_shape word fs) c h = (tt, tt)

-- no field's type is a macro's call: so none begins with the word `for`
pub plain : (d : Declaration) → Named d → EachField (λ x. calls_for x ≡ false) d
plain d n =
    let params : List Found = flat_map in_param d.generics.params.items in
    let rest : List Found = in_shape d.shape d.generics.where_clause in
    let all : NoMacro (params ++ rest) = All-tail (λ f. is_macro f ≡ false) (declared types d.ident) (params ++ rest) n.no_macro in
    plain_shape d.attrs d.ident d.shape d.generics.where_clause (behind params rest all)
