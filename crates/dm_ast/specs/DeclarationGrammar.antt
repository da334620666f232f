-- The grammar of declarations: generics, fields, variants and the three shapes.
use Rattle.std.specs.Prelude.{◌≡◌, ℕ, Bool, true, false, not, ◌&&◌, ◌||◌, List, [], codes, Option, Some, None}
use Rattle.dm_stream.specs.declared.seq.Punctuated.{Punctuated}
use Rattle.dm_stream.specs.declared.tokens.Span.{Span}
use Rattle.dm_stream.specs.declared.tokens.Delim.TheVariants.{Paren, Brace}
use Rattle.dm_stream.specs.declared.tokens.Ident.{Ident}
use Rattle.dm_stream.specs.declared.tokens.Lifetime.{Lifetime}
use Rattle.dm_stream.specs.declared.tokens.Token.TheVariants as t
use Rattle.dm_stream.specs.declared.error.Kind.{Kind}
use Rattle.dm_stream.specs.declared.error.Kind.TheVariants.{TooDeep, Syntax}
use Rattle.dm_stream.specs.Trees.{Trees, no_trees, token, group}
use Rattle.dm_ast.specs.declared.plain.Vis.{Vis}
use Rattle.dm_ast.specs.declared.plain.Vis.TheVariants as vis
use Rattle.dm_ast.specs.declared.plain.Opaque.{Opaque}
use Rattle.dm_ast.specs.Tree.{BoundTree, bounds_of}
use Rattle.dm_ast.specs.Declarations.{Listed, FieldTree, FieldsTree, named, unnamed, unit, VariantTree, ShapeTree, struct_shape, enum_shape, union_shape, ParamTree, lifetime_param, type_param, const_param, PredicateTree, lifetime_predicate, type_predicate, GenericsTree, Declaration}
use Rattle.dm_ast.specs.Spelling.{Where, Marks, first_too_deep, Spelling, Nothing, ◌then◌, Provided, Before, RangedAt, at_end, sees, sees_group, sees_lifetime, sees_word, sees_colon, sees_equals, is_word, ident, lifetime, punct, keyword, colon, equals, GroupAt, flag, perhaps, items}
use Rattle.dm_ast.specs.TypeGrammar.{name, behind_plain, plain_path, attributes, between_angles, for_lifetimes, constant_spelled, type_spelled, bounds}

abbrev pub listed : {A : Type 0} → (Trees → Bool) → (A → Where → Spelling) → Listed A → Where → Spelling
listed ends item xs w = items w 44 ends (λ x. item x w) xs.items xs.trailing

-- ---- visibility

abbrev pub is_whole : Option Trees → Bool
is_whole (Some no_trees) = true
is_whole _ = false

-- one of `crate`, `self`, `super` and `in PATH`, and nothing else
abbrev pub is_restriction : Trees → Bool
is_restriction (token (t.Ident i) no_trees) = is_word (codes "crate") i || is_word (codes "self") i || is_word (codes "super") i
is_restriction (token (t.Ident i) rest) = is_word (codes "in") i && is_whole (behind_plain rest)
is_restriction _ = false

abbrev pub sees_restriction : Trees → Bool
sees_restriction (group Paren from inside upto rest) = is_restriction inside
sees_restriction _ = false

abbrev pub restriction : Where → Vis → Spelling
restriction w vis.Public = Before (λ others. sees_restriction others ≡ false) Nothing
restriction w vis.Crate = GroupAt w Paren (λ v. keyword v (codes "crate"))
restriction w vis.SelfOnly = GroupAt w Paren (λ v. keyword v (codes "self"))
restriction w vis.Super = GroupAt w Paren (λ v. keyword v (codes "super"))
restriction w (vis.In p) = GroupAt w Paren (λ v. keyword v (codes "in") then plain_path v p)

abbrev pub visibility : Where → Option Vis → Spelling
visibility w found = perhaps (sees_word (codes "pub")) found (λ v. keyword w (codes "pub") then restriction w v)

-- ---- generics

-- lifetimes with `+` between, and perhaps one behind the last
abbrev pub lifetime_bounds : Where → Punctuated Lifetime → Spelling
lifetime_bounds w ls = items w 43 (λ ts. not (sees_lifetime ts)) (lifetime w) ls.items ls.trailing

abbrev pub bound_list : Where → Listed BoundTree → Spelling
bound_list w bs = bounds (bounds_of bs.items) bs.trailing w

abbrev pub param : ParamTree → Where → Spelling
param (lifetime_param attrs l bs) w =
    attributes w attrs then (lifetime w l then perhaps sees_colon bs (λ ls. colon w then lifetime_bounds w ls))
param (type_param attrs i bs default) w =
    attributes w attrs then
    (name w i then (perhaps sees_colon bs (λ b. colon w then bound_list w b) then perhaps sees_equals default (λ t. equals w then type_spelled t false w)))
param (const_param attrs i ty default) w =
    attributes w attrs then
    (keyword w (codes "const") then
    (name w i then (colon w then (type_spelled ty false w then perhaps sees_equals default (λ c. equals w then constant_spelled w c)))))

abbrev pub no_params : Listed ParamTree
no_params = record { items = []; trailing = false }

-- without `<` there are no parameters
abbrev pub generics : Bool → Listed ParamTree → Where → Spelling
generics angled params w =
    Provided (angled ≡ false → params ≡ no_params) (flag (sees 60) angled (between_angles w (λ v. listed (sees 62) param params v)))

-- a `for` at the front of a predicate is the predicate's
abbrev pub predicate : PredicateTree → Where → Spelling
predicate (lifetime_predicate l ls) w = lifetime w l then (colon w then lifetime_bounds w ls)
predicate (type_predicate ls t bs) w = for_lifetimes w ls then (type_spelled t false w then (colon w then bound_list w bs))

-- where a list of predicates ends
abbrev pub ends_where : Trees → Bool
ends_where ts = at_end ts || sees_group Brace ts || sees 59 ts

abbrev pub where_clause : Option (Listed PredicateTree) → Where → Spelling
where_clause c w = perhaps (sees_word (codes "where")) c (λ ps. keyword w (codes "where") then listed ends_where predicate ps w)

-- ---- fields and variants

abbrev pub field_name : Option Ident → Where → Spelling
field_name None w = Provided ⊥ Nothing
field_name (Some i) w = name w i then colon w

abbrev pub named_field : FieldTree → Where → Spelling
named_field f w =
    RangedAt f.span (attributes w f.attrs then (visibility w f.vis then (field_name f.ident w then type_spelled f.ty false w)))

abbrev pub slot : FieldTree → Where → Spelling
slot f w =
    Provided (f.ident ≡ None) (RangedAt f.span (attributes w f.attrs then (visibility w f.vis then type_spelled f.ty false w)))

abbrev pub braced : Listed FieldTree → Where → Spelling
braced fs w = GroupAt w Brace (λ v. listed at_end named_field fs v)

abbrev pub slots : Listed FieldTree → Where → Spelling
slots fs w = GroupAt w Paren (λ v. listed at_end slot fs v)

-- the body of a variant
abbrev pub variant_fields : FieldsTree → Where → Spelling
variant_fields (named fs) w = braced fs w
variant_fields (unnamed fs) w = slots fs w
variant_fields unit w = Before (λ others. (sees_group Brace others || sees_group Paren others) ≡ false) Nothing

-- a discriminant: one unit or more up to a comma or the end, as `dm_expr` cuts them
abbrev pub discriminant : (Opaque → Where → Spelling) → Option Opaque → Where → Spelling
discriminant run d w = perhaps sees_equals d (λ o. equals w then run o w)

abbrev pub variant : (Opaque → Where → Spelling) → VariantTree → Where → Spelling
variant run v w =
    RangedAt v.span (attributes w v.attrs then (visibility w v.vis then (name w v.ident then (variant_fields v.fields w then discriminant run v.discriminant w))))

abbrev pub variants : (Opaque → Where → Spelling) → Listed VariantTree → Where → Spelling
variants run vs w = GroupAt w Brace (λ v. listed at_end (variant run) vs v)

-- ---- the three shapes. The first range is that of the word.

abbrev pub keyword_at : Where → List ℕ → Span → Spelling
keyword_at w word range = ident w (record { name = word; raw = false; span = range })

-- what follows the generics of a struct
abbrev pub struct_body : FieldsTree → Option (Listed PredicateTree) → Where → Spelling
struct_body (named fs) c w = where_clause c w then braced fs w
struct_body (unnamed fs) c w = slots fs w then (where_clause c w then punct w 59)
struct_body unit c w = where_clause c w then punct w 59

abbrev pub shape : (Opaque → Where → Spelling) → ShapeTree → Ident → GenericsTree → Where → Spelling
shape run (struct_shape range fs) i g w =
    keyword_at w (codes "struct") range then (name w i then (generics g.angled g.params w then struct_body fs g.where_clause w))
shape run (enum_shape range vs) i g w =
    keyword_at w (codes "enum") range then (name w i then (generics g.angled g.params w then (where_clause g.where_clause w then variants run vs w)))
shape run (union_shape range fs) i g w =
    keyword_at w (codes "union") range then (name w i then (generics g.angled g.params w then (where_clause g.where_clause w then braced fs w)))

-- ---- the whole declaration

abbrev pub declaration : (Opaque → Where → Spelling) → Declaration → Where → Spelling
declaration run d w = attributes w d.attrs then (visibility w d.vis then shape run d.shape d.ident d.generics w)

-- the trees, whose list ends at `limit`, are the tokens of the declaration, all of them, with these marks
pub record DeclarationOf (run : Opaque → Where → Spelling) (d : Declaration) (limit : ℕ) (ts : Trees) (m : Marks) : Type 0 where
  pub spelled : declaration run d (record { level = 0; limit = limit }) ts no_trees m

-- the one declaration of the trees, none of whose tokens is too deep
pub record IsDeclaration (run : Opaque → Where → Spelling) (d : Declaration) (limit : ℕ) (ts : Trees) : Type 0 where
  pub marks : Marks
  pub there : DeclarationOf run d limit ts marks
  pub within : first_too_deep marks ≡ None
  pub only : (e : Declaration) (k : Marks) → DeclarationOf run e limit ts k → (e ≡ d) × (k ≡ marks)

-- every declaration of the trees is too deep, first there; or they have none
abbrev pub IsNoDeclaration : (Opaque → Where → Spelling) → Kind → Span → ℕ → Trees → Type 0
IsNoDeclaration run TooDeep span limit ts = (d : Declaration) (m : Marks) → DeclarationOf run d limit ts m → first_too_deep m ≡ Some span
IsNoDeclaration run Syntax span limit ts = (d : Declaration) (m : Marks) → DeclarationOf run d limit ts m → ⊥
IsNoDeclaration run _ span limit ts = ⊥
