-- Generics with something added. What isn't spoken of stays as it is.
use Rattle.std.specs.Prelude.{ℕ, List, [], ◌∷◌, ◌++◌, map, filter, Bool, true, false, cond, nat_lt, Option, Some, None, codes}
use Rattle.dm_stream.specs.declared.tokens.Ident.{Ident}
use Rattle.dm_ast.specs.Tree.{BoundTree}
use Rattle.dm_ast.specs.Declarations.{Listed, ParamTree, lifetime_param, type_param, const_param, PredicateTree, GenericsTree}
use Rattle.dm_ast.specs.Implementors.{is_lifetime}
use Rattle.dm_generics.specs.Words.{word}
use Rattle.dm_generics.specs.Lists.{separated, items_in}
use Rattle.dm_generics.specs.Parameters.{is_type, is_const}
use Rattle.dm_generics.specs.Bounds.{marker}

-- ---- bounds

-- a bound behind those of a type parameter. A `+` that ends the declared bounds, or a colon without any, stands before the new one
abbrev pub bounded : (Ident → BoundTree) → ParamTree → ParamTree
bounded bound (lifetime_param attrs l bounds) = lifetime_param attrs l bounds
bounded bound (type_param attrs i bounds default) = type_param attrs i (Some (separated (items_in bounds ++ bound i ∷ []))) default
bounded bound (const_param attrs i t default) = const_param attrs i t default

-- each type parameter with a bound more, which may speak of it
abbrev pub all_bounded : (Ident → BoundTree) → GenericsTree → GenericsTree
all_bounded bound g = record g { params = record { items = map (bounded bound) g.params.items; trailing = g.params.trailing } }

-- ---- parameters

-- these parameters between `<` and `>`. A comma that ends the declared ones is gone
abbrev pub with_params : List ParamTree → GenericsTree → GenericsTree
with_params ps g = record g { angled = true; params = separated ps }

-- behind all others
abbrev pub with_param : ParamTree → GenericsTree → GenericsTree
with_param p g = with_params (g.params.items ++ p ∷ []) g

-- lifetimes, types, the new one, consts
abbrev pub behind_types : ParamTree → List ParamTree → List ParamTree
behind_types p ps = filter is_lifetime ps ++ filter is_type ps ++ p ∷ filter is_const ps

abbrev pub with_type_param : ParamTree → GenericsTree → GenericsTree
with_type_param p g = with_params (behind_types p g.params.items) g

-- ---- predicates

-- in front of the declared ones; what stands behind the last one stays
abbrev pub in_front : {A : Type 0} → Listed A → Option (Listed A) → Listed A
in_front extra None = extra
in_front extra (Some xs) = record { items = extra.items ++ xs.items; trailing = xs.trailing }

abbrev pub with_predicates : Listed PredicateTree → GenericsTree → GenericsTree
with_predicates extra g = record g { where_clause = Some (in_front extra g.where_clause) }

-- ---- a new type

-- for so many fields
abbrev pub new_bounds : ℕ → Bool → Option (Listed BoundTree)
new_bounds count sized =
    cond (nat_lt 1 count) (Some (separated (marker false (codes "Copy") ∷ []))) (cond sized None (Some (separated (marker true (codes "Sized") ∷ []))))

abbrev pub new_type : List ℕ → ℕ → Bool → ParamTree
new_type name count sized = type_param [] (word name) (new_bounds count sized) None

abbrev pub with_new_type : List ℕ → ℕ → Bool → Listed PredicateTree → GenericsTree → GenericsTree
with_new_type name count sized extra g = with_type_param (new_type name count sized) (with_predicates extra g)
