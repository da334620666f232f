-- Steps that the makers of parameters take.
use Rattle.std.proofs.Common.{◌≡◌, List, [], ◌∷◌, ◌++◌, map, filter, Bool, true, false, cond, None, refl, sym, ap, ◌∙◌}
use Rattle.std.proofs.lemmas.List.{map-append}
use Rattle.dm_stream.specs.declared.tokens.Ident.{Ident}
use Rattle.dm_ast.specs.Tree.{BoundTree}
use Rattle.dm_ast.specs.Declarations.{ParamTree, lifetime_param, type_param, const_param, GenericsTree}
use Rattle.dm_ast.specs.Implementors.{is_lifetime, is_other, bare}
use Rattle.dm_generics.specs.Additions.{bounded, all_bounded}
use Rattle.dm_generics.specs.Split.{impl_params}
use Rattle.dm_generics.proofs.Builders.{bound_steps}

-- ---- bounds that are added to parameters

filter-mapped : {A : Type 0} (k : A → Bool) (f : A → A) → ((x : A) → k (f x) ≡ k x) → (xs : List A) → filter k (map f xs) ≡ map f (filter k xs)
filter-mapped k f same [] = refl
filter-mapped {A} k f same (x ∷ xs) =
    ap (λ b. cond b (f x ∷ filter k (map f xs)) (filter k (map f xs))) (same x) ∙
    ap (λ ys. cond (k x) (f x ∷ ys) ys) (filter-mapped k f same xs) ∙
    elim (k x) as (λ b. cond b (f x ∷ map f (filter k xs)) (map f (filter k xs)) ≡ map f (cond b (x ∷ filter k xs) (filter k xs)))
    [ true ↦ refl | false ↦ refl ]

module _ (bound : Ident → BoundTree) where
  same-lifetime : (p : ParamTree) → is_lifetime (bounded bound p) ≡ is_lifetime p
  same-lifetime (lifetime_param attrs l bounds) = refl
  same-lifetime (type_param attrs i bounds default) = refl
  same-lifetime (const_param attrs i t default) = refl

  same-other : (p : ParamTree) → is_other (bounded bound p) ≡ is_other p
  same-other (lifetime_param attrs l bounds) = refl
  same-other (type_param attrs i bounds default) = refl
  same-other (const_param attrs i t default) = refl

  bare-bounded : (ps : List ParamTree) → map bare (map (bounded bound) ps) ≡ map (bounded bound) (map bare ps)
  bare-bounded [] = refl
  bare-bounded (lifetime_param attrs l bounds ∷ ps) = ap (λ qs. lifetime_param [] l bounds ∷ qs) (bare-bounded ps)
  bare-bounded (type_param attrs i bounds default ∷ ps) = ap (λ qs. bounded bound (type_param [] i bounds None) ∷ qs) (bare-bounded ps)
  bare-bounded (const_param attrs i t default ∷ ps) = ap (λ qs. const_param [] i t None ∷ qs) (bare-bounded ps)

  -- those of an implementation are bounded, whether before or after they are chosen
  pub bounded-params : (g : GenericsTree) → impl_params (all_bounded bound g) ≡ map (bounded bound) (impl_params g)
  bounded-params g =
      let ps : List ParamTree = g.params.items in
      ap (λ qs. map bare qs ++ map bare (filter is_other (map (bounded bound) ps))) (filter-mapped is_lifetime (bounded bound) same-lifetime ps) ∙
      ap (λ qs. map bare (map (bounded bound) (filter is_lifetime ps)) ++ map bare qs) (filter-mapped is_other (bounded bound) same-other ps) ∙
      ap (λ qs. qs ++ map bare (map (bounded bound) (filter is_other ps))) (bare-bounded (filter is_lifetime ps)) ∙
      ap (λ qs. map (bounded bound) (map bare (filter is_lifetime ps)) ++ qs) (bare-bounded (filter is_other ps)) ∙
      sym (map-append (bounded bound) (map bare (filter is_lifetime ps)) (map bare (filter is_other ps)))

pub ruleset param_steps = (bound_steps, map-append, bounded-params)
