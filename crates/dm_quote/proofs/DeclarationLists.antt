-- Lists of parts of declarations: what each part is written with, by its view.
use Rattle.std.proofs.Common.{◌≡◌, List, [], ◌∷◌, map, refl, ap}
use Rattle.dm_ast.specs.declared.decl.Field.{Field}
use Rattle.dm_ast.specs.declared.decl.Variant.{Variant}
use Rattle.dm_ast.specs.declared.decl.GenericParam.{GenericParam}
use Rattle.dm_ast.specs.declared.decl.WherePredicate.{WherePredicate}
use Rattle.dm_ast.specs.Declarations.{field_view, variant_view, param_view, predicate_view}
use Rattle.dm_ast.specs.DeclarationTokens.{field_trees, variant_trees, param_trees, predicate_trees}
use Rattle.dm_quote.proofs.EmitSteps.{emit_steps}

map_again : {A B C : Type 0} (f : B → C) (g : A → B) (xs : List A) → map f (map g xs) ≡ map (λ x. f (g x)) xs
map_again f g [] = refl
map_again f g (x ∷ xs) = ap (λ l. f (g x) ∷ l) (map_again f g xs)

pub fields_written : (xs : List Field) → map field_trees (map field_view xs) ≡ map (λ x. field_trees (field_view x)) xs
fields_written xs = map_again field_trees field_view xs

pub variants_written : (xs : List Variant) → map variant_trees (map variant_view xs) ≡ map (λ x. variant_trees (variant_view x)) xs
variants_written xs = map_again variant_trees variant_view xs

pub params_written : (xs : List GenericParam) → map param_trees (map param_view xs) ≡ map (λ x. param_trees (param_view x)) xs
params_written xs = map_again param_trees param_view xs

pub predicates_written : (xs : List WherePredicate) → map predicate_trees (map predicate_view xs) ≡ map (λ x. predicate_trees (predicate_view x)) xs
predicates_written xs = map_again predicate_trees predicate_view xs

pub ruleset declaration_steps = (emit_steps, fields_written, variants_written, params_written, predicates_written)
