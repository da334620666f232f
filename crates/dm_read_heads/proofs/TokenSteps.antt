-- The tokens of heads, by those of their parts.
use Rattle.std.proofs.Common.{◌≡◌, List, [], ◌∷◌, map, Some, None, Result, true, OnOk, refl, ap₂, subst}
use Rattle.std.proofs.lemmas.Grind.{common_steps}
use Rattle.dm_stream.specs.declared.tokens.Span.{Span}
use Rattle.dm_stream.specs.Layout.{nowhere}
use Rattle.dm_stream.specs.Trees.{Trees, join, join-no_trees, join_assoc}
use Rattle.dm_ast.specs.declared.decl.GenericParam.{GenericParam}
use Rattle.dm_ast.specs.declared.decl.WherePredicate.{WherePredicate}
use Rattle.dm_ast.specs.Declarations.{param_view, predicate_view, ParamTree, lifetime_param, type_param, const_param, PredicateTree, lifetime_predicate, type_predicate}
use Rattle.dm_ast.specs.DeclarationTokens as decl
use Rattle.dm_ast.specs.TypeTokens.{spaced, punct}
use Rattle.dm_output.specs.Tokens.{param_trees, predicate_trees}
use Rattle.dm_quote.proofs.Appending.{partly_none}

-- parameters and predicates are written as in declarations
param_same : (p : ParamTree) → decl.param_trees p ≡ param_trees p
param_same (lifetime_param attrs l None) = refl
param_same (lifetime_param attrs l (Some ls)) = refl
param_same (type_param attrs i None None) = refl
param_same (type_param attrs i None (Some t)) = refl
param_same (type_param attrs i (Some bs) None) = refl
param_same (type_param attrs i (Some bs) (Some t)) = refl
param_same (const_param attrs i t None) = refl
param_same (const_param attrs i t (Some c)) = refl

predicate_same : (p : PredicateTree) → decl.predicate_trees p ≡ predicate_trees p
predicate_same (lifetime_predicate l ls) = refl
predicate_same (type_predicate ls t bs) = refl

each_same : {A B : Type 0} (view : A → B) (f g : B → Trees) → ((x : B) → f x ≡ g x) → (xs : List A) →
    map (λ x. f (view x)) xs ≡ map g (map view xs)
each_same view f g e [] = refl
each_same view f g e (x ∷ xs) = ap₂ (λ y ys. y ∷ ys) (e (view x)) (each_same view f g e xs)

pub params_same : (ps : List GenericParam) → map (λ p. decl.param_trees (param_view p)) ps ≡ map param_trees (map param_view ps)
params_same ps = each_same param_view decl.param_trees param_trees param_same ps

pub predicates_same : (ps : List WherePredicate) →
    map (λ p. decl.predicate_trees (predicate_view p)) ps ≡ map predicate_trees (map predicate_view ps)
predicates_same ps = each_same predicate_view decl.predicate_trees predicate_trees predicate_same ps

-- what is written with commas between is written so as well, at the range of what stands nowhere
pub written_as : {A E : Type 0} (r : Result A E) (out old : Trees) (s : Span) (xs ys : List Trees) → s ≡ nowhere → xs ≡ ys →
    OnOk r (out ≡ join old (spaced (punct 44 s) true xs)) → OnOk r (out ≡ join old (spaced (punct 44 nowhere) true ys))
written_as r out old s xs ys e f h =
    subst (λ zs. OnOk r (out ≡ join old (spaced (punct 44 nowhere) true zs))) f (subst (λ z. OnOk r (out ≡ join old (spaced (punct 44 z) true xs))) e h)

pub ruleset token_steps = (common_steps, join-no_trees, join_assoc, partly_none)
