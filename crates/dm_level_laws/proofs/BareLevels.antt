-- The levels of implementations without ranges are their levels: levels look at no range. And where no level is too deep, no token is.
use Rattle.std.specs.Prelude.{◌≡◌, ℕ, ◌+◌, ◌≤◌, List, [], ◌∷◌, ◌++◌, map, true, false, cond, nat_lt, Option, option_map, Some, None, Err, refl}
use Rattle.std.proofs.Common.{ap, ap₂, ◌∙◌, arith}
use Rattle.std.proofs.lemmas.Bool.Decides.{nat_tests}
use Rattle.dm_stream.specs.declared.tokens.Entry.{Entry}
use Rattle.dm_ast.specs.Spelling.{deepest}
use Rattle.dm_ast.specs.Tree.{TypeTree, PathTree}
use Rattle.dm_ast.specs.Declarations.{ParamTree, PredicateTree}
use Rattle.dm_output.specs.Output.{AssocTree, ParamOfMethod, MethodTree, ItemTree}
use Rattle.dm_output.specs.declared.item.Receiver.{Receiver}
use Rattle.dm_type_levels.specs.Passing.{first_span, behind_first, pass}
use Rattle.dm_type_levels.specs.TypeLevels.{grouped_levels, spaced_levels, param_levels, predicate_levels}
use Rattle.dm_levels.specs.Levels.{in_turn, params_levels, where_levels, trait_levels, assoc_levels, inputs_levels, output_levels, signature_levels, method_levels, head_levels, item_levels, items_levels, too_deep, deep_in}
use Rattle.dm_type_eq.specs.Unplaced.{unplaced_path, unplaced_type}
use Rattle.dm_reread.specs.Bare.{bare_param, bare_predicate, bare_assoc, bare_param_of, bare_method, bare_item}
use Rattle.dm_reread.specs.Unplaced.{bare_items}
use Rattle.dm_levels.specs.Low.{AllLow}
use Rattle.dm_level_laws.proofs.BareTypeLevels.{map_same, type_same, path_same, param_same, predicate_same}
use Rattle.dm_level_laws.proofs.BareExprLevels.{block_same}

-- ---- heads

pub params_same : (k : ℕ) (ps : List ParamTree) → params_levels k (map bare_param ps) ≡ params_levels k ps
params_same k [] = refl
params_same k (p ∷ ps) =
    ap (λ ls. grouped_levels k (spaced_levels ((k + 1) ∷ []) true ls))
    (map_same (param_levels (k + 1)) bare_param (param_same (k + 1)) (p ∷ ps))

pub where_same : (k : ℕ) (ps : List PredicateTree) → where_levels k (map bare_predicate ps) ≡ where_levels k ps
where_same k [] = refl
where_same k (p ∷ ps) =
    ap (λ ls. k ∷ spaced_levels (k ∷ []) true ls) (map_same (predicate_levels k) bare_predicate (predicate_same k) (p ∷ ps))

pub trait_same : (k : ℕ) (p : Option PathTree) → trait_levels k (option_map unplaced_path p) ≡ trait_levels k p
trait_same k None = refl
trait_same k (Some p) = simp (path_same k p)

pub head_same : (k : ℕ) (i : ItemTree) → head_levels k (bare_item i) ≡ head_levels k i
head_same k i = simp (params_same k i.params, trait_same k i.trait_path, type_same k i.ty, where_same k i.predicates)

-- ---- members

pub assoc_same : (k : ℕ) (a : AssocTree) → assoc_levels k (bare_assoc a) ≡ assoc_levels k a
assoc_same k a = simp (type_same k a.ty)

pub inputs_same : (k : ℕ) (r : Option Receiver) (p : Option ParamOfMethod) →
    inputs_levels k r (option_map bare_param_of p) ≡ inputs_levels k r p
inputs_same k None None = refl
inputs_same k None (Some p) = simp (type_same k p.ty)
inputs_same k (Some r) None = refl
inputs_same k (Some r) (Some p) = simp (type_same k p.ty)

pub output_same : (k : ℕ) (t : Option TypeTree) → output_levels k (option_map unplaced_type t) ≡ output_levels k t
output_same k None = refl
output_same k (Some t) = simp (type_same k t)

pub signature_same : (k : ℕ) (x : MethodTree) → signature_levels k (bare_method x) ≡ signature_levels k x
signature_same k x = simp (inputs_same (k + 1) x.receiver x.param, output_same k x.output)

pub method_same : (k : ℕ) (x : MethodTree) → method_levels k (bare_method x) ≡ method_levels k x
method_same k x = ap₂ (λ l ls. l ++ ls) (signature_same k x) (block_same k x.body)

-- ---- implementations

pub item_same : (i : ItemTree) → item_levels (bare_item i) ≡ item_levels i
item_same i =
    ap₂ (λ head members. head ++ grouped_levels 0 members) (head_same 0 i)
    (ap₂ (λ l ls. in_turn l ++ in_turn ls) (map_same (assoc_levels 1) bare_assoc (assoc_same 1) i.assocs)
    (map_same (method_levels 1) bare_method (method_same 1) i.methods))

pub items_same : (is : List ItemTree) → items_levels (bare_items is) ≡ items_levels is
items_same is = ap in_turn (map_same item_levels bare_item item_same is)

-- ---- levels that are low

not_deep : (l : ℕ) → l ≤ deepest → nat_lt deepest l ≡ false
not_deep l low = grind (arith, nat_tests)

pub low_passes : (ls : List ℕ) (es : List Entry) → AllLow ls → deep_in ls es ≡ None
low_passes [] es low = refl
low_passes (l ∷ ls) es low =
    ap (λ b. too_deep (cond b (Err (first_span es)) (pass ls (behind_first es)))) (not_deep l low.0) ∙ low_passes ls (behind_first es) low.1
