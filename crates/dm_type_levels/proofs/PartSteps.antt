-- Steps of the functions that follow the parts without types.
use Rattle.std.proofs.Common.{◌≡◌, ℕ, ◌+◌, ◌-◌, List, [], ◌∷◌, ◌++◌, refl, ap, ◌∙◌, sym, append_assoc, append-nil, arith}
use Rattle.std.proofs.lemmas.Grind.{common_steps}
use Rattle.dm_stream.specs.declared.tokens.Entry.{Entry}
use Rattle.dm_stream.specs.declared.tokens.Entry.TheVariants as entry
use Rattle.dm_stream.specs.Trees.{Trees, no_trees, token, group, flatten}
use Rattle.dm_type_levels.specs.TypeLevels.{trees_levels, entries_levels}
use Rattle.dm_type_levels.proofs.Passes.{pass_both}

up_down : (k : ℕ) → k + 1 - 1 ≡ k
up_down k = omega arith

-- the levels of a flat form are those of its trees
flat_levels : (ts : Trees) (k : ℕ) (es : List Entry) → entries_levels k (flatten ts ++ es) ≡ trees_levels k ts ++ entries_levels k es
flat_levels no_trees k es = refl
flat_levels (token t rest) k es = ap (λ l. k ∷ l) (flat_levels rest k es)
flat_levels (group d from inside upto rest) k es =
    ap (λ l. k ∷ entries_levels (k + 1) l) (append_assoc (flatten inside) (entry.Close d upto ∷ flatten rest) es) ∙
    ap (λ l. k ∷ l) (flat_levels inside (k + 1) (entry.Close d upto ∷ (flatten rest ++ es))) ∙
    ap (λ j. k ∷ (trees_levels (k + 1) inside ++ j ∷ entries_levels j (flatten rest ++ es))) (up_down k) ∙
    ap (λ l. k ∷ (trees_levels (k + 1) inside ++ k ∷ l)) (flat_levels rest k es) ∙
    sym (ap (λ l. k ∷ l) (append_assoc (trees_levels (k + 1) inside) (k ∷ trees_levels k rest) (entries_levels k es)))

pub flattened_levels : (k : ℕ) (ts : Trees) → entries_levels k (flatten ts) ≡ trees_levels k ts
flattened_levels k ts = ap (entries_levels k) (sym (append-nil (flatten ts))) ∙ flat_levels ts k [] ∙ append-nil (trees_levels k ts)

pub ruleset part_steps = (common_steps, pass_both, flattened_levels)
