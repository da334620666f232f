-- A search among trees is one among the entries of their flat form.
use Rattle.std.proofs.Common.{◌≡◌, ℕ, ◌||◌, List, ◌∷◌, refl, sym, ap, ap₂, ◌∙◌}
use Rattle.std.specs.List.{list_any}
use Rattle.std.proofs.lemmas.List.Folds.{list_any-append}
use Rattle.dm_stream.specs.Trees.{Trees, no_trees, token, group, flatten}
use Rattle.dm_stream.specs.declared.tokens.Entry.TheVariants as entry
use Rattle.dm_searches.specs.declared.names.Sort.{Sort}
use Rattle.dm_searches.specs.Mentions.{is_token, is_entry, in_trees}

pub in_trees_flat : (s : Sort) (n : List ℕ) (ts : Trees) → in_trees s n ts ≡ list_any (is_entry s n) (flatten ts)
in_trees_flat s n no_trees = refl
in_trees_flat s n (token k rest) = ap (λ b. is_token s n k || b) (in_trees_flat s n rest)
in_trees_flat s n (group d from inside upto rest) =
    ap₂ (λ a b. a || b) (in_trees_flat s n inside) (in_trees_flat s n rest) ∙
    sym (list_any-append (is_entry s n) (flatten inside) (entry.Close d upto ∷ flatten rest))
