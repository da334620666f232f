-- Trees that have the same tokens and delimiters are the same, ranges aside.
use Rattle.std.proofs.Common.{◌≡◌, true, List, ◌++◌, map, sym, ap, ap₂, ◌∙◌}
use Rattle.std.proofs.lemmas.List.{map-append}
use Rattle.dm_stream.specs.declared.tokens.Entry.{Entry}
use Rattle.dm_stream.specs.Trees.{Trees, join, flatten}
use Rattle.dm_lexer.specs.Written.{unplaced}
use Rattle.dm_same.specs.SameTypes.{all_same, same_entry}
use Rattle.dm_type_eq.proofs.SameTokens.{tokens_join, bare_entry, entries_same, tokens_flat}
use Rattle.dm_type_eq.proofs.UnplacedSame.{same_bare}

-- trees with the same tokens and delimiters
pub same_trees : (ts us : Trees) → all_same same_entry (flatten ts) (flatten us) ≡ true → unplaced ts ≡ unplaced us
same_trees ts us h = same_bare ts us (sym (tokens_flat ts) ∙ entries_same (flatten ts) (flatten us) h ∙ tokens_flat us)

-- trees in front of others, and a front with the same tokens and delimiters before the same others
pub same_split : (own us ts : Trees) (front : List Entry) → flatten ts ≡ front ++ flatten us →
    all_same same_entry (flatten own) front ≡ true → unplaced (join own us) ≡ unplaced ts
same_split own us ts front e h =
    same_bare (join own us) ts
    (tokens_join own us ∙ ap₂ (λ x y. x ++ y) (sym (tokens_flat own) ∙ entries_same (flatten own) front h) (sym (tokens_flat us)) ∙
    sym (map-append bare_entry front (flatten us)) ∙ ap (map bare_entry) (sym e) ∙ tokens_flat ts)
