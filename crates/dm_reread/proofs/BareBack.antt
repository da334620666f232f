-- What a program that compares its answer's tokens with those read rests on: ranges aside, it answers of just the implementations of the
-- grammar with these tokens.
use Rattle.std.specs.Prelude.{◌≡◌, List, map, option_map, Some, None}
use Rattle.std.proofs.Common.{ap, ◌∙◌, sym, subst}
use Rattle.dm_stream.specs.Trees.{Trees}
use Rattle.dm_lexer.specs.Written.{unplaced}
use Rattle.dm_output.specs.Output.{ItemTree}
use Rattle.dm_output.specs.Tokens.{in_turn, item_trees}
use Rattle.dm_reread.specs.BareReading.{NaturalItems}
use Rattle.dm_reread.specs.Unplaced.{bare_items, HasTokens, AreItemsOf, IsAnswer}
use Rattle.dm_reread.specs.Items.{ItemLeaves, read_items}
use Rattle.dm_reread.specs.ItemGrammar.{ItemGrammar, ItemLaws, AreItems}
use Rattle.dm_reread.proofs.ItemsBack.{complete-items}
use Rattle.dm_reread.proofs.BareItemTokens.{items-bare}
use Rattle.dm_reread.proofs.BareItemRows.{read-items-bare}

-- the comparison may be made of the tokens themselves
pub has-tokens : (is : List ItemTree) (ts : Trees) → unplaced (in_turn (map item_trees is)) ≡ unplaced ts → HasTokens is ts
has-tokens is ts h = sym (items-bare is) ∙ h

pub tokens-had : (is : List ItemTree) (ts : Trees) → HasTokens is ts → unplaced (in_turn (map item_trees is)) ≡ unplaced ts
tokens-had is ts h = items-bare is ∙ h

some-same : {A : Type 0} → (x y : A) → Some x ≡ Some y → x ≡ y
some-same x y h = cc

module _ (g : ItemGrammar) (l : ItemLeaves) (L : ItemLaws g l) (N : NaturalItems l) where
  -- items of the grammar are what is read of their tokens, wherever these stand
  pub items-are-read : (ts : Trees) (is : List ItemTree) → AreItemsOf g is ts →
      option_map bare_items (read_items l ts) ≡ Some (bare_items is)
  items-are-read ts is h = sym (read-items-bare l N ts) ∙ complete-items g l L (unplaced ts) (bare_items is) h.are_items h.has_tokens

  -- where nothing is read, no items of the grammar have the tokens
  pub none-reads-bare : (ts : Trees) (is : List ItemTree) → read_items l ts ≡ None → AreItemsOf g is ts → ⊥
  none-reads-bare ts is n h = let s : None ≡ Some (bare_items is) = ap (option_map bare_items) (sym n) ∙ items-are-read ts is h in cc

  -- items of the grammar with the tokens are those that are read, ranges aside
  pub one-reads-bare : (ts : Trees) (is js : List ItemTree) → read_items l ts ≡ Some is → AreItemsOf g js ts → bare_items js ≡ bare_items is
  one-reads-bare ts is js r h =
      some-same (bare_items js) (bare_items is) (sym (items-are-read ts js h) ∙ ap (option_map bare_items) r)

  -- where the items read do not have the tokens or are not in the grammar, no items of the grammar have them
  pub wrong-reads-bare : (ts : Trees) (is js : List ItemTree) → read_items l ts ≡ Some is → (AreItemsOf g is ts → ⊥) →
      AreItemsOf g js ts → ⊥
  wrong-reads-bare ts is js r w h =
      let same : bare_items js ≡ bare_items is = one-reads-bare ts is js r h in
      let tokens : HasTokens is ts = ap (λ xs. in_turn (map item_trees xs)) (sym same) ∙ h.has_tokens in
      w (record { are_items = subst (AreItems g) same h.are_items; has_tokens = tokens })

  -- so the reading, with that comparison, gives the answer
  pub none-answers : (ts : Trees) → read_items l ts ≡ None → IsAnswer g ts None
  none-answers ts n = λ js h. none-reads-bare ts js n h

  pub one-answers : (ts : Trees) (is : List ItemTree) → read_items l ts ≡ Some is → AreItemsOf g is ts → IsAnswer g ts (Some is)
  one-answers ts is r h = (h, λ js k. one-reads-bare ts is js r k)

  pub wrong-answers : (ts : Trees) (is : List ItemTree) → read_items l ts ≡ Some is → (AreItemsOf g is ts → ⊥) → IsAnswer g ts None
  wrong-answers ts is r w = λ js h. wrong-reads-bare ts is js r w h
