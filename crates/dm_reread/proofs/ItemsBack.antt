-- Implementations come back from their tokens, one behind the other, and no two lists of them have the same.
use Rattle.std.specs.Prelude.{◌≡◌, ℕ, suc, ◌≤◌, List, [], ◌∷◌, map, length, Some, None, refl}
use Rattle.std.proofs.Common.{ap, ◌∙◌, sym, subst}
use native.Mathlib.Omega.{arith}
use Rattle.dm_stream.specs.Trees.{Trees}
use Rattle.dm_output.specs.Output.{ItemTree}
use Rattle.dm_output.specs.Tokens.{in_turn, item_trees}
use Rattle.dm_reread.specs.Whole.{size}
use Rattle.dm_reread.specs.Items.{ItemLeaves, read_item, items_with, read_items}
use Rattle.dm_reread.specs.ItemGrammar.{ItemGrammar, ItemLaws, AreItems}
use Rattle.dm_reread.specs.Spelled.{AreReadItems}
use Rattle.dm_reread.proofs.Fuel.{size-join}
use Rattle.dm_reread.proofs.PartLists.{parts-row}
use Rattle.dm_reread.proofs.ItemRows.{item-back, item-size}

items-row : (g : ItemGrammar) (l : ItemLeaves) → ItemLaws g l → (n : ℕ) (is : List ItemTree) → AreItems g is → suc (length is) ≤ n →
    items_with l n (in_turn (map item_trees is)) ≡ Some is
items-row g l L = parts-row (read_item l) item_trees (AreItems g) refl (λ i is rest h. (item-back g l L i rest h.0, h.1))

items-size : (is : List ItemTree) → length is ≤ size (in_turn (map item_trees is))
items-size [] = omega arith
items-size (i ∷ is) = omega (arith, size-join (item_trees i) (in_turn (map item_trees is)), item-size i, items-size is)

pub items-back : (g : ItemGrammar) (l : ItemLeaves) → ItemLaws g l → (is : List ItemTree) → AreItems g is →
    read_items l (in_turn (map item_trees is)) ≡ Some is
items-back g l L is h = items-row g l L (suc (size (in_turn (map item_trees is)))) is h (omega (arith, items-size is))

some-same : {A : Type 0} → (x y : A) → Some x ≡ Some y → x ≡ y
some-same x y h = cc

pub unique-items : (g : ItemGrammar) (l : ItemLeaves) → ItemLaws g l → (is js : List ItemTree) → AreItems g is → AreItems g js →
    in_turn (map item_trees is) ≡ in_turn (map item_trees js) → is ≡ js
unique-items g l L is js h h' same = some-same is js (sym (items-back g l L is h) ∙ ap (read_items l) same ∙ items-back g l L js h')

-- a text that some implementations spell is read, and as those
pub complete-items : (g : ItemGrammar) (l : ItemLeaves) → ItemLaws g l → (ts : Trees) (is : List ItemTree) → AreItems g is →
    in_turn (map item_trees is) ≡ ts →
    read_items l ts ≡ Some is
complete-items g l L ts is h same = ap (read_items l) (sym same) ∙ items-back g l L is h

-- ---- what a comparison of the answer with the text shows

pub none-reads-items : (g : ItemGrammar) (l : ItemLeaves) → ItemLaws g l → (ts : Trees) (is : List ItemTree) → read_items l ts ≡ None →
    AreReadItems g is ts → ⊥
none-reads-items g l L ts is n h = let s : read_items l ts ≡ Some is = complete-items g l L ts is h.are_items h.spell in cc

pub wrong-reads-items : (g : ItemGrammar) (l : ItemLeaves) → ItemLaws g l → (ts : Trees) (is js : List ItemTree) →
    read_items l ts ≡ Some is →
    (AreReadItems g is ts → ⊥) → AreReadItems g js ts → ⊥
wrong-reads-items g l L ts is js r w h =
    let s : read_items l ts ≡ Some js = complete-items g l L ts js h.are_items h.spell in
    let same : js ≡ is = some-same js is (sym s ∙ r) in
    w (subst (λ x. AreReadItems g x ts) same h)

pub one-reads-items : (g : ItemGrammar) (l : ItemLeaves) → ItemLaws g l → (ts : Trees) (is js : List ItemTree) → AreReadItems g is ts →
    AreReadItems g js ts → is ≡ js
one-reads-items g l L ts is js h h' = unique-items g l L is js h.are_items h'.are_items (h.spell ∙ sym h'.spell)
