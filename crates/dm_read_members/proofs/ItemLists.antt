-- An implementation by its parts, and implementations in turn.
use Rattle.std.proofs.Common.{◌≡◌, ℕ, suc, List, Option, Some, None, option_map, refl, ap, ◌∙◌}
use Rattle.dm_stream.specs.Trees.{Trees}
use Rattle.dm_output.specs.Output.{AssocTree, MethodTree, ItemTree}
use Rattle.dm_output.specs.declared.item.ItemAttr.{ItemAttr}
use Rattle.dm_reread.specs.Next.{Next, in_braces, next}
use Rattle.dm_reread.specs.Leaves.{Answer}
use Rattle.dm_reread.specs.Reading.{then}
use Rattle.dm_reread.specs.Items.{HeadTree, braces_of_item, impl_after, read_attrs, read_item, items_with}
use Rattle.dm_reread.specs.ReadBack.{item_leaves}
use Rattle.dm_reread.specs.Whole.{size}
use Rattle.dm_read_places.specs.Repeating.{repeat}
use Rattle.dm_read_heads.proofs.Turned.{behind_same, AllParts, parts_are}
use Rattle.dm_read_members.specs.Rows.{Members, all_assocs, all_methods, all_members, braced, behind_impl, unmarked, made_item, item_turn}

abbrev Items : Type 0
Items = ItemTree × Trees

abbrev Parts : Type 0
Parts = (HeadTree × Members) × Trees

-- ---- what stands behind the attributes

module _ (as' : List ItemAttr) where
  abbrev made : Parts → Option Items
  made b = Some (made_item as' b.0, b.1)

  module _ (h : HeadTree) where
    abbrev with_members : Members → ItemTree
    with_members m = made_item as' (h, m)

    methods_on : (xs : List AssocTree) (o : Option (List MethodTree)) →
        then {B = ItemTree} o (λ ms. Some (with_members (xs, ms))) ≡ option_map with_members (then {B = Members} o (λ ms. Some (xs, ms)))
    methods_on xs None = refl
    methods_on xs (Some ms) = refl

    assocs_on : (o : Answer (List AssocTree)) →
        then {B = ItemTree} o (λ x. then (all_methods x.1) (λ ms. Some (with_members (x.0, ms)))) ≡
        option_map with_members (then {B = Members} o (λ x. then (all_methods x.1) (λ ms. Some (x.0, ms))))
    assocs_on None = refl
    assocs_on (Some x) = methods_on x.0 (all_methods x.1)

    inside_on : (ts : Trees) (o : Option Members) →
        then {B = Items} (option_map with_members o) (λ i. Some (i, ts)) ≡
        then {A = Parts} {B = Items} (then {A = Members × Trees} {B = Parts} (then o (λ m. Some (m, ts))) (λ m. Some ((h, m.0), m.1))) made
    inside_on ts None = refl
    inside_on ts (Some m) = refl

    braces_on : (m : Next) →
        braces_of_item item_leaves as' h m ≡
        then {A = Parts} {B = Items} (then {A = Members × Trees} {B = Parts} (braced m) (λ m. Some ((h, m.0), m.1))) made
    braces_on (in_braces inside ts) =
        ap {B = Option Items} (λ o. then o (λ i. Some (i, ts))) (assocs_on (all_assocs inside)) ∙ inside_on ts (all_members inside)
    braces_on _ = refl

  head_on : (o : Answer HeadTree) →
      then {B = Items} o (λ h. braces_of_item item_leaves as' h.0 (next h.1)) ≡
      then {A = Parts} {B = Items} (then {B = Parts} o (λ h. then {B = Parts} (braced (next h.1)) (λ m. Some ((h.0, m.0), m.1)))) made
  head_on None = refl
  head_on (Some h) = braces_on h.0 (next h.1)

  impl_on : (o : Option Trees) →
      then {B = Items} o (λ us. then (item_leaves.head us) (λ h. braces_of_item item_leaves as' h.0 (next h.1))) ≡
      then {A = Parts} {B = Items} (then o behind_impl) made
  impl_on None = refl
  impl_on (Some us) = head_on (item_leaves.head us)

pub item_is : (ts : Trees) →
    read_item item_leaves ts ≡
    then {B = Items} (read_attrs (suc (size ts)) ts) (λ a. then {A = Parts} {B = Items} (unmarked a.1) (λ b. Some (made_item a.0 b.0, b.1)))
item_is ts = behind_same (λ a. impl_on a.0 (impl_after (next a.1))) (read_attrs (suc (size ts)) ts)

-- ---- turns

pub items_are : (n : ℕ) (ts : Trees) → items_with item_leaves n ts ≡ AllParts (repeat item_turn n ts)
items_are = parts_are (read_item item_leaves) (items_with item_leaves) (λ ts. refl) (λ n ts. refl)
