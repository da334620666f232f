-- The rows of implementations.
use Rattle.std.proofs.Common.{◌≡◌, ℕ, true, false, Some, None, refl}
use Rattle.std.proofs.lemmas.Grind.{common_steps}
use Rattle.dm_stream.specs.declared.tokens.Delim.TheVariants.{Brace}
use Rattle.dm_stream.specs.Trees.{Trees}
use Rattle.dm_ast.specs.Spelling.{at_end}
use Rattle.dm_output.specs.Output.{ItemTree}
use Rattle.dm_reread.specs.Next.{k_impl, Next, in_braces, a_word}
use Rattle.dm_reread.specs.Reading.{then}
use Rattle.dm_reread.specs.Items.{impl_after, read_item}
use Rattle.dm_reread.specs.ReadBack.{item_leaves}
use Rattle.dm_read_places.specs.declared.front.Keyword.TheVariants as keyword
use Rattle.dm_read_places.specs.declared.list.Turn.{Turn}
use Rattle.dm_read_places.specs.declared.list.Turn.TheVariants.{One, End}
use Rattle.dm_read_places.specs.Fronts.{is_keyword, is_group_next}
use Rattle.dm_read_places.proofs.ToEnd.{turn_ends, turn_goes_on}
use Rattle.dm_read_members.specs.Rows.{braced, item_turn}
use Rattle.dm_read_members.proofs.ItemLists.{item_is, items_are}

pub no_impl : (m : Next) → is_keyword keyword.Impl m ≡ false → impl_after m ≡ None
no_impl (a_word k_impl ts) e = absurd (cc)
no_impl _ e = refl

pub no_members : (m : Next) → is_group_next Brace m ≡ false → braced m ≡ None
no_members (in_braces inside ts) e = absurd (cc)
no_members _ e = refl

pub items_end : (n : ℕ) (ts : Trees) → at_end ts ≡ true → item_turn n ts ≡ Some (End tt, ts)
items_end n = turn_ends (read_item item_leaves)

pub items_more : (n : ℕ) (ts : Trees) → at_end ts ≡ false →
    item_turn n ts ≡ then {A = ItemTree × Trees} {B = Turn ItemTree (Unit {0}) × Trees} (read_item item_leaves ts) (λ a. Some (One a.0, a.1))
items_more n = turn_goes_on (read_item item_leaves)

pub ruleset item_steps = (common_steps, no_impl, no_members, items_end, items_more, item_is, items_are)
