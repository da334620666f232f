-- Parts of methods and implementations that functions of their own read.
use Rattle.std.specs.Prelude.{cond, ℕ, suc, [], ◌∷◌, Bool, true, false, List, Option, Some, None}
use Rattle.dm_stream.specs.declared.tokens.Ident.{Ident}
use Rattle.dm_stream.specs.declared.tokens.Entry.{Entry}
use Rattle.dm_stream.specs.declared.tokens.Entry.TheVariants as entry
use Rattle.dm_stream.specs.Trees.{Trees}
use Rattle.dm_output.specs.Output.{BlockTree, AssocTree, MethodTree, ItemTree}
use Rattle.dm_output.specs.declared.item.ItemAttr.{ItemAttr}
use Rattle.dm_reread.specs.Next.{k_const, k_fn, Next, in_braces, a_word, next}
use Rattle.dm_reread.specs.Leaves.{Answer}
use Rattle.dm_reread.specs.Reading.{then}
use Rattle.dm_reread.specs.Items.{HeadTree, body_after, impl_after, read_method, read_item, read_assocs, read_methods}
use Rattle.dm_reread.specs.ReadBack.{leaves, item_leaves}
use Rattle.dm_reread.specs.Whole.{size}
use Rattle.dm_read_places.specs.declared.list.Turn.{Turn}
use Rattle.dm_read_places.specs.ToEnd.{turn_to_end}
use Rattle.dm_read_heads.specs.Heads.{item_of}
use Rattle.dm_read_heads.specs.Members.{Signature, named_signature, method_of}

-- ---- how many trees there are

abbrev pub is_close : Entry → Bool
is_close (entry.Close d span) = true
is_close _ = false

-- tokens and groups, each group once
abbrev pub opened : List Entry → ℕ
opened [] = 0
opened (e ∷ es) = cond (is_close e) (opened es) (suc (opened es))

-- ---- methods

-- `fn`
abbrev pub fn_at : Bool → Next → Answer Bool
fn_at is_const (a_word k_fn ts) = Some (is_const, ts)
fn_at is_const _ = None

-- `const` perhaps, and `fn`
abbrev pub const_fn : Next → Answer Bool
const_fn (a_word k_const ts) = fn_at true (next ts)
const_fn m = fn_at false m

-- what is behind `fn`: what the method takes and gives, and its body
abbrev pub Behind : Type 0
Behind = (Ident × Signature) × BlockTree

abbrev pub behind_fn : Trees → Answer Behind
behind_fn ts = then (named_signature ts) (λ s. then (body_after leaves (next s.1)) (λ d. Some ((s.0, d.0), d.1)))

-- what is behind the attributes
abbrev pub unnamed : Trees → Answer (Bool × Behind)
unnamed ts = then (const_fn (next ts)) (λ c. then (behind_fn c.1) (λ b. Some ((c.0, b.0), b.1)))

-- the parts together
abbrev pub made_method : List ItemAttr → Bool × Behind → MethodTree
made_method as' b = method_of as' b.0 b.1.0.0 b.1.0.1 b.1.1

abbrev pub method_turn : ℕ → Trees → Answer (Turn MethodTree (Unit {0}))
method_turn n = turn_to_end (read_method leaves)

-- ---- implementations

abbrev pub Members : Type 0
Members = List AssocTree × List MethodTree

-- associated types, as many as there are
abbrev pub all_assocs : Trees → Answer (List AssocTree)
all_assocs ts = read_assocs leaves (suc (size ts)) ts

-- and methods
abbrev pub all_methods : Trees → Option (List MethodTree)
all_methods ts = read_methods leaves (suc (size ts)) ts

abbrev pub all_members : Trees → Option Members
all_members ts = then (all_assocs ts) (λ x. then (all_methods x.1) (λ ms. Some (x.0, ms)))

-- members in braces
abbrev pub braced : Next → Answer Members
braced (in_braces inside ts) = then (all_members inside) (λ m. Some (m, ts))
braced _ = None

-- a head, and the members
abbrev pub behind_impl : Trees → Answer (HeadTree × Members)
behind_impl ts = then (item_leaves.head ts) (λ h. then (braced (next h.1)) (λ m. Some ((h.0, m.0), m.1)))

-- what is behind the attributes
abbrev pub unmarked : Trees → Answer (HeadTree × Members)
unmarked ts = then (impl_after (next ts)) behind_impl

abbrev pub made_item : List ItemAttr → HeadTree × Members → ItemTree
made_item as' b = item_of as' b.0 b.1.0 b.1.1

abbrev pub item_turn : ℕ → Trees → Answer (Turn ItemTree (Unit {0}))
item_turn n = turn_to_end (read_item item_leaves)
