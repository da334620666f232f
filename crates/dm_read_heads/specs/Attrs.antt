-- What an attribute's brackets hold, tree by tree.
use Rattle.std.specs.Prelude.{◌≡◌, ℕ, ◌==◌, ◌&&◌, not, Bool, false, List, codes, Option, Some, None, MatchOption}
use Rattle.std.specs.Str.{bytes_eq}
use Rattle.dm_stream.specs.declared.cursor.Cursor.{Cursor}
use Rattle.dm_stream.specs.declared.tokens.Delim.TheVariants.{Paren}
use Rattle.dm_stream.specs.declared.tokens.Spacing.{Spacing}
use Rattle.dm_stream.specs.declared.tokens.Spacing.TheVariants.{Joint, Alone}
use Rattle.dm_stream.specs.declared.tokens.Token.TheVariants as t
use Rattle.dm_stream.specs.Cursors.{left}
use Rattle.dm_stream.specs.Trees.{Trees, no_trees, token, group}
use Rattle.dm_output.specs.declared.item.ItemAttr.{ItemAttr}
use Rattle.dm_reread.specs.Next.{Next, hash, in_brackets, next}
use Rattle.dm_reread.specs.Leaves.{Answer}
use Rattle.dm_reread.specs.Reading.{then, provided, is_alone}
use Rattle.dm_reread.specs.Items.{all_attrs, attr_among}
use Rattle.dm_read_places.specs.declared.list.Turn.{Turn}
use Rattle.dm_read_places.specs.declared.list.Turn.TheVariants.{One, End}

-- a place before these trees, or none where there are none
abbrev pub Gives : Option Trees → Option Cursor → Type 0
Gives o place = MatchOption place (o ≡ None) (λ c. o ≡ Some (left c))

-- what stands behind a word
abbrev pub behind_word : List ℕ → Trees → Option Trees
behind_word word (token (t.Ident i) ts) = provided (not i.raw && bytes_eq word i.name) (Some ts)
behind_word word _ = None

-- whether a punct is spaced as one that is wanted
abbrev pub is_spaced : Spacing → Spacing → Bool
is_spaced Alone s = is_alone s
is_spaced Joint s = not (is_alone s)

-- what stands behind a punct that stands alone, or touches what follows
abbrev pub behind_punct : Spacing → ℕ → Trees → Option Trees
behind_punct spacing ch (token (t.Punct p) ts) = provided (is_spaced spacing p.spacing && (ch == p.ch)) (Some ts)
behind_punct spacing ch _ = None

-- the inside of parentheses that nothing follows
abbrev pub in_last_parens : Trees → Option Trees
in_last_parens (group Paren from inside upto no_trees) = Some inside
in_last_parens _ = None

-- the inside of parentheses behind a word
abbrev pub inside_of : List ℕ → Trees → Option Trees
inside_of word ts = then (behind_word word ts) in_last_parens

-- what stands behind `dead_code ,`
abbrev pub behind_dead_code : Trees → Option Trees
behind_dead_code ts = then (behind_word (codes "dead_code") ts) (behind_punct Alone 44)

-- what stands behind `clippy ::`
abbrev pub behind_clippy : Trees → Option Trees
behind_clippy ts = then (behind_word (codes "clippy") ts) (λ us. then (behind_punct Joint 58 us) (behind_punct Alone 58))

-- whether there is something for which a test holds
abbrev pub holds : {A : Type 0} → Option A → (A → Bool) → Bool
holds None test = false
holds (Some x) test = test x

-- ---- lists of attributes

-- an attribute in brackets
abbrev pub attr_at : Next → Answer ItemAttr
attr_at (in_brackets inside ts) = then (attr_among all_attrs inside) (λ a. Some (a, ts))
attr_at _ = None

abbrev pub attr_turn_at : Trees → Next → Answer (Turn ItemAttr (Unit {0}))
attr_turn_at ts (hash us) = then (attr_at (next us)) (λ a. Some (One a.0, a.1))
attr_turn_at ts _ = Some (End tt, ts)

-- `#` and an attribute in brackets
abbrev pub attr_turn : ℕ → Trees → Answer (Turn ItemAttr (Unit {0}))
attr_turn n ts = attr_turn_at ts (next ts)
