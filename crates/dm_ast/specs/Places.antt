-- Places in a list of trees, and how deep it may be there.
use Rattle.std.specs.Prelude.{◌≡◌, ◌<◌, ◌≤◌, ℕ, ◌+◌, ◌||◌, if◌then◌else◌, List, [], ◌∷◌, ◌++◌, codes}
use Rattle.dm_stream.specs.declared.tokens.Span.{Span}
use Rattle.dm_stream.specs.declared.tokens.Token.TheVariants as t
use Rattle.dm_stream.specs.declared.tokens.Entry.{Entry}
use Rattle.dm_stream.specs.declared.tokens.Entry.TheVariants as entry
use Rattle.dm_stream.specs.declared.error.Kind.TheVariants.{TooDeep}
use Rattle.dm_stream.specs.declared.error.Refusal.{Refusal}
use Rattle.dm_stream.specs.Trees.{Trees, flatten}
use Rattle.dm_stream.specs.Cursors.{token_span}
use Rattle.dm_ast.specs.Spelling.{deepest, one_of, is_word}

-- ---- openers: a delimiter that opens, `<`, `&`, `*`, and the words `fn`, `dyn` and `impl`

abbrev pub opens : Entry → ℕ
opens (entry.Token (t.Punct p)) = if one_of (60 ∷ 38 ∷ 42 ∷ []) p.ch then 1 else 0
opens (entry.Token (t.Ident i)) = if is_word (codes "fn") i || (is_word (codes "dyn") i || is_word (codes "impl") i) then 1 else 0
opens (entry.Token (t.Literal l)) = 0
opens (entry.Token (t.Lifetime l)) = 0
opens (entry.Open d from n) = 1
opens (entry.Close d upto) = 0

abbrev pub openers : List Entry → ℕ
openers [] = 0
openers (e ∷ es) = opens e + openers es

-- ---- places

-- where such entries begin: the range of the first token, or the empty one where a list ends
abbrev pub place_of : ℕ → List Entry → Span
place_of limit [] = record { start = limit; «end» = limit }
place_of limit (entry.Token k ∷ es) = token_span k
place_of limit (entry.Open d from n ∷ es) = from
place_of limit (entry.Close d upto ∷ es) = record { start = upto.start; «end» = upto.start }

-- the range is such a place in the trees, whose list ends at the limit
pub record IsPlaceIn (limit : ℕ) (ts : Trees) (range : Span) : Type 0 where
  pub front : List Entry
  pub rest : List Entry
  pub splits : flatten ts ≡ front ++ rest
  pub is : range ≡ place_of limit rest

-- ---- outcomes

-- the others are left behind so many openers, or more
pub record IsBehind (count : ℕ) (ts others : Trees) : Type 0 where
  pub front : List Entry
  pub splits : flatten ts ≡ front ++ flatten others
  pub opened : count ≤ openers front

-- the refusal stands at a place in the trees. Where it is of too deep a token, so many openers stand before the place that, in a list
-- of that level, they are too many
pub record IsRefusedAt (level limit : ℕ) (r : Refusal) (ts : Trees) : Type 0 where
  pub place : IsPlaceIn limit ts r.span
  pub deep : r.kind ≡ TooDeep → deepest < level + openers place.front
