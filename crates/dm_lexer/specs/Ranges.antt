-- What stands in a text at the ranges of its tokens.
use Rattle.std.specs.Prelude.{◌≡◌, ℕ, ◌-◌, ◌<◌, ◌≤◌, List, [], ◌∷◌, take, drop, codes, ⊤}
use Rattle.std.specs.Str.{IsCharBoundary}
use Rattle.dm_stream.specs.declared.tokens.Span.{Span}
use Rattle.dm_stream.specs.declared.tokens.Delim.{Delim}
use Rattle.dm_stream.specs.declared.tokens.Delim.TheVariants.{Paren, Bracket, Brace}
use Rattle.dm_stream.specs.declared.tokens.Entry.{Entry}
use Rattle.dm_stream.specs.declared.tokens.Entry.TheVariants as entry
use Rattle.dm_stream.specs.Trees.{Trees, flatten}
use Rattle.dm_stream.specs.Layout.{spelled}
use Rattle.dm_stream.specs.Cursors.{token_span}

-- the bytes of a text from a range's start to before its end
abbrev pub bytes_in : List ℕ → Span → List ℕ
bytes_in text s = take (s.«end» - s.start) (drop s.start text)

abbrev pub opener : Delim → List ℕ
opener Paren = codes "("
opener Bracket = codes "["
opener Brace = codes "{"

abbrev pub closer : Delim → List ℕ
closer Paren = codes ")"
closer Bracket = codes "]"
closer Brace = codes "}"

-- the range of a token or a delimiter
abbrev pub range_of : Entry → Span
range_of (entry.Token t) = token_span t
range_of (entry.Open d from n) = from
range_of (entry.Close d upto) = upto

-- the characters of a token or a delimiter
abbrev pub spelling : Entry → List ℕ
spelling (entry.Token t) = spelled t
spelling (entry.Open d from n) = opener d
spelling (entry.Close d upto) = closer d

-- the text has this spelling at the range, which is not empty and starts at the byte `from` or behind it
pub record IsSpelledAt (text : List ℕ) (from : ℕ) (s : Span) (spelling : List ℕ) : Type 0 where
  pub behind : from ≤ s.start
  pub some : s.start < s.«end»
  pub starts : IsCharBoundary text s.start
  pub ends : IsCharBoundary text s.«end»
  pub bytes_are : bytes_in text s ≡ spelling

-- the text has each entry's spelling at the entry's range, of which each ends before the next one starts
abbrev pub AreSpelledFrom : List ℕ → ℕ → List Entry → Type 0
AreSpelledFrom text from [] = ⊤
AreSpelledFrom text from (e ∷ es) = IsSpelledAt text from (range_of e) (spelling e) × AreSpelledFrom text (range_of e).«end» es

-- the text has the tokens and delimiters of the trees at their ranges
abbrev pub AreSpelled : List ℕ → Trees → Type 0
AreSpelled text ts = AreSpelledFrom text 0 (flatten ts)
