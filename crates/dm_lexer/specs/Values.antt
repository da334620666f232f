-- The values of strings and raw strings.
use Rattle.std.specs.Prelude.{ℕ, Bool, true, false, nat_lt, cond, Option, Some, None, option_map, List, [], ◌∷◌, length, drop, IsSome, ⊤, ◌≡◌}
use Rattle.std.specs.Str.{chars, encode_utf8_all, IsUtf8}
use Rattle.dm_stream.specs.declared.tokens.LitKind.{LitKind}
use Rattle.dm_stream.specs.declared.tokens.LitKind.TheVariants as kind
use Rattle.dm_stream.specs.declared.tokens.Token.{Token}
use Rattle.dm_stream.specs.declared.tokens.Token.TheVariants as t
use Rattle.dm_lexer.specs.declared.quotes.Opening.{Opening}
use Rattle.dm_lexer.specs.Quotes.{opening, quoted_length, closes_raw, meaning, meant_with}
use Rattle.dm_stream.specs.Trees.{Trees, no_trees, token, group}
use Rattle.dm_lexer.specs.Nesting.{IsTreesOf}

-- the bytes of what a segment of a string means
abbrev pub meant_bytes : Option ℕ → List ℕ
meant_bytes means = encode_utf8_all (meant_with means [])

-- the characters up to the first quote that `hashes` `#` follow
abbrev pub raw_meaning : ℕ → List ℕ → List ℕ
raw_meaning hashes [] = []
raw_meaning hashes (c ∷ cs) = cond (closes_raw hashes c cs) [] (c ∷ raw_meaning hashes cs)

-- a literal of so many characters has nothing behind it
abbrev pub takes_all : Option ℕ → List ℕ → Bool
takes_all None cs = false
takes_all (Some n) cs = cond (nat_lt n (length cs)) false true

abbrev pub whole_by : Option Opening → List ℕ → Option Opening
whole_by None cs = None
whole_by (Some o) cs = cond (takes_all (quoted_length o cs) cs) (Some o) None

-- the opening of the literal with quotes that all of the characters spell
abbrev pub whole_opening : List ℕ → Option Opening
whole_opening cs = whole_by (opening cs) cs

-- what a literal of the first kind means, by its opening's kind, its `#` and the characters behind its opening
abbrev pub meant_behind : LitKind → LitKind → ℕ → List ℕ → Option (List ℕ)
meant_behind kind.Str kind.Str hashes cs = Some (meaning 0 cs)
meant_behind kind.RawStr kind.RawStr hashes cs = Some (raw_meaning hashes cs)
meant_behind k l hashes cs = None

abbrev pub meant : LitKind → Option Opening → List ℕ → Option (List ℕ)
meant k None cs = None
meant k (Some o) cs = meant_behind k o.kind o.hashes (drop o.size cs)

-- the value of a literal, of its kind and its bytes
abbrev pub str_value : LitKind → List ℕ → Option (List ℕ)
str_value k text = option_map encode_utf8_all (meant k (whole_opening (chars text)) (chars text))

-- the law: a string that stands among the trees of a text has a value

abbrev pub is_string : LitKind → Bool
is_string kind.Str = true
is_string kind.RawStr = true
is_string k = false

abbrev pub HasValue : Token → Type 0
HasValue (t.Literal l) = is_string l.kind ≡ true → IsSome (str_value l.kind l.text)
HasValue x = ⊤

abbrev pub AllHaveValues : Trees → Type 0
AllHaveValues no_trees = ⊤
AllHaveValues (token t rest) = HasValue t × AllHaveValues rest
AllHaveValues (group d from inside upto rest) = AllHaveValues inside × AllHaveValues rest

abbrev pub StringsHaveValues : Type 0
StringsHaveValues = (text : List ℕ) (ts : Trees) → IsUtf8 text → IsTreesOf text ts → AllHaveValues ts
