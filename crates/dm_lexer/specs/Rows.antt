-- The table of the lexemes, row by row, and the reading of a text by it. A row looks at characters of which the first starts at the
-- byte `at`.
use Rattle.std.specs.Prelude.{◌≡◌, ℕ, zero, suc, ◌+◌, ◌-◌, ◌<◌, Bool, true, false, ◌||◌, cond, Option, Some, None, List, [], ◌∷◌, length, take, drop, encode_utf8}
use Rattle.dm_lexer.specs.Characters.{quote, star, slash}
use Rattle.std.specs.Str.{encode_utf8_all}
use Rattle.dm_stream.specs.declared.tokens.Span.{Span}
use Rattle.dm_stream.specs.declared.tokens.Delim.{Delim}
use Rattle.dm_stream.specs.declared.tokens.Spacing.{Spacing}
use Rattle.dm_stream.specs.declared.tokens.Spacing.TheVariants.{Joint, Alone}
use Rattle.dm_stream.specs.declared.tokens.LitKind.{LitKind}
use Rattle.dm_stream.specs.declared.tokens.LitKind.TheVariants as kind
use Rattle.dm_stream.specs.declared.tokens.Token.TheVariants as t
use Rattle.dm_lexer.specs.declared.lexing.Lexeme.{Lexeme}
use Rattle.dm_lexer.specs.declared.lexing.Lexeme.TheVariants as lexeme
use Rattle.dm_lexer.specs.declared.rows.Found.{Found}
use Rattle.dm_lexer.specs.declared.rows.Found.TheVariants as found
use Rattle.dm_lexer.specs.declared.blanks.Blank.{Blank}
use Rattle.dm_lexer.specs.declared.blanks.Blank.TheVariants.{Absent, Size, Unclosed}
use Rattle.dm_lexer.specs.TextFronts.{IsFront, run}
use Rattle.dm_lexer.specs.Words.{begins_pair, begins_word, word_length, begins_raw_word, raw_word_length, goes_on}
use Rattle.dm_lexer.specs.Numbers.{begins_digit, number_length}
use Rattle.dm_lexer.specs.declared.quotes.Opening.{Opening}
use Rattle.dm_lexer.specs.Quotes.{begins, opening, quoted_length, char_length, lifetime_length}
use Rattle.dm_lexer.specs.Blanks.{blank_length}
use Rattle.dm_lexer.specs.Lexemes.{opened_by, closed_by, is_punct}

-- what a row of the table says: the lexeme and its number of characters; or, where its opening stands there and the row gives
-- none, the number of characters of the range that is refused; or its opening does not stand there
pub data Row : Type 0 where
  gives : Lexeme → ℕ → Row
  refuses : ℕ → Row
  passes : Row

-- the first row whose opening stands there decides
abbrev pub or_row : Row → Row → Row
or_row (gives x n) below = gives x n
or_row (refuses n) below = refuses n
or_row passes below = below

-- the answer of a row whose opening stands there, by the lexeme's number of characters
abbrev pub row_of : Option ℕ → (ℕ → Lexeme) → ℕ → Row
row_of None lexeme_of refused = refuses refused
row_of (Some n) lexeme_of refused = gives (lexeme_of n) n

-- the range of the first n characters
abbrev pub range : ℕ → List ℕ → ℕ → Span
range at cs n = record { start = at; «end» = at + length (encode_utf8_all (take n cs)) }

-- the lexemes of the first n characters

abbrev pub word : ℕ → List ℕ → ℕ → Lexeme
word at cs n = lexeme.Token (t.Ident record { name = encode_utf8_all (take n cs); raw = false; span = range at cs n })

-- the name of a raw identifier is without `r#`
abbrev pub raw_word : ℕ → List ℕ → ℕ → Lexeme
raw_word at cs n = lexeme.Token (t.Ident record { name = drop 2 (encode_utf8_all (take n cs)); raw = true; span = range at cs n })

-- a lifetime's name is without `'`
abbrev pub lifetime : ℕ → List ℕ → ℕ → Lexeme
lifetime at cs n = lexeme.Token (t.Lifetime record { name = drop 1 (encode_utf8_all (take n cs)); span = range at cs n })

abbrev pub literal : LitKind → ℕ → List ℕ → ℕ → Lexeme
literal k at cs n = lexeme.Token (t.Literal record { kind = k; text = encode_utf8_all (take n cs); span = range at cs n })

-- the range of one ASCII character
abbrev pub byte_at : ℕ → Span
byte_at at = record { start = at; «end» = at + 1 }

-- `//` or `/*`
abbrev pub begins_comment : List ℕ → Bool
begins_comment cs = begins_pair slash slash cs || begins_pair slash star cs

abbrev pub begins_punct : List ℕ → Bool
begins_punct [] = false
begins_punct (c ∷ cs) = is_punct c

-- the spacing of a punct before these characters: Joint where they begin with a punct
abbrev pub spacing_before : List ℕ → Spacing
spacing_before cs = cond (begins_comment cs) Alone (cond (begins_punct cs) Joint Alone)

abbrev pub punct : ℕ → ℕ → List ℕ → Lexeme
punct at c cs = lexeme.Token (t.Punct record { ch = c; spacing = spacing_before cs; span = byte_at at })

-- the rows

abbrev pub quoted : ℕ → List ℕ → Option Opening → Row
quoted at cs None = passes
quoted at cs (Some o) = row_of (quoted_length o cs) (literal o.kind at cs) o.size

-- a literal with quotes, but for a Char; where none stands there its opening is refused
abbrev pub quoted_row : ℕ → List ℕ → Row
quoted_row at cs = quoted at cs (opening cs)

-- a Char, else a lifetime
abbrev pub tick : ℕ → List ℕ → Option ℕ → Option ℕ → Row
tick at cs (Some n) name = gives (literal kind.Char at cs n) n
tick at cs None (Some n) = gives (lifetime at cs n) n
tick at cs None None = refuses 1

abbrev pub tick_row : ℕ → List ℕ → Row
tick_row at cs = cond (begins quote cs) (tick at cs (char_length cs) (lifetime_length cs)) passes

-- `r#` and a character that starts an identifier
abbrev pub raw_row : ℕ → List ℕ → Row
raw_row at cs = cond (begins_raw_word cs) (row_of (raw_word_length cs) (raw_word at cs) 2) passes

-- a character that starts an identifier
abbrev pub word_row : ℕ → List ℕ → Row
word_row at cs = cond (begins_word cs) (row_of (word_length cs) (word at cs) 1) passes

-- a digit; where no Int stands there, its longest run of characters that go on with an identifier is refused
abbrev pub number_row : ℕ → List ℕ → Row
number_row at cs = cond (begins_digit cs) (row_of (number_length cs) (literal kind.Int at cs) (run goes_on cs)) passes

abbrev pub opens : ℕ → Option Delim → Row
opens at None = passes
opens at (Some d) = gives (lexeme.Open d (byte_at at)) 1

abbrev pub closes : ℕ → Option Delim → Row
closes at None = passes
closes at (Some d) = gives (lexeme.Close d (byte_at at)) 1

abbrev pub puncts : ℕ → ℕ → List ℕ → Row
puncts at c cs = cond (is_punct c) (gives (punct at c cs) 1) passes

-- a delimiter or a punct; no row begins with another character
abbrev pub mark_row : ℕ → List ℕ → Row
mark_row at [] = passes
mark_row at (c ∷ cs) = or_row (opens at (opened_by c)) (or_row (closes at (closed_by c)) (or_row (puncts at c cs) (refuses 1)))

-- the rows that follow those with quotes
abbrev pub unquoted_row : ℕ → List ℕ → Row
unquoted_row at cs = or_row (raw_row at cs) (or_row (word_row at cs) (or_row (number_row at cs) (mark_row at cs)))

-- the table
unfoldable pub row : ℕ → List ℕ → Row
row at cs =
    or_row (quoted_row at cs) (or_row (tick_row at cs) (unquoted_row at cs))

-- the lexemes before the first fault, and that fault's range
pub record Reading : Type 0 where
  pub lexemes : List Lexeme
  pub fault : Option Span

abbrev pub faulty : Span → Reading
faulty s = record { lexemes = []; fault = Some s }

abbrev pub with_lexeme : Lexeme → Reading → Reading
with_lexeme x r = record { lexemes = x ∷ r.lexemes; fault = r.fault }

-- what a row says, and then what follows as many more characters as are told
abbrev pub read_row : ℕ → List ℕ → Row → (ℕ → Reading) → Reading
read_row at cs (gives x n) next = with_lexeme x (next (n - 1))
read_row at cs (refuses n) next = faulty (range at cs n)
read_row at cs passes next = faulty (range at cs 1)

-- a blank, or else what a row says; of a comment that is not closed, `/*` is refused
abbrev pub read_front : ℕ → List ℕ → Blank → Row → (ℕ → Reading) → Reading
read_front at cs (Size n) found next = next (n - 1)
read_front at cs Unclosed found next = faulty (range at cs 2)
read_front at cs Absent found next = read_row at cs found next

-- what is read in the characters, of which the first starts at the byte `at`, and the first `skip` are passed over
abbrev pub reading : ℕ → ℕ → List ℕ → Reading
reading at skip [] = record { lexemes = []; fault = None }
reading at (suc n) (c ∷ cs) = reading (at + length (encode_utf8 c)) n cs
reading at zero (c ∷ cs) =
    read_front at (c ∷ cs) (blank_length (c ∷ cs)) (row at (c ∷ cs)) (λ more. reading (at + length (encode_utf8 c)) more cs)

-- x is the lexeme that the row gives, and it takes `size` bytes
pub record IsGiven (r : Row) (x : Lexeme) (size : ℕ) (text : List ℕ) : Type 0 where
  pub count : ℕ
  pub row_is : r ≡ gives x count
  pub front : IsFront text size count
  pub positive : 0 < size

-- the row refuses the first `size` bytes
pub record IsRefusing (r : Row) (size : ℕ) (text : List ℕ) : Type 0 where
  pub count : ℕ
  pub row_is : r ≡ refuses count
  pub front : IsFront text size count

-- what the program finds is what the row says, with numbers of bytes
abbrev pub IsFound : Row → Found → List ℕ → Type 0
IsFound r (found.Gives x size) text = IsGiven r x size text
IsFound r (found.Refuses size) text = IsRefusing r size text
IsFound r found.Passes text = r ≡ passes
