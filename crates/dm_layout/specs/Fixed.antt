-- A text of several tokens that stands in code: the tokens that it is the layout of.
use Rattle.std.specs.Prelude.{ℕ, ◌-◌, Bool, true, false, not, List, [], ◌∷◌, length, cond, ◌&&◌, ◌||◌, eqb, nat_lt, slice_get, Option, Some, None}
use Rattle.std.specs.Str.{bytes_eq}
use Rattle.dm_stream.specs.declared.tokens.Delim.TheVariants.{Paren, Bracket, Brace}
use Rattle.dm_stream.specs.declared.tokens.Spacing.TheVariants.{Joint, Alone}
use Rattle.dm_stream.specs.declared.tokens.Token.TheVariants as t
use Rattle.dm_stream.specs.declared.tokens.Entry.{Entry}
use Rattle.dm_stream.specs.declared.tokens.Entry.TheVariants as entry
use Rattle.dm_stream.specs.Layout.{Laid, laid, laid_start, nowhere, word_token, punct_token}

-- ---- the tokens of a text of words, puncts and delimiters. Two puncts that touch are read as one.

abbrev pub is_letter : ℕ → Bool
is_letter c = (nat_lt 96 c && nat_lt c 123) || (nat_lt 64 c && nat_lt c 91) || (nat_lt 47 c && nat_lt c 58) || eqb c 95

-- none of letters, blanks and delimiters
abbrev pub is_sign : ℕ → Bool
is_sign c = not (is_letter c || eqb c 32 || eqb c 40 || eqb c 41 || eqb c 91 || eqb c 93 || eqb c 123 || eqb c 125)

abbrev pub starts : (ℕ → Bool) → List ℕ → Bool
starts test [] = false
starts test (c ∷ cs) = test c

-- a letter in front of the word that comes first
abbrev pub grown : ℕ → List Entry → List Entry
grown c (entry.Token (t.Ident i) ∷ es) = entry.Token (word_token (c ∷ i.name)) ∷ es
grown c es = es

abbrev pub sign : ℕ → List ℕ → List Entry → List Entry
sign c rest es = entry.Token (punct_token c (cond (starts is_sign rest) Joint Alone)) ∷ es

abbrev pub letter : ℕ → List ℕ → List Entry → List Entry
letter c rest es = cond (starts is_letter rest) (grown c es) (entry.Token (word_token (c ∷ [])) ∷ es)

abbrev pub one_more : ℕ → List ℕ → List Entry → List Entry
one_more c rest es =
    cond (is_letter c) (letter c rest es) (cond (eqb c 32) es (cond (eqb c 40) (entry.Open Paren nowhere 0 ∷ es)
    (cond (eqb c 41) (entry.Close Paren nowhere ∷ es) (cond (eqb c 91) (entry.Open Bracket nowhere 0 ∷ es)
    (cond (eqb c 93) (entry.Close Bracket nowhere ∷ es) (cond (eqb c 123) (entry.Open Brace nowhere 0 ∷ es)
    (cond (eqb c 125) (entry.Close Brace nowhere ∷ es) (sign c rest es))))))))

abbrev pub entries_of : List ℕ → List Entry
entries_of [] = []
entries_of (c ∷ rest) = one_more c rest (entries_of rest)

-- ---- texts that are laid out as they stand

-- `)`, `]`, or the space in front of `}`: nothing stands between these and what is in front
abbrev pub is_tight : Option ℕ → Bool
is_tight None = false
is_tight (Some c) = eqb c 41 || eqb c 93 || eqb c 32

-- `(` or `[`: what follows touches these
abbrev pub is_open : Option ℕ → Bool
is_open None = false
is_open (Some c) = eqb c 40 || eqb c 91

abbrev pub begins_tight : List ℕ → Bool
begins_tight text = is_tight (slice_get text 0)

abbrev pub ends_open : List ℕ → Bool
ends_open text = is_open (slice_get text (length text - 1))

abbrev pub same : Bool → Bool → Bool
same true b = b
same false b = not b

-- whether the first is a closing delimiter, as said
abbrev pub closes_first : Bool → List Entry → Bool
closes_first b [] = false
closes_first b (entry.Token k ∷ es) = not b
closes_first b (entry.Open d from n ∷ es) = not b
closes_first b (entry.Close d upto ∷ es) = b

abbrev pub is_text : Laid → List ℕ → Bool
is_text l text = bytes_eq l.text text && same l.glued (ends_open text)

-- the layout of its tokens is the text itself
abbrev pub is_fixed : List ℕ → Bool
is_fixed text = closes_first (begins_tight text) (entries_of text) && is_text (laid laid_start (entries_of text)) text
