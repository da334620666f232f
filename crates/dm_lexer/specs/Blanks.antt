-- Blanks, over the characters of a text.
use Rattle.std.specs.Prelude.{◌≡◌, ℕ, zero, suc, ◌+◌, ◌-◌, ◌<◌, Bool, true, false, ◌||◌, ◌&&◌, nat_eq, cond, Option, Some, None, List, [], ◌∷◌, drop}
use Rattle.dm_lexer.specs.Characters.{tab, carriage_return, space, next_line, star, slash, left_to_right_mark, right_to_left_mark, line_separator, paragraph_separator}
use Rattle.std.specs.Int.{is_in_range}
use Rattle.std.specs.Str.{chars}
use Rattle.dm_lexer.specs.declared.words.Class.TheVariants.{Line}
use Rattle.dm_lexer.specs.declared.blanks.Blank.{Blank}
use Rattle.dm_lexer.specs.declared.blanks.Blank.TheVariants.{Absent, Size, Unclosed}
use Rattle.dm_lexer.specs.declared.blanks.Mark.{Mark}
use Rattle.dm_lexer.specs.declared.blanks.Mark.TheVariants.{Opens, Closes, Other}
use Rattle.dm_lexer.specs.TextFronts.{IsFront, run}
pub use Rattle.dm_lexer.specs.TextFronts.{more}
use Rattle.dm_lexer.specs.Words.{begins_pair, passes}

-- U+0009 to U+000D, U+0020, U+0085, U+200E, U+200F, U+2028 and U+2029
abbrev pub is_blank_char : ℕ → Bool
is_blank_char c = is_in_range tab carriage_return c || nat_eq c space || nat_eq c next_line || is_in_range left_to_right_mark right_to_left_mark c || is_in_range line_separator paragraph_separator c

abbrev pub begins_blank_char : List ℕ → Bool
begins_blank_char [] = false
begins_blank_char (c ∷ cs) = is_blank_char c

-- `/*`, `*/` or anything else
abbrev pub mark : ℕ → ℕ → Mark
mark c d = cond (nat_eq c slash && nat_eq d star) Opens (cond (nat_eq c star && nat_eq d slash) Closes Other)

-- what follows two characters: with `/*` one comment more is open, with `*/` one less, and with the last one all is closed
abbrev pub after_mark : Mark → ℕ → Option ℕ → Option ℕ → Option ℕ → Option ℕ
after_mark Opens deep inside outside on = more 2 inside
after_mark Closes zero inside outside on = Some 2
after_mark Closes (suc deep) inside outside on = more 2 outside
after_mark Other deep inside outside on = more 1 on

-- the number of characters up to the `*/` that closes a comment in which `deep` comments are open, with it
abbrev pub comment_closing : ℕ → List ℕ → Option ℕ
comment_closing deep [] = None
comment_closing deep (c ∷ []) = None
comment_closing deep (c ∷ d ∷ cs) = after_mark (mark c d) deep (comment_closing (suc deep) cs) (comment_closing (deep - 1) cs) (comment_closing deep (d ∷ cs))

abbrev pub block : Option ℕ → Blank
block None = Unclosed
block (Some n) = Size (2 + n)

-- the blank at the front: one character, a comment up to before the line's end, or a comment with all that are nested in it
abbrev pub blank_length : List ℕ → Blank
blank_length cs =
    cond (begins_blank_char cs) (Size 1)
    (cond (begins_pair slash slash cs) (Size (2 + run (passes Line) (drop 2 cs)))
    (cond (begins_pair slash star cs) (block (comment_closing 0 (drop 2 cs))) Absent))

-- the blank that the program tells by its bytes is the one that was found by its characters
abbrev pub IsBlank : List ℕ → Blank → Blank → Type 0
IsBlank text Absent found = found ≡ Absent
IsBlank text (Size size) found = (0 < size) × ((count : ℕ) × (found ≡ Size count) × IsFront text size count)
IsBlank text Unclosed found = found ≡ Unclosed

-- the first `size` bytes are one character, which is blank
pub record IsBlankChar (text : List ℕ) (size : ℕ) : Type 0 where
  pub begins : begins_blank_char (chars text) ≡ true
  pub positive : 0 < size
  pub front : IsFront text size 1
