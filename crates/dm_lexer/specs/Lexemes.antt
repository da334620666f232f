-- The characters that are lexemes by themselves.
use Rattle.std.specs.Prelude.{ℕ, Bool, ◌||◌, nat_eq, cond, Option, Some, None}
use Rattle.dm_lexer.specs.Characters.{exclamation_mark, number_sign, dollar, percent, ampersand, open_paren, close_paren, star, plus, comma, minus, dot, slash, colon, semicolon, less_than, equals, greater_than, question_mark, at_sign, open_bracket, backslash, close_bracket, caret, open_brace, bar, close_brace, tilde}
pub use Rattle.dm_lexer.specs.TextFronts.{run, IsFront}
use Rattle.dm_stream.specs.declared.tokens.Delim.{Delim}
use Rattle.dm_stream.specs.declared.tokens.Delim.TheVariants.{Paren, Bracket, Brace}

abbrev pub opened_by : ℕ → Option Delim
opened_by c = cond (nat_eq c open_paren) (Some Paren) (cond (nat_eq c open_bracket) (Some Bracket) (cond (nat_eq c open_brace) (Some Brace) None))

abbrev pub closed_by : ℕ → Option Delim
closed_by c = cond (nat_eq c close_paren) (Some Paren) (cond (nat_eq c close_bracket) (Some Bracket) (cond (nat_eq c close_brace) (Some Brace) None))

-- one of `~!@#$%^&*-=+\|;:,<.>/?`
abbrev pub is_punct : ℕ → Bool
is_punct c =
    nat_eq c tilde || nat_eq c exclamation_mark || nat_eq c at_sign || nat_eq c number_sign || nat_eq c dollar || nat_eq c percent || nat_eq c caret || nat_eq c ampersand || nat_eq c star ||
    nat_eq c minus || nat_eq c equals || nat_eq c plus || nat_eq c backslash || nat_eq c bar || nat_eq c semicolon || nat_eq c colon || nat_eq c comma || nat_eq c less_than ||
    nat_eq c dot || nat_eq c greater_than || nat_eq c slash || nat_eq c question_mark
