-- How trees are laid out as text: one space stands between two tokens, but none after a joint punct, after an
-- opening parenthesis or bracket, and before a closing one. Both braces of a group have a space inside, of which an
-- empty group keeps one.
use Rattle.std.specs.Prelude.{ℕ, Bool, true, false, List, [], ◌∷◌, ◌++◌, if◌then◌else◌, codes, encode_utf8}
use Rattle.dm_stream.specs.declared.tokens.Span.{Span}
use Rattle.dm_stream.specs.declared.tokens.Delim.{Delim}
use Rattle.dm_stream.specs.declared.tokens.Delim.TheVariants.{Paren, Bracket, Brace}
use Rattle.dm_stream.specs.declared.tokens.Spacing.{Spacing}
use Rattle.dm_stream.specs.declared.tokens.Spacing.TheVariants.{Joint, Alone}
use Rattle.dm_stream.specs.declared.tokens.Token.{Token}
use Rattle.dm_stream.specs.declared.tokens.Token.TheVariants as t
use Rattle.dm_stream.specs.declared.tokens.Entry.{Entry}
use Rattle.dm_stream.specs.declared.tokens.Entry.TheVariants as entry
use Rattle.dm_stream.specs.Trees.{Trees, flatten}

-- the text so far, and whether the next token follows it with no space
pub record Laid : Type 0 where
  pub text : List ℕ
  pub glued : Bool

-- the characters of a token
abbrev pub spelled : Token → List ℕ
spelled (t.Ident i) = if i.raw then codes "r#" ++ i.name else i.name
spelled (t.Lifetime l) = codes "'" ++ l.name
spelled (t.Punct p) = encode_utf8 p.ch
spelled (t.Literal l) = l.text

abbrev pub is_joint : Spacing → Bool
is_joint Joint = true
is_joint Alone = false

-- whether a token is a punct that touches the next token
abbrev pub is_joint_punct : Token → Bool
is_joint_punct (t.Punct p) = is_joint p.spacing
is_joint_punct _ = false

-- the text with a space at its end, where a token is to follow with one
abbrev pub spaced : Laid → List ℕ
spaced s = if s.glued then s.text else s.text ++ codes " "

abbrev pub opened : Laid → Delim → Laid
opened s Paren = record { text = spaced s ++ codes "("; glued = true }
opened s Bracket = record { text = spaced s ++ codes "["; glued = true }
opened s Brace = record { text = spaced s ++ codes "{"; glued = false }

abbrev pub closed : Laid → Delim → Laid
closed s Paren = record { text = s.text ++ codes ")"; glued = false }
closed s Bracket = record { text = s.text ++ codes "]"; glued = false }
closed s Brace = record { text = s.text ++ codes " }"; glued = false }

-- one entry more
abbrev pub laid_one : Laid → Entry → Laid
laid_one s (entry.Token k) = record { text = spaced s ++ spelled k; glued = is_joint_punct k }
laid_one s (entry.Open d from n) = opened s d
laid_one s (entry.Close d upto) = closed s d

-- several entries more
abbrev pub laid : Laid → List Entry → Laid
laid s [] = s
laid s (e ∷ es) = laid (laid_one s e) es

abbrev pub laid_start : Laid
laid_start = record { text = []; glued = true }

-- the text of a list of trees
abbrev pub layout : Trees → List ℕ
layout ts = (laid laid_start (flatten ts)).text

-- after the end of a line
abbrev pub line_ended : Laid → Laid
line_ended s = record { text = s.text ++ 10 ∷ []; glued = true }

-- the range of what is in no text
abbrev pub nowhere : Span
nowhere = record { start = 0; «end» = 0 }

-- a name that isn't raw, as a token
abbrev pub word_token : List ℕ → Token
word_token name = t.Ident record { name = name; raw = false; span = nowhere }

abbrev pub punct_token : ℕ → Spacing → Token
punct_token c spacing = t.Punct record { ch = c; spacing = spacing; span = nowhere }
