-- What the format macros write: the letters of a format, and for each placeholder the argument that it takes (std::fmt).
use Rattle.std.specs.Prelude.{ℕ, zero, suc, ◌+◌, List, [], ◌∷◌, length, map, Bool, false, cond, Option, Some, None, option_map, option_and_then, slice_get}
use Rattle.std.specs.Str.{chars, bytes_eq}
use Rattle.dm_stream.specs.declared.tokens.Ident.{Ident}
use Rattle.dm_lexer.specs.Values.{str_value}
use Rattle.dm_fmtstr.specs.Parts.{Argument, position, name, Format}
use Rattle.dm_fmtstr.specs.Fronts.{behind}
use Rattle.dm_fmtstr.specs.Grammar.{Read, format_at, is_brace}
use Rattle.dm_fmtstr.specs.Positions.{argument_from, stars_of, own}
use Rattle.dm_output.specs.Output.{FmtArgTree, FmtTree}
use Rattle.dm_output.specs.Values.{Text, Thing, apply, tokens, free_name, free_position, no_things, things_of, Pieces, no_pieces, letter_then, placeholder_then, unread_then}

-- a part of a format
pub data Chunk : Type 0 where
  letter : ℕ → Chunk
  placeholder : Format → Chunk

-- the character that `{{`, `}}` or a character that is no brace stands for, and the characters behind
abbrev pub letter_at : List ℕ → Option (List ℕ × Chunk)
letter_at [] = None
letter_at (c ∷ cs) = option_map (λ rest. (rest, letter c)) (cond (is_brace c) (behind c cs) (Some cs))

abbrev pub or_placeholder : Option (List ℕ × Chunk) → Read Format → Option (List ℕ × Chunk)
or_placeholder (Some r) other = Some r
or_placeholder None None = None
or_placeholder None (Some r) = Some (r.0, placeholder r.1)

-- the parts of a format of so many characters at the most, or none where it is no format
abbrev pub chunks : ℕ → List ℕ → Option (List Chunk)
chunks most [] = Some []
chunks zero (c ∷ cs) = None
chunks (suc most) (c ∷ cs) =
    option_and_then (λ r. option_map (λ more. r.1 ∷ more) (chunks most r.0)) (or_placeholder (letter_at (c ∷ cs)) (format_at (c ∷ cs)))

abbrev pub chunks_of : Text → Option (List Chunk)
chunks_of t = chunks (length (chars t)) (chars t)

abbrev pub letters : List ℕ → Pieces
letters [] = no_pieces
letters (c ∷ cs) = letter_then c (letters cs)

-- ---- arguments

-- an argument isn't looked into: it is its tokens
abbrev pub given : FmtArgTree → Thing
given a = apply (tokens a.value) no_things

abbrev pub or_free : Option Thing → Thing → Thing
or_free (Some x) free = x
or_free None free = free

abbrev pub is_called : Text → Option Ident → Bool
is_called x None = false
is_called x (Some i) = bytes_eq x i.name

-- the argument of that alias
abbrev pub aliased : List FmtArgTree → Text → Option Thing
aliased [] x = None
aliased (a ∷ more) x = cond (is_called x a.alias) (Some (given a)) (aliased more x)

abbrev pub first_of : Option Thing → Option Thing → Option Thing
first_of (Some x) o = Some x
first_of None o = o

-- What a placeholder stands for: the argument of that position or alias, else what the name is bound to. What has neither is a term of its own.
abbrev pub resolved : List FmtArgTree → (Text → Option Thing) → Argument → Thing
resolved args bound (position n) = or_free (option_map given (slice_get args n)) (apply (free_position n) no_things)
resolved args bound (name x) = or_free (first_of (aliased args x) (bound x)) (apply (free_name x) no_things)

-- the pieces from the position n on
abbrev pub pieces_from : List FmtArgTree → (Text → Option Thing) → ℕ → List Chunk → Pieces
pieces_from args bound n [] = no_pieces
pieces_from args bound n (letter c ∷ more) = letter_then c (pieces_from args bound n more)
pieces_from args bound n (placeholder f ∷ more) =
    placeholder_then f.spec (resolved args bound (argument_from (n + stars_of f.spec) f.arg)) (pieces_from args bound (n + stars_of f.spec + own f.arg) more)

-- a literal that is no format is one piece with its arguments
abbrev pub pieces_in : FmtTree → (Text → Option Thing) → Option (List Chunk) → Pieces
pieces_in f bound (Some cs) = pieces_from f.args bound 0 cs
pieces_in f bound None = unread_then f.lit (things_of (map given f.args)) no_pieces

abbrev pub pieces : FmtTree → (Text → Option Thing) → Pieces
pieces f bound = pieces_in f bound (option_and_then chunks_of (str_value f.lit.kind f.lit.text))
