-- The levels of tokens in order, and the entries of a text that have them: up to the first token that stands too deep.
use Rattle.std.specs.Prelude.{◌≡◌, ℕ, nat_lt, cond, Bool, List, [], ◌∷◌, Result, Ok, Err, MatchResult}
use denote.Ref.{Bor}
use Rattle.dm_stream.specs.declared.tokens.Span.{Span}
use Rattle.dm_stream.specs.declared.tokens.Entry.{Entry}
use Rattle.dm_stream.specs.Layout.{nowhere}
use Rattle.dm_ast.specs.Readers.{entry_span}
use Rattle.dm_ast.specs.Spelling.{deepest}

-- the range of the first entry
abbrev pub first_span : List Entry → Span
first_span [] = nowhere
first_span (e ∷ es) = entry_span e

abbrev pub behind_first : List Entry → List Entry
behind_first [] = []
behind_first (e ∷ es) = es

-- the entries behind tokens of these levels, or the range of the first of them that is too deep
abbrev pub pass : List ℕ → List Entry → Result (List Entry) Span
pass [] es = Ok es
pass (l ∷ ls) es = cond (nat_lt deepest l) (Err (first_span es)) (pass ls (behind_first es))

-- the entries behind more tokens
abbrev pub pass_then : List ℕ → Result (List Entry) Span → Result (List Entry) Span
pass_then ms (Ok es) = pass ms es
pass_then ms (Err s) = Err s

-- levels of tokens that may be missing
abbrev pub given : Bool → List ℕ → List ℕ
given there ls = cond there ls []

abbrev pub Passes : List ℕ → List Entry → Result (Bor (List Entry)) Span → Type 0
Passes ls es r = MatchResult r (λ more. pass ls es ≡ Ok more.now) (λ s. pass ls es ≡ Err s)
