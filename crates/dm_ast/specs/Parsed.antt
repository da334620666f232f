-- What a list of trees is read as: the one declaration that it spells, or why there is none.
use Rattle.std.specs.Prelude.{◌≡◌, ◌<◌, ℕ, Some}
use Rattle.dm_stream.specs.declared.tokens.Span.{Span}
use Rattle.dm_stream.specs.declared.error.Error.{Error}
use Rattle.dm_stream.specs.declared.error.Error.TheVariants as error
use Rattle.dm_stream.specs.declared.error.Kind.{Kind}
use Rattle.dm_stream.specs.declared.error.Kind.TheVariants.{TooDeep, Syntax}
use Rattle.dm_stream.specs.Trees.{Trees}
use Rattle.dm_ast.specs.Declarations.{Declaration}
use Rattle.dm_ast.specs.Spelling.{Marks, deepest, first_too_deep}
use Rattle.dm_ast.specs.DeclarationGrammar.{DeclarationOf, IsDeclaration}
use Rattle.dm_ast.specs.Runs.{run}
use Rattle.dm_ast.specs.Places.{openers, IsPlaceIn}

-- the declaration's tokens are these trees, whose list ends at `limit`; the marks are the level and the range of each token
abbrev pub SpelledBy : Declaration → ℕ → Trees → Marks → Type 0
SpelledBy d limit ts m = DeclarationOf run d limit ts m

-- the one declaration with these trees, no token of which is too deep
abbrev pub IsTheDeclaration : Declaration → ℕ → Trees → Type 0
IsTheDeclaration d limit ts = IsDeclaration run d limit ts

-- where a declaration has these trees, its first token that is too deep has this range; which is a place in the trees, and in front of
-- it more than 128 tokens stand behind which a level may begin
pub record IsTooDeep (limit : ℕ) (ts : Trees) (range : Span) : Type 0 where
  pub first : (d : Declaration) (m : Marks) → SpelledBy d limit ts m → first_too_deep m ≡ Some range
  pub place : IsPlaceIn limit ts range
  pub deep : deepest < openers place.front

-- no declaration has these trees; and the range is a token's, or the empty one where a list ends
pub record IsNone (limit : ℕ) (ts : Trees) (range : Span) : Type 0 where
  pub none : (d : Declaration) (m : Marks) → ¬ SpelledBy d limit ts m
  pub place : IsPlaceIn limit ts range

abbrev pub IsUnread : Kind → Span → ℕ → Trees → Type 0
IsUnread TooDeep range limit ts = IsTooDeep limit ts range
IsUnread Syntax range limit ts = IsNone limit ts range
IsUnread _ range limit ts = ⊥

-- why a list of trees is refused; want of memory is free
abbrev pub IsRefusal : Error → ℕ → Trees → Type 0
IsRefusal (error.Refused r) limit ts = IsUnread r.kind r.span limit ts
IsRefusal error.NoMemory limit ts = Unit {0}
