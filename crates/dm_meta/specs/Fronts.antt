-- What the front of a list of trees is: the one part that it begins with, or none.
use Rattle.std.specs.Prelude.{◌≡◌, ◌<◌, ℕ, Some, None}
use Rattle.dm_stream.specs.declared.tokens.Span.{Span}
use Rattle.dm_stream.specs.declared.error.Error.{Error}
use Rattle.dm_stream.specs.declared.error.Error.TheVariants as error
use Rattle.dm_stream.specs.declared.error.Kind.{Kind}
use Rattle.dm_stream.specs.declared.error.Kind.TheVariants.{TooDeep, Syntax}
use Rattle.dm_stream.specs.Trees.{Trees, no_trees}
use Rattle.dm_ast.specs.Spelling.{Marks, Spelling, deepest, first_too_deep, Before}
use Rattle.dm_ast.specs.Places.{openers, IsPlaceIn}

-- the trees begin with this part, before these others, and with no other part; none of its tokens is too deep
pub record IsFront {A : Type 0} (S : A → Spelling) (ts : Trees) (x : A) (others : Trees) : Type 0 where
  pub marks : Marks
  pub spelled : S x ts others marks
  pub within : first_too_deep marks ≡ None
  pub only : (y : A) (o : Trees) (m : Marks) → S y ts o m → (y ≡ x) × (o ≡ others) × (m ≡ marks)

-- every part that the trees begin with is too deep, first in this range; which is a place in the trees, and in front of it more than 128
-- tokens stand behind which a level may begin
pub record IsDeepFront {A : Type 0} (S : A → Spelling) (limit : ℕ) (ts : Trees) (range : Span) : Type 0 where
  pub first : (x : A) (others : Trees) (m : Marks) → S x ts others m → first_too_deep m ≡ Some range
  pub place : IsPlaceIn limit ts range
  pub deep : deepest < openers place.front

-- the trees begin with no part; and the range is a token's, or the empty one where a list ends
pub record IsNoFront {A : Type 0} (S : A → Spelling) (limit : ℕ) (ts : Trees) (range : Span) : Type 0 where
  pub none : (x : A) (others : Trees) (m : Marks) → ¬ S x ts others m
  pub place : IsPlaceIn limit ts range

abbrev pub IsUnreadFront : {A : Type 0} → (A → Spelling) → Kind → Span → ℕ → Trees → Type 0
IsUnreadFront S TooDeep range limit ts = IsDeepFront S limit ts range
IsUnreadFront S Syntax range limit ts = IsNoFront S limit ts range
IsUnreadFront S _ range limit ts = ⊥

-- why no part is given; want of memory is free
abbrev pub NoFront : {A : Type 0} → (A → Spelling) → Error → ℕ → Trees → Type 0
NoFront S (error.Refused r) limit ts = IsUnreadFront S r.kind r.span limit ts
NoFront S error.NoMemory limit ts = Unit {0}

-- a part behind which nothing is left
abbrev pub ToEnd : {A : Type 0} → (A → Spelling) → A → Spelling
ToEnd S x = Before (λ others. others ≡ no_trees) (S x)
