-- What reading a text answers.
use Rattle.std.specs.Prelude.{◌≡◌, ℕ, List, Option, Some, None, Result, Ok, Err}
use Rattle.dm_stream.specs.declared.error.Error.{Error}
use Rattle.dm_stream.specs.declared.error.Error.TheVariants.{NoMemory, Refused}
use Rattle.dm_stream.specs.declared.error.Kind.TheVariants.{Syntax, TooDeep}
use Rattle.dm_stream.specs.declared.error.Refusal.{Refusal}
use Rattle.dm_stream.specs.declared.tokens.Span.{Span}
use Rattle.dm_stream.specs.Trees.{Trees, flatten}
use Rattle.dm_lexer.specs.Nesting.{IsTreesOf, IsRefusalOf}
use Rattle.dm_output.specs.Output.{ItemTree}
use Rattle.dm_levels.specs.Levels.{items_levels, deep_in}
use Rattle.dm_reread.specs.Unplaced.{IsAnswer}
use Rattle.dm_reread.specs.ReadBack.{item_grammar}

-- the text is made of trees, and they are those of just these implementations, or of none
pub record IsAnswerTo (text : List ℕ) (o : Option (List ItemTree)) : Type 0 where
  pub trees : Trees
  pub are_trees : IsTreesOf text trees
  pub answer : IsAnswer item_grammar trees o

-- just these implementations have the text's trees, and this is the range of the first of their tokens that stands at a level over 128
pub record IsFollowed (text : List ℕ) (is : List ItemTree) (deep : Option Span) : Type 0 where
  pub answered : IsAnswerTo text (Some is)
  pub first_deep : deep_in (items_levels is) (flatten answered.trees) ≡ deep

-- a refusal of trees that none have, for any other refusal
abbrev pub Becomes : Error → Error → Type 0
Becomes NoMemory e = e ≡ NoMemory
Becomes (Refused r) e = e ≡ Refused (record { kind = Syntax; span = r.span })

-- what was read where nothing is too deep, or the refusal of the first token that is
abbrev pub IsWithin : {A : Type 0} → A → Option Span → Result A Error → Type 0
IsWithin x deep (Ok y) = (y ≡ x) × (deep ≡ None)
IsWithin x deep (Err e) = (s : Span) × (deep ≡ Some s) × (e ≡ Refused (record { kind = TooDeep; span = s }))

-- the text isn't made of trees, or nests groups too deep; or no implementations have its trees; or a token of those that have them stands too
-- deep, and this is the first
pub data IsUnread (text : List ℕ) : Error → Type 0 where
  no_memory : IsUnread text NoMemory
  lexed : (e : Error) → IsRefusalOf text e → IsUnread text e
  unlike : (r : Refusal) → r.kind ≡ Syntax → IsAnswerTo text None → IsUnread text (Refused r)
  too_deep : (r : Refusal) → r.kind ≡ TooDeep → (is : List ItemTree) → IsFollowed text is (Some r.span) → IsUnread text (Refused r)
