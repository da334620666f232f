-- How many implementations and predicates there are of a trait's name and the text of a declaration.
use Rattle.std.specs.Prelude.{◌≡◌, ℕ, List, map, length, sum, Result, Ok, Err}
use Rattle.dm_stream.specs.declared.error.Error.{Error}
use Rattle.dm_stream.specs.declared.error.Error.TheVariants.{NoMemory, Refused}
use Rattle.dm_ast.specs.Declarations.{Declaration}
use Rattle.dm_output.specs.Output.{ItemTree}
use Rattle.dm_attr.specs.Answers.{IsWalked}
use Rattle.dm_printed.specs.Traits.{Trait, emitted, refusal, IsText}
use Rattle.dm_printed.specs.Derived.{Expands, Refuses}

-- how many predicates the where clauses of these have
abbrev pub predicates_of : List ItemTree → ℕ
predicates_of items = sum (map (λ (i : ItemTree). length i.predicates) items)

-- so many implementations with so many predicates are what the trait of this name derives for the text
pub record AreCounts (name text : List ℕ) (items predicates : ℕ) : Type 0 where
  pub made : List ItemTree
  pub written : List ℕ
  pub expanded : Expands name text made written
  pub items_are : items ≡ length made
  pub predicates_are : predicates ≡ predicates_of made

-- the declaration's implementation, of which there is a text, has so many predicates
pub record IsCounted (t : Trait) (d : Declaration) (predicates : ℕ) : Type 0 where
  pub text : List ℕ
  pub is_text : IsText t d text
  pub count : predicates ≡ length (emitted t d).predicates

-- want of memory aside: the number of predicates of the implementation where nothing is refused, and else the first refusal
abbrev pub TraitCounts : Trait → Declaration → Result ℕ Error → Type 0
TraitCounts t d r = IsWalked (refusal t d) (IsCounted t d) r

-- what a count of the predicates answers, want of memory aside: there is one implementation
abbrev pub Counts : List ℕ → List ℕ → Result ℕ Error → Type 0
Counts name text (Ok n) = AreCounts name text 1 n
Counts name text (Err NoMemory) = Unit {0}
Counts name text (Err (Refused r)) = Refuses name text r
