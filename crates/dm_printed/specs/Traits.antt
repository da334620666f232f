-- The traits that are derived, and what each is derived as.
use Rattle.std.specs.Prelude.{ℕ, List, cond, Option, Some, option_map, codes}
use Rattle.std.specs.Str.{bytes_eq}
use Rattle.dm_stream.specs.declared.error.Refusal.{Refusal}
use Rattle.dm_ast.specs.Declarations.{Declaration}
use Rattle.dm_output.specs.Output.{ItemTree}
use Rattle.dm_operands.specs.Expanded.{IsExpandedAs}
use Rattle.dm_partial_eq.specs.Heads.{IsPartialEq}
use Rattle.dm_partial_eq.specs.Emitted as compared
use Rattle.dm_partial_eq.specs.Checks as comparing
use Rattle.dm_operators.specs.Operators.{Operator, operator_named}
use Rattle.dm_operators.specs.Heads.{IsOperation}
use Rattle.dm_operators.specs.Implementations.{item_of}
use Rattle.dm_operators.specs.Refusals as operating
use Rattle.dm_operators.specs.Valid as operators

pub data Trait : Type 0 where
  partial_eq : Trait
  an_operator : Operator → Trait

-- that of this name
abbrev pub trait_named : List ℕ → Option Trait
trait_named name = cond (bytes_eq name (codes "PartialEq")) (Some partial_eq) (option_map an_operator (operator_named name))

-- what is written for a declaration
abbrev pub emitted : Trait → Declaration → ItemTree
emitted partial_eq d = compared.item d
emitted (an_operator o) d = item_of o d

-- an implementation of the trait: its head, exactly its predicates, and what its methods give
abbrev pub IsImplementation : Trait → Declaration → ItemTree → Type 0
IsImplementation partial_eq d item = IsPartialEq d item
IsImplementation (an_operator o) d item = IsOperation o d item

-- the first refusal of a declaration
abbrev pub refusal : Trait → Declaration → Option Refusal
refusal partial_eq d = comparing.refusal d
refusal (an_operator o) d = operating.refusal o d

-- a declaration that the trait is derived for
abbrev pub IsValid : Trait → Declaration → Type 0
IsValid partial_eq d = comparing.IsValid d
IsValid (an_operator o) d = operators.IsValid o d

-- the only implementation of the declaration, which is one of the trait, and its text
abbrev pub IsExpanded : Trait → Declaration → List ItemTree → List ℕ → Type 0
IsExpanded t d items text = IsExpandedAs (emitted t d) (IsImplementation t d) items text

-- the text of such an expansion
abbrev pub IsText : Trait → Declaration → List ℕ → Type 0
IsText t d text = (items : List ItemTree) × IsExpanded t d items text
