-- Traits as the program has them, and what each answers of a declaration.
use Rattle.std.specs.Prelude.{◌≡◌, ℕ, List, Some, Result, String, string_bytes}
use Rattle.std.specs.declared.alloc.Global.{Global}
use Rattle.dm_stream.specs.declared.error.Error.{Error}
use Rattle.dm_ast.specs.Declarations.{Declaration}
use Rattle.dm_attr.specs.Answers.{IsWalked}
use Rattle.dm_operators.specs.Table.{operator_view}
use Rattle.dm_printed.specs.declared.traits.Trait.{Trait}
use Rattle.dm_printed.specs.declared.traits.Trait.TheVariants.{PartialEq, Operator}
use Rattle.dm_printed.specs.Traits as traits

abbrev pub trait_view : Trait → traits.Trait
trait_view PartialEq = traits.partial_eq
trait_view (Operator o) = traits.an_operator (operator_view o)

-- it has a name
pub record IsDerived (t : Trait) : Type 0 where
  pub name : List ℕ
  pub named : traits.trait_named name ≡ Some (trait_view t)

-- want of memory aside: the text of its implementation where nothing is refused, and else the first refusal
abbrev pub TraitPrints : traits.Trait → Declaration → Result (String Global) Error → Type 0
TraitPrints t d r = IsWalked (traits.refusal t d) (λ s. traits.IsText t d (string_bytes s)) r
