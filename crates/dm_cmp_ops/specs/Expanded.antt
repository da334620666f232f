-- What deriving answers: an implementation that is read back from its text, with that text, or a refusal.
use Rattle.std.specs.Prelude.{◌≡◌, ℕ, List, [], ◌∷◌, map, Result, Ok, Err}
use Rattle.dm_stream.specs.declared.error.Error.{Error}
use Rattle.dm_stream.specs.declared.error.Error.TheVariants.{NoMemory}
use Rattle.dm_ast.specs.Declarations.{Declaration}
use Rattle.dm_output.specs.Output.{ItemTree}
use Rattle.dm_output.specs.Tokens.{printed}
use Rattle.dm_output.specs.Views.{item_view}
use Rattle.dm_expansion.specs.declared.expansion.Expansion.{Expansion}
use Rattle.dm_reread.specs.Unplaced.{bare_items}
use Rattle.dm_attr.specs.Answers.{IsWalked}
use Rattle.dm_partial_eq.specs.Checks as comparing
use Rattle.dm_partial_eq.specs.Expanded as compared
use Rattle.dm_operators.specs.Operators.{Operator}
use Rattle.dm_operators.specs.Refusals as operating
use Rattle.dm_operations.specs.Expanded as operated
-- what the reader gives of a text
pub use Rattle.dm_printed.specs.Texts.{IsOfText}

-- implementations that are these, ranges aside, and have this text
pub record AreReadFrom (text : List ℕ) (emitted read : List ItemTree) : Type 0 where
  pub same : bare_items read ≡ bare_items emitted
  pub text_is : text ≡ printed read

-- the expansion's implementations are those that its text is of, ranges aside
abbrev pub IsReadOf : (List ItemTree → List ℕ → Type 0) → Expansion → Type 0
IsReadOf Is x = (emitted : List ItemTree) × Is emitted x.text × AreReadFrom x.text emitted (map item_view x.items)

-- an implementation comes back from its text, want of memory aside
abbrev pub IsReadBack : ItemTree → List ℕ → Result Expansion Error → Type 0
IsReadBack i text (Ok x) = (x.text ≡ text) × AreReadFrom x.text (i ∷ []) (map item_view x.items)
IsReadBack i text (Err e) = e ≡ NoMemory

-- what `PartialEq` answers of a declaration, want of memory aside: its implementation where nothing is refused, and else the first refusal
abbrev pub IsAnswer : Declaration → Result Expansion Error → Type 0
IsAnswer d r = IsWalked (comparing.refusal d) (λ x. IsReadOf (compared.IsExpanded d) x) r

-- what an operator answers
abbrev pub IsOperatorAnswer : Operator → Declaration → Result Expansion Error → Type 0
IsOperatorAnswer o d r = IsWalked (operating.refusal o d) (λ x. IsReadOf (operated.IsExpanded o d) x) r
