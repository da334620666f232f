-- What an operator answers: the text of one implementation, or a refusal.
use Rattle.std.specs.Prelude.{ℕ, List, Result, String, string_bytes}
use Rattle.std.specs.declared.alloc.Global.{Global}
use Rattle.dm_stream.specs.declared.error.Error.{Error}
use Rattle.dm_ast.specs.Declarations.{Declaration}
use Rattle.dm_output.specs.Output.{ItemTree}
use Rattle.dm_attr.specs.Answers.{IsWalked}
use Rattle.dm_operands.specs.Expanded.{IsExpandedAs}
use Rattle.dm_operators.specs.Operators.{Operator}
use Rattle.dm_operators.specs.Heads.{IsOperation}
use Rattle.dm_operators.specs.Implementations.{item_of}
use Rattle.dm_operators.specs.Refusals.{refusal}

-- one implementation, which is that of the declaration and one of the operator, and its text
abbrev pub IsExpanded : Operator → Declaration → List ItemTree → List ℕ → Type 0
IsExpanded o d items text = IsExpandedAs (item_of o d) (IsOperation o d) items text

-- the text of such an expansion
abbrev pub IsText : Operator → Declaration → List ℕ → Type 0
IsText o d text = (items : List ItemTree) × IsExpanded o d items text

-- what a declaration is answered with, want of memory aside: the text where nothing is refused, and else the first refusal
abbrev pub IsPrinted : Operator → Declaration → Result (String Global) Error → Type 0
IsPrinted o d r = IsWalked (refusal o d) (λ s. IsText o d (string_bytes s)) r
