-- What `PartialEq` answers: the text of one implementation, or a refusal.
use Rattle.std.specs.Prelude.{◌≡◌, ℕ, List, Some, None, Result, Ok, Err, String, string_bytes}
use Rattle.std.specs.declared.alloc.Global.{Global}
use Rattle.dm_stream.specs.declared.error.Error.{Error}
use Rattle.dm_stream.specs.declared.error.Error.TheVariants.{NoMemory, Refused}
use Rattle.dm_ast.specs.Declarations.{Declaration}
use Rattle.dm_output.specs.Output.{ItemTree}
use Rattle.dm_operands.specs.Expanded.{IsExpandedAs}
use Rattle.dm_partial_eq.specs.Heads.{IsPartialEq}
use Rattle.dm_partial_eq.specs.Emitted as emitted
use Rattle.dm_partial_eq.specs.Checks.{refusal}

-- one implementation, which is that of the declaration, whose head and methods are those of `PartialEq`, and its text
abbrev pub IsExpanded : Declaration → List ItemTree → List ℕ → Type 0
IsExpanded d items text = IsExpandedAs (emitted.item d) (IsPartialEq d) items text

-- the text of such an expansion
abbrev pub IsText : Declaration → List ℕ → Type 0
IsText d text = (items : List ItemTree) × IsExpanded d items text

-- what a declaration is answered with, want of memory aside: the text where nothing is refused, and else the first refusal
abbrev pub IsPrinted : Declaration → Result (String Global) Error → Type 0
IsPrinted d (Ok text) = (refusal d ≡ None) × IsText d (string_bytes text)
IsPrinted d (Err NoMemory) = Unit {0}
IsPrinted d (Err (Refused r)) = refusal d ≡ Some r
