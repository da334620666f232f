-- What holds of every operator and every declaration.
use Rattle.std.specs.Prelude.{◌≡◌, ℕ, false, length, ◌≤◌, ◌^◌, Some, None, slice_get, ◌↔◌}
use Rattle.dm_ast.specs.Declarations.{Declaration}
use Rattle.dm_output.specs.Output.{ItemTree}
use Rattle.dm_output.specs.Values.{Case, cases, is_enum, field_list}
use Rattle.dm_operands.specs.Named.{AreNamed}
use Rattle.dm_operators.specs.Operators.{unary, Operator, IsOperator}
use Rattle.dm_operators.specs.Attributes.{form_in}
use Rattle.dm_operators.specs.Heads.{IsOperation}
use Rattle.dm_operators.specs.Implementations.{item_of}
use Rattle.dm_operators.specs.Refusals.{refusal}
use Rattle.dm_operators.specs.Covered.{IsBinary, Covers}
use Rattle.dm_operators.specs.Valid.{IsValid}

-- where nothing stands right of self, the fields of a struct can be numbered by 64 bits
abbrev pub AreFew : Operator → Declaration → Type 0
AreFew o d =
    o.form ≡ unary → is_enum d ≡ false → (n : ℕ) (c : Case) → slice_get (cases d) n ≡ Some c → length (field_list c.fields) ≤ 2 ^ 64

-- a declaration that isn't refused is given the operation: its head, exactly its predicates, and a method that gives what the operator means
abbrev pub AreGiven : Type 0
AreGiven = (o : Operator) (d : Declaration) → IsOperator o → AreNamed d → AreFew o d → refusal o d ≡ None → IsOperation o d (item_of o d)

-- the declarations that aren't refused are the valid ones
abbrev pub AreRefused : Type 0
AreRefused = (o : Operator) (d : Declaration) → (refusal o d ≡ None) ↔ IsValid o d

-- the predicates cover each operation on fields
abbrev pub AreCovered : Type 0
AreCovered = (o : Operator) (d : Declaration) (item : ItemTree) → refusal o d ≡ None → IsBinary (form_in o d) →
    IsOperation o d item → Covers o d item.predicates
