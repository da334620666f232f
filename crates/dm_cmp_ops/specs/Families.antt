-- Families of operators: those of one form that all assign or all give a value; and what a name is answered with in its family.
use Rattle.std.specs.Prelude.{Bool, true, false, not, cond, ◌&&◌, Option, None, Some, Result}
use Rattle.dm_stream.specs.declared.error.Error.{Error}
use Rattle.dm_stream.specs.declared.error.Kind.TheVariants.{UnknownTrait}
use Rattle.dm_stream.specs.declared.error.Refusal.{Refusal}
use Rattle.dm_ast.specs.Declarations.{Declaration}
use Rattle.dm_expansion.specs.declared.expansion.Expansion.{Expansion}
use Rattle.dm_output.specs.Values.{Text}
use Rattle.dm_attr.specs.Answers.{IsWalked}
use Rattle.dm_operators.specs.Operators.{Form, structural, scalar, unary, Operator, operator_named}
use Rattle.dm_cmp_ops.specs.Expanded.{IsOperatorAnswer}

abbrev pub is_form : Form → Form → Bool
is_form structural structural = true
is_form scalar scalar = true
is_form unary unary = true
is_form _ _ = false

abbrev pub is_same : Bool → Bool → Bool
is_same true b = b
is_same false b = not b

abbrev pub is_in : Form → Bool → Operator → Bool
is_in form assigning o = is_form form o.form && is_same assigning o.assigning

-- an operator, if it is of the family
abbrev pub if_in : Form → Bool → Option Operator → Option Operator
if_in form assigning None = None
if_in form assigning (Some o) = cond (is_in form assigning o) (Some o) None

-- that of this name
abbrev pub member : Form → Bool → Text → Option Operator
member form assigning name = if_in form assigning (operator_named name)

-- what a name that is none of the family is refused with
abbrev pub unknown : Refusal
unknown = record { kind = UnknownTrait; span = record { start = 0; «end» = 0 } }

-- the operator's answer, or the name is refused
abbrev pub IsAnswerBy : Option Operator → Declaration → Result Expansion Error → Type 0
IsAnswerBy None d r = IsWalked (Some unknown) (λ x. ⊥) r
IsAnswerBy (Some o) d r = IsOperatorAnswer o d r

abbrev pub IsFamilyAnswer : Form → Bool → Text → Declaration → Result Expansion Error → Type 0
IsFamilyAnswer form assigning name d r = IsAnswerBy (member form assigning name) d r
