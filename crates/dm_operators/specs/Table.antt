-- Operators as the program has them.
use Rattle.dm_operators.specs.declared.operator.Form.{Form}
use Rattle.dm_operators.specs.declared.operator.Form.TheVariants.{Structural, Scalar, Unary}
use Rattle.dm_operators.specs.declared.operator.Operator.{Operator}
use Rattle.dm_operators.specs.Operators as ops

abbrev pub form_view : Form → ops.Form
form_view Structural = ops.structural
form_view Scalar = ops.scalar
form_view Unary = ops.unary

abbrev pub operator_view : Operator → ops.Operator
operator_view o = record { trait_name = o.trait_name.now; method = o.method.now; form = form_view o.form; assigning = o.assigning }
