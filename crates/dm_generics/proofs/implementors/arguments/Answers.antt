use Rattle.std.proofs.Common.{sym, ◌∙◌}
use Rattle.dm_generics.proofs.ParameterSteps.{some_arguments}
use Rattle.dm_generics.proofs.implementors.arguments.Goals as goal

pub returns : goal.returns
returns c =
    some_arguments c.args.params.now c.in_ok-items.items (sym c.is_empty.ensures ∙ c.if-is_empty.false) c.in_ok-items.ensures
