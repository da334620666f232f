use Rattle.std.proofs.Common.{ap, ◌∙◌}
use Rattle.dm_ast.specs.Declarations.{generics_view}
use Rattle.dm_generics.specs.Bounds.{op_output}
use Rattle.dm_generics.specs.Split.{SplitTree, impl_params}
use Rattle.dm_sides.proofs.ParamSteps.{bounded-params}
use Rattle.dm_sides.proofs.params.with_bounds.Goals as goal

pub returns : goal.returns
returns c =
    c.params_of_split.ensures ∙ ap (λ (s : SplitTree). s.impl_params.items) c.in_ok-split.ensures ∙
    ap impl_params c.in_ok-bounded.ensures ∙ bounded-params (op_output c.args.trait_name.now) (generics_view c.args.input.now.generics)
