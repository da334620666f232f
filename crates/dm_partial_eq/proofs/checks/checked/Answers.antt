use Rattle.dm_ast.specs.Declarations.{declaration_view}
use Rattle.dm_operands.specs.Places.{AreCases}
use Rattle.dm_partial_eq.proofs.CheckLaws.{valid}
use Rattle.dm_partial_eq.proofs.checks.checked.Goals as goal

pub returns-clause-valid : goal.returns-clause-valid
returns-clause-valid c =
    let d = declaration_view c.args.input.now in
    valid d (λ x. AreCases d x.items) c.cases_of.result c.cases_of.ensures
