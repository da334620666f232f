use Rattle.std.proofs.Common.{ap, subst, sym}
use Rattle.dm_ast.specs.Declarations.{declaration_view}
use Rattle.dm_operators.specs.Plans.{IsPlanned}
use Rattle.dm_operators.specs.Table.{form_view, operator_view}
use Rattle.dm_operators.proofs.PlanLaws.{structural-plan, scalar-plan, unary-plan}
use Rattle.dm_operators.proofs.places.plan_for.Goals as goal

pub returns-in-Structural : goal.returns-in-Structural
returns-in-Structural c =
    let o = operator_view c.args.operator.now in
    let d = declaration_view c.args.input.now in
    subst (IsPlanned o d) (sym c.planned.ensures)
    (structural-plan o d c.structural_cases.result (ap form_view c.in-Structural.is) c.structural_cases.ensures)

pub returns-in-Scalar : goal.returns-in-Scalar
returns-in-Scalar c =
    let o = operator_view c.args.operator.now in
    let d = declaration_view c.args.input.now in
    scalar-plan o d c.scalar_plan.result (ap form_view c.in-Scalar.is) c.scalar_plan.ensures

pub returns-in-Unary : goal.returns-in-Unary
returns-in-Unary c =
    let o = operator_view c.args.operator.now in
    let d = declaration_view c.args.input.now in
    subst (IsPlanned o d) (sym c.planned-in-Unary.ensures)
    (unary-plan o d c.unary_cases.result (ap form_view c.in-Unary.is) c.unary_cases.ensures)
