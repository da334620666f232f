-- An expression of some fuel, over those of less.
use Rattle.std.proofs.Common.{◌≡◌, suc, ◌-◌, sym, subst, arith}
use Rattle.dm_output.specs.Views.{expr_view}
use Rattle.dm_reread.specs.Next.{next}
use Rattle.dm_reread.specs.Reading.{read_or, read_pre}
use Rattle.dm_read_places.specs.Reads.{Reads}
use Rattle.dm_read_places.specs.Turns.{rows}
use Rattle.dm_read_places.proofs.Same.{reads_as}
use Rattle.dm_read_arguments.specs.Sorts.{sorted}
use Rattle.dm_read_exprs.proofs.NestSteps.{whole_row, operand_row}
use Rattle.dm_read_exprs.proofs.nested.+expr.Goals as goal

pub returns-in-Whole : goal.returns-in-Whole
returns-in-Whole t c =
    let n = c.args.wanted.fuel - 1 in
    let b = c.in-Whole.braces in
    let e : c.args.wanted.fuel ≡ suc n = omega arith in
    subst (λ s. Reads expr_view (sorted s (rows c.args.wanted.fuel)) c.args.place.now c.any.result c.any.new.place) (sym c.in-Whole.is)
    (subst (λ m. Reads expr_view ((rows m).expr b) c.args.place.now c.any.result c.any.new.place) (sym e)
    (reads_as expr_view ((rows (suc n)).expr b) (read_or (rows n) b) c.args.place.now c.any.new.place c.any.result
    (whole_row n b c.args.place.now) c.any.ensures))

pub returns-in-Operand : goal.returns-in-Operand
returns-in-Operand t c =
    let n = c.args.wanted.fuel - 1 in
    let b = c.in-Operand.braces in
    let e : c.args.wanted.fuel ≡ suc n = omega arith in
    subst (λ s. Reads expr_view (sorted s (rows c.args.wanted.fuel)) c.args.place.now c.prefixed.result c.prefixed.new.place) (sym c.in-Operand.is)
    (subst (λ m. Reads expr_view ((rows m).pre b) c.args.place.now c.prefixed.result c.prefixed.new.place) (sym e)
    (reads_as expr_view ((rows (suc n)).pre b) (λ ts. read_pre (rows n) b ts (next ts)) c.args.place.now c.prefixed.new.place c.prefixed.result
    (operand_row n b c.args.place.now) c.prefixed.ensures))
