-- What is written is the name of the operand's field.
use Rattle.std.proofs.Common.{◌≡◌, codes, sym, subst}
use Rattle.std.specs.Prelude.{IfOk, string_bytes}
use Rattle.dm_operands.specs.CaseViews.{naming}
use Rattle.dm_generics.proofs.NumeralLaws.{ends_numeral}
use Rattle.dm_operands.proofs.sides.formatted.Goals as goal

pub returns-in-Mine : goal.returns-in-Mine
returns-in-Mine c =
    subst (λ o. IfOk c.format.result (λ name. string_bytes name ≡ naming o c.args.n)) (sym c.in-Mine.is)
    (ends_numeral (codes "__self_") c.args.n c.format.result c.ranges.n.fits c.format.ensures.ok)

pub returns-in-Theirs : goal.returns-in-Theirs
returns-in-Theirs c =
    subst (λ o. IfOk c.format-in-Theirs.result (λ name. string_bytes name ≡ naming o c.args.n)) (sym c.in-Theirs.is)
    (ends_numeral (codes "__other_") c.args.n c.format-in-Theirs.result c.ranges.n.fits c.format-in-Theirs.ensures.ok)

pub returns-in-Right : goal.returns-in-Right
returns-in-Right c =
    subst (λ o. IfOk c.format-in-Right.result (λ name. string_bytes name ≡ naming o c.args.n)) (sym c.in-Right.is)
    (ends_numeral (codes "__rhs_") c.args.n c.format-in-Right.result c.ranges.n.fits c.format-in-Right.ensures.ok)

pub returns-in-Inner : goal.returns-in-Inner
returns-in-Inner c =
    subst (λ o. IfOk c.format-in-Inner.result (λ name. string_bytes name ≡ naming o c.args.n)) (sym c.in-Inner.is)
    (ends_numeral (codes "__") c.args.n c.format-in-Inner.result c.ranges.n.fits c.format-in-Inner.ensures.ok)
