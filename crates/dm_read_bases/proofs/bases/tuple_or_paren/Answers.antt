-- One part alone.
use Rattle.std.proofs.Common.{◌≡◌, ◌∙◌, ◌++◌, length, map, Some, sym, ap, arith}
use Rattle.std.specs.Option.{option_to_list}
use Rattle.std.proofs.lemmas.Bool.Decides.{nat_tests}
use Rattle.dm_output.specs.Output.{exprs_of}
use Rattle.dm_output.specs.Views.{expr_view}
use Rattle.dm_read_bases.specs.Rows.{tuple_only}
use Rattle.dm_read_bases.proofs.TupleSteps.{one_part}
use Rattle.dm_read_bases.proofs.bases.tuple_or_paren.Goals as goal

pub returns-in-Ok-Some : goal.returns-in-Ok-Some
returns-in-Ok-Some c =
    let one : length c.args.parts ≡ 1 = let e = c.if-len-ne1.false in let f = c.len.ensures in grind (arith, nat_tests) in
    let taken = c.in-Ok-Some.ensures.taken ∙ ap (λ o. c.pop.new.self ++ option_to_list o) c.in-Ok-Some.field-0-is in
    ap (λ b. tuple_only b (exprs_of (map expr_view c.args.parts))) c.if-last.false ∙
    one_part c.args.parts c.pop.new.self c.in-Ok-Some.only one taken ∙
    ap Some (sym c.in_ok-paren_of-in-Ok-Some.ensures)
