-- What is printed is counted.
use Rattle.dm_ast.specs.Declarations.{declaration_view}
use Rattle.dm_printed.specs.Answers.{trait_view}
use Rattle.dm_printed.proofs.Counting.{both}
use Rattle.dm_printed.proofs.predicates.counted.Goals as goal

pub returns-in-Ok : goal.returns-in-Ok
returns-in-Ok c =
    both (trait_view c.args.derived) (declaration_view c.args.input.now) c.in-Ok.predicates c.printed.result c.beside.result
    c.in-Ok.ensures c.printed.ensures c.beside.ensures
