use Rattle.std.proofs.Common.{subst}
use Rattle.dm_ast.specs.Declarations.{declaration_view}
use Rattle.dm_printed.specs.Answers.{trait_view}
use Rattle.dm_printed.specs.Counts.{TraitCounts}
use Rattle.dm_printed.proofs.Counting.{counted, not-counted}
use Rattle.dm_printed.proofs.derive.count_known.Goals as goal

pub returns-in-Ok : goal.returns-in-Ok
returns-in-Ok c = λ name known.
    counted (trait_view c.args.derived) name c.args.decl.now c.in-Ok.input c.counted.result known c.in-Ok.ensures.reads
    (subst (λ d. TraitCounts (trait_view c.args.derived) (declaration_view d) c.counted.result) c.as_tree.ensures c.counted.ensures)

pub returns-in-Err : goal.returns-in-Err
returns-in-Err c = λ name known.
    not-counted (trait_view c.args.derived) name c.args.decl.now c.in-Err.error known c.in-Err.ensures.reads
