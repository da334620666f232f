use Rattle.std.proofs.Common.{subst}
use Rattle.dm_ast.specs.Declarations.{declaration_view}
use Rattle.dm_printed.specs.Answers.{trait_view, TraitPrints}
use Rattle.dm_printed.proofs.Deriving.{printed, not-printed}
use Rattle.dm_printed.proofs.derive.print_known.Goals as goal

pub returns-in-Ok : goal.returns-in-Ok
returns-in-Ok c = λ name known.
    printed (trait_view c.args.derived) name c.args.decl.now c.in-Ok.input c.printed.result known c.in-Ok.ensures.reads
    (subst (λ d. TraitPrints (trait_view c.args.derived) (declaration_view d) c.printed.result) c.as_tree.ensures c.printed.ensures)

pub returns-in-Err : goal.returns-in-Err
returns-in-Err c = λ name known.
    not-printed (trait_view c.args.derived) name c.args.decl.now c.in-Err.error known c.in-Err.ensures.reads
