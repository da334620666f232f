use Rattle.std.proofs.Common.{subst}
use Rattle.dm_ast.specs.Declarations.{declaration_view}
use Rattle.dm_printed.specs.Answers.{trait_view}
use Rattle.dm_derive.specs.Answers.{TraitAnswers}
use Rattle.dm_derive.proofs.Deriving.{derived, answered, not-derived}
use Rattle.dm_derive.proofs.derive.derive_known.Goals as goal

pub returns-in-Ok-clause-derives : goal.returns-in-Ok-clause-derives
returns-in-Ok-clause-derives c = λ name known.
    derived (trait_view c.args.derived) name c.args.decl.now c.in-Ok.input c.expanded.result known c.in-Ok.ensures.reads
    (subst (λ d. TraitAnswers (trait_view c.args.derived) (declaration_view d) c.expanded.result) c.as_tree.ensures c.expanded.ensures)

pub returns-in-Ok-clause-answers : goal.returns-in-Ok-clause-answers
returns-in-Ok-clause-answers c = λ name known.
    answered (trait_view c.args.derived) name c.args.decl.now c.in-Ok.input c.expanded.result known c.in-Ok.ensures.reads
    (subst (λ d. TraitAnswers (trait_view c.args.derived) (declaration_view d) c.expanded.result) c.as_tree.ensures c.expanded.ensures)

pub returns-in-Err-clause-derives : goal.returns-in-Err-clause-derives
returns-in-Err-clause-derives c = λ name known.
    not-derived (trait_view c.args.derived) name c.args.decl.now c.in-Err.error known c.in-Err.ensures.reads
