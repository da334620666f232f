use Rattle.dm_ast.specs.Tree.{ty_view}
use Rattle.dm_type_eq.proofs.SameSpelled.{spelled_told}
use Rattle.dm_type_eq.proofs.type_eq.Goals as goal

pub returns-clause-spelled : goal.returns-clause-spelled
returns-clause-spelled c h g e = spelled_told (ty_view c.args.a.now) (ty_view c.args.b.now) c.same_type.result c.same_type.ensures h g e
