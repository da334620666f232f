use Rattle.std.proofs.Common.{ap}
use Rattle.dm_ast.specs.Tree.{argument_view}
use Rattle.dm_copy.specs.Segments.{argument_of}
use Rattle.dm_copy.proofs.Copies.{shown_as}
use Rattle.dm_copy.proofs.self_type.self_argument.Goals as goal

pub returns-in-Name : goal.returns-in-Name
returns-in-Name c = shown_as _ argument_view _ _ (ap argument_of c.in-Name.is) c.name_argument.ensures
