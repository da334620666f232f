use Rattle.dm_ast.specs.Tree.{ty_view}
use Rattle.dm_ast.specs.TypeTokens.{type_trees}
use Rattle.dm_ast.specs.Declarations.{declaration_view}
use Rattle.dm_ast.specs.Implementors.{implementor}
use Rattle.dm_sides.proofs.MadeLaws.{made-laid}
use Rattle.dm_sides.proofs.heads.declared_type.Goals as goal

pub returns : goal.returns
returns c =
    made-laid c.implementor_type.result c.made_type.result ty_view type_trees (implementor (declaration_view c.args.input.now)) _ _
    c.implementor_type.ensures c.made_type.ensures
