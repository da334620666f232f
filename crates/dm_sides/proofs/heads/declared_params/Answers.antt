use Rattle.std.proofs.Common.{map}
use Rattle.dm_ast.specs.Declarations.{declaration_view, param_view}
use Rattle.dm_ast.specs.Implementors.{params_of}
use Rattle.dm_output.specs.Tokens.{params_trees}
use Rattle.dm_sides.proofs.MadeLaws.{made-laid}
use Rattle.dm_sides.proofs.heads.declared_params.Goals as goal

pub returns : goal.returns
returns c =
    made-laid c.params.result c.made_params.result (λ ps. map param_view ps) params_trees (params_of (declaration_view c.args.input.now)) _ _
    c.params.ensures c.made_params.ensures
