-- The parameter behind its attributes.
use Rattle.dm_ast.specs.Declarations.{param_view}
use Rattle.dm_ast.specs.PlainReaders.{read_attributes}
use Rattle.dm_read.specs.DeclarationReaders.{read_param_behind}
use Rattle.dm_read_paths.specs.WholeReaders.{parts}
use Rattle.dm_input.proofs.Sequels.{then_reads}
use Rattle.dm_read_decl.proofs.param.ParamRuleRule.read.Goals as goal

pub returns : goal.returns
returns c =
    then_reads (λ a. a) param_view read_attributes (λ attrs w. read_param_behind parts attrs w) c.args.input.now c.attributes.new.self c.param_behind.new.input
    c.in_ok-attrs.attrs c.in_ok-attrs.ensures c.param_behind.result c.param_behind.ensures
