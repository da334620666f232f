-- Parameters alone in parentheses.
use Rattle.dm_stream.specs.declared.tokens.Delim.TheVariants.{Paren}
use Rattle.dm_ast.specs.Tree.{input_view}
use Rattle.dm_read.specs.Stops.{list_view}
use Rattle.dm_read_paths.specs.TypeReaders.{read_type, read_inputs, inputs_pair}
use Rattle.dm_input.proofs.Insides.{refused_inside, ended_inside}
use Rattle.dm_read_types.proofs.rules.Types.enclosed_inputs.Goals as goal

pub returns-in_err-found : goal.returns-in_err-found
returns-in_err-found g c =
    refused_inside (λ v. inputs_pair (list_view input_view v)) Paren (read_inputs (read_type c.args.self.now.grammar.depth)) c.args.input.now c.in_ok-inside.inside c.inputs.new.input
    c.open.new.self c.in_ok-inside.ensures c.in_err-found.field-0.0 c.in_err-found.ensures c.from_residual-in_err-found.result c.from_residual-in_err-found.ensures.1

pub returns : goal.returns
returns g c =
    ended_inside (λ v. inputs_pair (list_view input_view v)) Paren (read_inputs (read_type c.args.self.now.grammar.depth)) c.args.input.now c.in_ok-inside.inside c.inputs.new.input
    c.open.new.self c.in_ok-inside.ensures c.in_ok-found.found c.in_ok-found.ensures.0 c.in_ok-found.ensures.1 c.close.result c.close.ensures c.ended.result c.ended.ensures
