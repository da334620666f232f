-- The declaration at the front, a refusal of it, and a refusal of what is left.
use Rattle.dm_read_decl.proofs.WholeSteps.{front_refused, front_read}
use Rattle.dm_read_decl.proofs.whole.read_declaration.Goals as goal

pub returns-in_err-found : goal.returns-in_err-found
returns-in_err-found c =
    front_refused c.args.stream.now.limit c.args.stream.now.trees c.cursor.result c.cursor.ensures.left c.cursor.ensures.limit c.new-input.result
    c.new-input.ensures c.front.new.input c.in_err-found.field-0.0 c.in_err-found.ensures c.from_residual.result c.from_residual.ensures.1

pub returns : goal.returns
returns c =
    front_read c.args.stream.now.limit c.args.stream.now.trees c.cursor.result c.cursor.ensures.left c.cursor.ensures.limit c.new-input.result
    c.new-input.ensures c.front.new.input c.in_ok-found.found c.in_ok-found.ensures c.close.result c.close.ensures c.ended.result c.ended.ensures
