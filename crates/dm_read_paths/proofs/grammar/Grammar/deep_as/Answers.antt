-- `as` and a path, one level deeper.
use Rattle.std.proofs.Common.{refl}
use Rattle.dm_read_paths.specs.TypeReaders.{read_type, read_some_as, read_deep_as}
use Rattle.dm_input.proofs.Sequels.{deep_step, deep_here, err_here}
use Rattle.dm_read_paths.proofs.QualifiedParts.{leading_view}
use Rattle.dm_read_paths.proofs.grammar.Grammar.deep_as.Goals as goal

pub returns-in_err-found : goal.returns-in_err-found
returns-in_err-found g c =
    let inner = read_type c.args.self.now.depth in
    err_here leading_view leading_view (read_deep_as inner) (read_some_as inner) c.args.input.now c.down.new.self c.some_as.new.input (λ o. o) (λ _. refl)
    (deep_step leading_view (read_some_as inner) c.args.input.now c.down.new.self c.down.ensures)
    c.in_err-found.field-0.0 c.in_err-found.ensures c.from_residual.result c.from_residual.ensures.1

pub returns : goal.returns
returns g c =
    deep_here leading_view (read_some_as (read_type c.args.self.now.depth)) c.args.input.now c.down.new.self c.down.ensures
    c.some_as.new.input c.up.new.self c.in_ok-found.found c.in_ok-found.ensures.0 c.in_ok-found.ensures.1 c.up.ensures
