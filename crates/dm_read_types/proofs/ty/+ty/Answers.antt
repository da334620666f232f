-- One level of types, over those below.
use Rattle.std.proofs.Common.{◌≡◌, suc, ◌-◌, sym, subst, arith}
use Rattle.dm_input.specs.Inputs.{Reads}
use Rattle.dm_ast.specs.Tree.{ty_view}
use Rattle.dm_read_paths.specs.TypeReaders.{read_type}
use Rattle.dm_read_types.proofs.ty.+ty.Goals as goal

pub returns : goal.returns
returns t c =
    let e : c.args.depth ≡ suc (c.args.depth - 1) = omega arith in
    subst (λ n. Reads ty_view (read_type n c.args.mode) c.args.input.now c.level.result c.level.new.input) (sym e) c.level.ensures
