-- A type, and what follows it.
use Rattle.dm_ast.specs.Tree.{ty_view}
use Rattle.dm_read_paths.specs.declared.kind.Mode.TheVariants.{Whole}
use Rattle.dm_read_paths.specs.TypeReaders.{read_type, read_deep, read_behind_self}
use Rattle.dm_input.proofs.Sequels.{both_reads}
use Rattle.dm_read_paths.proofs.QualifiedParts.{behind_view}
use Rattle.dm_read_paths.proofs.grammar.Grammar.self_and_path.Goals as goal

pub returns : goal.returns
returns g c =
    let inner = read_type c.args.self.now.depth in
    both_reads ty_view behind_view (read_deep inner Whole) (read_behind_self inner) c.args.input.now c.deep_ty.new.input c.behind_self.new.input
    c.in_ok-found.found c.in_ok-found.ensures c.behind_self.result c.behind_self.ensures c.joined.result c.joined.ensures
