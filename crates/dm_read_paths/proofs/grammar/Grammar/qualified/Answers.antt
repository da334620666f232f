-- What follows `<`, read or refused.
use Rattle.std.proofs.Common.{◌∙◌, Ok, ap, sym, refl}
use Rattle.dm_ast.specs.Readers.{mapped, read_punct}
use Rattle.dm_ast.specs.Tree.{node_view}
use Rattle.dm_read.proofs.Deciding.{pair}
use Rattle.dm_read_paths.specs.TypeReaders.{read_type, read_self_and_path, read_qualified, qualified_of}
use Rattle.dm_input.proofs.Sequels.{next_step, err_here}
use Rattle.dm_read_paths.proofs.QualifiedParts.{qualified_view}
use Rattle.dm_read_paths.proofs.grammar.Grammar.qualified.Goals as goal

pub returns-in_err-found : goal.returns-in_err-found
returns-in_err-found g c =
    let inner = read_type c.args.self.now.depth in
    err_here node_view qualified_view (read_qualified inner) (read_self_and_path inner) c.args.input.now c.punct.new.self c.self_and_path.new.input (mapped qualified_of)
    (λ _. refl)
    (ap (mapped qualified_of) (next_step (read_punct 60) (read_self_and_path inner) c.args.input.now c.punct.new.self c.in_ok-punct.ensures.reads.0 c.in_ok-punct.ensures.reads.1))
    c.in_err-found.field-0.0 c.in_err-found.ensures c.from_residual-in_err-found.result c.from_residual-in_err-found.ensures.1

pub returns : goal.returns
returns g c =
    let inner = read_type c.args.self.now.depth in (
      ap (mapped qualified_of) (next_step (read_punct 60) (read_self_and_path inner) c.args.input.now c.punct.new.self c.in_ok-punct.ensures.reads.0 c.in_ok-punct.ensures.reads.1) ∙
          ap (mapped qualified_of) c.in_ok-found.ensures.0 ∙ ap (λ n. Ok (pair n c.self_and_path.new.input.trees)) (sym c.in_ok-qualified_of.ensures),
      c.in_ok-found.ensures.1 ∙ c.in_ok-punct.ensures.reads.1,
    )
