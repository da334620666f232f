-- The segments, read or refused.
use Rattle.std.proofs.Common.{Bool, map}
use Rattle.dm_ast.specs.PlainReaders.{read_leading}
use Rattle.dm_ast.specs.Tree.{segments_of, segment_view, path_view}
use Rattle.dm_read_paths.specs.TypeReaders.{read_type, read_segment_trees, path_of}
use Rattle.dm_input.proofs.Sequels.{made_refused, made_read}
use Rattle.dm_read_paths.proofs.grammar.Grammar.path.Goals as goal

pub returns-in_err-segment_trees : goal.returns-in_err-segment_trees
returns-in_err-segment_trees g c =
    made_refused (λ (b : Bool). b) (λ l. segments_of (map segment_view l)) read_leading (read_segment_trees (read_type c.args.self.now.depth) c.args.bare) c.args.input.now c.leading.new.self
    c.segment_trees.new.input c.in_ok-leading_colon.leading_colon c.in_ok-leading_colon.ensures path_view path_of
    c.in_err-segment_trees.field-0.0 c.in_err-segment_trees.ensures c.from_residual-in_err-segment_trees.result c.from_residual-in_err-segment_trees.ensures.1

pub returns : goal.returns
returns g c =
    made_read (λ (b : Bool). b) (λ l. segments_of (map segment_view l)) read_leading (read_segment_trees (read_type c.args.self.now.depth) c.args.bare) c.args.input.now c.leading.new.self
    c.segment_trees.new.input c.in_ok-leading_colon.leading_colon c.in_ok-leading_colon.ensures path_view path_of
    c.in_ok-segment_trees.field-0 c.in_ok-segment_trees.ensures c.path_of.result c.path_of.ensures
