-- What follows the word.
use Rattle.dm_stream.specs.declared.tokens.Ident.{Ident}
use Rattle.dm_read.specs.DeclarationReaders.{read_word_at}
use Rattle.dm_read_decl.specs.Rules.{behind_word}
use Rattle.dm_read_decl.specs.ShapeViews.{both_views, second_view, angled_view}
use Rattle.dm_input.proofs.Sequels.{both_reads}
use Rattle.dm_read_decl.proofs.item.headed.Goals as goal

pub returns : goal.returns
returns g c =
    both_reads (λ s. s) (second_view {X = Ident} (both_views angled_view g.R.Rule.view)) (read_word_at c.args.word.now) (behind_word (g.R.Rule.reader c.args.rule.now)) c.args.input.now c.word_at.new.input c.behind_word.new.input
    c.in_ok-span.span c.in_ok-span.ensures c.behind_word.result c.behind_word.ensures c.joined.result c.joined.ensures
