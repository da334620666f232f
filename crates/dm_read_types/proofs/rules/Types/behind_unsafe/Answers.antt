-- What follows `extern`, and the signature behind it.
use Rattle.std.proofs.Common.{Option}
use Rattle.dm_stream.specs.declared.tokens.Literal.{Literal}
use Rattle.dm_read_types.specs.FunctionViews.{signature_view}
use Rattle.dm_read_paths.specs.TypeReaders.{read_type, read_maybe_abi, read_signature}
use Rattle.dm_input.proofs.Sequels.{both_reads}
use Rattle.dm_read_types.proofs.rules.Types.behind_unsafe.Goals as goal

pub returns : goal.returns
returns g c =
    both_reads (λ (l : Option (Option Literal)). l) signature_view read_maybe_abi (read_signature (read_type c.args.self.now.grammar.depth)) c.args.input.now c.maybe_abi.new.input
    c.signature.new.input c.in_ok-abi.abi c.in_ok-abi.ensures c.signature.result c.signature.ensures c.joined.result c.joined.ensures
