-- What is read at the cursor is read from the input.
use Rattle.std.proofs.Common.{◌≡◌, ◌∙◌, Ok, ap, subst}
use Rattle.dm_ast.specs.declared.plain.PlainPath.{PlainPath}
use Rattle.dm_stream.specs.Cursors.{left}
use Rattle.dm_ast.specs.PlainReaders.{read_plain}
use Rattle.dm_read.proofs.Deciding.{pair}
use Rattle.dm_read.proofs.Loops.{place_same}
use Rattle.dm_input.specs.Places.{state_of}
use Rattle.dm_input.proofs.Refusals.{refused_here}
use Rattle.dm_input.proofs.input.Input.plain_path.Goals as goal

pub returns-in_err-found : goal.returns-in_err-found
returns-in_err-found c =
    refused_here (λ (v : PlainPath). v) (λ (v : PlainPath). v) read_plain (state_of c.self.inside) c.args.self.now c.args.self.now c.self.view_is c.in_err-found.field-0.0
    c.in_err-found.ensures.reads c.from_residual.result c.from_residual.ensures.1

pub returns : goal.returns
returns c = (
  subst (λ s. read_plain s.at s.trees ≡ Ok (pair c.in_ok-found.found (left c.in_ok-found.rest))) c.self.view_is c.in_ok-found.ensures.reads,
  place_same c.self.inside.level c.self.inside.at c.in_ok-found.rest c.in_ok-found.ensures.place.same_limit ∙ ap (λ s. s.at) c.self.view_is,
)
