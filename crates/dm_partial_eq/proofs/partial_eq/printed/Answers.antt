use Rattle.std.proofs.Common.{[], ◌∷◌, subst}
use Rattle.std.specs.Prelude.{◌≡◌, List, IfOk, string_bytes}
use Rattle.dm_ast.specs.Declarations.{declaration_view}
use Rattle.dm_output.specs.Tokens.{printed}
use Rattle.dm_operands.specs.Marked.{MarkedCase}
use Rattle.dm_partial_eq.specs.Emitted.{item_for}
use Rattle.dm_partial_eq.proofs.Expansions.{prints}
use Rattle.dm_partial_eq.proofs.partial_eq.printed.Goals as goal

pub returns : goal.returns
returns c =
    let d = declaration_view c.args.input.now in
    let Text : List MarkedCase → Type 0 = λ vs. IfOk c.printed_item.result (λ s. string_bytes s ≡ printed (item_for d vs ∷ [])) in
    prints d c.printed_item.result c.requires.readable (subst Text c.requires.cases c.printed_item.ensures)
