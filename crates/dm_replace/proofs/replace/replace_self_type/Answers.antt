use Rattle.std.proofs.Common.{Some, ap, sym}
use Rattle.dm_ast.specs.Declarations.{declaration_view}
use Rattle.dm_copy.specs.Replaced.{replaced_declaration}
use Rattle.dm_copy.proofs.Copies.{shown_as}
use Rattle.dm_replace.proofs.replace.replace_self_type.Goals as goal

pub returns : goal.returns
returns c =
    shown_as _ declaration_view _ _ (ap (λ s. replaced_declaration (Some s) (declaration_view c.args.input.now)) (sym c.in_ok-own.ensures))
    c.replace_self.ensures
