use Rattle.std.proofs.Common.{false, ap, sym, ◌∙◌}
use Rattle.dm_ast.specs.Tree.{angle, arguments_of}
use Rattle.dm_ast.proofs.View.{view_PathArguments-Angle}
use Rattle.dm_copy.specs.Segments.{argument_of}
use Rattle.dm_copy.proofs.Replacing.{bracketed_some}
use Rattle.dm_copy.proofs.self_type.in_brackets.Goals as goal

pub returns : goal.returns
returns c =
    view_PathArguments-Angle false _ ∙ ap (λ z. angle false (arguments_of z) false) c.in_ok-items.ensures ∙
    sym (bracketed_some argument_of c.args.all.now (sym c.is_empty.ensures ∙ c.if-is_empty.false))
