use Rattle.std.proofs.Common.{◌++◌, map, ap, ◌∙◌}
use Rattle.dm_ast.specs.Declarations.{declaration_view, param_view}
use Rattle.dm_ast.specs.Implementors.{is_lifetime, is_other}
use Rattle.dm_copy.specs.Segments.{argument_of}
use Rattle.dm_replace.specs.Arguments.{arguments_where}
use Rattle.dm_replace.proofs.DeclaredArguments.{segment_made}
use Rattle.dm_replace.proofs.declared.self_type.Goals as goal

pub returns : goal.returns
returns c =
    let ps = map param_view c.as_slice-params.result.now in
    segment_made (declaration_view c.args.input.now) _ _ c.in_ok-ident.ensures
    (c.in_ok-add_names.ensures ∙
    ap (λ z. z ++ arguments_where is_other ps)
    (c.in_ok-add_lifetimes.ensures ∙ ap (λ z. map argument_of z ++ arguments_where is_lifetime ps) c.new-arguments.ensures) ∙
    ap (λ xs. arguments_where is_lifetime (map param_view xs) ++ arguments_where is_other (map param_view xs)) c.as_slice-params.ensures)
