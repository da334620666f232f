use Rattle.std.proofs.Common.{sym, ◌∙◌}
use Rattle.dm_ast.specs.Declarations.{declaration_view}
use Rattle.dm_names.proofs.NameChecks.{macro_refused, again_refused, reserved_refused, names_stand}
use Rattle.dm_names.proofs.seen.check_names_in.Goals as goal

pub returns-in-Some : goal.returns-in-Some
returns-in-Some c = macro_refused (declaration_view c.args.input.now) c.in-Some.span (sym c.place_of.ensures ∙ c.in-Some.is)

pub returns-in-Some-2 : goal.returns-in-Some-2
returns-in-Some-2 c =
    again_refused (declaration_view c.args.input.now) c.in-Some-2.span (sym c.place_of.ensures ∙ c.in_default.is)
    (sym c.in_ok-span.ensures ∙ c.in-Some-2.is)

pub returns-in-Some-place_of : goal.returns-in-Some-place_of
returns-in-Some-place_of c =
    reserved_refused (declaration_view c.args.input.now) c.in-Some-place_of.span (sym c.place_of.ensures ∙ c.in_default.is)
    (sym c.in_ok-span.ensures ∙ c.in_default-2.is) (sym c.place_of-2.ensures ∙ c.in-Some-place_of.is)

pub returns : goal.returns
returns c =
    names_stand (declaration_view c.args.input.now) (sym c.place_of.ensures ∙ c.in_default.is) (sym c.in_ok-span.ensures ∙ c.in_default-2.is)
    (sym c.place_of-2.ensures ∙ c.in_default-place_of.is)
