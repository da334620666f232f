use Rattle.std.proofs.Common.{sym, ◌∙◌}
use Rattle.dm_ast.specs.Declarations.{declaration_view}
use Rattle.dm_names.proofs.NameChecks.{macro_refused, again_refused, reserved_refused, names_stand}
use Rattle.dm_names.proofs.check.check_names.Goals as goal

pub returns-in-Some : goal.returns-in-Some
returns-in-Some c = macro_refused (declaration_view c.args.input.now) c.in-Some.span (sym c.place_of.ensures ∙ c.in-Some.is)

pub returns-in-Some-repeated_name : goal.returns-in-Some-repeated_name
returns-in-Some-repeated_name c =
    again_refused (declaration_view c.args.input.now) c.in-Some-repeated_name.span (sym c.place_of.ensures ∙ c.in_default.is)
    (sym c.repeated_name.ensures ∙ c.in-Some-repeated_name.is)

pub returns-in-Some-place_of : goal.returns-in-Some-place_of
returns-in-Some-place_of c =
    reserved_refused (declaration_view c.args.input.now) c.in-Some-place_of.span (sym c.place_of.ensures ∙ c.in_default.is)
    (sym c.repeated_name.ensures ∙ c.in_default-repeated_name.is) (sym c.place_of-2.ensures ∙ c.in-Some-place_of.is)

pub returns : goal.returns
returns c =
    names_stand (declaration_view c.args.input.now) (sym c.place_of.ensures ∙ c.in_default.is) (sym c.repeated_name.ensures ∙ c.in_default-repeated_name.is)
    (sym c.place_of-2.ensures ∙ c.in_default-place_of.is)
