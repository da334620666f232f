use Rattle.std.proofs.Common.{map, option_map, sym, ap, ◌∙◌}
use Rattle.std.proofs.lemmas.Result.{IfOk-weaker}
use Rattle.dm_ast.specs.Declarations.{listed, predicate_view}
use Rattle.dm_ast.specs.Implementors.{predicates_in}
use Rattle.dm_where_clauses.specs.Shown.{shown}
use Rattle.dm_where_clauses.proofs.needed.declared.Goals as goal

pub returns-in-None : goal.returns-in-None
returns-in-None c =
    λ a. ap (map (shown a)) c.new.ensures.items ∙ sym (ap (λ w. predicates_in (option_map (listed predicate_view) w)) c.in-None.is)

pub returns-in-Some : goal.returns-in-Some
returns-in-Some c =
    IfOk-weaker c.listed.result _ _
    (λ ps h a. h a ∙ ap (map predicate_view) c.as_slice.ensures ∙ sym (ap (λ w. predicates_in (option_map (listed predicate_view) w)) c.in-Some.is))
    c.listed.ensures
