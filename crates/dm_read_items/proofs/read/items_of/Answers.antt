-- What is read of a text's trees, or why nothing is.
use Rattle.std.proofs.Common.{map, sym, ap, ap₂, ◌∙◌}
use Rattle.dm_output.specs.Views.{item_view}
use Rattle.dm_levels.specs.Levels.{items_levels, deep_in}
use Rattle.dm_reread.specs.ReadBack.{read_output}
use Rattle.dm_read_items.proofs.ReadSteps.{kept_within, refused_within, unlike_unread}
use Rattle.dm_read_items.proofs.read.items_of.Goals as goal

pub returns-in-Ok : goal.returns-in-Ok
returns-in-Ok c =
    let ts = c.args.stream.now.trees in
    let e = ap read_output (sym (c.new.ensures ∙ c.cursor.ensures.left)) ∙ c.in-Ok.ensures in
    let d = c.first_deep-deep.ensures ∙ ap₂ (λ a b. deep_in (items_levels (map item_view a)) b) c.as_slice.ensures c.entries.ensures in
    record {
      items = λ text t. kept_within text ts c.in-Ok.found c.first_deep-deep.result t e d c.within.result c.within.ensures;
      unread = λ text t. refused_within text ts c.in-Ok.found c.first_deep-deep.result t e d c.within.result c.within.ensures;
    }

pub returns-in-Err-clause-unread : goal.returns-in-Err-clause-unread
returns-in-Err-clause-unread c = λ text t.
    unlike_unread text c.args.stream.now.trees c.new.result c.in-Err.error c.unlike.result t
    (c.new.ensures ∙ c.cursor.ensures.left) c.in-Err.ensures c.unlike.ensures
