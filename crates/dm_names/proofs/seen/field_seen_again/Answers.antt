use Rattle.std.proofs.Common.{map, take, sym, ◌∙◌}
use Rattle.dm_ast.specs.Declarations.{field_view}
use Rattle.dm_repeats.specs.Repeats.{field_again, is_field_called}
use Rattle.dm_names.specs.SeenNames.{was_seen}
use Rattle.dm_names.proofs.SeenSteps.{repeats_pass, seen_more, label_seen_is}
use Rattle.dm_names.proofs.seen.field_seen_again.Goals as goal

pub loop-field-preserved : goal.loop-field-preserved
loop-field-preserved c =
    let all = c.args.all.now in
    let i = c.loop-field.field-index in
    let x = c.field-item.result in
    let before = c.loop-field.invariant in
    let after = c.in_ok-span.ensures in (
      repeats_pass field_view all i x c.loop-field-test.true c.field-item.is field_again
          (sym (label_seen_is (was_seen c.loop-field.seen) (map field_view (take i all)) x.ident before.1) ∙ sym after.before ∙ c.in_default.is) before.0,
      λ q.
          seen_more field_view all i x c.loop-field-test.true c.field-item.is (is_field_called q) (was_seen c.loop-field.seen q)
          (was_seen c.see_label.new.seen q) (before.1 q) (after.after q),
    )
