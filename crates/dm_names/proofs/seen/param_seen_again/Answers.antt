use Rattle.std.proofs.Common.{map, take, sym, ◌∙◌}
use Rattle.std.specs.Str.{bytes_eq}
use Rattle.dm_ast.specs.Declarations.{param_view}
use Rattle.dm_repeats.specs.Repeats.{param_again, is_lifetime_called, is_type_called}
use Rattle.dm_names.specs.SeenNames.{was_seen}
use Rattle.dm_names.proofs.SeenSteps.{repeats_pass, seen_more, seen_more_or, param_seen_is}
use Rattle.dm_names.proofs.seen.param_seen_again.Goals as goal

pub loop-param-preserved : goal.loop-param-preserved
loop-param-preserved c =
    let all = c.args.all.now in
    let i = c.loop-param.param-index in
    let x = c.param-item.result in
    let whole = c.args.type_name.now in
    let before = c.loop-param.invariant in
    let after = c.in_ok-span.ensures in (
      repeats_pass param_view all i x c.loop-param-test.true c.param-item.is (param_again whole)
          (sym (param_seen_is whole (was_seen c.loop-param.lifetimes) (was_seen c.loop-param.types) (map param_view (take i all)) (param_view x) before.1 before.2) ∙
          sym after.before ∙ c.in_default.is)
          before.0,
      λ q.
          seen_more param_view all i x c.loop-param-test.true c.param-item.is (is_lifetime_called q) (was_seen c.loop-param.lifetimes q)
          (was_seen c.see_param.new.lifetimes q) (before.1 q) (after.lifetimes q),
      λ q.
          seen_more_or param_view all i x c.loop-param-test.true c.param-item.is (bytes_eq whole.name q) (is_type_called q) (was_seen c.loop-param.types q)
          (was_seen c.see_param.new.types q) (before.2 q) (after.types q),
    )
