use Rattle.std.proofs.Common.{◌≤◌, ◌+◌, length, ◌∷◌, ap, ◌∙◌, arith}
use Rattle.dm_stream.proofs.Trees.{tree_len-group}
use Rattle.dm_stream.proofs.cursor.tree_len.Goals as goal

pub overflow_add-result : goal.overflow_add-result
overflow_add-result c =
    let f : c.in-Open.count + 1 ≤ length c.args.entries.now =
    (tree_len-group _ _ _ _ _ c.requires.flat (c.in-Some.ensures ∙ ap (λ e. e ∷ c.in-Some.field-0-1.now) c.in-Open.is)).fits in
    omega arith

pub returns-in-Open : goal.returns-in-Open
returns-in-Open c =
    tree_len-group _ _ _ _ _ c.requires.flat (c.in-Some.ensures ∙ ap (λ e. e ∷ c.in-Some.field-0-1.now) c.in-Open.is)
