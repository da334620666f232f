-- What stands behind a receiver is applied one after another.
use Rattle.std.proofs.Common.{◌≡◌, refl}
use Rattle.std.proofs.lemmas.Grind.{common_steps}
use Rattle.dm_output.specs.Output.{ExprTree}
use Rattle.dm_reread.specs.Reading.{Posts, no_posts, apply}
use Rattle.dm_read_posts.specs.Posts.{PostTree, member_post, call_post, map_post, map_err_post, question_post, post_then}

pub one_applied : (a : ExprTree) (p : PostTree) (ps : Posts) → apply a (post_then p ps) ≡ apply (apply a (post_then p no_posts)) ps
one_applied a (member_post x) ps = refl
one_applied a (call_post i es) ps = refl
one_applied a (map_post b) ps = refl
one_applied a (map_err_post o) ps = refl
one_applied a question_post ps = refl

pub ruleset applying_steps = (common_steps, one_applied)
