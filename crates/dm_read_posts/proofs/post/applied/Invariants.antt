use Rattle.std.proofs.Common.{◌≡◌, map}
use Rattle.std.specs.Vec.Iter.{into_iter_items}
use Rattle.dm_output.specs.Views.{expr_view}
use Rattle.dm_reread.specs.Reading.{apply}
use Rattle.dm_read_posts.specs.Posts.{posts_of, post_view}
use Rattle.dm_read_posts.proofs.post.applied.Given as goal

abbrev pub invariant-loop-post : goal.invariant-loop-post
invariant-loop-post l = goal.iterator-loop-post.can_next l.post-iterator
    × goal.iterator-loop-post.is_finite l.post-iterator
    × (apply (expr_view l.found) (posts_of (map post_view (into_iter_items l.post-iterator))) ≡ apply (expr_view l.fn.receiver) (posts_of (map post_view l.fn.posts)))
