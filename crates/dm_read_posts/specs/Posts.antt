-- What stands behind a receiver, one after another.
use Rattle.std.specs.Prelude.{List, [], ◌∷◌, map}
use Rattle.dm_stream.specs.declared.tokens.Ident.{Ident}
use Rattle.dm_stream.specs.Trees.{Trees}
use Rattle.dm_output.specs.declared.expr.Member.{Member}
use Rattle.dm_output.specs.Output.{ExprTree, ExprTrees, exprs_of}
use Rattle.dm_output.specs.Views.{expr_view, opaque_view}
use Rattle.dm_reread.specs.Reading.{Posts, no_posts, p_member, p_call, p_map, p_map_err, p_question}
use Rattle.dm_read_posts.specs.declared.post.Post.{Post}
use Rattle.dm_read_posts.specs.declared.post.Post.TheVariants as post

pub data PostTree : Type 0 where
  member_post : Member → PostTree
  call_post : Ident → ExprTrees → PostTree
  map_post : ExprTree → PostTree
  map_err_post : Trees → PostTree
  question_post : PostTree

abbrev pub post_then : PostTree → Posts → Posts
post_then (member_post m) ps = p_member m ps
post_then (call_post i es) ps = p_call i es ps
post_then (map_post e) ps = p_map e ps
post_then (map_err_post o) ps = p_map_err o ps
post_then question_post ps = p_question ps

abbrev pub posts_of : List PostTree → Posts
posts_of [] = no_posts
posts_of (p ∷ ps) = post_then p (posts_of ps)

abbrev pub post_view : Post → PostTree
post_view (post.Member m) = member_post m
post_view (post.Call i es) = call_post i (exprs_of (map expr_view es))
post_view (post.Map e) = map_post (expr_view e)
post_view (post.MapErr o) = map_err_post (opaque_view o)
post_view post.Question = question_post
