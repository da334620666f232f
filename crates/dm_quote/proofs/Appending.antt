-- One list of trees added after another, and what is left after want of memory.
use Rattle.std.specs.Prelude.{◌≡◌, refl}
use Rattle.std.proofs.Common.{ap, ◌∙◌, sym}
use Rattle.std.proofs.lemmas.Grind.{common_steps}
use Rattle.dm_stream.specs.declared.tokens.Span.{Span}
use Rattle.dm_stream.specs.declared.tokens.Delim.{Delim}
use Rattle.dm_stream.specs.declared.tokens.Token.{Token}
use Rattle.dm_stream.specs.Trees.{Trees, no_trees, token, group, join, join-no_trees, join_assoc}
use Rattle.dm_quote.specs.Appends.{IsPartly}

-- nothing was added
pub partly_none : (old added new : Trees) → new ≡ old → IsPartly old added new
partly_none old added new e = record {
  front = no_trees;
  missing = added;
  added_is = refl;
  new_is = e ∙ sym (join-no_trees old);
}

-- the first list was added, and of the second a front
pub partly_next : (old first rest mid new : Trees) → mid ≡ join old first → IsPartly mid rest new → IsPartly old (join first rest) new
partly_next old first rest mid new e p = record {
  front = join first p.front;
  missing = p.missing;
  added_is = ap (join first) p.added_is ∙ sym (join_assoc first p.front p.missing);
  new_is = p.new_is ∙ ap (λ t. join t p.front) e ∙ join_assoc old first p.front;
}

-- a front of the first list was added
pub partly_first : (old first rest new : Trees) → IsPartly old first new → IsPartly old (join first rest) new
partly_first old first rest new p = record {
  front = p.front;
  missing = join p.missing rest;
  added_is = ap (λ t. join t rest) p.added_is ∙ join_assoc p.front p.missing rest;
  new_is = p.new_is;
}

-- the same where the first list is one tree
pub partly_next_token : (old : Trees) (k : Token) (rest mid new : Trees) → mid ≡ join old (token k no_trees) → IsPartly mid rest new →
    IsPartly old (token k rest) new
partly_next_token old k rest mid new e p = partly_next old (token k no_trees) rest mid new e p

pub partly_first_token : (old : Trees) (k : Token) (rest new : Trees) → IsPartly old (token k no_trees) new → IsPartly old (token k rest) new
partly_first_token old k rest new p = partly_first old (token k no_trees) rest new p

pub partly_next_group : (old : Trees) (d : Delim) (from : Span) (inside : Trees) (upto : Span) (rest mid new : Trees) →
    mid ≡ join old (group d from inside upto no_trees) → IsPartly mid rest new → IsPartly old (group d from inside upto rest) new
partly_next_group old d from inside upto rest mid new e p = partly_next old (group d from inside upto no_trees) rest mid new e p

pub partly_first_group : (old : Trees) (d : Delim) (from : Span) (inside : Trees) (upto : Span) (rest new : Trees) →
    IsPartly old (group d from inside upto no_trees) new → IsPartly old (group d from inside upto rest) new
partly_first_group old d from inside upto rest new p = partly_first old (group d from inside upto no_trees) rest new p

pub ruleset append_steps = (common_steps, join-no_trees, join_assoc, partly_none, partly_next, partly_first, partly_next_token, partly_first_token, partly_next_group, partly_first_group)
