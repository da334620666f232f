-- What is taken from a list and what is left make up the list.
use Rattle.std.specs.Prelude.{◌≡◌, ℕ, zero, suc, true, Option, None, Some, [], ◌∷◌, refl}
use Rattle.std.proofs.Common.{ap, ◌∙◌, subst, sym}
use Rattle.dm_stream.specs.declared.tokens.Token.{Token}
use Rattle.dm_stream.specs.Trees.{Trees, no_trees, token, group, join, join-no_trees}
use Rattle.dm_stream.specs.Cursors.{split_trees, before}
use Rattle.dm_expr.specs.Cuts.{Front, run_at, split_at}
use Rattle.dm_expr.specs.Lists.{cuts_none, cuts_last, cuts_more, IsJoined, joined_none, joined_last, joined_more, NothingIsLost}

-- a list of which the first trees are split off
abbrev Makes : Trees → Option (Trees × Trees) → Type 0
Makes ts None = Unit {0}
Makes ts (Some p) = ts ≡ join p.0 p.1

makes-token : (k : Token) (rest : Trees) (o : Option (Trees × Trees)) → Makes rest o → Makes (token k rest) (before (token k no_trees) o)
makes-token k rest None h = tt
makes-token k rest (Some p) h = ap (token k) h

makes-group : (d : _) (from : _) (i : Trees) (upto : _) (rest : Trees) (o : Option (Trees × Trees)) → Makes rest o →
    Makes (group d from i upto rest) (before (group d from i upto no_trees) o)
makes-group d from i upto rest None h = tt
makes-group d from i upto rest (Some p) h = ap (group d from i upto) h

split-makes : (n : ℕ) (ts : Trees) → Makes ts (split_trees n ts)
split-makes zero ts = refl
split-makes (suc n) no_trees = tt
split-makes (suc n) (token k rest) = makes-token k rest (split_trees n rest) (split-makes n rest)
split-makes (suc n) (group d from i upto rest) = makes-group d from i upto rest (split_trees n rest) (split-makes n rest)

front-makes : (f : Front) (ts : Trees) → Makes ts (split_at f ts)
front-makes None ts = tt
front-makes (Some r) ts = split-makes r.0 ts

-- a front that is split off, and what it leaves
pub split_joins : (f : Front) (ts run rest : Trees) → split_at f ts ≡ Some (run, rest) → ts ≡ join run rest
split_joins f ts run rest e = subst (Makes ts) e (front-makes f ts)

pub nothing-lost : NothingIsLost
nothing-lost no_trees [] cuts_none = joined_none
nothing-lost (token k rest) [] c = elim c [ ]
nothing-lost (group d from i upto rest) [] c = elim c [ ]
nothing-lost ts (run ∷ []) (cuts_last e) =
    subst (λ t. IsJoined t (run ∷ [])) (sym (split_joins (run_at true ts) ts run no_trees e ∙ join-no_trees run)) (joined_last run)
nothing-lost ts (run ∷ others) (cuts_more {rest = rest} comma e k more) =
    joined_more comma k (split_joins (run_at true ts) ts run (token comma rest) e) (nothing-lost rest others more)
