-- Values of which nothing is left open.
use Rattle.std.proofs.Common.{◌≡◌, ◌&&◌, ◌||◌, not, nat_eq, Bool, true, false, Some, None, refl, sym, ap, ◌∙◌, subst}
use Rattle.std.proofs.lemmas.Grind.{common_steps}
use Rattle.dm_stream.specs.declared.tokens.Punct.{Punct}
use Rattle.dm_stream.specs.declared.tokens.Token.TheVariants as t
use Rattle.dm_stream.specs.Trees.{Trees, no_trees, token, group}
use Rattle.dm_stream.specs.Cursors.{first_punct, first_tree}
use Rattle.dm_expr.specs.Cuts.{pair_at}
use Rattle.dm_expr.specs.Reach.{is_there}
use Rattle.dm_read.proofs.Seeing.{punct_front}
use Rattle.dm_reread.specs.Reading.{then, provided}
use Rattle.dm_reread.specs.RunLeaves.{read_run, is_closed}
use Rattle.dm_reread.specs.ExactLeaves.{closed_run}
use Rattle.dm_read_formats.specs.Values.{closes}

-- ---- the tree in front

pub no_punct_closes : (ts : Trees) → first_punct ts ≡ None → closes ts ≡ true
no_punct_closes (token (t.Punct p) us) e = absurd (cc)
no_punct_closes _ e = refl

pub punct_closes : (ts us : Trees) (p : Punct) → first_punct ts ≡ Some (p, us) →
    closes ts ≡ ((not (nat_eq p.ch 60) || is_there (pair_at 60 62 ts)) && not (nat_eq p.ch 124))
punct_closes ts us p e =
    subst (λ z. closes z ≡ ((not (nat_eq p.ch 60) || is_there (pair_at 60 62 z)) && not (nat_eq p.ch 124))) (sym (punct_front ts us p e)) refl

-- ---- tree by tree

closed_front : (a b : Bool) → a ≡ true → (a && b) ≡ b
closed_front true b e = refl
closed_front false b e = absurd (cc)

open_front : (a b : Bool) → a ≡ false → (a && b) ≡ false
open_front true b e = absurd (cc)
open_front false b e = refl

tree_rest : (ts us vs : Trees) (w : Trees × Trees) → Some w ≡ Some (vs, us) → w.1 ≡ us
tree_rest ts us vs w e = let f : w ≡ (vs, us) = cc in ap (λ (x : Trees × Trees). x.1) f

pub closed_on : (ts us vs : Trees) → first_tree ts ≡ Some (vs, us) → closes ts ≡ true → is_closed ts ≡ is_closed us
closed_on no_trees us vs e h = absurd (cc)
closed_on (token k ws) us vs e h =
    closed_front (closes (token k ws)) (is_closed ws) h ∙ ap is_closed (tree_rest (token k ws) us vs (token k no_trees, ws) e)
closed_on (group d from inside upto ws) us vs e h =
    ap is_closed (tree_rest (group d from inside upto ws) us vs (group d from inside upto no_trees, ws) e)

pub open_here : (ts us vs : Trees) → first_tree ts ≡ Some (vs, us) → closes ts ≡ false → is_closed ts ≡ false
open_here no_trees us vs e h = absurd (cc)
open_here (token k ws) us vs e h = open_front (closes (token k ws)) (is_closed ws) h
open_here (group d from inside upto ws) us vs e h = absurd (cc)

pub closed_end : (ts : Trees) → first_tree ts ≡ None → is_closed ts ≡ true
closed_end no_trees e = refl
closed_end _ e = absurd (cc)

-- ---- runs

pub run_closed : (ts us vs : Trees) → read_run ts ≡ Some (vs, us) → is_closed vs ≡ true → closed_run ts ≡ Some (vs, us)
run_closed ts us vs e h = ap (λ o. then o (λ a. provided (is_closed a.0) (Some a))) e ∙ ap (λ b. provided b (Some (vs, us))) h

pub run_open : (ts us vs : Trees) → read_run ts ≡ Some (vs, us) → is_closed vs ≡ false → closed_run ts ≡ None
run_open ts us vs e h = ap (λ o. then o (λ a. provided (is_closed a.0) (Some a))) e ∙ ap (λ b. provided b (Some (vs, us))) h

pub no_run : (ts : Trees) → read_run ts ≡ None → closed_run ts ≡ None
no_run ts e = ap (λ o. then o (λ a. provided (is_closed a.0) (Some a))) e

pub ruleset run_steps = (common_steps, no_punct_closes, punct_closes, closed_on, open_here, closed_end, run_closed, run_open, no_run)
