-- The rows of operators in front of an operand.
use Rattle.std.proofs.Common.{◌≡◌, not, Bool, true, false, cond, Some, None, refl}
use Rattle.dm_stream.specs.declared.tokens.Delim.TheVariants.{Paren}
use Rattle.dm_stream.specs.Trees.{Trees}
use Rattle.dm_output.specs.Output.{ref_opaque}
use Rattle.dm_reread.specs.Next.{k_mut, Next, star, amp, dot, asks, in_parens, a_word, next}
use Rattle.dm_reread.specs.Reading.{provided, is_some_trees, Readers, goes_on, ref_from_pre, read_mut_ref, read_ref, read_pre, read_post}
use Rattle.dm_read_places.specs.declared.front.Sign.TheVariants as sign
use Rattle.dm_read_places.specs.declared.front.Keyword.TheVariants as keyword
use Rattle.dm_read_places.specs.Fronts.{is_sign, is_keyword, is_group_next}
use Rattle.dm_read_statements.proofs.GroupSteps.{group_steps}
use Rattle.dm_read_exprs.specs.Rows.{sees_closed, opaque_group}

-- ---- groups

pub dot_goes : (m : Next) → is_sign sign.Dot m ≡ true → goes_on m ≡ true
dot_goes (dot ts) e = refl
dot_goes _ e = absurd (cc)

pub asks_goes : (m : Next) → is_group_next Paren m ≡ false → is_sign sign.Dot m ≡ false → goes_on m ≡ is_sign sign.Asks m
asks_goes (in_parens inside ts) e f = absurd (cc)
asks_goes (dot ts) e f = absurd (cc)
asks_goes (asks ts) e f = refl
asks_goes _ e f = refl

pub no_closed : (m : Next) → is_group_next Paren m ≡ false → sees_closed m ≡ false
no_closed (in_parens inside ts) e = absurd (cc)
no_closed _ e = refl

pub no_opaque : (m : Next) → is_group_next Paren m ≡ false → opaque_group m ≡ None
no_opaque (in_parens inside ts) e = absurd (cc)
no_opaque _ e = refl

-- ---- references

closed_goes : {A : Type 0} (b : Bool) (x y : A) → not b ≡ true → cond b x y ≡ y
closed_goes true x y e = absurd (cc)
closed_goes false x y e = refl

open_goes : {A : Type 0} (b : Bool) (x y : A) → not b ≡ false → cond b x y ≡ x
open_goes true x y e = refl
open_goes false x y e = absurd (cc)

pub closed_mut : (r : Readers) (b : Bool) (ts : Trees) (m : Next) → sees_closed m ≡ true → read_mut_ref r b ts m ≡ None
closed_mut r b ts (in_parens inside us) e = closed_goes (goes_on (next us)) (ref_from_pre r b true ts) None e
closed_mut r b ts _ e = absurd (cc)

pub open_mut : (r : Readers) (b : Bool) (ts : Trees) (m : Next) → sees_closed m ≡ false → read_mut_ref r b ts m ≡ ref_from_pre r b true ts
open_mut r b ts (in_parens inside us) e = open_goes (goes_on (next us)) (ref_from_pre r b true ts) None e
open_mut r b ts _ e = refl

pub closed_ref : (r : Readers) (b : Bool) (ts : Trees) (m : Next) → is_keyword keyword.Mut m ≡ false → sees_closed m ≡ true →
    read_ref r b ts m ≡ opaque_group m
closed_ref r b ts (in_parens inside us) e f =
    closed_goes (goes_on (next us)) (ref_from_pre r b false ts) (provided (is_some_trees inside) (Some (ref_opaque inside, us))) f
closed_ref r b ts _ e f = absurd (cc)

pub open_ref : (r : Readers) (b : Bool) (ts : Trees) (m : Next) → is_keyword keyword.Mut m ≡ false → sees_closed m ≡ false →
    read_ref r b ts m ≡ ref_from_pre r b false ts
open_ref r b ts (a_word k_mut us) e f = absurd (cc)
open_ref r b ts (in_parens inside us) e f =
    open_goes (goes_on (next us)) (ref_from_pre r b false ts) (provided (is_some_trees inside) (Some (ref_opaque inside, us))) f
open_ref r b ts _ e f = refl

pub no_prefix : (r : Readers) (b : Bool) (ts : Trees) (m : Next) → is_sign sign.Star m ≡ false → is_sign sign.Amp m ≡ false →
    read_pre r b ts m ≡ read_post r b ts m
no_prefix r b ts (star us) e f = absurd (cc)
no_prefix r b ts (amp us) e f = absurd (cc)
no_prefix r b ts _ e f = refl

pub ruleset prefix_steps = (group_steps, dot_goes, asks_goes, no_closed, no_opaque, closed_mut, open_mut, closed_ref, open_ref, no_prefix)
