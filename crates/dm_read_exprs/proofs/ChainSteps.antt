-- The rows of operators between two expressions.
use Rattle.std.proofs.Common.{◌≡◌, ℕ, Bool, true, false, Some, refl}
use Rattle.std.proofs.lemmas.Grind.{common_steps}
use Rattle.dm_stream.specs.Trees.{Trees}
use Rattle.dm_output.specs.Output.{ExprTree, and_expr, or_expr, expr_then}
use Rattle.dm_reread.specs.Next.{k_return, Next, oror, andand, equals, differs, a_word}
use Rattle.dm_reread.specs.Reading.{then, Readers, after_pre, after_cmp, after_and, or_from}
use Rattle.dm_read_places.specs.declared.front.Sign.TheVariants as sign
use Rattle.dm_read_places.specs.declared.front.Keyword.TheVariants as keyword
use Rattle.dm_read_places.specs.declared.list.Turn.TheVariants.{End}
use Rattle.dm_read_places.specs.Fronts.{is_sign, is_keyword}
use Rattle.dm_read_places.specs.Turns.{rows}
use Rattle.dm_read_exprs.specs.Turns.{and_turn_at, or_turn_at}
use Rattle.dm_read_exprs.specs.Rows.{plain_or}
use Rattle.dm_read_exprs.proofs.ChainLists.{ands_are, ors_are}

pub ands_end : (b : Bool) (n : ℕ) (ts : Trees) (m : Next) → is_sign sign.AndAnd m ≡ false → and_turn_at b n ts m ≡ Some (End tt, ts)
ands_end b n ts (andand us) e = absurd (cc)
ands_end b n ts _ e = refl

pub ors_end : (b : Bool) (n : ℕ) (ts : Trees) (m : Next) → is_sign sign.OrOr m ≡ false → or_turn_at b n ts m ≡ Some (End tt, ts)
ors_end b n ts (oror us) e = absurd (cc)
ors_end b n ts _ e = refl

pub no_comparison : (r : Readers) (b : Bool) (a : ExprTree) (ts : Trees) (m : Next) → is_sign sign.Equals m ≡ false →
    is_sign sign.Differs m ≡ false →
    after_pre r b a ts m ≡ Some (a, ts)
no_comparison r b a ts (equals us) e f = absurd (cc)
no_comparison r b a ts (differs us) e f = absurd (cc)
no_comparison r b a ts _ e f = refl

pub no_and : (r : Readers) (b : Bool) (a : ExprTree) (ts : Trees) (m : Next) → is_sign sign.AndAnd m ≡ false →
    after_cmp r b a ts m ≡ Some (a, ts)
no_and r b a ts (andand us) e = absurd (cc)
no_and r b a ts _ e = refl

pub some_and : (r : Readers) (b : Bool) (a : ExprTree) (ts : Trees) (m : Next) → is_sign sign.AndAnd m ≡ true →
    after_cmp r b a ts m ≡ then (r.ands b ts) (λ s. Some (and_expr (expr_then a s.0), s.1))
some_and r b a ts (andand us) e = refl
some_and r b a ts _ e = absurd (cc)

pub no_or : (r : Readers) (b : Bool) (a : ExprTree) (ts : Trees) (m : Next) → is_sign sign.OrOr m ≡ false →
    after_and r b a ts m ≡ Some (a, ts)
no_or r b a ts (oror us) e = absurd (cc)
no_or r b a ts _ e = refl

pub some_or : (r : Readers) (b : Bool) (a : ExprTree) (ts : Trees) (m : Next) → is_sign sign.OrOr m ≡ true →
    after_and r b a ts m ≡ then (r.ors b ts) (λ s. Some (or_expr (expr_then a s.0), s.1))
some_or r b a ts (oror us) e = refl
some_or r b a ts _ e = absurd (cc)

pub no_return : (n : ℕ) (b : Bool) (ts : Trees) (m : Next) → is_keyword keyword.Return m ≡ false → or_from (rows n) b ts m ≡ plain_or n b ts
no_return n b ts (a_word k_return us) e = absurd (cc)
no_return n b ts _ e = refl

pub ruleset chain_steps = (common_steps, ands_end, ors_end, no_comparison, no_and, some_and, no_or, some_or, no_return, ands_are, ors_are)
