-- The rows of what no operator stands in or behind.
use Rattle.std.proofs.Common.{◌≡◌, ℕ, Bool, true, false, Some, refl, ap, ◌∙◌}
use Rattle.dm_stream.specs.declared.tokens.Delim.TheVariants.{Paren}
use Rattle.dm_stream.specs.declared.tokens.Literal.{Literal}
use Rattle.dm_stream.specs.Trees.{Trees}
use Rattle.dm_output.specs.Output.{ExprTree, str_expr, ArmTrees, match_expr}
use Rattle.dm_reread.specs.Next.{k_true, k_false, k_unsafe, k_match, Next, in_parens, in_braces, literal, a_word, next}
use Rattle.dm_reread.specs.Leaves.{Answer}
use Rattle.dm_reread.specs.Reading.{then, provided, is_str, match_of, read_base}
use Rattle.dm_read_places.specs.declared.front.Keyword.TheVariants as keyword
use Rattle.dm_read_places.specs.Fronts.{is_keyword, is_group_next}
use Rattle.dm_read_places.specs.Turns.{rows}
use Rattle.dm_read_places.proofs.Thens.{then_on}
use Rattle.dm_read_blocks.specs.Rows.{braced_arms}
use Rattle.dm_read_bases.specs.Rows.{leaf}
use Rattle.dm_read_exprs.specs.Rows.{match_from}
use Rattle.dm_read_statements.proofs.GroupSteps.{group_steps}

-- ---- `match`

abbrev Matched : ExprTree → Answer ArmTrees → Answer ExprTree
Matched a o = then o (λ s. Some (match_expr a s.0, s.1))

arms_behind : (n : ℕ) (a : ExprTree) (m : Next) → match_of (rows n) a m ≡ Matched a (braced_arms n m)
arms_behind n a (in_braces inside ts) = then_on (Matched a) refl ((rows n).arms inside) _ _ (λ s. refl)
arms_behind n a _ = refl

value_behind : (n : ℕ) (o : Answer ExprTree) →
    then o (λ a. match_of (rows n) a.0 (next a.1)) ≡ then o (λ a. Matched a.0 (braced_arms n (next a.1)))
value_behind n o = then_on (λ e. e) refl o _ _ (λ a. arms_behind n a.0 (next a.1))

pub match_is : (n : ℕ) (b : Bool) (ts us : Trees) (m : Next) → m ≡ a_word k_match us → read_base (rows n) b ts m ≡ match_from n us
match_is n b ts us m e = ap (read_base (rows n) b ts) e ∙ value_behind n ((rows n).expr false us)

-- ---- strings, and what begins with a path

text_left : (b : Bool) (l : Literal) (us : Trees) →
    provided b (Some (str_expr l, us)) ≡ then {A = ExprTree} {B = ExprTree × Trees} (provided b (Some (str_expr l))) (λ e. Some (e, us))
text_left true l us = refl
text_left false l us = refl

pub leaf_is : (n : ℕ) (b : Bool) (ts : Trees) (m : Next) → is_keyword keyword.True m ≡ false → is_keyword keyword.False m ≡ false →
    is_keyword keyword.Unsafe m ≡ false →
    is_keyword keyword.Match m ≡ false → is_group_next Paren m ≡ false → read_base (rows n) b ts m ≡ leaf n b ts m
leaf_is n b ts (literal l us) e f g h i = text_left (is_str l.kind) l us
leaf_is n b ts (in_parens inside us) e f g h i = absurd (cc)
leaf_is n b ts (a_word k_true us) e f g h i = absurd (cc)
leaf_is n b ts (a_word k_false us) e f g h i = absurd (cc)
leaf_is n b ts (a_word k_unsafe us) e f g h i = absurd (cc)
leaf_is n b ts (a_word k_match us) e f g h i = absurd (cc)
leaf_is n b ts _ e f g h i = refl

pub ruleset base_steps = (group_steps, match_is, leaf_is)
