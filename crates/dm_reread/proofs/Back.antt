-- Every tree of the grammar comes back from its tokens, and no two trees have the same. All of it over any leaves that keep their laws.
use Rattle.std.specs.Prelude.{◌≡◌, ◌+◌, ◌*◌, true, Some, None}
use Rattle.std.proofs.Common.{ap, ◌∙◌, sym, subst}
use native.Mathlib.Omega.{arith}
use Rattle.dm_stream.specs.Trees.{Trees, no_trees, join, join-no_trees}
use Rattle.dm_output.specs.Output.{ExprTree, PatternTree, BlockTree}
use Rattle.dm_output.specs.Tokens.{expr_trees, pattern_trees, inside_trees}
use Rattle.dm_reread.specs.Next.{next}
use Rattle.dm_reread.specs.Leaves.{LeafGrammar, Leaves, LeafLaws}
use Rattle.dm_reread.specs.Reading.{whole}
use Rattle.dm_reread.specs.Grammar.{at_or, Stops, IsExpr, IsBlock, EndsPattern, IsPattern}
use Rattle.dm_reread.specs.Spelled.{IsRead, IsInside}
use Rattle.dm_reread.specs.Whole.{size, read_expr, read_pattern, read_whole, read_inside}
use Rattle.dm_reread.proofs.Coming.{laws}
use Rattle.dm_reread.proofs.Fuel.{size-join, expr-size, pattern-size, block-size}

some-same : {A : Type 0} → (x y : A) → Some x ≡ Some y → x ≡ y
some-same x y h = cc

-- ---- with others behind

pub comes-back : (g : LeafGrammar) (l : Leaves) → LeafLaws g l → (e : ExprTree) (rest : Trees) → IsExpr g true e →
    Stops at_or true (next rest) →
    read_expr l (join (expr_trees e) rest) ≡ Some (e, rest)
comes-back g l L e rest h s =
    (laws g l L (5 * size (join (expr_trees e) rest))).expr true e rest h (omega (arith, size-join (expr_trees e) rest, expr-size g true e h)) s

pub pattern-back : (g : LeafGrammar) (l : Leaves) → LeafLaws g l → (p : PatternTree) (rest : Trees) → IsPattern p →
    EndsPattern (next rest) →
    read_pattern l (join (pattern_trees p) rest) ≡ Some (p, rest)
pattern-back g l L p rest h s =
    (laws g l L (5 * size (join (pattern_trees p) rest))).pattern p rest h (omega (arith, size-join (pattern_trees p) rest, pattern-size p h)) s

-- ---- to the end

pub whole-back : (g : LeafGrammar) (l : Leaves) → LeafLaws g l → (e : ExprTree) → IsExpr g true e → read_whole l (expr_trees e) ≡ Some e
whole-back g l L e h = ap (read_whole l) (sym (join-no_trees (expr_trees e))) ∙ ap whole (comes-back g l L e no_trees h tt)

pub block-back : (g : LeafGrammar) (l : Leaves) → LeafLaws g l → (d : BlockTree) → IsBlock g d → read_inside l (inside_trees d) ≡ Some d
block-back g l L d h = (laws g l L (1 + 5 * size (inside_trees d))).block d h (block-size g d h)

pub whole-pattern-back : (g : LeafGrammar) (l : Leaves) → LeafLaws g l → (p : PatternTree) → IsPattern p →
    whole (read_pattern l (pattern_trees p)) ≡ Some p
whole-pattern-back g l L p h =
    ap (λ ts. whole (read_pattern l ts)) (sym (join-no_trees (pattern_trees p))) ∙ ap whole (pattern-back g l L p no_trees h tt)

-- ---- a tree has tokens of its own

pub unique : (g : LeafGrammar) (l : Leaves) → LeafLaws g l → (e e' : ExprTree) → IsExpr g true e → IsExpr g true e' →
    expr_trees e ≡ expr_trees e' → e ≡ e'
unique g l L e e' h h' same = some-same e e' (sym (whole-back g l L e h) ∙ ap (read_whole l) same ∙ whole-back g l L e' h')

pub unique-block : (g : LeafGrammar) (l : Leaves) → LeafLaws g l → (d d' : BlockTree) → IsBlock g d → IsBlock g d' →
    inside_trees d ≡ inside_trees d' → d ≡ d'
unique-block g l L d d' h h' same = some-same d d' (sym (block-back g l L d h) ∙ ap (read_inside l) same ∙ block-back g l L d' h')

pub unique-pattern : (g : LeafGrammar) (l : Leaves) → LeafLaws g l → (p p' : PatternTree) → IsPattern p → IsPattern p' →
    pattern_trees p ≡ pattern_trees p' → p ≡ p'
unique-pattern g l L p p' h h' same =
    some-same p p' (sym (whole-pattern-back g l L p h) ∙ ap (λ ts. whole (read_pattern l ts)) same ∙ whole-pattern-back g l L p' h')

-- ---- a text that some tree spells is read, and as that tree

pub complete : (g : LeafGrammar) (l : Leaves) → LeafLaws g l → (ts : Trees) (e : ExprTree) → IsExpr g true e → expr_trees e ≡ ts →
    read_whole l ts ≡ Some e
complete g l L ts e h same = ap (read_whole l) (sym same) ∙ whole-back g l L e h

pub complete-block : (g : LeafGrammar) (l : Leaves) → LeafLaws g l → (ts : Trees) (d : BlockTree) → IsBlock g d → inside_trees d ≡ ts →
    read_inside l ts ≡ Some d
complete-block g l L ts d h same = ap (read_inside l) (sym same) ∙ block-back g l L d h

-- ---- what a comparison of the answer with the text shows

-- where the reader refuses, no tree has the tokens
pub none-reads : (g : LeafGrammar) (l : Leaves) → LeafLaws g l → (ts : Trees) (e : ExprTree) → read_whole l ts ≡ None → IsRead g e ts → ⊥
none-reads g l L ts e n h = let s : read_whole l ts ≡ Some e = complete g l L ts e h.is_expr h.spells in cc

-- where its answer does not compare, neither
pub wrong-reads : (g : LeafGrammar) (l : Leaves) → LeafLaws g l → (ts : Trees) (e e' : ExprTree) → read_whole l ts ≡ Some e →
    (IsRead g e ts → ⊥) → IsRead g e' ts → ⊥
wrong-reads g l L ts e e' r w h =
    let s : read_whole l ts ≡ Some e' = complete g l L ts e' h.is_expr h.spells in
    let same : e' ≡ e = some-same e' e (sym s ∙ r) in
    w (subst (λ x. IsRead g x ts) same h)

-- where it does, it is the one
pub one-reads : (g : LeafGrammar) (l : Leaves) → LeafLaws g l → (ts : Trees) (e e' : ExprTree) → IsRead g e ts → IsRead g e' ts → e ≡ e'
one-reads g l L ts e e' h h' = unique g l L e e' h.is_expr h'.is_expr (h.spells ∙ sym h'.spells)

-- ---- the same of blocks

pub none-reads-block : (g : LeafGrammar) (l : Leaves) → LeafLaws g l → (ts : Trees) (d : BlockTree) → read_inside l ts ≡ None →
    IsInside g d ts → ⊥
none-reads-block g l L ts d n h = let s : read_inside l ts ≡ Some d = complete-block g l L ts d h.is_block h.spells in cc

pub wrong-reads-block : (g : LeafGrammar) (l : Leaves) → LeafLaws g l → (ts : Trees) (d d' : BlockTree) → read_inside l ts ≡ Some d →
    (IsInside g d ts → ⊥) →
    IsInside g d' ts → ⊥
wrong-reads-block g l L ts d d' r w h =
    let s : read_inside l ts ≡ Some d' = complete-block g l L ts d' h.is_block h.spells in
    let same : d' ≡ d = some-same d' d (sym s ∙ r) in
    w (subst (λ x. IsInside g x ts) same h)

pub one-reads-block : (g : LeafGrammar) (l : Leaves) → LeafLaws g l → (ts : Trees) (d d' : BlockTree) → IsInside g d ts →
    IsInside g d' ts → d ≡ d'
one-reads-block g l L ts d d' h h' = unique-block g l L d d' h.is_block h'.is_block (h.spells ∙ sym h'.spells)
