-- Steps of what is printed without its trees.
use Rattle.std.proofs.Common.{◌≡◌, ℕ, ◌+◌, List, [], ◌∷◌, map, length, Bool, true, false, cond, eqb, Some, refl, sym, ap, ◌∙◌}
use Rattle.std.specs.Prelude.{not, ◌&&◌, ◌||◌}
use Rattle.dm_stream.specs.declared.tokens.Delim.TheVariants.{Brace}
use Rattle.dm_stream.specs.Trees.{no_trees, join}
use Rattle.dm_stream.specs.Layout.{Laid}
use Rattle.dm_ast.specs.Declarations.{Declaration}
use Rattle.dm_ast.specs.Implementors.{params_of, implementor}
use Rattle.dm_ast.specs.TypeTokens.{type_trees}
use Rattle.dm_print_types.specs.Laying.{lay, begun, done}
use Rattle.dm_output.specs.Output.{ExprTree, bool}
use Rattle.dm_output.specs.Tokens.{expr_trees, word, enclosed, in_turn, params_trees, trait_trees, where_trees, method_trees, head_trees, item_trees}
use Rattle.dm_print_types.proofs.Laying.{lay-join}
use Rattle.dm_partial_eq.specs.declared.comparing.Comparing.{Comparing}
use Rattle.dm_partial_eq.specs.declared.comparing.Comparing.TheVariants.{Equal, Unequal}
use Rattle.dm_operands.specs.Bodies.{no_match}
use Rattle.dm_operands.specs.Marked.{MarkedField, MarkedCase}
use Rattle.dm_operands.specs.Kept.{keeps_some, is_compared, some_compared}
use Rattle.dm_partial_eq.specs.Heads.{partial_eq_path}
use Rattle.dm_partial_eq.specs.Emitted.{neutral_of, test, tests, chain, matching, discriminants, needs_discriminants, with_discriminants, body_expr, methods, predicates_for, with_methods, item_for}
use Rattle.dm_operands.specs.declared.sides.Operand.TheVariants.{Mine, Theirs}
use Rattle.dm_operands.specs.CaseViews.{naming}
use Rattle.dm_partial_eq.specs.Printed.{sign_trees, joined, uncompared, impl_trees}
use Rattle.dm_sides.proofs.Patterns.{pattern_steps}

pub ruleset printing_steps = (pattern_steps)

-- ---- tests

-- a test is laid out operand, sign, operand
pub test-laid : (s : Laid) (c : Comparing) (n : ℕ) →
    lay (lay (lay s (word (naming Mine n))) (sign_trees c)) (word (naming Theirs n)) ≡ lay s (expr_trees (test c n))
test-laid s Equal n = refl
test-laid s Unequal n = refl

-- what is joined is laid out as its chain
chain-laid : (s : Laid) (c : Comparing) (e : ExprTree) (es : List ExprTree) → lay s (joined c true (e ∷ es)) ≡ lay s (expr_trees (chain c (e ∷ es)))
chain-laid s c e [] = lay-join s (expr_trees e) no_trees
chain-laid s Equal e (f ∷ es) = refl
chain-laid s Unequal e (f ∷ es) = refl

tests-step : (s : Laid) (c : Comparing) (n : ℕ) (fs : List MarkedField) (skip : Bool) →
    (keeps_some fs ≡ true → lay s (joined c true (tests c (n + 1) fs)) ≡ lay s (expr_trees (chain c (tests c (n + 1) fs)))) →
    (not skip || keeps_some fs) ≡ true →
    lay s (joined c true (cond skip (tests c (n + 1) fs) (test c n ∷ tests c (n + 1) fs))) ≡
    lay s (expr_trees (chain c (cond skip (tests c (n + 1) fs) (test c n ∷ tests c (n + 1) fs))))
tests-step s c n fs true rest some = rest some
tests-step s c n fs false rest some = chain-laid s c (test c n) (tests c (n + 1) fs)

-- the tests of fields of which one is kept are a chain
pub tests-laid : (s : Laid) (c : Comparing) (n : ℕ) (fs : List MarkedField) → keeps_some fs ≡ true →
    lay s (joined c true (tests c n fs)) ≡ lay s (expr_trees (chain c (tests c n fs)))
tests-laid s c n [] some = cc
tests-laid s c n (f ∷ fs) some = tests-step s c n fs f.left_out (tests-laid s c (n + 1) fs) some

both : (a b : Bool) → (a && b) ≡ true → b ≡ true
both true b h = h
both false b h = cc

-- a case that is compared keeps some field
pub keeps : (v : MarkedCase) → is_compared v ≡ true → keeps_some v.fields ≡ true
keeps v h = both (not v.left_out) (keeps_some v.fields) h

-- ---- a body without arms

alone : (c : Comparing) (d : Declaration) (vs : List MarkedCase) (b some : Bool) → some ≡ false →
    chain c (with_discriminants c b (cond some (matching c d vs ∷ []) [])) ≡ cond b (discriminants c) (bool (neutral_of c))
alone c d vs true some h = rw h refl
alone c d vs false some h = rw h refl

-- where no case is compared the test of the discriminants stands alone, or the neutral truth
pub uncompared-body : (c : Comparing) (d : Declaration) (vs : List MarkedCase) → some_compared vs ≡ false → uncompared c d vs ≡ body_expr c d vs
uncompared-body c d vs h =
    ap (λ e. cond (eqb (length vs) 0) no_match e) (sym (alone c d vs (needs_discriminants d vs) (some_compared vs) h))

-- ---- the implementation

-- the parts of the head, one behind the other
pub head-laid : (s : Laid) (d : Declaration) (vs : List MarkedCase) →
    lay (lay (lay (lay (lay s impl_trees) (params_trees (params_of d))) (trait_trees (Some partial_eq_path))) (type_trees (implementor d))) (where_trees (predicates_for d vs)) ≡
    lay s (head_trees (with_methods d vs []))
head-laid s d vs =
    let l : Laid = lay s impl_trees in
    let ps = params_trees (params_of d) in
    let t = trait_trees (Some partial_eq_path) in
    let ty = type_trees (implementor d) in
    let wheres = where_trees (predicates_for d vs) in
    sym (lay-join s impl_trees (join ps (join t (join ty wheres))) ∙ lay-join l ps (join t (join ty wheres)) ∙
    lay-join (lay l ps) t (join ty wheres) ∙ lay-join (lay (lay l ps) t) ty wheres)

-- the head, and the methods in braces
pub item-laid : (s : Laid) (d : Declaration) (vs : List MarkedCase) →
    done (lay (begun (lay s (head_trees (item_for d vs))) Brace) (in_turn (map method_trees (methods d vs)))) Brace ≡ lay s (item_trees (item_for d vs))
item-laid s d vs = sym (lay-join s (head_trees (item_for d vs)) (enclosed Brace (in_turn (map method_trees (methods d vs)))))
