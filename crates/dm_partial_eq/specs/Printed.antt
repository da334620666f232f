-- The tokens of the parts that are printed without their trees.
use Rattle.std.specs.Prelude.{Bool, List, [], ◌∷◌, map, length, cond, eqb, codes}
use Rattle.dm_stream.specs.Trees.{Trees, no_trees, join}
use Rattle.dm_ast.specs.Declarations.{Declaration}
use Rattle.dm_ast.specs.TypeTokens.{spaced}
use Rattle.dm_output.specs.Output.{ExprTree, exprs_of, bool}
use Rattle.dm_output.specs.Tokens.{joint, word, in_turn, attr_trees, each_expr, expr_trees}
use Rattle.dm_output.specs.declared.item.ItemAttr.TheVariants.{AllowPrivateBounds, AutomaticallyDerived}
use Rattle.dm_partial_eq.specs.declared.comparing.Comparing.{Comparing}
use Rattle.dm_partial_eq.specs.declared.comparing.Comparing.TheVariants.{Equal, Unequal}
use Rattle.dm_operands.specs.Bodies.{no_match}
use Rattle.dm_operands.specs.Marked.{MarkedCase}
use Rattle.dm_partial_eq.specs.Emitted.{neutral_of, discriminants, matching, needs_discriminants}

-- `==`, or `!=`
abbrev pub sign_trees : Comparing → Trees
sign_trees Equal = joint 61 61
sign_trees Unequal = joint 33 61

-- `&&`, or `||`
abbrev pub join_trees : Comparing → Trees
join_trees Equal = joint 38 38
join_trees Unequal = joint 124 124

-- expressions with `&&` or `||` between them, and in front of them where they aren't the first
abbrev pub joined : Comparing → Bool → List ExprTree → Trees
joined c first es = spaced (join_trees c) first (each_expr (exprs_of es))

-- the test of the discriminants, where it is wanted, and what joins it to the rest
abbrev pub discriminants_trees : Comparing → Bool → Trees
discriminants_trees c wanted = cond wanted (join (expr_trees (discriminants c)) (join_trees c)) no_trees

-- the body where some case is compared
abbrev pub compared_trees : Comparing → Declaration → List MarkedCase → Trees
compared_trees c d vs = join (discriminants_trees c (needs_discriminants d vs)) (expr_trees (matching c d vs))

-- the body where no case is compared
abbrev pub uncompared : Comparing → Declaration → List MarkedCase → ExprTree
uncompared c d vs = cond (eqb (length vs) 0) no_match (cond (needs_discriminants d vs) (discriminants c) (bool (neutral_of c)))

-- `#[allow(private_bounds)] #[automatically_derived] impl`
abbrev pub impl_trees : Trees
impl_trees = join (in_turn (map attr_trees (AllowPrivateBounds ∷ AutomaticallyDerived ∷ []))) (word (codes "impl"))
