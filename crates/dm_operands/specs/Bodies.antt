-- Parts that bodies of any trait have.
use Rattle.std.specs.Prelude.{[], ◌∷◌, codes}
use Rattle.dm_ast.specs.Tree.{no_self}
use Rattle.dm_ast.specs.Implementors.{plain_path}
use Rattle.dm_output.specs.Output.{wild, patterns_of, ExprTree, deref, path_expr, call, match_expr, no_exprs, no_expr, ArmTree, no_arms, expr_body}
use Rattle.dm_output.specs.Values.{Text}
use Rattle.dm_generics.specs.Words.{word, words}

-- a name as an expression
abbrev pub name : Text → ExprTree
name x = path_expr no_self (plain_path (word x ∷ []))

-- `match *self {}`, for an enum without variants
abbrev pub no_match : ExprTree
no_match = match_expr (deref (name (codes "self"))) no_arms

-- derive_more::core::hint::unreachable_unchecked()
abbrev pub unreachable_call : ExprTree
unreachable_call = call no_self (plain_path (words (codes "derive_more" ∷ codes "core" ∷ codes "hint" ∷ codes "unreachable_unchecked" ∷ []))) no_exprs

-- the arm of whatever the arms before it don't match
abbrev pub otherwise : ExprTree → ArmTree
otherwise e = record { patterns = patterns_of (wild ∷ []); guard = no_expr; body = expr_body e }
