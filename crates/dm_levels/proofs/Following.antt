-- What it takes to follow the tokens of implementations.
use Rattle.std.proofs.Common.{◌≡◌, ℕ, List, ◌++◌, Result, Ok, Err, refl}
use Rattle.dm_stream.specs.declared.tokens.Span.{Span}
use Rattle.dm_stream.specs.declared.tokens.Entry.{Entry}
use Rattle.std.proofs.lemmas.Grind.{common_steps}
use Rattle.dm_output.proofs.View.{view_ArmBody-Block, view_ArmBody-Expr, view_Stmt-Let, view_Stmt-Check, view_Stmt-Import, view_Stmt-Expr, view_Stmt-Const, view-NamedPattern, view-NamedExpr, view-Arm, view-Block}
use Rattle.dm_type_levels.specs.Passing.{pass_then}
use Rattle.dm_type_levels.proofs.Passes.{pass_both}

-- tokens behind entries that may be missing
pub then_both : (ls ms : List ℕ) (r : Result (List Entry) Span) → pass_then (ls ++ ms) r ≡ pass_then ms (pass_then ls r)
then_both ls ms (Ok es) = pass_both ls ms es
then_both ls ms (Err s) = refl

pub ruleset level_steps = (common_steps, pass_both, then_both)

pub ruleset pattern_steps = (level_steps, view-NamedPattern)

pub ruleset block_steps = (
  level_steps,
  view_ArmBody-Block,
  view_ArmBody-Expr,
  view_Stmt-Let,
  view_Stmt-Check,
  view_Stmt-Import,
  view_Stmt-Expr,
  view_Stmt-Const,
  view-NamedExpr,
  view-Arm,
  view-Block,
)
