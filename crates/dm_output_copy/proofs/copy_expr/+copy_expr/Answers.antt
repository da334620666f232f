use native.Mathlib.Omega.{arith}
use Rattle.dm_output.proofs.View.{view_Expr-Return, view_Expr-Or, view_Expr-And, view_Expr-Equal, view_Expr-Unequal, view_Expr-RefOpaque, view_Expr-Ref, view_Expr-Deref, view_Expr-Member, view_Expr-Map, view_Expr-MapErr, view_Expr-Question, view_Expr-Path, view_Expr-Call, view_Expr-Build, view_Expr-BuildNamed, view_Expr-Paren, view_Expr-Tuple, view_Expr-OpaqueCall, view_Expr-Str, view_Expr-Bool, view_Expr-Match, view_Expr-Unsafe, view_Expr-Write, view_Expr-FormatArgs, view_Stmt-Let, view_Stmt-Check, view_Stmt-Import, view_Stmt-Expr, view_Stmt-Const, view_ArmBody-Block, view_ArmBody-Expr, view-Block, view-Arm}
use Rattle.dm_output_copy.proofs.CallCopies.{call_shown}
use Rattle.dm_output_copy.proofs.copy_expr.+copy_expr.Goals as goal

pub copy_expr-returns-in-Return : goal.copy_expr-returns-in-Return
copy_expr-returns-in-Return t c = grind (arith, view_Expr-Return)

pub copy_expr-returns-in-Or : goal.copy_expr-returns-in-Or
copy_expr-returns-in-Or t c = grind (arith, view_Expr-Or)

pub copy_expr-returns-in-And : goal.copy_expr-returns-in-And
copy_expr-returns-in-And t c = grind (arith, view_Expr-And)

pub copy_expr-returns-in-Equal : goal.copy_expr-returns-in-Equal
copy_expr-returns-in-Equal t c = grind (arith, view_Expr-Equal)

pub copy_expr-returns-in-Unequal : goal.copy_expr-returns-in-Unequal
copy_expr-returns-in-Unequal t c = grind (arith, view_Expr-Unequal)

pub copy_expr-returns-in-RefOpaque : goal.copy_expr-returns-in-RefOpaque
copy_expr-returns-in-RefOpaque t c = grind (arith, view_Expr-RefOpaque)

pub copy_expr-returns-in-Ref : goal.copy_expr-returns-in-Ref
copy_expr-returns-in-Ref t c = grind (arith, view_Expr-Ref)

pub copy_expr-returns-in-Deref : goal.copy_expr-returns-in-Deref
copy_expr-returns-in-Deref t c = grind (arith, view_Expr-Deref)

pub copy_expr-returns-in-Member : goal.copy_expr-returns-in-Member
copy_expr-returns-in-Member t c = grind (arith, view_Expr-Member)

pub copy_expr-returns-in-MethodCall : goal.copy_expr-returns-in-MethodCall
copy_expr-returns-in-MethodCall t c =
    call_shown c.method_call.result c.args.expr.now _ _ _ c.in-MethodCall.is c.method_call.ensures

pub copy_expr-returns-in-Map : goal.copy_expr-returns-in-Map
copy_expr-returns-in-Map t c = grind (arith, view_Expr-Map)

pub copy_expr-returns-in-MapErr : goal.copy_expr-returns-in-MapErr
copy_expr-returns-in-MapErr t c = grind (arith, view_Expr-MapErr)

pub copy_expr-returns-in-Question : goal.copy_expr-returns-in-Question
copy_expr-returns-in-Question t c = grind (arith, view_Expr-Question)

pub copy_expr-returns-in-Path : goal.copy_expr-returns-in-Path
copy_expr-returns-in-Path t c = grind (arith, view_Expr-Path)

pub copy_expr-returns-in-Call : goal.copy_expr-returns-in-Call
copy_expr-returns-in-Call t c = grind (arith, view_Expr-Call)

pub copy_expr-returns-in-Build : goal.copy_expr-returns-in-Build
copy_expr-returns-in-Build t c = grind (arith, view_Expr-Build)

pub copy_expr-returns-in-BuildNamed : goal.copy_expr-returns-in-BuildNamed
copy_expr-returns-in-BuildNamed t c = grind (arith, view_Expr-BuildNamed)

pub copy_expr-returns-in-Paren : goal.copy_expr-returns-in-Paren
copy_expr-returns-in-Paren t c = grind (arith, view_Expr-Paren)

pub copy_expr-returns-in-Tuple : goal.copy_expr-returns-in-Tuple
copy_expr-returns-in-Tuple t c = grind (arith, view_Expr-Tuple)

pub copy_expr-returns-in-OpaqueCall : goal.copy_expr-returns-in-OpaqueCall
copy_expr-returns-in-OpaqueCall t c = grind (arith, view_Expr-OpaqueCall)

pub copy_expr-returns-in-Str : goal.copy_expr-returns-in-Str
copy_expr-returns-in-Str t c = grind (arith, view_Expr-Str)

pub copy_expr-returns-in-Bool : goal.copy_expr-returns-in-Bool
copy_expr-returns-in-Bool t c = grind (arith, view_Expr-Bool)

pub copy_expr-returns-in-Match : goal.copy_expr-returns-in-Match
copy_expr-returns-in-Match t c = grind (arith, view_Expr-Match)

pub copy_expr-returns-in-Unsafe : goal.copy_expr-returns-in-Unsafe
copy_expr-returns-in-Unsafe t c = grind (arith, view_Expr-Unsafe)

pub copy_expr-returns-in-Write : goal.copy_expr-returns-in-Write
copy_expr-returns-in-Write t c = grind (arith, view_Expr-Write)

pub copy_expr-returns-in-FormatArgs : goal.copy_expr-returns-in-FormatArgs
copy_expr-returns-in-FormatArgs t c = grind (arith, view_Expr-FormatArgs)

pub copy_stmt-returns-in-Let : goal.copy_stmt-returns-in-Let
copy_stmt-returns-in-Let t c = grind (arith, view_Stmt-Let)

pub copy_stmt-returns-in-Check : goal.copy_stmt-returns-in-Check
copy_stmt-returns-in-Check t c = grind (arith, view_Stmt-Check)

pub copy_stmt-returns-in-Import : goal.copy_stmt-returns-in-Import
copy_stmt-returns-in-Import t c = grind (arith, view_Stmt-Import)

pub copy_stmt-returns-in-Expr : goal.copy_stmt-returns-in-Expr
copy_stmt-returns-in-Expr t c = grind (arith, view_Stmt-Expr)

pub copy_stmt-returns-in-Const : goal.copy_stmt-returns-in-Const
copy_stmt-returns-in-Const t c = grind (arith, view_Stmt-Const)

pub copy_body-returns-in-Block : goal.copy_body-returns-in-Block
copy_body-returns-in-Block t c = grind (arith, view_ArmBody-Block)

pub copy_body-returns-in-Expr : goal.copy_body-returns-in-Expr
copy_body-returns-in-Expr t c = grind (arith, view_ArmBody-Expr)

pub copy_block-returns-in_ok-block_of-in-None : goal.copy_block-returns-in_ok-block_of-in-None
copy_block-returns-in_ok-block_of-in-None t c = grind (arith, view-Block)

pub copy_block-returns-in_ok-block_of-in-Some : goal.copy_block-returns-in_ok-block_of-in-Some
copy_block-returns-in_ok-block_of-in-Some t c = grind (arith, view-Block)

pub copy_arm-returns : goal.copy_arm-returns
copy_arm-returns t c = grind (arith, view-Arm)
