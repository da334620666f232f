-- The bodies of operators' methods.
use Rattle.std.specs.Prelude.{ℕ, ◌+◌, List, [], ◌∷◌, ◌++◌, map, length, Bool, true, false, cond, ◌||◌, nat_lt, codes}
use Rattle.dm_stream.specs.declared.tokens.Ident.{Ident}
use Rattle.dm_stream.specs.declared.tokens.Literal.{Literal}
use Rattle.dm_stream.specs.declared.tokens.LitKind.TheVariants.{Str, Int}
use Rattle.dm_stream.specs.Layout.{nowhere}
use Rattle.dm_ast.specs.Tree.{PathTree, no_self}
use Rattle.dm_ast.specs.Declarations.{Declaration}
use Rattle.dm_ast.specs.Implementors.{plain_path}
use Rattle.dm_output.specs.declared.expr.Member.{Member}
use Rattle.dm_output.specs.declared.expr.Member.TheVariants as members
use Rattle.dm_output.specs.Output.{PatternTree, wild, pair_pattern, patterns_of, ExprTree, member, path_expr, call, build, build_named, tuple, str_expr, match_expr, no_exprs, expr_then, exprs_of, named_exprs_of, no_expr, some_expr, ArmTree, no_arms, arms_of, ArmBodyTree, block_body, expr_body, StmtTree, do_stmt, no_stmts, stmts_of, BlockTree, block, last_expr}
use Rattle.dm_output.specs.Values.{Text, is_enum}
use Rattle.dm_output.specs.Calls.{ok_names, err_names}
use Rattle.dm_generics.specs.Words.{words}
use Rattle.dm_generics.specs.Numerals.{numeral}
use Rattle.dm_operands.specs.declared.cases.Form.{Form}
use Rattle.dm_operands.specs.declared.cases.Form.TheVariants as forms
use Rattle.dm_operands.specs.Marked.{MarkedField, MarkedCase}
pub use Rattle.dm_operands.specs.Numbered.{right_name, inner_name}
use Rattle.dm_operands.specs.Numbered.{self_name}
use Rattle.dm_operands.specs.Bodies.{name}
use Rattle.dm_operands.specs.Sides.{field_ident, case_path, side_pattern, side}
use Rattle.dm_operators.specs.Operators as ops
use Rattle.dm_operators.specs.Operators.{Operator, method_names}

-- ---- calls

-- derive_more::core::ops::TRAIT::METHOD (..)
abbrev pub operation_call : Operator → List ExprTree → ExprTree
operation_call o es = call no_self (plain_path (words (method_names o))) (exprs_of es)

-- a call of one argument
abbrev pub call_of : List Text → ExprTree → ExprTree
call_of names e = call no_self (plain_path (words names)) (expr_then e no_exprs)

-- a text as a string literal
abbrev pub quoted : Text → Literal
quoted x = record { kind = Str; text = 34 ∷ (x ++ 34 ∷ []); span = nowhere }

-- `Ok (..)` where there may be an error
abbrev pub in_ok : Bool → ExprTree → ExprTree
in_ok b e = cond b (call_of ok_names e) e

-- derive_more::TYPE::new ("METHOD")
abbrev pub new_error : Text → Operator → ExprTree
new_error type o = call_of (codes "derive_more" ∷ type ∷ codes "new" ∷ []) (str_expr (quoted o.method))

-- `Err (..)`
abbrev pub in_err : ExprTree → ExprTree
in_err e = call_of err_names e

-- `Err` of an error of two values, of this kind
abbrev pub binary_error : Text → ExprTree → ExprTree
binary_error kind e = in_err (call_of (codes "derive_more" ∷ codes "BinaryError" ∷ kind ∷ []) e)

-- for two values of a variant without fields
unfoldable pub binary_unit : Operator → ExprTree
binary_unit o = binary_error (codes "Unit") (new_error (codes "UnitError") o)

-- for two values of different variants
unfoldable pub mismatch : Operator → ExprTree
mismatch o = binary_error (codes "Mismatch") (new_error (codes "WrongVariantError") o)

-- for a value of a variant without fields
unfoldable pub unary_unit : Operator → ExprTree
unary_unit o = in_err (new_error (codes "UnitError") o)

-- ---- a value of a case, with an expression for each of its fields, which the field's number and mark give

-- the expressions of the fields from number n on
abbrev pub parts : (ℕ → MarkedField → ExprTree) → ℕ → List MarkedField → List ExprTree
parts part n [] = []
parts part n (f ∷ fs) = part n f ∷ parts part (n + 1) fs

-- each behind its field's name
abbrev pub named_parts : (ℕ → MarkedField → ExprTree) → ℕ → List MarkedField → List (Ident × ExprTree)
named_parts part n [] = []
named_parts part n (f ∷ fs) = (field_ident f.field.ident, part n f) ∷ named_parts part (n + 1) fs

-- with a comma behind each part
abbrev pub in_parens : PathTree → List ExprTree → ExprTree
in_parens p [] = call no_self p no_exprs
in_parens p (e ∷ es) = build no_self p (exprs_of (e ∷ es))

-- in parentheses, in braces, or the path alone
abbrev pub constructor : (ℕ → MarkedField → ExprTree) → PathTree → Form → List MarkedField → ExprTree
constructor part p forms.Named fs = build_named no_self p (named_exprs_of (named_parts part 0 fs))
constructor part p forms.Unnamed fs = in_parens p (parts part 0 fs)
constructor part p forms.Unit fs = path_expr no_self p

-- ---- fields of two operands

-- the right operand of field n: the right side's field, or the right side
abbrev pub right_operand : ops.Form → ℕ → ExprTree
right_operand ops.structural n = name (right_name n)
right_operand ops.scalar n = name (codes "__rhs")
right_operand ops.unary n = name (codes "__rhs")

-- the operation on field n of self
abbrev pub binary_call : ops.Form → Operator → ℕ → ExprTree
binary_call form o n = operation_call o (name (self_name n) ∷ right_operand form n ∷ [])

-- the operation, or self's field where it is left out
abbrev pub binary_part : ops.Form → Operator → ℕ → MarkedField → ExprTree
binary_part form o n f = cond f.left_out (name (self_name n)) (binary_call form o n)

-- the calls of the kept fields
abbrev pub assigning_calls : ops.Form → Operator → ℕ → List MarkedField → List StmtTree
assigning_calls form o n [] = []
assigning_calls form o n (f ∷ fs) =
    cond f.left_out (assigning_calls form o (n + 1) fs) (do_stmt (binary_call form o n) ∷ assigning_calls form o (n + 1) fs)

-- ---- arms for two operands

-- an arm of one pattern without a guard
abbrev pub arm : PatternTree → ArmBodyTree → ArmTree
arm p b = record { patterns = patterns_of (p ∷ []); guard = no_expr; body = b }

-- a field that is kept
abbrev pub keep : MarkedField → MarkedField
keep f = record { field = f.field; left_out = false }

-- the case with all of its fields
abbrev pub whole : MarkedCase → MarkedCase
whole c = record { ident = c.ident; form = c.form; left_out = c.left_out; fields = map keep c.fields }

-- a method that gives a value binds all fields, and an assigning one those that it changes
abbrev pub bound_in : Operator → MarkedCase → MarkedCase
bound_in o c = cond o.assigning c (whole c)

-- of self and the right side, or of self alone
abbrev pub sides : ops.Form → Declaration → MarkedCase → PatternTree
sides ops.structural d c = pair_pattern (side self_name d c) (side right_name d c)
sides ops.scalar d c = side self_name d c
sides ops.unary d c = side self_name d c

abbrev pub binary_pattern : ops.Form → Operator → Declaration → MarkedCase → PatternTree
binary_pattern form o d c = sides form d (bound_in o c)

-- the value of the case with the operation in its kept fields
abbrev pub value_given : ops.Form → Operator → Declaration → MarkedCase → ExprTree
value_given form o d c = constructor (binary_part form o) (case_path d c.ident) c.form c.fields

-- no parentheses and no braces
abbrev pub is_unit_form : Form → Bool
is_unit_form forms.Named = false
is_unit_form forms.Unnamed = false
is_unit_form forms.Unit = true

-- of two values, an enum gives a `Result`
abbrev pub answer_given : ops.Form → Operator → Declaration → MarkedCase → ExprTree
answer_given ops.structural o d c = cond (is_unit_form c.form) (binary_unit o) (in_ok (is_enum d) (value_given ops.structural o d c))
answer_given ops.scalar o d c = value_given ops.scalar o d c
answer_given ops.unary o d c = value_given ops.unary o d c

-- the calls of a case, one statement each
abbrev pub calls_block : ops.Form → Operator → MarkedCase → BlockTree
calls_block form o c = block (stmts_of (assigning_calls form o 0 c.fields)) no_expr

-- an assigning operator calls, another one gives a value
abbrev pub binary_given : ops.Form → Operator → Declaration → MarkedCase → ArmBodyTree
binary_given form o d c = cond o.assigning (block_body (calls_block form o c)) (expr_body (answer_given form o d c))

-- the arm of a case
abbrev pub binary_arm : ops.Form → Operator → Declaration → MarkedCase → ArmTree
binary_arm form o d c = arm (binary_pattern form o d c) (binary_given form o d c)

-- two values of different variants: an error, or nothing is assigned
abbrev pub different_body : Operator → ArmBodyTree
different_body o = cond o.assigning (block_body (block no_stmts no_expr)) (expr_body (mismatch o))

abbrev pub different : Operator → ArmTree
different o = arm wild (different_body o)

-- where there are such values
abbrev pub has_rest : ops.Form → List MarkedCase → Bool
has_rest ops.structural cs = nat_lt 1 (length cs)
has_rest ops.scalar cs = false
has_rest ops.unary cs = false

abbrev pub rest : ops.Form → Operator → List MarkedCase → List ArmTree
rest form o cs = cond (has_rest form cs) (different o ∷ []) []

-- what is matched: self and the right side, or self alone
abbrev pub subject : ops.Form → ExprTree
subject ops.structural = tuple (exprs_of (name (codes "self") ∷ name (codes "__rhs") ∷ []))
subject ops.scalar = name (codes "self")
subject ops.unary = name (codes "self")

-- ---- arms for one operand

-- the operation on field n of a variant
abbrev pub inner_part : Operator → ℕ → MarkedField → ExprTree
inner_part o n f = operation_call o (name (inner_name n) ∷ [])

-- `TYPE::V`
abbrev pub variant_path : Declaration → Ident → PathTree
variant_path d i = plain_path (d.ident ∷ i ∷ [])

-- whether one of them is a unit
abbrev pub some_unit_form : List MarkedCase → Bool
some_unit_form [] = false
some_unit_form (c ∷ cs) = is_unit_form c.form || some_unit_form cs

-- a unit fails, and so the others stand inside `Ok`
abbrev pub unary_given : Operator → Declaration → Bool → MarkedCase → ArmBodyTree
unary_given o d fails c =
    cond (is_unit_form c.form) (expr_body (unary_unit o))
    (block_body (last_expr (some_expr (in_ok fails (constructor (inner_part o) (variant_path d c.ident) c.form c.fields)))))

-- the arm of a variant
abbrev pub unary_arm : Operator → Declaration → Bool → MarkedCase → ArmTree
unary_arm o d fails c = arm (side_pattern inner_name (variant_path d c.ident) c.form c.fields) (unary_given o d fails c)

-- ---- a struct and one operand: `TYPE (TRAIT::METHOD (self . 0) , ..)`

-- what stands behind the dot for field n
abbrev pub member_of : Form → ℕ → MarkedField → Member
member_of forms.Named n f = members.Named (field_ident f.field.ident)
member_of forms.Unnamed n f = members.Index (record { kind = Int; text = numeral n; span = nowhere })
member_of forms.Unit n f = members.Index (record { kind = Int; text = numeral n; span = nowhere })

-- the operation on field n of self
abbrev pub own_part : Operator → Form → ℕ → MarkedField → ExprTree
own_part o form n f = operation_call o (member (name (codes "self")) (member_of form n f) ∷ [])

-- the struct's value, by its own name
abbrev pub own_value : Operator → Declaration → MarkedCase → ExprTree
own_value o d c = constructor (own_part o c.form) (plain_path (d.ident ∷ [])) c.form c.fields

-- ---- the bodies

-- a match over these arms
abbrev pub match_of : ExprTree → List ArmTree → ExprTree
match_of e as' = match_expr e (arms_of as')

-- `match self {}`, for an enum without variants
abbrev pub no_match : ExprTree
no_match = match_expr (name (codes "self")) no_arms

abbrev pub binary_body : ops.Form → Operator → Declaration → List MarkedCase → ExprTree
binary_body form o d [] = no_match
binary_body form o d (c ∷ cs) = match_of (subject form) (map (binary_arm form o d) (c ∷ cs) ++ rest form o (c ∷ cs))

-- one operand of an enum
abbrev pub unary_enum : Operator → Declaration → List MarkedCase → ExprTree
unary_enum o d cs = match_of (name (codes "self")) (map (unary_arm o d (some_unit_form cs)) cs)

-- a struct is its only case
abbrev pub unary_struct : Operator → Declaration → List MarkedCase → ExprTree
unary_struct o d [] = no_match
unary_struct o d (c ∷ cs) = own_value o d c

-- the body, by what stands right of self
abbrev pub body_expr : ops.Form → Operator → Declaration → List MarkedCase → ExprTree
body_expr ops.structural o d cs = binary_body ops.structural o d cs
body_expr ops.scalar o d cs = binary_body ops.scalar o d cs
body_expr ops.unary o d cs = cond (is_enum d) (unary_enum o d cs) (unary_struct o d cs)
