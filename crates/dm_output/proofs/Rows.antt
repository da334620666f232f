-- What small trees and methods give, by computing alone.
use Rattle.std.specs.Prelude.{◌≡◌, ℕ, pos, List, [], ◌∷◌, Bool, true, false, Option, Some, None, codes, refl}
use Rattle.std.specs.Str.{chars}
use Rattle.std.proofs.Math.Utf8.{encode}
use Rattle.dm_stream.specs.declared.tokens.Ident.{Ident}
use Rattle.dm_stream.specs.declared.tokens.Literal.{Literal}
use Rattle.dm_stream.specs.declared.tokens.LitKind.TheVariants.{Str, Int}
use Rattle.dm_stream.specs.Layout.{nowhere}
use Rattle.dm_stream.specs.Trees.{Trees, no_trees}
use Rattle.dm_ast.specs.Tree.{TypeTree, PathTree, no_self}
use Rattle.dm_ast.specs.Declarations.{Listed, FieldTree, FieldsTree, named, unnamed, unit, VariantTree, ShapeTree, struct_shape, enum_shape, GenericsTree, Declaration}
use Rattle.dm_ast.specs.Implementors.{plain_path, name_type}
use Rattle.dm_output.specs.declared.pattern.Binding.TheVariants.{Plain}
use Rattle.dm_output.specs.declared.expr.Member.{Member}
use Rattle.dm_output.specs.declared.expr.Member.TheVariants as members
use Rattle.dm_output.specs.declared.item.Receiver.{Receiver}
use Rattle.dm_output.specs.declared.item.Receiver.TheVariants as receiver
use Rattle.dm_output.specs.Output.{FmtTree, PatternTree, wild, bind, str_pattern, path_pattern, tuple_pattern, named_pattern, pair_pattern, patterns_of, named_of, ExprTree, return_expr, ref_expr, member, method_call, map_expr, map_err, question, path_expr, call, build, tuple, str_expr, bool, match_expr, unsafe_expr, format_args, exprs_of, no_expr, some_expr, ArmTree, arms_of, block_body, expr_body, StmtTree, do_stmt, const_stmt, stmts_of, BlockTree, block, last_expr, MethodTree}
use Rattle.dm_output.specs.Values.{Text, mine, another, function, tokens, asking, mapping, in_closure, Thing, atom, apply, truth, number, value, place, discriminant, tuple_of, success, failure, present, missing, written, listing, things_of, no_things, no_pieces, letter_then, unread_then, no_fields, also, also_named, closed, left_open, Value, value_of, Input, no_input, value_input, text_input, number_input}
use Rattle.dm_output.specs.Fits.{plain}
use Rattle.dm_output.specs.Calls.{Setting, State, goes, core, private, discriminant_names, unreachable_names, ok_names, err_names}
use Rattle.dm_output.specs.Run.{run, run_method}

-- ---- names and literals

abbrev word : Text → Ident
word x = record { name = x; raw = false; span = nowhere }

abbrev words : List Text → List Ident
words [] = []
words (x ∷ xs) = word x ∷ words xs

abbrev at : List Text → PathTree
at names = plain_path (words names)

abbrev name : Text → ExprTree
name x = path_expr no_self (at (x ∷ []))

abbrev x : ExprTree
x = name (codes "x")

abbrev this : ExprTree
this = name (codes "self")

abbrev call_of : List Text → List ExprTree → ExprTree
call_of names es = call no_self (at names) (exprs_of es)

abbrev method_of : ExprTree → Text → List ExprTree → ExprTree
method_of e m es = method_call e (word m) (exprs_of es)

abbrev string : List ℕ → Literal
string spelling = record { kind = Str; text = spelling; span = nowhere }

-- "a"
abbrev quoted_a : Literal
quoted_a = string (34 ∷ 97 ∷ 34 ∷ [])

abbrev digit : Text → Literal
digit d = record { kind = Int; text = d; span = nowhere }

-- ---- declarations

abbrev t : TypeTree
t = name_type (word (codes "T"))

abbrev list_of : {A : Type 0} → List A → Listed A
list_of items = record { items = items; trailing = false }

abbrev field : Option Ident → FieldTree
field i = record { attrs = []; vis = None; ident = i; ty = t; span = nowhere }

abbrev no_generics : GenericsTree
no_generics = record { angled = false; params = list_of []; where_clause = None }

abbrev declared : Text → ShapeTree → Declaration
declared x shape = record { attrs = []; vis = None; ident = word x; generics = no_generics; shape = shape }

-- struct NAME(T), of this name
abbrev wrapper : Text → Declaration
wrapper x = declared x (struct_shape nowhere (unnamed (list_of (field None ∷ []))))

abbrev two_unnamed : FieldsTree
two_unnamed = unnamed (list_of (field None ∷ field None ∷ []))

-- struct Pair(T, T)
abbrev pair : Declaration
pair = declared (codes "Pair") (struct_shape nowhere two_unnamed)

-- struct Point { x: T, y: T }
abbrev point : Declaration
point = declared (codes "Point") (struct_shape nowhere (named (list_of (field (Some (word (codes "x"))) ∷ field (Some (word (codes "y"))) ∷ []))))

abbrev variant : Text → FieldsTree → VariantTree
variant x fs = record { attrs = []; vis = None; ident = word x; fields = fs; discriminant = None; span = nowhere }

-- enum Choice { A(T, T), B }
abbrev choice : Declaration
choice = declared (codes "Choice") (enum_shape nowhere (list_of (variant (codes "A") two_unnamed ∷ variant (codes "B") unit ∷ [])))

-- ---- runs

abbrev setting : Declaration → Setting
setting d = record { decl = d; outcomes = []; right = []; may_assign = false }

abbrev state : State
state = record { fields = atom 1 ∷ atom 2 ∷ []; numbers = [] }

-- where these names are bound, the expression gives this thing
abbrev Gives : Declaration → ExprTree → List (Text × Thing) → Thing → Type 0
Gives d e names y = run (setting d) e (plain names) state ≡ Some (goes y state)

abbrev HasNoAnswer : Declaration → ExprTree → List (Text × Thing) → Type 0
HasNoAnswer d e names = run (setting d) e (plain names) state ≡ None

abbrev self_is : Thing → List (Text × Thing)
self_is y = (codes "self", y) ∷ []

abbrev x_is : Thing → List (Text × Thing)
x_is y = (codes "x", y) ∷ (codes "f", atom 9) ∷ []

abbrev two : Value
two = record { variant = 0; fields = atom 1 ∷ atom 2 ∷ [] }

abbrev other_two : Value
other_two = record { variant = 0; fields = atom 3 ∷ atom 4 ∷ [] }

-- ---- names

-- what isn't bound and is called `None` is the option's
none-unbound : Gives point (name (codes "None")) [] missing
none-unbound = refl

none-bound : Gives point (name (codes "None")) ((codes "None", atom 3) ∷ []) (atom 3)
none-bound = refl

-- without a comma `Some (x)` is the option's, also where the struct is called so; with one it is the struct
some-called : Gives (wrapper (codes "Some")) (call_of (codes "Some" ∷ []) (x ∷ [])) (x_is (atom 3)) (present (atom 3))
some-called = refl

some-built : Gives (wrapper (codes "Some")) (build no_self (at (codes "Some" ∷ [])) (exprs_of (x ∷ []))) (x_is (atom 3))
    (value another 0 (things_of (atom 3 ∷ [])))
some-built = refl

-- ---- members

abbrev y_member : Member
y_member = members.Named (word (codes "y"))

member-self : Gives point (member this y_member) (self_is (value_of mine two)) (place mine 1)
member-self = refl

member-another : Gives point (member x y_member) (x_is (value another 0 (things_of (atom 3 ∷ atom 4 ∷ [])))) (atom 4)
member-another = refl

member-tuple : Gives point (member x (members.Index (digit (codes "1")))) (x_is (tuple_of (things_of (atom 3 ∷ atom 4 ∷ [])))) (atom 4)
unfolding chars
member-tuple = refl

-- ---- calls

discriminants : Gives choice (call_of discriminant_names (this ∷ [])) (self_is (value_of mine two)) (discriminant 0)
discriminants = refl

not-reached : HasNoAnswer choice (unsafe_expr (call_of unreachable_names [])) []
not-reached = refl

-- of a failure the error is mapped, of a success nothing
failure-mapped : (p : Trees) → Gives point (map_err (call_of err_names (x ∷ [])) p) (x_is (atom 3))
    (failure (apply (tokens p) (things_of (atom 3 ∷ []))))
failure-mapped p = refl

success-kept : (p : Trees) → Gives point (map_err (call_of ok_names (x ∷ [])) p) (x_is (atom 3)) (success (atom 3))
success-kept p = refl

-- a place stands for its field
asked : Gives point (question x) (x_is (place mine 1)) (apply asking (things_of (atom 2 ∷ [])))
asked = refl

-- x.map(|v| Self(v))
mapped : Gives (wrapper (codes "W")) (map_expr x (call_of (codes "Self" ∷ []) (name (codes "v") ∷ []))) (x_is (atom 3))
    (apply mapping (things_of (atom 3 ∷ value another 0 (things_of (apply in_closure no_things ∷ [])) ∷ [])))
mapped = refl

-- ---- what is written

abbrev formatter : Text → List Text
formatter m = core (codes "fmt" ∷ codes "Formatter" ∷ m ∷ [])

abbrev debug_struct : Text → List Text
debug_struct m = core (codes "fmt" ∷ codes "DebugStruct" ∷ m ∷ [])

abbrev debug_tuple : Text → List Text
debug_tuple m = private (codes "DebugTuple" ∷ m ∷ [])

abbrev f : ExprTree
f = name (codes "f")

abbrev begun_tuple : ExprTree
begun_tuple = call_of (private (codes "debug_tuple" ∷ [])) (f ∷ str_expr quoted_a ∷ [])

abbrev begun_struct : ExprTree
begun_struct = call_of (formatter (codes "debug_struct")) (f ∷ str_expr quoted_a ∷ [])

written-method : Gives point (method_of f (codes "write_str") (str_expr quoted_a ∷ [])) (x_is (atom 3)) (written (letter_then 97 no_pieces))
unfolding chars encode
written-method = refl

written-call : Gives point (call_of (formatter (codes "write_str")) (f ∷ str_expr quoted_a ∷ [])) (x_is (atom 3)) (written (letter_then 97 no_pieces))
unfolding chars encode
written-call = refl

-- a name, a field and the end, in parentheses
listed-tuple : Gives point
    (call_of (debug_tuple (codes "finish")) (call_of (debug_tuple (codes "field")) (ref_expr true begun_tuple ∷ x ∷ []) ∷ []))
    (x_is (place mine 0)) (listing (codes "a") (also no_fields (atom 1)) closed)
unfolding chars encode
listed-tuple = refl

-- in braces, with the field's name, and left open
listed-struct : Gives point
    (call_of (debug_struct (codes "finish_non_exhaustive")) (call_of (debug_struct (codes "field")) (begun_struct ∷ str_expr quoted_a ∷ x ∷ []) ∷ []))
    (x_is (place mine 1)) (listing (codes "a") (also_named no_fields (codes "a") (atom 2)) left_open)
unfolding chars encode
listed-struct = refl

-- a brace alone is no format
abbrev no_format : FmtTree
no_format = record { lit = string (34 ∷ 123 ∷ 34 ∷ []); args = record { alias = None; value = no_trees } ∷ [] }

unread-format : Gives point (format_args no_format) [] (written (unread_then no_format.lit (things_of (apply (tokens no_trees) no_things ∷ [])) no_pieces))
unfolding chars encode
unread-format = refl

-- ---- matches

abbrev arm : PatternTree → ExprTree → ArmTree
arm p e = record { patterns = patterns_of (p ∷ []); guard = no_expr; body = expr_body e }

-- match self { p => true, }
abbrev matched : PatternTree → ExprTree
matched p = match_expr this (arms_of (arm p (bool true) ∷ []))

abbrev of_choice : Text → PathTree
of_choice v = at (codes "Self" ∷ v ∷ [])

abbrev is_b : List (Text × Thing)
is_b = self_is (value another 1 no_things)

no-arm-fits : HasNoAnswer choice (matched (tuple_pattern (of_choice (codes "A")) (patterns_of (wild ∷ wild ∷ [])))) is_b
no-arm-fits = refl

-- a unit is matched by its path and by empty braces, but not by empty parentheses
unit-path : Gives choice (matched (path_pattern (of_choice (codes "B")))) is_b (truth true)
unit-path = refl

unit-braces : Gives choice (matched (named_pattern (of_choice (codes "B")) (named_of []) false)) is_b (truth true)
unit-braces = refl

unit-parens : HasNoAnswer choice (matched (tuple_pattern (of_choice (codes "B")) (patterns_of []))) is_b
unit-parens = refl

-- ---- methods with a parameter `x`

abbrev output : Bool → Option TypeTree
output true = Some t
output false = None

-- with a return type or without
abbrev method : Option Receiver → Bool → BlockTree → MethodTree
method r returns b =
    record {
      attrs = [];
      is_const = false;
      name = word (codes "method");
      receiver = r;
      param = Some (record { name = word (codes "x"); ty = t });
      output = output returns;
      body = b;
    }

abbrev only : ExprTree → BlockTree
only e = last_expr (some_expr e)

-- what stands behind a `return` isn't reached
abbrev returning : BlockTree
returning = block (stmts_of (do_stmt (return_expr (member this y_member)) ∷ [])) (some_expr (bool false))

early-return : run_method point [] (method (Some receiver.Ref) true returning) two no_input ≡ Some (atom 2)
early-return = refl

-- match (self, x) { (Self(a, _,), Self(b, _,)) => { derive_more::core::ops::AddAssign::add_assign(a, b); } }
abbrev add_assign : List Text
add_assign = core (codes "ops" ∷ codes "AddAssign" ∷ codes "add_assign" ∷ [])

abbrev called : Text → PatternTree
called a = bind Plain (word a)

abbrev first_called : Text → PatternTree
first_called a = tuple_pattern (at (codes "Self" ∷ [])) (patterns_of (called a ∷ wild ∷ []))

abbrev assigning : BlockTree
assigning =
    only (match_expr (tuple (exprs_of (this ∷ x ∷ [])))
    (arms_of (record {
      patterns = patterns_of (pair_pattern (first_called (codes "a")) (first_called (codes "b")) ∷ []);
      guard = no_expr;
      body = block_body (block (stmts_of (do_stmt (call_of add_assign (name (codes "a") ∷ name (codes "b") ∷ [])) ∷ [])) no_expr);
    } ∷ [])))

-- a field of `&mut self` becomes the call's term, and self is answered
field-assigned : run_method pair [] (method (Some receiver.RefMut) false assigning) two (value_input other_two) ≡
    Some (value another 0 (things_of (apply (function add_assign) (things_of (atom 1 ∷ atom 3 ∷ [])) ∷ atom 2 ∷ [])))
field-assigned = refl

-- one of `self` isn't changed
not-assigned : run_method pair [] (method (Some receiver.Value) false assigning) two (value_input other_two) ≡ None
not-assigned = refl

-- match x.to_lowercase().as_str() { "a" => true, _ => false }
abbrev lowered : BlockTree
lowered =
    only (match_expr (method_of (method_of x (codes "to_lowercase") []) (codes "as_str") [])
    (arms_of (arm (str_pattern quoted_a) (bool true) ∷ arm wild (bool false) ∷ [])))

lowercase-fits : run_method point [] (method None true lowered) two (text_input (codes "A") (codes "a")) ≡ Some (truth true)
unfolding chars encode
lowercase-fits = refl

lowercase-differs : run_method point [] (method None true lowered) two (text_input (codes "B") (codes "b")) ≡ Some (truth false)
unfolding chars encode
lowercase-differs = refl

-- constants A and B, whose numbers come with the input; match x { A => A, B => true, _ => false }
abbrev constant : Text → StmtTree
constant a = const_stmt (word a) t None (digit (codes "0"))

abbrev numbered : BlockTree
numbered =
    block (stmts_of (constant (codes "A") ∷ constant (codes "B") ∷ [])) (some_expr (match_expr x
    (arms_of (arm (called (codes "A")) (name (codes "A")) ∷ arm (called (codes "B")) (bool true) ∷ arm wild (bool false) ∷ []))))

abbrev counted : ℕ → Input
counted n = number_input (pos n) (pos 3 ∷ pos 4 ∷ [])

first-constant : run_method choice [] (method None true numbered) two (counted 3) ≡ Some (number (pos 3))
first-constant = refl

second-constant : run_method choice [] (method None true numbered) two (counted 4) ≡ Some (truth true)
second-constant = refl

no-constant : run_method choice [] (method None true numbered) two (counted 5) ≡ Some (truth false)
no-constant = refl

-- a constant without a number has no answer
too-few-numbers : run_method choice [] (method None true numbered) two (number_input (pos 3) (pos 3 ∷ [])) ≡ None
too-few-numbers = refl
