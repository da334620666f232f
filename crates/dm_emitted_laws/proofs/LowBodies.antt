-- In the bodies that operators and `PartialEq` emit no token stands too deep, whatever the number of fields and variants: operators nest
-- six levels at the most, and `PartialEq` four.
use Rattle.std.proofs.Common.{ℕ, ◌+◌, ◌≤◌, Bool, true, false, cond, List, [], ◌∷◌, ◌++◌, map, length, nat_lt, eqb, codes, arith}
use Rattle.dm_stream.specs.declared.tokens.Ident.{Ident}
use Rattle.dm_ast.specs.Spelling.{deepest}
use Rattle.dm_ast.specs.Tree.{PathTree, no_self}
use Rattle.dm_ast.specs.Declarations.{Declaration}
use Rattle.dm_ast.specs.Implementors.{segments, plain_path}
use Rattle.dm_output.specs.Output.{PatternTree, wild, pair_pattern, patterns_of, named_of, ExprTree, or_expr, and_expr, equal, unequal, call, ExprTrees, exprs_of, named_exprs_of, member, str_expr, bool, unsafe_expr, some_expr, ArmTree, arms_of, ArmBodyTree, block_body, expr_body, stmts_of, no_stmts, no_expr, block, last_expr, MethodTree}
use Rattle.dm_output.specs.Values.{Text, is_enum}
use Rattle.dm_output.specs.Calls.{ok_names, err_names, discriminant_names, unreachable_names}
use Rattle.dm_generics.specs.Words.{word, words}
use Rattle.dm_operands.specs.declared.cases.Form.{Form}
use Rattle.dm_operands.specs.declared.cases.Form.TheVariants as forms
use Rattle.dm_operands.specs.Marked.{MarkedField, MarkedCase}
use Rattle.dm_operands.specs.Numbered.{self_name, other_name, right_name, inner_name}
use Rattle.dm_operands.specs.Kept.{is_compared, some_compared, all_compared}
use Rattle.dm_operands.specs.Bodies.{name, unreachable_call, otherwise}
use Rattle.dm_operands.specs.Sides.{binding, bindings, named_bindings, some_left_out, case_path, side_pattern, side}
use Rattle.dm_type_levels.specs.Passing.{given}
use Rattle.dm_type_levels.specs.TypeLevels.{grouped_levels, two, spaced_levels, path_levels, each_segment}
use Rattle.dm_levels.specs.Low.{AllLow}
use Rattle.dm_levels.specs.Levels.{ended_levels, in_turn, pattern_levels, each_pattern, each_named, arm_levels, arms_levels, expr_levels, each_expr, each_named_expr, body_levels, stmts_levels, block_levels}
use Rattle.dm_head_laws.specs.Parts.{Each}
use Rattle.dm_head_laws.proofs.DeclaredParts.{each_both}
use Rattle.dm_operators.specs.Operators as ops
use Rattle.dm_operators.specs.Operators.{Operator, method_names}
use Rattle.dm_operators.specs.Bodies.{quoted, operation_call, call_of, in_ok, new_error, in_err, binary_error, binary_unit, mismatch, unary_unit, parts, named_parts, in_parens, constructor, right_operand, binary_call, binary_part, assigning_calls, arm, bound_in, sides, value_given, is_unit_form, answer_given, calls_block, binary_pattern, binary_given, binary_arm, different_body, different, has_rest, rest, subject, inner_part, variant_path, some_unit_form, unary_given, unary_arm, member_of, own_part, match_of, no_match, binary_body, unary_enum, unary_struct, body_expr}
use Rattle.dm_operands.specs.Bodies as operands
use Rattle.dm_partial_eq.specs.Emitted as emitted

-- ---- lists of levels

-- none of them is too deep
pub record Low (ls : List ℕ) : Type 0 where
  pub all : AllLow ls

pub low_none : Low []
low_none = record { all = tt }

pub low_next : (k : ℕ) → k ≤ deepest → {ls : List ℕ} → Low ls → Low (k ∷ ls)
low_next k h l = record { all = (h, l.all) }

pub low_one : (k : ℕ) → k ≤ deepest → Low (k ∷ [])
low_one k h = low_next k h low_none

pub low_two : (k : ℕ) → k ≤ deepest → Low (two k)
low_two k h = low_next k h (low_one k h)

all_both : (ls ms : List ℕ) → AllLow ls → AllLow ms → AllLow (ls ++ ms)
all_both [] ms h l = l
all_both (k ∷ ls) ms h l = (h.0, all_both ls ms h.1 l)

pub low_both : {ls ms : List ℕ} → Low ls → Low ms → Low (ls ++ ms)
low_both {ls} {ms} h l = record { all = all_both ls ms h.all l.all }

pub low_grouped : (k : ℕ) → k ≤ deepest → {ls : List ℕ} → Low ls → Low (grouped_levels k ls)
low_grouped k h l = low_next k h (low_both l (low_one k h))

pub low_given : (b : Bool) {ls : List ℕ} → Low ls → Low (given b ls)
low_given true l = l
low_given false l = low_none

low_between : (first : Bool) {between : List ℕ} → Low between → Low (cond first [] between)
low_between true l = low_none
low_between false l = l

pub low_spaced : {between : List ℕ} → Low between → (first : Bool) (items : List (List ℕ)) → Each Low items →
    Low (spaced_levels between first items)
low_spaced l first [] h = low_none
low_spaced l first (ls ∷ more) h = low_both (low_between first l) (low_both h.0 (low_spaced l false more h.1))

pub low_ended : (k : ℕ) → k ≤ deepest → (items : List (List ℕ)) → Each Low items → Low (ended_levels k items)
low_ended k h [] l = low_none
low_ended k h (ls ∷ more) l = low_both l.0 (low_next k h (low_ended k h more l.1))

pub low_in_turn : (items : List (List ℕ)) → Each Low items → Low (in_turn items)
low_in_turn [] l = low_none
low_in_turn (ls ∷ more) l = low_both l.0 (low_in_turn more l.1)

-- ---- what reaches down a number of levels: it is low at each level that leaves so many

abbrev pub Reaches : ℕ → (ℕ → List ℕ) → Type 0
Reaches n levels = (k : ℕ) → k + n ≤ deepest → Low (levels k)

abbrev pub PathReaches : ℕ → PathTree → Type 0
PathReaches n p = Reaches n (λ k. path_levels k p)

abbrev PatternReaches : ℕ → PatternTree → Type 0
PatternReaches n p = Reaches n (λ k. pattern_levels k p)

abbrev pub ExprReaches : ℕ → ExprTree → Type 0
ExprReaches n e = Reaches n (λ k. expr_levels k e)

abbrev BodyReaches : ℕ → ArmBodyTree → Type 0
BodyReaches n b = Reaches n (λ k. body_levels k b)

abbrev ArmReaches : ℕ → ArmTree → Type 0
ArmReaches n a = Reaches n (λ k. arm_levels k a)

-- what reaches less deep
pub reaches_more : (m n : ℕ) → m ≤ n → (levels : ℕ → List ℕ) → Reaches m levels → Reaches n levels
reaches_more m n le levels h k room = h k (omega arith)

pattern_more : (m n : ℕ) → m ≤ n → (p : PatternTree) → PatternReaches m p → PatternReaches n p
pattern_more m n le p h = reaches_more m n le (λ k. pattern_levels k p) h

expr_more : (m n : ℕ) → m ≤ n → (e : ExprTree) → ExprReaches m e → ExprReaches n e
expr_more m n le e h = reaches_more m n le (λ k. expr_levels k e) h

body_more : (m n : ℕ) → m ≤ n → (b : ArmBodyTree) → BodyReaches m b → BodyReaches n b
body_more m n le b h = reaches_more m n le (λ k. body_levels k b) h

-- what holds of both holds of the one that is chosen, as in dm_emitted_laws/proofs/OperatorBodies
pub chosen : {A : Type 0} (P : A → Type 0) (b : Bool) (x y : A) → P x → P y → P (cond b x y)
chosen P true x y h k = h
chosen P false x y h k = k

-- ---- paths

segments_low : (k : ℕ) → k ≤ deepest → (is : List Ident) → Each Low (each_segment k (segments is))
segments_low k h [] = tt
segments_low k h (i ∷ is) = (low_one k h, segments_low k h is)

pub path_reaches : (is : List Ident) → PathReaches 0 (plain_path is)
path_reaches is k room =
    let h : k ≤ deepest = omega arith in low_spaced (low_two k h) true (each_segment k (segments is)) (segments_low k h is)

case_path_reaches : (d : Declaration) (i : Ident) → PathReaches 0 (case_path d i)
case_path_reaches d i =
    chosen (PathReaches 0) (is_enum d) _ _ (path_reaches (word (codes "Self") ∷ i ∷ [])) (path_reaches (word (codes "Self") ∷ []))

-- ---- patterns

wild_reaches : PatternReaches 0 wild
wild_reaches k room = low_one k (omega arith)

binding_reaches : (b : Bool) (x : Text) → PatternReaches 0 (binding b x)
binding_reaches true x k room = low_one k (omega arith)
binding_reaches false x k room = low_one k (omega arith)

module _ (naming : ℕ → Text) where
  bindings_low : (k : ℕ) → k + 0 ≤ deepest → (n : ℕ) (fs : List MarkedField) →
      Each Low (each_pattern k (patterns_of (bindings naming n fs)))
  bindings_low k room n [] = tt
  bindings_low k room n (f ∷ fs) = (binding_reaches f.left_out (naming n) k room, bindings_low k room (n + 1) fs)

  named_bindings_low : (k : ℕ) → k ≤ deepest → (n : ℕ) (fs : List MarkedField) →
      Each Low (each_named k (named_of (named_bindings naming n fs)))
  named_bindings_low k h n [] = tt
  named_bindings_low k h n (f ∷ fs) =
      let more = named_bindings_low k h (n + 1) fs in
      chosen (λ ps. Each Low (each_named k (named_of ps))) f.left_out _ _ more (low_next k h (low_next k h (low_one k h)), more)

  side_pattern_reaches : (p : PathTree) → PathReaches 0 p → (form : Form) (fs : List MarkedField) →
      PatternReaches 1 (side_pattern naming p form fs)
  side_pattern_reaches p r forms.Named fs k room =
      let h : k ≤ deepest = omega arith in
      let items : List (List ℕ) = each_named (k + 1) (named_of (named_bindings naming 0 fs)) in
      let own : Low (ended_levels (k + 1) items) = low_ended (k + 1) room items (named_bindings_low (k + 1) room 0 fs) in
      low_both (r k (omega arith)) (low_grouped k h (low_both own (low_given (some_left_out fs) (low_two (k + 1) room))))
  side_pattern_reaches p r forms.Unnamed fs k room =
      let h : k ≤ deepest = omega arith in
      let items : List (List ℕ) = each_pattern (k + 1) (patterns_of (bindings naming 0 fs)) in
      low_both (r k (omega arith)) (low_grouped k h (low_ended (k + 1) room items (bindings_low (k + 1) (omega arith) 0 fs)))
  side_pattern_reaches p r forms.Unit fs k room = r k (omega arith)

  side_reaches : (d : Declaration) (c : MarkedCase) → PatternReaches 1 (side naming d c)
  side_reaches d c = side_pattern_reaches (case_path d c.ident) (case_path_reaches d c.ident) c.form c.fields

pair_reaches : (n : ℕ) (p q : PatternTree) → PatternReaches n p → PatternReaches n q → PatternReaches (n + 1) (pair_pattern p q)
pair_reaches n p q r s k room =
    let h : k ≤ deepest = omega arith in
    let i : k + 1 ≤ deepest = omega arith in
    low_grouped k h (low_both (r (k + 1) (omega arith)) (low_next (k + 1) i (s (k + 1) (omega arith))))

-- ---- expressions

pub name_reaches : (x : Text) → ExprReaches 0 (name x)
name_reaches x k room = low_one k (omega arith)

exprs_low : (n k : ℕ) → k + n ≤ deepest → (es : List ExprTree) → Each (ExprReaches n) es → Each Low (each_expr k (exprs_of es))
exprs_low n k room [] r = tt
exprs_low n k room (e ∷ es) r = (r.0 k room, exprs_low n k room es r.1)

-- between the parentheses of a call or a tuple
list_low : (n k : ℕ) → k + (n + 1) ≤ deepest → (es : List ExprTree) → Each (ExprReaches n) es →
    Low (grouped_levels k (spaced_levels ((k + 1) ∷ []) true (each_expr (k + 1) (exprs_of es))))
list_low n k room es r =
    let h : k ≤ deepest = omega arith in
    let i : k + 1 ≤ deepest = omega arith in
    low_grouped k h (low_spaced (low_one (k + 1) i) true (each_expr (k + 1) (exprs_of es)) (exprs_low n (k + 1) (omega arith) es r))

calling_reaches : (n : ℕ) (is : List Ident) (es : List ExprTree) → Each (ExprReaches n) es →
    ExprReaches (n + 1) (call no_self (plain_path is) (exprs_of es))
calling_reaches n is es r k room = low_both (path_reaches is k (omega arith)) (list_low n k room es r)

call_of_reaches : (n : ℕ) (names : List Text) (e : ExprTree) → ExprReaches n e → ExprReaches (n + 1) (call_of names e)
call_of_reaches n names e r = calling_reaches n (words names) (e ∷ []) (r, tt)

-- ---- a value of a case

module _ (n : ℕ) (part : ℕ → MarkedField → ExprTree) (each : (m : ℕ) (f : MarkedField) → ExprReaches n (part m f)) where
  parts_reach : (m : ℕ) (fs : List MarkedField) → Each (ExprReaches n) (parts part m fs)
  parts_reach m [] = tt
  parts_reach m (f ∷ fs) = (each m f, parts_reach (m + 1) fs)

  named_parts_low : (k : ℕ) → k + n ≤ deepest → (m : ℕ) (fs : List MarkedField) →
      Each Low (each_named_expr k (named_exprs_of (named_parts part m fs)))
  named_parts_low k room m [] = tt
  named_parts_low k room m (f ∷ fs) =
      let h : k ≤ deepest = omega arith in (low_next k h (low_next k h (each m f k room)), named_parts_low k room (m + 1) fs)

  in_parens_reaches : (p : PathTree) → PathReaches 0 p → (es : List ExprTree) → Each (ExprReaches n) es →
      ExprReaches (n + 1) (in_parens p es)
  in_parens_reaches p r [] q k room = low_both (r k (omega arith)) (list_low n k room [] tt)
  in_parens_reaches p r (e ∷ es) q k room =
      let h : k ≤ deepest = omega arith in
      let i : k + 1 ≤ deepest = omega arith in
      let items : List (List ℕ) = each_expr (k + 1) (exprs_of (e ∷ es)) in
      low_both (r k (omega arith)) (low_grouped k h (low_ended (k + 1) i items (exprs_low n (k + 1) (omega arith) (e ∷ es) q)))

  constructor_reaches : (p : PathTree) → PathReaches 0 p → (form : Form) (fs : List MarkedField) →
      ExprReaches (n + 1) (constructor part p form fs)
  constructor_reaches p r forms.Named fs k room =
      let h : k ≤ deepest = omega arith in
      let i : k + 1 ≤ deepest = omega arith in
      let items : List (List ℕ) = each_named_expr (k + 1) (named_exprs_of (named_parts part 0 fs)) in
      low_both (r k (omega arith)) (low_grouped k h (low_ended (k + 1) i items (named_parts_low (k + 1) (omega arith) 0 fs)))
  constructor_reaches p r forms.Unnamed fs k room = in_parens_reaches p r (parts part 0 fs) (parts_reach 0 fs) k room
  constructor_reaches p r forms.Unit fs k room = r k (omega arith)

-- ---- arms, and blocks

block_body_reaches : (n : ℕ) (e : ExprTree) → ExprReaches n e → BodyReaches (n + 1) (block_body (last_expr (some_expr e)))
block_body_reaches n e r k room = let h : k ≤ deepest = omega arith in low_grouped k h (r (k + 1) (omega arith))

-- an arm of one pattern without a guard
arm_reaches : (n : ℕ) (p : PatternTree) (b : ArmBodyTree) → PatternReaches n p → BodyReaches n b → ArmReaches n (arm p b)
arm_reaches n p b r s k room =
    let h : k ≤ deepest = omega arith in
    low_both (low_spaced (low_one k h) true (pattern_levels k p ∷ []) (r k room, tt))
    (low_next k h (low_next k h (low_both (s k room) (low_one k h))))

arms_low : (n k : ℕ) → k + n ≤ deepest → (as' : List ArmTree) → Each (ArmReaches n) as' → Low (arms_levels k (arms_of as'))
arms_low n k room [] r = low_none
arms_low n k room (a ∷ as') r = low_both (r.0 k room) (arms_low n k room as' r.1)

match_reaches : (n : ℕ) (e : ExprTree) (as' : List ArmTree) → ExprReaches (n + 1) e → Each (ArmReaches n) as' →
    ExprReaches (n + 1) (match_of e as')
match_reaches n e as' r s k room =
    let h : k ≤ deepest = omega arith in
    low_next k h (low_both (r k room) (low_grouped k h (arms_low n (k + 1) (omega arith) as' s)))

-- a block of an expression alone
block_low : (n : ℕ) (e : ExprTree) → ExprReaches n e → (l : ℕ) → l + (n + 1) ≤ deepest →
    AllLow (block_levels l (last_expr (some_expr e)))
block_low n e r l room =
    let h : l ≤ deepest = omega arith in
    let low : Low (block_levels l (last_expr (some_expr e))) = low_grouped l h (r (l + 1) (omega arith)) in
    low.all

-- ---- answers that may be errors

in_ok_reaches : (n : ℕ) (b : Bool) (e : ExprTree) → ExprReaches n e → ExprReaches (n + 1) (in_ok b e)
in_ok_reaches n b e r =
    chosen (ExprReaches (n + 1)) b (call_of ok_names e) e (call_of_reaches n ok_names e r) (expr_more n (n + 1) (omega arith) e r)

in_err_reaches : (n : ℕ) (e : ExprTree) → ExprReaches n e → ExprReaches (n + 1) (in_err e)
in_err_reaches n e r = call_of_reaches n err_names e r

new_error_reaches : (type : Text) (o : Operator) → ExprReaches 1 (new_error type o)
new_error_reaches type o =
    call_of_reaches 0 (codes "derive_more" ∷ type ∷ codes "new" ∷ []) (str_expr (quoted o.method)) (λ k room. low_one k (omega arith))

binary_error_reaches : (kind type : Text) (o : Operator) → ExprReaches 3 (binary_error kind (new_error type o))
binary_error_reaches kind type o =
    let names : List Text = codes "derive_more" ∷ codes "BinaryError" ∷ kind ∷ [] in
    let e : ExprTree = new_error type o in
    in_err_reaches 2 (call_of names e) (call_of_reaches 1 names e (new_error_reaches type o))

binary_unit_reaches : (o : Operator) → ExprReaches 3 (binary_unit o)
unfolding binary_unit
binary_unit_reaches o = binary_error_reaches (codes "Unit") (codes "UnitError") o

mismatch_reaches : (o : Operator) → ExprReaches 3 (mismatch o)
unfolding mismatch
mismatch_reaches o = binary_error_reaches (codes "Mismatch") (codes "WrongVariantError") o

unary_unit_reaches : (o : Operator) → ExprReaches 2 (unary_unit o)
unfolding unary_unit
unary_unit_reaches o = in_err_reaches 1 (new_error (codes "UnitError") o) (new_error_reaches (codes "UnitError") o)

-- ---- operators

self_reaches : (n : ℕ) → ExprReaches n (name (codes "self"))
self_reaches n = expr_more 0 n (omega arith) (name (codes "self")) (name_reaches (codes "self"))

module _ (o : Operator) where
  operation_reaches : (n : ℕ) (es : List ExprTree) → Each (ExprReaches n) es → ExprReaches (n + 1) (operation_call o es)
  operation_reaches n es r = calling_reaches n (words (method_names o)) es r

  -- ---- two operands

  right_operand_reaches : (form : ops.Form) (n : ℕ) → ExprReaches 0 (right_operand form n)
  right_operand_reaches ops.structural n = name_reaches (right_name n)
  right_operand_reaches ops.scalar n = name_reaches (codes "__rhs")
  right_operand_reaches ops.unary n = name_reaches (codes "__rhs")

  binary_call_reaches : (form : ops.Form) (n : ℕ) → ExprReaches 1 (binary_call form o n)
  binary_call_reaches form n =
      operation_reaches 0 (name (self_name n) ∷ right_operand form n ∷ []) (name_reaches (self_name n), (right_operand_reaches form n, tt))

  binary_part_reaches : (form : ops.Form) (n : ℕ) (f : MarkedField) → ExprReaches 1 (binary_part form o n f)
  binary_part_reaches form n f =
      let own : ExprTree = name (self_name n) in
      chosen (ExprReaches 1) f.left_out own (binary_call form o n) (expr_more 0 1 (omega arith) own (name_reaches (self_name n)))
      (binary_call_reaches form n)

  assigning_calls_low : (form : ops.Form) (k : ℕ) → k + 1 ≤ deepest → (n : ℕ) (fs : List MarkedField) →
      Low (stmts_levels k (stmts_of (assigning_calls form o n fs)))
  assigning_calls_low form k room n [] = low_none
  assigning_calls_low form k room n (f ∷ fs) =
      let h : k ≤ deepest = omega arith in
      let more = assigning_calls_low form k room (n + 1) fs in
      chosen (λ ss. Low (stmts_levels k (stmts_of ss))) f.left_out _ _ more
      (low_both (low_both (binary_call_reaches form n k room) (low_one k h)) more)

  calls_reach : (form : ops.Form) (c : MarkedCase) → BodyReaches 2 (block_body (calls_block form o c))
  calls_reach form c k room =
      let h : k ≤ deepest = omega arith in
      low_grouped k h (low_both (assigning_calls_low form (k + 1) (omega arith) 0 c.fields) low_none)

  value_given_reaches : (form : ops.Form) (d : Declaration) (c : MarkedCase) → ExprReaches 2 (value_given form o d c)
  value_given_reaches form d c =
      let p : PathTree = case_path d c.ident in
      constructor_reaches 1 (binary_part form o) (binary_part_reaches form) p (case_path_reaches d c.ident) c.form c.fields

  answer_given_reaches : (form : ops.Form) (d : Declaration) (c : MarkedCase) → ExprReaches 3 (answer_given form o d c)
  answer_given_reaches ops.structural d c =
      let e : ExprTree = value_given ops.structural o d c in
      chosen (ExprReaches 3) (is_unit_form c.form) (binary_unit o) (in_ok (is_enum d) e) (binary_unit_reaches o)
      (in_ok_reaches 2 (is_enum d) e (value_given_reaches ops.structural d c))
  answer_given_reaches ops.scalar d c =
      expr_more 2 3 (omega arith) (value_given ops.scalar o d c) (value_given_reaches ops.scalar d c)
  answer_given_reaches ops.unary d c =
      expr_more 2 3 (omega arith) (value_given ops.unary o d c) (value_given_reaches ops.unary d c)

  binary_given_reaches : (form : ops.Form) (d : Declaration) (c : MarkedCase) → BodyReaches 3 (binary_given form o d c)
  binary_given_reaches form d c =
      let calls : ArmBodyTree = block_body (calls_block form o c) in
      chosen (BodyReaches 3) o.assigning calls (expr_body (answer_given form o d c))
      (body_more 2 3 (omega arith) calls (calls_reach form c)) (answer_given_reaches form d c)

  sides_reach : (form : ops.Form) (d : Declaration) (c : MarkedCase) → PatternReaches 2 (sides form d c)
  sides_reach ops.structural d c =
      pair_reaches 1 (side self_name d c) (side right_name d c) (side_reaches self_name d c) (side_reaches right_name d c)
  sides_reach ops.scalar d c = pattern_more 1 2 (omega arith) (side self_name d c) (side_reaches self_name d c)
  sides_reach ops.unary d c = pattern_more 1 2 (omega arith) (side self_name d c) (side_reaches self_name d c)

  binary_arm_reaches : (form : ops.Form) (d : Declaration) (c : MarkedCase) → ArmReaches 3 (binary_arm form o d c)
  binary_arm_reaches form d c =
      let p : PatternTree = binary_pattern form o d c in
      arm_reaches 3 p (binary_given form o d c) (pattern_more 2 3 (omega arith) p (sides_reach form d (bound_in o c)))
      (binary_given_reaches form d c)

  binary_arms_reach : (form : ops.Form) (d : Declaration) (cs : List MarkedCase) → Each (ArmReaches 3) (map (binary_arm form o d) cs)
  binary_arms_reach form d [] = tt
  binary_arms_reach form d (c ∷ cs) = (binary_arm_reaches form d c, binary_arms_reach form d cs)

  different_body_reaches : BodyReaches 3 (different_body o)
  different_body_reaches =
      chosen (BodyReaches 3) o.assigning (block_body (block no_stmts no_expr)) (expr_body (mismatch o))
      (λ k room. low_grouped k (omega arith) low_none) (mismatch_reaches o)

  different_reaches : ArmReaches 3 (different o)
  different_reaches = arm_reaches 3 wild (different_body o) (pattern_more 0 3 (omega arith) wild wild_reaches) different_body_reaches

  rest_reaches : (form : ops.Form) (cs : List MarkedCase) → Each (ArmReaches 3) (rest form o cs)
  rest_reaches form cs = chosen (Each (ArmReaches 3)) (has_rest form cs) (different o ∷ []) [] (different_reaches, tt) tt

  subject_reaches : (form : ops.Form) → ExprReaches 1 (subject form)
  subject_reaches ops.structural k room =
      list_low 0 k room (name (codes "self") ∷ name (codes "__rhs") ∷ []) (name_reaches (codes "self"), (name_reaches (codes "__rhs"), tt))
  subject_reaches ops.scalar k room = self_reaches 1 k room
  subject_reaches ops.unary k room = self_reaches 1 k room

  no_match_reaches : ExprReaches 4 no_match
  no_match_reaches = match_reaches 3 (name (codes "self")) [] (self_reaches 4) tt

  binary_body_reaches : (form : ops.Form) (d : Declaration) (cs : List MarkedCase) → ExprReaches 4 (binary_body form o d cs)
  binary_body_reaches form d [] = no_match_reaches
  binary_body_reaches form d (c ∷ cs) =
      let own : List ArmTree = map (binary_arm form o d) (c ∷ cs) in
      let more : List ArmTree = rest form o (c ∷ cs) in
      match_reaches 3 (subject form) (own ++ more) (expr_more 1 4 (omega arith) (subject form) (subject_reaches form))
      (each_both (ArmReaches 3) own more (binary_arms_reach form d (c ∷ cs)) (rest_reaches form (c ∷ cs)))

  -- ---- one operand

  inner_part_reaches : (n : ℕ) (f : MarkedField) → ExprReaches 1 (inner_part o n f)
  inner_part_reaches n f = operation_reaches 0 (name (inner_name n) ∷ []) (name_reaches (inner_name n), tt)

  own_member_reaches : (form : Form) (n : ℕ) (f : MarkedField) → ExprReaches 0 (member (name (codes "self")) (member_of form n f))
  own_member_reaches form n f k room = let h : k ≤ deepest = omega arith in low_next k h (low_two k h)

  own_part_reaches : (form : Form) (n : ℕ) (f : MarkedField) → ExprReaches 1 (own_part o form n f)
  own_part_reaches form n f =
      operation_reaches 0 (member (name (codes "self")) (member_of form n f) ∷ []) (own_member_reaches form n f, tt)

  module _ (d : Declaration) where
    unary_given_reaches : (fails : Bool) (c : MarkedCase) → BodyReaches 4 (unary_given o d fails c)
    unary_given_reaches fails c =
        let p : PathTree = variant_path d c.ident in
        let e : ExprTree = constructor (inner_part o) p c.form c.fields in
        chosen (BodyReaches 4) (is_unit_form c.form) (expr_body (unary_unit o)) (block_body (last_expr (some_expr (in_ok fails e))))
        (expr_more 2 4 (omega arith) (unary_unit o) (unary_unit_reaches o))
        (block_body_reaches 3 (in_ok fails e)
        (in_ok_reaches 2 fails e
        (constructor_reaches 1 (inner_part o) inner_part_reaches p (path_reaches (d.ident ∷ c.ident ∷ [])) c.form c.fields)))

    unary_arm_reaches : (fails : Bool) (c : MarkedCase) → ArmReaches 4 (unary_arm o d fails c)
    unary_arm_reaches fails c =
        let q : PathTree = variant_path d c.ident in
        let p : PatternTree = side_pattern inner_name q c.form c.fields in
        arm_reaches 4 p (unary_given o d fails c)
        (pattern_more 1 4 (omega arith) p (side_pattern_reaches inner_name q (path_reaches (d.ident ∷ c.ident ∷ [])) c.form c.fields))
        (unary_given_reaches fails c)

    unary_arms_reach : (fails : Bool) (cs : List MarkedCase) → Each (ArmReaches 4) (map (unary_arm o d fails) cs)
    unary_arms_reach fails [] = tt
    unary_arms_reach fails (c ∷ cs) = (unary_arm_reaches fails c, unary_arms_reach fails cs)

    unary_enum_reaches : (cs : List MarkedCase) → ExprReaches 5 (unary_enum o d cs)
    unary_enum_reaches cs =
        match_reaches 4 (name (codes "self")) (map (unary_arm o d (some_unit_form cs)) cs) (self_reaches 5)
        (unary_arms_reach (some_unit_form cs) cs)

    unary_struct_reaches : (cs : List MarkedCase) → ExprReaches 4 (unary_struct o d cs)
    unary_struct_reaches [] = no_match_reaches
    unary_struct_reaches (c ∷ cs) =
        let own : PathTree = plain_path (d.ident ∷ []) in
        expr_more 2 4 (omega arith) (constructor (own_part o c.form) own c.form c.fields)
        (constructor_reaches 1 (own_part o c.form) (own_part_reaches c.form) own (path_reaches (d.ident ∷ [])) c.form c.fields)

    body_reaches : (form : ops.Form) (cs : List MarkedCase) → ExprReaches 5 (body_expr form o d cs)
    body_reaches ops.structural cs =
        expr_more 4 5 (omega arith) (binary_body ops.structural o d cs) (binary_body_reaches ops.structural d cs)
    body_reaches ops.scalar cs = expr_more 4 5 (omega arith) (binary_body ops.scalar o d cs) (binary_body_reaches ops.scalar d cs)
    body_reaches ops.unary cs =
        chosen (ExprReaches 5) (is_enum d) (unary_enum o d cs) (unary_struct o d cs) (unary_enum_reaches cs)
        (expr_more 4 5 (omega arith) (unary_struct o d cs) (unary_struct_reaches cs))

-- the body of an operator's method; for `Not` and `Neg` of an enum with a unit variant and one with fields six levels are needed
pub operator_body_low : (l : ℕ) (form : ops.Form) (o : Operator) (d : Declaration) (cs : List MarkedCase) → l + 6 ≤ deepest →
    AllLow (block_levels l (last_expr (some_expr (body_expr form o d cs))))
operator_body_low l form o d cs room = block_low 5 (body_expr form o d cs) (body_reaches o d form cs) l room

-- ---- `PartialEq`

-- with `&&`, or `||`
joined_low : (n k : ℕ) → k + n ≤ deepest → (es : List ExprTree) → Each (ExprReaches n) es →
    Low (spaced_levels (k ∷ k ∷ []) true (each_expr k (exprs_of es)))
joined_low n k room es r =
    let h : k ≤ deepest = omega arith in low_spaced (low_two k h) true (each_expr k (exprs_of es)) (exprs_low n k room es r)

-- what makes a test of two expressions, and what joins several
abbrev pub TestsReach : (ExprTree → ExprTree → ExprTree) → Type 0
TestsReach test = (n : ℕ) (a b : ExprTree) → ExprReaches n a → ExprReaches n b → ExprReaches n (test a b)

abbrev pub JoinsReach : (ExprTrees → ExprTree) → Type 0
JoinsReach join = (n : ℕ) (es : List ExprTree) → Each (ExprReaches n) es → ExprReaches n (join (exprs_of es))

module _ (c : _) (tests : TestsReach (emitted.test_of c)) (joins : JoinsReach (emitted.join_of c)) where
  chain_reaches : (n : ℕ) (es : List ExprTree) → Each (ExprReaches n) es → ExprReaches n (emitted.chain c es)
  chain_reaches n [] r k room = low_one k (omega arith)
  chain_reaches n (e ∷ []) r k room = r.0 k room
  chain_reaches n (e ∷ f ∷ es) r k room = joins n (e ∷ f ∷ es) r k room

  tests_reach : (n : ℕ) (fs : List MarkedField) → Each (ExprReaches 0) (emitted.tests c n fs)
  tests_reach n [] = tt
  tests_reach n (f ∷ fs) =
      let more = tests_reach (n + 1) fs in
      let left : ExprTree = name (self_name n) in
      let right : ExprTree = name (other_name n) in
      chosen (Each (ExprReaches 0)) f.left_out _ _ more
      (tests 0 left right (name_reaches (self_name n)) (name_reaches (other_name n)), more)

  both_reach : ExprReaches 1 emitted.both
  both_reach k room =
      list_low 0 k room (name (codes "self") ∷ name (codes "__other") ∷ [])
      (name_reaches (codes "self"), (name_reaches (codes "__other"), tt))

  module _ (d : Declaration) where
    pair_arm_reaches : (v : MarkedCase) → ArmReaches 2 (emitted.arm c d v)
    pair_arm_reaches v =
        let e : ExprTree = emitted.chain c (emitted.tests c 0 v.fields) in
        arm_reaches 2 (pair_pattern (side self_name d v) (side other_name d v)) (block_body (last_expr (some_expr e)))
        (pair_reaches 1 (side self_name d v) (side other_name d v) (side_reaches self_name d v) (side_reaches other_name d v))
        (body_more 1 2 (omega arith) (block_body (last_expr (some_expr e)))
        (block_body_reaches 0 e (chain_reaches 0 (emitted.tests c 0 v.fields) (tests_reach 0 v.fields))))

    pair_arms_reach : (vs : List MarkedCase) (more : List ArmTree) → Each (ArmReaches 2) more →
        Each (ArmReaches 2) (emitted.arms c d vs more)
    pair_arms_reach [] more r = r
    pair_arms_reach (v ∷ vs) more r =
        let others = pair_arms_reach vs more r in
        chosen (Each (ArmReaches 2)) (is_compared v) _ _ (pair_arm_reaches v, others) others

  otherwise_reaches : (e : ExprTree) → ExprReaches 2 e → ArmReaches 2 (otherwise e)
  otherwise_reaches e r = arm_reaches 2 wild (expr_body e) (pattern_more 0 2 (omega arith) wild wild_reaches) r

  unreachable_reaches : ExprReaches 2 (unsafe_expr unreachable_call)
  unreachable_reaches k room =
      let h : k ≤ deepest = omega arith in
      low_next k h (low_grouped k h (calling_reaches 0 (words unreachable_names) [] tt (k + 1) (omega arith)))

  last_reaches : (vs : List MarkedCase) → Each (ArmReaches 2) (emitted.rest c vs)
  last_reaches vs =
      let unreachable : List ArmTree = otherwise (unsafe_expr unreachable_call) ∷ [] in
      let neutral : ExprTree = bool (emitted.neutral_of c) in
      chosen (Each (ArmReaches 2)) (all_compared vs) (cond (nat_lt 1 (length vs)) unreachable []) (otherwise neutral ∷ [])
      (chosen (Each (ArmReaches 2)) (nat_lt 1 (length vs)) unreachable []
      (otherwise_reaches (unsafe_expr unreachable_call) unreachable_reaches, tt) tt)
      (otherwise_reaches neutral (λ k room. low_one k (omega arith)), tt)

  discriminant_reaches : (x : Text) → ExprReaches 1 (emitted.discriminant_call x)
  discriminant_reaches x = call_of_reaches 0 discriminant_names (name x) (name_reaches x)

  discriminants_reach : ExprReaches 3 (emitted.discriminants c)
  discriminants_reach =
      let left : ExprTree = emitted.discriminant_call (codes "self") in
      let right : ExprTree = emitted.discriminant_call (codes "__other") in
      expr_more 1 3 (omega arith) (emitted.test_of c left right)
      (tests 1 left right (discriminant_reaches (codes "self")) (discriminant_reaches (codes "__other")))

  module _ (d : Declaration) where
    matching_reaches : (vs : List MarkedCase) → ExprReaches 3 (emitted.matching c d vs)
    matching_reaches vs =
        match_reaches 2 emitted.both (emitted.arms c d vs (emitted.rest c vs)) (expr_more 1 3 (omega arith) emitted.both both_reach)
        (pair_arms_reach d vs (emitted.rest c vs) (last_reaches vs))

    match_part_reaches : (vs : List MarkedCase) → Each (ExprReaches 3) (emitted.match_part c d vs)
    match_part_reaches vs =
        chosen (Each (ExprReaches 3)) (some_compared vs) (emitted.matching c d vs ∷ []) [] (matching_reaches vs, tt) tt

    comparison_parts_reach : (vs : List MarkedCase) → Each (ExprReaches 3) (emitted.parts c d vs)
    comparison_parts_reach vs =
        let more : List ExprTree = emitted.match_part c d vs in
        chosen (Each (ExprReaches 3)) (emitted.needs_discriminants d vs) (emitted.discriminants c ∷ more) more
        (discriminants_reach, match_part_reaches vs) (match_part_reaches vs)

    no_variant_reaches : ExprReaches 3 operands.no_match
    no_variant_reaches k room =
        let h : k ≤ deepest = omega arith in
        let i : k + 1 ≤ deepest = omega arith in
        low_next k h (low_next k h (low_next (k + 1) i (low_grouped k h low_none)))

    comparison_reaches : (vs : List MarkedCase) → ExprReaches 3 (emitted.body_expr c d vs)
    comparison_reaches vs =
        chosen (ExprReaches 3) (eqb (length vs) 0) operands.no_match (emitted.chain c (emitted.parts c d vs)) no_variant_reaches
        (chain_reaches 3 (emitted.parts c d vs) (comparison_parts_reach vs))

    pub comparison_body_low : (l : ℕ) (vs : List MarkedCase) → l + 4 ≤ deepest → AllLow (block_levels l (emitted.body c d vs))
    comparison_body_low l vs room = block_low 3 (emitted.body_expr c d vs) (comparison_reaches vs) l room

equal_tests : TestsReach equal
equal_tests n a b r s k room =
    let h : k ≤ deepest = omega arith in low_both (r k room) (low_next k h (low_next k h (s k room)))

unequal_tests : TestsReach unequal
unequal_tests n a b r s k room =
    let h : k ≤ deepest = omega arith in low_both (r k room) (low_next k h (low_next k h (s k room)))

and_joins : JoinsReach and_expr
and_joins n es r k room = joined_low n k room es r

or_joins : JoinsReach or_expr
or_joins n es r k room = joined_low n k room es r

-- ---- `eq`, and `ne` where it is emitted

-- its body is low at this level
abbrev pub BodyLow : ℕ → MethodTree → Type 0
BodyLow l m = AllLow (block_levels l m.body)

pub one_or_two : (P : MethodTree → Type 0) (two : Bool) (m k : MethodTree) → P m → P k → Each P (cond two (m ∷ k ∷ []) (m ∷ []))
one_or_two P true m k h i = (h, (i, tt))
one_or_two P false m k h i = (h, tt)

-- four levels are needed where a field is compared
pub comparison_bodies_low : (l : ℕ) (d : Declaration) (vs : List MarkedCase) → l + 4 ≤ deepest → Each (BodyLow l) (emitted.methods d vs)
comparison_bodies_low l d vs room =
    one_or_two (BodyLow l) (some_compared vs) _ _ (search (comparison_body_low, equal_tests, and_joins, room))
    (search (comparison_body_low, unequal_tests, or_joins, room))
