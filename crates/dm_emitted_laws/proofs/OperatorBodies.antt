-- The bodies that operators emit are blocks of the grammar, without their ranges.
use Rattle.std.proofs.Common.{◌≡◌, ℕ, ◌+◌, Bool, true, false, cond, List, [], ◌∷◌, ◌++◌, map, codes, IsTrue, refl}
use Rattle.dm_stream.specs.declared.tokens.Ident.{Ident}
use Rattle.dm_ast.specs.Keywords.{is_keyword}
use Rattle.dm_ast.specs.TypeGrammar.{is_path_word}
use Rattle.dm_ast.specs.Tree.{PathTree}
use Rattle.dm_ast.specs.Declarations.{Declaration}
use Rattle.dm_ast.specs.Implementors.{plain_path}
use Rattle.dm_output.specs.Output.{PatternTree, wild, ExprTree, member, exprs_of, named_exprs_of, some_expr, ArmTree, arms_of, ArmBodyTree, stmts_of, last_expr}
use Rattle.dm_output.specs.Values.{Text, is_enum}
use Rattle.dm_output.specs.Calls.{ok_names, err_names}
use Rattle.dm_generics.specs.Words.{word, words}
use Rattle.dm_operands.specs.declared.cases.Form.{Form}
use Rattle.dm_operands.specs.declared.cases.Form.TheVariants as forms
use Rattle.dm_operands.specs.Marked.{MarkedField, MarkedCase}
use Rattle.dm_operands.specs.Numbered.{self_name, right_name, inner_name}
use Rattle.dm_operands.specs.Bodies.{name}
use Rattle.dm_operands.specs.Sides.{field_ident, side_pattern}
use Rattle.dm_operators.specs.Operators as ops
use Rattle.dm_operators.specs.Operators.{Operator, method_names}
use Rattle.dm_operators.specs.Bodies.{operation_call, call_of, in_ok, in_err, new_error, binary_error, binary_unit, mismatch, unary_unit, parts, named_parts, in_parens, constructor, right_operand, binary_call, binary_part, assigning_calls, arm, keep, whole, bound_in, sides, value_given, is_unit_form, answer_given, binary_pattern, binary_given, binary_arm, different_body, different, has_rest, rest, subject, inner_part, variant_path, some_unit_form, unary_given, unary_arm, member_of, own_part, binary_body, unary_enum, unary_struct, body_expr}
use Rattle.dm_type_eq.specs.Unplaced.{unplaced_path}
use Rattle.dm_reread.specs.Bare.{bare_member, bare_pattern, bare_expr, bare_exprs, bare_named_exprs, bare_arms, bare_body, bare_stmts, bare_block}
use Rattle.dm_reread.specs.Leaves.{LeafGrammar}
use Rattle.dm_reread.specs.Grammar as grammar
use Rattle.dm_reread.specs.Grammar.{at_or, IsName, IsPlainPath, IsMember, IsPattern, IsExpr, EachNamed, AreArms, IsBody, AreStmts, IsBlock}
use Rattle.dm_reread.specs.ReadBack.{leaf_grammar}
use Rattle.dm_reread.proofs.Words.{name-path}
use Rattle.dm_head_laws.specs.Parts.{Each}
use Rattle.dm_head_laws.proofs.DeclaredParts.{each_map, each_both}
use Rattle.dm_emitted_laws.specs.Parts.{OperatorNamed}
use Rattle.dm_emitted_laws.specs.Ready.{CaseReady}
use Rattle.dm_emitted_laws.proofs.OperandPatterns.{AreNames, self_names, right_names, inner_names, self_word, IsCasePath, case_path_plain, side_pattern_of, side_is_pattern}

-- what holds of both holds of the one that is chosen
chosen : {A : Type 0} (P : A → Type 0) (b : Bool) (x y : A) → P x → P y → P (cond b x y)
chosen P true x y h k = h
chosen P false x y h k = k

-- ---- names

-- the operand right of an operator
right_word : IsTrue (is_path_word (word (codes "__rhs")))
unfolding is_keyword
right_word = refl

-- ---- paths, which have no arguments

abbrev IsBarePath : PathTree → Type 0
IsBarePath p = IsPlainPath (unplaced_path p)

name_path : (x : Text) → IsTrue (is_path_word (word x)) → IsBarePath (plain_path (word x ∷ []))
name_path x h = (tt, (h, tt))

ident_path : (i : Ident) → IsName i → IsBarePath (plain_path (i ∷ []))
ident_path i h = (tt, (name-path i h, tt))

ok_path : IsBarePath (plain_path (words ok_names))
unfolding is_keyword
ok_path = (tt, (refl, (refl, (refl, (refl, (refl, tt))))))

err_path : IsBarePath (plain_path (words err_names))
unfolding is_keyword
err_path = (tt, (refl, (refl, (refl, (refl, (refl, tt))))))

-- derive_more::TYPE::MEMBER
abbrev error_path : Text → Text → PathTree
error_path type x = plain_path (words (codes "derive_more" ∷ type ∷ x ∷ []))

unit_error_path : IsBarePath (error_path (codes "UnitError") (codes "new"))
unfolding is_keyword
unit_error_path = (tt, (refl, (refl, (refl, tt))))

variant_error_path : IsBarePath (error_path (codes "WrongVariantError") (codes "new"))
unfolding is_keyword
variant_error_path = (tt, (refl, (refl, (refl, tt))))

unit_path : IsBarePath (error_path (codes "BinaryError") (codes "Unit"))
unfolding is_keyword
unit_path = (tt, (refl, (refl, (refl, tt))))

mismatch_path : IsBarePath (error_path (codes "BinaryError") (codes "Mismatch"))
unfolding is_keyword
mismatch_path = (tt, (refl, (refl, (refl, tt))))

-- the method of an operator
method_path : (o : Operator) → OperatorNamed o → IsBarePath (plain_path (words (method_names o)))
unfolding is_keyword
method_path o h = (tt, (refl, (refl, (refl, (h.trait_named, (name-path (word o.method) h.method_named, tt))))))

variant_path_is : (d : Declaration) (i : Ident) → IsName d.ident → IsName i → IsCasePath (variant_path d i)
variant_path_is d i h k = ((tt, (name-path d.ident h, (name-path i k, tt))), refl)

-- ---- fields, and cases

-- between braces a field has a name
abbrev FieldReady : Form → MarkedField → Type 0
FieldReady form f = form ≡ forms.Named → IsName (field_ident f.field.ident)

fields_ready : (form : Form) (fs : List MarkedField) → (form ≡ forms.Named → Each (λ f. IsName (field_ident f.field.ident)) fs) →
    Each (FieldReady form) fs
fields_ready form [] h = tt
fields_ready form (f ∷ fs) h = (λ e. (h e).0, fields_ready form fs (λ e. (h e).1))

case_fields : (c : MarkedCase) → CaseReady c → Each (FieldReady c.form) c.fields
case_fields c h = fields_ready c.form c.fields h.named

whole_ready : (c : MarkedCase) → CaseReady c → CaseReady (whole c)
whole_ready c h = record { ident = h.ident; named = λ e. each_map (λ f. IsName (field_ident f.field.ident)) keep c.fields (h.named e) }

bound_ready : (o : Operator) (c : MarkedCase) → CaseReady c → CaseReady (bound_in o c)
bound_ready o c h = chosen CaseReady o.assigning c (whole c) h (whole_ready c h)

-- ---- patterns

abbrev IsBarePattern : PatternTree → Type 0
IsBarePattern p = IsPattern (bare_pattern p)

-- of both operands, or of self
sides_are : (form : ops.Form) (d : Declaration) (c : MarkedCase) → CaseReady c → IsBarePattern (sides form d c)
sides_are ops.structural d c h = (side_is_pattern self_name self_names d c h, side_is_pattern right_name right_names d c h)
sides_are ops.scalar d c h = side_is_pattern self_name self_names d c h
sides_are ops.unary d c h = side_is_pattern self_name self_names d c h

-- ---- expressions, statements and arms, whatever the types and values of the grammar are

module _ (g : LeafGrammar) where
  abbrev IsValue : ExprTree → Type 0
  IsValue e = IsExpr g true (bare_expr e)

  -- the name of a field by its number
  numbered_value : (naming : ℕ → Text) → AreNames naming → (n : ℕ) → IsValue (name (naming n))
  numbered_value naming named n = name_path (naming n) (name-path (word (naming n)) (named n))

  self_value : IsValue (name (codes "self"))
  self_value = name_path (codes "self") self_word

  right_value : IsValue (name (codes "__rhs"))
  right_value = name_path (codes "__rhs") right_word

  values_are : (es : List ExprTree) → Each IsValue es → grammar.Each g at_or true (bare_exprs (exprs_of es))
  values_are [] h = tt
  values_are (e ∷ es) h = ((h.0, tt), values_are es h.1)

  call_of_is : (names : List Text) → IsBarePath (plain_path (words names)) → (e : ExprTree) → IsValue e → IsValue (call_of names e)
  call_of_is names k e h = (k, ((h, tt), tt))

  -- arms, one behind the other
  abbrev IsBareArm : ArmTree → Type 0
  IsBareArm a = AreArms g (bare_arms (arms_of (a ∷ [])))

  arms_are : (as' : List ArmTree) → Each IsBareArm as' → AreArms g (bare_arms (arms_of as'))
  arms_are [] h = tt
  arms_are (a ∷ more) h = (h.0.0, arms_are more h.1)

  abbrev IsBareBody : ArmBodyTree → Type 0
  IsBareBody b = IsBody g (bare_body b)

  arm_is : (p : PatternTree) (b : ArmBodyTree) → IsBarePattern p → IsBareBody b → IsBareArm (arm p b)
  arm_is p b h k = (((tt, (h, tt)), (tt, k)), tt)

  -- ---- a value of a case

  -- an expression for each field that is ready
  abbrev AreParts : Form → (ℕ → MarkedField → ExprTree) → Type 0
  AreParts form part = (n : ℕ) (f : MarkedField) → FieldReady form f → IsValue (part n f)

  parts_are : (form : Form) (part : ℕ → MarkedField → ExprTree) → AreParts form part → (n : ℕ) (fs : List MarkedField) →
      Each (FieldReady form) fs → Each IsValue (parts part n fs)
  parts_are form part are n [] h = tt
  parts_are form part are n (f ∷ fs) h = (are n f h.0, parts_are form part are (n + 1) fs h.1)

  named_parts_are : (part : ℕ → MarkedField → ExprTree) → AreParts forms.Named part → (n : ℕ) (fs : List MarkedField) →
      Each (FieldReady forms.Named) fs → EachNamed g (bare_named_exprs (named_exprs_of (named_parts part n fs)))
  named_parts_are part are n [] h = tt
  named_parts_are part are n (f ∷ fs) h = (h.0 refl, (are n f h.0, named_parts_are part are (n + 1) fs h.1))

  in_parens_is : (p : PathTree) → IsBarePath p → (es : List ExprTree) → Each IsValue es → IsValue (in_parens p es)
  in_parens_is p k [] h = (k, tt)
  in_parens_is p k (e ∷ es) h = (k, (tt, values_are (e ∷ es) h))

  constructor_is : (form : Form) (part : ℕ → MarkedField → ExprTree) → AreParts form part → (p : PathTree) → IsBarePath p →
      (fs : List MarkedField) → Each (FieldReady form) fs →
      IsValue (constructor part p form fs)
  constructor_is forms.Named part are p k fs h = (tt, (k, named_parts_are part are 0 fs h))
  constructor_is forms.Unnamed part are p k fs h = in_parens_is p k (parts part 0 fs) (parts_are forms.Unnamed part are 0 fs h)
  constructor_is forms.Unit part are p k fs h = k

  -- ---- answers that may be errors

  in_ok_is : (b : Bool) (e : ExprTree) → IsValue e → IsValue (in_ok b e)
  in_ok_is b e h = chosen IsValue b _ e (call_of_is ok_names ok_path e h) h

  in_err_is : (e : ExprTree) → IsValue e → IsValue (in_err e)
  in_err_is e h = call_of_is err_names err_path e h

  new_error_is : (type : Text) (o : Operator) → IsBarePath (error_path type (codes "new")) → IsValue (new_error type o)
  new_error_is type o k = (k, ((refl, tt), tt))

  binary_error_is : (kind : Text) (e : ExprTree) → IsBarePath (error_path (codes "BinaryError") kind) → IsValue e →
      IsValue (binary_error kind e)
  binary_error_is kind e k h = (err_path, (((k, ((h, tt), tt)), tt), tt))

  binary_unit_is : (o : Operator) → IsValue (binary_unit o)
  unfolding binary_unit
  binary_unit_is o =
      binary_error_is (codes "Unit") (new_error (codes "UnitError") o) unit_path (new_error_is (codes "UnitError") o unit_error_path)

  mismatch_is : (o : Operator) → IsValue (mismatch o)
  unfolding mismatch
  mismatch_is o =
      binary_error_is (codes "Mismatch") (new_error (codes "WrongVariantError") o) mismatch_path
      (new_error_is (codes "WrongVariantError") o variant_error_path)

  unary_unit_is : (o : Operator) → IsValue (unary_unit o)
  unfolding unary_unit
  unary_unit_is o = in_err_is (new_error (codes "UnitError") o) (new_error_is (codes "UnitError") o unit_error_path)

  -- ---- an operator whose names are names

  module _ (o : Operator) (named : OperatorNamed o) where
    operation_is : (es : List ExprTree) → Each IsValue es → IsValue (operation_call o es)
    operation_is es h = (method_path o named, values_are es h)

    -- ---- two operands

    right_operand_is : (form : ops.Form) (n : ℕ) → IsValue (right_operand form n)
    right_operand_is ops.structural n = numbered_value right_name right_names n
    right_operand_is ops.scalar n = right_value
    right_operand_is ops.unary n = right_value

    binary_call_is : (form : ops.Form) (n : ℕ) → IsValue (binary_call form o n)
    binary_call_is form n =
        operation_is (name (self_name n) ∷ right_operand form n ∷ []) (numbered_value self_name self_names n, (right_operand_is form n, tt))

    binary_part_is : (form : ops.Form) (n : ℕ) (f : MarkedField) → IsValue (binary_part form o n f)
    binary_part_is form n f = chosen IsValue f.left_out _ _ (numbered_value self_name self_names n) (binary_call_is form n)

    assigning_calls_are : (form : ops.Form) (n : ℕ) (fs : List MarkedField) → AreStmts g (bare_stmts (stmts_of (assigning_calls form o n fs)))
    assigning_calls_are form n [] = tt
    assigning_calls_are form n (f ∷ fs) =
        let more = assigning_calls_are form (n + 1) fs in
        chosen (λ ss. AreStmts g (bare_stmts (stmts_of ss))) f.left_out _ _ more (binary_call_is form n, more)

    value_given_is : (form : ops.Form) (d : Declaration) (c : MarkedCase) → CaseReady c → IsValue (value_given form o d c)
    value_given_is form d c h =
        constructor_is c.form (binary_part form o) (λ n f k. binary_part_is form n f) _ (case_path_plain (is_enum d) c.ident h.ident).0
        c.fields (case_fields c h)

    answer_given_is : (form : ops.Form) (d : Declaration) (c : MarkedCase) → CaseReady c → IsValue (answer_given form o d c)
    answer_given_is ops.structural d c h =
        chosen IsValue (is_unit_form c.form) _ _ (binary_unit_is o) (in_ok_is (is_enum d) _ (value_given_is ops.structural d c h))
    answer_given_is ops.scalar d c h = value_given_is ops.scalar d c h
    answer_given_is ops.unary d c h = value_given_is ops.unary d c h

    binary_given_is : (form : ops.Form) (d : Declaration) (c : MarkedCase) → CaseReady c → IsBareBody (binary_given form o d c)
    binary_given_is form d c h = chosen IsBareBody o.assigning _ _ (assigning_calls_are form 0 c.fields, tt) (answer_given_is form d c h)

    binary_arm_is : (form : ops.Form) (d : Declaration) (c : MarkedCase) → CaseReady c → IsBareArm (binary_arm form o d c)
    binary_arm_is form d c h =
        let p = sides_are form d (bound_in o c) (bound_ready o c h) in
        arm_is (binary_pattern form o d c) (binary_given form o d c) p (binary_given_is form d c h)

    binary_arms_are : (form : ops.Form) (d : Declaration) (cs : List MarkedCase) → Each CaseReady cs →
        Each IsBareArm (map (binary_arm form o d) cs)
    binary_arms_are form d [] h = tt
    binary_arms_are form d (c ∷ cs) h = (binary_arm_is form d c h.0, binary_arms_are form d cs h.1)

    different_body_is : IsBareBody (different_body o)
    different_body_is = chosen IsBareBody o.assigning _ _ (tt, tt) (mismatch_is o)

    different_is : IsBareArm (different o)
    different_is = arm_is wild (different_body o) tt different_body_is

    rest_is : (form : ops.Form) (cs : List MarkedCase) → Each IsBareArm (rest form o cs)
    rest_is form cs = chosen (Each IsBareArm) (has_rest form cs) (different o ∷ []) [] (different_is, tt) tt

    -- a path without braces, and groups, may stand before the arms
    subject_is : (form : ops.Form) → IsExpr g false (bare_expr (subject form))
    subject_is ops.structural = (tt, values_are (name (codes "self") ∷ name (codes "__rhs") ∷ []) (self_value, (right_value, tt)))
    subject_is ops.scalar = self_value
    subject_is ops.unary = self_value

    binary_body_is : (form : ops.Form) (d : Declaration) (cs : List MarkedCase) → Each CaseReady cs → IsValue (binary_body form o d cs)
    binary_body_is form d [] h = (self_value, tt)
    binary_body_is form d (c ∷ cs) h =
        let own : List ArmTree = map (binary_arm form o d) (c ∷ cs) in
        let more : List ArmTree = rest form o (c ∷ cs) in
        (subject_is form, arms_are (own ++ more) (each_both IsBareArm own more (binary_arms_are form d (c ∷ cs) h) (rest_is form (c ∷ cs))))

    -- ---- one operand

    inner_part_is : (n : ℕ) (f : MarkedField) → IsValue (inner_part o n f)
    inner_part_is n f = operation_is (name (inner_name n) ∷ []) (numbered_value inner_name inner_names n, tt)

    module _ (d : Declaration) (own : IsName d.ident) where
      unary_given_is : (fails : Bool) (c : MarkedCase) → CaseReady c → IsBareBody (unary_given o d fails c)
      unary_given_is fails c h =
          let p = (variant_path_is d c.ident own h.ident).0 in
          let value = constructor_is c.form (inner_part o) (λ n f k. inner_part_is n f) _ p c.fields (case_fields c h) in
          chosen IsBareBody (is_unit_form c.form) _ _ (unary_unit_is o) (tt, in_ok_is fails _ value)

      unary_arm_is : (fails : Bool) (c : MarkedCase) → CaseReady c → IsBareArm (unary_arm o d fails c)
      unary_arm_is fails c h =
          let p = variant_path d c.ident in
          arm_is (side_pattern inner_name p c.form c.fields) (unary_given o d fails c)
          (side_pattern_of inner_name inner_names p (variant_path_is d c.ident own h.ident) c.form c.fields h.named) (unary_given_is fails c h)

      unary_arms_are : (fails : Bool) (cs : List MarkedCase) → Each CaseReady cs → Each IsBareArm (map (unary_arm o d fails) cs)
      unary_arms_are fails [] h = tt
      unary_arms_are fails (c ∷ cs) h = (unary_arm_is fails c h.0, unary_arms_are fails cs h.1)

      unary_enum_is : (cs : List MarkedCase) → Each CaseReady cs → IsValue (unary_enum o d cs)
      unary_enum_is cs h = (self_value, arms_are (map (unary_arm o d (some_unit_form cs)) cs) (unary_arms_are (some_unit_form cs) cs h))

      -- of a struct's fields a number is behind the dot, or a name
      member_is : (form : Form) (n : ℕ) (f : MarkedField) → FieldReady form f → IsMember (bare_member (member_of form n f))
      member_is forms.Named n f h = h refl
      member_is forms.Unnamed n f h = refl
      member_is forms.Unit n f h = refl

      own_part_is : (form : Form) (n : ℕ) (f : MarkedField) → FieldReady form f → IsValue (own_part o form n f)
      own_part_is form n f h =
          operation_is (member (name (codes "self")) (member_of form n f) ∷ []) (((self_value, tt), member_is form n f h), tt)

      unary_struct_is : (cs : List MarkedCase) → Each CaseReady cs → IsValue (unary_struct o d cs)
      unary_struct_is [] h = (self_value, tt)
      unary_struct_is (c ∷ cs) h =
          constructor_is c.form (own_part o c.form) (own_part_is c.form) _ (ident_path d.ident own) c.fields (case_fields c h.0)

      -- ---- all of them

      body_is : (form : ops.Form) (cs : List MarkedCase) → Each CaseReady cs → IsValue (body_expr form o d cs)
      body_is ops.structural cs h = binary_body_is ops.structural d cs h
      body_is ops.scalar cs h = binary_body_is ops.scalar d cs h
      body_is ops.unary cs h = chosen IsValue (is_enum d) _ _ (unary_enum_is cs h) (unary_struct_is cs h)

-- the body of an operator's method, whatever it is derived for
pub operator_body : (form : ops.Form) (o : Operator) (d : Declaration) (cs : List MarkedCase) → OperatorNamed o → IsName d.ident →
    Each CaseReady cs →
    IsBlock leaf_grammar (bare_block (last_expr (some_expr (body_expr form o d cs))))
operator_body form o d cs h own ready = (tt, body_is leaf_grammar o h d own form cs ready)
