-- The bodies that operators and `PartialEq` emit can be written, five and three groups deep at the most: their fixed words, their numbered
-- names, their numbers and their strings are spellable, and so are the names of the declaration.
use Rattle.std.proofs.Common.{◌≡◌, ℕ, zero, suc, ◌+◌, ◌-◌, ◌/◌, ◌%◌, ◌<◌, ◌≤◌, ◌^◌, List, [], ◌∷◌, ◌++◌, map, length, Bool, true, false, cond, ◌&&◌, ◌||◌, nat_lt, nat_eq, eqb, codes, slice_get, Some, refl, sym, ap, ◌∙◌, subst, arith}
use Rattle.std.proofs.lemmas.Bool.{and_from, and_parts}
use Rattle.std.proofs.lemmas.Bool.Decides.{nat_tests}
use Rattle.std.proofs.lemmas.Fmt.{decimal_is_IsNumeral, digits_value-decimal}
use Rattle.std.proofs.lemmas.Str.Parse.{numerals_by_value, tells_all_ascii_digits}
use Rattle.std.proofs.Math.Utf8.{scalar, scalars}
use Rattle.std.proofs.lemmas.List.{length-map}
use Rattle.std.proofs.lemmas.Str.{encodes-chars}
use Rattle.std.specs.Char.{is_ascii_alphabetic, is_ascii_digit}
use Rattle.std.specs.Fmt.{decimal}
use Rattle.std.specs.Str.{all_ascii_digits, bytes_eq, encode_utf8_all}
use Rattle.std.specs.Str.Parse.{digits_value}
use Rattle.dm_stream.specs.declared.tokens.Ident.{Ident}
use Rattle.dm_stream.specs.declared.tokens.LitKind.TheVariants.{Int, Str}
use Rattle.dm_stream.specs.declared.tokens.Token.TheVariants as t
use Rattle.dm_stream.specs.Layout.{nowhere}
use Rattle.dm_lexer.specs.declared.numbers.Base.TheVariants.{Decimal}
use Rattle.dm_lexer.specs.Numbers.{is_value}
use Rattle.dm_lexer.specs.Quotes.{begins, keeps_line, whole_lines}
use Rattle.dm_lexer.specs.Written.{IsSpellable}
use Rattle.dm_lexer.proofs.Writables.{all_small, small-utf8, small-chars, goes_on_ascii, all_go_on, is_ascii_word, ascii_word-append, ascii_word-spellable}
use Rattle.dm_lexer.proofs.WritableLiterals.{int-spellable, escaped, in_quotes, str-spellable}
use Rattle.dm_ast.specs.Tree.{PathTree}
use Rattle.dm_ast.specs.TypeTokens.{each_segment, path_trees}
use Rattle.dm_ast.specs.declared.plain.Attribute.{Attribute}
use Rattle.dm_ast.specs.Declarations.{FieldTree, Declaration}
use Rattle.dm_ast.specs.Implementors.{segments, plain_path}
use Rattle.dm_output.specs.declared.pattern.Binding.TheVariants.{Plain}
use Rattle.dm_output.specs.Output.{PatternTree, wild, bind, patterns_of, named_of, ExprTree, ExprTrees, MethodTree, or_expr, and_expr, equal, unequal, exprs_of, named_exprs_of, member, str_expr, bool, unsafe_expr, no_expr, some_expr, ArmTree, arms_of, ArmBodyTree, block_body, expr_body, stmts_of, StmtTree, do_stmt, no_stmts, block, last_expr}
use Rattle.dm_output.specs.Values.{Text, Case, cases, is_enum, field_list}
use Rattle.dm_output.specs.Calls.{ok_names, err_names, discriminant_names}
use Rattle.dm_written.specs.Fitting as fitting
use Rattle.dm_written.specs.Fitting.{Fits, NameFits, PatternFits, PatternsFit, NamedPatternsFit, ExprFits, ExprsFit, NamedExprsFit, MaybeFits, ArmsFit, BodyFits, StmtsFit, BlockFits}
use Rattle.dm_written.proofs.Fitted.{none_fits, join_fits, name_fits, colons_fit, spaced_fits}
use Rattle.dm_generics.specs.Words.{word, words}
use Rattle.dm_generics.specs.Numerals.{digits_of, numeral}
use Rattle.dm_generics.proofs.NumeralLaws.{decimal_numeral}
use Rattle.dm_operands.specs.declared.cases.Form.{Form}
use Rattle.dm_operands.specs.declared.cases.Form.TheVariants as forms
use Rattle.dm_operands.specs.Numbered.{self_name, other_name, right_name, inner_name}
use Rattle.dm_operands.specs.Kept.{some_compared, all_compared}
use Rattle.dm_operands.specs.Bodies as operands
use Rattle.dm_operands.specs.Bodies.{name}
use Rattle.dm_operands.specs.Marked.{MarkedField, MarkedCase, mark_field, mark_case, marked}
use Rattle.dm_operands.specs.Sides.{binding, bindings, field_ident, named_bindings, case_path, side_pattern, side, PairArms, pair_arm, pair_arms}
use Rattle.dm_head_laws.specs.Parts.{Each}
use Rattle.dm_head_laws.proofs.HeadParts.{each_by}
use Rattle.dm_head_laws.proofs.DeclaredParts.{each_map, each_both}
use Rattle.dm_operators.specs.Operators as ops
use Rattle.dm_operators.specs.Operators.{Operator, operators, named_in, IsOperator, method_names}
use Rattle.dm_operators.specs.Bodies as bodies
use Rattle.dm_operators.specs.Bodies.{quoted, operation_call, call_of, in_ok, new_error, in_err, binary_error, binary_unit, mismatch, unary_unit, parts, named_parts, in_parens, constructor, right_operand, binary_call, binary_part, assigning_calls, keep, whole, bound_in, sides, value_given, is_unit_form, answer_given, binary_given, binary_arm, different, has_rest, rest, subject, inner_part, variant_path, some_unit_form, unary_given, unary_arm, member_of, own_part, match_of, binary_body, unary_enum, unary_struct, body_expr}
use Rattle.dm_operators.specs.Attributes.{skips, cases_for, form_by, forwards, form_in}
use Rattle.dm_operators.specs.Implementations.{method_of}
use Rattle.dm_operators.specs.Laws.{AreFew}
use Rattle.dm_partial_eq.specs.Emitted as emitted
use Rattle.dm_emitted_laws.specs.Spellable.{FieldSpellable, CaseSpellable, HasFewFields, OperatorSpellable}

-- ---- words

word_spellable : (x : Text) → is_ascii_word x ≡ true → NameFits (word x)
word_spellable x h = ascii_word-spellable x nowhere h

-- they are all ASCII words
abbrev are_words : List Text → Bool
are_words [] = true
are_words (x ∷ xs) = is_ascii_word x && are_words xs

-- spellable words
abbrev AreNames : List Text → Type 0
AreNames xs = Each (λ x. NameFits (word x)) xs

each_word : (xs : List Text) → are_words xs ≡ true → AreNames xs
each_word [] h = tt
each_word (x ∷ xs) h =
    let both = and_parts (is_ascii_word x) (are_words xs) h in
    (word_spellable x both.0, each_word xs both.1)

words_spellable : (xs : List Text) → AreNames xs → Each NameFits (words xs)
words_spellable [] h = tt
words_spellable (x ∷ xs) h = (h.0, words_spellable xs h.1)

-- ---- the string of a word

start_goes : (c : ℕ) → (is_ascii_alphabetic c || nat_eq c 95) ≡ true → goes_on_ascii c ≡ true
start_goes c h = grind (arith, nat_tests)

word_goes : (x : Text) → is_ascii_word x ≡ true → all_go_on x ≡ true
word_goes [] h = refl
word_goes (c ∷ x) h =
    let both = and_parts (is_ascii_alphabetic c || nat_eq c 95) (all_go_on x) h in
    and_from (goes_on_ascii c) (all_go_on x) (start_goes c both.0) both.1

goes_small : (c : ℕ) → goes_on_ascii c ≡ true → nat_lt c 128 ≡ true
goes_small c h = grind (arith, nat_tests)

goes_scalar : (c : ℕ) → goes_on_ascii c ≡ true → scalar c ≡ true
goes_scalar c h = grind (arith, nat_tests)

goes_plain : (c : ℕ) → goes_on_ascii c ≡ true → (nat_eq c 34 || nat_eq c 92) ≡ false
goes_plain c h = grind (arith, nat_tests)

goes_in_line : (c : ℕ) → goes_on_ascii c ≡ true → nat_eq c 13 ≡ false
goes_in_line c h = grind (arith, nat_tests)

small_quoted : (x : Text) → all_go_on x ≡ true → all_small (x ++ 34 ∷ []) ≡ true
small_quoted [] h = refl
small_quoted (c ∷ x) h =
    let both = and_parts (goes_on_ascii c) (all_go_on x) h in
    and_from (nat_lt c 128) (all_small (x ++ 34 ∷ [])) (goes_small c both.0) (small_quoted x both.1)

scalars_in : (x : Text) → all_go_on x ≡ true → scalars x ≡ true
scalars_in [] h = refl
scalars_in (c ∷ x) h =
    let both = and_parts (goes_on_ascii c) (all_go_on x) h in
    and_from (scalar c) (scalars x) (goes_scalar c both.0) (scalars_in x both.1)

lines_in : (x : Text) → all_go_on x ≡ true → whole_lines x ≡ true
lines_in [] h = refl
lines_in (c ∷ x) h =
    let both = and_parts (goes_on_ascii c) (all_go_on x) h in
    and_from (keeps_line c x) (whole_lines x) (ap (λ b. cond b (begins 10 x) true) (goes_in_line c both.0)) (lines_in x both.1)

plainly_escaped : (x : Text) → all_go_on x ≡ true → escaped x ≡ x
plainly_escaped [] h = refl
plainly_escaped (c ∷ x) h =
    let both = and_parts (goes_on_ascii c) (all_go_on x) h in
    ap (λ b. cond {A = List ℕ} b (92 ∷ c ∷ escaped x) (c ∷ escaped x)) (goes_plain c both.0) ∙ ap (λ l. c ∷ l) (plainly_escaped x both.1)

small_encodes : (cs : List ℕ) → all_small cs ≡ true → encode_utf8_all cs ≡ cs
small_encodes cs h = ap encode_utf8_all (sym (small-chars cs h)) ∙ encodes-chars cs (small-utf8 cs h)

-- an ASCII word between quotes is a literal
pub quoted_spellable : (x : Text) → is_ascii_word x ≡ true → IsSpellable (t.Literal (quoted x))
quoted_spellable x h =
    let goes = word_goes x h in
    let same : encode_utf8_all (in_quotes x) ≡ 34 ∷ (x ++ 34 ∷ []) =
    ap (λ l. encode_utf8_all (34 ∷ (l ++ 34 ∷ []))) (plainly_escaped x goes) ∙ small_encodes (34 ∷ (x ++ 34 ∷ [])) (small_quoted x goes) in
    subst (λ (l : List ℕ). IsSpellable (t.Literal record { kind = Str; text = l; span = nowhere })) same
    (str-spellable x nowhere (scalars_in x goes) (lines_in x goes))

-- ---- numbers

digit_ascii : (n : ℕ) → n < 10 → is_ascii_digit (48 + n) ≡ true
digit_ascii n h = grind (arith, nat_tests)

digit_last : (ds : List ℕ) (n : ℕ) → n < 10 → all_ascii_digits ds ≡ true → all_ascii_digits (ds ++ ((48 + n) ∷ [])) ≡ true
digit_last [] n l h = and_from (is_ascii_digit (48 + n)) true (digit_ascii n l) refl
digit_last (c ∷ ds) n l h =
    and_from (is_ascii_digit c) (all_ascii_digits (ds ++ ((48 + n) ∷ []))) (and_parts (is_ascii_digit c) (all_ascii_digits ds) h).0
    (digit_last ds n l (and_parts (is_ascii_digit c) (all_ascii_digits ds) h).1)

few_digits : (most n : ℕ) → all_ascii_digits (digits_of most n) ≡ true
few_digits zero n = refl
few_digits (suc most) n =
    (elim (nat_lt n 10) as (λ b. nat_lt n 10 ≡ b →
    all_ascii_digits (cond b ((48 + n) ∷ []) (digits_of most (n / 10) ++ ((48 + n % 10) ∷ []))) ≡ true) [
      | true ↦ λ e. digit_last [] n (grind (arith, nat_tests)) refl
      | false ↦ λ e. digit_last (digits_of most (n / 10)) (n % 10) (omega arith) (few_digits most (n / 10))
    ]) refl

numeral_digits : (n : ℕ) → all_ascii_digits (numeral n) ≡ true
unfolding numeral
numeral_digits n = few_digits (suc n) n

digit_goes : (c : ℕ) → is_ascii_digit c ≡ true → goes_on_ascii c ≡ true
digit_goes c h = grind (arith, nat_tests)

digits_go : (cs : List ℕ) → all_ascii_digits cs ≡ true → all_go_on cs ≡ true
digits_go [] h = refl
digits_go (c ∷ cs) h =
    and_from (goes_on_ascii c) (all_go_on cs) (digit_goes c (and_parts (is_ascii_digit c) (all_ascii_digits cs) h).0)
    (digits_go cs (and_parts (is_ascii_digit c) (all_ascii_digits cs) h).1)

-- a word, and a number behind it
pub numbered_spellable : (x : Text) (n : ℕ) → is_ascii_word x ≡ true → NameFits (word (x ++ numeral n))
numbered_spellable x n h = word_spellable (x ++ numeral n) (ascii_word-append x (numeral n) h (digits_go (numeral n) (numeral_digits n)))

numeral_value : (n : ℕ) → n < 2 ^ 64 → is_value Decimal (decimal n) ≡ true
numeral_value n small =
    let own = numerals_by_value (λ ds. all_ascii_digits ds ≡ true) tells_all_ascii_digits in
    let value : digits_value 10 (decimal n) ≡ n = digits_value-decimal own n small in
    let l : 0 < length (decimal n) = (decimal_is_IsNumeral n small).0.0 in
    let some : nat_lt 0 (length (decimal n)) ≡ true = grind (arith, nat_tests) in
    let wide : n < 2 ^ 128 = omega arith in
    let few : nat_lt n (2 ^ 128) ≡ true = grind (arith, nat_tests) in
    and_from (nat_lt 0 (length (decimal n))) (nat_lt (digits_value 10 (decimal n)) (2 ^ 128)) some
    (ap (λ (k : ℕ). nat_lt k (2 ^ 128)) value ∙ few)

-- a number of 64 bits as a literal
pub numeral_spellable : (n : ℕ) → n < 2 ^ 64 → IsSpellable (t.Literal record { kind = Int; text = numeral n; span = nowhere })
numeral_spellable n small =
    int-spellable (numeral n) nowhere (numeral_digits n)
    (subst (λ (ds : List ℕ). is_value Decimal ds ≡ true) (decimal_numeral n small) (numeral_value n small))

-- ---- paths

segments_fit : (n : ℕ) (is : List Ident) → Each NameFits is → fitting.Each (Fits n) (each_segment nowhere (segments is))
segments_fit n [] h = tt
segments_fit n (i ∷ is) h = (join_fits (name_fits n i h.0) (none_fits n), segments_fit n is h.1)

pub plain_fits : (n : ℕ) (is : List Ident) → Each NameFits is → Fits n (path_trees nowhere (plain_path is))
plain_fits n is h = join_fits (none_fits n) (spaced_fits true (each_segment nowhere (segments is)) (colons_fit n) (segments_fit n is h))

names_fit : (n : ℕ) (xs : List Text) → AreNames xs → Fits n (path_trees nowhere (plain_path (words xs)))
names_fit n xs h = plain_fits n (words xs) (words_spellable xs h)

-- a name as an expression
name_expr_fits : (n : ℕ) (x : Text) → NameFits (word x) → ExprFits n (name x)
name_expr_fits n x h = plain_fits n (word x ∷ []) (h, tt)

self_fits : (n : ℕ) → ExprFits n (name (codes "self"))
self_fits n = name_expr_fits n (codes "self") (word_spellable (codes "self") refl)

-- ---- either of two

expr_if : (n : ℕ) (b : Bool) (x y : ExprTree) → ExprFits n x → ExprFits n y → ExprFits n (cond b x y)
expr_if n true x y h k = h
expr_if n false x y h k = k

body_if : (n : ℕ) (b : Bool) (x y : ArmBodyTree) → BodyFits n x → BodyFits n y → BodyFits n (cond b x y)
body_if n true x y h k = h
body_if n false x y h k = k

each_if : {A : Type 0} (P : A → Type 0) (b : Bool) (xs ys : List A) → Each P xs → Each P ys → Each P (cond b xs ys)
each_if P true xs ys h k = h
each_if P false xs ys h k = k

-- ---- patterns of a case

-- `Self`, or `Self::V`
case_path_by : (n : ℕ) (b : Bool) (i : Ident) → NameFits i →
    Fits n (path_trees nowhere (cond b (plain_path (word (codes "Self") ∷ i ∷ [])) (plain_path (word (codes "Self") ∷ []))))
case_path_by n true i h = plain_fits n (word (codes "Self") ∷ i ∷ []) (word_spellable (codes "Self") refl, (h, tt))
case_path_by n false i h = plain_fits n (word (codes "Self") ∷ []) (word_spellable (codes "Self") refl, tt)

pub case_path_fits : (n : ℕ) (d : Declaration) (i : Ident) → NameFits i → Fits n (path_trees nowhere (case_path d i))
case_path_fits n d i h = case_path_by n (is_enum d) i h

-- whatever the fields are called, if each of these names is spellable
module _ (naming : ℕ → Text) (called : (i : ℕ) → NameFits (word (naming i))) (n : ℕ) where
  bindings_fit : (i : ℕ) (fs : List MarkedField) → PatternsFit n (patterns_of (bindings naming i fs))
  bindings_fit i [] = tt
  bindings_fit i (f ∷ fs) = (binding_fits f.left_out i, bindings_fit (i + 1) fs)
    where
      binding_fits : (b : Bool) (k : ℕ) → PatternFits n (binding b (naming k))
      binding_fits true k = tt
      binding_fits false k = called k

  named_by : (b : Bool) (i k : Ident) (ps : List (Ident × PatternTree)) → NameFits i → NameFits k → NamedPatternsFit n (named_of ps) →
      NamedPatternsFit n (named_of (cond b ps ((i, bind Plain k) ∷ ps)))
  named_by true i k ps h l more = more
  named_by false i k ps h l more = (h, l, more)

  named_fit : (i : ℕ) (fs : List MarkedField) → Each FieldSpellable fs → NamedPatternsFit n (named_of (named_bindings naming i fs))
  named_fit i [] h = tt
  named_fit i (f ∷ fs) h =
      named_by f.left_out (field_ident f.field.ident) (word (naming i)) (named_bindings naming (i + 1) fs) h.0 (called i)
      (named_fit (i + 1) fs h.1)

-- the fields stand in a group
side_pattern_fits : (naming : ℕ → Text) → ((i : ℕ) → NameFits (word (naming i))) → (n : ℕ) → 1 ≤ n → (p : PathTree) →
    Fits n (path_trees nowhere p) →
    (form : Form) (fs : List MarkedField) → (form ≡ forms.Named → Each FieldSpellable fs) → PatternFits n (side_pattern naming p form fs)
side_pattern_fits naming called n l p h forms.Named fs k = (h, omega (arith, l), named_fit naming called (n - 1) 0 fs (k refl))
side_pattern_fits naming called n l p h forms.Unnamed fs k = (h, omega (arith, l), bindings_fit naming called (n - 1) 0 fs)
side_pattern_fits naming called n l p h forms.Unit fs k = h

pub side_fits : (naming : ℕ → Text) → ((i : ℕ) → NameFits (word (naming i))) → (n : ℕ) → 1 ≤ n → (d : Declaration) (c : MarkedCase) →
    CaseSpellable c → PatternFits n (side naming d c)
side_fits naming called n l d c h =
    side_pattern_fits naming called n l (case_path d c.ident) (case_path_fits n d c.ident h.ident) c.form c.fields h.named

-- the numbered names
self_named : (i : ℕ) → NameFits (word (self_name i))
self_named i = numbered_spellable (codes "__self_") i refl

other_named : (i : ℕ) → NameFits (word (other_name i))
other_named i = numbered_spellable (codes "__other_") i refl

right_named : (i : ℕ) → NameFits (word (right_name i))
right_named i = numbered_spellable (codes "__rhs_") i refl

inner_named : (i : ℕ) → NameFits (word (inner_name i))
inner_named i = numbered_spellable (codes "__") i refl

-- ---- arms

abbrev ArmFits : ℕ → ArmTree → Type 0
ArmFits n a = PatternsFit n a.patterns × MaybeFits n a.guard × BodyFits n a.body

arms_fit : (n : ℕ) (as' : List ArmTree) → Each (ArmFits n) as' → ArmsFit n (arms_of as')
arms_fit n [] h = tt
arms_fit n (a ∷ as') h = (h.0.0, h.0.1, h.0.2, arms_fit n as' h.1)

arm_fits : (n : ℕ) (p : PatternTree) (b : ArmBodyTree) → PatternFits n p → BodyFits n b → ArmFits n (bodies.arm p b)
arm_fits n p b h k = ((h, tt), tt, k)

-- ---- calls

-- of a path of spellable names
call_of_fits : (n : ℕ) → 1 ≤ n → (xs : List Text) (e : ExprTree) → AreNames xs → ExprFits (n - 1) e → ExprFits n (call_of xs e)
call_of_fits n l xs e h k = (names_fit n xs h, omega (arith, l), (k, tt))

in_err_fits : (n : ℕ) → 1 ≤ n → (e : ExprTree) → ExprFits (n - 1) e → ExprFits n (in_err e)
in_err_fits n l e h = call_of_fits n l err_names e (each_word err_names refl) h

in_ok_fits : (n : ℕ) → 1 ≤ n → (b : Bool) (e : ExprTree) → ((m : ℕ) → n - 1 ≤ m → ExprFits m e) → ExprFits n (in_ok b e)
in_ok_fits n l b e h =
    expr_if n b (call_of ok_names e) e (call_of_fits n l ok_names e (each_word ok_names refl) (h (n - 1) (omega arith))) (h n (omega arith))

-- the names of an operator
module _ (o : Operator) (s : OperatorSpellable o) where
  operation_fits : (n : ℕ) → 1 ≤ n → (es : List ExprTree) → ExprsFit (n - 1) (exprs_of es) → ExprFits n (operation_call o es)
  operation_fits n l es h =
      let core = each_word (codes "derive_more" ∷ codes "core" ∷ codes "ops" ∷ []) refl in
      (names_fit n (method_names o) (core.0, (core.1.0, (core.1.1.0, (s.trait_name, (s.method, tt))))), omega (arith, l), h)

  new_error_fits : (n : ℕ) → 1 ≤ n → (type : Text) → is_ascii_word type ≡ true → ExprFits n (new_error type o)
  new_error_fits n l type h =
      let fixed = each_word (codes "derive_more" ∷ codes "new" ∷ []) refl in
      call_of_fits n l (codes "derive_more" ∷ type ∷ codes "new" ∷ []) (str_expr (quoted o.method))
      (fixed.0, (word_spellable type h, fixed.1)) s.string

  binary_error_fits : (n : ℕ) → 3 ≤ n → (kind type : Text) → is_ascii_word kind ≡ true → is_ascii_word type ≡ true →
      ExprFits n (binary_error kind (new_error type o))
  binary_error_fits n l kind type h k =
      let fixed = each_word (codes "derive_more" ∷ codes "BinaryError" ∷ []) refl in
      in_err_fits n (omega (arith, l)) (call_of (codes "derive_more" ∷ codes "BinaryError" ∷ kind ∷ []) (new_error type o))
      (call_of_fits (n - 1) (omega (arith, l)) (codes "derive_more" ∷ codes "BinaryError" ∷ kind ∷ []) (new_error type o)
      (fixed.0, (fixed.1.0, (word_spellable kind h, tt))) (new_error_fits (n - 1 - 1) (omega (arith, l)) type k))

  binary_unit_fits : (n : ℕ) → 3 ≤ n → ExprFits n (binary_unit o)
  unfolding binary_unit
  binary_unit_fits n l = binary_error_fits n l (codes "Unit") (codes "UnitError") refl refl

  mismatch_fits : (n : ℕ) → 3 ≤ n → ExprFits n (mismatch o)
  unfolding mismatch
  mismatch_fits n l = binary_error_fits n l (codes "Mismatch") (codes "WrongVariantError") refl refl

  unary_unit_fits : (n : ℕ) → 2 ≤ n → ExprFits n (unary_unit o)
  unfolding unary_unit
  unary_unit_fits n l =
      in_err_fits n (omega (arith, l)) (new_error (codes "UnitError") o)
      (new_error_fits (n - 1) (omega (arith, l)) (codes "UnitError") refl)

-- ---- constructors

-- the parts from number i on
abbrev PartsFit : ℕ → (ℕ → MarkedField → ExprTree) → ℕ → List MarkedField → Type 0
PartsFit n part i [] = Unit {0}
PartsFit n part i (f ∷ fs) = ExprFits n (part i f) × PartsFit n part (i + 1) fs

all_parts : (n : ℕ) (part : ℕ → MarkedField → ExprTree) → ((i : ℕ) (f : MarkedField) → ExprFits n (part i f)) →
    (i : ℕ) (fs : List MarkedField) →
    PartsFit n part i fs
all_parts n part h i [] = tt
all_parts n part h i (f ∷ fs) = (h i f, all_parts n part h (i + 1) fs)

parts_fit : (n : ℕ) (part : ℕ → MarkedField → ExprTree) (i : ℕ) (fs : List MarkedField) → PartsFit n part i fs →
    ExprsFit n (exprs_of (parts part i fs))
parts_fit n part i [] h = tt
parts_fit n part i (f ∷ fs) h = (h.0, parts_fit n part (i + 1) fs h.1)

named_parts_fit : (n : ℕ) (part : ℕ → MarkedField → ExprTree) (i : ℕ) (fs : List MarkedField) → Each FieldSpellable fs →
    PartsFit n part i fs → NamedExprsFit n (named_exprs_of (named_parts part i fs))
named_parts_fit n part i [] k h = tt
named_parts_fit n part i (f ∷ fs) k h = (k.0, h.0, named_parts_fit n part (i + 1) fs k.1 h.1)

in_parens_fits : (n : ℕ) → 1 ≤ n → (p : PathTree) → Fits n (path_trees nowhere p) → (es : List ExprTree) → ExprsFit (n - 1) (exprs_of es) →
    ExprFits n (in_parens p es)
in_parens_fits n l p h [] k = (h, omega (arith, l), k)
in_parens_fits n l p h (e ∷ es) k = (h, omega (arith, l), k)

constructor_fits : (n : ℕ) → 1 ≤ n → (part : ℕ → MarkedField → ExprTree) (p : PathTree) → Fits n (path_trees nowhere p) →
    (form : Form) (fs : List MarkedField) → (form ≡ forms.Named → Each FieldSpellable fs) → PartsFit (n - 1) part 0 fs →
    ExprFits n (constructor part p form fs)
constructor_fits n l part p h forms.Named fs k e = (h, omega (arith, l), named_parts_fit (n - 1) part 0 fs (k refl) e)
constructor_fits n l part p h forms.Unnamed fs k e = in_parens_fits n l p h (parts part 0 fs) (parts_fit (n - 1) part 0 fs e)
constructor_fits n l part p h forms.Unit fs k e = h

-- ---- two operands

kept_spellable : (c : MarkedCase) → CaseSpellable c → CaseSpellable (whole c)
kept_spellable c h = record { ident = h.ident; named = λ e. each_map FieldSpellable keep c.fields (h.named e) }

bound_by : (b : Bool) (c : MarkedCase) → CaseSpellable c → CaseSpellable (cond b c (whole c))
bound_by true c h = h
bound_by false c h = kept_spellable c h

module _ (form : ops.Form) (o : Operator) (s : OperatorSpellable o) where
  right_fits : (f : ops.Form) (n i : ℕ) → ExprFits n (right_operand f i)
  right_fits ops.structural n i = name_expr_fits n (right_name i) (right_named i)
  right_fits ops.scalar n i = name_expr_fits n (codes "__rhs") (word_spellable (codes "__rhs") refl)
  right_fits ops.unary n i = name_expr_fits n (codes "__rhs") (word_spellable (codes "__rhs") refl)

  binary_call_fits : (n : ℕ) → 1 ≤ n → (i : ℕ) → ExprFits n (binary_call form o i)
  binary_call_fits n l i =
      operation_fits o s n l (name (self_name i) ∷ right_operand form i ∷ [])
      (name_expr_fits (n - 1) (self_name i) (self_named i), (right_fits form (n - 1) i, tt))

  binary_part_fits : (n : ℕ) → 1 ≤ n → (i : ℕ) (f : MarkedField) → ExprFits n (binary_part form o i f)
  binary_part_fits n l i f =
      expr_if n f.left_out (name (self_name i)) (binary_call form o i) (name_expr_fits n (self_name i) (self_named i))
      (binary_call_fits n l i)

  stmts_if : (n : ℕ) (b : Bool) (x y : List StmtTree) → StmtsFit n (stmts_of x) → StmtsFit n (stmts_of y) →
      StmtsFit n (stmts_of (cond b x y))
  stmts_if n true x y h k = h
  stmts_if n false x y h k = k

  assigning_fit : (n : ℕ) → 1 ≤ n → (i : ℕ) (fs : List MarkedField) → StmtsFit n (stmts_of (assigning_calls form o i fs))
  assigning_fit n l i [] = tt
  assigning_fit n l i (f ∷ fs) =
      let more = assigning_fit n l (i + 1) fs in
      stmts_if n f.left_out (assigning_calls form o (i + 1) fs) (do_stmt (binary_call form o i) ∷ assigning_calls form o (i + 1) fs) more
      (binary_call_fits n l i, more)

  value_fits : (n : ℕ) → 2 ≤ n → (d : Declaration) (c : MarkedCase) → CaseSpellable c → ExprFits n (value_given form o d c)
  value_fits n l d c h =
      constructor_fits n (omega (arith, l)) (binary_part form o) (case_path d c.ident)
      (case_path_fits n d c.ident h.ident) c.form c.fields h.named
      (all_parts (n - 1) (binary_part form o) (binary_part_fits (n - 1) (omega (arith, l))) 0 c.fields)

sides_fit : (form : ops.Form) (n : ℕ) → 2 ≤ n → (d : Declaration) (c : MarkedCase) → CaseSpellable c → PatternFits n (sides form d c)
sides_fit ops.structural n l d c h =
    let k : 1 ≤ n - 1 = omega (arith, l) in
    (omega (arith, l), side_fits self_name self_named (n - 1) k d c h, side_fits right_name right_named (n - 1) k d c h)
sides_fit ops.scalar n l d c h = side_fits self_name self_named n (omega (arith, l)) d c h
sides_fit ops.unary n l d c h = side_fits self_name self_named n (omega (arith, l)) d c h

answer_fits : (form : ops.Form) (o : Operator) → OperatorSpellable o → (n : ℕ) → 3 ≤ n → (d : Declaration) (c : MarkedCase) →
    CaseSpellable c → ExprFits n (answer_given form o d c)
answer_fits ops.structural o s n l d c h =
    expr_if n (is_unit_form c.form) (binary_unit o) (in_ok (is_enum d) (value_given ops.structural o d c)) (binary_unit_fits o s n l)
    (in_ok_fits n (omega (arith, l)) (is_enum d) (value_given ops.structural o d c)
    (λ m k. value_fits ops.structural o s m (omega (arith, l, k)) d c h))
answer_fits ops.scalar o s n l d c h = value_fits ops.scalar o s n (omega (arith, l)) d c h
answer_fits ops.unary o s n l d c h = value_fits ops.unary o s n (omega (arith, l)) d c h

module _ (form : ops.Form) (o : Operator) (s : OperatorSpellable o) (n : ℕ) (l : 3 ≤ n) where
  binary_arm_fits : (d : Declaration) (c : MarkedCase) → CaseSpellable c → ArmFits n (binary_arm form o d c)
  binary_arm_fits d c h =
      arm_fits n (sides form d (bound_in o c)) (binary_given form o d c)
      (sides_fit form n (omega (arith, l)) d (bound_in o c) (bound_by o.assigning c h))
      (body_if n o.assigning (block_body (bodies.calls_block form o c)) (expr_body (answer_given form o d c))
      (omega (arith, l), (assigning_fit form o s (n - 1) (omega (arith, l)) 0 c.fields, tt)) (answer_fits form o s n l d c h))

  different_fits : ArmFits n (different o)
  different_fits =
      arm_fits n wild (bodies.different_body o) tt
      (body_if n o.assigning (block_body (block no_stmts no_expr)) (expr_body (mismatch o)) (omega (arith, l), (tt, tt))
      (mismatch_fits o s n l))

  rest_fits : (cs : List MarkedCase) → Each (ArmFits n) (rest form o cs)
  rest_fits cs = each_if (ArmFits n) (has_rest form cs) (different o ∷ []) [] (different_fits, tt) tt

subject_fits : (form : ops.Form) (n : ℕ) → 1 ≤ n → ExprFits n (subject form)
subject_fits ops.structural n l =
    (omega (arith, l), (self_fits (n - 1), (name_expr_fits (n - 1) (codes "__rhs") (word_spellable (codes "__rhs") refl), tt)))
subject_fits ops.scalar n l = self_fits n
subject_fits ops.unary n l = self_fits n

match_fits : (n : ℕ) → 1 ≤ n → (e : ExprTree) (as' : List ArmTree) → ExprFits n e → Each (ArmFits (n - 1)) as' → ExprFits n (match_of e as')
match_fits n l e as' h k = (h, omega (arith, l), arms_fit (n - 1) as' k)

no_match_fits : (n : ℕ) → 1 ≤ n → ExprFits n bodies.no_match
no_match_fits n l = (self_fits n, omega (arith, l), tt)

binary_body_fits : (form : ops.Form) (o : Operator) → OperatorSpellable o → (n : ℕ) → 4 ≤ n → (d : Declaration) (cs : List MarkedCase) →
    Each CaseSpellable cs → ExprFits n (binary_body form o d cs)
binary_body_fits form o s n l d [] h = no_match_fits n (omega (arith, l))
binary_body_fits form o s n l d (c ∷ cs) h =
    let k : 3 ≤ n - 1 = omega (arith, l) in
    match_fits n (omega (arith, l)) (subject form) (map (binary_arm form o d) (c ∷ cs) ++ rest form o (c ∷ cs))
    (subject_fits form n (omega (arith, l)))
    (each_both (ArmFits (n - 1)) (map (binary_arm form o d) (c ∷ cs)) (rest form o (c ∷ cs))
    (each_map (ArmFits (n - 1)) (binary_arm form o d) (c ∷ cs) (each_by (binary_arm_fits form o s (n - 1) k d) (c ∷ cs) h))
    (rest_fits form o s (n - 1) k (c ∷ cs)))

-- ---- one operand

module _ (o : Operator) (s : OperatorSpellable o) (d : Declaration) (called : NameFits d.ident) where
  inner_part_fits : (n : ℕ) → 1 ≤ n → (i : ℕ) (f : MarkedField) → ExprFits n (inner_part o i f)
  inner_part_fits n l i f = operation_fits o s n l (name (inner_name i) ∷ []) (name_expr_fits (n - 1) (inner_name i) (inner_named i), tt)

  variant_path_fits : (n : ℕ) (i : Ident) → NameFits i → Fits n (path_trees nowhere (variant_path d i))
  variant_path_fits n i h = plain_fits n (d.ident ∷ i ∷ []) (called, (h, tt))

  inner_value_fits : (n : ℕ) → 2 ≤ n → (c : MarkedCase) → CaseSpellable c →
      ExprFits n (constructor (inner_part o) (variant_path d c.ident) c.form c.fields)
  inner_value_fits n l c h =
      constructor_fits n (omega (arith, l)) (inner_part o) (variant_path d c.ident)
      (variant_path_fits n c.ident h.ident) c.form c.fields h.named
      (all_parts (n - 1) (inner_part o) (inner_part_fits (n - 1) (omega (arith, l))) 0 c.fields)

  unary_arm_fits : (n : ℕ) → 4 ≤ n → (fails : Bool) (c : MarkedCase) → CaseSpellable c → ArmFits n (unary_arm o d fails c)
  unary_arm_fits n l fails c h =
      let value : ExprTree = constructor (inner_part o) (variant_path d c.ident) c.form c.fields in
      arm_fits n (side_pattern inner_name (variant_path d c.ident) c.form c.fields) (unary_given o d fails c)
      (side_pattern_fits inner_name inner_named n (omega (arith, l)) (variant_path d c.ident)
      (variant_path_fits n c.ident h.ident) c.form c.fields h.named)
      (body_if n (is_unit_form c.form) (expr_body (unary_unit o)) (block_body (last_expr (some_expr (in_ok fails value))))
      (unary_unit_fits o s n (omega (arith, l)))
      (omega (arith, l), (tt, in_ok_fits (n - 1) (omega (arith, l)) fails value (λ m k. inner_value_fits m (omega (arith, l, k)) c h))))

  unary_enum_fits : (n : ℕ) → 5 ≤ n → (cs : List MarkedCase) → Each CaseSpellable cs → ExprFits n (unary_enum o d cs)
  unary_enum_fits n l cs h =
      match_fits n (omega (arith, l)) (name (codes "self")) (map (unary_arm o d (some_unit_form cs)) cs) (self_fits n)
      (each_map (ArmFits (n - 1)) (unary_arm o d (some_unit_form cs)) cs
      (each_by (unary_arm_fits (n - 1) (omega (arith, l)) (some_unit_form cs)) cs h))

  -- ---- a struct: the members of self

  own_part_fits : (n : ℕ) → 1 ≤ n → (form : Form) (i : ℕ) (f : MarkedField) → fitting.MemberFits (member_of form i f) →
      ExprFits n (own_part o form i f)
  own_part_fits n l form i f h =
      operation_fits o s n l (member (name (codes "self")) (member_of form i f) ∷ []) ((self_fits (n - 1), h), tt)

  own_named : (n : ℕ) → 1 ≤ n → (i : ℕ) (fs : List MarkedField) → Each FieldSpellable fs → PartsFit n (own_part o forms.Named) i fs
  own_named n l i [] h = tt
  own_named n l i (f ∷ fs) h = (own_part_fits n l forms.Named i f h.0, own_named n l (i + 1) fs h.1)

  own_numbered : (n : ℕ) → 1 ≤ n → (i : ℕ) (fs : List MarkedField) → i + length fs ≤ 2 ^ 64 → PartsFit n (own_part o forms.Unnamed) i fs
  own_numbered n l i [] few = tt
  own_numbered n l i (f ∷ fs) few =
      (own_part_fits n l forms.Unnamed i f (numeral_spellable i (omega (arith, few))), own_numbered n l (i + 1) fs (omega (arith, few)))

  own_by : (n : ℕ) → 2 ≤ n → (form : Form) (fs : List MarkedField) → (form ≡ forms.Named → Each FieldSpellable fs) → length fs ≤ 2 ^ 64 →
      ExprFits n (constructor (own_part o form) (plain_path (d.ident ∷ [])) form fs)
  own_by n l forms.Named fs h few =
      constructor_fits n (omega (arith, l)) (own_part o forms.Named) (plain_path (d.ident ∷ []))
      (plain_fits n (d.ident ∷ []) (called, tt)) forms.Named fs h
      (own_named (n - 1) (omega (arith, l)) 0 fs (h refl))
  own_by n l forms.Unnamed fs h few =
      constructor_fits n (omega (arith, l)) (own_part o forms.Unnamed) (plain_path (d.ident ∷ []))
      (plain_fits n (d.ident ∷ []) (called, tt)) forms.Unnamed fs h
      (own_numbered (n - 1) (omega (arith, l)) 0 fs (omega (arith, few)))
  own_by n l forms.Unit fs h few = plain_fits n (d.ident ∷ []) (called, tt)

  unary_struct_fits : (n : ℕ) → 2 ≤ n → (cs : List MarkedCase) → Each CaseSpellable cs → Each HasFewFields cs →
      ExprFits n (unary_struct o d cs)
  unary_struct_fits n l [] h few = no_match_fits n (omega (arith, l))
  unary_struct_fits n l (c ∷ cs) h few = own_by n l c.form c.fields h.0.named few.0

  unary_by : (b : Bool) (n : ℕ) → 5 ≤ n → (cs : List MarkedCase) → Each CaseSpellable cs → (b ≡ false → Each HasFewFields cs) →
      ExprFits n (cond b (unary_enum o d cs) (unary_struct o d cs))
  unary_by true n l cs h few = unary_enum_fits n l cs h
  unary_by false n l cs h few = unary_struct_fits n (omega (arith, l)) cs h (few refl)

-- ---- the body of an operator's method

body_expr_fits : (form : ops.Form) (o : Operator) → OperatorSpellable o → (n : ℕ) → 5 ≤ n → (d : Declaration) → NameFits d.ident →
    (cs : List MarkedCase) → Each CaseSpellable cs → (form ≡ ops.unary → is_enum d ≡ false → Each HasFewFields cs) →
    ExprFits n (body_expr form o d cs)
body_expr_fits ops.structural o s n l d called cs h few = binary_body_fits ops.structural o s n (omega (arith, l)) d cs h
body_expr_fits ops.scalar o s n l d called cs h few = binary_body_fits ops.scalar o s n (omega (arith, l)) d cs h
body_expr_fits ops.unary o s n l d called cs h few = unary_by o s d called (is_enum d) n l cs h (few refl)

-- ---- the operators of the table

-- all names are ASCII words
abbrev HasWords : Operator → Type 0
HasWords o = (is_ascii_word o.trait_name ≡ true) × (is_ascii_word o.method ≡ true)

named_has : (P : Operator → Type 0) (os : List Operator) → Each P os → (x : Text) (o : Operator) → named_in os x ≡ Some o → P o
named_has P [] h x o e = absurd cc
named_has P (p ∷ os) h x o e =
    (elim (bytes_eq x p.trait_name) as (λ b. cond b (Some p) (named_in os x) ≡ Some o → P o) [
      | true ↦ λ k. let same : p ≡ o = cc in subst P same h.0
      | false ↦ λ k. named_has P os h.1 x o k
    ]) e

abbrev are_words_of : List Operator → Bool
are_words_of [] = true
are_words_of (o ∷ os) = (is_ascii_word o.trait_name && is_ascii_word o.method) && are_words_of os

each_has : (os : List Operator) → are_words_of os ≡ true → Each HasWords os
each_has [] h = tt
each_has (o ∷ os) h =
    let both = and_parts (is_ascii_word o.trait_name && is_ascii_word o.method) (are_words_of os) h in
    (and_parts (is_ascii_word o.trait_name) (is_ascii_word o.method) both.0, each_has os both.1)

pub operator_spellable : (o : Operator) → IsOperator o → OperatorSpellable o
operator_spellable o is =
    let h = named_has HasWords operators (each_has operators refl) is.name o is.found in
    record {
      trait_name = word_spellable o.trait_name h.0;
      method = word_spellable o.method h.1;
      string = quoted_spellable o.method h.1;
    }

-- so nothing is asked of an operator of the table
pub table_body_fits : (n : ℕ) → 5 ≤ n → (form : ops.Form) (o : Operator) → IsOperator o → (d : Declaration) (cs : List MarkedCase) →
    NameFits d.ident → (form ≡ ops.unary → is_enum d ≡ false → Each HasFewFields cs) → Each CaseSpellable cs →
    BlockFits n (last_expr (some_expr (body_expr form o d cs)))
table_body_fits n l form o is d cs called few h = (tt, body_expr_fits form o (operator_spellable o is) n l d called cs h few)

-- the fields of a declaration that has few of them
each_got : {A : Type 0} (P : A → Type 0) (xs : List A) → ((n : ℕ) (x : A) → slice_get xs n ≡ Some x → P x) → Each P xs
each_got P [] h = tt
each_got P (x ∷ xs) h = (h 0 x refl, each_got P xs (λ n y e. h (suc n) y e))

few_fields : (leaves_out : List Attribute → Bool) (b : Bool) (fs : List FieldTree) → length fs ≤ 2 ^ 64 →
    length (cond b [] (map (mark_field leaves_out) fs)) ≤ 2 ^ 64
few_fields leaves_out true fs h = omega arith
few_fields leaves_out false fs h = rw (length-map fs (mark_field leaves_out)) h

few_marked : (o : Operator) (d : Declaration) → AreFew o d → o.form ≡ ops.unary → is_enum d ≡ false → (leaves_out : List Attribute → Bool) →
    Each HasFewFields (marked leaves_out d)
few_marked o d few one is leaves_out =
    each_map HasFewFields (mark_case leaves_out) (cases d)
    (each_got (λ (c : Case). HasFewFields (mark_case leaves_out c)) (cases d)
    (λ n c e. few_fields leaves_out (leaves_out c.attrs) (field_list c.fields) (few one is n c e)))

unary_form : (f : ops.Form) (b : Bool) → form_by f b ≡ ops.unary → f ≡ ops.unary
unary_form ops.structural b e = absurd cc
unary_form ops.scalar true e = absurd cc
unary_form ops.scalar false e = absurd cc
unary_form ops.unary b e = refl

-- the body that is emitted for a declaration
pub method_body_fits : (n : ℕ) → 5 ≤ n → (o : Operator) → IsOperator o → (d : Declaration) → NameFits d.ident → AreFew o d →
    Each CaseSpellable (cases_for o d) → BlockFits n (method_of o d).body
method_body_fits n l o is d called few h =
    table_body_fits n l (form_in o d) o is d (cases_for o d) called
    (λ e k. few_marked o d few (unary_form o.form (forwards o d.attrs) e) k (skips o)) h

-- ---- comparisons, by what their tests and their joins are

abbrev TestsFit : (ExprTree → ExprTree → ExprTree) → Type 0
TestsFit test = (n : ℕ) (a b : ExprTree) → ExprFits n a → ExprFits n b → ExprFits n (test a b)

abbrev JoinsFit : (ExprTrees → ExprTree) → Type 0
JoinsFit join = (n : ℕ) (es : ExprTrees) → ExprsFit n es → ExprFits n (join es)

exprs_if : (n : ℕ) (b : Bool) (xs ys : List ExprTree) → ExprsFit n (exprs_of xs) → ExprsFit n (exprs_of ys) →
    ExprsFit n (exprs_of (cond b xs ys))
exprs_if n true xs ys h k = h
exprs_if n false xs ys h k = k

other_fits : (n : ℕ) → ExprFits n (name (codes "__other"))
other_fits n = name_expr_fits n (codes "__other") (word_spellable (codes "__other") refl)

discriminant_fits : (n : ℕ) → 1 ≤ n → (x : Text) → NameFits (word x) → ExprFits n (emitted.discriminant_call x)
discriminant_fits n l x h =
    call_of_fits n l discriminant_names (name x) (each_word discriminant_names refl) (name_expr_fits (n - 1) x h)

otherwise_fits : (n : ℕ) (e : ExprTree) → ExprFits n e → ArmFits n (operands.otherwise e)
otherwise_fits n e h = ((tt, tt), tt, h)

unreachable_fits : (n : ℕ) → 2 ≤ n → ExprFits n (unsafe_expr operands.unreachable_call)
unreachable_fits n l =
    let names : List Text = codes "derive_more" ∷ codes "core" ∷ codes "hint" ∷ codes "unreachable_unchecked" ∷ [] in
    (omega (arith, l), (names_fit (n - 1) names (each_word names refl), omega (arith, l), tt))

both_fit : (n : ℕ) → 1 ≤ n → ExprFits n emitted.both
both_fit n l = (omega (arith, l), (self_fits (n - 1), (other_fits (n - 1), tt)))

-- an arm for each case that has one, whatever it gives
pair_arms_fit : (n : ℕ) → 2 ≤ n → (a : PairArms) → ((i : ℕ) → NameFits (word (a.left i))) → ((i : ℕ) → NameFits (word (a.right i))) →
    ((c : MarkedCase) → ExprFits (n - 1) (a.gives c)) → (d : Declaration) (cs : List MarkedCase) → Each CaseSpellable cs →
    (more : List ArmTree) → Each (ArmFits n) more → Each (ArmFits n) (pair_arms a d cs more)
pair_arms_fit n l a left right gives d [] h more k = k
pair_arms_fit n l a left right gives d (c ∷ cs) h more k =
    let others = pair_arms_fit n l a left right gives d cs h.1 more k in
    each_if (ArmFits n) (a.has c) (pair_arm a d c ∷ pair_arms a d cs more) (pair_arms a d cs more) (here, others) others
  where
    here : ArmFits n (pair_arm a d c)
    here =
        let k : 1 ≤ n - 1 = omega (arith, l) in (
          ((omega (arith, l), side_fits a.left left (n - 1) k d c h.0, side_fits a.right right (n - 1) k d c h.0), tt),
          tt,
          (omega (arith, l), (tt, gives c)),
        )

module _ (c : _) (tests : TestsFit (emitted.test_of c)) (joins : JoinsFit (emitted.join_of c)) where
  tests_fit : (n i : ℕ) (fs : List MarkedField) → ExprsFit n (exprs_of (emitted.tests c i fs))
  tests_fit n i [] = tt
  tests_fit n i (f ∷ fs) =
      let more = tests_fit n (i + 1) fs in
      let here : ExprFits n (emitted.test c i) =
      tests n (name (self_name i)) (name (other_name i)) (name_expr_fits n (self_name i) (self_named i))
      (name_expr_fits n (other_name i) (other_named i)) in
      exprs_if n f.left_out (emitted.tests c (i + 1) fs) (emitted.test c i ∷ emitted.tests c (i + 1) fs) more (here, more)

  chain_fits : (n : ℕ) (es : List ExprTree) → ExprsFit n (exprs_of es) → ExprFits n (emitted.chain c es)
  chain_fits n [] h = tt
  chain_fits n (e ∷ []) h = h.0
  chain_fits n (e ∷ f ∷ es) h = joins n (exprs_of (e ∷ f ∷ es)) h

  last_arms_fit : (n : ℕ) → 2 ≤ n → (vs : List MarkedCase) → Each (ArmFits n) (emitted.rest c vs)
  last_arms_fit n l vs =
      let unreachable : List ArmTree = operands.otherwise (unsafe_expr operands.unreachable_call) ∷ [] in
      each_if (ArmFits n) (all_compared vs) (cond (nat_lt 1 (length vs)) unreachable [])
      (operands.otherwise (bool (emitted.neutral_of c)) ∷ [])
      (each_if (ArmFits n) (nat_lt 1 (length vs)) unreachable []
      (otherwise_fits n (unsafe_expr operands.unreachable_call) (unreachable_fits n l), tt) tt)
      (otherwise_fits n (bool (emitted.neutral_of c)) tt, tt)

  matching_fits : (n : ℕ) → 3 ≤ n → (d : Declaration) (vs : List MarkedCase) → Each CaseSpellable vs → ExprFits n (emitted.matching c d vs)
  matching_fits n l d vs h = (
    both_fit n (omega (arith, l)),
    omega (arith, l),
    arms_fit (n - 1) (emitted.arms c d vs (emitted.rest c vs))
        (pair_arms_fit (n - 1) (omega (arith, l)) (emitted.compared_arms c) self_named other_named
        (λ v. chain_fits (n - 1 - 1) (emitted.tests c 0 v.fields) (tests_fit (n - 1 - 1) 0 v.fields)) d vs h (emitted.rest c vs)
        (last_arms_fit (n - 1) (omega (arith, l)) vs)),
  )

  discriminants_fit : (n : ℕ) → 1 ≤ n → ExprFits n (emitted.discriminants c)
  discriminants_fit n l =
      tests n (emitted.discriminant_call (codes "self")) (emitted.discriminant_call (codes "__other"))
      (discriminant_fits n l (codes "self") (word_spellable (codes "self") refl))
      (discriminant_fits n l (codes "__other") (word_spellable (codes "__other") refl))

  comparing_parts_fit : (n : ℕ) → 3 ≤ n → (d : Declaration) (vs : List MarkedCase) → Each CaseSpellable vs →
      ExprsFit n (exprs_of (emitted.parts c d vs))
  comparing_parts_fit n l d vs h =
      let last : ExprsFit n (exprs_of (emitted.match_part c d vs)) =
      exprs_if n (some_compared vs) (emitted.matching c d vs ∷ []) [] (matching_fits n l d vs h, tt) tt in
      exprs_if n (emitted.needs_discriminants d vs) (emitted.discriminants c ∷ emitted.match_part c d vs) (emitted.match_part c d vs)
      (discriminants_fit n (omega (arith, l)), last) last

  pub comparison_body_fits : (n : ℕ) → 3 ≤ n → (d : Declaration) (vs : List MarkedCase) → Each CaseSpellable vs →
      BlockFits n (emitted.body c d vs)
  comparison_body_fits n l d vs h = (
    tt,
    expr_if n (eqb (length vs) 0) operands.no_match (emitted.chain c (emitted.parts c d vs)) (self_fits n, omega (arith, l), tt)
        (chain_fits n (emitted.parts c d vs) (comparing_parts_fit n l d vs h)),
  )

-- ---- the methods

equal_tests : TestsFit equal
equal_tests n a b h k = (h, k)

unequal_tests : TestsFit unequal
unequal_tests n a b h k = (h, k)

and_joins : JoinsFit and_expr
and_joins n es h = h

or_joins : JoinsFit or_expr
or_joins n es h = h

abbrev pub HasBody : ℕ → MethodTree → Type 0
HasBody n m = BlockFits n m.body

one_or_two : (P : MethodTree → Type 0) (two : Bool) (m k : MethodTree) → P m → P k → Each P (cond two (m ∷ k ∷ []) (m ∷ []))
one_or_two P true m k h i = (h, (i, tt))
one_or_two P false m k h i = (h, tt)

-- the body of `eq`, and that of `ne` where it is emitted
pub comparison_bodies_fit : (n : ℕ) → 3 ≤ n → (d : Declaration) (vs : List MarkedCase) → Each CaseSpellable vs →
    Each (HasBody n) (emitted.methods d vs)
comparison_bodies_fit n l d vs h =
    one_or_two (HasBody n) (some_compared vs) _ _ (search (comparison_body_fits, equal_tests, and_joins, l, h))
    (search (comparison_body_fits, unequal_tests, or_joins, l, h))
