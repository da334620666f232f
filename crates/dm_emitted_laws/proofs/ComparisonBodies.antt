-- The bodies of `eq` and `ne`, without ranges, are blocks of the grammar.
use Rattle.std.proofs.Common.{ℕ, ◌+◌, length, nat_lt, Bool, true, false, cond, List, [], ◌∷◌, IsTrue, codes, refl}
use Rattle.std.specs.Prelude.{T, eqb}
use Rattle.dm_ast.specs.Keywords.{is_keyword}
use Rattle.dm_ast.specs.TypeGrammar.{is_path_word}
use Rattle.dm_ast.specs.Declarations.{Declaration}
use Rattle.dm_ast.specs.Implementors.{plain_path}
use Rattle.dm_output.specs.Output.{ExprTree, return_expr, or_expr, and_expr, equal, unequal, bool, unsafe_expr, ExprTrees, exprs_of, ArmTree, arms_of, MethodTree}
use Rattle.dm_output.specs.Values.{Text}
use Rattle.dm_output.specs.Calls.{discriminant_names, unreachable_names}
use Rattle.dm_generics.specs.Words.{word, words}
use Rattle.dm_type_eq.specs.Unplaced.{unplaced_path}
use Rattle.dm_reread.specs.Bare.{bare_patterns, bare_expr, bare_exprs, bare_maybe, bare_arms, bare_body, bare_block}
use Rattle.dm_reread.specs.Grammar as grammar
use Rattle.dm_reread.specs.Grammar.{at_and, at_cmp, at_pre, Fits, IsPlainPath, is_some_pattern, ArePatterns, IsExpr, IsMaybe, AreArms, IsBody, IsBlock}
use Rattle.dm_reread.specs.ReadBack.{leaf_grammar}
use Rattle.dm_reread.proofs.Words.{name-path}
use Rattle.dm_operands.specs.Marked.{MarkedField, MarkedCase}
use Rattle.dm_operands.specs.Numbered.{self_name, other_name}
use Rattle.dm_operands.specs.Bodies.{name, no_match, unreachable_call, otherwise}
use Rattle.dm_operands.specs.Kept.{is_compared, some_compared, all_compared}
use Rattle.dm_operands.specs.Sides.{pair_arm}
use Rattle.dm_partial_eq.specs.Emitted.{test_of, join_of, neutral_of, test, tests, chain, compared_arms, arms, rest, both, matching, discriminant_call, discriminants, needs_discriminants, match_part, parts, body}
use Rattle.dm_head_laws.specs.Parts.{Each}
use Rattle.dm_head_laws.proofs.DeclaredParts.{each_if}
use Rattle.dm_emitted_laws.specs.Ready.{CaseReady}
use Rattle.dm_emitted_laws.proofs.OperandPatterns.{self_names, other_names, self_word, side_is_pattern}

-- an expression, without ranges, of the grammar
abbrev IsValue : Bool → ExprTree → Type 0
IsValue b e = IsExpr leaf_grammar b (bare_expr e)

-- ---- the words and paths that no declaration gives

other_word : IsTrue (is_path_word (word (codes "__other")))
unfolding is_keyword
other_word = refl

discriminant_path : IsPlainPath (unplaced_path (plain_path (words discriminant_names)))
unfolding is_keyword
discriminant_path = (tt, (refl, (refl, (refl, (refl, tt)))))

unreachable_path : IsPlainPath (unplaced_path (plain_path (words unreachable_names)))
unfolding is_keyword
unreachable_path = (tt, (refl, (refl, (refl, (refl, tt)))))

name_value : (b : Bool) (x : Text) → IsTrue (is_path_word (word x)) → IsValue b (name x)
name_value b x h = (tt, (h, tt))

unreachable_value : IsValue true unreachable_call
unreachable_value = (unreachable_path, tt)

no_match_value : IsValue true no_match
no_match_value = ((name_value false (codes "self") self_word, tt), tt)

both_value : IsValue false both
both_value = (tt, ((name_value true (codes "self") self_word, tt), ((name_value true (codes "__other") other_word, tt), tt)))

-- ---- tests, and parts that are joined

-- what may stand at a side of a test
abbrev IsOperand : ExprTree → Type 0
IsOperand e = IsValue true e × Fits at_pre (bare_expr e)

name_operand : (x : Text) → IsTrue (is_path_word (word x)) → IsOperand (name x)
name_operand x h = (name_value true x h, tt)

discriminant_operand : (x : Text) → IsTrue (is_path_word (word x)) → IsOperand (discriminant_call x)
discriminant_operand x h = ((discriminant_path, ((name_value true x h, tt), tt)), tt)

-- what may be joined by `&&`, and then by `||` as well
abbrev IsPart : ExprTree → Type 0
IsPart e = IsValue true e × Fits at_cmp (bare_expr e)

-- tests of operands are parts
abbrev TestsAreParts : (ExprTree → ExprTree → ExprTree) → Type 0
TestsAreParts test = (a b : ExprTree) → IsOperand a → IsOperand b → IsPart (test a b)

pub equal_parts : TestsAreParts equal
equal_parts a b h k = ((h, k), tt)

pub unequal_parts : TestsAreParts unequal
unequal_parts a b h k = ((h, k), tt)

and_each : (es : List ExprTree) → Each IsPart es → grammar.Each leaf_grammar at_cmp true (bare_exprs (exprs_of es))
and_each [] h = tt
and_each (e ∷ es) h = (h.0, and_each es h.1)

or_fits : (e : ExprTree) → Fits at_cmp e → Fits at_and e
or_fits (or_expr es) h = absurd h
or_fits (return_expr a) h = absurd h
or_fits e h = tt

or_each : (es : List ExprTree) → Each IsPart es → grammar.Each leaf_grammar at_and true (bare_exprs (exprs_of es))
or_each [] h = tt
or_each (e ∷ es) h = ((h.0.0, or_fits (bare_expr e) h.0.1), or_each es h.1)

-- two or more of them are joined to an expression
abbrev JoinsParts : (ExprTrees → ExprTree) → Type 0
JoinsParts join = (e f : ExprTree) (es : List ExprTree) → Each IsPart (e ∷ f ∷ es) → IsValue true (join (exprs_of (e ∷ f ∷ es)))

pub and_joins : JoinsParts and_expr
and_joins e f es h = (tt, and_each (e ∷ f ∷ es) h)

pub or_joins : JoinsParts or_expr
or_joins e f es h = (tt, or_each (e ∷ f ∷ es) h)

-- ---- arms

abbrev IsArm : ArmTree → Type 0
IsArm a =
    (T (is_some_pattern (bare_patterns a.patterns)) × ArePatterns (bare_patterns a.patterns)) ×
    (IsMaybe leaf_grammar (bare_maybe a.guard) × IsBody leaf_grammar (bare_body a.body))

arms_are : (as' : List ArmTree) → Each IsArm as' → AreArms leaf_grammar (bare_arms (arms_of as'))
arms_are [] h = tt
arms_are (a ∷ as') h = (h.0, arms_are as' h.1)

otherwise_arm : (e : ExprTree) → IsValue true e → IsArm (otherwise e)
otherwise_arm e h = ((tt, (tt, tt)), (tt, h))

last_arms : (all several neutral : Bool) →
    Each IsArm (cond all (cond several (otherwise (unsafe_expr unreachable_call) ∷ []) []) (otherwise (bool neutral) ∷ []))
last_arms true true neutral = (otherwise_arm (unsafe_expr unreachable_call) unreachable_value, tt)
last_arms true false neutral = tt
last_arms false several neutral = (otherwise_arm (bool neutral) tt, tt)

-- ---- bodies, of either way of comparing, whose type only dm_partial_eq can name: its tests are parts, and it joins parts

module _ (c : _) (tested : TestsAreParts (test_of c)) (joined : JoinsParts (join_of c)) where
  -- no part, one alone, or several
  chain_value : (es : List ExprTree) → Each IsPart es → IsValue true (chain c es)
  chain_value [] h = tt
  chain_value (e ∷ []) h = h.0.0
  chain_value (e ∷ f ∷ es) h = joined e f es h

  test_part : (n : ℕ) → IsPart (test c n)
  test_part n =
      tested (name (self_name n)) (name (other_name n)) (name_operand (self_name n) (name-path (word (self_name n)) (self_names n)))
      (name_operand (other_name n) (name-path (word (other_name n)) (other_names n)))

  tests_if : (skip : Bool) (e : ExprTree) (es : List ExprTree) → IsPart e → Each IsPart es → Each IsPart (cond skip es (e ∷ es))
  tests_if true e es h k = k
  tests_if false e es h k = (h, k)

  tests_parts : (n : ℕ) (fs : List MarkedField) → Each IsPart (tests c n fs)
  tests_parts n [] = tt
  tests_parts n (f ∷ fs) = tests_if f.left_out (test c n) (tests c (n + 1) fs) (test_part n) (tests_parts (n + 1) fs)

  compared_arm : (d : Declaration) (v : MarkedCase) → CaseReady v → IsArm (pair_arm (compared_arms c) d v)
  compared_arm d v h = (
    (tt, ((side_is_pattern self_name self_names d v h, side_is_pattern other_name other_names d v h), tt)),
    (tt, (tt, chain_value (tests c 0 v.fields) (tests_parts 0 v.fields))),
  )

  each_arm : (d : Declaration) (vs : List MarkedCase) → Each CaseReady vs → (more : List ArmTree) → Each IsArm more →
      Each IsArm (arms c d vs more)
  each_arm d [] h more k = k
  each_arm d (v ∷ vs) h more k =
      each_if IsArm (is_compared v) (pair_arm (compared_arms c) d v) (arms c d vs more) (compared_arm d v h.0) (each_arm d vs h.1 more k)

  rest_arms : (vs : List MarkedCase) → Each IsArm (rest c vs)
  rest_arms vs = last_arms (all_compared vs) (nat_lt 1 (length vs)) (neutral_of c)

  matching_value : (d : Declaration) (vs : List MarkedCase) → Each CaseReady vs → IsValue true (matching c d vs)
  matching_value d vs h = (both_value, arms_are (arms c d vs (rest c vs)) (each_arm d vs h (rest c vs) (rest_arms vs)))

  discriminants_part : IsPart (discriminants c)
  discriminants_part =
      tested (discriminant_call (codes "self")) (discriminant_call (codes "__other")) (discriminant_operand (codes "self") self_word)
      (discriminant_operand (codes "__other") other_word)

  each_part : (d : Declaration) (vs : List MarkedCase) → Each CaseReady vs → Each IsPart (parts c d vs)
  each_part d vs h =
      each_if IsPart (needs_discriminants d vs) (discriminants c) (match_part c d vs) discriminants_part
      (each_if IsPart (some_compared vs) (matching c d vs) [] (matching_value d vs h, tt) tt)

  value_if : (none : Bool) (e : ExprTree) → IsValue true e → IsValue true (cond none no_match e)
  value_if true e h = no_match_value
  value_if false e h = h

  -- a body of such cases
  pub body_block : (d : Declaration) (vs : List MarkedCase) → Each CaseReady vs → IsBlock leaf_grammar (bare_block (body c d vs))
  body_block d vs h = (tt, value_if (eqb (length vs) 0) (chain c (parts c d vs)) (chain_value (parts c d vs) (each_part d vs h)))

-- ---- the methods

-- whatever holds of `eq` and of `ne` holds of each method that is emitted
pub each_method : (P : MethodTree → Type 0) (two : Bool) (m n : MethodTree) → P m → P n → Each P (cond two (m ∷ n ∷ []) (m ∷ []))
each_method P true m n h k = (h, (k, tt))
each_method P false m n h k = (h, tt)

abbrev pub HasBlock : MethodTree → Type 0
HasBlock m = IsBlock leaf_grammar (bare_block m.body)
