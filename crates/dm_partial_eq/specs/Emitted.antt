-- The bodies that are emitted for `eq` and `ne`: one form, with the test, the join and the neutral truth of each.
use Rattle.std.specs.Prelude.{ℕ, ◌+◌, List, [], ◌∷◌, ◌++◌, length, Bool, true, false, not, cond, ◌&&◌, ◌||◌, eqb, nat_lt, Some, codes}
use Rattle.dm_ast.specs.Tree.{no_self}
use Rattle.dm_ast.specs.Declarations.{PredicateTree, Declaration}
use Rattle.dm_ast.specs.Implementors.{plain_path, name_type, params_of, predicates_of, implementor}
use Rattle.dm_output.specs.Output.{ExprTree, or_expr, and_expr, equal, unequal, call, tuple, bool, match_expr, unsafe_expr, ExprTrees, no_exprs, expr_then, exprs_of, some_expr, ArmTree, arms_of, BlockTree, last_expr, MethodTree, ItemTree}
use Rattle.dm_output.specs.Values.{Text, is_enum}
use Rattle.dm_output.specs.Calls.{discriminant_names}
use Rattle.dm_partial_eq.specs.declared.comparing.Comparing.{Comparing}
use Rattle.dm_partial_eq.specs.declared.comparing.Comparing.TheVariants.{Equal, Unequal}
use Rattle.dm_operands.specs.Numbered.{self_name, other_name}
use Rattle.dm_attr.specs.Skips.{is_skipped}
use Rattle.dm_generics.specs.Words.{word, words, ref_self}
use Rattle.dm_operands.specs.Bodies.{name, no_match, unreachable_call, otherwise}
use Rattle.dm_operands.specs.Marked.{MarkedField, MarkedCase, marked}
use Rattle.dm_operands.specs.Kept.{is_compared, some_compared, all_compared, some_case_left_out}
use Rattle.dm_bounds.specs.Needed.{needed_in}
use Rattle.dm_partial_eq.specs.Heads.{partial_eq_path}
use Rattle.dm_operands.specs.Sides.{PairArms, pair_arm, pair_arms}
use Rattle.dm_output.specs.declared.item.ItemAttr.TheVariants.{AllowPrivateBounds, AutomaticallyDerived, Inline}
use Rattle.dm_output.specs.declared.item.Receiver.TheVariants.{Ref}

-- ---- `eq` and `ne`

abbrev pub test_of : Comparing → ExprTree → ExprTree → ExprTree
test_of Equal a b = equal a b
test_of Unequal a b = unequal a b

abbrev pub join_of : Comparing → ExprTrees → ExprTree
join_of Equal es = and_expr es
join_of Unequal es = or_expr es

abbrev pub neutral_of : Comparing → Bool
neutral_of Equal = true
neutral_of Unequal = false

-- what the method gives where its operands compare so
abbrev pub says : Comparing → Bool → Bool
says Equal b = b
says Unequal b = not b

-- ---- one arm for each case that is compared

abbrev pub test : Comparing → ℕ → ExprTree
test c n = test_of c (name (self_name n)) (name (other_name n))

abbrev pub tests : Comparing → ℕ → List MarkedField → List ExprTree
tests c n [] = []
tests c n (f ∷ fs) = cond f.left_out (tests c (n + 1) fs) (test c n ∷ tests c (n + 1) fs)

-- a chain holds two parts or more
abbrev pub chain : Comparing → List ExprTree → ExprTree
chain c [] = bool (neutral_of c)
chain c (e ∷ []) = e
chain c (e ∷ f ∷ es) = join_of c (exprs_of (e ∷ f ∷ es))

abbrev pub compared_arms : Comparing → PairArms
compared_arms c = record { left = self_name; right = other_name; has = is_compared; gives = λ v. chain c (tests c 0 v.fields) }

abbrev pub arm : Comparing → Declaration → MarkedCase → ArmTree
arm c d v = pair_arm (compared_arms c) d v

abbrev pub arms : Comparing → Declaration → List MarkedCase → List ArmTree → List ArmTree
arms c d vs more = pair_arms (compared_arms c) d vs more

-- ---- the last arm

-- the neutral truth where some case has no arm; unreachable where every case has one and there are several
abbrev pub rest : Comparing → List MarkedCase → List ArmTree
rest c vs = cond (all_compared vs) (cond (nat_lt 1 (length vs)) (otherwise (unsafe_expr unreachable_call) ∷ []) []) (otherwise (bool (neutral_of c)) ∷ [])

-- ---- the body

abbrev pub both : ExprTree
both = tuple (expr_then (name (codes "self")) (expr_then (name (codes "__other")) no_exprs))

abbrev pub matching : Comparing → Declaration → List MarkedCase → ExprTree
matching c d vs = match_expr both (arms_of (arms c d vs (rest c vs)))

abbrev pub discriminant_call : Text → ExprTree
discriminant_call x = call no_self (plain_path (words discriminant_names)) (expr_then (name x) no_exprs)

abbrev pub discriminants : Comparing → ExprTree
discriminants c = test_of c (discriminant_call (codes "self")) (discriminant_call (codes "__other"))

-- an enum with a case that is left out or with several
abbrev pub needs_discriminants : Declaration → List MarkedCase → Bool
needs_discriminants d vs = is_enum d && (some_case_left_out vs || nat_lt 1 (length vs))

abbrev pub match_part : Comparing → Declaration → List MarkedCase → List ExprTree
match_part c d vs = cond (some_compared vs) (matching c d vs ∷ []) []

abbrev pub with_discriminants : Comparing → Bool → List ExprTree → List ExprTree
with_discriminants c b es = cond b (discriminants c ∷ es) es

abbrev pub parts : Comparing → Declaration → List MarkedCase → List ExprTree
parts c d vs = with_discriminants c (needs_discriminants d vs) (match_part c d vs)

-- `match *self {}` for an enum without variants
abbrev pub body_expr : Comparing → Declaration → List MarkedCase → ExprTree
body_expr c d vs = cond (eqb (length vs) 0) no_match (chain c (parts c d vs))

abbrev pub body : Comparing → Declaration → List MarkedCase → BlockTree
body c d vs = last_expr (some_expr (body_expr c d vs))

-- ---- the implementation

abbrev pub method_name : Comparing → Text
method_name Equal = codes "eq"
method_name Unequal = codes "ne"

-- #[inline] fn NAME(&self, __other: &Self) -> bool { BODY }
abbrev pub method_with : Comparing → BlockTree → MethodTree
method_with c b =
    record {
      attrs = Inline ∷ [];
      is_const = false;
      name = word (method_name c);
      receiver = Some Ref;
      param = Some (record { name = word (codes "__other"); ty = ref_self });
      output = Some (name_type (word (codes "bool")));
      body = b;
    }

-- `eq` or `ne` with its body
abbrev pub method : Comparing → Declaration → List MarkedCase → MethodTree
method c d vs = method_with c (body c d vs)

-- `ne` too exactly where some case is compared
abbrev pub methods : Declaration → List MarkedCase → List MethodTree
methods d vs = cond (some_compared vs) (method Equal d vs ∷ method Unequal d vs ∷ []) (method Equal d vs ∷ [])

-- the declared predicates, and behind them those that the kept fields need
abbrev pub predicates_for : Declaration → List MarkedCase → List PredicateTree
predicates_for d vs = predicates_of d ++ needed_in partial_eq_path d vs

abbrev pub with_methods : Declaration → List MarkedCase → List MethodTree → ItemTree
with_methods d vs ms =
    record {
      attrs = AllowPrivateBounds ∷ AutomaticallyDerived ∷ [];
      params = params_of d;
      trait_path = Some partial_eq_path;
      ty = implementor d;
      predicates = predicates_for d vs;
      assocs = [];
      methods = ms;
    }

-- the implementation for these cases
abbrev pub item_for : Declaration → List MarkedCase → ItemTree
item_for d vs = with_methods d vs (methods d vs)

-- the implementation of `PartialEq` for a declaration
abbrev pub item : Declaration → ItemTree
item d = item_for d (marked is_skipped d)
