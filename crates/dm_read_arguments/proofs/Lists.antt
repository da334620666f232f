-- The plain reader's lists are turns: arguments and fields.
use Rattle.std.proofs.Common.{◌≡◌, ℕ, zero, suc, Bool, true, false, List, Option, Some, option_map, refl}
use Rattle.dm_stream.specs.declared.tokens.Ident.{Ident}
use Rattle.dm_stream.specs.Trees.{Trees, no_trees}
use Rattle.dm_ast.specs.Keywords.{is_name}
use Rattle.dm_output.specs.Output.{ExprTree, ExprTrees, expr_then, exprs_of, NamedExprs, named_expr_then, named_exprs_of}
use Rattle.dm_reread.specs.Next.{Next, ended, comma, colon, a_name, next}
use Rattle.dm_reread.specs.Leaves.{Answer}
use Rattle.dm_reread.specs.Reading.{then, provided, comma_after, colon_after, readers, read_args, more_args, named_value, read_named_exprs}
use Rattle.dm_read_places.specs.declared.list.Turn.{Turn}
use Rattle.dm_read_places.specs.declared.list.Turn.TheVariants.{One}
use Rattle.dm_read_places.specs.Repeating.{repeat}
use Rattle.dm_read_places.specs.Turns.{rows}
use Rattle.dm_read_places.proofs.Lists.{Behind, one_on, part_on}
use Rattle.dm_read_places.proofs.Thens.{then_on}
use Rattle.dm_read_arguments.specs.Turns.{arg_behind, arg_turn_at, arg_turn, value_behind, field_turn_at, field_turn}

-- ---- arguments

abbrev args : (List ExprTree × Bool) × Trees → ExprTrees × Bool
args v = (exprs_of v.0.0, v.0.1)

module _ (n : ℕ) (more : (ts : Trees) → (rows n).args ts ≡ option_map args (repeat arg_turn n ts)) where
  arg_on : (o : Answer ExprTree) →
      then o (λ a. then ((rows n).args a.1) (λ s. Some (expr_then a.0 s.0, s.1))) ≡ Behind args arg_turn n (then o (λ a. Some (One a.0, a.1)))
  arg_on o = part_on arg_turn n more (λ x s. (expr_then x s.0, s.1)) (λ x s. refl) o

  arg_behind_on : (us : Trees) → read_args (rows n) true us ≡ Behind args arg_turn n (arg_behind n us)
  arg_behind_on no_trees = refl
  arg_behind_on us = arg_on ((rows n).expr true us)

  args_on : (ts : Trees) (m : Next) → next ts ≡ m → more_args (rows n) m ≡ Behind args arg_turn n (arg_turn_at n ts m)
  args_on ts ended e = refl
  args_on ts (comma us) e = arg_behind_on us
  args_on ts _ e = refl

pub args_are : (n : ℕ) (ts : Trees) → (rows n).args ts ≡ option_map (λ v. (exprs_of v.0.0, v.0.1)) (repeat arg_turn n ts)
unfolding readers
args_are zero ts = refl
args_are (suc n) ts = args_on n (args_are n) ts (next ts) refl

-- ---- fields with values

abbrev fields : (List (Ident × ExprTree) × Unit {0}) × Trees → NamedExprs
fields v = named_exprs_of v.0.0

abbrev FieldTurn : Type 0
FieldTurn = Turn (Ident × ExprTree) (Unit {0}) × Trees

abbrev FieldsBehind : ℕ → Option FieldTurn → Option NamedExprs
FieldsBehind n o = Behind fields field_turn n o

-- a field of this name and those behind it, by its value
abbrev FieldBehind : ℕ → Ident → Answer ExprTree → Option NamedExprs
FieldBehind n i o =
    FieldsBehind n (then {A = (Ident × ExprTree) × Trees} (then o (λ a. Some ((i, a.0), a.1))) (λ a. Some (One a.0, a.1)))

module _ (n : ℕ) (more : (ts : Trees) → (rows n).named_exprs ts ≡ option_map fields (repeat field_turn n ts)) where
  field_on : (i : Ident) (x : ExprTree) (ts : Trees) →
      then ((rows n).named_exprs ts) (λ s. Some (named_expr_then i x s)) ≡ FieldBehind n i (Some (x, ts))
  field_on i x ts = one_on field_turn n more (λ y s. named_expr_then y.0 y.1 s) (λ y s. refl) (i, x) ts

  value_on : (i : Ident) (k : Next) →
      named_value (rows n) i k ≡
      FieldBehind n i (then (colon_after k) (λ vs. then ((rows n).expr true vs) (λ a. then (comma_after (next a.1)) (λ ws. Some (a.0, ws)))))
  value_on i (colon vs) =
      then_on (FieldBehind n i) refl ((rows n).expr true vs) _ _ (λ a.
      then_on (FieldBehind n i) refl (comma_after (next a.1)) _ _ (field_on i a.0))
  value_on i _ = refl

  name_on : (b : Bool) (i : Ident) (us : Trees) →
      provided b (named_value (rows n) i (next us)) ≡
      FieldsBehind n
      (then {A = (Ident × ExprTree) × Trees}
      (then {A = Ident × Trees} (provided b (Some (i, us))) (λ s. then (value_behind n s.1) (λ a. Some ((s.0, a.0), a.1))))
      (λ a. Some (One a.0, a.1)))
  name_on true i us = value_on i (next us)
  name_on false i us = refl

  fields_on : (ts : Trees) (m : Next) → next ts ≡ m → read_named_exprs (rows n) m ≡ FieldsBehind n (field_turn_at n ts m)
  fields_on ts ended e = refl
  fields_on ts (a_name i us) e = name_on (is_name i) i us
  fields_on ts _ e = refl

pub fields_are : (n : ℕ) (ts : Trees) → (rows n).named_exprs ts ≡ option_map (λ v. named_exprs_of v.0.0) (repeat field_turn n ts)
unfolding readers
fields_are zero ts = refl
fields_are (suc n) ts = fields_on n (fields_are n) ts (next ts) refl
