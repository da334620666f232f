-- The rows of arguments and of fields with values.
use Rattle.std.proofs.Common.{◌≡◌, ℕ, Bool, true, false, Some, refl}
use Rattle.std.proofs.lemmas.Grind.{common_steps}
use Rattle.dm_stream.specs.declared.tokens.Ident.{Ident}
use Rattle.dm_stream.specs.Trees.{Trees, no_trees}
use Rattle.dm_ast.specs.Spelling.{at_end}
use Rattle.dm_output.specs.Output.{ExprTree, no_exprs}
use Rattle.dm_reread.specs.Next.{Next, ended, next}
use Rattle.dm_reread.specs.Reading.{then, Readers, comma_after, first_arg, read_args}
use Rattle.dm_read_places.specs.declared.list.Turn.{Turn}
use Rattle.dm_read_places.specs.declared.list.Turn.TheVariants.{One, End}
use Rattle.dm_read_places.specs.Turns.{rows}
use Rattle.dm_read_arguments.specs.Turns.{arg_behind, arg_turn_at, field_value, field_turn_at}
use Rattle.dm_read_arguments.proofs.Lists.{args_are, fields_are}

pub args_end : (n : ℕ) (ts : Trees) → at_end ts ≡ true → arg_turn_at n ts (next ts) ≡ Some (End false, ts)
args_end n no_trees e = refl
args_end n _ e = absurd (cc)

pub args_more : (n : ℕ) (ts : Trees) (m : Next) → (m ≡ ended → ⊥) → arg_turn_at n ts m ≡ then (comma_after m) (arg_behind n)
args_more n ts ended f = absurd (f refl)
args_more n ts _ f = refl

pub last_comma : (n : ℕ) (ts : Trees) → at_end ts ≡ true → arg_behind n ts ≡ Some (End true, ts)
last_comma n no_trees e = refl
last_comma n _ e = absurd (cc)

pub arg_here : (n : ℕ) (ts : Trees) → at_end ts ≡ false →
    arg_behind n ts ≡ then {A = ExprTree × Trees} {B = Turn ExprTree Bool × Trees} ((rows n).expr true ts) (λ a. Some (One a.0, a.1))
arg_here n no_trees e = absurd (cc)
arg_here n _ e = refl

pub no_args : (r : Readers) (ts : Trees) → at_end ts ≡ true → read_args r false ts ≡ Some (no_exprs, false)
no_args r no_trees e = refl
no_args r _ e = absurd (cc)

pub some_args : (r : Readers) (ts : Trees) → at_end ts ≡ false → read_args r false ts ≡ first_arg r ts
some_args r no_trees e = absurd (cc)
some_args r _ e = refl

pub fields_end : (n : ℕ) (ts : Trees) → at_end ts ≡ true → field_turn_at n ts (next ts) ≡ Some (End tt, ts)
fields_end n no_trees e = refl
fields_end n _ e = absurd (cc)

pub fields_more : (n : ℕ) (ts : Trees) (m : Next) → (m ≡ ended → ⊥) →
    field_turn_at n ts m ≡ then {A = (Ident × ExprTree) × Trees} {B = Turn (Ident × ExprTree) (Unit {0}) × Trees} (field_value n m) (λ a. Some (One a.0, a.1))
fields_more n ts ended f = absurd (f refl)
fields_more n ts _ f = refl

pub ruleset argument_steps = (common_steps, args_end, args_more, last_comma, arg_here, no_args, some_args, fields_end, fields_more, args_are, fields_are)
