-- One turn of each list of arguments and fields, as the plain reader reads its parts.
use Rattle.std.specs.Prelude.{ℕ, Bool, true, false, Some}
use Rattle.dm_stream.specs.declared.tokens.Ident.{Ident}
use Rattle.dm_stream.specs.Trees.{Trees, no_trees}
use Rattle.dm_output.specs.Output.{ExprTree}
use Rattle.dm_reread.specs.Next.{Next, ended, next}
use Rattle.dm_reread.specs.Leaves.{Answer}
use Rattle.dm_reread.specs.Reading.{then, comma_after, colon_after}
use Rattle.dm_read_places.specs.declared.list.Turn.{Turn}
use Rattle.dm_read_places.specs.declared.list.Turn.TheVariants.{One, End}
use Rattle.dm_read_places.specs.Turns.{rows, declared_at}

-- an expression and a comma
abbrev pub before_comma : ℕ → Trees → Answer ExprTree
before_comma n ts = then ((rows n).expr true ts) (λ a. then (comma_after (next a.1)) (λ us. Some (a.0, us)))

-- ---- arguments

abbrev pub arg_behind : ℕ → Trees → Answer (Turn ExprTree Bool)
arg_behind n no_trees = Some (End true, no_trees)
arg_behind n ts = then ((rows n).expr true ts) (λ a. Some (One a.0, a.1))

abbrev pub arg_turn_at : ℕ → Trees → Next → Answer (Turn ExprTree Bool)
arg_turn_at n ts ended = Some (End false, ts)
arg_turn_at n ts m = then (comma_after m) (arg_behind n)

-- a comma, and perhaps an argument
abbrev pub arg_turn : ℕ → Trees → Answer (Turn ExprTree Bool)
arg_turn n ts = arg_turn_at n ts (next ts)

-- ---- fields with values

-- `:`, a value and a comma
abbrev pub value_behind : ℕ → Trees → Answer ExprTree
value_behind n ts =
    then (colon_after (next ts)) (λ us. then ((rows n).expr true us) (λ a. then (comma_after (next a.1)) (λ vs. Some (a.0, vs))))

abbrev pub field_value : ℕ → Next → Answer (Ident × ExprTree)
field_value n m = then (declared_at m) (λ s. then (value_behind n s.1) (λ a. Some ((s.0, a.0), a.1)))

abbrev pub field_turn_at : ℕ → Trees → Next → Answer (Turn (Ident × ExprTree) (Unit {0}))
field_turn_at n ts ended = Some (End tt, ts)
field_turn_at n ts m = then (field_value n m) (λ a. Some (One a.0, a.1))

-- a field with its value and a comma
abbrev pub field_turn : ℕ → Trees → Answer (Turn (Ident × ExprTree) (Unit {0}))
field_turn n ts = field_turn_at n ts (next ts)
