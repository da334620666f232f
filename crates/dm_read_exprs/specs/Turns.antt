-- One turn of each chain, as the plain reader reads its parts.
use Rattle.std.specs.Prelude.{ℕ, Bool, Some}
use Rattle.dm_stream.specs.Trees.{Trees}
use Rattle.dm_output.specs.Output.{ExprTree}
use Rattle.dm_reread.specs.Next.{Next, oror, andand, next}
use Rattle.dm_reread.specs.Leaves.{Answer}
use Rattle.dm_reread.specs.Reading.{then, read_cmp, read_and}
use Rattle.dm_read_places.specs.declared.list.Turn.{Turn}
use Rattle.dm_read_places.specs.declared.list.Turn.TheVariants.{One, End}
use Rattle.dm_read_places.specs.Turns.{rows}

abbrev pub and_turn_at : Bool → ℕ → Trees → Next → Answer (Turn ExprTree (Unit {0}))
and_turn_at b n ts (andand us) = then (read_cmp (rows n) b us) (λ a. Some (One a.0, a.1))
and_turn_at b n ts _ = Some (End tt, ts)

-- `&&` and what stands behind it
abbrev pub and_turn : Bool → ℕ → Trees → Answer (Turn ExprTree (Unit {0}))
and_turn b n ts = and_turn_at b n ts (next ts)

abbrev pub or_turn_at : Bool → ℕ → Trees → Next → Answer (Turn ExprTree (Unit {0}))
or_turn_at b n ts (oror us) = then (read_and (rows n) b us) (λ a. Some (One a.0, a.1))
or_turn_at b n ts _ = Some (End tt, ts)

-- `||` and what stands behind it
abbrev pub or_turn : Bool → ℕ → Trees → Answer (Turn ExprTree (Unit {0}))
or_turn b n ts = or_turn_at b n ts (next ts)
