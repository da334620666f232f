-- One turn of a format's arguments, as the plain reader reads them.
use Rattle.std.specs.Prelude.{ℕ, Some}
use Rattle.dm_stream.specs.Trees.{Trees}
use Rattle.dm_output.specs.Output.{FmtArgTree}
use Rattle.dm_reread.specs.Next.{Next, ended, next}
use Rattle.dm_reread.specs.Leaves.{Answer}
use Rattle.dm_reread.specs.Reading.{then, comma_after, read_fmt_arg}
use Rattle.dm_reread.specs.ReadBack.{leaves}
use Rattle.dm_read_places.specs.declared.list.Turn.{Turn}
use Rattle.dm_read_places.specs.declared.list.Turn.TheVariants.{One, End}

abbrev pub one_fmt_arg : Next → Answer (Turn FmtArgTree (Unit {0}))
one_fmt_arg m = then (comma_after m) (λ us. then (read_fmt_arg leaves us) (λ a. Some (One a.0, a.1)))

abbrev pub fmt_turn_at : Trees → Next → Answer (Turn FmtArgTree (Unit {0}))
fmt_turn_at ts ended = Some (End tt, ts)
fmt_turn_at ts m = one_fmt_arg m

-- a comma and an argument of a format
abbrev pub fmt_turn : ℕ → Trees → Answer (Turn FmtArgTree (Unit {0}))
fmt_turn n ts = fmt_turn_at ts (next ts)
