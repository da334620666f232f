-- A pattern of some fuel, over those of less.
use Rattle.std.proofs.Common.{◌≡◌, suc, ◌-◌, sym, subst, arith}
use Rattle.dm_output.specs.Views.{pattern_view}
use Rattle.dm_reread.specs.Next.{next}
use Rattle.dm_reread.specs.Reading.{read_pattern}
use Rattle.dm_read_places.specs.Reads.{Reads}
use Rattle.dm_read_places.specs.Turns.{rows}
use Rattle.dm_read_places.proofs.Same.{reads_as}
use Rattle.dm_read_patterns.proofs.Nesting.{pattern_row}
use Rattle.dm_read_patterns.proofs.nested.+pattern.Goals as goal

pub returns : goal.returns
returns t c =
    let n = c.args.fuel - 1 in
    let e : c.args.fuel ≡ suc n = omega arith in
    subst (λ m. Reads pattern_view (rows m).pattern c.args.place.now c.row.result c.row.new.place) (sym e)
    (reads_as pattern_view (rows (suc n)).pattern (λ ts. read_pattern (rows n) (next ts)) c.args.place.now c.row.new.place c.row.result
    (pattern_row n c.args.place.now) c.row.ensures)
