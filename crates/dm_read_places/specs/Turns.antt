-- The readers with so much fuel, and the turns of paths, as the plain reader reads them.
use Rattle.std.specs.Prelude.{ℕ, Some, None}
use Rattle.dm_stream.specs.declared.tokens.Ident.{Ident}
use Rattle.dm_stream.specs.Trees.{Trees}
use Rattle.dm_ast.specs.Keywords.{is_name}
use Rattle.dm_ast.specs.Tree.{SegmentTree, segment, absent}
use Rattle.dm_read_places.specs.declared.list.Turn.{Turn}
use Rattle.dm_read_places.specs.declared.list.Turn.TheVariants.{One, End}
use Rattle.dm_reread.specs.Next.{Next, colons, a_name, next}
use Rattle.dm_reread.specs.Leaves.{Answer}
use Rattle.dm_reread.specs.Reading.{then, provided, Readers, readers}
use Rattle.dm_reread.specs.ReadBack.{leaves}

-- the readers with so much fuel
abbrev pub rows : ℕ → Readers
rows n = readers leaves n

-- a name that may be declared
abbrev pub declared_at : Next → Answer Ident
declared_at (a_name i ts) = provided (is_name i) (Some (i, ts))
declared_at _ = None

-- a segment without arguments
abbrev pub segment_at : Next → Answer SegmentTree
segment_at (a_name i ts) = Some (segment i absent, ts)
segment_at _ = None

abbrev pub one_segment : Next → Answer (Turn SegmentTree (Unit {0}))
one_segment n = then (segment_at n) (λ s. Some (One s.0, s.1))

abbrev pub segment_turn_at : Trees → Next → Answer (Turn SegmentTree (Unit {0}))
segment_turn_at ts (colons us) = one_segment (next us)
segment_turn_at ts _ = Some (End tt, ts)

-- `::` and a segment
abbrev pub segment_turn : ℕ → Trees → Answer (Turn SegmentTree (Unit {0}))
segment_turn n ts = segment_turn_at ts (next ts)
