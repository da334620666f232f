-- The discriminant of a variant: the run of trees at the front, one at least, as `dm_expr` cuts it. It is kept as tokens, of which a
-- last punct is joint to nothing.
use Rattle.std.specs.Prelude.{◌≡◌, false, Option, Some, None, Ok, Err}
use Rattle.dm_stream.specs.Trees.{Trees, Stream}
pub use Rattle.dm_stream.specs.LastAlone.{unjoined, punct_in, last_alone}
use Rattle.dm_expr.specs.Cuts.{run_at, split_at}
use Rattle.dm_ast.specs.declared.plain.Opaque.{Opaque}
use Rattle.dm_ast.specs.Spelling.{Where, Marks, Spelling, marks_of}
use Rattle.dm_ast.specs.Readers.{Outcome, Parser, refuse, read_rest}
use Rattle.dm_ast.specs.PlainReaders.{opaque_of}

-- the run in front, and the trees behind it
abbrev pub cut_run : Trees → Option (Trees × Trees)
cut_run ts = split_at (run_at false ts) ts

-- the run in front is kept, with the end of the list that it stands in
pub record RunAt (w : Where) (o : Opaque) (ts others : Trees) (m : Marks) : Type 0 where
  pub front : Trees
  pub cut : cut_run ts ≡ Some (front, others)
  pub trees : o.tokens.trees ≡ last_alone front
  pub limit : o.tokens.limit ≡ w.limit
  pub marks : m ≡ marks_of w.level front

abbrev pub run : Opaque → Where → Spelling
run o w = RunAt w o

-- ---- its reader

abbrev pub kept_run : Stream → Stream
kept_run s = record { trees = last_alone s.trees; limit = s.limit }

abbrev pub behind_run : Trees → Outcome Stream → Outcome Opaque
behind_run others (Ok p) = Ok (opaque_of (kept_run p.0), others)
behind_run others (Err r) = Err r

-- the trees of the run are all kept
abbrev pub if_cut : Where → Trees → Option (Trees × Trees) → Outcome Opaque
if_cut w ts None = refuse w ts
if_cut w ts (Some r) = behind_run r.1 (read_rest w r.0)

abbrev pub read_run : Where → Parser Opaque
read_run w ts = if_cut w ts (cut_run ts)
