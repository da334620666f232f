-- The lines that tell what traits answer.
use Rattle.std.specs.Prelude.{ℕ, List, ◌++◌, codes}
use Rattle.std.specs.Fmt.{decimal}
use Rattle.dm_stream.specs.Messages.{kind_name}
use Rattle.dm_sample.specs.declared.summary.Told.{Told}
use Rattle.dm_sample.specs.declared.summary.Told.TheVariants.{Done, Refused}

-- `Trait done ITEMS PREDICATES`
abbrev pub done_line : List ℕ → ℕ → ℕ → List ℕ
done_line name items predicates = name ++ (codes " done " ++ (decimal items ++ (codes " " ++ (decimal predicates ++ codes "\n"))))

-- `Trait Kind start..end`
abbrev pub place_line : List ℕ → List ℕ → ℕ → ℕ → List ℕ
place_line name kind start end = name ++ (codes " " ++ (kind ++ (codes " " ++ (decimal start ++ (codes ".." ++ (decimal end ++ codes "\n"))))))

-- the line of a trait's answer
abbrev pub told_line : List ℕ → Told → List ℕ
told_line name (Done items predicates) = done_line name items predicates
told_line name (Refused refusal) = place_line name (kind_name refusal.kind) refusal.span.start refusal.span.end
