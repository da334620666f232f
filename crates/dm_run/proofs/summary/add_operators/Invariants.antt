use Rattle.std.proofs.Common.{◌≡◌, ◌++◌, List, ℕ, map, drop}
use Rattle.std.specs.String.{string_bytes}
use Rattle.dm_operators.specs.Table.{operator_view}
use Rattle.dm_run.specs.Sampled.{names_of}
use Rattle.dm_run.proofs.Sampling.{IsFront}
use Rattle.dm_run.proofs.summary.add_operators.Given as goal

-- lines of those before are added
abbrev pub invariant-loop-operator : goal.invariant-loop-operator
invariant-loop-operator l =
    (front : List ℕ) × (string_bytes l.lines ≡ string_bytes l.initial.lines ++ front) ×
    IsFront l.decl front (names_of (map operator_view (drop l.operator-index l.operators))) (names_of (map operator_view l.operators))
