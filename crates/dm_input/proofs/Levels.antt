-- A level down and up again.
use Rattle.std.proofs.Common.{◌≡◌, ap, arith}
use Rattle.std.proofs.lemmas.Grind.{common_steps}
use Rattle.dm_ast.specs.Spelling.{Where, deeper}
use Rattle.dm_input.specs.Inputs.{shallower}

pub shallower_deeper : (w : Where) → shallower (deeper w) ≡ w
unfolding shallower
shallower_deeper w = ap (λ n. record { level = n; limit = w.limit }) (omega arith)

pub ruleset level_steps = (common_steps, shallower_deeper)
