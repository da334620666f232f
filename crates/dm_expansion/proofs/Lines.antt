-- Lines of items.
use Rattle.std.specs.Prelude.{◌≡◌, ℕ, List, [], ◌∷◌, ◌++◌, Bool, true}
use Rattle.std.proofs.Common.{ap, ◌∙◌, append_assoc}
use Rattle.std.proofs.lemmas.Grind.{common_steps}
use Rattle.dm_stream.specs.Trees.{Trees}
use Rattle.dm_stream.specs.Layout.{Laid, layout}
use Rattle.dm_print_types.specs.Laying.{lay}
use Rattle.dm_print_types.proofs.Laying.{lay-text}

-- behind a text that the next token follows with no space
pub lay_fresh : (s : Laid) (ts : Trees) → s.glued ≡ true → (lay s ts).text ≡ s.text ++ layout ts
lay_fresh s ts fresh = ap (λ (g : Bool). (lay (record { text = s.text; glued = g }) ts).text) fresh ∙ lay-text s.text ts

pub lay_line : (s : Laid) (ts : Trees) → s.glued ≡ true → (lay s ts).text ++ 10 ∷ [] ≡ s.text ++ (layout ts ++ 10 ∷ [])
lay_line s ts fresh = ap (λ (l : List ℕ). l ++ 10 ∷ []) (lay_fresh s ts fresh) ∙ append_assoc s.text (layout ts) (10 ∷ [])

pub ruleset line_steps = (common_steps, lay_fresh, lay_line)
