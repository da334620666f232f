-- The placeholders of a text, as the program tells them.
use Rattle.std.specs.Prelude.{◌≡◌, ℕ, List, Result, Ok, Err, IfOk}
use Rattle.std.proofs.Common.{ap, ◌∙◌}
use Rattle.dm_fmtstr.specs.Parts.{Format}
use Rattle.dm_fmtstr.specs.Grammar.{Formats}
use Rattle.dm_fmtstr.specs.Positions.{placeholders, placeholders_of, ArePlaceholdersOf, of_string}
use Rattle.dm_fmtstr.specs.declared.placeholder.Placeholder.{Placeholder as PlaceholderValue}

pub placed : {E : Type 0} (cs : List ℕ) (r : Result (List PlaceholderValue) E) (fs gs : List Format) → fs ≡ gs → Formats cs gs →
    IfOk r (λ found. placeholders_of found ≡ placeholders fs) → IfOk r (λ found. ArePlaceholdersOf cs (placeholders_of found))
placed cs (Ok found) fs gs e t h = of_string gs t (h ∙ ap placeholders e)
placed cs (Err x) fs gs e t h = tt
