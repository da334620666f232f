-- What is made to be printed.
use Rattle.std.proofs.Common.{◌≡◌, Result, Ok, Err, IfOk, OnOk, IsOkAnd, ap, ◌∙◌}
use Rattle.dm_stream.specs.Trees.{Trees}
use Rattle.dm_stream.specs.Layout.{Laid}
use Rattle.dm_print_types.specs.Laying.{lay}

-- what was made is laid out as what it shows
pub made-laid : {A S E U F : Type 0} (made : Result A E) (r : Result U F) (view : A → S) (trees : S → Trees) (x : S) (old new : Laid) →
    IfOk made (λ a. view a ≡ x) → OnOk r (IsOkAnd made (λ a. new ≡ lay old (trees (view a)))) → OnOk r (new ≡ lay old (trees x))
made-laid (Ok a) (Ok u) view trees x old new shows laid = laid ∙ ap (λ y. lay old (trees y)) shows
made-laid (Ok a) (Err f) view trees x old new shows laid = tt
made-laid (Err e) (Ok u) view trees x old new shows laid = absurd laid
made-laid (Err e) (Err f) view trees x old new shows laid = tt
