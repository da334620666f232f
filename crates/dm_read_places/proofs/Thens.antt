-- What is read behind something that was read first.
use Rattle.std.proofs.Common.{◌≡◌, Option, Some, None, sym}
use Rattle.dm_reread.specs.Reading.{then}

-- two ways to go on behind what was read, of which one hands what it gives on to `of`, give the same where they do behind each thing
pub then_on : {A B C : Type 0} (of : Option B → Option C) → of None ≡ None → (o : Option A) (f : A → Option C) (g : A → Option B) →
    ((x : A) → f x ≡ of (g x)) → then o f ≡ of (then o g)
then_on of none None f g same = sym none
then_on of none (Some x) f g same = same x
