-- What a call that may want memory answers, seen by a relation on values or refusals.
use Rattle.std.specs.Prelude.{◌≡◌, Bool, Option, Some, None, Result, Ok, Err}
use Rattle.std.specs.Option.{is_some}
use Rattle.dm_stream.specs.declared.error.Error.{Error}
use Rattle.dm_stream.specs.declared.error.Error.TheVariants.{NoMemory, Refused}
use Rattle.dm_stream.specs.declared.error.Refusal.{Refusal}

-- the refusal is related; want of memory always is
abbrev pub Allows : {Y : Type 0} → (Result Y Refusal → Type 0) → Error → Type 0
Allows related NoMemory = Unit {0}
Allows related (Refused r) = related (Err r)

-- the answer, its value seen by a view, is related, want of memory aside
abbrev pub Within : {X Y : Type 0} → (Result Y Refusal → Type 0) → (X → Y) → Result X Error → Type 0
Within related view (Ok x) = related (Ok (view x))
Within related view (Err e) = Allows related e

-- the answer whether there is a value, where the answer with it is related, want of memory aside
abbrev pub IsGiven : {Y : Type 0} → (Result (Option Y) Refusal → Type 0) → Result Bool Error → Type 0
IsGiven {Y} related (Ok b) = (found : Option Y) × related (Ok found) × (b ≡ is_some found)
IsGiven related (Err e) = Allows related e

-- the view of a value that stands for itself
abbrev pub same : {X : Type 0} → X → X
same x = x

-- what a look at attributes is answered with, want of memory aside: where nothing is refused, what is made; and else the first refusal
abbrev pub IsWalked : {A : Type 0} → Option Refusal → (A → Type 0) → Result A Error → Type 0
IsWalked first Made (Ok x) = (first ≡ None) × Made x
IsWalked first Made (Err NoMemory) = Unit {0}
IsWalked first Made (Err (Refused r)) = first ≡ Some r
