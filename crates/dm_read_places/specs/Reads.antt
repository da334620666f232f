-- What rules over a place ensure.
use Rattle.std.specs.Prelude.{◌≡◌, ℕ, Bool, true, false, Option, Some, None, Result, Ok, Err}
use Rattle.dm_stream.specs.declared.error.Error.{Error}
use Rattle.dm_stream.specs.declared.error.Error.TheVariants as error
use Rattle.dm_stream.specs.declared.error.Kind.TheVariants.{Syntax}
use Rattle.dm_stream.specs.Cursors.{front_span}
use Rattle.dm_stream.specs.Trees.{Trees}
use Rattle.dm_reread.specs.Next.{Next, next}
use Rattle.dm_reread.specs.Leaves.{Answer}

-- the reader reads what is given, and leaves what is left, unless memory fails
abbrev pub Reads : {A X : Type 0} → (X → A) → (Trees → Answer A) → Trees → Result X Error → Trees → Type 0
Reads view reader old (Ok x) new = reader old ≡ Some (view x, new)
Reads view reader old (Err (error.Refused r)) new = reader old ≡ None
Reads view reader old (Err error.NoMemory) new = Unit {0}

-- the same of a reader that leaves nothing
abbrev pub ReadsWhole : {T A X : Type 0} → (X → A) → (T → Option A) → T → Result X Error → Type 0
ReadsWhole view reader old (Ok x) = reader old ≡ Some (view x)
ReadsWhole view reader old (Err (error.Refused r)) = reader old ≡ None
ReadsWhole view reader old (Err error.NoMemory) = Unit {0}

-- what comes first is passed
abbrev pub Passes : (Next → Option Trees) → Trees → Result (Unit {0}) Error → Trees → Type 0
Passes after old (Ok u) new = after (next old) ≡ Some new
Passes after old (Err e) new = after (next old) ≡ None

-- what comes first is passed where it stands there
abbrev pub Takes : (Next → Bool) → (Trees → Next) → Trees → Bool → Trees → Type 0
Takes is made old true new = next old ≡ made new
Takes is made old false new = (is (next old) ≡ false) × (new ≡ old)

-- the refusal of what comes first, or of a list's end
abbrev pub RefusesFront : Trees → Error → Type 0
RefusesFront ts e = (limit : ℕ) × (e ≡ error.Refused (record { kind = Syntax; span = front_span ts limit }))
