-- What is read of a source and written to a sink, and what is asked of them for it, turn by turn.
use Rattle.std.specs.Prelude.{◌≡◌, ℕ, ◌+◌, ◌<◌, ◌≤◌, List, [], ◌∷◌, ◌++◌, Option, Result, Ok, Err, Vec, All, sum, take, drop, length}
use Rattle.std.specs.Io.KnownBytes.{Consumes, Appends, IsAtEnd}
use Rattle.std.specs.declared.alloc.Global.{Global}
use Rattle.dm_outside.specs.Offers.{Offer, Adds}
use Rattle.dm_outside.specs.declared.transfer.ReadError.{ReadError}
use Rattle.dm_outside.specs.declared.transfer.ReadError.TheVariants as read_error
use Rattle.dm_outside.specs.declared.transfer.TheConstants.{LARGEST_INPUT}

-- the source was read to its end
pub record WasRead (before now : Option (List ℕ)) (bytes : List ℕ) : Type 0 where
  pub taken : Consumes before now bytes
  pub «end» : IsAtEnd now
  pub few : length bytes ≤ LARGEST_INPUT

-- more than the limit was read
pub record IsTooMuch (before now : Option (List ℕ)) (bytes : List ℕ) : Type 0 where
  pub taken : Consumes before now bytes
  pub many : LARGEST_INPUT < length bytes

-- a prefix of the text was written, and not all of it
abbrev pub AppendsPrefix : Option (List ℕ) → Option (List ℕ) → List ℕ → Type 0
AppendsPrefix before now text = (n : ℕ) × (n < length text) × Appends before now (take n text)

-- each read gave at least one byte, all of them this many, and behind them came these last reads
pub record EachTook (before now : Option (List ℕ)) (last : List ℕ) (total : ℕ) : Type 0 where
  pub counts : List ℕ
  pub each : All (λ n. 0 < n) counts
  pub told : Adds before now (counts ++ last)
  pub total_is : sum counts ≡ total

-- the reads up to the end: each but the last, which met the end, gave at least one byte
abbrev pub TookToEnd : Option (List ℕ) → Option (List ℕ) → ℕ → Type 0
TookToEnd before now total = EachTook before now (0 ∷ []) total

-- reads that were broken off: each gave at least one byte
abbrev pub TookSome : Option (List ℕ) → Option (List ℕ) → Type 0
TookSome before now = (total : ℕ) × EachTook before now [] total

-- more than the largest input was read, at least one byte at each turn
abbrev pub TookMuch : Option (List ℕ) → Option (List ℕ) → Type 0
TookMuch before now = (total : ℕ) × (LARGEST_INPUT < total) × EachTook before now [] total

-- the turns of the reading loop, by how it ended
abbrev pub ReadTurns : Option (List ℕ) → Option (List ℕ) → Result (Vec ℕ Global) ReadError → Type 0
ReadTurns before now (Ok bytes) = TookToEnd before now (length bytes.items)
ReadTurns before now (Err read_error.TooMuch) = TookMuch before now
ReadTurns before now (Err read_error.Fault) = TookSome before now
ReadTurns before now (Err read_error.NoMemory) = TookSome before now

-- each of these writes offers all that is left of the text
abbrev pub EachOffersAll : List ℕ → List Offer → Type 0
EachOffersAll text [] = Unit {0}
EachOffersAll text (offer ∷ offers) = (offer.piece ≡ text) × EachOffersAll (drop offer.taken text) offers

-- how many bytes these writes took
abbrev pub taken_by : List Offer → ℕ
taken_by [] = 0
taken_by (offer ∷ offers) = offer.taken + taken_by offers

-- writes that each offered all that was left of the text took so many bytes
pub record OffersAll (before now : Option (List Offer)) (text : List ℕ) (taken : ℕ) : Type 0 where
  pub offers : List Offer
  pub each : EachOffersAll text offers
  pub told : Adds before now offers
  pub taken_is : taken_by offers ≡ taken

-- the writes of a text took it whole
abbrev pub OffersToEnd : Option (List Offer) → Option (List Offer) → List ℕ → Type 0
OffersToEnd before now text = OffersAll before now text (length text)

-- the writes of a text took so many bytes of it and not all, and the last of them failed
abbrev pub OffersPrefix : Option (List ℕ) → Option (List ℕ) → Option (List Offer) → Option (List Offer) → List ℕ → Type 0
OffersPrefix written written' before now text =
    (n : ℕ) × (n < length text) × Appends written written' (take n text) × OffersAll before now text n
