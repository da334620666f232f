-- What a run asks of a source and of a sink, turn by turn.
use Rattle.std.specs.Prelude.{ℕ, ◌≤◌, List, Option, ◌⊎◌}
use Rattle.std.specs.Io.KnownBytes.{Appends}
use Rattle.dm_outside.specs.Offers.{Offer}
use Rattle.dm_outside.specs.Transfers.{TookToEnd, TookSome, TookMuch, OffersToEnd, OffersPrefix}
use Rattle.dm_outside.specs.declared.transfer.TheConstants.{LARGEST_INPUT}
use Rattle.dm_outside.specs.declared.exit.Status.{Status}
use Rattle.dm_outside.specs.declared.exit.Status.TheVariants.{Done, Refused, BadInput, ReadFault, WriteFault, NoMemory, Usage}

-- the turns of the reading loop of a run without words, by how the run ended
abbrev pub Turns : Option (List ℕ) → Option (List ℕ) → Status → Type 0
Turns before now Done = (total : ℕ) × (total ≤ LARGEST_INPUT) × TookToEnd before now total
Turns before now Refused = (total : ℕ) × (total ≤ LARGEST_INPUT) × TookToEnd before now total
Turns before now BadInput = TookMuch before now ⊎ ((total : ℕ) × (total ≤ LARGEST_INPUT) × TookToEnd before now total)
Turns before now ReadFault = TookSome before now
Turns before now WriteFault = (total : ℕ) × (total ≤ LARGEST_INPUT) × TookToEnd before now total
Turns before now NoMemory = TookSome before now ⊎ ((total : ℕ) × TookToEnd before now total)
Turns before now Usage = ⊥

-- the writes of a run, by how it ended
abbrev pub Offered : Option (List ℕ) → Option (List ℕ) → Option (List Offer) → Option (List Offer) → Status → Type 0
Offered written written' before now Done = (text : List ℕ) × Appends written written' text × OffersToEnd before now text
Offered written written' before now Refused = (text : List ℕ) × Appends written written' text × OffersToEnd before now text
Offered written written' before now WriteFault = (text : List ℕ) × OffersPrefix written written' before now text
Offered written written' before now _ = Unit {0}
