-- What a run does to the bytes of the source and of the sink, by how it ended.
use Rattle.std.specs.Prelude.{◌≡◌, ℕ, ◌≤◌, ◌<◌, List, ◌++◌, Option, length, codes, ◌⊎◌}
use Rattle.std.specs.Io.KnownBytes.{Appends, Keeps}
use Rattle.dm_stream.specs.Messages.{refusal_text}
use Rattle.dm_stream.specs.declared.error.Refusal.{Refusal}
use Rattle.dm_printed.specs.Derived.{Answers, Refuses, IsDerivable}
use Rattle.dm_run.specs.Split.{HasLine, IsSplit}
use Rattle.dm_outside.specs.Transfers.{WasRead, IsTooMuch, AppendsPrefix}
use Rattle.dm_outside.specs.declared.transfer.TheConstants.{LARGEST_INPUT}
use Rattle.dm_outside.specs.declared.exit.Status.{Status}
use Rattle.dm_outside.specs.declared.exit.Status.TheVariants.{Done, Refused, BadInput, ReadFault, WriteFault, NoMemory, Usage}

-- the bytes name a trait and a declaration, and this text is the derive's answer
pub record IsAnswered (bytes text : List ℕ) : Type 0 where
  pub name : List ℕ
  pub declaration : List ℕ
  pub split : IsSplit bytes name declaration
  pub answer : Answers name declaration text

-- the line of a refusal: its text, and LF
unfoldable pub line_of : Refusal → List ℕ
line_of r = refusal_text r ++ codes "\n"

-- the bytes name a trait and a declaration, and this line tells the derive's refusal
pub record IsRefused (bytes line : List ℕ) : Type 0 where
  pub name : List ℕ
  pub declaration : List ℕ
  pub refusal : Refusal
  pub split : IsSplit bytes name declaration
  pub refused : Refuses name declaration refusal
  pub told : line ≡ line_of refusal

-- What is written for bytes that were read to the end.
abbrev pub Responds : List ℕ → Option (List ℕ) → Option (List ℕ) → Status → Type 0
Responds bytes before now Done = (text : List ℕ) × IsAnswered bytes text × Appends before now text
Responds bytes before now Refused = (line : List ℕ) × IsRefused bytes line × Appends before now line
Responds bytes before now BadInput = ¬ (HasLine bytes) × Keeps before now
Responds bytes before now ReadFault = ⊥
Responds bytes before now WriteFault = (text : List ℕ) × (IsAnswered bytes text ⊎ IsRefused bytes text) × AppendsPrefix before now text
Responds bytes before now NoMemory = Keeps before now
Responds bytes before now Usage = ⊥

-- What a run without words did to the bytes of the source and of the sink.
abbrev pub Ran : Option (List ℕ) → Option (List ℕ) → Option (List ℕ) → Option (List ℕ) → Status → Type 0
Ran left left' before now Done = (bytes : List ℕ) × WasRead left left' bytes × Responds bytes before now Done
Ran left left' before now Refused = (bytes : List ℕ) × WasRead left left' bytes × Responds bytes before now Refused
Ran left left' before now BadInput =
    ((bytes : List ℕ) × (IsTooMuch left left' bytes ⊎ (WasRead left left' bytes × ¬ (HasLine bytes)))) × Keeps before now
Ran left left' before now ReadFault = Keeps before now
Ran left left' before now WriteFault = (bytes : List ℕ) × WasRead left left' bytes × Responds bytes before now WriteFault
Ran left left' before now NoMemory = Keeps before now
Ran left left' before now Usage = ⊥

-- What a run without words does where the source tells its bytes.
abbrev pub Means : List ℕ → Option (List ℕ) → Option (List ℕ) → Status → Type 0
Means bytes before now Done = (length bytes ≤ LARGEST_INPUT) × Responds bytes before now Done
Means bytes before now Refused = (length bytes ≤ LARGEST_INPUT) × Responds bytes before now Refused
Means bytes before now BadInput = (LARGEST_INPUT < length bytes ⊎ ¬ (HasLine bytes)) × Keeps before now
Means bytes before now ReadFault = Keeps before now
Means bytes before now WriteFault = (length bytes ≤ LARGEST_INPUT) × Responds bytes before now WriteFault
Means bytes before now NoMemory = Keeps before now
Means bytes before now Usage = ⊥

-- the bytes name a trait and a declaration that it derives
pub record IsAccepted (bytes : List ℕ) : Type 0 where
  pub few : length bytes ≤ LARGEST_INPUT
  pub name : List ℕ
  pub declaration : List ℕ
  pub split : IsSplit bytes name declaration
  pub derivable : IsDerivable name declaration

-- the runs that are done, or lack memory or the outside
abbrev pub IsFaultless : Status → Type 0
IsFaultless Refused = ⊥
IsFaultless BadInput = ⊥
IsFaultless Usage = ⊥
IsFaultless _ = Unit {0}

-- the runs that write nothing
abbrev pub IsSilent : Status → Type 0
IsSilent Done = ⊥
IsSilent Refused = ⊥
IsSilent WriteFault = ⊥
IsSilent _ = Unit {0}
