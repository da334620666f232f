-- What a whole run does, for its words, its source and its sink.
use Rattle.std.specs.Prelude.{◌≡◌, ◌↔◌, ℕ, List, [], drop, Option, Result, Ok, Err, Vec, String, IfSome}
use Rattle.std.specs.declared.alloc.Global.{Global}
use Rattle.std.specs.declared.process.ExitCode.{ExitCode}
use Rattle.std.specs.Process.{exit_status}
use Rattle.dm_sample.specs.Samples.{IsSample}
use Rattle.dm_outside.specs.Causes.{Rose}
use Rattle.dm_outside.specs.Offers.{Offer}
use Rattle.dm_outside.specs.Exits.{exit_code}
use Rattle.dm_run.specs.Runs.{Ran, Means, IsAccepted, IsFaultless, IsSilent}
use Rattle.dm_run.specs.Sampled.{AreWords, Sampled}
use Rattle.dm_run.specs.Turns.{Turns, Offered}
use Rattle.dm_outside.specs.declared.exit.Status.{Status}
use Rattle.dm_outside.specs.declared.exit.Status.TheVariants.{ReadFault, WriteFault, Usage}

-- what a source shows
pub record Reading : Type 0 where
  pub left : Option (List ℕ)
  pub faults : ℕ
  pub reads : Option (List ℕ)

-- what a sink shows
pub record Writing : Type 0 where
  pub written : Option (List ℕ)
  pub faults : ℕ
  pub offers : Option (List Offer)

-- all that `derive_main` says of a run that ended so
pub record IsRun (words : List (String Global)) (Untouched Unwritten : Type 0) (source source' : Reading) (sink sink' : Writing) (status : Status) : Type 0 where
  pub usage : status ≡ Usage ↔ ¬ (AreWords words)
  pub idle : status ≡ Usage → Untouched
  pub silent : IsSilent status → Unwritten
  pub ran : words ≡ [] → Ran source.left source'.left sink.written sink'.written status
  pub turns : words ≡ [] → Turns source.reads source'.reads status
  pub offers : Offered sink.written sink'.written sink.offers sink'.offers status
  pub told : words ≡ [] → IfSome source.left (λ bytes. Means bytes sink.written sink'.written status)
  pub complete : words ≡ [] → IfSome source.left (λ bytes. IsAccepted bytes → IsFaultless status)
  pub sampled : (n : ℕ) → IsSample words n → Sampled n sink.written sink'.written status
  pub unread : (n : ℕ) → IsSample words n → Untouched
  pub read : status ≡ ReadFault → Rose source.faults source'.faults
  pub write : status ≡ WriteFault → Rose sink.faults sink'.faults

-- how a process ends: with the exit code of the run for these words, which follow the program's own name; or, where they can't be
-- read, with that of the status that says so, and nothing is read or written
abbrev pub IsEnded : Result (Vec (String Global) Global) Status → Type 0 → Type 0 → Reading → Reading → Writing → Writing → ExitCode → Type 0
IsEnded (Ok words) Untouched Unwritten source source' sink sink' code =
    (status : Status) × (exit_status code ≡ exit_code status) × IsRun (drop 1 words.items) Untouched Unwritten source source' sink sink' status
IsEnded (Err status) Untouched Unwritten source source' sink sink' code = (exit_status code ≡ exit_code status) × Untouched × Unwritten
