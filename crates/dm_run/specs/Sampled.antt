-- What a run writes that is asked for a sample: a line for each trait, of its answer to the sample's declaration.
use Rattle.std.specs.Prelude.{◌≡◌, ℕ, List, [], ◌∷◌, ◌++◌, ◌⊎◌, map, Option, String, codes}
use Rattle.std.specs.Io.KnownBytes.{Appends, Keeps}
use Rattle.std.specs.declared.alloc.Global.{Global}
use Rattle.dm_operators.specs.Operators.{Operator, operators}
use Rattle.dm_sample.specs.Samples.{IsSample, sample_text}
use Rattle.dm_sample.specs.Summaries.{told_line}
use Rattle.dm_sample.specs.declared.summary.Told.{Told}
use Rattle.dm_sample.specs.declared.summary.Told.TheVariants as told
use Rattle.dm_printed.specs.Derived.{Refuses}
use Rattle.dm_printed.specs.Counts.{AreCounts}
use Rattle.dm_outside.specs.Transfers.{AppendsPrefix}
use Rattle.dm_outside.specs.declared.exit.Status.{Status}
use Rattle.dm_outside.specs.declared.exit.Status.TheVariants.{Done, WriteFault, NoMemory}

-- what is told of the answer of the trait of this name to a text
abbrev pub IsTold : List ℕ → List ℕ → Told → Type 0
IsTold name text (told.Done items predicates) = AreCounts name text items predicates
IsTold name text (told.Refused refusal) = Refuses name text refusal

-- a line for each of these traits
abbrev pub AreLines : List (List ℕ) → List ℕ → List ℕ → Type 0
AreLines [] text lines = lines ≡ []
AreLines (name ∷ names) text lines = (t : Told) × (rest : List ℕ) × IsTold name text t × AreLines names text rest × (lines ≡ told_line name t ++ rest)

abbrev pub names_of : List Operator → List (List ℕ)
names_of os = map (λ (o : Operator). o.trait_name) os

-- the traits that are derived, in their order
abbrev pub derived_names : List (List ℕ)
derived_names = codes "PartialEq" ∷ names_of operators

-- What a run does that is asked for a sample with n variants, by how it ended.
abbrev pub Sampled : ℕ → Option (List ℕ) → Option (List ℕ) → Status → Type 0
Sampled n before now Done = (lines : List ℕ) × AreLines derived_names (sample_text n) lines × Appends before now lines
Sampled n before now WriteFault = (lines : List ℕ) × AreLines derived_names (sample_text n) lines × AppendsPrefix before now lines
Sampled n before now NoMemory = Keeps before now
Sampled n before now _ = ⊥

-- the words of a run: none, or those that ask for a sample
abbrev pub AreWords : List (String Global) → Type 0
AreWords words = words ≡ [] ⊎ ((n : ℕ) × IsSample words n)
