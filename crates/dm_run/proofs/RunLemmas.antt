-- What a run did to the bytes of the source and of the sink, and by which reads.
use Rattle.std.proofs.Common.{◌≡◌, ℕ, ◌<◌, ◌≤◌, List, Option, Some, None, length, inl, inr, arith, sym, subst, ◌∙◌, ◌++◌}
use Rattle.std.specs.Prelude.{IfSome, ◌⊎◌}
use Rattle.std.proofs.KnownBytes.{Consumes-whole}
use Rattle.std.proofs.lemmas.List.{length-append}
use Rattle.std.specs.Io.KnownBytes.{Keeps}
use Rattle.dm_stream.specs.declared.error.Refusal.{Refusal}
use Rattle.dm_outside.specs.Transfers.{WasRead, IsTooMuch, TookToEnd}
use Rattle.dm_outside.specs.declared.transfer.TheConstants.{LARGEST_INPUT}
use Rattle.dm_outside.specs.declared.exit.Status.{Status}
use Rattle.dm_outside.specs.declared.exit.Status.TheVariants.{Done, Refused, BadInput, ReadFault, WriteFault, NoMemory, Usage}
use Rattle.dm_printed.specs.Derived.{Refuses}
use Rattle.dm_run.specs.Split.{HasLine, IsSplit}
use Rattle.dm_printed.proofs.Deriving.{derivable}
use Rattle.dm_run.specs.Runs.{IsAccepted, IsFaultless, Responds, Ran, Means}
use Rattle.dm_run.specs.Turns.{Turns}

-- a run that read all is one that responds to what it read
pub ran : (left left' before now : Option (List ℕ)) (bytes : List ℕ) (status : Status) → WasRead left left' bytes →
    Responds bytes before now status → Ran left left' before now status
ran left left' before now bytes Done all r = (bytes, all, r)
ran left left' before now bytes Refused all r = (bytes, all, r)
ran left left' before now bytes BadInput all r = ((bytes, inr (all, r.0)), r.1)
ran left left' before now bytes ReadFault all r = absurd r
ran left left' before now bytes WriteFault all r = (bytes, all, r)
ran left left' before now bytes NoMemory all r = r
ran left left' before now bytes Usage all r = absurd r

-- a run that read to the end
pub turned : (a b w w' : Option (List ℕ)) (total : ℕ) (bytes : List ℕ) (status : Status) → total ≤ LARGEST_INPUT → TookToEnd a b total →
    Responds bytes w w' status → Turns a b status
turned a b w w' total bytes Done few t r = (total, few, t)
turned a b w w' total bytes Refused few t r = (total, few, t)
turned a b w w' total bytes BadInput few t r = inr (total, few, t)
turned a b w w' total bytes ReadFault few t r = absurd r
turned a b w w' total bytes WriteFault few t r = (total, few, t)
turned a b w w' total bytes NoMemory few t r = inr (total, t)
turned a b w w' total bytes Usage few t r = absurd r

-- more than too much is too much
more_is : (bs ys xs : List ℕ) → LARGEST_INPUT < length bs → xs ≡ bs ++ ys → LARGEST_INPUT < length xs
more_is bs ys xs h e = rw (e, length-append bs ys) (omega arith)

any : (l : Option (List ℕ)) (P : Type 0) → P → IfSome l (λ _. P)
any None P p = tt
any (Some xs) P p = p

too_much : (l m w w' : Option (List ℕ)) (bs : List ℕ) → IsTooMuch l m bs → Keeps w w' → IfSome l (λ xs. Means xs w w' BadInput)
too_much None m w w' bs t k = tt
too_much (Some xs) None w w' bs t k = absurd t.taken
too_much (Some xs) (Some ys) w w' bs t k = (inl (more_is bs ys xs t.many t.taken), k)

bad : (l m w w' : Option (List ℕ)) (bs : List ℕ) → IsTooMuch l m bs ⊎ (WasRead l m bs × ¬ (HasLine bs)) → Keeps w w' →
    IfSome l (λ xs. Means xs w w' BadInput)
bad l m w w' bs (inl t) k = too_much l m w w' bs t k
bad l m w w' bs (inr r) k = Consumes-whole l m bs (λ xs. Means xs w w' BadInput) r.0.taken r.0.«end» (inr r.1, k)

-- where the source tells its bytes, a run means what they say
pub told : (l m w w' : Option (List ℕ)) (st : Status) → Ran l m w w' st → IfSome l (λ xs. Means xs w w' st)
told l m w w' Done r = Consumes-whole l m r.0 (λ xs. Means xs w w' Done) r.1.taken r.1.«end» (r.1.few, r.2)
told l m w w' Refused r = Consumes-whole l m r.0 (λ xs. Means xs w w' Refused) r.1.taken r.1.«end» (r.1.few, r.2)
told l m w w' BadInput r = bad l m w w' r.0.0 r.0.1 r.1
told l m w w' ReadFault r = any l _ r
told l m w w' WriteFault r = Consumes-whole l m r.0 (λ xs. Means xs w w' WriteFault) r.1.taken r.1.«end» (r.1.few, r.2)
told l m w w' NoMemory r = any l _ r
told l m w w' Usage r = absurd r

-- bytes are split in one way
refuses_same : (bytes name rest name' rest' : List ℕ) (r : Refusal) → IsSplit bytes name rest → IsSplit bytes name' rest' →
    Refuses name rest r → Refuses name' rest' r
refuses_same bytes name rest name' rest' r p q h =
    subst (λ n. Refuses n rest' r) (p.before ∙ sym q.before) (subst (λ d. Refuses name d r) (p.behind ∙ sym q.behind) h)

faultless : (bytes : List ℕ) (before now : Option (List ℕ)) (status : Status) → Means bytes before now status → IsAccepted bytes →
    IsFaultless status
faultless bytes before now Done m a = tt
faultless bytes before now Refused m a =
    let r = m.1.1 in
    derivable a.name a.declaration a.derivable r.refusal (refuses_same bytes r.name r.declaration a.name a.declaration r.refusal r.split a.split r.refused)
faultless bytes before now BadInput m a =
    elim m.0 [ inl many ↦ absurd (omega (arith, many, a.few)) | inr none ↦ absurd (none a.split.line) ]
faultless bytes before now ReadFault m a = tt
faultless bytes before now WriteFault m a = tt
faultless bytes before now NoMemory m a = tt
faultless bytes before now Usage m a = absurd m

known : (left before now : Option (List ℕ)) (status : Status) → IfSome left (λ bytes. Means bytes before now status) →
    IfSome left (λ bytes. IsAccepted bytes → IsFaultless status)
known None before now status h = tt
known (Some bytes) before now status h = faultless bytes before now status h

-- where the source tells its bytes and they are accepted, only memory or the outside can stop a run
pub complete : (left left' before now : Option (List ℕ)) (status : Status) → Ran left left' before now status →
    IfSome left (λ bytes. IsAccepted bytes → IsFaultless status)
complete left left' before now status r = known left before now status (told left left' before now status r)
