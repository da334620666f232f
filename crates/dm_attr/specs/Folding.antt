-- How the attributes of one name are read and merged, for any kind of them.
use Rattle.std.specs.Prelude.{◌≡◌, ℕ, Bool, true, false, List, [], ◌∷◌, Option, Some, None, Result, Ok, Err}
use Rattle.dm_stream.specs.declared.error.Refusal.{Refusal}
use Rattle.dm_ast.specs.declared.plain.Attribute.{Attribute}
use Rattle.dm_attr.specs.declared.spanning.Spanning.{Spanning}
use Rattle.dm_attr.specs.Examined.{is_examined}

-- a refusal is the answer; a value goes on
abbrev pub Continues : {A B : Type 0} → Result A Refusal → (A → Result B Refusal → Type 0) → Result B Refusal → Type 0
Continues (Err r) go answer = answer ≡ Err r
Continues (Ok x) go answer = go x answer

-- two values merge; of one alone nothing changes
abbrev pub MergesOption : {T : Type 0} → (Spanning T → Spanning T → Result (Spanning T) Refusal → Type 0) →
    Option (Spanning T) → Option (Spanning T) → Result (Option (Spanning T)) Refusal → Type 0
MergesOption {T} merges (Some prev) (Some next) answer =
    (merged : Result (Spanning T) Refusal) × merges prev next merged × Continues merged (λ m a. a ≡ Ok (Some m)) answer
MergesOption merges (Some prev) None answer = answer ≡ Ok (Some prev)
MergesOption merges None next answer = answer ≡ Ok next

abbrev pub EitherWay : Bool → Type 0 → Type 0 → Type 0
EitherWay true P Q = P
EitherWay false P Q = Q

-- what was read from an attribute, with the attribute's range
abbrev pub spanned : {T : Type 0} → T → Attribute → Option (Spanning T)
spanned item a = Some (record { span = a.span; item = item })

-- an attribute of the name is read and merged into what was found before; another one changes nothing
abbrev pub Turn : {T : Type 0} → (Attribute → Result T Refusal → Type 0) →
    (Spanning T → Spanning T → Result (Spanning T) Refusal → Type 0) →
    List ℕ → Attribute → Option (Spanning T) → Result (Option (Spanning T)) Refusal → Type 0
Turn {T} reads merges name a found answer = EitherWay (is_examined name a)
    ((read : Result T Refusal) × reads a read × Continues read (λ item answer. MergesOption merges found (spanned item a) answer) answer)
    (answer ≡ Ok found)

-- the attributes of the name are read and merged in order into what was found before; the first refusal is the answer
abbrev pub Folds : {T : Type 0} → (Attribute → Result T Refusal → Type 0) →
    (Spanning T → Spanning T → Result (Spanning T) Refusal → Type 0) →
    List ℕ → List Attribute → Option (Spanning T) → Result (Option (Spanning T)) Refusal → Type 0
Folds reads merges name [] found answer = answer ≡ Ok found
Folds {T} reads merges name (a ∷ others) found answer =
    (turn : Result (Option (Spanning T)) Refusal) × Turn reads merges name a found turn ×
    Continues turn (λ found answer. Folds reads merges name others found answer) answer
