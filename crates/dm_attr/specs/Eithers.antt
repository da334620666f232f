-- What one of two kinds is: its items and tokens, what it is read from, and what two of them make.
use Rattle.std.specs.Prelude.{◌≡◌, ℕ, Option, Result, Ok, Err}
use Rattle.dm_stream.specs.Trees.{Trees, no_trees}
use Rattle.dm_stream.specs.declared.tokens.Span.{Span}
use Rattle.dm_stream.specs.declared.error.Kind.TheVariants.{AttrMixed}
use Rattle.dm_stream.specs.declared.error.Refusal.{Refusal}
use Rattle.dm_ast.specs.declared.plain.Attribute.{Attribute}
use Rattle.dm_attr.specs.declared.either.Either.{Either}
use Rattle.dm_attr.specs.declared.either.Either.TheVariants.{Left, Right}
use Rattle.dm_attr.specs.declared.spanning.Spanning.{Spanning}
use Rattle.dm_attr.specs.Meanings.{Meaning}
use Rattle.dm_attr.specs.Folding.{Continues}

-- f or g of the side that is there
abbrev pub either : {L R T : Type 0} → (L → T) → (R → T) → Either L R → T
either f g (Left x) = f x
either f g (Right y) = g y

-- P or Q of the side that is there
abbrev pub MatchEither : {L R : Type 0} → Either L R → (L → Type 0) → (R → Type 0) → Type 0
MatchEither (Left x) P Q = P x
MatchEither (Right y) P Q = Q y

-- both are the left side, related by P, or the right one, related by Q
abbrev pub SameSide : {L R : Type 0} → (L → L → Type 0) → (R → R → Type 0) → Either L R → Either L R → Type 0
SameSide P Q e f = MatchEither e (λ x. MatchEither f (P x) (λ _. ⊥)) (λ y. MatchEither f (λ _. ⊥) (Q y))

-- the iterator that is there takes the step
abbrev pub either_steps : {S T A : Type 0} → (S → Option A → S → Type 0) → (T → Option A → T → Type 0) →
    Either S T → Option A → Either S T → Type 0
either_steps lefts rights s item t = SameSide (λ x. lefts x item) (λ y. rights y item) s t

abbrev pub as_right : {L R : Type 0} → (Result (R × Trees) Refusal → Type 0) → Result (Either L R × Trees) Refusal → Type 0
as_right {L} {R} right answer = (read : Result (R × Trees) Refusal) × right read × Continues read (λ r a. a ≡ Ok (Right r.0, r.1)) answer

-- what the left kind read to the end is the answer, else what the right one reads
abbrev pub BehindLeft : {L R : Type 0} → (Result (R × Trees) Refusal → Type 0) → Result (L × Trees) Refusal →
    Result (Either L R × Trees) Refusal → Type 0
BehindLeft right (Ok (x, no_trees)) answer = answer ≡ Ok (Left x, no_trees)
BehindLeft right (Ok (x, rest)) answer = as_right right answer
BehindLeft right (Err r) answer = as_right right answer

-- the left kind where the whole reads as it, else the right one
abbrev pub ReadsEither : {L R : Type 0} → (Trees → ℕ → Result (L × Trees) Refusal → Type 0) →
    (Trees → ℕ → Result (R × Trees) Refusal → Type 0) → Trees → ℕ → Result (Either L R × Trees) Refusal → Type 0
ReadsEither {L} {R} left right ts n answer =
    (read : Result (L × Trees) Refusal) × left ts n read × BehindLeft (right ts n) read answer

abbrev pub BehindLeftOf : {L R : Type 0} → (Result R Refusal → Type 0) → Result L Refusal → Result (Either L R) Refusal → Type 0
BehindLeftOf right (Ok x) answer = answer ≡ Ok (Left x)
BehindLeftOf {L} {R} right (Err e) answer = (read : Result R Refusal) × right read × Continues read (λ y a. a ≡ Ok (Right y)) answer

-- the left kind where the attribute reads as it, else the right one
abbrev pub ReadsEitherOf : {L R : Type 0} → (Attribute → Meaning → Result L Refusal → Type 0) →
    (Attribute → Meaning → Result R Refusal → Type 0) → Attribute → Meaning → Result (Either L R) Refusal → Type 0
ReadsEitherOf {L} {R} left right a m answer =
    (read : Result L Refusal) × left a m read × BehindLeftOf (right a m) read answer

abbrev pub spanning : {T : Type 0} → Span → T → Spanning T
spanning s x = record { span = s; item = x }

abbrev pub MergesSides : {L R : Type 0} → (Spanning L → Spanning L → Result (Spanning L) Refusal → Type 0) →
    (Spanning R → Spanning R → Result (Spanning R) Refusal → Type 0) →
    Span → Either L R → Span → Either L R → Result (Spanning (Either L R)) Refusal → Type 0
MergesSides {L} {R} left right s (Left x) t (Left y) answer =
    (merged : Result (Spanning L) Refusal) × left (spanning s x) (spanning t y) merged ×
    Continues merged (λ m a. a ≡ Ok (spanning m.span (Left m.item))) answer
MergesSides {L} {R} left right s (Right x) t (Right y) answer =
    (merged : Result (Spanning R) Refusal) × right (spanning s x) (spanning t y) merged ×
    Continues merged (λ m a. a ≡ Ok (spanning m.span (Right m.item))) answer
MergesSides left right s (Left x) t (Right y) answer = answer ≡ Err (record { kind = AttrMixed; span = t })
MergesSides left right s (Right x) t (Left y) answer = answer ≡ Err (record { kind = AttrMixed; span = t })

-- two of one kind merge as that kind does; of two kinds the later is refused
abbrev pub MergesEither : {L R : Type 0} → (Spanning L → Spanning L → Result (Spanning L) Refusal → Type 0) →
    (Spanning R → Spanning R → Result (Spanning R) Refusal → Type 0) →
    Spanning (Either L R) → Spanning (Either L R) → Result (Spanning (Either L R)) Refusal → Type 0
MergesEither left right prev next answer = MergesSides left right prev.span prev.item next.span next.item answer
