-- Which attributes of a place are refused, and where.
use Rattle.std.specs.Prelude.{◌≡◌, ℕ, List, [], ◌∷◌, Bool, cond, Option, Some, None, Result, codes, filter}
use Rattle.std.specs.Option.{option_or}
use Rattle.dm_stream.specs.declared.error.Error.{Error}
use Rattle.dm_stream.specs.declared.error.Kind.{Kind}
use Rattle.dm_stream.specs.declared.error.Kind.TheVariants.{AttrSyntax, AttrRepeated, AttrNotAllowed}
use Rattle.dm_stream.specs.declared.error.Refusal.{Refusal}
use Rattle.dm_ast.specs.declared.plain.Attribute.{Attribute}
use Rattle.dm_ast.specs.declared.plain.AttrArgs.{AttrArgs}
use Rattle.dm_attr.specs.declared.spanning.Spanning.{Spanning}
use Rattle.dm_attr.specs.Answers.{IsWalked}
use Rattle.dm_attr.specs.Kinds.{forward_in}
use Rattle.dm_attr.specs.Skips.{reads_in, reads_skip, is_examined, is_yes, once_among, is_skipped}

abbrev pub refusal_at : Kind → Attribute → Refusal
refusal_at k a = record { kind = k; span = a.span }

-- ---- attributes of one name, one of which may be given, by which of them read

-- one behind the first: a repetition, or it doesn't read itself
abbrev pub second_refusal : (AttrArgs → Bool) → List Attribute → Option Refusal
second_refusal reads [] = None
second_refusal reads (a ∷ more) = Some (refusal_at (cond (reads a.args) AttrRepeated AttrSyntax) a)

-- the first has to read, and to be the only one
abbrev pub reading_refusal : (AttrArgs → Bool) → List Attribute → Option Refusal
reading_refusal reads [] = None
reading_refusal reads (a ∷ more) = cond (reads a.args) (second_refusal reads more) (Some (refusal_at AttrSyntax a))

-- the first of those that are given
abbrev pub given_refusal : List Attribute → Option Refusal
given_refusal [] = None
given_refusal (a ∷ more) = Some (refusal_at AttrNotAllowed a)

-- the first refusal, or whether the one that is there reads; want of memory aside
abbrev pub IsOnceUnder : (AttrArgs → Bool) → List ℕ → List Attribute → Result Bool Error → Type 0
IsOnceUnder reads name attrs r =
    IsWalked (reading_refusal reads (filter (is_examined name) attrs))
    (λ b. b ≡ is_yes (once_among reads (filter (is_examined name) attrs))) r

-- what was found where none may be given
abbrev pub not_allowed : {T : Type 0} → Spanning T → Refusal
not_allowed s = record { kind = AttrNotAllowed; span = s.span }

-- a refusal, where there is one, and else any value
abbrev pub IsRefusedBy : {A : Type 0} → Option Refusal → Result A Error → Type 0
IsRefusedBy o r = IsWalked o (λ _. Unit {0}) r

-- ---- those that skip

abbrev pub refusal_among : List Attribute → Option Refusal
refusal_among attrs = reading_refusal reads_skip attrs

-- whether a place is skipped under a name
abbrev pub IsSkipUnder : List ℕ → List Attribute → Result Bool Error → Type 0
IsSkipUnder name attrs r = IsOnceUnder reads_skip name attrs r

-- a place that may not be skipped: an attribute that would do so isn't allowed
abbrev pub unskipped_refusal : List ℕ → List Attribute → Option Refusal
unskipped_refusal name attrs = option_or (refusal_among (filter (is_examined name) attrs)) (given_refusal (filter (is_examined name) attrs))

-- ---- those that forward

-- whether a type is forwarded under a name
abbrev pub IsForwardUnder : List ℕ → List Attribute → Result Bool Error → Type 0
IsForwardUnder name attrs r = IsOnceUnder (reads_in forward_in) name attrs r

-- ---- those that `PartialEq` looks at

abbrev pub or_those : List Attribute → List Attribute → List Attribute
or_those [] others = others
or_those (a ∷ more) others = a ∷ more

-- the attributes that count: those under `partial_eq`, or those under `eq` where there are none
abbrev pub that_count : List Attribute → List Attribute
that_count attrs = or_those (filter (is_examined (codes "partial_eq")) attrs) (filter (is_examined (codes "eq")) attrs)

-- the first refusal of a place with these attributes
unfoldable pub place_refusal : List Attribute → Option Refusal
place_refusal attrs = refusal_among (that_count attrs)

-- the attributes that count: the first refusal, or whether the place is skipped; want of memory aside
abbrev pub IsSkipAnswer : List Attribute → Result Bool Error → Type 0
IsSkipAnswer attrs r = IsWalked (place_refusal attrs) (λ b. b ≡ is_skipped attrs) r
