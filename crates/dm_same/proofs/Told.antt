-- What the program tells of two values of an enum without fields by `==`.
use Rattle.std.proofs.Common.{◌≡◌, nat_eq, refl, ap₂}
use denote.Enum.Bare.{sameb}
use denote.Enum.Declared.{tag_of}
use Rattle.dm_stream.specs.contracts.tokens.Delim as delim
use Rattle.dm_stream.specs.contracts.tokens.Spacing as spacing
use Rattle.dm_stream.specs.contracts.tokens.LitKind as kind
use Rattle.dm_stream.specs.declared.tokens.Delim.{Delim}
use Rattle.dm_stream.specs.declared.tokens.Delim.TheVariants.{Paren, Bracket, Brace}
use Rattle.dm_stream.specs.declared.tokens.Spacing.{Spacing}
use Rattle.dm_stream.specs.declared.tokens.Spacing.TheVariants.{Joint, Alone}
use Rattle.dm_stream.specs.declared.tokens.LitKind.{LitKind}
use Rattle.dm_stream.specs.declared.tokens.LitKind.TheVariants as lit
use Rattle.dm_stream.specs.Cursors.{same_delim}
use Rattle.dm_same.specs.SameTypes.{same_spacing, kind_number}

pub delims_told : (a b : Delim) → sameb delim.the_type a b ≡ same_delim a b
delims_told Paren Paren = refl
delims_told Paren Bracket = refl
delims_told Paren Brace = refl
delims_told Bracket Paren = refl
delims_told Bracket Bracket = refl
delims_told Bracket Brace = refl
delims_told Brace Paren = refl
delims_told Brace Bracket = refl
delims_told Brace Brace = refl

pub spacings_told : (a b : Spacing) → sameb spacing.the_type a b ≡ same_spacing a b
spacings_told Joint Joint = refl
spacings_told Joint Alone = refl
spacings_told Alone Joint = refl
spacings_told Alone Alone = refl

kind_tag : (k : LitKind) → tag_of kind.the_type k ≡ kind_number k
kind_tag lit.Str = refl
kind_tag lit.RawStr = refl
kind_tag lit.ByteStr = refl
kind_tag lit.RawByteStr = refl
kind_tag lit.CStr = refl
kind_tag lit.RawCStr = refl
kind_tag lit.Char = refl
kind_tag lit.Byte = refl
kind_tag lit.Int = refl

pub kinds_told : (a b : LitKind) → sameb kind.the_type a b ≡ nat_eq (kind_number a) (kind_number b)
kinds_told a b = ap₂ (λ m n. nat_eq m n) (kind_tag a) (kind_tag b)

pub ruleset told_steps = (delims_told, spacings_told, kinds_told)
