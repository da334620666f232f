-- The values that placeholders take (std::fmt, "Positional parameters", "Precision"), and the traits that they ask for.
use Rattle.std.specs.Prelude.{◌≡◌, ℕ, ◌+◌, Bool, true, false, not, ◌||◌, Option, None, Some, List, [], ◌∷◌, map, codes}
use Rattle.std.specs.Option.{is_some}
use Rattle.dm_fmtstr.specs.Parts.{Argument, position, name, Precision, counted, starred, Spec, Format}
use Rattle.dm_fmtstr.specs.Grammar.{Formats, HasNoFormats}
use Rattle.dm_fmtstr.specs.declared.kind.FmtType.{FmtType}
use Rattle.dm_fmtstr.specs.declared.kind.FmtType.TheVariants as kind
use Rattle.dm_fmtstr.specs.declared.placeholder.Parameter.{Parameter as ParameterValue}
use Rattle.dm_fmtstr.specs.declared.placeholder.Parameter.TheVariants as value
use Rattle.dm_fmtstr.specs.declared.placeholder.Placeholder.{Placeholder as PlaceholderValue}

-- a placeholder with the value that it takes, by its position or its name
pub record Placeholder : Type 0 where
  pub arg : Argument
  pub has_modifiers : Bool
  pub trait_name : List ℕ

-- the variant's own name, but `Debug` for LowerDebug and UpperDebug
abbrev pub trait_name : FmtType → List ℕ
trait_name kind.Display = codes "Display"
trait_name kind.Debug = codes "Debug"
trait_name kind.LowerDebug = codes "Debug"
trait_name kind.UpperDebug = codes "Debug"
trait_name kind.Octal = codes "Octal"
trait_name kind.LowerHex = codes "LowerHex"
trait_name kind.UpperHex = codes "UpperHex"
trait_name kind.Pointer = codes "Pointer"
trait_name kind.Binary = codes "Binary"
trait_name kind.LowerExp = codes "LowerExp"
trait_name kind.UpperExp = codes "UpperExp"

-- whether the trait is meant without more
abbrev pub is_trivial : FmtType → Bool
is_trivial kind.Display = true
is_trivial kind.Debug = true
is_trivial kind.LowerDebug = false
is_trivial kind.UpperDebug = false
is_trivial kind.Octal = true
is_trivial kind.LowerHex = true
is_trivial kind.UpperHex = true
is_trivial kind.Pointer = true
is_trivial kind.Binary = true
is_trivial kind.LowerExp = true
is_trivial kind.UpperExp = true

-- any part but the kind is there, or the kind is one of these two
abbrev pub is_modified : Spec → Bool
is_modified s =
    is_some s.align || is_some s.sign || is_some s.alternate || is_some s.zero_padding || is_some s.width || is_some s.precision ||
    not (is_trivial s.ty)

abbrev pub has_modifiers : Option Spec → Bool
has_modifiers None = false
has_modifiers (Some s) = is_modified s

-- the trait that a placeholder asks for
abbrev pub asked : Option Spec → FmtType
asked None = kind.Display
asked (Some s) = s.ty

-- how many positions a precision takes
abbrev pub stars : Option Precision → ℕ
stars None = 0
stars (Some (counted c)) = 0
stars (Some starred) = 1

abbrev pub stars_of : Option Spec → ℕ
stars_of None = 0
stars_of (Some s) = stars s.precision

-- and how many a placeholder takes for its own value
abbrev pub own : Option Argument → ℕ
own None = 1
own (Some a) = 0

-- the argument of a placeholder, where the next position is n
abbrev pub argument_from : ℕ → Option Argument → Argument
argument_from n None = position n
argument_from n (Some a) = a

abbrev pub placeholder_at : ℕ → Format → Placeholder
placeholder_at n f = record { arg = argument_from n f.arg; has_modifiers = has_modifiers f.spec; trait_name = trait_name (asked f.spec) }

-- a placeholder without an argument takes the next position; a precision `*` takes the next position first
abbrev pub placeholders_from : ℕ → List Format → List Placeholder
placeholders_from n [] = []
placeholders_from n (f ∷ fs) = placeholder_at (n + stars_of f.spec) f ∷ placeholders_from (n + stars_of f.spec + own f.arg) fs

-- positions are counted from 0
abbrev pub placeholders : List Format → List Placeholder
placeholders fs = placeholders_from 0 fs

-- the placeholders of a text, or none where it is no format string
pub data ArePlaceholdersOf (cs : List ℕ) (ps : List Placeholder) : Type 0 where
  of_string : (fs : List Format) → Formats cs fs → ps ≡ placeholders fs → ArePlaceholdersOf cs ps
  of_none : HasNoFormats cs → ps ≡ [] → ArePlaceholdersOf cs ps

-- ---- of the program's values

abbrev pub parameter_of : ParameterValue → Argument
parameter_of (value.Positional n) = position n
parameter_of (value.Named text) = name text.now

abbrev pub placeholder_of : PlaceholderValue → Placeholder
placeholder_of p = record { arg = parameter_of p.arg; has_modifiers = p.has_modifiers; trait_name = p.trait_name.now }

abbrev pub placeholders_of : List PlaceholderValue → List Placeholder
placeholders_of ps = map placeholder_of ps
