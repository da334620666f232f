-- The parts of a placeholder as plain data, in which a name is the bytes of its text, and what of it a value of the program stands for.
use Rattle.std.specs.Prelude.{ℕ, Option, List, map}
use Rattle.std.specs.Option.{option_map}
use Rattle.dm_fmtstr.specs.declared.argument.Argument.{Argument as ArgumentValue}
use Rattle.dm_fmtstr.specs.declared.argument.Argument.TheVariants as argument
use Rattle.dm_fmtstr.specs.declared.argument.Count.{Count as CountValue}
use Rattle.dm_fmtstr.specs.declared.argument.Count.TheVariants as count
use Rattle.dm_fmtstr.specs.declared.argument.Precision.{Precision as PrecisionValue}
use Rattle.dm_fmtstr.specs.declared.argument.Precision.TheVariants as precision
use Rattle.dm_fmtstr.specs.declared.spec.Align.{Align}
use Rattle.dm_fmtstr.specs.declared.spec.Sign.{Sign}
use Rattle.dm_fmtstr.specs.declared.spec.Alternate.{Alternate}
use Rattle.dm_fmtstr.specs.declared.spec.ZeroPadding.{ZeroPadding}
use Rattle.dm_fmtstr.specs.declared.spec.FormatSpec.{FormatSpec as SpecValue}
use Rattle.dm_fmtstr.specs.declared.kind.FmtType.{FmtType}
use Rattle.dm_fmtstr.specs.declared.format.Format.{Format as FormatValue}

-- an argument, by its position or its name
pub data Argument : Type 0 where
  position : ℕ → Argument
  name : List ℕ → Argument

-- a width or a precision: a number, or an argument
pub data Count : Type 0 where
  number : ℕ → Count
  parameter : Argument → Count

pub data Precision : Type 0 where
  counted : Count → Precision
  starred : Precision

-- what stands behind `:`
pub record Spec : Type 0 where
  pub align : Option (Option ℕ × Align)
  pub sign : Option Sign
  pub alternate : Option Alternate
  pub zero_padding : Option ZeroPadding
  pub width : Option Count
  pub precision : Option Precision
  pub ty : FmtType

-- a placeholder
pub record Format : Type 0 where
  pub arg : Option Argument
  pub spec : Option Spec

-- ---- of the program's values

abbrev pub argument_of : ArgumentValue → Argument
argument_of (argument.Integer n) = position n
argument_of (argument.Identifier text) = name text.now

abbrev pub count_of : CountValue → Count
count_of (count.Integer n) = number n
count_of (count.Parameter a) = parameter (argument_of a)

abbrev pub precision_of : PrecisionValue → Precision
precision_of (precision.Count c) = counted (count_of c)
precision_of precision.Star = starred

abbrev pub spec_of : SpecValue → Spec
spec_of s = record {
  align = s.align;
  sign = s.sign;
  alternate = s.alternate;
  zero_padding = s.zero_padding;
  width = option_map count_of s.width;
  precision = option_map precision_of s.precision;
  ty = s.ty;
}

abbrev pub format_of : FormatValue → Format
format_of f = record { arg = option_map argument_of f.arg; spec = option_map spec_of f.spec }

abbrev pub formats_of : List FormatValue → List Format
formats_of fs = map format_of fs
