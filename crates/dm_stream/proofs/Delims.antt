-- Delimiters that the program tells to be the same.
use Rattle.std.specs.Prelude.{◌≡◌, true, false, not, refl}
use denote.Enum.Bare.{sameb}
use Rattle.dm_stream.specs.contracts.tokens.Delim.{the_type}
use Rattle.dm_stream.specs.declared.tokens.Delim.{Delim}
use Rattle.dm_stream.specs.declared.tokens.Delim.TheVariants.{Paren, Bracket, Brace}
use Rattle.dm_stream.specs.Cursors.{same_delim}

pub told_same : (a b : Delim) → not (sameb the_type a b) ≡ false → same_delim a b ≡ true
told_same Paren Paren h = refl
told_same Bracket Bracket h = refl
told_same Brace Brace h = refl
told_same Paren Bracket h = absurd (cc)
told_same Paren Brace h = absurd (cc)
told_same Bracket Paren h = absurd (cc)
told_same Bracket Brace h = absurd (cc)
told_same Brace Paren h = absurd (cc)
told_same Brace Bracket h = absurd (cc)
