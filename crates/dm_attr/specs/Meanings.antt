-- What a parser knows.
use Rattle.std.specs.Prelude.{ℕ, Bool, false}
use Rattle.dm_stream.specs.Trees.{Trees}

-- whether the contents of an attribute, with their end, are in each legacy form
pub record Meaning : Type 0 where
  pub types : Trees → ℕ → Bool
  pub conversions : Trees → ℕ → Bool

-- nothing is in a legacy form
abbrev pub knows_none : Meaning
knows_none = record { types = λ _ _. false; conversions = λ _ _. false }
