-- Characters by name, beside those of `dm_lexer`.
use Rattle.std.specs.Prelude.{ℕ}

abbrev pub capital_x : ℕ
capital_x = 88

abbrev pub small_p : ℕ
small_p = 112
