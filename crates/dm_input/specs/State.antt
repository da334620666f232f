-- What contracts see of an input: the trees that are left, and where their list stands.
use Rattle.std.specs.Prelude.{ℕ, refl}
use Rattle.std.specs.Coded.{Coded, code_by, coded×, coded_ℕ}
use Rattle.dm_stream.specs.Trees.{Trees, coded_trees}
use Rattle.dm_ast.specs.Spelling.{Where}

pub record State : Type 0 where
  pub trees : Trees
  pub at : Where

abbrev pub state_code : Coded State
state_code =
    code_by (Trees × (ℕ × ℕ)) (coded× coded_trees (coded× coded_ℕ coded_ℕ)) (λ s. (s.trees, (s.at.level, s.at.limit)))
    (λ p. record { trees = p.0; at = record { level = p.1.0; limit = p.1.1 } }) (λ _. refl)
