-- What a trait with one implementation is answered with.
use Rattle.std.specs.Prelude.{◌≡◌, ℕ, List, [], ◌∷◌}
use Rattle.dm_output.specs.Output.{ItemTree}
use Rattle.dm_output.specs.Tokens.{printed}

-- the only implementation, which is the emitted one and is one of the trait, and its text
pub record IsExpandedAs (emitted : ItemTree) (IsOne : ItemTree → Type 0) (items : List ItemTree) (text : List ℕ) : Type 0 where
  pub item : ItemTree
  pub one : items ≡ item ∷ []
  pub is_emitted : item ≡ emitted
  pub is_one : IsOne item
  pub text_is : text ≡ printed (item ∷ [])
