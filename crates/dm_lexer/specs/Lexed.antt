-- What a text is read as.
use Rattle.std.specs.Prelude.{◌≡◌, ℕ, List, length, Result, IfOk, IfErr}
use Rattle.dm_stream.specs.Trees.{Stream}
use Rattle.dm_stream.specs.declared.error.Error.{Error}
use Rattle.dm_lexer.specs.Nesting.{IsTreesOf, AreTheOnly, IsWholeWithin, IsRefusalWithin}
use Rattle.dm_lexer.specs.Ranges.{AreSpelled}
use Rattle.dm_lexer.specs.Written.{AreWritable}

-- the trees of the text, where a token may stand inside `deepest` groups, or its refusal
pub record IsLexed (deepest : ℕ) (text : List ℕ) (r : Result Stream Error) : Type 0 where
  pub trees : IfOk r (λ s. IsTreesOf text s.trees)
  pub only : IfOk r (λ s. AreTheOnly text s.trees)
  pub spelled : IfOk r (λ s. AreSpelled text s.trees)
  pub writable : IfOk r (λ s. AreWritable s.trees)
  pub limit : IfOk r (λ s. s.limit ≡ length text)
  pub whole : IfOk r (λ _. IsWholeWithin deepest text)
  pub refused : IfErr r (λ e. IsRefusalWithin deepest text e)
