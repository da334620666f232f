-- What a trait answers of a declaration.
use Rattle.std.specs.Prelude.{Result}
use Rattle.dm_stream.specs.declared.error.Error.{Error}
use Rattle.dm_ast.specs.Declarations.{Declaration}
use Rattle.dm_expansion.specs.declared.expansion.Expansion.{Expansion}
use Rattle.dm_attr.specs.Answers.{IsWalked}
use Rattle.dm_cmp_ops.specs.Expanded.{IsReadOf}
use Rattle.dm_printed.specs.Traits.{Trait, refusal, IsExpanded}

-- want of memory aside: an expansion where nothing is refused, whose implementations are those that its text is of, ranges aside; and else
-- the first refusal
abbrev pub TraitAnswers : Trait → Declaration → Result Expansion Error → Type 0
TraitAnswers t d r = IsWalked (refusal t d) (λ x. IsReadOf (IsExpanded t d) x) r
