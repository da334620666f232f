-- What a reader's outcome says of a declaration.
use Rattle.std.specs.Prelude.{ℕ, Result, Ok, Err}
use Rattle.dm_stream.specs.declared.error.Error.{Error}
use Rattle.dm_stream.specs.declared.error.Error.TheVariants as error
use Rattle.dm_stream.specs.declared.error.Refusal.{Refusal}
use Rattle.dm_stream.specs.Trees.{Trees}
use Rattle.dm_ast.specs.declared.plain.Opaque.{Opaque}
use Rattle.dm_ast.specs.Declarations.{Declaration}
use Rattle.dm_ast.specs.Spelling.{Where, Spelling}
use Rattle.dm_ast.specs.DeclarationGrammar.{IsDeclaration, IsNoDeclaration}
use Rattle.dm_ast.specs.Runs.{run}

abbrev pub DecidesDeclaration : (Opaque → Where → Spelling) → ℕ → Trees → Result Declaration Refusal → Type 0
DecidesDeclaration run limit ts (Ok d) = IsDeclaration run d limit ts
DecidesDeclaration run limit ts (Err r) = IsNoDeclaration run r.kind r.span limit ts

-- why a list of trees is refused: it is no declaration, or memory failed
abbrev pub NoDeclaration : Error → ℕ → Trees → Type 0
NoDeclaration (error.Refused r) limit ts = IsNoDeclaration run r.kind r.span limit ts
NoDeclaration error.NoMemory limit ts = Unit {0}
