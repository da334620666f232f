-- Whole declarations: what the program's reader decides, once types and bounds are decided.
use Rattle.std.proofs.Common.{ℕ, false, Result, Ok, Err, IfOk, IfErr, subst}
use Rattle.dm_stream.specs.declared.error.Error.{Error}
use Rattle.dm_stream.specs.declared.error.Error.TheVariants as error
use Rattle.dm_stream.specs.Trees.{Trees}
use Rattle.dm_ast.specs.declared.decl.DeriveInput.{DeriveInput}
use Rattle.dm_ast.specs.Declarations.{declaration_view}
use Rattle.dm_ast.specs.Spelling.{Where}
use Rattle.dm_ast.specs.TypeGrammar.{bound, type_spelled}
use Rattle.dm_ast.specs.DeclarationGrammar.{IsDeclaration}
use Rattle.dm_read.specs.DeclarationReaders.{read_declaration}
use Rattle.dm_ast.specs.Runs.{run, read_run}
use Rattle.dm_read_paths.specs.WholeReaders.{whole_type, whole_bound, parts, ReadsWhole}
use Rattle.dm_read.proofs.Deciding.{Reader}
use Rattle.dm_grammar_laws.proofs.DeclarationSteps.{DecidesDeclaration, NoDeclaration}
use Rattle.dm_grammar_laws.proofs.DeclarationRules.{declaration-decides, parts_decided}
use Rattle.dm_grammar_laws.proofs.Runs.{reads_run}

module _ (types : (w : Where) → Reader (λ t. type_spelled t false w) (whole_type w)) (bounds : (w : Where) → Reader (λ b. bound b w) (whole_bound w)) (limit : ℕ) (ts : Trees) where
  pub whole-decides : DecidesDeclaration run limit ts (read_declaration parts limit ts)
  whole-decides = declaration-decides run parts (parts_decided run whole_type whole_bound read_run types bounds reads_run) limit ts

  -- the declaration that the program gives is the one of the trees
  pub whole_found : (r : Result DeriveInput Error) → ReadsWhole (read_declaration parts limit ts) r → IfOk r (λ d. IsDeclaration run (declaration_view d) limit ts)
  whole_found (Ok d) h = subst (DecidesDeclaration run limit ts) h whole-decides
  whole_found (Err e) h = tt

  -- and where it refuses them, they are none
  pub whole_refused : (r : Result DeriveInput Error) → ReadsWhole (read_declaration parts limit ts) r → IfErr r (λ e. NoDeclaration e limit ts)
  whole_refused (Ok d) h = tt
  whole_refused (Err (error.Refused r)) h = subst (DecidesDeclaration run limit ts) h whole-decides
  whole_refused (Err error.NoMemory) h = tt
