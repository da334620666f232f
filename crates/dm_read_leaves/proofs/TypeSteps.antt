-- Types read by the reader of declarations.
use Rattle.std.proofs.Common.{◌≡◌, ℕ, Some, None, Ok, Err, sym, ap, ◌∙◌}
use Rattle.std.proofs.lemmas.Grind.{common_steps}
use Rattle.dm_stream.specs.declared.error.Refusal.{Refusal}
use Rattle.dm_stream.specs.Trees.{Trees}
use Rattle.dm_ast.specs.Tree.{TypeTree}
use Rattle.dm_ast.specs.TypeTokens.{type_trees}
use Rattle.dm_read_paths.specs.WholeReaders.{whole_type}
use Rattle.dm_reread.specs.TypeLeaves.{answer_of, read_type}
use Rattle.dm_reread.specs.ExactLeaves.{exactly}
use Rattle.dm_reread.proofs.FreeDeclarations.{type_free}

pub type_read : (limit : ℕ) (ts us : Trees) (x : TypeTree) → whole_type (record { level = 0; limit = limit }) ts ≡ Ok (x, us) →
    read_type ts ≡ Some (x, us)
type_read limit ts us x e = sym (type_free limit ts) ∙ ap answer_of e

pub type_refused : (limit : ℕ) (ts : Trees) (r : Refusal) → whole_type (record { level = 0; limit = limit }) ts ≡ Err r → read_type ts ≡ None
type_refused limit ts r e = sym (type_free limit ts) ∙ ap answer_of e

pub no_exact_type : (ts : Trees) → read_type ts ≡ None → exactly type_trees ts (read_type ts) ≡ None
no_exact_type ts e = ap (exactly type_trees ts) e

pub ruleset type_steps = (common_steps, type_read, type_refused, no_exact_type)
