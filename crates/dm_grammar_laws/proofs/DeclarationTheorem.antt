-- Whole declarations: types and bounds are decided, so what the program's reader answers is decided too.
use Rattle.std.proofs.Common.{◌≡◌, ℕ, false, Result, Ok, Err, IfOk, IfErr, refl, arith}
use Rattle.dm_stream.specs.declared.error.Error.{Error}
use Rattle.dm_stream.specs.declared.error.Error.TheVariants as error
use Rattle.dm_stream.specs.declared.error.Kind.{Kind}
use Rattle.dm_stream.specs.declared.error.Kind.TheVariants.{TooDeep, Syntax}
use Rattle.dm_stream.specs.declared.error.Refusal.{Refusal}
use Rattle.dm_stream.specs.Trees.{Trees}
use Rattle.dm_ast.specs.declared.decl.DeriveInput.{DeriveInput}
use Rattle.dm_ast.specs.Declarations.{declaration_view}
use Rattle.dm_ast.specs.Spelling.{Where}
use Rattle.dm_ast.specs.TypeGrammar.{bound, type_spelled}
use Rattle.dm_ast.specs.DeclarationGrammar.{IsNoDeclaration}
use Rattle.dm_read.specs.DeclarationReaders.{read_declaration}
use Rattle.dm_ast.specs.Runs.{run}
use Rattle.dm_ast.specs.Places.{IsRefusedAt}
use Rattle.dm_ast.specs.Parsed.{IsTheDeclaration, IsUnread, IsRefusal}
use Rattle.dm_read_paths.specs.WholeReaders.{whole_type, whole_bound, parts, ReadsWhole}
use Rattle.dm_read.proofs.Deciding.{Reader}
use Rattle.dm_grammar_laws.proofs.DeclarationSteps.{NoDeclaration}
use Rattle.dm_grammar_laws.proofs.WholeDeclarations.{whole_found, whole_refused}
use Rattle.dm_grammar_laws.proofs.TypeTheorem.{type_decided, bound_decided}
use Rattle.dm_grammar_laws.proofs.LicensedDeclarations.{declaration_refused_at}

types_decided : (w : Where) → Reader (λ t. type_spelled t false w) (whole_type w)
unfolding whole_type
types_decided w = type_decided w

bounds_decided : (w : Where) → Reader (λ b. bound b w) (whole_bound w)
unfolding whole_bound
bounds_decided w = bound_decided w

-- what a refusal of the kind says, by where it stands
unread_by : (k : Kind) (limit : ℕ) (ts : Trees) (r : Refusal) → r.kind ≡ k → IsRefusedAt 0 limit r ts → IsNoDeclaration run k r.span limit ts →
    IsUnread k r.span limit ts
unread_by TooDeep limit ts r q p h = record { first = h; place = p.place; deep = omega (arith, p.deep q) }
unread_by Syntax limit ts r q p h = record { none = h; place = p.place }
unread_by _ limit ts r q p h = absurd h

module _ (limit : ℕ) (ts : Trees) where
  refusal_by : (e : Error) → ReadsWhole (read_declaration parts limit ts) (Err e) → NoDeclaration e limit ts → IsRefusal e limit ts
  refusal_by (error.Refused r) h n = unread_by r.kind limit ts r refl (declaration_refused_at limit ts r h) n
  refusal_by error.NoMemory h n = tt

  pub decl_found : (r : Result DeriveInput Error) → ReadsWhole (read_declaration parts limit ts) r → IfOk r (λ d. IsTheDeclaration (declaration_view d) limit ts)
  decl_found = whole_found types_decided bounds_decided limit ts

  pub decl_refused : (r : Result DeriveInput Error) → ReadsWhole (read_declaration parts limit ts) r → IfErr r (λ e. IsRefusal e limit ts)
  decl_refused (Ok d) h = tt
  decl_refused (Err e) h = refusal_by e h (whole_refused types_decided bounds_decided limit ts (Err e) h)
