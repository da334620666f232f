-- The steps of reading a stream whole: what is known of its front, and of what is left behind it.
use Rattle.std.proofs.Common.{◌≡◌, ℕ, true, false, if◌then◌else◌, Ok, Err, sym, ap, ap₂, ◌∙◌, subst}
use Rattle.std.specs.Prelude.{Result, IsErrAnd, MatchResult}
use Rattle.dm_stream.specs.declared.error.Error.{Error}
use Rattle.dm_stream.specs.declared.error.Error.TheVariants as error
use Rattle.dm_stream.specs.declared.error.Refusal.{Refusal}
use Rattle.dm_stream.specs.declared.error.Kind.TheVariants.{Syntax}
use Rattle.dm_stream.specs.declared.cursor.Cursor.{Cursor}
use Rattle.dm_stream.specs.Trees.{Trees, no_trees}
use Rattle.dm_stream.specs.Cursors.{left, end_of, front_span}
use Rattle.dm_ast.specs.declared.decl.DeriveInput.{DeriveInput}
use Rattle.dm_ast.specs.Declarations.{Declaration, declaration_view}
use Rattle.dm_ast.specs.Spelling.{at_end}
use Rattle.dm_ast.specs.Readers.{Outcome, and_then, ended, refuse, place}
use Rattle.dm_read.specs.DeclarationReaders.{value_of, read_front, read_declaration}
use Rattle.dm_read_paths.specs.WholeReaders.{parts, ReadsWhole}
use Rattle.dm_read.proofs.Deciding.{pair}
use Rattle.dm_input.specs.State.{State}
use Rattle.dm_input.specs.Inputs.{Reads}

-- whether anything is left of an input
abbrev Closes : State → Result (Unit {0}) Error → Type 0
Closes new end =
    MatchResult end (λ _. at_end new.trees ≡ true)
    (λ e. (at_end new.trees ≡ false) × (e ≡ error.Refused (record { kind = Syntax; span = front_span new.trees new.at.limit })))

module _ (limit : ℕ) (ts : Trees) (c : Cursor) (trees : left c ≡ ts) (ends : end_of c ≡ limit) (old : State) (begins : old ≡ record { trees = left c; at = place 0 c }) where
  abbrev whole : Result Declaration Refusal
  whole = read_declaration parts limit ts

  -- what is made of the front
  abbrev closed : Outcome Declaration → Result Declaration Refusal
  closed o = value_of (and_then o (ended old.at no_trees))

  by_front : whole ≡ closed (read_front parts old.at old.trees)
  by_front =
      ap₂ (read_declaration parts) (sym ends) (sym trees) ∙
      ap (λ (s : State). value_of (and_then (read_front parts s.at s.trees) (ended s.at no_trees))) (sym begins)

  -- the front is refused, or memory fails there
  pub front_refused : (new : State) (e : Error) → Reads {A = Declaration} {X = DeriveInput} declaration_view (read_front parts) old (Err e) new →
      (res : Result DeriveInput Error) → IsErrAnd res (λ d. d ≡ e) → ReadsWhole whole res
  front_refused new e h (Ok d) k = absurd k
  front_refused new error.NoMemory h (Err d) k = rw k tt
  front_refused new (error.Refused r) h (Err d) k = rw k (by_front ∙ ap closed h)

  -- it is read, and what is left decides
  pub front_read : (new : State) (d : DeriveInput) → Reads {A = Declaration} {X = DeriveInput} declaration_view (read_front parts) old (Ok d) new →
      (end : Result (Unit {0}) Error) → Closes new end → (res : Result DeriveInput Error) →
      MatchResult res (λ x. (end ≡ Ok tt) × (x ≡ d)) (λ e. end ≡ Err e) → ReadsWhole whole res
  front_read new d h end k (Ok x) j =
      by_front ∙ ap closed h.0 ∙
      ap (λ b. value_of (if b then Ok (pair (declaration_view d) no_trees) else refuse old.at new.trees)) (subst (Closes new) j.0 k) ∙
      ap (λ y. Ok (declaration_view y)) (sym j.1)
  front_read new d h end k (Err e) j =
      let q = subst (Closes new) j k in
      subst (λ x. ReadsWhole whole (Err x)) (sym q.1)
      (by_front ∙ ap closed h.0 ∙ ap (λ b. value_of (if b then Ok (pair (declaration_view d) no_trees) else refuse old.at new.trees)) q.0 ∙
      ap (λ w. Err (record { kind = Syntax; span = front_span new.trees w.limit })) (sym h.1))
