-- A part alone in a group, over an input.
use Rattle.std.proofs.Common.{◌≡◌, ◌∙◌, true, false, if◌then◌else◌, Ok, Err, sym, ap, subst}
use Rattle.std.specs.Prelude.{Result, MatchResult, IsErrAnd}
use Rattle.dm_stream.specs.Cursors.{front_span}
use Rattle.dm_stream.specs.declared.error.Error.{Error}
use Rattle.dm_stream.specs.declared.error.Error.TheVariants as error
use Rattle.dm_stream.specs.declared.error.Kind.TheVariants.{Syntax}
use Rattle.dm_stream.specs.declared.error.Refusal.{Refusal}
use Rattle.dm_stream.specs.declared.tokens.Delim.{Delim}
use Rattle.dm_ast.specs.Spelling.{Where, at_end}
use Rattle.dm_ast.specs.Readers.{Parser, and_then, refuse, open_group, within_group, ended, read_group}
use Rattle.dm_read.proofs.Deciding.{pair}
use Rattle.dm_input.specs.State.{State}
use Rattle.dm_input.specs.Inputs.{Reads, Opens}

same_refusal : (r s : Refusal) → error.Refused r ≡ error.Refused s → r ≡ s
same_refusal r s e = cc

-- alone in a group
module _ {A X : Type 0} (f : X → A) (d : Delim) (q : Where → Parser A) (old inside gone new : State) (opened : Opens (open_group d) old (Ok inside) new) where
  inside_read : read_group d q old.at old.trees ≡ and_then (q inside.at inside.trees) (ended inside.at new.trees)
  inside_read = ap (within_group q old.at) opened.0 ∙ ap (λ w. and_then (q w inside.trees) (ended w new.trees)) (sym opened.1.0)

  pub refused_inside : (e : Error) → Reads f q inside (Err e) gone → (s : Result X Error) → IsErrAnd s (λ t. t ≡ e) → Reads f (λ w. read_group d q w) old s new
  refused_inside e h (Ok x) m = absurd m
  refused_inside error.NoMemory h (Err t) m = rw m tt
  refused_inside (error.Refused r) h (Err t) m = rw m (inside_read ∙ ap (λ o. and_then o (ended inside.at new.trees)) h)

  module _ (x : X) (first : q inside.at inside.trees ≡ Ok (pair (f x) gone.trees)) (same : gone.at ≡ inside.at) where
    ending : read_group d q old.at old.trees ≡ (if at_end gone.trees then Ok (pair (f x) new.trees) else refuse inside.at gone.trees)
    ending = inside_read ∙ ap (λ o. and_then o (ended inside.at new.trees)) first

    abbrev pub Closes : Result (Unit {0}) Error → Type 0
    Closes t =
        MatchResult t (λ _. at_end gone.trees ≡ true)
        (λ e. (at_end gone.trees ≡ false) × (e ≡ error.Refused (record { kind = Syntax; span = front_span gone.trees gone.at.limit })))

    pub ended_inside : (t : Result (Unit {0}) Error) → Closes t → (s : Result X Error) → MatchResult s (λ r. (t ≡ Ok tt) × (r ≡ x)) (λ e. t ≡ Err e) → Reads f (λ w. read_group d q w) old s new
    ended_inside t closed (Ok r) m =
        let at : Closes (Ok tt) = subst Closes m.0 closed in
        (ending ∙ ap (λ b. if b then Ok (pair (f x) new.trees) else refuse inside.at gone.trees) at ∙ ap (λ y. Ok (pair (f y) new.trees)) (sym m.1), opened.1.1)
    ended_inside t closed (Err (error.Refused e)) m =
        let at : Closes (Err (error.Refused e)) = subst Closes m closed in
        let there : e ≡ record { kind = Syntax; span = front_span gone.trees gone.at.limit } = same_refusal _ _ at.1 in
        ending ∙ ap (λ b. if b then Ok (pair (f x) new.trees) else refuse inside.at gone.trees) at.0 ∙
        ap (λ w. refuse w gone.trees) (sym same) ∙ ap (λ r. Err r) (sym there)
    ended_inside t closed (Err error.NoMemory) m = tt
