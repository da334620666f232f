-- What the program's readers of metas give, seen by the program's values.
use Rattle.std.proofs.Common.{◌≡◌, ℕ, Bool, Ok, Err, refl, sym, subst, arith}
use Rattle.dm_stream.specs.declared.tokens.Span.{Span}
use Rattle.dm_stream.specs.declared.error.Error.{Error}
use Rattle.dm_stream.specs.declared.error.Error.TheVariants as error
use Rattle.dm_stream.specs.declared.error.Kind.{Kind}
use Rattle.dm_stream.specs.declared.error.Kind.TheVariants.{TooDeep, Syntax}
use Rattle.dm_stream.specs.declared.cursor.Cursor.{Cursor}
use Rattle.dm_stream.specs.declared.error.Refusal.{Refusal}
use Rattle.dm_stream.specs.Trees.{Trees}
use Rattle.dm_stream.specs.Cursors.{left, first_span}
use Rattle.dm_ast.specs.Spelling.{Where, Spelling}
use Rattle.dm_ast.specs.Readers.{Outcome, Parser, Reads, place}
use Rattle.dm_meta.specs.Fronts.{IsFront}
use Rattle.dm_meta.specs.Metas.{IsUnreadMeta, NoMeta}
use Rattle.dm_ast.specs.Places.{IsRefusedAt}
use Rattle.dm_meta.specs.MetaReaders.{refusal_at, error_at}
use Rattle.dm_grammar_laws.proofs.Licensing.{Licenses}
use Rattle.dm_grammar_laws.proofs.LicensedDeclarations.{refused_there}
use Rattle.dm_meta.proofs.FrontParts.{is_front}
use Rattle.dm_meta.proofs.MetaRules.{IsRefusedBut, DecidesBut}

module _ {A X : Type 0} (view : X → A) (S : A → Spelling) (begins : A → Trees → Bool) (limit : ℕ) (ts : Trees) (outcome : Outcome A) (d : DecidesBut S begins ts outcome)
    (p : (r : Refusal) → outcome ≡ Err r → IsRefusedAt 0 limit r ts) where
  meta_found : (x : X × Cursor) → Reads view outcome (Ok x) → IsFront S ts (view x.0) (left x.1)
  meta_found x h = is_front S ts (view x.0) (left x.1) (subst (DecidesBut S begins ts) h d)

  abbrev At : Kind → Span → Type 0
  At k span =
      let r = refusal_at (first_span ts limit) (record { kind = k; span = span }) in
      IsUnreadMeta S begins r.kind r.span limit ts

  unread_there : (k : Kind) (r : Refusal) → r.kind ≡ k → IsRefusedAt 0 limit r ts → IsRefusedBut S begins ts k r.span → At k r.span
  unread_there TooDeep r q h n = record { first = n; place = h.place; deep = omega (arith, h.deep q) }
  unread_there Syntax r q h n = record { none = n; place = refl }
  unread_there _ r q h n = absurd n

  meta_refused : (e : Error) → Reads view outcome (Err e) → NoMeta S begins (error_at (first_span ts limit) e) limit ts
  meta_refused (error.Refused r) h = unread_there r.kind r refl (p r h) (subst (DecidesBut S begins ts) h d)
  meta_refused error.NoMemory h = tt

-- at the level of a stream's own tokens
module _ {A X : Type 0} (view : X → A) (S : A → Where → Spelling) (begins : A → Trees → Bool) (read : Where → Parser A)
    (decided : (w : Where) (ts : Trees) → DecidesBut (λ x. S x w) begins ts (read w ts)) (licensed : (w : Where) → Licenses 0 w (read w)) (c : Cursor) where
  abbrev here : Where
  here = place 0 c

  pub found_at : (x : X × Cursor) → Reads view (read here (left c)) (Ok x) → IsFront (λ y. S y here) (left c) (view x.0) (left x.1)
  found_at = meta_found view (λ y. S y here) begins here.limit (left c) (read here (left c)) (decided here (left c)) (refused_there (licensed here) (left c))

  pub refused_at : (e d : Error) → Reads view (read here (left c)) (Err e) → d ≡ error_at (first_span (left c) here.limit) e → NoMeta (λ y. S y here) begins d here.limit (left c)
  refused_at e d h there =
      subst (λ f. NoMeta (λ y. S y here) begins f here.limit (left c)) (sym there)
      (meta_refused view (λ y. S y here) begins here.limit (left c) (read here (left c)) (decided here (left c)) (refused_there (licensed here) (left c)) e h)
