-- What several attributes make of a kind that may be given once.
use Rattle.std.proofs.Common.{◌≡◌, ℕ, List, [], ◌∷◌, Option, Some, None, Ok, Err, true, false, cond, filter, ap, ◌∙◌, subst}
use Rattle.std.specs.Prelude.{Result}
use Rattle.dm_stream.specs.declared.tokens.Span.{Span}
use Rattle.dm_stream.specs.declared.error.Kind.TheVariants.{AttrRepeated}
use Rattle.dm_stream.specs.declared.error.Refusal.{Refusal}
use Rattle.dm_ast.specs.declared.plain.Attribute.{Attribute}
use Rattle.dm_attr.specs.declared.spanning.Spanning.{Spanning}
use Rattle.dm_attr.specs.Examined.{is_examined}
use Rattle.dm_attr.specs.Folding.{Continues, MergesOption, EitherWay, spanned, Folds}
use Rattle.dm_attr.specs.Kinds.{MergesNever}

-- the refusal of an attribute behind one that reads
abbrev pub second : {T : Type 0} → Result T Refusal → Span → Refusal
second (Ok x) at = record { kind = AttrRepeated; span = at }
second (Err r) at = r

module _ {T : Type 0} (value : Attribute → Result T Refusal) where
  abbrev pub behind : Option (Spanning T) → List Attribute → Result (Option (Spanning T)) Refusal
  behind found [] = Ok found
  behind found (b ∷ more) = Err (second (value b) b.span)

  abbrev pub beginning : Result T Refusal → Attribute → List Attribute → Result (Option (Spanning T)) Refusal
  beginning (Ok x) a more = behind (spanned x a) more
  beginning (Err r) a more = Err r

  -- nothing, the value of the one attribute, or a refusal
  abbrev pub at_most_one : List Attribute → Result (Option (Spanning T)) Refusal
  at_most_one [] = Ok None
  at_most_one (a ∷ more) = beginning (value a) a more

module _ {T : Type 0} (reads : Attribute → Result T Refusal → Type 0) (value : Attribute → Result T Refusal)
    (reads_value : (a : Attribute) (r : Result T Refusal) → reads a r → r ≡ value a) (name : List ℕ) where
  abbrev Rest : List Attribute → Option (Spanning T) → Result (Option (Spanning T)) Refusal → Type 0
  Rest attrs found answer = Folds reads MergesNever name attrs found answer

  -- an attribute that is read behind another one stops the fold
  read_second : (a : Attribute) (more : List Attribute) (s : Spanning T) (turn answer : Result (Option (Spanning T)) Refusal) (read : Result T Refusal) →
      Continues read (λ item answer. MergesOption MergesNever (Some s) (spanned item a) answer) turn →
      Continues turn (λ found answer. Rest more found answer) answer → answer ≡ Err (second read a.span)
  read_second a more s turn answer (Err e) c k = subst (λ q. Continues q (λ found answer. Rest more found answer) answer) c k
  read_second a more s turn answer (Ok x) (merged, m, c) k =
      let stopped = subst (λ q. Continues q (λ m b. b ≡ Ok (Some m)) turn) m c in
      subst (λ q. Continues q (λ found answer. Rest more found answer) answer) stopped k

  folds_behind : (attrs : List Attribute) (s : Spanning T) (answer : Result (Option (Spanning T)) Refusal) →
      Rest attrs (Some s) answer → answer ≡ behind value (Some s) (filter (is_examined name) attrs)
  folds_behind [] s answer h = h
  folds_behind (a ∷ more) s answer (turn, t, k) =
      (elim (is_examined name a) as (λ v. EitherWay v
      ((read : Result T Refusal) × reads a read × Continues read (λ item answer. MergesOption MergesNever (Some s) (spanned item a) answer) turn)
      (turn ≡ Ok (Some s)) →
      answer ≡ behind value (Some s) (cond v (a ∷ filter (is_examined name) more) (filter (is_examined name) more))) [
        | true ↦ λ r. read_second a more s turn answer r.0 r.2 k ∙ ap (λ q. Err (second q a.span)) (reads_value a r.0 r.1)
        | false ↦ λ e. folds_behind more s answer (subst (λ q. Continues q (λ found answer. Rest more found answer) answer) e k)
      ]) t

  read_first : (a : Attribute) (more : List Attribute) (turn answer : Result (Option (Spanning T)) Refusal) (read : Result T Refusal) →
      Continues read (λ item answer. MergesOption MergesNever None (spanned item a) answer) turn →
      Continues turn (λ found answer. Rest more found answer) answer → answer ≡ beginning value read a (filter (is_examined name) more)
  read_first a more turn answer (Err e) c k = subst (λ q. Continues q (λ found answer. Rest more found answer) answer) c k
  read_first a more turn answer (Ok x) c k =
      folds_behind more (record { span = a.span; item = x }) answer (subst (λ q. Continues q (λ found answer. Rest more found answer) answer) c k)

  pub folds_once : (attrs : List Attribute) (answer : Result (Option (Spanning T)) Refusal) →
      Folds reads MergesNever name attrs None answer → answer ≡ at_most_one value (filter (is_examined name) attrs)
  folds_once [] answer h = h
  folds_once (a ∷ more) answer (turn, t, k) =
      (elim (is_examined name a) as (λ v. EitherWay v
      ((read : Result T Refusal) × reads a read × Continues read (λ item answer. MergesOption MergesNever None (spanned item a) answer) turn)
      (turn ≡ Ok None) →
      answer ≡ at_most_one value (cond v (a ∷ filter (is_examined name) more) (filter (is_examined name) more))) [
        | true ↦ λ r. read_first a more turn answer r.0 r.2 k ∙ ap (λ q. beginning value q a (filter (is_examined name) more)) (reads_value a r.0 r.1)
        | false ↦ λ e. folds_once more answer (subst (λ q. Continues q (λ found answer. Rest more found answer) answer) e k)
      ]) t
