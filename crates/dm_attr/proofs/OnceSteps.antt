-- What the fold of a kind that may be given once answers, by the definitions of what is refused and of what stays.
use Rattle.std.proofs.Common.{◌≡◌, ℕ, List, [], ◌∷◌, Bool, false, cond, filter, Option, None, Some, Ok, Err, refl, sym, ap, ◌∙◌, subst}
use Rattle.std.specs.Prelude.{Result, IsErrAnd, option_map}
use Rattle.std.specs.Option.{is_some, option_or}
use Rattle.dm_stream.specs.Cursors.{first_span}
use Rattle.dm_stream.specs.Trees.{Trees}
use Rattle.dm_stream.specs.declared.tokens.Span.{Span}
use Rattle.dm_stream.specs.declared.error.Error.{Error}
use Rattle.dm_stream.specs.declared.error.Error.TheVariants.{NoMemory, Refused}
use Rattle.dm_stream.specs.declared.error.Kind.TheVariants.{AttrSyntax, AttrRepeated}
use Rattle.dm_stream.specs.declared.error.Refusal.{Refusal}
use Rattle.dm_ast.specs.declared.plain.Attribute.{Attribute}
use Rattle.dm_ast.specs.declared.plain.AttrArgs.{AttrArgs}
use Rattle.dm_ast.specs.declared.plain.AttrArgs.TheVariants as args
use Rattle.dm_attr.specs.declared.spanning.Spanning.{Spanning}
use Rattle.dm_attr.specs.Answers.{Allows, IsGiven}
use Rattle.dm_attr.specs.Examined.{is_examined}
use Rattle.dm_attr.specs.Folding.{Folds, spanned}
use Rattle.dm_attr.specs.Kinds.{unread_at, whole_or_unread, ReadsWhole, read_to_end, contents_in, ReadsIn, ReadsContents, MergesNever}
use Rattle.dm_attr.specs.Skips.{yes, bad, read_in, reads_in, once_among, is_yes}
use Rattle.dm_attr.specs.SkipRefusals.{refusal_at, second_refusal, reading_refusal, given_refusal, IsOnceUnder, not_allowed, IsRefusedBy}
use Rattle.dm_attr.proofs.Once.{second, beginning, at_most_one, folds_once}

-- ---- one attribute

abbrev value_or : {T : Type 0} → Option T → Span → Result T Refusal
value_or None at = unread_at at
value_or (Some s) at = Ok s

to_end : {T : Type 0} (at first : Span) (o : Option T) → read_to_end at (whole_or_unread first o) ≡ value_or o at
to_end at first None = refl
to_end at first (Some s) = refl

-- a refusal, or whether there is a value
abbrev Says : {T : Type 0} → Option Refusal → Bool → Result (Option (Spanning T)) Refusal → Type 0
Says refusal b (Ok o) = (refusal ≡ None) × (is_some o ≡ b)
Says refusal b (Err r) = refusal ≡ Some r

module _ {T : Type 0} (value_of : Trees → Option T) where
  abbrev value : Attribute → Result T Refusal
  value a = value_or (read_in value_of a.args) a.span

  reads_as : (at : Span) (a : AttrArgs) (s : Result T Refusal) → ReadsIn (ReadsWhole value_of) at (contents_in a) s → s ≡ value_or (read_in value_of a) at
  reads_as at (args.List d inside) s (read, is, e) =
      e ∙ ap (read_to_end at) is ∙ to_end at (first_span inside.trees inside.limit) (value_of inside.trees)
  reads_as at args.Absent s e = e
  reads_as at (args.Value o) s e = e

  reads_value : (a : Attribute) (s : Result T Refusal) → ReadsContents (ReadsWhole value_of) a s → s ≡ value a
  reads_value a s h = reads_as a.span a.args s h

  -- ---- all of one name

  says_second : (b : Attribute) (o : Option T) →
      Some (refusal_at (cond (is_some o) AttrRepeated AttrSyntax) b) ≡ Some (second (value_or o b.span) b.span)
  says_second b None = refl
  says_second b (Some s) = refl

  says_one : (a : Attribute) (o : Option T) → Says (cond (is_some o) None (Some (refusal_at AttrSyntax a))) (is_yes (cond (is_some o) yes bad))
      (beginning value (value_or o a.span) a [])
  says_one a None = refl
  says_one a (Some s) = (refl, refl)

  says_more : (a b : Attribute) (more : List Attribute) (o : Option T) →
      Says (cond (is_some o) (second_refusal (reads_in value_of) (b ∷ more)) (Some (refusal_at AttrSyntax a))) false
      (beginning value (value_or o a.span) a (b ∷ more))
  says_more a b more None = refl
  says_more a b more (Some s) = says_second b (read_in value_of b.args)

  says : (xs : List Attribute) → Says (reading_refusal (reads_in value_of) xs) (is_yes (once_among (reads_in value_of) xs)) (at_most_one value xs)
  says [] = (refl, refl)
  says (a ∷ []) = says_one a (read_in value_of a.args)
  says (a ∷ b ∷ more) = says_more a b more (read_in value_of a.args)

  -- the fold of the attributes of a name
  abbrev pub FoldsOnce : List ℕ → List Attribute → Result (Option (Spanning T)) Refusal → Type 0
  FoldsOnce name attrs answer = Folds (λ a. ReadsContents (ReadsWhole value_of) a) MergesNever name attrs None answer

  folded : (name : List ℕ) (attrs : List Attribute) (answer : Result (Option (Spanning T)) Refusal) → FoldsOnce name attrs answer →
      answer ≡ at_most_one value (filter (is_examined name) attrs)
  folded name attrs answer h = folds_once (λ a. ReadsContents (ReadsWhole value_of) a) value reads_value name attrs answer h

  fold_says : (name : List ℕ) (attrs : List Attribute) (answer : Result (Option (Spanning T)) Refusal) → FoldsOnce name attrs answer →
      Says (reading_refusal (reads_in value_of) (filter (is_examined name) attrs))
      (is_yes (once_among (reads_in value_of) (filter (is_examined name) attrs))) answer
  fold_says name attrs answer h =
      let xs = filter (is_examined name) attrs in
      subst (λ s. Says (reading_refusal (reads_in value_of) xs) (is_yes (once_among (reads_in value_of) xs)) s)
      (sym (folded name attrs answer h)) (says xs)

  pub under : (name : List ℕ) (attrs : List Attribute) (answer : Result Bool Error) → IsGiven {Y = Spanning T} (FoldsOnce name attrs) answer →
      IsOnceUnder (reads_in value_of) name attrs answer
  under name attrs (Ok b) (o, h, is) = let s = fold_says name attrs (Ok o) h in (s.0, is ∙ s.1)
  under name attrs (Err NoMemory) h = tt
  under name attrs (Err (Refused r)) h = fold_says name attrs (Err r) h

  -- ---- none may be given

  -- the refusal of a place under a name that may not be given there
  abbrev pub no_refusal : List Attribute → Option Refusal
  no_refusal xs = option_or (reading_refusal (reads_in value_of) xs) (given_refusal xs)

  given_by : (a : Attribute) (more : List Attribute) (v : Option T) (o : Option (Spanning T)) →
      beginning value (value_or v a.span) a more ≡ Ok o →
      option_or (cond (is_some v) (second_refusal (reads_in value_of) more) (Some (refusal_at AttrSyntax a))) (given_refusal (a ∷ more)) ≡
      option_map not_allowed o
  given_by a more None o h = absurd cc
  given_by a [] (Some x) o h = let e : spanned x a ≡ o = cc in ap (option_map not_allowed) e
  given_by a (b ∷ more) (Some x) o h = absurd cc

  given : (xs : List Attribute) (o : Option (Spanning T)) → at_most_one value xs ≡ Ok o → no_refusal xs ≡ option_map not_allowed o
  given [] o h = let e : None ≡ o = cc in ap (option_map not_allowed) e
  given (a ∷ more) o h = given_by a more (read_in value_of a.args) o h

  pub none_given : {A : Type 0} (name : List ℕ) (attrs : List Attribute) (o : Option (Spanning T)) (r : Result A Error) →
      FoldsOnce name attrs (Ok o) → IsRefusedBy (option_map not_allowed o) r → IsRefusedBy (no_refusal (filter (is_examined name) attrs)) r
  none_given name attrs o r h is =
      subst (λ (p : Option Refusal). IsRefusedBy p r) (sym (given (filter (is_examined name) attrs) o (sym (folded name attrs (Ok o) h)))) is

  first_refused : (o p : Option Refusal) (s : Refusal) → o ≡ Some s → option_or o p ≡ Some s
  first_refused o p s h = ap (λ q. option_or q p) h

  none_err : (A : Type 0) (name : List ℕ) (attrs : List Attribute) (e : Error) → Allows (FoldsOnce name attrs) e →
      IsRefusedBy {A = A} (no_refusal (filter (is_examined name) attrs)) (Err e)
  none_err A name attrs NoMemory h = tt
  none_err A name attrs (Refused s) h =
      let xs = filter (is_examined name) attrs in
      first_refused (reading_refusal (reads_in value_of) xs) (given_refusal xs) s (fold_says name attrs (Err s) h)

  pub none_passed : {A : Type 0} (name : List ℕ) (attrs : List Attribute) (e : Error) → Allows (FoldsOnce name attrs) e → (r : Result A Error) →
      IsErrAnd r (λ d. d ≡ e) → IsRefusedBy (no_refusal (filter (is_examined name) attrs)) r
  none_passed name attrs e h (Ok x) i = absurd i
  none_passed {A} name attrs e h (Err d) i = rw i (none_err A name attrs e h)
