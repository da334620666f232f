-- One attribute after the other gives what the definition says of all.
use Rattle.std.proofs.Common.{◌≡◌, ℕ, ◌+◌, ◌<◌, List, ◌∷◌, drop, length, get_or, Option, None, Ok, Err, refl, subst}
use Rattle.std.specs.Prelude.{Result, IsErrAnd}
use Rattle.std.proofs.lemmas.List.{drop_more}
use Rattle.dm_stream.specs.declared.error.Error.{Error}
use Rattle.dm_stream.specs.declared.error.Error.TheVariants.{NoMemory, Refused}
use Rattle.dm_stream.specs.declared.error.Refusal.{Refusal}
use Rattle.dm_ast.specs.declared.plain.Attribute.{Attribute}
use Rattle.dm_attr.specs.declared.spanning.Spanning.{Spanning}
use Rattle.dm_attr.specs.Answers.{Within, Allows, same}
use Rattle.dm_attr.specs.Folding.{Turn, Folds}

module _ {T : Type 0} (reads : Attribute → Result T Refusal → Type 0)
    (merges : Spanning T → Spanning T → Result (Spanning T) Refusal → Type 0) (name : List ℕ) where
  -- what the fold of the attributes that are left answers is what the whole fold answers
  abbrev pub GoesOn : List Attribute → Option (Spanning T) → List Attribute → Type 0
  GoesOn left found whole =
      (answer : Result (Option (Spanning T)) Refusal) → Folds reads merges name left found answer → Folds reads merges name whole None answer

  -- after an attribute that reads and merges
  pub one_more : (attrs whole : List Attribute) (i : ℕ) (a : Attribute) (found next : Option (Spanning T)) →
      i < length attrs → a ≡ get_or attrs i a → Turn reads merges name a found (Ok next) →
      GoesOn (drop i attrs) found whole → GoesOn (drop (i + 1) attrs) next whole
  one_more attrs whole i a found next lt is turn go answer rest =
      let with_first : Folds reads merges name (a ∷ drop (i + 1) attrs) found answer = (Ok next, turn, rest) in
      let with_read : Folds reads merges name (get_or attrs i a ∷ drop (i + 1) attrs) found answer =
      subst (λ b. Folds reads merges name (b ∷ drop (i + 1) attrs) found answer) is with_first in
      go answer (rw (drop_more attrs i a lt) with_read)

  -- at an attribute that doesn't
  stops : (attrs whole : List Attribute) (i : ℕ) (a : Attribute) (found : Option (Spanning T)) (e : Error) →
      i < length attrs → a ≡ get_or attrs i a → Allows (Turn reads merges name a found) e →
      GoesOn (drop i attrs) found whole → Allows (Folds reads merges name whole None) e
  stops attrs whole i a found NoMemory lt is turn go = tt
  stops attrs whole i a found (Refused r) lt is turn go =
      let with_first : Folds reads merges name (a ∷ drop (i + 1) attrs) found (Err r) = (Err r, turn, refl) in
      let with_read : Folds reads merges name (get_or attrs i a ∷ drop (i + 1) attrs) found (Err r) =
      subst (λ b. Folds reads merges name (b ∷ drop (i + 1) attrs) found (Err r)) is with_first in
      go (Err r) (rw (drop_more attrs i a lt) with_read)

  -- and the error is passed on
  pub stopped : (attrs whole : List Attribute) (i : ℕ) (a : Attribute) (found : Option (Spanning T)) (e : Error) →
      i < length attrs → a ≡ get_or attrs i a → Allows (Turn reads merges name a found) e →
      GoesOn (drop i attrs) found whole → (r : Result (Option (Spanning T)) Error) →
      IsErrAnd r (λ d. d ≡ e) → Within (Folds reads merges name whole None) same r
  stopped attrs whole i a found e lt is turn go (Ok x) h = absurd h
  stopped attrs whole i a found e lt is turn go (Err d) h = rw h (stops attrs whole i a found e lt is turn go)
