-- What the attributes of the two names that `PartialEq` looks at say together.
use Rattle.std.proofs.Common.{◌≡◌, List, [], ◌∷◌, Bool, true, false, cond, filter, codes, None, Some, Ok, Err, refl, sym, ap, ◌∙◌}
use Rattle.std.specs.Prelude.{Result, IsErrAnd}
use Rattle.dm_stream.specs.declared.error.Error.{Error}
use Rattle.dm_stream.specs.declared.error.Error.TheVariants.{NoMemory, Refused}
use Rattle.dm_stream.specs.declared.error.Kind.TheVariants.{AttrSyntax}
use Rattle.dm_stream.specs.declared.error.Refusal.{Refusal}
use Rattle.dm_ast.specs.declared.plain.Attribute.{Attribute}
use Rattle.dm_attr.specs.Examined.{is_examined}
use Rattle.dm_attr.specs.Skips.{Skipping, no, yes, bad, or_else, reads_skip, skip_among, is_yes, is_skipped}
use Rattle.dm_attr.specs.SkipRefusals.{refusal_at, second_refusal, refusal_among, or_those, place_refusal, IsSkipUnder, IsSkipAnswer}

none_among : (xs : List Attribute) → refusal_among xs ≡ None → false ≡ is_yes (skip_among xs) → xs ≡ []
none_among [] r s = refl
none_among (a ∷ []) r s = (elim (reads_skip a.args) as (λ v. cond v None (Some (refusal_at AttrSyntax a)) ≡ None →
    false ≡ is_yes (cond v yes bad) → a ∷ [] ≡ []) [ false ↦ λ r s. cc | true ↦ λ r s. cc ]) r s
none_among (a ∷ b ∷ more) r s = (elim (reads_skip a.args) as (λ v. cond v (second_refusal reads_skip (b ∷ more)) (Some (refusal_at AttrSyntax a)) ≡ None →
    a ∷ b ∷ more ≡ []) [ false ↦ λ r. cc | true ↦ λ r. cc ]) r

yes_stays : (s others : Skipping) → true ≡ is_yes s → true ≡ is_yes (or_else s others)
yes_stays no others h = cc
yes_stays yes others h = refl
yes_stays bad others h = cc

first_counts : (xs ys : List Attribute) → true ≡ is_yes (skip_among xs) → or_those xs ys ≡ xs
first_counts [] ys h = cc
first_counts (a ∷ xs) ys h = refl

refusal_counts : (xs ys : List Attribute) (r : Refusal) → refusal_among xs ≡ Some r → refusal_among (or_those xs ys) ≡ Some r
refusal_counts [] ys r h = cc
refusal_counts (a ∷ xs) ys r h = h

abbrev first_name : List Attribute → List Attribute
first_name attrs = filter (is_examined (codes "partial_eq")) attrs

abbrev second_name : List Attribute → List Attribute
second_name attrs = filter (is_examined (codes "eq")) attrs

-- the place is skipped under the first name
pub by_first : (attrs : List Attribute) → IsSkipUnder (codes "partial_eq") attrs (Ok true) → IsSkipAnswer attrs (Ok true)
unfolding place_refusal is_skipped
by_first attrs (r, s) = (
  ap refusal_among (first_counts (first_name attrs) (second_name attrs) s) ∙ r,
  yes_stays (skip_among (first_name attrs)) (skip_among (second_name attrs)) s,
)

-- an attribute of the first name is refused
first_refused : (attrs : List Attribute) (e : Error) → IsSkipUnder (codes "partial_eq") attrs (Err e) → IsSkipAnswer attrs (Err e)
unfolding place_refusal
first_refused attrs NoMemory h = tt
first_refused attrs (Refused r) h = refusal_counts (first_name attrs) (second_name attrs) r h

pub first_passed : (attrs : List Attribute) (e : Error) → IsSkipUnder (codes "partial_eq") attrs (Err e) → (r : Result Bool Error) →
    IsErrAnd r (λ d. d ≡ e) → IsSkipAnswer attrs r
first_passed attrs e h (Ok b) i = absurd i
first_passed attrs e h (Err d) i = rw i (first_refused attrs e h)

-- there is none of the first name
pub by_second : (attrs : List Attribute) (answer : Result Bool Error) → IsSkipUnder (codes "partial_eq") attrs (Ok false) →
    IsSkipUnder (codes "eq") attrs answer → IsSkipAnswer attrs answer
unfolding place_refusal is_skipped
by_second attrs (Ok b) f s =
    let none = none_among (first_name attrs) f.0 f.1 in (
      ap (λ xs. refusal_among (or_those xs (second_name attrs))) none ∙ s.0,
      s.1 ∙ sym (ap (λ xs. is_yes (or_else (skip_among xs) (skip_among (second_name attrs)))) none),
    )
by_second attrs (Err NoMemory) f s = tt
by_second attrs (Err (Refused r)) f s =
    ap (λ xs. refusal_among (or_those xs (second_name attrs))) (none_among (first_name attrs) f.0 f.1) ∙ s
