-- A declaration is refused nowhere exactly where it is valid.
use Rattle.std.proofs.Common.{◌≡◌, List, [], ◌∷◌, Bool, true, false, cond, filter, map, codes, None, Result, Ok, Err, refl, sym, ap, ◌∙◌, subst, ◌++◌}
use Rattle.std.specs.Prelude.{◌↔◌, All, flat_map}
use mathlib.Core.List.{map-map}
use Rattle.std.proofs.lemmas.List.{map-append}
use Rattle.dm_stream.specs.declared.error.Error.{Error}
use Rattle.dm_stream.specs.declared.error.Error.TheVariants.{NoMemory, Refused}
use Rattle.dm_stream.specs.declared.error.Kind.TheVariants.{AttrSyntax, AttrRepeated}
use Rattle.dm_ast.specs.declared.plain.Attribute.{Attribute}
use Rattle.dm_ast.specs.Declarations.{Declaration, FieldTree, ShapeTree, struct_shape, enum_shape, union_shape}
use Rattle.dm_output.specs.Values.{Case, cases, field_list}
use Rattle.dm_attr.specs.Skips.{Skipping, no, yes, bad, reads_skip, is_examined, skip_among, or_else, is_skipped}
use Rattle.dm_attr.specs.SkipRefusals.{refusal_at, refusal_among, or_those, place_refusal}
use Rattle.dm_attr.proofs.Agreeing.{Agree, agree_none, agree_one, agree_two}
use Rattle.dm_operands.specs.Places.{attrs_of, places, refused_union, refusals, refusal, IsWalked}
use Rattle.dm_operands.proofs.FirstLaws.{AllNone, first-none, none-first, map-none, each-none}
use Rattle.dm_partial_eq.specs.Checks.{IsGood, IsGoodCase, IsNoUnion, IsValid, IsRefusedIfInvalid}

-- ---- what is refused of a place, and what its attributes say

agree-among : (xs : List Attribute) → Agree (refusal_among xs) (skip_among xs)
agree-among [] = agree_none no (λ e. cc)
agree-among (a ∷ []) = agree_one (reads_skip a.args) (refusal_at AttrSyntax a)
agree-among (a ∷ b ∷ xs) = agree_two (reads_skip a.args) (refusal_at AttrSyntax a) (refusal_at (cond (reads_skip b.args) AttrRepeated AttrSyntax) b)

first_counts : (a : Attribute) (xs : List Attribute) (s : Skipping) → or_else (skip_among (a ∷ xs)) s ≡ skip_among (a ∷ xs)
first_counts a [] s = elim (reads_skip a.args) as (λ v. or_else (cond v yes bad) s ≡ cond v yes bad) [ true ↦ refl | false ↦ refl ]
first_counts a (b ∷ xs) s = refl

agree-both : (xs ys : List Attribute) → Agree (refusal_among (or_those xs ys)) (or_else (skip_among xs) (skip_among ys))
agree-both [] ys = agree-among ys
agree-both (a ∷ xs) ys = rw (first_counts a xs (skip_among ys)) (agree-among (a ∷ xs))

-- under both names
pub unrefused-place : (attrs : List Attribute) → (place_refusal attrs ≡ None) ↔ IsGood attrs
unfolding place_refusal
unrefused-place attrs = agree-both (filter (is_examined (codes "partial_eq")) attrs) (filter (is_examined (codes "eq")) attrs)

-- ---- fields, variants and declarations

abbrev IsGoodField : FieldTree → Type 0
IsGoodField f = IsGood f.attrs

good-fields : (fs : List FieldTree) → AllNone (map place_refusal (map attrs_of fs)) ↔ All IsGoodField fs
good-fields fs =
    let g = map-none (λ f. place_refusal f.attrs) IsGoodField (λ f. unrefused-place f.attrs) fs in
    let e : map place_refusal (map attrs_of fs) ≡ map (λ f. place_refusal f.attrs) fs = map-map place_refusal attrs_of fs in
    (λ h. g.0 (subst AllNone e h), λ h. subst AllNone (sym e) (g.1 h))

good-case : (c : Case) → AllNone (map place_refusal (places c)) ↔ IsGoodCase c
good-case c =
    let fs = field_list c.fields in
    let there : Bool → Type 0 = λ v. AllNone (map place_refusal (cond v [] (map attrs_of fs))) in (
      λ h. record {
        own = (unrefused-place c.attrs).0 h.0;
        fields = λ kept. (good-fields fs).0 (subst there kept h.1);
      },
      λ g. (
        (unrefused-place c.attrs).1 g.own,
        (elim (is_skipped c.attrs) as (λ v. is_skipped c.attrs ≡ v → there v) [ true ↦ λ e. tt | false ↦ λ e. (good-fields fs).1 (g.fields e) ]) refl,
      ),
    )

-- the refusals of each case, one behind the other
by_case : (cs : List Case) → map place_refusal (flat_map places cs) ≡ flat_map (λ c. map place_refusal (places c)) cs
by_case [] = refl
by_case (c ∷ cs) =
    map-append place_refusal (places c) (flat_map places cs) ∙ ap (λ rs. map place_refusal (places c) ++ rs) (by_case cs)

good-cases : (cs : List Case) → AllNone (map place_refusal (flat_map places cs)) ↔ All IsGoodCase cs
good-cases cs =
    let g = each-none (λ c. map place_refusal (places c)) IsGoodCase good-case cs in
    (λ h. g.0 (subst AllNone (by_case cs) h), λ h. subst AllNone (sym (by_case cs)) (g.1 h))

no_union : (s : ShapeTree) → (refused_union s ≡ None) ↔ IsNoUnion s
no_union (struct_shape w fs) = (λ e. tt, λ h. refl)
no_union (enum_shape w vs) = (λ e. tt, λ h. refl)
no_union (union_shape w fs) = (λ e. absurd cc, λ h. absurd h)

pub unrefused : (d : Declaration) → (refusal d ≡ None) ↔ IsValid d
unrefused d = (
  λ e.
      let all = first-none (refusals d) e in
      record { no_union = (no_union d.shape).0 all.0; good = (good-cases (cases d)).0 all.1 },
  λ v. none-first (refusals d) ((no_union d.shape).1 v.no_union, (good-cases (cases d)).1 v.good),
)

-- what is answered by the first refusal is refused exactly where the declaration isn't valid
pub valid : {A : Type 0} (d : Declaration) (Made : A → Type 0) (r : Result A Error) → IsWalked (refusal d) Made r → IsRefusedIfInvalid d r
valid d Made (Ok x) h = (unrefused d).0 h.0
valid d Made (Err NoMemory) h = tt
valid d Made (Err (Refused r)) h = λ v. let e : refusal d ≡ None = (unrefused d).1 v in cc
