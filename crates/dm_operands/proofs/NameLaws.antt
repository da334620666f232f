-- The names that emitted code binds differ, and paths and field names lead where they were written for.
use Rattle.std.proofs.Common.{◌≡◌, ◌≢◌, ℕ, zero, suc, ◌+◌, List, [], ◌∷◌, Bool, true, false, cond, Option, Some, None, codes, slice_get, refl, sym, ap, ◌∙◌, arith}
use Rattle.std.specs.Str.{bytes_eq}
use Rattle.std.proofs.lemmas.Slice.Eq.{bytes_eq-Decides}
use Rattle.dm_stream.specs.declared.tokens.Ident.{Ident}
use Rattle.dm_ast.specs.Declarations.{Declaration, FieldTree, ShapeTree, struct_shape, enum_shape, union_shape}
use Rattle.dm_ast.specs.Implementors.{plain_path}
use Rattle.dm_output.specs.Values.{Text, Case, cases, cases_of_shape, is_enum, is_enum_shape}
use Rattle.dm_output.specs.Fits.{case_named, path_case, field_named, same_name}
use Rattle.dm_generics.specs.Words.{word}
use Rattle.dm_operands.specs.Sides.{case_path, field_ident}
use Rattle.dm_generics.specs.Numerals.{numeral}
use Rattle.dm_operands.specs.Numbered.{self_name, other_name}
use Rattle.dm_generics.proofs.NumeralLaws.{numeral_injective}
use Rattle.dm_operands.specs.Named.{AreDistinct, HasName, case_name, field_name, AreFieldsNamed, AreNamed}
use Rattle.dm_operands.proofs.FromLaws.{AreFrom, from-first, from-rest}

pub bytes_same : (xs : Text) → bytes_eq xs xs ≡ true
bytes_same xs = (bytes_eq-Decides xs xs).1 refl

not_true : (b : Bool) → (b ≡ true → ⊥) → b ≡ false
not_true true h = absurd (h refl)
not_true false h = refl

pub bytes_differ : (xs ys : Text) → xs ≢ ys → bytes_eq xs ys ≡ false
bytes_differ xs ys ne = not_true (bytes_eq xs ys) (λ e. ne ((bytes_eq-Decides xs ys).0 e))

-- ---- numbered names

-- other numbers give other names
abbrev pub Differ : (ℕ → Text) → Type 0
Differ naming = (i j : ℕ) → i ≢ j → bytes_eq (naming i) (naming j) ≡ false

-- no name of the first kind is one of the second
abbrev pub Apart : (ℕ → Text) → (ℕ → Text) → Type 0
Apart first second = (i j : ℕ) → bytes_eq (first i) (second j) ≡ false

pub self-other : Apart self_name other_name
self-other i j = refl

pub numerals-differ : Differ numeral
numerals-differ i j ne = bytes_differ (numeral i) (numeral j) (λ e. ne (numeral_injective i j e))

pub self-self : Differ self_name
self-self = numerals-differ

pub other-other : Differ other_name
other-other = numerals-differ

-- ---- distinct names

pub distinct-rest : {A : Type 0} (name_of : A → Text) (x : A) (xs : List A) → AreDistinct name_of (x ∷ xs) → AreDistinct name_of xs
distinct-rest name_of x xs d i j y z ay az e = let s : suc i ≡ suc j = d (suc i) (suc j) y z ay az e in omega arith

case-found : (cs : List Case) (n i : ℕ) (c : Case) → AreDistinct case_name cs → slice_get cs i ≡ Some c → case_named cs n c.ident.name ≡ Some (n + i)
case-found [] n i c d at = cc
case-found (b ∷ cs) n zero c d at =
    let e : b ≡ c = cc in
    rw (e, bytes_same c.ident.name) (ap Some (omega arith))
case-found (b ∷ cs) n (suc i) c d at =
    let ne : bytes_eq c.ident.name b.ident.name ≡ false =
    bytes_differ c.ident.name b.ident.name (λ e. let z : suc i ≡ 0 = d (suc i) 0 c b at refl e in cc) in
    rw ne (case-found cs (n + 1) i c (distinct-rest case_name b cs d) at ∙ ap Some (omega arith))

one-item : {A : Type 0} (n : ℕ) (x y : A) → slice_get (x ∷ []) n ≡ Some y → n ≡ 0
one-item zero x y at = refl
one-item (suc n) x y at = cc

-- a declaration that isn't an enum has one case
pub only-case : (d : Declaration) (n : ℕ) (c : Case) → is_enum d ≡ false → slice_get (cases d) n ≡ Some c → n ≡ 0
only-case d n c =
    elim d.shape as (λ (s : ShapeTree). is_enum_shape s ≡ false → slice_get (cases_of_shape d.attrs d.ident s) n ≡ Some c → n ≡ 0) [
      | struct_shape word fs ↦ λ e at. one-item n _ c at
      | enum_shape word vs ↦ λ e at. cc
      | union_shape word fs ↦ λ e at. one-item n _ c at
    ]

-- the path of a variant leads to it
pub path-found : (d : Declaration) (n : ℕ) (c : Case) → AreNamed d → slice_get (cases d) n ≡ Some c → path_case d (case_path d c.ident) ≡ Some n
path-found d n c names at =
    (elim (is_enum d) as (λ e. is_enum d ≡ e →
    path_case d (cond e (plain_path (word (codes "Self") ∷ c.ident ∷ [])) (plain_path (word (codes "Self") ∷ []))) ≡ Some n) [
      | true ↦ λ e. rw e (case-found (cases d) 0 n c names.distinct at ∙ ap Some (omega arith))
      | false ↦ λ e. rw e (ap Some (sym (only-case d n c e at)))
    ]) refl

-- ---- fields between braces

same-found : (f : Option Ident) → HasName f → same_name (field_ident f).name f ≡ true
same-found None h = absurd h
same-found (Some i) h = bytes_same i.name

same-missed : (x : Text) (f : Option Ident) → x ≢ (field_ident f).name → same_name x f ≡ false
same-missed x None ne = refl
same-missed x (Some i) ne = bytes_differ x i.name ne

field-found : (fs : List FieldTree) (n i : ℕ) (f : FieldTree) → HasName f.ident → AreDistinct field_name fs → slice_get fs i ≡ Some f →
    field_named fs n (field_name f) ≡ Some (n + i)
field-found [] n i f has d at = cc
field-found (g ∷ fs) n zero f has d at =
    let e : g ≡ f = cc in
    rw (e, same-found f.ident has) (ap Some (omega arith))
field-found (g ∷ fs) n (suc i) f has d at =
    let ne : same_name (field_name f) g.ident ≡ false =
    same-missed (field_name f) g.ident (λ e. let z : suc i ≡ 0 = d (suc i) 0 f g at refl e in cc) in
    rw ne (field-found fs (n + 1) i f has (distinct-rest field_name g fs d) at ∙ ap Some (omega arith))

-- the names of the fields from n on lead to them
abbrev pub AreFound : List FieldTree → ℕ → List FieldTree → Type 0
AreFound all n [] = Unit {0}
AreFound all n (f ∷ fs) = (field_named all 0 (field_name f) ≡ Some n) × AreFound all (n + 1) fs

pub are-found : (all : List FieldTree) (n : ℕ) (fs : List FieldTree) → AreFieldsNamed all → AreFrom all n fs → AreFound all n fs
are-found all n [] names from = tt
are-found all n (f ∷ fs) names from =
    let here = from-first all n f fs from in (
      field-found all 0 n f (names.named n f here) names.distinct here ∙ ap Some (omega arith),
      are-found all (n + 1) fs names (from-rest all n f fs from),
    )
