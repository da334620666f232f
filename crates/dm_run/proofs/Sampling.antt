-- The lines of a sample, and the words that ask for one.
use Rattle.std.proofs.Common.{◌≡◌, ℕ, ◌≤◌, ◌<◌, ◌+◌, List, [], ◌∷◌, ◌++◌, map, length, drop, get_or, String, codes, inl, inr, refl, sym, ap, subst, ◌∙◌, arith}
use Rattle.std.proofs.lemmas.List.{append-nil, append_assoc, drop_all, drop_more}
use Rattle.std.proofs.lemmas.Fmt.{decimal_injective}
use Rattle.std.specs.Prelude.{◌↔◌}
use Rattle.std.specs.declared.alloc.Global.{Global}
use Rattle.dm_operators.specs.declared.operator.Operator.{Operator}
use Rattle.dm_operators.specs.Table.{operator_view}
use Rattle.dm_sample.specs.Samples.{IsSample}
use Rattle.dm_sample.specs.Summaries.{told_line}
use Rattle.dm_sample.specs.declared.summary.Told.{Told}
use Rattle.dm_run.specs.Sampled.{AreLines, AreWords, IsTold, names_of}
use Rattle.dm_outside.specs.declared.exit.Status.TheVariants.{Usage}

-- ---- lines

-- these lines of all of the names stand in front of those of some that are left
abbrev pub IsFront : List ℕ → List ℕ → List (List ℕ) → List (List ℕ) → Type 0
IsFront text front left all = (rest : List ℕ) → AreLines left text rest → AreLines all text (front ++ rest)

-- one more is written
pub one_line_more : (text front : List ℕ) (name : List ℕ) (left all : List (List ℕ)) (t : Told) → IsTold name text t →
    IsFront text front (name ∷ left) all → IsFront text (front ++ told_line name t) left all
one_line_more text front name left all t told before = λ rest h.
    subst (AreLines all text) (sym (append_assoc front (told_line name t) rest)) (before (told_line name t ++ rest) (t, rest, told, h, refl))

-- at last all are
pub whole_front : (text front : List ℕ) (all : List (List ℕ)) → IsFront text front [] all → AreLines all text front
whole_front text front all before = subst (AreLines all text) (append-nil front) (before [] refl)

-- the lines of a list of operators in front, and then of one more
pub one_operator_more : (text lines lines' before : List ℕ) (all : List (List ℕ)) (os : List Operator) (i : ℕ) (o : Operator) → i < length os →
    ((front : List ℕ) × (lines ≡ before ++ front) × IsFront text front (names_of (map operator_view (drop i os))) all) →
    ((t : Told) × IsTold (get_or os i o).trait_name.now text t × (lines' ≡ lines ++ told_line (get_or os i o).trait_name.now t)) →
    (front : List ℕ) × (lines' ≡ before ++ front) × IsFront text front (names_of (map operator_view (drop (i + 1) os))) all
one_operator_more text lines lines' before all os i o inside now more =
    let name = (get_or os i o).trait_name.now in (
      now.0 ++ told_line name more.0,
      more.2 ∙ ap (λ l. l ++ told_line name more.0) now.1 ∙ append_assoc before now.0 (told_line name more.0),
      one_line_more text now.0 name (names_of (map operator_view (drop (i + 1) os))) all more.0 more.1
          (subst (λ xs. IsFront text now.0 (names_of (map operator_view xs)) all) (drop_more os i o inside) now.2),
    )

-- all of them
pub all_operators : (text lines before : List ℕ) (os : List Operator) (i : ℕ) → length os ≤ i →
    ((front : List ℕ) × (lines ≡ before ++ front) × IsFront text front (names_of (map operator_view (drop i os))) (names_of (map operator_view os))) →
    (more : List ℕ) × AreLines (names_of (map operator_view os)) text more × (lines ≡ before ++ more)
all_operators text lines before os i behind now = (
  now.0,
  whole_front text now.0 (names_of (map operator_view os))
      (subst (λ xs. IsFront text now.0 (names_of (map operator_view xs)) (names_of (map operator_view os))) (drop_all i os behind) now.2),
  now.1,
)

-- ---- words

-- words ask for one sample
pub one_sample : (words : List (String Global)) (m n : ℕ) → IsSample words m → IsSample words n → n ≡ m
one_sample words m n a b =
    let both : codes "sample" ∷ b.size ∷ [] ≡ codes "sample" ∷ a.size ∷ [] = sym b.words_are ∙ a.words_are in
    let size : b.size ≡ a.size = cc in
    decimal_injective n m (omega (arith, b.is_size.most)) (omega (arith, a.is_size.most)) (sym b.is_size.is ∙ size ∙ a.is_size.is)

-- other words are unknown
pub usage-unknown : (words : List (String Global)) → (words ≡ [] → ⊥) → ((n : ℕ) → ¬ (IsSample words n)) → Usage ≡ Usage ↔ ¬ (AreWords words)
usage-unknown words some none = (
  (λ _ known. elim known [ inl empty ↦ some empty | inr asked ↦ none asked.0 asked.1 ]),
  (λ _. refl),
)
