-- Parts that were read one behind the other, to the end of the trees, are in the grammar and have the tokens that were read, where that holds
-- of each.
use Rattle.std.specs.Prelude.{◌≡◌, ℕ, zero, suc, List, [], ◌∷◌, map, Option, Some, refl}
use Rattle.std.proofs.Common.{ap, ◌∙◌}
use Rattle.dm_stream.specs.Trees.{Trees, no_trees, token, group, join}
use Rattle.dm_output.specs.Tokens.{in_turn}
use Rattle.dm_reread.specs.Leaves.{Answer}
use Rattle.dm_reread.specs.Items.{some_parts, parts_from, parts_within}
use Rattle.dm_read_laws.specs.Sound.{IsBare, Spells}
use Rattle.dm_read_laws.proofs.Answers.{then_by, same_answer}
use Rattle.dm_read_laws.proofs.SoundSteps.{bare_rest}

abbrev pub ArePartsRead : {A : Type 0} → (A → Trees) → (List A → Type 0) → Trees → List A → Type 0
ArePartsRead trees_of Are ts xs = Are xs × (ts ≡ in_turn (map trees_of xs))

module _ {A : Type 0} (read : Trees → Answer A) (trees_of : A → Trees) (Is : A → Type 0) (Are : List A → Type 0) (none : Are [])
    (joined : (x : A) (xs : List A) → Is x → Are xs → Are (x ∷ xs))
    (sound : (ts us : Trees) (x : A) → IsBare ts → read ts ≡ Some (x, us) → Is x × Spells (trees_of x) ts us) where
  module _ (more : Trees → Option (List A))
      (later : (ts : Trees) (xs : List A) → IsBare ts → more ts ≡ Some xs → ArePartsRead trees_of Are ts xs) where
    some_sound : (ts : Trees) (xs : List A) → IsBare ts → some_parts read more ts ≡ Some xs → ArePartsRead trees_of Are ts xs
    some_sound ts xs bare e =
        then_by (read ts) _ xs (ArePartsRead trees_of Are ts xs) e
        (λ a h e'. then_by (more a.1) _ xs (ArePartsRead trees_of Are ts xs) e'
        (λ s i f.
        let d : Is a.0 × Spells (trees_of a.0) ts a.1 = sound ts a.1 a.0 bare h in
        let q : ArePartsRead trees_of Are a.1 s = later a.1 s (bare_rest (trees_of a.0) ts a.1 bare d.1) i in
        same_answer (ArePartsRead trees_of Are ts) (a.0 ∷ s) xs f (joined a.0 s d.0 q.0, d.1 ∙ ap (join (trees_of a.0)) q.1)))

    from_sound : (ts : Trees) (xs : List A) → IsBare ts → parts_from read more ts ≡ Some xs → ArePartsRead trees_of Are ts xs
    from_sound no_trees xs bare e = same_answer (ArePartsRead trees_of Are no_trees) [] xs e (none, refl)
    from_sound (token j ts) xs bare e = some_sound (token j ts) xs bare e
    from_sound (group d from inside upto ts) xs bare e = some_sound (group d from inside upto ts) xs bare e

  pub parts_sound : (n : ℕ) (ts : Trees) (xs : List A) → IsBare ts → parts_within read n ts ≡ Some xs → ArePartsRead trees_of Are ts xs
  parts_sound zero ts xs bare e = absurd (cc)
  parts_sound (suc n) ts xs bare e = from_sound (parts_within read n) (parts_sound n) ts xs bare e
