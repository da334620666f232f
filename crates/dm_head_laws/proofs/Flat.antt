-- What is written at no place of a text: marks that aren't too deep, each at the empty range at 0.
use Rattle.std.proofs.Common.{◌≡◌, false, cond, nat_lt, [], ◌∷◌, ◌++◌, Some, None, refl, sym, ap, ◌∙◌}
use Rattle.dm_stream.specs.Layout.{nowhere}
use Rattle.dm_ast.specs.Spelling.{Marks, deepest, first_too_deep, last_end, range_of}

-- levels that are not too deep, each at the range 0..0
abbrev pub Flat : Marks → Type 0
Flat [] = Unit {0}
Flat (k ∷ ks) = (nat_lt deepest k.0 ≡ false) × (k.1 ≡ nowhere) × Flat ks

pub flat_both : (m k : Marks) → Flat m → Flat k → Flat (m ++ k)
flat_both [] k f g = g
flat_both (x ∷ m) k f g = (f.0, f.1, flat_both m k f.2 g)

pub flat_within : (m : Marks) → Flat m → first_too_deep m ≡ None
flat_within [] f = refl
flat_within (x ∷ m) f = ap (λ b. cond b (Some x.1) (first_too_deep m)) f.0 ∙ flat_within m f.2

pub flat_last : (m : Marks) → Flat m → last_end 0 m ≡ 0
flat_last [] f = refl
flat_last (x ∷ m) f = ap (λ s. last_end s.«end» m) f.1 ∙ flat_last m f.2

pub flat_range : (m : Marks) → Flat m → nowhere ≡ range_of m
flat_range [] f = refl
flat_range (x ∷ m) f =
    ap (λ n. record { start = 0; «end» = n }) (sym (flat_last m f.2)) ∙
    ap (λ s. record { start = s.start; «end» = last_end s.«end» m }) (sym f.1)
