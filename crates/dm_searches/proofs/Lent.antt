-- What references point to.
use Rattle.std.proofs.Common.{◌≡◌, Bool, false, List, [], ◌∷◌, length, refl}
use Rattle.std.specs.Borrow.{Bor}
use Rattle.std.specs.List.{list_any}
use Rattle.dm_searches.specs.Parameters.{lent}

pub none_left : {A : Type 0} (p : A → Bool) (rs : List (Bor A)) → length rs ≡ 0 → list_any p (lent rs) ≡ false
none_left p [] e = refl
none_left p (r ∷ rs) e = absurd (cc)
