-- What lists of references point to.
use Rattle.std.specs.Prelude.{List, map}
use Rattle.std.specs.Borrow.{Bor}

abbrev pub lent : {A : Type 0} → List (Bor A) → List A
lent rs = map (λ r. r.now) rs
