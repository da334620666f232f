-- The first `n` items of a list and those behind them, followed from the item at `i` on: the segments of a qualified path before `>` and behind it.
use Rattle.std.proofs.Common.{◌≡◌, ℕ, suc, ◌+◌, ◌-◌, ◌<◌, ◌≤◌, List, [], ◌∷◌, take, drop, refl, arith}

-- one item of the first `n` is at `i`
pub take_more : {A : Type 0} (n i : ℕ) (x : A) (xs : List A) → i < n → take (n - i) (x ∷ xs) ≡ x ∷ take (n - (i + 1)) xs
take_more n i x xs h = let e : n - i ≡ suc (n - (i + 1)) = omega arith in rw e refl

pub take_none : {A : Type 0} (n i : ℕ) (xs : List A) → n ≤ i → take (n - i) xs ≡ []
take_none n i xs h = let e : n - i ≡ 0 = omega arith in rw e refl

pub drop_more : {A : Type 0} (n i : ℕ) (x : A) (xs : List A) → i < n → drop (n - i) (x ∷ xs) ≡ drop (n - (i + 1)) xs
drop_more n i x xs h = let e : n - i ≡ suc (n - (i + 1)) = omega arith in rw e refl

pub drop_none : {A : Type 0} (n i : ℕ) (xs : List A) → n ≤ i → drop (n - i) xs ≡ xs
drop_none n i xs h = let e : n - i ≡ 0 = omega arith in rw e refl

pub drop_later : {A : Type 0} (n i : ℕ) (xs : List A) → n ≤ i → drop (n - (i + 1)) xs ≡ xs
drop_later n i xs h = let e : n - (i + 1) ≡ 0 = omega arith in rw e refl
