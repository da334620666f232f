-- Attributes in turn, with fuel enough.
use Rattle.std.proofs.Common.{◌≡◌, ℕ, zero, suc, ◌≤◌, ◌<◌, List, [], ◌∷◌, map, Option, Some, None, length, length-append, Result, Ok, Err, refl, ap, ◌∙◌, arith}
use Rattle.dm_stream.specs.declared.error.Error.{Error}
use Rattle.dm_stream.specs.declared.error.Error.TheVariants as error
use Rattle.dm_stream.specs.declared.tokens.Entry.TheVariants as entry
use Rattle.dm_stream.specs.Trees.{Trees, no_trees, token, group, flatten}
use Rattle.dm_output.specs.declared.item.ItemAttr.{ItemAttr}
use Rattle.dm_reread.specs.Next.{Next, hash, in_brackets, next}
use Rattle.dm_reread.specs.Leaves.{Answer}
use Rattle.dm_reread.specs.Reading.{then}
use Rattle.dm_reread.specs.Items.{all_attrs, attr_among, attr_bracket, attrs_from, read_attrs}
use Rattle.dm_reread.specs.Whole.{size}
use Rattle.dm_read_places.specs.Reads.{Reads}
use Rattle.dm_read_places.specs.Repeating.{after_turn, repeat}
use Rattle.dm_read_heads.specs.Attrs.{attr_at, attr_turn_at, attr_turn}
use Rattle.dm_read_heads.proofs.Fronts.{hash_less, brackets_less}
use Rattle.dm_read_heads.proofs.Turned.{Parts, PartTurn, one_part, part_on}

-- ---- attributes are turns

module _ (n : ℕ) (more : (ts : Trees) → read_attrs n ts ≡ Parts (repeat attr_turn n ts)) where
  abbrev Turned : Option (PartTurn ItemAttr) → Answer (List ItemAttr)
  Turned o = Parts (then {A = PartTurn ItemAttr} o (λ u. after_turn (repeat attr_turn n) u.0 u.1))

  attr_on : (ts : Trees) (o : Option ItemAttr) →
      then {B = List ItemAttr × Trees} o (λ a. then (read_attrs n ts) (λ s. Some (a ∷ s.0, s.1))) ≡ Turned (one_part (then o (λ a. Some (a, ts))))
  attr_on ts None = refl
  attr_on ts (Some a) = part_on attr_turn n (read_attrs n) more (Some (a, ts))

  bracket_on : (m : Next) → attr_bracket (read_attrs n) m ≡ Turned (one_part (attr_at m))
  bracket_on (in_brackets inside ts) = attr_on ts (attr_among all_attrs inside)
  bracket_on _ = refl

  attrs_on : (ts : Trees) (m : Next) → attrs_from (read_attrs n) ts m ≡ Turned (attr_turn_at ts m)
  attrs_on ts (hash us) = bracket_on (next us)
  attrs_on ts _ = refl

pub attrs_are : (n : ℕ) (ts : Trees) → read_attrs n ts ≡ Parts (repeat attr_turn n ts)
attrs_are zero ts = refl
attrs_are (suc n) ts = attrs_on n (attrs_are n) ts (next ts)

-- ---- fuel beyond the trees changes nothing

module _ (n m : ℕ) (same : (ts : Trees) → size ts < n → size ts < m → read_attrs n ts ≡ read_attrs m ts) where
  bracket_same : (ts : Trees) (k : Next) → next ts ≡ k → size ts < n → size ts < m → attr_bracket (read_attrs n) k ≡ attr_bracket (read_attrs m) k
  bracket_same ts (in_brackets inside us) e p q =
      let l = brackets_less ts inside us e in
      ap {B = Answer (List ItemAttr)} (λ o. then (attr_among all_attrs inside) (λ a. then o (λ s. Some (a ∷ s.0, s.1))))
      (same us (omega (arith, l, p)) (omega (arith, l, q)))
  bracket_same ts _ e p q = refl

  from_same : (ts : Trees) (k : Next) → next ts ≡ k → size ts < suc n → size ts < suc m →
      attrs_from (read_attrs n) ts k ≡ attrs_from (read_attrs m) ts k
  from_same ts (hash us) e p q =
      let l = hash_less ts us e in bracket_same us (next us) refl (omega (arith, l, p)) (omega (arith, l, q))
  from_same ts _ e p q = refl

attrs_same : (n m : ℕ) (ts : Trees) → size ts < n → size ts < m → read_attrs n ts ≡ read_attrs m ts
attrs_same zero m ts p q = absurd (omega (arith, p))
attrs_same (suc n) zero ts p q = absurd (omega (arith, q))
attrs_same (suc n) (suc m) ts p q = from_same n m (attrs_same n m) ts (next ts) refl p q

each_itself : (xs : List ItemAttr) → map (λ x. x) xs ≡ xs
each_itself [] = refl
each_itself (x ∷ xs) = ap (λ ys. x ∷ ys) (each_itself xs)

-- what is read in turns enough are all attributes in front
pub all_read : (n : ℕ) (ts us : Trees) (r : Result (List ItemAttr) Error) → size ts < n → Reads (map (λ x. x)) (read_attrs n) ts r us →
    Reads (λ xs. xs) (λ vs. read_attrs (suc (size vs)) vs) ts r us
all_read n ts us (Ok xs) p h = attrs_same (suc (size ts)) n ts (omega arith) p ∙ h ∙ ap (λ ys. Some (ys, us)) (each_itself xs)
all_read n ts us (Err (error.Refused r)) p h = attrs_same (suc (size ts)) n ts (omega arith) p ∙ h
all_read n ts us (Err error.NoMemory) p h = tt

-- no list has more trees than entries
pub size_fits : (ts : Trees) → size ts ≤ length (flatten ts)
size_fits no_trees = omega arith
size_fits (token k ts) = omega (arith, size_fits ts)
size_fits (group d from inside upto ts) =
    omega (arith, size_fits inside, size_fits ts, length-append (flatten inside) (entry.Close d upto ∷ flatten ts))
