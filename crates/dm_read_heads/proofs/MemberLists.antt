-- Associated types in turn.
use Rattle.std.proofs.Common.{◌≡◌, ℕ, zero, suc, Bool, true, false, List, ◌∷◌, Option, Some, None, refl, ap, ◌∙◌}
use Rattle.dm_stream.specs.declared.tokens.Ident.{Ident}
use Rattle.dm_stream.specs.Trees.{Trees}
use Rattle.dm_ast.specs.Keywords.{is_name}
use Rattle.dm_ast.specs.Tree.{TypeTree}
use Rattle.dm_output.specs.Output.{AssocTree}
use Rattle.dm_reread.specs.Next.{Next, k_type, a_name, a_word, next}
use Rattle.dm_reread.specs.Leaves.{Answer}
use Rattle.dm_reread.specs.Reading.{then, provided, assigns_after, semicolon_after}
use Rattle.dm_reread.specs.ReadBack.{leaves}
use Rattle.dm_reread.specs.Items.{assoc_from, assocs_from, read_assocs}
use Rattle.dm_read_places.specs.Repeating.{after_turn, repeat}
use Rattle.dm_read_heads.specs.Members.{type_ended, type_assigned, assoc_at, assoc_turn_at, assoc_turn}
use Rattle.dm_read_heads.proofs.Turned.{Parts, PartTurn, part_on}

-- ---- one associated type

abbrev Assocs : Type 0
Assocs = AssocTree × Trees

abbrev Types : Type 0
Types = TypeTree × Trees

module _ (i : Ident) where
  semicolon_on : (x : TypeTree) (o : Option Trees) →
      then {B = Assocs} o (λ vs. Some (record { name = i; ty = x }, vs)) ≡
      then {A = Types} {B = Assocs} (then o (λ us. Some (x, us))) (λ a. Some (record { name = i; ty = a.0 }, a.1))
  semicolon_on x None = refl
  semicolon_on x (Some us) = refl

  type_on : (o : Answer TypeTree) →
      then {B = Assocs} o (λ a. then (semicolon_after (next a.1)) (λ vs. Some (record { name = i; ty = a.0 }, vs))) ≡
      then {A = Types} {B = Assocs} (then {B = Types} o (λ a. then (semicolon_after (next a.1)) (λ us. Some (a.0, us)))) (λ a. Some (record { name = i; ty = a.0 }, a.1))
  type_on None = refl
  type_on (Some a) = semicolon_on a.0 (semicolon_after (next a.1))

  assigns_on : (o : Option Trees) →
      then {B = Assocs} o (λ us. then (leaves.type us) (λ a. then (semicolon_after (next a.1)) (λ vs. Some (record { name = i; ty = a.0 }, vs)))) ≡
      then {A = Types} {B = Assocs} (then o type_ended) (λ a. Some (record { name = i; ty = a.0 }, a.1))
  assigns_on None = refl
  assigns_on (Some us) = type_on (leaves.type us)

assoc_is : (m : Next) → assoc_from leaves m ≡ assoc_at m
assoc_is (a_name i ts) = by (is_name i)
  where
    by : (b : Bool) →
        provided b (then {B = Assocs} (assigns_after (next ts)) (λ us. then (leaves.type us) (λ a. then (semicolon_after (next a.1)) (λ vs. Some (record { name = i; ty = a.0 }, vs))))) ≡
        then {A = Ident × Trees} {B = Assocs} (provided b (Some (i, ts))) (λ s. then (type_assigned s.1) (λ a. Some (record { name = s.0; ty = a.0 }, a.1)))
    by true = assigns_on i (assigns_after (next ts))
    by false = refl
assoc_is _ = refl

-- ---- turns

module _ (n : ℕ) (more : (ts : Trees) → read_assocs leaves n ts ≡ Parts (repeat assoc_turn n ts)) where
  assocs_on : (ts : Trees) (m : Next) →
      assocs_from leaves (read_assocs leaves n) ts m ≡
      Parts (then {A = PartTurn AssocTree} (assoc_turn_at ts m) (λ u. after_turn (repeat assoc_turn n) u.0 u.1))
  assocs_on ts (a_word k_type us) =
      ap {B = Answer (List AssocTree)} (λ o. then o (λ a. then (read_assocs leaves n a.1) (λ s. Some (a.0 ∷ s.0, s.1)))) (assoc_is (next us)) ∙
      part_on assoc_turn n (read_assocs leaves n) more (assoc_at (next us))
  assocs_on ts _ = refl

pub assocs_are : (n : ℕ) (ts : Trees) → read_assocs leaves n ts ≡ Parts (repeat assoc_turn n ts)
assocs_are zero ts = refl
assocs_are (suc n) ts = assocs_on n (assocs_are n) ts (next ts)
