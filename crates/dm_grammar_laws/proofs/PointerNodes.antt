-- `*const T` and `*mut T`: what their reader decides.
use Rattle.std.proofs.Common.{◌≡◌, Bool, true, false, codes, refl, sym, ap, ◌∙◌, arith}
use Rattle.dm_stream.specs.Trees.{Trees}
use Rattle.dm_read_paths.specs.declared.kind.NodeKind.TheVariants as kind
use Rattle.dm_read_paths.specs.declared.kind.Mode.{Mode}
use Rattle.dm_read_paths.specs.declared.kind.Mode.TheVariants.{Single}
use Rattle.dm_ast.specs.Spelling.{Where, deeper, Marks, Spelling, Nothing, ◌then◌, Provided, sees_word, punct, keyword}
use Rattle.dm_ast.specs.TypeGrammar.{type_spelled, sees_macro}
use Rattle.dm_ast.specs.Tree.{TypeTree, TypeNode, pointer, path, no_self, some_self}
use Rattle.dm_ast.specs.Readers.{Parser, mapped, read_punct, read_word}
use Rattle.dm_read_paths.specs.TypeReaders.{node_kind, pointed, read_pointed, read_pointer}
use Rattle.dm_read.proofs.Deciding.{Decides, Reader, Image, decides_by, decides_iff, decides_test, reads_next}
use Rattle.dm_read.proofs.Tokens.{reads_punct, reads_word, word_seen}
use Rattle.dm_read_paths.proofs.NodeKinds.{kind_of, kind_is}
use Rattle.dm_read_paths.proofs.TypeRules.{ReadsDeeper, NodeAt}

-- what stands behind `*`
abbrev Pointed : Where → TypeNode → Spelling
Pointed w (pointer true t) = keyword (deeper w) (codes "mut") then type_spelled t true (deeper w)
Pointed w (pointer false t) = keyword (deeper w) (codes "const") then type_spelled t true (deeper w)
Pointed w _ = Provided ⊥ Nothing

module _ (w : Where) (ts : Trees) where
  mut_back : sees_word (codes "mut") ts ≡ true → (y : TypeNode) (o : Trees) (m : Marks) → Pointed w y ts o m →
      Image (pointer true) (λ t. keyword (deeper w) (codes "mut") then type_spelled t true (deeper w)) y ts o m
  mut_back e (pointer true t) o m s = record { value = t; is_it = refl; spelled = s }
  mut_back e (pointer false t) o m s = let f : sees_word (codes "mut") ts ≡ false = ap (sees_word (codes "mut")) s.first.there.spelled in absurd (cc)
  mut_back e _ o m s = absurd s.fact

  const_back : sees_word (codes "mut") ts ≡ false → (y : TypeNode) (o : Trees) (m : Marks) → Pointed w y ts o m →
      Image (pointer false) (λ t. keyword (deeper w) (codes "const") then type_spelled t true (deeper w)) y ts o m
  const_back e (pointer true t) o m s = let f = word_seen (codes "mut") (deeper w) ts s.middle s.first_marks s.first in absurd (cc)
  const_back e (pointer false t) o m s = record { value = t; is_it = refl; spelled = s }
  const_back e _ o m s = absurd s.fact

module _ (inner : Mode → Where → Parser TypeTree) (single : Bool) (w : Where) (h : ReadsDeeper inner w.level) where
  below : Reader (λ t. type_spelled t true (deeper w)) (inner Single (deeper w))
  below = h Single (deeper w) (omega arith)

  reads_pointed : Reader (Pointed w) (read_pointed inner w)
  reads_pointed ts =
      decides_test (Pointed w) ts (sees_word (codes "mut") ts) (mapped (pointer true) (pointed inner true w ts)) (mapped (pointer false) (pointed inner false w ts))
      (λ e. decides_by (pointer true) (λ t. keyword (deeper w) (codes "mut") then type_spelled t true (deeper w)) (Pointed w) ts (λ x o m s. s) (mut_back w ts e) (pointed inner true w ts)
      (reads_next (keyword (deeper w) (codes "mut")) (λ t. type_spelled t true (deeper w)) (read_word (codes "mut") (deeper w)) (inner Single (deeper w)) (reads_word (codes "mut") (deeper w)) below ts))
      (λ e. decides_by (pointer false) (λ t. keyword (deeper w) (codes "const") then type_spelled t true (deeper w)) (Pointed w) ts (λ x o m s. s) (const_back w ts e) (pointed inner false w ts)
      (reads_next (keyword (deeper w) (codes "const")) (λ t. type_spelled t true (deeper w)) (read_word (codes "const") (deeper w)) (inner Single (deeper w)) (reads_word (codes "const") (deeper w)) below ts))

  node_to : (ts : Trees) → sees_macro ts ≡ false → (y : TypeNode) (o : Trees) (m : Marks) → (punct w 42 then Pointed w y) ts o m → NodeAt single w y ts o m
  node_to ts n (pointer true t) o m s = record { fact = n; part = s }
  node_to ts n (pointer false t) o m s = record { fact = n; part = s }
  node_to ts n _ o m s = absurd s.rest.fact

  node_back : (ts : Trees) (y : TypeNode) (o : Trees) (m : Marks) → NodeAt single w y ts o m → kind_of y ≡ kind.Pointer → (punct w 42 then Pointed w y) ts o m
  node_back ts (pointer true t) o m s e = s.part
  node_back ts (pointer false t) o m s e = s.part
  node_back ts (path no_self p) o m s e = absurd (cc)
  node_back ts (path (some_self t n) p) o m s e = absurd (cc)
  node_back ts _ o m s e = absurd (cc)

  pub pointer_rule : (ts : Trees) → node_kind ts ≡ kind.Pointer → sees_macro ts ≡ false → Decides (NodeAt single w) ts (read_pointer inner w ts)
  pointer_rule ts e n =
      decides_iff (λ y. punct w 42 then Pointed w y) (NodeAt single w) ts (node_to ts n)
      (λ y o m s. node_back ts y o m s (sym (kind_is y single w ts o m s) ∙ e)) (read_pointer inner w ts)
      (reads_next (punct w 42) (Pointed w) (read_punct 42 w) (read_pointed inner w) (reads_punct 42 w) reads_pointed ts)
