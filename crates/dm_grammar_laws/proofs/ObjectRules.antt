-- `dyn` and `impl`: what their readers decide, where the readers of the types in them decide those.
use Rattle.std.proofs.Common.{◌≡◌, ℕ, ◌+◌, Bool, false, List, codes, refl, ap, arith}
use Rattle.dm_stream.specs.Trees.{Trees}
use Rattle.dm_read_paths.specs.declared.kind.NodeKind.TheVariants as kind
use Rattle.dm_read_paths.specs.declared.kind.Mode.{Mode}
use Rattle.dm_ast.specs.Spelling.{Where, deeper, Marks, Spelling, ◌then◌, keyword}
use Rattle.dm_ast.specs.TypeGrammar.{sees_macro, some_bounds}
use Rattle.dm_ast.specs.Tree.{TypeTree, TypeNode, trait_object, impl_trait, path, no_self, some_self, BoundTrees}
use Rattle.dm_ast.specs.Readers.{Parser, ◌next◌, ◌gives◌, read_word}
use Rattle.dm_read_paths.specs.TypeReaders.{node_kind, inner_path, object_of, implied_of, read_some_bounds}
use Rattle.dm_read.proofs.Deciding.{Decides, Reader, Image, reads_next}
use Rattle.dm_read.proofs.Tokens.{reads_word}
use Rattle.dm_read_paths.proofs.NodeKinds.{kind_of}
use Rattle.dm_read_paths.proofs.TypeRules.{ReadsDeeper, NodeAt, rule_by}
use Rattle.dm_read_paths.proofs.BoundRules.{reads_some_bounds, paths_deeper}

module _ (inner : Mode → Where → Parser TypeTree) (single : Bool) (w : Where) where
  abbrev Bounded : List ℕ → BoundTrees → Spelling
  Bounded word bs = keyword w word then some_bounds bs single (deeper w)

  object_back : (y : TypeNode) (ts o : Trees) (m : Marks) → NodeAt single w y ts o m → kind_of y ≡ kind.Object → Image object_of (Bounded (codes "dyn")) y ts o m
  object_back (trait_object bs u) ts o m s e = record { value = bs; is_it = ap (trait_object bs) s.part.fact; spelled = s.part.part }
  object_back (path no_self p) ts o m s e = absurd (cc)
  object_back (path (some_self t n) p) ts o m s e = absurd (cc)
  object_back _ ts o m s e = absurd (cc)

  implied_back : (y : TypeNode) (ts o : Trees) (m : Marks) → NodeAt single w y ts o m → kind_of y ≡ kind.Implied → Image implied_of (Bounded (codes "impl")) y ts o m
  implied_back (impl_trait bs u) ts o m s e = record { value = bs; is_it = ap (impl_trait bs) s.part.fact; spelled = s.part.part }
  implied_back (path no_self p) ts o m s e = absurd (cc)
  implied_back (path (some_self t n) p) ts o m s e = absurd (cc)
  implied_back _ ts o m s e = absurd (cc)

  reads_bounded : (word : List ℕ) → ReadsDeeper inner w.level → Reader (Bounded word) (read_word word w next read_some_bounds inner (inner_path inner) single (deeper w))
  reads_bounded word h =
      reads_next (keyword w word) (λ bs. some_bounds bs single (deeper w)) (read_word word w) (read_some_bounds inner (inner_path inner) single (deeper w)) (reads_word word w)
      (reads_some_bounds inner (inner_path inner) (deeper w) (paths_deeper inner w.level (w.level + 1) (omega arith) h) single)

  pub object_rule : ReadsDeeper inner w.level → (ts : Trees) → node_kind ts ≡ kind.Object → sees_macro ts ≡ false →
      Decides (NodeAt single w) ts (((read_word (codes "dyn") w next read_some_bounds inner (inner_path inner) single (deeper w)) gives object_of) ts)
  object_rule h =
      rule_by inner object_of (Bounded (codes "dyn")) single w kind.Object (read_word (codes "dyn") w next read_some_bounds inner (inner_path inner) single (deeper w))
      (λ x ts o m s. record { fact = refl; part = s }) (λ x. refl) object_back (reads_bounded (codes "dyn") h)

  pub implied_rule : ReadsDeeper inner w.level → (ts : Trees) → node_kind ts ≡ kind.Implied → sees_macro ts ≡ false →
      Decides (NodeAt single w) ts (((read_word (codes "impl") w next read_some_bounds inner (inner_path inner) single (deeper w)) gives implied_of) ts)
  implied_rule h =
      rule_by inner implied_of (Bounded (codes "impl")) single w kind.Implied (read_word (codes "impl") w next read_some_bounds inner (inner_path inner) single (deeper w))
      (λ x ts o m s. record { fact = refl; part = s }) (λ x. refl) implied_back (reads_bounded (codes "impl") h)
