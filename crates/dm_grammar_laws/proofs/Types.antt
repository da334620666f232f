-- Types: what their reader decides at each depth, where each rule decides its own nodes.
use Rattle.std.proofs.Common.{◌≡◌, ℕ, zero, suc, ◌+◌, ◌<◌, Bool, true, false, nat_lt, refl, arith, lt-ltb}
use Rattle.dm_stream.specs.Trees.{Trees}
use Rattle.dm_read_paths.specs.declared.kind.NodeKind.{NodeKind}
use Rattle.dm_read_paths.specs.declared.kind.Mode.{Mode}
use Rattle.dm_read_paths.specs.declared.kind.Mode.TheVariants.{Whole, Single, PathOnly}
use Rattle.dm_ast.specs.Spelling.{Where, Marks, RangedAt, deepest}
use Rattle.dm_ast.specs.TypeGrammar.{type_spelled, path_spelled}
use Rattle.dm_ast.specs.Tree.{TypeTree, type_tree, path, no_self, some_self}
use Rattle.dm_ast.specs.Readers.{Parser, ranged, ◌gives◌}
use Rattle.dm_read_paths.specs.TypeReaders.{node_kind, node_by, read_node, read_path, type_of, path_type, read_level, read_type}
use Rattle.dm_read.proofs.Deciding.{Decides, Reader, Image, pair}
use Rattle.dm_read_paths.proofs.Listing.{reads_ranged}
use Rattle.dm_read_paths.proofs.PlainParts.{reads_by}
use Rattle.dm_read_paths.proofs.NodeKinds.{Begins, node_begins, path_begins, begins_deep}
use Rattle.dm_read_paths.proofs.TypeRules.{path_only, moded, ReadsDeeper, NodeAt}

-- ---- types too deep

moded_begins : (mode : Mode) (x : TypeTree) (w : Where) (ts o : Trees) (m : Marks) → moded mode x w ts o m → Begins w ts m
moded_begins Whole (type_tree n range) w ts o m s = node_begins n false w ts o m s.part.part
moded_begins Single (type_tree n range) w ts o m s = node_begins n true w ts o m s.part.part
moded_begins PathOnly (type_tree (path no_self p) range) w ts o m s = path_begins w p ts o m s.part
moded_begins PathOnly (type_tree (path (some_self t n) p) range) w ts o m s = absurd s.fact
moded_begins PathOnly (type_tree _ range) w ts o m s = absurd s.fact

-- ---- one level, by its rules

-- what each rule has to decide
abbrev pub Rules : (Mode → Where → Parser TypeTree) → Where → Type 0
Rules inner w = (k : NodeKind) (single : Bool) (ts : Trees) → node_kind ts ≡ k → Decides (NodeAt single w) ts (node_by inner k single w ts)

module _ (inner : Mode → Where → Parser TypeTree) (w : Where) (rules : Rules inner w) (paths : Reader (λ p. path_spelled p w) (read_path inner w)) where
  reads_node : (single : Bool) → Reader (NodeAt single w) (read_node inner single w)
  reads_node single ts = rules (node_kind ts) single ts refl

  type_back : (single : Bool) (y : TypeTree) (ts o : Trees) (m : Marks) → type_spelled y single w ts o m → Image type_of (λ v. RangedAt v.1 (NodeAt single w v.0)) y ts o m
  type_back single (type_tree n range) ts o m s = record { value = pair n range; is_it = refl; spelled = s }

  reads_single : (single : Bool) → Reader (λ t. type_spelled t single w) (ranged (read_node inner single w) gives type_of)
  reads_single single =
      reads_by type_of (λ v. RangedAt v.1 (NodeAt single w v.0)) (λ t. type_spelled t single w) (ranged (read_node inner single w))
      (λ v ts o m s. s) (type_back single) (reads_ranged (NodeAt single w) (read_node inner single w) (reads_node single))

  path_back : (y : TypeTree) (ts o : Trees) (m : Marks) → path_only y w ts o m → Image path_type (λ v. RangedAt v.1 (path_spelled v.0 w)) y ts o m
  path_back (type_tree (path no_self p) range) ts o m s = record { value = pair p range; is_it = refl; spelled = s }
  path_back (type_tree (path (some_self t n) p) range) ts o m s = absurd s.fact
  path_back (type_tree _ range) ts o m s = absurd s.fact

  pub reads_level : (mode : Mode) → Reader (λ t. moded mode t w) (read_level inner mode w)
  reads_level Whole = reads_single false
  reads_level Single = reads_single true
  reads_level PathOnly =
      reads_by path_type (λ v. RangedAt v.1 (path_spelled v.0 w)) (λ t. path_only t w) (ranged (read_path inner w))
      (λ v ts o m s. s) path_back (reads_ranged (λ p. path_spelled p w) (read_path inner w) paths)

-- ---- all levels: the depth never decides

pub reads_type_by : ((inner : Mode → Where → Parser TypeTree) (w : Where) → ReadsDeeper inner w.level → (mode : Mode) → Reader (λ t. moded mode t w) (read_level inner mode w)) →
    (depth : ℕ) (mode : Mode) (w : Where) → deepest < depth + w.level → Reader (λ t. moded mode t w) (read_type depth mode w)
reads_type_by level zero mode w h = λ ts y o m s.
    let deep : nat_lt deepest w.level ≡ true = lt-ltb deepest w.level (omega (arith, h)) in
    begins_deep w ts m (moded_begins mode y w ts o m s) deep
reads_type_by level (suc depth) mode w h = λ ts.
    level (read_type depth) w (λ inside v below. reads_type_by level depth inside v (omega (arith, h, below))) mode ts
