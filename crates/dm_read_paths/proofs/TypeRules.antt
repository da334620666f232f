-- The rules of types: what their readers decide, where the readers of the types in them decide those.
use Rattle.std.proofs.Common.{◌≡◌, ℕ, ◌<◌, Bool, true, false, Option, Some, None, refl, sym, ◌∙◌}
use Rattle.dm_stream.specs.Trees.{Trees}
use Rattle.dm_read_paths.specs.declared.kind.NodeKind.{NodeKind}
use Rattle.dm_read_paths.specs.declared.kind.Mode.{Mode}
use Rattle.dm_read_paths.specs.declared.kind.Mode.TheVariants.{Whole, Single, PathOnly}
use Rattle.dm_ast.specs.Spelling.{Where, Marks, Spelling, Nothing, ◌then◌, Provided, Facing, RangedAt, sees_arrow, arrow, perhaps}
use Rattle.dm_ast.specs.TypeGrammar.{type_spelled, node, types, output, is_macro, sees_macro, path_spelled}
use Rattle.dm_ast.specs.Tree.{TypeTree, type_tree, TypeNode, path, no_self, MaybeType, no_type, some_type, maybe_type}
use Rattle.dm_ast.specs.Readers.{Parser, mapped, ◌next◌, read_perhaps, read_arrow}
use Rattle.dm_read_paths.specs.TypeReaders.{node_kind, read_types, read_output}
use Rattle.dm_read.proofs.Deciding.{Decides, Reader, Image, decides_by, reads_next, reads_perhaps}
use Rattle.dm_read.proofs.Groups.{reads_pair, pair_seen}
use Rattle.dm_read_paths.proofs.PlainParts.{reads_by}
use Rattle.dm_read_paths.proofs.NodeKinds.{kind_of, kind_is}
use Rattle.dm_read_paths.proofs.TypeLists.{reads_lists, type_lists}
use Rattle.dm_read_paths.proofs.TypeEnds.{type_goes_on}

-- ---- what the readers of the types in a rule have to decide

-- a type that is a path alone
abbrev pub path_only : TypeTree → Where → Spelling
path_only (type_tree (path no_self p) range) w = RangedAt range (path_spelled p w)
path_only _ w = Provided ⊥ Nothing

abbrev pub moded : Mode → TypeTree → Where → Spelling
moded Whole t w = type_spelled t false w
moded Single t w = type_spelled t true w
moded PathOnly t w = path_only t w

abbrev pub ReadsDeeper : (Mode → Where → Parser TypeTree) → ℕ → Type 0
ReadsDeeper inner n = (mode : Mode) (v : Where) → n < v.level → Reader (λ t. moded mode t v) (inner mode v)

-- the node of a type, at its place
abbrev pub NodeAt : Bool → Where → TypeNode → Spelling
NodeAt single w n = Facing (λ ts. sees_macro ts ≡ is_macro n) (node n single w)

module _ (inner : Mode → Where → Parser TypeTree) where
  -- ---- lists of types

  pub reads_types : (v : Where) → Reader (λ t. type_spelled t false v) (inner Whole v) → Reader (λ r. types r.0 r.1 v) (read_types inner v)
  reads_types v h = reads_lists (type_lists v) (inner Whole v) (λ t ts o m s. type_goes_on t false v ts o m s) h

  -- ---- `-> T`

  abbrev Arrow : Where → Where → TypeTree → Spelling
  Arrow w deep t = arrow w then type_spelled t true deep

  output_to : (w deep : Where) (x : Option TypeTree) (ts o : Trees) (m : Marks) → perhaps sees_arrow x (Arrow w deep) ts o m → output (maybe_type x) w deep ts o m
  output_to w deep None ts o m s = s
  output_to w deep (Some t) ts o m s = s

  output_back : (w deep : Where) (y : MaybeType) (ts o : Trees) (m : Marks) → output y w deep ts o m → Image maybe_type (λ x. perhaps sees_arrow x (Arrow w deep)) y ts o m
  output_back w deep no_type ts o m s = record { value = None; is_it = refl; spelled = s }
  output_back w deep (some_type t) ts o m s = record { value = Some t; is_it = refl; spelled = s }

  pub reads_output : (w deep : Where) → Reader (λ t. type_spelled t true deep) (inner Single deep) → Reader (λ y. output y w deep) (read_output inner w deep)
  reads_output w deep h =
      reads_by maybe_type (λ x. perhaps sees_arrow x (Arrow w deep)) (λ y. output y w deep) (read_perhaps sees_arrow (read_arrow w next inner Single deep))
      (output_to w deep) (output_back w deep)
      (reads_perhaps sees_arrow (Arrow w deep) (read_arrow w next inner Single deep) (λ t ts o m s. pair_seen 45 62 w ts s.middle s.first_marks s.first)
      (reads_next (arrow w) (λ t. type_spelled t true deep) (read_arrow w) (inner Single deep) (reads_pair 45 62 w) h))

  -- a rule, of nodes of one kind
  pub rule_by : {A : Type 0} (f : A → TypeNode) (P : A → Spelling) (single : Bool) (w : Where) (k : NodeKind) (p : Parser A) →
      ((x : A) (ts o : Trees) (m : Marks) → P x ts o m → node (f x) single w ts o m) → ((x : A) → is_macro (f x) ≡ false) →
      ((y : TypeNode) (ts o : Trees) (m : Marks) → NodeAt single w y ts o m → kind_of y ≡ k → Image f P y ts o m) → Reader P p →
      (ts : Trees) → node_kind ts ≡ k → sees_macro ts ≡ false → Decides (NodeAt single w) ts (mapped f (p ts))
  rule_by f P single w k p to none back h ts e n =
      decides_by f P (NodeAt single w) ts (λ x o m s. record { fact = n ∙ sym (none x); part = to x ts o m s })
      (λ y o m s. back y ts o m s (sym (kind_is y single w ts o m s) ∙ e)) (p ts) (h ts)
