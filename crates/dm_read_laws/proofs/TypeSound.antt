-- The type that is read where it has the tokens that were passed is one of the grammar.
use Rattle.std.proofs.Common.{◌≡◌, false, Some, ap, ◌∙◌, subst}
use Rattle.dm_stream.specs.Trees.{Trees}
use Rattle.dm_ast.specs.Tree.{TypeTree}
use Rattle.dm_ast.specs.TypeGrammar.{type_spelled}
use Rattle.dm_ast.specs.TypeTokens.{type_trees}
use Rattle.dm_read.proofs.Deciding.{IsRead}
use Rattle.dm_read_paths.specs.WholeReaders.{whole_type}
use Rattle.dm_type_eq.specs.Unplaced.{unplaced_type}
use Rattle.dm_reread.specs.BareReading.{NaturalItems}
use Rattle.dm_reread.specs.ReadBack.{item_leaves}
use Rattle.dm_reread.specs.TypeLeaves.{top, read_type, IsType}
use Rattle.dm_reread.specs.ExactLeaves.{exact_type}
use Rattle.dm_type_eq.proofs.BareTypeTokens.{type-bare}
use Rattle.dm_reread.proofs.TypeLeaf.{whole_decided}
use Rattle.dm_reread.proofs.TypeLeafUnplaced.{read_is_type}
use Rattle.dm_read_laws.specs.Sound.{IsBare, Spells}
use Rattle.dm_read_laws.proofs.ExactSound.{is_read, natural_answer, exact_answer, exact_spells}

-- ---- the type in front

pub type_is_read : (ts us : Trees) (x : TypeTree) → read_type ts ≡ Some (x, us) → IsRead (λ y. type_spelled y false top) ts x us
type_is_read ts us x e = is_read (λ y. type_spelled y false top) (whole_type top) whole_decided ts us x e

module _ (N : NaturalItems item_leaves) where
  pub type_sound : (ts us : Trees) (x : TypeTree) → IsBare ts → exact_type ts ≡ Some (x, us) → IsType x × Spells (type_trees x) ts us
  type_sound ts us x b e =
      let a = exact_answer type_trees ts us x (read_type ts) e in
      let r : IsRead (λ y. type_spelled y false top) ts x us = type_is_read ts us x a.0 in
      let n = natural_answer unplaced_type exact_type ts us x (N.parts.type ts) b e in
      let bare : IsBare (type_trees x) = type-bare x ∙ ap type_trees n.0 in (
        subst IsType n.0 (read_is_type x false top ts us r.marks r.spelled r.within),
        exact_spells (type_trees x) ts us (record { front = r.covers.front; splits = r.covers.splits }) a.1 bare n.1 b,
      )
