-- The implementation of `PartialEq` but for its bodies.
use Rattle.std.specs.Prelude.{◌≡◌, List, [], ◌∷◌, ◌++◌, Bool, true, false, codes, Some}
use Rattle.dm_ast.specs.Tree.{PathTree}
use Rattle.dm_ast.specs.Declarations.{PredicateTree, Declaration}
use Rattle.dm_ast.specs.Implementors.{plain_path, name_type, params_of, predicates_of, implementor}
use Rattle.dm_output.specs.Output.{ItemTree, MethodTree}
use Rattle.dm_output.specs.Values.{Text}
use Rattle.dm_output.specs.declared.item.ItemAttr.TheVariants.{AllowPrivateBounds, AutomaticallyDerived, Inline}
use Rattle.dm_output.specs.declared.item.Receiver.TheVariants.{Ref}
use Rattle.dm_generics.specs.Words.{word, words, ref_self}
use Rattle.dm_attr.specs.Skips.{is_skipped}
use Rattle.dm_operands.specs.Marked.{marked}
use Rattle.dm_operands.specs.Kept.{some_compared}
use Rattle.dm_bounds.specs.Needed.{needed}
use Rattle.dm_partial_eq.specs.Direct.{Gives, direct_eq, direct_ne}

-- derive_more::core::cmp::PartialEq
abbrev pub partial_eq_path : PathTree
partial_eq_path = plain_path (words (codes "derive_more" ∷ codes "core" ∷ codes "cmp" ∷ codes "PartialEq" ∷ []))

-- `#[inline] fn NAME(&self, __other: &Self) -> bool`
pub record IsComparison (name : Text) (m : MethodTree) : Type 0 where
  pub attrs : m.attrs ≡ Inline ∷ []
  pub is_const : m.is_const ≡ false
  pub name_is : m.name ≡ word name
  pub receiver : m.receiver ≡ Some Ref
  pub param : m.param ≡ Some (record { name = word (codes "__other"); ty = ref_self })
  pub output : m.output ≡ Some (name_type (word (codes "bool")))

-- `eq`, which gives its meaning, and `ne` behind it exactly where some variant is compared
abbrev pub AreMethods : Declaration → Bool → List MethodTree → Type 0
AreMethods d false (eq ∷ []) = IsComparison (codes "eq") eq × Gives d eq direct_eq
AreMethods d true (eq ∷ ne ∷ []) = (IsComparison (codes "eq") eq × Gives d eq direct_eq) × (IsComparison (codes "ne") ne × Gives d ne direct_ne)
AreMethods d _ _ = ⊥

-- the declared predicates, and behind them those that the kept fields need
abbrev pub all_predicates : Declaration → List PredicateTree
all_predicates d = predicates_of d ++ needed partial_eq_path d

-- the implementation of `PartialEq`: its head, and what its methods give
pub record IsPartialEq (d : Declaration) (item : ItemTree) : Type 0 where
  pub attrs : item.attrs ≡ AllowPrivateBounds ∷ AutomaticallyDerived ∷ []
  pub params : item.params ≡ params_of d
  pub trait_path : item.trait_path ≡ Some partial_eq_path
  pub ty : item.ty ≡ implementor d
  pub predicates : item.predicates ≡ all_predicates d
  pub assocs : item.assocs ≡ []
  pub methods : AreMethods d (some_compared (marked is_skipped d)) item.methods
