-- The implementations of the grammar.
use Rattle.std.specs.Prelude.{◌≡◌, Bool, true, false, T, List, [], ◌∷◌, Option, Some, None}
use Rattle.dm_stream.specs.Trees.{Trees, join}
use Rattle.dm_ast.specs.Tree.{TypeTree}
use Rattle.dm_output.specs.Output.{AssocTree, ParamOfMethod, MethodTree, ItemTree}
use Rattle.dm_reread.specs.Next.{Next, in_braces, next}
use Rattle.dm_reread.specs.Leaves.{LeafGrammar, LeafLaws}
use Rattle.dm_reread.specs.Grammar.{IsName, IsBlock}
use Rattle.dm_reread.specs.Items.{HeadTree, head_of, between_trees, ItemLeaves}

pub record ItemGrammar : Type 1 where
  pub parts : LeafGrammar
  pub IsHead : HeadTree → Type 0

abbrev pub ends_head : Next → Bool
ends_head (in_braces i ts) = true
ends_head _ = false

-- the leaves read what is in the grammar as just that, and leave the rest
pub record ItemLaws (g : ItemGrammar) (l : ItemLeaves) : Type 0 where
  pub parts : LeafLaws g.parts l.parts
  pub head : (h : HeadTree) (rest : Trees) → g.IsHead h → T (ends_head (next rest)) →
      l.head (join (between_trees h) rest) ≡ Some (h, rest)

abbrev pub IsAssoc : LeafGrammar → AssocTree → Type 0
IsAssoc g a = IsName a.name × g.IsType a.ty

abbrev pub AreAssocs : LeafGrammar → List AssocTree → Type 0
AreAssocs g [] = Unit {0}
AreAssocs g (a ∷ as') = IsAssoc g a × AreAssocs g as'

-- a parameter is not named `self`: that is a receiver
abbrev pub IsParam : LeafGrammar → Option ParamOfMethod → Type 0
IsParam g None = Unit {0}
IsParam g (Some p) = IsName p.name × g.IsType p.ty

abbrev pub IsOutput : LeafGrammar → Option TypeTree → Type 0
IsOutput g None = Unit {0}
IsOutput g (Some t) = g.IsType t

abbrev pub IsMethod : LeafGrammar → MethodTree → Type 0
IsMethod g x = (IsName x.name × IsParam g x.param) × (IsOutput g x.output × IsBlock g x.body)

abbrev pub AreMethods : LeafGrammar → List MethodTree → Type 0
AreMethods g [] = Unit {0}
AreMethods g (x ∷ xs) = IsMethod g x × AreMethods g xs

abbrev pub IsItem : ItemGrammar → ItemTree → Type 0
IsItem g i = g.IsHead (head_of i) × (AreAssocs g.parts i.assocs × AreMethods g.parts i.methods)

abbrev pub AreItems : ItemGrammar → List ItemTree → Type 0
AreItems g [] = Unit {0}
AreItems g (i ∷ is) = IsItem g i × AreItems g is
