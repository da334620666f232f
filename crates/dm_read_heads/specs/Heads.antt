-- The head of an implementation as the program holds it, and the parts that functions of their own read.
use Rattle.std.specs.Prelude.{not, ◌&&◌, ◌||◌, Bool, List, map, Option, option_map, Some}
use Rattle.dm_stream.specs.Trees.{Trees}
use Rattle.dm_ast.specs.Tree.{TypeTree, ty_view, PathTree, path_view}
use Rattle.dm_ast.specs.Declarations.{ParamTree, param_view, PredicateTree, predicate_view}
use Rattle.dm_ast.specs.Readers.{tail}
use Rattle.dm_output.specs.declared.item.ItemAttr.{ItemAttr}
use Rattle.dm_output.specs.Output.{AssocTree, MethodTree, ItemTree}
use Rattle.dm_reread.specs.Leaves.{Answer}
use Rattle.dm_reread.specs.Reading.{then}
use Rattle.dm_reread.specs.TypeLeaves.{read_type}
use Rattle.dm_reread.specs.Items.{HeadTree}
use Rattle.dm_reread.specs.HeadLeaves.{read_generics, read_where, read_named, predicates_in, is_plain, is_lifetime}
use Rattle.dm_read_heads.specs.declared.head.Head.{Head}

abbrev pub head_view : Head → HeadTree
head_view h =
    record {
      params = map param_view h.params;
      trait_path = option_map path_view h.trait_path;
      ty = ty_view h.ty;
      predicates = map predicate_view h.predicates;
    }

-- the parameters in front
abbrev pub params_at : Trees → Answer (List ParamTree)
params_at ts = then (read_generics ts) (λ ps. Some (ps.0.1.items, ps.1))

-- the predicates in front
abbrev pub predicates_at : Trees → Answer (List PredicateTree)
predicates_at ts = then (read_where ts) (λ c. Some (predicates_in c.0, c.1))

-- a trait's path where there is one, and the type
abbrev pub NamedTree : Type 0
NamedTree = Option PathTree × TypeTree

-- `for` and a type, behind a trait's path
abbrev pub behind_path : PathTree → Trees → Answer NamedTree
behind_path p ts = then (read_type (tail ts)) (λ a. Some ((Some p, a.0), a.1))

-- the same, where there is a path
abbrev pub type_behind : Option PathTree → Trees → Answer NamedTree
type_behind path ts = then path (λ p. behind_path p ts)

-- perhaps a trait, the type, and predicates
abbrev pub behind_params : Trees → Answer (NamedTree × List PredicateTree)
behind_params ts = then (read_named ts) (λ x. then (predicates_at x.1) (λ c. Some ((x.0, c.0), c.1)))

-- a parameter as implementations have it, where lifetimes may still come
abbrev pub fits : Bool → ParamTree → Bool
fits lifetimes p = is_plain p && (lifetimes || not (is_lifetime p))

-- the parts as one
abbrev pub made_head : List ParamTree → NamedTree × List PredicateTree → HeadTree
made_head ps b = record { params = ps; trait_path = b.0.0; ty = b.0.1; predicates = b.1 }

-- an implementation of its attributes, its head and its members
abbrev pub item_of : List ItemAttr → HeadTree → List AssocTree → List MethodTree → ItemTree
item_of as' h xs ms =
    record { attrs = as'; params = h.params; trait_path = h.trait_path; ty = h.ty; predicates = h.predicates; assocs = xs; methods = ms }
