-- The three parts of generics that an implementation has.
use Rattle.std.specs.Prelude.{List, ◌++◌, map, filter}
use Rattle.dm_ast.specs.Tree.{ArgumentTree, argument_view}
use Rattle.dm_ast.specs.Declarations.{Listed, listed, ParamTree, param_view, PredicateTree, predicate_view, GenericsTree}
use Rattle.dm_ast.specs.Implementors.{is_lifetime, is_other, bare, argument, predicates_in}
use Rattle.dm_generics.specs.declared.split.Split.{Split}
use Rattle.dm_generics.specs.Lists.{separated}

pub record SplitTree : Type 0 where
  pub impl_params : Listed ParamTree
  pub ty_args : Listed ArgumentTree
  pub predicates : Listed PredicateTree

abbrev pub split_view : Split → SplitTree
split_view s =
    record { impl_params = listed param_view s.impl_params; ty_args = listed argument_view s.ty_args; predicates = listed predicate_view s.predicates }

-- lifetimes first, then the others, without attributes and defaults
abbrev pub impl_params : GenericsTree → List ParamTree
impl_params g = map bare (filter is_lifetime g.params.items) ++ map bare (filter is_other g.params.items)

-- the parameters, an argument for each, and the predicates; no list ends with a comma
abbrev pub split_of : GenericsTree → SplitTree
split_of g =
    record { impl_params = separated (impl_params g); ty_args = separated (map argument (impl_params g)); predicates = separated (predicates_in g.where_clause) }
