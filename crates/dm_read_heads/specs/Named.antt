-- The trait and the type of a head, as the program holds them.
use Rattle.std.specs.Prelude.{List, map, option_map}
use Rattle.dm_ast.specs.declared.decl.WherePredicate.{WherePredicate}
use Rattle.dm_ast.specs.Tree.{ty_view, path_view}
use Rattle.dm_ast.specs.Declarations.{PredicateTree, predicate_view}
use Rattle.dm_read_heads.specs.declared.head.Named.{Named}
use Rattle.dm_read_heads.specs.Heads.{NamedTree}

abbrev pub named_view : Named → NamedTree
named_view n = (option_map path_view n.trait_path, ty_view n.ty)

abbrev pub behind_view : Named × List WherePredicate → NamedTree × List PredicateTree
behind_view v = (named_view v.0, map predicate_view v.1)
