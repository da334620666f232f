-- These levels are those that the grammar gives: the levels of the marks that spell a part.
use Rattle.std.specs.Prelude.{◌≡◌, Bool, map}
use Rattle.dm_stream.specs.Trees.{Trees}
use Rattle.dm_ast.specs.Tree.{TypeTree}
use Rattle.dm_ast.specs.Declarations.{ParamTree, PredicateTree}
use Rattle.dm_ast.specs.Spelling.{Where, Marks}
use Rattle.dm_ast.specs.TypeGrammar.{type_spelled}
use Rattle.dm_ast.specs.DeclarationGrammar.{param, predicate}
use Rattle.dm_type_levels.specs.TypeLevels.{type_levels, param_levels, predicate_levels}

abbrev pub TypesAreMarked : Type 0
TypesAreMarked =
    (x : TypeTree) (single : Bool) (w : Where) (ts others : Trees) (m : Marks) → type_spelled x single w ts others m →
    map (λ k. k.0) m ≡ type_levels w.level x

abbrev pub ParamsAreMarked : Type 0
ParamsAreMarked =
    (x : ParamTree) (w : Where) (ts others : Trees) (m : Marks) → param x w ts others m → map (λ k. k.0) m ≡ param_levels w.level x

abbrev pub PredicatesAreMarked : Type 0
PredicatesAreMarked =
    (x : PredicateTree) (w : Where) (ts others : Trees) (m : Marks) → predicate x w ts others m →
    map (λ k. k.0) m ≡ predicate_levels w.level x
