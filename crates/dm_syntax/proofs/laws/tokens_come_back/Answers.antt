use Rattle.dm_stream.specs.Layout.{nowhere}
use Rattle.dm_ast.specs.TypeTokens.{type_trees}
use Rattle.dm_ast.specs.DeclarationTokens.{predicate_trees}
use Rattle.dm_syntax.proofs.Back.{backs, gives_of}
use Rattle.dm_syntax.proofs.WalkedTypes.{walk_type}
use Rattle.dm_syntax.proofs.MetaBack.{gives_bare_path, gives_word, list_back, gives_meta, gives_nested}
use Rattle.dm_syntax.proofs.PredicateBack.{back_predicate}
use Rattle.dm_syntax.proofs.DeclarationBack.{declaration_back}
use Rattle.dm_syntax.proofs.laws.tokens_come_back.Goals as goal

pub returns : goal.returns
returns c =
    record {
      types = λ x single w ts o m s. gives_of (type_trees x) ts o (walk_type backs x single w ts o m s);
      paths = λ p. gives_bare_path p nowhere;
      words = gives_word;
      lists = list_back;
      metas = gives_meta;
      nested = gives_nested;
      predicates = λ p w ts o m s. gives_of (predicate_trees p) ts o (back_predicate p w ts o m s);
      declarations = declaration_back;
    }
