-- What is read is the declaration, and what is refused is none.
use Rattle.dm_grammar_laws.proofs.DeclarationTheorem.{decl_found, decl_refused}
use Rattle.dm_read_decl.proofs.parse.parse_decl.Goals as goal

pub returns-clause-found : goal.returns-clause-found
returns-clause-found c = decl_found c.args.stream.now.limit c.args.stream.now.trees c.read_declaration.result c.read_declaration.ensures

pub returns-clause-refused : goal.returns-clause-refused
returns-clause-refused c = decl_refused c.args.stream.now.limit c.args.stream.now.trees c.read_declaration.result c.read_declaration.ensures
