use Rattle.dm_stream.specs.Cursors.{left}
use Rattle.dm_ast.specs.Tree.{path_view}
use Rattle.dm_read_paths.specs.BarePaths.{bare_path, read_bare_path}
use Rattle.dm_read_paths.specs.TypeReaders.{read_type}
use Rattle.dm_ast.specs.Readers.{place}
use Rattle.dm_meta.proofs.BarePaths.{bare_decided}
use Rattle.dm_meta.proofs.FrontParts.{front_found, front_refused}
use Rattle.dm_grammar_laws.proofs.LicensedDeclarations.{refused_there}
use Rattle.dm_meta.proofs.LicensedFronts.{licensed_bare_path}
use Rattle.dm_meta.proofs.parse_parts.parse_path.Goals as goal

pub returns-clause-found : goal.returns-clause-found
returns-clause-found c =
    let w = place 0 c.args.c in
    let ts = left c.args.c in
    front_found (λ p. bare_path p w) ts path_view w.limit (read_bare_path (read_type 129) w ts) (bare_decided w ts) (refused_there (licensed_bare_path w) ts) c.bare_path.result c.bare_path.ensures.reads

pub returns-clause-refused : goal.returns-clause-refused
returns-clause-refused c =
    let w = place 0 c.args.c in
    let ts = left c.args.c in
    front_refused (λ p. bare_path p w) ts path_view w.limit (read_bare_path (read_type 129) w ts) (bare_decided w ts) (refused_there (licensed_bare_path w) ts) c.bare_path.result c.bare_path.ensures.reads
