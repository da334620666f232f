use Rattle.std.proofs.Common.{false}
use Rattle.dm_stream.specs.Cursors.{left}
use Rattle.dm_ast.specs.Tree.{ty_view}
use Rattle.dm_ast.specs.TypeGrammar.{type_spelled}
use Rattle.dm_read_paths.specs.WholeReaders.{whole_type}
use Rattle.dm_ast.specs.Readers.{place}
use Rattle.dm_meta.proofs.FrontParts.{front_found, front_refused, whole_type_decided}
use Rattle.dm_grammar_laws.proofs.LicensedDeclarations.{type_refused_at}
use Rattle.dm_meta.proofs.parse_parts.parse_type.Goals as goal

pub returns-clause-found : goal.returns-clause-found
returns-clause-found c =
    let w = place 0 c.args.c in
    let ts = left c.args.c in
    front_found (λ t. type_spelled t false w) ts ty_view w.limit (whole_type w ts) (whole_type_decided w ts) (type_refused_at w ts) c.one_type.result c.one_type.ensures.reads

pub returns-clause-refused : goal.returns-clause-refused
returns-clause-refused c =
    let w = place 0 c.args.c in
    let ts = left c.args.c in
    front_refused (λ t. type_spelled t false w) ts ty_view w.limit (whole_type w ts) (whole_type_decided w ts) (type_refused_at w ts) c.one_type.result c.one_type.ensures.reads
