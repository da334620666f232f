-- What is found, and where none begins.
use Rattle.dm_meta.specs.Metas.{nested_meta_view, nested_meta, nested_begins_path}
use Rattle.dm_meta.specs.MetaReaders.{read_nested_meta}
use Rattle.dm_meta.proofs.LicensedFronts.{licensed_nested}
use Rattle.dm_meta.proofs.MetaRules.{nested_decided}
use Rattle.dm_meta.proofs.MetaFronts.{found_at, refused_at}
use Rattle.dm_meta.proofs.meta.NestedMeta.parse.Goals as goal

pub returns-in-Ok-clause-found : goal.returns-in-Ok-clause-found
returns-in-Ok-clause-found c = found_at nested_meta_view nested_meta nested_begins_path read_nested_meta nested_decided licensed_nested c.args.c c.in-Ok.read c.in-Ok.ensures.reads

pub returns-in-Err-clause-refused : goal.returns-in-Err-clause-refused
returns-in-Err-clause-refused c = refused_at nested_meta_view nested_meta nested_begins_path read_nested_meta nested_decided licensed_nested c.args.c c.in-Err.error c.at_front.result c.in-Err.ensures.reads c.at_front.ensures
