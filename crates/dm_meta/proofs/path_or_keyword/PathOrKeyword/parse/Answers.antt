-- What is found, and where none begins.
use Rattle.dm_meta.specs.Metas.{path_or_keyword_view, path_or_keyword, begins_path}
use Rattle.dm_meta.specs.MetaReaders.{read_path_or_keyword}
use Rattle.dm_meta.proofs.LicensedFronts.{licensed_word}
use Rattle.dm_meta.proofs.MetaRules.{word_decided}
use Rattle.dm_meta.proofs.MetaFronts.{found_at, refused_at}
use Rattle.dm_meta.proofs.path_or_keyword.PathOrKeyword.parse.Goals as goal

pub returns-in-Ok-clause-found : goal.returns-in-Ok-clause-found
returns-in-Ok-clause-found c = found_at path_or_keyword_view path_or_keyword begins_path read_path_or_keyword word_decided licensed_word c.args.c c.in-Ok.read c.in-Ok.ensures.reads

pub returns-in-Err-clause-refused : goal.returns-in-Err-clause-refused
returns-in-Err-clause-refused c = refused_at path_or_keyword_view path_or_keyword begins_path read_path_or_keyword word_decided licensed_word c.args.c c.in-Err.error c.at_front.result c.in-Err.ensures.reads c.at_front.ensures
