-- Which identifiers may stand at a place.
use Rattle.std.specs.Prelude.{Bool}
use Rattle.dm_stream.specs.declared.tokens.Ident.{Ident}
use Rattle.dm_read.specs.declared.words.Fitting.{Fitting}
use Rattle.dm_read.specs.declared.words.Fitting.TheVariants.{Name, PathWord, Truth, InputName}
use Rattle.dm_ast.specs.Keywords.{is_name}
use Rattle.dm_ast.specs.TypeGrammar.{is_path_word, is_truth, is_input_name}

abbrev pub fits : Fitting → Ident → Bool
fits Name = is_name
fits PathWord = is_path_word
fits Truth = is_truth
fits InputName = is_input_name
