-- The entries behind some tokens as the program hands them on.
use Rattle.std.specs.Prelude.{List, Result, Ok, Err}
use denote.Ref.{Bor}
use Rattle.dm_stream.specs.declared.tokens.Span.{Span}
use Rattle.dm_stream.specs.declared.tokens.Entry.{Entry}

abbrev pub seen : Result (Bor (List Entry)) Span → Result (List Entry) Span
seen (Ok es) = Ok es.now
seen (Err s) = Err s
