use Rattle.dm_lexer.proofs.RawStrings.{hashes-at, raw-opens}
use Rattle.dm_lexer.proofs.quotes.is_raw_opening.Goals as goal

pub text_from-requires : goal.text_from-requires
text_from-requires c = (hashes-at _ _ c.utf8.text c.hash_size-hashes.ensures.count).boundary

pub returns-clause-is : goal.returns-clause-is
returns-clause-is c =
    raw-opens _ _ _ _ c.utf8.text c.hash_size-hashes.ensures.count c.if-hashes-ge-HASHES_BOUND.false c.text_from.ensures c.begins_with.ensures
