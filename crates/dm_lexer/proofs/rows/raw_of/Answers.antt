use Rattle.std.proofs.Common.{◌≡◌, length, drop, ap, arith, length-drop}
use Rattle.dm_lexer.proofs.RowSteps.{raw-found, raw-refused}
use Rattle.dm_lexer.proofs.rows.raw_of.Goals as goal

pub returns-in_default : goal.returns-in_default
returns-in_default c = raw-refused _ _ _ c.requires.begins c.requires.behind c.in_default.ensures

pub raw_word_of-requires-clause-fits : goal.raw_word_of-requires-clause-fits
raw_word_of-requires-clause-fits c =
    let two = c.requires.behind.front.boundary.0 in
    let whole = c.requires.fits in
    let rest : length (drop 2 c.args.text.now) ≡ length c.args.rest.now = ap length c.requires.behind.rest_is in
    omega (arith, length-drop 2 c.args.text.now, rest, two, whole)

pub overflow_add-result : goal.overflow_add-result
overflow_add-result c =
    let two = c.requires.behind.front.boundary.0 in
    let whole = c.requires.fits in
    let name = c.run_size-size.ensures.boundary.0 in
    let rest : length (drop 2 c.args.text.now) ≡ length c.args.rest.now = ap length c.requires.behind.rest_is in
    omega (arith, length-drop 2 c.args.text.now, rest, two, whole, name)

pub returns : goal.returns
returns c =
    rw c.raw_word_of.ensures
    (raw-found _ _ _ _ _ c.utf8.text c.requires.some c.requires.begins c.requires.behind c.run_size-size.ensures c.in-Some.ensures)
