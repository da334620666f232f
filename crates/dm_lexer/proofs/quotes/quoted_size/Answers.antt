use Rattle.std.proofs.Common.{◌≡◌, true, false}
use Rattle.std.specs.Str.{chars}
use Rattle.dm_lexer.specs.Quotes.{whole_lines}
use Rattle.dm_lexer.proofs.Openings.{opening-front, quoted-none, quoted-front, quoted-broken, quoted-whole}
use Rattle.dm_lexer.proofs.quotes.quoted_size.Goals as goal

pub text_from-requires : goal.text_from-requires
text_from-requires c = (opening-front _ _ c.utf8.text c.requires).boundary

pub returns-in_default : goal.returns-in_default
returns-in_default c = quoted-none _ _ _ c.utf8.text c.requires c.text_from.ensures c.in_default.ensures

pub text_to-requires : goal.text_to-requires
text_to-requires c = (quoted-front _ _ _ _ c.utf8.text c.requires c.text_from.ensures c.in-Some.ensures).boundary

pub returns-then-not-has_whole_lines : goal.returns-then-not-has_whole_lines
returns-then-not-has_whole_lines c =
    let h : whole_lines (chars c.text_to.result.now) ≡ false = cc in
    quoted-broken _ _ _ _ _ c.utf8.text c.requires c.text_from.ensures c.in-Some.ensures c.text_to.ensures h

pub returns : goal.returns
returns c =
    let h : whole_lines (chars c.text_to.result.now) ≡ true = cc in
    quoted-whole _ _ _ _ _ c.utf8.text c.requires c.text_from.ensures c.in-Some.ensures c.text_to.ensures h
