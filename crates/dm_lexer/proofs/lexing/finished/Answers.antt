use Rattle.std.proofs.Common.{◌≡◌, [], None}
use Rattle.dm_lexer.proofs.LexSteps.{lex-unclosed, lex-deep, lex-flat}
use Rattle.dm_lexer.proofs.Lexed.{refusal-lexed, nesting-lexed}
use Rattle.dm_lexer.proofs.lexing.finished.Goals as goal

pub returns-in-Some : goal.returns-in-Some
returns-in-Some c = λ deepest n. refusal-lexed _ _ _ (lex-unclosed _ _ _ _ _ n c.in-Some.ensures c.refused.ensures)

pub returns-in-Some-first : goal.returns-in-Some-first
returns-in-Some-first c =
    let none : c.args.nesting.opened.items ≡ [] = c.in_default.ensures in
    λ deepest n. refusal-lexed _ _ _ (lex-deep _ _ _ _ _ n none c.in-Some-first.is c.refused-in-Some-first.ensures)

pub from_entries-requires : goal.from_entries-requires
from_entries-requires c =
    let none : c.args.nesting.opened.items ≡ [] = c.in_default.ensures in
    lex-flat _ c.requires none

pub returns : goal.returns
returns c =
    let none : c.args.nesting.opened.items ≡ [] = c.in_default.ensures in
    let shallow : c.args.nesting.deep.first ≡ None = c.in_default-first.is in
    λ deepest n. nesting-lexed _ _ _ _ c.utf8.text n none shallow c.from_entries.ensures.trees c.from_entries.ensures.limit
