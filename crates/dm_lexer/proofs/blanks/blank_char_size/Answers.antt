use Rattle.std.proofs.Common.{◌≡◌, true}
use Rattle.dm_lexer.specs.Blanks.{is_blank_char}
use Rattle.dm_lexer.proofs.BlankSteps.{blank_char}
use Rattle.dm_lexer.proofs.blanks.blank_char_size.Goals as goal

pub returns-then-is_blank_char : goal.returns-then-is_blank_char
returns-then-is_blank_char c =
    let h : is_blank_char c.in_ok-c.c ≡ true = cc in
    rw c.len_utf8.ensures.value (blank_char _ _ _ c.utf8.text c.in_ok-c.ensures.bytes c.in_ok-c.ensures.chars h)
