use Rattle.std.proofs.Common.{◌<◌, ◌^◌, arith}
use Rattle.dm_lexer.proofs.Codes.{code-fits}
use Rattle.dm_lexer.proofs.quotes.code_with.Goals as goal

pub overflow_mul-result : goal.overflow_mul-result
overflow_mul-result c =
    let small : c.args.code.value < 2 ^ 20 = code-fits _ _ c.if-code-ge-MOST_CODE_DIGITS.false c.requires.value in
    omega arith

pub overflow_add-result-2 : goal.overflow_add-result-2
overflow_add-result-2 c =
    let small : c.args.code.value < 2 ^ 20 = code-fits _ _ c.if-code-ge-MOST_CODE_DIGITS.false c.requires.value in
    grind arith
