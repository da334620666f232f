use Rattle.std.proofs.Common.{◌≡◌, length, arith, refl}
use Rattle.dm_lexer.proofs.Nestings.{nesting-add}
use Rattle.dm_lexer.proofs.nesting.Nesting.add.Goals as goal

pub returns : goal.returns
returns c =
    let n : c.len.result ≡ length c.args.self.now.opened.items = omega arith in
    nesting-add _ _ _ c.in_ok-push.ensures.items refl (cc (c.deeper_of-self.ensures, n, c.span_of.ensures))
