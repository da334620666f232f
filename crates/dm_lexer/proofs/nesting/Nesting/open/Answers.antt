use Rattle.std.proofs.Common.{◌≡◌, arith, length}
use Rattle.dm_lexer.proofs.Nestings.{nesting-open}
use Rattle.dm_lexer.proofs.nesting.Nesting.open.Goals as goal

pub returns : goal.returns
returns c =
    let n : c.len.result ≡ length c.args.self.now.opened.items = omega arith in
    let place : c.len-place.result ≡ length c.args.self.now.entries.items = omega arith in
    nesting-open _ _ _ _ _ place c.in_ok-push.ensures.items c.in_ok-push-2.ensures.items (cc (c.deeper_of-self.ensures, n))
