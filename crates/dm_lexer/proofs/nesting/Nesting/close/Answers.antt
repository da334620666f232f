use Rattle.std.proofs.Common.{◌≡◌, ◌<◌, true, arith, length, refl, sym, ◌∙◌}
use Rattle.dm_stream.proofs.Delims.{told_same}
use Rattle.dm_stream.specs.Cursors.{same_delim}
use Rattle.dm_lexer.proofs.Nestings.{nesting-close, place-within}
use Rattle.dm_lexer.proofs.nesting.Nesting.close.Goals as goal

pub overflow_sub-count : goal.overflow_sub-count
overflow_sub-count c =
    let p : c.in-Some.innermost.place < length c.args.self.now.entries.items = place-within _ _ _ c.requires c.in-Some.ensures.items in
    omega arith

pub put-requires : goal.put-requires
put-requires c =
    let p : c.in-Some.innermost.place < length c.args.self.now.entries.items = place-within _ _ _ c.requires c.in-Some.ensures.items in
    omega arith

pub returns : goal.returns
returns c =
    let same : same_delim c.in-Some.innermost.delim c.args.delim ≡ true = told_same _ _ (sym c.ne.ensures ∙ c.if-ne.false) in
    let n : c.len.result ≡ length c.pop.new.self.items = omega arith in
    let count : c.len-2.result ≡ length c.args.self.now.entries.items = omega arith in
    nesting-close _ _ _ _ _ _ c.in-Some.ensures.items same refl (cc (c.in_ok-push.ensures.items, c.put.ensures, count)) (cc (c.deeper_of-self.ensures, n))
