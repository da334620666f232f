-- A turn that goes on, and an attribute that is refused.
use Rattle.std.proofs.Common.{◌≡◌, ◌∙◌, ◌+◌, ◌-◌, List, length, Ok, Err, sym, ap, subst}
use Rattle.dm_stream.specs.Cursors.{left}
use Rattle.dm_ast.specs.Spelling.{sees}
use Rattle.dm_ast.specs.declared.plain.Attribute.{Attribute}
use Rattle.dm_ast.specs.Readers.{place, Reads, repeat_from}
use Rattle.dm_ast.specs.PlainReaders.{read_attribute, read_attributes}
use Rattle.dm_read.proofs.Deciding.{pair}
use Rattle.dm_read.proofs.Loops.{place_same, reads_passed, repeat_refused, repeat_next}
use Rattle.dm_read.proofs.parts.attributes.Goals as goal

pub loop-turn-preserved : goal.loop-turn-preserved
loop-turn-preserved c =
    let inv = c.loop-turn.invariant in
    let here = place_same c.args.level c.args.c c.loop-turn.rest inv.0.same_limit in
    let item = subst (λ w. read_attribute w (left c.loop-turn.rest) ≡ Ok (pair c.in_ok-item.item (left c.in_ok-item.next))) here c.in_ok-item.ensures.reads in (
      record {
        is_sound = c.in_ok-item.ensures.place.is_sound;
        same_limit = c.in_ok-item.ensures.place.same_limit ∙ inv.0.same_limit;
      },
      repeat_next (place c.args.level c.args.c) (sees 35) (read_attribute (place c.args.level c.args.c)) _ _ c.loop-turn._turn
          c.loop-turn.items (left c.loop-turn.rest) c.loop-turn-test.true inv.1 (sym c.sees.ensures ∙ c.if-not-sees.false)
          c.in_ok-item.item (left c.in_ok-item.next) item ∙
          ap (λ l. repeat_from (place c.args.level c.args.c) (sees 35) (read_attribute (place c.args.level c.args.c)) (c.len-turn-end.result + 1 - (c.loop-turn._turn + 1)) l (left c.in_ok-item.next))
          (sym c.in_ok-add.ensures.added),
    )

pub returns-in_err-item-clause-reads : goal.returns-in_err-item-clause-reads
returns-in_err-item-clause-reads c =
    let inv = c.loop-turn.invariant in
    let here = place_same c.args.level c.args.c c.loop-turn.rest inv.0.same_limit in
    let cut = subst (λ w. Reads {A = Attribute} {X = Attribute} (λ l. l) (read_attribute w (left c.loop-turn.rest)) (Err c.in_err-item.field-0.0)) here c.in_err-item.ensures.reads in
    reads_passed (λ (l : List Attribute). l) (λ (a : Attribute). a) (read_attributes (place c.args.level c.args.c) (left c.args.c))
    (read_attribute (place c.args.level c.args.c) (left c.loop-turn.rest)) c.in_err-item.field-0.0 cut
    (λ r p.
    repeat_refused (place c.args.level c.args.c) (sees 35) (read_attribute (place c.args.level c.args.c)) _ _ c.loop-turn._turn
    c.loop-turn.items (left c.loop-turn.rest) c.loop-turn-test.true inv.1 (sym c.sees.ensures ∙ c.if-not-sees.false) r p)
    c.from_residual.result c.from_residual.ensures.1
