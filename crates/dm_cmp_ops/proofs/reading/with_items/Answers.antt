-- The text that is read back is the one that was handed over.
use Rattle.std.proofs.Common.{map, string_bytes}
use Rattle.dm_output.specs.Views.{item_view}
use Rattle.dm_cmp_ops.proofs.ReadBack.{read_back, not_read_back}
use Rattle.dm_cmp_ops.proofs.reading.with_items.Goals as goal

pub returns-in_err-items : goal.returns-in_err-items
returns-in_err-items c = λ i p e.
    not_read_back i (string_bytes c.args.text) c.deref.result.now c.in_err-items.field-0.0 c.from_residual.result c.deref.ensures p e
    c.in_err-items.ensures.unread c.from_residual.ensures.1

pub returns : goal.returns
returns c = λ i p e.
    read_back i (string_bytes c.args.text) c.deref.result.now c.owned.result (map item_view c.in_ok-items.items) c.deref.ensures c.owned.ensures p e
    c.in_ok-items.ensures.items
