use Rattle.std.proofs.Common.{Bool, List, ℕ, ◌++◌, ap, ◌∙◌}
use Rattle.dm_layout.specs.Fixed.{begins_tight, ends_open}
use Rattle.dm_stream.specs.Layout.{Laid}
use Rattle.dm_layout.proofs.Fixing.{front, fixed-laid, on-ok}
use Rattle.dm_layout.proofs.layout.Layout.fixed.Goals as goal

pub returns : goal.returns
returns c =
    let s = c.args.self.now in
    let text = c.args.text.now in
    let tight = c.begins_tight.ensures ∙ ap begins_tight c.as_bytes-bytes.ensures.value in
    let opens = c.ends_open.ensures ∙ ap ends_open c.as_bytes-bytes.ensures.value in
    on-ok c.verbatim.result
    (λ e. e ∙
    ap (λ (b : Bool). record { text = front b s ++ text; glued = c.ends_open.result }) tight ∙
    ap (λ (b : Bool). record { text = front (begins_tight text) s ++ text; glued = b }) opens ∙
    fixed-laid s text c.requires)
    c.verbatim.ensures
