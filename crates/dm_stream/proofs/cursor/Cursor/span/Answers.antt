use Rattle.std.proofs.Common.{◌∷◌, ap, ◌∙◌}
use Rattle.dm_stream.proofs.Trees.{open_fits}
use Rattle.dm_stream.proofs.cursor.Cursor.span.Goals as goal

pub cut-requires : goal.cut-requires
cut-requires c =
    let e = open_fits _ _ _ _ _ c.requires (c.in-Some.ensures ∙ ap (λ e. e ∷ c.in-Some.rest.now) c.in-Open.is) in
    record { some = e.0; fits = e.1 }
