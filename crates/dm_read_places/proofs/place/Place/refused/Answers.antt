-- The refusal at this place.
use Rattle.std.proofs.Common.{◌∙◌, ap}
use Rattle.dm_stream.specs.declared.error.Error.TheVariants as error
use Rattle.dm_stream.specs.declared.error.Kind.TheVariants.{Syntax}
use Rattle.dm_stream.specs.Cursors.{end_of, front_span}
use Rattle.dm_read_places.proofs.place.Place.refused.Goals as goal

pub returns : goal.returns
returns c = (
  end_of c.self.inside.at,
  c.refused.ensures ∙ ap (λ ts. error.Refused (record { kind = Syntax; span = front_span ts (end_of c.self.inside.at) })) c.self.view_is,
)
