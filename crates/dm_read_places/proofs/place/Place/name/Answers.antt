-- A word of a path.
use Rattle.std.proofs.Common.{◌≡◌, Some, subst}
use Rattle.dm_stream.specs.Cursors.{left, first_ident}
use Rattle.dm_read_places.proofs.Seeing.{name_first}
use Rattle.dm_read_places.proofs.place.Place.name.Goals as goal

pub returns : goal.returns
returns c =
    name_first c.args.self.now (left c.in_ok-ident.rest) c.in_ok-ident.ident.now c.kind_of.result
    (subst (λ ts. first_ident ts ≡ Some (c.in_ok-ident.ident.now, left c.in_ok-ident.rest)) c.self.view_is c.in_ok-ident.ensures.gives)
    c.kind_of.ensures c.if-not-is_name.ensures
