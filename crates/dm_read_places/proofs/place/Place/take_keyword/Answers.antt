-- The keyword that is wanted, or another word.
use Rattle.std.proofs.Common.{◌≡◌, Some, refl, subst}
use Rattle.dm_stream.specs.Cursors.{left, first_ident}
use Rattle.dm_read_places.proofs.Seeing.{keyword_first, other_first}
use Rattle.dm_read_places.proofs.place.Place.take_keyword.Goals as goal

pub returns-then-not-is : goal.returns-then-not-is
returns-then-not-is c = (
  other_first c.args.self.now (left c.in-Some.rest) c.in-Some.ident.now c.kind_of.result c.args.wanted
      (subst (λ ts. first_ident ts ≡ Some (c.in-Some.ident.now, left c.in-Some.rest)) c.self.view_is c.in-Some.ensures.gives)
      c.kind_of.ensures c.if-not-is.ensures,
  refl,
)

pub returns-else-not-is : goal.returns-else-not-is
returns-else-not-is c =
    keyword_first c.args.self.now (left c.in-Some.rest) c.in-Some.ident.now c.kind_of.result c.args.wanted
    (subst (λ ts. first_ident ts ≡ Some (c.in-Some.ident.now, left c.in-Some.rest)) c.self.view_is c.in-Some.ensures.gives)
    c.kind_of.ensures c.if-not-is.ensures
