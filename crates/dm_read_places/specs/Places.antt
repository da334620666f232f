-- A place seen as the trees that are left, and what is true of each.
use Rattle.dm_stream.specs.Trees.{Trees}
use Rattle.dm_stream.specs.Cursors.{left, sound}
use Rattle.dm_read_places.specs.declared.place.Place.TheInside.{Inside}

abbrev pub trees_of : Inside → Trees
trees_of i = left i.at

abbrev pub IsSound : Inside → Type 0
IsSound i = sound i.at
