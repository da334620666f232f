-- A bound that is added to each type parameter, as the program has it.
use Rattle.dm_stream.specs.declared.tokens.Ident.{Ident}
use Rattle.dm_ast.specs.Tree.{BoundTree, bound_view}
use Rattle.dm_generics.specs.declared.additions.Extra.{Extra}
use Rattle.dm_generics.specs.declared.additions.Extra.TheVariants.{Given, OpOutput}
use Rattle.dm_generics.specs.Bounds.{op_output}

-- for the type parameter of this identifier
abbrev pub bound : Extra → Ident → BoundTree
bound (Given b) i = bound_view b.now
bound (OpOutput name) i = op_output name.now i
