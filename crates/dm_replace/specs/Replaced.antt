-- A declaration with its type in place of `Self`: each segment of a path that is spelled `Self` is the type's name with an argument for
-- each parameter, in the types of fields, in parameters and in predicates. All else stays as it was.
use Rattle.std.specs.Prelude.{Some}
use Rattle.dm_ast.specs.Tree.{SegmentTree, segment}
use Rattle.dm_ast.specs.Declarations.{Declaration}
use Rattle.dm_ast.specs.Implementors.{arguments, params_of}
use Rattle.dm_copy.specs.Replaced.{replaced_declaration}

-- the type's name with an argument for each parameter
abbrev pub declared_segment : Declaration → SegmentTree
declared_segment d = segment d.ident (arguments (params_of d))

abbrev pub replaced : Declaration → Declaration
replaced d = replaced_declaration (Some (declared_segment d)) d
