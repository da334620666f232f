-- Steps of what is printed without its trees.
use Rattle.std.proofs.Common.{◌≡◌, ℕ, List, refl, sym}
use Rattle.dm_stream.specs.Layout.{Laid, nowhere}
use Rattle.dm_ast.specs.Tree.{PathTree}
use Rattle.dm_ast.specs.TypeTokens.{path_trees}
use Rattle.dm_output.specs.Tokens.{pattern_trees}
use Rattle.dm_output.specs.Values.{Text}
use Rattle.dm_print_types.specs.Laying.{lay}
use Rattle.dm_print_types.proofs.Laying.{lay-join, print_steps}
use Rattle.dm_generics.proofs.Builders.{segments_of_plain}
use Rattle.dm_operands.specs.declared.cases.Form.{Form}
use Rattle.dm_operands.specs.declared.cases.Form.TheVariants as forms
use Rattle.dm_operands.specs.Marked.{MarkedField}
use Rattle.dm_operands.specs.Sides.{side_pattern}
use Rattle.dm_sides.specs.Fields.{fields_trees}

-- the path, and the fields behind it
pub side-laid : (s : Laid) (naming : ℕ → Text) (p : PathTree) (form : Form) (fs : List MarkedField) →
    lay (lay s (path_trees nowhere p)) (fields_trees naming form fs) ≡ lay s (pattern_trees (side_pattern naming p form fs))
side-laid s naming p forms.Named fs = sym (lay-join s (path_trees nowhere p) (fields_trees naming forms.Named fs))
side-laid s naming p forms.Unnamed fs = sym (lay-join s (path_trees nowhere p) (fields_trees naming forms.Unnamed fs))
side-laid s naming p forms.Unit fs = refl

pub ruleset pattern_steps = (print_steps, segments_of_plain, side-laid)
