-- What `eq` and `ne` mean: the trait's operation, field by field over the fields that aren't skipped.
use Rattle.std.specs.Prelude.{◌≡◌, List, [], ◌∷◌, length, Bool, true, not, ◌&&◌, ◌||◌, eqb, Option, Some, None, slice_get}
use Rattle.dm_ast.specs.Declarations.{Declaration, FieldTree}
use Rattle.dm_output.specs.Output.{MethodTree}
use Rattle.dm_output.specs.Values.{Value, Case, cases, field_list, truth, IsValue, value_input}
use Rattle.dm_output.specs.Run.{run_method}
use Rattle.dm_attr.specs.Skips.{is_skipped}

-- every outcome of a kept field is true
abbrev pub all_kept : List FieldTree → List Bool → Bool
all_kept [] os = true
all_kept (f ∷ fs) [] = true
all_kept (f ∷ fs) (o ∷ os) = (is_skipped f.attrs || o) && all_kept fs os

abbrev pub direct_in : Option Case → List Bool → Bool
direct_in None os = true
direct_in (Some c) os = is_skipped c.attrs || all_kept (field_list c.fields) os

-- the same variant, and it is skipped or every outcome of a kept field is true
abbrev pub direct_eq : Declaration → Value → Value → List Bool → Bool
direct_eq d x y os = eqb x.variant y.variant && direct_in (slice_get (cases d) x.variant) os

abbrev pub direct_ne : Declaration → Value → Value → List Bool → Bool
direct_ne d x y os = not (direct_eq d x y os)

-- a method gives this truth for every value, right side and list of outcomes, one for each field of self
pub record Gives (d : Declaration) (m : MethodTree) (direct : Declaration → Value → Value → List Bool → Bool) : Type 0 where
  pub gives : (x y : Value) (os : List Bool) → IsValue d x → IsValue d y → length os ≡ length x.fields →
      run_method d os m x (value_input y) ≡ Some (truth (direct d x y os))
