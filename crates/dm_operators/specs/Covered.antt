-- That predicates cover the operations on fields: each kept field whose type mentions a parameter has the predicate of its type and the
-- trait, or the implementation's own type stands in its type.
use Rattle.std.specs.Prelude.{◌≡◌, ℕ, List, false, Some, slice_get}
use Rattle.dm_ast.specs.Declarations.{FieldTree, PredicateTree, Declaration}
use Rattle.dm_output.specs.Values.{Case, cases, field_list}
use Rattle.dm_bounds.specs.Needed.{wanted_of}
use Rattle.dm_bounds.specs.Covering.{IsCovered}
use Rattle.dm_operators.specs.Operators.{Form, structural, scalar, unary, Operator}
use Rattle.dm_operators.specs.Attributes.{skips, form_in}
use Rattle.dm_operators.specs.Predicates.{asked}

-- something stands right of self
abbrev pub IsBinary : Form → Type 0
IsBinary structural = Unit {0}
IsBinary scalar = Unit {0}
IsBinary unary = ⊥

-- the trait's operation may be called on each field that it is called on
pub record Covers (o : Operator) (d : Declaration) (ps : List PredicateTree) : Type 0 where
  pub covers : (c : Case) (f : FieldTree) (i j : ℕ) → slice_get (cases d) i ≡ Some c →
      slice_get (field_list c.fields) j ≡ Some f → skips o f.attrs ≡ false →
      IsCovered (asked (form_in o d) o f.ty) (wanted_of d) ps f.ty
