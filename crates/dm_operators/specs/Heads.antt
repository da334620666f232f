-- The implementation of an operator but for its body, and what its method gives.
use Rattle.std.specs.Prelude.{◌≡◌, ℕ, List, [], ◌∷◌, ◌++◌, map, Bool, true, false, cond, Option, Some, None, codes}
use Rattle.dm_ast.specs.Tree.{TypeTree, type_tree, path, path_tree, segment, segments_of, angle, type_arg, arguments_of, no_self}
use Rattle.dm_ast.specs.Declarations.{ParamTree, PredicateTree, Declaration}
use Rattle.dm_ast.specs.Implementors.{plain_path, params_of, predicates_of, implementor}
use Rattle.dm_stream.specs.Layout.{nowhere}
use Rattle.dm_output.specs.Output.{AssocTree, ParamOfMethod, MethodTree, ItemTree}
use Rattle.dm_output.specs.Values.{is_enum}
use Rattle.dm_output.specs.declared.item.ItemAttr.{ItemAttr}
use Rattle.dm_output.specs.declared.item.ItemAttr.TheVariants.{AllowPrivateBounds, AllowDeprecated, AllowUnreachableCode, AutomaticallyDerived, Inline, TrackCaller}
use Rattle.dm_output.specs.declared.item.Receiver.{Receiver}
use Rattle.dm_output.specs.declared.item.Receiver.TheVariants as receiver
use Rattle.dm_generics.specs.Words.{word, words, plain_segments, self_type}
use Rattle.dm_generics.specs.Bounds.{op_output}
use Rattle.dm_generics.specs.Additions.{bounded}
use Rattle.dm_bounds.specs.RightSide.{right_type, right_param}
use Rattle.dm_operators.specs.Operators.{Form, structural, scalar, unary, Operator}
use Rattle.dm_operators.specs.Attributes.{form_in}
use Rattle.dm_operators.specs.Meaning.{has_unit, Gives}
use Rattle.dm_operators.specs.Predicates.{implemented, needed}

-- ---- types

-- derive_more::core::result::Result<T, derive_more::ERROR>
abbrev pub result_of : TypeTree → List (List ℕ) → TypeTree
result_of t error =
    type_tree (path no_self (path_tree false (segments_of
    (plain_segments (codes "derive_more" ∷ codes "core" ∷ codes "result" ∷ []) ++
    segment (word (codes "Result")) (angle false (arguments_of (type_arg t ∷
    type_arg (type_tree (path no_self (plain_path (words error))) nowhere) ∷ [])) false) ∷ [])))) nowhere

-- what the operator of two values gives
abbrev pub binary_output : Bool → TypeTree
binary_output true = result_of self_type (codes "derive_more" ∷ codes "BinaryError" ∷ [])
binary_output false = self_type

-- what the operator of one value gives
abbrev pub unary_output : Declaration → TypeTree
unary_output d = cond (has_unit d) (result_of (implementor d) (codes "derive_more" ∷ codes "UnitError" ∷ [])) (implementor d)

-- the type that `Output` names
abbrev pub output_type : Form → Declaration → TypeTree
output_type structural d = binary_output (is_enum d)
output_type scalar d = self_type
output_type unary d = unary_output d

-- `type Output = ..`, which assigning traits do not have
abbrev pub assocs : Form → Operator → Declaration → List AssocTree
assocs form o d = cond o.assigning [] (record { name = word (codes "Output"); ty = output_type form d } ∷ [])

-- ---- the method

-- with a right side the caller is tracked
abbrev pub method_attrs : Form → List ItemAttr
method_attrs structural = Inline ∷ TrackCaller ∷ []
method_attrs scalar = Inline ∷ TrackCaller ∷ []
method_attrs unary = Inline ∷ []

-- `&mut self`, or `self`
abbrev pub receiver_of : Operator → Receiver
receiver_of o = cond o.assigning receiver.RefMut receiver.Value

-- the parameter of this type
abbrev pub right_of : TypeTree → Option ParamOfMethod
right_of t = Some (record { name = word (codes "__rhs"); ty = t })

-- the right side
abbrev pub method_param : Form → Option ParamOfMethod
method_param structural = right_of self_type
method_param scalar = right_of right_type
method_param unary = None

-- `Self::Output`
abbrev pub own_output : TypeTree
own_output = type_tree (path no_self (plain_path (words (codes "Self" ∷ codes "Output" ∷ [])))) nowhere

-- the operator of one value writes it out
abbrev pub returned : Form → Declaration → TypeTree
returned structural d = own_output
returned scalar d = own_output
returned unary d = output_type unary d

-- an assigning method returns nothing
abbrev pub method_output : Form → Operator → Declaration → Option TypeTree
method_output form o d = cond o.assigning None (Some (returned form d))

-- all of the method but its body
pub record IsMethod (form : Form) (o : Operator) (d : Declaration) (m : MethodTree) : Type 0 where
  pub attrs : m.attrs ≡ method_attrs form
  pub is_const : m.is_const ≡ false
  pub name_is : m.name ≡ word o.method
  pub receiver : m.receiver ≡ Some (receiver_of o)
  pub param : m.param ≡ method_param form
  pub output : m.output ≡ method_output form o d

-- ---- the implementation

-- attributes of the whole
abbrev pub item_attrs : Form → List ItemAttr
item_attrs structural = AllowPrivateBounds ∷ AutomaticallyDerived ∷ []
item_attrs scalar = AllowPrivateBounds ∷ AutomaticallyDerived ∷ []
item_attrs unary = AllowDeprecated ∷ AllowUnreachableCode ∷ AutomaticallyDerived ∷ []

-- the declared parameters: any right side has one more, and the operator of one value is asked of each type parameter
abbrev pub item_params : Form → Operator → Declaration → List ParamTree
item_params structural o d = params_of d
item_params scalar o d = params_of d ++ right_param ∷ []
item_params unary o d = map (bounded (op_output o.trait_name)) (params_of d)

-- the declared predicates, and behind them those that the kept fields need
abbrev pub item_predicates : Operator → Declaration → List PredicateTree
item_predicates o d = predicates_of d ++ needed o d

-- the implementation: its head in this form, and its only method, which gives what the operator means
pub record IsImplementation (form : Form) (o : Operator) (d : Declaration) (item : ItemTree) : Type 0 where
  pub attrs : item.attrs ≡ item_attrs form
  pub params : item.params ≡ item_params form o d
  pub trait_path : item.trait_path ≡ Some (implemented form o)
  pub ty : item.ty ≡ implementor d
  pub predicates : item.predicates ≡ item_predicates o d
  pub assocs_are : item.assocs ≡ assocs form o d
  pub method : MethodTree
  pub only : item.methods ≡ method ∷ []
  pub head : IsMethod form o d method
  pub gives : Gives o d method

-- the implementation of an operator for a declaration
abbrev pub IsOperation : Operator → Declaration → ItemTree → Type 0
IsOperation o d item = IsImplementation (form_in o d) o d item
