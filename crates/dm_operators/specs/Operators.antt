-- The traits of `core::ops` that are derived here, as std and derive_more name them.
use Rattle.std.specs.Prelude.{◌≡◌, List, [], ◌∷◌, Bool, true, false, cond, Option, Some, None, codes}
use Rattle.std.specs.Str.{bytes_eq}
use Rattle.dm_output.specs.Values.{Text}
use Rattle.dm_output.specs.Calls.{core}

-- what stands right of self: a value of the same type, any value at all, or nothing
pub data Form : Type 0 where
  structural : Form
  scalar : Form
  unary : Form

-- a trait, its only method, which also names its attribute, and whether that changes self in its place
pub record Operator : Type 0 where
  pub trait_name : Text
  pub method : Text
  pub form : Form
  pub assigning : Bool

-- the twenty-two of them, those alike side by side
abbrev pub operators : List Operator
operators =
    record { trait_name = codes "Add"; method = codes "add"; form = structural; assigning = false } ∷
    record { trait_name = codes "BitAnd"; method = codes "bitand"; form = structural; assigning = false } ∷
    record { trait_name = codes "BitOr"; method = codes "bitor"; form = structural; assigning = false } ∷
    record { trait_name = codes "BitXor"; method = codes "bitxor"; form = structural; assigning = false } ∷
    record { trait_name = codes "Sub"; method = codes "sub"; form = structural; assigning = false } ∷
    record { trait_name = codes "AddAssign"; method = codes "add_assign"; form = structural; assigning = true } ∷
    record { trait_name = codes "BitAndAssign"; method = codes "bitand_assign"; form = structural; assigning = true } ∷
    record { trait_name = codes "BitOrAssign"; method = codes "bitor_assign"; form = structural; assigning = true } ∷
    record { trait_name = codes "BitXorAssign"; method = codes "bitxor_assign"; form = structural; assigning = true } ∷
    record { trait_name = codes "SubAssign"; method = codes "sub_assign"; form = structural; assigning = true } ∷
    record { trait_name = codes "Div"; method = codes "div"; form = scalar; assigning = false } ∷
    record { trait_name = codes "Mul"; method = codes "mul"; form = scalar; assigning = false } ∷
    record { trait_name = codes "Rem"; method = codes "rem"; form = scalar; assigning = false } ∷
    record { trait_name = codes "Shl"; method = codes "shl"; form = scalar; assigning = false } ∷
    record { trait_name = codes "Shr"; method = codes "shr"; form = scalar; assigning = false } ∷
    record { trait_name = codes "DivAssign"; method = codes "div_assign"; form = scalar; assigning = true } ∷
    record { trait_name = codes "MulAssign"; method = codes "mul_assign"; form = scalar; assigning = true } ∷
    record { trait_name = codes "RemAssign"; method = codes "rem_assign"; form = scalar; assigning = true } ∷
    record { trait_name = codes "ShlAssign"; method = codes "shl_assign"; form = scalar; assigning = true } ∷
    record { trait_name = codes "ShrAssign"; method = codes "shr_assign"; form = scalar; assigning = true } ∷
    record { trait_name = codes "Not"; method = codes "not"; form = unary; assigning = false } ∷
    record { trait_name = codes "Neg"; method = codes "neg"; form = unary; assigning = false } ∷ []

-- the first of these with that trait
abbrev pub named_in : List Operator → Text → Option Operator
named_in [] name = None
named_in (o ∷ more) name = cond (bytes_eq name o.trait_name) (Some o) (named_in more name)

-- the operator whose trait has this name
abbrev pub operator_named : Text → Option Operator
operator_named name = named_in operators name

-- derive_more::core::ops::TRAIT
abbrev pub trait_names : Operator → List Text
trait_names o = core (codes "ops" ∷ o.trait_name ∷ [])

-- derive_more::core::ops::TRAIT::METHOD
abbrev pub method_names : Operator → List Text
method_names o = core (codes "ops" ∷ o.trait_name ∷ o.method ∷ [])

-- an operator of the table
pub record IsOperator (o : Operator) : Type 0 where
  pub name : Text
  pub found : operator_named name ≡ Some o
