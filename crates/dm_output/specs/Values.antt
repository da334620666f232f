-- What the methods of an implementation compute with.
use Rattle.std.specs.Prelude.{◌≡◌, ℕ, ℤ, List, [], ◌∷◌, map, Bool, true, false, Option, Some, None, length, slice_get}
use Rattle.dm_stream.specs.declared.tokens.Ident.{Ident}
use Rattle.dm_stream.specs.declared.tokens.Literal.{Literal}
use Rattle.dm_stream.specs.Trees.{Trees}
use Rattle.dm_ast.specs.declared.plain.Attribute.{Attribute}
use Rattle.dm_ast.specs.Tree.{MaybeSelf, PathTree}
use Rattle.dm_ast.specs.Declarations.{Declaration, FieldTree, FieldsTree, named, unnamed, unit, VariantTree, ShapeTree, struct_shape, enum_shape, union_shape}
use Rattle.dm_fmtstr.specs.Parts.{Spec}

-- a text, as its bytes
abbrev pub Text : Type 0
Text = List ℕ

-- the two values that a method is called with: self, and the right side
pub data Side : Type 0 where
  mine : Side
  theirs : Side

-- whose a value is: that of a side, or another one
pub data Origin : Type 0 where
  of_side : Side → Origin
  another : Origin

-- What is done to things, and isn't looked into. A path without a self type and without arguments is its names.
pub data Operation : Type 0 where
  function : List Text → Operation
  qualified : MaybeSelf → PathTree → Operation
  method : Text → Operation
  asking : Operation
  mapping : Operation
  mapping_error : Trees → Operation
  tokens : Trees → Operation
  free_name : Text → Operation
  free_position : ℕ → Operation
  in_closure : Operation

mutual
  -- What an expression gives. A field of self or of the right side is a place, which stands for that field; an operation on things is a term.
  pub data Thing : Type 0 where
    atom : ℕ → Thing
    apply : Operation → Things → Thing
    truth : Bool → Thing
    number : ℤ → Thing
    text : Text → Thing
    input_text : Text → Text → Thing
    value : Origin → ℕ → Things → Thing
    place : Side → ℕ → Thing
    discriminant : ℕ → Thing
    tuple_of : Things → Thing
    success : Thing → Thing
    failure : Thing → Thing
    present : Thing → Thing
    missing : Thing
    done : Thing
    pass : Text → Thing → Thing
    written : Pieces → Thing
    listing : Text → Fields → Ending → Thing

  pub data Things : Type 0 where
    no_things : Things
    thing_then : Thing → Things → Things

  -- what is written: letters, what a placeholder of that trait and spec stands for, and a format that is none, with its arguments
  pub data Pieces : Type 0 where
    no_pieces : Pieces
    letter_then : ℕ → Pieces → Pieces
    placeholder_then : Option Spec → Thing → Pieces → Pieces
    unread_then : Literal → Things → Pieces → Pieces

  -- what is listed behind a name: with a field's name in braces, or without in parentheses
  pub data Fields : Type 0 where
    no_fields : Fields
    also : Fields → Thing → Fields
    also_named : Fields → Text → Thing → Fields

  -- the form of a list, and whether it is ended
  pub data Ending : Type 0 where
    begun : Bool → Ending
    closed : Ending
    left_open : Ending

abbrev pub things_of : List Thing → Things
things_of [] = no_things
things_of (x ∷ xs) = thing_then x (things_of xs)

abbrev pub list_of : Things → List Thing
list_of no_things = []
list_of (thing_then x xs) = x ∷ list_of xs

-- a variant's number, and a term for each of its fields
pub record Value : Type 0 where
  pub variant : ℕ
  pub fields : List Thing

-- a value of a side
abbrev pub value_of : Side → Value → Thing
value_of s x = value (of_side s) x.variant (things_of x.fields)

-- ---- the variants of a declaration: a struct counts as one, with its own name, and a union as one without fields

pub record Case : Type 0 where
  pub attrs : List Attribute
  pub ident : Ident
  pub fields : FieldsTree

abbrev pub case_of_variant : VariantTree → Case
case_of_variant v = record { attrs = v.attrs; ident = v.ident; fields = v.fields }

abbrev pub cases_of_shape : List Attribute → Ident → ShapeTree → List Case
cases_of_shape attrs ident (struct_shape word fs) = record { attrs = attrs; ident = ident; fields = fs } ∷ []
cases_of_shape attrs ident (enum_shape word vs) = map case_of_variant vs.items
cases_of_shape attrs ident (union_shape word fs) = record { attrs = attrs; ident = ident; fields = unit } ∷ []

abbrev pub cases : Declaration → List Case
cases d = cases_of_shape d.attrs d.ident d.shape

abbrev pub is_enum_shape : ShapeTree → Bool
is_enum_shape (struct_shape word fs) = false
is_enum_shape (enum_shape word vs) = true
is_enum_shape (union_shape word fs) = false

abbrev pub is_enum : Declaration → Bool
is_enum d = is_enum_shape d.shape

-- the fields in order
abbrev pub field_list : FieldsTree → List FieldTree
field_list (named fs) = fs.items
field_list (unnamed fs) = fs.items
field_list unit = []

-- whether a value is one of the declaration
abbrev pub fits_case : Option Case → ℕ → Type 0
fits_case None n = ⊥
fits_case (Some c) n = length (field_list c.fields) ≡ n

abbrev pub IsValue : Declaration → Value → Type 0
IsValue d x = fits_case (slice_get (cases d) x.variant) (length x.fields)

-- ---- what a method is called with beside self

-- the input of a method, by the form of its parameter: no parameter, a value of the declaration, any term, a tuple of terms, a text with its
-- lowercase text, or a number with one number for each constant that the body declares
pub data Input : Type 0 where
  no_input : Input
  value_input : Value → Input
  term_input : Thing → Input
  tuple_input : List Thing → Input
  text_input : Text → Text → Input
  number_input : ℤ → List ℤ → Input
