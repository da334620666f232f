-- The implementations of small declarations as text, and what is refused, by computing alone.
use Rattle.std.specs.Prelude.{◌≡◌, ℕ, List, [], ◌∷◌, ◌++◌, length, true, false, Option, Some, None, codes, refl, option_map, option_and_then}
use Rattle.std.proofs.Math.Utf8.{encode}
use Rattle.dm_stream.specs.declared.tokens.Span.{Span}
use Rattle.dm_stream.specs.declared.tokens.Delim.TheVariants.{Paren}
use Rattle.dm_stream.specs.declared.error.Kind.{Kind}
use Rattle.dm_stream.specs.declared.error.Kind.TheVariants.{WrongShape, AllSkipped, AttrSyntax, AttrNotAllowed}
use Rattle.dm_stream.specs.declared.error.Refusal.{Refusal}
use Rattle.dm_stream.specs.Layout.{nowhere, word_token}
use Rattle.dm_stream.specs.Trees.{no_trees, token}
use Rattle.dm_ast.specs.declared.plain.Attribute.{Attribute}
use Rattle.dm_ast.specs.declared.plain.AttrArgs.TheVariants as args
use Rattle.dm_ast.specs.Tree.{TypeTree}
use Rattle.dm_ast.specs.Declarations.{FieldTree, FieldsTree, named, unnamed, unit, VariantTree, ShapeTree, struct_shape, enum_shape, ParamTree, type_param, Declaration}
use Rattle.dm_ast.specs.Implementors.{name_type}
use Rattle.dm_output.specs.Values.{Text, another, function, Thing, atom, apply, text, value, success, failure, things_of, Value, Input, no_input, value_input, term_input}
use Rattle.dm_output.specs.Calls.{core}
use Rattle.dm_output.specs.Tokens.{printed, private_bounds, deprecated, unreachable_code, automatically_derived, track_caller}
use Rattle.dm_generics.specs.Words.{word}
use Rattle.dm_generics.specs.Lists.{separated}
use Rattle.dm_generics.specs.Numerals.{numeral}
use Rattle.dm_operators.specs.Operators.{operator_named}
use Rattle.dm_operators.specs.Bodies.{binary_unit, mismatch, unary_unit}
use Rattle.dm_operators.specs.Meaning.{direct}
use Rattle.dm_operators.specs.Predicates.{needed}
use Rattle.dm_operators.specs.Implementations.{item_of}
use Rattle.dm_operators.specs.Refusals.{refusal}

-- ---- declarations

abbrev range : ℕ → ℕ → Span
range from to = record { start = from; «end» = to }

abbrev type_of : Text → TypeTree
type_of x = name_type (word x)

-- a field between parentheses
abbrev slot : Text → FieldTree
slot x = record { attrs = []; vis = None; ident = None; ty = type_of x; span = nowhere }

abbrev field : Text → Text → FieldTree
field x t = record { attrs = []; vis = None; ident = Some (word x); ty = type_of t; span = nowhere }

abbrev slots : List FieldTree → FieldsTree
slots fs = unnamed (separated fs)

abbrev variant : Text → FieldsTree → VariantTree
variant x fs = record { attrs = []; vis = None; ident = word x; fields = fs; discriminant = None; span = nowhere }

abbrev declared : List Attribute → Text → List ParamTree → ShapeTree → Declaration
declared attrs x ps shape =
    record {
      attrs = attrs;
      vis = None;
      ident = word x;
      generics = record {
        angled = true;
        params = separated ps;
        where_clause = None;
      };
      shape = shape;
    }

abbrev type_t : ParamTree
type_t = type_param [] (word (codes "T")) None None

-- struct X(..);
abbrev tuple_struct : Text → List ParamTree → List FieldTree → Declaration
tuple_struct x ps fs = declared [] x ps (struct_shape (range 0 6) (slots fs))

-- enum X { A(T), B }
abbrev two_variants : Text → Text → Declaration
two_variants x t = declared [] x [] (enum_shape (range 0 4) (separated
    (variant (codes "A") (slots (slot t ∷ [])) ∷ variant (codes "B") unit ∷ [])))

-- #[NAME(WORD)] in front
abbrev attribute : Text → Text → Span → Attribute
attribute name w at =
    record {
      path = record { leading_colon = false; segments = word name ∷ [] };
      args =
          args.List Paren (record { trees = token (word_token w) no_trees; limit = 0 });
      span = at;
    }

abbrev attributed : Text → Text → Span → Text → Declaration
attributed name w at x = declared (attribute name w at ∷ []) x [] (struct_shape (range 13 19) (slots (slot (codes "u8") ∷ [])))

-- struct S<T> { a: T, #[NAME(skip)] b: u8 }
abbrev skipping_struct : Text → Declaration
skipping_struct m =
    declared [] (codes "S") (type_t ∷ []) (struct_shape nowhere (named (separated
    (field (codes "a") (codes "T") ∷ record (field (codes "b") (codes "u8")) { attrs = attribute m (codes "skip") nowhere ∷ [] } ∷ []))))

-- enum Sample<T> { V0, V1(T, u8), }
abbrev sample : Declaration
sample = declared [] (codes "Sample") (type_t ∷ []) (enum_shape (range 0 4) (separated
    (variant (codes "V0") unit ∷ variant (codes "V1") (slots (slot (codes "T") ∷ slot (codes "u8") ∷ [])) ∷ [])))

-- ---- texts

-- what is written for the trait of this name
abbrev text_of : Text → Declaration → Option Text
text_of name d = option_map (λ o. printed (item_of o d ∷ [])) (operator_named name)

-- enum E { A(i32), B }
add-enum : text_of (codes "Add") (two_variants (codes "E") (codes "i32")) ≡
    Some (codes "# [allow (private_bounds)] # [automatically_derived] impl derive_more :: core :: ops :: Add for E { type Output = " ++
    codes "derive_more :: core :: result :: Result < Self , derive_more :: BinaryError > ; # [inline] # [track_caller] fn add " ++
    codes "(self , __rhs : Self) -> Self :: Output { match (self , __rhs) { (Self :: A (__self_0 ,) , Self :: A (__rhs_0 ,)) => " ++
    codes "derive_more :: core :: result :: Result :: Ok (Self :: A (derive_more :: core :: ops :: Add :: add (__self_0 , " ++
    codes "__rhs_0) ,)) , (Self :: B , Self :: B) => derive_more :: core :: result :: Result :: Err (derive_more :: BinaryError " ++
    codes ":: Unit (derive_more :: UnitError :: new (\"add\"))) , _ => derive_more :: core :: result :: Result :: Err " ++
    codes "(derive_more :: BinaryError :: Mismatch (derive_more :: WrongVariantError :: new (\"add\"))) , } } }" ++ 10 ∷ [])
unfolding encode numeral private_bounds automatically_derived track_caller binary_unit mismatch
add-enum = refl

-- enum E {}
sub-empty : text_of (codes "Sub") (declared [] (codes "E") [] (enum_shape nowhere (separated []))) ≡
    Some (codes "# [allow (private_bounds)] # [automatically_derived] impl derive_more :: core :: ops :: Sub for E { type Output = " ++
    codes "derive_more :: core :: result :: Result < Self , derive_more :: BinaryError > ; # [inline] # [track_caller] fn sub " ++
    codes "(self , __rhs : Self) -> Self :: Output { match self { } } }" ++ 10 ∷ [])
unfolding encode numeral private_bounds automatically_derived track_caller
sub-empty = refl

-- struct S<T> { a: T, #[bitor(skip)] b: u8 }
bitor-struct : text_of (codes "BitOr") (skipping_struct (codes "bitor")) ≡
    Some (codes "# [allow (private_bounds)] # [automatically_derived] impl < T > derive_more :: core :: ops :: BitOr for S < T > where " ++
    codes "T : derive_more :: core :: ops :: BitOr < Output = T > { type Output = Self ; # [inline] # [track_caller] fn bitor " ++
    codes "(self , __rhs : Self) -> Self :: Output { match (self , __rhs) { (Self { a : __self_0 , b : __self_1 , } , Self { a : " ++
    codes "__rhs_0 , b : __rhs_1 , }) => Self { a : derive_more :: core :: ops :: BitOr :: bitor (__self_0 , __rhs_0) , b : " ++
    codes "__self_1 , } , } } }" ++ 10 ∷ [])
unfolding encode numeral private_bounds automatically_derived track_caller
bitor-struct = refl

-- struct P(i32);
add-assign-struct : text_of (codes "AddAssign") (tuple_struct (codes "P") [] (slot (codes "i32") ∷ [])) ≡
    Some (codes "# [allow (private_bounds)] # [automatically_derived] impl derive_more :: core :: ops :: AddAssign for P { # [inline] " ++
    codes "# [track_caller] fn add_assign (& mut self , __rhs : Self) { match (self , __rhs) { (Self (__self_0 ,) , Self " ++
    codes "(__rhs_0 ,)) => { derive_more :: core :: ops :: AddAssign :: add_assign (__self_0 , __rhs_0) ; } , } } }" ++ 10 ∷ [])
unfolding encode numeral private_bounds automatically_derived track_caller
add-assign-struct = refl

-- struct S<T> { a: T, #[sub_assign(skip)] b: u8 }
sub-assign-struct : text_of (codes "SubAssign") (skipping_struct (codes "sub_assign")) ≡
    Some (codes "# [allow (private_bounds)] # [automatically_derived] impl < T > derive_more :: core :: ops :: SubAssign for S < T > " ++
    codes "where T : derive_more :: core :: ops :: SubAssign { # [inline] # [track_caller] fn sub_assign (& mut self , __rhs : " ++
    codes "Self) { match (self , __rhs) { (Self { a : __self_0 , .. } , Self { a : __rhs_0 , .. }) => { derive_more :: core :: " ++
    codes "ops :: SubAssign :: sub_assign (__self_0 , __rhs_0) ; } , } } }" ++ 10 ∷ [])
unfolding encode numeral private_bounds automatically_derived track_caller
sub-assign-struct = refl

-- struct M<T>(T, u8);
mul-struct : text_of (codes "Mul") (tuple_struct (codes "M") (type_t ∷ []) (slot (codes "T") ∷ slot (codes "u8") ∷ [])) ≡
    Some (codes "# [allow (private_bounds)] # [automatically_derived] impl < T , __derive_more_Rhs > derive_more :: core :: ops :: Mul " ++
    codes "< __derive_more_Rhs > for M < T > where T : derive_more :: core :: ops :: Mul < __derive_more_Rhs , Output = T > , u8 " ++
    codes ": derive_more :: core :: ops :: Mul < __derive_more_Rhs , Output = u8 > , __derive_more_Rhs : derive_more :: core :: " ++
    codes "marker :: Copy { type Output = Self ; # [inline] # [track_caller] fn mul (self , __rhs : __derive_more_Rhs) -> Self " ++
    codes ":: Output { match self { Self (__self_0 , __self_1 ,) => Self (derive_more :: core :: ops :: Mul :: mul (__self_0 , " ++
    codes "__rhs) , derive_more :: core :: ops :: Mul :: mul (__self_1 , __rhs) ,) , } } }" ++ 10 ∷ [])
unfolding encode numeral private_bounds automatically_derived track_caller
mul-struct = refl

-- struct M(u8);
shl-assign-struct : text_of (codes "ShlAssign") (tuple_struct (codes "M") [] (slot (codes "u8") ∷ [])) ≡
    Some (codes "# [allow (private_bounds)] # [automatically_derived] impl < __derive_more_Rhs > derive_more :: core :: ops :: " ++
    codes "ShlAssign < __derive_more_Rhs > for M where u8 : derive_more :: core :: ops :: ShlAssign < __derive_more_Rhs > { # " ++
    codes "[inline] # [track_caller] fn shl_assign (& mut self , __rhs : __derive_more_Rhs) { match self { Self (__self_0 ,) => " ++
    codes "{ derive_more :: core :: ops :: ShlAssign :: shl_assign (__self_0 , __rhs) ; } , } } }" ++ 10 ∷ [])
unfolding encode numeral private_bounds automatically_derived track_caller
shl-assign-struct = refl

-- #[mul(forward)] struct M(u8);
mul-forwarded : text_of (codes "Mul") (attributed (codes "mul") (codes "forward") (range 0 15) (codes "M")) ≡
    Some (codes "# [allow (private_bounds)] # [automatically_derived] impl derive_more :: core :: ops :: Mul for M { type Output = " ++
    codes "Self ; # [inline] # [track_caller] fn mul (self , __rhs : Self) -> Self :: Output { match (self , __rhs) { (Self " ++
    codes "(__self_0 ,) , Self (__rhs_0 ,)) => Self (derive_more :: core :: ops :: Mul :: mul (__self_0 , __rhs_0) ,) , } } }" ++ 10 ∷ [])
unfolding encode numeral private_bounds automatically_derived track_caller
mul-forwarded = refl

-- enum N { A(u8), B }
not-enum : text_of (codes "Not") (two_variants (codes "N") (codes "u8")) ≡
    Some (codes "# [allow (deprecated)] # [allow (unreachable_code)] # [automatically_derived] impl derive_more :: core :: ops :: Not " ++
    codes "for N { type Output = derive_more :: core :: result :: Result < N , derive_more :: UnitError > ; # [inline] fn not " ++
    codes "(self) -> derive_more :: core :: result :: Result < N , derive_more :: UnitError > { match self { N :: A (__0 ,) => { " ++
    codes "derive_more :: core :: result :: Result :: Ok (N :: A (derive_more :: core :: ops :: Not :: not (__0) ,)) } , N :: B " ++
    codes "=> derive_more :: core :: result :: Result :: Err (derive_more :: UnitError :: new (\"not\")) , } } }" ++ 10 ∷ [])
unfolding encode numeral deprecated unreachable_code automatically_derived unary_unit
not-enum = refl

-- struct M<T>(T, u8);
neg-struct : text_of (codes "Neg") (tuple_struct (codes "M") (type_t ∷ []) (slot (codes "T") ∷ slot (codes "u8") ∷ [])) ≡
    Some (codes "# [allow (deprecated)] # [allow (unreachable_code)] # [automatically_derived] impl < T : derive_more :: core :: ops " ++
    codes ":: Neg < Output = T > > derive_more :: core :: ops :: Neg for M < T > { type Output = M < T > ; # [inline] fn neg " ++
    codes "(self) -> M < T > { M (derive_more :: core :: ops :: Neg :: neg (self . 0) , derive_more :: core :: ops :: Neg :: neg " ++
    codes "(self . 1) ,) } }" ++ 10 ∷ [])
unfolding encode numeral deprecated unreachable_code automatically_derived
neg-struct = refl

-- ---- meanings

-- what the method of the trait of this name means
abbrev meaning_of : Text → Declaration → Value → Input → Option Thing
meaning_of name d x y = option_and_then (λ o. direct o d x y) (operator_named name)

abbrev value_of : ℕ → List Thing → Value
value_of n ts = record { variant = n; fields = ts }

abbrev made : ℕ → List Thing → Thing
made n ts = value another n (things_of ts)

abbrev call : List Text → List Thing → Thing
call names ts = apply (function names) (things_of ts)

abbrev operation : Text → Text → List Thing → Thing
operation t m ts = call (core (codes "ops" ∷ t ∷ m ∷ [])) ts

abbrev new_error : Text → Text → Thing
new_error type m = call (codes "derive_more" ∷ type ∷ codes "new" ∷ []) (text m ∷ [])

abbrev binary_error : Text → Thing → Thing
binary_error kind e = failure (call (codes "derive_more" ∷ codes "BinaryError" ∷ kind ∷ []) (e ∷ []))

-- enum E { A(i32), B }
abbrev sum : Value → Value → Option Thing
sum x y = meaning_of (codes "Add") (two_variants (codes "E") (codes "i32")) x (value_input y)

-- A(1) + A(2)
sum-same : sum (value_of 0 (atom 1 ∷ [])) (value_of 0 (atom 2 ∷ [])) ≡
    Some (success (made 0 (operation (codes "Add") (codes "add") (atom 1 ∷ atom 2 ∷ []) ∷ [])))
sum-same = refl

-- B + B
sum-units : sum (value_of 1 []) (value_of 1 []) ≡ Some (binary_error (codes "Unit") (new_error (codes "UnitError") (codes "add")))
sum-units = refl

-- A(1) + B
sum-different : sum (value_of 0 (atom 1 ∷ [])) (value_of 1 []) ≡
    Some (binary_error (codes "Mismatch") (new_error (codes "WrongVariantError") (codes "add")))
sum-different = refl

-- struct S<T> { a: T, #[sub_assign(skip)] b: u8 }, and S { a: 1, b: 2 } -= S { a: 3, b: 4 }
reduced : meaning_of (codes "SubAssign") (skipping_struct (codes "sub_assign")) (value_of 0 (atom 1 ∷ atom 2 ∷ []))
    (value_input (value_of 0 (atom 3 ∷ atom 4 ∷ []))) ≡
    Some (made 0 (operation (codes "SubAssign") (codes "sub_assign") (atom 1 ∷ atom 3 ∷ []) ∷ atom 2 ∷ []))
reduced = refl

-- struct M<T>(T, u8); and M(1, 2) * 3
scaled : meaning_of (codes "Mul") (tuple_struct (codes "M") (type_t ∷ []) (slot (codes "T") ∷ slot (codes "u8") ∷ []))
    (value_of 0 (atom 1 ∷ atom 2 ∷ [])) (term_input (atom 3)) ≡
    Some (made 0 (operation (codes "Mul") (codes "mul") (atom 1 ∷ atom 3 ∷ []) ∷
    operation (codes "Mul") (codes "mul") (atom 2 ∷ atom 3 ∷ []) ∷ []))
scaled = refl

-- enum N { A(u8), B }
abbrev inverse : Value → Option Thing
inverse x = meaning_of (codes "Not") (two_variants (codes "N") (codes "u8")) x no_input

-- !A(1)
inverse-fields : inverse (value_of 0 (atom 1 ∷ [])) ≡ Some (success (made 0 (operation (codes "Not") (codes "not") (atom 1 ∷ []) ∷ [])))
inverse-fields = refl

-- !B
inverse-unit : inverse (value_of 1 []) ≡ Some (failure (new_error (codes "UnitError") (codes "not")))
inverse-unit = refl

-- ---- refusals, and how many predicates are added

abbrev refused : Kind → ℕ → ℕ → Option Refusal
refused k from to = Some (record { kind = k; span = range from to })

-- what the trait of this name refuses, where it is one
abbrev refusal_of : Text → Declaration → Option (Option Refusal)
refusal_of name d = option_map (λ o. refusal o d) (operator_named name)

-- how many predicates it adds
abbrev count_added : Text → Declaration → Option ℕ
count_added name d = option_map (λ o. length (needed o d)) (operator_named name)

-- struct A;
unit-struct : refusal_of (codes "Add") (declared [] (codes "A") [] (struct_shape (range 0 6) unit)) ≡ Some (refused WrongShape 0 6)
unit-struct = refl

-- struct A();
no-field : refusal_of (codes "Add") (tuple_struct (codes "A") [] []) ≡ Some (refused AllSkipped 0 6)
no-field = refl

-- #[add(skip)] struct S(u8);
skipped-struct : refusal_of (codes "Add") (attributed (codes "add") (codes "skip") (range 0 12) (codes "S")) ≡
    Some (refused AttrNotAllowed 0 12)
skipped-struct = refl

-- #[mul(skip)] struct M(u8);
skip-for-forward : refusal_of (codes "Mul") (attributed (codes "mul") (codes "skip") (range 0 12) (codes "M")) ≡
    Some (refused AttrSyntax 0 12)
skip-for-forward = refl

-- #[mul(forward)] struct M(u8);
forwarded : refusal_of (codes "Mul") (attributed (codes "mul") (codes "forward") (range 0 15) (codes "M")) ≡ Some None
forwarded = refl

sample-add : refusal_of (codes "Add") sample ≡ Some None
sample-add = refl

sample-add-predicates : count_added (codes "Add") sample ≡ Some 1
sample-add-predicates = refl

sample-add-assign : refusal_of (codes "AddAssign") sample ≡ Some (refused WrongShape 0 4)
sample-add-assign = refl

sample-mul : refusal_of (codes "Mul") sample ≡ Some (refused WrongShape 0 4)
sample-mul = refl

sample-mul-assign : refusal_of (codes "MulAssign") sample ≡ Some (refused WrongShape 0 4)
sample-mul-assign = refl

sample-not : refusal_of (codes "Not") sample ≡ Some None
sample-not = refl

sample-not-predicates : count_added (codes "Not") sample ≡ Some 0
sample-not-predicates = refl
