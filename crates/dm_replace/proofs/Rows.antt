-- What the definitions say of single declarations, each written with the segment that stands for `Self` left open.
use Rattle.std.specs.Prelude.{◌≡◌, ℕ, true, false, List, [], ◌∷◌, codes, Option, Some, None, refl}
use Rattle.dm_stream.specs.declared.tokens.Ident.{Ident}
use Rattle.dm_stream.specs.declared.tokens.Token.TheVariants as t
use Rattle.dm_stream.specs.Layout.{nowhere}
use Rattle.dm_stream.specs.Trees.{no_trees, token}
use Rattle.dm_ast.specs.Tree.{TypeTree, type_tree, array, path, no_self, some_self, BoundTree, implements, trait_bound, path_tree, SegmentTree, segment, segments_of, absent, angle, ArgumentTree, type_arg, assoc_type, arguments_of, arguments_absent}
use Rattle.dm_ast.specs.Declarations.{Listed, FieldTree, named, unnamed, unit, VariantTree, ShapeTree, struct_shape, enum_shape, ParamTree, type_param, PredicateTree, type_predicate, Declaration}
use Rattle.dm_replace.specs.Replaced.{replaced}

-- ---- parts

abbrev word : List ℕ → Ident
word n = record { name = n; raw = false; span = nowhere }

abbrev plain : List ℕ → SegmentTree
plain n = segment (word n) absent

abbrev with_arguments : List ℕ → List ArgumentTree → SegmentTree
with_arguments n gs = segment (word n) (angle false (arguments_of gs) false)

-- a type of one segment
abbrev alone : SegmentTree → TypeTree
alone s = type_tree (path no_self (path_tree false (segments_of (s ∷ [])))) nowhere

-- `<s as r>::n`
abbrev associated : SegmentTree → SegmentTree → List ℕ → TypeTree
associated s r n = type_tree (path (some_self (alone s) 1) (path_tree false (segments_of (r ∷ plain n ∷ [])))) nowhere

-- `[s; 5]`, whose length may also be spelled with `Self`
abbrev array_of : SegmentTree → TypeTree
array_of s = type_tree (array (alone s) (record { tokens = record { trees = token (t.Ident (word (codes "Self"))) no_trees; limit = 0 } })) nowhere

abbrev bound : SegmentTree → BoundTree
bound s = implements (trait_bound false false None (path_tree false (segments_of (s ∷ []))))

abbrev all : {A : Type 0} → List A → Listed A
all xs = record { items = xs; trailing = true }

abbrev predicate : TypeTree → SegmentTree → PredicateTree
predicate t s = type_predicate None t (record { items = bound s ∷ []; trailing = false })

abbrev field : Option Ident → TypeTree → FieldTree
field i t = record { attrs = []; vis = None; ident = i; ty = t; span = nowhere }

abbrev declared : List ℕ → List ParamTree → List PredicateTree → ShapeTree → Declaration
declared n ps qs s =
    record { attrs = []; vis = None; ident = word n; generics = record { angled = true; params = all ps; where_clause = Some (all qs) }; shape = s }

-- ---- the rows

abbrev self : SegmentTree
self = plain (codes "Self")

abbrev type_T : TypeTree
type_T = alone (plain (codes "T"))

abbrev add_of : SegmentTree → SegmentTree
add_of s = with_arguments (codes "Add") (type_arg (alone s) ∷ [])

-- `struct Foo<T, U: Sub<Self>> where U: Add<Self>, Self: X, <U as Add<Self>>::Output: X, T: IntoIterator<Item = Self>,
-- [Self; 5]: SomeTrait, <Self as OtherTrait>::Type: Copy;`
abbrev foo : SegmentTree → Declaration
foo s =
    declared (codes "Foo")
    (type_param [] (word (codes "T")) None None ∷
    type_param [] (word (codes "U")) (Some (all (bound (with_arguments (codes "Sub") (type_arg (alone s) ∷ [])) ∷ []))) None ∷ [])
    (predicate (alone (plain (codes "U"))) (add_of s) ∷ predicate (alone s) (plain (codes "X")) ∷
    predicate (associated (plain (codes "U")) (add_of s) (codes "Output")) (plain (codes "X")) ∷
    predicate type_T (with_arguments (codes "IntoIterator") (assoc_type (word (codes "Item")) arguments_absent (alone s) ∷ [])) ∷
    predicate (array_of s) (plain (codes "SomeTrait")) ∷
    predicate (associated s (plain (codes "OtherTrait")) (codes "Type")) (plain (codes "Copy")) ∷ [])
    (struct_shape nowhere unit)

foo_replaced : replaced (foo self) ≡ foo (with_arguments (codes "Foo") (type_arg type_T ∷ type_arg (alone (plain (codes "U"))) ∷ []))
foo_replaced = refl

-- whatever stood behind `Self` is left out
foo_without : replaced (foo (with_arguments (codes "Self") (type_arg type_T ∷ []))) ≡ replaced (foo self)
foo_without = refl

-- other names stay, and so do raw ones
foo_other : replaced (foo (plain (codes "Selfish"))) ≡ foo (plain (codes "Selfish"))
foo_other = refl

abbrev raw_self : SegmentTree
raw_self = segment (record { name = codes "Self"; raw = true; span = nowhere }) absent

foo_raw : replaced (foo raw_self) ≡ foo raw_self
foo_raw = refl

-- `struct Bar([Self; 5], <Foo as Add<Self>>::Output);`
abbrev bar : SegmentTree → Declaration
bar s =
    declared (codes "Bar") [] []
    (struct_shape nowhere (unnamed (all (field None (array_of s) ∷ field None (associated (plain (codes "Foo")) (add_of s) (codes "Output")) ∷ []))))

bar_replaced : replaced (bar self) ≡ bar (plain (codes "Bar"))
bar_replaced = refl

-- `enum E { Foo { a: AddType<Self>, b: <Self as OtherTrait>::Type }, Bar([Self; 5], <Foo as Add<Self>>::Output) }`
abbrev variants : SegmentTree → List VariantTree
variants s =
    record {
      attrs = [];
      vis = None;
      ident = word (codes "Foo");
      fields =
          named
          (all
          (field (Some (word (codes "a"))) (alone (with_arguments (codes "AddType") (type_arg (alone s) ∷ []))) ∷
          field (Some (word (codes "b"))) (associated s (plain (codes "OtherTrait")) (codes "Type")) ∷ []));
      discriminant = None;
      span = nowhere;
    } ∷
    record {
      attrs = [];
      vis = None;
      ident = word (codes "Bar");
      fields = unnamed (all (field None (array_of s) ∷ field None (associated (plain (codes "Foo")) (add_of s) (codes "Output")) ∷ []));
      discriminant = None;
      span = nowhere;
    } ∷ []

abbrev enumeration : SegmentTree → Declaration
enumeration s = declared (codes "E") [] [] (enum_shape nowhere (all (variants s)))

enumeration_replaced : replaced (enumeration self) ≡ enumeration (plain (codes "E"))
enumeration_replaced = refl
