-- What the definitions say of single declarations.
use Rattle.std.specs.Prelude.{◌≡◌, ℕ, true, false, List, [], ◌∷◌, codes, Option, Some, None, refl}
use Rattle.dm_stream.specs.declared.tokens.Span.{Span}
use Rattle.dm_stream.specs.declared.tokens.Ident.{Ident}
use Rattle.dm_stream.specs.declared.tokens.Lifetime.{Lifetime}
use Rattle.dm_stream.specs.declared.tokens.Literal.{Literal}
use Rattle.dm_stream.specs.declared.tokens.LitKind.TheVariants as kinds
use Rattle.dm_stream.specs.Layout.{nowhere}
use Rattle.dm_ast.specs.declared.plain.ConstArg.{ConstArg}
use Rattle.dm_ast.specs.declared.plain.ConstArg.TheVariants as constants
use Rattle.dm_ast.specs.Tree.{TypeTree, type_tree, path, reference, no_self, path_tree, segment, segment_then, no_segments, angle, argument_then, no_arguments, lifetime_arg, type_arg, BoundTree, implements, trait_bound, assoc_type, arguments_absent, absent}
use Rattle.dm_ast.specs.Declarations.{Listed, ParamTree, lifetime_param, type_param, const_param, PredicateTree, type_predicate, GenericsTree, Declaration, unnamed, struct_shape}
use Rattle.dm_ast.specs.Implementors.{plain_path, name_type, implementor}
use Rattle.dm_generics.specs.Words.{word}
use Rattle.dm_generics.specs.Numerals.{numeral}
use Rattle.dm_generics.specs.Numbered.{numbered_vars}
use Rattle.dm_generics.specs.Lists.{separated}
use Rattle.dm_generics.specs.Bounds.{op_output, marker}
use Rattle.dm_generics.specs.Split.{split_of}
use Rattle.dm_generics.specs.Additions.{all_bounded, with_param, with_type_param, with_predicates, with_new_type}

abbrev a : Lifetime
a = record { name = codes "a"; span = nowhere }

abbrev named : List ℕ → TypeTree
named n = name_type (word n)

abbrev trait : List ℕ → BoundTree
trait n = implements (trait_bound false false None (plain_path (word n ∷ [])))

-- 'a
abbrev lifetime_a : ParamTree
lifetime_a = lifetime_param [] a None

-- a type parameter without bounds, and one with a bound
abbrev param : List ℕ → ParamTree
param n = type_param [] (word n) None None

abbrev bounded_param : List ℕ → BoundTree → ParamTree
bounded_param n b = type_param [] (word n) (Some (separated (b ∷ []))) None

-- const N: usize
abbrev const_n : Option ConstArg → ParamTree
const_n default = const_param [] (word (codes "N")) (named (codes "usize")) default

abbrev three : ConstArg
three = constants.Literal false (record { kind = kinds.Int; text = codes "3"; span = nowhere })

abbrev predicate : List ℕ → List ℕ → PredicateTree
predicate n b = type_predicate None (named n) (separated (trait b ∷ []))

abbrev generics : List ParamTree → GenericsTree
generics ps = record { angled = true; params = separated ps; where_clause = None }

-- no parameters, and these predicates
abbrev only_where : List PredicateTree → GenericsTree
only_where ps = record { angled = false; params = separated []; where_clause = Some (separated ps) }

-- <T, 'a, const N: usize = 3>
split-row : split_of (generics (param (codes "T") ∷ lifetime_a ∷ const_n (Some three) ∷ [])) ≡
    record {
      impl_params = separated (lifetime_a ∷ param (codes "T") ∷ const_n None ∷ []);
      ty_args = separated (lifetime_arg a ∷ type_arg (named (codes "T")) ∷ type_arg (named (codes "N")) ∷ []);
      predicates = separated [];
    }
split-row = refl

-- struct S<'a, T,>(&'a T);
abbrev declared_s : Declaration
declared_s =
    record {
      attrs = [];
      vis = None;
      ident = word (codes "S");
      generics = record { angled = true; params = record { items = lifetime_a ∷ param (codes "T") ∷ []; trailing = true }; where_clause = None };
      shape = struct_shape nowhere (unnamed (separated (record { attrs = []; vis = None; ident = None; ty = type_tree (reference (Some a) false (named (codes "T"))) nowhere; span = nowhere } ∷ [])));
    }

-- S<'a, T>
implementor-row : implementor declared_s ≡
    type_tree (path no_self (path_tree false (segment_then (segment (word (codes "S"))
    (angle false (argument_then (lifetime_arg a) (argument_then (type_arg (named (codes "T"))) no_arguments)) false)) no_segments))) nowhere
implementor-row = refl

-- C: D before A: B
where-row : with_predicates (separated (predicate (codes "C") (codes "D") ∷ [])) (only_where (predicate (codes "A") (codes "B") ∷ [])) ≡
    only_where (predicate (codes "C") (codes "D") ∷ predicate (codes "A") (codes "B") ∷ [])
where-row = refl

-- U in <'a, T, const N: usize>
type-row : with_type_param (param (codes "U")) (generics (lifetime_a ∷ param (codes "T") ∷ const_n None ∷ [])) ≡
    generics (lifetime_a ∷ param (codes "T") ∷ param (codes "U") ∷ const_n None ∷ [])
type-row = refl

-- R for two fields, one, and one that is sized
several-row : with_new_type (codes "R") 2 false (separated []) (only_where []) ≡
    record { angled = true; params = separated (bounded_param (codes "R") (marker false (codes "Copy")) ∷ []); where_clause = Some (separated []) }
several-row = refl

unsized-row : with_new_type (codes "R") 1 false (separated []) (only_where []) ≡
    record { angled = true; params = separated (bounded_param (codes "R") (marker true (codes "Sized")) ∷ []); where_clause = Some (separated []) }
unsized-row = refl

sized-row : with_new_type (codes "R") 1 true (separated []) (only_where []) ≡
    record { angled = true; params = separated (param (codes "R") ∷ []); where_clause = Some (separated []) }
sized-row = refl

-- <T: X>
bound-row : all_bounded (λ _. trait (codes "X")) (generics (param (codes "T") ∷ [])) ≡ generics (bounded_param (codes "T") (trait (codes "X")) ∷ [])
bound-row = refl

-- <T: A +> becomes <T: A + X>
plus-row : all_bounded (λ _. trait (codes "X"))
    (generics (type_param [] (word (codes "T")) (Some (record { items = trait (codes "A") ∷ []; trailing = true })) None ∷ [])) ≡
    generics (type_param [] (word (codes "T")) (Some (separated (trait (codes "A") ∷ trait (codes "X") ∷ []))) None ∷ [])
plus-row = refl

-- <T, U>
param-row : with_param (param (codes "U")) (generics (param (codes "T") ∷ [])) ≡ generics (param (codes "T") ∷ param (codes "U") ∷ [])
param-row = refl

-- <T: derive_more::core::ops::Not<Output = T>>
output-row : all_bounded (op_output (codes "Not")) (generics (param (codes "T") ∷ [])) ≡
    generics (bounded_param (codes "T") (implements (trait_bound false false None (path_tree false
    (segment_then (segment (word (codes "derive_more")) absent) (segment_then (segment (word (codes "core")) absent) (segment_then (segment (word (codes "ops")) absent)
    (segment_then (segment (word (codes "Not"))
    (angle false (argument_then (assoc_type (word (codes "Output")) arguments_absent (named (codes "T"))) no_arguments) false)) no_segments))))))) ∷ [])
output-row = refl

-- __l_0 and __l_1
names-row : numbered_vars 2 (codes "l_") ≡ word (codes "__l_0") ∷ word (codes "__l_1") ∷ []
unfolding numeral
names-row = refl
