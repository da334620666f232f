-- The traits that an implementation names, and the predicates that it adds to the declared ones, so that the operation of each kept field
-- may be called.
use Rattle.std.specs.Prelude.{List, [], ◌∷◌, ◌++◌, Bool, false, cond, ◌||◌, codes}
use Rattle.dm_ast.specs.Tree.{TypeTree, PathTree, path_tree, segment, segments_of, ArgumentsTree, absent, angle, ArgumentTree, type_arg, assoc_type, arguments_of, arguments_absent}
use Rattle.dm_ast.specs.Declarations.{PredicateTree, Declaration}
use Rattle.dm_generics.specs.Words.{word, plain_segments}
use Rattle.dm_operands.specs.Marked.{MarkedField, MarkedCase}
use Rattle.dm_operands.specs.Kept.{keeps_some}
use Rattle.dm_bounds.specs.Needed.{Wanted, is_free, needs, Asking, added_by, added_in_by, needed_by}
use Rattle.dm_bounds.specs.RightSide.{right_type, right_copies}
use Rattle.dm_operators.specs.Operators.{Form, structural, scalar, unary, Operator}
use Rattle.dm_operators.specs.Attributes.{cases_for, form_in}

-- ---- the traits

-- nothing between `<` and `>` is no list
abbrev pub angled : List ArgumentTree → ArgumentsTree
angled [] = absent
angled (g ∷ gs) = angle false (arguments_of (g ∷ gs)) false

-- derive_more::core::ops::TRAIT with these arguments
abbrev pub trait_with : Operator → List ArgumentTree → PathTree
trait_with o gs =
    path_tree false (segments_of (plain_segments (codes "derive_more" ∷ codes "core" ∷ codes "ops" ∷ []) ++
    segment (word o.trait_name) (angled gs) ∷ []))

-- `__derive_more_Rhs`, where any right side is taken
abbrev pub right_argument : Form → List ArgumentTree
right_argument structural = []
right_argument scalar = type_arg right_type ∷ []
right_argument unary = []

-- `Output = T`, which assigning traits don't have
abbrev pub output_argument : Operator → TypeTree → List ArgumentTree
output_argument o t = cond o.assigning [] (assoc_type (word (codes "Output")) arguments_absent t ∷ [])

-- the trait that is implemented
abbrev pub implemented : Form → Operator → PathTree
implemented form o = trait_with o (right_argument form)

-- the trait that is asked of a field's type, whose operation gives that type again
abbrev pub asked : Form → Operator → TypeTree → PathTree
asked form o t = trait_with o (right_argument form ++ output_argument o t)

-- ---- which types need a predicate

-- with a value of the same type on the right: a type that mentions a parameter and doesn't hold the type itself; with any value: each that
-- doesn't hold the type itself; without a right side none
abbrev pub is_asked : Form → Wanted → TypeTree → Bool
is_asked structural w t = needs w t
is_asked scalar w t = is_free w t
is_asked unary w t = false

-- the trait that is asked for, in this form
abbrev pub asking : Form → Operator → Asking
asking form o = record { asks = is_asked form; path = asked form o }

-- the predicate of a kept field's type, where one is asked for
abbrev pub added : Form → Operator → Wanted → MarkedField → List PredicateTree
added form o w f = added_by (asking form o) w f

-- of all kept fields of a case
abbrev pub added_in : Form → Operator → Wanted → MarkedCase → List PredicateTree
added_in form o w c = added_in_by (asking form o) w c

-- whether several fields are kept
abbrev pub keeps_several : List MarkedField → Bool
keeps_several [] = false
keeps_several (f ∷ fs) = cond f.left_out (keeps_several fs) (keeps_some fs)

-- whether several fields of one case are kept
abbrev pub some_several : List MarkedCase → Bool
some_several [] = false
some_several (c ∷ cs) = keeps_several c.fields || some_several cs

-- whether any right side is copied, since several fields take it
abbrev pub copies_right : Form → List MarkedCase → Bool
copies_right structural cs = false
copies_right scalar cs = some_several cs
copies_right unary cs = false

abbrev pub copied : Form → List MarkedCase → List PredicateTree
copied form cs = cond (copies_right form cs) (right_copies ∷ []) []

-- in an implementation for these cases, in order and with repeats
abbrev pub needed_in : Form → Operator → Declaration → List MarkedCase → List PredicateTree
needed_in form o d cs = needed_by (asking form o) d cs ++ copied form cs

-- in the implementation of an operator for a declaration
abbrev pub needed : Operator → Declaration → List PredicateTree
needed o d = needed_in (form_in o d) o d (cases_for o d)
