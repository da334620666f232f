-- The predicates that an implementation adds to the declared ones, so that the operation of each field may be called: one for each kept
-- field of an unskipped variant whose type mentions a parameter and is free, in order and with repeats.
use Rattle.std.specs.Prelude.{List, [], ◌∷◌, flat_map, Bool, false, not, cond, ◌&&◌, ◌||◌, None}
use Rattle.dm_ast.specs.Tree.{Lifetimes, TypeTree, type_tree, bare_fn, FnTree, fn_tree, BoundTree, implements, trait_bound, PathTree, ty_view}
use Rattle.dm_ast.specs.Declarations.{Listed, PredicateTree, type_predicate, Declaration}
use Rattle.dm_ast.specs.Implementors.{implementor}
use Rattle.dm_attr.specs.Skips.{is_skipped}
use Rattle.dm_generics.specs.Words.{self_type}
use Rattle.dm_operands.specs.Marked.{MarkedField, MarkedCase, marked}
use Rattle.dm_searches.specs.Parameters.{Parameters, looked_for, declared_in}
use Rattle.dm_searches.specs.Mentions.{mentions}
use Rattle.dm_searches.specs.Inside.{inside}
use Rattle.dm_bounds.specs.declared.sought.Sought.{Sought}

-- ---- the predicate of a type and a trait. A `for` at the type's front is the predicate's, since so these tokens are read.

abbrev pub front_for : FnTree → Lifetimes
front_for (fn_tree ls is_unsafe abi is trailing out) = ls

abbrev pub behind_for : FnTree → FnTree
behind_for (fn_tree ls is_unsafe abi is trailing out) = fn_tree None is_unsafe abi is trailing out

abbrev pub subject : TypeTree → Lifetimes × TypeTree
subject (type_tree (bare_fn f) range) = (front_for f, type_tree (bare_fn (behind_for f)) range)
subject (type_tree n range) = (None, type_tree n range)

-- the trait of this path as the only bound
abbrev pub only_trait : PathTree → Listed BoundTree
only_trait p = record { items = implements (trait_bound false false None p) ∷ []; trailing = false }

-- `T: TRAIT`
abbrev pub bounded : PathTree → TypeTree → PredicateTree
bounded p t = type_predicate (subject t).0 (subject t).1 (only_trait p)

-- ---- which types need one

-- the parameters, and the types that stand for the implementation's own
pub record Wanted : Type 0 where
  pub parameters : Parameters
  pub this : TypeTree
  pub whole : TypeTree

abbrev pub wanted : Sought → Wanted
wanted s = record { parameters = looked_for s.search; this = ty_view s.this; whole = ty_view s.whole }

-- neither `Self` nor the declared type with its parameters stands in the type
abbrev pub is_free : Wanted → TypeTree → Bool
is_free w t = not (inside w.this t || inside w.whole t)

abbrev pub needs : Wanted → TypeTree → Bool
needs w t = mentions w.parameters t && is_free w t

-- what is asked for: of which types, and the trait's path for each
pub record Asking : Type 0 where
  pub asks : Wanted → TypeTree → Bool
  pub path : TypeTree → PathTree

-- the predicate of a kept field's type, where one is asked for
abbrev pub added_by : Asking → Wanted → MarkedField → List PredicateTree
added_by a w f = cond (not f.left_out && a.asks w f.field.ty) (bounded (a.path f.field.ty) f.field.ty ∷ []) []

-- of all kept fields of a case
abbrev pub added_in_by : Asking → Wanted → MarkedCase → List PredicateTree
added_in_by a w c = cond c.left_out [] (flat_map (added_by a w) c.fields)

abbrev pub wanted_of : Declaration → Wanted
wanted_of d = record { parameters = declared_in d.generics; this = self_type; whole = implementor d }

-- in an implementation for these cases, in order and with repeats
abbrev pub needed_by : Asking → Declaration → List MarkedCase → List PredicateTree
needed_by a d cs = flat_map (added_in_by a (wanted_of d)) cs

-- ---- one trait, of each type that needs it

-- the trait of this path
abbrev pub needing : PathTree → Asking
needing p = record { asks = needs; path = λ _. p }

abbrev pub added : PathTree → Wanted → MarkedField → List PredicateTree
added p w f = added_by (needing p) w f

abbrev pub added_in : PathTree → Wanted → MarkedCase → List PredicateTree
added_in p w c = added_in_by (needing p) w c

abbrev pub needed_in : PathTree → Declaration → List MarkedCase → List PredicateTree
needed_in p d cs = needed_by (needing p) d cs

-- in the implementation for a declaration
abbrev pub needed : PathTree → Declaration → List PredicateTree
needed p d = needed_in p d (marked is_skipped d)
