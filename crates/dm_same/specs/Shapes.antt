-- What the lent parts of a type and of a generic argument are as plain data.
use Rattle.std.specs.Prelude.{Bool, true, map}
use Rattle.dm_same.specs.declared.same_types.Shape.{Shape}
use Rattle.dm_same.specs.declared.same_types.Shape.TheVariants as s
use Rattle.dm_same.specs.declared.same_types.Given.{Given}
use Rattle.dm_same.specs.declared.same_types.Given.TheVariants as g
use Rattle.dm_ast.specs.Tree.{TypeNode, paren, tuple, slice, array, reference, pointer, bare_fn, trait_object, impl_trait, infer, never, path, macro_type, no_self, some_self, ArgumentTree, lifetime_arg, type_arg, const_arg, assoc_type, assoc_const, constraint, types_of, bounds_of, ty_view, bound_view, fn_view, path_view, maybe_arguments_view}
use Rattle.dm_same.specs.SameTypes.{same_argument}

abbrev pub shape_view : Shape → TypeNode
shape_view (s.Paren t) = paren (ty_view t.now)
shape_view (s.Tuple ts) = tuple (types_of (map ty_view ts.now.items)) ts.now.trailing
shape_view (s.Slice t) = slice (ty_view t.now)
shape_view (s.Array t o) = array (ty_view t.now) o.now
shape_view (s.Reference l m t) = reference l.now m (ty_view t.now)
shape_view (s.Pointer m t) = pointer m (ty_view t.now)
shape_view (s.BareFn f) = bare_fn (fn_view f.now)
shape_view (s.TraitObject bs) = trait_object (bounds_of (map bound_view bs.now.items)) bs.now.trailing
shape_view (s.ImplTrait bs) = impl_trait (bounds_of (map bound_view bs.now.items)) bs.now.trailing
shape_view s.Infer = infer
shape_view s.Never = never
shape_view (s.Path p) = path no_self (path_view p.now)
shape_view (s.Qualified q p) = path (some_self (ty_view q.now.ty) q.now.position) (path_view p.now)
shape_view (s.Macro p d ts) = macro_type p.now d ts.now

abbrev pub given_view : Given → ArgumentTree
given_view (g.Lifetime l) = lifetime_arg l.now
given_view (g.Ty t) = type_arg (ty_view t.now)
given_view (g.Const c) = const_arg c.now
given_view (g.AssocTy i gs t) = assoc_type i.now (maybe_arguments_view gs.now) (ty_view t.now)
given_view (g.AssocConst i gs c) = assoc_const i.now (maybe_arguments_view gs.now) c.now
given_view (g.Constraint i gs bs) = constraint i.now (maybe_arguments_view gs.now) (bounds_of (map bound_view bs.now.items)) bs.now.trailing

-- arguments that have a name, and others
abbrev pub same_binding : ArgumentTree → ArgumentTree → Bool
same_binding (lifetime_arg l) h = true
same_binding (type_arg t) h = true
same_binding (const_arg c) h = true
same_binding (assoc_type i gs t) h = same_argument (assoc_type i gs t) h
same_binding (assoc_const i gs c) h = same_argument (assoc_const i gs c) h
same_binding (constraint i gs bs a) h = same_argument (constraint i gs bs a) h
