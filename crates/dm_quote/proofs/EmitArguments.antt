-- The tokens of generic arguments, by their views.
use Rattle.std.proofs.Common.{◌≡◌, map, Some, None, ap}
use Rattle.std.proofs.lemmas.Grind.{common_steps}
use Rattle.dm_stream.specs.declared.seq.Punctuated.{Punctuated}
use Rattle.dm_stream.specs.declared.tokens.Span.{Span}
use Rattle.dm_stream.specs.declared.tokens.Ident.{Ident}
use Rattle.dm_stream.specs.Trees.{join, join-no_trees, join_assoc}
use Rattle.dm_ast.specs.declared.ty.Bound.{Bound}
use Rattle.dm_ast.specs.declared.ty.GenericArgument.{GenericArgument}
use Rattle.dm_ast.specs.declared.ty.GenericArgument.TheVariants as g
use Rattle.dm_ast.specs.Tree.{bounds_of, arguments_of, bound_view, argument_view}
use Rattle.dm_ast.specs.TypeTokens.{punct, name, listed, angle_trees, each_argument, each_bound, argument_trees}
use Rattle.dm_ast.proofs.View.{view_GenericArgument-Lifetime, view_GenericArgument-Ty, view_GenericArgument-Const, view_GenericArgument-AssocTy, view_GenericArgument-AssocConst, view_GenericArgument-Constraint}

pub constraint_none : (s : Span) (i : Ident) (bs : Punctuated Bound) →
    argument_trees s (argument_view (g.Constraint i None bs)) ≡
    join (name i) (join (punct 58 s) (listed 43 s (each_bound s (bounds_of (map bound_view bs.items))) bs.trailing))
constraint_none s i bs = ap (argument_trees s) (view_GenericArgument-Constraint i None bs)

pub constraint_some : (s : Span) (i : Ident) (gs : Punctuated GenericArgument) (bs : Punctuated Bound) →
    argument_trees s (argument_view (g.Constraint i (Some gs) bs)) ≡
    join (name i) (join (angle_trees s (each_argument s (arguments_of (map argument_view gs.items))) gs.trailing)
    (join (punct 58 s) (listed 43 s (each_bound s (bounds_of (map bound_view bs.items))) bs.trailing)))
constraint_some s i gs bs = ap (argument_trees s) (view_GenericArgument-Constraint i (Some gs) bs)

pub ruleset argument_steps = (common_steps, join-no_trees, join_assoc, view_GenericArgument-Lifetime, view_GenericArgument-Ty, view_GenericArgument-Const, view_GenericArgument-AssocTy, view_GenericArgument-AssocConst, constraint_none, constraint_some)
