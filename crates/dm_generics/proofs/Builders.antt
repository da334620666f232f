-- Steps that the builders of paths and types take.
use Rattle.std.proofs.Common.{◌≡◌, ℕ, List, [], ◌∷◌, map, false, None, refl, ap, ◌∙◌}
use Rattle.dm_stream.specs.declared.tokens.Span.{Span}
use Rattle.dm_stream.specs.declared.tokens.Ident.{Ident}
use Rattle.dm_ast.specs.declared.ty.Ty.{Ty}
use Rattle.dm_ast.specs.declared.ty.Path.{Path}
use Rattle.dm_ast.specs.declared.ty.TyNode.TheVariants as nodes
use Rattle.dm_ast.specs.declared.ty.GenericArgument.{GenericArgument}
use Rattle.dm_ast.specs.declared.ty.GenericArgument.TheVariants as g
use Rattle.dm_ast.specs.declared.ty.PathArguments.TheVariants as a
use Rattle.dm_ast.specs.Tree.{ty_view, path_view, argument_view, arguments_view, angle, arguments_of, assoc_type, arguments_absent, type_tree, path, no_self, segment, absent, segments_of, segment_then}
use Rattle.dm_ast.proofs.View.{view-Ty, view_TyNode-Path, view_TyNode-Reference, view_GenericArgument-AssocTy, view_PathArguments-Angle, view_steps}
use Rattle.dm_ast.specs.Implementors.{segments}
use Rattle.dm_generics.specs.Words.{word, words, plain_segments}

pub segments_of_plain : (xs : List (List ℕ)) → segments_of (plain_segments xs) ≡ segments (words xs)
segments_of_plain [] = refl
segments_of_plain (x ∷ xs) = ap (λ r. segment_then (segment (word x) absent) r) (segments_of_plain xs)

pub view_plain_type : (q : Path) (s : Span) → ty_view (record { node = nodes.Path None q; span = s }) ≡ type_tree (path no_self (path_view q)) s
view_plain_type q s = view-Ty (record { node = nodes.Path None q; span = s }) ∙ ap (λ m. type_tree m s) (view_TyNode-Path None q)

pub view_plain_output : (i : Ident) (t : Ty) → argument_view (g.AssocTy i None t) ≡ assoc_type i arguments_absent (ty_view t)
view_plain_output i t = view_GenericArgument-AssocTy i None t

pub view_plain_arguments : (gs : List GenericArgument) →
    arguments_view (a.Angle false (record { items = gs; trailing = false })) ≡ angle false (arguments_of (map argument_view gs)) false
view_plain_arguments gs = view_PathArguments-Angle false (record { items = gs; trailing = false })

pub ruleset builder_steps = (view_steps, segments_of_plain)

pub ruleset type_steps = (builder_steps, view_plain_type)

pub ruleset bound_steps = (builder_steps, view_plain_output, view_plain_arguments)
