use Rattle.std.proofs.Common.{false, refl, [], ◌∷◌, ◌++◌, map, ap₂, sym}
use Rattle.dm_ast.specs.Tree.{argument_view, type_arg, type_tree, path, no_self, path_tree, segments_of, segment_view, segment, absent}
use Rattle.dm_ast.proofs.View.{view_PathArguments-Absent}
use Rattle.dm_copy.proofs.Copies.{shown_as}
use Rattle.dm_copy.proofs.Known.{both_known}
use Rattle.dm_copy.proofs.Replacing.{one_more}
use Rattle.dm_copy.proofs.self_type.name_argument.Goals as goal

pub returns : goal.returns
returns c =
    let alone = c.segment_of-segment.ensures absent c.args.ident.now (both_known _ _ _ _ _ c.both.ensures view_PathArguments-Absent c.clone_in.ensures) in
    shown_as _ argument_view _ _
    (ap₂ (λ x z. type_arg (type_tree (path no_self (path_tree false (segments_of (map segment_view x ++ segment c.args.ident.now absent ∷ [])))) z))
    (sym c.new.ensures) (sym c.nowhere.ensures))
    (c.type_argument_of.ensures _
    (c.ty_of.ensures _ (c.path_type_of.ensures _ (c.path_of-path.ensures _ (one_more segment_view _ _ _ _ _ refl c.grown.ensures alone)))))
