-- What a type that is a name, perhaps with arguments, gives before `=` or `:`.
use Rattle.std.proofs.Common.{◌≡◌, ◌≢◌, suc, true, false, List, [], ◌∷◌, ◌++◌, length, map, Some, None, refl, ap, ◌∙◌, arith}
use Rattle.std.proofs.lemmas.Grind.{common_steps}
use Rattle.std.specs.Option.{option_to_list}
use Rattle.dm_stream.specs.declared.tokens.Span.{Span}
use Rattle.dm_ast.specs.declared.ty.PathSegment.{PathSegment}
use Rattle.dm_ast.specs.Tree.{TypeTree, PathTree, path_tree, segment, segment_then, no_segments, segments_of, segment_view, type_tree, path, no_self, some_self}
use Rattle.dm_read_paths.specs.TypeReaders.{binding_of, as_path}
use Rattle.dm_read_paths.specs.Bindings.{segment_binding, segments_binding, path_binding, path_alone}
use Rattle.dm_ast.proofs.View.{view_steps}

pub of_path : (p : PathTree) (range : Span) → binding_of (type_tree (path no_self p) range) ≡ path_binding p
of_path (path_tree true ss) range = refl
of_path (path_tree false no_segments) range = refl
of_path (path_tree false (segment_then (segment i as') no_segments)) range = refl
of_path (path_tree false (segment_then (segment i as') (segment_then u ss))) range = refl

pub binding_alone : (t : TypeTree) (p : PathTree) → path_alone t ≡ Some p → binding_of t ≡ path_binding p
binding_alone (type_tree (path no_self q) range) p e = let f : q ≡ p = cc in of_path q range ∙ ap path_binding f
binding_alone (type_tree (path (some_self t n) q) range) p e = absurd (cc)
binding_alone (type_tree _ range) p e = absurd (cc)

pub binding_none : (t : TypeTree) → path_alone t ≡ None → binding_of t ≡ None
binding_none (type_tree (path no_self q) range) e = absurd (cc)
binding_none (type_tree (path (some_self t n) q) range) e = refl
binding_none (type_tree _ range) e = refl

pub path_found : (t : TypeTree) (p : PathTree) → path_alone t ≡ Some p → as_path t ≡ p
path_found (type_tree (path no_self q) range) p e = cc
path_found (type_tree (path (some_self t n) q) range) p e = absurd (cc)
path_found (type_tree _ range) p e = absurd (cc)

pub path_missing : (t : TypeTree) → path_alone t ≡ None → as_path t ≡ path_tree false no_segments
path_missing (type_tree (path no_self q) range) e = absurd (cc)
path_missing (type_tree (path (some_self t n) q) range) e = refl
path_missing (type_tree _ range) e = refl

pub none_of : (l : List PathSegment) → length l ≢ 1 → segments_binding (segments_of (map segment_view l)) ≡ None
none_of [] n = refl
none_of (x ∷ []) n = absurd (n refl)
none_of (x ∷ y ∷ l) n = refl

pub alone_is : {A : Type 0} (l rest : List A) (x : A) → length l ≡ 1 → l ≡ rest ++ option_to_list (Some x) → l ≡ x ∷ []
alone_is [] rest x n e = absurd (omega arith)
alone_is (y ∷ []) [] x n e = e
alone_is (y ∷ []) (z ∷ []) x n e = absurd (cc)
alone_is (y ∷ []) (z ∷ u ∷ rest) x n e = absurd (cc)
alone_is (y ∷ z ∷ l) rest x n e = let f : suc (suc (length l)) ≡ 1 = n in absurd (omega arith)

pub one_of : (l rest : List PathSegment) (s : PathSegment) → length l ≡ 1 → l ≡ rest ++ option_to_list (Some s) →
    segments_binding (segments_of (map segment_view l)) ≡ segment_binding (segment_view s)
one_of l rest s n e = ap (λ k. segments_binding (segments_of (map segment_view k))) (alone_is l rest s n e)

pub ruleset binding_steps = (view_steps, of_path, none_of, one_of)

pub ruleset alone_steps = (common_steps, binding_alone, binding_none, path_found, path_missing)
