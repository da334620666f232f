-- Bare paths and metas have the tokens that were read, ranges and spacing aside.
use Rattle.std.proofs.Common.{true, false, List, [], ◌∷◌, ◌++◌, sym, ap, ◌∙◌, append_assoc}
use Rattle.dm_stream.specs.declared.tokens.Delim.{Delim}
use Rattle.dm_stream.specs.declared.tokens.Delim.TheVariants.{Paren}
use Rattle.dm_stream.specs.declared.tokens.Token.TheVariants as t
use Rattle.dm_stream.specs.declared.tokens.Span.{Span}
use Rattle.dm_stream.specs.Layout.{nowhere}
use Rattle.dm_stream.specs.Trees.{Trees, Stream}
use Rattle.dm_ast.specs.Tree.{PathTree, path_tree, SegmentTree, segment, SegmentTrees, no_segments, segment_then, ArgumentsTree, absent, angle, parens}
use Rattle.dm_ast.specs.Spelling.{Where, deeper, Marks, sees_colons, colons, GroupAt}
use Rattle.dm_ast.specs.TypeGrammar.{kept}
use Rattle.dm_type_eq.specs.BareTokens.{opening, closing, tokens_of}
use Rattle.dm_ast.specs.TypeTokens as spell
use Rattle.dm_read_paths.specs.BarePaths.{bare_arguments, bare_segment, bare_segments, bare_segments_left, bare_path}
use Rattle.dm_meta.specs.Metas.{PathOrKeywordTree, a_path, keyword, MetaListTree, MetaTree, path_meta, list_meta, NestedMetaTree, nested, lit, path_or_keyword, meta_list, meta_spelled, nested_meta, path_or_keyword_trees, meta_list_trees, meta_trees, nested_meta_trees}
use Rattle.dm_syntax.specs.Unread.{Part, in_segment_arguments, in_segment, in_segments, in_path}
use Rattle.dm_syntax.specs.WrittenBack.{Keeps, Gives, IsListBack}
use Rattle.dm_syntax.proofs.Back.{Back, back_join, back_none, back_token, back_pair, gives_of, backs}
use Rattle.dm_syntax.proofs.Walked.{walk_next_segment, walk_angle, walk_flag, walk_kept}
use Rattle.dm_syntax.proofs.WalkedTypes.{walk_arguments}

back_bare_arguments : (gs : ArgumentsTree) (r : Span) (w : Where) (ts o : Trees) (m : Marks) → bare_arguments gs w ts o m → Back (in_segment_arguments gs) (spell.arguments_trees r gs) ts o
back_bare_arguments absent r w ts o m s = back_none ts o s.part.spelled
back_bare_arguments (angle b gs u) r w ts o m s = walk_angle backs gs r b u w ts o m s (λ i j k h. walk_arguments backs gs r u (deeper w) i j k h)
back_bare_arguments (parens xs u out) r w ts o m s = absurd s.fact

back_bare_segment : (x : SegmentTree) (r : Span) (w : Where) (ts o : Trees) (m : Marks) → bare_segment x w ts o m → Back (in_segment x) (spell.segment_trees r x) ts o
back_bare_segment (segment n gs) r w ts o m s =
    back_join (spell.name n) (spell.arguments_trees r gs) ts s.middle o (back_token w (t.Ident n) ts s.middle s.first_marks s.first.part)
    (back_bare_arguments gs r w s.middle o s.rest_marks s.rest)

back_bare_left : (ss : SegmentTrees) (r : Span) (w : Where) (ts o : Trees) (m : Marks) → bare_segments_left ss w ts o m →
    Back (in_segments ss) (spell.spaced (spell.colons r) false (spell.each_segment r ss)) ts o
back_bare_left no_segments r w ts o m s = back_none ts o s.part.spelled
back_bare_left (segment_then x ss) r w ts o m s =
    walk_next_segment backs r w (spell.segment_trees r x) (spell.each_segment r ss) ts s.middle s.rest.middle o s.first_marks s.first
    (back_bare_segment x r w s.middle s.rest.middle s.rest.first_marks s.rest.first) (back_bare_left ss r w s.rest.middle o s.rest.rest_marks s.rest.rest)

back_bare_segments : (ss : SegmentTrees) (r : Span) (w : Where) (ts o : Trees) (m : Marks) → bare_segments ss w ts o m →
    Back (in_segments ss) (spell.spaced (spell.colons r) true (spell.each_segment r ss)) ts o
back_bare_segments no_segments r w ts o m s = absurd s.fact
back_bare_segments (segment_then x ss) r w ts o m s =
    back_join (spell.segment_trees r x) (spell.spaced (spell.colons r) false (spell.each_segment r ss)) ts s.middle o
    (back_bare_segment x r w ts s.middle s.first_marks s.first) (back_bare_left ss r w s.middle o s.rest_marks s.rest)

back_bare_path : (p : PathTree) (r : Span) (w : Where) (ts o : Trees) (m : Marks) → bare_path p w ts o m → Back (in_path p) (spell.path_trees r p) ts o
back_bare_path (path_tree b ss) r w ts o m s =
    back_join (spell.given b (spell.colons r)) (spell.spaced (spell.colons r) true (spell.each_segment r ss)) ts s.middle o
    (walk_flag backs sees_colons b (colons w) (spell.colons r) ts s.middle s.first_marks s.first (back_pair r w 58 58 ts s.middle s.first_marks))
    (back_bare_segments ss r w s.middle o s.rest_marks s.rest)

abbrev in_word : PathOrKeywordTree → List Part
in_word (a_path p) = in_path p
in_word (keyword i) = []

back_word : (x : PathOrKeywordTree) (w : Where) (ts o : Trees) (m : Marks) → path_or_keyword x w ts o m → Back (in_word x) (path_or_keyword_trees x) ts o
back_word (a_path p) w ts o m s = back_bare_path p nowhere w ts o m s
back_word (keyword i) w ts o m s = back_token w (t.Ident i) ts o m s.part

pub gives_bare_path : (p : PathTree) (r : Span) (w : Where) (ts o : Trees) (m : Marks) → bare_path p w ts o m → Gives (spell.path_trees r p) ts o
gives_bare_path p r w ts o m s = gives_of (spell.path_trees r p) ts o (back_bare_path p r w ts o m s)

pub gives_word : (x : PathOrKeywordTree) (w : Where) (ts o : Trees) (m : Marks) → path_or_keyword x w ts o m → Gives (path_or_keyword_trees x) ts o
gives_word x w ts o m s = gives_of (path_or_keyword_trees x) ts o (back_word x w ts o m s)

-- the group of a list, with the spacing inside
keeps_group : (w : Where) (d : Delim) (x : Stream) (ts o : Trees) (m : Marks) → GroupAt w d (kept x) ts o m → Keeps (spell.grouped d x.trees) ts o
keeps_group w d x ts o m s =
    ap tokens_of s.spelled ∙ ap (λ i. opening d ∷ (tokens_of i ++ closing d ∷ tokens_of o)) s.whole.part.spelled ∙
    ap (λ l. opening d ∷ l) (sym (append_assoc (tokens_of x.trees) (closing d ∷ []) (tokens_of o)))

gives_list : (x : MetaListTree) (w : Where) (ts o : Trees) (m : Marks) → meta_list x w ts o m → Gives (meta_list_trees x) ts o
gives_list x w ts o m s =
    gives_of (meta_list_trees x) ts o
    (back_join (path_or_keyword_trees x.path) (spell.grouped Paren x.tokens.trees) ts s.middle o (back_word x.path w ts s.middle s.first_marks s.first)
    (walk_kept backs w Paren x.tokens s.middle o s.rest_marks s.rest))

pub list_back : (x : MetaListTree) (w : Where) (ts o : Trees) (m : Marks) → meta_list x w ts o m → IsListBack x ts o
list_back x w ts o m s =
    record {
      behind = s.middle;
      path = gives_word x.path w ts s.middle s.first_marks s.first;
      group = keeps_group w Paren x.tokens s.middle o s.rest_marks s.rest;
      whole = gives_list x w ts o m s;
    }

pub gives_meta : (x : MetaTree) (w : Where) (ts o : Trees) (m : Marks) → meta_spelled x w ts o m → Gives (meta_trees x) ts o
gives_meta (path_meta p) w ts o m s = gives_word p w ts o m s.part
gives_meta (list_meta l) w ts o m s = gives_list l w ts o m s

pub gives_nested : (x : NestedMetaTree) (w : Where) (ts o : Trees) (m : Marks) → nested_meta x w ts o m → Gives (nested_meta_trees x) ts o
gives_nested (nested y) w ts o m s = gives_meta y w ts o m s
gives_nested (lit l) w ts o m s = gives_of (spell.literal l) ts o (back_token w (t.Literal l) ts o m s)
