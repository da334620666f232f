-- Bare paths: paths none of whose own segments has a list in parentheses. So a group in parentheses may follow one. The types between
-- its `<` and `>` are as free as elsewhere.
use Rattle.std.specs.Prelude.{◌≡◌, true, false}
use Rattle.dm_read_paths.specs.declared.kind.Mode.{Mode}
use Rattle.dm_ast.specs.Tree.{TypeTree, PathTree, path_tree, SegmentTree, segment, SegmentTrees, no_segments, segment_then, ArgumentsTree, absent, angle, parens}
use Rattle.dm_ast.specs.Spelling.{Where, Spelling, Nothing, ◌then◌, Provided, Before, sees_colons, colons, flag}
use Rattle.dm_ast.specs.TypeGrammar.{word, between_angles, arguments}
use Rattle.dm_ast.specs.Readers.{Parser}
use Rattle.dm_read_paths.specs.TypeReaders.{sees_angled, read_path_by}

abbrev pub bare_arguments : ArgumentsTree → Where → Spelling
bare_arguments absent w = Before (λ others. sees_angled others ≡ false) Nothing
bare_arguments (angle double gs trailing) w = flag sees_colons double (colons w) then between_angles w (λ v. arguments gs trailing v)
bare_arguments (parens ts trailing out) w = Provided ⊥ Nothing

abbrev pub bare_segment : SegmentTree → Where → Spelling
bare_segment (segment i as') w = word w i then bare_arguments as' w

abbrev pub bare_segments_left : SegmentTrees → Where → Spelling
bare_segments_left no_segments w = Before (λ others. sees_colons others ≡ false) Nothing
bare_segments_left (segment_then s ss) w = colons w then (bare_segment s w then bare_segments_left ss w)

-- one segment or more with `::` between
abbrev pub bare_segments : SegmentTrees → Where → Spelling
bare_segments no_segments w = Provided ⊥ Nothing
bare_segments (segment_then s ss) w = bare_segment s w then bare_segments_left ss w

abbrev pub bare_path : PathTree → Where → Spelling
bare_path (path_tree leading ss) w = flag sees_colons leading (colons w) then bare_segments ss w

abbrev pub read_bare_path : (Mode → Where → Parser TypeTree) → Where → Parser PathTree
read_bare_path inner w = read_path_by inner true w
