-- Leaves that read just what is printed: what is read has the tokens that were passed, ranges aside.
use Rattle.std.specs.Prelude.{◌-◌, Bool, List, length, take, Option, Some}
use Rattle.dm_stream.specs.declared.tokens.Entry.{Entry}
use Rattle.dm_stream.specs.Trees.{Trees, flatten}
use Rattle.dm_ast.specs.Tree.{TypeTree, MaybeSelf, PathTree}
use Rattle.dm_ast.specs.TypeTokens.{type_trees}
use Rattle.dm_same.specs.SameTypes.{all_same, same_entry}
use Rattle.dm_output.specs.Tokens.{path_expr_trees}
use Rattle.dm_reread.specs.Leaves.{Answer}
use Rattle.dm_reread.specs.Reading.{then, provided}
use Rattle.dm_reread.specs.Items.{HeadTree, between_trees}
use Rattle.dm_reread.specs.TypeLeaves.{read_type}
use Rattle.dm_reread.specs.PathLeaves.{read_qualified}
use Rattle.dm_reread.specs.RunLeaves.{read_run, is_closed}
use Rattle.dm_reread.specs.HeadLeaves.{plain_head}

-- the tokens and delimiters between two places
abbrev pub passed : Trees → Trees → List Entry
passed ts us = take (length (flatten ts) - length (flatten us)) (flatten ts)

-- whether trees have these tokens and delimiters, wherever those stand
abbrev pub has_entries : Trees → List Entry → Bool
has_entries ts es = all_same same_entry (flatten ts) es

-- what is read at a place, where it has the tokens that were passed
abbrev pub exactly : {A : Type 0} → (A → Trees) → Trees → Answer A → Answer A
exactly trees_of ts o = then o (λ a. provided (has_entries (trees_of a.0) (passed ts a.1)) (Some a))

abbrev pub exact_type : Trees → Answer TypeTree
exact_type ts = exactly type_trees ts (read_type ts)

abbrev pub exact_qualified : Trees → Answer (MaybeSelf × PathTree)
exact_qualified ts = exactly (λ q. path_expr_trees q.0 q.1) ts (read_qualified ts)

abbrev pub exact_head : Trees → Answer HeadTree
exact_head ts = exactly between_trees ts (plain_head ts)

-- the value in front, where nothing in it is left open
abbrev pub closed_run : Trees → Option (Trees × Trees)
closed_run ts = then (read_run ts) (λ a. provided (is_closed a.0) (Some a))
