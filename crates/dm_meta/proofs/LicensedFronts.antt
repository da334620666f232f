-- Where bare paths and metas are refused.
use Rattle.std.proofs.Common.{true, Ok, Err, arith}
use Rattle.dm_stream.specs.declared.tokens.Delim.TheVariants.{Paren}
use Rattle.dm_stream.specs.Trees.{Trees}
use Rattle.dm_ast.specs.Tree.{PathTree}
use Rattle.dm_ast.specs.Spelling.{Where, sees_group, sees_literal}
use Rattle.dm_read_paths.specs.BarePaths.{read_bare_path}
use Rattle.dm_ast.specs.Readers.{Outcome, mapped, read_any, read_rest, inside_at}
use Rattle.dm_read_paths.specs.TypeReaders.{read_type}
use Rattle.dm_meta.specs.Metas.{PathOrKeywordTree, path_meta}
use Rattle.dm_meta.specs.MetaReaders.{is_syntax, keyword_of, if_no_path, read_keyword, read_path_or_keyword, read_enclosed, list_of, read_meta_list, list_behind, behind_path, read_meta, lit_of, nested_of, read_nested_meta}
use Rattle.dm_grammar_laws.proofs.LicensedSteps.{Licensed}
use Rattle.dm_grammar_laws.proofs.Licensing.{Licenses, licensed_any, licensed_gives, licensed_and, licensed_bind, licensed_test, licensed_either, licensed_nothing, licensed_any_ident, licensed_literal, licensed_group, licensed_rest}
use Rattle.dm_grammar_laws.proofs.LicensedTypes.{licensed_path, licensed_type}

module _ (w : Where) where
  pub licensed_bare_path : Licenses 0 w (read_bare_path (read_type 129) w)
  licensed_bare_path = licensed_path (read_type 129) w.level (λ mode v below. licensed_type 129 mode v (omega arith)) true w (omega arith)

  -- ---- a path or a keyword

  licensed_keyword : Licenses 0 w (read_keyword w)
  licensed_keyword = licensed_gives (licensed_any_ident w) keyword_of

  if_no_path_outcome : (ts : Trees) (o : Outcome PathTree) → Licensed 0 w ts o → Licensed 0 w ts (if_no_path w ts o)
  if_no_path_outcome ts (Ok p) h = h
  if_no_path_outcome ts (Err r) h = licensed_test 0 w ts (is_syntax r.kind) (mapped keyword_of (read_any w ts)) (Err r) (λ _. licensed_keyword.at ts) (λ _. h)

  pub licensed_word : Licenses 0 w (read_path_or_keyword w)
  licensed_word = record { at = λ ts. if_no_path_outcome ts (read_bare_path (read_type 129) w ts) (licensed_bare_path.at ts) }

  -- ---- metas

  licensed_enclosed : Licenses 0 w (read_enclosed w)
  licensed_enclosed = licensed_any (licensed_group Paren read_rest w (λ limit. licensed_rest (inside_at w limit)))

  pub licensed_meta_list : Licenses 0 w (read_meta_list w)
  licensed_meta_list = licensed_gives (licensed_and licensed_word licensed_enclosed) list_of

  licensed_behind : (p : PathOrKeywordTree) → Licenses 0 w (behind_path w p)
  licensed_behind p = licensed_either (sees_group Paren) (licensed_gives licensed_enclosed (list_behind p)) (licensed_nothing (path_meta p))

  pub licensed_meta : Licenses 0 w (read_meta w)
  licensed_meta = record { at = λ ts. licensed_bind w ts (read_path_or_keyword w ts) (behind_path w) (licensed_word.at ts) (λ p. (licensed_behind p).at) }

  pub licensed_nested : Licenses 0 w (read_nested_meta w)
  licensed_nested = licensed_either sees_literal (licensed_gives (licensed_literal w) lit_of) (licensed_gives licensed_meta nested_of)
