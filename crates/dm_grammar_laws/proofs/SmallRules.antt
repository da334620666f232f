-- The rules of types that hold one part: what their readers decide.
use Rattle.std.proofs.Common.{◌≡◌, Bool, true, false, codes, refl, sym, ◌∙◌}
use Rattle.dm_stream.specs.declared.tokens.Delim.{Delim}
use Rattle.dm_stream.specs.Trees.{Trees, Stream}
use Rattle.dm_ast.specs.declared.plain.PlainPath.{PlainPath}
use Rattle.dm_read_paths.specs.declared.kind.NodeKind.TheVariants as kind
use Rattle.dm_read_paths.specs.declared.kind.Mode.{Mode}
use Rattle.dm_ast.specs.Spelling.{Where, Marks, Spelling, ◌then◌, GroupAt, punct, keyword}
use Rattle.dm_ast.specs.TypeGrammar.{sees_macro, path_spelled, plain_path, kept}
use Rattle.dm_ast.specs.Tree.{TypeTree, TypeNode, infer, never, path, no_self, some_self, macro_type}
use Rattle.dm_ast.specs.Readers.{Parser, ◌and◌, ◌next◌, ◌gives◌, read_punct, read_word}
use Rattle.dm_ast.specs.PlainReaders.{read_plain, read_kept}
use Rattle.dm_read_paths.specs.TypeReaders.{node_kind, infer_of, never_of, path_node, call_of, read_path, read_call}
use Rattle.dm_read.proofs.Deciding.{Decides, Reader, Image, pair, decides_by, reads_and, reads_next}
use Rattle.dm_read.proofs.Tokens.{reads_punct, reads_word}
use Rattle.dm_read_paths.proofs.PlainParts.{reads_plain, reads_kept}
use Rattle.dm_read_paths.proofs.NodeKinds.{kind_of, kind_is}
use Rattle.dm_read_paths.proofs.TypeRules.{NodeAt, rule_by}

module _ (inner : Mode → Where → Parser TypeTree) (single : Bool) (w : Where) where
  infer_back : (y : TypeNode) (ts o : Trees) (m : Marks) → NodeAt single w y ts o m → kind_of y ≡ kind.Infer → Image infer_of (λ (_ : Unit {0}). keyword w (codes "_")) y ts o m
  infer_back infer ts o m s e = record { value = tt; is_it = refl; spelled = s.part }
  infer_back (path no_self p) ts o m s e = absurd (cc)
  infer_back (path (some_self t n) p) ts o m s e = absurd (cc)
  infer_back _ ts o m s e = absurd (cc)

  pub infer_rule : (ts : Trees) → node_kind ts ≡ kind.Infer → sees_macro ts ≡ false → Decides (NodeAt single w) ts ((read_word (codes "_") w gives infer_of) ts)
  infer_rule =
      rule_by inner infer_of (λ (_ : Unit {0}). keyword w (codes "_")) single w kind.Infer (read_word (codes "_") w) (λ x ts o m s. s) (λ x. refl) infer_back (reads_word (codes "_") w)

  never_back : (y : TypeNode) (ts o : Trees) (m : Marks) → NodeAt single w y ts o m → kind_of y ≡ kind.Never → Image never_of (λ (_ : Unit {0}). punct w 33) y ts o m
  never_back never ts o m s e = record { value = tt; is_it = refl; spelled = s.part }
  never_back (path no_self p) ts o m s e = absurd (cc)
  never_back (path (some_self t n) p) ts o m s e = absurd (cc)
  never_back _ ts o m s e = absurd (cc)

  pub never_rule : (ts : Trees) → node_kind ts ≡ kind.Never → sees_macro ts ≡ false → Decides (NodeAt single w) ts ((read_punct 33 w gives never_of) ts)
  never_rule =
      rule_by inner never_of (λ (_ : Unit {0}). punct w 33) single w kind.Never (read_punct 33 w) (λ x ts o m s. s) (λ x. refl) never_back (reads_punct 33 w)

  path_back : (y : TypeNode) (ts o : Trees) (m : Marks) → NodeAt single w y ts o m → kind_of y ≡ kind.Path → Image path_node (λ p. path_spelled p w) y ts o m
  path_back (path no_self p) ts o m s e = record { value = p; is_it = refl; spelled = s.part }
  path_back (path (some_self t n) p) ts o m s e = absurd (cc)
  path_back _ ts o m s e = absurd (cc)

  pub path_rule : Reader (λ p. path_spelled p w) (read_path inner w) → (ts : Trees) → node_kind ts ≡ kind.Path → sees_macro ts ≡ false →
      Decides (NodeAt single w) ts ((read_path inner w gives path_node) ts)
  path_rule h = rule_by inner path_node (λ p. path_spelled p w) single w kind.Path (read_path inner w) (λ x ts o m s. s) (λ x. refl) path_back h

  -- a macro call
  abbrev Call : PlainPath × (Delim × Stream) → Spelling
  Call v = plain_path w v.0 then (punct w 33 then GroupAt w v.1.0 (kept v.1.1))

  call_back : (y : TypeNode) (ts o : Trees) (m : Marks) → NodeAt single w y ts o m → kind_of y ≡ kind.Call → Image call_of Call y ts o m
  call_back (macro_type p d inside) ts o m s e = record { value = pair p (pair d inside); is_it = refl; spelled = s.part }
  call_back (path no_self p) ts o m s e = absurd (cc)
  call_back (path (some_self t n) p) ts o m s e = absurd (cc)
  call_back _ ts o m s e = absurd (cc)

  reads_call : Reader Call (read_plain w and (read_punct 33 w next read_kept w))
  reads_call =
      reads_and (plain_path w) (λ v. punct w 33 then GroupAt w v.0 (kept v.1)) (read_plain w) (read_punct 33 w next read_kept w) (reads_plain w)
      (reads_next (punct w 33) (λ v. GroupAt w v.0 (kept v.1)) (read_punct 33 w) (read_kept w) (reads_punct 33 w) (reads_kept w))

  pub call_rule : (ts : Trees) → node_kind ts ≡ kind.Call → sees_macro ts ≡ true → Decides (NodeAt single w) ts (read_call inner w ts)
  call_rule ts e n =
      decides_by call_of Call (NodeAt single w) ts (λ x o m s. record { fact = n; part = s })
      (λ y o m s. call_back y ts o m s (sym (kind_is y single w ts o m s) ∙ e)) ((read_plain w and (read_punct 33 w next read_kept w)) ts) (reads_call ts)
