-- Paths that were read are in the grammar and have the tokens that were read, over readers of which that holds.
use Rattle.std.specs.Prelude.{◌≡◌, Bool, true, false, T, Some, refl}
use Rattle.std.proofs.Common.{ap, ◌∙◌, sym}
use Rattle.dm_stream.specs.declared.tokens.Token.TheVariants as t
use Rattle.dm_stream.specs.Layout.{nowhere}
use Rattle.dm_stream.specs.Trees.{Trees, token, join}
use Rattle.dm_ast.specs.Tree.{PathTree, path_tree, segment, SegmentTrees, no_segments, segment_then, absent}
use Rattle.dm_ast.specs.TypeTokens as syntax
use Rattle.dm_ast.specs.TypeTokens.{given, spaced, each_segment, path_trees}
use Rattle.dm_output.specs.Tokens as k
use Rattle.dm_reread.specs.Next.{Next, colons, a_name, next}
use Rattle.dm_reread.specs.Leaves.{LeafGrammar}
use Rattle.dm_reread.specs.Reading.{Readers, segment_from, more_segments, path_from, plain_path, step}
use Rattle.dm_reread.specs.Grammar.{ArePlain, is_some_segment, IsPlainPath}
use Rattle.dm_reread.proofs.Laws.{colons_tail}
use Rattle.dm_read_laws.specs.Sound.{IsBare, Spells}
use Rattle.dm_read_laws.proofs.SoundRows.{Sound}
use Rattle.dm_read_laws.proofs.Answers.{then_by, same_answer}
use Rattle.dm_read_laws.proofs.SoundSteps.{spells_then, Begins, next_begins}

-- segments at the front of a path, or behind `::`
abbrev front_segments : SegmentTrees → Trees
front_segments ss = spaced (syntax.colons nowhere) true (each_segment nowhere ss)

abbrev AreSegments : Trees → SegmentTrees × Trees → Type 0
AreSegments ts a = (T (is_some_segment a.0) × ArePlain a.0) × Spells (front_segments a.0) ts a.1

abbrev AreMoreSegments : Trees → SegmentTrees × Trees → Type 0
AreMoreSegments ts a = ArePlain a.0 × Spells (colons_tail a.0) ts a.1

-- a path that was read, and the trees that are left
abbrev pub IsPathRead : Trees → PathTree × Trees → Type 0
IsPathRead ts a = IsPlainPath a.0 × Spells (path_trees nowhere a.0) ts a.1

tail_front : (ss : SegmentTrees) → T (is_some_segment ss) → colons_tail ss ≡ join (syntax.colons nowhere) (front_segments ss)
tail_front no_segments h = absurd h
tail_front (segment_then s ss) h = refl

module _ (g : LeafGrammar) (r : Readers) (S : Sound g r) where
  segments_sound : (ts us : Trees) (n : Next) (ss : SegmentTrees) → Begins ts n → segment_from r n ≡ Some (ss, us) → AreSegments ts (ss, us)
  segments_sound ts us (a_name i vs) ss b e =
      then_by (r.segments vs) _ (ss, us) (AreSegments ts (ss, us)) e
      (λ a h f.
      let d : AreMoreSegments vs a = S.segments vs a.1 a.0 b.0.1 h in
      same_answer (AreSegments ts) (segment_then (segment i absent) a.0, a.1) (ss, us) f
      ((tt, (b.1.0, d.0)), b.0.0 ∙ ap (token (t.Ident i)) d.1))
  segments_sound ts us _ ss b e = absurd (cc)

  more_segments_sound : (ts us : Trees) (n : Next) (ss : SegmentTrees) → Begins ts n → more_segments r ts n ≡ Some (ss, us) →
      AreMoreSegments ts (ss, us)
  more_segments_sound ts us (colons vs) ss b e =
      let d : AreSegments vs (ss, us) = segments_sound vs us (next vs) ss (next_begins vs b.1) e in
      (d.0.1, b.0 ∙ (ap (join (k.joint 58 58)) d.1 ∙ sym (ap (λ x. join x us) (tail_front ss d.0.0))))
  more_segments_sound ts us _ ss b e = same_answer (AreMoreSegments ts) (no_segments, ts) (ss, us) e (tt, refl)

  -- the segments behind a path
  pub segments_row : (ts us : Trees) (ss : SegmentTrees) → IsBare ts → (step r).segments ts ≡ Some (ss, us) →
      ArePlain ss × Spells (colons_tail ss) ts us
  segments_row ts us ss b e = more_segments_sound ts us (next ts) ss (next_begins ts b) e

  path_sound : (leading : Bool) (whole ts us : Trees) (n : Next) (p : PathTree) → Spells (given leading (syntax.colons nowhere)) whole ts →
      Begins ts n →
      path_from r leading n ≡ Some (p, us) → IsPathRead whole (p, us)
  path_sound leading whole ts us n p w b e =
      then_by (segment_from r n) _ (p, us) (IsPathRead whole (p, us)) e
      (λ a h f.
      let d : AreSegments ts a = segments_sound ts a.1 n a.0 b h in
      same_answer (IsPathRead whole) (path_tree leading a.0, a.1) (p, us) f
      (d.0, spells_then (given leading (syntax.colons nowhere)) (front_segments a.0) whole ts a.1 w d.1))

  -- a path without arguments
  pub plain_path_sound : (ts us : Trees) (n : Next) (p : PathTree) → Begins ts n → plain_path r n ≡ Some (p, us) →
      IsPlainPath p × Spells (path_trees nowhere p) ts us
  plain_path_sound ts us (colons vs) p b e = path_sound true ts vs us (next vs) p b.0 (next_begins vs b.1) e
  plain_path_sound ts us n p b e = path_sound false ts ts us n p refl b e
