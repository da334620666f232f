-- Arms: what is read of them is in the grammar, and has the tokens that were read.
use Rattle.std.specs.Prelude.{◌≡◌, true, T, codes, Some, refl}
use Rattle.std.proofs.Common.{subst}
use Rattle.dm_stream.specs.declared.tokens.Delim.TheVariants.{Brace}
use Rattle.dm_stream.specs.Trees.{Trees, no_trees, token, group, join}
use Rattle.dm_ast.specs.TypeTokens.{spaced}
use Rattle.dm_output.specs.Output.{no_expr, some_expr, ArmTrees, no_arms, arm_then, block_body, expr_body, PatternTrees, pattern_then}
use Rattle.dm_output.specs.Tokens as k
use Rattle.dm_output.specs.Tokens.{arm_of, expr_trees, arms_trees, guard_trees, body_trees, pattern_trees, each_pattern}
use Rattle.dm_reread.specs.Next.{k_if, Next, in_braces, a_word, next}
use Rattle.dm_reread.specs.Leaves.{LeafGrammar}
use Rattle.dm_reread.specs.Reading.{Readers, read_guard, read_body, arm_from, some_arm, read_arms}
use Rattle.dm_reread.specs.Grammar.{is_some_pattern, IsPattern, ArePatterns, IsMaybe, AreArms, IsBody}
use Rattle.dm_reread.proofs.Laws.{bars_tail}
use Rattle.dm_read_laws.specs.Sound.{IsBare}
use Rattle.dm_read_laws.proofs.SoundRows.{Sound}
use Rattle.dm_read_laws.proofs.SoundSteps.{Front, Begins, next_begins}
use Rattle.dm_read_laws.proofs.SoundFronts.{Gives, gives_some, gives_then, nothing, behind, ends_with, kept, comma_seen, leads_seen, reads_expr, reads_block, reads_arms}

module _ (g : LeafGrammar) (r : Readers) (S : Sound g r) where
  reads_pattern : (ts : Trees) → IsBare ts → Gives (r.pattern ts) (λ a. IsPattern a.0 × Front (pattern_trees a.0) ts a.1)
  reads_pattern ts h = record { at = λ a e. kept (pattern_trees a.0) ts a.1 h (S.pattern ts a.1 a.0 h e) }

  reads_bars : (ts : Trees) → IsBare ts → Gives (r.bars ts) (λ a. ArePatterns a.0 × Front (bars_tail a.0) ts a.1)
  reads_bars ts h = record { at = λ a e. kept (bars_tail a.0) ts a.1 h (S.bars ts a.1 a.0 h e) }

  guard_row : (ts : Trees) (x : Next) → IsBare ts → Begins ts x → Gives (read_guard r ts x) (λ a. IsMaybe g a.0 × Front (guard_trees a.0) ts a.1)
  guard_row ts (a_word k_if us) h x =
      gives_then (reads_expr g r S true us x.1) (λ a p.
      gives_some (some_expr a.0, a.1) (p.0, behind (k.word (codes "if")) (expr_trees a.0) x p.1))
  guard_row ts _ h x = gives_some (no_expr, ts) (tt, nothing ts h)

  body_row : (ts : Trees) (x : Next) → IsBare ts → Begins ts x → Gives (read_body r ts x) (λ a. IsBody g a.0 × Front (body_trees a.0) ts a.1)
  body_row ts (in_braces inside us) h x =
      gives_then (reads_block g r S inside x.1) (λ d p.
      gives_some (block_body d, us) (p.0, subst (λ i. Front (k.enclosed Brace i) ts us) p.1 x.0))
  body_row ts _ h x = gives_then (reads_expr g r S true ts h) (λ a p. gives_some (expr_body a.0, a.1) p)

  -- an arm from its guard on, and the arms behind it
  guarded_row : (ps : PatternTrees) (ts us : Trees) → T (is_some_pattern ps) × ArePatterns ps →
      Front (spaced (k.punct 124) true (each_pattern ps)) ts us →
      Gives (arm_from r ps us) (λ s. AreArms g s × (ts ≡ arms_trees s))
  guarded_row ps ts us c f =
      gives_then (guard_row us (next us) f.1 (next_begins us f.1)) (λ a p.
      gives_then (leads_seen a.1 (next a.1) (next_begins a.1 p.1.1)) (λ vs q.
      gives_then (body_row vs (next vs) q.1 (next_begins vs q.1)) (λ d t.
      gives_then (comma_seen d.1 (next d.1) (next_begins d.1 t.1.1)) (λ ws w.
      gives_then (reads_arms g r S ws w.1) (λ s z.
      gives_some (arm_then ps a.0 d.0 s) (
        ((c, (p.0, t.0)), z.0),
        ends_with (arm_of (each_pattern ps) (guard_trees a.0) (body_trees d.0)) (arms_trees s)
            (behind (spaced (k.punct 124) true (each_pattern ps)) (join (guard_trees a.0) (join (k.joint 61 62) (join (body_trees d.0) k.comma))) f
            (behind (guard_trees a.0) (join (k.joint 61 62) (join (body_trees d.0) k.comma)) p.1
            (behind (k.joint 61 62) (join (body_trees d.0) k.comma) q (behind (body_trees d.0) k.comma t.1 w)))) z.1,
      ))))))

  arm_row : (ts : Trees) → IsBare ts → Gives (some_arm r ts) (λ s. AreArms g s × (ts ≡ arms_trees s))
  arm_row ts h =
      gives_then (reads_pattern ts h) (λ a p.
      gives_then (reads_bars a.1 p.1.1) (λ s q.
      guarded_row (pattern_then a.0 s.0) ts s.1 (tt, (p.0, q.0)) (behind (pattern_trees a.0) (bars_tail s.0) p.1 q.1)))

  arms_row : (ts : Trees) → IsBare ts → Gives (read_arms r ts) (λ s. AreArms g s × (ts ≡ arms_trees s))
  arms_row no_trees h = gives_some no_arms (tt, refl)
  arms_row (token j us) h = arm_row (token j us) h
  arms_row (group d from inside upto us) h = arm_row (group d from inside upto us) h

  pub sound_arms : (ts : Trees) (s : ArmTrees) → IsBare ts → read_arms r ts ≡ Some s → AreArms g s × (ts ≡ arms_trees s)
  sound_arms ts s h e = (arms_row ts h).at s e
