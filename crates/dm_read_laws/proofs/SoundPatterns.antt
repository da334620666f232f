-- Patterns that were read are in the grammar and have the tokens that were read, over readers of which that holds.
use Rattle.std.specs.Prelude.{◌≡◌, Bool, true, false, cond, IsTrue, codes, Some, refl}
use Rattle.std.proofs.Common.{ap, ◌∙◌, sym}
use Rattle.dm_stream.specs.declared.tokens.Delim.TheVariants.{Paren, Brace}
use Rattle.dm_stream.specs.declared.tokens.Ident.{Ident}
use Rattle.dm_stream.specs.declared.tokens.LitKind.{LitKind}
use Rattle.dm_stream.specs.declared.tokens.LitKind.TheVariants.{Str}
use Rattle.dm_stream.specs.Layout.{nowhere}
use Rattle.dm_stream.specs.Trees.{Trees, no_trees, token, group, join, join_assoc}
use Rattle.dm_ast.specs.Keywords.{is_name}
use Rattle.dm_ast.specs.Tree.{PathTree, path_tree, segment, no_segments, segment_then, absent}
use Rattle.dm_ast.specs.TypeTokens.{given, name, path_trees}
use Rattle.dm_output.specs.declared.pattern.Binding.{Binding}
use Rattle.dm_output.specs.declared.pattern.Binding.TheVariants as binding
use Rattle.dm_output.specs.Output.{PatternTree, wild, bind, str_pattern, path_pattern, tuple_pattern, named_pattern, pair_pattern, PatternTrees, no_patterns, pattern_then, NamedPatterns, no_named, named_then}
use Rattle.dm_output.specs.Tokens as k
use Rattle.dm_output.specs.Tokens.{ended, binding_trees, pattern_trees, each_pattern, each_named}
use Rattle.dm_reread.specs.Next.{Word, k_mut, k_ref, k_wild, Next, bar, colon, colons, dots, in_parens, in_braces, literal, a_name, a_word, next}
use Rattle.dm_reread.specs.Leaves.{LeafGrammar}
use Rattle.dm_reread.specs.Reading.{Readers, then, is_str, comma_after, whole, plain_path, pattern_of_path, after_pattern_path, pattern_path, bind_name, ref_from, word_pattern, pair_from, read_pattern, named_pattern_value, dots_end, read_named_patterns, more_bars, step}
use Rattle.dm_reread.specs.Grammar.{IsPlainPath, IsPattern, ArePatterns, AreNamedPatterns}
use Rattle.dm_reread.proofs.Laws.{bars_tail}
use Rattle.dm_read_laws.specs.Sound.{IsBare, Spells}
use Rattle.dm_read_laws.proofs.SoundRows.{Sound}
use Rattle.dm_read_laws.proofs.Answers.{then_by, provided_some, whole_some, same_answer}
use Rattle.dm_read_laws.proofs.SoundSteps.{bare_rest, spells_then, spells_whole, Front, WordFront, Begins, next_begins}
use Rattle.dm_read_laws.proofs.SoundFronts.{comma_seen}
use Rattle.dm_read_laws.proofs.SoundPaths.{IsPathRead, plain_path_sound}

abbrev IsPatternRead : Trees → PatternTree × Trees → Type 0
IsPatternRead ts a = IsPattern a.0 × Spells (pattern_trees a.0) ts a.1

abbrev AreBars : Trees → PatternTrees × Trees → Type 0
AreBars ts a = ArePatterns a.0 × Spells (bars_tail a.0) ts a.1

abbrev ArePatternsRead : Trees → PatternTrees → Type 0
ArePatternsRead ts ps = ArePatterns ps × (ts ≡ ended (each_pattern ps))

abbrev named_end : NamedPatterns × Bool → Trees
named_end a = join (ended (each_named a.0)) (given a.1 (k.joint 46 46))

abbrev AreNamedRead : Trees → NamedPatterns × Bool → Type 0
AreNamedRead ts a = AreNamedPatterns a.0 × (ts ≡ named_end a)

pub str_kind : (x : LitKind) → is_str x ≡ true → x ≡ Str
str_kind Str e = refl
str_kind _ e = absurd (cc)

-- a path alone: a single name binds
single_or_path : (i : Ident) (ts us : Trees) (b : Bool) → IsPlainPath (path_tree false (segment_then (segment i absent) no_segments)) →
    Spells (name i) ts us →
    is_name i ≡ b →
    IsPatternRead ts
    (cond b (bind binding.Plain i) (path_pattern (path_tree false (segment_then (segment i absent) no_segments))), us)
single_or_path i ts us true h e m = (m, e)
single_or_path i ts us false h e m = ((h, m), e)

path_alone : (p : PathTree) (ts us : Trees) → IsPlainPath p → Spells (path_trees nowhere p) ts us →
    IsPatternRead ts (pattern_of_path p, us)
path_alone (path_tree false (segment_then (segment i absent) no_segments)) ts us h e = single_or_path i ts us (is_name i) h e refl
path_alone p ts us h e = ((h, refl), e)

-- ---- names that bind

bind_sound : (how : Binding) (whole ts us : Trees) (n : Next) (x : PatternTree) → Spells (binding_trees how) whole ts → Begins ts n →
    bind_name how n ≡ Some (x, us) →
    IsPatternRead whole (x, us)
bind_sound how whole ts us (a_name i vs) x s b e =
    let h : (is_name i ≡ true) × (Some (bind how i, vs) ≡ Some (x, us)) = provided_some (is_name i) (Some (bind how i, vs)) (x, us) e in
    same_answer (IsPatternRead whole) (bind how i, vs) (x, us) h.1
    (h.0, spells_then (binding_trees how) (name i) whole ts vs s b.0.0)
bind_sound how whole ts us _ x s b e = absurd (cc)

ref_sound : (whole ts us : Trees) (n : Next) (x : PatternTree) → Spells (k.word (codes "ref")) whole ts → Begins ts n →
    ref_from n ≡ Some (x, us) →
    IsPatternRead whole (x, us)
ref_sound whole ts us (a_word k_mut vs) x s b e =
    bind_sound binding.RefMut whole vs us (next vs) x (spells_then (k.word (codes "ref")) (k.word (codes "mut")) whole ts vs s b.0)
    (next_begins vs b.1) e
ref_sound whole ts us n x s b e = bind_sound binding.Ref whole ts us n x s b e

word_sound : (ts vs us : Trees) (w : Word) (x : PatternTree) → WordFront w ts vs → word_pattern w vs ≡ Some (x, us) →
    IsPatternRead ts (x, us)
word_sound ts vs us k_wild x b e = same_answer (IsPatternRead ts) (wild, vs) (x, us) e (tt, b.0)
word_sound ts vs us k_ref x b e = ref_sound ts vs us (next vs) x b.0 (next_begins vs b.1) e
word_sound ts vs us _ x b e = absurd (cc)

module _ (g : LeafGrammar) (r : Readers) (S : Sound g r) where
  -- ---- patterns that begin with a path

  after_sound : (p : PathTree) (all ts us : Trees) (n : Next) (x : PatternTree) → IsPathRead all (p, ts) → Begins ts n →
      after_pattern_path r p ts n ≡ Some (x, us) →
      IsPatternRead all (x, us)
  after_sound p all ts us (in_parens inside vs) x h b e =
      then_by (r.patterns inside) _ (x, us) (IsPatternRead all (x, us)) e
      (λ ps i f.
      let d : ArePatternsRead inside ps = S.patterns inside ps b.1 i in
      same_answer (IsPatternRead all) (tuple_pattern p ps, vs) (x, us) f (
        (h.0, d.0),
        spells_then (path_trees nowhere p) (k.enclosed Paren (ended (each_pattern ps))) all ts vs h.1
            (b.0.0 ∙ ap (λ y. join (k.enclosed Paren y) vs) d.1),
      ))
  after_sound p all ts us (in_braces inside vs) x h b e =
      then_by (r.named_patterns inside) _ (x, us) (IsPatternRead all (x, us)) e
      (λ a i f.
      let d : AreNamedRead inside a = S.named_patterns inside a.0 a.1 b.1 i in
      same_answer (IsPatternRead all) (named_pattern p a.0 a.1, vs) (x, us) f (
        (h.0, d.0),
        spells_then (path_trees nowhere p) (k.enclosed Brace (named_end a)) all ts vs h.1
            (b.0.0 ∙ ap (λ y. join (k.enclosed Brace y) vs) d.1),
      ))
  after_sound p all ts us _ x h b e =
      same_answer (IsPatternRead all) (pattern_of_path p, ts) (x, us) e (path_alone p all ts h.0 h.1)

  path_pattern_sound : (ts us : Trees) (n : Next) (x : PatternTree) → IsBare ts → Begins ts n → pattern_path r n ≡ Some (x, us) →
      IsPatternRead ts (x, us)
  path_pattern_sound ts us n x bare b e =
      then_by (plain_path r n) _ (x, us) (IsPatternRead ts (x, us)) e
      (λ a h f.
      let d : IsPathRead ts a = plain_path_sound g r S ts a.1 n a.0 b h in
      after_sound a.0 ts a.1 us (next a.1) x d (next_begins a.1 (bare_rest (path_trees nowhere a.0) ts a.1 bare d.1)) f)

  -- ---- pairs

  -- a pattern, a comma, and what is behind
  first_sound : (ts us : Trees) (x : PatternTree) → IsBare ts → r.pattern ts ≡ Some (x, us) → IsPatternRead ts (x, us) × IsBare us
  first_sound ts us x bare e =
      let d : IsPatternRead ts (x, us) = S.pattern ts us x bare e in (d, bare_rest (pattern_trees x) ts us bare d.1)

  comma_sound : (ts us vs : Trees) (x : PatternTree) → IsBare ts → r.pattern ts ≡ Some (x, us) → comma_after (next us) ≡ Some vs →
      (IsPattern x × IsBare vs) × (ts ≡ join (pattern_trees x) (join k.comma vs))
  comma_sound ts us vs x bare e f =
      let d : IsPatternRead ts (x, us) × IsBare us = first_sound ts us x bare e in
      let c : Front k.comma us vs = (comma_seen us (next us) (next_begins us d.1)).at vs f in
      ((d.0.0, c.1), d.0.1 ∙ ap (join (pattern_trees x)) c.0)

  pair_sound : (all inside ts us : Trees) (x : PatternTree) → IsBare inside → Spells (k.enclosed Paren inside) all ts →
      pair_from r inside ts ≡ Some (x, us) →
      IsPatternRead all (x, us)
  pair_sound all inside ts us x bare s e =
      then_by (r.pattern inside) _ (x, us) (IsPatternRead all (x, us)) e
      (λ a h e'. then_by (comma_after (next a.1)) _ (x, us) (IsPatternRead all (x, us)) e'
      (λ vs i e''. then_by (whole (r.pattern vs)) _ (x, us) (IsPatternRead all (x, us)) e''
      (λ c j f.
      let d : (IsPattern a.0 × IsBare vs) × (inside ≡ join (pattern_trees a.0) (join k.comma vs)) = comma_sound inside a.1 vs a.0 bare h i in
      let q : IsPatternRead vs (c, no_trees) = S.pattern vs no_trees c d.0.1 (whole_some (r.pattern vs) c j) in
      same_answer (IsPatternRead all) (pair_pattern a.0 c, ts) (x, us) f (
        (d.0.0, q.0),
        s ∙ (ap (λ y. join (k.enclosed Paren y) ts) d.1 ∙
            ap (λ y. join (k.enclosed Paren (join (pattern_trees a.0) (join k.comma y))) ts) (spells_whole (pattern_trees c) vs q.1)),
      ))))

  -- ---- a pattern

  pattern_sound : (ts us : Trees) (n : Next) (x : PatternTree) → IsBare ts → Begins ts n → read_pattern r n ≡ Some (x, us) →
      IsPatternRead ts (x, us)
  pattern_sound ts us (a_word w vs) x bare b e = word_sound ts vs us w x b e
  pattern_sound ts us (a_name i vs) x bare b e = path_pattern_sound ts us (a_name i vs) x bare b e
  pattern_sound ts us (colons vs) x bare b e = path_pattern_sound ts us (colons vs) x bare b e
  pattern_sound ts us (in_parens inside vs) x bare b e = pair_sound ts inside vs us x b.1 b.0.0 e
  pattern_sound ts us (literal l vs) x bare b e =
      let h : (is_str l.kind ≡ true) × (Some (str_pattern l, vs) ≡ Some (x, us)) =
      provided_some (is_str l.kind) (Some (str_pattern l, vs)) (x, us) e in
      same_answer (IsPatternRead ts) (str_pattern l, vs) (x, us) h.1 (str_kind l.kind h.0, b.0.0)
  pattern_sound ts us _ x bare b e = absurd (cc)

  pub pattern_row : (ts us : Trees) (p : PatternTree) → IsBare ts → (step r).pattern ts ≡ Some (p, us) →
      IsPattern p × Spells (pattern_trees p) ts us
  pattern_row ts us p bare e = pattern_sound ts us (next ts) p bare (next_begins ts bare) e

  -- ---- patterns between bars

  bars_sound : (ts us : Trees) (n : Next) (ps : PatternTrees) → Begins ts n → more_bars r ts n ≡ Some (ps, us) → AreBars ts (ps, us)
  bars_sound ts us (bar vs) ps b e =
      then_by (r.pattern vs) _ (ps, us) (AreBars ts (ps, us)) e
      (λ a h e'. then_by (r.bars a.1) _ (ps, us) (AreBars ts (ps, us)) e'
      (λ s i f.
      let d : IsPatternRead vs a × IsBare a.1 = first_sound vs a.1 a.0 b.1 h in
      let q : AreBars a.1 s = S.bars a.1 s.1 s.0 d.1 i in
      same_answer (AreBars ts) (pattern_then a.0 s.0, s.1) (ps, us) f (
        (d.0.0, q.0),
        spells_then (k.punct 124) (join (pattern_trees a.0) (bars_tail s.0)) ts vs s.1 b.0
            (spells_then (pattern_trees a.0) (bars_tail s.0) vs a.1 s.1 d.0.1 q.1),
      )))
  bars_sound ts us _ ps b e = same_answer (AreBars ts) (no_patterns, ts) (ps, us) e (tt, refl)

  pub bars_row : (ts us : Trees) (ps : PatternTrees) → IsBare ts → (step r).bars ts ≡ Some (ps, us) → ArePatterns ps × Spells (bars_tail ps) ts us
  bars_row ts us ps bare e = bars_sound ts us (next ts) ps (next_begins ts bare) e

  -- ---- patterns with a comma behind each

  some_patterns_sound : (ts : Trees) (ps : PatternTrees) → IsBare ts →
      then (r.pattern ts) (λ a. then (comma_after (next a.1)) (λ us. then (r.patterns us) (λ s. Some (pattern_then a.0 s)))) ≡ Some ps →
      ArePatternsRead ts ps
  some_patterns_sound ts ps bare e =
      then_by (r.pattern ts) _ ps (ArePatternsRead ts ps) e
      (λ a h e'. then_by (comma_after (next a.1)) _ ps (ArePatternsRead ts ps) e'
      (λ us i e''. then_by (r.patterns us) _ ps (ArePatternsRead ts ps) e''
      (λ s j f.
      let d : (IsPattern a.0 × IsBare us) × (ts ≡ join (pattern_trees a.0) (join k.comma us)) = comma_sound ts a.1 us a.0 bare h i in
      let q : ArePatternsRead us s = S.patterns us s d.0.1 j in
      same_answer (ArePatternsRead ts) (pattern_then a.0 s) ps f
      ((d.0.0, q.0), d.1 ∙ ap (λ y. join (pattern_trees a.0) (join k.comma y)) q.1))))

  pub patterns_row : (ts : Trees) (ps : PatternTrees) → IsBare ts → (step r).patterns ts ≡ Some ps →
      ArePatterns ps × (ts ≡ ended (each_pattern ps))
  patterns_row no_trees ps bare e = same_answer (ArePatternsRead no_trees) no_patterns ps e (tt, refl)
  patterns_row (token j ts) ps bare e = some_patterns_sound (token j ts) ps bare e
  patterns_row (group d from inside upto ts) ps bare e = some_patterns_sound (group d from inside upto ts) ps bare e

  -- ---- fields with patterns

  named_value_sound : (i : Ident) (all ts : Trees) (n : Next) (a : NamedPatterns × Bool) → IsTrue (is_name i) → Spells (name i) all ts →
      Begins ts n →
      named_pattern_value r i n ≡ Some a → AreNamedRead all a
  named_value_sound i all ts (colon vs) a m s b e =
      then_by (r.pattern vs) _ a (AreNamedRead all a) e
      (λ x h e'. then_by (comma_after (next x.1)) _ a (AreNamedRead all a) e'
      (λ us c e''. then_by (r.named_patterns us) _ a (AreNamedRead all a) e''
      (λ q j f.
      let d : (IsPattern x.0 × IsBare us) × (vs ≡ join (pattern_trees x.0) (join k.comma us)) = comma_sound vs x.1 us x.0 b.1 h c in
      let w : AreNamedRead us q = S.named_patterns us q.0 q.1 d.0.1 j in
      same_answer (AreNamedRead all) (named_then i x.0 q.0, q.1) a f (
        (m, (d.0.0, w.0)),
        s ∙ (ap (join (name i)) b.0 ∙ (ap (λ y. join (name i) (join k.colon y)) d.1 ∙
            (ap (λ y. join (name i) (join k.colon (join (pattern_trees x.0) (join k.comma y)))) w.1 ∙
            ap (λ y. join (name i) (join k.colon y))
            (sym (join_assoc (pattern_trees x.0) (join k.comma (ended (each_named q.0))) (given q.1 (k.joint 46 46))))))),
      ))))
  named_value_sound i all ts _ a m s b e = absurd (cc)

  dots_sound : (all ts : Trees) (a : NamedPatterns × Bool) → Spells (k.joint 46 46) all ts → dots_end ts ≡ Some a → AreNamedRead all a
  dots_sound all no_trees a s e = same_answer (AreNamedRead all) (no_named, true) a e (tt, s)
  dots_sound all _ a s e = absurd (cc)

  named_sound : (ts : Trees) (n : Next) (a : NamedPatterns × Bool) → Begins ts n → read_named_patterns r n ≡ Some a → AreNamedRead ts a
  named_sound ts Next.ended a b e = same_answer (AreNamedRead ts) (no_named, false) a e (tt, b)
  named_sound ts (dots vs) a b e = dots_sound ts vs a b.0 e
  named_sound ts (a_name i vs) a b e =
      let h : (is_name i ≡ true) × (named_pattern_value r i (next vs) ≡ Some a) = provided_some (is_name i) _ a e in
      named_value_sound i ts vs (next vs) a h.0 b.0.0 (next_begins vs b.0.1) h.1
  named_sound ts _ a b e = absurd (cc)

  pub named_patterns_row : (ts : Trees) (ps : NamedPatterns) (more : Bool) → IsBare ts → (step r).named_patterns ts ≡ Some (ps, more) →
      AreNamedPatterns ps × (ts ≡ join (ended (each_named ps)) (given more (k.joint 46 46)))
  named_patterns_row ts ps more bare e = named_sound ts (next ts) (ps, more) (next_begins ts bare) e
