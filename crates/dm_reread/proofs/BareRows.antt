-- Readers that give the same of the same tokens, ranges aside; and that a row over such readers does: paths, arguments, formats, patterns.
use Rattle.std.specs.Prelude.{◌≡◌, ℕ, Bool, true, false, cond, List, map, Option, option_map, Some, None, refl}
use Rattle.std.proofs.Common.{ap}
use Rattle.dm_stream.specs.declared.tokens.Ident.{Ident}
use Rattle.dm_stream.specs.declared.tokens.Token.TheVariants as t
use Rattle.dm_stream.specs.Trees.{Trees, no_trees, token, group}
use Rattle.dm_lexer.specs.Written.{unplaced}
use Rattle.dm_ast.specs.Keywords.{is_name}
use Rattle.dm_ast.specs.Tree.{PathTree, path_tree, segment, no_segments, segment_then, absent}
use Rattle.dm_output.specs.declared.pattern.Binding.{Binding}
use Rattle.dm_output.specs.declared.pattern.Binding.TheVariants as binding
use Rattle.dm_output.specs.Output.{PatternTree, pattern_then}
use Rattle.dm_type_eq.specs.Unplaced.{unplaced_ident, unplaced_path, unplaced_segments}
use Rattle.dm_reread.specs.Bare.{bare_fmt_arg, bare_fmt, bare_pattern, bare_patterns, bare_named, bare_expr, bare_exprs, bare_named_exprs, bare_arms, bare_block}
use Rattle.dm_reread.specs.BareReading.{bare_next, bare_posts, bare_pair, bare_last, bare_answer, NaturalLeaves}
use Rattle.dm_reread.specs.Next.{Word, k_mut, k_ref, k_wild, Next, ended, bar, comma, colon, colons, dots, in_parens, in_braces, literal, a_name, a_word, next}
use Rattle.dm_reread.specs.Reading.{Readers, then, comma_after, is_macro_path, segment_from, more_segments, path_from, plain_path, first_arg, read_args, more_args, alias_of, fmt_arg_from, read_fmt_arg, more_fmt_args, read_fmt, write_from, macro_of, macro_from, pattern_of_path, after_pattern_path, pattern_path, bind_name, ref_from, word_pattern, pair_from, read_pattern, read_patterns, named_pattern_value, dots_end, read_named_patterns, more_bars}
use Rattle.dm_reread.proofs.BareNext.{next-bare, passing, map-cond, chained, provided-bare, whole-bare, comma-bare}

pub record Natural (r : Readers) : Type 0 where
  pub leaves : NaturalLeaves r.leaves
  pub expr : (b : Bool) (ts : Trees) → r.expr b (unplaced ts) ≡ bare_answer bare_expr (r.expr b ts)
  pub pre : (b : Bool) (ts : Trees) → r.pre b (unplaced ts) ≡ bare_answer bare_expr (r.pre b ts)
  pub ors : (b : Bool) (ts : Trees) → r.ors b (unplaced ts) ≡ bare_answer bare_exprs (r.ors b ts)
  pub ands : (b : Bool) (ts : Trees) → r.ands b (unplaced ts) ≡ bare_answer bare_exprs (r.ands b ts)
  pub args : (ts : Trees) → r.args (unplaced ts) ≡ option_map (bare_last bare_exprs) (r.args ts)
  pub segments : (ts : Trees) → r.segments (unplaced ts) ≡ bare_answer unplaced_segments (r.segments ts)
  pub posts : (ts : Trees) → r.posts (unplaced ts) ≡ bare_answer bare_posts (r.posts ts)
  pub fmt_args : (ts : Trees) → r.fmt_args (unplaced ts) ≡ option_map (map bare_fmt_arg) (r.fmt_args ts)
  pub named_exprs : (ts : Trees) → r.named_exprs (unplaced ts) ≡ option_map bare_named_exprs (r.named_exprs ts)
  pub arms : (ts : Trees) → r.arms (unplaced ts) ≡ option_map bare_arms (r.arms ts)
  pub block : (ts : Trees) → r.block (unplaced ts) ≡ option_map bare_block (r.block ts)
  pub pattern : (ts : Trees) → r.pattern (unplaced ts) ≡ bare_answer bare_pattern (r.pattern ts)
  pub bars : (ts : Trees) → r.bars (unplaced ts) ≡ bare_answer bare_patterns (r.bars ts)
  pub patterns : (ts : Trees) → r.patterns (unplaced ts) ≡ option_map bare_patterns (r.patterns ts)
  pub named_patterns : (ts : Trees) → r.named_patterns (unplaced ts) ≡ option_map (bare_last bare_named) (r.named_patterns ts)

-- ---- what looks at no range

macro-path : (called : List ℕ) (p : PathTree) → is_macro_path called (unplaced_path p) ≡ is_macro_path called p
macro-path called
    (path_tree false (segment_then (segment a absent) (segment_then (segment b absent) (segment_then (segment c absent) no_segments)))) =
    refl
macro-path called _ = refl

pub alias-bare : (ts : Trees) → alias_of (unplaced ts) ≡ option_map (bare_pair unplaced_ident) (alias_of ts)
alias-bare (token (t.Ident i) (token (t.Punct p) ts)) = simp map-cond
alias-bare _ = refl

pattern-cond : (b : Bool) (x y : PatternTree) → bare_pattern (cond b x y) ≡ cond b (bare_pattern x) (bare_pattern y)
pattern-cond true x y = refl
pattern-cond false x y = refl

pattern-of-bare : (p : PathTree) → pattern_of_path (unplaced_path p) ≡ bare_pattern (pattern_of_path p)
pattern-of-bare (path_tree false (segment_then (segment i absent) no_segments)) = simp pattern-cond
pattern-of-bare _ = refl

bind-name-bare : (how : Binding) (n : Next) → bind_name how (bare_next n) ≡ bare_answer bare_pattern (bind_name how n)
bind-name-bare how (a_name i ts) = simp map-cond
bind-name-bare how _ = refl

ref-bare : (n : Next) → ref_from (bare_next n) ≡ bare_answer bare_pattern (ref_from n)
ref-bare (a_word k_mut ts) = rw (next-bare ts) (bind-name-bare binding.RefMut (next ts))
ref-bare n = bind-name-bare binding.Ref n

word-pattern-bare : (w : Word) (ts : Trees) → word_pattern w (unplaced ts) ≡ bare_answer bare_pattern (word_pattern w ts)
word-pattern-bare k_wild ts = refl
word-pattern-bare k_ref ts = rw (next-bare ts) (ref-bare (next ts))
word-pattern-bare _ ts = refl

dots-bare : (ts : Trees) → dots_end (unplaced ts) ≡ option_map (bare_last bare_named) (dots_end ts)
dots-bare no_trees = refl
dots-bare _ = refl

module _ (r : Readers) (N : Natural r) where
  -- ---- paths

  segment-bare : (n : Next) → segment_from r (bare_next n) ≡ bare_answer unplaced_segments (segment_from r n)
  segment-bare (a_name i ts) = simp (N.segments, passing)
  segment-bare _ = refl

  pub more-segments-bare : (ts : Trees) (n : Next) →
      more_segments r (unplaced ts) (bare_next n) ≡ bare_answer unplaced_segments (more_segments r ts n)
  more-segments-bare ts (colons us) = rw (next-bare us) (segment-bare (next us))
  more-segments-bare ts _ = refl

  path-from-bare : (leading : Bool) (n : Next) → path_from r leading (bare_next n) ≡ bare_answer unplaced_path (path_from r leading n)
  path-from-bare leading n = simp (segment-bare, passing)

  pub plain-path-bare : (n : Next) → plain_path r (bare_next n) ≡ bare_answer unplaced_path (plain_path r n)
  plain-path-bare (colons ts) = rw (next-bare ts) (path-from-bare true (next ts))
  plain-path-bare n = path-from-bare false n

  -- ---- arguments

  first-arg-bare : (ts : Trees) → first_arg r (unplaced ts) ≡ option_map (bare_last bare_exprs) (first_arg r ts)
  first-arg-bare ts = simp (N.expr, N.args, passing)

  pub args-bare : (b : Bool) (ts : Trees) → read_args r b (unplaced ts) ≡ option_map (bare_last bare_exprs) (read_args r b ts)
  args-bare b no_trees = refl
  args-bare b ts = first-arg-bare ts

  pub more-args-bare : (n : Next) → more_args r (bare_next n) ≡ option_map (bare_last bare_exprs) (more_args r n)
  more-args-bare ended = refl
  more-args-bare (comma ts) = args-bare true ts
  more-args-bare _ = refl

  -- ---- formats

  fmt-arg-from-bare : (ts : Trees) (o : Option (Ident × Trees)) →
      fmt_arg_from r.leaves (unplaced ts) (option_map (bare_pair unplaced_ident) o) ≡ bare_answer bare_fmt_arg (fmt_arg_from r.leaves ts o)
  fmt-arg-from-bare ts None = simp (N.leaves.run, passing)
  fmt-arg-from-bare ts (Some a) = simp (N.leaves.run, passing)

  fmt-arg-bare : (ts : Trees) → read_fmt_arg r.leaves (unplaced ts) ≡ bare_answer bare_fmt_arg (read_fmt_arg r.leaves ts)
  fmt-arg-bare ts = rw (alias-bare ts) (fmt-arg-from-bare ts (alias_of ts))

  pub more-fmt-args-bare : (n : Next) → more_fmt_args r (bare_next n) ≡ option_map (map bare_fmt_arg) (more_fmt_args r n)
  more-fmt-args-bare ended = refl
  more-fmt-args-bare (comma ts) = simp (fmt-arg-bare, N.fmt_args, passing)
  more-fmt-args-bare _ = refl

  fmt-bare : (n : Next) → read_fmt r (bare_next n) ≡ option_map bare_fmt (read_fmt r n)
  fmt-bare (literal l ts) = simp (N.fmt_args, passing)
  fmt-bare _ = refl

  write-bare : (n : Next) → write_from r (bare_next n) ≡ option_map bare_expr (write_from r n)
  write-bare (a_name i ts) = simp (comma-bare, fmt-bare, passing)
  write-bare _ = refl

  macro-of-bare : (p : PathTree) (inside : Trees) → macro_of r (unplaced_path p) (unplaced inside) ≡ option_map bare_expr (macro_of r p inside)
  macro-of-bare p inside = simp (macro-path, write-bare, fmt-bare, passing)

  pub macro-bare : (p : PathTree) (n : Next) → macro_from r (unplaced_path p) (bare_next n) ≡ bare_answer bare_expr (macro_from r p n)
  macro-bare p (in_parens inside ts) = chained _ _ _ _ _ _ (macro-of-bare p inside) (λ e. refl)
  macro-bare p _ = refl

  -- ---- patterns

  after-pattern-bare : (p : PathTree) (ts : Trees) (n : Next) →
      after_pattern_path r (unplaced_path p) (unplaced ts) (bare_next n) ≡ bare_answer bare_pattern (after_pattern_path r p ts n)
  after-pattern-bare p ts (in_parens inside us) = simp (N.patterns, passing)
  after-pattern-bare p ts (in_braces inside us) = simp (N.named_patterns, passing)
  after-pattern-bare p ts _ = ap (λ x. Some (x, unplaced ts)) (pattern-of-bare p)

  pattern-path-bare : (n : Next) → pattern_path r (bare_next n) ≡ bare_answer bare_pattern (pattern_path r n)
  pattern-path-bare n = simp (plain-path-bare, after-pattern-bare, passing)

  pair-bare : (inside ts : Trees) → pair_from r (unplaced inside) (unplaced ts) ≡ bare_answer bare_pattern (pair_from r inside ts)
  pair-bare inside ts = simp (N.pattern, comma-bare, whole-bare, passing)

  pub pattern-bare : (n : Next) → read_pattern r (bare_next n) ≡ bare_answer bare_pattern (read_pattern r n)
  pattern-bare (a_word w ts) = word-pattern-bare w ts
  pattern-bare (a_name i ts) = pattern-path-bare (a_name i ts)
  pattern-bare (colons ts) = pattern-path-bare (colons ts)
  pattern-bare (in_parens inside ts) = pair-bare inside ts
  pattern-bare (literal l ts) = simp map-cond
  pattern-bare _ = refl

  some-patterns-bare : (ts : Trees) →
      then (r.pattern (unplaced ts)) (λ a. then (comma_after (next a.1)) (λ us. then (r.patterns us) (λ s. Some (pattern_then a.0 s)))) ≡
      option_map bare_patterns
      (then (r.pattern ts) (λ a. then (comma_after (next a.1)) (λ us. then (r.patterns us) (λ s. Some (pattern_then a.0 s)))))
  some-patterns-bare ts = simp (N.pattern, N.patterns, comma-bare, passing)

  pub patterns-bare : (ts : Trees) → read_patterns r (unplaced ts) ≡ option_map bare_patterns (read_patterns r ts)
  patterns-bare no_trees = refl
  patterns-bare (token k ts) = some-patterns-bare (token k ts)
  patterns-bare (group d from inside upto ts) = some-patterns-bare (group d from inside upto ts)

  named-pattern-bare : (i : Ident) (n : Next) →
      named_pattern_value r (unplaced_ident i) (bare_next n) ≡ option_map (bare_last bare_named) (named_pattern_value r i n)
  named-pattern-bare i (colon ts) = simp (N.pattern, N.named_patterns, comma-bare, passing)
  named-pattern-bare i _ = refl

  pub named-patterns-bare : (n : Next) → read_named_patterns r (bare_next n) ≡ option_map (bare_last bare_named) (read_named_patterns r n)
  named-patterns-bare ended = refl
  named-patterns-bare (dots ts) = dots-bare ts
  named-patterns-bare (a_name i ts) = provided-bare _ (is_name i) _ _ (rw (next-bare ts) (named-pattern-bare i (next ts)))
  named-patterns-bare _ = refl

  pub bars-bare : (ts : Trees) (n : Next) → more_bars r (unplaced ts) (bare_next n) ≡ bare_answer bare_patterns (more_bars r ts n)
  bars-bare ts (bar us) = simp (N.pattern, N.bars, passing)
  bars-bare ts _ = refl
