-- Patterns, read back.
use Rattle.std.specs.Prelude.{◌≡◌, ℕ, suc, ◌≤◌, Bool, true, false, T, Some, refl}
use Rattle.std.proofs.Common.{ap, ◌∙◌, sym}
use native.Mathlib.Omega.{arith}
use Rattle.dm_stream.specs.declared.tokens.Delim.TheVariants.{Paren, Brace}
use Rattle.dm_stream.specs.declared.tokens.Ident.{Ident}
use Rattle.dm_stream.specs.Trees.{Trees, no_trees, join, join-no_trees, join_assoc}
use Rattle.dm_stream.specs.Layout.{nowhere}
use Rattle.dm_ast.specs.Tree.{PathTree, path_tree, no_segments, segment_then, segment, absent}
use Rattle.dm_ast.specs.TypeTokens.{given, path_trees}
use Rattle.dm_output.specs.declared.pattern.Binding.{Binding}
use Rattle.dm_output.specs.declared.pattern.Binding.TheVariants as binding
use Rattle.dm_output.specs.Output.{PatternTree, wild, bind, str_pattern, path_pattern, tuple_pattern, named_pattern, pair_pattern, PatternTrees, no_patterns, pattern_then, NamedPatterns, no_named, named_then}
use Rattle.dm_output.specs.Tokens as k
use Rattle.dm_output.specs.Tokens.{ended, pattern_trees, each_pattern, each_named}
use Rattle.dm_reread.specs.Next.{next}
use Rattle.dm_reread.specs.Leaves.{LeafGrammar}
use Rattle.dm_reread.specs.Reading.{Readers, after_pattern_path, pattern_of_path, read_pattern, read_patterns, read_named_patterns, more_bars}
use Rattle.dm_reread.specs.Grammar.{IsName, IsPlainPath, is_single, EndsPattern, IsPattern, ArePatterns, AreNamedPatterns}
use Rattle.dm_reread.specs.Need.{path_need, pattern_need, patterns_need, named_patterns_need}
use Rattle.dm_reread.proofs.Words.{name-next, name-path}
use Rattle.dm_reread.proofs.Passing.{EndsPath, pattern-stops, pattern-ends-path, plain-pattern, ends_bars, bars-stop, bars-end, patterns-some}
use Rattle.dm_reread.proofs.Laws.{Laws, bars_tail}
use Rattle.dm_reread.proofs.PathRows.{path-row, pattern-path}

pattern-path-row : (g : LeafGrammar) (r : Readers) (n : ℕ) (L : Laws g r n) (p : PathTree) (rest : Trees) → IsPlainPath p →
    path_need p ≤ suc n →
    EndsPath (next rest) → read_pattern r (next (join (path_trees nowhere p) rest)) ≡ after_pattern_path r p rest (next rest)
pattern-path-row g r n L p rest h m s = pattern-path r p rest h ∙ rw (path-row g r n L p rest h m s) refl

plain-is : (p : PathTree) → IsPlainPath p → is_single p ≡ false → pattern_of_path p ≡ path_pattern p
plain-is (path_tree leading no_segments) p h = absurd p.0
plain-is (path_tree leading (segment_then (segment i absent) ss)) p h = plain-pattern leading i ss h
plain-is (path_tree leading (segment_then (segment i x) ss)) p h = absurd p.1

bind-row : (g : LeafGrammar) (r : Readers) (n : ℕ) (L : Laws g r n) (how : Binding) (i : Ident) (rest : Trees) → IsName i → 1 ≤ n →
    EndsPattern (next rest) → read_pattern r (next (join (pattern_trees (bind how i)) rest)) ≡ Some (bind how i, rest)
bind-row g r n L binding.Plain i rest h m s =
    let p : PathTree = path_tree false (segment_then (segment i absent) no_segments) in
    pattern-path-row g r n L p rest (tt, (name-path i h, tt)) (omega (arith, m)) (pattern-ends-path (next rest) s) ∙
    pattern-stops r p rest (next rest) s ∙ rw h refl
bind-row g r n L binding.Ref i rest h m s = rw (name-next i rest h, h) refl
bind-row g r n L binding.RefMut i rest h m s = rw (name-next i rest h, h) refl

pub pattern-row : (g : LeafGrammar) (r : Readers) (n : ℕ) (L : Laws g r n) (p : PatternTree) (rest : Trees) → IsPattern p →
    pattern_need p ≤ suc n →
    EndsPattern (next rest) → read_pattern r (next (join (pattern_trees p) rest)) ≡ Some (p, rest)
pattern-row g r n L wild rest h m s = refl
pattern-row g r n L (bind how i) rest h m s = bind-row g r n L how i rest h (omega arith) s
pattern-row g r n L (str_pattern l) rest h m s = rw h refl
pattern-row g r n L (path_pattern p) rest h m s =
    pattern-path-row g r n L p rest h.0 (omega arith) (pattern-ends-path (next rest) s) ∙ pattern-stops r p rest (next rest) s ∙
    ap (λ q. Some (q, rest)) (plain-is p h.0 h.1)
pattern-row g r n L (tuple_pattern p ps) rest h m s =
    let inside : Trees = k.enclosed Paren (ended (each_pattern ps)) in
    ap (λ ts. read_pattern r (next ts)) (join_assoc (path_trees nowhere p) inside rest) ∙
    pattern-path-row g r n L p (join inside rest) h.0 (omega arith) tt ∙
    rw (L.patterns ps h.1 (omega arith)) refl
pattern-row g r n L (named_pattern p ps more) rest h m s =
    let inside : Trees = k.enclosed Brace (join (ended (each_named ps)) (given more (k.joint 46 46))) in
    ap (λ ts. read_pattern r (next ts)) (join_assoc (path_trees nowhere p) inside rest) ∙
    pattern-path-row g r n L p (join inside rest) h.0 (omega arith) tt ∙
    rw (L.named_patterns ps more h.1 (omega arith)) refl
pattern-row g r n L (pair_pattern a c) rest h m s =
    let second : r.pattern (pattern_trees c) ≡ Some (c, no_trees) =
    ap r.pattern (sym (join-no_trees (pattern_trees c))) ∙ L.pattern c no_trees h.1 (omega arith) tt in
    rw (L.pattern a (join k.comma (pattern_trees c)) h.0 (omega arith) tt, second) refl

pub bars-next : (ps : PatternTrees) (rest : Trees) → T (ends_bars (next rest)) → EndsPattern (next (join (bars_tail ps) rest))
bars-next no_patterns rest s = bars-end (next rest) s
bars-next (pattern_then p ps) rest s = tt

pub bars-row : (g : LeafGrammar) (r : Readers) (n : ℕ) (L : Laws g r n) (ps : PatternTrees) (rest : Trees) → ArePatterns ps →
    patterns_need ps ≤ suc n →
    T (ends_bars (next rest)) → more_bars r (join (bars_tail ps) rest) (next (join (bars_tail ps) rest)) ≡ Some (ps, rest)
bars-row g r n L no_patterns rest h m s = bars-stop r rest (next rest) s
bars-row g r n L (pattern_then p ps) rest h m s =
    let more : Trees = bars_tail ps in
    rw (
      join_assoc (pattern_trees p) more rest,
      L.pattern p (join more rest) h.0 (omega arith) (bars-next ps rest s),
      L.bars ps rest h.1 (omega arith) s,
    ) refl

pub patterns-row : (g : LeafGrammar) (r : Readers) (n : ℕ) (L : Laws g r n) (ps : PatternTrees) → ArePatterns ps →
    patterns_need ps ≤ suc n →
    read_patterns r (ended (each_pattern ps)) ≡ Some ps
patterns-row g r n L no_patterns h m = refl
patterns-row g r n L (pattern_then p ps) h m =
    let more : Trees = join k.comma (ended (each_pattern ps)) in
    patterns-some r (join (pattern_trees p) more) (p, more) L.no_pattern (L.pattern p more h.0 (omega arith) tt) ∙
    rw (L.patterns ps h.1 (omega arith)) refl

pub named-patterns-row : (g : LeafGrammar) (r : Readers) (n : ℕ) (L : Laws g r n) (ps : NamedPatterns) (more : Bool) →
    AreNamedPatterns ps → named_patterns_need ps ≤ suc n →
    read_named_patterns r (next (join (ended (each_named ps)) (given more (k.joint 46 46)))) ≡ Some (ps, more)
named-patterns-row g r n L no_named true h m = refl
named-patterns-row g r n L no_named false h m = refl
named-patterns-row g r n L (named_then i p ps) more h m =
    let dots : Trees = given more (k.joint 46 46) in
    let behind : Trees = join k.comma (join (ended (each_named ps)) dots) in
    rw (
      join_assoc (pattern_trees p) (join k.comma (ended (each_named ps))) dots,
      name-next i (join k.colon (join (pattern_trees p) behind)) h.0,
      h.0,
      L.pattern p behind h.1.0 (omega arith) tt,
      L.named_patterns ps more h.1.1 (omega arith),
    ) refl
