-- How each function passes what its part is written with.
use Rattle.std.proofs.Common.{◌≡◌, ℕ, ◌+◌, [], ◌∷◌, ◌++◌, map, refl, sym, ap, ◌∙◌, append_assoc}
use Rattle.dm_ast.specs.Tree.{path_view}
use Rattle.dm_output.specs.declared.pattern.Pattern.{Pattern}
use Rattle.dm_output.specs.Output.{PatternTree, pair_pattern, patterns_of, named_of}
use Rattle.dm_output.specs.Views.{pattern_view, named_view}
use Rattle.dm_output.proofs.View.{view_Pattern-Wild, view_Pattern-Bind, view_Pattern-Str, view_Pattern-Path, view_Pattern-Tuple, view_Pattern-Named, view_Pattern-Pair}
use Rattle.dm_levels.specs.Levels.{ended_levels, binding_levels, pattern_levels, each_pattern, each_named}
use Rattle.dm_type_levels.specs.Passing.{given}
use Rattle.dm_type_levels.specs.TypeLevels.{grouped_levels, path_levels}
use Rattle.dm_type_levels.proofs.TypePasses.{passes_equal, passes_next}
use Rattle.dm_type_levels.proofs.PartPasses.{first_stops, second_stops, third_passes}
use Rattle.dm_levels.proofs.pattern.+pattern.Goals as goal

pattern_shown : (k : ℕ) (x y : Pattern) (v : PatternTree) → x ≡ y → pattern_view y ≡ v → pattern_levels k (pattern_view x) ≡ pattern_levels
    k v
pattern_shown k x y v e f = ap (λ z. pattern_levels k (pattern_view z)) e ∙ ap (pattern_levels k) f

pair_shown : (k : ℕ) (x y z first : Pattern) (other : PatternTree) → x ≡ y → pattern_view y ≡ pair_pattern (pattern_view first) other → z ≡
    first →
    pattern_levels k (pattern_view x) ≡
    (k ∷ []) ++ (pattern_levels (k + 1) (pattern_view z) ++ (((k + 1) ∷ pattern_levels (k + 1) other) ++ k ∷ []))
pair_shown k x y z first other e f d =
    pattern_shown k x y _ e f ∙
    ap (λ w. grouped_levels k (pattern_levels (k + 1) (pattern_view w) ++ (k + 1) ∷ pattern_levels (k + 1) other)) (sym d) ∙
    ap (λ l. k ∷ l) (append_assoc (pattern_levels (k + 1) (pattern_view z)) ((k + 1) ∷ pattern_levels (k + 1) other) (k ∷ []))

pub pattern-returns-in-Wild : goal.pattern-returns-in-Wild
pattern-returns-in-Wild t c =
    passes_equal _ _ c.args.rest.now c.token.result (pattern_shown c.args.level c.args.tree.now _ _ c.in-Wild.is view_Pattern-Wild)
    c.token.ensures.gives

pub pattern-returns-in-Str : goal.pattern-returns-in-Str
pattern-returns-in-Str t c =
    passes_equal _ _ c.args.rest.now c.token-in-Str.result (pattern_shown c.args.level c.args.tree.now _ _ c.in-Str.is
    (view_Pattern-Str c.in-Str.field-0)) c.token-in-Str.ensures.gives

pub pattern-returns-in-Path : goal.pattern-returns-in-Path
pattern-returns-in-Path t c =
    passes_equal _ _ c.args.rest.now c.path.result (pattern_shown c.args.level c.args.tree.now _ _ c.in-Path.is
    (view_Pattern-Path c.in-Path.of)) c.path.ensures

pub pattern-returns-in_err-rest-in-Bind : goal.pattern-returns-in_err-rest-in-Bind
pattern-returns-in_err-rest-in-Bind t c =
    passes_equal _ _ c.args.rest.now c.from_residual.result (pattern_shown c.args.level c.args.tree.now _ _ c.in-Bind.is
    (view_Pattern-Bind c.in-Bind.how c.in-Bind.field-1))
    (first_stops (binding_levels c.args.level c.in-Bind.how) (c.args.level ∷ []) c.args.rest.now c.in_err-rest-in-Bind.field-0.0
    c.from_residual.result
    c.in_err-rest-in-Bind.ensures c.from_residual.ensures.1)

pub pattern-returns-in_ok-rest-in-Bind : goal.pattern-returns-in_ok-rest-in-Bind
pattern-returns-in_ok-rest-in-Bind t c =
    passes_equal _ _ c.args.rest.now c.token-in-Bind.result (pattern_shown c.args.level c.args.tree.now _ _ c.in-Bind.is
    (view_Pattern-Bind c.in-Bind.how c.in-Bind.field-1))
    (passes_next (binding_levels c.args.level c.in-Bind.how) (c.args.level ∷ []) c.args.rest.now c.in_ok-rest-in-Bind.rest.now
    c.token-in-Bind.result
    c.in_ok-rest-in-Bind.ensures c.token-in-Bind.ensures.gives)

pub pattern-returns-in_err-rest-in-Tuple : goal.pattern-returns-in_err-rest-in-Tuple
pattern-returns-in_err-rest-in-Tuple t c =
    passes_equal _ _ c.args.rest.now c.from_residual-in_err-rest-in-Tuple.result
    (pattern_shown c.args.level c.args.tree.now _ _ c.in-Tuple.is (view_Pattern-Tuple c.in-Tuple.of c.in-Tuple.fields))
    (first_stops (path_levels c.args.level (path_view c.in-Tuple.of)) (grouped_levels c.args.level
    (ended_levels (c.args.level + 1) (each_pattern (c.args.level + 1) (patterns_of (map pattern_view c.in-Tuple.fields))))) c.args.rest.now
    c.in_err-rest-in-Tuple.field-0.0 c.from_residual-in_err-rest-in-Tuple.result
    c.in_err-rest-in-Tuple.ensures c.from_residual-in_err-rest-in-Tuple.ensures.1)

pub pattern-returns-in_ok-rest-in-Tuple : goal.pattern-returns-in_ok-rest-in-Tuple
pattern-returns-in_ok-rest-in-Tuple t c =
    passes_equal _ _ c.args.rest.now c.fields_in_parens.result (pattern_shown c.args.level c.args.tree.now _ _ c.in-Tuple.is
    (view_Pattern-Tuple c.in-Tuple.of c.in-Tuple.fields))
    (passes_next (path_levels c.args.level (path_view c.in-Tuple.of)) (grouped_levels c.args.level
    (ended_levels (c.args.level + 1) (each_pattern (c.args.level + 1) (patterns_of (map pattern_view c.in-Tuple.fields))))) c.args.rest.now
    c.in_ok-rest-in-Tuple.rest.now c.fields_in_parens.result
    c.in_ok-rest-in-Tuple.ensures c.fields_in_parens.ensures)

pub pattern-returns-in_err-rest-in-Named : goal.pattern-returns-in_err-rest-in-Named
pattern-returns-in_err-rest-in-Named t c =
    passes_equal _ _ c.args.rest.now c.from_residual-in_err-rest-in-Named.result
    (pattern_shown c.args.level c.args.tree.now _ _ c.in-Named.is (view_Pattern-Named c.in-Named.of c.in-Named.fields c.in-Named.dots))
    (first_stops (path_levels c.args.level (path_view c.in-Named.of)) (grouped_levels c.args.level
    ((ended_levels (c.args.level + 1) (each_named (c.args.level + 1) (named_of (map named_view c.in-Named.fields)))) ++ given
    c.in-Named.dots ((c.args.level + 1) ∷ (c.args.level + 1) ∷ []))) c.args.rest.now c.in_err-rest-in-Named.field-0.0
    c.from_residual-in_err-rest-in-Named.result
    c.in_err-rest-in-Named.ensures c.from_residual-in_err-rest-in-Named.ensures.1)

pub pattern-returns-in_ok-rest-in-Named : goal.pattern-returns-in_ok-rest-in-Named
pattern-returns-in_ok-rest-in-Named t c =
    passes_equal _ _ c.args.rest.now c.fields_in_braces.result (pattern_shown c.args.level c.args.tree.now _ _ c.in-Named.is
    (view_Pattern-Named c.in-Named.of c.in-Named.fields c.in-Named.dots))
    (passes_next (path_levels c.args.level (path_view c.in-Named.of)) (grouped_levels c.args.level
    ((ended_levels (c.args.level + 1) (each_named (c.args.level + 1) (named_of (map named_view c.in-Named.fields)))) ++ given
    c.in-Named.dots ((c.args.level + 1) ∷ (c.args.level + 1) ∷ []))) c.args.rest.now c.in_ok-rest-in-Named.rest.now
    c.fields_in_braces.result
    c.in_ok-rest-in-Named.ensures c.fields_in_braces.ensures)

pub pattern-returns-in_err-rest-in-Pair : goal.pattern-returns-in_err-rest-in-Pair
pattern-returns-in_err-rest-in-Pair t c =
    passes_equal _ _ c.args.rest.now c.from_residual-in_err-rest-in-Pair.result
    (pair_shown c.args.level c.args.tree.now _ c.in-Pair.first.value c.in-Pair.first.value (pattern_view c.in-Pair.other.value) c.in-Pair.is
    (view_Pattern-Pair c.in-Pair.first c.in-Pair.other) refl)
    (first_stops (c.args.level ∷ []) ((pattern_levels (c.args.level + 1) (pattern_view c.in-Pair.first.value)) ++
    (((c.args.level + 1) ∷ pattern_levels (c.args.level + 1) (pattern_view c.in-Pair.other.value)) ++ (c.args.level ∷ []))) c.args.rest.now
    c.in_err-rest-in-Pair.field-0.0 c.from_residual-in_err-rest-in-Pair.result c.in_err-rest-in-Pair.ensures.gives
    c.from_residual-in_err-rest-in-Pair.ensures.1)

pub pattern-returns-in_err-rest-in-Pair-2 : goal.pattern-returns-in_err-rest-in-Pair-2
pattern-returns-in_err-rest-in-Pair-2 t c =
    passes_equal _ _ c.args.rest.now c.from_residual-in_err-rest-in-Pair-2.result
    (pair_shown c.args.level c.args.tree.now _ c.deref.result.now c.in-Pair.first.value (pattern_view c.in-Pair.other.value) c.in-Pair.is
    (view_Pattern-Pair c.in-Pair.first c.in-Pair.other) c.deref.ensures)
    (second_stops (c.args.level ∷ []) (pattern_levels (c.args.level + 1) (pattern_view c.deref.result.now))
    (((c.args.level + 1) ∷ pattern_levels (c.args.level + 1) (pattern_view c.in-Pair.other.value)) ++ (c.args.level ∷ [])) c.args.rest.now
    c.in_ok-rest-in-Pair.rest.now c.in_err-rest-in-Pair-2.field-0.0 c.from_residual-in_err-rest-in-Pair-2.result
    c.in_ok-rest-in-Pair.ensures.gives c.in_err-rest-in-Pair-2.ensures c.from_residual-in_err-rest-in-Pair-2.ensures.1)

pub pattern-returns-in_err-rest-in-Pair-3 : goal.pattern-returns-in_err-rest-in-Pair-3
pattern-returns-in_err-rest-in-Pair-3 t c =
    passes_equal _ _ c.args.rest.now c.from_residual-in_err-rest-in-Pair-3.result
    (pair_shown c.args.level c.args.tree.now _ c.deref.result.now c.in-Pair.first.value (pattern_view c.in-Pair.other.value) c.in-Pair.is
    (view_Pattern-Pair c.in-Pair.first c.in-Pair.other) c.deref.ensures)
    (passes_next (c.args.level ∷ []) ((pattern_levels (c.args.level + 1) (pattern_view c.deref.result.now)) ++
    (((c.args.level + 1) ∷ pattern_levels (c.args.level + 1) (pattern_view c.in-Pair.other.value)) ++ (c.args.level ∷ []))) c.args.rest.now
    c.in_ok-rest-in-Pair.rest.now c.from_residual-in_err-rest-in-Pair-3.result c.in_ok-rest-in-Pair.ensures.gives
    (second_stops (pattern_levels (c.args.level + 1) (pattern_view c.deref.result.now))
    ((c.args.level + 1) ∷ pattern_levels (c.args.level + 1) (pattern_view c.in-Pair.other.value)) (c.args.level ∷ [])
    c.in_ok-rest-in-Pair.rest.now c.in_ok-rest-in-Pair-2.rest.now c.in_err-rest-in-Pair-3.field-0.0
    c.from_residual-in_err-rest-in-Pair-3.result c.in_ok-rest-in-Pair-2.ensures c.in_err-rest-in-Pair-3.ensures
    c.from_residual-in_err-rest-in-Pair-3.ensures.1))

pub pattern-returns-in_ok-rest-in-Pair-3 : goal.pattern-returns-in_ok-rest-in-Pair-3
pattern-returns-in_ok-rest-in-Pair-3 t c =
    passes_equal _ _ c.args.rest.now c.token-in-Pair-2.result
    (pair_shown c.args.level c.args.tree.now _ c.deref.result.now c.in-Pair.first.value (pattern_view c.in-Pair.other.value) c.in-Pair.is
    (view_Pattern-Pair c.in-Pair.first c.in-Pair.other) c.deref.ensures)
    (passes_next (c.args.level ∷ []) ((pattern_levels (c.args.level + 1) (pattern_view c.deref.result.now)) ++
    (((c.args.level + 1) ∷ pattern_levels (c.args.level + 1) (pattern_view c.in-Pair.other.value)) ++ (c.args.level ∷ []))) c.args.rest.now
    c.in_ok-rest-in-Pair.rest.now c.token-in-Pair-2.result c.in_ok-rest-in-Pair.ensures.gives
    (third_passes (pattern_levels (c.args.level + 1) (pattern_view c.deref.result.now))
    ((c.args.level + 1) ∷ pattern_levels (c.args.level + 1) (pattern_view c.in-Pair.other.value)) (c.args.level ∷ [])
    c.in_ok-rest-in-Pair.rest.now c.in_ok-rest-in-Pair-2.rest.now c.in_ok-rest-in-Pair-3.rest.now c.token-in-Pair-2.result
    c.in_ok-rest-in-Pair-2.ensures c.in_ok-rest-in-Pair-3.ensures c.token-in-Pair-2.ensures.gives))

pub second-returns-in_err-rest : goal.second-returns-in_err-rest
second-returns-in_err-rest t c =
    first_stops (c.args.level ∷ []) (pattern_levels c.args.level (pattern_view c.args.tree.now.value)) c.args.rest.now
    c.in_err-rest.field-0.0 c.from_residual.result c.in_err-rest.ensures.gives c.from_residual.ensures.1

pub second-returns : goal.second-returns
second-returns t c =
    passes_next (c.args.level ∷ []) (pattern_levels c.args.level (pattern_view c.args.tree.now.value)) c.args.rest.now c.in_ok-rest.rest.now
    c.pattern.result c.in_ok-rest.ensures.gives (rw c.deref.ensures at c.pattern.ensures)

pub fields-returns-in_err-rest : goal.fields-returns-in_err-rest
fields-returns-in_err-rest t c =
    first_stops (ended_levels c.args.level (each_named c.args.level (named_of (map named_view c.args.all.now))))
    (given c.args.more (c.args.level ∷ c.args.level ∷ [])) c.args.rest.now c.in_err-rest.field-0.0 c.from_residual.result
    c.in_err-rest.ensures c.from_residual.ensures.1

pub fields-returns : goal.fields-returns
fields-returns t c =
    passes_next (ended_levels c.args.level (each_named c.args.level (named_of (map named_view c.args.all.now))))
    (given c.args.more (c.args.level ∷ c.args.level ∷ [])) c.args.rest.now c.in_ok-rest.rest.now c.pair_if.result c.in_ok-rest.ensures
    c.pair_if.ensures

pub fields_in_parens-returns-in_err-rest : goal.fields_in_parens-returns-in_err-rest
fields_in_parens-returns-in_err-rest t c =
    first_stops (c.args.level ∷ []) ((ended_levels (c.args.level + 1) (each_pattern (c.args.level + 1)
    (patterns_of (map pattern_view c.args.all.now)))) ++ (c.args.level ∷ [])) c.args.rest.now c.in_err-rest.field-0.0 c.from_residual.result
    c.in_err-rest.ensures.gives c.from_residual.ensures.1

pub fields_in_parens-returns-in_err-rest-2 : goal.fields_in_parens-returns-in_err-rest-2
fields_in_parens-returns-in_err-rest-2 t c =
    second_stops (c.args.level ∷ []) (ended_levels (c.args.level + 1) (each_pattern (c.args.level + 1)
    (patterns_of (map pattern_view c.args.all.now)))) (c.args.level ∷ []) c.args.rest.now c.in_ok-rest.rest.now c.in_err-rest-2.field-0.0
    c.from_residual-in_err-rest-2.result
    c.in_ok-rest.ensures.gives (rw c.as_slice.ensures at c.in_err-rest-2.ensures) c.from_residual-in_err-rest-2.ensures.1

pub fields_in_parens-returns : goal.fields_in_parens-returns
fields_in_parens-returns t c =
    third_passes (c.args.level ∷ []) (ended_levels (c.args.level + 1) (each_pattern (c.args.level + 1)
    (patterns_of (map pattern_view c.args.all.now)))) (c.args.level ∷ []) c.args.rest.now c.in_ok-rest.rest.now c.in_ok-rest-2.rest.now
    c.token-2.result
    c.in_ok-rest.ensures.gives (rw c.as_slice.ensures at c.in_ok-rest-2.ensures) c.token-2.ensures.gives

pub fields_in_braces-returns-in_err-rest : goal.fields_in_braces-returns-in_err-rest
fields_in_braces-returns-in_err-rest t c =
    first_stops (c.args.level ∷ []) (((ended_levels (c.args.level + 1) (each_named (c.args.level + 1)
    (named_of (map named_view c.args.all.now)))) ++ given c.args.more ((c.args.level + 1) ∷ (c.args.level + 1) ∷ [])) ++
    (c.args.level ∷ [])) c.args.rest.now c.in_err-rest.field-0.0 c.from_residual.result c.in_err-rest.ensures.gives
    c.from_residual.ensures.1

pub fields_in_braces-returns-in_err-rest-2 : goal.fields_in_braces-returns-in_err-rest-2
fields_in_braces-returns-in_err-rest-2 t c =
    second_stops (c.args.level ∷ []) ((ended_levels (c.args.level + 1) (each_named (c.args.level + 1)
    (named_of (map named_view c.args.all.now)))) ++ given c.args.more ((c.args.level + 1) ∷ (c.args.level + 1) ∷ [])) (c.args.level ∷ [])
    c.args.rest.now c.in_ok-rest.rest.now c.in_err-rest-2.field-0.0 c.from_residual-in_err-rest-2.result
    c.in_ok-rest.ensures.gives (rw c.as_slice.ensures at c.in_err-rest-2.ensures) c.from_residual-in_err-rest-2.ensures.1

pub fields_in_braces-returns : goal.fields_in_braces-returns
fields_in_braces-returns t c =
    third_passes (c.args.level ∷ []) ((ended_levels (c.args.level + 1) (each_named (c.args.level + 1)
    (named_of (map named_view c.args.all.now)))) ++ given c.args.more ((c.args.level + 1) ∷ (c.args.level + 1) ∷ [])) (c.args.level ∷ [])
    c.args.rest.now c.in_ok-rest.rest.now c.in_ok-rest-2.rest.now c.token-2.result
    c.in_ok-rest.ensures.gives (rw c.as_slice.ensures at c.in_ok-rest-2.ensures) c.token-2.ensures.gives
