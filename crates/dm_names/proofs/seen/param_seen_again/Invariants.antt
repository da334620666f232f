use Rattle.std.proofs.Common.{◌≡◌, ◌||◌, ℕ, List, [], map, take, drop}
use Rattle.std.specs.List.{list_any}
use Rattle.std.specs.Str.{bytes_eq}
use Rattle.dm_ast.specs.Declarations.{param_view}
use Rattle.dm_repeats.specs.Repeats.{repeats, param_again, is_lifetime_called, is_type_called}
use Rattle.dm_names.specs.SeenNames.{was_seen}
use Rattle.dm_names.proofs.seen.param_seen_again.Given as goal

abbrev pub invariant-loop-param : goal.invariant-loop-param
invariant-loop-param l =
    (repeats (param_again l.type_name) [] (map param_view l.all) ≡
    repeats (param_again l.type_name) (map param_view (take l.param-index l.all)) (map param_view (drop l.param-index l.all))) ×
    ((q : List ℕ) → was_seen l.lifetimes q ≡ list_any (is_lifetime_called q) (map param_view (take l.param-index l.all))) ×
    ((q : List ℕ) → was_seen l.types q ≡ (bytes_eq l.type_name.name q || list_any (is_type_called q) (map param_view (take l.param-index l.all))))
