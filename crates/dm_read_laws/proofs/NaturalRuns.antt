-- Runs and qualified paths are cut the same out of the same tokens, ranges aside.
use Rattle.std.proofs.Common.{◌≡◌, ℕ, zero, suc, ◌+◌, ◌-◌, Bool, true, false, cond, not, ◌&&◌, ◌||◌, nat_eq, if◌then◌else◌, Option, option_map, Some, None, refl, sym, ap, ap₂, ◌∙◌}
use Rattle.dm_stream.specs.declared.tokens.Spacing.{Spacing}
use Rattle.dm_stream.specs.declared.tokens.Spacing.TheVariants.{Joint}
use Rattle.dm_stream.specs.declared.tokens.Token.{Token}
use Rattle.dm_stream.specs.declared.tokens.Token.TheVariants as t
use Rattle.dm_stream.specs.Trees.{Trees, no_trees, token, group}
use Rattle.dm_stream.specs.Cursors.{split_trees, before}
use Rattle.dm_lexer.specs.Written.{unplaced_token, unplaced}
use Rattle.dm_ast.specs.Spelling.{is_joint}
use Rattle.dm_ast.specs.Tree.{TypeTree, type_tree, path, some_self}
use Rattle.dm_expr.specs.declared.units.Unit.{Unit}
use Rattle.dm_expr.specs.declared.units.Unit.TheVariants as unit
use Rattle.dm_expr.specs.Cuts.{Front, after, and_then, split_at, is_char, is_spaced, one_if, punct_at, spaced_at, path_sep_at, tree_at, waiting, closed_at, pair_at, sep_args_at, args_sep_at, bars_at, Found, or_else, unless, unit_at, unit_size, Run, one_more, goes_on, run_from, some_run, run_at}
use Rattle.dm_expr.specs.Reach.{is_there}
use Rattle.dm_type_eq.specs.Unplaced.{unplaced_type}
use Rattle.dm_reread.specs.BareReading.{bare_rest, bare_answer, bare_qualified}
use Rattle.dm_reread.specs.PathLeaves.{names_at, path_at, qualified_in, read_qualified}
use Rattle.dm_reread.specs.RunLeaves.{read_run, is_closed}
use Rattle.dm_type_eq.proofs.BareTypeTokens.{unplaced-join}
use Rattle.dm_reread.proofs.BareNext.{map-cond, passing, whole-bare}
use Rattle.dm_read_laws.proofs.NaturalDeclarations.{type_natural}

-- a front that does not look at ranges
abbrev IsNatural : (Trees → Front) → Type 0
IsNatural front = (ts : Trees) → front (unplaced ts) ≡ option_map bare_rest (front ts)

-- ---- fronts, one after another

after_bare : (n : ℕ) (o : Front) → after n (option_map bare_rest o) ≡ option_map bare_rest (after n o)
after_bare n None = refl
after_bare n (Some r) = refl

and_then_bare : (o : Front) (next : Trees → Front) → IsNatural next →
    and_then (option_map bare_rest o) next ≡ option_map bare_rest (and_then o next)
and_then_bare None next h = refl
and_then_bare (Some r) next h = ap (after r.0) (h r.1) ∙ after_bare r.0 (next r.1)

natural_then : (first next : Trees → Front) → IsNatural first → IsNatural next → IsNatural (λ ts. and_then (first ts) next)
natural_then first next h k ts = ap (λ o. and_then o next) (h ts) ∙ and_then_bare (first ts) next k

before_bare : (first : Trees) (o : Option (Trees × Trees)) →
    before (unplaced first) (bare_answer unplaced o) ≡ bare_answer unplaced (before first o)
before_bare first None = refl
before_bare first (Some r) = ap {B = Option (Trees × Trees)} (λ x. Some (x, unplaced r.1)) (sym (unplaced-join first r.0))

split_trees_bare : (n : ℕ) (ts : Trees) → split_trees n (unplaced ts) ≡ bare_answer unplaced (split_trees n ts)
split_trees_bare zero ts = refl
split_trees_bare (suc n) no_trees = refl
split_trees_bare (suc n) (token k rest) =
    ap (before (token (unplaced_token k) no_trees)) (split_trees_bare n rest) ∙ before_bare (token k no_trees) (split_trees n rest)
split_trees_bare (suc n) (group d from inside upto rest) =
    ap (before (unplaced (group d from inside upto no_trees))) (split_trees_bare n rest) ∙
    before_bare (group d from inside upto no_trees) (split_trees n rest)

split_bare : (o : Front) (ts : Trees) → split_at (option_map bare_rest o) (unplaced ts) ≡ bare_answer unplaced (split_at o ts)
split_bare None ts = refl
split_bare (Some r) ts = split_trees_bare r.0 ts

cut_bare : (front : Trees → Front) → IsNatural front → (ts : Trees) →
    split_at (front (unplaced ts)) (unplaced ts) ≡ bare_answer unplaced (split_at (front ts) ts)
cut_bare front h ts = ap (λ o. split_at o (unplaced ts)) (h ts) ∙ split_bare (front ts) ts

-- ---- puncts and pairs of them

is_char_bare : (p : ℕ) (k : Token) → is_char p (unplaced_token k) ≡ is_char p k
is_char_bare p (t.Punct q) = refl
is_char_bare p _ = refl

is_spaced_bare : (p : ℕ) (s : Spacing) (k : Token) → is_spaced p s (unplaced_token k) ≡ is_spaced p s k
is_spaced_bare p s (t.Punct q) = refl
is_spaced_bare p s _ = refl

one_if_bare : (b : Bool) (rest : Trees) → one_if b (unplaced rest) ≡ option_map bare_rest (one_if b rest)
one_if_bare true rest = refl
one_if_bare false rest = refl

natural_punct_at : (p : ℕ) → IsNatural (punct_at p)
natural_punct_at p no_trees = refl
natural_punct_at p (token k rest) = ap (λ b. one_if b (unplaced rest)) (is_char_bare p k) ∙ one_if_bare (is_char p k) rest
natural_punct_at p (group d from inside upto rest) = refl

natural_spaced_at : (p : ℕ) (s : Spacing) → IsNatural (spaced_at p s)
natural_spaced_at p s no_trees = refl
natural_spaced_at p s (token k rest) = ap (λ b. one_if b (unplaced rest)) (is_spaced_bare p s k) ∙ one_if_bare (is_spaced p s k) rest
natural_spaced_at p s (group d from inside upto rest) = refl

natural_sep : IsNatural path_sep_at
natural_sep = natural_then (spaced_at 58 Joint) (punct_at 58) (natural_spaced_at 58 Joint) (natural_punct_at 58)

natural_tree : IsNatural tree_at
natural_tree no_trees = refl
natural_tree (token k rest) = refl
natural_tree (group d from inside upto rest) = refl

waiting_bare : (opener closer n : ℕ) (k : Token) → waiting opener closer n (unplaced_token k) ≡ waiting opener closer n k
waiting_bare opener closer n k =
    ap₂ (λ a b. if a then n - 1 else (if b then n + 1 else n)) (is_char_bare closer k) (is_char_bare opener k)

natural_closed : (opener closer n : ℕ) → IsNatural (closed_at opener closer n)
natural_closed opener closer zero ts = refl
natural_closed opener closer (suc n) no_trees = refl
natural_closed opener closer (suc n) (token k rest) =
    ap (λ j. after 1 (closed_at opener closer j (unplaced rest))) (waiting_bare opener closer (suc n) k) ∙
    ap (after 1) (natural_closed opener closer (waiting opener closer (suc n) k) rest) ∙
    after_bare 1 (closed_at opener closer (waiting opener closer (suc n) k) rest)
natural_closed opener closer (suc n) (group d from inside upto rest) =
    ap (after 1) (natural_closed opener closer (suc n) rest) ∙ after_bare 1 (closed_at opener closer (suc n) rest)

natural_pair_at : (opener closer : ℕ) → IsNatural (pair_at opener closer)
natural_pair_at opener closer =
    natural_then (punct_at opener) (closed_at opener closer 1) (natural_punct_at opener) (natural_closed opener closer 1)

natural_sep_args : IsNatural sep_args_at
natural_sep_args = natural_then path_sep_at (pair_at 60 62) natural_sep (natural_pair_at 60 62)

natural_args_sep : IsNatural args_sep_at
natural_args_sep = natural_then (pair_at 60 62) path_sep_at (natural_pair_at 60 62) natural_sep

natural_bars : (with_bars : Bool) → IsNatural (bars_at with_bars)
natural_bars true ts = natural_pair_at 124 124 ts
natural_bars false ts = refl

-- ---- units and runs

abbrev bare_found : Unit × ℕ × Trees → Unit × ℕ × Trees
bare_found r = (r.0, r.1, unplaced r.2)

or_else_bare : (u : Unit) (o : Front) (other : Found) →
    or_else u (option_map bare_rest o) (option_map bare_found other) ≡ option_map bare_found (or_else u o other)
or_else_bare u None other = refl
or_else_bare u (Some r) other = refl

unless_bare : (o : Front) (found : Found) →
    unless (option_map bare_rest o) (option_map bare_found found) ≡ option_map bare_found (unless o found)
unless_bare None found = refl
unless_bare (Some r) found = refl

-- one of the units, or what is found otherwise
else_bare : (u : Unit) (front : Trees → Front) → IsNatural front → (ts : Trees) (other' other : Found) →
    other' ≡ option_map bare_found other → or_else u (front (unplaced ts)) other' ≡ option_map bare_found (or_else u (front ts) other)
else_bare u front h ts other' other e = ap₂ (or_else u) (h ts) e ∙ or_else_bare u (front ts) other

-- the unit that begins here, but for where a comma stands
abbrev among : Bool → Trees → Found
among with_bars ts =
    or_else unit.SepArgs (sep_args_at ts) (or_else unit.ArgsSep (args_sep_at ts) (or_else unit.Bars (bars_at with_bars ts)
    (or_else unit.Tree (tree_at ts) None)))

among_bare : (with_bars : Bool) (ts : Trees) → among with_bars (unplaced ts) ≡ option_map bare_found (among with_bars ts)
among_bare with_bars ts =
    else_bare unit.SepArgs sep_args_at natural_sep_args ts _ _
    (else_bare unit.ArgsSep args_sep_at natural_args_sep ts _ _
    (else_bare unit.Bars (bars_at with_bars) (natural_bars with_bars) ts _ _ (else_bare unit.Tree tree_at natural_tree ts None None refl)))

unit_bare : (with_bars : Bool) (ts : Trees) → unit_at with_bars (unplaced ts) ≡ option_map bare_found (unit_at with_bars ts)
unit_bare with_bars ts =
    ap₂ unless (natural_punct_at 44 ts) (among_bare with_bars ts) ∙ unless_bare (punct_at 44 ts) (among with_bars ts)

found_size_bare : (o : Found) → unit_size (option_map bare_found o) ≡ unit_size o
found_size_bare None = refl
found_size_bare (Some r) = refl

unit_size_bare : (with_bars : Bool) (ts : Trees) → unit_size (unit_at with_bars (unplaced ts)) ≡ unit_size (unit_at with_bars ts)
unit_size_bare with_bars ts = ap unit_size (unit_bare with_bars ts) ∙ found_size_bare (unit_at with_bars ts)

goes_on_bare : (n : ℕ) (ts : Trees) (more : Run) → goes_on n (unplaced ts) (bare_rest more) ≡ bare_rest (goes_on n ts more)
goes_on_bare zero ts more = refl
goes_on_bare (suc n) ts more = refl

run_from_bare : (with_bars : Bool) (inside : ℕ) (ts : Trees) → run_from with_bars inside (unplaced ts) ≡ bare_rest (run_from with_bars inside ts)
run_from_bare with_bars inside no_trees = refl
run_from_bare with_bars (suc inside) (token k rest) = ap one_more (run_from_bare with_bars inside rest)
run_from_bare with_bars (suc inside) (group d from i upto rest) = ap one_more (run_from_bare with_bars inside rest)
run_from_bare with_bars zero (token k rest) =
    ap (λ n. goes_on n (unplaced (token k rest)) (run_from with_bars (n - 1) (unplaced rest))) (unit_size_bare with_bars (token k rest)) ∙
    ap (goes_on (unit_size (unit_at with_bars (token k rest))) (unplaced (token k rest)))
    (run_from_bare with_bars (unit_size (unit_at with_bars (token k rest)) - 1) rest) ∙
    goes_on_bare (unit_size (unit_at with_bars (token k rest))) (token k rest)
    (run_from with_bars (unit_size (unit_at with_bars (token k rest)) - 1) rest)
run_from_bare with_bars zero (group d from i upto rest) = ap one_more (run_from_bare with_bars 0 rest)

some_run_bare : (r : Run) → some_run (bare_rest r) ≡ option_map bare_rest (some_run r)
some_run_bare (zero, rest) = refl
some_run_bare (suc n, rest) = refl

natural_run_at : (with_bars : Bool) → IsNatural (run_at with_bars)
natural_run_at with_bars ts = ap some_run (run_from_bare with_bars 0 ts) ∙ some_run_bare (run_from with_bars 0 ts)

pub run_natural : (ts : Trees) → read_run (unplaced ts) ≡ bare_answer unplaced (read_run ts)
run_natural ts = cut_bare (run_at true) (natural_run_at true) ts

-- ---- what is left open in a run

is_there_bare : (o : Front) → is_there (option_map bare_rest o) ≡ is_there o
is_there_bare None = refl
is_there_bare (Some r) = refl

pair_there_bare : (ts : Trees) → is_there (pair_at 60 62 (unplaced ts)) ≡ is_there (pair_at 60 62 ts)
pair_there_bare ts = ap is_there (natural_pair_at 60 62 ts) ∙ is_there_bare (pair_at 60 62 ts)

-- whether the first token leaves nothing open
abbrev is_shut : Bool → Bool → Bool → Bool
is_shut less there bar = (not less || there) && not bar

shut_bare : (k : Token) (rest : Trees) →
    is_shut (is_char 60 (unplaced_token k)) (is_there (pair_at 60 62 (unplaced (token k rest)))) (is_char 124 (unplaced_token k)) ≡
    is_shut (is_char 60 k) (is_there (pair_at 60 62 (token k rest))) (is_char 124 k)
shut_bare k rest =
    ap₂ (λ less there. is_shut less there (is_char 124 (unplaced_token k))) (is_char_bare 60 k) (pair_there_bare (token k rest)) ∙
    ap (is_shut (is_char 60 k) (is_there (pair_at 60 62 (token k rest)))) (is_char_bare 124 k)

pub closed_bare : (ts : Trees) → is_closed (unplaced ts) ≡ is_closed ts
closed_bare no_trees = refl
closed_bare (token k ts) = ap₂ (λ a b. a && b) (shut_bare k ts) (closed_bare ts)
closed_bare (group d from inside upto ts) = closed_bare ts

-- ---- qualified paths

natural_names : IsNatural names_at
natural_names (token (t.Punct a) (token (t.Punct b) (token (t.Ident i) ts))) =
    ap
    (λ o. cond ((nat_eq a.ch 58 && is_joint a.spacing) && nat_eq b.ch 58) o
    (Some (0, unplaced (token (t.Punct a) (token (t.Punct b) (token (t.Ident i) ts))))))
    (ap (after 3) (natural_names ts) ∙ after_bare 3 (names_at ts)) ∙
    sym (map-cond bare_rest ((nat_eq a.ch 58 && is_joint a.spacing) && nat_eq b.ch 58) (after 3 (names_at ts))
    (Some (0, token (t.Punct a) (token (t.Punct b) (token (t.Ident i) ts)))))
natural_names _ = refl

natural_path_at : IsNatural path_at
natural_path_at = natural_then (pair_at 60 62) names_at (natural_pair_at 60 62) natural_names

qualified_in_bare : (x : TypeTree) → qualified_in (unplaced_type x) ≡ option_map bare_qualified (qualified_in x)
qualified_in_bare (type_tree (path (some_self y n) p) range) = refl
qualified_in_bare _ = refl

pub qualified_natural : (ts : Trees) → read_qualified (unplaced ts) ≡ bare_answer bare_qualified (read_qualified ts)
qualified_natural ts = simp (cut_bare path_at natural_path_at, type_natural, whole-bare, qualified_in_bare, passing)
