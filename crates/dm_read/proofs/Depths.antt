-- The first token that is too deep, in the flat form as in the trees.
use Rattle.std.proofs.Common.{◌≡◌, ℕ, ◌+◌, ◌-◌, ◌<◌, Bool, true, false, cond, if◌then◌else◌, nat_lt, List, [], ◌∷◌, ◌++◌, length, drop, get_or, Option, Some, None, refl, sym, ap, ◌∙◌, append_assoc, append-nil, arith}
use Rattle.std.proofs.lemmas.Grind.{common_steps}
use Rattle.std.proofs.lemmas.List.{drop_more}
use Rattle.dm_stream.specs.declared.tokens.Span.{Span}
use Rattle.dm_stream.specs.declared.tokens.Entry.{Entry}
use Rattle.dm_stream.specs.declared.tokens.Entry.TheVariants as entry
use Rattle.dm_stream.specs.Trees.{Trees, no_trees, token, group, flatten}
use Rattle.dm_stream.specs.Cursors.{token_span}
use Rattle.dm_ast.specs.Spelling.{Marks, deepest, first_too_deep, marks_of}
use Rattle.dm_ast.specs.Readers.{entry_span}
use Rattle.dm_read.specs.Deep.{level_at, level_after, deep_entry}

-- the first of two that is there
abbrev pub or_else : Option Span → Option Span → Option Span
or_else None b = b
or_else (Some s) b = Some s

or_assoc : (a b c : Option Span) → or_else (or_else a b) c ≡ or_else a (or_else b c)
or_assoc None b c = refl
or_assoc (Some s) b c = refl

or_test : (b : Bool) (s : Span) (r q : Option Span) → or_else (cond b (Some s) r) q ≡ cond b (Some s) (or_else r q)
or_test true s r q = refl
or_test false s r q = refl

deep_append : (m k : Marks) → first_too_deep (m ++ k) ≡ or_else (first_too_deep m) (first_too_deep k)
deep_append [] k = refl
deep_append (x ∷ m) k =
    ap (λ r. cond (nat_lt deepest x.0) (Some x.1) r) (deep_append m k) ∙ sym (or_test (nat_lt deepest x.0) x.1 (first_too_deep m) (first_too_deep k))

pub flat_deep : (n : ℕ) (ts : Trees) (es : List Entry) → deep_entry n (flatten ts ++ es) ≡ or_else (first_too_deep (marks_of n ts)) (deep_entry n es)
flat_deep n no_trees es = refl
flat_deep n (token k rest) es =
    ap (λ r. cond (nat_lt deepest n) (Some (token_span k)) r) (flat_deep n rest es) ∙ sym (or_test (nat_lt deepest n) (token_span k) (first_too_deep (marks_of n rest)) (deep_entry n es))
flat_deep n (group d from inside upto rest) es =
    let back : n + 1 - 1 ≡ n = omega arith in
    let a : (flatten inside ++ entry.Close d upto ∷ flatten rest) ++ es ≡ flatten inside ++ entry.Close d upto ∷ (flatten rest ++ es) =
    append_assoc (flatten inside) (entry.Close d upto ∷ flatten rest) es in
    let b : deep_entry (n + 1) (entry.Close d upto ∷ (flatten rest ++ es)) ≡ or_else (first_too_deep ((n, upto) ∷ marks_of n rest)) (deep_entry n es) =
    ap (λ k. cond (nat_lt deepest k) (Some upto) (deep_entry k (flatten rest ++ es))) back ∙ ap (λ r. cond (nat_lt deepest n) (Some upto) r) (flat_deep n rest es) ∙
    sym (or_test (nat_lt deepest n) upto (first_too_deep (marks_of n rest)) (deep_entry n es)) in
    let c : deep_entry (n + 1) (flatten inside ++ entry.Close d upto ∷ (flatten rest ++ es)) ≡
    or_else (first_too_deep (marks_of (n + 1) inside ++ (n, upto) ∷ marks_of n rest)) (deep_entry n es) =
    flat_deep (n + 1) inside (entry.Close d upto ∷ (flatten rest ++ es)) ∙ ap (or_else (first_too_deep (marks_of (n + 1) inside))) b ∙
    sym (or_assoc (first_too_deep (marks_of (n + 1) inside)) (first_too_deep ((n, upto) ∷ marks_of n rest)) (deep_entry n es)) ∙
    ap (λ x. or_else x (deep_entry n es)) (sym (deep_append (marks_of (n + 1) inside) ((n, upto) ∷ marks_of n rest))) in
    ap (λ l. cond (nat_lt deepest n) (Some from) (deep_entry (n + 1) l)) a ∙ ap (λ r. cond (nat_lt deepest n) (Some from) r) c ∙
    sym (or_test (nat_lt deepest n) from (first_too_deep (marks_of (n + 1) inside ++ (n, upto) ∷ marks_of n rest)) (deep_entry n es))

or_none : (a : Option Span) → or_else a None ≡ a
or_none None = refl
or_none (Some s) = refl

pub deep_flat : (n : ℕ) (ts : Trees) → deep_entry n (flatten ts) ≡ first_too_deep (marks_of n ts)
deep_flat n ts = ap (deep_entry n) (sym (append-nil (flatten ts))) ∙ flat_deep n ts [] ∙ or_none (first_too_deep (marks_of n ts))

-- by what a cursor holds
pub deep_left : (n : ℕ) (ts : Trees) (es : List Entry) → flatten ts ≡ es → first_too_deep (marks_of n ts) ≡ deep_entry n es
deep_left n ts es e = sym (deep_flat n ts) ∙ ap (deep_entry n) e

-- ---- the loop over the entries

module _ (n i at : ℕ) (all : List Entry) (e : Entry) where
  here : i < length all → e ≡ get_or all i e → deep_entry n all ≡ deep_entry at (drop i all) →
      deep_entry n all ≡ (if nat_lt deepest (level_at at e) then Some (entry_span e) else deep_entry (level_after at e) (drop (i + 1) all))
  here l g inv = inv ∙ ap (deep_entry at) (drop_more all i e l) ∙ ap (λ x. deep_entry at (x ∷ drop (i + 1) all)) (sym g)

  pub deep_goes_on : i < length all → e ≡ get_or all i e → deep_entry n all ≡ deep_entry at (drop i all) → nat_lt deepest (level_at at e) ≡ false →
      deep_entry n all ≡ deep_entry (level_after at e) (drop (i + 1) all)
  deep_goes_on l g inv f = here l g inv ∙ ap (λ b. if b then Some (entry_span e) else deep_entry (level_after at e) (drop (i + 1) all)) f

  pub deep_stops : i < length all → e ≡ get_or all i e → deep_entry n all ≡ deep_entry at (drop i all) → nat_lt deepest (level_at at e) ≡ true →
      deep_entry n all ≡ Some (entry_span e)
  deep_stops l g inv f = here l g inv ∙ ap (λ b. if b then Some (entry_span e) else deep_entry (level_after at e) (drop (i + 1) all)) f

pub ruleset depth_steps = (common_steps, deep_goes_on, deep_stops)

pub ruleset rest_steps = (common_steps, deep_left)
