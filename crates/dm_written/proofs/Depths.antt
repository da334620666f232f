-- How deep the tokens of trees stand: of one list behind another, of a group, and where more levels are left.
use Rattle.std.specs.Prelude.{◌≡◌, ℕ, suc, ◌-◌, ◌<◌, ◌≤◌, Bool, true, false, nat_lt, cond, Option, Some, None, List, [], ◌∷◌, ◌++◌, ⊤, refl}
use Rattle.std.proofs.Common.{ap, ◌∙◌, sym, arith, append_assoc, append-nil}
use Rattle.std.proofs.lemmas.Bool.Decides.{nat_tests}
use Rattle.dm_stream.specs.declared.tokens.Span.{Span}
use Rattle.dm_stream.specs.Cursors.{token_span}
use Rattle.dm_stream.specs.Trees.{Trees, no_trees, token, group, join}
use Rattle.dm_lexer.specs.declared.lexing.Lexeme.{Lexeme}
use Rattle.dm_lexer.specs.declared.lexing.Lexeme.TheVariants as lexeme
use Rattle.dm_lexer.specs.Nesting.{marks, first_deep}
use Rattle.dm_lexer.specs.Written.{AreShallowWithin}

-- no token or delimiter stands inside more than n groups, where the trees stand inside d
abbrev pub IsWithin : ℕ → ℕ → Trees → Type 0
IsWithin n d no_trees = ⊤
IsWithin n d (token k rest) = (d ≤ n) × IsWithin n d rest
IsWithin n d (group e from inside upto rest) = (d ≤ n) × IsWithin n (suc d) inside × IsWithin n d rest

-- ---- the same by the first lexeme that is too deep

no_test : (n d : ℕ) → d ≤ n → nat_lt n d ≡ false
no_test n d h = grind (arith, nat_tests)

no_more : (n d : ℕ) → nat_lt n d ≡ false → d ≤ n
no_more n d h = grind (arith, nat_tests)

suc_less : (d : ℕ) → suc d - 1 ≡ d
suc_less d = omega arith

none_here : (n d : ℕ) (s : Span) (o : Option Span) → d ≤ n → o ≡ None → cond {A = Option Span} (nat_lt n d) (Some s) o ≡ None
none_here n d s o h e = ap (λ b. cond {A = Option Span} b (Some s) o) (no_test n d h) ∙ e

none_by : (b : Bool) (s : Span) (o : Option Span) → cond {A = Option Span} b (Some s) o ≡ None → (b ≡ false) × (o ≡ None)
none_by true s o h = absurd (cc)
none_by false s o h = (refl, h)

-- what is behind a closer stands where its opener stands
behind_closer : (n d : ℕ) (s : Span) (xs : List Lexeme) →
    cond {A = Option Span} (nat_lt n (suc d - 1)) (Some s) (first_deep n (suc d - 1) xs) ≡
    cond {A = Option Span} (nat_lt n d) (Some s) (first_deep n d xs)
behind_closer n d s xs = ap (λ c. cond {A = Option Span} (nat_lt n c) (Some s) (first_deep n c xs)) (suc_less d)

-- behind these trees the depth is what it was before
shallow_in_front : (n d : ℕ) (ts : Trees) (ys : List Lexeme) → IsWithin n d ts → first_deep n d ys ≡ None →
    first_deep n d (marks ts ++ ys) ≡ None
shallow_in_front n d no_trees ys w h = h
shallow_in_front n d (token k rest) ys w h =
    none_here n d (token_span k) (first_deep n d (marks rest ++ ys)) w.0 (shallow_in_front n d rest ys w.1 h)
shallow_in_front n d (group e from inside upto rest) ys w h =
    let closer : Lexeme = lexeme.Close e upto in
    let behind : List Lexeme = marks rest ++ ys in
    let next : first_deep n (suc d) (closer ∷ behind) ≡ None =
    behind_closer n d upto behind ∙ none_here n d upto (first_deep n d behind) w.0 (shallow_in_front n d rest ys w.2 h) in
    let inner : first_deep n (suc d) (marks inside ++ closer ∷ behind) ≡ None =
    shallow_in_front n (suc d) inside (closer ∷ behind) w.1 next in
    none_here n d from (first_deep n (suc d) ((marks inside ++ closer ∷ marks rest) ++ ys)) w.0
    (ap (first_deep n (suc d)) (append_assoc (marks inside) (closer ∷ marks rest) ys) ∙ inner)

front_within : (n d : ℕ) (ts : Trees) (ys : List Lexeme) → first_deep n d (marks ts ++ ys) ≡ None →
    IsWithin n d ts × (first_deep n d ys ≡ None)
front_within n d no_trees ys h = (tt, h)
front_within n d (token k rest) ys h =
    let here = none_by (nat_lt n d) (token_span k) (first_deep n d (marks rest ++ ys)) h in
    let later = front_within n d rest ys here.1 in
    ((no_more n d here.0, later.0), later.1)
front_within n d (group e from inside upto rest) ys h =
    let closer : Lexeme = lexeme.Close e upto in
    let behind : List Lexeme = marks rest ++ ys in
    let here = none_by (nat_lt n d) from (first_deep n (suc d) ((marks inside ++ closer ∷ marks rest) ++ ys)) h in
    let inner =
    front_within n (suc d) inside (closer ∷ behind)
    (ap (first_deep n (suc d)) (sym (append_assoc (marks inside) (closer ∷ marks rest) ys)) ∙ here.1) in
    let next = none_by (nat_lt n d) upto (first_deep n d behind) (sym (behind_closer n d upto behind) ∙ inner.1) in
    let later = front_within n d rest ys next.1 in
    ((no_more n d here.0, inner.0, later.0), later.1)

pub shallow_from : (n : ℕ) (ts : Trees) → IsWithin n 0 ts → AreShallowWithin n ts
shallow_from n ts w = ap (first_deep n 0) (sym (append-nil (marks ts))) ∙ shallow_in_front n 0 ts [] w refl

pub within_from : (n : ℕ) (ts : Trees) → AreShallowWithin n ts → IsWithin n 0 ts
within_from n ts h = (front_within n 0 ts [] (ap (first_deep n 0) (append-nil (marks ts)) ∙ h)).0

-- ---- laws

pub within_join : (n d : ℕ) (ts us : Trees) → IsWithin n d ts → IsWithin n d us → IsWithin n d (join ts us)
within_join n d no_trees us h k = k
within_join n d (token j rest) us h k = (h.0, within_join n d rest us h.1 k)
within_join n d (group e from inside upto rest) us h k = (h.0, h.1, within_join n d rest us h.2 k)

-- one group around all of them
pub within_deeper : (n m d : ℕ) → n < m → (ts : Trees) → IsWithin n d ts → IsWithin m (suc d) ts
within_deeper n m d le no_trees h = tt
within_deeper n m d le (token j rest) h = (omega (arith, le, h.0), within_deeper n m d le rest h.1)
within_deeper n m d le (group e from inside upto rest) h =
    (omega (arith, le, h.0), within_deeper n m (suc d) le inside h.1, within_deeper n m d le rest h.2)
