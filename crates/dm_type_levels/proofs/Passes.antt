-- Tokens one behind the other.
use Rattle.std.proofs.Common.{◌≡◌, ℕ, nat_lt, cond, Bool, true, false, List, [], ◌∷◌, ◌++◌, Result, Err, refl}
use Rattle.std.proofs.lemmas.Grind.{common_steps}
use Rattle.dm_stream.specs.declared.tokens.Span.{Span}
use Rattle.dm_stream.specs.declared.tokens.Entry.{Entry}
use Rattle.dm_ast.specs.Spelling.{deepest}
use Rattle.dm_type_levels.specs.Passing.{pass, first_span, behind_first, pass_then}

by_test : (b : Bool) (s : Span) (r : Result (List Entry) Span) (ms : List ℕ) →
    cond b (Err s) (pass_then ms r) ≡ pass_then ms (cond b (Err s) r)
by_test true s r ms = refl
by_test false s r ms = refl

pub pass_both : (ls ms : List ℕ) (es : List Entry) → pass (ls ++ ms) es ≡ pass_then ms (pass ls es)
pass_both [] ms es = refl
pass_both (l ∷ ls) ms es = rw (pass_both ls ms (behind_first es)) (by_test (nat_lt deepest l) (first_span es) (pass ls (behind_first es)) ms)

pub ruleset pass_steps = (common_steps, pass_both)
