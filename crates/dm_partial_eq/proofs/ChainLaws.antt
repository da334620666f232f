-- What a chain of tests gives, at any state.
use Rattle.std.proofs.Common.{◌≡◌, ℕ, ◌+◌, List, [], ◌∷◌, length, map, Bool, true, false, cond, ◌&&◌, ◌||◌, Option, Some, None, slice_get, refl, arith}
use Rattle.dm_ast.specs.Declarations.{FieldTree}
use Rattle.dm_output.specs.Output.{ExprTree, exprs_of}
use Rattle.dm_output.specs.Values.{mine, theirs, Thing, truth, place}
use Rattle.dm_output.specs.Fits.{Env, plain, bound}
use Rattle.dm_output.specs.Calls.{Setting, State, Flow, goes, ends}
use Rattle.dm_output.specs.Run.{run, chosen, if_truth}
use Rattle.dm_partial_eq.specs.declared.comparing.Comparing.{Comparing}
use Rattle.dm_partial_eq.specs.declared.comparing.Comparing.TheVariants.{Equal, Unequal}
use Rattle.dm_attr.specs.Skips.{is_skipped}
use Rattle.dm_partial_eq.specs.Direct.{all_kept}
use Rattle.dm_partial_eq.specs.Emitted.{says, neutral_of, join_of, test, tests, chain}
use Rattle.dm_operands.specs.Marked.{MarkedField, mark_field}
use Rattle.dm_operands.specs.Numbered.{self_name, other_name}
use Rattle.dm_operands.proofs.FromLaws.{AreFrom, from-first, from-rest}
use Rattle.dm_operands.proofs.BindingLaws.{Names, Knows, eqb-same}

-- an expression gives this truth, and leaves the state as it is
abbrev pub Says : Setting → ExprTree → Env → State → Bool → Type 0
Says s e env st b = run s e env st ≡ Some (goes (truth b) st)

pub says-true : (c : Comparing) → says c true ≡ neutral_of c
says-true Equal = refl
says-true Unequal = refl

-- ---- joined parts

module _ (s : Setting) (env : Env) (st : State) where
  pub join-none : (c : Comparing) → Says s (join_of c (exprs_of [])) env st (says c true)
  join-none Equal = refl
  join-none Unequal = refl

  pub join-then : (c : Comparing) (e : ExprTree) (es : List ExprTree) (o b : Bool) → Says s e env st (says c o) →
      Says s (join_of c (exprs_of es)) env st (says c b) → Says s (join_of c (exprs_of (e ∷ es))) env st (says c (o && b))
  join-then Equal e es true b h k = rw h k
  join-then Equal e es false b h k = rw h refl
  join-then Unequal e es true b h k = rw h k
  join-then Unequal e es false b h k = rw h refl

  pub join-stops : (c : Comparing) (e : ExprTree) (es : List ExprTree) → Says s e env st (says c false) →
      Says s (join_of c (exprs_of (e ∷ es))) env st (says c false)
  join-stops Equal e es h = rw h refl
  join-stops Unequal e es h = rw h refl

  pub join-one : (c : Comparing) (e : ExprTree) (o : Bool) → Says s e env st (says c o) → Says s (join_of c (exprs_of (e ∷ []))) env st (says c o)
  join-one c e true h = join-then c e [] true true h (join-none c)
  join-one c e false h = join-then c e [] false true h (join-none c)

abbrev either_truth : Thing → State → Option (Flow Thing)
either_truth x st = chosen x (Some (goes (truth true) st)) (Some (goes (truth false) st))

one-truth : (x : Thing) (st st' : State) (r : Bool) → either_truth x st ≡ Some (goes (truth r) st') → Some (goes x st) ≡ Some (goes (truth r) st')
one-truth (truth true) st st' r h = h
one-truth (truth false) st st' r h = h
one-truth _ st st' r h = cc

one-part : (o : Option (Flow Thing)) (st : State) (r : Bool) →
    if_truth o (λ st. Some (goes (truth true) st)) (λ st. Some (goes (truth false) st)) ≡ Some (goes (truth r) st) → o ≡ Some (goes (truth r) st)
one-part None st r h = cc
one-part (Some (goes x st')) st r h = one-truth x st' st r h
one-part (Some (ends x st')) st r h = cc

-- a chain gives what its parts give joined
pub run-chain : (c : Comparing) (s : Setting) (es : List ExprTree) (env : Env) (st : State) (r : Bool) →
    Says s (join_of c (exprs_of es)) env st r → Says s (chain c es) env st r
run-chain Equal s [] env st r h = h
run-chain Unequal s [] env st r h = h
run-chain Equal s (e ∷ []) env st r h = one-part (run s e env st) st r h
run-chain Unequal s (e ∷ []) env st r h = one-part (run s e env st) st r h
run-chain Equal s (e ∷ f ∷ es) env st r h = h
run-chain Unequal s (e ∷ f ∷ es) env st r h = h

-- ---- tests of places

run-test : (c : Comparing) (s : Setting) (env : Env) (st : State) (n : ℕ) (o : Bool) → slice_get s.outcomes n ≡ Some o →
    bound env (self_name n) ≡ Some (place mine n) → bound env (other_name n) ≡ Some (place theirs n) → Says s (test c n) env st (says c o)
run-test Equal s env st n o at a b = rw (a, b, eqb-same n, at) refl
run-test Unequal s env st n true at a b = rw (a, b, eqb-same n, at) refl
run-test Unequal s env st n false at a b = rw (a, b, eqb-same n, at) refl

-- fields as `PartialEq` reads their attributes
abbrev pub marks : List FieldTree → List MarkedField
marks fs = map (mark_field is_skipped) fs

-- the tests of the kept fields from n on
pub run-tests : (c : Comparing) (s : Setting) (env : Names) (st : State) (n : ℕ) (fs : List FieldTree) (os : List Bool) →
    AreFrom s.outcomes n os → length os ≡ length fs →
    Knows self_name mine env n (marks fs) → Knows other_name theirs env n (marks fs) →
    Says s (join_of c (exprs_of (tests c n (marks fs)))) (plain env) st (says c (all_kept fs os))
run-tests c s env st n [] os from len a b = join-none s (plain env) st c
run-tests c s env st n (f ∷ fs) [] from len a b = absurd (omega arith)
run-tests c s env st n (f ∷ fs) (o ∷ os) from len a b =
    let more = run-tests c s env st (n + 1) fs os (from-rest s.outcomes n o os from) (omega arith) a.1 b.1 in
    let here = from-first s.outcomes n o os from in
    (elim (is_skipped f.attrs) as (λ skip. (skip ≡ false → bound (plain env) (self_name n) ≡ Some (place mine n)) →
    (skip ≡ false → bound (plain env) (other_name n) ≡ Some (place theirs n)) →
    Says s (join_of c (exprs_of (cond skip (tests c (n + 1) (marks fs)) (test c n ∷ tests c (n + 1) (marks fs))))) (plain env) st
    (says c ((skip || o) && all_kept fs os))) [
      | true ↦ λ a' b'. more
      | false ↦ λ a' b'. join-then s (plain env) st c (test c n) (tests c (n + 1) (marks fs)) o (all_kept fs os)
          (run-test c s (plain env) st n o here (a' refl) (b' refl)) more
    ])
    a.0 b.0
