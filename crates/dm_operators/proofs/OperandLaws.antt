-- What operations on the operands' fields give.
use Rattle.std.proofs.Common.{◌≡◌, ℕ, ◌+◌, List, [], ◌∷◌, length, map, Bool, true, false, cond, Some, codes, slice_get, refl, ap, arith}
use Rattle.dm_ast.specs.Declarations.{FieldTree}
use Rattle.dm_output.specs.Output.{ExprTree}
use Rattle.dm_output.specs.Values.{Text, Side, mine, theirs, another, of_side, Thing, atom, apply, truth, number, text, input_text, value, place, discriminant, tuple_of, success, failure, present, missing, done, pass, written, listing, Things, no_things, thing_then}
use Rattle.dm_output.specs.Fits.{Env, plain, bound, names_type}
use Rattle.dm_output.specs.Calls.{Setting, State, as_term, as_terms, known, unknown}
use Rattle.dm_operands.specs.Marked.{MarkedField, mark_field}
use Rattle.dm_operands.specs.Numbered.{self_name}
use Rattle.dm_operands.specs.Bodies.{name}
use Rattle.dm_operands.proofs.FromLaws.{AreFrom, from-first, from-rest}
use Rattle.dm_operands.proofs.NameLaws.{Differ, Apart, numerals-differ}
use Rattle.dm_operands.proofs.BindingLaws.{Names, Knows}
pub use Rattle.dm_operators.specs.Attributes.{keeps_all}
use Rattle.dm_operators.specs.Operators as ops
use Rattle.dm_operators.specs.Operators.{Operator, method_names}
use Rattle.dm_operators.specs.Attributes.{skips}
use Rattle.dm_operators.specs.Meaning.{operation, combined, IsTerm, AreTerms}
use Rattle.dm_operators.specs.Bodies.{operation_call, right_name, right_operand, binary_part, inner_name}
use Rattle.dm_operators.proofs.ConstructorLaws.{Stands, ArePartsOf}

-- ---- names

pub self-right : Apart self_name right_name
self-right i j = refl

pub right-right : Differ right_name
right-right = numerals-differ

pub inner-inner : Differ inner_name
inner-inner = numerals-differ

-- ---- terms

mutual
  pub term-kept : (s : Setting) (st : State) (t : Thing) → IsTerm t → as_term s st t ≡ t
  term-kept s st (place side n) h = absurd h
  term-kept s st (value (of_side side) n xs) h = absurd h
  term-kept s st (value another n xs) h = refl
  term-kept s st (tuple_of xs) h = ap tuple_of (terms-kept s st xs h)
  term-kept s st (atom n) h = refl
  term-kept s st (apply o xs) h = refl
  term-kept s st (truth b) h = refl
  term-kept s st (number n) h = refl
  term-kept s st (text x) h = refl
  term-kept s st (input_text x y) h = refl
  term-kept s st (discriminant n) h = refl
  term-kept s st (success x) h = refl
  term-kept s st (failure x) h = refl
  term-kept s st (present x) h = refl
  term-kept s st missing h = refl
  term-kept s st done h = refl
  term-kept s st (pass x y) h = refl
  term-kept s st (written ps) h = refl
  term-kept s st (listing x fs e) h = refl

  terms-kept : (s : Setting) (st : State) (ts : Things) → AreTerms ts → as_terms s st ts ≡ ts
  terms-kept s st no_things h = refl
  terms-kept s st (thing_then x xs) h = rw (term-kept s st x h.0, terms-kept s st xs h.1) refl

-- ---- operands

-- the fields of a side as they are now
abbrev pub side_fields : Setting → State → Side → List Thing
side_fields s st mine = st.fields
side_fields s st theirs = s.right

pub place-term : (s : Setting) (st : State) (side : Side) (n : ℕ) (x : Thing) → slice_get (side_fields s st side) n ≡ Some x →
    as_term s st (place side n) ≡ x
place-term s st mine n x at = rw at refl
place-term s st theirs n x at = rw at refl

-- the expressions from number n on stand for these terms
abbrev pub AreStanding : Setting → Env → State → (ℕ → ExprTree) → ℕ → List Thing → Type 0
AreStanding s env st e n [] = Unit {0}
AreStanding s env st e n (t ∷ ts) = Stands s (e n) env st t × AreStanding s env st e (n + 1) ts

-- the fields of a side, where all of them are bound
pub places-stand : (s : Setting) (env : Names) (st : State) (side : Side) (naming : ℕ → Text) (n : ℕ)
    (fs : List FieldTree) (xs : List Thing) →
    Knows naming side env n (map (mark_field keeps_all) fs) → AreFrom (side_fields s st side) n xs → length xs ≡ length fs →
    AreStanding s (plain env) st (λ k. name (naming k)) n xs
places-stand s env st side naming n fs [] knows at len = tt
places-stand s env st side naming n [] (x ∷ xs) knows at len = absurd (omega arith)
places-stand s env st side naming n (f ∷ fs) (x ∷ xs) knows at len =
    let known = knows.0 refl in (
      (place side n, rw known refl, place-term s st side n x (from-first (side_fields s st side) n x xs at)),
      places-stand s env st side naming (n + 1) fs xs knows.1 (from-rest (side_fields s st side) n x xs at) (omega arith),
    )

-- the right side itself, as often as there are fields
pub right-stands : (s : Setting) (env : Env) (st : State) (n : ℕ) (t : Thing) (xs : List Thing) → IsTerm t →
    bound env (codes "__rhs") ≡ Some t →
    AreStanding s env st (right_operand ops.scalar) n (map (λ _. t) xs)
right-stands s env st n t [] is at = tt
right-stands s env st n t (x ∷ xs) is at = ((t, rw at refl, term-kept s st t is), right-stands s env st (n + 1) t xs is at)

-- ---- operations

-- what the laws know of an operator that gives a value, in an implementation for a declaration
pub record GivesValue (s : Setting) (o : Operator) : Type 0 where
  pub foreign : names_type s.decl (codes "derive_more") ≡ false
  pub unlisted : known (method_names o) ≡ unknown

module _ (s : Setting) (env : Env) (st : State) (o : Operator) (v : GivesValue s o) where
  -- the operation of two operands, and of one
  pub two-run : (a b : ExprTree) (x y : Thing) → Stands s a env st x → Stands s b env st y →
      Stands s (operation_call o (a ∷ b ∷ [])) env st (operation o (x ∷ y ∷ []))
  two-run a b x y ha hb =
      let foreign = v.foreign in
      let unlisted = v.unlisted in
      (operation o (x ∷ y ∷ []), rw (ha.1, hb.1, foreign, unlisted, ha.2, hb.2) refl, refl)

  pub one-run : (a : ExprTree) (x : Thing) → Stands s a env st x → Stands s (operation_call o (a ∷ [])) env st (operation o (x ∷ []))
  one-run a x ha =
      let foreign = v.foreign in
      let unlisted = v.unlisted in
      (operation o (x ∷ []), rw (ha.1, foreign, unlisted, ha.2) refl, refl)

  part-run : (form : ops.Form) (skip : Bool) (n : ℕ) (f : FieldTree) (x y : Thing) → Stands s (name (self_name n)) env st x →
      Stands s (right_operand form n) env st y →
      Stands s (binary_part form o n (record { field = f; left_out = skip })) env st (cond skip x (operation o (x ∷ y ∷ [])))
  part-run form true n f x y hx hy = hx
  part-run form false n f x y hx hy = two-run (name (self_name n)) (right_operand form n) x y hx hy

  -- all fields of two operands
  pub binary-parts : (form : ops.Form) (n : ℕ) (fs : List FieldTree) (xs ys : List Thing) → length xs ≡ length fs → length ys ≡ length fs →
      AreStanding s env st (λ k. name (self_name k)) n xs → AreStanding s env st (right_operand form) n ys →
      ArePartsOf s env st (binary_part form o) n (map (mark_field (skips o)) fs) (combined o fs xs ys)
  binary-parts form n [] xs ys lx ly hx hy = tt
  binary-parts form n (f ∷ fs) [] ys lx ly hx hy = absurd (omega arith)
  binary-parts form n (f ∷ fs) (x ∷ xs) [] lx ly hx hy = absurd (omega arith)
  binary-parts form n (f ∷ fs) (x ∷ xs) (y ∷ ys) lx ly hx hy = (
    part-run form (skips o f.attrs) n f x y hx.0 hy.0,
    binary-parts form (n + 1) fs xs ys (omega arith) (omega arith) hx.1 hy.1,
  )

  -- and of one
  pub unary-parts : (part : ℕ → MarkedField → ExprTree) (n : ℕ) (fs : List MarkedField) (xs : List Thing) →
      ArePartsOf s env st part n fs xs →
      ArePartsOf s env st (λ k f. operation_call o (part k f ∷ [])) n fs (map (λ t. operation o (t ∷ [])) xs)
  unary-parts part n [] [] h = tt
  unary-parts part n [] (x ∷ xs) h = absurd h
  unary-parts part n (f ∷ fs) [] h = absurd h
  unary-parts part n (f ∷ fs) (x ∷ xs) h = (one-run (part n f) x h.0, unary-parts part (n + 1) fs xs h.1)
