-- The method of an assigning operator leaves self as the operator means.
use Rattle.std.proofs.Common.{◌≡◌, ℕ, ℤ, zero, suc, ◌+◌, List, [], ◌∷◌, ◌++◌, length, map, true, false, cond, Some, codes, slice_get, refl, sym, ap, ◌∙◌, arith, append_assoc}
use Rattle.std.specs.Prelude.{set}
use Rattle.std.proofs.lemmas.List.{length-append, set_at}
use Rattle.dm_ast.specs.Declarations.{FieldTree}
use Rattle.dm_output.specs.Output.{do_stmt, stmts_of}
use Rattle.dm_output.specs.Values.{mine, Thing, done, place}
use Rattle.dm_output.specs.Fits.{Env, plain, bound, names_type}
use Rattle.dm_output.specs.Calls.{Setting, State, goes, known, assigning}
use Rattle.dm_output.specs.Run.{run, run_stmts}
use Rattle.dm_operands.specs.Marked.{mark_field}
use Rattle.dm_operands.specs.Numbered.{self_name}
use Rattle.dm_operands.proofs.BindingLaws.{Names, Knows}
use Rattle.dm_operators.specs.Operators as ops
use Rattle.dm_operators.specs.Operators.{Operator, method_names}
use Rattle.dm_operators.specs.Attributes.{skips}
use Rattle.dm_operators.specs.Meaning.{operation, combined}
use Rattle.dm_operators.specs.Bodies.{binary_call, right_operand, assigning_calls}
use Rattle.dm_operators.proofs.ConstructorLaws.{Stands}

-- ---- one call

get-at : (front : List Thing) (x : Thing) (xs : List Thing) (n : ℕ) → length front ≡ n → slice_get (front ++ x ∷ xs) n ≡ Some x
get-at [] x xs zero l = refl
get-at [] x xs (suc n) l = absurd (omega arith)
get-at (y ∷ front) x xs zero l = absurd (omega arith)
get-at (y ∷ front) x xs (suc n) l = get-at front x xs n (omega arith)

-- what the laws know of an operator that assigns, in an implementation for a declaration
pub record Assigns (s : Setting) (o : Operator) : Type 0 where
  pub foreign : names_type s.decl (codes "derive_more") ≡ false
  pub listed : known (method_names o) ≡ assigning
  pub may : s.may_assign ≡ true

-- the right operands of the kept fields from number n on stand for these terms, whatever self's fields are
abbrev pub AreRight : Setting → Env → Operator → ops.Form → ℕ → List FieldTree → List Thing → Type 0
AreRight s env o form n [] ys = Unit {0}
AreRight s env o form n (f ∷ fs) [] = ⊥
AreRight s env o form n (f ∷ fs) (y ∷ ys) =
    (skips o f.attrs ≡ false → (st : State) → Stands s (right_operand form n) env st y) × AreRight s env o form (n + 1) fs ys

module _ (s : Setting) (env : Names) (o : Operator) (form : ops.Form) (a : Assigns s o) where
  -- self's field becomes the operation's term
  call-run : (n : ℕ) (x y : Thing) (st : State) → slice_get st.fields n ≡ Some x → bound (plain env) (self_name n) ≡ Some (place mine n) →
      Stands s (right_operand form n) (plain env) st y →
      run s (binary_call form o n) (plain env) st ≡ Some (goes done (record {
        fields =
            set st.fields n (operation o (x ∷ y ∷ []));
        numbers = st.numbers;
      }))
  call-run n x y st at own right =
      let foreign = a.foreign in
      let listed = a.listed in
      let may = a.may in
      rw (own, right.1, foreign, listed, at, right.2, may) refl

  -- the calls of the kept fields
  pub calls-run : (n : ℕ) (fs : List FieldTree) (xs ys front all : List Thing) (ns : List ℤ) → all ≡ front ++ xs →
      length front ≡ n → length xs ≡ length fs →
      Knows self_name mine env n (map (mark_field (skips o)) fs) → AreRight s (plain env) o form n fs ys →
      run_stmts s (stmts_of (assigning_calls form o n (map (mark_field (skips o)) fs))) (plain env)
      (record { fields = all; numbers = ns }) ≡
      Some (goes (plain env) (record { fields = front ++ combined o fs xs ys; numbers = ns }))
  calls-run n [] [] ys front all ns e lf lx own right = ap (λ (zs : List Thing). Some
      (goes (plain env) (record { fields = zs; numbers = ns }))) e
  calls-run n [] (x ∷ xs) ys front all ns e lf lx own right = absurd (omega arith)
  calls-run n (f ∷ fs) [] ys front all ns e lf lx own right = absurd (omega arith)
  calls-run n (f ∷ fs) (x ∷ xs) [] front all ns e lf lx own right = absurd right
  calls-run n (f ∷ fs) (x ∷ xs) (y ∷ ys) front all ns e lf lx own right =
      let more = stmts_of (assigning_calls form o (n + 1) (map (mark_field (skips o)) fs)) in
      let longer : (v : Thing) → length (front ++ v ∷ []) ≡ n + 1 = λ v. length-append front (v ∷ []) ∙ omega arith in
      let goes_on : (v : Thing) (now : List Thing) → now ≡ front ++ v ∷ xs →
      run_stmts s more (plain env) (record { fields = now; numbers = ns }) ≡
      Some (goes (plain env) (record { fields = front ++ v ∷ combined o fs xs ys; numbers = ns })) =
      λ v now is.
      calls-run (n + 1) fs xs ys (front ++ v ∷ []) now ns (is ∙ sym (append_assoc front (v ∷ []) xs)) (longer v)
      (omega arith) own.1 right.1 ∙
      ap (λ (zs : List Thing). Some (goes (plain env) (record { fields = zs; numbers = ns })))
      (append_assoc front (v ∷ []) (combined o fs xs ys)) in
      (elim (skips o f.attrs) as (λ b. (b ≡ false → bound (plain env) (self_name n) ≡ Some (place mine n)) →
      (b ≡ false → (st : State) → Stands s (right_operand form n) (plain env) st y) →
      run_stmts s (stmts_of (cond b (assigning_calls form o (n + 1) (map (mark_field (skips o)) fs))
      (do_stmt (binary_call form o n) ∷ assigning_calls form o (n + 1) (map (mark_field (skips o)) fs))))
      (plain env) (record { fields = all; numbers = ns }) ≡
      Some (goes (plain env) (record { fields = front ++ cond b x (operation o (x ∷ y ∷ [])) ∷ combined o fs xs ys; numbers = ns }))) [
        | true ↦ λ mine_known right_known. goes_on x all e
        | false ↦ λ mine_known right_known.
            let st : State = record { fields = all; numbers = ns } in
            let at : slice_get all n ≡ Some x = ap (λ (zs : List Thing). slice_get zs n) e ∙ get-at front x xs n lf in
            let here = call-run n x y st at (mine_known refl) (right_known refl st) in
            let after : set all n (operation o (x ∷ y ∷ [])) ≡ front ++ operation o (x ∷ y ∷ []) ∷ xs =
            ap (λ (zs : List Thing). set zs n (operation o (x ∷ y ∷ []))) e ∙ set_at front x xs (operation o (x ∷ y ∷ [])) n lf in
            rw here (goes_on (operation o (x ∷ y ∷ [])) (set all n (operation o (x ∷ y ∷ []))) after)
      ]) own.0 right.0
