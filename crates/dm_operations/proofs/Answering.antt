-- An operator's plan makes the text of its implementation.
use Rattle.std.proofs.Common.{◌≡◌, ℕ, zero, suc, ◌≤◌, ◌^◌, List, [], ◌∷◌, map, length, cond, Some, None, Result, Ok, Err, IfOk, slice_get, refl, sym, ap, ◌∙◌, subst, arith}
use Rattle.std.specs.Prelude.{String, string_bytes}
use Rattle.std.specs.declared.alloc.Global.{Global}
use Rattle.std.proofs.lemmas.List.{length-map}
use Rattle.std.proofs.lemmas.Grind.{common_steps}
use Rattle.dm_stream.specs.declared.error.Error.{Error}
use Rattle.dm_stream.specs.declared.error.Error.TheVariants.{NoMemory, Refused}
use Rattle.dm_ast.specs.Declarations.{Declaration, FieldTree}
use Rattle.dm_output.specs.Output.{ItemTree}
use Rattle.dm_output.specs.Values.{cases, field_list}
use Rattle.dm_output.specs.Tokens.{printed}
use Rattle.dm_operands.specs.declared.cases.CaseRef.{CaseRef}
use Rattle.dm_operands.specs.Marked.{MarkedField, MarkedCase, mark_field, mark_case}
use Rattle.dm_operands.specs.CaseViews.{case_view, field_ref_view}
use Rattle.dm_operands.specs.Readable.{IsReadable}
use Rattle.dm_operands.proofs.ReadNames.{readable-named}
use Rattle.dm_operators.specs.declared.places.Plan.{Plan}
use Rattle.dm_operators.specs.Operators.{Form, Operator, IsOperator}
use Rattle.dm_operators.specs.Table.{form_view}
use Rattle.dm_operators.specs.Attributes.{skips, cases_for, form_in}
use Rattle.dm_operators.specs.Heads.{IsOperation}
use Rattle.dm_operators.specs.Implementations.{item_of}
use Rattle.dm_operators.specs.Refusals.{refusal}
use Rattle.dm_operators.specs.Plans.{IsPlan, IsPlanned}
use Rattle.dm_operators.specs.Laws.{AreFew}
use Rattle.dm_operators.proofs.Operations.{operation}
use Rattle.dm_operators.proofs.RefusalLaws.{unrefused-open}
use Rattle.dm_operations.specs.Items.{item_for}
use Rattle.dm_operations.specs.Expanded.{IsExpanded, IsText, IsPrinted}

-- ---- the fields of a case that is held in memory can be numbered

mapped-at : {A B : Type 0} (f : A → B) (xs : List A) (n : ℕ) (x : A) → slice_get xs n ≡ Some x → slice_get (map f xs) n ≡ Some (f x)
mapped-at f [] n x at = absurd cc
mapped-at f (z ∷ xs) zero x at = let e : z ≡ x = cc in ap (λ v. Some (f v)) e
mapped-at f (z ∷ xs) (suc n) x at = mapped-at f xs n x at

in-mapped : {A B : Type 0} (f : A → B) (xs : List A) (n : ℕ) (y : B) → slice_get (map f xs) n ≡ Some y → (x : A) × (f x ≡ y)
in-mapped f [] n y at = absurd cc
in-mapped f (z ∷ xs) zero y at = (z, cc)
in-mapped f (z ∷ xs) (suc n) y at = in-mapped f xs n y at

held-few : (r : CaseRef) (fs : List FieldTree) (l : FieldTree → MarkedField) → map field_ref_view r.fields.items ≡ map l fs → length fs ≤ 2 ^ 64
held-few r fs l same =
    let n : length r.fields.items ≡ length fs = sym (length-map r.fields.items field_ref_view) ∙ ap length same ∙ length-map fs l in
    omega (arith, n, r.fields.ok.0, r.fields.ok.1, r.fields.small)

-- no refusal and the cases of the declaration: so the fields are few
pub few : (o : Operator) (d : Declaration) (rs : List CaseRef) → refusal o d ≡ None → map case_view rs ≡ cases_for o d → AreFew o d
few o d rs none same = λ form struct n c at.
    let found = in-mapped case_view rs n (mark_case (skips o) c) (ap (λ cs. slice_get cs n) same ∙ mapped-at (mark_case (skips o)) (cases d) n c at) in
    let fields : map field_ref_view found.0.fields.items ≡ cond (skips o c.attrs) [] (map (mark_field (skips o)) (field_list c.fields)) =
    ap (λ (m : MarkedCase). m.fields) found.1 in
    held-few found.0 (field_list c.fields) (mark_field (skips o)) (fields ∙
    ap (λ b. cond b [] (map (mark_field (skips o)) (field_list c.fields))) (unrefused-open o d none n c at))

-- what holds anyway holds of each value
pub where-ok : {A E P : Type 0} (r : Result A E) → P → IfOk r (λ _. P)
where-ok (Ok x) h = h
where-ok (Err e) h = tt

-- ---- the implementation by a plan

planned-item : (o : Operator) (d : Declaration) (p : Plan) → IsPlan o d p →
    item_for (form_view p.form) o d (map case_view p.cases.items) ≡ item_of o d
planned-item o d p is =
    ap (λ (f : Form). item_for f o d (map case_view p.cases.items)) is.form ∙ ap (item_for (form_in o d) o d) is.cases

expanded : (o : Operator) (d : Declaration) (p : Plan) (i : ItemTree) (items : List ItemTree) (text : List ℕ) → IsOperator o → IsReadable d →
    refusal o d ≡ None → IsPlan o d p → i ≡ item_for (form_view p.form) o d (map case_view p.cases.items) → items ≡ i ∷ [] →
    text ≡ printed (i ∷ []) → IsExpanded o d items text
expanded o d p i items text operator readable none is made one t =
    let emitted : i ≡ item_of o d = made ∙ planned-item o d p is in
    let whole : IsOperation o d (item_of o d) = operation o d operator (readable-named d readable) (few o d p.cases.items none is.cases) none in
    record { item = i; one = one; is_emitted = emitted; is_one = subst (IsOperation o d) (sym emitted) whole; text_is = t }

-- its text alone
pub prints : {E : Type 0} (o : Operator) (d : Declaration) (p : Plan) (i : ItemTree) (r : Result (String Global) E) → IsOperator o → IsReadable d →
    refusal o d ≡ None → IsPlan o d p → i ≡ item_for (form_view p.form) o d (map case_view p.cases.items) →
    IfOk r (λ s. string_bytes s ≡ printed (i ∷ [])) → IfOk r (λ s. IsText o d (string_bytes s))
prints o d p i (Ok s) operator readable none is made h = (i ∷ [], expanded o d p i (i ∷ []) (string_bytes s) operator readable none is made refl h)
prints o d p i (Err e) operator readable none is made h = tt

-- a declaration has one text
pub text-once : (o : Operator) (d : Declaration) (x y : List ℕ) → IsText o d x → IsText o d y → x ≡ y
text-once o d x y a b =
    a.1.text_is ∙ ap (λ (i : ItemTree). printed (i ∷ [])) (a.1.is_emitted ∙ sym b.1.is_emitted) ∙ sym b.1.text_is

-- ---- answers

pub not-written : (o : Operator) (d : Declaration) (e : Error) → IsPlanned o d (Err e) → IsPrinted o d (Err e)
not-written o d NoMemory h = tt
not-written o d (Refused r) h = h

pub ruleset answer_steps = (common_steps, not-written)
