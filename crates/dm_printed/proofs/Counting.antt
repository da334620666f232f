-- How many predicates an implementation has.
use Rattle.std.proofs.Common.{◌≡◌, ℕ, List, [], ◌∷◌, ◌++◌, map, length, Result, Ok, Err, IfOk, sym, ap, subst, ◌∙◌, arith}
use Rattle.std.specs.Prelude.{sum, IsOkAnd, MatchResult, String, string_bytes}
use Rattle.std.specs.declared.alloc.Global.{Global}
use Rattle.std.specs.declared.vec.Vec.{Vec}
use Rattle.std.proofs.lemmas.List.{length-map}
use Rattle.dm_stream.specs.declared.error.Error.{Error}
use Rattle.dm_stream.specs.declared.error.Error.TheVariants.{NoMemory, Refused}
use Rattle.dm_ast.specs.declared.decl.DeriveInput.{DeriveInput}
use Rattle.dm_ast.specs.Declarations.{Declaration, PredicateTree, declaration_view}
use Rattle.dm_ast.specs.Implementors as declared
use Rattle.dm_output.specs.Output.{ItemTree}
use Rattle.dm_attr.specs.Answers.{IsWalked}
use Rattle.dm_generics.proofs.Builders.{builder_steps}
use Rattle.dm_operands.specs.declared.cases.CaseRef.{CaseRef}
use Rattle.dm_operands.specs.CaseViews.{case_view}
use Rattle.dm_operands.specs.Places.{AreCases, IsMarking}
use Rattle.dm_bounds.specs.Needed.{Asking, needing}
use Rattle.dm_where_clauses.specs.declared.needed.Predicate.{Predicate}
use Rattle.dm_where_clauses.specs.Shown.{shown}
use Rattle.dm_operators.specs.declared.places.Plan.{Plan}
use Rattle.dm_operators.specs.Operators.{Form, Operator}
use Rattle.dm_operators.specs.Table.{form_view}
use Rattle.dm_operators.specs.Attributes.{form_in}
use Rattle.dm_operators.specs.Predicates.{asking, needed_in}
use Rattle.dm_operators.specs.Heads.{item_predicates}
use Rattle.dm_operators.specs.Plans.{IsPlan, IsPlanned}
use Rattle.dm_operators.specs.Implementations.{item_of}
use Rattle.dm_operators.specs.Refusals as operating
use Rattle.dm_partial_eq.specs.Checks as comparing
use Rattle.dm_partial_eq.specs.Heads.{partial_eq_path}
use Rattle.dm_partial_eq.specs.Emitted.{item, predicates_for}
use Rattle.dm_printed.specs.Traits.{Trait, emitted, refusal}
use Rattle.dm_printed.specs.Answers.{TraitPrints}
use Rattle.dm_printed.specs.Derived.{Names, Reads, IsDerivable, IsUnrefused}
use Rattle.dm_printed.specs.Counts.{Counts, TraitCounts, predicates_of}
use Rattle.dm_printed.proofs.Deriving.{not-read, not-given, derivable}

-- ---- as many as are made are those that they stand for

as-many : (a : Asking) (n : ℕ) (made : List Predicate) (ps : List PredicateTree) → n ≡ length made → map (shown a) made ≡ ps → n ≡ length ps
as-many a n made ps count same = count ∙ sym (length-map made (shown a)) ∙ ap length same

pub count-compared : {E : Type 0} (d : Declaration) (cs : List CaseRef) (made : Result (Vec Predicate Global) E) (n : ℕ) → AreCases d cs →
    IfOk made (λ ps. map (shown (needing partial_eq_path)) ps.items ≡ predicates_for d (map case_view cs)) → IsOkAnd made (λ all. n ≡ length all.items) →
    n ≡ length (item d).predicates
count-compared d cs (Ok all) n are shows count =
    as-many (needing partial_eq_path) n all.items (item d).predicates count (shows ∙ ap (predicates_for d) are)
count-compared d cs (Err e) n are shows count = absurd count

-- the predicates by a plan are the implementation's
planned : (o : Operator) (d : Declaration) (p : Plan) → IsPlan o d p →
    declared.predicates_of d ++ needed_in (form_view p.form) o d (map case_view p.cases.items) ≡ item_predicates o d
planned o d p is =
    ap (λ (f : Form). declared.predicates_of d ++ needed_in f o d (map case_view p.cases.items)) is.form ∙
    ap (λ cs. declared.predicates_of d ++ needed_in (form_in o d) o d cs) is.cases

pub count-operated : {E : Type 0} (o : Operator) (d : Declaration) (p : Plan) (made : Result (Vec Predicate Global) E) (n : ℕ) → IsPlan o d p →
    IfOk made (λ ps. map (shown (asking (form_view p.form) o)) ps.items ≡
    declared.predicates_of d ++ needed_in (form_view p.form) o d (map case_view p.cases.items)) →
    IsOkAnd made (λ all. n ≡ length all.items) → n ≡ length (item_of o d).predicates
count-operated o d p (Ok all) n is shows count =
    as-many (asking (form_view p.form) o) n all.items (item_of o d).predicates count (shows ∙ planned o d p is)
count-operated o d p (Err e) n is shows count = absurd count

-- what is refused is not counted
pub uncompared : (d : Declaration) (e : Error) → IsMarking d (Err e) →
    IsWalked {A = ℕ} (comparing.refusal d) (λ n. n ≡ length (item d).predicates) (Err e)
uncompared d NoMemory h = tt
uncompared d (Refused r) h = h

pub unplanned : (o : Operator) (d : Declaration) (e : Error) → IsPlanned o d (Err e) →
    IsWalked {A = ℕ} (operating.refusal o d) (λ n. n ≡ length (item_of o d).predicates) (Err e)
unplanned o d NoMemory h = tt
unplanned o d (Refused r) h = h

-- ---- the answer

lone : (n : ℕ) → n ≡ sum (n ∷ [])
lone n = omega arith

pub counted : (t : Trait) (name text : List ℕ) (d : DeriveInput) (r : Result ℕ Error) → Names name t → Reads text (Ok d) →
    TraitCounts t (declaration_view d) r → Counts name text r
counted t name text d (Ok n) known h m =
    let one = m.1.is_text.1 in
    record {
      made = m.1.is_text.0;
      written = m.1.text;
      expanded = record { derived = t; is_known = known; declaration = declaration_view d; is_read = h.0; named = h.1; expanded = one };
      items_are = sym (ap length one.one);
      predicates_are =
          m.1.count ∙ ap (λ (i : ItemTree). length i.predicates) (sym one.is_emitted) ∙ lone (length one.item.predicates) ∙
          ap predicates_of (sym one.one);
    }
counted t name text d (Err NoMemory) known h m = tt
counted t name text d (Err (Refused r)) known h m = not-given t name text d r known h m

pub not-counted : (t : Trait) (name text : List ℕ) (e : Error) → Names name t → Reads text (Err e) → Counts name text (Err e)
not-counted t name text NoMemory known h = tt
not-counted t name text (Refused r) known h = not-read t name text r known h

pub counts-it : (name text : List ℕ) (r : Result ℕ Error) → Counts name text r → IsDerivable name text → IsUnrefused r
counts-it name text (Ok n) h d = tt
counts-it name text (Err NoMemory) h d = tt
counts-it name text (Err (Refused r)) h d = derivable name text d r h

-- ---- what is counted of what is printed

not-both : (t : Trait) (d : Declaration) (e : Error) → TraitPrints t d (Err e) → TraitCounts t d (Err e)
not-both t d NoMemory h = tt
not-both t d (Refused r) h = h

pub both : (t : Trait) (d : Declaration) (n : ℕ) (p : Result (String Global) Error) (r : Result ℕ Error) →
    IsWalked {A = ℕ} (refusal t d) (λ m. m ≡ length (emitted t d).predicates) (Ok n) → TraitPrints t d p →
    MatchResult p (λ _. r ≡ Ok n) (λ e. r ≡ Err e) → TraitCounts t d r
both t d n (Ok s) r h printed is =
    subst (TraitCounts t d) (sym is) (h.0, record { text = string_bytes s; is_text = printed.1; count = h.1 })
both t d n (Err e) r h printed is = subst (TraitCounts t d) (sym is) (not-both t d e printed)

pub uncounted : (t : Trait) (d : Declaration) (e : Error) →
    IsWalked {A = ℕ} (refusal t d) (λ m. m ≡ length (emitted t d).predicates) (Err e) → TraitCounts t d (Err e)
uncounted t d NoMemory h = tt
uncounted t d (Refused r) h = h

pub ruleset counting_steps = (builder_steps, uncompared, unplanned, uncounted)

pub ruleset answer_steps = (counts-it)
