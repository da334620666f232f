-- What a trait answers, from the text that it prints.
use Rattle.std.proofs.Common.{◌≡◌, ℕ, List, [], ◌∷◌, Bool, true, false, cond, Option, Some, None, Result, Ok, Err, refl, sym, subst, ◌∙◌}
use Rattle.std.specs.Prelude.{String, string_bytes}
use Rattle.std.specs.declared.alloc.Global.{Global}
use Rattle.std.proofs.lemmas.Grind.{common_steps}
use Rattle.dm_stream.specs.declared.error.Error.{Error}
use Rattle.dm_stream.specs.declared.error.Error.TheVariants.{NoMemory, Refused}
use Rattle.dm_stream.specs.declared.error.Refusal.{Refusal}
use Rattle.dm_ast.specs.Declarations.{Declaration}
use Rattle.dm_expansion.specs.declared.expansion.Expansion.{Expansion}
use Rattle.dm_output.specs.Output.{ItemTree}
use Rattle.dm_output.specs.Tokens.{printed}
use Rattle.dm_output.specs.Values.{Text}
use Rattle.dm_attr.specs.Answers.{IsWalked}
use Rattle.dm_operands.specs.Readable.{IsReadable}
use Rattle.dm_operands.specs.Expanded.{IsExpandedAs}
use Rattle.dm_partial_eq.specs.Checks as comparing
use Rattle.dm_partial_eq.specs.Heads.{IsPartialEq}
use Rattle.dm_partial_eq.specs.Emitted as emitted
use Rattle.dm_partial_eq.specs.Expanded as compared
use Rattle.dm_operators.specs.Heads.{IsOperation}
use Rattle.dm_operators.specs.Refusals as operating
use Rattle.dm_operators.specs.Laws.{AreFew}
use Rattle.dm_operators.specs.Operators.{Form, Operator, IsOperator, operator_named}
use Rattle.dm_operators.specs.Implementations.{item_of}
use Rattle.dm_operations.specs.Expanded as operated
use Rattle.dm_emitted_laws.specs.Printable.{IsPrintable}
use Rattle.dm_emitted_laws.proofs.EmittedPrintable.{operator_printable, comparison_printable}
use Rattle.dm_cmp_ops.specs.Expanded.{IsOfText, IsReadOf, IsReadBack, IsAnswer, IsOperatorAnswer}
use Rattle.dm_cmp_ops.specs.Families.{is_in, if_in, member}
use Rattle.dm_cmp_ops.proofs.PlainFields.{plain}

pub readable : (d : Declaration) → IsOfText d → IsReadable d
readable d t = record { limit = t.limit; trees = t.trees; marks = t.marks; spelled = t.spelled; named = t.named }

-- ---- what is emitted is printable

comparison : (d : Declaration) → IsOfText d → IsPrintable (emitted.item d)
comparison d t = comparison_printable d t.limit t.trees t.marks t.spelled t.within t.writable t.shallow (plain d t.named)

operator : (o : Operator) (d : Declaration) → IsOfText d → IsOperator o → AreFew o d → IsPrintable (item_of o d)
operator o d t = operator_printable d t.limit t.trees t.marks t.spelled t.within t.writable t.shallow (plain d t.named) o

-- ---- the answer

-- a text that is read back
abbrev IsBack : List ℕ → Result Expansion Error → Type 0
IsBack text r = (i : ItemTree) → IsPrintable i → text ≡ printed (i ∷ []) → IsReadBack i text r

module _ (e : ItemTree) (IsOne : ItemTree → Type 0) (first : Option Refusal) (none : first ≡ None) (is : IsPrintable e) where
  one_read : (items : List ItemTree) (text : List ℕ) → IsExpandedAs e IsOne items text → (r : Result Expansion Error) → IsBack text r →
      IsWalked first (λ x. IsReadOf (IsExpandedAs e IsOne) x) r
  one_read items text h (Ok x) back =
      let b = back h.item (subst IsPrintable (sym h.is_emitted) is) h.text_is in (
        none,
        (
          h.item ∷ [],
          record { item = h.item; one = refl; is_emitted = h.is_emitted; is_one = h.is_one; text_is = b.0 ∙ h.text_is },
          b.1,
        ),
      )
  one_read items text h (Err NoMemory) back = tt
  one_read items text h (Err (Refused f)) back =
      let b : Refused f ≡ NoMemory = back h.item (subst IsPrintable (sym h.is_emitted) is) h.text_is in absurd (cc)

pub compared_read : (d : Declaration) (s : String Global) → IsOfText d → compared.IsPrinted d (Ok s) → (r : Result Expansion Error) →
    IsBack (string_bytes s) r → IsAnswer d r
compared_read d s t h r back =
    one_read (emitted.item d) (IsPartialEq d) (comparing.refusal d) h.0 (comparison d t) h.1.0 (string_bytes s) h.1.1 r back

pub not_compared : (d : Declaration) (e : Error) → compared.IsPrinted d (Err e) → IsAnswer d (Err e)
not_compared d NoMemory h = tt
not_compared d (Refused r) h = h

pub operated_read : (o : Operator) (d : Declaration) (s : String Global) → IsOfText d → IsOperator o → AreFew o d → operated.IsPrinted o d (Ok s) →
    (r : Result Expansion Error) → IsBack (string_bytes s) r → IsOperatorAnswer o d r
operated_read o d s t is few h r back =
    one_read (item_of o d) (IsOperation o d) (operating.refusal o d) h.0 (operator o d t is few) h.1.0 (string_bytes s) h.1.1 r back

pub not_operated : (o : Operator) (d : Declaration) (e : Error) → operated.IsPrinted o d (Err e) → IsOperatorAnswer o d (Err e)
not_operated o d NoMemory h = tt
not_operated o d (Refused r) h = h

-- ---- families

in-family : (form : Form) (assigning : Bool) (p : Option Operator) (o : Operator) → if_in form assigning p ≡ Some o → p ≡ Some o
in-family form assigning None o h = absurd cc
in-family form assigning (Some q) o h =
    (elim (is_in form assigning q) as (λ b. cond b (Some q) None ≡ Some o → Some q ≡ Some o) [ true ↦ λ k. k | false ↦ λ k. absurd cc ]) h

-- a member of a family is one of the table
pub in-table : (form : Form) (assigning : Bool) (name : Text) (o : Operator) → member form assigning name ≡ Some o → IsOperator o
in-table form assigning name o h = record { name = name; found = in-family form assigning (operator_named name) o h }

pub ruleset answer_steps = (common_steps, readable, not_compared, not_operated, in-table)
