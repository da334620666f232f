-- The emitted implementation is one of `PartialEq`, and the premises of its laws hold of what is read.
use Rattle.std.proofs.Common.{◌≡◌, ℕ, List, [], ◌∷◌, true, false, cond, Result, Ok, Err, refl, sym, ap, ◌∙◌, subst, codes}
use Rattle.std.specs.Prelude.{IfOk, String, string_bytes}
use Rattle.std.specs.declared.alloc.Global.{Global}
use Rattle.dm_ast.specs.Declarations.{Declaration}
use Rattle.dm_output.specs.Output.{ItemTree}
use Rattle.dm_output.specs.Tokens.{printed}
use Rattle.dm_partial_eq.specs.declared.comparing.Comparing.{Comparing}
use Rattle.dm_partial_eq.specs.declared.comparing.Comparing.TheVariants.{Equal, Unequal}
use Rattle.dm_partial_eq.specs.Direct.{Gives, direct_eq, direct_ne}
use Rattle.dm_partial_eq.specs.Heads.{IsComparison, AreMethods, IsPartialEq}
use Rattle.dm_operands.specs.Kept.{some_compared}
use Rattle.dm_partial_eq.specs.Emitted.{item, method, method_name, methods}
use Rattle.dm_operands.specs.Named.{AreNamed}
use Rattle.dm_operands.specs.Readable.{IsReadable}
use Rattle.dm_partial_eq.specs.Expanded.{IsExpanded, IsText}
use Rattle.dm_partial_eq.proofs.PartialEqLaws.{marked_cases, eq-gives, ne-gives}
use Rattle.dm_operands.proofs.ReadNames.{readable-named}

-- ---- the implementation

is-method : (c : Comparing) (d : Declaration) → IsComparison (method_name c) (method c d (marked_cases d))
is-method c d = record { attrs = refl; is_const = refl; name_is = refl; receiver = refl; param = refl; output = refl }

eq-method : (d : Declaration) → AreNamed d → IsComparison (codes "eq") (method Equal d (marked_cases d)) × Gives d (method Equal d (marked_cases d)) direct_eq
eq-method d names = (is-method Equal d, eq-gives d names (method Equal d (marked_cases d)) (is-method Equal d) refl)

ne-method : (d : Declaration) → AreNamed d → IsComparison (codes "ne") (method Unequal d (marked_cases d)) × Gives d (method Unequal d (marked_cases d)) direct_ne
ne-method d names = (is-method Unequal d, ne-gives d names (method Unequal d (marked_cases d)) (is-method Unequal d) refl)

are-methods : (d : Declaration) → AreNamed d → AreMethods d (some_compared (marked_cases d)) (methods d (marked_cases d))
are-methods d names =
    elim (some_compared (marked_cases d)) as (λ b. AreMethods d b (cond b (method Equal d (marked_cases d) ∷ method Unequal d (marked_cases d) ∷ []) (method Equal d (marked_cases d) ∷ []))) [
      | true ↦ (eq-method d names, ne-method d names)
      | false ↦ eq-method d names
    ]

-- the emitted implementation and its text are those of `PartialEq`
pub expanded : (d : Declaration) (i : ItemTree) (items : List ItemTree) (text : List ℕ) → IsReadable d → i ≡ item d →
    items ≡ i ∷ [] → text ≡ printed (i ∷ []) → IsExpanded d items text
expanded d i items text s is one t =
    let P : ItemTree → Type 0 = IsPartialEq d in
    let whole : IsPartialEq d (item d) = record {
      attrs = refl;
      params = refl;
      trait_path = refl;
      ty = refl;
      predicates = refl;
      assocs = refl;
      methods = are-methods d (readable-named d s);
    } in
    record { item = i; one = one; is_emitted = is; is_one = subst P (sym is) whole; text_is = t }

-- the text alone
pub prints : {E : Type 0} (d : Declaration) (r : Result (String Global) E) → IsReadable d →
    IfOk r (λ s. string_bytes s ≡ printed (item d ∷ [])) → IfOk r (λ s. IsText d (string_bytes s))
prints d (Ok s) readable h = (item d ∷ [], expanded d (item d) (item d ∷ []) (string_bytes s) readable refl refl h)
prints d (Err e) readable h = tt

-- a declaration has one text
pub text-once : (d : Declaration) (x y : List ℕ) → IsText d x → IsText d y → x ≡ y
text-once d x y a b =
    a.1.text_is ∙ ap (λ (i : ItemTree). printed (i ∷ [])) (a.1.is_emitted ∙ sym b.1.is_emitted) ∙ sym b.1.text_is
