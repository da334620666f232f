-- What operators and `PartialEq` emit are implementations of the output language, without their ranges.
use Rattle.std.proofs.Common.{◌≡◌, ℕ, List, ◌∷◌, [], false, None, map}
use Rattle.dm_stream.specs.Trees.{Trees}
use Rattle.dm_ast.specs.Declarations.{Declaration}
use Rattle.dm_ast.specs.Parsed.{SpelledBy}
use Rattle.dm_ast.specs.Spelling.{Marks, first_too_deep}
use Rattle.dm_output.specs.Output.{MethodTree}
use Rattle.dm_attr.specs.Skips.{is_skipped}
use Rattle.dm_generics.specs.Words.{word}
use Rattle.dm_operands.specs.Marked.{MarkedCase, marked}
use Rattle.dm_operands.specs.Kept.{some_compared}
use Rattle.dm_operators.specs.Operators.{Operator}
use Rattle.dm_operators.specs.Attributes.{skips, cases_for, form_in}
use Rattle.dm_operators.specs.Implementations.{method_of, item_of}
use Rattle.dm_partial_eq.specs.Emitted as emitted
use Rattle.dm_reread.specs.Bare.{bare_method, bare_item}
use Rattle.dm_reread.specs.Grammar.{IsName}
use Rattle.dm_reread.specs.ItemGrammar.{IsMethod, AreMethods}
use Rattle.dm_reread.specs.ReadBack.{leaf_grammar, IsOutputItem}
use Rattle.dm_head_laws.specs.Parts.{Each}
use Rattle.dm_derived_laws.proofs.NeededAlone.{calls_for, EachField}
use Rattle.dm_emitted_laws.specs.Parts.{OperatorNamed}
use Rattle.dm_emitted_laws.proofs.NamesDeclared.{names_declared, cases_ready}
use Rattle.dm_emitted_laws.proofs.OperatorNames.{eq_named, ne_named}
use Rattle.dm_emitted_laws.proofs.OperatorBodies.{operator_body}
use Rattle.dm_emitted_laws.specs.Ready.{CaseReady}
use Rattle.dm_emitted_laws.proofs.ComparisonBodies.{HasBlock, body_block, each_method, equal_parts, unequal_parts, and_joins, or_joins}
use Rattle.dm_emitted_laws.proofs.EmittedTypes.{operator_types, comparison_types}
use Rattle.dm_emitted_laws.proofs.EmittedHeads.{operator_head, comparison_head}

module _ (d : Declaration) (limit : ℕ) (ts : Trees) (m : Marks) (s : SpelledBy d limit ts m) (within : first_too_deep m ≡ None)
    (plain : EachField (λ x. calls_for x ≡ false) d) where
  pub operator_item : (o : Operator) → OperatorNamed o → IsOutputItem (bare_item (item_of o d))
  operator_item o named =
      let types = operator_types d limit ts m s within o in
      let body = operator_body (form_in o d) o d (cases_for o d) named (names_declared d limit ts m s within).ident
      (cases_ready d limit ts m s within (skips o)) in
      (operator_head d limit ts m s within plain o named (method_of o d), (types.0, (((named.method_named, types.1), (types.2, body)), tt)))

  -- `eq`, or `ne`, whichever it is
  method_is : (c : _) → IsName (word (emitted.method_name c)) → (vs : List MarkedCase) → HasBlock (emitted.method c d vs) →
      IsMethod leaf_grammar (bare_method (emitted.method c d vs))
  method_is c named vs body =
      let types = comparison_types c (emitted.body c d vs) in
      ((named, types.0), (types.1, body))

  each_is : (ms : List MethodTree) → Each (λ x. IsMethod leaf_grammar (bare_method x)) ms → AreMethods leaf_grammar (map bare_method ms)
  each_is [] h = tt
  each_is (x ∷ xs) h = (h.0, each_is xs h.1)

  comparison_methods : (vs : List MarkedCase) → Each CaseReady vs → Each (λ x. IsMethod leaf_grammar (bare_method x)) (emitted.methods d vs)
  comparison_methods vs h =
      each_method (λ x. IsMethod leaf_grammar (bare_method x)) (some_compared vs) _ _
      (search (method_is, eq_named, body_block, equal_parts, and_joins, h)) (search (method_is, ne_named, body_block, unequal_parts, or_joins, h))

  pub comparison_item : IsOutputItem (bare_item (emitted.item d))
  comparison_item =
      let vs = marked is_skipped d in
      let ms = emitted.methods d vs in (
        comparison_head d limit ts m s within plain ms,
        (tt, each_is ms (comparison_methods vs (cases_ready d limit ts m s within is_skipped))),
      )
