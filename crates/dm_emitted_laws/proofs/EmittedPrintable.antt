-- What operators and `PartialEq` emit for a declaration that was read from writable and shallow trees is printable.
use Rattle.std.proofs.Common.{◌≡◌, ℕ, ◌∷◌, [], None, false}
use Rattle.dm_stream.specs.declared.levels.TheConstants.{DEEPEST}
use Rattle.dm_stream.specs.Trees.{Trees}
use Rattle.dm_lexer.specs.Written.{AreWritable, AreShallow}
use Rattle.dm_ast.specs.Declarations.{Declaration}
use Rattle.dm_ast.specs.Parsed.{SpelledBy}
use Rattle.dm_ast.specs.Spelling.{Marks, first_too_deep}
use Rattle.dm_output.specs.Output.{ItemTree}
use Rattle.dm_operators.specs.Laws.{AreFew}
use Rattle.dm_operators.specs.Operators.{Operator, IsOperator}
use Rattle.dm_operators.specs.Implementations.{item_of}
use Rattle.dm_partial_eq.specs.Emitted as emitted
use Rattle.dm_levels.specs.Levels.{items_levels}
use Rattle.dm_levels.specs.Low.{AllLow}
use Rattle.dm_written.specs.Fitting.{ItemFits}
use Rattle.dm_written.proofs.FittedItems.{items_fit}
use Rattle.dm_reread.specs.Bare.{bare_item}
use Rattle.dm_reread.specs.ReadBack.{IsOutputItem}
use Rattle.dm_derived_laws.proofs.NeededAlone.{calls_for, EachField}
use Rattle.dm_emitted_laws.specs.Printable.{IsPrintable}
use Rattle.dm_emitted_laws.proofs.OperatorNames.{operator_names}
use Rattle.dm_emitted_laws.proofs.EmittedItems.{operator_item, comparison_item}
use Rattle.dm_emitted_laws.proofs.ItemsFit.{operator_fits, comparison_fits}
use Rattle.dm_emitted_laws.proofs.LowItems.{operator_item_low, comparison_item_low}

printable : (i : ItemTree) → IsOutputItem (bare_item i) → ItemFits DEEPEST i → AllLow (items_levels (i ∷ [])) → IsPrintable i
printable i item fits low =
    let written = items_fit DEEPEST (i ∷ []) (fits, tt) in
    record { is_item = (item, tt); writable = written.0; shallow = written.1; low = low }

module _ (d : Declaration) (limit : ℕ) (ts : Trees) (m : Marks) (s : SpelledBy d limit ts m) (within : first_too_deep m ≡ None)
    (writable : AreWritable ts) (shallow : AreShallow ts) (plain : EachField (λ x. calls_for x ≡ false) d) where
  pub operator_printable : (o : Operator) → IsOperator o → AreFew o d → IsPrintable (item_of o d)
  operator_printable o is few =
      let item = operator_item d limit ts m s within plain o (operator_names is.name o is.found) in
      printable (item_of o d) item (operator_fits d limit ts m s writable shallow o is few) (operator_item_low o d item.0)

  pub comparison_printable : IsPrintable (emitted.item d)
  comparison_printable =
      let item = comparison_item d limit ts m s within plain in
      printable (emitted.item d) item (comparison_fits d limit ts m s writable shallow) (comparison_item_low d item.0)
