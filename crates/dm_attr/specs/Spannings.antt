-- An item with its range.
use Rattle.std.specs.Prelude.{Option, Some, None}
use Rattle.std.specs.Borrow.{Lends, MutBor, Fml}
use denote.RattleType.{RattleType}
use Rattle.dm_stream.specs.declared.tokens.Span.{Span}
use Rattle.dm_attr.specs.contracts.spanning.Spanning.{the_row}
use Rattle.dm_attr.specs.declared.spanning.Spanning.{Spanning}

abbrev pub over_span : {T : Type 0} → Span → Option T → Option (Spanning T)
over_span s None = None
over_span s (Some x) = Some (record { span = s; item = x })

-- the item with the range, where there is one
abbrev pub transposed : {T : Type 0} → Spanning (Option T) → Option (Spanning T)
transposed s = over_span s.span s.item

-- what is written through the item is the item that the value then has
abbrev pub LendsItem : (R : RattleType) → MutBor (Spanning R.Denot) → MutBor R.Denot → Fml
LendsItem R s r = Lends (the_row R) R s r (λ x. record { span = s.now.span; item = x })
