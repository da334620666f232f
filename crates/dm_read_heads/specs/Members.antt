-- Parts of associated types and of methods' signatures that functions of their own read.
use Rattle.std.specs.Prelude.{ℕ, Bool, false, List, Option, Some, None}
use Rattle.dm_stream.specs.declared.tokens.Ident.{Ident}
use Rattle.dm_stream.specs.Trees.{Trees}
use Rattle.dm_ast.specs.Keywords.{is_name}
use Rattle.dm_ast.specs.Tree.{TypeTree}
use Rattle.dm_output.specs.Output.{AssocTree, BlockTree, MethodTree, ParamOfMethod}
use Rattle.dm_output.specs.declared.item.ItemAttr.{ItemAttr}
use Rattle.dm_output.specs.declared.item.Receiver.{Receiver}
use Rattle.dm_reread.specs.Next.{Next, k_type, a_name, a_word, next}
use Rattle.dm_reread.specs.Leaves.{Answer}
use Rattle.dm_reread.specs.Reading.{then, whole, assigns_after, semicolon_after, colon_after, comma_after}
use Rattle.dm_reread.specs.Items.{Inputs, inputs_after, output_after}
use Rattle.dm_reread.specs.ReadBack.{leaves}
use Rattle.dm_read_places.specs.declared.list.Turn.{Turn}
use Rattle.dm_read_places.specs.declared.list.Turn.TheVariants.{One, End}
use Rattle.dm_read_places.specs.Turns.{declared_at}

-- ---- associated types

-- a type and a semicolon
abbrev pub type_ended : Trees → Answer TypeTree
type_ended ts = then (leaves.type ts) (λ a. then (semicolon_after (next a.1)) (λ us. Some (a.0, us)))

-- `=`, a type and a semicolon
abbrev pub type_assigned : Trees → Answer TypeTree
type_assigned ts = then (assigns_after (next ts)) type_ended

-- a name and its type
abbrev pub assoc_at : Next → Answer AssocTree
assoc_at m = then (declared_at m) (λ s. then (type_assigned s.1) (λ a. Some (record { name = s.0; ty = a.0 }, a.1)))

abbrev pub assoc_turn_at : Trees → Next → Answer (Turn AssocTree (Unit {0}))
assoc_turn_at ts (a_word k_type us) = then (assoc_at (next us)) (λ a. Some (One a.0, a.1))
assoc_turn_at ts _ = Some (End tt, ts)

-- `type` and an associated type
abbrev pub assoc_turn : ℕ → Trees → Answer (Turn AssocTree (Unit {0}))
assoc_turn n ts = assoc_turn_at ts (next ts)

-- ---- signatures

-- a type, to the end
abbrev pub last_type : Trees → Option TypeTree
last_type ts = whole (leaves.type ts)

-- `:` and a type, to the end
abbrev pub typed : Trees → Option TypeTree
typed ts = then (colon_after (next ts)) last_type

-- a name and its type, to the end
abbrev pub param_at : Trees → Option ParamOfMethod
param_at ts = then (declared_at (next ts)) (λ s. then (typed s.1) (λ x. Some (record { name = s.0; ty = x })))

-- a parameter behind a receiver
abbrev pub with_param : Receiver → Trees → Option Inputs
with_param r ts = then (param_at ts) (λ p. Some (Some r, Some p))

-- the same behind a comma
abbrev pub behind_comma : Receiver → Trees → Option Inputs
behind_comma r ts = then (comma_after (next ts)) (with_param r)

-- a parameter without a receiver
abbrev pub only_param : Trees → Option Inputs
only_param ts = then (param_at ts) (λ p. Some (None, Some p))

-- whether a name that may be declared comes first
abbrev pub is_declared : Next → Bool
is_declared (a_name i ts) = is_name i
is_declared _ = false

-- what a method takes, and what it gives
abbrev pub Signature : Type 0
Signature = Inputs × Option TypeTree

-- parameters in parentheses, and perhaps a type behind `->`
abbrev pub signature_at : Trees → Answer Signature
signature_at ts = then (inputs_after leaves (next ts)) (λ p. then (output_after leaves p.1 (next p.1)) (λ o. Some ((p.0, o.0), o.1)))

-- the method's name in front of them
abbrev pub named_signature : Trees → Answer (Ident × Signature)
named_signature ts = then (declared_at (next ts)) (λ s. then (signature_at s.1) (λ x. Some ((s.0, x.0), x.1)))

-- a method of its attributes, its name, what it takes and gives, and its body
abbrev pub method_of : List ItemAttr → Bool → Ident → Signature → BlockTree → MethodTree
method_of as' is_const i s b =
    record { attrs = as'; is_const = is_const; name = i; receiver = s.0.0; param = s.0.1; output = s.1; body = b }
