-- In the implementations that operators and `PartialEq` emit no token stands too deep, where their heads are of the grammar.
use Rattle.std.proofs.Common.{ℕ, ◌+◌, ◌≤◌, Bool, true, false, List, [], ◌∷◌, map, codes, Option, Some, None, arith}
use Rattle.std.specs.Prelude.{⊤}
use Rattle.dm_stream.specs.Layout.{nowhere}
use Rattle.dm_ast.specs.Spelling.{deepest}
use Rattle.dm_ast.specs.Tree.{TypeTree, type_tree, path, no_self, angle, type_arg, arguments_of}
use Rattle.dm_ast.specs.Declarations.{ParamTree, lifetime_param, type_param, const_param, Declaration}
use Rattle.dm_ast.specs.Implementors.{plain_path, name_type, params_of, argument, arguments, implementor}
use Rattle.dm_output.specs.Output.{AssocTree, ParamOfMethod, MethodTree, ItemTree}
use Rattle.dm_output.specs.declared.item.Receiver.{Receiver}
use Rattle.dm_output.specs.declared.item.Receiver.TheVariants as receiver
use Rattle.dm_output.specs.Values.{is_enum}
use Rattle.dm_generics.specs.Words.{word, words, self_type, ref_self}
use Rattle.dm_operands.specs.Kept.{some_compared}
use Rattle.dm_operands.specs.Marked.{MarkedCase, marked}
use Rattle.dm_attr.specs.Skips.{is_skipped}
use Rattle.dm_type_levels.specs.TypeLevels.{type_levels, each_argument, arguments_levels}
use Rattle.dm_levels.specs.Low.{AllLow}
use Rattle.dm_levels.specs.Levels.{assoc_levels, inputs_levels, receiver_levels, output_levels, method_levels, items_levels}
use Rattle.dm_reread.specs.Bare.{bare_item}
use Rattle.dm_reread.specs.Items.{head_of}
use Rattle.dm_reread.specs.HeadLeaves.{IsHead}
use Rattle.dm_head_laws.specs.Parts.{Each}
use Rattle.dm_head_laws.proofs.DeclaredParts.{each_map}
use Rattle.dm_operators.specs.Operators.{Form, structural, scalar, unary, Operator}
use Rattle.dm_operators.specs.Attributes.{cases_for, form_in}
use Rattle.dm_operators.specs.Meaning.{has_unit}
use Rattle.dm_operators.specs.Heads.{result_of, binary_output, unary_output, output_type, assocs, own_output, returned, method_param, method_output}
use Rattle.dm_operators.specs.Implementations.{method_in, item_with, item_of}
use Rattle.dm_partial_eq.specs.Emitted as emitted
use Rattle.dm_emitted_laws.proofs.LowBodies.{Low, low_none, low_next, low_one, low_two, low_both, low_grouped, low_spaced, low_given, low_in_turn, Reaches, reaches_more, chosen, path_reaches, operator_body_low, BodyLow, one_or_two, comparison_bodies_low}
use Rattle.dm_emitted_laws.proofs.LowDeclared.{attrs_low, head_low}

-- ---- types

abbrev TypeReaches : ℕ → TypeTree → Type 0
TypeReaches n x = Reaches n (λ k. type_levels k x)

type_more : (m n : ℕ) → m ≤ n → (x : TypeTree) → TypeReaches m x → TypeReaches n x
type_more m n le x h = reaches_more m n le (λ k. type_levels k x) h

self_reaches : (n : ℕ) → TypeReaches n self_type
self_reaches n k room = low_one k (omega arith)

ref_self_reaches : TypeReaches 1 ref_self
ref_self_reaches k room = let h : k ≤ deepest = omega arith in low_next k h (low_one (k + 1) room)

-- an argument for each parameter is one level deeper
each_low : (k : ℕ) → k ≤ deepest → (ps : List ParamTree) → Each Low (each_argument k (arguments_of (map argument ps)))
each_low k h [] = tt
each_low k h (lifetime_param as' l bs ∷ ps) = (low_one k h, each_low k h ps)
each_low k h (type_param as' i bs x ∷ ps) = (low_one k h, each_low k h ps)
each_low k h (const_param as' i t x ∷ ps) = (low_one k h, each_low k h ps)

arguments_low : (k : ℕ) → k + 1 ≤ deepest → (ps : List ParamTree) → Low (arguments_levels k (arguments ps))
arguments_low k room [] = low_none
arguments_low k room (p ∷ ps) =
    let h : k ≤ deepest = omega arith in
    let items : List (List ℕ) = each_argument (k + 1) (arguments_of (map argument (p ∷ ps))) in
    low_grouped k h (low_both (low_spaced (low_one (k + 1) room) true items (each_low (k + 1) room (p ∷ ps))) low_none)

implementor_reaches : (d : Declaration) → TypeReaches 1 (implementor d)
implementor_reaches d k room =
    let h : k ≤ deepest = omega arith in low_both (low_next k h (arguments_low k room (params_of d))) low_none

-- derive_more::core::result::Result<T, ERROR>
result_reaches : (n : ℕ) (x : TypeTree) (error : List (List ℕ)) → TypeReaches n x → TypeReaches (n + 1) (result_of x error)
result_reaches n x error r k room =
    let h : k ≤ deepest = omega arith in
    let i : k + 1 ≤ deepest = omega arith in
    let failure : TypeTree = type_tree (path no_self (plain_path (words error))) nowhere in
    let items : List (List ℕ) = type_levels (k + 1) x ∷ type_levels (k + 1) failure ∷ [] in
    let inside =
    low_spaced (low_one (k + 1) i) true items (r (k + 1) (omega arith), (path_reaches (words error) (k + 1) (omega arith), tt)) in
    let last : List ℕ = k ∷ arguments_levels k (angle false (arguments_of (type_arg x ∷ type_arg failure ∷ [])) false) in
    low_spaced (low_two k h) true ((k ∷ []) ∷ (k ∷ []) ∷ (k ∷ []) ∷ last ∷ [])
    (low_one k h, (low_one k h, (low_one k h, (low_next k h (low_grouped k h (low_both inside low_none)), tt))))

binary_output_reaches : (b : Bool) → TypeReaches 2 (binary_output b)
binary_output_reaches true = result_reaches 1 self_type (codes "derive_more" ∷ codes "BinaryError" ∷ []) (self_reaches 1)
binary_output_reaches false = self_reaches 2

unary_output_reaches : (d : Declaration) → TypeReaches 2 (unary_output d)
unary_output_reaches d =
    let names : List (List ℕ) = codes "derive_more" ∷ codes "UnitError" ∷ [] in
    chosen (TypeReaches 2) (has_unit d) (result_of (implementor d) names) (implementor d)
    (result_reaches 1 (implementor d) names (implementor_reaches d)) (type_more 1 2 (omega arith) (implementor d) (implementor_reaches d))

output_type_reaches : (form : Form) (d : Declaration) → TypeReaches 2 (output_type form d)
output_type_reaches structural d = binary_output_reaches (is_enum d)
output_type_reaches scalar d = self_reaches 2
output_type_reaches unary d = unary_output_reaches d

own_output_reaches : TypeReaches 2 own_output
own_output_reaches k room = path_reaches (words (codes "Self" ∷ codes "Output" ∷ [])) k (omega arith)

returned_reaches : (form : Form) (d : Declaration) → TypeReaches 2 (returned form d)
returned_reaches structural d = own_output_reaches
returned_reaches scalar d = own_output_reaches
returned_reaches unary d = unary_output_reaches d

-- ---- methods

-- the type of a parameter, at a method's level
abbrev ParamReaches : ℕ → Option ParamOfMethod → Type 0
ParamReaches n None = ⊤
ParamReaches n (Some p) = TypeReaches n p.ty

abbrev OutputReaches : ℕ → Option TypeTree → Type 0
OutputReaches n None = ⊤
OutputReaches n (Some x) = TypeReaches n x

receiver_low : (k : ℕ) → k ≤ deepest → (r : Receiver) → Low (receiver_levels k r)
receiver_low k h receiver.Value = low_one k h
receiver_low k h receiver.Ref = low_two k h
receiver_low k h receiver.RefMut = low_next k h (low_two k h)

inputs_low : (n k : ℕ) → k + n ≤ deepest → (r : Option Receiver) (p : Option ParamOfMethod) → ParamReaches n p → Low (inputs_levels k r p)
inputs_low n k room None None s = low_none
inputs_low n k room None (Some p) s = let h : k ≤ deepest = omega arith in low_next k h (low_next k h (s k room))
inputs_low n k room (Some r) None s = receiver_low k (omega arith) r
inputs_low n k room (Some r) (Some p) s =
    let h : k ≤ deepest = omega arith in
    low_both (receiver_low k h r) (low_next k h (low_next k h (low_next k h (s k room))))

output_low : (n k : ℕ) → k + n ≤ deepest → (x : Option TypeTree) → OutputReaches n x → Low (output_levels k x)
output_low n k room None s = low_none
output_low n k room (Some x) s = let h : k ≤ deepest = omega arith in low_next k h (low_next k h (s k room))

-- in an implementation, with types that reach two levels down at the most
method_low : (m : MethodTree) → ParamReaches 2 m.param → OutputReaches 2 m.output → BodyLow 1 m → Low (method_levels 1 m)
method_low m p x b =
    let h : 1 ≤ deepest = omega arith in
    low_both
    (low_both (attrs_low 1 (omega arith) m.attrs)
    (low_both (low_given m.is_const (low_one 1 h))
    (low_next 1 h
    (low_next 1 h
    (low_both (low_grouped 1 h (inputs_low 2 2 (omega arith) m.receiver m.param p)) (output_low 2 1 (omega arith) m.output x))))))
    (record { all = b })

assoc_low : (a : AssocTree) → TypeReaches 2 a.ty → Low (assoc_levels 1 a)
assoc_low a r =
    let h : 1 ≤ deepest = omega arith in low_next 1 h (low_next 1 h (low_next 1 h (low_both (r 1 (omega arith)) (low_one 1 h))))

-- ---- implementations

item_low : (i : ItemTree) → IsHead (head_of (bare_item i)) → Each (λ a. Low (assoc_levels 1 a)) i.assocs →
    Each (λ m. Low (method_levels 1 m)) i.methods →
    AllLow (items_levels (i ∷ []))
item_low i h as' ms =
    let members =
    low_both (low_in_turn (map (assoc_levels 1) i.assocs) (each_map Low (assoc_levels 1) i.assocs as'))
    (low_in_turn (map (method_levels 1) i.methods) (each_map Low (method_levels 1) i.methods ms)) in
    let low : Low (items_levels (i ∷ [])) = low_both (low_both (head_low i h) (low_grouped 0 (omega arith) members)) low_none in
    low.all

-- operators

param_reaches : (form : Form) → ParamReaches 2 (method_param form)
param_reaches structural = self_reaches 2
param_reaches scalar = λ k room. low_one k (omega arith)
param_reaches unary = tt

module _ (form : Form) (o : Operator) (d : Declaration) where
  assocs_low : Each (λ a. Low (assoc_levels 1 a)) (assocs form o d)
  assocs_low =
      let a : AssocTree = record { name = word (codes "Output"); ty = output_type form d } in
      chosen (Each (λ x. Low (assoc_levels 1 x))) o.assigning [] (a ∷ []) tt (assoc_low a (output_type_reaches form d), tt)

  method_output_reaches : OutputReaches 2 (method_output form o d)
  method_output_reaches = chosen (OutputReaches 2) o.assigning None (Some (returned form d)) tt (returned_reaches form d)

  -- with whichever cases
  pub operation_low : (cs : List MarkedCase) → IsHead (head_of (bare_item (item_with form o d (method_in form o d cs)))) →
      AllLow (items_levels (item_with form o d (method_in form o d cs) ∷ []))
  operation_low cs h =
      let m : MethodTree = method_in form o d cs in
      item_low (item_with form o d m) h assocs_low
      (method_low m (param_reaches form) method_output_reaches (operator_body_low 1 form o d cs (omega arith)), tt)

pub operator_item_low : (o : Operator) (d : Declaration) → IsHead (head_of (bare_item (item_of o d))) →
    AllLow (items_levels (item_of o d ∷ []))
operator_item_low o d h = operation_low (form_in o d) o d (cases_for o d) h

-- `PartialEq`

-- the types of a method
abbrev TypesReach : MethodTree → Type 0
TypesReach m = ParamReaches 2 m.param × OutputReaches 2 m.output

comparison_types_reach : (d : Declaration) (vs : List MarkedCase) → Each TypesReach (emitted.methods d vs)
comparison_types_reach d vs = one_or_two TypesReach (some_compared vs) _ _ types types
  where
    param : TypeReaches 2 ref_self
    param = type_more 1 2 (omega arith) ref_self ref_self_reaches

    output : TypeReaches 2 (name_type (word (codes "bool")))
    output k room = low_one k (omega arith)

    types : TypeReaches 2 ref_self × TypeReaches 2 (name_type (word (codes "bool")))
    types = (param, output)

comparisons_low : (ms : List MethodTree) → Each TypesReach ms → Each (BodyLow 1) ms → Each (λ m. Low (method_levels 1 m)) ms
comparisons_low [] r b = tt
comparisons_low (m ∷ ms) r b = (method_low m r.0.0 r.0.1 b.0, comparisons_low ms r.1 b.1)

pub comparison_item_low : (d : Declaration) → IsHead (head_of (bare_item (emitted.item d))) → AllLow (items_levels (emitted.item d ∷ []))
comparison_item_low d h =
    let vs : List MarkedCase = marked is_skipped d in
    item_low (emitted.item d) h tt
    (comparisons_low (emitted.methods d vs) (comparison_types_reach d vs) (comparison_bodies_low 1 d vs (omega arith)))
