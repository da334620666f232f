-- The rows of associated types and of signatures.
use Rattle.std.proofs.Common.{◌≡◌, Bool, true, false, cond, Option, Some, None, refl, ap, ◌∙◌}
use Rattle.std.proofs.lemmas.Grind.{common_steps}
use Rattle.dm_stream.specs.declared.tokens.Delim.TheVariants.{Paren}
use Rattle.dm_stream.specs.declared.tokens.Ident.{Ident}
use Rattle.dm_stream.specs.Trees.{Trees, no_trees, token, group}
use Rattle.dm_ast.specs.Keywords.{is_name}
use Rattle.dm_ast.specs.Spelling.{at_end}
use Rattle.dm_ast.specs.Tree.{TypeTree}
use Rattle.dm_output.specs.Output.{ParamOfMethod}
use Rattle.dm_output.specs.declared.item.Receiver.{Receiver}
use Rattle.dm_output.specs.declared.item.Receiver.TheVariants as receiver
use Rattle.dm_reread.specs.Next.{k_mut, k_type, Next, ended, amp, comma, arrow, in_parens, a_name, a_word, next}
use Rattle.dm_reread.specs.Reading.{then, provided, whole, colon_after, comma_after}
use Rattle.dm_reread.specs.ReadBack.{leaves}
use Rattle.dm_reread.specs.Items.{Inputs, param_from, behind_receiver, self_from, ref_input, read_inputs, inputs_after, output_after}
use Rattle.dm_read_places.specs.declared.front.Keyword.TheVariants as keyword
use Rattle.dm_read_places.specs.declared.front.Sign.TheVariants as sign
use Rattle.dm_read_places.specs.declared.list.Turn.TheVariants.{End}
use Rattle.dm_read_places.specs.Fronts.{is_sign, is_keyword, is_name_next, is_group_next}
use Rattle.dm_read_places.specs.Turns.{declared_at}
use Rattle.dm_read_heads.proofs.Fronts.{begun}
use Rattle.dm_read_heads.proofs.MemberLists.{assocs_are}
use Rattle.dm_read_heads.specs.Members.{assoc_turn_at, last_type, typed, with_param, behind_comma, only_param, is_declared}

-- ---- associated types

pub no_assocs : (ts : Trees) (m : Next) → is_keyword keyword.Type m ≡ false → assoc_turn_at ts m ≡ Some (End tt, ts)
no_assocs ts (a_word k_type us) e = absurd (cc)
no_assocs ts _ e = refl

-- ---- parameters

abbrev Typed : Type 0
Typed = Option ParamOfMethod

param_typed : (i : Ident) (o : Option Trees) →
    then {B = ParamOfMethod} o (λ us. then (whole (leaves.type us)) (λ x. Some (record { name = i; ty = x }))) ≡
    then {A = TypeTree} {B = ParamOfMethod} (then o last_type) (λ x. Some (record { name = i; ty = x }))
param_typed i None = refl
param_typed i (Some us) = refl

pub param_is : (m : Next) →
    param_from leaves m ≡ then {A = Ident × Trees} {B = ParamOfMethod} (declared_at m) (λ s. then (typed s.1) (λ x. Some (record { name = s.0; ty = x })))
param_is (a_name i ts) = by (is_name i)
  where
    by : (b : Bool) →
        provided b (then {B = ParamOfMethod} (colon_after (next ts)) (λ us. then (whole (leaves.type us)) (λ x. Some (record { name = i; ty = x })))) ≡
        then {A = Ident × Trees} {B = ParamOfMethod} (provided b (Some (i, ts))) (λ s. then (typed s.1) (λ x. Some (record { name = s.0; ty = x })))
    by true = param_typed i (colon_after (next ts))
    by false = refl
param_is _ = refl

-- ---- receivers

pub receiver_alone : (r : Receiver) (ts : Trees) → at_end ts ≡ true → behind_receiver leaves r (next ts) ≡ Some (Some r, None)
receiver_alone r no_trees e = refl
receiver_alone r (token k ts) e = absurd (cc)
receiver_alone r (group d from inside upto ts) e = absurd (cc)

comma_first : (r : Receiver) (m : Next) → (m ≡ ended → ⊥) →
    behind_receiver leaves r m ≡ then {A = Trees} {B = Inputs} (comma_after m) (with_param r)
comma_first r ended f = absurd (f refl)
comma_first r (comma ts) f = ap {B = Option Inputs} (λ o. then o (λ p. Some (Some r, Some p))) (param_is (next ts))
comma_first r _ f = refl

pub receiver_more : (r : Receiver) (ts : Trees) → at_end ts ≡ false → behind_receiver leaves r (next ts) ≡ behind_comma r ts
receiver_more r ts f = comma_first r (next ts) (begun ts f)

pub not_self : (r : Receiver) (m : Next) → is_name_next m ≡ false → self_from leaves r m ≡ None
not_self r (a_name i ts) e = absurd (cc)
not_self r _ e = refl

pub shared : (m : Next) → is_keyword keyword.Mut m ≡ false → ref_input leaves m ≡ self_from leaves receiver.Ref m
shared (a_word k_mut ts) e = absurd (cc)
shared _ e = refl

-- ---- what stands in parentheses

pub no_inputs : (ts : Trees) → at_end ts ≡ true → read_inputs leaves (next ts) ≡ Some (None, None)
no_inputs no_trees e = refl
no_inputs (token k ts) e = absurd (cc)
no_inputs (group d from inside upto ts) e = absurd (cc)

pub undeclared : (m : Next) → is_name_next m ≡ false → is_declared m ≡ false
undeclared (a_name i ts) e = absurd (cc)
undeclared _ e = refl

declared_first : (m : Next) → is_declared m ≡ true → read_inputs leaves m ≡ then {A = ParamOfMethod} {B = Inputs} (param_from leaves m) (λ p. Some (None, Some p))
declared_first (a_name i ts) e =
    ap (λ b. cond b (then {A = ParamOfMethod} {B = Inputs} (param_from leaves (a_name i ts)) (λ p. Some (None, Some p))) (self_from leaves receiver.Value (a_name i ts))) e
declared_first _ e = absurd (cc)

pub param_first : (ts : Trees) → is_declared (next ts) ≡ true → read_inputs leaves (next ts) ≡ only_param ts
param_first ts e = declared_first (next ts) e ∙ ap {B = Option Inputs} (λ o. then o (λ p. Some (None, Some p))) (param_is (next ts))

pub value_first : (m : Next) → (m ≡ ended → ⊥) → is_sign sign.Amp m ≡ false → is_declared m ≡ false →
    read_inputs leaves m ≡ self_from leaves receiver.Value m
value_first ended f e h = absurd (f refl)
value_first (amp ts) f e h = absurd (cc)
value_first (a_name i ts) f e h =
    ap (λ b. cond b (then {A = ParamOfMethod} {B = Inputs} (param_from leaves (a_name i ts)) (λ p. Some (None, Some p))) (self_from leaves receiver.Value (a_name i ts))) h
value_first _ f e h = refl

pub no_parens : (m : Next) → is_group_next Paren m ≡ false → inputs_after leaves m ≡ None
no_parens (in_parens inside ts) e = absurd (cc)
no_parens _ e = refl

pub no_output : (ts : Trees) (m : Next) → is_sign sign.Arrow m ≡ false → output_after leaves ts m ≡ Some (None, ts)
no_output ts (arrow us) e = absurd (cc)
no_output ts _ e = refl

pub type_left : (x : TypeTree) (ts : Trees) → at_end ts ≡ false → whole (Some (x, ts)) ≡ None
type_left x no_trees e = absurd (cc)
type_left x (token k ts) e = refl
type_left x (group d from inside upto ts) e = refl

pub ruleset member_steps = (common_steps, assocs_are, no_assocs, receiver_alone, receiver_more, not_self, shared, no_inputs, undeclared, param_first, value_first, no_parens, no_output, type_left)
