-- A method by its parts, and methods in turn.
use Rattle.std.proofs.Common.{◌≡◌, ℕ, suc, Bool, true, false, List, Option, Some, None, refl, ◌∙◌}
use Rattle.dm_stream.specs.declared.tokens.Ident.{Ident}
use Rattle.dm_stream.specs.Trees.{Trees}
use Rattle.dm_ast.specs.Keywords.{is_name}
use Rattle.dm_ast.specs.Tree.{TypeTree}
use Rattle.dm_output.specs.Output.{BlockTree, MethodTree}
use Rattle.dm_output.specs.declared.item.ItemAttr.{ItemAttr}
use Rattle.dm_reread.specs.Next.{k_const, k_fn, Next, a_name, a_word, next}
use Rattle.dm_reread.specs.Leaves.{Answer}
use Rattle.dm_reread.specs.Reading.{then, provided}
use Rattle.dm_reread.specs.Items.{Inputs, inputs_after, output_after, body_after, name_of_method, fn_from, const_or_fn, read_attrs, read_method, read_methods}
use Rattle.dm_reread.specs.ReadBack.{leaves}
use Rattle.dm_reread.specs.Whole.{size}
use Rattle.dm_read_places.specs.Repeating.{repeat}
use Rattle.dm_read_places.specs.Turns.{declared_at}
use Rattle.dm_read_heads.proofs.Turned.{behind_same, AllParts, parts_are}
use Rattle.dm_read_heads.specs.Members.{Signature, signature_at}
use Rattle.dm_read_members.specs.Rows.{fn_at, const_fn, Behind, behind_fn, unnamed, made_method, method_turn}

-- ---- what stands behind the attributes

abbrev Methods : Type 0
Methods = MethodTree × Trees

abbrev Behinds : Type 0
Behinds = Behind × Trees

abbrev Signed : Type 0
Signed = (Ident × Signature) × Trees

module _ (as' : List ItemAttr) (is_const : Bool) where
  abbrev made : Behinds → Option Methods
  made b = Some (made_method as' (is_const, b.0), b.1)

  body_on : (s : Ident × Signature) (o : Answer BlockTree) →
      then {B = Methods} o (λ d. Some (made_method as' (is_const, (s, d.0)), d.1)) ≡ then {A = Behinds} {B = Methods} (then {B = Behinds} o (λ d. Some ((s, d.0), d.1))) made
  body_on s None = refl
  body_on s (Some d) = refl

  output_on : (i : Ident) (p : Inputs) (o : Answer (Option TypeTree)) →
      then {B = Methods} o (λ x. then (body_after leaves (next x.1)) (λ d. Some (made_method as' (is_const, ((i, (p, x.0)), d.0)), d.1))) ≡
      then {A = Behinds} {B = Methods}
      (then {A = Signed} {B = Behinds} (then {A = Signature × Trees} (then o (λ x. Some ((p, x.0), x.1))) (λ x. Some ((i, x.0), x.1)))
      (λ s. then {B = Behinds} (body_after leaves (next s.1)) (λ d. Some ((s.0, d.0), d.1)))) made
  output_on i p None = refl
  output_on i p (Some x) = body_on (i, (p, x.0)) (body_after leaves (next x.1))

  inputs_on : (i : Ident) (o : Answer Inputs) →
      then {B = Methods} o (λ p. then (output_after leaves p.1 (next p.1)) (λ x.
      then (body_after leaves (next x.1)) (λ d. Some (made_method as' (is_const, ((i, (p.0, x.0)), d.0)), d.1)))) ≡
      then {A = Behinds} {B = Methods}
      (then {A = Signed} {B = Behinds}
      (then {A = Signature × Trees} (then o (λ p. then (output_after leaves p.1 (next p.1)) (λ x. Some ((p.0, x.0), x.1)))) (λ x. Some ((i, x.0), x.1)))
      (λ s. then {B = Behinds} (body_after leaves (next s.1)) (λ d. Some ((s.0, d.0), d.1)))) made
  inputs_on i None = refl
  inputs_on i (Some p) = output_on i p.0 (output_after leaves p.1 (next p.1))

  name_on : (m : Next) →
      name_of_method leaves as' is_const m ≡
      then {A = Behinds} {B = Methods}
      (then {A = Signed} {B = Behinds}
      (then {A = Ident × Trees} (declared_at m) (λ s. then (signature_at s.1) (λ x. Some ((s.0, x.0), x.1))))
      (λ s. then {B = Behinds} (body_after leaves (next s.1)) (λ d. Some ((s.0, d.0), d.1)))) made
  name_on (a_name i ts) = by (is_name i)
    where
      by : (b : Bool) →
          provided b (then {B = Methods} (inputs_after leaves (next ts)) (λ p. then (output_after leaves p.1 (next p.1)) (λ x.
          then (body_after leaves (next x.1)) (λ d. Some (made_method as' (is_const, ((i, (p.0, x.0)), d.0)), d.1))))) ≡
          then {A = Behinds} {B = Methods}
          (then {A = Signed} {B = Behinds}
          (then {A = Ident × Trees} (provided b (Some (i, ts))) (λ s. then (signature_at s.1) (λ x. Some ((s.0, x.0), x.1))))
          (λ s. then {B = Behinds} (body_after leaves (next s.1)) (λ d. Some ((s.0, d.0), d.1)))) made
      by true = inputs_on i (inputs_after leaves (next ts))
      by false = refl
  name_on _ = refl

abbrev Unnamed : Type 0
Unnamed = (Bool × Behind) × Trees

module _ (as' : List ItemAttr) where
  abbrev made_all : Unnamed → Option Methods
  made_all b = Some (made_method as' b.0, b.1)

  abbrev with_const : Bool → Answer Behind → Answer (Bool × Behind)
  with_const c o = then o (λ b. Some ((c, b.0), b.1))

  const_on : (c : Bool) (o : Answer Behind) → then {B = Methods} o (made as' c) ≡ then {A = Unnamed} {B = Methods} (with_const c o) made_all
  const_on c None = refl
  const_on c (Some b) = refl

  fn_on : (c : Bool) (m : Next) →
      fn_from leaves as' c m ≡ then {A = Unnamed} {B = Methods} (then {A = Bool × Trees} {B = Unnamed} (fn_at c m) (λ x. with_const x.0 (behind_fn x.1))) made_all
  fn_on c (a_word k_fn ts) = name_on as' c (next ts) ∙ const_on c (behind_fn ts)
  fn_on c _ = refl

  unnamed_on : (m : Next) →
      const_or_fn leaves as' m ≡ then {A = Unnamed} {B = Methods} (then {A = Bool × Trees} {B = Unnamed} (const_fn m) (λ x. with_const x.0 (behind_fn x.1))) made_all
  unnamed_on (a_word k_const ts) = fn_on true (next ts)
  unnamed_on (a_word k_fn ts) = fn_on false (a_word k_fn ts)
  unnamed_on _ = refl

pub method_is : (ts : Trees) →
    read_method leaves ts ≡
    then {B = Methods} (read_attrs (suc (size ts)) ts) (λ a. then {A = Unnamed} {B = Methods} (unnamed a.1) (λ b. Some (made_method a.0 b.0, b.1)))
method_is ts = behind_same (λ a. unnamed_on a.0 (next a.1)) (read_attrs (suc (size ts)) ts)

-- ---- turns

pub methods_are : (n : ℕ) (ts : Trees) → read_methods leaves n ts ≡ AllParts (repeat method_turn n ts)
methods_are = parts_are (read_method leaves) (read_methods leaves) (λ ts. refl) (λ n ts. refl)
