-- The name of a declaration, those of its variants and those of its fields are names, since the grammar of declarations says so of what it
-- spells; and so are those of its cases with their marks, where a field in braces has one.
use Rattle.std.proofs.Common.{◌≡◌, ℕ, Bool, true, false, cond, List, [], map, Option, None, Some, refl, sym, subst}
use Rattle.std.specs.Prelude.{⊤}
use Rattle.dm_stream.specs.Trees.{Trees, no_trees}
use Rattle.dm_stream.specs.declared.tokens.Ident.{Ident}
use Rattle.dm_ast.specs.declared.plain.Attribute.{Attribute}
use Rattle.dm_ast.specs.Declarations.{Listed, FieldTree, FieldsTree, named, unnamed, unit, Declaration}
use Rattle.dm_ast.specs.Spelling.{Where, Marks, at_end, first_too_deep}
use Rattle.dm_ast.specs.DeclarationGrammar.{field_name, named_field, slot, braced, slots, shape, declaration}
use Rattle.dm_ast.specs.Runs.{run}
use Rattle.dm_ast.specs.Parsed.{SpelledBy}
use Rattle.dm_output.specs.Values.{Case, cases, field_list}
use Rattle.dm_operands.specs.declared.cases.Form.TheVariants as forms
use Rattle.dm_operands.specs.Marked.{form_of, mark_field, mark_case, marked}
use Rattle.dm_operands.specs.Sides.{field_ident}
use Rattle.dm_reread.specs.Grammar.{IsName}
use Rattle.dm_head_laws.specs.Parts.{Each}
use Rattle.dm_head_laws.proofs.HeadParts.{each_by}
use Rattle.dm_head_laws.proofs.DeclaredParts.{From, first_from, rest_from, ranged_from, group_from, inside_of, each_item, each_map, CaseOf, shape_holds}
use Rattle.dm_emitted_laws.specs.Parts.{IfNamed, FieldNamed, CaseNamed, IsNamed}
use Rattle.dm_emitted_laws.specs.Ready.{CaseReady}

-- ---- what is spelled

-- there is a name
abbrev HasName : Option Ident → Type 0
HasName None = ⊥
HasName (Some i) = IsName i

-- each field has a name in braces, and none does in parentheses
abbrev FieldsSpelled : FieldsTree → Type 0
FieldsSpelled (named fs) = Each (λ f. HasName f.ident) fs.items
FieldsSpelled (unnamed fs) = Each (λ f. f.ident ≡ None) fs.items
FieldsSpelled unit = ⊤

abbrev CaseSpelled : Case → Type 0
CaseSpelled = CaseOf FieldsSpelled

field_spelled : (found : Option Ident) (w : Where) (ts : Trees) → From (field_name found w) ts → HasName found
field_spelled None w ts x = x.spelled.fact
field_spelled (Some i) w ts x = x.spelled.first.fact

braced_spelled : (fs : Listed FieldTree) (w : Where) (ts : Trees) → From (braced fs w) ts → Each (λ f. HasName f.ident) fs.items
braced_spelled fs w ts x =
    let v = inside_of w x.spelled.closer.start in
    each_item (λ f. named_field f v) (λ f. HasName f.ident)
    (λ f us s. field_spelled f.ident v _ (first_from (rest_from (rest_from (ranged_from s))))) v 44 at_end fs.items fs.trailing _
    (group_from x)

slots_spelled : (fs : Listed FieldTree) (w : Where) (ts : Trees) → From (slots fs w) ts → Each (λ f. f.ident ≡ None) fs.items
slots_spelled fs w ts x =
    let v = inside_of w x.spelled.closer.start in
    each_item (λ f. slot f v) (λ f. f.ident ≡ None) (λ f us s. s.spelled.fact) v 44 at_end fs.items fs.trailing _ (group_from x)

spelled : (d : Declaration) (limit : ℕ) (ts : Trees) (m : Marks) → SpelledBy d limit ts m → first_too_deep m ≡ None →
    IsName d.ident × Each CaseSpelled (cases d)
spelled d limit ts m s within =
    let w : Where = record { level = 0; limit = limit } in
    let x : From (declaration run d w) ts = record { others = no_trees; marks = m; spelled = s.spelled; within = within } in
    shape_holds FieldsSpelled braced_spelled slots_spelled tt d.attrs d.ident d.generics w d.shape _ (rest_from (rest_from x))

-- ---- the names of a declaration

if_named : (found : Option Ident) → HasName found → IfNamed found
if_named None h = tt
if_named (Some i) h = h

fields_named : (fs : FieldsTree) → FieldsSpelled fs → Each FieldNamed (field_list fs)
fields_named (named fs) h = each_by (λ f k. if_named f.ident k) fs.items h
fields_named (unnamed fs) h = each_by (λ f k. subst IfNamed (sym k) tt) fs.items h
fields_named unit h = tt

case_named : (c : Case) → CaseSpelled c → CaseNamed c
case_named c h = record { ident = h.0; fields = fields_named c.fields h.1 }

pub names_declared : (d : Declaration) (limit : ℕ) (ts : Trees) (m : Marks) → SpelledBy d limit ts m → first_too_deep m ≡ None → IsNamed d
names_declared d limit ts m s within =
    let h = spelled d limit ts m s within in record { ident = h.0; each_case = each_by case_named (cases d) h.1 }

-- ---- those of cases with their marks

module _ (leaves_out : List Attribute → Bool) where
  -- what holds of each field holds of each that is marked
  fields_marked : (P : FieldTree → Type 0) (b : Bool) (fs : List FieldTree) → Each P fs →
      Each (λ f. P f.field) (cond b [] (map (mark_field leaves_out) fs))
  fields_marked P true fs h = tt
  fields_marked P false fs h = each_map (λ f. P f.field) (mark_field leaves_out) fs h

  -- what follows from a name holds in braces
  braces_marked : (Q : Option Ident → Type 0) → ((found : Option Ident) → HasName found → Q found) → (b : Bool) (fs : FieldsTree) →
      FieldsSpelled fs → form_of fs ≡ forms.Named → Each (λ f. Q f.field.ident) (cond b [] (map (mark_field leaves_out) (field_list fs)))
  braces_marked Q follows b (named fs) h e = fields_marked (λ f. Q f.ident) b fs.items (each_by (λ f k. follows f.ident k) fs.items h)
  braces_marked Q follows b (unnamed fs) h e = absurd (cc)
  braces_marked Q follows b unit h e = absurd (cc)

some_name : (found : Option Ident) → HasName found → (i : Ident) × (found ≡ Some i)
some_name None h = absurd h
some_name (Some i) h = (i, refl)

ready_name : (found : Option Ident) → HasName found → IsName (field_ident found)
ready_name None h = absurd h
ready_name (Some i) h = h

module _ (d : Declaration) (limit : ℕ) (ts : Trees) (m : Marks) (s : SpelledBy d limit ts m) (within : first_too_deep m ≡ None) where
  pub cases_ready : (leaves_out : List Attribute → Bool) → Each CaseReady (marked leaves_out d)
  cases_ready leaves_out =
      each_map CaseReady (mark_case leaves_out) (cases d)
      (each_by {P = CaseSpelled} (λ c h. record {
        ident = h.0;
        named = braces_marked leaves_out (λ o. IsName (field_ident o)) ready_name (leaves_out c.attrs) c.fields h.1;
      }) (cases d) (spelled d limit ts m s within).1)
