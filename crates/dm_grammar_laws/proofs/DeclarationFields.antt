-- Fields and variants: what their readers decide.
use Rattle.std.proofs.Common.{◌≡◌, Bool, true, false, ◌||◌, if◌then◌else◌, List, [], codes, Option, Some, None, Ok, refl, ap, ◌∙◌}
use Rattle.dm_stream.specs.declared.tokens.Span.{Span}
use Rattle.dm_stream.specs.declared.tokens.Delim.TheVariants.{Paren, Brace}
use Rattle.dm_stream.specs.declared.tokens.Ident.{Ident}
use Rattle.dm_stream.specs.Trees.{Trees}
use Rattle.dm_ast.specs.declared.plain.Attribute.{Attribute}
use Rattle.dm_ast.specs.declared.plain.Vis.{Vis}
use Rattle.dm_ast.specs.declared.plain.Opaque.{Opaque}
use Rattle.dm_ast.specs.Tree.{TypeTree}
use Rattle.dm_ast.specs.Declarations.{FieldTree, FieldsTree, named, unnamed, unit, VariantTree}
use Rattle.dm_ast.specs.Spelling.{Where, Marks, Spelling, ◌then◌, at_end, sees, sees_word, sees_group, keyword, colon, GroupAt}
use Rattle.dm_ast.specs.TypeGrammar.{name, attribute, attributes, type_spelled}
use Rattle.dm_ast.specs.DeclarationGrammar.{listed, restriction, visibility, field_name, named_field, slot, braced, slots, variant_fields, discriminant, variant, variants}
use Rattle.dm_ast.specs.Readers.{Parser, ◌and◌, ◌till◌, ◌gives◌, read_colon, inside_at, ranged}
use Rattle.dm_read.specs.DeclarationReaders.{Parts, to_field, to_slot, to_variant, read_name, read_listed, read_field, read_slot, read_fields, read_slots, read_variant_fields, read_discriminant, read_variant, read_variants}
use Rattle.dm_read.proofs.Deciding.{Same, Reader, Image, Both, covers_none, decides_by, decides_test, nothing_same, pair, reads_and, reads_till}
use Rattle.dm_read.proofs.Groups.{group_seen, reads_group}
use Rattle.dm_read_paths.proofs.Listing.{reads_ranged}
use Rattle.dm_read_paths.proofs.PlainParts.{reads_by}
use Rattle.dm_grammar_laws.proofs.TypeFronts.{Begins, behind_perhaps, behind_repeated, type_front, type_no_end}
use Rattle.dm_grammar_laws.proofs.DeclarationParts.{AreDecided, WithRange, both_ways, reads_name, reads_listed}
use Rattle.dm_grammar_laws.proofs.DeclarationGenerics.{reads_colon, behind_equals}

-- ---- parts behind attributes and a visibility

pub behind_marks : (w : Where) (attrs : List Attribute) (seen : Option Vis) (rest : Spelling) → Begins at_end false rest →
    Begins at_end false (attributes w attrs then (visibility w seen then rest))
behind_marks w attrs seen rest f =
    behind_repeated at_end false (visibility w seen then rest) (sees 35) attrs (attribute w) (λ a ts o m s. ap at_end s.part.first.there.spelled)
    (behind_perhaps at_end false rest (sees_word (codes "pub")) seen (λ v. keyword w (codes "pub") then restriction w v)
    (λ v ts o m s. ap at_end s.first.there.spelled) f)

pub field_front : (w : Where) (x : FieldTree) → Begins at_end false (named_field x w)
field_front w x ts o m s =
    behind_marks w x.attrs x.vis (field_name x.ident w then type_spelled x.ty false w) (by x.ident) ts o m s.part
  where
    by : (i : Option Ident) → Begins at_end false (field_name i w then type_spelled x.ty false w)
    by None = λ us p k r. absurd r.first.fact
    by (Some i) = λ us p k r. ap at_end r.first.first.part.spelled

pub slot_front : (w : Where) (x : FieldTree) → Begins at_end false (slot x w)
slot_front w x ts o m s =
    behind_marks w x.attrs x.vis (type_spelled x.ty false w) (λ us p k r. type_no_end us (type_front x.ty false w us p k r)) ts o m s.part.part

variant_front : (Run : Opaque → Where → Spelling) (w : Where) (x : VariantTree) → Begins at_end false (variant Run x w)
variant_front Run w x ts o m s =
    behind_marks w x.attrs x.vis (name w x.ident then (variant_fields x.fields w then discriminant Run x.discriminant w))
    (λ us p k r. ap at_end r.first.part.spelled) ts o m s.part

-- a group stands at one place with one delimiter
pub group_apart : (w : Where) (Inside : Where → Spelling) (ts o : Trees) (m : Marks) → GroupAt w Brace Inside ts o m → sees_group Paren ts ≡ false
group_apart w Inside ts o m s = ap (sees_group Paren) s.spelled

pub paren_apart : (w : Where) (Inside : Where → Spelling) (ts o : Trees) (m : Marks) → GroupAt w Paren Inside ts o m → sees_group Brace ts ≡ false
paren_apart w Inside ts o m s = ap (sees_group Brace) s.spelled

none_seen : (a b : Bool) → a ≡ false → b ≡ false → (a || b) ≡ false
none_seen a b e f = ap (λ v. v || b) e ∙ f

module _ (Run : Opaque → Where → Spelling) (p : Parts) (is : AreDecided Run p) where
  module _ (w : Where) where
    -- ---- fields

    abbrev Named : Ident × TypeTree → Spelling
    Named = Both (λ i. name w i then colon w) (λ t. type_spelled t false w)

    abbrev Marked : {A : Type 0} → (A → Spelling) → List Attribute × (Option Vis × A) → Spelling
    Marked Rest = Both (attributes w) (Both (visibility w) Rest)

    reads_marked : {A : Type 0} (Rest : A → Spelling) (rest : Parser A) → Reader Rest rest → Reader (Marked Rest) (p.attributes w and (p.visibility w and rest))
    reads_marked Rest rest h =
        reads_and (attributes w) (Both (visibility w) Rest) (p.attributes w) (p.visibility w and rest) (is.attributes w)
        (reads_and (visibility w) Rest (p.visibility w) rest (is.visibility w) h)

    reads_named : Reader Named ((read_name w till read_colon w) and p.types w)
    reads_named =
        reads_and (λ i. name w i then colon w) (λ t. type_spelled t false w) (read_name w till read_colon w) (p.types w)
        (reads_till (name w) (colon w) (read_name w) (read_colon w) (reads_name w) (reads_colon w)) (is.types w)

    field_back : (ts : Trees) (attrs : List Attribute) (seen : Option Vis) (i : Option Ident) (ty : TypeTree) (span : Span) (o : Trees) (m : Marks) →
        named_field (record { attrs = attrs; vis = seen; ident = i; ty = ty; span = span }) w ts o m →
        Image to_field (WithRange (Marked Named))
        (record { attrs = attrs; vis = seen; ident = i; ty = ty; span = span }) ts o m
    field_back ts attrs seen None ty span o m s = absurd s.part.rest.rest.first.fact
    field_back ts attrs seen (Some i) ty span o m s = record { value = pair (pair attrs (pair seen (pair i ty))) span; is_it = refl; spelled = s }

    pub reads_field : Reader (λ x. named_field x w) (read_field p w)
    reads_field =
        reads_by to_field
        (WithRange (Marked Named)) (λ x. named_field x w)
        (ranged (p.attributes w and (p.visibility w and ((read_name w till read_colon w) and p.types w))))
        (λ v ts o m s. s) (λ x ts o m s. field_back ts x.attrs x.vis x.ident x.ty x.span o m s)
        (reads_ranged (Marked Named) (p.attributes w and (p.visibility w and ((read_name w till read_colon w) and p.types w)))
        (reads_marked Named ((read_name w till read_colon w) and p.types w) reads_named))

    pub reads_slot : Reader (λ x. slot x w) (read_slot p w)
    reads_slot =
        reads_by to_slot
        (WithRange (Marked (λ t. type_spelled t false w))) (λ x. slot x w)
        (ranged (p.attributes w and (p.visibility w and p.types w)))
        (λ v ts o m s. record { fact = refl; part = s })
        (λ x ts o m s. record {
          value = pair (pair x.attrs (pair x.vis x.ty)) x.span;
          is_it = ap (λ i. record { attrs = x.attrs; vis = x.vis; ident = i; ty = x.ty; span = x.span }) s.fact;
          spelled = s.part;
        })
        (reads_ranged (Marked (λ t. type_spelled t false w)) (p.attributes w and (p.visibility w and p.types w))
        (reads_marked (λ t. type_spelled t false w) (p.types w) (is.types w)))

  -- ---- fields between delimiters

  module _ (w : Where) where
    pub reads_fields : Reader (λ fs. braced fs w) (read_fields p w)
    reads_fields =
        reads_group Brace (listed at_end named_field) (read_listed at_end (read_field p)) w
        (λ limit. reads_listed at_end named_field (read_field p) (inside_at w limit) (field_front (inside_at w limit)) (reads_field (inside_at w limit)))

    pub reads_slots : Reader (λ fs. slots fs w) (read_slots p w)
    reads_slots =
        reads_group Paren (listed at_end slot) (read_listed at_end (read_slot p)) w
        (λ limit. reads_listed at_end slot (read_slot p) (inside_at w limit) (slot_front (inside_at w limit)) (reads_slot (inside_at w limit)))

    -- ---- variants

    abbrev Body : FieldsTree → Spelling
    Body fs = variant_fields fs w

    braces_back : (ts : Trees) → sees_group Brace ts ≡ true → (y : FieldsTree) (o : Trees) (m : Marks) → Body y ts o m → Image named (λ fs. braced fs w) y ts o m
    braces_back ts e (named fs) o m s = record { value = fs; is_it = refl; spelled = s }
    braces_back ts e (unnamed fs) o m s = absurd (both_ways (sees_group Brace ts) e (paren_apart w (λ v. listed at_end slot fs v) ts o m s))
    braces_back ts e unit o m s =
        let f : (sees_group Brace ts || sees_group Paren ts) ≡ false = ap (λ x. sees_group Brace x || sees_group Paren x) s.part.spelled ∙ s.fact in
        let g : (sees_group Brace ts || sees_group Paren ts) ≡ true = ap (λ v. v || sees_group Paren ts) e in
        absurd (cc)

    parens_back : (ts : Trees) → sees_group Brace ts ≡ false → sees_group Paren ts ≡ true → (y : FieldsTree) (o : Trees) (m : Marks) → Body y ts o m → Image unnamed (λ fs. slots fs w) y ts o m
    parens_back ts e h (named fs) o m s = absurd (both_ways (sees_group Brace ts) (group_seen w Brace (λ v. listed at_end named_field fs v) ts o m s) e)
    parens_back ts e h (unnamed fs) o m s = record { value = fs; is_it = refl; spelled = s }
    parens_back ts e h unit o m s =
        let f : (sees_group Brace ts || sees_group Paren ts) ≡ false = ap (λ x. sees_group Brace x || sees_group Paren x) s.part.spelled ∙ s.fact in
        let g : (sees_group Brace ts || sees_group Paren ts) ≡ true = ap (λ v. v || sees_group Paren ts) e ∙ h in
        absurd (cc)

    body_only : (ts : Trees) → sees_group Brace ts ≡ false → sees_group Paren ts ≡ false → (y : FieldsTree) (o : Trees) (m : Marks) → Body y ts o m → Same unit ts [] y o m
    body_only ts e h (named fs) o m s = absurd (both_ways (sees_group Brace ts) (group_seen w Brace (λ v. listed at_end named_field fs v) ts o m s) e)
    body_only ts e h (unnamed fs) o m s = absurd (both_ways (sees_group Paren ts) (group_seen w Paren (λ v. listed at_end slot fs v) ts o m s) h)
    body_only ts e h unit o m s = nothing_same unit ts o m s.part

    pub reads_variant_fields : Reader Body (read_variant_fields p w)
    reads_variant_fields ts =
        decides_test Body ts (sees_group Brace ts) ((read_fields p w gives named) ts) (if sees_group Paren ts then (read_slots p w gives unnamed) ts else Ok (unit, ts))
        (λ e. decides_by named (λ fs. braced fs w) Body ts (λ fs o m s. s) (braces_back ts e) (read_fields p w ts) (reads_fields ts))
        (λ e. decides_test Body ts (sees_group Paren ts) ((read_slots p w gives unnamed) ts) (Ok (unit, ts))
        (λ h. decides_by unnamed (λ fs. slots fs w) Body ts (λ fs o m s. s) (parens_back ts e h) (read_slots p w ts) (reads_slots ts))
        (λ h. record {
          marks = [];
          spelled = record { part = record { spelled = refl; marks = refl }; fact = none_seen (sees_group Brace ts) (sees_group Paren ts) e h };
          within = refl;
          covers = covers_none ts;
          only = body_only ts e h;
        }))

    pub reads_discriminant : Reader (λ d. discriminant Run d w) (read_discriminant p w)
    reads_discriminant = behind_equals w (λ o. Run o w) (p.run w) (is.run w)

    abbrev Rest : Ident × (FieldsTree × Option Opaque) → Spelling
    Rest = Both (name w) (Both Body (λ d. discriminant Run d w))

    pub reads_variant : Reader (λ x. variant Run x w) (read_variant p w)
    reads_variant =
        reads_by to_variant
        (WithRange (Marked w Rest)) (λ x. variant Run x w)
        (ranged (p.attributes w and (p.visibility w and (read_name w and (read_variant_fields p w and read_discriminant p w)))))
        (λ v ts o m s. s)
        (λ x ts o m s. record { value = pair (pair x.attrs (pair x.vis (pair x.ident (pair x.fields x.discriminant)))) x.span; is_it = refl; spelled = s })
        (reads_ranged (Marked w Rest) (p.attributes w and (p.visibility w and (read_name w and (read_variant_fields p w and read_discriminant p w))))
        (reads_marked w Rest (read_name w and (read_variant_fields p w and read_discriminant p w))
        (reads_and (name w) (Both Body (λ d. discriminant Run d w)) (read_name w) (read_variant_fields p w and read_discriminant p w) (reads_name w)
        (reads_and Body (λ d. discriminant Run d w) (read_variant_fields p w) (read_discriminant p w) reads_variant_fields reads_discriminant))))

  pub reads_variants : (w : Where) → Reader (λ vs. variants Run vs w) (read_variants p w)
  reads_variants w =
      reads_group Brace (listed at_end (variant Run)) (read_listed at_end (read_variant p)) w
      (λ limit. reads_listed at_end (variant Run) (read_variant p) (inside_at w limit) (variant_front Run (inside_at w limit)) (reads_variant (inside_at w limit)))
