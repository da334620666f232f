-- Shapes and whole declarations: what their readers decide.
use Rattle.std.proofs.Common.{◌≡◌, ℕ, Bool, true, false, if◌then◌else◌, List, codes, Option, Ok, Err, refl, ap, ◌∙◌}
use Rattle.std.specs.Str.{bytes_eq}
use Rattle.dm_stream.specs.declared.tokens.Span.{Span}
use Rattle.dm_stream.specs.declared.tokens.Delim.TheVariants.{Paren, Brace}
use Rattle.dm_stream.specs.declared.tokens.Ident.{Ident}
use Rattle.dm_stream.specs.declared.error.Kind.{Kind}
use Rattle.dm_stream.specs.declared.error.Kind.TheVariants.{TooDeep, Syntax}
use Rattle.dm_stream.specs.Trees.{Trees, no_trees, token, group}
use Rattle.dm_ast.specs.declared.plain.Opaque.{Opaque}
use Rattle.dm_ast.specs.Tree.{TypeTree, BoundTree}
use Rattle.dm_ast.specs.Declarations.{Listed, FieldTree, FieldsTree, named, unnamed, unit, ShapeTree, struct_shape, enum_shape, union_shape, ParamTree, PredicateTree, GenericsTree, Declaration}
use Rattle.dm_ast.specs.Spelling.{Where, Marks, Spelling, ◌then◌, Nothing, Provided, at_end, sees_word, sees_group, punct, keyword}
use Rattle.dm_ast.specs.TypeGrammar.{name, attributes, bound, type_spelled}
use Rattle.dm_ast.specs.DeclarationGrammar.{listed, named_field, slot, ends_where, predicate, where_clause, visibility, generics, keyword_at, braced, slots, variants, struct_body, shape, declaration, IsNoDeclaration}
use Rattle.dm_ast.specs.Readers.{Outcome, Parser, and_then, ◌and◌, ◌till◌, ◌gives◌, read_punct, ended}
use Rattle.dm_read.specs.DeclarationReaders.{Parts, parts_of, read_name, read_word_at, read_generics, read_where, read_fields, read_slots, read_variants, read_named_or_unit, read_struct_body, Shaped, to_struct, to_braced, to_declaration, value_of, read_struct, read_braced, read_shape, read_front, read_declaration}
use Rattle.dm_read.proofs.Deciding.{IsRead, IsRefused, Decides, Reader, Image, Both, decides_by, decides_test, pair, reads_and, reads_till}
use Rattle.dm_read.proofs.Tokens.{reads_punct}
use Rattle.dm_read.proofs.Groups.{group_seen}
use Rattle.dm_read_paths.proofs.PlainParts.{reads_by, reads_attributes, reads_for}
use Rattle.dm_read_paths.proofs.Constants.{reads_constant, reads_visibility}
use Rattle.dm_grammar_laws.proofs.DeclarationSteps.{DecidesDeclaration}
use Rattle.dm_grammar_laws.proofs.TypeFronts.{Begins, behind_perhaps}
use Rattle.dm_grammar_laws.proofs.DeclarationBounds.{reads_bound_list}
use Rattle.dm_grammar_laws.proofs.DeclarationParts.{AreDecided, reads_either, both_ways, reads_name, reads_word_at, keyword_front}
use Rattle.dm_grammar_laws.proofs.DeclarationGenerics.{reads_generics, reads_where}
use Rattle.dm_grammar_laws.proofs.DeclarationFields.{group_apart, reads_fields, reads_slots, reads_variants}

-- ---- what follows the generics of a struct

-- fields in braces, or `;`
abbrev Closed : FieldsTree → Where → Spelling
Closed (named fs) w = braced fs w
Closed (unnamed fs) w = Provided ⊥ Nothing
Closed unit w = punct w 59

where_apart : (w : Where) (c : Option (Listed PredicateTree)) (rest : Spelling) → Begins (sees_group Paren) false rest → Begins (sees_group Paren) false (where_clause c w then rest)
where_apart w c rest f =
    behind_perhaps (sees_group Paren) false rest (sees_word (codes "where")) c (λ ps. keyword w (codes "where") then listed ends_where predicate ps w)
    (λ ps ts o m s. ap (sees_group Paren) s.first.there.spelled) f

semicolon_no_brace : (w : Where) → Begins (sees_group Brace) false (punct w 59)
semicolon_no_brace w ts o m s = ap (sees_group Brace) s.there.spelled

-- ---- words

word_apart : (w : Where) (a b : List ℕ) (range : Span) → bytes_eq b a ≡ false → Begins (sees_word a) false (keyword_at w b range)
word_apart w a b range e ts o m s = ap (sees_word a) s.spelled ∙ e

module _ (Run : Opaque → Where → Spelling) (p : Parts) (is : AreDecided Run p) where
  module _ (w : Where) where
    named_back : (ts : Trees) → sees_group Brace ts ≡ true → (y : FieldsTree) (o : Trees) (m : Marks) → Closed y w ts o m → Image named (λ fs. braced fs w) y ts o m
    named_back ts e (named fs) o m s = record { value = fs; is_it = refl; spelled = s }
    named_back ts e (unnamed fs) o m s = absurd s.fact
    named_back ts e unit o m s = absurd (both_ways (sees_group Brace ts) e (semicolon_no_brace w ts o m s))

    abbrev to_unit : Unit {0} → FieldsTree
    to_unit _ = unit

    unit_back : (ts : Trees) → sees_group Brace ts ≡ false → (y : FieldsTree) (o : Trees) (m : Marks) → Closed y w ts o m → Image to_unit (λ _. punct w 59) y ts o m
    unit_back ts e (named fs) o m s = absurd (both_ways (sees_group Brace ts) (group_seen w Brace (λ v. listed at_end named_field fs v) ts o m s) e)
    unit_back ts e (unnamed fs) o m s = absurd s.fact
    unit_back ts e unit o m s = record { value = tt; is_it = refl; spelled = s }

    reads_closed : Reader (λ fs. Closed fs w) (read_named_or_unit p w)
    reads_closed =
        reads_either (λ fs. Closed fs w) (sees_group Brace) (read_fields p w gives named) (read_punct 59 w gives to_unit)
        (λ ts e. decides_by named (λ fs. braced fs w) (λ fs. Closed fs w) ts (λ fs o m s. s) (named_back ts e) (read_fields p w ts) (reads_fields Run p is w ts))
        (λ ts e. decides_by to_unit (λ _. punct w 59) (λ fs. Closed fs w) ts (λ _ o m s. s) (unit_back ts e) (read_punct 59 w ts) (reads_punct 59 w ts))

    abbrev Body : FieldsTree × Option (Listed PredicateTree) → Spelling
    Body v = struct_body v.0 v.1 w

    abbrev SlotsBody : Listed FieldTree × Option (Listed PredicateTree) → Spelling
    SlotsBody = Both (λ fs. slots fs w) (λ c. where_clause c w then punct w 59)

    abbrev OtherBody : Option (Listed PredicateTree) × FieldsTree → Spelling
    OtherBody = Both (λ c. where_clause c w) (λ fs. Closed fs w)

    abbrev slots_first : Listed FieldTree × Option (Listed PredicateTree) → FieldsTree × Option (Listed PredicateTree)
    slots_first v = (unnamed v.0, v.1)

    abbrev where_first : Option (Listed PredicateTree) × FieldsTree → FieldsTree × Option (Listed PredicateTree)
    where_first v = (v.1, v.0)

    slots_back : (ts : Trees) → sees_group Paren ts ≡ true → (fs : FieldsTree) (c : Option (Listed PredicateTree)) (o : Trees) (m : Marks) → struct_body fs c w ts o m →
        Image slots_first SlotsBody (fs, c) ts o m
    slots_back ts e (named fs) c o m s =
        absurd (both_ways (sees_group Paren ts) e (where_apart w c (braced fs w) (group_apart w (λ v. listed at_end named_field fs v)) ts o m s))
    slots_back ts e (unnamed fs) c o m s = record { value = pair fs c; is_it = refl; spelled = s }
    slots_back ts e unit c o m s =
        absurd (both_ways (sees_group Paren ts) e (where_apart w c (punct w 59) (λ us q k r. ap (sees_group Paren) r.there.spelled) ts o m s))

    other_to : (ts : Trees) (c : Option (Listed PredicateTree)) (fs : FieldsTree) (o : Trees) (m : Marks) → OtherBody (c, fs) ts o m → struct_body fs c w ts o m
    other_to ts c (named fs) o m s = s
    other_to ts c (unnamed fs) o m s = absurd s.rest.fact
    other_to ts c unit o m s = s

    other_back : (ts : Trees) → sees_group Paren ts ≡ false → (fs : FieldsTree) (c : Option (Listed PredicateTree)) (o : Trees) (m : Marks) → struct_body fs c w ts o m →
        Image where_first OtherBody (fs, c) ts o m
    other_back ts e (named fs) c o m s = record { value = pair c (named fs); is_it = refl; spelled = s }
    other_back ts e (unnamed fs) c o m s =
        absurd (both_ways (sees_group Paren ts) (group_seen w Paren (λ v. listed at_end slot fs v) ts s.middle s.first_marks s.first) e)
    other_back ts e unit c o m s = record { value = pair c unit; is_it = refl; spelled = s }

    reads_slots_body : Reader SlotsBody (read_slots p w and (read_where p w till read_punct 59 w))
    reads_slots_body =
        reads_and (λ fs. slots fs w) (λ c. where_clause c w then punct w 59) (read_slots p w) (read_where p w till read_punct 59 w) (reads_slots Run p is w)
        (reads_till (λ c. where_clause c w) (punct w 59) (read_where p w) (read_punct 59 w) (reads_where Run p is w) (reads_punct 59 w))

    reads_other_body : Reader OtherBody (read_where p w and read_named_or_unit p w)
    reads_other_body =
        reads_and (λ c. where_clause c w) (λ fs. Closed fs w) (read_where p w) (read_named_or_unit p w) (reads_where Run p is w) reads_closed

    pub reads_struct_body : Reader Body (read_struct_body p w)
    reads_struct_body =
        reads_either Body (sees_group Paren) ((read_slots p w and (read_where p w till read_punct 59 w)) gives slots_first) ((read_where p w and read_named_or_unit p w) gives where_first)
        (λ ts e. decides_by slots_first SlotsBody Body ts (λ v o m s. s) (λ v o m s. slots_back ts e v.0 v.1 o m s)
        ((read_slots p w and (read_where p w till read_punct 59 w)) ts) (reads_slots_body ts))
        (λ ts e. decides_by where_first OtherBody Body ts (λ v o m s. other_to ts v.0 v.1 o m s) (λ v o m s. other_back ts e v.0 v.1 o m s)
        ((read_where p w and read_named_or_unit p w) ts) (reads_other_body ts))

    -- ---- the three shapes

    abbrev Shape : Shaped → Spelling
    Shape v = shape Run v.0 v.1.0 v.1.1 w

    abbrev Generics : Bool × Listed ParamTree → Spelling
    Generics v = generics v.0 v.1 w

    abbrev Struct : Span × (Ident × ((Bool × Listed ParamTree) × (FieldsTree × Option (Listed PredicateTree)))) → Spelling
    Struct = Both (keyword_at w (codes "struct")) (Both (name w) (Both Generics Body))

    abbrev struct_rest : Parser (Span × (Ident × ((Bool × Listed ParamTree) × (FieldsTree × Option (Listed PredicateTree)))))
    struct_rest = read_word_at (codes "struct") w and (read_name w and (read_generics p w and read_struct_body p w))

    reads_struct_rest : Reader Struct struct_rest
    reads_struct_rest =
        reads_and (keyword_at w (codes "struct")) (Both (name w) (Both Generics Body)) (read_word_at (codes "struct") w) (read_name w and (read_generics p w and read_struct_body p w))
        (reads_word_at (codes "struct") w)
        (reads_and (name w) (Both Generics Body) (read_name w) (read_generics p w and read_struct_body p w) (reads_name w)
        (reads_and Generics Body (read_generics p w) (read_struct_body p w) (reads_generics Run p is w) reads_struct_body))

    struct_back : (ts : Trees) → sees_word (codes "struct") ts ≡ true → (y : ShapeTree) (i : Ident) (g : GenericsTree) (o : Trees) (m : Marks) → shape Run y i g w ts o m →
        Image to_struct Struct (y, (i, g)) ts o m
    struct_back ts e (struct_shape range fs) i g o m s =
        record { value = pair range (pair i (pair (pair g.angled g.params) (pair fs g.where_clause))); is_it = refl; spelled = s }
    struct_back ts e (enum_shape range vs) i g o m s =
        absurd (both_ways (sees_word (codes "struct") ts) e (word_apart w (codes "struct") (codes "enum") range refl ts s.middle s.first_marks s.first))
    struct_back ts e (union_shape range fs) i g o m s =
        absurd (both_ways (sees_word (codes "struct") ts) e (word_apart w (codes "struct") (codes "union") range refl ts s.middle s.first_marks s.first))

    -- ---- an enum or a union

    module _ {A : Type 0} (word : List ℕ) (Inside : A → Where → Spelling) (body : Where → Parser A) where
      abbrev BracedHead : Type 0
      BracedHead = Span × (Ident × ((Bool × Listed ParamTree) × (Option (Listed PredicateTree) × A)))

      abbrev Braced : BracedHead → Spelling
      Braced = Both (keyword_at w word) (Both (name w) (Both Generics (Both (λ c. where_clause c w) (λ x. Inside x w))))

      abbrev braced_rest : Parser BracedHead
      braced_rest = read_word_at word w and (read_name w and (read_generics p w and (read_where p w and body w)))

      reads_braced_rest : Reader (λ x. Inside x w) (body w) → Reader Braced braced_rest
      reads_braced_rest h =
          reads_and (keyword_at w word) (Both (name w) (Both Generics (Both (λ c. where_clause c w) (λ x. Inside x w)))) (read_word_at word w)
          (read_name w and (read_generics p w and (read_where p w and body w))) (reads_word_at word w)
          (reads_and (name w) (Both Generics (Both (λ c. where_clause c w) (λ x. Inside x w))) (read_name w) (read_generics p w and (read_where p w and body w)) (reads_name w)
          (reads_and Generics (Both (λ c. where_clause c w) (λ x. Inside x w)) (read_generics p w) (read_where p w and body w) (reads_generics Run p is w)
          (reads_and (λ c. where_clause c w) (λ x. Inside x w) (read_where p w) (body w) (reads_where Run p is w) h)))

    enum_back : (ts : Trees) → sees_word (codes "struct") ts ≡ false → sees_word (codes "enum") ts ≡ true → (y : ShapeTree) (i : Ident) (g : GenericsTree) (o : Trees) (m : Marks) →
        shape Run y i g w ts o m → Image (to_braced enum_shape) (Braced (codes "enum") (variants Run) (read_variants p)) (y, (i, g)) ts o m
    enum_back ts e f (struct_shape range fs) i g o m s =
        absurd (both_ways (sees_word (codes "struct") ts) (keyword_front (codes "struct") w range ts s.middle s.first_marks s.first) e)
    enum_back ts e f (enum_shape range vs) i g o m s =
        record { value = pair range (pair i (pair (pair g.angled g.params) (pair g.where_clause vs))); is_it = refl; spelled = s }
    enum_back ts e f (union_shape range fs) i g o m s =
        absurd (both_ways (sees_word (codes "enum") ts) f (word_apart w (codes "enum") (codes "union") range refl ts s.middle s.first_marks s.first))

    union_back : (ts : Trees) → sees_word (codes "struct") ts ≡ false → sees_word (codes "enum") ts ≡ false → (y : ShapeTree) (i : Ident) (g : GenericsTree) (o : Trees) (m : Marks) →
        shape Run y i g w ts o m → Image (to_braced union_shape) (Braced (codes "union") braced (read_fields p)) (y, (i, g)) ts o m
    union_back ts e f (struct_shape range fs) i g o m s =
        absurd (both_ways (sees_word (codes "struct") ts) (keyword_front (codes "struct") w range ts s.middle s.first_marks s.first) e)
    union_back ts e f (enum_shape range vs) i g o m s =
        absurd (both_ways (sees_word (codes "enum") ts) (keyword_front (codes "enum") w range ts s.middle s.first_marks s.first) f)
    union_back ts e f (union_shape range fs) i g o m s =
        record { value = pair range (pair i (pair (pair g.angled g.params) (pair g.where_clause fs))); is_it = refl; spelled = s }

    struct_decides : (ts : Trees) → sees_word (codes "struct") ts ≡ true → Decides Shape ts (read_struct p w ts)
    struct_decides ts e =
        decides_by to_struct Struct Shape ts (λ v o m s. s) (λ v o m s. struct_back ts e v.0 v.1.0 v.1.1 o m s) (struct_rest ts) (reads_struct_rest ts)

    enum_decides : (ts : Trees) → sees_word (codes "struct") ts ≡ false → sees_word (codes "enum") ts ≡ true → Decides Shape ts (read_braced p (codes "enum") (read_variants p) enum_shape w ts)
    enum_decides ts e f =
        decides_by (to_braced enum_shape) (Braced (codes "enum") (variants Run) (read_variants p)) Shape ts
        (λ v o m s. s) (λ v o m s. enum_back ts e f v.0 v.1.0 v.1.1 o m s)
        (braced_rest (codes "enum") (variants Run) (read_variants p) ts) (reads_braced_rest (codes "enum") (variants Run) (read_variants p) (reads_variants Run p is w) ts)

    union_decides : (ts : Trees) → sees_word (codes "struct") ts ≡ false → sees_word (codes "enum") ts ≡ false → Decides Shape ts (read_braced p (codes "union") (read_fields p) union_shape w ts)
    union_decides ts e f =
        decides_by (to_braced union_shape) (Braced (codes "union") braced (read_fields p)) Shape ts
        (λ v o m s. s) (λ v o m s. union_back ts e f v.0 v.1.0 v.1.1 o m s)
        (braced_rest (codes "union") braced (read_fields p) ts) (reads_braced_rest (codes "union") braced (read_fields p) (reads_fields Run p is w) ts)

    pub reads_shape : Reader Shape (read_shape p w)
    reads_shape ts =
        decides_test Shape ts (sees_word (codes "struct") ts) (read_struct p w ts)
        (if sees_word (codes "enum") ts then read_braced p (codes "enum") (read_variants p) enum_shape w ts else read_braced p (codes "union") (read_fields p) union_shape w ts)
        (struct_decides ts)
        (λ e. decides_test Shape ts (sees_word (codes "enum") ts) (read_braced p (codes "enum") (read_variants p) enum_shape w ts)
        (read_braced p (codes "union") (read_fields p) union_shape w ts) (enum_decides ts e) (union_decides ts e))

    -- ---- the whole declaration

    pub reads_front : Reader (λ d. declaration Run d w) (read_front p w)
    reads_front =
        reads_by to_declaration
        (Both (attributes w) (Both (visibility w) Shape)) (λ d. declaration Run d w) (p.attributes w and (p.visibility w and read_shape p w))
        (λ v ts o m s. s) (λ d ts o m s. record { value = pair d.attrs (pair d.vis (pair d.shape (pair d.ident d.generics))); is_it = refl; spelled = s })
        (reads_and (attributes w) (Both (visibility w) Shape) (p.attributes w) (p.visibility w and read_shape p w) (is.attributes w)
        (reads_and (visibility w) Shape (p.visibility w) (read_shape p w) (is.visibility w) reads_shape))

  module _ (limit : ℕ) (ts : Trees) where
    abbrev top : Where
    top = record { level = 0; limit = limit }

    abbrev Top : Declaration → Spelling
    Top d = declaration Run d top

    left_decides : (d : Declaration) (left : Trees) → IsRead Top ts d left → DecidesDeclaration Run limit ts (value_of (ended top no_trees d left))
    left_decides d no_trees h =
        record { marks = h.marks; there = record { spelled = h.spelled }; within = h.within; only = λ e k s. let q = h.only e no_trees k s.spelled in (q.value, q.marks) }
    left_decides d (token k rest) h = λ e m s. let q = (h.only e no_trees m s.spelled).left in absurd (cc)
    left_decides d (group g from inside upto rest) h = λ e m s. let q = (h.only e no_trees m s.spelled).left in absurd (cc)

    refused_decides : (k : Kind) (span : Span) → IsRefused Top ts k span → IsNoDeclaration Run k span limit ts
    refused_decides TooDeep span h = λ d m s. h d no_trees m s.spelled
    refused_decides Syntax span h = λ d m s. h d no_trees m s.spelled
    refused_decides _ span h = absurd h

    whole_decides : (r : Outcome Declaration) → Decides Top ts r → DecidesDeclaration Run limit ts (value_of (and_then r (ended top no_trees)))
    whole_decides (Ok q) h = left_decides q.0 q.1 h
    whole_decides (Err r) h = refused_decides r.kind r.span h

    -- the reader decides which declaration the trees are, if they are one
    pub declaration-decides : DecidesDeclaration Run limit ts (read_declaration p limit ts)
    declaration-decides = whole_decides (read_front p top ts) (reads_front top ts)

-- ---- where types, bounds and discriminants are decided

pub parts_decided : (Run : Opaque → Where → Spelling) (types : Where → Parser TypeTree) (one : Where → Parser BoundTree) (run : Where → Parser Opaque) →
    ((w : Where) → Reader (λ t. type_spelled t false w) (types w)) → ((w : Where) → Reader (λ b. bound b w) (one w)) → ((w : Where) → Reader (λ o. Run o w) (run w)) →
    AreDecided Run (parts_of types one run)
parts_decided Run types one run f g h =
    record {
      types = f;
      bounds = λ w. reads_bound_list one w (g w);
      attributes = reads_attributes;
      visibility = reads_visibility;
      lifetimes = reads_for;
      constant = reads_constant;
      run = h;
    }
