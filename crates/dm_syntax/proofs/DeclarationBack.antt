-- Declarations have the tokens that were read; what is not read keeps its spacing.
use Rattle.std.proofs.Common.{◌≡◌, ℕ, Bool, true, false, List, [], ◌∷◌, ◌++◌, map, codes, Option, Some, None, refl, sym, ap}
use Rattle.std.specs.Prelude.{flat_map}
use Rattle.dm_stream.specs.declared.tokens.Span.{Span}
use Rattle.dm_stream.specs.declared.tokens.Delim.TheVariants.{Paren, Brace}
use Rattle.dm_stream.specs.declared.tokens.Ident.{Ident}
use Rattle.dm_stream.specs.declared.tokens.Token.TheVariants as t
use Rattle.dm_stream.specs.Layout.{nowhere}
use Rattle.dm_stream.specs.Trees.{Trees, no_trees, join}
use Rattle.dm_ast.specs.declared.plain.Vis.{Vis}
use Rattle.dm_ast.specs.declared.plain.Vis.TheVariants as vis
use Rattle.dm_ast.specs.declared.plain.Opaque.{Opaque}
use Rattle.dm_ast.specs.declared.plain.ConstArg.{ConstArg}
use Rattle.dm_ast.specs.Tree.{Lifetimes, TypeTree, BoundTree}
use Rattle.dm_ast.specs.Declarations.{Listed, FieldTree, FieldsTree, named, unnamed, unit, VariantTree, ShapeTree, struct_shape, enum_shape, union_shape, ParamTree, lifetime_param, type_param, const_param, PredicateTree, GenericsTree, Declaration}
use Rattle.dm_ast.specs.Spelling.{Where, deeper, Marks, Spelling, ◌then◌, at_end, sees, sees_colon, sees_equals, colon, equals, keyword, perhaps}
use Rattle.dm_ast.specs.TypeGrammar.{name, plain_path, constant_spelled, type_spelled}
use Rattle.dm_ast.specs.DeclarationGrammar as grammar
use Rattle.dm_ast.specs.TypeTokens as spell
use Rattle.dm_ast.specs.DeclarationTokens as written
use Rattle.dm_ast.specs.Parsed.{SpelledBy}
use Rattle.dm_ast.specs.Runs.{run}
use Rattle.dm_type_eq.specs.BareTokens.{tokens_of}
use Rattle.dm_syntax.specs.Unread.{Part, in_some, in_type, in_constant, in_bound_list, in_param, in_field, in_fields, in_discriminant, in_variant, in_struct, in_shape, in_declaration}
use Rattle.dm_syntax.specs.WrittenBack.{RespacedAround, IsDeclarationBack}
use Rattle.dm_syntax.proofs.Back.{Back, back_join, back_none, back_token, back_word, back_group, back_run, same_whole, same_spelled, backs}
use Rattle.dm_syntax.proofs.PredicateBack.{back_items, back_lifetime_bounds, back_bound_list, back_where}
use Rattle.dm_syntax.proofs.Walked.{walk_punct, walk_lone, walk_angles, walk_as, walk_attributes, walk_constant, walk_last, walk_plain}
use Rattle.dm_syntax.proofs.WalkedTypes.{walk_type}

-- ---- discriminants

back_discriminant : (r : Span) (w : Where) (d : Option Opaque) (ts o : Trees) (m : Marks) → grammar.discriminant run d w ts o m → Back (in_discriminant d) (written.discriminant_trees r d) ts o
back_discriminant r w None ts o m s = back_none ts o s.part.spelled
back_discriminant r w (Some x) ts o m s =
    back_join (spell.punct 61 r) x.tokens.trees ts s.middle o (walk_lone backs r w 61 (61 ∷ 62 ∷ []) ts s.middle s.first_marks s.first)
    (back_run w x s.middle o s.rest_marks s.rest)

-- ---- visibility

back_restriction : (r : Span) (w : Where) (v : Vis) (ts o : Trees) (m : Marks) → grammar.restriction w v ts o m → Back [] (written.reach_trees r v) ts o
back_restriction r w vis.Public ts o m s = back_none ts o s.part.spelled
back_restriction r w vis.Crate ts o m s =
    back_group w Paren (spell.word (codes "crate") r) (λ v. keyword v (codes "crate")) ts o m s (λ v i k h. back_word r v (codes "crate") i no_trees k h)
back_restriction r w vis.SelfOnly ts o m s =
    back_group w Paren (spell.word (codes "self") r) (λ v. keyword v (codes "self")) ts o m s (λ v i k h. back_word r v (codes "self") i no_trees k h)
back_restriction r w vis.Super ts o m s =
    back_group w Paren (spell.word (codes "super") r) (λ v. keyword v (codes "super")) ts o m s (λ v i k h. back_word r v (codes "super") i no_trees k h)
back_restriction r w (vis.In p) ts o m s =
    back_group w Paren (join (spell.word (codes "in") r) (spell.plain_trees r p)) (λ v. keyword v (codes "in") then plain_path v p) ts o m s
    (λ v i k h.
    back_join (spell.word (codes "in") r) (spell.plain_trees r p) i h.middle no_trees (back_word r v (codes "in") i h.middle h.first_marks h.first)
    (walk_plain backs r v p h.middle no_trees h.rest_marks h.rest))

back_vis : (r : Span) (w : Where) (v : Option Vis) (ts o : Trees) (m : Marks) → grammar.visibility w v ts o m → Back [] (written.vis_trees r v) ts o
back_vis r w None ts o m s = back_none ts o s.part.spelled
back_vis r w (Some v) ts o m s =
    back_join (spell.word (codes "pub") r) (written.reach_trees r v) ts s.middle o (back_word r w (codes "pub") ts s.middle s.first_marks s.first)
    (back_restriction r w v s.middle o s.rest_marks s.rest)

-- ---- generics

back_outlived : (w : Where) (ls : Lifetimes) (ts o : Trees) (m : Marks) → perhaps sees_colon ls (λ l. colon w then grammar.lifetime_bounds w l) ts o m →
    Back [] (written.outlived_trees ls) ts o
back_outlived w None ts o m s = back_none ts o s.part.spelled
back_outlived w (Some ls) ts o m s =
    back_join (spell.punct 58 nowhere) (spell.listed 43 nowhere (map spell.lifetime ls.items) ls.trailing) ts s.middle o
    (walk_lone backs nowhere w 58 (58 ∷ []) ts s.middle s.first_marks s.first) (back_lifetime_bounds w ls s.middle o s.rest_marks s.rest)

back_colon_bounds : (w : Where) (bs : Option (Listed BoundTree)) (ts o : Trees) (m : Marks) → perhaps sees_colon bs (λ b. colon w then grammar.bound_list w b) ts o m →
    Back (in_some in_bound_list bs) (written.colon_bounds_trees bs) ts o
back_colon_bounds w None ts o m s = back_none ts o s.part.spelled
back_colon_bounds w (Some bs) ts o m s =
    back_join (spell.punct 58 nowhere) (written.bound_list_trees bs) ts s.middle o (walk_lone backs nowhere w 58 (58 ∷ []) ts s.middle s.first_marks s.first)
    (back_bound_list w bs s.middle o s.rest_marks s.rest)

back_default_type : (w : Where) (x : Option TypeTree) (ts o : Trees) (m : Marks) → perhaps sees_equals x (λ y. equals w then type_spelled y false w) ts o m →
    Back (in_some in_type x) (written.default_type_trees x) ts o
back_default_type w None ts o m s = back_none ts o s.part.spelled
back_default_type w (Some x) ts o m s =
    back_join (spell.punct 61 nowhere) (spell.type_trees x) ts s.middle o (walk_lone backs nowhere w 61 (61 ∷ 62 ∷ []) ts s.middle s.first_marks s.first)
    (walk_type backs x false w s.middle o s.rest_marks s.rest)

back_default_const : (w : Where) (c : Option ConstArg) (ts o : Trees) (m : Marks) → perhaps sees_equals c (λ y. equals w then constant_spelled w y) ts o m →
    Back (in_some in_constant c) (written.default_const_trees c) ts o
back_default_const w None ts o m s = back_none ts o s.part.spelled
back_default_const w (Some c) ts o m s =
    back_join (spell.punct 61 nowhere) (spell.const_trees nowhere c) ts s.middle o (walk_lone backs nowhere w 61 (61 ∷ 62 ∷ []) ts s.middle s.first_marks s.first)
    (walk_constant backs nowhere w c s.middle o s.rest_marks s.rest)

back_param : (p : ParamTree) (w : Where) (ts o : Trees) (m : Marks) → grammar.param p w ts o m → Back (in_param p) (written.param_trees p) ts o
back_param (lifetime_param as' l bs) w ts o m s =
    let q = s.rest in
    walk_last backs (spell.attributes_trees as') (join (spell.lifetime l) (written.outlived_trees bs)) ts s.middle o (walk_attributes backs w as' ts s.middle s.first_marks s.first)
    (back_join (spell.lifetime l) (written.outlived_trees bs) s.middle q.middle o (back_token w (t.Lifetime l) s.middle q.middle q.first_marks q.first)
    (back_outlived w bs q.middle o q.rest_marks q.rest))
back_param (type_param as' n bs x) w ts o m s =
    let q = s.rest in
    let z = q.rest in
    let behind : Trees = join (written.colon_bounds_trees bs) (written.default_type_trees x) in
    back_join (spell.attributes_trees as') (join (spell.name n) behind) ts s.middle o (walk_attributes backs w as' ts s.middle s.first_marks s.first)
    (back_join (spell.name n) behind s.middle q.middle o (back_token w (t.Ident n) s.middle q.middle q.first_marks q.first.part)
    (back_join (written.colon_bounds_trees bs) (written.default_type_trees x) q.middle z.middle o (back_colon_bounds w bs q.middle z.middle z.first_marks z.first)
    (back_default_type w x z.middle o z.rest_marks z.rest)))
back_param (const_param as' n x c) w ts o m s =
    let q = s.rest in
    let z = q.rest in
    let y = z.rest in
    let v = y.rest in
    let typed : Trees = join (spell.type_trees x) (written.default_const_trees c) in
    let behind : Trees = join (spell.punct 58 nowhere) typed in
    back_join (spell.attributes_trees as') (join (spell.word (codes "const") nowhere) (join (spell.name n) behind)) ts s.middle o
    (walk_attributes backs w as' ts s.middle s.first_marks s.first)
    (back_join (spell.word (codes "const") nowhere) (join (spell.name n) behind) s.middle q.middle o
    (back_word nowhere w (codes "const") s.middle q.middle q.first_marks q.first)
    (back_join (spell.name n) behind q.middle z.middle o (back_token w (t.Ident n) q.middle z.middle z.first_marks z.first.part)
    (back_join (spell.punct 58 nowhere) typed z.middle y.middle o (walk_lone backs nowhere w 58 (58 ∷ []) z.middle y.middle y.first_marks y.first)
    (back_join (spell.type_trees x) (written.default_const_trees c) y.middle v.middle o (walk_type backs x false w y.middle v.middle v.first_marks v.first)
    (back_default_const w c v.middle o v.rest_marks v.rest)))))

-- without `<` there are no parameters
back_angled : (b : Bool) (ps : Listed ParamTree) (w : Where) (ts o : Trees) (m : Marks) → grammar.generics b ps w ts o m →
    Back (flat_map in_param ps.items) (spell.given b (spell.angle_trees nowhere (map written.param_trees ps.items) ps.trailing)) ts o
back_angled false ps w ts o m s =
    walk_as backs no_trees no_trees ts o (ap (λ l. flat_map in_param l.items) (sym (s.fact refl))) refl (back_none ts o s.part.part.spelled)
back_angled true ps w ts o m s =
    walk_angles backs nowhere w (spell.listed 44 nowhere (map written.param_trees ps.items) ps.trailing) (λ v. grammar.listed (sees 62) grammar.param ps v) ts o m s.part
    (λ i j k l.
    back_items 44 (deeper w) (sees 62) (λ p. grammar.param p (deeper w)) in_param written.param_trees (λ p a b c e. back_param p (deeper w) a b c e) ps.items ps.trailing i j k l)

back_generics : (g : GenericsTree) (w : Where) (ts o : Trees) (m : Marks) → grammar.generics g.angled g.params w ts o m →
    Back (flat_map in_param g.params.items) (written.params_trees g) ts o
back_generics g w ts o m s = back_angled g.angled g.params w ts o m s

-- ---- fields

back_field_name : (r : Span) (n : Option Ident) (w : Where) (ts o : Trees) (m : Marks) → grammar.field_name n w ts o m → Back [] (spell.input_name_trees r n) ts o
back_field_name r None w ts o m s = absurd s.fact
back_field_name r (Some n) w ts o m s =
    back_join (spell.name n) (spell.punct 58 r) ts s.middle o (back_token w (t.Ident n) ts s.middle s.first_marks s.first.part)
    (walk_lone backs r w 58 (58 ∷ []) s.middle o s.rest_marks s.rest)

back_no_name : (r : Span) (n : Option Ident) (ts : Trees) → n ≡ None → Back [] (spell.input_name_trees r n) ts ts
back_no_name r None ts e = back_none ts ts refl
back_no_name r (Some n) ts e = absurd (cc)

back_named : (f : FieldTree) (w : Where) (ts o : Trees) (m : Marks) → grammar.named_field f w ts o m → Back (in_field f) (written.field_trees f) ts o
back_named f w ts o m s =
    let a = s.part in
    let q = a.rest in
    let z = q.rest in
    let typed : Trees = join (spell.input_name_trees f.span f.ident) (spell.type_trees f.ty) in
    back_join (spell.attributes_trees f.attrs) (join (written.vis_trees f.span f.vis) typed) ts a.middle o (walk_attributes backs w f.attrs ts a.middle a.first_marks a.first)
    (back_join (written.vis_trees f.span f.vis) typed a.middle q.middle o (back_vis f.span w f.vis a.middle q.middle q.first_marks q.first)
    (back_join (spell.input_name_trees f.span f.ident) (spell.type_trees f.ty) q.middle z.middle o
    (back_field_name f.span f.ident w q.middle z.middle z.first_marks z.first) (walk_type backs f.ty false w z.middle o z.rest_marks z.rest)))

back_slot : (f : FieldTree) (w : Where) (ts o : Trees) (m : Marks) → grammar.slot f w ts o m → Back (in_field f) (written.field_trees f) ts o
back_slot f w ts o m s =
    let a = s.part.part in
    let q = a.rest in
    let typed : Trees = join (spell.input_name_trees f.span f.ident) (spell.type_trees f.ty) in
    back_join (spell.attributes_trees f.attrs) (join (written.vis_trees f.span f.vis) typed) ts a.middle o (walk_attributes backs w f.attrs ts a.middle a.first_marks a.first)
    (back_join (written.vis_trees f.span f.vis) typed a.middle q.middle o (back_vis f.span w f.vis a.middle q.middle q.first_marks q.first)
    (back_join (spell.input_name_trees f.span f.ident) (spell.type_trees f.ty) q.middle q.middle o (back_no_name f.span f.ident q.middle s.fact)
    (walk_type backs f.ty false w q.middle o q.rest_marks q.rest)))

back_braced : (fs : Listed FieldTree) (w : Where) (ts o : Trees) (m : Marks) → grammar.braced fs w ts o m → Back (flat_map in_field fs.items) (spell.grouped Brace (written.field_list_trees fs)) ts o
back_braced fs w ts o m s =
    back_group w Brace (written.field_list_trees fs) (λ v. grammar.listed at_end grammar.named_field fs v) ts o m s
    (λ v i k h.
    back_items 44 v at_end (λ f. grammar.named_field f v) in_field written.field_trees (λ f a b c e. back_named f v a b c e) fs.items fs.trailing i no_trees k h)

back_slots : (fs : Listed FieldTree) (w : Where) (ts o : Trees) (m : Marks) → grammar.slots fs w ts o m → Back (flat_map in_field fs.items) (spell.grouped Paren (written.field_list_trees fs)) ts o
back_slots fs w ts o m s =
    back_group w Paren (written.field_list_trees fs) (λ v. grammar.listed at_end grammar.slot fs v) ts o m s
    (λ v i k h. back_items 44 v at_end (λ f. grammar.slot f v) in_field written.field_trees (λ f a b c e. back_slot f v a b c e) fs.items fs.trailing i no_trees k h)

-- ---- variants

back_variant_fields : (fs : FieldsTree) (w : Where) (ts o : Trees) (m : Marks) → grammar.variant_fields fs w ts o m → Back (in_fields fs) (written.fields_trees fs) ts o
back_variant_fields (named fs) w ts o m s = back_braced fs w ts o m s
back_variant_fields (unnamed fs) w ts o m s = back_slots fs w ts o m s
back_variant_fields unit w ts o m s = back_none ts o s.part.spelled

back_variant : (x : VariantTree) (w : Where) (ts o : Trees) (m : Marks) → grammar.variant run x w ts o m → Back (in_variant x) (written.variant_trees x) ts o
back_variant x w ts o m s =
    let a = s.part in
    let q = a.rest in
    let z = q.rest in
    let y = z.rest in
    let behind : Trees = join (written.fields_trees x.fields) (written.discriminant_trees x.span x.discriminant) in
    back_join (spell.attributes_trees x.attrs) (join (written.vis_trees x.span x.vis) (join (spell.name x.ident) behind)) ts a.middle o
    (walk_attributes backs w x.attrs ts a.middle a.first_marks a.first)
    (back_join (written.vis_trees x.span x.vis) (join (spell.name x.ident) behind) a.middle q.middle o
    (back_vis x.span w x.vis a.middle q.middle q.first_marks q.first)
    (back_join (spell.name x.ident) behind q.middle z.middle o (back_token w (t.Ident x.ident) q.middle z.middle z.first_marks z.first.part)
    (back_join (written.fields_trees x.fields) (written.discriminant_trees x.span x.discriminant) z.middle y.middle o
    (back_variant_fields x.fields w z.middle y.middle y.first_marks y.first)
    (back_discriminant x.span w x.discriminant y.middle o y.rest_marks y.rest))))

back_variants : (xs : Listed VariantTree) (w : Where) (ts o : Trees) (m : Marks) → grammar.variants run xs w ts o m → Back (flat_map in_variant xs.items) (spell.grouped Brace (written.variant_list_trees xs)) ts o
back_variants xs w ts o m s =
    back_group w Brace (written.variant_list_trees xs) (λ v. grammar.listed at_end (grammar.variant run) xs v) ts o m s
    (λ v i k h.
    back_items 44 v at_end (λ x. grammar.variant run x v) in_variant written.variant_trees (λ x a b c e. back_variant x v a b c e) xs.items xs.trailing i no_trees k h)

-- ---- the three shapes

back_body : (fs : FieldsTree) (c : Option (Listed PredicateTree)) (w : Where) (ts o : Trees) (m : Marks) → grammar.struct_body fs c w ts o m →
    Back (in_struct fs c) (written.struct_body_trees c fs) ts o
back_body (named fs) c w ts o m s =
    back_join (written.where_trees c) (spell.grouped Brace (written.field_list_trees fs)) ts s.middle o (back_where c w ts s.middle s.first_marks s.first)
    (back_braced fs w s.middle o s.rest_marks s.rest)
back_body (unnamed fs) c w ts o m s =
    let q = s.rest in
    back_join (spell.grouped Paren (written.field_list_trees fs)) (join (written.where_trees c) (spell.punct 59 nowhere)) ts s.middle o
    (back_slots fs w ts s.middle s.first_marks s.first)
    (walk_last backs (written.where_trees c) (spell.punct 59 nowhere) s.middle q.middle o (back_where c w s.middle q.middle q.first_marks q.first)
    (walk_punct backs nowhere w 59 q.middle o q.rest_marks q.rest))
back_body unit c w ts o m s =
    back_join (written.where_trees c) (spell.punct 59 nowhere) ts s.middle o (back_where c w ts s.middle s.first_marks s.first)
    (walk_punct backs nowhere w 59 s.middle o s.rest_marks s.rest)

-- the word, the name and the parameters, and a body behind them
back_head : {ps : List Part} (letters : List ℕ) (range : Span) (n : Ident) (g : GenericsTree) (w : Where) (body : Trees) (Body : Spelling) (ts o : Trees) (m : Marks) →
    (grammar.keyword_at w letters range then (name w n then (grammar.generics g.angled g.params w then Body))) ts o m →
    ((i : Trees) (k : Marks) → Body i o k → Back ps body i o) → Back (flat_map in_param g.params.items ++ ps) (join (written.head_trees letters range n g) body) ts o
back_head letters range n g w body Body ts o m s h =
    let q = s.rest in
    let z = q.rest in
    back_join (written.head_trees letters range n g) body ts z.middle o
    (back_join (spell.word letters range) (join (spell.name n) (written.params_trees g)) ts s.middle z.middle
    (back_token w (t.Ident record { name = letters; raw = false; span = range }) ts s.middle s.first_marks s.first)
    (back_join (spell.name n) (written.params_trees g) s.middle q.middle z.middle (back_token w (t.Ident n) s.middle q.middle q.first_marks q.first.part)
    (back_generics g w q.middle z.middle z.first_marks z.first)))
    (h z.middle z.rest_marks z.rest)

back_shape : (x : ShapeTree) (n : Ident) (g : GenericsTree) (w : Where) (ts o : Trees) (m : Marks) → grammar.shape run x n g w ts o m → Back (flat_map in_param g.params.items ++ in_shape x g.where_clause) (written.shape_trees n g x) ts o
back_shape (struct_shape range fs) n g w ts o m s =
    back_head (codes "struct") range n g w (written.struct_body_trees g.where_clause fs) (grammar.struct_body fs g.where_clause w) ts o m s
    (λ i k h. back_body fs g.where_clause w i o k h)
back_shape (enum_shape range xs) n g w ts o m s =
    let all : Trees = spell.grouped Brace (written.variant_list_trees xs) in
    back_head (codes "enum") range n g w (join (written.where_trees g.where_clause) all) (grammar.where_clause g.where_clause w then grammar.variants run xs w) ts o m s
    (λ i k h.
    back_join (written.where_trees g.where_clause) all i h.middle o (back_where g.where_clause w i h.middle h.first_marks h.first)
    (back_variants xs w h.middle o h.rest_marks h.rest))
back_shape (union_shape range fs) n g w ts o m s =
    let all : Trees = spell.grouped Brace (written.field_list_trees fs) in
    back_head (codes "union") range n g w (join (written.where_trees g.where_clause) all) (grammar.where_clause g.where_clause w then grammar.braced fs w) ts o m s
    (λ i k h.
    back_join (written.where_trees g.where_clause) all i h.middle o (back_where g.where_clause w i h.middle h.first_marks h.first)
    (back_braced fs w h.middle o h.rest_marks h.rest))

-- ---- the whole declaration

back_declaration : (d : Declaration) (limit : ℕ) (ts : Trees) (m : Marks) → SpelledBy d limit ts m → Back (in_declaration d) (written.declaration_trees d) ts no_trees
back_declaration d limit ts m k =
    let w : Where = record { level = 0; limit = limit } in
    let s = k.spelled in
    let q = s.rest in
    let shape : Trees = written.shape_trees d.ident d.generics d.shape in
    back_join (spell.attributes_trees d.attrs) (join (written.vis_trees nowhere d.vis) shape) ts s.middle no_trees
    (walk_attributes backs w d.attrs ts s.middle s.first_marks s.first)
    (back_join (written.vis_trees nowhere d.vis) shape s.middle q.middle no_trees (back_vis nowhere w d.vis s.middle q.middle q.first_marks q.first)
    (back_shape d.shape d.ident d.generics w q.middle no_trees q.rest_marks q.rest))

pub declaration_back : (d : Declaration) (limit : ℕ) (ts : Trees) (m : Marks) → SpelledBy d limit ts m → IsDeclarationBack d ts
declaration_back d limit ts m s =
    let h : RespacedAround (in_declaration d) (tokens_of ts) (tokens_of (written.declaration_trees d)) =
    same_whole (written.declaration_trees d) ts (back_declaration d limit ts m s) in
    record { spelled = same_spelled h; spacing = h }
