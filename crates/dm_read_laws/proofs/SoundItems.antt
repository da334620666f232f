-- Implementations that were read are in the grammar and have the tokens that were read, over readers of any fuel of which that holds.
use Rattle.std.specs.Prelude.{◌≡◌, ℕ, zero, suc, ◌+◌, ◌*◌, ◌==◌, ◌&&◌, ◌||◌, not, Bool, true, false, List, [], ◌∷◌, codes, map, Option, Some, None, refl}
use Rattle.std.specs.Str.{bytes_eq}
use Rattle.std.proofs.Common.{ap, ap₂, ◌∙◌, sym, subst}
use Rattle.std.proofs.lemmas.Bool.{and_parts, eqb-true}
use Rattle.std.proofs.lemmas.Slice.Eq.{bytes_eq-Decides}
use Rattle.dm_stream.specs.declared.tokens.Span.{Span}
use Rattle.dm_stream.specs.declared.tokens.Delim.{Delim}
use Rattle.dm_stream.specs.declared.tokens.Delim.TheVariants.{Paren, Bracket, Brace}
use Rattle.dm_stream.specs.declared.tokens.Spacing.{Spacing}
use Rattle.dm_stream.specs.declared.tokens.Spacing.TheVariants.{Joint, Alone}
use Rattle.dm_stream.specs.declared.tokens.Ident.{Ident}
use Rattle.dm_stream.specs.declared.tokens.Punct.{Punct}
use Rattle.dm_stream.specs.declared.tokens.Token.{Token}
use Rattle.dm_stream.specs.declared.tokens.Token.TheVariants as t
use Rattle.dm_stream.specs.Layout.{nowhere}
use Rattle.dm_stream.specs.Trees.{Trees, no_trees, token, group, join, join_assoc, join-no_trees}
use Rattle.dm_lexer.specs.Written.{unplaced_token}
use Rattle.dm_ast.specs.Keywords.{is_name}
use Rattle.dm_ast.specs.Spelling.{is_word}
use Rattle.dm_ast.specs.Tree.{TypeTree}
use Rattle.dm_ast.specs.TypeTokens.{given, name, type_trees}
use Rattle.dm_output.specs.Output.{BlockTree, AssocTree, ParamOfMethod, MethodTree, ItemTree}
use Rattle.dm_output.specs.Tokens as k
use Rattle.dm_output.specs.Tokens.{in_turn, attr_inside, attr_trees, assoc_trees, method_trees, head_trees, item_trees, block_trees, inside_trees, inputs_trees, output_trees, method_param_trees, receiver_trees, private_bounds, dead_code, deprecated, unreachable_code, non_upper_case_globals, unused_unit, automatically_derived, track_caller}
use Rattle.dm_output.specs.declared.item.ItemAttr.{ItemAttr}
use Rattle.dm_output.specs.declared.item.ItemAttr.TheVariants as attr
use Rattle.dm_output.specs.declared.item.Receiver.{Receiver}
use Rattle.dm_output.specs.declared.item.Receiver.TheVariants as receiver
use Rattle.dm_reread.specs.Next.{k_const, k_mut, k_type, k_fn, k_impl, Next, ended, amp, hash, comma, arrow, in_parens, in_braces, in_brackets, a_name, a_word, next}
use Rattle.dm_reread.specs.Leaves.{LeafGrammar, Leaves}
use Rattle.dm_reread.specs.Reading.{then, is_alone, whole, assigns_after, semicolon_after, colon_after, readers}
use Rattle.dm_reread.specs.Grammar.{IsBlock}
use Rattle.dm_reread.specs.Whole.{size, read_inside}
use Rattle.dm_reread.specs.Items.{HeadTree, head_of, between_trees, ItemLeaves, same_words, all_attrs, attr_among, attr_bracket, attrs_from, read_attrs, assoc_from, assocs_from, read_assocs, param_from, Inputs, behind_receiver, self_from, ref_input, read_inputs, inputs_after, output_after, body_after, name_of_method, fn_from, const_or_fn, read_method, read_methods, impl_after, members_of, braces_of_item, read_item, read_items}
use Rattle.dm_reread.specs.ItemGrammar.{ItemGrammar, IsAssoc, AreAssocs, IsParam, IsOutput, IsMethod, AreMethods, IsItem, AreItems}
use Rattle.dm_read_laws.specs.Sound.{IsBare, Spells, SoundLeaves, SoundItems}
use Rattle.dm_read_laws.proofs.SoundRows.{Sound}
use Rattle.dm_read_laws.proofs.Answers.{then_by, provided_some, cond_some, whole_some, same_answer}
use Rattle.dm_read_laws.proofs.SoundSteps.{bare_token, bare_group, bare_rest, spells_then, spells_whole, is_word_same, Front, Begins, next_begins}
use Rattle.dm_read_laws.proofs.SoundFronts.{Gives, gives_some, gives_none, assigns_seen, semicolon_seen, colon_seen}
use Rattle.dm_read_laws.proofs.SoundLists.{parts_sound}

-- ---- trees without ranges that are the same, ranges aside

same_flag : (a b : Bool) → ((a && b) || not (a || b)) ≡ true → a ≡ b
same_flag true true e = refl
same_flag false false e = refl
same_flag true false e = absurd (cc)
same_flag false true e = absurd (cc)

same_spacing : (a b : Spacing) → ((is_alone a && is_alone b) || not (is_alone a || is_alone b)) ≡ true → a ≡ b
same_spacing Alone Alone e = refl
same_spacing Joint Joint e = refl
same_spacing Alone Joint e = absurd (cc)
same_spacing Joint Alone e = absurd (cc)

ident_by : (i j : Ident) → (((i.raw && j.raw) || not (i.raw || j.raw)) && bytes_eq i.name j.name) ≡ true →
    unplaced_token (t.Ident i) ≡ unplaced_token (t.Ident j)
ident_by i j e =
    let h = and_parts ((i.raw && j.raw) || not (i.raw || j.raw)) (bytes_eq i.name j.name) e in
    ap₂ (λ n r. t.Ident (record { name = n; raw = r; span = nowhere })) ((bytes_eq-Decides i.name j.name).0 h.1) (same_flag i.raw j.raw h.0)

punct_by : (p q : Punct) →
    (((is_alone p.spacing && is_alone q.spacing) || not (is_alone p.spacing || is_alone q.spacing)) && (p.ch == q.ch)) ≡ true →
    unplaced_token (t.Punct p) ≡ unplaced_token (t.Punct q)
punct_by p q e =
    let h = and_parts ((is_alone p.spacing && is_alone q.spacing) || not (is_alone p.spacing || is_alone q.spacing)) (p.ch == q.ch) e in
    ap₂ (λ c s. t.Punct (record { ch = c; spacing = s; span = nowhere })) (eqb-true p.ch q.ch h.1) (same_spacing p.spacing q.spacing h.0)

tokens_then : (same : Bool) (j l : Token) (ts us : Trees) → IsBare (token j ts) → IsBare (token l us) → (same && same_words ts us) ≡ true →
    (same ≡ true → unplaced_token j ≡ unplaced_token l) →
    (IsBare ts → IsBare us → same_words ts us ≡ true → ts ≡ us) →
    token j ts ≡ token l us
tokens_then same j l ts us b c e first more =
    let h = and_parts same (same_words ts us) e in
    let m = bare_token j ts b in
    let n = bare_token l us c in
    ap₂ (λ x y. token x y) (sym m.0 ∙ first h.0 ∙ n.0) (more m.1 n.1 h.1)

groups_then : (d : Delim) (from : Span) (inside : Trees) (upto : Span) (ts : Trees) (start : Span) (behind : Trees) (stop : Span) (us : Trees) →
    IsBare (group d from inside upto ts) → IsBare (group d start behind stop us) →
    (same_words inside behind && same_words ts us) ≡ true →
    (IsBare inside → IsBare behind → same_words inside behind ≡ true → inside ≡ behind) →
    (IsBare ts → IsBare us → same_words ts us ≡ true → ts ≡ us) →
    group d from inside upto ts ≡ group d start behind stop us
groups_then d from inside upto ts start behind stop us b c e within more =
    let h : (same_words inside behind ≡ true) × (same_words ts us ≡ true) = and_parts (same_words inside behind) (same_words ts us) e in
    let m : ((from ≡ nowhere) × (upto ≡ nowhere)) × (IsBare inside × IsBare ts) = bare_group d from inside upto ts b in
    let n : ((start ≡ nowhere) × (stop ≡ nowhere)) × (IsBare behind × IsBare us) = bare_group d start behind stop us c in
    ap (λ x. group d x inside upto ts) (m.0.0 ∙ sym n.0.0) ∙
    (ap (λ x. group d start x upto ts) (within m.1.0 n.1.0 h.0) ∙
    (ap (λ x. group d start behind x ts) (m.0.1 ∙ sym n.0.1) ∙ ap (λ x. group d start behind stop x) (more m.1.1 n.1.1 h.1)))

words_same : (ts us : Trees) → IsBare ts → IsBare us → same_words ts us ≡ true → ts ≡ us
words_same no_trees no_trees b c e = refl
words_same (token (t.Ident i) ts) (token (t.Ident j) us) b c e =
    tokens_then _ (t.Ident i) (t.Ident j) ts us b c e (ident_by i j) (words_same ts us)
words_same (token (t.Punct p) ts) (token (t.Punct q) us) b c e =
    tokens_then _ (t.Punct p) (t.Punct q) ts us b c e (punct_by p q) (words_same ts us)
words_same (group Paren from inside upto ts) (group Paren start behind stop us) b c e =
    groups_then Paren from inside upto ts start behind stop us b c e (words_same inside behind) (words_same ts us)
words_same (group Bracket from inside upto ts) (group Bracket start behind stop us) b c e =
    groups_then Bracket from inside upto ts start behind stop us b c e (words_same inside behind) (words_same ts us)
words_same (group Brace from inside upto ts) (group Brace start behind stop us) b c e =
    groups_then Brace from inside upto ts start behind stop us b c e (words_same inside behind) (words_same ts us)
words_same (token (t.Lifetime l) ts) (token j us) b c e = absurd (cc)
words_same (token (t.Lifetime l) ts) _ b c e = absurd (cc)
words_same (token (t.Literal l) ts) (token j us) b c e = absurd (cc)
words_same (token (t.Literal l) ts) _ b c e = absurd (cc)
words_same _ _ b c e = absurd (cc)

-- ---- attributes

attr_bare : (a : ItemAttr) → IsBare (attr_inside a)
unfolding private_bounds dead_code deprecated unreachable_code non_upper_case_globals unused_unit automatically_derived track_caller
attr_bare attr.AllowPrivateBounds = refl
attr_bare attr.AllowDeadCodePrivateBounds = refl
attr_bare attr.AllowDeprecated = refl
attr_bare attr.AllowUnreachableCode = refl
attr_bare attr.AllowNonUpperCaseGlobals = refl
attr_bare attr.AllowUnusedUnit = refl
attr_bare attr.AutomaticallyDerived = refl
attr_bare attr.DocHidden = refl
attr_bare attr.Inline = refl
attr_bare attr.TrackCaller = refl

among : (as' : List ItemAttr) (ts : Trees) (a : ItemAttr) → attr_among as' ts ≡ Some a → same_words (attr_inside a) ts ≡ true
among [] ts a e = absurd (cc)
among (x ∷ xs) ts a e =
    cond_some (same_words (attr_inside x) ts) (Some x) (attr_among xs ts) a (same_words (attr_inside a) ts ≡ true) e
    (λ h f. same_answer (λ y. same_words (attr_inside y) ts ≡ true) x a f h) (λ h f. among xs ts a f)

attr_same : (ts : Trees) (a : ItemAttr) → IsBare ts → attr_among all_attrs ts ≡ Some a → attr_inside a ≡ ts
attr_same ts a bare e = words_same (attr_inside a) ts (attr_bare a) bare (among all_attrs ts a e)

abbrev attrs_trees : List ItemAttr → Trees
attrs_trees as' = in_turn (map attr_trees as')

abbrev AreAttrs : Trees → List ItemAttr × Trees → Type 0
AreAttrs ts a = Spells (attrs_trees a.0) ts a.1

module _ (more : Trees → Option (List ItemAttr × Trees))
    (later : (ts us : Trees) (as' : List ItemAttr) → IsBare ts → more ts ≡ Some (as', us) → AreAttrs ts (as', us)) where
  bracket_sound : (all ts us : Trees) (n : Next) (as' : List ItemAttr) → Spells (k.punct 35) all ts → Begins ts n →
      attr_bracket more n ≡ Some (as', us) →
      AreAttrs all (as', us)
  bracket_sound all ts us (in_brackets inside vs) as' w b e =
      then_by (attr_among all_attrs inside) _ (as', us) (AreAttrs all (as', us)) e
      (λ a h e'. then_by (more vs) _ (as', us) (AreAttrs all (as', us)) e'
      (λ s i f.
      same_answer (AreAttrs all) (a ∷ s.0, s.1) (as', us) f
      (w ∙ (ap (join (k.punct 35)) b.0.0 ∙
      (ap (λ y. join (k.punct 35) (join (k.enclosed Bracket y) vs)) (sym (attr_same inside a b.1 h)) ∙
      ap (λ y. join (k.punct 35) (join (k.enclosed Bracket (attr_inside a)) y)) (later vs s.1 s.0 b.0.1 i))))))
  bracket_sound all ts us _ as' w b e = absurd (cc)

  attrs_by : (ts us : Trees) (n : Next) (as' : List ItemAttr) → Begins ts n → attrs_from more ts n ≡ Some (as', us) → AreAttrs ts (as', us)
  attrs_by ts us (hash vs) as' b e = bracket_sound ts vs us (next vs) as' b.0 (next_begins vs b.1) e
  attrs_by ts us _ as' b e = same_answer (AreAttrs ts) ([], ts) (as', us) e refl

attrs_sound : (n : ℕ) (ts us : Trees) (as' : List ItemAttr) → IsBare ts → read_attrs n ts ≡ Some (as', us) → AreAttrs ts (as', us)
attrs_sound zero ts us as' bare e = absurd (cc)
attrs_sound (suc n) ts us as' bare e = attrs_by (read_attrs n) (attrs_sound n) ts us (next ts) as' (next_begins ts bare) e

-- ---- associated types

abbrev IsAssocRead : LeafGrammar → Trees → AssocTree × Trees → Type 0
IsAssocRead g ts a = IsAssoc g a.0 × Spells (assoc_trees a.0) ts a.1

abbrev AreAssocsRead : LeafGrammar → Trees → List AssocTree × Trees → Type 0
AreAssocsRead g ts a = AreAssocs g a.0 × Spells (in_turn (map assoc_trees a.0)) ts a.1

module _ (g : LeafGrammar) (l : Leaves) (L : SoundLeaves g l) where
  assoc_sound : (all ts us : Trees) (n : Next) (x : AssocTree) → Spells (k.word (codes "type")) all ts → Begins ts n →
      assoc_from l n ≡ Some (x, us) →
      IsAssocRead g all (x, us)
  assoc_sound all ts us (a_name i vs) x w b e =
      let h : (is_name i ≡ true) ×
      (then (assigns_after (next vs)) (λ ws. then (l.type ws) (λ a. then (semicolon_after (next a.1)) (λ zs.
      Some (record { name = i; ty = a.0 }, zs)))) ≡ Some (x, us)) =
      provided_some (is_name i) _ (x, us) e in
      then_by (assigns_after (next vs)) _ (x, us) (IsAssocRead g all (x, us)) h.1
      (λ ws c e'. then_by (l.type ws) _ (x, us) (IsAssocRead g all (x, us)) e'
      (λ a m e''. then_by (semicolon_after (next a.1)) _ (x, us) (IsAssocRead g all (x, us)) e''
      (λ zs s f.
      let p : Front k.assigns vs ws = (assigns_seen vs (next vs) (next_begins vs b.0.1)).at ws c in
      let d : g.IsType a.0 × Spells (type_trees a.0) ws a.1 = L.type ws a.1 a.0 p.1 m in
      let q : Front k.semicolon a.1 zs =
      (semicolon_seen a.1 (next a.1) (next_begins a.1 (bare_rest (type_trees a.0) ws a.1 p.1 d.1))).at zs s in
      same_answer (IsAssocRead g all) (record { name = i; ty = a.0 }, zs) (x, us) f (
        (h.0, d.0),
        spells_then (k.word (codes "type")) (join (name i) (join k.assigns (join (type_trees a.0) k.semicolon))) all ts zs w
            (spells_then (name i) (join k.assigns (join (type_trees a.0) k.semicolon)) ts vs zs b.0.0
            (spells_then k.assigns (join (type_trees a.0) k.semicolon) vs ws zs p.0
            (spells_then (type_trees a.0) k.semicolon ws a.1 zs d.1 q.0))),
      ))))
  assoc_sound all ts us _ x w b e = absurd (cc)

  module _ (more : Trees → Option (List AssocTree × Trees))
      (later : (ts us : Trees) (as' : List AssocTree) → IsBare ts → more ts ≡ Some (as', us) → AreAssocsRead g ts (as', us)) where
    assocs_by : (ts us : Trees) (n : Next) (as' : List AssocTree) → IsBare ts → Begins ts n → assocs_from l more ts n ≡ Some (as', us) →
        AreAssocsRead g ts (as', us)
    assocs_by ts us (a_word k_type vs) as' bare b e =
        then_by (assoc_from l (next vs)) _ (as', us) (AreAssocsRead g ts (as', us)) e
        (λ a h e'. then_by (more a.1) _ (as', us) (AreAssocsRead g ts (as', us)) e'
        (λ s i f.
        let d : IsAssocRead g ts a = assoc_sound ts vs a.1 (next vs) a.0 b.0 (next_begins vs b.1) h in
        let q : AreAssocsRead g a.1 s = later a.1 s.1 s.0 (bare_rest (assoc_trees a.0) ts a.1 bare d.1) i in
        same_answer (AreAssocsRead g ts) (a.0 ∷ s.0, s.1) (as', us) f
        ((d.0, q.0), spells_then (assoc_trees a.0) (in_turn (map assoc_trees s.0)) ts a.1 s.1 d.1 q.1)))
    assocs_by ts us _ as' bare b e = same_answer (AreAssocsRead g ts) ([], ts) (as', us) e (tt, refl)

  assocs_sound : (n : ℕ) (ts us : Trees) (as' : List AssocTree) → IsBare ts → read_assocs l n ts ≡ Some (as', us) →
      AreAssocsRead g ts (as', us)
  assocs_sound zero ts us as' bare e = absurd (cc)
  assocs_sound (suc n) ts us as' bare e =
      assocs_by (read_assocs l n) (assocs_sound n) ts us (next ts) as' bare (next_begins ts bare) e

  -- ---- the inputs and the output of a method

  abbrev IsParamRead : Trees → ParamOfMethod → Type 0
  IsParamRead ts p = IsParam g (Some p) × (ts ≡ method_param_trees p)

  abbrev AreInputs : Trees → Inputs → Type 0
  AreInputs ts x = IsParam g x.1 × (ts ≡ inputs_trees x.0 x.1)

  abbrev IsOutputRead : Trees → Option TypeTree × Trees → Type 0
  IsOutputRead ts o = IsOutput g o.0 × Spells (output_trees o.0) ts o.1

  type_whole : (ts : Trees) (x : TypeTree) → IsBare ts → whole (l.type ts) ≡ Some x → g.IsType x × (ts ≡ type_trees x)
  type_whole ts x bare e =
      let d : g.IsType x × Spells (type_trees x) ts no_trees = L.type ts no_trees x bare (whole_some (l.type ts) x e) in
      (d.0, spells_whole (type_trees x) ts d.1)

  param_sound : (ts : Trees) (n : Next) (p : ParamOfMethod) → Begins ts n → param_from l n ≡ Some p → IsParamRead ts p
  param_sound ts (a_name i vs) p b e =
      let h : (is_name i ≡ true) ×
      (then (colon_after (next vs)) (λ us. then (whole (l.type us)) (λ x. Some (record { name = i; ty = x }))) ≡ Some p) =
      provided_some (is_name i) _ p e in
      then_by (colon_after (next vs)) _ p (IsParamRead ts p) h.1
      (λ us c e'. then_by (whole (l.type us)) _ p (IsParamRead ts p) e'
      (λ x m f.
      let q : Front k.colon vs us = (colon_seen vs (next vs) (next_begins vs b.0.1)).at us c in
      let d : g.IsType x × (us ≡ type_trees x) = type_whole us x q.1 m in
      same_answer (IsParamRead ts) (record { name = i; ty = x }) p f
      ((h.0, d.0), b.0.0 ∙ ap (join (name i)) (q.0 ∙ ap (join k.colon) d.1))))
  param_sound ts _ p b e = absurd (cc)

  behind_sound : (r : Receiver) (all ts : Trees) (n : Next) (x : Inputs) → Spells (receiver_trees r) all ts → Begins ts n →
      behind_receiver l r n ≡ Some x →
      AreInputs all x
  behind_sound r all ts ended x w b e =
      same_answer (AreInputs all) (Some r, None) x e
      (tt, w ∙ (ap (join (receiver_trees r)) b ∙ join-no_trees (receiver_trees r)))
  behind_sound r all ts (comma vs) x w b e =
      then_by (param_from l (next vs)) _ x (AreInputs all x) e
      (λ p h f.
      let d : IsParamRead vs p = param_sound vs (next vs) p (next_begins vs b.1) h in
      same_answer (AreInputs all) (Some r, Some p) x f (d.0, w ∙ ap (join (receiver_trees r)) (b.0 ∙ ap (join k.comma) d.1)))
  behind_sound r all ts _ x w b e = absurd (cc)

  -- `self`, with what stands in front of it
  self_sound : (r : Receiver) (own all ts : Trees) (n : Next) (x : Inputs) → Spells own all ts →
      join own (k.word (codes "self")) ≡ receiver_trees r →
      Begins ts n →
      self_from l r n ≡ Some x → AreInputs all x
  self_sound r own all ts (a_name i vs) x w o b e =
      let h : (is_word (codes "self") i ≡ true) × (behind_receiver l r (next vs) ≡ Some x) = provided_some (is_word (codes "self") i) _ x e in
      let s : Spells (k.word (codes "self")) ts vs =
      b.0.0 ∙ ap (λ j. token (t.Ident j) vs) (is_word_same (codes "self") i h.0 b.1.1) in
      behind_sound r all vs (next vs) x
      (spells_then own (k.word (codes "self")) all ts vs w s ∙ ap (λ y. join y vs) o)
      (next_begins vs b.0.1) h.1
  self_sound r own all ts _ x w o b e = absurd (cc)

  ref_input_sound : (all ts : Trees) (n : Next) (x : Inputs) → Spells (k.punct 38) all ts → Begins ts n → ref_input l n ≡ Some x →
      AreInputs all x
  ref_input_sound all ts (a_word k_mut vs) x w b e =
      self_sound receiver.RefMut (join (k.punct 38) (k.word (codes "mut"))) all vs (next vs) x
      (spells_then (k.punct 38) (k.word (codes "mut")) all ts vs w b.0) refl (next_begins vs b.1) e
  ref_input_sound all ts n x w b e = self_sound receiver.Ref (k.punct 38) all ts n x w refl b e

  inputs_sound : (ts : Trees) (n : Next) (x : Inputs) → Begins ts n → read_inputs l n ≡ Some x → AreInputs ts x
  inputs_sound ts ended x b e = same_answer (AreInputs ts) (None, None) x e (tt, b)
  inputs_sound ts (amp vs) x b e = ref_input_sound ts vs (next vs) x b.0 (next_begins vs b.1) e
  inputs_sound ts (a_name i vs) x b e =
      cond_some (is_name i) _ _ x (AreInputs ts x) e
      (λ h f. then_by (param_from l (a_name i vs)) _ x (AreInputs ts x) f
      (λ p c q.
      let d : IsParamRead ts p = param_sound ts (a_name i vs) p b c in
      same_answer (AreInputs ts) (None, Some p) x q (d.0, d.1)))
      (λ h f. self_sound receiver.Value no_trees ts ts (a_name i vs) x refl refl b f)
  inputs_sound ts _ x b e = absurd (cc)

  output_sound : (ts us : Trees) (n : Next) (o : Option TypeTree) → Begins ts n → output_after l ts n ≡ Some (o, us) →
      IsOutputRead ts (o, us)
  output_sound ts us (arrow vs) o b e =
      then_by (l.type vs) _ (o, us) (IsOutputRead ts (o, us)) e
      (λ a h f.
      let d : g.IsType a.0 × Spells (type_trees a.0) vs a.1 = L.type vs a.1 a.0 b.1 h in
      same_answer (IsOutputRead ts) (Some a.0, a.1) (o, us) f
      (d.0, spells_then (k.joint 45 62) (type_trees a.0) ts vs a.1 b.0 d.1))
  output_sound ts us _ o b e = same_answer (IsOutputRead ts) (None, ts) (o, us) e (tt, refl)

  -- ---- methods

  -- a method from its name on
  abbrev named_trees : MethodTree → Trees
  named_trees x =
      join (name x.name) (join (k.enclosed Paren (inputs_trees x.receiver x.param)) (join (output_trees x.output) (block_trees x.body)))

  abbrev IsNamed : List ItemAttr → Bool → Trees → MethodTree × Trees → Type 0
  IsNamed as' c ts a = (IsMethod g a.0 × ((a.0.attrs ≡ as') × (a.0.is_const ≡ c))) × Spells (named_trees a.0) ts a.1

  abbrev IsFn : List ItemAttr → Bool → Trees → MethodTree × Trees → Type 0
  IsFn as' c ts a =
      (IsMethod g a.0 × ((a.0.attrs ≡ as') × (a.0.is_const ≡ c))) × Spells (join (k.word (codes "fn")) (named_trees a.0)) ts a.1

  abbrev fn_end : MethodTree → Trees
  fn_end x = join (given x.is_const (k.word (codes "const"))) (join (k.word (codes "fn")) (named_trees x))

  abbrev IsSigned : List ItemAttr → Trees → MethodTree × Trees → Type 0
  IsSigned as' ts a = (IsMethod g a.0 × (a.0.attrs ≡ as')) × Spells (fn_end a.0) ts a.1

  abbrev IsMethodRead : Trees → MethodTree × Trees → Type 0
  IsMethodRead ts a = IsMethod g a.0 × Spells (method_trees a.0) ts a.1

  abbrev AreMethodsRead : Trees → List MethodTree → Type 0
  AreMethodsRead ts xs = AreMethods g xs × (ts ≡ in_turn (map method_trees xs))

  method_shape : (x : MethodTree) → method_trees x ≡ join (attrs_trees x.attrs) (fn_end x)
  method_shape x = simp join_assoc refl

  module _ (all : (n : ℕ) → Sound g (readers l n)) where
    body_sound : (ts us : Trees) (n : Next) (d : BlockTree) → Begins ts n → body_after l n ≡ Some (d, us) →
        IsBlock g d × Spells (block_trees d) ts us
    body_sound ts us (in_braces inside vs) d b e =
        then_by (read_inside l inside) _ (d, us) (IsBlock g d × Spells (block_trees d) ts us) e
        (λ x h f.
        let q : IsBlock g x × (inside ≡ inside_trees x) = (all (1 + 5 * size inside)).block inside x b.1 h in
        same_answer (λ (a : BlockTree × Trees). IsBlock g a.0 × Spells (block_trees a.0) ts a.1) (x, vs) (d, us) f
        (q.0, b.0.0 ∙ ap (λ y. join (k.enclosed Brace y) vs) q.1))
    body_sound ts us _ d b e = absurd (cc)

    inputs_after_sound : (ts us : Trees) (n : Next) (x : Inputs) → Begins ts n → inputs_after l n ≡ Some (x, us) →
        (IsParam g x.1 × IsBare us) × Spells (k.enclosed Paren (inputs_trees x.0 x.1)) ts us
    inputs_after_sound ts us (in_parens inside vs) x b e =
        then_by (read_inputs l (next inside)) _ (x, us)
        ((IsParam g x.1 × IsBare us) × Spells (k.enclosed Paren (inputs_trees x.0 x.1)) ts us) e
        (λ y h f.
        let d : AreInputs inside y = inputs_sound inside (next inside) y (next_begins inside b.1) h in
        same_answer
        (λ (a : Inputs × Trees). (IsParam g a.0.1 × IsBare a.1) × Spells (k.enclosed Paren (inputs_trees a.0.0 a.0.1)) ts a.1)
        (y, vs) (x, us) f
        ((d.0, b.0.1), b.0.0 ∙ ap (λ z. join (k.enclosed Paren z) vs) d.1))
    inputs_after_sound ts us _ x b e = absurd (cc)

    named_sound : (as' : List ItemAttr) (c : Bool) (ts us : Trees) (n : Next) (x : MethodTree) → Begins ts n →
        name_of_method l as' c n ≡ Some (x, us) →
        IsNamed as' c ts (x, us)
    named_sound as' c ts us (a_name i vs) x b e =
        let h : (is_name i ≡ true) ×
        (then (inputs_after l (next vs)) (λ p. then (output_after l p.1 (next p.1)) (λ o. then (body_after l (next o.1)) (λ d.
        Some (record { attrs = as'; is_const = c; name = i; receiver = p.0.0; param = p.0.1; output = o.0; body = d.0 }, d.1)))) ≡ Some (x, us)) =
        provided_some (is_name i) _ (x, us) e in
        then_by (inputs_after l (next vs)) _ (x, us) (IsNamed as' c ts (x, us)) h.1
        (λ p m e'. then_by (output_after l p.1 (next p.1)) _ (x, us) (IsNamed as' c ts (x, us)) e'
        (λ o q e''. then_by (body_after l (next o.1)) _ (x, us) (IsNamed as' c ts (x, us)) e''
        (λ d s f.
        let put : (IsParam g p.0.1 × IsBare p.1) × Spells (k.enclosed Paren (inputs_trees p.0.0 p.0.1)) vs p.1 =
        inputs_after_sound vs p.1 (next vs) p.0 (next_begins vs b.0.1) m in
        let out : IsOutputRead p.1 o = output_sound p.1 o.1 (next p.1) o.0 (next_begins p.1 put.0.1) q in
        let body : IsBlock g d.0 × Spells (block_trees d.0) o.1 d.1 =
        body_sound o.1 d.1 (next o.1) d.0 (next_begins o.1 (bare_rest (output_trees o.0) p.1 o.1 put.0.1 out.1)) s in
        same_answer (IsNamed as' c ts)
        (record { attrs = as'; is_const = c; name = i; receiver = p.0.0; param = p.0.1; output = o.0; body = d.0 }, d.1) (x, us) f (
          (((h.0, put.0.0), (out.0, body.0)), (refl, refl)),
          spells_then (name i)
              (join (k.enclosed Paren (inputs_trees p.0.0 p.0.1)) (join (output_trees o.0) (block_trees d.0))) ts vs d.1 b.0.0
              (spells_then (k.enclosed Paren (inputs_trees p.0.0 p.0.1)) (join (output_trees o.0) (block_trees d.0)) vs p.1 d.1 put.1
              (spells_then (output_trees o.0) (block_trees d.0) p.1 o.1 d.1 out.1 body.1)),
        ))))
    named_sound as' c ts us _ x b e = absurd (cc)

    fn_sound : (as' : List ItemAttr) (c : Bool) (ts us : Trees) (n : Next) (x : MethodTree) → Begins ts n →
        fn_from l as' c n ≡ Some (x, us) →
        IsFn as' c ts (x, us)
    fn_sound as' c ts us (a_word k_fn vs) x b e =
        let d : IsNamed as' c vs (x, us) = named_sound as' c vs us (next vs) x (next_begins vs b.1) e in
        (d.0, spells_then (k.word (codes "fn")) (named_trees x) ts vs us b.0 d.1)
    fn_sound as' c ts us _ x b e = absurd (cc)

    -- `const`, where it is given
    signed_by : (as' : List ItemAttr) (c : Bool) (all ts us : Trees) (x : MethodTree) →
        Spells (given c (k.word (codes "const"))) all ts → IsFn as' c ts (x, us) →
        IsSigned as' all (x, us)
    signed_by as' c all ts us x w d =
        let rest : Trees = join (k.word (codes "fn")) (named_trees x) in (
          (d.0.0, d.0.1.0),
          spells_then (given c (k.word (codes "const"))) rest all ts us w d.1 ∙
              ap (λ y. join (join (given y (k.word (codes "const"))) rest) us) (sym d.0.1.1),
        )

    signed_sound : (as' : List ItemAttr) (ts us : Trees) (n : Next) (x : MethodTree) → Begins ts n →
        const_or_fn l as' n ≡ Some (x, us) →
        IsSigned as' ts (x, us)
    signed_sound as' ts us (a_word k_const vs) x b e =
        signed_by as' true ts vs us x b.0 (fn_sound as' true vs us (next vs) x (next_begins vs b.1) e)
    signed_sound as' ts us n x b e = signed_by as' false ts ts us x refl (fn_sound as' false ts us n x b e)

    method_sound : (ts us : Trees) (x : MethodTree) → IsBare ts → read_method l ts ≡ Some (x, us) → IsMethodRead ts (x, us)
    method_sound ts us x bare e =
        then_by (read_attrs (suc (size ts)) ts) _ (x, us) (IsMethodRead ts (x, us)) e
        (λ a h f.
        let w : AreAttrs ts a = attrs_sound (suc (size ts)) ts a.1 a.0 bare h in
        let d : IsSigned a.0 a.1 (x, us) =
        signed_sound a.0 a.1 us (next a.1) x (next_begins a.1 (bare_rest (attrs_trees a.0) ts a.1 bare w)) f in (
          d.0.0,
          spells_then (attrs_trees a.0) (fn_end x) ts a.1 us w d.1 ∙
              (ap (λ y. join (join (attrs_trees y) (fn_end x)) us) (sym d.0.1) ∙ ap (λ y. join y us) (sym (method_shape x))),
        ))

    methods_sound : (n : ℕ) (ts : Trees) (xs : List MethodTree) → IsBare ts → read_methods l n ts ≡ Some xs → AreMethodsRead ts xs
    methods_sound = parts_sound (read_method l) method_trees (IsMethod g) (AreMethods g) tt (λ x xs h k. (h, k)) method_sound

-- ---- implementations

impl_seen : (ts : Trees) (n : Next) → Begins ts n → Gives (impl_after n) (λ us. Front (k.word (codes "impl")) ts us)
impl_seen ts (a_word k_impl us) b = gives_some us b
impl_seen ts _ b = gives_none

abbrev members_trees : ItemTree → Trees
members_trees i = join (in_turn (map assoc_trees i.assocs)) (in_turn (map method_trees i.methods))

module _ (g : ItemGrammar) (l : ItemLeaves) (S : SoundItems g l) (all : (n : ℕ) → Sound g.parts (readers l.parts n)) where
  -- an implementation with these attributes and this head, whose members are these trees
  abbrev HasMembers : List ItemAttr → HeadTree → Trees → ItemTree → Type 0
  HasMembers as' h inside i =
      ((i.attrs ≡ as') × (head_of i ≡ h)) × ((AreAssocs g.parts i.assocs × AreMethods g.parts i.methods) × (inside ≡ members_trees i))

  abbrev IsItemRead : Trees → ItemTree × Trees → Type 0
  IsItemRead ts a = IsItem g a.0 × Spells (item_trees a.0) ts a.1

  members_sound : (as' : List ItemAttr) (h : HeadTree) (inside : Trees) (i : ItemTree) → IsBare inside →
      members_of l as' h inside ≡ Some i →
      HasMembers as' h inside i
  members_sound as' h inside i bare e =
      then_by (read_assocs l.parts (suc (size inside)) inside) _ i (HasMembers as' h inside i) e
      (λ x m e'. then_by (read_methods l.parts (suc (size x.1)) x.1) _ i (HasMembers as' h inside i) e'
      (λ ms q f.
      let d : AreAssocsRead g.parts inside x = assocs_sound g.parts l.parts S.parts (suc (size inside)) inside x.1 x.0 bare m in
      let w : AreMethods g.parts ms × (x.1 ≡ in_turn (map method_trees ms)) =
      methods_sound g.parts l.parts S.parts all (suc (size x.1)) x.1 ms
      (bare_rest (in_turn (map assoc_trees x.0)) inside x.1 bare d.1) q in
      same_answer (HasMembers as' h inside)
      (record { attrs = as'; params = h.params; trait_path = h.trait_path; ty = h.ty; predicates = h.predicates; assocs = x.0; methods = ms }) i f
      ((refl, refl), ((d.0, w.0), d.1 ∙ ap (join (in_turn (map assoc_trees x.0))) w.1))))

  -- behind the attributes and the head
  braces_sound : (as' : List ItemAttr) (h : HeadTree) (front ts us : Trees) (n : Next) (i : ItemTree) → g.IsHead h →
      Spells (join (attrs_trees as') (join (k.word (codes "impl")) (between_trees h))) front ts →
      Begins ts n →
      braces_of_item l as' h n ≡ Some (i, us) → IsItemRead front (i, us)
  braces_sound as' h front ts us (in_braces inside vs) i m w b e =
      then_by (members_of l as' h inside) _ (i, us) (IsItemRead front (i, us)) e
      (λ j c f.
      let d : HasMembers as' h inside j = members_sound as' h inside j b.1 c in
      let headed : Spells (head_trees j) front ts =
      w ∙ (ap (λ y. join (join (attrs_trees y) (join (k.word (codes "impl")) (between_trees h))) ts) (sym d.0.0) ∙
      ap (λ y. join (join (attrs_trees j.attrs) (join (k.word (codes "impl")) (between_trees y))) ts) (sym d.0.1)) in
      same_answer (IsItemRead front) (j, vs) (i, us) f (
        (subst g.IsHead (sym d.0.1) m, d.1.0),
        spells_then (head_trees j) (k.enclosed Brace (members_trees j)) front ts vs headed
            (b.0.0 ∙ ap (λ y. join (k.enclosed Brace y) vs) d.1.1),
      ))
  braces_sound as' h front ts us _ i m w b e = absurd (cc)

  item_sound : (ts us : Trees) (i : ItemTree) → IsBare ts → read_item l ts ≡ Some (i, us) → IsItemRead ts (i, us)
  item_sound ts us i bare e =
      then_by (read_attrs (suc (size ts)) ts) _ (i, us) (IsItemRead ts (i, us)) e
      (λ a c e'. then_by (impl_after (next a.1)) _ (i, us) (IsItemRead ts (i, us)) e'
      (λ vs m e''. then_by (l.head vs) _ (i, us) (IsItemRead ts (i, us)) e''
      (λ h q f.
      let w : AreAttrs ts a = attrs_sound (suc (size ts)) ts a.1 a.0 bare c in
      let p : Front (k.word (codes "impl")) a.1 vs =
      (impl_seen a.1 (next a.1) (next_begins a.1 (bare_rest (attrs_trees a.0) ts a.1 bare w))).at vs m in
      let d : g.IsHead h.0 × Spells (between_trees h.0) vs h.1 = S.head vs h.1 h.0 p.1 q in
      braces_sound a.0 h.0 ts h.1 us (next h.1) i d.0
      (spells_then (attrs_trees a.0) (join (k.word (codes "impl")) (between_trees h.0)) ts a.1 h.1 w
      (spells_then (k.word (codes "impl")) (between_trees h.0) a.1 vs h.1 p.0 d.1))
      (next_begins h.1 (bare_rest (between_trees h.0) vs h.1 p.1 d.1)) f)))

  -- implementations, to the end of the trees
  pub items_sound : (ts : Trees) (is : List ItemTree) → IsBare ts → read_items l ts ≡ Some is →
      AreItems g is × (in_turn (map item_trees is) ≡ ts)
  items_sound ts is bare e =
      let d = parts_sound (read_item l) item_trees (IsItem g) (AreItems g) tt (λ i js h k. (h, k)) item_sound (suc (size ts)) ts is bare e in
      (d.0, sym d.1)
