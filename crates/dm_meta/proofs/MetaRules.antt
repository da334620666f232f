-- Metas: what their readers decide.
use Rattle.std.proofs.Common.{◌≡◌, Bool, true, false, ◌||◌, if◌then◌else◌, [], ◌∷◌, ◌++◌, Some, None, Ok, Err, IsTrue, refl, sym, ap, ap₂, ◌∙◌, subst, append-nil}
use Rattle.std.proofs.lemmas.Bool.{or_parts}
use Rattle.dm_stream.specs.declared.tokens.Ident.{Ident}
use Rattle.dm_stream.specs.declared.tokens.Token.TheVariants as t
use Rattle.dm_stream.specs.declared.tokens.Span.{Span}
use Rattle.dm_stream.specs.declared.tokens.Delim.TheVariants.{Paren}
use Rattle.dm_stream.specs.declared.error.Kind.{Kind}
use Rattle.dm_stream.specs.declared.error.Kind.TheVariants.{TooDeep, Syntax}
use Rattle.dm_stream.specs.declared.error.Refusal.{Refusal}
use Rattle.dm_stream.specs.Trees.{Trees, token, Stream}
use Rattle.dm_ast.specs.Tree.{PathTree, path_tree, SegmentTree, SegmentTrees, no_segments, segment_then, segment, absent, segments_of}
use Rattle.dm_ast.specs.Spelling.{Where, Marks, Spelling, first_too_deep, Nothing, Provided, Before, sees, sees_group, sees_literal, sees_colons, ident, literal, colons, GroupAt}
use Rattle.dm_ast.specs.TypeGrammar.{is_path_word, kept}
use Rattle.dm_read_paths.specs.BarePaths.{bare_path, bare_segments, read_bare_path}
use Rattle.dm_ast.specs.Readers.{Outcome, Parser, and_then, mapped, ◌next◌, read_ident, read_colons, read_repeated, if_found, read_any, read_literal, read_rest, inside_at}
use Rattle.dm_read_paths.specs.TypeReaders.{segment_of, path_of, read_bare_arguments, read_segment, read_type}
use Rattle.dm_meta.specs.Metas.{PathOrKeywordTree, a_path, keyword, MetaListTree, MetaTree, path_meta, list_meta, NestedMetaTree, nested, lit, NoPath, path_or_keyword, meta_list, meta_spelled, nested_meta, begins_path, list_begins_path, meta_begins_path, nested_begins_path}
use Rattle.dm_meta.specs.MetaReaders.{is_syntax, keyword_of, if_no_path, read_path_or_keyword, read_enclosed, list_of, read_meta_list, list_behind, behind_path, read_meta, lit_of, nested_of, read_nested_meta}
use Rattle.dm_read.proofs.Deciding.{Same, IsRead, IsRefused, Decides, Reader, Bound, Image, pair, deep_front, covers_none, decides_bind, decides_by, decides_image, decides_test}
use Rattle.dm_read.proofs.Tokens.{reads_any, reads_literal, literal_seen}
use Rattle.dm_read.proofs.Groups.{reads_group, reads_rest, group_seen}
use Rattle.dm_read.proofs.PathSeeing.{no_turbofish}
use Rattle.dm_meta.proofs.BarePaths.{bare_decided}
use Rattle.dm_grammar_laws.proofs.TypeFronts.{Begins, behind_flag}
use Rattle.dm_read_paths.proofs.Sequences.{then_nothing, then_with}

-- ---- what is decided where a keyword isn't looked for, since a path that began there is too deep

abbrev pub IsRefusedBut : {A : Type 0} → (A → Spelling) → (A → Trees → Bool) → Trees → Kind → Span → Type 0
IsRefusedBut {A} S begun ts TooDeep span = (y : A) (o : Trees) (m : Marks) → S y ts o m → begun y o ≡ false → first_too_deep m ≡ Some span
IsRefusedBut {A} S begun ts Syntax span = (y : A) (o : Trees) (m : Marks) → S y ts o m → ⊥
IsRefusedBut S begun ts _ span = ⊥

abbrev pub DecidesBut : {A : Type 0} → (A → Spelling) → (A → Trees → Bool) → Trees → Outcome A → Type 0
DecidesBut S begun ts (Ok p) = IsRead S ts p.0 p.1
DecidesBut S begun ts (Err r) = IsRefusedBut S begun ts r.kind r.span

module _ {A : Type 0} (S : A → Spelling) (begun : A → Trees → Bool) (ts : Trees) where
  refused_more : (k : Kind) (span : Span) → IsRefused S ts k span → IsRefusedBut S begun ts k span
  refused_more TooDeep span h = λ y o m s _. h y o m s
  refused_more Syntax span h = h
  refused_more _ span h = h

  weaker : (r : Outcome A) → Decides S ts r → DecidesBut S begun ts r
  weaker (Ok p) h = h
  weaker (Err r) h = refused_more r.kind r.span h

  but_test : (b : Bool) (x y : Outcome A) → (b ≡ true → DecidesBut S begun ts x) → (b ≡ false → DecidesBut S begun ts y) → DecidesBut S begun ts (if b then x else y)
  but_test true x y p q = p refl
  but_test false x y p q = q refl

-- the same relation in another form
module _ {A B : Type 0} (f : A → B) (P : A → Spelling) (S : B → Spelling) (begun : A → Trees → Bool) (begun_there : B → Trees → Bool) (ts : Trees)
    (to : (x : A) (o : Trees) (m : Marks) → P x ts o m → S (f x) ts o m) (back : (y : B) (o : Trees) (m : Marks) → S y ts o m → Image f P y ts o m)
    (same : (x : A) (o : Trees) → begun_there (f x) o ≡ begun x o) where
  refused_by_but : (k : Kind) (span : Span) → IsRefusedBut P begun ts k span → IsRefusedBut S begun_there ts k span
  refused_by_but TooDeep span h = λ y o m s e.
      let i : Image f P y ts o m = back y o m s in
      h i.value o m i.spelled (sym (same i.value o) ∙ sym (ap (λ x. begun_there x o) i.is_it) ∙ e)
  refused_by_but Syntax span h = λ y o m s. let i : Image f P y ts o m = back y o m s in h i.value o m i.spelled
  refused_by_but _ span h = h

  but_by : (r : Outcome A) → DecidesBut P begun ts r → DecidesBut S begun_there ts (mapped f r)
  but_by (Ok p) h = decides_by f P S ts to back (Ok p) h
  but_by (Err r) h = refused_by_but r.kind r.span h

-- one part and another that depends on it, of which the first may be refused so
module _ {A B : Type 0} (P : A → Spelling) (T : A → B → Spelling) (begun : A → Trees → Bool) (begun_there : B → Trees → Bool) (ts : Trees)
    (same : (x : A) (y : B) (mid o : Trees) (m : Marks) → T x y mid o m → begun_there y o ≡ false → begun x mid ≡ false) where
  refused_bind : (k : Kind) (span : Span) → IsRefusedBut P begun ts k span → IsRefusedBut (Bound P T) begun_there ts k span
  refused_bind TooDeep span h = λ y o m b e.
      ap first_too_deep b.parts.marks ∙
      deep_front b.parts.first_marks b.parts.rest_marks span
      (h b.value b.parts.middle b.parts.first_marks b.parts.first (same b.value y b.parts.middle o b.parts.rest_marks b.parts.rest e))
  refused_bind Syntax span h = λ y o m b. h b.value b.parts.middle b.parts.first_marks b.parts.first
  refused_bind _ span h = h

  but_bind : (o : Outcome A) (q : A → Parser B) → DecidesBut P begun ts o → ((x : A) (mid : Trees) → Decides (T x) mid (q x mid)) → DecidesBut (Bound P T) begun_there ts (and_then o q)
  but_bind (Ok p) q h k = weaker (Bound P T) begun_there ts (q p.0 p.1) (decides_bind P T ts (Ok p) q h (λ x mid _. k x mid))
  but_bind (Err r) q h k = refused_bind r.kind r.span h

-- ---- a path or a keyword

abbrev kind_of : Outcome PathTree → Kind
kind_of (Ok p) = Syntax
kind_of (Err r) = r.kind

apart : TooDeep ≡ Syntax → ⊥
apart e = cc

module _ (w : Where) (ts : Trees) where
  abbrev Word : PathOrKeywordTree → Spelling
  Word p = path_or_keyword p w

  abbrev Path : PathTree → Spelling
  Path p = bare_path p w

  path_only : (x : PathTree) (others : Trees) (h : IsRead Path ts x others) (y : PathOrKeywordTree) (o : Trees) (m : Marks) → Word y ts o m →
      Same (a_path x) others h.marks y o m
  path_only x others h (a_path p) o m s =
      let e : Same x others h.marks p o m = h.only p o m s in
      record { value = ap a_path e.value; left = e.left; marks = e.marks }
  path_only x others h (keyword i) o m s = absurd (s.fact x others h.marks h.spelled)

  -- where no path stands
  keyword_back : NoPath w ts → (y : PathOrKeywordTree) (o : Trees) (m : Marks) → Word y ts o m → Image keyword_of (ident w) y ts o m
  keyword_back none (a_path p) o m s = absurd (none p o m s)
  keyword_back none (keyword i) o m s = record { value = i; is_it = refl; spelled = s.part }

  keyword_decided : NoPath w ts → Decides Word ts (mapped keyword_of (read_any w ts))
  keyword_decided none =
      decides_by keyword_of (ident w) Word ts (λ i o m s. record { fact = none; part = s }) (keyword_back none) (read_any w ts) (reads_any w ts)

  -- a word before these others is a path
  lone_path : (i : Ident) (o : Trees) (m : Marks) → IsTrue (is_path_word i) → ident w i ts o m → sees 60 o ≡ false → sees_colons o ≡ false →
      bare_path (path_tree false (segment_then (segment i absent) no_segments)) w ts o m
  lone_path i o m p s e f =
      record {
        middle = ts;
        first_marks = [];
        rest_marks = m;
        first = record { part = record { spelled = refl; marks = refl }; fact = ap sees_colons s.spelled };
        rest = then_nothing (then_nothing (record { fact = p; part = s }) (record { part = record { spelled = refl; marks = refl }; fact = ap₂ (λ a b. a || b) e (no_turbofish o f) })) (record { part = record { spelled = refl; marks = refl }; fact = f });
        marks = refl;
      }

  -- what is read where no word stands
  no_word : (i : Ident) (o : Trees) → is_path_word i ≡ false →
      read_bare_path (read_type 129) w (token (t.Ident i) o) ≡ Err (record { kind = Syntax; span = i.span })
  no_word i o e =
      let inner = read_type 129 in
      let f : read_ident is_path_word w (token (t.Ident i) o) ≡ Err (record { kind = Syntax; span = i.span }) =
      ap (λ b. if_found w (token (t.Ident i) o) (if b then Some (pair i o) else None)) e in
      let g : read_segment inner true w (token (t.Ident i) o) ≡ Err (record { kind = Syntax; span = i.span }) =
      ap (λ (r : Outcome Ident). mapped segment_of (and_then r (λ a mid. mapped (pair a) (read_bare_arguments inner w mid)))) f in
      ap (λ (r : Outcome SegmentTree). mapped path_of (mapped (pair false) (mapped segments_of (and_then r (λ x mid.
      read_repeated w sees_colons (read_colons w next read_segment inner true w) (x ∷ []) mid))))) g

  -- no path that is too deep begins at a keyword behind which none goes on
  keyword_shallow : (r : Refusal) → read_bare_path (read_type 129) w ts ≡ Err r → r.kind ≡ TooDeep → (i : Ident) (o : Trees) (m : Marks) → Word (keyword i) ts o m →
      begins_path (keyword i) o ≡ false → (b : Bool) → is_path_word i ≡ b → ⊥
  keyword_shallow r e k i o m s n true p =
      let q : (sees 60 o ≡ false) × (sees_colons o ≡ false) = or_parts (sees 60 o) (sees_colons o) n in
      s.fact (path_tree false (segment_then (segment i absent) no_segments)) o m (lone_path i o m p s.part q.0 q.1)
  keyword_shallow r e k i o m s n false p = apart (sym k ∙ ap kind_of (sym e ∙ ap (read_bare_path (read_type 129) w) s.part.spelled ∙ no_word i o p))

  no_path_deep : (r : Refusal) → read_bare_path (read_type 129) w ts ≡ Err r → r.kind ≡ TooDeep →
      ((p : PathTree) (o : Trees) (m : Marks) → Path p ts o m → first_too_deep m ≡ Some r.span) →
      (y : PathOrKeywordTree) (o : Trees) (m : Marks) → Word y ts o m → begins_path y o ≡ false → first_too_deep m ≡ Some r.span
  no_path_deep r e k h (a_path p) o m s n = h p o m s
  no_path_deep r e k h (keyword i) o m s n = absurd (keyword_shallow r e k i o m s n (is_path_word i) refl)

  refused_path : (k : Kind) (r : Refusal) → r.kind ≡ k → read_bare_path (read_type 129) w ts ≡ Err r → IsRefused Path ts k r.span →
      DecidesBut Word begins_path ts (if is_syntax k then mapped keyword_of (read_any w ts) else Err (record { kind = k; span = r.span }))
  refused_path TooDeep r k e h = no_path_deep r e k h
  refused_path Syntax r k e h = weaker Word begins_path ts (mapped keyword_of (read_any w ts)) (keyword_decided h)
  refused_path _ r k e h = absurd h

  if_path : (r : Outcome PathTree) → read_bare_path (read_type 129) w ts ≡ r → Decides Path ts r → DecidesBut Word begins_path ts (if_no_path w ts r)
  if_path (Ok p) e h =
      record {
        marks = h.marks;
        spelled = h.spelled;
        within = h.within;
        covers = h.covers;
        only = path_only p.0 p.1 h;
      }
  if_path (Err r) e h = refused_path r.kind r refl e h

  pub word_decided : DecidesBut Word begins_path ts (read_path_or_keyword w ts)
  word_decided = if_path (read_bare_path (read_type 129) w ts) refl (bare_decided w ts)

-- no path goes on at a group
group_behind : (p : PathOrKeywordTree) (w : Where) (Inside : Where → Spelling) (ts o : Trees) (m : Marks) → GroupAt w Paren Inside ts o m → begins_path p ts ≡ false
group_behind (a_path p) w Inside ts o m s = refl
group_behind (keyword i) w Inside ts o m s = ap (λ us. sees 60 us || sees_colons us) s.spelled

-- ---- metas

enclosed_decided : (w : Where) → Reader (λ s. GroupAt w Paren (kept s)) (read_enclosed w)
enclosed_decided w = reads_group Paren (λ s v. kept s v) read_rest w (λ limit. reads_rest (inside_at w limit))

module _ (w : Where) (ts : Trees) where
  abbrev Enclosed : Stream → Spelling
  Enclosed s = GroupAt w Paren (kept s)

  abbrev ListParts : PathOrKeywordTree × Stream → Spelling
  ListParts = Bound (λ p. path_or_keyword p w) (λ p. Image (pair p) Enclosed)

  abbrev list_begun : PathOrKeywordTree × Stream → Trees → Bool
  list_begun v o = false

  list_to : (v : PathOrKeywordTree × Stream) (o : Trees) (m : Marks) → ListParts v ts o m → meta_list (list_of v) w ts o m
  list_to v o m b =
      let i : Image (pair b.value) Enclosed v b.parts.middle o b.parts.rest_marks = b.parts.rest in
      subst (λ u. meta_list (list_of u) w ts o m) (sym i.is_it)
      (then_with b.parts i.spelled)

  list_back : (l : MetaListTree) (o : Trees) (m : Marks) → meta_list l w ts o m → Image list_of ListParts l ts o m
  list_back l o m s =
      record {
        value = pair l.path l.tokens;
        is_it = refl;
        spelled = record {
          value = l.path;
          parts = then_with s (record { value = l.tokens; is_it = refl; spelled = s.rest });
        };
      }

  pub list_decided : DecidesBut (λ l. meta_list l w) list_begins_path ts (read_meta_list w ts)
  list_decided =
      but_by list_of ListParts (λ l. meta_list l w) list_begun list_begins_path ts list_to list_back (λ v o. refl)
      (and_then (read_path_or_keyword w ts) (λ p mid. mapped (pair p) (read_enclosed w mid)))
      (but_bind (λ p. path_or_keyword p w) (λ p. Image (pair p) Enclosed) begins_path list_begun ts
      (λ p v mid o m i e. group_behind p w (kept i.value) mid o m i.spelled)
      (read_path_or_keyword w ts) (λ p mid. mapped (pair p) (read_enclosed w mid)) (word_decided w ts)
      (λ p mid. decides_image (pair p) Enclosed mid (read_enclosed w mid) (enclosed_decided w mid)))

-- what stands behind the path of a meta
abbrev Behind : Where → PathOrKeywordTree → MetaTree → Spelling
Behind w p (path_meta q) = Provided (q ≡ p) (Before (λ others. sees_group Paren others ≡ false) Nothing)
Behind w p (list_meta l) = Provided (l.path ≡ p) (GroupAt w Paren (kept l.tokens))

module _ (w : Where) (p : PathOrKeywordTree) (ts : Trees) where
  behind_back : sees_group Paren ts ≡ true → (y : MetaTree) (o : Trees) (m : Marks) → Behind w p y ts o m → Image (list_behind p) (λ s. GroupAt w Paren (kept s)) y ts o m
  behind_back e (path_meta q) o m s =
      let f : sees_group Paren ts ≡ false = ap (sees_group Paren) s.part.part.spelled ∙ s.part.fact in
      absurd (cc)
  behind_back e (list_meta l) o m s =
      record { value = l.tokens; is_it = ap (λ x. list_meta (record { path = x; tokens = l.tokens })) s.fact; spelled = s.part }

  behind_only : sees_group Paren ts ≡ false → (y : MetaTree) (o : Trees) (m : Marks) → Behind w p y ts o m → Same (path_meta p) ts [] y o m
  behind_only e (path_meta q) o m s = record { value = ap path_meta s.fact; left = sym s.part.part.spelled; marks = s.part.part.marks }
  behind_only e (list_meta l) o m s = let f = group_seen w Paren (kept l.tokens) ts o m s.part in absurd (cc)

  behind_decided : Decides (Behind w p) ts (behind_path w p ts)
  behind_decided =
      decides_test (Behind w p) ts (sees_group Paren ts) (mapped (list_behind p) (read_enclosed w ts)) (Ok (path_meta p, ts))
      (λ e. decides_by (list_behind p) (λ s. GroupAt w Paren (kept s)) (Behind w p) ts (λ s o m g. record { fact = refl; part = g }) (behind_back e) (read_enclosed w ts)
      (enclosed_decided w ts))
      (λ e. record {
        marks = [];
        spelled = record { fact = refl; part = record { part = record { spelled = refl; marks = refl }; fact = e } };
        within = refl;
        covers = covers_none ts;
        only = behind_only e;
      })

module _ (w : Where) (ts : Trees) where
  abbrev Parts : MetaTree → Spelling
  Parts = Bound (λ p. path_or_keyword p w) (Behind w)

  meta_to : (y : MetaTree) (o : Trees) (m : Marks) → Parts y ts o m → meta_spelled y w ts o m
  meta_to (path_meta q) o m b =
      let s = b.parts in
      let there : path_or_keyword b.value w ts o s.first_marks = subst (λ x. path_or_keyword b.value w ts x s.first_marks) s.rest.part.part.spelled s.first in
      let here : path_or_keyword b.value w ts o m =
      subst (λ k. path_or_keyword b.value w ts o k) (sym (s.marks ∙ ap (λ l. s.first_marks ++ l) s.rest.part.part.marks ∙ append-nil s.first_marks)) there in
      record { part = subst (λ x. path_or_keyword x w ts o m) (sym s.rest.fact) here; fact = s.rest.part.fact }
  meta_to (list_meta l) o m b =
      let s = b.parts in
      record {
        middle = s.middle;
        first_marks = s.first_marks;
        rest_marks = s.rest_marks;
        first = subst (λ x. path_or_keyword x w ts s.middle s.first_marks) (sym s.rest.fact) s.first;
        rest = s.rest.part;
        marks = s.marks;
      }

  meta_back : (y : MetaTree) (o : Trees) (m : Marks) → meta_spelled y w ts o m → Image (λ x. x) Parts y ts o m
  meta_back (path_meta q) o m s =
      record {
        value = path_meta q;
        is_it = refl;
        spelled = record {
          value = q;
          parts = then_nothing s.part (record { fact = refl; part = record { part = record { spelled = refl; marks = refl }; fact = s.fact } });
        };
      }
  meta_back (list_meta l) o m s =
      record {
        value = list_meta l;
        is_it = refl;
        spelled = record {
          value = l.path;
          parts = then_with s (record { fact = refl; part = s.rest });
        };
      }

  behind_begun : (x : PathOrKeywordTree) (y : MetaTree) (mid o : Trees) (m : Marks) → Behind w x y mid o m → meta_begins_path y o ≡ false → begins_path x mid ≡ false
  behind_begun x (path_meta q) mid o m s e = ap₂ begins_path (sym s.fact) s.part.part.spelled ∙ e
  behind_begun x (list_meta l) mid o m s e = group_behind x w (kept l.tokens) mid o m s.part

  plainly : (r : Outcome MetaTree) → DecidesBut (λ m. meta_spelled m w) meta_begins_path ts (mapped (λ x. x) r) → DecidesBut (λ m. meta_spelled m w) meta_begins_path ts r
  plainly (Ok p) h = h
  plainly (Err r) h = h

  pub meta_decided : DecidesBut (λ m. meta_spelled m w) meta_begins_path ts (read_meta w ts)
  meta_decided =
      plainly (read_meta w ts)
      (but_by (λ x. x) Parts (λ m. meta_spelled m w) meta_begins_path meta_begins_path ts meta_to meta_back (λ x o. refl) (read_meta w ts)
      (but_bind (λ p. path_or_keyword p w) (Behind w) begins_path meta_begins_path ts behind_begun (read_path_or_keyword w ts) (behind_path w) (word_decided w ts)
      (λ p mid. behind_decided w p mid)))

-- ---- metas and literals

bare_segments_front : (w : Where) (ss : SegmentTrees) → Begins sees_literal false (bare_segments ss w)
bare_segments_front w no_segments ts o m s = absurd s.fact
bare_segments_front w (segment_then (segment i as') ss) ts o m s = ap sees_literal s.first.first.part.spelled

bare_front : (w : Where) (p : PathTree) → Begins sees_literal false (bare_path p w)
bare_front w (path_tree leading ss) =
    behind_flag sees_literal false (bare_segments ss w) sees_colons leading (colons w) (λ ts o m s. ap sees_literal s.spelled) (bare_segments_front w ss)

word_front : (w : Where) (p : PathOrKeywordTree) → Begins sees_literal false (path_or_keyword p w)
word_front w (a_path p) = bare_front w p
word_front w (keyword i) = λ ts o m s. ap sees_literal s.part.spelled

meta_front : (w : Where) (y : MetaTree) → Begins sees_literal false (meta_spelled y w)
meta_front w (path_meta p) = λ ts o m s. word_front w p ts o m s.part
meta_front w (list_meta l) = λ ts o m s. word_front w l.path ts s.middle s.first_marks s.first

module _ (w : Where) (ts : Trees) where
  lit_back : sees_literal ts ≡ true → (y : NestedMetaTree) (o : Trees) (m : Marks) → nested_meta y w ts o m → Image lit_of (literal w) y ts o m
  lit_back e (nested x) o m s = let f = meta_front w x ts o m s in absurd (cc)
  lit_back e (lit l) o m s = record { value = l; is_it = refl; spelled = s }

  nested_back : sees_literal ts ≡ false → (y : NestedMetaTree) (o : Trees) (m : Marks) → nested_meta y w ts o m → Image nested_of (λ x. meta_spelled x w) y ts o m
  nested_back e (nested x) o m s = record { value = x; is_it = refl; spelled = s }
  nested_back e (lit l) o m s = let f = literal_seen w l ts o m s in absurd (cc)

  pub nested_decided : DecidesBut (λ x. nested_meta x w) nested_begins_path ts (read_nested_meta w ts)
  nested_decided =
      but_test (λ x. nested_meta x w) nested_begins_path ts (sees_literal ts) (mapped lit_of (read_literal w ts)) (mapped nested_of (read_meta w ts))
      (λ e. weaker (λ x. nested_meta x w) nested_begins_path ts (mapped lit_of (read_literal w ts))
      (decides_by lit_of (literal w) (λ x. nested_meta x w) ts (λ l o m s. s) (lit_back e) (read_literal w ts) (reads_literal w ts)))
      (λ e. but_by nested_of (λ x. meta_spelled x w) (λ x. nested_meta x w) meta_begins_path nested_begins_path ts (λ x o m s. s) (nested_back e) (λ x o. refl) (read_meta w ts)
      (meta_decided w ts))
