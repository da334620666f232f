-- Tokens and groups: what their readers decide.
use Rattle.std.proofs.Common.{◌≡◌, ℕ, Bool, true, false, cond, if◌then◌else◌, not, ◌&&◌, nat_lt, List, [], ◌∷◌, map, Option, Some, None, Ok, IsTrue, refl, sym, ap, ap₂, ◌∙◌}
use Rattle.std.proofs.lemmas.Bool.{eqb-true, eq-eqb, not-true}
use Rattle.std.proofs.lemmas.Slice.Eq.{bytes_eq-Decides}
use Rattle.std.specs.Str.{bytes_eq}
use Rattle.dm_stream.specs.declared.tokens.Span.{Span}
use Rattle.dm_stream.specs.declared.tokens.Ident.{Ident}
use Rattle.dm_stream.specs.declared.tokens.Lifetime.{Lifetime}
use Rattle.dm_stream.specs.declared.tokens.Literal.{Literal}
use Rattle.dm_stream.specs.declared.tokens.Token.TheVariants as t
use Rattle.dm_stream.specs.declared.tokens.Entry.TheVariants as entry
use Rattle.dm_stream.specs.Trees.{Trees, token, flatten}
use Rattle.dm_stream.specs.Cursors.{front_span, first_ident, first_lifetime, first_literal}
use Rattle.dm_ast.specs.Spelling.{Where, Marks, Spelling, deepest, first_too_deep, Provided, TokenAt, ident, lifetime, literal, punct, keyword, sees, sees_word, sees_lifetime, sees_literal, is_word}
use Rattle.dm_ast.specs.Readers.{too_deep_at, refuse, if_level, if_found, read_found, if_ident, read_ident, read_any, read_lifetime, read_literal, read_seen, tail, read_punct, read_word}
use Rattle.dm_read.proofs.Deciding.{Covers, Same, Decides, Reader, decides_test, pair}
use Rattle.dm_read.proofs.Seeing.{ident_front}

-- ---- levels

pub deep_mark : (w : Where) (s : Span) (m : Marks) → nat_lt deepest w.level ≡ true → first_too_deep ((w.level, s) ∷ m) ≡ Some s
deep_mark w s m e = ap (λ b. cond b (Some s) (first_too_deep m)) e

pub fine_mark : (w : Where) (s : Span) (m : Marks) → nat_lt deepest w.level ≡ false → first_too_deep ((w.level, s) ∷ m) ≡ first_too_deep m
fine_mark w s m e = ap (λ b. cond b (Some s) (first_too_deep m)) e

-- ---- a token that is found

-- what a spelling of one token has to meet
pub record IsFound {A : Type 0} (w : Where) (S : A → Spelling) (first : Trees → Option (A × Trees)) : Type 0 where
  pub there : (ts : Trees) (x : A) (us : Trees) → first ts ≡ Some (x, us) → S x ts us ((w.level, front_span ts w.limit) ∷ [])
  pub found : (x : A) (ts o : Trees) (m : Marks) → S x ts o m → first ts ≡ Some (x, o)
  pub marks : (x : A) (ts o : Trees) (m : Marks) → S x ts o m → m ≡ (w.level, front_span ts w.limit) ∷ []
  pub covers : (x : A) (ts o : Trees) (m : Marks) → S x ts o m → Covers ts o m

module _ {A : Type 0} (w : Where) (S : A → Spelling) (first : Trees → Option (A × Trees)) (is : IsFound w S first) where
  found_same : (ts : Trees) (x : A) (us : Trees) → first ts ≡ Some (x, us) → (y : A) (o : Trees) (m : Marks) → S y ts o m → Same x us ((w.level, front_span ts w.limit) ∷ []) y o m
  found_same ts x us e y o m s =
      let f : Some (pair y o) ≡ Some (pair x us) = sym (is.found y ts o m s) ∙ e in
      let g : pair y o ≡ pair x us = cc in
      record { value = ap (λ v. v.0) g; left = ap (λ v. v.1) g; marks = is.marks y ts o m s }

  found_by : (ts : Trees) (found : Option (A × Trees)) → first ts ≡ found → Decides S ts (if_found w ts found)
  found_by ts None e = λ y o m s. let f = is.found y ts o m s in absurd (cc)
  found_by ts (Some r) e =
      decides_test S ts (nat_lt deepest w.level) (too_deep_at (front_span ts w.limit)) (Ok r)
      (λ deep y o m s. ap first_too_deep (is.marks y ts o m s) ∙ deep_mark w (front_span ts w.limit) [] deep)
      (λ fine.
      let s : S r.0 ts r.1 ((w.level, front_span ts w.limit) ∷ []) = is.there ts r.0 r.1 e in
      record {
        marks = (w.level, front_span ts w.limit) ∷ [];
        spelled = s;
        within = fine_mark w (front_span ts w.limit) [] fine;
        covers = is.covers r.0 ts r.1 ((w.level, front_span ts w.limit) ∷ []) s;
        only = found_same ts r.0 r.1 e;
      })

  pub reads_found : Reader S (read_found first w)
  reads_found ts = found_by ts (first ts) refl

token_covers : (w : Where) (k : t.the_data) (ts o : Trees) (m : Marks) → TokenAt w k ts o m → Covers ts o m
token_covers w k ts o m s = record { front = entry.Token k ∷ []; splits = ap flatten s.spelled; ranges = sym (ap (map (λ x. x.1)) s.marks) }

token_marks : (w : Where) (k : t.the_data) (ts o : Trees) (m : Marks) → TokenAt w k ts o m → m ≡ (w.level, front_span ts w.limit) ∷ []
token_marks w k ts o m s = s.marks ∙ ap (λ x. (w.level, front_span x w.limit) ∷ []) (sym s.spelled)

-- ---- tokens that are known by a test

-- what a spelling of tokens of one level has to meet
pub record IsSeen (w : Where) (S : Spelling) (test : Trees → Bool) (after : Trees → Trees) : Type 0 where
  pub there : (ts : Trees) → test ts ≡ true → (m : Marks) × (S ts (after ts) m)
  pub seen : (ts o : Trees) (m : Marks) → S ts o m → test ts ≡ true
  pub left : (ts o : Trees) (m : Marks) → S ts o m → o ≡ after ts
  pub same : (ts o p : Trees) (m k : Marks) → S ts o m → S ts p k → m ≡ k
  pub covers : (ts o : Trees) (m : Marks) → S ts o m → Covers ts o m
  pub level : (ts o : Trees) (m : Marks) → S ts o m → first_too_deep m ≡ cond (nat_lt deepest w.level) (Some (front_span ts w.limit)) None

module _ (w : Where) (S : Spelling) (test : Trees → Bool) (after : Trees → Trees) (is : IsSeen w S test after) where
  pub reads_seen : Reader (λ (_ : Unit {0}). S) (read_seen test after w)
  reads_seen ts =
      decides_test (λ (_ : Unit {0}). S) ts (test ts) (if_level w (front_span ts w.limit) (Ok (tt, after ts))) (refuse w ts)
      (λ e. decides_test (λ (_ : Unit {0}). S) ts (nat_lt deepest w.level) (too_deep_at (front_span ts w.limit)) (Ok (tt, after ts))
      (λ deep _ o m s. is.level ts o m s ∙ ap (λ b. cond b (Some (front_span ts w.limit)) None) deep)
      (λ fine.
      let s = is.there ts e in
      record {
        marks = s.0;
        spelled = s.1;
        within = is.level ts (after ts) s.0 s.1 ∙ ap (λ b. cond b (Some (front_span ts w.limit)) None) fine;
        covers = is.covers ts (after ts) s.0 s.1;
        only = λ _ o k x. record { value = refl; left = is.left ts o k x; marks = is.same ts o (after ts) k s.0 x s.1 };
      }))
      (λ e _ o m s. let f = is.seen ts o m s in absurd (cc))

-- where the spelling is that of one token
one_seen : (w : Where) (S : Spelling) (test : Trees → Bool) → ((ts : Trees) → test ts ≡ true → (m : Marks) × (S ts (tail ts) m)) →
    ((ts o : Trees) (m : Marks) → S ts o m → test ts ≡ true) → ((ts o : Trees) (m : Marks) → S ts o m → (k : t.the_data) × (TokenAt w k ts o m)) →
    IsSeen w S test tail
one_seen w S test there seen one = record {
  there = there;
  seen = seen;
  left = λ ts o m s. sym (ap tail (one ts o m s).1.spelled);
  same = λ ts o p m k s r.
      let a = one ts o m s in
      let b = one ts p k r in
      token_marks w a.0 ts o m a.1 ∙ sym (token_marks w b.0 ts p k b.1);
  covers = λ ts o m s. token_covers w (one ts o m s).0 ts o m (one ts o m s).1;
  level = λ ts o m s. ap first_too_deep (token_marks w (one ts o m s).0 ts o m (one ts o m s).1);
}

-- ---- each kind of token

if_some : {A : Type 0} (b : Bool) (x y : A) → (if b then Some x else None) ≡ Some y → (b ≡ true) × (x ≡ y)
if_some true x y e = (refl, cc)
if_some false x y e = absurd (cc)

module _ (test : Ident → Bool) (w : Where) where
  abbrev pub first_such : Trees → Option (Ident × Trees)
  first_such ts = if_ident test (first_ident ts)

  ident_there : (ts : Trees) (i : Ident) (us : Trees) → first_such ts ≡ Some (i, us) → Provided (IsTrue (test i)) (ident w i) ts us ((w.level, front_span ts w.limit) ∷ [])
  ident_there (token (t.Ident j) rest) i us e =
      let f = if_some (test j) (pair j rest) (pair i us) e in
      let a : j ≡ i = ap (λ v. v.0) f.1 in
      let b : rest ≡ us = ap (λ v. v.1) f.1 in
      record { fact = ap test (sym a) ∙ f.0; part = record { spelled = ap₂ (λ x y. token (t.Ident x) y) a b; marks = ap (λ x. (w.level, x.span) ∷ []) a } }
  ident_there _ i us e = absurd (cc)

  pub reads_ident : Reader (λ i. Provided (IsTrue (test i)) (ident w i)) (read_ident test w)
  reads_ident =
      reads_found w (λ i. Provided (IsTrue (test i)) (ident w i)) first_such
      (record {
        there = ident_there;
        found = λ i ts o m s. ap first_such s.part.spelled ∙ ap (λ b. if b then Some (pair i o) else None) s.fact;
        marks = λ i ts o m s. token_marks w (t.Ident i) ts o m s.part;
        covers = λ i ts o m s. token_covers w (t.Ident i) ts o m s.part;
      })

-- a kind of token that a function finds wherever one stands first
module _ {A : Type 0} (w : Where) (make : A → t.the_data) (first : Trees → Option (A × Trees)) (here : (x : A) (o : Trees) → first (token (make x) o) ≡ Some (pair x o))
    (front : (ts us : Trees) (x : A) → first ts ≡ Some (x, us) → ts ≡ token (make x) us) where
  reads_kind : Reader (λ x. TokenAt w (make x)) (read_found first w)
  reads_kind =
      reads_found w (λ x. TokenAt w (make x)) first
      (record {
        there = λ ts x us e. record { spelled = front ts us x e; marks = ap (λ v. (w.level, front_span v w.limit) ∷ []) (front ts us x e) };
        found = λ x ts o m s. ap first s.spelled ∙ here x o;
        marks = λ x ts o m s. token_marks w (make x) ts o m s;
        covers = λ x ts o m s. token_covers w (make x) ts o m s;
      })

lifetime_front : (ts us : Trees) (l : Lifetime) → first_lifetime ts ≡ Some (l, us) → ts ≡ token (t.Lifetime l) us
lifetime_front (token (t.Lifetime k) rest) us l e = let a : pair k rest ≡ pair l us = cc in ap (λ v. token (t.Lifetime v.0) v.1) a
lifetime_front _ us l e = absurd (cc)

literal_front : (ts us : Trees) (l : Literal) → first_literal ts ≡ Some (l, us) → ts ≡ token (t.Literal l) us
literal_front (token (t.Literal k) rest) us l e = let a : pair k rest ≡ pair l us = cc in ap (λ v. token (t.Literal v.0) v.1) a
literal_front _ us l e = absurd (cc)

pub reads_any : (w : Where) → Reader (ident w) (read_any w)
reads_any w = reads_kind w (λ i. t.Ident i) first_ident (λ i o. refl) ident_front

pub reads_lifetime : (w : Where) → Reader (lifetime w) (read_lifetime w)
reads_lifetime w = reads_kind w (λ l. t.Lifetime l) first_lifetime (λ l o. refl) lifetime_front

pub reads_literal : (w : Where) → Reader (literal w) (read_literal w)
reads_literal w = reads_kind w (λ l. t.Literal l) first_literal (λ l o. refl) literal_front

pub lifetime_seen : (w : Where) (l : Lifetime) (ts o : Trees) (m : Marks) → lifetime w l ts o m → sees_lifetime ts ≡ true
lifetime_seen w l ts o m s = ap sees_lifetime s.spelled

pub literal_seen : (w : Where) (l : Literal) (ts o : Trees) (m : Marks) → literal w l ts o m → sees_literal ts ≡ true
literal_seen w l ts o m s = ap sees_literal s.spelled

pub left_true : (a b : Bool) → (a && b) ≡ true → a ≡ true
left_true true b e = refl
left_true false b e = e

pub right_true : (a b : Bool) → (a && b) ≡ true → b ≡ true
right_true true b e = e
right_true false b e = absurd (cc)

pub both_true : (a b : Bool) → a ≡ true → b ≡ true → (a && b) ≡ true
both_true a b e f = ap (λ v. v && b) e ∙ f

module _ (c : ℕ) (w : Where) where
  punct_there : (ts : Trees) → sees c ts ≡ true → (m : Marks) × (punct w c ts (tail ts) m)
  punct_there (token (t.Punct p) rest) e =
      ((w.level, p.span) ∷ [], record { punct = p; is = eqb-true p.ch c e; there = record { spelled = refl; marks = refl } })
  punct_there _ e = absurd (cc)

  pub punct_seen : (ts o : Trees) (m : Marks) → punct w c ts o m → sees c ts ≡ true
  punct_seen ts o m s = ap (sees c) s.there.spelled ∙ eq-eqb s.punct.ch c s.is

  pub reads_punct : Reader (λ (_ : Unit {0}). punct w c) (read_punct c w)
  reads_punct =
      reads_seen w (punct w c) (sees c) tail
      (one_seen w (punct w c) (sees c) punct_there punct_seen (λ ts o m s. (t.Punct s.punct, s.there)))

abbrev pub the_word : List ℕ → Span → Ident
the_word word range = record { name = word; raw = false; span = range }

pub word_is : (i : Ident) (word : List ℕ) → is_word word i ≡ true → i ≡ the_word word i.span
word_is i word e =
    ap (λ x. record { name = x; raw = i.raw; span = i.span }) ((bytes_eq-Decides i.name word).0 (right_true (not i.raw) (bytes_eq i.name word) e)) ∙
    ap (λ x. record { name = word; raw = x; span = i.span }) (not-true i.raw (left_true (not i.raw) (bytes_eq i.name word) e))

pub word_same : (word : List ℕ) (range : Span) → is_word word (the_word word range) ≡ true
word_same word range = (bytes_eq-Decides word word).1 refl

module _ (word : List ℕ) (w : Where) where
  word_there : (ts : Trees) → sees_word word ts ≡ true → (m : Marks) × (keyword w word ts (tail ts) m)
  word_there (token (t.Ident i) rest) e =
      ((w.level, i.span) ∷ [], record { range = i.span; there = record { spelled = ap (λ x. token (t.Ident x) rest) (word_is i word e); marks = refl } })
  word_there _ e = absurd (cc)

  pub word_seen : (ts o : Trees) (m : Marks) → keyword w word ts o m → sees_word word ts ≡ true
  word_seen ts o m s = ap (sees_word word) s.there.spelled ∙ word_same word s.range

  pub reads_word : Reader (λ (_ : Unit {0}). keyword w word) (read_word word w)
  reads_word =
      reads_seen w (keyword w word) (sees_word word) tail
      (one_seen w (keyword w word) (sees_word word) word_there word_seen (λ ts o m s. (t.Ident (the_word word s.range), s.there)))
