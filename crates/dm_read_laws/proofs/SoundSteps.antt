-- Which tokens stand first in trees without ranges, from what the reader sees there.
use Rattle.std.specs.Prelude.{◌≡◌, ℕ, nat_eq, ◌==◌, ◌&&◌, not, cond, Bool, true, false, IsTrue, List, [], ◌∷◌, codes, refl}
use Rattle.std.specs.Str.{bytes_eq}
use Rattle.std.proofs.Common.{ap, ap₂, ◌∙◌, sym, subst}
use Rattle.std.proofs.lemmas.Bool.{and_parts, not-true, eqb-true}
use Rattle.std.proofs.lemmas.Slice.Eq.{bytes_eq-Decides}
use Rattle.dm_stream.specs.declared.tokens.Span.{Span}
use Rattle.dm_stream.specs.declared.tokens.Delim.{Delim}
use Rattle.dm_stream.specs.declared.tokens.Delim.TheVariants.{Paren, Bracket, Brace}
use Rattle.dm_stream.specs.declared.tokens.Spacing.{Spacing}
use Rattle.dm_stream.specs.declared.tokens.Spacing.TheVariants.{Joint, Alone}
use Rattle.dm_stream.specs.declared.tokens.Ident.{Ident}
use Rattle.dm_stream.specs.declared.tokens.Punct.{Punct}
use Rattle.dm_stream.specs.declared.tokens.Literal.{Literal}
use Rattle.dm_stream.specs.declared.tokens.Token.{Token}
use Rattle.dm_stream.specs.declared.tokens.Token.TheVariants as t
use Rattle.dm_stream.specs.Layout.{nowhere}
use Rattle.dm_stream.specs.Trees.{Trees, no_trees, token, group, join, join-no_trees, join_assoc}
use Rattle.dm_lexer.specs.Written.{unplaced_token, unplaced}
use Rattle.dm_ast.specs.Spelling.{is_word}
use Rattle.dm_ast.specs.TypeGrammar.{is_path_word}
use Rattle.dm_ast.specs.TypeTokens as syntax
use Rattle.dm_ast.specs.TypeTokens.{name}
use Rattle.dm_output.specs.Tokens as k
use Rattle.dm_reread.specs.Next.{Word, of_path, k_match, k_unsafe, k_true, k_false, k_let, k_if, k_ref, k_mut, k_wild, k_return, k_use, k_as, k_const, k_type, k_fn, k_impl, k_other, used_keywords, keyword_of, path_or_other, kind, Next, ended, oror, andand, equals, differs, star, amp, dot, asks, bangs, plus, less, hash, bar, comma, colon, semicolon, assigns, leads, arrow, colons, dots, in_parens, in_braces, in_brackets, literal, a_name, a_word, other, word_next, alone_next, pair_next, last_next, joint_next, punct_next, token_next, group_next, next}
use Rattle.dm_reread.proofs.Words.{plainly, path-kind}
use Rattle.dm_read_laws.specs.Sound.{IsBare, Spells}

-- ---- trees without ranges

pub bare_token : (k : Token) (ts : Trees) → IsBare (token k ts) → (unplaced_token k ≡ k) × IsBare ts
bare_token k ts b = (cc, cc)

pub bare_group : (d : Delim) (from : Span) (inside : Trees) (upto : Span) (ts : Trees) → IsBare (group d from inside upto ts) →
    ((from ≡ nowhere) × (upto ≡ nowhere)) × (IsBare inside × IsBare ts)
bare_group d from inside upto ts b = ((cc, cc), (cc, cc))

pub bare_ident : (i : Ident) (ts : Trees) → IsBare (token (t.Ident i) ts) → (i.span ≡ nowhere) × IsBare ts
bare_ident i ts b =
    let e : record { name = i.name; raw = i.raw; span = nowhere } ≡ i = cc in (sym (ap (λ (j : Ident). j.span) e), cc)

pub bare_punct : (p : Punct) (ts : Trees) → IsBare (token (t.Punct p) ts) → (p.span ≡ nowhere) × IsBare ts
bare_punct p ts b =
    let e : record { ch = p.ch; spacing = p.spacing; span = nowhere } ≡ p = cc in (sym (ap (λ (q : Punct). q.span) e), cc)

pub bare_literal : (l : Literal) (ts : Trees) → IsBare (token (t.Literal l) ts) → (l.span ≡ nowhere) × IsBare ts
bare_literal l ts b =
    let e : record { kind = l.kind; text = l.text; span = nowhere } ≡ l = cc in (sym (ap (λ (j : Literal). j.span) e), cc)

-- trees one behind the other are without ranges where both are
bare_parts : (own us : Trees) → IsBare (join own us) → IsBare own × IsBare us
bare_parts no_trees us b = (refl, b)
bare_parts (token k ts) us b =
    let h = bare_token k (join ts us) b in
    let i = bare_parts ts us h.1 in
    (ap₂ (λ x y. token x y) h.0 i.0, i.1)
bare_parts (group d from inside upto ts) us b =
    let h = bare_group d from inside upto (join ts us) b in
    let i = bare_parts ts us h.1.1 in (
      ap₂ (λ x y. group d x y nowhere (unplaced ts)) (sym h.0.0) h.1.0 ∙ ap₂ (λ x y. group d from inside x y) (sym h.0.1) i.0,
      i.1,
    )

-- what is left is without ranges, and so is what was read
pub bare_rest : (own ts us : Trees) → IsBare ts → Spells own ts us → IsBare us
bare_rest own ts us b e = (bare_parts own us (subst (λ x. IsBare x) e b)).1

pub bare_own : (own ts us : Trees) → IsBare ts → Spells own ts us → IsBare own
bare_own own ts us b e = (bare_parts own us (subst (λ x. IsBare x) e b)).0

-- one part, and then another
pub spells_then : (a b ts us vs : Trees) → Spells a ts us → Spells b us vs → Spells (join a b) ts vs
spells_then a b ts us vs e f = e ∙ (ap (join a) f ∙ sym (join_assoc a b vs))

-- nothing is left
pub spells_whole : (own ts : Trees) → Spells own ts no_trees → ts ≡ own
spells_whole own ts e = e ∙ join-no_trees own

-- ---- keywords

-- the letters of a keyword that the reader knows
abbrev pub letters : Word → List ℕ
letters k_match = codes "match"
letters k_unsafe = codes "unsafe"
letters k_true = codes "true"
letters k_false = codes "false"
letters k_let = codes "let"
letters k_if = codes "if"
letters k_ref = codes "ref"
letters k_mut = codes "mut"
letters k_wild = codes "_"
letters k_return = codes "return"
letters k_use = codes "use"
letters k_as = codes "as"
letters k_const = codes "const"
letters k_type = codes "type"
letters k_fn = codes "fn"
letters k_impl = codes "impl"
letters of_path = []
letters k_other = []

abbrev is_used : Word → Bool
is_used of_path = false
is_used k_other = false
is_used _ = true

abbrev Agree : List (List ℕ × Word) → Type 0
Agree [] = Unit {0}
Agree (x ∷ xs) = (x.0 ≡ letters x.1) × Agree xs

all_agree : Agree used_keywords
all_agree =
    (refl, (refl, (refl, (refl, (refl, (refl, (refl, (refl, (refl, (refl, (refl, (refl, (refl, (refl, (refl, (refl, tt))))))))))))))))

this_or_later : (x : List ℕ × Word) (l : List ℕ) (v w : Word) (b : Bool) → bytes_eq l x.0 ≡ b → x.0 ≡ letters x.1 → cond b x.1 v ≡ w →
    (v ≡ w → l ≡ letters w) →
    l ≡ letters w
this_or_later x l v w true h a e more = (bytes_eq-Decides l x.0).0 h ∙ (a ∙ ap letters e)
this_or_later x l v w false h a e more = more e

keyword_letters : (xs : List (List ℕ × Word)) (l : List ℕ) (d w : Word) → Agree xs → (d ≡ w → ⊥) → keyword_of xs l d ≡ w → l ≡ letters w
keyword_letters [] l d w a n e = absurd (n e)
keyword_letters (x ∷ xs) l d w a n e =
    this_or_later x l (keyword_of xs l d) w (bytes_eq l x.0) refl a.0 e (keyword_letters xs l d w a.1 n)

unused : (b : Bool) (w : Word) → is_used w ≡ true → cond b of_path k_other ≡ w → ⊥
unused true w u e = let f : false ≡ is_used w = ap is_used e in absurd (cc)
unused false w u e = let f : false ≡ is_used w = ap is_used e in absurd (cc)

word_by : (i : Ident) (w : Word) (b : Bool) → is_used w ≡ true → i.raw ≡ b →
    cond b (path_or_other i) (keyword_of used_keywords i.name (path_or_other i)) ≡ w → (i.raw ≡ false) × (i.name ≡ letters w)
word_by i w true u r e = absurd (unused (is_path_word i) w u e)
word_by i w false u r e =
    (r, keyword_letters used_keywords i.name (path_or_other i) w all_agree (unused (is_path_word i) w u) e)

-- a word without a range is the one with its letters
pub ident_same : (i : Ident) (l : List ℕ) → i.raw ≡ false → i.name ≡ l → i.span ≡ nowhere → i ≡ plainly l
ident_same i l r n s =
    ap (λ x. record { name = x; raw = i.raw; span = i.span }) n ∙
    (ap (λ x. record { name = l; raw = x; span = i.span }) r ∙ ap (λ x. record { name = l; raw = false; span = x }) s)

-- a name that is this word is not raw, and has its letters
pub word_parts : (l : List ℕ) (i : Ident) → is_word l i ≡ true → (i.raw ≡ false) × (i.name ≡ l)
word_parts l i e = let p = and_parts (not i.raw) (bytes_eq i.name l) e in (not-true i.raw p.0, (bytes_eq-Decides i.name l).0 p.1)

pub is_word_same : (l : List ℕ) (i : Ident) → is_word l i ≡ true → i.span ≡ nowhere → i ≡ plainly l
is_word_same l i e s = let p = word_parts l i e in ident_same i l p.0 p.1 s

-- ---- what stands first

-- some tokens, and others without ranges behind them
abbrev pub Front : Trees → Trees → Trees → Type 0
Front own ts us = Spells own ts us × IsBare us

abbrev pub WordFront : Word → Trees → Trees → Type 0
WordFront of_path ts us = Unit {0}
WordFront k_other ts us = Unit {0}
WordFront w ts us = Front (k.word (letters w)) ts us

-- what the reader sees says which tokens stand there
abbrev pub Begins : Trees → Next → Type 0
Begins ts ended = ts ≡ no_trees
Begins ts (oror us) = Front (k.joint 124 124) ts us
Begins ts (andand us) = Front (k.joint 38 38) ts us
Begins ts (equals us) = Front (k.joint 61 61) ts us
Begins ts (differs us) = Front (k.joint 33 61) ts us
Begins ts (star us) = Front (k.punct 42) ts us
Begins ts (amp us) = Front (k.punct 38) ts us
Begins ts (dot us) = Front (k.punct 46) ts us
Begins ts (asks us) = Front (k.punct 63) ts us
Begins ts (bangs us) = Front (k.punct 33) ts us
Begins ts (plus us) = Front (k.punct 43) ts us
Begins ts (less us) = Front (k.punct 60) ts us
Begins ts (hash us) = Front (k.punct 35) ts us
Begins ts (bar us) = Front (k.punct 124) ts us
Begins ts (comma us) = Front k.comma ts us
Begins ts (colon us) = Front k.colon ts us
Begins ts (semicolon us) = Front k.semicolon ts us
Begins ts (assigns us) = Front k.assigns ts us
Begins ts (leads us) = Front (k.joint 61 62) ts us
Begins ts (arrow us) = Front (k.joint 45 62) ts us
Begins ts (colons us) = Front (k.joint 58 58) ts us
Begins ts (dots us) = Front (k.joint 46 46) ts us
Begins ts (in_parens inside us) = Front (k.enclosed Paren inside) ts us × IsBare inside
Begins ts (in_braces inside us) = Front (k.enclosed Brace inside) ts us × IsBare inside
Begins ts (in_brackets inside us) = Front (k.enclosed Bracket inside) ts us × IsBare inside
Begins ts (literal l us) = Front (syntax.literal l) ts us × (l.span ≡ nowhere)
Begins ts (a_name i us) = Front (name i) ts us × (IsTrue (is_path_word i) × (i.span ≡ nowhere))
Begins ts (a_word w us) = WordFront w ts us
Begins ts other = Unit {0}

either : (ts : Trees) (b : Bool) (x y : Next) → (b ≡ true → Begins ts x) → Begins ts y → Begins ts (cond b x y)
either ts true x y h k = h refl
either ts false x y h k = k

pub punct_same : (p : Punct) (c : ℕ) (s : Spacing) → p.ch ≡ c → p.spacing ≡ s → p.span ≡ nowhere →
    p ≡ record { ch = c; spacing = s; span = nowhere }
punct_same p c s e f n =
    ap (λ x. record { ch = x; spacing = p.spacing; span = p.span }) e ∙
    (ap (λ x. record { ch = c; spacing = x; span = p.span }) f ∙ ap (λ x. record { ch = c; spacing = s; span = x }) n)

alone_begins : (p : Punct) (us : Trees) → p.spacing ≡ Alone → p.span ≡ nowhere → IsBare us →
    Begins (token (t.Punct p) us) (alone_next p.ch us)
alone_begins p us s n b =
    let ts : Trees = token (t.Punct p) us in
    let this : (c : ℕ) → nat_eq p.ch c ≡ true → Front (k.punct c) ts us =
    λ c e. (ap (λ q. token (t.Punct q) us) (punct_same p c Alone (eqb-true p.ch c e) s n), b) in
    either ts (p.ch == 42) (star us) _ (this 42) (either ts (p.ch == 38) (amp us) _ (this 38) (either ts (p.ch == 46) (dot us) _ (this 46)
    (either ts (p.ch == 63) (asks us) _ (this 63) (either ts (p.ch == 33) (bangs us) _ (this 33) (either ts (p.ch == 43) (plus us) _ (this 43)
    (either ts (p.ch == 60) (less us) _ (this 60) (either ts (p.ch == 44) (comma us) _ (this 44) (either ts (p.ch == 58) (colon us) _ (this 58)
    (either ts (p.ch == 59) (semicolon us) _ (this 59) (either ts (p.ch == 61) (assigns us) _ (this 61)
    (either ts (p.ch == 124) (bar us) _ (this 124) (either ts (p.ch == 35) (hash us) other (this 35) tt))))))))))))

pair_begins : (p q : Punct) (us : Trees) → p.spacing ≡ Joint → p.span ≡ nowhere → q.spacing ≡ Alone → q.span ≡ nowhere → IsBare us →
    Begins (token (t.Punct p) (token (t.Punct q) us)) (pair_next p.ch q.ch us)
pair_begins p q us s n s' n' b =
    let ts : Trees = token (t.Punct p) (token (t.Punct q) us) in
    let this : (c d : ℕ) → (nat_eq p.ch c && nat_eq q.ch d) ≡ true → Front (k.joint c d) ts us =
    λ c d e. (
      ap (λ x. token (t.Punct x) (token (t.Punct q) us))
          (punct_same p c Joint (eqb-true p.ch c (and_parts (nat_eq p.ch c) (nat_eq q.ch d) e).0) s n) ∙
          ap (λ x. token (t.Punct record { ch = c; spacing = Joint; span = nowhere }) (token (t.Punct x) us))
          (punct_same q d Alone (eqb-true q.ch d (and_parts (nat_eq p.ch c) (nat_eq q.ch d) e).1) s' n'),
      b,
    ) in
    either ts ((p.ch == 58) && (q.ch == 58)) (colons us) _ (this 58 58) (either ts ((p.ch == 61) && (q.ch == 62)) (leads us) _ (this 61 62)
    (either ts ((p.ch == 61) && (q.ch == 61)) (equals us) _ (this 61 61) (either ts ((p.ch == 33) && (q.ch == 61)) (differs us) _ (this 33 61)
    (either ts ((p.ch == 38) && (q.ch == 38)) (andand us) _ (this 38 38) (either ts ((p.ch == 124) && (q.ch == 124)) (oror us) _ (this 124 124)
    (either ts ((p.ch == 46) && (q.ch == 46)) (dots us) _ (this 46 46)
    (either ts ((p.ch == 45) && (q.ch == 62)) (arrow us) other (this 45 62) tt)))))))

last_begins : (p q : Punct) (us : Trees) (s : Spacing) → p.spacing ≡ Joint → p.span ≡ nowhere → q.spacing ≡ s → q.span ≡ nowhere →
    IsBare us →
    Begins (token (t.Punct p) (token (t.Punct q) us)) (last_next s p.ch q.ch us)
last_begins p q us Alone e n f m b = pair_begins p q us e n f m b
last_begins p q us Joint e n f m b = tt

joint_begins : (p : Punct) (ts : Trees) → p.spacing ≡ Joint → p.span ≡ nowhere → IsBare ts →
    Begins (token (t.Punct p) ts) (joint_next p.ch ts)
joint_begins p (token (t.Punct q) us) e n b =
    let h : (q.span ≡ nowhere) × IsBare us = bare_punct q us b in last_begins p q us q.spacing e n refl h.0 h.1
joint_begins p _ e n b = tt

punct_begins : (p : Punct) (ts : Trees) (s : Spacing) → p.spacing ≡ s → p.span ≡ nowhere → IsBare ts →
    Begins (token (t.Punct p) ts) (punct_next s p.ch ts)
punct_begins p ts Alone e n b = alone_begins p ts e n b
punct_begins p ts Joint e n b = joint_begins p ts e n b

keyword_begins : (i : Ident) (ts : Trees) (w : Word) → is_used w ≡ true → kind i ≡ w → i.span ≡ nowhere → IsBare ts →
    Front (k.word (letters w)) (token (t.Ident i) ts) ts
keyword_begins i ts w u e n b =
    let p : (i.raw ≡ false) × (i.name ≡ letters w) = word_by i w i.raw u refl e in
    (ap (λ j. token (t.Ident j) ts) (ident_same i (letters w) p.0 p.1 n), b)

word_begins : (i : Ident) (ts : Trees) (w : Word) → kind i ≡ w → i.span ≡ nowhere → IsBare ts →
    Begins (token (t.Ident i) ts) (word_next w i ts)
word_begins i ts of_path e n b = ((refl, b), (path-kind i e, n))
word_begins i ts k_other e n b = tt
word_begins i ts w e n b = keyword_begins i ts w refl e n b

token_begins : (k : Token) (ts : Trees) → IsBare (token k ts) → Begins (token k ts) (token_next k ts)
token_begins (t.Ident i) ts b =
    let h : (i.span ≡ nowhere) × IsBare ts = bare_ident i ts b in word_begins i ts (kind i) refl h.0 h.1
token_begins (t.Punct p) ts b =
    let h : (p.span ≡ nowhere) × IsBare ts = bare_punct p ts b in punct_begins p ts p.spacing refl h.0 h.1
token_begins (t.Literal l) ts b = let h : (l.span ≡ nowhere) × IsBare ts = bare_literal l ts b in ((refl, h.1), h.0)
token_begins (t.Lifetime l) ts b = tt

group_same : (d : Delim) (from : Span) (inside : Trees) (upto : Span) (ts : Trees) → from ≡ nowhere → upto ≡ nowhere →
    group d from inside upto ts ≡ group d nowhere inside nowhere ts
group_same d from inside upto ts e f = ap (λ x. group d x inside upto ts) e ∙ ap (λ x. group d nowhere inside x ts) f

group_begins : (d : Delim) (from : Span) (inside : Trees) (upto : Span) (ts : Trees) → from ≡ nowhere → upto ≡ nowhere → IsBare inside →
    IsBare ts →
    Begins (group d from inside upto ts) (group_next d inside ts)
group_begins Paren from inside upto ts e f i b = ((group_same Paren from inside upto ts e f, b), i)
group_begins Brace from inside upto ts e f i b = ((group_same Brace from inside upto ts e f, b), i)
group_begins Bracket from inside upto ts e f i b = ((group_same Bracket from inside upto ts e f, b), i)

pub next_begins : (ts : Trees) → IsBare ts → Begins ts (next ts)
next_begins no_trees b = refl
next_begins (token k ts) b = token_begins k ts b
next_begins (group d from inside upto ts) b =
    let h : ((from ≡ nowhere) × (upto ≡ nowhere)) × (IsBare inside × IsBare ts) = bare_group d from inside upto ts b in
    group_begins d from inside upto ts h.0.0 h.0.1 h.1.0 h.1.1
