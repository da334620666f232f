-- What the readers of a declaration's parts are to decide, and parts that stand in many places: names, words, lists.
use Rattle.std.proofs.Common.{◌≡◌, ℕ, Bool, true, false, not, ◌||◌, if◌then◌else◌, List, codes, IsTrue, refl, ap, ap₂, ◌∙◌, subst}
use Rattle.std.proofs.lemmas.Bool.{not-true}
use Rattle.std.proofs.lemmas.Slice.Eq.{bytes_eq-Decides}
use Rattle.std.specs.Str.{bytes_eq}
use Rattle.dm_stream.specs.declared.tokens.Span.{Span}
use Rattle.dm_stream.specs.declared.tokens.Ident.{Ident}
use Rattle.dm_stream.specs.declared.tokens.Lifetime.{Lifetime}
use Rattle.dm_stream.specs.Trees.{Trees}
use Rattle.dm_ast.specs.declared.plain.Opaque.{Opaque}
use Rattle.dm_ast.specs.Keywords.{is_name, is_keyword}
use Rattle.dm_ast.specs.Spelling.{Where, Spelling, ◌then◌, Provided, RangedAt, ident, lifetime, sees_word, is_word, items}
use Rattle.dm_ast.specs.TypeGrammar.{name, attributes, for_lifetimes, constant_spelled, type_spelled}
use Rattle.dm_ast.specs.DeclarationGrammar.{listed, visibility, lifetime_bounds, bound_list, keyword_at}
use Rattle.dm_ast.specs.Readers.{Parser, read_ident, read_lifetime, read_list}
use Rattle.dm_ast.specs.PlainReaders.{punctuated}
use Rattle.dm_read.specs.DeclarationReaders.{Parts, read_name, read_word_at, read_listed, to_listed, ends_lifetimes, read_lifetime_bounds}
use Rattle.dm_read.proofs.Deciding.{Decides, Reader, decides_test}
use Rattle.dm_read.proofs.Tokens.{reads_ident, reads_lifetime, lifetime_seen, left_true, right_true, the_word, word_is, word_same}
use Rattle.dm_read_paths.proofs.Listing.{reads_list}
use Rattle.dm_read_paths.proofs.PlainParts.{reads_by}
use Rattle.dm_grammar_laws.proofs.TypeFronts.{Begins}

-- each reader decides its part
pub record AreDecided (Run : Opaque → Where → Spelling) (p : Parts) : Type 0 where
  pub types : (w : Where) → Reader (λ t. type_spelled t false w) (p.types w)
  pub bounds : (w : Where) → Reader (λ bs. bound_list w bs) (p.bounds w)
  pub attributes : (w : Where) → Reader (attributes w) (p.attributes w)
  pub visibility : (w : Where) → Reader (visibility w) (p.visibility w)
  pub lifetimes : (w : Where) → Reader (for_lifetimes w) (p.lifetimes w)
  pub constant : (w : Where) → Reader (constant_spelled w) (p.constant w)
  pub run : (w : Where) → Reader (λ o. Run o w) (p.run w)

-- ---- how readers are passed on

-- what the first tokens tell
pub reads_either : {A : Type 0} (S : A → Spelling) (test : Trees → Bool) (p q : Parser A) → ((ts : Trees) → test ts ≡ true → Decides S ts (p ts)) →
    ((ts : Trees) → test ts ≡ false → Decides S ts (q ts)) → Reader S (λ ts. if test ts then p ts else q ts)
reads_either S test p q f g ts = decides_test S ts (test ts) (p ts) (q ts) (f ts) (g ts)

-- a part, and its range
abbrev pub WithRange : {A : Type 0} → (A → Spelling) → A × Span → Spelling
WithRange P v = RangedAt v.1 (P v.0)

pub both_ways : (b : Bool) → b ≡ true → b ≡ false → ⊥
both_ways b e f = absurd (cc)

-- ---- names and words

pub reads_name : (w : Where) → Reader (name w) (read_name w)
reads_name w = reads_ident is_name w

word_name : (i : Ident) (word : List ℕ) → is_word word i ≡ true → i.name ≡ word
word_name i word e = (bytes_eq-Decides i.name word).0 (right_true (not i.raw) (bytes_eq i.name word) e)

word_raw : (i : Ident) (word : List ℕ) → is_word word i ≡ true → i.raw ≡ false
word_raw i word e = not-true i.raw (left_true (not i.raw) (bytes_eq i.name word) e)

pub reads_word_at : (word : List ℕ) (w : Where) → Reader (keyword_at w word) (read_word_at word w)
reads_word_at word w =
    reads_by (λ (i : Ident). i.span) (λ i. Provided (IsTrue (is_word word i)) (ident w i)) (keyword_at w word) (read_ident (is_word word) w)
    (λ i ts o m s. subst (λ j. ident w j ts o m) (word_is i word s.fact) s.part)
    (λ range ts o m s. record { value = the_word word range; is_it = refl; spelled = record { fact = word_same word range; part = s } })
    (reads_ident (is_word word) w)

pub keyword_front : (word : List ℕ) (w : Where) (range : Span) → Begins (sees_word word) true (keyword_at w word range)
keyword_front word w range ts o m s = ap (sees_word word) s.spelled ∙ word_same word range

-- a Name is no keyword
no_keyword : (i : Ident) (word : List ℕ) → is_keyword word ≡ true → is_name i ≡ true → is_word word i ≡ true → ⊥
no_keyword i word k e f =
    let a : (i.raw || not (is_keyword i.name)) ≡ true = right_true (not (bytes_eq i.name (codes "_"))) (i.raw || not (is_keyword i.name)) e in
    let b : (i.raw || not (is_keyword i.name)) ≡ not (is_keyword word) = ap₂ (λ r n. r || not (is_keyword n)) (word_raw i word f) (word_name i word f) in
    let c : not (is_keyword word) ≡ false = ap not k in
    absurd (cc)

pub name_no_word : (word : List ℕ) (w : Where) (i : Ident) → is_keyword word ≡ true → Begins (sees_word word) false (name w i)
name_no_word word w i k ts o m s = by (is_word word i) refl
  where
    by : (b : Bool) → is_word word i ≡ b → sees_word word ts ≡ false
    by false e = ap (sees_word word) s.part.spelled ∙ e
    by true e = absurd (no_keyword i word k s.fact e)

pub const_keyword : is_keyword (codes "const") ≡ true
unfolding is_keyword
const_keyword = refl

-- ---- lists

-- items with a comma between
pub reads_listed : {A : Type 0} (ends : Trees → Bool) (Item : A → Where → Spelling) (item : Where → Parser A) (w : Where) →
    ((x : A) → Begins ends false (Item x w)) → Reader (λ x. Item x w) (item w) → Reader (λ xs. listed ends Item xs w) (read_listed ends item w)
reads_listed {A} ends Item item w starts h =
    reads_by to_listed (λ (r : List A × Bool). items w 44 ends (λ x. Item x w) r.0 r.1) (λ xs. listed ends Item xs w) (read_list w 44 ends (item w))
    (λ r ts o m s. s) (λ xs ts o m s. record { value = (xs.items, xs.trailing); is_it = refl; spelled = s })
    (reads_list w 44 ends (λ x. Item x w) (item w) starts h)

pub reads_lifetime_bounds : (w : Where) → Reader (lifetime_bounds w) (read_lifetime_bounds w)
reads_lifetime_bounds w =
    reads_by punctuated (λ (r : List Lifetime × Bool). items w 43 ends_lifetimes (lifetime w) r.0 r.1) (lifetime_bounds w) (read_list w 43 ends_lifetimes (read_lifetime w))
    (λ r ts o m s. s) (λ ls ts o m s. record { value = (ls.items, ls.trailing); is_it = refl; spelled = s })
    (reads_list w 43 ends_lifetimes (lifetime w) (read_lifetime w) (λ l ts o m s. ap not (lifetime_seen w l ts o m s)) (reads_lifetime w))
