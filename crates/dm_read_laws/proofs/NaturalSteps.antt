-- Readers that read the same of the same tokens, ranges aside: the parts that readers are made of.
use Rattle.std.proofs.Common.{◌≡◌, ℕ, zero, suc, ◌+◌, ◌-◌, Bool, true, false, cond, not, ◌&&◌, ◌||◌, if◌then◌else◌, nat_eq, nat_lt, List, [], ◌∷◌, ◌++◌, map, length, take, Option, option_map, Some, None, Ok, Err, refl, sym, ap, ap₂, ◌∙◌, subst}
use Rattle.std.proofs.lemmas.List.{take-map, map-append, length-map}
use Rattle.dm_stream.specs.declared.tokens.Span.{Span}
use Rattle.dm_stream.specs.declared.tokens.Delim.{Delim}
use Rattle.dm_stream.specs.declared.tokens.Ident.{Ident}
use Rattle.dm_stream.specs.declared.tokens.Token.{Token}
use Rattle.dm_stream.specs.declared.tokens.Token.TheVariants as t
use Rattle.dm_stream.specs.declared.tokens.Entry.{Entry}
use Rattle.dm_stream.specs.declared.tokens.Entry.TheVariants as entry
use Rattle.dm_stream.specs.declared.error.Refusal.{Refusal}
use Rattle.dm_stream.specs.Layout.{nowhere}
use Rattle.dm_stream.specs.Trees.{Trees, no_trees, token, group, flatten, Stream}
use Rattle.dm_stream.specs.Cursors.{token_span, front_span, same_delim, first_ident, first_lifetime, first_literal}
use Rattle.dm_lexer.specs.Written.{unplaced_token, unplaced}
use Rattle.dm_ast.specs.Spelling.{Where, Marks, deepest, first_too_deep, marks_of, at_end, is_joint, sees_one, sees, sees_pair, sees_lone, sees_word, sees_lifetime, sees_literal, sees_group}
use Rattle.dm_ast.specs.Readers.{Outcome, Parser, too_deep_at, refuse, and_then, mapped, ◌and◌, ◌next◌, ◌till◌, ◌gives◌, if_found, read_found, if_ident, read_ident, read_any, read_lifetime, read_literal, if_seen, read_seen, tail, read_punct, read_word, read_pair, read_lone, ended, within_group, read_group, read_flag, read_perhaps, if_shallow, read_rest, turns, list_from, read_list, repeat_from, read_repeated, read_chain, entry_span, last_end, range_over, range_between, ranged}
use Rattle.dm_read.proofs.Deciding.{pair, const_at}
use Rattle.dm_type_eq.specs.Unplaced.{unplaced_ident, unplaced_lifetime, unplaced_literal, unplaced_stream}
use Rattle.dm_reread.specs.BareReading.{bare_pair, bare_answer}
use Rattle.dm_reread.specs.TypeLeaves.{answer_of}
use Rattle.dm_reread.proofs.BareNext.{map-cond}
use Rattle.dm_reread.proofs.FreeSteps.{ending}

-- a reader of trees, and one of the same trees without ranges, which reads the same, made bare by a function
pub record Alike {A : Type 0} (bare : A → A) (p q : Parser A) : Type 0 where
  pub at : (ts : Trees) → answer_of (q (unplaced ts)) ≡ bare_answer bare (answer_of (p ts))

-- the same of a reader at each level, in a list that ends anywhere: without ranges it ends at 0
abbrev pub Natural : {A : Type 0} → (A → A) → (Where → Parser A) → Type 0
Natural bare p = (l m : ℕ) → Alike bare (p (ending l m)) (p (ending l 0))

-- a test that does not look at ranges
abbrev pub Blind : (Trees → Bool) → Type 0
Blind test = (ts : Trees) → test (unplaced ts) ≡ test ts

-- what has no ranges
abbrev pub same : {A : Type 0} → A → A
same a = a

abbrev pub both : {A B : Type 0} → (A → A) → (B → B) → A × B → A × B
both a b v = (a v.0, b v.1)

-- what has a range beside it
abbrev pub unranged : {A : Type 0} → (A → A) → A × Span → A × Span
unranged a v = (a v.0, nowhere)

-- ---- entries without ranges

abbrev pub bare_entry : Entry → Entry
bare_entry (entry.Token k) = entry.Token (unplaced_token k)
bare_entry (entry.Open d from n) = entry.Open d nowhere n
bare_entry (entry.Close d upto) = entry.Close d nowhere

pub flatten_bare : (ts : Trees) → flatten (unplaced ts) ≡ map bare_entry (flatten ts)
flatten_bare no_trees = refl
flatten_bare (token k rest) = ap (λ es. entry.Token (unplaced_token k) ∷ es) (flatten_bare rest)
flatten_bare (group d from inside upto rest) = simp (flatten_bare inside, flatten_bare rest, length-map, map-append)

pub length_bare : (ts : Trees) → length (flatten (unplaced ts)) ≡ length (flatten ts)
length_bare ts = ap (λ es. length es) (flatten_bare ts) ∙ length-map (flatten ts) bare_entry

token_span_bare : (k : Token) → token_span (unplaced_token k) ≡ nowhere
token_span_bare (t.Ident i) = refl
token_span_bare (t.Lifetime l) = refl
token_span_bare (t.Punct p) = refl
token_span_bare (t.Literal l) = refl

entry_span_bare : (e : Entry) → entry_span (bare_entry e) ≡ nowhere
entry_span_bare (entry.Token k) = token_span_bare k
entry_span_bare (entry.Open d from n) = refl
entry_span_bare (entry.Close d upto) = refl

last_end_bare : (es : List Entry) → last_end 0 (map bare_entry es) ≡ 0
last_end_bare [] = refl
last_end_bare (e ∷ es) = ap (λ s. last_end s.«end» (map bare_entry es)) (entry_span_bare e) ∙ last_end_bare es

range_bare : (es : List Entry) → range_over (map bare_entry es) ≡ nowhere
range_bare [] = refl
range_bare (e ∷ es) =
    ap {B = Span} (λ s. record { start = s.start; «end» = last_end s.«end» (map bare_entry es) }) (entry_span_bare e) ∙
    ap {B = Span} (λ n. record { start = 0; «end» = n }) (last_end_bare es)

between_bare : (ts us : Trees) → range_between (unplaced ts) (unplaced us) ≡ nowhere
between_bare ts us =
    ap (λ es. range_over (take (length es - length (flatten (unplaced us))) es)) (flatten_bare ts) ∙
    ap range_over (take-map bare_entry (length (map bare_entry (flatten ts)) - length (flatten (unplaced us))) (flatten ts)) ∙
    range_bare (take (length (map bare_entry (flatten ts)) - length (flatten (unplaced us))) (flatten ts))

-- ---- outcomes

then_bare : {A B : Type 0} (a : A → A) (b : B → B) (o' o : Outcome A) (g f : A → Parser B) → answer_of o' ≡ bare_answer a (answer_of o) →
    ((x : A) (mid : Trees) → answer_of (g (a x) (unplaced mid)) ≡ bare_answer b (answer_of (f x mid))) →
    answer_of (and_then o' g) ≡ bare_answer b (answer_of (and_then o f))
then_bare a b (Ok x) (Ok y) g f e h =
    let s : x ≡ bare_pair a y = cc in
    subst (λ c. answer_of (g c.0 c.1) ≡ bare_answer b (answer_of (f y.0 y.1))) (sym s) (h y.0 y.1)
then_bare a b (Ok x) (Err s) g f e h = absurd (cc)
then_bare a b (Err r) (Ok y) g f e h = absurd (cc)
then_bare a b (Err r) (Err s) g f e h = refl

mapped_bare : {A B : Type 0} (a : A → A) (b : B → B) (o' o : Outcome A) (g f : A → B) → answer_of o' ≡ bare_answer a (answer_of o) →
    ((x : A) → g (a x) ≡ b (f x)) → answer_of (mapped g o') ≡ bare_answer b (answer_of (mapped f o))
mapped_bare {A} {B} a b (Ok x) (Ok y) g f e h =
    let s : x ≡ bare_pair a y = cc in
    ap {B = Option (B × Trees)} (λ c. Some (g c.0, c.1)) s ∙ ap {B = Option (B × Trees)} (λ c. Some (c, unplaced y.1)) (h y.0)
mapped_bare a b (Ok x) (Err s) g f e h = absurd (cc)
mapped_bare a b (Err r) (Ok y) g f e h = absurd (cc)
mapped_bare a b (Err r) (Err s) g f e h = refl

test_bare : {A : Type 0} (a : A → A) (c b : Bool) (x' y' x y : Outcome A) → c ≡ b → answer_of x' ≡ bare_answer a (answer_of x) →
    answer_of y' ≡ bare_answer a (answer_of y) → answer_of (if c then x' else y') ≡ bare_answer a (answer_of (if b then x else y))
test_bare a true true x' y' x y s e f = e
test_bare a false false x' y' x y s e f = f
test_bare a true false x' y' x y s e f = absurd (cc)
test_bare a false true x' y' x y s e f = absurd (cc)

-- too deep at either place, or not
level_bare : {A : Type 0} (a : A → A) (deep : Bool) (s t : Span) (r : A × Trees) →
    answer_of (if deep then too_deep_at s else Ok (bare_pair a r)) ≡ bare_answer a (answer_of (if deep then too_deep_at t else Ok r))
level_bare a true s t r = refl
level_bare a false s t r = refl

answer_by : {A : Type 0} (a b : A → A) → ((x : A) → a x ≡ b x) → (o : Option (A × Trees)) → bare_answer a o ≡ bare_answer b o
answer_by a b e None = refl
answer_by {A} a b e (Some r) = ap {B = Option (A × Trees)} (λ x. Some (x, unplaced r.1)) (e r.0)

-- ---- one reader after another

pub alike_by : {A : Type 0} {a b : A → A} {p q : Parser A} → Alike a p q → ((x : A) → a x ≡ b x) → Alike b p q
alike_by {A} {a} {b} {p} {q} h e = record { at = λ ts. h.at ts ∙ answer_by a b e (answer_of (p ts)) }

-- a reader that takes nothing
pub alike_nothing : {A : Type 0} {a : A → A} (x y : A) → y ≡ a x → Alike a (λ ts. Ok (x, ts)) (λ ts. Ok (y, ts))
alike_nothing {A} {a} x y e = record { at = λ ts. ap {B = Option (A × Trees)} (λ z. Some (z, unplaced ts)) e }

pub alike_refused : {A : Type 0} {a : A → A} (w v : Where) → Alike a (refuse w) (refuse v)
alike_refused w v = record { at = λ ts. refl }

pub alike_bind : {A B : Type 0} {a : A → A} {b : B → B} {p q : Parser A} {f : A → Parser B} (g : A → Parser B) → Alike a p q →
    ((x : A) → Alike b (f x) (g (a x))) → Alike b (λ ts. and_then (p ts) f) (λ ts. and_then (q ts) g)
alike_bind {A} {B} {a} {b} {p} {q} {f} g h k =
    record { at = λ ts. then_bare a b (q (unplaced ts)) (p ts) g f (h.at ts) (λ x mid. (k x).at mid) }

-- what is made of the part, where that is made otherwise without ranges
pub alike_gives_by : {A B : Type 0} {a : A → A} {b : B → B} {p q : Parser A} → Alike a p q → (f g : A → B) →
    ((x : A) → g (a x) ≡ b (f x)) → Alike b (p gives f) (q gives g)
alike_gives_by {A} {B} {a} {b} {p} {q} h f g e = record { at = λ ts. mapped_bare a b (q (unplaced ts)) (p ts) g f (h.at ts) e }

pub alike_gives : {A B : Type 0} {a : A → A} {b : B → B} {p q : Parser A} → Alike a p q → (f : A → B) →
    ((x : A) → f (a x) ≡ b (f x)) → Alike b (p gives f) (q gives f)
alike_gives h f e = alike_gives_by h f f e

pub alike_and : {A B : Type 0} {a : A → A} {b : B → B} {p q : Parser A} {r s : Parser B} → Alike a p q → Alike b r s →
    Alike (both a b) (p and r) (q and s)
alike_and {A} {B} {a} {b} {p} {q} {r} {s} h k = alike_bind _ h (λ x. alike_gives_by k (pair x) (pair (a x)) (λ y. refl))

pub alike_next : {B : Type 0} {b : B → B} {p q : Parser (Unit {0})} {r s : Parser B} → Alike same p q → Alike b r s →
    Alike b (p next r) (q next s)
alike_next h k = alike_bind _ h (λ _. k)

pub alike_till : {A : Type 0} {a : A → A} {p q : Parser A} {r s : Parser (Unit {0})} → Alike a p q → Alike same r s →
    Alike a (p till r) (q till s)
alike_till {A} {a} h k = alike_bind _ h (λ x. alike_gives_by k (const_at x) (const_at (a x)) (λ y. refl))

-- one of two readers, by a test
pub alike_either : {A : Type 0} {a : A → A} {p q r s : Parser A} (test : Trees → Bool) → Blind test → Alike a p q → Alike a r s →
    Alike a (λ ts. if test ts then p ts else r ts) (λ ts. if test ts then q ts else s ts)
alike_either {A} {a} {p} {q} {r} {s} test e h k =
    record { at = λ ts. test_bare a (test (unplaced ts)) (test ts) (q (unplaced ts)) (s (unplaced ts)) (p ts) (r ts) (e ts) (h.at ts) (k.at ts) }

-- ---- tests

pub at_end_blind : Blind at_end
at_end_blind no_trees = refl
at_end_blind _ = refl

pub sees_blind : (c : ℕ) → Blind (sees c)
sees_blind c (token (t.Punct p) rest) = refl
sees_blind c _ = refl

sees_one_blind : (cs : List ℕ) → Blind (sees_one cs)
sees_one_blind cs (token (t.Punct p) rest) = refl
sees_one_blind cs _ = refl

pub pair_blind : (a b : ℕ) → Blind (sees_pair a b)
pair_blind a b (token (t.Punct p) rest) = ap (λ x. (nat_eq p.ch a && is_joint p.spacing) && x) (sees_blind b rest)
pair_blind a b _ = refl

pub lone_blind : (c : ℕ) (stops : List ℕ) → Blind (sees_lone c stops)
lone_blind c stops (token (t.Punct p) rest) = ap (λ x. nat_eq p.ch c && not (is_joint p.spacing && x)) (sees_one_blind stops rest)
lone_blind c stops _ = refl

pub word_blind : (word : List ℕ) → Blind (sees_word word)
word_blind word (token (t.Ident i) rest) = refl
word_blind word _ = refl

pub lifetime_blind : Blind sees_lifetime
lifetime_blind (token (t.Lifetime l) rest) = refl
lifetime_blind _ = refl

pub literal_blind : Blind sees_literal
literal_blind (token (t.Literal l) rest) = refl
literal_blind _ = refl

pub group_blind : (d : Delim) → Blind (sees_group d)
group_blind d (group e from inside upto rest) = refl
group_blind d _ = refl

-- one test or another
pub or_blind : (f g : Trees → Bool) → Blind f → Blind g → Blind (λ ts. f ts || g ts)
or_blind f g h k ts = ap₂ (λ a b. a || b) (h ts) (k ts)

-- ---- tokens

found_bare : {A : Type 0} (a : A → A) (l m : ℕ) (ts : Trees) (found : Option (A × Trees)) →
    answer_of (if_found (ending l 0) (unplaced ts) (bare_answer a found)) ≡ bare_answer a (answer_of (if_found (ending l m) ts found))
found_bare a l m ts None = refl
found_bare a l m ts (Some r) = level_bare a (nat_lt deepest l) (front_span (unplaced ts) 0) (front_span ts m) r

natural_found : {A : Type 0} (a : A → A) (first : Trees → Option (A × Trees)) →
    ((ts : Trees) → first (unplaced ts) ≡ bare_answer a (first ts)) → Natural a (read_found first)
natural_found a first e l m =
    record { at = λ ts. ap (λ f. answer_of (if_found (ending l 0) (unplaced ts) f)) (e ts) ∙ found_bare a l m ts (first ts) }

first_ident_bare : (ts : Trees) → first_ident (unplaced ts) ≡ bare_answer unplaced_ident (first_ident ts)
first_ident_bare (token (t.Ident i) rest) = refl
first_ident_bare _ = refl

first_lifetime_bare : (ts : Trees) → first_lifetime (unplaced ts) ≡ bare_answer unplaced_lifetime (first_lifetime ts)
first_lifetime_bare (token (t.Lifetime l) rest) = refl
first_lifetime_bare _ = refl

first_literal_bare : (ts : Trees) → first_literal (unplaced ts) ≡ bare_answer unplaced_literal (first_literal ts)
first_literal_bare (token (t.Literal l) rest) = refl
first_literal_bare _ = refl

if_ident_bare : (test : Ident → Bool) → ((i : Ident) → test (unplaced_ident i) ≡ test i) → (o : Option (Ident × Trees)) →
    if_ident test (bare_answer unplaced_ident o) ≡ bare_answer unplaced_ident (if_ident test o)
if_ident_bare test e None = refl
if_ident_bare test e (Some r) =
    ap (λ b. if b then Some (bare_pair unplaced_ident r) else None) (e r.0) ∙
    sym (map-cond (bare_pair unplaced_ident) (test r.0) (Some r) None)

pub natural_ident : (test : Ident → Bool) → ((i : Ident) → test (unplaced_ident i) ≡ test i) → Natural unplaced_ident (read_ident test)
natural_ident test e =
    natural_found unplaced_ident (λ ts. if_ident test (first_ident ts))
    (λ ts. ap (λ o. if_ident test o) (first_ident_bare ts) ∙ if_ident_bare test e (first_ident ts))

pub natural_any : Natural unplaced_ident read_any
natural_any = natural_found unplaced_ident first_ident first_ident_bare

pub natural_lifetime : Natural unplaced_lifetime read_lifetime
natural_lifetime = natural_found unplaced_lifetime first_lifetime first_lifetime_bare

pub natural_literal : Natural unplaced_literal read_literal
natural_literal = natural_found unplaced_literal first_literal first_literal_bare

seen_bare : (seen : Bool) (l m : ℕ) (ts rest : Trees) →
    answer_of (if_seen seen (ending l 0) (unplaced ts) (unplaced rest)) ≡ bare_answer same (answer_of (if_seen seen (ending l m) ts rest))
seen_bare true l m ts rest = level_bare same (nat_lt deepest l) (front_span (unplaced ts) 0) (front_span ts m) (tt, rest)
seen_bare false l m ts rest = refl

natural_seen : (test : Trees → Bool) (after : Trees → Trees) → Blind test → ((ts : Trees) → after (unplaced ts) ≡ unplaced (after ts)) →
    Natural same (read_seen test after)
natural_seen test after e f l m =
    record {
      at = λ ts.
          ap₂ (λ b rest. answer_of (if_seen b (ending l 0) (unplaced ts) rest)) (e ts) (f ts) ∙ seen_bare (test ts) l m ts (after ts);
    }

pub tail_bare : (ts : Trees) → tail (unplaced ts) ≡ unplaced (tail ts)
tail_bare no_trees = refl
tail_bare (token k rest) = refl
tail_bare (group d from inside upto rest) = refl

pub natural_punct : (c : ℕ) → Natural same (read_punct c)
natural_punct c = natural_seen (sees c) tail (sees_blind c) tail_bare

pub natural_word : (word : List ℕ) → Natural same (read_word word)
natural_word word = natural_seen (sees_word word) tail (word_blind word) tail_bare

pub natural_pair : (a b : ℕ) → Natural same (read_pair a b)
natural_pair a b =
    natural_seen (sees_pair a b) (λ ts. tail (tail ts)) (pair_blind a b) (λ ts. ap tail (tail_bare ts) ∙ tail_bare (tail ts))

pub natural_lone : (c : ℕ) (stops : List ℕ) → Natural same (read_lone c stops)
natural_lone c stops = natural_seen (sees_lone c stops) tail (lone_blind c stops) tail_bare

-- ---- groups, whose inside ends where the delimiter stands

ended_bare : {A : Type 0} (a : A → A) (v w : Where) (outside : Trees) (x : A) (rest : Trees) →
    answer_of (ended w (unplaced outside) (a x) (unplaced rest)) ≡ bare_answer a (answer_of (ended v outside x rest))
ended_bare a v w outside x no_trees = refl
ended_bare a v w outside x _ = refl

module _ {A : Type 0} (a : A → A) (inner : Where → Parser A) (h : Natural a inner) (l m : ℕ) where
  inside_bare : (k : ℕ) (inside rest : Trees) →
      answer_of (within_group inner (ending l 0) (Ok (unplaced inside, 0, unplaced rest))) ≡
      bare_answer a (answer_of (within_group inner (ending l m) (Ok (inside, k, rest))))
  inside_bare k inside rest =
      then_bare a a (inner (ending (l + 1) 0) (unplaced inside)) (inner (ending (l + 1) k) inside)
      (ended (ending (l + 1) 0) (unplaced rest)) (ended (ending (l + 1) k) rest) ((h (l + 1) k).at inside)
      (ended_bare a (ending (l + 1) k) (ending (l + 1) 0) rest)

  opened_bare : (fits deep : Bool) (r s u v : Refusal) (k : ℕ) (inside rest : Trees) →
      answer_of (within_group inner (ending l 0) (if fits then (if deep then Err r else Ok (unplaced inside, 0, unplaced rest)) else Err s)) ≡
      bare_answer a (answer_of (within_group inner (ending l m) (if fits then (if deep then Err u else Ok (inside, k, rest)) else Err v)))
  opened_bare true true r s u v k inside rest = refl
  opened_bare true false r s u v k inside rest = inside_bare k inside rest
  opened_bare false deep r s u v k inside rest = refl

  group_bare : (d : Delim) (ts : Trees) →
      answer_of (read_group d inner (ending l 0) (unplaced ts)) ≡ bare_answer a (answer_of (read_group d inner (ending l m) ts))
  group_bare d no_trees = refl
  group_bare d (token k rest) = refl
  group_bare d (group e from inside upto rest) = opened_bare (same_delim e d) (nat_lt deepest l) _ _ _ _ upto.start inside rest

pub natural_group : {A : Type 0} {a : A → A} (d : Delim) (inner : Where → Parser A) → Natural a inner → Natural a (read_group d inner)
natural_group {A} {a} d inner h l m = record { at = λ ts. group_bare a inner h l m d ts }

-- ---- what may be missing

pub alike_flag : {p q : Parser (Unit {0})} (begins : Trees → Bool) → Blind begins → Alike same p q →
    Alike same (read_flag begins p) (read_flag begins q)
alike_flag begins e h = alike_either begins e (alike_gives h (λ _. true) (λ x. refl)) (alike_nothing false false refl)

pub alike_perhaps : {A : Type 0} {a : A → A} {p q : Parser A} (begins : Trees → Bool) → Blind begins → Alike a p q →
    Alike (option_map a) (read_perhaps begins p) (read_perhaps begins q)
alike_perhaps begins e h = alike_either begins e (alike_gives h (λ x. Some x) (λ x. refl)) (alike_nothing None None refl)

-- ---- trees that are not read

abbrev bare_mark : ℕ × Span → ℕ × Span
bare_mark k = (k.0, nowhere)

marks_bare : (n : ℕ) (ts : Trees) → marks_of n (unplaced ts) ≡ map bare_mark (marks_of n ts)
marks_bare n no_trees = refl
marks_bare n (token k rest) = ap₂ (λ s ms. (n, s) ∷ ms) (token_span_bare k) (marks_bare n rest)
marks_bare n (group d from inside upto rest) = simp (marks_bare (n + 1) inside, marks_bare n rest, map-append)

too_deep_bare : (ks : Marks) → first_too_deep (map bare_mark ks) ≡ option_map (λ _. nowhere) (first_too_deep ks)
too_deep_bare [] = refl
too_deep_bare (k ∷ ks) =
    ap (λ o. cond (nat_lt deepest k.0) (Some nowhere) o) (too_deep_bare ks) ∙
    sym (map-cond (λ _. nowhere) (nat_lt deepest k.0) (Some k.1) (first_too_deep ks))

shallow_bare : (o : Option Span) (s : Stream) →
    answer_of (if_shallow (option_map (λ _. nowhere) o) (unplaced_stream s)) ≡ bare_answer unplaced_stream (answer_of (if_shallow o s))
shallow_bare None s = refl
shallow_bare (Some r) s = refl

pub natural_rest : Natural unplaced_stream read_rest
natural_rest l m =
    record {
      at = λ ts.
          ap (λ o. answer_of (if_shallow o (record { trees = unplaced ts; limit = 0 })))
          (ap first_too_deep (marks_bare l ts) ∙ too_deep_bare (marks_of l ts)) ∙
          shallow_bare (first_too_deep (marks_of l ts)) (record { trees = ts; limit = m });
    }

-- ---- lists

turns_bare : (ts : Trees) → turns (unplaced ts) ≡ turns ts
turns_bare ts = ap (λ n. n + 1) (length_bare ts)

module _ {A : Type 0} (a : A → A) (l m separator : ℕ) (ends : Trees → Bool) (e : Blind ends) (p q : Parser A) (h : Alike a p q) where
  alike_turns : (k : ℕ) (found : List A) (trailing : Bool) →
      Alike (both (map a) same) (list_from (ending l m) separator ends p k found trailing)
      (list_from (ending l 0) separator ends q k (map a found) trailing)
  alike_turns zero found trailing = alike_refused (ending l m) (ending l 0)
  alike_turns (suc k) found trailing =
      alike_either ends e (alike_nothing (found, trailing) (map a found, trailing) refl)
      (alike_bind _ h (λ x.
      alike_either (sees separator) (sees_blind separator)
      (alike_bind _ (natural_punct separator l m) (λ _.
      subst
      (λ f. Alike (both (map a) same) (list_from (ending l m) separator ends p k (found ++ x ∷ []) true)
      (list_from (ending l 0) separator ends q k f true))
      (map-append a found (x ∷ [])) (alike_turns k (found ++ x ∷ []) true)))
      (alike_nothing (found ++ x ∷ [], false) (map a found ++ a x ∷ [], false)
      (ap (λ f. pair f false) (sym (map-append a found (x ∷ [])))))))

pub alike_list : {A : Type 0} {a : A → A} {p q : Parser A} (l m separator : ℕ) (ends : Trees → Bool) → Blind ends → Alike a p q →
    Alike (both (map a) same) (read_list (ending l m) separator ends p) (read_list (ending l 0) separator ends q)
alike_list {A} {a} {p} {q} l m separator ends e h =
    record {
      at = λ ts.
          ap (λ n. answer_of (list_from (ending l 0) separator ends q n [] false (unplaced ts))) (turns_bare ts) ∙
          (alike_turns a l m separator ends e p q h (turns ts) [] false).at ts;
    }

module _ {A : Type 0} (a : A → A) (w v : Where) (begins : Trees → Bool) (e : Blind begins) (p q : Parser A) (h : Alike a p q) where
  alike_repeats : (k : ℕ) (found : List A) → Alike (map a) (repeat_from w begins p k found) (repeat_from v begins q k (map a found))
  alike_repeats zero found = alike_refused w v
  alike_repeats (suc k) found =
      alike_either begins e
      (alike_bind _ h (λ x.
      subst (λ f. Alike (map a) (repeat_from w begins p k (found ++ x ∷ [])) (repeat_from v begins q k f)) (map-append a found (x ∷ []))
      (alike_repeats k (found ++ x ∷ []))))
      (alike_nothing found (map a found) refl)

pub alike_repeated : {A : Type 0} {a : A → A} {p q : Parser A} (w v : Where) (begins : Trees → Bool) → Blind begins → (found : List A) →
    Alike a p q → Alike (map a) (read_repeated w begins p found) (read_repeated v begins q (map a found))
alike_repeated {A} {a} {p} {q} w v begins e found h =
    record {
      at = λ ts.
          ap (λ n. answer_of (repeat_from v begins q n (map a found) (unplaced ts))) (turns_bare ts) ∙
          (alike_repeats a w v begins e p q h (turns ts) found).at ts;
    }

pub alike_chain : {A : Type 0} {a : A → A} {p q : Parser A} {r s : Parser (Unit {0})} (w v : Where) (begins : Trees → Bool) → Blind begins →
    Alike same r s → Alike a p q → Alike (map a) (read_chain w r begins p) (read_chain v s begins q)
alike_chain w v begins e k h = alike_bind _ h (λ x. alike_repeated w v begins e (x ∷ []) (alike_next k h))

-- ---- ranges

abbrev with_range : {A : Type 0} → Trees → A → Parser (A × Span)
with_range ts a others = Ok (pair a (range_between ts others), others)

pub alike_ranged : {A : Type 0} {a : A → A} {p q : Parser A} → Alike a p q → Alike (unranged a) (ranged p) (ranged q)
alike_ranged {A} {a} {p} {q} h =
    record {
      at = λ ts.
          then_bare a (unranged a) (q (unplaced ts)) (p ts) (with_range (unplaced ts)) (with_range ts) (h.at ts)
          (λ x others. ap {B = Option ((A × Span) × Trees)} (λ s. Some ((a x, s), unplaced others)) (between_bare ts others));
    }
