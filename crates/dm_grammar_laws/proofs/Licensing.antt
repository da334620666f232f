-- Where a reader refuses trees: at a place in them, and as too deep only behind too many openers. The parts that readers are made of.
use Rattle.std.proofs.Common.{◌≡◌, ◌<◌, ◌≤◌, ℕ, zero, suc, ◌+◌, Bool, true, false, if◌then◌else◌, ◌||◌, nat_lt, List, [], ◌∷◌, ◌++◌, codes, Option, Some, None, Ok, Err, refl, sym, ap, ◌∙◌, subst, append_assoc, append-nil, length, cond, arith}
use Rattle.std.proofs.lemmas.Bool.{ltb-true, eqb-true}
use Rattle.dm_stream.specs.declared.tokens.Span.{Span}
use Rattle.dm_stream.specs.declared.tokens.Delim.{Delim}
use Rattle.dm_stream.specs.declared.tokens.Ident.{Ident}
use Rattle.dm_stream.specs.declared.tokens.Token.TheVariants as t
use Rattle.dm_stream.specs.declared.tokens.Entry.{Entry}
use Rattle.dm_stream.specs.declared.tokens.Entry.TheVariants as entry
use Rattle.dm_stream.specs.declared.error.Kind.{Kind}
use Rattle.dm_stream.specs.declared.error.Kind.TheVariants.{TooDeep, Syntax}
use Rattle.dm_stream.specs.declared.error.Refusal.{Refusal}
use Rattle.dm_stream.specs.Trees.{Trees, no_trees, token, group, join, join-no_trees, flatten, Stream}
use Rattle.dm_stream.specs.Cursors.{token_span, front_span, same_delim, first_ident, first_lifetime, first_literal}
use Rattle.dm_ast.specs.Spelling.{Where, deeper, Marks, deepest, first_too_deep, marks_of, at_end, one_of, sees, sees_pair, sees_lone, sees_word, is_word}
use Rattle.dm_ast.specs.Readers.{Outcome, Parser, too_deep_at, refuse, if_level, and_then, mapped, ◌and◌, ◌next◌, ◌till◌, ◌gives◌, if_found, read_found, if_ident, read_ident, read_any, read_lifetime, read_literal, read_seen, tail, read_punct, read_word, read_pair, read_lone, inside_at, ended, within_group, read_group, read_flag, read_perhaps, if_shallow, read_rest, turns, list_from, read_list, repeat_from, read_repeated, read_chain, range_between, ranged}
use Rattle.dm_ast.specs.Places.{opens, openers, place_of, IsBehind, IsRefusedAt}
use Rattle.dm_grammar_laws.proofs.LicensedSteps.{Licensed}
use Rattle.dm_read.proofs.Deciding.{deep_behind, deep_front, pair, some, const_at}

-- a reader whose outcomes are all licensed
pub record Licenses {A : Type 0} (count : ℕ) (w : Where) (p : Parser A) : Type 0 where
  pub at : (ts : Trees) → Licensed count w ts (p ts)

-- refusals of the two kinds
abbrev pub syntax_by : Span → Refusal
syntax_by span = record { kind = Syntax; span = span }

abbrev pub deep_by : Span → Refusal
deep_by span = record { kind = TooDeep; span = span }

-- ---- one front after another

openers_append : (a b : List Entry) → openers (a ++ b) ≡ openers a + openers b
openers_append [] b = omega arith
openers_append (e ∷ a) b = omega (arith, openers_append a b)

pub behind_itself : (ts : Trees) → IsBehind 0 ts ts
behind_itself ts = record { front = []; splits = refl; opened = omega arith }

-- all of the trees
pub all_behind : (ts : Trees) → IsBehind 0 ts no_trees
all_behind ts = record { front = flatten ts; splits = sym (append-nil (flatten ts)); opened = omega arith }

pub behind_fewer : (n k : ℕ) (ts others : Trees) → k ≤ n → IsBehind n ts others → IsBehind k ts others
behind_fewer n k ts others e b = record { front = b.front; splits = b.splits; opened = omega (arith, e, b.opened) }

pub behind_both : (n k : ℕ) (ts mid others : Trees) → IsBehind n ts mid → IsBehind k mid others → IsBehind (n + k) ts others
behind_both n k ts mid others a b =
    record {
      front = a.front ++ b.front;
      splits = a.splits ∙ ap (λ l. a.front ++ l) b.splits ∙ sym (append_assoc a.front b.front (flatten others));
      opened = omega (arith, a.opened, b.opened, openers_append a.front b.front);
    }

-- a refusal behind openers, in a list that stands as many levels deeper
refused_behind_openers : (n level deep limit : ℕ) (r : Refusal) (ts mid : Trees) → deep ≤ level + n → IsBehind n ts mid → IsRefusedAt deep limit r mid →
    IsRefusedAt level limit r ts
refused_behind_openers n level deep limit r ts mid e b h =
    record {
      place = record {
        front = b.front ++ h.place.front;
        rest = h.place.rest;
        splits = b.splits ∙ ap (λ l. b.front ++ l) h.place.splits ∙ sym (append_assoc b.front h.place.front h.place.rest);
        is = h.place.is;
      };
      deep = λ k. omega (arith, e, b.opened, h.deep k, openers_append b.front h.place.front);
    }

-- a refusal behind such trees of the same list
pub refused_behind : (level limit : ℕ) (r : Refusal) (ts mid : Trees) → IsBehind 0 ts mid → IsRefusedAt level limit r mid → IsRefusedAt level limit r ts
refused_behind level limit r ts mid b h = refused_behind_openers 0 level level limit r ts mid (omega arith) b h

-- ---- the front itself

front_place : (limit : ℕ) (ts : Trees) → front_span ts limit ≡ place_of limit (flatten ts)
front_place limit no_trees = refl
front_place limit (token k rest) = refl
front_place limit (group d from inside upto rest) = refl

refused_in_front : (level limit : ℕ) (k : Kind) (ts : Trees) → (k ≡ TooDeep → deepest < level) →
    IsRefusedAt level limit (record { kind = k; span = front_span ts limit }) ts
refused_in_front level limit k ts h =
    record { place = record { front = []; rest = flatten ts; splits = refl; is = front_place limit ts }; deep = λ e. omega (arith, h e) }

pub syntax_in_front : (level limit : ℕ) (ts : Trees) → IsRefusedAt level limit (syntax_by (front_span ts limit)) ts
syntax_in_front level limit ts = refused_in_front level limit Syntax ts (λ e. absurd (cc))

pub deep_in_front : (level limit : ℕ) (ts : Trees) → deepest < level → IsRefusedAt level limit (deep_by (front_span ts limit)) ts
deep_in_front level limit ts h = refused_in_front level limit TooDeep ts (λ _. h)

-- ---- outcomes

pub licensed_test : {A : Type 0} (n : ℕ) (w : Where) (ts : Trees) (b : Bool) (x y : Outcome A) → (b ≡ true → Licensed n w ts x) →
    (b ≡ false → Licensed n w ts y) →
    Licensed n w ts (if b then x else y)
licensed_test n w ts true x y p q = p refl
licensed_test n w ts false x y p q = q refl

pub licensed_mapped : {A B : Type 0} (f : A → B) (n : ℕ) (w : Where) (ts : Trees) (o : Outcome A) → Licensed n w ts o → Licensed n w ts (mapped f o)
licensed_mapped f n w ts (Ok p) h = h
licensed_mapped f n w ts (Err r) h = h

fewer_outcome : {A : Type 0} (n k : ℕ) (w : Where) (ts : Trees) (o : Outcome A) → k ≤ n → Licensed n w ts o → Licensed k w ts o
fewer_outcome n k w ts (Ok p) e h = behind_fewer n k ts p.1 e h
fewer_outcome n k w ts (Err r) e h = h

-- what is licensed behind openers, in a list that stands as many levels deeper
behind_outcome : {A : Type 0} (n k : ℕ) (w v : Where) (ts mid : Trees) (o : Outcome A) → v.level ≤ w.level + n → v.limit ≡ w.limit → IsBehind n ts mid →
    Licensed k v mid o →
    Licensed (n + k) w ts o
behind_outcome n k w v ts mid (Ok p) e l b h = behind_both n k ts mid p.1 b h
behind_outcome n k w v ts mid (Err r) e l b h =
    refused_behind_openers n w.level v.level w.limit r ts mid e b (subst (λ x. IsRefusedAt v.level x r mid) l h)

bind_outcome : {A B : Type 0} (n k : ℕ) (w v : Where) (ts : Trees) (o : Outcome A) (q : A → Parser B) → v.level ≤ w.level + n → v.limit ≡ w.limit →
    Licensed n w ts o →
    ((x : A) (mid : Trees) → Licensed k v mid (q x mid)) → Licensed (n + k) w ts (and_then o q)
bind_outcome n k w v ts (Ok p) q e l h g = behind_outcome n k w v ts p.1 (q p.0 p.1) e l h (g p.0 p.1)
bind_outcome n k w v ts (Err r) q e l h g = h

-- two parts of one level
pub licensed_bind : {A B : Type 0} (w : Where) (ts : Trees) (o : Outcome A) (q : A → Parser B) → Licensed 0 w ts o →
    ((x : A) (mid : Trees) → Licensed 0 w mid (q x mid)) →
    Licensed 0 w ts (and_then o q)
licensed_bind w ts o q h g = bind_outcome 0 0 w w ts o q (omega arith) refl h g

-- an opener, and a part one level deeper
pub licensed_bind_deeper : {A B : Type 0} (w : Where) (ts : Trees) (o : Outcome A) (q : A → Parser B) → Licensed 1 w ts o →
    ((x : A) (mid : Trees) → Licensed 0 (deeper w) mid (q x mid)) →
    Licensed 1 w ts (and_then o q)
licensed_bind_deeper w ts o q h g = bind_outcome 1 0 w (deeper w) ts o q (omega arith) refl h g

-- ---- readers at other numbers and levels

pub licensed_any : {A : Type 0} {w : Where} {p : Parser A} → Licenses 1 w p → Licenses 0 w p
licensed_any {A} {w} {p} h = record { at = λ ts. fewer_outcome 1 0 w ts (p ts) (omega arith) (h.at ts) }

raised : {A : Type 0} (n : ℕ) (w : Where) (ts : Trees) (o : Outcome A) → Licensed n w ts o → Licensed n (deeper w) ts o
raised n w ts (Ok p) h = h
raised n w ts (Err r) h = record { place = h.place; deep = λ k. omega (arith, h.deep k) }

-- what holds at a level holds one level deeper
pub licensed_raised : {A : Type 0} {n : ℕ} {w : Where} {p : Parser A} → Licenses n w p → Licenses n (deeper w) p
licensed_raised {A} {n} {w} {p} h = record { at = λ ts. raised n w ts (p ts) (h.at ts) }

-- ---- one reader after another

pub licensed_gives : {A B : Type 0} {n : ℕ} {w : Where} {p : Parser A} → Licenses n w p → (f : A → B) → Licenses n w (p gives f)
licensed_gives {A} {B} {n} {w} {p} h f = record { at = λ ts. licensed_mapped f n w ts (p ts) (h.at ts) }

pub licensed_and : {A B : Type 0} {w : Where} {p : Parser A} {q : Parser B} → Licenses 0 w p → Licenses 0 w q → Licenses 0 w (p and q)
licensed_and {A} {B} {w} {p} {q} h g =
    record { at = λ ts. licensed_bind w ts (p ts) (λ a mid. mapped (pair a) (q mid)) (h.at ts) (λ a mid. licensed_mapped (pair a) 0 w mid (q mid) (g.at mid)) }

pub licensed_and_deeper : {A B : Type 0} {w : Where} {p : Parser A} {q : Parser B} → Licenses 1 w p → Licenses 0 (deeper w) q → Licenses 1 w (p and q)
licensed_and_deeper {A} {B} {w} {p} {q} h g =
    record {
      at = λ ts.
          licensed_bind_deeper w ts (p ts) (λ a mid. mapped (pair a) (q mid)) (h.at ts)
          (λ a mid. licensed_mapped (pair a) 0 (deeper w) mid (q mid) (g.at mid));
    }

pub licensed_next : {B : Type 0} {w : Where} {p : Parser (Unit {0})} {q : Parser B} → Licenses 0 w p → Licenses 0 w q → Licenses 0 w (p next q)
licensed_next {B} {w} {p} {q} h g = record { at = λ ts. licensed_bind w ts (p ts) (λ _. q) (h.at ts) (λ _. g.at) }

pub licensed_next_deeper : {B : Type 0} {w : Where} {p : Parser (Unit {0})} {q : Parser B} → Licenses 1 w p → Licenses 0 (deeper w) q → Licenses 1 w (p next q)
licensed_next_deeper {B} {w} {p} {q} h g = record { at = λ ts. licensed_bind_deeper w ts (p ts) (λ _. q) (h.at ts) (λ _. g.at) }

pub licensed_till : {A : Type 0} {w : Where} {p : Parser A} {q : Parser (Unit {0})} → Licenses 0 w p → Licenses 0 w q → Licenses 0 w (p till q)
licensed_till {A} {w} {p} {q} h g =
    record {
      at = λ ts. licensed_bind w ts (p ts) (λ a mid. mapped (const_at a) (q mid)) (h.at ts)
          (λ a mid. licensed_mapped (const_at a) 0 w mid (q mid) (g.at mid));
    }

-- one of two readers, by a test
pub licensed_either : {A : Type 0} {n : ℕ} {w : Where} {p q : Parser A} (test : Trees → Bool) → Licenses n w p → Licenses n w q →
    Licenses n w (λ ts. if test ts then p ts else q ts)
licensed_either {A} {n} {w} {p} {q} test h g = record { at = λ ts. licensed_test n w ts (test ts) (p ts) (q ts) (λ _. h.at ts) (λ _. g.at ts) }

-- nothing is read
pub licensed_nothing : {A : Type 0} {w : Where} (x : A) → Licenses 0 w (λ ts. Ok (pair x ts))
licensed_nothing x = record { at = behind_itself }

-- ---- tokens

pub refused_outcome : (A : Type 0) (n : ℕ) (w : Where) (ts : Trees) → Licensed {A = A} n w ts (refuse w ts)
refused_outcome A n w ts = syntax_in_front w.level w.limit ts

pub licensed_refuse : {A : Type 0} {w : Where} → Licenses {A = A} 0 w (refuse w)
licensed_refuse {A} {w} = record { at = refused_outcome A 0 w }

licensed_level : {A : Type 0} (n : ℕ) (w : Where) (ts : Trees) (read : Outcome A) → Licensed n w ts read →
    Licensed n w ts (if_level w (front_span ts w.limit) read)
licensed_level {A} n w ts read h =
    licensed_test n w ts (nat_lt deepest w.level) (too_deep_at (front_span ts w.limit)) read
    (λ e. deep_in_front w.level w.limit ts (ltb-true deepest w.level e)) (λ _. h)

-- what is found in front is one token
abbrev Finds : {A : Type 0} → (Trees → Option (A × Trees)) → Type 0
Finds {A} first = (ts : Trees) (x : A) (others : Trees) → first ts ≡ Some (x, others) → IsBehind 0 ts others

found_outcome : {A : Type 0} (first : Trees → Option (A × Trees)) → Finds first → (w : Where) (ts : Trees) (found : Option (A × Trees)) → first ts ≡ found →
    Licensed 0 w ts (if_found w ts found)
found_outcome {A} first is w ts None e = refused_outcome A 0 w ts
found_outcome {A} first is w ts (Some r) e = licensed_level 0 w ts (Ok r) (is ts r.0 r.1 e)

licensed_found : {A : Type 0} (first : Trees → Option (A × Trees)) → Finds first → (w : Where) → Licenses 0 w (read_found first w)
licensed_found first is w = record { at = λ ts. found_outcome first is w ts (first ts) refl }

-- one token, which opens or not
behind_token : (k : t.the_data) (rest : Trees) → IsBehind (opens (entry.Token k)) (token k rest) rest
behind_token k rest = record { front = entry.Token k ∷ []; splits = refl; opened = omega arith }

behind_one : (k : t.the_data) (rest : Trees) → IsBehind 0 (token k rest) rest
behind_one k rest = record { front = entry.Token k ∷ []; splits = refl; opened = omega arith }

rest_is : (k : t.the_data) (rest others : Trees) → rest ≡ others → IsBehind 0 (token k rest) others
rest_is k rest others e = subst (λ us. IsBehind 0 (token k rest) us) e (behind_one k rest)

finds_ident : Finds first_ident
finds_ident (token (t.Ident k) rest) x others e = let f : pair k rest ≡ pair x others = cc in rest_is (t.Ident k) rest others (ap (λ v. v.1) f)
finds_ident _ x others e = absurd (cc)

finds_lifetime : Finds first_lifetime
finds_lifetime (token (t.Lifetime k) rest) x others e = let f : pair k rest ≡ pair x others = cc in rest_is (t.Lifetime k) rest others (ap (λ v. v.1) f)
finds_lifetime _ x others e = absurd (cc)

finds_literal : Finds first_literal
finds_literal (token (t.Literal k) rest) x others e = let f : pair k rest ≡ pair x others = cc in rest_is (t.Literal k) rest others (ap (λ v. v.1) f)
finds_literal _ x others e = absurd (cc)

if_some : {A : Type 0} (b : Bool) (x y : A) → (if b then Some x else None) ≡ Some y → x ≡ y
if_some true x y e = cc
if_some false x y e = absurd (cc)

finds_such : (test : Ident → Bool) → Finds (λ ts. if_ident test (first_ident ts))
finds_such test (token (t.Ident k) rest) x others e = rest_is (t.Ident k) rest others (ap (λ v. v.1) (if_some (test k) (pair k rest) (pair x others) e))
finds_such test _ x others e = absurd (cc)

pub licensed_ident : (test : Ident → Bool) (w : Where) → Licenses 0 w (read_ident test w)
licensed_ident test w = licensed_found (λ ts. if_ident test (first_ident ts)) (finds_such test) w

pub licensed_any_ident : (w : Where) → Licenses 0 w (read_any w)
licensed_any_ident w = licensed_found first_ident finds_ident w

pub licensed_lifetime : (w : Where) → Licenses 0 w (read_lifetime w)
licensed_lifetime w = licensed_found first_lifetime finds_lifetime w

pub licensed_literal : (w : Where) → Licenses 0 w (read_literal w)
licensed_literal w = licensed_found first_literal finds_literal w

-- ---- tokens that are known by a test

licensed_seen : (n : ℕ) (test : Trees → Bool) (after : Trees → Trees) → ((ts : Trees) → test ts ≡ true → IsBehind n ts (after ts)) → (w : Where) →
    Licenses n w (read_seen test after w)
licensed_seen n test after is w =
    record {
      at = λ ts.
          licensed_test n w ts (test ts) (if_level w (front_span ts w.limit) (Ok (tt, after ts))) (refuse w ts)
          (λ e. licensed_level n w ts (Ok (tt, after ts)) (is ts e)) (λ _. refused_outcome (Unit {0}) n w ts);
    }

-- behind the first tree
group_behind : (d : Delim) (from : Span) (inside : Trees) (upto : Span) (rest : Trees) → IsBehind 1 (group d from inside upto rest) rest
group_behind d from inside upto rest =
    let open_at = entry.Open d from (length (flatten inside) + 1) in
    record {
      front = open_at ∷ (flatten inside ++ entry.Close d upto ∷ []);
      splits = ap (λ l. open_at ∷ l) (sym (append_assoc (flatten inside) (entry.Close d upto ∷ []) (flatten rest)));
      opened = omega arith;
    }

tail_behind : (ts : Trees) → IsBehind 0 ts (tail ts)
tail_behind no_trees = behind_itself no_trees
tail_behind (token k rest) = behind_one k rest
tail_behind (group d from inside upto rest) = behind_fewer 1 0 (group d from inside upto rest) rest (omega arith) (group_behind d from inside upto rest)

pub licensed_punct : (c : ℕ) (w : Where) → Licenses 0 w (read_punct c w)
licensed_punct c = licensed_seen 0 (sees c) tail (λ ts _. tail_behind ts)

pub licensed_word : (word : List ℕ) (w : Where) → Licenses 0 w (read_word word w)
licensed_word word = licensed_seen 0 (sees_word word) tail (λ ts _. tail_behind ts)

pub licensed_lone : (c : ℕ) (stops : List ℕ) (w : Where) → Licenses 0 w (read_lone c stops w)
licensed_lone c stops = licensed_seen 0 (sees_lone c stops) tail (λ ts _. tail_behind ts)

pub licensed_pair : (a b : ℕ) (w : Where) → Licenses 0 w (read_pair a b w)
licensed_pair a b =
    licensed_seen 0 (sees_pair a b) (λ ts. tail (tail ts))
    (λ ts _. behind_both 0 0 ts (tail ts) (tail (tail ts)) (tail_behind ts) (tail_behind (tail ts)))

-- a punct that opens
one_at_least : (b : Bool) → b ≡ true → 1 ≤ (if b then 1 else 0)
one_at_least true e = omega arith
one_at_least false e = absurd (cc)

opener_behind : (c : ℕ) → one_of (60 ∷ 38 ∷ 42 ∷ []) c ≡ true → (ts : Trees) → sees c ts ≡ true → IsBehind 1 ts (tail ts)
opener_behind c is (token (t.Punct p) rest) e =
    behind_fewer (opens (entry.Token (t.Punct p))) 1 (token (t.Punct p) rest) rest
    (one_at_least (one_of (60 ∷ 38 ∷ 42 ∷ []) p.ch) (ap (one_of (60 ∷ 38 ∷ 42 ∷ [])) (eqb-true p.ch c e) ∙ is)) (behind_token (t.Punct p) rest)
opener_behind c is _ e = absurd (cc)

pub licensed_opener : (c : ℕ) → one_of (60 ∷ 38 ∷ 42 ∷ []) c ≡ true → (w : Where) → Licenses 1 w (read_punct c w)
licensed_opener c is = licensed_seen 1 (sees c) tail (opener_behind c is)

-- a word that opens
abbrev pub is_opening_word : Ident → Bool
is_opening_word i = is_word (codes "fn") i || (is_word (codes "dyn") i || is_word (codes "impl") i)

word_behind : (word : List ℕ) → ((i : Ident) → is_word word i ≡ true → is_opening_word i ≡ true) → (ts : Trees) → sees_word word ts ≡ true →
    IsBehind 1 ts (tail ts)
word_behind word is (token (t.Ident i) rest) e =
    behind_fewer (opens (entry.Token (t.Ident i))) 1 (token (t.Ident i) rest) rest (one_at_least (is_opening_word i) (is i e)) (behind_token (t.Ident i) rest)
word_behind word is _ e = absurd (cc)

or_first : (a b : Bool) → a ≡ true → (a || b) ≡ true
or_first true b e = refl
or_first false b e = absurd (cc)

or_second : (a b : Bool) → b ≡ true → (a || b) ≡ true
or_second true b e = refl
or_second false b e = e

fn_opens : (i : Ident) → is_word (codes "fn") i ≡ true → is_opening_word i ≡ true
fn_opens i e = or_first (is_word (codes "fn") i) (is_word (codes "dyn") i || is_word (codes "impl") i) e

dyn_opens : (i : Ident) → is_word (codes "dyn") i ≡ true → is_opening_word i ≡ true
dyn_opens i e =
    or_second (is_word (codes "fn") i) (is_word (codes "dyn") i || is_word (codes "impl") i) (or_first (is_word (codes "dyn") i) (is_word (codes "impl") i) e)

impl_opens : (i : Ident) → is_word (codes "impl") i ≡ true → is_opening_word i ≡ true
impl_opens i e =
    or_second (is_word (codes "fn") i) (is_word (codes "dyn") i || is_word (codes "impl") i) (or_second (is_word (codes "dyn") i) (is_word (codes "impl") i) e)

pub licensed_fn : (w : Where) → Licenses 1 w (read_word (codes "fn") w)
licensed_fn = licensed_seen 1 (sees_word (codes "fn")) tail (word_behind (codes "fn") fn_opens)

pub licensed_dyn : (w : Where) → Licenses 1 w (read_word (codes "dyn") w)
licensed_dyn = licensed_seen 1 (sees_word (codes "dyn")) tail (word_behind (codes "dyn") dyn_opens)

pub licensed_impl : (w : Where) → Licenses 1 w (read_word (codes "impl") w)
licensed_impl = licensed_seen 1 (sees_word (codes "impl")) tail (word_behind (codes "impl") impl_opens)

-- ---- groups

-- the place in a list is the place in the list around it, where the delimiter ends the inner one
place_inside : (limit : ℕ) (d : Delim) (upto : Span) (rest es : List Entry) → place_of upto.start rest ≡ place_of limit (rest ++ entry.Close d upto ∷ es)
place_inside limit d upto [] es = refl
place_inside limit d upto (entry.Token k ∷ rest) es = refl
place_inside limit d upto (entry.Open e from n ∷ rest) es = refl
place_inside limit d upto (entry.Close e to ∷ rest) es = refl

-- a refusal inside a group
refused_inside : (level limit : ℕ) (r : Refusal) (d : Delim) (from : Span) (inside : Trees) (upto : Span) (rest : Trees) →
    IsRefusedAt (level + 1) upto.start r inside → IsRefusedAt level limit r (group d from inside upto rest)
refused_inside level limit r d from inside upto rest h =
    let open_at = entry.Open d from (length (flatten inside) + 1) in
    let others = entry.Close d upto ∷ flatten rest in
    record {
      place = record {
        front = open_at ∷ h.place.front;
        rest = h.place.rest ++ others;
        splits = ap (λ l. open_at ∷ l) (ap (λ l. l ++ others) h.place.splits ∙ append_assoc h.place.front h.place.rest others);
        is = h.place.is ∙ place_inside limit d upto h.place.rest (flatten rest);
      };
      deep = λ k. omega (arith, h.deep k);
    }

-- something is left of the inside of a group
left_refused : (w : Where) (d : Delim) (from : Span) (inside : Trees) (upto : Span) (rest left : Trees) → IsBehind 0 inside left →
    IsRefusedAt w.level w.limit (syntax_by (front_span left upto.start)) (group d from inside upto rest)
left_refused w d from inside upto rest left b =
    let r = syntax_by (front_span left upto.start) in
    let level = w.level + 1 in
    refused_inside w.level w.limit r d from inside upto rest
    (refused_behind_openers 0 level level upto.start r inside left (omega arith) b (syntax_in_front level upto.start left))

module _ {A : Type 0} (w : Where) (d : Delim) (from : Span) (inside : Trees) (upto : Span) (rest : Trees) where
  ended_outcome : (x : A) (left : Trees) → IsBehind 0 inside left →
      Licensed 1 w (group d from inside upto rest) (ended (inside_at w upto.start) rest x left)
  ended_outcome x left b =
      licensed_test 1 w (group d from inside upto rest) (at_end left) (Ok (x, rest)) (refuse (inside_at w upto.start) left)
      (λ _. group_behind d from inside upto rest) (λ _. left_refused w d from inside upto rest left b)

  inside_outcome : (o : Outcome A) → Licensed 0 (inside_at w upto.start) inside o →
      Licensed 1 w (group d from inside upto rest) (and_then o (ended (inside_at w upto.start) rest))
  inside_outcome (Ok p) h = ended_outcome p.0 p.1 h
  inside_outcome (Err r) h = refused_inside w.level w.limit r d from inside upto rest h

module _ {A : Type 0} (inner : Where → Parser A) (w : Where) (h : (limit : ℕ) → Licenses 0 (inside_at w limit) (inner (inside_at w limit))) where
  opened_outcome : (d : Delim) (from : Span) (inside : Trees) (upto : Span) (rest : Trees) (same deep : Bool) → nat_lt deepest w.level ≡ deep →
      Licensed 1 w (group d from inside upto rest)
      (within_group inner w
      (if same then (if deep then Err (record { kind = TooDeep; span = from }) else Ok (inside, upto.start, rest))
      else Err (record { kind = Syntax; span = from })))
  opened_outcome d from inside upto rest true true e = deep_in_front w.level w.limit (group d from inside upto rest) (ltb-true deepest w.level e)
  opened_outcome d from inside upto rest true false e = inside_outcome w d from inside upto rest (inner (inside_at w upto.start) inside)
      ((h upto.start).at inside)
  opened_outcome d from inside upto rest false deep e = syntax_in_front w.level w.limit (group d from inside upto rest)

  group_outcome : (d : Delim) (ts : Trees) → Licensed 1 w ts (read_group d inner w ts)
  group_outcome d no_trees = syntax_in_front w.level w.limit no_trees
  group_outcome d (token k rest) = syntax_in_front w.level w.limit (token k rest)
  group_outcome d (group e from inside upto rest) = opened_outcome e from inside upto rest (same_delim e d) (nat_lt deepest w.level) refl

-- the inside of a group stands one level deeper, and the delimiter that opens it in front
pub licensed_group : {A : Type 0} (d : Delim) (inner : Where → Parser A) (w : Where) →
    ((limit : ℕ) → Licenses 0 (inside_at w limit) (inner (inside_at w limit))) →
    Licenses 1 w (read_group d inner w)
licensed_group d inner w h = record { at = group_outcome inner w h d }

-- ---- what may be missing

pub licensed_flag : {w : Where} {p : Parser (Unit {0})} (begins : Trees → Bool) → Licenses 0 w p → Licenses 0 w (read_flag begins p)
licensed_flag {w} {p} begins h =
    record {
      at = λ ts.
          licensed_test 0 w ts (begins ts) (mapped (const_at true) (p ts)) (Ok (false, ts)) (λ _. licensed_mapped (const_at true) 0 w ts (p ts) (h.at ts))
          (λ _. behind_itself ts);
    }

pub licensed_perhaps : {A : Type 0} {w : Where} {p : Parser A} (begins : Trees → Bool) → Licenses 0 w p → Licenses 0 w (read_perhaps begins p)
licensed_perhaps {A} {w} {p} begins h =
    record {
      at = λ ts.
          licensed_test 0 w ts (begins ts) (mapped some (p ts)) (Ok (None, ts)) (λ _. licensed_mapped some 0 w ts (p ts) (h.at ts)) (λ _. behind_itself ts);
    }

-- ---- trees that are not read

refused_behind_token : (level limit : ℕ) (r : Refusal) (k : t.the_data) (rest : Trees) → IsRefusedAt level limit r rest →
    IsRefusedAt level limit r (token k rest)
refused_behind_token level limit r k rest h = refused_behind_openers 0 level level limit r (token k rest) rest (omega arith) (behind_one k rest) h

refused_behind_group : (level limit : ℕ) (r : Refusal) (d : Delim) (from : Span) (inside : Trees) (upto : Span) (rest : Trees) →
    IsRefusedAt level limit r rest → IsRefusedAt level limit r (group d from inside upto rest)
refused_behind_group level limit r d from inside upto rest h =
    refused_behind_openers 1 level level limit r (group d from inside upto rest) rest (omega arith) (group_behind d from inside upto rest) h

-- the first mark that is too deep: the first of all, or one behind it
mark_by : (deep : Bool) (s span : Span) (others : Option Span) (C : Type 0) → cond deep (Some s) others ≡ Some span → (deep ≡ true → s ≡ span → C) →
    (deep ≡ false → others ≡ Some span → C) → C
mark_by true s span others C e f g = f refl (cc)
mark_by false s span others C e f g = g refl e

first_of_two : (m k : Marks) (span : Span) (C : Type 0) (found : Option Span) → first_too_deep m ≡ found → first_too_deep (m ++ k) ≡ Some span →
    (first_too_deep m ≡ Some span → C) → (first_too_deep k ≡ Some span → C) → C
first_of_two m k span C None e h f g = g (sym (deep_behind m k e) ∙ h)
first_of_two m k span C (Some s) e h f g =
    let a : Some s ≡ Some span = sym (deep_front m k s e) ∙ h in
    f (e ∙ a)

-- in trees that others may follow
pub marks_deep : (level limit : ℕ) (span : Span) (ts others : Trees) → first_too_deep (marks_of level ts) ≡ Some span →
    IsRefusedAt level limit (deep_by span) (join ts others)
marks_deep level limit span no_trees others e = absurd (cc)
marks_deep level limit span (token k rest) others e =
    let all = token k (join rest others) in
    mark_by (nat_lt deepest level) (token_span k) span (first_too_deep (marks_of level rest)) (IsRefusedAt level limit (deep_by span) all) e
    (λ deep is. subst (λ s. IsRefusedAt level limit (deep_by s) all) is (deep_in_front level limit all (ltb-true deepest level deep)))
    (λ fine h. refused_behind_token level limit (deep_by span) k (join rest others) (marks_deep level limit span rest others h))
marks_deep level limit span (group d from inside upto rest) others e =
    let inner = marks_of (level + 1) inside in
    let outer = marks_of level rest in
    let all = group d from inside upto (join rest others) in
    mark_by (nat_lt deepest level) from span (first_too_deep (inner ++ (level, upto) ∷ outer)) (IsRefusedAt level limit (deep_by span) all) e
    (λ deep is. subst (λ s. IsRefusedAt level limit (deep_by s) all) is (deep_in_front level limit all (ltb-true deepest level deep)))
    (λ fine h.
    first_of_two inner ((level, upto) ∷ outer) span (IsRefusedAt level limit (deep_by span) all) (first_too_deep inner) refl h
    (λ i.
    let there : IsRefusedAt (level + 1) upto.start (deep_by span) (join inside no_trees) = marks_deep (level + 1) upto.start span inside no_trees i in
    refused_inside level limit (deep_by span) d from inside upto (join rest others)
    (subst (λ us. IsRefusedAt (level + 1) upto.start (deep_by span) us) (join-no_trees inside) there))
    (λ i.
    let there : first_too_deep outer ≡ Some span = sym (ap (λ b. cond b (Some upto) (first_too_deep outer)) fine) ∙ i in
    refused_behind_group level limit (deep_by span) d from inside upto (join rest others) (marks_deep level limit span rest others there)))

rest_outcome : (w : Where) (ts : Trees) (found : Option Span) (s : Stream) → first_too_deep (marks_of w.level ts) ≡ found → Licensed 0 w ts (if_shallow found s)
rest_outcome w ts None s e = all_behind ts
rest_outcome w ts (Some span) s e =
    subst (λ us. IsRefusedAt w.level w.limit (deep_by span) us) (join-no_trees ts) (marks_deep w.level w.limit span ts no_trees e)

pub licensed_rest : (w : Where) → Licenses 0 w (read_rest w)
licensed_rest w = record { at = λ ts. rest_outcome w ts (first_too_deep (marks_of w.level ts)) (record { trees = ts; limit = w.limit }) refl }

-- ---- lists

module _ {A : Type 0} (w : Where) (separator : ℕ) (ends : Trees → Bool) (item : Parser A) (h : Licenses 0 w item) where
  abbrev behind_item : ℕ → List A → A → Parser (List A × Bool)
  behind_item n found x mid =
      if sees separator mid then and_then (read_punct separator w mid) (λ _ rest. list_from w separator ends item n (found ++ x ∷ []) true rest)
      else Ok (pair (found ++ x ∷ []) false, mid)

  item_outcome : (n : ℕ) (found : List A) (x : A) (mid : Trees) → ((rest : Trees) →
      Licensed 0 w rest (list_from w separator ends item n (found ++ x ∷ []) true rest)) →
      Licensed 0 w mid (behind_item n found x mid)
  item_outcome n found x mid g =
      licensed_test 0 w mid (sees separator mid) (and_then (read_punct separator w mid)
      (λ _ rest. list_from w separator ends item n (found ++ x ∷ []) true rest))
      (Ok (pair (found ++ x ∷ []) false, mid))
      (λ _.
      licensed_bind w mid (read_punct separator w mid) (λ _ rest. list_from w separator ends item n (found ++ x ∷ []) true rest)
      ((licensed_punct separator w).at mid) (λ _. g))
      (λ _. behind_itself mid)

  list_outcome : (n : ℕ) (found : List A) (t : Bool) (ts : Trees) → Licensed 0 w ts (list_from w separator ends item n found t ts)
  list_outcome zero found t ts = refused_outcome (List A × Bool) 0 w ts
  list_outcome (suc n) found t ts =
      licensed_test 0 w ts (ends ts) (Ok (pair found t, ts)) (and_then (item ts) (behind_item n found)) (λ _. behind_itself ts)
      (λ _. licensed_bind w ts (item ts) (behind_item n found) (h.at ts)
      (λ x mid. item_outcome n found x mid (λ rest. list_outcome n (found ++ x ∷ []) true rest)))

pub licensed_list : {A : Type 0} {w : Where} {item : Parser A} (separator : ℕ) (ends : Trees → Bool) → Licenses 0 w item →
    Licenses 0 w (read_list w separator ends item)
licensed_list {A} {w} {item} separator ends h = record { at = λ ts. list_outcome w separator ends item h (turns ts) [] false ts }

module _ {A : Type 0} (w : Where) (begins : Trees → Bool) (item : Parser A) (h : Licenses 0 w item) where
  repeat_outcome : (n : ℕ) (found : List A) (ts : Trees) → Licensed 0 w ts (repeat_from w begins item n found ts)
  repeat_outcome zero found ts = refused_outcome (List A) 0 w ts
  repeat_outcome (suc n) found ts =
      licensed_test 0 w ts (begins ts) (and_then (item ts) (λ x mid. repeat_from w begins item n (found ++ x ∷ []) mid)) (Ok (found, ts))
      (λ _.
      licensed_bind w ts (item ts) (λ x mid. repeat_from w begins item n (found ++ x ∷ []) mid) (h.at ts) (λ x mid. repeat_outcome n (found ++ x ∷ []) mid))
      (λ _. behind_itself ts)

pub licensed_repeated : {A : Type 0} {w : Where} {item : Parser A} (begins : Trees → Bool) (found : List A) → Licenses 0 w item →
    Licenses 0 w (read_repeated w begins item found)
licensed_repeated {A} {w} {item} begins found h = record { at = λ ts. repeat_outcome w begins item h (turns ts) found ts }

pub licensed_chain : {A : Type 0} {w : Where} {separator : Parser (Unit {0})} {item : Parser A} (begins : Trees → Bool) → Licenses 0 w separator →
    Licenses 0 w item →
    Licenses 0 w (read_chain w separator begins item)
licensed_chain {A} {w} {separator} {item} begins g h =
    record {
      at = λ ts.
          licensed_bind w ts (item ts) (λ x mid. read_repeated w begins (separator next item) (x ∷ []) mid) (h.at ts)
          (λ x. (licensed_repeated begins (x ∷ []) (licensed_next g h)).at);
    }

-- ---- ranges

pub licensed_ranged : {A : Type 0} {w : Where} {p : Parser A} → Licenses 0 w p → Licenses 0 w (ranged p)
licensed_ranged {A} {w} {p} h =
    record { at = λ ts. licensed_bind w ts (p ts) (λ a others. Ok (pair a (range_between ts others), others)) (h.at ts) (λ a others. behind_itself others) }
