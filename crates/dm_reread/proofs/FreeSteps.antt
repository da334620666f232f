-- Readers that answer the same wherever their list ends: the parts that readers are made of.
use Rattle.std.proofs.Common.{◌≡◌, ℕ, zero, suc, Bool, true, false, if◌then◌else◌, nat_lt, List, [], ◌∷◌, ◌++◌, Option, Some, None, Result, Ok, Err, refl, subst}
use Rattle.dm_stream.specs.declared.tokens.Span.{Span}
use Rattle.dm_stream.specs.declared.tokens.Delim.{Delim}
use Rattle.dm_stream.specs.declared.tokens.Ident.{Ident}
use Rattle.dm_stream.specs.declared.error.Refusal.{Refusal}
use Rattle.dm_stream.specs.Trees.{Trees, no_trees, token, group}
use Rattle.dm_stream.specs.Cursors.{front_span, first_ident, first_lifetime, first_literal}
use Rattle.dm_ast.specs.Spelling.{Where, deepest, sees, sees_pair, sees_lone, sees_word}
use Rattle.dm_ast.specs.Readers.{Outcome, Parser, too_deep_at, refuse, and_then, mapped, ◌and◌, ◌next◌, ◌till◌, ◌gives◌, if_found, read_found, if_ident, read_ident, read_any, read_lifetime, read_literal, if_seen, read_seen, tail, read_punct, read_word, read_pair, read_lone, open_group, within_group, read_group, read_flag, read_perhaps, turns, list_from, read_list, repeat_from, read_repeated, read_chain, range_between, ranged}
use Rattle.dm_read.proofs.Deciding.{pair, const_at}
use Rattle.dm_reread.specs.TypeLeaves.{answer_of}

-- two readers that answer the same: they read the same, or both refuse
pub record Same {A : Type 0} (p q : Parser A) : Type 0 where
  pub at : (ts : Trees) → answer_of (p ts) ≡ answer_of (q ts)

-- a place at a level, in a list that ends at this byte
abbrev pub ending : ℕ → ℕ → Where
ending level limit = record { level = level; limit = limit }

-- a reader that answers the same at both ends, at each level
abbrev pub Free : {A : Type 0} → (Where → Parser A) → Type 0
Free p = (l m n : ℕ) → Same (p (ending l m)) (p (ending l n))

-- ---- outcomes

answer_then : {A B : Type 0} (o k : Outcome A) (f g : A → Parser B) → answer_of o ≡ answer_of k →
    ((x : A) (mid : Trees) → answer_of (f x mid) ≡ answer_of (g x mid)) →
    answer_of (and_then o f) ≡ answer_of (and_then k g)
answer_then (Ok a) (Ok b) f g e h =
    let s : a ≡ b = cc in
    subst (λ c. answer_of (f a.0 a.1) ≡ answer_of (g c.0 c.1)) s (h a.0 a.1)
answer_then (Ok a) (Err s) f g e h = absurd (cc)
answer_then (Err r) (Ok b) f g e h = absurd (cc)
answer_then (Err r) (Err s) f g e h = refl

pub answer_mapped : {A B : Type 0} (f : A → B) (o k : Outcome A) → answer_of o ≡ answer_of k →
    answer_of (mapped f o) ≡ answer_of (mapped f k)
answer_mapped f (Ok a) (Ok b) e =
    let s : a ≡ b = cc in
    subst (λ c. answer_of (mapped f (Ok a)) ≡ answer_of (mapped f (Ok c))) s refl
answer_mapped f (Ok a) (Err s) e = absurd (cc)
answer_mapped f (Err r) (Ok b) e = absurd (cc)
answer_mapped f (Err r) (Err s) e = refl

answer_test : {A : Type 0} (b : Bool) (x y u v : Outcome A) → answer_of x ≡ answer_of u → answer_of y ≡ answer_of v →
    answer_of (if b then x else y) ≡ answer_of (if b then u else v)
answer_test true x y u v e f = e
answer_test false x y u v e f = f

-- too deep at either place, or not
answer_level : {A : Type 0} (deep : Bool) (s t : Span) (o : Outcome A) →
    answer_of (if deep then too_deep_at s else o) ≡ answer_of (if deep then too_deep_at t else o)
answer_level true s t o = refl
answer_level false s t o = refl

-- ---- one reader after another

pub same_itself : {A : Type 0} {p : Parser A} → Same p p
same_itself = record { at = λ ts. refl }

pub same_refused : {A : Type 0} (w v : Where) → Same {A = A} (refuse w) (refuse v)
same_refused w v = record { at = λ ts. refl }

pub same_bind : {A B : Type 0} {p q : Parser A} {f g : A → Parser B} → Same p q → ((x : A) → Same (f x) (g x)) →
    Same (λ ts. and_then (p ts) f) (λ ts. and_then (q ts) g)
same_bind {A} {B} {p} {q} {f} {g} h k = record { at = λ ts. answer_then (p ts) (q ts) f g (h.at ts) (λ x mid. (k x).at mid) }

pub same_gives : {A B : Type 0} {p q : Parser A} → Same p q → (f : A → B) → Same (p gives f) (q gives f)
same_gives {A} {B} {p} {q} h f = record { at = λ ts. answer_mapped f (p ts) (q ts) (h.at ts) }

pub same_and : {A B : Type 0} {p q : Parser A} {r s : Parser B} → Same p q → Same r s → Same (p and r) (q and s)
same_and {A} {B} {p} {q} {r} {s} h k = same_bind h (λ a. same_gives k (pair a))

pub same_next : {B : Type 0} {p q : Parser (Unit {0})} {r s : Parser B} → Same p q → Same r s → Same (p next r) (q next s)
same_next h k = same_bind h (λ _. k)

pub same_till : {A : Type 0} {p q : Parser A} {r s : Parser (Unit {0})} → Same p q → Same r s → Same (p till r) (q till s)
same_till h k = same_bind h (λ a. same_gives k (const_at a))

-- one of two readers, by a test
pub same_either : {A : Type 0} {p q r s : Parser A} (test : Trees → Bool) → Same p q → Same r s →
    Same (λ ts. if test ts then p ts else r ts) (λ ts. if test ts then q ts else s ts)
same_either {A} {p} {q} {r} {s} test h k = record { at = λ ts. answer_test (test ts) (p ts) (r ts) (q ts) (s ts) (h.at ts) (k.at ts) }

-- ---- tokens

answer_found : {A : Type 0} (l m n : ℕ) (ts : Trees) (found : Option (A × Trees)) →
    answer_of (if_found (ending l m) ts found) ≡ answer_of (if_found (ending l n) ts found)
answer_found l m n ts None = refl
answer_found l m n ts (Some r) = answer_level (nat_lt deepest l) (front_span ts m) (front_span ts n) (Ok r)

free_found : {A : Type 0} (first : Trees → Option (A × Trees)) → Free (read_found first)
free_found first l m n = record { at = λ ts. answer_found l m n ts (first ts) }

pub free_ident : (test : Ident → Bool) → Free (read_ident test)
free_ident test = free_found (λ ts. if_ident test (first_ident ts))

pub free_any : Free read_any
free_any = free_found first_ident

pub free_lifetime : Free read_lifetime
free_lifetime = free_found first_lifetime

pub free_literal : Free read_literal
free_literal = free_found first_literal

answer_seen : (seen : Bool) (l m n : ℕ) (ts rest : Trees) →
    answer_of (if_seen seen (ending l m) ts rest) ≡ answer_of (if_seen seen (ending l n) ts rest)
answer_seen true l m n ts rest = answer_level (nat_lt deepest l) (front_span ts m) (front_span ts n) (Ok (tt, rest))
answer_seen false l m n ts rest = refl

free_seen : (test : Trees → Bool) (after : Trees → Trees) → Free (read_seen test after)
free_seen test after l m n = record { at = λ ts. answer_seen (test ts) l m n ts (after ts) }

pub free_punct : (c : ℕ) → Free (read_punct c)
free_punct c = free_seen (sees c) tail

pub free_word : (word : List ℕ) → Free (read_word word)
free_word word = free_seen (sees_word word) tail

pub free_pair : (a b : ℕ) → Free (read_pair a b)
free_pair a b = free_seen (sees_pair a b) (λ ts. tail (tail ts))

pub free_lone : (c : ℕ) (stops : List ℕ) → Free (read_lone c stops)
free_lone c stops = free_seen (sees_lone c stops) tail

-- ---- groups: the inside ends where the delimiter stands, whatever is read in it

answer_within : {A : Type 0} (inner : Where → Parser A) (l m n : ℕ) (o : Result (Trees × ℕ × Trees) Refusal) →
    answer_of (within_group inner (ending l m) o) ≡ answer_of (within_group inner (ending l n) o)
answer_within inner l m n (Ok g) = refl
answer_within inner l m n (Err r) = refl

answer_group : {A : Type 0} (d : Delim) (inner : Where → Parser A) (l m n : ℕ) (ts : Trees) →
    answer_of (read_group d inner (ending l m) ts) ≡ answer_of (read_group d inner (ending l n) ts)
answer_group d inner l m n no_trees = refl
answer_group d inner l m n (token k rest) = refl
answer_group d inner l m n (group e from inside upto rest) =
    answer_within inner l m n (open_group d (ending l m) (group e from inside upto rest))

pub free_group : {A : Type 0} (d : Delim) (inner : Where → Parser A) → Free (read_group d inner)
free_group d inner l m n = record { at = λ ts. answer_group d inner l m n ts }

-- ---- what may be missing

pub same_flag : {p q : Parser (Unit {0})} (begins : Trees → Bool) → Same p q → Same (read_flag begins p) (read_flag begins q)
same_flag begins h = same_either begins (same_gives h (λ _. true)) same_itself

pub same_perhaps : {A : Type 0} {p q : Parser A} (begins : Trees → Bool) → Same p q → Same (read_perhaps begins p) (read_perhaps begins q)
same_perhaps begins h = same_either begins (same_gives h (λ a. Some a)) same_itself

-- ---- lists

module _ {A : Type 0} (l m n separator : ℕ) (ends : Trees → Bool) (p q : Parser A) (h : Same p q) where
  same_turns : (k : ℕ) (found : List A) (trailing : Bool) →
      Same (list_from (ending l m) separator ends p k found trailing) (list_from (ending l n) separator ends q k found trailing)
  same_turns zero found trailing = same_refused (ending l m) (ending l n)
  same_turns (suc k) found trailing =
      same_either ends same_itself
      (same_bind h (λ x.
      same_either (sees separator) (same_bind (free_punct separator l m n) (λ _. same_turns k (found ++ x ∷ []) true)) same_itself))

pub same_list : {A : Type 0} {p q : Parser A} (l m n separator : ℕ) (ends : Trees → Bool) → Same p q →
    Same (read_list (ending l m) separator ends p) (read_list (ending l n) separator ends q)
same_list {A} {p} {q} l m n separator ends h = record { at = λ ts. (same_turns l m n separator ends p q h (turns ts) [] false).at ts }

module _ {A : Type 0} (w v : Where) (begins : Trees → Bool) (p q : Parser A) (h : Same p q) where
  same_repeats : (k : ℕ) (found : List A) → Same (repeat_from w begins p k found) (repeat_from v begins q k found)
  same_repeats zero found = same_refused w v
  same_repeats (suc k) found = same_either begins (same_bind h (λ x. same_repeats k (found ++ x ∷ []))) same_itself

pub same_repeated : {A : Type 0} {p q : Parser A} (w v : Where) (begins : Trees → Bool) (found : List A) → Same p q →
    Same (read_repeated w begins p found) (read_repeated v begins q found)
same_repeated {A} {p} {q} w v begins found h = record { at = λ ts. (same_repeats w v begins p q h (turns ts) found).at ts }

pub same_chain : {A : Type 0} {p q : Parser A} {r s : Parser (Unit {0})} (w v : Where) (begins : Trees → Bool) → Same r s → Same p q →
    Same (read_chain w r begins p) (read_chain v s begins q)
same_chain w v begins k h = same_bind h (λ x. same_repeated w v begins (x ∷ []) (same_next k h))

-- ---- ranges, which are told by the tokens alone

abbrev with_range : {A : Type 0} → Trees → A → Parser (A × Span)
with_range ts a others = Ok (pair a (range_between ts others), others)

pub same_ranged : {A : Type 0} {p q : Parser A} → Same p q → Same (ranged p) (ranged q)
same_ranged {A} {p} {q} h = record { at = λ ts. answer_then (p ts) (q ts) (with_range ts) (with_range ts) (h.at ts) (λ a others. refl) }
