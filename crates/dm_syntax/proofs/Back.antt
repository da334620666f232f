-- What is read and written again has the tokens that were read, ranges aside, and spacing aside outside of the parts that are not read.
use Rattle.std.proofs.Common.{◌≡◌, Some, ℕ, zero, suc, ◌+◌, Bool, true, false, List, [], ◌∷◌, ◌++◌, map, refl, sym, ap, ap₂, ◌∙◌, subst, append_assoc, append-nil, arith}
use Rattle.std.proofs.lemmas.List.{map-append}
use Rattle.std.specs.Prelude.{if◌then◌else◌}
use Rattle.dm_stream.specs.declared.tokens.Span.{Span}
use Rattle.dm_stream.specs.declared.tokens.Delim.{Delim}
use Rattle.dm_stream.specs.declared.tokens.Punct.{Punct}
use Rattle.dm_stream.specs.declared.tokens.Spacing.TheVariants.{Alone}
use Rattle.dm_stream.specs.declared.tokens.Token.TheVariants as t
use Rattle.dm_stream.specs.Trees.{Trees, no_trees, token, group, join}
use Rattle.dm_stream.specs.Cursors.{split_trees}
use Rattle.dm_ast.specs.declared.plain.Opaque.{Opaque}
use Rattle.dm_ast.specs.Spelling.{at_end, Where, Marks, Spelling, TokenAt, PairAt, GroupAt, keyword, AllAt}
use Rattle.dm_ast.specs.TypeTokens as spell
use Rattle.dm_ast.specs.Runs.{unjoined, last_alone, cut_run, run}
use Rattle.dm_type_eq.specs.BareTokens.{Bare, bare, bare_name, bare_lifetime, bare_literal, bare_punct, opening, closing, tokens_of, unspaced, spelled_of}
use Rattle.dm_type_eq.proofs.SameTokens.{tokens_join}
use Rattle.dm_syntax.specs.Unread.{Part, whole, cut}
use Rattle.dm_syntax.proofs.Walked.{IsWalked}
use Rattle.dm_syntax.specs.WrittenBack.{Gives, RespacedAround, nothing, same, alone, stands, cut_off}

-- ---- the relation of tokens

moved : {ps qs : List Part} {a b c d : List Bare} → ps ≡ qs → a ≡ c → b ≡ d → RespacedAround ps a b → RespacedAround qs c d
moved {qs = qs} {a = a} {b = b} {c = c} {d = d} e f g h =
    subst (λ l. RespacedAround qs c l) g (subst (λ l. RespacedAround qs l b) f (subst (λ l. RespacedAround l a b) e h))

same_append : {ps qs : List Part} {a b c d : List Bare} → RespacedAround ps a b → RespacedAround qs c d → RespacedAround (ps ++ qs) (a ++ c) (b ++ d)
same_append nothing k = k
same_append (same x h) k = same x (same_append h k)
same_append (alone x h) k = alone x (same_append h k)
same_append {c = c} {d = d} (stands {read = r} {written = v} p h) k =
    moved refl (sym (append_assoc (tokens_of p) r c)) (sym (append_assoc (tokens_of p) v d)) (stands p (same_append h k))
same_append {c = c} {d = d} (cut_off {read = r} {written = v} p h) k =
    moved refl (sym (append_assoc (tokens_of p) r c)) (sym (append_assoc (tokens_of (last_alone p)) v d)) (cut_off p (same_append h k))

-- a part alone
same_part : (p : Trees) → RespacedAround (whole p ∷ []) (tokens_of p) (tokens_of p)
same_part p = moved refl (append-nil (tokens_of p)) (append-nil (tokens_of p)) (stands p nothing)

-- ---- the tokens in front of the others are those that are written, but for these parts

pub record Back (ps : List Part) (a ts o : Trees) : Type 0 where
  pub read : List Bare
  pub front : tokens_of ts ≡ read ++ tokens_of o
  pub same : RespacedAround ps read (tokens_of a)

pub back_join : {ps qs : List Part} (a b ts mid o : Trees) → Back ps a ts mid → Back qs b mid o → Back (ps ++ qs) (join a b) ts o
back_join a b ts mid o e f =
    record {
      read = e.read ++ f.read;
      front = e.front ∙ ap (λ l. e.read ++ l) f.front ∙ sym (append_assoc e.read f.read (tokens_of o));
      same = moved refl refl (sym (tokens_join a b)) (same_append e.same f.same);
    }

pub back_none : (ts o : Trees) → ts ≡ o → Back [] no_trees ts o
back_none ts o e = record { read = []; front = ap tokens_of e; same = nothing }

-- ---- tokens

back_same : (k l : t.the_data) (ts o : Trees) → ts ≡ token k o → bare k ≡ bare l → Back [] (spell.one l) ts o
back_same k l ts o e f = record { read = bare k ∷ []; front = ap tokens_of e; same = moved refl refl (ap (λ x. x ∷ []) f) (same (bare k) nothing) }

back_alone : (k l : t.the_data) (ts o : Trees) → ts ≡ token k o → unspaced (bare k) ≡ bare l → Back [] (spell.one l) ts o
back_alone k l ts o e f = record { read = bare k ∷ []; front = ap tokens_of e; same = moved refl refl (ap (λ x. x ∷ []) f) (alone (bare k) nothing) }

pub back_token : (w : Where) (k : t.the_data) (ts o : Trees) (m : Marks) → TokenAt w k ts o m → Back [] (spell.one k) ts o
back_token w k ts o m s = back_same k k ts o s.spelled refl

back_one : (r : Span) (c : ℕ) (p : Punct) (ts o : Trees) → p.ch ≡ c → ts ≡ token (t.Punct p) o → Back [] (spell.punct c r) ts o
back_one r c p ts o e q = back_alone (t.Punct p) (t.Punct record { ch = c; spacing = Alone; span = r }) ts o q (ap (λ x. bare_punct x Alone) e)

-- the first stays joint
pub back_pair : (r : Span) (w : Where) (a b : ℕ) (ts o : Trees) (m : Marks) → PairAt w a b ts o m → Back [] (spell.joint a b r) ts o
back_pair r w a b ts o m s =
    record {
      read = bare (t.Punct s.first) ∷ bare (t.Punct s.second) ∷ [];
      front = ap tokens_of s.spelled;
      same =
          moved refl refl (ap₂ (λ x y. x ∷ y ∷ []) (ap₂ (λ x y. bare_punct x y) s.is_first s.is_joint) (ap (λ x. bare_punct x Alone) s.is_second))
          (same (bare (t.Punct s.first)) (alone (bare (t.Punct s.second)) nothing));
    }

pub back_word : (r : Span) (w : Where) (word : List ℕ) (ts o : Trees) (m : Marks) → keyword w word ts o m → Back [] (spell.word word r) ts o
back_word r w word ts o m s =
    back_same (t.Ident record { name = word; raw = false; span = s.range }) (t.Ident record { name = word; raw = false; span = r }) ts o s.there.spelled refl

-- ---- groups, and what is not read

pub back_group : {ps : List Part} (w : Where) (d : Delim) (a : Trees) (Inside : Where → Spelling) (ts o : Trees) (m : Marks) → GroupAt w d Inside ts o m →
    ((v : Where) (i : Trees) (k : Marks) → Inside v i no_trees k → Back ps a i no_trees) → Back ps (spell.grouped d a) ts o
back_group {ps = ps} w d a Inside ts o m s h =
    let inner = h (record { level = w.level + 1; limit = s.closer.start }) s.inside s.inner_marks s.whole in
    record {
      read = opening d ∷ (inner.read ++ closing d ∷ []);
      front =
          ap tokens_of s.spelled ∙ ap (λ l. opening d ∷ (l ++ closing d ∷ tokens_of o)) (inner.front ∙ append-nil inner.read) ∙
          ap (λ l. opening d ∷ l) (sym (append_assoc inner.read (closing d ∷ []) (tokens_of o)));
      same = same (opening d) (moved (append-nil ps) refl refl (same_append inner.same (same (closing d) nothing)));
    }

back_all : (w : Where) (all ts o : Trees) (m : Marks) → AllAt w all ts o m → Back (whole all ∷ []) all ts o
back_all w all ts o m s =
    record {
      read = tokens_of all;
      front = ap tokens_of s.spelled ∙ sym (append-nil (tokens_of all)) ∙ ap (λ x. tokens_of all ++ tokens_of x) (sym s.none_left);
      same = same_part all;
    }

-- ---- discriminants

-- the first trees and those behind them are all
split_joins : (n : ℕ) (ts front o : Trees) → split_trees n ts ≡ Some (front, o) → ts ≡ join front o
split_joins zero ts front o e = grind arith
split_joins (suc n) no_trees front o e = absurd (cc)
split_joins (suc n) (token k rest) front o e = grind (arith, split_joins n rest)
split_joins (suc n) (group d from inside upto rest) front o e = grind (arith, split_joins n rest)

-- by whether a run stands there
run_joins : (ts front o : Trees) → cut_run ts ≡ Some (front, o) → ts ≡ join front o
run_joins ts front o e = grind (arith, split_joins)

pub back_run : (w : Where) (x : Opaque) (ts o : Trees) (m : Marks) → run x w ts o m → Back (cut x.tokens.trees ∷ []) x.tokens.trees ts o
back_run w x ts o m s =
    record {
      read = tokens_of s.front;
      front = ap tokens_of (run_joins ts s.front o s.cut) ∙ tokens_join s.front o;
      same =
          moved (ap (λ l. cut l ∷ []) (sym s.trees)) (append-nil (tokens_of s.front)) (append-nil (tokens_of (last_alone s.front)) ∙ sym (ap tokens_of s.trees))
          (cut_off s.front nothing);
    }

-- ---- all that the walk asks

pub backs : IsWalked Back
backs = record {
  joined = λ ps qs. back_join;
  none = back_none;
  plain = λ w k p. back_token w k;
  one = back_one;
  pair = back_pair;
  word = back_word;
  grouped = λ ps. back_group;
  all = back_all;
}

-- ---- all tokens

pub same_whole : {ps : List Part} (a ts : Trees) → Back ps a ts no_trees → RespacedAround ps (tokens_of ts) (tokens_of a)
same_whole a ts h = moved refl (sym (h.front ∙ append-nil h.read)) refl h.same

-- ---- spacing aside

unjoined_spelled : (b : Bool) (k : t.the_data) → unspaced (bare (if b then unjoined k else k)) ≡ unspaced (bare k)
unjoined_spelled false k = refl
unjoined_spelled true (t.Ident i) = refl
unjoined_spelled true (t.Lifetime l) = refl
unjoined_spelled true (t.Literal l) = refl
unjoined_spelled true (t.Punct p) = refl

spelled_group : (d : Delim) (from : Span) (inside : Trees) (upto : Span) (rest : Trees) →
    spelled_of (group d from inside upto rest) ≡ opening d ∷ (spelled_of inside ++ closing d ∷ spelled_of rest)
spelled_group d from inside upto rest = ap (λ l. opening d ∷ l) (map-append unspaced (tokens_of inside) (closing d ∷ tokens_of rest))

-- the last punct has its character still
alone_spelled : (ts : Trees) → spelled_of (last_alone ts) ≡ spelled_of ts
alone_spelled no_trees = refl
alone_spelled (token k rest) = ap₂ (λ x l. x ∷ l) (unjoined_spelled (at_end rest) k) (alone_spelled rest)
alone_spelled (group d from inside upto rest) =
    spelled_group d from inside upto (last_alone rest) ∙ ap (λ l. opening d ∷ (spelled_of inside ++ closing d ∷ l)) (alone_spelled rest) ∙
    sym (spelled_group d from inside upto rest)

unspaced_again : (x : Bare) → unspaced (unspaced x) ≡ unspaced x
unspaced_again (bare_punct c s) = refl
unspaced_again (bare_name text raw) = refl
unspaced_again (bare_lifetime text) = refl
unspaced_again (bare_literal kind text) = refl
unspaced_again (opening d) = refl
unspaced_again (closing d) = refl

pub same_spelled : {ps : List Part} {a b : List Bare} → RespacedAround ps a b → map unspaced a ≡ map unspaced b
same_spelled nothing = refl
same_spelled (same x h) = ap (λ l. unspaced x ∷ l) (same_spelled h)
same_spelled (alone x h) = ap₂ (λ z l. z ∷ l) (sym (unspaced_again x)) (same_spelled h)
same_spelled (stands {read = r} {written = v} p h) =
    map-append unspaced (tokens_of p) r ∙ ap (λ l. spelled_of p ++ l) (same_spelled h) ∙ sym (map-append unspaced (tokens_of p) v)
same_spelled (cut_off {read = r} {written = v} p h) =
    map-append unspaced (tokens_of p) r ∙ ap₂ (λ k l. k ++ l) (sym (alone_spelled p)) (same_spelled h) ∙
    sym (map-append unspaced (tokens_of (last_alone p)) v)

pub gives_of : {ps : List Part} (a ts o : Trees) → Back ps a ts o → Gives a ts o
gives_of a ts o h =
    ap (map unspaced) h.front ∙ map-append unspaced h.read (tokens_of o) ∙ ap (λ l. l ++ spelled_of o) (same_spelled h.same)
