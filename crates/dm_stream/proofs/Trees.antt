-- What holds of flat forms.
use Rattle.std.specs.Prelude.{◌≡◌, ℕ, ◌<◌, ◌≤◌, ◌+◌, ◌-◌, Some, List, [], ◌∷◌, ◌++◌, length, refl, Result, Ok, Err, OnOk, OnErr}
use Rattle.std.proofs.Common.{ap, ◌∙◌, sym, append_assoc, take, drop, arith, length-append}
use Rattle.std.proofs.Math.Seq.{take-append_seam, drop-append_seam}
use Rattle.dm_stream.specs.Cursors.{first_tree, IsTreeLen}
use Rattle.dm_stream.specs.declared.tokens.Span.{Span}
use Rattle.dm_stream.specs.declared.tokens.Delim.{Delim}
use Rattle.dm_stream.specs.declared.tokens.Token.{Token}
use Rattle.dm_stream.specs.declared.tokens.Entry.{Entry}
use Rattle.dm_stream.specs.declared.tokens.Entry.TheVariants as entry
use Rattle.dm_stream.specs.Trees.{Trees, no_trees, token, group, join, flatten, unflatten, one_back, join-no_trees, read_back-flatten, unflatten-flatten}

pub flatten-join : (ts us : Trees) → flatten (join ts us) ≡ flatten ts ++ flatten us
flatten-join no_trees us = refl
flatten-join (token t rest) us = ap (λ l. entry.Token t ∷ l) (flatten-join rest us)
flatten-join (group d from inside upto rest) us =
    ap (λ l. entry.Open d from (length (flatten inside) + 1) ∷ (flatten inside ++ entry.Close d upto ∷ l)) (flatten-join rest us) ∙
    ap (λ l. entry.Open d from (length (flatten inside) + 1) ∷ l)
    (sym (append_assoc (flatten inside) (entry.Close d upto ∷ flatten rest) (flatten us)))

-- entries that are a flat form, then any
unflatten-flatten-append : (ts : Trees) (fs : List Entry) → unflatten (flatten ts ++ fs) ≡ join ts (unflatten fs)
unflatten-flatten-append ts fs = ap (λ r. r.here) (read_back-flatten ts fs)

pub unflatten-append : (es fs : List Entry) → flatten (unflatten es) ≡ es → unflatten (es ++ fs) ≡ join (unflatten es) (unflatten fs)
unflatten-append es fs h = ap (λ l. unflatten (l ++ fs)) (sym h) ∙ unflatten-flatten-append (unflatten es) fs

pub flat-append : (es fs : List Entry) → flatten (unflatten es) ≡ es → flatten (unflatten fs) ≡ fs →
    flatten (unflatten (es ++ fs)) ≡ es ++ fs
flat-append es fs h k =
    ap flatten (unflatten-append es fs h) ∙ flatten-join (unflatten es) (unflatten fs) ∙ ap (λ l. l ++ flatten (unflatten fs)) h ∙ ap (λ l. es ++ l) k

-- the trees after entries were added
pub unflatten-grown : (es fs new : List Entry) (ts : Trees) → flatten (unflatten es) ≡ es → new ≡ es ++ fs → unflatten es ≡ ts →
    unflatten new ≡ join ts (unflatten fs)
unflatten-grown es fs new ts h n v = ap unflatten n ∙ unflatten-append es fs h ∙ ap (λ t. join t (unflatten fs)) v

pub flat-grown : (es fs new : List Entry) → flatten (unflatten es) ≡ es → flatten (unflatten fs) ≡ fs → new ≡ es ++ fs →
    flatten (unflatten new) ≡ new
flat-grown es fs new h k n = rw n (flat-append es fs h k)

-- a group's entries
pub unflatten-group : (d : Delim) (from upto : Span) (n : ℕ) (es : List Entry) → flatten (unflatten es) ≡ es →
    unflatten (entry.Open d from n ∷ (es ++ entry.Close d upto ∷ [])) ≡ group d from (unflatten es) upto no_trees
unflatten-group d from upto n es h =
    ap (λ l. unflatten (entry.Open d from n ∷ (l ++ entry.Close d upto ∷ []))) (sym h) ∙
    ap (λ r. (one_back (entry.Open d from n) r).here) (read_back-flatten (unflatten es) (entry.Close d upto ∷ [])) ∙
    ap (λ i. group d from i upto no_trees) (join-no_trees (unflatten es))

pub flat-group : (d : Delim) (from upto : Span) (n : ℕ) (es : List Entry) → flatten (unflatten es) ≡ es → n ≡ length es + 1 →
    flatten (unflatten (entry.Open d from n ∷ (es ++ entry.Close d upto ∷ []))) ≡ entry.Open d from n ∷ (es ++ entry.Close d upto ∷ [])
flat-group d from upto n es h k =
    ap flatten (unflatten-group d from upto n es h) ∙
    ap (λ l. entry.Open d from (length l + 1) ∷ (l ++ entry.Close d upto ∷ [])) h ∙
    ap (λ m. entry.Open d from m ∷ (es ++ entry.Close d upto ∷ [])) (sym k)

-- after a call that adds entries, or changes nothing
pub flat-result : {E : Type 0} (r : Result (Unit {0}) E) (es fs new : List Entry) → flatten (unflatten es) ≡ es →
    flatten (unflatten fs) ≡ fs → OnOk r (new ≡ es ++ fs) → OnErr r (new ≡ es) → flatten (unflatten new) ≡ new
flat-result (Ok x) es fs new h k ok err = flat-grown es fs new h k ok
flat-result (Err e) es fs new h k ok err = rw err h

pub unflatten-result : {E : Type 0} (r : Result (Unit {0}) E) (es fs new : List Entry) (ts us : Trees) → flatten (unflatten es) ≡ es →
    OnOk r (new ≡ es ++ fs) → unflatten es ≡ ts → unflatten fs ≡ us → OnOk r (unflatten new ≡ join ts us)
unflatten-result (Ok x) es fs new ts us h ok v w = unflatten-grown es fs new ts h ok v ∙ ap (join ts) w
unflatten-result (Err e) es fs new ts us h ok v w = tt

-- what entries that begin with an open delimiter are
record Opens (d : Delim) (from : Span) (n : ℕ) (rest : List Entry) (ts : Trees) : Type 0 where
  inside : Trees
  upto : Span
  others : Trees
  rest_is : rest ≡ flatten inside ++ entry.Close d upto ∷ flatten others
  count_is : n ≡ length (flatten inside) + 1
  trees_are : ts ≡ group d from inside upto others

opens : (ts : Trees) (d : Delim) (from : Span) (n : ℕ) (rest : List Entry) → flatten ts ≡ entry.Open d from n ∷ rest → Opens d from n rest ts
opens no_trees d from n rest h = absurd (cc)
opens (token t us) d from n rest h = absurd (cc)
opens (group e f i u o) d from n rest h = record {
  inside = i;
  upto = u;
  others = o;
  rest_is = cc;
  count_is = cc;
  trees_are = cc;
}

pub open_fits : (d : Delim) (from : Span) (n : ℕ) (es rest : List Entry) → flatten (unflatten es) ≡ es →
    es ≡ entry.Open d from n ∷ rest → (0 < n) × (n ≤ length rest)
open_fits d from n es rest h e =
    let o : Opens d from n rest (unflatten es) = opens (unflatten es) d from n rest (h ∙ e) in
    let l : length rest ≡ _ = ap length o.rest_is in
    (omega (arith, o.count_is), omega (arith, length-append (flatten o.inside) (entry.Close d o.upto ∷ flatten o.others), o.count_is, l))

-- the parts of a group
pub record Parts (d : Delim) (from : Span) (es front : List Entry) (closing : Entry) (back : List Entry) : Type 0 where
  pub upto : Span
  pub closing_is : closing ≡ entry.Close d upto
  pub front_is_flat : flatten (unflatten front) ≡ front
  pub back_is_flat : flatten (unflatten back) ≡ back
  pub trees_are : unflatten es ≡ group d from (unflatten front) upto (unflatten back)

pub parts : (d : Delim) (from : Span) (n : ℕ) (es rest front : List Entry) (closing : Entry) (back : List Entry) →
    flatten (unflatten es) ≡ es → es ≡ entry.Open d from n ∷ rest → front ≡ take (n - 1) rest → drop (n - 1) rest ≡ closing ∷ back →
    Parts d from es front closing back
parts d from n es rest front closing back h e f b =
    let o : Opens d from n rest (unflatten es) = opens (unflatten es) d from n rest (h ∙ e) in
    let count : n - 1 ≡ length (flatten o.inside) = omega (arith, o.count_is) in
    let f' : front ≡ flatten o.inside =
    f ∙ ap (λ m. take m rest) count ∙ ap (take (length (flatten o.inside))) o.rest_is ∙
    take-append_seam (flatten o.inside) (entry.Close d o.upto ∷ flatten o.others) in
    let b' : closing ∷ back ≡ entry.Close d o.upto ∷ flatten o.others =
    sym b ∙ ap (λ m. drop m rest) count ∙ ap (drop (length (flatten o.inside))) o.rest_is ∙
    drop-append_seam (flatten o.inside) (entry.Close d o.upto ∷ flatten o.others) in
    let g : back ≡ flatten o.others = cc in
    let k : closing ≡ entry.Close d o.upto = cc in
    record {
      upto = o.upto;
      closing_is = k;
      front_is_flat = rw f' (ap flatten (unflatten-flatten o.inside));
      back_is_flat = rw g (ap flatten (unflatten-flatten o.others));
      trees_are =
          o.trees_are ∙ ap (λ t. group d from t o.upto o.others) (sym (ap unflatten f' ∙ unflatten-flatten o.inside)) ∙
          ap (λ t. group d from (unflatten front) o.upto t) (sym (ap unflatten g ∙ unflatten-flatten o.others));
    }

-- where a list of trees is a first part and the rest, its entries are cut there
pub seam : (first rest : Trees) (es : List Entry) (n : ℕ) → flatten (unflatten es) ≡ es → unflatten es ≡ join first rest →
    n ≡ length (flatten first) → 0 < n → first_tree (join first rest) ≡ Some (first, rest) → IsTreeLen es n
seam first rest es n h t l z f =
    let e : es ≡ flatten first ++ flatten rest = sym h ∙ ap flatten t ∙ flatten-join first rest in
    let a : take n es ≡ flatten first = ap (λ m. take m es) l ∙ ap (take (length (flatten first))) e ∙ take-append_seam (flatten first) (flatten rest) in
    let b : drop n es ≡ flatten rest = ap (λ m. drop m es) l ∙ ap (drop (length (flatten first))) e ∙ drop-append_seam (flatten first) (flatten rest) in
    let s : length es ≡ length (flatten first ++ flatten rest) = ap length e in
    record {
      fits = omega (arith, length-append (flatten first) (flatten rest), s, l);
      positive = z;
      front_is_flat = rw a (ap flatten (unflatten-flatten first));
      back_is_flat = rw b (ap flatten (unflatten-flatten rest));
      trees_are = rw (a, b, t, unflatten-flatten first, unflatten-flatten rest) f;
    }

-- entries that begin with a token
tokens : (ts : Trees) (k : Token) (rest : List Entry) → flatten ts ≡ entry.Token k ∷ rest → (us : Trees) × (ts ≡ token k us)
tokens no_trees k rest h = absurd (cc)
tokens (token t us) k rest h = (us, cc)
tokens (group e f i u o) k rest h = absurd (cc)

pub tree_len-group : (d : Delim) (from : Span) (n : ℕ) (es rest : List Entry) → flatten (unflatten es) ≡ es →
    es ≡ entry.Open d from n ∷ rest → IsTreeLen es (n + 1)
tree_len-group d from n es rest h e =
    let o : Opens d from n rest (unflatten es) = opens (unflatten es) d from n rest (h ∙ e) in
    seam (group d from o.inside o.upto no_trees) o.others es (n + 1) h o.trees_are
    (omega (arith, length-append (flatten o.inside) (entry.Close d o.upto ∷ []), o.count_is)) (omega arith) refl

closes : (ts : Trees) (rest : List Entry) (d : Delim) (u : Span) → flatten ts ≡ entry.Close d u ∷ rest → ⊥
closes no_trees rest d u h = cc
closes (token t us) rest d u h = cc
closes (group e f i v o) rest d u h = cc

-- no list of trees begins with the end of a group
pub no_close : (es rest : List Entry) (d : Delim) (u : Span) → flatten (unflatten es) ≡ es → es ≡ entry.Close d u ∷ rest → ⊥
no_close es rest d u h e = closes (unflatten es) rest d u (h ∙ e)
