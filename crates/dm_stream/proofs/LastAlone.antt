-- Trees whose last punct is joint to nothing, by their entries.
use Rattle.std.proofs.Common.{◌≡◌, ℕ, ◌+◌, Bool, true, false, if◌then◌else◌, List, [], ◌∷◌, ◌++◌, length, Some, None, refl, sym, ap, ap₂, ◌∙◌, subst, append_assoc}
use Rattle.std.specs.Prelude.{slice_set}
use Rattle.std.proofs.Math.Seq.{set-append_seam}
use Rattle.dm_stream.specs.declared.tokens.Span.{Span}
use Rattle.dm_stream.specs.declared.tokens.Delim.{Delim}
use Rattle.dm_stream.specs.declared.tokens.Punct.{Punct}
use Rattle.dm_stream.specs.declared.tokens.Spacing.TheVariants.{Alone}
use Rattle.dm_stream.specs.declared.tokens.Token.TheVariants as t
use Rattle.dm_stream.specs.declared.tokens.Entry.TheVariants as entry
use Rattle.dm_stream.specs.Trees.{Trees, no_trees, token, group, join, flatten, unflatten, unflatten-flatten}
use Rattle.dm_stream.specs.Cursors.{IsFlat, at_end}
use Rattle.dm_stream.specs.LastAlone.{unjoined, punct_in, last_alone, IsLastPunct}
use Rattle.dm_stream.proofs.Trees.{unflatten-append, flat-append}

-- ---- the last of a list

record Snoc {A : Type 0} (l : List A) : Type 0 where
  front : List A
  last : A
  is : l ≡ front ++ last ∷ []

snoc : {A : Type 0} (x : A) (xs : List A) → Snoc (x ∷ xs)
snoc x [] = record { front = []; last = x; is = refl }
snoc x (y ∷ ys) = let s = snoc y ys in record { front = x ∷ s.front; last = s.last; is = ap (λ l. x ∷ l) s.is }

snoc_some : {A : Type 0} (xs : List A) (x : A) → xs ++ x ∷ [] ≡ [] → ⊥
snoc_some [] x h = cc
snoc_some (y ∷ xs) x h = cc

snoc_same : {A : Type 0} (xs ys : List A) (x y : A) → xs ++ x ∷ [] ≡ ys ++ y ∷ [] → (xs ≡ ys) × (x ≡ y)
snoc_same [] [] x y h = (refl, cc)
snoc_same [] (z ∷ ys) x y h = let e : ys ++ y ∷ [] ≡ [] = cc in absurd (snoc_some ys y e)
snoc_same (w ∷ xs) [] x y h = let e : xs ++ x ∷ [] ≡ [] = cc in absurd (snoc_some xs x e)
snoc_same (w ∷ xs) (z ∷ ys) x y h =
    let e : xs ++ x ∷ [] ≡ ys ++ y ∷ [] = cc in
    let s : (xs ≡ ys) × (x ≡ y) = snoc_same xs ys x y e in
    let f : xs ≡ ys = s.0 in
    (cc, s.1)

-- ---- trees

-- the last tree is this token, and these entries are of the trees in front
pub record EndsIn (k : t.the_data) (front : List entry.the_data) (ts : Trees) : Type 0 where
  pub before : Trees
  pub flat : flatten before ≡ front
  pub is : ts ≡ join before (token k no_trees)

-- what the last entry says of trees
abbrev pub Last : entry.the_data → List entry.the_data → Trees → Type 0
Last (entry.Token k) front ts = EndsIn k front ts
Last (entry.Open d from n) front ts = last_alone ts ≡ ts
Last (entry.Close d upto) front ts = last_alone ts ≡ ts

at_none : (ts : Trees) → at_end ts ≡ true → ts ≡ no_trees
at_none no_trees e = refl
at_none (token k rest) e = absurd (cc)
at_none (group d from inside upto rest) e = absurd (cc)

some_entries : (ts : Trees) → at_end ts ≡ false → Snoc (flatten ts)
some_entries no_trees e = absurd (cc)
some_entries (token k rest) e = snoc (entry.Token k) (flatten rest)
some_entries (group d from inside upto rest) e = snoc (entry.Open d from (length (flatten inside) + 1)) (flatten inside ++ entry.Close d upto ∷ flatten rest)

-- one more tree in front, with these entries
module _ (one : Trees → Trees) (before : List entry.the_data) (rest : Trees) (flat : (ts : Trees) → flatten (one ts) ≡ before ++ flatten ts)
    (joined : (ts us : Trees) → one (join ts us) ≡ join (one ts) us) (kept : at_end rest ≡ false → last_alone (one rest) ≡ one (last_alone rest)) where
  grown : (e : entry.the_data) (front : List entry.the_data) → at_end rest ≡ false → Last e front rest → Last e (before ++ front) (one rest)
  grown (entry.Token k) front n h =
      record { before = one h.before; flat = flat h.before ∙ ap (λ l. before ++ l) h.flat; is = ap one h.is ∙ joined h.before (token k no_trees) }
  grown (entry.Open d from m) front n h = kept n ∙ ap one h
  grown (entry.Close d upto) front n h = kept n ∙ ap one h

  step : (e : entry.the_data) (front : List entry.the_data) → flatten (one rest) ≡ front ++ e ∷ [] →
      ((f : List entry.the_data) (x : entry.the_data) → flatten rest ≡ f ++ x ∷ [] → Last x f rest) → at_end rest ≡ false → Last e front (one rest)
  step e front h more n =
      let s : Snoc (flatten rest) = some_entries rest n in
      let all : flatten (one rest) ≡ (before ++ s.front) ++ s.last ∷ [] = flat rest ∙ ap (λ l. before ++ l) s.is ∙ sym (append_assoc before s.front (s.last ∷ [])) in
      let q : (before ++ s.front ≡ front) × (s.last ≡ e) = snoc_same (before ++ s.front) front s.last e (sym all ∙ h) in
      subst (λ f. Last e f (one rest)) q.0 (subst (λ x. Last x (before ++ s.front) (one rest)) q.1 (grown s.last s.front n (more s.front s.last s.is)))

-- what is known of the trees behind the first one
abbrev Known : Trees → Type 0
Known rest = (f : List entry.the_data) (x : entry.the_data) → flatten rest ≡ f ++ x ∷ [] → Last x f rest

by_token : (k : t.the_data) (rest : Trees) (e : entry.the_data) (front : List entry.the_data) → flatten (token k rest) ≡ front ++ e ∷ [] → Known rest → (b : Bool) →
    at_end rest ≡ b → Last e front (token k rest)
by_token k rest e front h more true n =
    let z : rest ≡ no_trees = at_none rest n in
    let q : ([] ≡ front) × (entry.Token k ≡ e) = snoc_same [] front (entry.Token k) e (sym (ap (λ r. entry.Token k ∷ flatten r) z) ∙ h) in
    subst (λ f. Last e f (token k rest)) q.0 (subst (λ x. Last x [] (token k rest)) q.1 (record { before = no_trees; flat = refl; is = ap (token k) z }))
by_token k rest e front h more false n =
    step (token k) (entry.Token k ∷ []) rest (λ ts. refl) (λ ts us. refl) (λ o. ap (λ b. token (if b then unjoined k else k) (last_alone rest)) o) e front h more n

by_group : (d : Delim) (from : Span) (inside : Trees) (upto : Span) (rest : Trees) (e : entry.the_data) (front : List entry.the_data) →
    flatten (group d from inside upto rest) ≡ front ++ e ∷ [] → Known rest → (b : Bool) → at_end rest ≡ b → Last e front (group d from inside upto rest)
by_group d from inside upto rest e front h more true n =
    let z : rest ≡ no_trees = at_none rest n in
    let before : List entry.the_data = entry.Open d from (length (flatten inside) + 1) ∷ flatten inside in
    let q : (before ≡ front) × (entry.Close d upto ≡ e) = snoc_same before front (entry.Close d upto) e (sym (ap (λ r. flatten (group d from inside upto r)) z) ∙ h) in
    subst (λ x. Last x front (group d from inside upto rest)) q.1
    (ap (λ r. last_alone (group d from inside upto r)) z ∙ ap (λ r. group d from inside upto r) (sym z))
by_group d from inside upto rest e front h more false n =
    step (group d from inside upto) (entry.Open d from (length (flatten inside) + 1) ∷ (flatten inside ++ entry.Close d upto ∷ [])) rest
    (λ ts. ap (λ l. entry.Open d from (length (flatten inside) + 1) ∷ l) (sym (append_assoc (flatten inside) (entry.Close d upto ∷ []) (flatten ts)))) (λ ts us. refl)
    (λ o. refl) e front h more n

pub last_is : (ts : Trees) (e : entry.the_data) (front : List entry.the_data) → flatten ts ≡ front ++ e ∷ [] → Last e front ts
last_is no_trees e front h = absurd (snoc_some front e (sym h))
last_is (token k rest) e front h = by_token k rest e front h (λ f x i. last_is rest x f i) (at_end rest) refl
last_is (group d from inside upto rest) e front h = by_group d from inside upto rest e front h (λ f x i. last_is rest x f i) (at_end rest) refl

-- ---- the last token

join_some : (ts : Trees) (k : t.the_data) → at_end (join ts (token k no_trees)) ≡ false
join_some no_trees k = refl
join_some (token j rest) k = refl
join_some (group d from inside upto rest) k = refl

pub alone_last : (ts : Trees) (k : t.the_data) → last_alone (join ts (token k no_trees)) ≡ join ts (token (unjoined k) no_trees)
alone_last no_trees k = refl
alone_last (token j rest) k = ap₂ (λ b r. token (if b then unjoined j else j) r) (join_some rest k) (alone_last rest k)
alone_last (group d from inside upto rest) k = ap (λ r. group d from inside upto r) (alone_last rest k)

-- ---- what the program sees

pub punct_last : (es front : List entry.the_data) (e : entry.the_data) (p : Punct) → IsFlat es → es ≡ front ++ e ∷ [] → punct_in e ≡ Some p →
    IsFlat front × (unflatten es ≡ join (unflatten front) (token (t.Punct p) no_trees))
punct_last es front (entry.Token (t.Punct q)) p flat h e =
    let last : EndsIn (t.Punct q) front (unflatten es) = last_is (unflatten es) (entry.Token (t.Punct q)) front (flat ∙ h) in
    let same : unflatten front ≡ last.before = ap unflatten (sym last.flat) ∙ unflatten-flatten last.before in
    let q_is : q ≡ p = cc in
    (ap flatten same ∙ last.flat, last.is ∙ ap₂ (λ b x. join b (token (t.Punct x) no_trees)) (sym same) q_is)
punct_last es front (entry.Token (t.Ident i)) p flat h e = absurd (cc)
punct_last es front (entry.Token (t.Literal i)) p flat h e = absurd (cc)
punct_last es front (entry.Token (t.Lifetime i)) p flat h e = absurd (cc)
punct_last es front (entry.Open d from n) p flat h e = absurd (cc)
punct_last es front (entry.Close d upto) p flat h e = absurd (cc)

kept_token : (k : t.the_data) (ts : Trees) (front : List entry.the_data) → unjoined k ≡ k → EndsIn k front ts → last_alone ts ≡ ts
kept_token k ts front e h = ap last_alone h.is ∙ alone_last h.before k ∙ ap (λ x. join h.before (token x no_trees)) e ∙ sym h.is

pub other_last : (es front : List entry.the_data) (e : entry.the_data) → IsFlat es → es ≡ front ++ e ∷ [] → punct_in e ≡ None → last_alone (unflatten es) ≡ unflatten es
other_last es front (entry.Token (t.Punct q)) flat h e = absurd (cc)
other_last es front (entry.Token (t.Ident i)) flat h e = kept_token (t.Ident i) (unflatten es) front refl (last_is (unflatten es) (entry.Token (t.Ident i)) front (flat ∙ h))
other_last es front (entry.Token (t.Literal i)) flat h e = kept_token (t.Literal i) (unflatten es) front refl (last_is (unflatten es) (entry.Token (t.Literal i)) front (flat ∙ h))
other_last es front (entry.Token (t.Lifetime i)) flat h e = kept_token (t.Lifetime i) (unflatten es) front refl (last_is (unflatten es) (entry.Token (t.Lifetime i)) front (flat ∙ h))
other_last es front (entry.Open d from n) flat h e = last_is (unflatten es) (entry.Open d from n) front (flat ∙ h)
other_last es front (entry.Close d upto) flat h e = last_is (unflatten es) (entry.Close d upto) front (flat ∙ h)

-- a last punct that is found
pub punct_found : (es front : List entry.the_data) (e : entry.the_data) (p : Punct) (at : ℕ) → es ≡ front ++ e ∷ [] → punct_in e ≡ Some p → at ≡ length front →
    IsLastPunct es p at
punct_found es front (entry.Token (t.Punct q)) p at h e l =
    let q_is : q ≡ p = cc in
    record { front = front; entries_are = h ∙ ap (λ x. front ++ entry.Token (t.Punct x) ∷ []) q_is; at_is = l }
punct_found es front (entry.Token (t.Ident i)) p at h e l = absurd (cc)
punct_found es front (entry.Token (t.Literal i)) p at h e l = absurd (cc)
punct_found es front (entry.Token (t.Lifetime i)) p at h e l = absurd (cc)
punct_found es front (entry.Open d from n) p at h e l = absurd (cc)
punct_found es front (entry.Close d upto) p at h e l = absurd (cc)

-- ---- a last punct that is put back alone

-- the entries in front of a last punct are a flat form, and so are they with any token behind them
front_flat : (es : List entry.the_data) (p : Punct) (at : ℕ) → IsFlat es → (l : IsLastPunct es p at) →
    IsFlat l.front × (unflatten es ≡ join (unflatten l.front) (token (t.Punct p) no_trees))
front_flat es p at flat l = punct_last es l.front (entry.Token (t.Punct p)) p flat l.entries_are refl

put_last : (es : List entry.the_data) (p : Punct) (at : ℕ) (e : entry.the_data) → (l : IsLastPunct es p at) → slice_set es at e ≡ l.front ++ e ∷ []
put_last es p at e l =
    ap (λ x. slice_set x at e) l.entries_are ∙ ap (λ n. slice_set (l.front ++ entry.Token (t.Punct p) ∷ []) n e) l.at_is ∙
    set-append_seam l.front (entry.Token (t.Punct p)) [] e

pub alone_flat : (es : List entry.the_data) (p : Punct) (at : ℕ) → IsFlat es → IsLastPunct es p at →
    IsFlat (slice_set es at (entry.Token (t.Punct record { ch = p.ch; spacing = Alone; span = p.span })))
alone_flat es p at flat l =
    rw (put_last es p at (entry.Token (t.Punct record { ch = p.ch; spacing = Alone; span = p.span })) l)
    (flat-append l.front (entry.Token (t.Punct record { ch = p.ch; spacing = Alone; span = p.span }) ∷ []) (front_flat es p at flat l).0 refl)

pub alone_trees : (es : List entry.the_data) (p : Punct) (at : ℕ) → IsFlat es → IsLastPunct es p at →
    unflatten (slice_set es at (entry.Token (t.Punct record { ch = p.ch; spacing = Alone; span = p.span }))) ≡ last_alone (unflatten es)
alone_trees es p at flat l =
    let f = front_flat es p at flat l in
    let e : entry.the_data = entry.Token (t.Punct record { ch = p.ch; spacing = Alone; span = p.span }) in
    ap unflatten (put_last es p at e l) ∙ unflatten-append l.front (e ∷ []) f.0 ∙
    sym (ap last_alone f.1 ∙ alone_last (unflatten l.front) (t.Punct p))
