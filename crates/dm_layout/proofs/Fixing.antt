-- A text that is the layout of its tokens is what they are laid out as anywhere.
use Rattle.std.specs.Prelude.{◌≡◌, ℕ, List, [], ◌∷◌, ◌++◌, Bool, true, false, not, cond, ◌&&◌, codes, refl}
use Rattle.std.proofs.Common.{ap, ◌∙◌, sym, append_assoc}
use Rattle.std.specs.Prelude.{IsTrue, OnOk}
use Rattle.std.proofs.Common.{Result, Ok, Err}
use Rattle.std.proofs.lemmas.Grind.{common_steps}
use Rattle.std.specs.Str.{bytes_eq}
use Rattle.std.proofs.lemmas.Slice.Eq.{bytes_eq-Decides}
use Rattle.dm_stream.specs.declared.tokens.Delim.TheVariants.{Paren, Bracket, Brace}
use Rattle.dm_stream.specs.declared.tokens.Entry.{Entry}
use Rattle.dm_stream.specs.declared.tokens.Entry.TheVariants as entry
use Rattle.dm_stream.specs.Layout.{Laid, laid, laid_one, laid_start, spaced, spelled, is_joint_punct}
use Rattle.dm_layout.specs.Fixed.{entries_of, begins_tight, ends_open, same, closes_first, is_text, is_fixed}

-- ---- a layout behind a text

abbrev pub prefixed : List ℕ → Laid → Laid
prefixed x s = record { text = x ++ s.text; glued = s.glued }

spaced-behind : (x t : List ℕ) (g : Bool) → spaced (record { text = x ++ t; glued = g }) ≡ x ++ spaced (record { text = t; glued = g })
spaced-behind x t true = refl
spaced-behind x t false = append_assoc x t (codes " ")

behind : (x : List ℕ) (s : Laid) (w : List ℕ) (g : Bool) →
    record { text = spaced (prefixed x s) ++ w; glued = g } ≡ prefixed x (record { text = spaced s ++ w; glued = g })
behind x s w g =
    ap (λ (l : List ℕ). record { text = l ++ w; glued = g }) (spaced-behind x s.text s.glued) ∙
    ap (λ (l : List ℕ). record { text = l; glued = g }) (append_assoc x (spaced s) w)

pub laid_one-prefixed : (x : List ℕ) (s : Laid) (e : Entry) → laid_one (prefixed x s) e ≡ prefixed x (laid_one s e)
laid_one-prefixed x s (entry.Token k) = behind x s (spelled k) (is_joint_punct k)
laid_one-prefixed x s (entry.Open Paren from n) = behind x s (codes "(") true
laid_one-prefixed x s (entry.Open Bracket from n) = behind x s (codes "[") true
laid_one-prefixed x s (entry.Open Brace from n) = behind x s (codes "{") false
laid_one-prefixed x s (entry.Close Paren upto) = ap (λ (l : List ℕ). record { text = l; glued = false }) (append_assoc x s.text (codes ")"))
laid_one-prefixed x s (entry.Close Bracket upto) = ap (λ (l : List ℕ). record { text = l; glued = false }) (append_assoc x s.text (codes "]"))
laid_one-prefixed x s (entry.Close Brace upto) = ap (λ (l : List ℕ). record { text = l; glued = false }) (append_assoc x s.text (codes " }"))

pub laid-prefixed : (x : List ℕ) (s : Laid) (es : List Entry) → laid (prefixed x s) es ≡ prefixed x (laid s es)
laid-prefixed x s [] = refl
laid-prefixed x s (e ∷ es) = ap (λ (l : Laid). laid l es) (laid_one-prefixed x s e) ∙ laid-prefixed x (laid_one s e) es

-- ---- tokens that begin with no closing delimiter, or with one

abbrev pub front : Bool → Laid → List ℕ
front tight s = cond tight s.text (spaced s)

first-laid : (s : Laid) (tight : Bool) (e : Entry) → closes_first tight (e ∷ []) ≡ true →
    laid_one s e ≡ prefixed (front tight s) (laid_one laid_start e)
first-laid s true (entry.Token k) h = cc
first-laid s false (entry.Token k) h = refl
first-laid s true (entry.Open d from n) h = cc
first-laid s false (entry.Open Paren from n) h = refl
first-laid s false (entry.Open Bracket from n) h = refl
first-laid s false (entry.Open Brace from n) h = refl
first-laid s true (entry.Close Paren upto) h = refl
first-laid s true (entry.Close Bracket upto) h = refl
first-laid s true (entry.Close Brace upto) h = refl
first-laid s false (entry.Close d upto) h = cc

first-of : (tight : Bool) (e : Entry) (es : List Entry) → closes_first tight (e ∷ es) ≡ true → closes_first tight (e ∷ []) ≡ true
first-of tight (entry.Token k) es h = h
first-of tight (entry.Open d from n) es h = h
first-of tight (entry.Close d upto) es h = h

laid-anywhere : (s : Laid) (tight : Bool) (es : List Entry) → closes_first tight es ≡ true → laid s es ≡ prefixed (front tight s) (laid laid_start es)
laid-anywhere s tight [] h = cc
laid-anywhere s tight (e ∷ es) h =
    ap (λ (l : Laid). laid l es) (first-laid s tight e (first-of tight e es h)) ∙ laid-prefixed (front tight s) (laid_one laid_start e) es

first-true : (a b : Bool) → (a && b) ≡ true → (a ≡ true) × (b ≡ true)
first-true true b h = (refl, h)
first-true false b h = absurd cc

same-is : (a b : Bool) → same a b ≡ true → a ≡ b
same-is true b h = cc
same-is false true h = cc
same-is false false h = refl

text-is : (l : Laid) (text : List ℕ) → is_text l text ≡ true → l ≡ record { text = text; glued = ends_open text }
text-is l text h =
    let parts = first-true (bytes_eq l.text text) (same l.glued (ends_open text)) h in
    ap (λ (x : List ℕ). record { text = x; glued = l.glued }) ((bytes_eq-Decides l.text text).0 parts.0) ∙
    ap (λ (g : Bool). record { text = text; glued = g }) (same-is l.glued (ends_open text) parts.1)

-- what is added for a text of tokens
pub fixed-laid : (s : Laid) (text : List ℕ) → IsTrue (is_fixed text) →
    record { text = front (begins_tight text) s ++ text; glued = ends_open text } ≡ laid s (entries_of text)
fixed-laid s text h =
    let parts = first-true (closes_first (begins_tight text) (entries_of text)) (is_text (laid laid_start (entries_of text)) text) h in
    sym (laid-anywhere s (begins_tight text) (entries_of text) parts.0 ∙ ap (prefixed (front (begins_tight text) s)) (text-is (laid laid_start (entries_of text)) text parts.1))

-- what holds where a call succeeds
pub on-ok : {T E P Q : Type 0} (r : Result T E) → (P → Q) → OnOk r P → OnOk r Q
on-ok (Ok x) f h = f h
on-ok (Err e) f h = tt
