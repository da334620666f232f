-- The words that a path may have are read as names, and the names that the grammar uses are among them.
use Rattle.std.specs.Prelude.{◌≡◌, ℕ, List, [], ◌∷◌, Bool, true, false, cond, not, ◌&&◌, codes, IsTrue, refl}
use Rattle.std.specs.Str.{bytes_eq}
use Rattle.std.proofs.Common.{ap, ◌∙◌, sym}
use Rattle.std.proofs.lemmas.Slice.Eq.{bytes_eq-Decides}
use Rattle.dm_stream.specs.declared.tokens.Ident.{Ident}
use Rattle.dm_stream.specs.declared.tokens.Token.TheVariants as t
use Rattle.dm_stream.specs.Trees.{Trees, token}
use Rattle.dm_stream.specs.Layout.{nowhere}
use Rattle.dm_ast.specs.Keywords.{is_keyword}
use Rattle.dm_ast.specs.TypeGrammar.{is_path_word}
use Rattle.dm_reread.specs.Next.{Word, of_path, k_other, used_keywords, keyword_of, path_or_other, kind, word_next, a_name, next}
use Rattle.dm_reread.specs.Grammar.{IsName}

-- a name is a word of a path
pub name-path : (i : Ident) → IsName i → IsTrue (is_path_word i)
name-path i h = rw h refl

-- a word that isn't raw
abbrev pub plainly : List ℕ → Ident
plainly l = record { name = l; raw = false; span = nowhere }

-- no keyword of the grammar is a word of a path
same-word : (i : Ident) (w : List ℕ) → i.raw ≡ false → i.name ≡ w → is_path_word i ≡ is_path_word (plainly w)
same-word i w r e = rw (r, e) refl

is-not : (i : Ident) (w : List ℕ) → IsTrue (is_path_word i) → i.raw ≡ false → is_path_word (plainly w) ≡ false → bytes_eq i.name w ≡ false
is-not i w h r k = decided (bytes_eq i.name w) refl
  where
    decided : (b : Bool) → bytes_eq i.name w ≡ b → b ≡ false
    decided false e = refl
    decided true e = sym h ∙ same-word i w r ((bytes_eq-Decides i.name w).0 e) ∙ k

abbrev none_path : List (List ℕ × Word) → Bool
none_path [] = true
none_path (x ∷ xs) = not (is_path_word (plainly x.0)) && none_path xs

used-none : IsTrue (none_path used_keywords)
unfolding is_keyword
used-none = refl

parts : (b c : Bool) → IsTrue (not b && c) → (b ≡ false) × IsTrue c
parts true c h = absurd (cc)
parts false c h = (refl, h)

no-keyword : (i : Ident) (w : Word) (xs : List (List ℕ × Word)) → IsTrue (none_path xs) → IsTrue (is_path_word i) → i.raw ≡ false →
    keyword_of xs i.name w ≡ w
no-keyword i w [] n h r = refl
no-keyword i w (x ∷ xs) n h r =
    let p : (is_path_word (plainly x.0) ≡ false) × IsTrue (none_path xs) = parts (is_path_word (plainly x.0)) (none_path xs) n in
    rw (is-not i x.0 h r p.0) (no-keyword i w xs p.1 h r)

by-raw : (i : Ident) (b : Bool) → IsTrue (is_path_word i) → i.raw ≡ b → kind i ≡ path_or_other i
by-raw i true h r = ap (λ b. cond b (path_or_other i) (keyword_of used_keywords i.name (path_or_other i))) r
by-raw i false h r =
    ap (λ b. cond b (path_or_other i) (keyword_of used_keywords i.name (path_or_other i))) r ∙
    no-keyword i (path_or_other i) used_keywords used-none h r

pub kind-path : (i : Ident) → IsTrue (is_path_word i) → kind i ≡ of_path
kind-path i h = by-raw i i.raw h refl ∙ ap (λ b. cond b of_path k_other) h

-- and no other word is read as one
abbrev is_of_path : Word → Bool
is_of_path of_path = true
is_of_path _ = false

abbrev none_of_path : List (List ℕ × Word) → Bool
none_of_path [] = true
none_of_path (x ∷ xs) = not (is_of_path x.1) && none_of_path xs

past : (b : Bool) (w v : Word) → is_of_path w ≡ false → cond b w v ≡ of_path → v ≡ of_path
past true w v h e = absurd (cc)
past false w v h e = e

past-keywords : (l : List ℕ) (w : Word) (xs : List (List ℕ × Word)) → IsTrue (none_of_path xs) → keyword_of xs l w ≡ of_path → w ≡ of_path
past-keywords l w [] n e = e
past-keywords l w (x ∷ xs) n e =
    let p : (is_of_path x.1 ≡ false) × IsTrue (none_of_path xs) = parts (is_of_path x.1) (none_of_path xs) n in
    past-keywords l w xs p.1 (past (bytes_eq l x.0) x.1 (keyword_of xs l w) p.0 e)

chosen : (b : Bool) → cond b of_path k_other ≡ of_path → IsTrue b
chosen true e = refl
chosen false e = absurd (cc)

kind-of : (i : Ident) (b : Bool) → cond b (path_or_other i) (keyword_of used_keywords i.name (path_or_other i)) ≡ of_path →
    path_or_other i ≡ of_path
kind-of i true e = e
kind-of i false e = past-keywords i.name (path_or_other i) used_keywords refl e

pub path-kind : (i : Ident) → kind i ≡ of_path → IsTrue (is_path_word i)
path-kind i e = chosen (is_path_word i) (kind-of i i.raw e)

-- what such a word begins
pub word-next : (i : Ident) (ts : Trees) → IsTrue (is_path_word i) → next (token (t.Ident i) ts) ≡ a_name i ts
word-next i ts h = ap (λ w. word_next w i ts) (kind-path i h)

pub name-next : (i : Ident) (ts : Trees) → IsName i → next (token (t.Ident i) ts) ≡ a_name i ts
name-next i ts h = word-next i ts (name-path i h)

-- ---- the names that the grammar uses

pub map-name : IsName (plainly (codes "map"))
unfolding is_keyword
map-name = refl

pub map-err-name : IsName (plainly (codes "map_err"))
unfolding is_keyword
map-err-name = refl

pub v-name : IsName (plainly (codes "v"))
unfolding is_keyword
v-name = refl

pub derive-more-name : IsName (plainly (codes "derive_more"))
unfolding is_keyword
derive-more-name = refl

pub core-name : IsName (plainly (codes "core"))
unfolding is_keyword
core-name = refl

pub write-name : IsName (plainly (codes "write"))
unfolding is_keyword
write-name = refl

pub format-args-name : IsName (plainly (codes "format_args"))
unfolding is_keyword
format-args-name = refl
