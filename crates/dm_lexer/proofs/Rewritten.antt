-- What holds of trees that are the same, ranges aside; and what follows for texts that have them.
use Rattle.std.specs.Prelude.{◌≡◌, ℕ, suc, ◌-◌, Bool, true, false, ◌&&◌, nat_lt, cond, if◌then◌else◌, Option, Some, None, List, [], ◌∷◌, ◌++◌, refl, map}
use Rattle.std.proofs.Common.{ap, ◌∙◌, sym, subst}
use Rattle.std.proofs.lemmas.List.{map-append}
use Rattle.std.specs.Str.{chars, IsUtf8}
use Rattle.dm_stream.specs.declared.tokens.Span.{Span}
use Rattle.dm_stream.specs.declared.tokens.Token.{Token}
use Rattle.dm_stream.specs.declared.tokens.Token.TheVariants as t
use Rattle.dm_stream.specs.declared.error.Error.TheVariants.{NoMemory, Refused}
use Rattle.dm_stream.specs.declared.error.Kind.{Kind}
use Rattle.dm_stream.specs.declared.error.Kind.TheVariants as kind
use Rattle.dm_lexer.specs.declared.lexing.Lexeme.{Lexeme}
use Rattle.dm_lexer.specs.declared.lexing.Lexeme.TheVariants as lexeme
use Rattle.dm_stream.specs.Cursors.{token_span}
use Rattle.dm_stream.specs.Trees.{Trees, no_trees, token, group}
use Rattle.dm_stream.specs.declared.levels.TheConstants.{DEEPEST}
use Rattle.dm_lexer.specs.Nesting.{marks, first_deep, IsRefusedWithin}
use Rattle.dm_lexer.specs.Rows.{Reading, reading}
use Rattle.dm_stream.specs.Layout.{spelled, is_joint, layout, nowhere}
use Rattle.dm_lexer.specs.Written.{unplaced_token, unplaced, HasTrees, alone, IsSpellable, AreSpellable, may_touch, is_spaced, are_spaced, AreWritable, AreShallowWithin, OnlyWritableLexBack, TreesAreOne, ShallowIsReadWithin, ShallowIsRead}
use Rattle.dm_lexer.proofs.Nestings.{trees-only}
use Rattle.dm_lexer.proofs.KeptRows.{unplaced_lexeme}
use Rattle.dm_lexer.proofs.LexedBack.{spelled-unplaced, spelled-alone}
use Rattle.dm_lexer.proofs.ReadWritable.{read-is_writable}

-- tokens that are spelled alike

pub spellable-alike : (k j : Token) → unplaced_token (alone k) ≡ unplaced_token (alone j) → IsSpellable k → IsSpellable j
spellable-alike k j h s =
    let text : spelled k ≡ spelled j =
    sym (spelled-unplaced (alone k) ∙ spelled-alone k) ∙ ap spelled h ∙ spelled-unplaced (alone j) ∙ spelled-alone j in
    let P : List ℕ → Type 0 = λ l. IsUtf8 l in
    let Q : List ℕ → Type 0 = λ l. HasTrees l (token (alone j) no_trees) in
    let has : HasTrees (spelled k) (token (alone j) no_trees) =
    record { read = s.has.read; are_read = s.has.are_read; same = s.has.same ∙ ap (λ i. token i no_trees) h } in
    record { utf8 = subst P text s.utf8; has = subst Q text has }

alone-unplaced : (k : Token) → unplaced_token (alone k) ≡ alone (unplaced_token k)
alone-unplaced (t.Ident i) = refl
alone-unplaced (t.Lifetime l) = refl
alone-unplaced (t.Punct p) = refl
alone-unplaced (t.Literal l) = refl

pub spellable-same : (k j : Token) → unplaced_token k ≡ unplaced_token j → IsSpellable k → IsSpellable j
spellable-same k j h s = spellable-alike k j (alone-unplaced k ∙ ap alone h ∙ sym (alone-unplaced j)) s

-- trees

pub are_spellable-same : (ts us : Trees) → unplaced ts ≡ unplaced us → AreSpellable ts → AreSpellable us
are_spellable-same no_trees no_trees h s = tt
are_spellable-same no_trees (token j us) h s = absurd (cc)
are_spellable-same no_trees (group e f i u us) h s = absurd (cc)
are_spellable-same (token k ts) no_trees h s = absurd (cc)
are_spellable-same (token k ts) (token j us) h s = (spellable-same k j (cc) s.0, are_spellable-same ts us (cc) s.1)
are_spellable-same (token k ts) (group e f i u us) h s = absurd (cc)
are_spellable-same (group d from inside upto ts) no_trees h s = absurd (cc)
are_spellable-same (group d from inside upto ts) (token j us) h s = absurd (cc)
are_spellable-same (group d from inside upto ts) (group e f i u us) h s = (are_spellable-same inside i (cc) s.0, are_spellable-same ts us (cc) s.1)

touch-unplaced : (c : ℕ) (ts : Trees) → may_touch c (unplaced ts) ≡ may_touch c ts
touch-unplaced c no_trees = refl
touch-unplaced c (token (t.Ident i) rest) = refl
touch-unplaced c (token (t.Lifetime l) rest) = refl
touch-unplaced c (token (t.Punct p) rest) = refl
touch-unplaced c (token (t.Literal l) rest) = refl
touch-unplaced c (group d from inside upto rest) = refl

spaced-unplaced : (k : Token) (ts : Trees) → is_spaced (unplaced_token k) (unplaced ts) ≡ is_spaced k ts
spaced-unplaced (t.Ident i) ts = refl
spaced-unplaced (t.Lifetime l) ts = refl
spaced-unplaced (t.Punct p) ts = ap (λ v. if is_joint p.spacing then v else true) (touch-unplaced p.ch ts)
spaced-unplaced (t.Literal l) ts = refl

pub are_spaced-unplaced : (ts : Trees) → are_spaced (unplaced ts) ≡ are_spaced ts
are_spaced-unplaced no_trees = refl
are_spaced-unplaced (token k rest) =
    ap (λ v. v && are_spaced (unplaced rest)) (spaced-unplaced k rest) ∙ ap (λ v. is_spaced k rest && v) (are_spaced-unplaced rest)
are_spaced-unplaced (group d from inside upto rest) =
    ap (λ v. v && are_spaced (unplaced rest)) (are_spaced-unplaced inside) ∙ ap (λ v. are_spaced inside && v) (are_spaced-unplaced rest)

pub writable-same : (ts us : Trees) → unplaced ts ≡ unplaced us → AreWritable ts → AreWritable us
writable-same ts us h w = record {
  spellable = are_spellable-same ts us h w.spellable;
  spaced = sym (are_spaced-unplaced us) ∙ ap are_spaced (sym h) ∙ are_spaced-unplaced ts ∙ w.spaced;
}

pub only-writable : OnlyWritableLexBack
only-writable ts u h = writable-same h.read ts h.same (read-is_writable (layout ts) h.read u h.are_read)

pub trees-are_one : TreesAreOne
trees-are_one text ts us h k = ap unplaced (trees-only (reading 0 0 (chars text)) h.read us h.are_read k) ∙ h.same

-- how deep lexemes stand does not depend on their ranges

marks-unplaced : (ts : Trees) → marks (unplaced ts) ≡ map unplaced_lexeme (marks ts)
marks-unplaced no_trees = refl
marks-unplaced (token k rest) = ap (λ l. lexeme.Token (unplaced_token k) ∷ l) (marks-unplaced rest)
marks-unplaced (group d from inside upto rest) =
    ap (λ l. lexeme.Open d nowhere ∷ (l ++ lexeme.Close d nowhere ∷ marks (unplaced rest))) (marks-unplaced inside) ∙
    ap (λ l. lexeme.Open d nowhere ∷ (map unplaced_lexeme (marks inside) ++ lexeme.Close d nowhere ∷ l)) (marks-unplaced rest) ∙
    ap (λ l. lexeme.Open d nowhere ∷ l) (sym (map-append unplaced_lexeme (marks inside) (lexeme.Close d upto ∷ marks rest)))

deep-cond : (b : Bool) (s r : Span) (o p : Option Span) → (o ≡ None → p ≡ None) → cond b (Some s) o ≡ None → cond b (Some r) p ≡ None
deep-cond true s r o p f h = absurd (cc)
deep-cond false s r o p f h = f h

deep-in : (deepest depth : ℕ) (xs : List Lexeme) → first_deep deepest depth xs ≡ None → first_deep deepest depth (map unplaced_lexeme xs) ≡ None
deep-in deepest depth [] h = refl
deep-in deepest depth (lexeme.Token k ∷ xs) h =
    deep-cond (nat_lt deepest depth) (token_span k) (token_span (unplaced_token k)) (first_deep deepest depth xs) (first_deep deepest depth (map unplaced_lexeme xs)) (deep-in deepest depth xs) h
deep-in deepest depth (lexeme.Open d s ∷ xs) h =
    deep-cond (nat_lt deepest depth) s nowhere (first_deep deepest (suc depth) xs) (first_deep deepest (suc depth) (map unplaced_lexeme xs)) (deep-in deepest (suc depth) xs) h
deep-in deepest depth (lexeme.Close d s ∷ xs) h =
    deep-cond (nat_lt deepest (depth - 1)) s nowhere (first_deep deepest (depth - 1) xs) (first_deep deepest (depth - 1) (map unplaced_lexeme xs)) (deep-in deepest (depth - 1) xs) h

deep-out : (deepest depth : ℕ) (xs : List Lexeme) → first_deep deepest depth (map unplaced_lexeme xs) ≡ None → first_deep deepest depth xs ≡ None
deep-out deepest depth [] h = refl
deep-out deepest depth (lexeme.Token k ∷ xs) h =
    deep-cond (nat_lt deepest depth) (token_span (unplaced_token k)) (token_span k) (first_deep deepest depth (map unplaced_lexeme xs)) (first_deep deepest depth xs) (deep-out deepest depth xs) h
deep-out deepest depth (lexeme.Open d s ∷ xs) h =
    deep-cond (nat_lt deepest depth) nowhere s (first_deep deepest (suc depth) (map unplaced_lexeme xs)) (first_deep deepest (suc depth) xs) (deep-out deepest (suc depth) xs) h
deep-out deepest depth (lexeme.Close d s ∷ xs) h =
    deep-cond (nat_lt deepest (depth - 1)) nowhere s (first_deep deepest (depth - 1) (map unplaced_lexeme xs)) (first_deep deepest (depth - 1) xs) (deep-out deepest (depth - 1) xs) h

pub shallow-same : (deepest : ℕ) (ts us : Trees) → unplaced ts ≡ unplaced us → AreShallowWithin deepest ts → AreShallowWithin deepest us
shallow-same deepest ts us h s =
    let P : List Lexeme → Type 0 = λ l. first_deep deepest 0 l ≡ None in
    deep-out deepest 0 (marks us) (subst P (sym (marks-unplaced ts) ∙ ap marks h ∙ marks-unplaced us) (deep-in deepest 0 (marks ts) s))

refused-none : (deepest : ℕ) (text : List ℕ) (ts : Trees) (k : Kind) (s : Span) → HasTrees text ts → AreShallowWithin deepest ts →
    IsRefusedWithin deepest text k s → ⊥
refused-none deepest text ts kind.Lex s h f r = r.1 h.read h.are_read
refused-none deepest text ts kind.TooDeep s h f r =
    let shallow : AreShallowWithin deepest h.read = shallow-same deepest ts h.read (sym h.same) f in
    let e : first_deep deepest 0 (marks h.read) ≡ Some s = ap (λ (v : Reading). first_deep deepest 0 v.lexemes) (sym h.are_read) ∙ r.1 in
    let no : ◌≡◌ {A = Option Span} None (Some s) = sym shallow ∙ e in
    cc
refused-none deepest text ts k s h f r = r

pub shallow-is_read_within : ShallowIsReadWithin
shallow-is_read_within deepest text ts h s NoMemory r = refl
shallow-is_read_within deepest text ts h s (Refused q) r = absurd (refused-none deepest text ts q.kind q.span h s r)

pub shallow-is_read : ShallowIsRead
shallow-is_read = shallow-is_read_within DEEPEST
