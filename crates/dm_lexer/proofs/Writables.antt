-- Trees that are writable by what they are made of.
use Rattle.std.specs.Prelude.{◌≡◌, ℕ, suc, ◌<◌, Bool, true, false, ◌||◌, ◌&&◌, nat_eq, nat_lt, cond, if◌then◌else◌, Option, Some, None, List, [], ◌∷◌, ◌++◌, length, take, drop, encode_utf8, refl}
use Rattle.std.proofs.Common.{ap, ◌∙◌, sym, subst, arith, append-nil}
use Rattle.std.proofs.Math.Seq.{take-length}
use Rattle.std.proofs.Math.Utf8.{scalar, scalars}
use Rattle.std.proofs.lemmas.Bool.{and_from, and_parts}
use Rattle.std.proofs.lemmas.Bool.Decides.{nat_tests}
use Rattle.std.proofs.lemmas.Str.{encodes-chars, encode_ascii, chars_from_encodes}
use Rattle.std.specs.Char.{is_ascii_alphabetic, is_ascii_alphanumeric}
use Rattle.std.specs.Str.{chars, encode_utf8_all, IsUtf8}
use Rattle.unicode_ident.proofs.Computing.{unicode_ident}
use Rattle.unicode_ident.proofs.IdentLemmas.{is_xid_start-ascii, is_xid_continue-ascii}
use Rattle.dm_stream.specs.declared.tokens.Span.{Span}
use Rattle.dm_stream.specs.declared.tokens.Delim.{Delim}
use Rattle.dm_stream.specs.declared.tokens.Spacing.{Spacing}
use Rattle.dm_stream.specs.declared.tokens.Spacing.TheVariants.{Joint, Alone}
use Rattle.dm_stream.specs.declared.tokens.Token.{Token}
use Rattle.dm_stream.specs.declared.tokens.Token.TheVariants as t
use Rattle.dm_lexer.specs.declared.lexing.Lexeme.TheVariants as lexeme
use Rattle.dm_lexer.specs.declared.blanks.Blank.TheVariants.{Absent}
use Rattle.dm_lexer.specs.TextFronts.{run}
use Rattle.dm_lexer.specs.Words.{begins_word, word_length, goes_on}
use Rattle.dm_lexer.specs.Blanks.{is_blank_char, blank_length}
use Rattle.dm_lexer.specs.Lexemes.{is_punct}
use Rattle.dm_stream.specs.Trees.{Trees, no_trees, token, group, join}
use Rattle.dm_lexer.specs.Rows.{gives, row, word, punct}
use Rattle.dm_stream.specs.Layout.{is_joint}
use Rattle.dm_lexer.specs.Written.{HasTrees, alone, IsSpellable, AreSpellable, may_touch, is_spaced, are_spaced, AreWritable}
use Rattle.dm_lexer.proofs.Kept.{cut, cut-nothing}
use Rattle.dm_lexer.proofs.RowSteps.{starts-goes_on, punct-ascii}
use Rattle.dm_lexer.proofs.Stops.{goes-not, goes-no_ascii}
use Rattle.dm_lexer.proofs.KeptRows.{IsKept, kept-word, no-blank}
use Rattle.dm_lexer.proofs.MarkRows.{punct-row, punct-no_blank}
use Rattle.dm_lexer.proofs.LexedBack.{Step, row-step, row-positive}
use Rattle.dm_lexer.proofs.ReadWritable.{step-has}

-- one list behind another

pub spellable-join : (ts us : Trees) → AreSpellable ts → AreSpellable us → AreSpellable (join ts us)
spellable-join no_trees us h k = k
spellable-join (token j rest) us h k = (h.0, spellable-join rest us h.1 k)
spellable-join (group d from inside upto rest) us h k = (h.0, spellable-join rest us h.1 k)

pub spellable-left : (ts us : Trees) → AreSpellable (join ts us) → AreSpellable ts
spellable-left no_trees us h = tt
spellable-left (token j rest) us h = (h.0, spellable-left rest us h.1)
spellable-left (group d from inside upto rest) us h = (h.0, spellable-left rest us h.1)

pub spellable-right : (ts us : Trees) → AreSpellable (join ts us) → AreSpellable us
spellable-right no_trees us h = h
spellable-right (token j rest) us h = spellable-right rest us h.1
spellable-right (group d from inside upto rest) us h = spellable-right rest us h.1

touch-join : (c : ℕ) (ts us : Trees) → may_touch c ts ≡ true → may_touch c (join ts us) ≡ true
touch-join c (token (t.Punct q) rest) us h = h
touch-join c _ us h = absurd (cc)

joint-if : (s : Spacing) (a b : Bool) → (a ≡ true → b ≡ true) → (if is_joint s then a else true) ≡ true → (if is_joint s then b else true) ≡ true
joint-if Joint a b f h = f h
joint-if Alone a b f h = refl

is_spaced-join : (k : Token) (ts us : Trees) → is_spaced k ts ≡ true → is_spaced k (join ts us) ≡ true
is_spaced-join (t.Punct p) ts us h = joint-if p.spacing (may_touch p.ch ts) (may_touch p.ch (join ts us)) (touch-join p.ch ts us) h
is_spaced-join (t.Ident i) ts us h = refl
is_spaced-join (t.Lifetime l) ts us h = refl
is_spaced-join (t.Literal l) ts us h = refl

pub spaced-join : (ts us : Trees) → are_spaced ts ≡ true → are_spaced us ≡ true → are_spaced (join ts us) ≡ true
spaced-join no_trees us h k = k
spaced-join (token j rest) us h k =
    and_from (is_spaced j (join rest us)) (are_spaced (join rest us)) (is_spaced-join j rest us (and_parts (is_spaced j rest) (are_spaced rest) h).0)
    (spaced-join rest us (and_parts (is_spaced j rest) (are_spaced rest) h).1 k)
spaced-join (group d from inside upto rest) us h k =
    and_from (are_spaced inside) (are_spaced (join rest us)) (and_parts (are_spaced inside) (are_spaced rest) h).0
    (spaced-join rest us (and_parts (are_spaced inside) (are_spaced rest) h).1 k)

pub spaced-right : (ts us : Trees) → are_spaced (join ts us) ≡ true → are_spaced us ≡ true
spaced-right no_trees us h = h
spaced-right (token j rest) us h = spaced-right rest us (and_parts (is_spaced j (join rest us)) (are_spaced (join rest us)) h).1
spaced-right (group d from inside upto rest) us h = spaced-right rest us (and_parts (are_spaced inside) (are_spaced (join rest us)) h).1

pub writable-join : (ts us : Trees) → AreWritable ts → AreWritable us → AreWritable (join ts us)
writable-join ts us h k = record { spellable = spellable-join ts us h.spellable k.spellable; spaced = spaced-join ts us h.spaced k.spaced }

pub writable-right : (ts us : Trees) → AreWritable (join ts us) → AreWritable us
writable-right ts us h = record { spellable = spellable-right ts us h.spellable; spaced = spaced-right ts us h.spaced }

pub writable-none : AreWritable no_trees
writable-none = record { spellable = tt; spaced = refl }

pub writable-group : (d : Delim) (from upto : Span) (inside rest : Trees) → AreWritable inside → AreWritable rest → AreWritable (group d from inside upto rest)
writable-group d from upto inside rest h k = record {
  spellable = (h.spellable, k.spellable);
  spaced = and_from (are_spaced inside) (are_spaced rest) h.spaced k.spaced;
}

-- one punct

punct-step : (c : ℕ) (spacing : Spacing) (s : Span) → is_punct c ≡ true → Step 0 (c ∷ []) [] (lexeme.Token (alone (t.Punct record { ch = c; spacing = spacing; span = s })))
punct-step c spacing s h =
    row-step 0 1 (c ∷ []) [] (lexeme.Token (alone (t.Punct record { ch = c; spacing = spacing; span = s }))) (punct 0 c [])
    (punct-no_blank c [] h refl) (punct-row 0 c [] h) (omega arith) refl refl

scalar-small : (c : ℕ) → c < 128 → scalar c ≡ true
scalar-small c h = grind (arith, nat_tests)

pub punct-spellable : (c : ℕ) (spacing : Spacing) (s : Span) → is_punct c ≡ true → IsSpellable (t.Punct record { ch = c; spacing = spacing; span = s })
punct-spellable c spacing s h =
    let k : Token = t.Punct record { ch = c; spacing = spacing; span = s } in
    let one : encode_utf8_all (c ∷ []) ≡ encode_utf8 c = append-nil (encode_utf8 c) in
    let ok : scalars (c ∷ []) ≡ true = and_from (scalar c) true (scalar-small c (punct-ascii c h)) refl in
    let u : IsUtf8 (encode_utf8 c) = (c ∷ [], (ok, one)) in
    let P : List ℕ → Type 0 = λ l. Step 0 l [] (lexeme.Token (alone k)) in
    record { utf8 = u; has = step-has (encode_utf8 c) (alone k) (subst P (chars_from_encodes (c ∷ []) (encode_utf8 c) u one) (punct-step c spacing s h)) }

-- a word

-- the blanks beyond ASCII
wide-blanks : (goes_on 133 ≡ false) × (goes_on 8206 ≡ false) × (goes_on 8207 ≡ false) × (goes_on 8232 ≡ false) × (goes_on 8233 ≡ false)
unfolding unicode_ident
wide-blanks = (refl, refl, refl, refl, refl)

goes-no_blank : (c : ℕ) → goes_on c ≡ true → is_blank_char c ≡ false
goes-no_blank c h =
    let a : nat_eq c 9 ≡ false = goes-no_ascii c 9 (omega arith) refl h in
    let b : nat_eq c 10 ≡ false = goes-no_ascii c 10 (omega arith) refl h in
    let d : nat_eq c 11 ≡ false = goes-no_ascii c 11 (omega arith) refl h in
    let e : nat_eq c 12 ≡ false = goes-no_ascii c 12 (omega arith) refl h in
    let f : nat_eq c 13 ≡ false = goes-no_ascii c 13 (omega arith) refl h in
    let g : nat_eq c 32 ≡ false = goes-no_ascii c 32 (omega arith) refl h in
    let i : nat_eq c 133 ≡ false = goes-not c 133 wide-blanks.0 h in
    let j : nat_eq c 8206 ≡ false = goes-not c 8206 wide-blanks.1 h in
    let k : nat_eq c 8207 ≡ false = goes-not c 8207 wide-blanks.2 h in
    let l : nat_eq c 8232 ≡ false = goes-not c 8232 wide-blanks.3 h in
    let m : nat_eq c 8233 ≡ false = goes-not c 8233 wide-blanks.4 h in
    grind (arith, nat_tests)

pub drop-length : (cs : List ℕ) → drop (length cs) cs ≡ []
drop-length [] = refl
drop-length (c ∷ cs) = drop-length cs

-- a text of which a row finds all
pub all-read : (text : List ℕ) (k : Token) (cs : List ℕ) → chars text ≡ cs → IsKept 0 (length cs) cs [] (lexeme.Token k) → HasTrees text (token k no_trees)
all-read text k cs e kept =
    let all : cut (length cs) cs [] ≡ cs = cut-nothing (length cs) cs ∙ take-length cs in
    let P : List ℕ → Type 0 = λ l. Step 0 l [] (lexeme.Token k) in
    let row_is : row 0 cs ≡ gives kept.again (length cs) = ap (row 0) (sym all) ∙ kept.row_is in
    step-has text k
    (subst P (sym e)
    (row-step 0 (length cs) cs [] (lexeme.Token k) kept.again (ap blank_length (sym all) ∙ kept.no_blank) row_is
    (row-positive 0 (length cs) cs kept.again row_is) (drop-length cs) kept.same))

word-blank : (cs : List ℕ) → begins_word cs ≡ true → blank_length cs ≡ Absent
word-blank [] h = absurd (cc)
word-blank (c ∷ cs) h =
    let g : goes_on c ≡ true = starts-goes_on c h in
    no-blank c cs (goes-no_blank c g) (goes-no_ascii c 47 (omega arith) refl g)

pub word-spellable : (name : List ℕ) (s : Span) → IsUtf8 name → begins_word (chars name) ≡ true → run goes_on (chars name) ≡ length (chars name) →
    IsSpellable (t.Ident record { name = name; raw = false; span = s })
word-spellable name s u b all =
    let cs : List ℕ = chars name in
    let n : ℕ = length cs in
    let k : Token = t.Ident record { name = encode_utf8_all (take n cs); raw = false; span = s } in
    let size : word_length cs ≡ Some n = ap (λ v. cond {A = Option ℕ} v (Some (run goes_on cs)) None) b ∙ ap (λ v. Some v) all in
    let kept : IsKept 0 n cs [] (word 0 cs n) = kept-word 0 0 n cs [] (word 0 cs n) refl (word-blank cs b) b size refl in
    let again : IsKept 0 n cs [] (lexeme.Token k) = record { again = kept.again; row_is = kept.row_is; same = kept.same; no_blank = kept.no_blank } in
    let same : encode_utf8_all (take n cs) ≡ name = ap encode_utf8_all (take-length cs) ∙ encodes-chars name u in
    let P : List ℕ → Type 0 = λ l. HasTrees name (token (t.Ident record { name = l; raw = false; span = s }) no_trees) in
    record { utf8 = u; has = subst P same (all-read name k cs refl again) }

-- ASCII words, as a test that computes

abbrev pub goes_on_ascii : ℕ → Bool
goes_on_ascii c = is_ascii_alphanumeric c || nat_eq c 95

abbrev pub all_go_on : List ℕ → Bool
all_go_on [] = true
all_go_on (c ∷ cs) = goes_on_ascii c && all_go_on cs

abbrev pub is_ascii_word : List ℕ → Bool
is_ascii_word [] = false
is_ascii_word (c ∷ cs) = (is_ascii_alphabetic c || nat_eq c 95) && all_go_on cs

pub all_go_on-append : (a b : List ℕ) → all_go_on a ≡ true → all_go_on b ≡ true → all_go_on (a ++ b) ≡ true
all_go_on-append [] b h k = k
all_go_on-append (c ∷ a) b h k =
    and_from (goes_on_ascii c) (all_go_on (a ++ b)) (and_parts (goes_on_ascii c) (all_go_on a) h).0 (all_go_on-append a b (and_parts (goes_on_ascii c) (all_go_on a) h).1 k)

pub ascii_word-append : (a b : List ℕ) → is_ascii_word a ≡ true → all_go_on b ≡ true → is_ascii_word (a ++ b) ≡ true
ascii_word-append [] b h k = absurd (cc)
ascii_word-append (c ∷ a) b h k =
    and_from (is_ascii_alphabetic c || nat_eq c 95) (all_go_on (a ++ b)) (and_parts (is_ascii_alphabetic c || nat_eq c 95) (all_go_on a) h).0
    (all_go_on-append a b (and_parts (is_ascii_alphabetic c || nat_eq c 95) (all_go_on a) h).1 k)

ascii-small : (c : ℕ) → goes_on_ascii c ≡ true → c < 128
ascii-small c h = grind (arith, nat_tests)

ascii-start : (c : ℕ) → (is_ascii_alphabetic c || nat_eq c 95) ≡ true → goes_on_ascii c ≡ true
ascii-start c h = grind (arith, nat_tests)

abbrev pub all_small : List ℕ → Bool
all_small [] = true
all_small (c ∷ cs) = nat_lt c 128 && all_small cs

small-encodes : (cs : List ℕ) → all_small cs ≡ true → encode_utf8_all cs ≡ cs
small-encodes [] h = refl
small-encodes (c ∷ cs) h =
    let l : nat_lt c 128 ≡ true = (and_parts (nat_lt c 128) (all_small cs) h).0 in
    let s : c < 128 = grind (arith, nat_tests) in
    ap (λ e. e ++ encode_utf8_all cs) (encode_ascii c s) ∙ ap (λ e. c ∷ e) (small-encodes cs (and_parts (nat_lt c 128) (all_small cs) h).1)

small-scalars : (cs : List ℕ) → all_small cs ≡ true → scalars cs ≡ true
small-scalars [] h = refl
small-scalars (c ∷ cs) h =
    let l : nat_lt c 128 ≡ true = (and_parts (nat_lt c 128) (all_small cs) h).0 in
    let s : c < 128 = grind (arith, nat_tests) in
    and_from (scalar c) (scalars cs) (scalar-small c s) (small-scalars cs (and_parts (nat_lt c 128) (all_small cs) h).1)

pub small-utf8 : (cs : List ℕ) → all_small cs ≡ true → IsUtf8 cs
small-utf8 cs h = (cs, (small-scalars cs h, small-encodes cs h))

pub small-chars : (cs : List ℕ) → all_small cs ≡ true → chars cs ≡ cs
small-chars cs h = sym (chars_from_encodes cs cs (small-utf8 cs h) (small-encodes cs h))

go_on-small : (cs : List ℕ) → all_go_on cs ≡ true → all_small cs ≡ true
go_on-small [] h = refl
go_on-small (c ∷ cs) h =
    let l : c < 128 = ascii-small c (and_parts (goes_on_ascii c) (all_go_on cs) h).0 in
    and_from (nat_lt c 128) (all_small cs) (grind (arith, nat_tests)) (go_on-small cs (and_parts (goes_on_ascii c) (all_go_on cs) h).1)

go_on-run : (cs : List ℕ) → all_go_on cs ≡ true → run goes_on cs ≡ length cs
go_on-run [] h = refl
go_on-run (c ∷ cs) h =
    let g : goes_on_ascii c ≡ true = (and_parts (goes_on_ascii c) (all_go_on cs) h).0 in
    ap (λ v. cond v (suc (run goes_on cs)) 0) (is_xid_continue-ascii c (ascii-small c g) ∙ g) ∙
    ap (λ n. suc n) (go_on-run cs (and_parts (goes_on_ascii c) (all_go_on cs) h).1)

word-goes : (cs : List ℕ) → is_ascii_word cs ≡ true → all_go_on cs ≡ true
word-goes [] h = refl
word-goes (c ∷ cs) h =
    and_from (goes_on_ascii c) (all_go_on cs) (ascii-start c (and_parts (is_ascii_alphabetic c || nat_eq c 95) (all_go_on cs) h).0)
    (and_parts (is_ascii_alphabetic c || nat_eq c 95) (all_go_on cs) h).1

word-begins : (cs : List ℕ) → is_ascii_word cs ≡ true → begins_word cs ≡ true
word-begins [] h = absurd (cc)
word-begins (c ∷ cs) h =
    let s : (is_ascii_alphabetic c || nat_eq c 95) ≡ true = (and_parts (is_ascii_alphabetic c || nat_eq c 95) (all_go_on cs) h).0 in
    ap (λ v. v || nat_eq c 95) (is_xid_start-ascii c (ascii-small c (ascii-start c s))) ∙ s

pub ascii_word-spellable : (name : List ℕ) (s : Span) → is_ascii_word name ≡ true → IsSpellable (t.Ident record { name = name; raw = false; span = s })
ascii_word-spellable name s h =
    let small : all_small name ≡ true = go_on-small name (word-goes name h) in
    let e : chars name ≡ name = small-chars name small in
    word-spellable name s (small-utf8 name small) (ap begins_word e ∙ word-begins name h)
    (ap (run goes_on) e ∙ go_on-run name (word-goes name h) ∙ ap length (sym e))
