-- The front of writable trees is writable, where its last punct is joint to nothing.
use Rattle.std.proofs.Common.{◌≡◌, Bool, true, false, ◌∷◌, ◌++◌, ap, ◌∙◌, sym, refl}
use Rattle.std.specs.Prelude.{ℕ, if◌then◌else◌}
use Rattle.std.proofs.lemmas.Bool.{and_from, and_parts}
use Rattle.dm_stream.specs.declared.tokens.Spacing.{Spacing}
use Rattle.dm_stream.specs.declared.tokens.Spacing.TheVariants.{Joint, Alone}
use Rattle.dm_stream.specs.declared.tokens.Token.TheVariants as t
use Rattle.dm_stream.specs.Trees.{Trees, no_trees, token, group, join}
use Rattle.dm_stream.specs.Layout.{is_joint}
use Rattle.dm_lexer.specs.Written.{unplaced_token, unplaced, IsSpellable, AreSpellable, may_touch, is_spaced, are_spaced, AreWritable}
use Rattle.dm_lexer.proofs.Rewritten.{spellable-alike}
use Rattle.dm_ast.specs.Spelling.{at_end}
use Rattle.dm_ast.specs.Runs.{unjoined, last_alone}
use Rattle.dm_type_eq.specs.BareTokens.{opening, closing, bare, tokens_of}

spellable_unjoined : (k : t.the_data) → IsSpellable k → IsSpellable (unjoined k)
spellable_unjoined (t.Ident i) h = h
spellable_unjoined (t.Lifetime l) h = h
spellable_unjoined (t.Literal l) h = h
spellable_unjoined (t.Punct p) h = spellable-alike (t.Punct p) (unjoined (t.Punct p)) refl h

spellable_if : (b : Bool) (k : t.the_data) → IsSpellable k → IsSpellable (if b then unjoined k else k)
spellable_if true k h = spellable_unjoined k h
spellable_if false k h = h

spellable_front : (ts us : Trees) → AreSpellable (join ts us) → AreSpellable (last_alone ts)
spellable_front no_trees us h = tt
spellable_front (token k rest) us h = (spellable_if (at_end rest) k h.0, spellable_front rest us h.1)
spellable_front (group d from inside upto rest) us h = (h.0, spellable_front rest us h.1)

alone_spaced : (k : t.the_data) (ts : Trees) → is_spaced (unjoined k) ts ≡ true
alone_spaced (t.Ident i) ts = refl
alone_spaced (t.Lifetime l) ts = refl
alone_spaced (t.Literal l) ts = refl
alone_spaced (t.Punct p) ts = refl

touch_if : (b : Bool) (c : ℕ) (k : t.the_data) (rest more : Trees) → may_touch c (token k rest) ≡ true → may_touch c (token (if b then unjoined k else k) more) ≡ true
touch_if true c (t.Punct q) rest more h = h
touch_if false c (t.Punct q) rest more h = h
touch_if b c (t.Ident i) rest more h = absurd (cc)
touch_if b c (t.Lifetime l) rest more h = absurd (cc)
touch_if b c (t.Literal l) rest more h = absurd (cc)

touch_front : (c : ℕ) (ts us : Trees) → at_end ts ≡ false → may_touch c (join ts us) ≡ true → may_touch c (last_alone ts) ≡ true
touch_front c no_trees us e h = absurd (cc)
touch_front c (token k rest) us e h = touch_if (at_end rest) c k (join rest us) (last_alone rest) h
touch_front c (group d from inside upto rest) us e h = absurd (cc)

joint_if : (s : Spacing) (a b : Bool) → (a ≡ true → b ≡ true) → (if is_joint s then a else true) ≡ true → (if is_joint s then b else true) ≡ true
joint_if Joint a b f h = f h
joint_if Alone a b f h = refl

token_spaced : (k : t.the_data) (ts us : Trees) → at_end ts ≡ false → is_spaced k (join ts us) ≡ true → is_spaced k (last_alone ts) ≡ true
token_spaced (t.Ident i) ts us e h = refl
token_spaced (t.Lifetime l) ts us e h = refl
token_spaced (t.Literal l) ts us e h = refl
token_spaced (t.Punct p) ts us e h =
    joint_if p.spacing (may_touch p.ch (join ts us)) (may_touch p.ch (last_alone ts)) (touch_front p.ch ts us e) h

spaced_if : (b : Bool) (k : t.the_data) (ts us : Trees) → at_end ts ≡ b → is_spaced k (join ts us) ≡ true → is_spaced (if b then unjoined k else k) (last_alone ts) ≡ true
spaced_if true k ts us e h = alone_spaced k (last_alone ts)
spaced_if false k ts us e h = token_spaced k ts us e h

spaced_front : (ts us : Trees) → are_spaced (join ts us) ≡ true → are_spaced (last_alone ts) ≡ true
spaced_front no_trees us h = refl
spaced_front (token k rest) us h =
    and_from (is_spaced (if at_end rest then unjoined k else k) (last_alone rest)) (are_spaced (last_alone rest)) (spaced_if (at_end rest) k rest us refl (and_parts (is_spaced k (join rest us)) (are_spaced (join rest us)) h).0)
    (spaced_front rest us (and_parts (is_spaced k (join rest us)) (are_spaced (join rest us)) h).1)
spaced_front (group d from inside upto rest) us h =
    and_from (are_spaced inside) (are_spaced (last_alone rest)) (and_parts (are_spaced inside) (are_spaced (join rest us)) h).0
    (spaced_front rest us (and_parts (are_spaced inside) (are_spaced (join rest us)) h).1)

-- an opaque part: the front of a list, cut before a comma
pub writable_front : (ts us : Trees) → AreWritable (join ts us) → AreWritable (last_alone ts)
writable_front ts us h = record { spellable = spellable_front ts us h.spellable; spaced = spaced_front ts us h.spaced }

-- ---- ranges aside

bare_unplaced : (k : t.the_data) → bare (unplaced_token k) ≡ bare k
bare_unplaced (t.Ident i) = refl
bare_unplaced (t.Lifetime l) = refl
bare_unplaced (t.Literal l) = refl
bare_unplaced (t.Punct p) = refl

tokens_unplaced : (ts : Trees) → tokens_of (unplaced ts) ≡ tokens_of ts
tokens_unplaced no_trees = refl
tokens_unplaced (token k rest) = ap (λ b. b ∷ tokens_of (unplaced rest)) (bare_unplaced k) ∙ ap (λ l. bare k ∷ l) (tokens_unplaced rest)
tokens_unplaced (group d from inside upto rest) =
    ap (λ l. opening d ∷ (l ++ closing d ∷ tokens_of (unplaced rest))) (tokens_unplaced inside) ∙
    ap (λ l. opening d ∷ (tokens_of inside ++ closing d ∷ l)) (tokens_unplaced rest)

pub tokens_same : (ts us : Trees) → unplaced ts ≡ unplaced us → tokens_of ts ≡ tokens_of us
tokens_same ts us h = sym (tokens_unplaced ts) ∙ ap tokens_of h ∙ tokens_unplaced us
