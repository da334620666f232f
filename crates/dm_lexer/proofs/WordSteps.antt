-- Identifiers.
use Rattle.std.specs.Prelude.{◌≡◌, ℕ, ◌+◌, ◌<◌, true, false, Some, List, ◌∷◌, ◌++◌, take, drop, encode_utf8}
use Rattle.std.proofs.Common.{ap, ◌∙◌, sym, arith, eq-eqb}
use Rattle.std.specs.Str.{chars, IsUtf8}
use Rattle.std.proofs.lemmas.Bool.{and_from}
use Rattle.dm_lexer.specs.TextFronts.{IsFront, run, IsSized, IsBehind}
use Rattle.dm_lexer.specs.Words.{begins_pair, begins_word, begins_raw_word, is_never_raw, word_bytes, word_length, raw_word_length, goes_on}
use Rattle.dm_lexer.proofs.TextFronts.{front-behind, behind-two, behind-chars, cond_true, cond_false}

pub sized_word : (text : List ℕ) (size : ℕ) → begins_word (chars text) ≡ true → IsFront text size (run goes_on (chars text)) →
    IsSized text size (word_length (chars text))
sized_word text size h f = (run goes_on (chars text), cond_true _ _ _ h, f)

pub ruleset words = (sized_word)

pub pair-behind : (text after beyond : List ℕ) (a b c d : ℕ) → IsUtf8 text → a < 128 → b < 128 → c ≡ a → d ≡ b → text ≡ encode_utf8 c ++ after →
    chars text ≡ c ∷ chars after → after ≡ encode_utf8 d ++ beyond → chars after ≡ d ∷ chars beyond →
    (begins_pair a b (chars text) ≡ true) × IsBehind text 2 2 beyond
pair-behind text after beyond a b c d u a_small b_small ca db text_is chars_are after_is chars_after_are =
    let e : chars text ≡ c ∷ d ∷ chars beyond = chars_are ∙ ap (λ l. c ∷ l) chars_after_are in
    let c_small : c < 128 = omega arith in
    let d_small : d < 128 = omega arith in (
      ap (begins_pair a b) e ∙ and_from _ _ (eq-eqb c a ca) (eq-eqb d b db),
      behind-two text after beyond c d u c_small d_small text_is chars_are after_is chars_after_are,
    )

pub sized-raw : (text rest : List ℕ) (size : ℕ) → begins_pair 114 35 (chars text) ≡ true → IsBehind text 2 2 rest → begins_word (chars rest) ≡ true →
    IsFront rest size (run goes_on (chars rest)) → is_never_raw (take size rest) ≡ false → IsSized text (2 + size) (raw_word_length (chars text))
sized-raw text rest size pair b h f n =
    let cs : List ℕ = chars text in
    let k : chars rest ≡ drop 2 cs = behind-chars text rest 2 2 b in
    let raw : begins_raw_word cs ≡ true = and_from _ _ pair (ap begins_word (sym k) ∙ h) in
    let never : is_never_raw (word_bytes (drop 2 cs)) ≡ false =
    ap (λ l. is_never_raw (word_bytes l)) (sym k) ∙ ap is_never_raw (sym f.bytes_are) ∙ n in (
      2 + run goes_on (chars rest),
      cond_true _ _ _ raw ∙ cond_false _ _ _ never ∙ ap (λ l. Some (2 + run goes_on l)) (sym k),
      front-behind text rest 2 size 2 (run goes_on (chars rest)) b f,
    )
