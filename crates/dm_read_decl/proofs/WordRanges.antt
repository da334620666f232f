-- The range of a word is that of the front, where the word is read.
use Rattle.std.proofs.Common.{◌≡◌, ℕ, Bool, true, false, if◌then◌else◌, List, Some, None, Ok, refl}
use Rattle.dm_stream.specs.declared.tokens.Ident.{Ident}
use Rattle.dm_stream.specs.declared.tokens.Token.TheVariants as t
use Rattle.dm_stream.specs.Trees.{Trees, token}
use Rattle.dm_stream.specs.Cursors.{front_span}
use Rattle.std.specs.Prelude.{nat_lt}
use Rattle.dm_ast.specs.Spelling.{Where, deepest, is_word}
use Rattle.dm_ast.specs.Readers.{mapped, too_deep_at, if_found, if_seen, read_word}
use Rattle.dm_read.specs.DeclarationReaders.{read_word_at}
use Rattle.dm_read.proofs.Deciding.{pair}

by_level : (i : Ident) (rest : Trees) (deep : Bool) →
    mapped (λ (x : Ident). x.span) (if deep then too_deep_at i.span else Ok (pair i rest)) ≡ mapped (λ (_ : Unit {0}). i.span) (if deep then too_deep_at i.span else Ok (pair tt rest))
by_level i rest false = refl
by_level i rest true = refl

by_word : (w : Where) (i : Ident) (rest : Trees) (seen : Bool) →
    mapped (λ (x : Ident). x.span) (if_found w (token (t.Ident i) rest) (if seen then Some (pair i rest) else None)) ≡
    mapped (λ (_ : Unit {0}). i.span) (if_seen seen w (token (t.Ident i) rest) rest)
by_word w i rest false = refl
by_word w i rest true = by_level i rest (nat_lt deepest w.level)

pub word_range : (word : List ℕ) (w : Where) (ts : Trees) → read_word_at word w ts ≡ mapped (λ (_ : Unit {0}). front_span ts w.limit) (read_word word w ts)
word_range word w (token (t.Ident i) rest) = by_word w i rest (is_word word i)
word_range word w _ = refl
