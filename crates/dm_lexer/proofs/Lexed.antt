-- What a text is read as, from how its lexemes are nested.
use Rattle.std.specs.Prelude.{◌≡◌, ℕ, List, length, None, Ok, Err, []}
use Rattle.std.specs.Str.{IsUtf8}
use Rattle.dm_stream.specs.Trees.{Stream, unflatten}
use Rattle.dm_stream.specs.declared.error.Error.{Error}
use Rattle.dm_lexer.specs.declared.nesting.Nesting.{Nesting}
use Rattle.dm_lexer.specs.Nesting.{IsNestingOf, IsTreesOf, IsRefusalWithin}
use Rattle.dm_lexer.specs.Lexed.{IsLexed}
use Rattle.dm_lexer.proofs.Nestings.{trees-only}
use Rattle.dm_lexer.proofs.Ranges.{trees-spelled}
use Rattle.dm_lexer.proofs.ReadWritable.{read-is_writable}
use Rattle.dm_lexer.proofs.LexSteps.{lex-whole, lex-trees}

pub refusal-lexed : (deepest : ℕ) (text : List ℕ) (e : Error) → IsRefusalWithin deepest text e → IsLexed deepest text (Err e)
refusal-lexed deepest text e h = record { trees = tt; only = tt; spelled = tt; writable = tt; limit = tt; whole = tt; refused = h }

-- where no group is open at the end, and none too deep
pub nesting-lexed : (deepest : ℕ) (text : List ℕ) (n : Nesting) (s : Stream) → IsUtf8 text → IsNestingOf deepest text n → n.opened.items ≡ [] →
    n.deep.first ≡ None → s.trees ≡ unflatten n.entries.items → s.limit ≡ length text → IsLexed deepest text (Ok s)
nesting-lexed deepest text n s u l k d e z =
    let t : IsTreesOf text s.trees = lex-trees deepest text n s.trees l k e in
    record {
      trees = t;
      only = λ us j. trees-only _ _ us t j;
      spelled = trees-spelled _ _ u t;
      writable = read-is_writable _ _ u t;
      limit = z;
      whole = lex-whole deepest text n l k d;
      refused = tt;
    }
