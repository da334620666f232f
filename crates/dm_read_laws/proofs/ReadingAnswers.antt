-- What the plain reader reads are the only implementations of the grammar with the tokens of the trees, ranges aside, and where it reads
-- nothing there are none.
use Rattle.std.specs.Prelude.{◌≡◌, List, Option, Some, None, option_map, refl}
use Rattle.std.proofs.Common.{ap, ap₂, ◌∙◌}
use Rattle.dm_stream.specs.declared.tokens.Token.{Token}
use Rattle.dm_stream.specs.declared.tokens.Token.TheVariants as t
use Rattle.dm_stream.specs.Layout.{nowhere}
use Rattle.dm_stream.specs.Trees.{Trees, no_trees, token, group}
use Rattle.dm_lexer.specs.Written.{unplaced_token, unplaced}
use Rattle.dm_output.specs.Output.{ItemTree}
use Rattle.dm_reread.specs.Unplaced.{bare_items, AreItemsOf, IsAnswer}
use Rattle.dm_reread.specs.ReadBack.{leaves, item_leaves, leaf_grammar, item_grammar, read_output}
use Rattle.dm_reread.proofs.ReadBack.{item_laws}
use Rattle.dm_reread.proofs.BareItemRows.{read-items-bare}
use Rattle.dm_reread.proofs.BareBack.{none-answers, one-answers}
use Rattle.dm_read_laws.specs.Sound.{IsBare, SoundItems}
use Rattle.dm_read_laws.specs.Reading.{ReadingAnswers}
use Rattle.dm_read_laws.proofs.SoundReaders.{readers_sound}
use Rattle.dm_read_laws.proofs.SoundItems.{items_sound}
use Rattle.dm_read_laws.proofs.HeadSound.{leaves_sound}
use Rattle.dm_read_laws.proofs.NaturalLeaves.{leaves_natural}

once_token : (k : Token) → unplaced_token (unplaced_token k) ≡ unplaced_token k
once_token (t.Ident i) = refl
once_token (t.Lifetime l) = refl
once_token (t.Punct p) = refl
once_token (t.Literal l) = refl

-- without ranges twice is once
pub once : (ts : Trees) → IsBare (unplaced ts)
once no_trees = refl
once (token k ts) = ap₂ (λ x y. token x y) (once_token k) (once ts)
once (group d from inside upto ts) = ap₂ (λ x y. group d nowhere x nowhere y) (once inside) (once ts)

sound : SoundItems item_grammar item_leaves
sound = leaves_sound leaves_natural

-- what is read has the tokens of the trees
are_items : (ts : Trees) (is : List ItemTree) → read_output ts ≡ Some is → AreItemsOf item_grammar is ts
are_items ts is e =
    let read : read_output (unplaced ts) ≡ Some (bare_items is) = read-items-bare item_leaves leaves_natural ts ∙ ap (option_map bare_items) e in
    let s = items_sound item_grammar item_leaves sound (readers_sound leaf_grammar leaves sound.parts) (unplaced ts) (bare_items is) (once ts) read in
    record { are_items = s.0; has_tokens = s.1 }

answer : (ts : Trees) (o : Option (List ItemTree)) → read_output ts ≡ o → IsAnswer item_grammar ts o
answer ts None e = none-answers item_grammar item_leaves item_laws leaves_natural ts e
answer ts (Some is) e = one-answers item_grammar item_leaves item_laws leaves_natural ts is e (are_items ts is e)

pub answers : ReadingAnswers
answers ts = answer ts (read_output ts) refl
