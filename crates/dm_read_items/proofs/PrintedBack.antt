-- The text of implementations has their tokens, and so is read as just these.
use Rattle.std.proofs.Common.{◌≡◌, List, [], ◌∷◌, ◌++◌, map, Option, Some, None, refl, sym, ap, ◌∙◌, subst}
use Rattle.dm_stream.specs.Layout.{layout}
use Rattle.dm_stream.specs.Trees.{Trees, join, flatten}
use Rattle.dm_lexer.specs.Written.{HasTrees, AllAreWritable, lines, joined}
use Rattle.dm_lexer.proofs.LexedBack.{lines-lex_back}
use Rattle.dm_lexer.proofs.Rewritten.{trees-are_one, shallow-is_read}
use Rattle.dm_output.specs.Output.{ItemTree}
use Rattle.dm_output.specs.Tokens.{in_turn, item_trees, printed}
use Rattle.dm_levels.specs.Levels.{items_levels, deep_in}
use Rattle.dm_reread.specs.Unplaced.{AreItemsOf}
use Rattle.dm_reread.specs.ReadBack.{item_grammar}
use Rattle.dm_reread.proofs.BareItemTokens.{items-bare}
use Rattle.dm_levels.specs.Low.{AllLow}
use Rattle.dm_read_items.specs.Reading.{IsAnswerTo, no_memory, lexed, unlike, too_deep}
use Rattle.dm_read_items.specs.Printed.{ArePrinted, PrintedReadsBack, PrintedIsRead}
use Rattle.dm_level_laws.proofs.BareLevels.{items_same, low_passes}

are_lines : (is : List ItemTree) → lines (map item_trees is) ≡ printed is
are_lines [] = refl
are_lines (i ∷ is) = ap (λ more. layout (item_trees i) ++ 10 ∷ more) (are_lines is)

are_joined : (all : List Trees) → joined all ≡ in_turn all
are_joined [] = refl
are_joined (ts ∷ more) = ap (join ts) (are_joined more)

has_trees : (is : List ItemTree) → AllAreWritable (map item_trees is) → HasTrees (printed is) (in_turn (map item_trees is))
has_trees is w =
    subst (λ text. HasTrees text (in_turn (map item_trees is))) (are_lines is)
    (subst (λ ts. HasTrees (lines (map item_trees is)) ts) (are_joined (map item_trees is)) (lines-lex_back (map item_trees is) w))

-- they have the tokens of their text
are_its : (is : List ItemTree) → ArePrinted is → (o : Option (List ItemTree)) → (a : IsAnswerTo (printed is) o) → AreItemsOf item_grammar is a.trees
are_its is p o a =
    record {
      are_items = p.are_items;
      has_tokens =
          sym (items-bare is) ∙
          sym (trees-are_one (printed is) (in_turn (map item_trees is)) a.trees (has_trees is p.writable) a.are_trees);
    }

pub reads_back : PrintedReadsBack
reads_back is p (Some js) a = record { read = js; answered = refl; same = sym (a.answer.1 is (are_its is p (Some js) a)) }
reads_back is p None a = absurd (a.answer is (are_its is p None a))

-- what is read stands no deeper
none_deep : (is : List ItemTree) → ArePrinted is → AllLow (items_levels is) → (js : List ItemTree) (a : IsAnswerTo (printed is) (Some js)) →
    deep_in (items_levels js) (flatten a.trees) ≡ None
none_deep is p low js a =
    let same : items_levels js ≡ items_levels is =
    sym (items_same js) ∙ ap items_levels (sym (a.answer.1 is (are_its is p (Some js) a))) ∙ items_same is in
    low_passes (items_levels js) (flatten a.trees) (subst AllLow (sym same) low)

pub is_read : PrintedIsRead
is_read is p s low _ no_memory = refl
is_read is p s low _ (lexed e h) = shallow-is_read (printed is) (in_turn (map item_trees is)) (has_trees is p.writable) s e h
is_read is p s low _ (unlike r k a) = absurd (a.answer is (are_its is p None a))
is_read is p s low _ (too_deep r k js f) =
    let e : deep_in (items_levels js) (flatten f.answered.trees) ≡ None = none_deep is p low js f.answered in
    let g : deep_in (items_levels js) (flatten f.answered.trees) ≡ Some r.span = f.first_deep in
    absurd (cc)
