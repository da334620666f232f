-- An implementation comes back from its text.
use Rattle.std.proofs.Common.{◌≡◌, ℕ, List, [], ◌∷◌, ◌++◌, Option, Some, None, Result, Ok, Err, refl, sym, ap, ap₂, subst, ◌∙◌}
use Rattle.std.specs.Prelude.{IsErrAnd}
use Rattle.dm_stream.specs.declared.error.Error.{Error}
use Rattle.dm_stream.specs.declared.error.Error.TheVariants.{NoMemory}
use Rattle.dm_stream.specs.declared.tokens.Token.{Token}
use Rattle.dm_stream.specs.declared.tokens.Token.TheVariants as t
use Rattle.dm_stream.specs.declared.tokens.Entry.TheVariants as entry
use Rattle.dm_stream.specs.Layout.{Laid, opened, closed, laid_one, laid, laid_start, layout, nowhere}
use Rattle.dm_stream.specs.Trees.{Trees, no_trees, token, group, flatten}
use Rattle.dm_layout.proofs.Layouts.{laid-group}
use Rattle.dm_lexer.specs.Written.{unplaced_token, unplaced}
use Rattle.dm_output.specs.Output.{ItemTree}
use Rattle.dm_output.specs.Tokens.{item_trees, printed}
use Rattle.dm_reread.specs.Unplaced.{bare_items}
use Rattle.dm_reread.proofs.BareItemTokens.{item-bare}
use Rattle.dm_read_items.specs.Reading.{IsAnswerTo, IsFollowed, IsUnread}
use Rattle.dm_read_items.specs.Printed.{ArePrinted}
use Rattle.dm_read_items.proofs.PrintedBack.{reads_back, is_read}
use Rattle.dm_emitted_laws.specs.Printable.{IsPrintable}
use Rattle.dm_expansion.specs.declared.expansion.Expansion.{Expansion}
use Rattle.dm_cmp_ops.specs.Expanded.{AreReadFrom, IsReadBack}

-- ---- ranges aren't laid out

one-unplaced : (s : Laid) (k : Token) → laid_one s (entry.Token (unplaced_token k)) ≡ laid_one s (entry.Token k)
one-unplaced s (t.Ident i) = refl
one-unplaced s (t.Lifetime l) = refl
one-unplaced s (t.Punct p) = refl
one-unplaced s (t.Literal l) = refl

laid-unplaced : (s : Laid) (ts : Trees) → laid s (flatten (unplaced ts)) ≡ laid s (flatten ts)
laid-unplaced s no_trees = refl
laid-unplaced s (token k rest) =
    ap (λ (l : Laid). laid l (flatten (unplaced rest))) (one-unplaced s k) ∙ laid-unplaced (laid_one s (entry.Token k)) rest
laid-unplaced s (group d from inside upto rest) =
    laid-group s d nowhere (unplaced inside) nowhere (unplaced rest) ∙
    ap (λ (l : Laid). laid (closed l d) (flatten (unplaced rest))) (laid-unplaced (opened s d) inside) ∙
    laid-unplaced (closed (laid (opened s d) (flatten inside)) d) rest ∙
    sym (laid-group s d from inside upto rest)

layout-unplaced : (ts : Trees) → layout (unplaced ts) ≡ layout ts
layout-unplaced ts = ap (λ (l : Laid). l.text) (laid-unplaced laid_start ts)

printed-bare : (is : List ItemTree) → printed (bare_items is) ≡ printed is
printed-bare [] = refl
printed-bare (i ∷ is) =
    ap₂ (λ (x y : List ℕ). x ++ 10 ∷ y) (ap layout (sym (item-bare i)) ∙ layout-unplaced (item_trees i)) (printed-bare is)

-- implementations that are the same, ranges aside, have one text
printed-same : (is js : List ItemTree) → bare_items is ≡ bare_items js → printed is ≡ printed js
printed-same is js h = sym (printed-bare is) ∙ ap printed h ∙ printed-bare js

-- ---- what a printable implementation's text is read as

are_printed : (i : ItemTree) → IsPrintable i → ArePrinted (i ∷ [])
are_printed i p = record { are_items = p.is_item; writable = p.writable }

or_else : List ItemTree → Option (List ItemTree) → List ItemTree
or_else is None = is
or_else is (Some js) = js

comes_back : (i : ItemTree) (text : List ℕ) (is : List ItemTree) → IsPrintable i → text ≡ printed (i ∷ []) → IsFollowed text is None →
    AreReadFrom text (i ∷ []) is
unfolding or_else
comes_back i text is p e f =
    let back = reads_back (i ∷ []) (are_printed i p) (Some is) (subst (λ x. IsAnswerTo x (Some is)) e f.answered) in
    let same : bare_items is ≡ bare_items (i ∷ []) = ap (λ o. bare_items (or_else is o)) back.answered ∙ back.same in
    record { same = same; text_is = e ∙ sym (printed-same is (i ∷ []) same) }

only_memory : (i : ItemTree) (text : List ℕ) (e : Error) → IsPrintable i → text ≡ printed (i ∷ []) → IsUnread text e → e ≡ NoMemory
only_memory i text e p h u = is_read (i ∷ []) (are_printed i p) p.shallow p.low e (subst (λ x. IsUnread x e) h u)

-- and what the program answers to it: just the implementation, or want of memory
pub read_back : (i : ItemTree) (text read made : List ℕ) (is : List ItemTree) → read ≡ text → made ≡ text → IsPrintable i →
    text ≡ printed (i ∷ []) → IsFollowed read is None → (made ≡ text) × AreReadFrom made (i ∷ []) is
read_back i text read made is s m p h f = (
  m,
  subst (λ t. AreReadFrom t (i ∷ []) is) (sym m) (comes_back i text is p h (subst (λ t. IsFollowed t is None) s f)),
)

pub not_read_back : (i : ItemTree) (text read : List ℕ) (e : Error) (r : Result Expansion Error) → read ≡ text → IsPrintable i →
    text ≡ printed (i ∷ []) → IsUnread read e → IsErrAnd r (λ d. d ≡ e) → IsReadBack i text r
not_read_back i text read e (Ok x) s p h u a = absurd a
not_read_back i text read e (Err d) s p h u a = a ∙ only_memory i text e p h (subst (λ t. IsUnread t e) s u)
