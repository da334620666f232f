-- Which lists of trees a text can have: those whose layout is lexed to them again, ranges aside.
use Rattle.std.specs.Prelude.{◌≡◌, ℕ, Bool, true, false, not, ◌&&◌, if◌then◌else◌, List, [], ◌∷◌, ◌++◌, None, ⊤}
use Rattle.dm_lexer.specs.Characters.{line_feed}
use Rattle.std.specs.Str.{IsUtf8}
use Rattle.dm_stream.specs.declared.tokens.Spacing.TheVariants.{Alone}
use Rattle.dm_stream.specs.declared.tokens.Token.{Token}
use Rattle.dm_stream.specs.declared.tokens.Token.TheVariants as t
use Rattle.dm_stream.specs.declared.error.Error.{Error}
use Rattle.dm_stream.specs.declared.error.Error.TheVariants.{NoMemory}
use Rattle.dm_stream.specs.Trees.{Trees, no_trees, token, group, join}
use Rattle.dm_lexer.specs.Rows.{begins_comment}
use Rattle.dm_stream.specs.Layout.{spelled, is_joint, layout, nowhere}
use Rattle.dm_stream.specs.declared.levels.TheConstants.{DEEPEST}
use Rattle.dm_lexer.specs.Nesting.{marks, IsTreesOf, first_deep, IsRefusalWithin, IsRefusalOf}

-- a token without its range
abbrev pub unplaced_token : Token → Token
unplaced_token (t.Ident i) = t.Ident record { name = i.name; raw = i.raw; span = nowhere }
unplaced_token (t.Lifetime l) = t.Lifetime record { name = l.name; span = nowhere }
unplaced_token (t.Punct p) = t.Punct record { ch = p.ch; spacing = p.spacing; span = nowhere }
unplaced_token (t.Literal l) = t.Literal record { kind = l.kind; text = l.text; span = nowhere }

-- trees without their ranges
abbrev pub unplaced : Trees → Trees
unplaced no_trees = no_trees
unplaced (token k rest) = token (unplaced_token k) (unplaced rest)
unplaced (group d from inside upto rest) = group d nowhere (unplaced inside) nowhere (unplaced rest)

-- the text has these trees, ranges aside
pub record HasTrees (text : List ℕ) (ts : Trees) : Type 0 where
  pub read : Trees
  pub are_read : IsTreesOf text read
  pub same : unplaced read ≡ unplaced ts

-- a token as it is read where nothing follows it
abbrev pub alone : Token → Token
alone (t.Punct p) = t.Punct record { ch = p.ch; spacing = Alone; span = p.span }
alone (t.Ident i) = t.Ident i
alone (t.Lifetime l) = t.Lifetime l
alone (t.Literal l) = t.Literal l

-- the token's own text is lexed to this token
pub record IsSpellable (k : Token) : Type 0 where
  pub utf8 : IsUtf8 (spelled k)
  pub has : HasTrees (spelled k) (token (alone k) no_trees)

abbrev pub AreSpellable : Trees → Type 0
AreSpellable no_trees = ⊤
AreSpellable (token k rest) = IsSpellable k × AreSpellable rest
AreSpellable (group d from inside upto rest) = AreSpellable inside × AreSpellable rest

-- the punct c may touch the trees that follow it: they begin with a punct, and with it c begins no comment
abbrev pub may_touch : ℕ → Trees → Bool
may_touch c no_trees = false
may_touch c (token (t.Punct q) rest) = not (begins_comment (c ∷ q.ch ∷ []))
may_touch c (token (t.Ident i) rest) = false
may_touch c (token (t.Lifetime l) rest) = false
may_touch c (token (t.Literal l) rest) = false
may_touch c (group d from inside upto rest) = false

-- a token before these trees is Joint only where it may touch them
abbrev pub is_spaced : Token → Trees → Bool
is_spaced (t.Punct p) rest = if is_joint p.spacing then may_touch p.ch rest else true
is_spaced (t.Ident i) rest = true
is_spaced (t.Lifetime l) rest = true
is_spaced (t.Literal l) rest = true

abbrev pub are_spaced : Trees → Bool
are_spaced no_trees = true
are_spaced (token k rest) = is_spaced k rest && are_spaced rest
are_spaced (group d from inside upto rest) = are_spaced inside && are_spaced rest

-- each token has a text of its own, and each Joint punct touches a punct
pub record AreWritable (ts : Trees) : Type 0 where
  pub spellable : AreSpellable ts
  pub spaced : are_spaced ts ≡ true

-- the layouts of several lists of trees, each ended by LF
abbrev pub lines : List Trees → List ℕ
lines [] = []
lines (ts ∷ more) = layout ts ++ line_feed ∷ lines more

-- several lists of trees as one
abbrev pub joined : List Trees → Trees
joined [] = no_trees
joined (ts ∷ more) = join ts (joined more)

abbrev pub AllAreWritable : List Trees → Type 0
AllAreWritable [] = ⊤
AllAreWritable (ts ∷ more) = AreWritable ts × AllAreWritable more

-- no token or delimiter of the trees stands inside more than `deepest` groups
abbrev pub AreShallowWithin : ℕ → Trees → Type 0
AreShallowWithin deepest ts = first_deep deepest 0 (marks ts) ≡ None

-- the same with the limit of the language
abbrev pub AreShallow : Trees → Type 0
AreShallow ts = AreShallowWithin DEEPEST ts

-- the laws

-- the trees of a text are writable
abbrev pub ReadIsWritable : Type 0
ReadIsWritable = (text : List ℕ) (ts : Trees) → IsUtf8 text → IsTreesOf text ts → AreWritable ts

-- writable trees come back from their layout
abbrev pub LayoutLexesBack : Type 0
LayoutLexesBack = (ts : Trees) → AreWritable ts → HasTrees (layout ts) ts

-- no other trees do
abbrev pub OnlyWritableLexBack : Type 0
OnlyWritableLexBack = (ts : Trees) → IsUtf8 (layout ts) → HasTrees (layout ts) ts → AreWritable ts

-- writable trees come back from their lines
abbrev pub LinesLexBack : Type 0
LinesLexBack = (all : List Trees) → AllAreWritable all → HasTrees (lines all) (joined all)

-- all trees of a text are the same, ranges aside
abbrev pub TreesAreOne : Type 0
TreesAreOne = (text : List ℕ) (ts us : Trees) → HasTrees text ts → IsTreesOf text us → unplaced us ≡ unplaced ts

-- a text that has trees of no more levels than are read is refused for want of memory alone
abbrev pub ShallowIsReadWithin : Type 0
ShallowIsReadWithin =
    (deepest : ℕ) (text : List ℕ) (ts : Trees) → HasTrees text ts → AreShallowWithin deepest ts → (e : Error) → IsRefusalWithin deepest text e →
    e ≡ NoMemory

-- the same with the limit of the language
abbrev pub ShallowIsRead : Type 0
ShallowIsRead = (text : List ℕ) (ts : Trees) → HasTrees text ts → AreShallow ts → (e : Error) → IsRefusalOf text e → e ≡ NoMemory
