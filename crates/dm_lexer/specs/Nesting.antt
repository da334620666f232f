-- The trees of a text: those whose flattening is its lexemes. The places at which a text has none, or is too deep.
use Rattle.std.specs.Prelude.{◌≡◌, ℕ, suc, ◌+◌, ◌-◌, ◌<◌, Bool, true, false, nat_lt, cond, Option, Some, None, List, [], ◌∷◌, ◌++◌, length, drop, ⊤}
use Rattle.std.specs.Str.{chars, IsCharBoundary}
use Rattle.dm_stream.specs.declared.tokens.Span.{Span}
use Rattle.dm_stream.specs.declared.tokens.Delim.{Delim}
use Rattle.dm_stream.specs.declared.tokens.Entry.{Entry}
use Rattle.dm_stream.specs.declared.tokens.Entry.TheVariants as entry
use Rattle.dm_stream.specs.declared.error.Error.{Error}
use Rattle.dm_stream.specs.declared.error.Error.TheVariants.{NoMemory, Refused}
use Rattle.dm_stream.specs.declared.error.Kind.{Kind}
use Rattle.dm_stream.specs.declared.error.Kind.TheVariants as kind
use Rattle.dm_lexer.specs.declared.lexing.Lexeme.{Lexeme}
use Rattle.dm_lexer.specs.declared.lexing.Lexeme.TheVariants as lexeme
use Rattle.dm_lexer.specs.declared.lexing.Progress.{Progress}
use Rattle.dm_lexer.specs.declared.lexing.Progress.TheVariants as progress
use Rattle.dm_stream.specs.declared.levels.TheConstants.{DEEPEST}
use Rattle.dm_lexer.specs.declared.nesting.Depth.{Depth}
use Rattle.dm_lexer.specs.declared.nesting.Nesting.{Nesting}
use Rattle.dm_lexer.specs.declared.nesting.OpenGroup.{OpenGroup}
use Rattle.dm_stream.specs.Trees.{Trees, no_trees, token, group, join, flatten}
use Rattle.dm_stream.specs.Cursors.{same_delim, token_span}
use Rattle.dm_lexer.specs.Rows.{Reading, reading}

-- the flattening of a list of trees: of a group its opener, its inside and its closer
abbrev pub marks : Trees → List Lexeme
marks no_trees = []
marks (token t rest) = lexeme.Token t ∷ marks rest
marks (group d from inside upto rest) = lexeme.Open d from ∷ (marks inside ++ lexeme.Close d upto ∷ marks rest)

-- these are the trees of the text
abbrev pub IsTreesOf : List ℕ → Trees → Type 0
IsTreesOf text ts = reading 0 0 (chars text) ≡ record { lexemes = marks ts; fault = None }

-- no other trees are those of the text
abbrev pub AreTheOnly : List ℕ → Trees → Type 0
AreTheOnly text ts = (us : Trees) → IsTreesOf text us → us ≡ ts

-- The first fault of lexemes and of what was read behind them: a closer that does not match the innermost open opener, else the fault
-- that was read, else the innermost opener that is open at the end. The openers that are open come first, the innermost at the front.
abbrev pub fault : List (Delim × Span) → List Lexeme → Option Span → Option Span
fault around [] (Some s) = Some s
fault [] [] None = None
fault (o ∷ os) [] None = Some o.1
fault around (lexeme.Token t ∷ xs) read = fault around xs read
fault around (lexeme.Open d s ∷ xs) read = fault ((d, s) ∷ around) xs read
fault [] (lexeme.Close d s ∷ xs) read = Some s
fault (o ∷ os) (lexeme.Close d s ∷ xs) read = cond (same_delim o.0 d) (fault os xs read) (Some s)

abbrev pub fault_of : Reading → Option Span
fault_of r = fault [] r.lexemes r.fault

-- the first of the lexemes that stands inside more than `deepest` groups, where the first one stands inside `depth` groups
abbrev pub first_deep : ℕ → ℕ → List Lexeme → Option Span
first_deep deepest depth [] = None
first_deep deepest depth (lexeme.Token t ∷ xs) = cond (nat_lt deepest depth) (Some (token_span t)) (first_deep deepest depth xs)
first_deep deepest depth (lexeme.Open d s ∷ xs) = cond (nat_lt deepest depth) (Some s) (first_deep deepest (suc depth) xs)
first_deep deepest depth (lexeme.Close d s ∷ xs) = cond (nat_lt deepest (depth - 1)) (Some s) (first_deep deepest (depth - 1) xs)

-- A refusal at this place, where a token may stand inside `deepest` groups: the text has no trees and this is its first fault, or it has
-- trees and this is too deep.
abbrev pub IsRefusedWithin : ℕ → List ℕ → Kind → Span → Type 0
IsRefusedWithin deepest text kind.Lex s = (fault_of (reading 0 0 (chars text)) ≡ Some s) × ((ts : Trees) → IsTreesOf text ts → ⊥)
IsRefusedWithin deepest text kind.TooDeep s =
    (fault_of (reading 0 0 (chars text)) ≡ None) × (first_deep deepest 0 (reading 0 0 (chars text)).lexemes ≡ Some s)
IsRefusedWithin deepest text _ s = ⊥

abbrev pub IsRefusalWithin : ℕ → List ℕ → Error → Type 0
IsRefusalWithin deepest text NoMemory = ⊤
IsRefusalWithin deepest text (Refused r) = IsRefusedWithin deepest text r.kind r.span

-- the text has no fault, and none of its lexemes stands inside more than `deepest` groups
pub record IsWholeWithin (deepest : ℕ) (text : List ℕ) : Type 0 where
  pub no_fault : fault_of (reading 0 0 (chars text)) ≡ None
  pub shallow : first_deep deepest 0 (reading 0 0 (chars text)).lexemes ≡ None

-- the same with the limit of the language

abbrev pub IsRefused : List ℕ → Kind → Span → Type 0
IsRefused text kind s = IsRefusedWithin DEEPEST text kind s

abbrev pub IsRefusalOf : List ℕ → Error → Type 0
IsRefusalOf text e = IsRefusalWithin DEEPEST text e

abbrev pub IsWhole : List ℕ → Type 0
IsWhole text = IsWholeWithin DEEPEST text

-- What follows is for the proof that the lexer finds these trees and places.

-- a group that is not closed yet, and the trees before it in its list
pub record Level : Type 0 where
  pub before : Trees
  pub delim : Delim
  pub from : Span

-- what becomes of lexemes: trees, and the first lexeme that is too deep; or a fault
pub data Verdict : Type 0 where
  are_trees : Trees → Depth → Verdict
  has_fault : Span → Verdict

-- no lexeme is too deep yet
abbrev pub none_deep : ℕ → Depth
none_deep deepest = record { deepest = deepest; first = None }

-- the first place inside more than `deepest` groups, with one more that stands inside `depth` groups
abbrev pub first_past : ℕ → Option Span → ℕ → Span → Option Span
first_past deepest (Some s) depth here = Some s
first_past deepest None depth here = cond (nat_lt deepest depth) (Some here) None

abbrev pub deeper : Depth → ℕ → Span → Depth
deeper deep depth here = record { deepest = deep.deepest; first = first_past deep.deepest deep.first depth here }

abbrev pub at_end : Option Span → List Level → Trees → Depth → Verdict
at_end (Some s) ls here deep = has_fault s
at_end None [] here deep = are_trees here deep
at_end None (l ∷ ls) here deep = has_fault l.from

abbrev pub if_same : Bool → Span → Verdict → Verdict
if_same true upto found = found
if_same false upto found = has_fault upto

abbrev pub closed : List Level → Trees → Depth → Delim → Span → (List Level → Trees → Depth → Verdict) → Verdict
closed [] here deep d upto next = has_fault upto
closed (l ∷ ls) here deep d upto next =
    if_same (same_delim l.delim d) upto
    (next ls (join l.before (group l.delim l.from here upto no_trees)) (deeper deep (length ls) upto))

-- what becomes of the lexemes that follow these open groups and then the trees `here`
abbrev pub nest : List Level → Trees → Depth → List Lexeme → Option Span → Verdict
nest ls here deep [] read = at_end read ls here deep
nest ls here deep (lexeme.Token t ∷ xs) read = nest ls (join here (token t no_trees)) (deeper deep (length ls) (token_span t)) xs read
nest ls here deep (lexeme.Open d from ∷ xs) read =
    nest (record { before = here; delim = d; from = from } ∷ ls) no_trees (deeper deep (length ls) from) xs read
nest ls here deep (lexeme.Close d upto ∷ xs) read =
    closed ls here deep d upto (λ levels trees more. nest levels trees more xs read)

abbrev pub nest_all : List Level → Trees → Depth → Reading → Verdict
nest_all ls here deep r = nest ls here deep r.lexemes r.fault

-- what becomes of the text that starts at the byte `at`, behind these open groups and the trees `here`
abbrev pub found : ℕ → List ℕ → List Level → Trees → Depth → Verdict
found at text ls here deep = nest_all ls here deep (reading at 0 (chars text))

-- the entries of what was read so far, where an open group has the number 0 yet
abbrev pub so_far : List Level → Trees → List Entry
so_far [] here = flatten here
so_far (l ∷ ls) here = so_far ls l.before ++ entry.Open l.delim l.from 0 ∷ flatten here

abbrev pub opened_at : List Level → List OpenGroup
opened_at [] = []
opened_at (l ∷ ls) = opened_at ls ++ record { delim = l.delim; from = l.from; place = length (so_far ls l.before) } ∷ []

pub record IsNesting (n : Nesting) (ls : List Level) (here : Trees) : Type 0 where
  pub entries_are : n.entries.items ≡ so_far ls here
  pub opened_are : n.opened.items ≡ opened_at ls

-- s is the opener of the group that was opened last
pub record IsInnermost (opened : List OpenGroup) (s : Span) : Type 0 where
  pub rest : List OpenGroup
  pub last : OpenGroup
  pub items : opened ≡ rest ++ last ∷ []
  pub from : s ≡ last.from

abbrev pub IsNested : Nesting → Type 0
IsNested n = (ls : List Level) × (here : Trees) × IsNesting n ls here

-- a lexeme was taken, and what follows goes on from there
pub record After (old new : Nesting) (x : Lexeme) (ls : List Level) (here : Trees) : Type 0 where
  pub levels : List Level
  pub trees : Trees
  pub nested : IsNesting new levels trees
  pub steps : (xs : List Lexeme) (read : Option Span) → nest ls here old.deep (x ∷ xs) read ≡ nest levels trees new.deep xs read

-- the place of the lexeme where it can't stand there, and what was made of it otherwise
abbrev pub Takes : Option Span → Nesting → Nesting → Lexeme → Type 0
Takes None old new x = (ls : List Level) (here : Trees) → IsNesting old ls here → After old new x ls here
Takes (Some s) old new x =
    (ls : List Level) (here : Trees) → IsNesting old ls here → (xs : List Lexeme) (read : Option Span) → nest ls here old.deep (x ∷ xs) read ≡ has_fault s

-- the first n bytes of a text were read
pub record Advances (old new : Nesting) (at : ℕ) (text : List ℕ) (n : ℕ) (ls : List Level) (here : Trees) : Type 0 where
  pub positive : 0 < n
  pub boundary : IsCharBoundary text n
  pub levels : List Level
  pub trees : Trees
  pub nested : IsNesting new levels trees
  pub steps : found at text ls here old.deep ≡ found (at + n) (drop n text) levels trees new.deep

abbrev pub IsStep : Progress → Nesting → Nesting → ℕ → List ℕ → Type 0
IsStep (progress.Fault s) old new at text = (ls : List Level) (here : Trees) → IsNesting old ls here → found at text ls here old.deep ≡ has_fault s
IsStep (progress.Reads n) old new at text = (ls : List Level) (here : Trees) → IsNesting old ls here → Advances old new at text n ls here

-- these are the lexemes of the whole text, as they are nested: what becomes of them is what becomes of their end
pub record IsNestingOf (deepest : ℕ) (text : List ℕ) (n : Nesting) : Type 0 where
  pub levels : List Level
  pub here : Trees
  pub nested : IsNesting n levels here
  pub ends : found 0 text [] no_trees (none_deep deepest) ≡ at_end None levels here n.deep
