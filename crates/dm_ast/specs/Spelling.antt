-- What it means that trees spell something: its tokens stand at the front of the trees, each at a level, and leave the others.
-- A spelling says it of the trees, the others, and the marks of the tokens between the two: the level and the range of each, in order.
use Rattle.std.specs.Prelude.{◌≡◌, ℕ, ◌+◌, Bool, true, false, not, ◌&&◌, ◌||◌, cond, nat_eq, nat_lt, List, [], ◌∷◌, ◌++◌, Option, Some, None}
use Rattle.std.specs.Str.{bytes_eq}
use Rattle.dm_stream.specs.declared.levels.TheConstants.{DEEPEST}
use Rattle.dm_stream.specs.declared.tokens.Span.{Span}
use Rattle.dm_stream.specs.declared.tokens.Delim.{Delim}
use Rattle.dm_stream.specs.declared.tokens.Ident.{Ident}
use Rattle.dm_stream.specs.declared.tokens.Punct.{Punct}
use Rattle.dm_stream.specs.declared.tokens.Lifetime.{Lifetime}
use Rattle.dm_stream.specs.declared.tokens.Literal.{Literal}
use Rattle.dm_stream.specs.declared.tokens.Spacing.TheVariants.{Joint, Alone}
use Rattle.dm_stream.specs.declared.tokens.Spacing.{Spacing}
use Rattle.dm_stream.specs.declared.tokens.Token.TheVariants as t
use Rattle.dm_stream.specs.Trees.{Trees, no_trees, token, group}
use Rattle.dm_stream.specs.Cursors.{token_span, same_delim}
pub use Rattle.dm_stream.specs.Cursors.{at_end}
pub use Rattle.dm_stream.specs.Layout.{is_joint}

-- where a list of trees stands: the level of its tokens, and the place where the list ends
pub record Where : Type 0 where
  pub level : ℕ
  pub limit : ℕ

-- one level deeper, in the same list
abbrev pub deeper : Where → Where
deeper w = record { level = w.level + 1; limit = w.limit }

-- the level and the range of each token, in order
abbrev pub Marks : Type 0
Marks = List (ℕ × Span)

abbrev pub Spelling : Type 1
Spelling = Trees → Trees → Marks → Type 0

-- ---- levels

abbrev pub deepest : ℕ
deepest = DEEPEST

-- the range of the first token whose level is too deep
abbrev pub first_too_deep : Marks → Option Span
first_too_deep [] = None
first_too_deep (k ∷ ks) = cond (nat_lt deepest k.0) (Some k.1) (first_too_deep ks)

-- from the first token to the last one
abbrev pub last_end : ℕ → Marks → ℕ
last_end n [] = n
last_end n (k ∷ ks) = last_end k.1.«end» ks

abbrev pub range_of : Marks → Span
range_of [] = record { start = 0; «end» = 0 }
range_of (k ∷ ks) = record { start = k.1.start; «end» = last_end k.1.«end» ks }

-- ---- what stands first

abbrev pub one_of : List ℕ → ℕ → Bool
one_of [] c = false
one_of (d ∷ ds) c = nat_eq c d || one_of ds c

-- a punct of one of these characters
abbrev pub sees_one : List ℕ → Trees → Bool
sees_one cs (token (t.Punct p) rest) = one_of cs p.ch
sees_one cs _ = false

abbrev pub sees : ℕ → Trees → Bool
sees c (token (t.Punct p) rest) = nat_eq p.ch c
sees c _ = false

-- two puncts, of which the first is joint
abbrev pub sees_pair : ℕ → ℕ → Trees → Bool
sees_pair a b (token (t.Punct p) rest) = (nat_eq p.ch a && is_joint p.spacing) && sees b rest
sees_pair a b _ = false

-- a punct that isn't joint to one of these characters behind it
abbrev pub sees_lone : ℕ → List ℕ → Trees → Bool
sees_lone c stops (token (t.Punct p) rest) = nat_eq p.ch c && not (is_joint p.spacing && sees_one stops rest)
sees_lone c stops _ = false

abbrev pub sees_colons : Trees → Bool
sees_colons = sees_pair 58 58

abbrev pub sees_arrow : Trees → Bool
sees_arrow = sees_pair 45 62

-- a lone `:` isn't joint to `:`, and a lone `=` isn't joint to `=` or `>`
abbrev pub sees_colon : Trees → Bool
sees_colon = sees_lone 58 (58 ∷ [])

abbrev pub sees_equals : Trees → Bool
sees_equals = sees_lone 61 (61 ∷ 62 ∷ [])

abbrev pub is_word : List ℕ → Ident → Bool
is_word word i = not i.raw && bytes_eq i.name word

abbrev pub sees_word : List ℕ → Trees → Bool
sees_word word (token (t.Ident i) rest) = is_word word i
sees_word word _ = false

abbrev pub sees_lifetime : Trees → Bool
sees_lifetime (token (t.Lifetime l) rest) = true
sees_lifetime _ = false

abbrev pub sees_literal : Trees → Bool
sees_literal (token (t.Literal l) rest) = true
sees_literal _ = false

abbrev pub sees_group : Delim → Trees → Bool
sees_group d (group e from inside upto rest) = same_delim e d
sees_group d _ = false

-- ---- parts

-- no token
pub record Nothing (ts others : Trees) (m : Marks) : Type 0 where
  pub spelled : ts ≡ others
  pub marks : m ≡ []

-- a part that has to stand at such trees
pub record Facing (Fact : Trees → Type 0) (Part : Spelling) (ts others : Trees) (m : Marks) : Type 0 where
  pub fact : Fact ts
  pub part : Part ts others m

-- one part, and then another
pub record Then (First Rest : Spelling) (ts others : Trees) (m : Marks) : Type 0 where
  pub middle : Trees
  pub first_marks : Marks
  pub rest_marks : Marks
  pub first : First ts middle first_marks
  pub rest : Rest middle others rest_marks
  pub marks : m ≡ first_marks ++ rest_marks

infixr 20 ◌then◌
abbrev pub ◌then◌ : Spelling → Spelling → Spelling
First then Rest = Then First Rest

-- a part that holds only under a condition on what it is the part of
pub record Provided (Fact : Type 0) (Part : Spelling) (ts others : Trees) (m : Marks) : Type 0 where
  pub fact : Fact
  pub part : Part ts others m

-- a part that has to stand before such others
pub record Before (Fact : Trees → Type 0) (Part : Spelling) (ts others : Trees) (m : Marks) : Type 0 where
  pub part : Part ts others m
  pub fact : Fact others

-- ---- tokens

-- one token of the level of the place
pub record TokenAt (w : Where) (k : t.the_data) (ts others : Trees) (m : Marks) : Type 0 where
  pub spelled : ts ≡ token k others
  pub marks : m ≡ (w.level, token_span k) ∷ []

abbrev pub ident : Where → Ident → Spelling
ident w i = TokenAt w (t.Ident i)

abbrev pub lifetime : Where → Lifetime → Spelling
lifetime w l = TokenAt w (t.Lifetime l)

abbrev pub literal : Where → Literal → Spelling
literal w l = TokenAt w (t.Literal l)

-- a punct of this character, of any spacing and at any range
pub record PunctAt (w : Where) (c : ℕ) (ts others : Trees) (m : Marks) : Type 0 where
  pub punct : Punct
  pub is : punct.ch ≡ c
  pub there : TokenAt w (t.Punct punct) ts others m

abbrev pub punct : Where → ℕ → Spelling
punct w c = PunctAt w c

-- a keyword, which is no raw identifier
pub record WordAt (w : Where) (word : List ℕ) (ts others : Trees) (m : Marks) : Type 0 where
  pub range : Span
  pub there : TokenAt w (t.Ident record { name = word; raw = false; span = range }) ts others m

abbrev pub keyword : Where → List ℕ → Spelling
keyword w word = WordAt w word

-- two puncts, of which the first is joint: `::` or `->`
pub record PairAt (w : Where) (a b : ℕ) (ts others : Trees) (m : Marks) : Type 0 where
  pub first : Punct
  pub second : Punct
  pub is_first : first.ch ≡ a
  pub is_joint : first.spacing ≡ Joint
  pub is_second : second.ch ≡ b
  pub spelled : ts ≡ token (t.Punct first) (token (t.Punct second) others)
  pub marks : m ≡ (w.level, first.span) ∷ (w.level, second.span) ∷ []

abbrev pub colons : Where → Spelling
colons w = PairAt w 58 58

abbrev pub arrow : Where → Spelling
arrow w = PairAt w 45 62

-- a punct that isn't joint to one of these characters behind it
pub record LoneAt (w : Where) (c : ℕ) (stops : List ℕ) (ts others : Trees) (m : Marks) : Type 0 where
  pub punct : Punct
  pub is : punct.ch ≡ c
  pub lone : (is_joint punct.spacing && sees_one stops others) ≡ false
  pub there : TokenAt w (t.Punct punct) ts others m

abbrev pub colon : Where → Spelling
colon w = LoneAt w 58 (58 ∷ [])

abbrev pub equals : Where → Spelling
equals w = LoneAt w 61 (61 ∷ 62 ∷ [])

-- a group, whose inside is spelled whole one level deeper; both delimiters stand at the level of the place
pub record GroupAt (w : Where) (d : Delim) (Inside : Where → Spelling) (ts others : Trees) (m : Marks) : Type 0 where
  pub opener : Span
  pub inside : Trees
  pub closer : Span
  pub inner_marks : Marks
  pub spelled : ts ≡ group d opener inside closer others
  pub whole : Inside (record { level = w.level + 1; limit = closer.start }) inside no_trees inner_marks
  pub marks : m ≡ (w.level, opener) ∷ (inner_marks ++ (w.level, closer) ∷ [])

-- ---- what may be missing: a part is taken wherever it begins

abbrev pub flag : (Trees → Bool) → Bool → Spelling → Spelling
flag begins true part = part
flag begins false part = Before (λ others. begins others ≡ false) Nothing

abbrev pub perhaps : {A : Type 0} → (Trees → Bool) → Option A → (A → Spelling) → Spelling
perhaps begins None part = Before (λ others. begins others ≡ false) Nothing
perhaps begins (Some a) part = part a

-- parts of one kind, as many as begin there
abbrev pub repeated : {A : Type 0} → (Trees → Bool) → (A → Spelling) → List A → Spelling
repeated begins item [] = Before (λ others. begins others ≡ false) Nothing
repeated begins item (x ∷ xs) = item x then repeated begins item xs

-- one part at least, and a separator before each other
abbrev pub chain : {A : Type 0} → Spelling → (Trees → Bool) → (A → Spelling) → List A → Spelling
chain separator begins item [] = Provided ⊥ Nothing
chain separator begins item (x ∷ xs) = item x then repeated begins (λ y. separator then item y) xs

-- ---- lists: items with a separator between, and perhaps one behind the last, which stands only where the list's end follows

module _ (w : Where) (separator : ℕ) (ends : Trees → Bool) where
  abbrev pub no_items : Bool → Spelling
  no_items trailing = Provided (trailing ≡ false) (Before (λ others. ends others ≡ true) Nothing)

  abbrev pub last_item : Bool → Spelling
  last_item true = punct w separator then Before (λ others. ends others ≡ true) Nothing
  last_item false = Before (λ others. sees separator others ≡ false) Nothing

  abbrev pub items_left : {A : Type 0} → (A → Spelling) → List A → Bool → Spelling
  items_left item [] trailing = last_item trailing
  items_left item (x ∷ xs) trailing = punct w separator then (item x then items_left item xs trailing)

  abbrev pub items : {A : Type 0} → (A → Spelling) → List A → Bool → Spelling
  items item [] trailing = no_items trailing
  items item (x ∷ xs) trailing = item x then items_left item xs trailing

-- ---- opaque parts: any trees, one at least

-- the marks of trees that are not read
abbrev pub marks_of : ℕ → Trees → Marks
marks_of n no_trees = []
marks_of n (token k rest) = (n, token_span k) ∷ marks_of n rest
marks_of n (group d from inside upto rest) = (n, from) ∷ (marks_of (n + 1) inside ++ (n, upto) ∷ marks_of n rest)

-- a part whose range is given
pub record RangedAt (range : Span) (Part : Spelling) (ts others : Trees) (m : Marks) : Type 0 where
  pub part : Part ts others m
  pub is_range : range ≡ range_of m

-- all of the trees, which may be none
pub record AllAt (w : Where) (all : Trees) (ts others : Trees) (m : Marks) : Type 0 where
  pub spelled : ts ≡ all
  pub none_left : others ≡ no_trees
  pub marks : m ≡ marks_of w.level all
