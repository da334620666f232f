-- Readers: what is read from the front of a list of trees, and what is left, or a refusal.
use Rattle.std.specs.Prelude.{◌≡◌, ℕ, zero, suc, ◌+◌, Bool, true, false, if◌then◌else◌, nat_lt, List, [], ◌∷◌, ◌++◌, length, take, ◌-◌, Option, Some, None, Result, Ok, Err}
use Rattle.dm_stream.specs.declared.tokens.Span.{Span}
use Rattle.dm_stream.specs.declared.tokens.Delim.{Delim}
use Rattle.dm_stream.specs.declared.tokens.Ident.{Ident}
use Rattle.dm_stream.specs.declared.tokens.Lifetime.{Lifetime}
use Rattle.dm_stream.specs.declared.tokens.Literal.{Literal}
use Rattle.dm_stream.specs.declared.tokens.Entry.{Entry}
use Rattle.dm_stream.specs.declared.tokens.Entry.TheVariants as entry
use Rattle.dm_stream.specs.declared.error.Error.{Error}
use Rattle.dm_stream.specs.declared.error.Error.TheVariants as error
use Rattle.dm_stream.specs.declared.error.Refusal.{Refusal}
use Rattle.dm_stream.specs.declared.error.Kind.TheVariants.{TooDeep, Syntax}
use Rattle.dm_stream.specs.declared.cursor.Cursor.{Cursor}
use Rattle.dm_stream.specs.Trees.{Trees, no_trees, token, group, flatten, Stream}
use Rattle.dm_stream.specs.Cursors.{left, end_of, token_span, front_span, same_delim, first_ident, first_lifetime, first_literal}
use Rattle.dm_ast.specs.Spelling.{Where, deepest, first_too_deep, marks_of, at_end, sees, sees_pair, sees_lone, sees_word}

abbrev pub Outcome : Type 0 → Type 0
Outcome A = Result (A × Trees) Refusal

abbrev pub Parser : Type 0 → Type 0
Parser A = Trees → Outcome A

-- ---- refusals

abbrev pub syntax_at : {A : Type 0} → Span → Outcome A
syntax_at span = Err (record { kind = Syntax; span = span })

abbrev pub too_deep_at : {A : Type 0} → Span → Outcome A
too_deep_at span = Err (record { kind = TooDeep; span = span })

-- the first token isn't one that may stand here
abbrev pub refuse : {A : Type 0} → Where → Parser A
refuse w ts = syntax_at (front_span ts w.limit)

-- what is read at a token of this range
abbrev pub if_level : {A : Type 0} → Where → Span → Outcome A → Outcome A
if_level w span read = if nat_lt deepest w.level then too_deep_at span else read

-- ---- one reader after another

abbrev pub and_then : {A B : Type 0} → Outcome A → (A → Parser B) → Outcome B
and_then (Ok p) f = f p.0 p.1
and_then (Err r) f = Err r

abbrev pub mapped : {A B : Type 0} → (A → B) → Outcome A → Outcome B
mapped f (Ok p) = Ok (f p.0, p.1)
mapped f (Err r) = Err r

-- both of two parts
infixr 20 ◌and◌
abbrev pub ◌and◌ : {A B : Type 0} → Parser A → Parser B → Parser (A × B)
p and q = λ ts. and_then (p ts) (λ a mid. mapped (λ b. (a, b)) (q mid))

-- a part that says nothing, and then another
infixr 20 ◌next◌
abbrev pub ◌next◌ : {B : Type 0} → Parser (Unit {0}) → Parser B → Parser B
p next q = λ ts. and_then (p ts) (λ _. q)

-- a part, and then one that says nothing
infixr 20 ◌till◌
abbrev pub ◌till◌ : {A : Type 0} → Parser A → Parser (Unit {0}) → Parser A
p till q = λ ts. and_then (p ts) (λ a mid. mapped (λ _. a) (q mid))

infixr 15 ◌gives◌
abbrev pub ◌gives◌ : {A B : Type 0} → Parser A → (A → B) → Parser B
p gives f = λ ts. mapped f (p ts)

-- ---- tokens

abbrev pub if_found : {A : Type 0} → Where → Trees → Option (A × Trees) → Outcome A
if_found w ts None = refuse w ts
if_found w ts (Some r) = if_level w (front_span ts w.limit) (Ok r)

-- the token that `first` finds in front
abbrev pub read_found : {A : Type 0} → (Trees → Option (A × Trees)) → Where → Parser A
read_found first w ts = if_found w ts (first ts)

abbrev pub if_ident : (Ident → Bool) → Option (Ident × Trees) → Option (Ident × Trees)
if_ident test None = None
if_ident test (Some r) = if test r.0 then Some r else None

abbrev pub read_ident : (Ident → Bool) → Where → Parser Ident
read_ident test = read_found (λ ts. if_ident test (first_ident ts))

abbrev pub read_any : Where → Parser Ident
read_any = read_found first_ident

abbrev pub read_lifetime : Where → Parser Lifetime
read_lifetime = read_found first_lifetime

abbrev pub read_literal : Where → Parser Literal
read_literal = read_found first_literal

-- tokens that are known by a test, and what follows them
abbrev pub if_seen : Bool → Where → Trees → Trees → Outcome (Unit {0})
if_seen seen w ts rest = if seen then if_level w (front_span ts w.limit) (Ok (tt, rest)) else refuse w ts

abbrev pub read_seen : (Trees → Bool) → (Trees → Trees) → Where → Parser (Unit {0})
read_seen test after w ts = if_seen (test ts) w ts (after ts)

abbrev pub tail : Trees → Trees
tail (token k rest) = rest
tail (group d from inside upto rest) = rest
tail no_trees = no_trees

abbrev pub read_punct : ℕ → Where → Parser (Unit {0})
read_punct c = read_seen (sees c) tail

abbrev pub read_word : List ℕ → Where → Parser (Unit {0})
read_word word = read_seen (sees_word word) tail

abbrev pub read_pair : ℕ → ℕ → Where → Parser (Unit {0})
read_pair a b = read_seen (sees_pair a b) (λ ts. tail (tail ts))

abbrev pub read_lone : ℕ → List ℕ → Where → Parser (Unit {0})
read_lone c stops = read_seen (sees_lone c stops) tail

abbrev pub read_colons : Where → Parser (Unit {0})
read_colons = read_pair 58 58

abbrev pub read_arrow : Where → Parser (Unit {0})
read_arrow = read_pair 45 62

abbrev pub read_colon : Where → Parser (Unit {0})
read_colon = read_lone 58 (58 ∷ [])

abbrev pub read_equals : Where → Parser (Unit {0})
read_equals = read_lone 61 (61 ∷ 62 ∷ [])

-- ---- groups

-- the inside of a group of this delimiter, where the inside ends, and what follows the group
abbrev pub open_group : Delim → Where → Trees → Result (Trees × ℕ × Trees) Refusal
open_group d w (group e from inside upto rest) =
    if same_delim e d then (if nat_lt deepest w.level then Err (record { kind = TooDeep; span = from }) else Ok (inside, upto.start, rest))
    else Err (record { kind = Syntax; span = from })
open_group d w ts = Err (record { kind = Syntax; span = front_span ts w.limit })

-- one level deeper, in a list that ends there
abbrev pub inside_at : Where → ℕ → Where
inside_at w limit = record { level = w.level + 1; limit = limit }

-- nothing is left of the inside
abbrev pub ended : {A : Type 0} → Where → Trees → A → Parser A
ended v outside a rest = if at_end rest then Ok (a, outside) else refuse v rest

abbrev pub within_group : {A : Type 0} → (Where → Parser A) → Where → Result (Trees × ℕ × Trees) Refusal → Outcome A
within_group inner w (Ok g) = and_then (inner (inside_at w g.1) g.0) (ended (inside_at w g.1) g.2)
within_group inner w (Err r) = Err r

-- a group of this delimiter, and its inside, which is read whole
abbrev pub read_group : {A : Type 0} → Delim → (Where → Parser A) → Where → Parser A
read_group d inner w ts = within_group inner w (open_group d w ts)

-- ---- what may be missing

abbrev pub read_flag : (Trees → Bool) → Parser (Unit {0}) → Parser Bool
read_flag begins p = λ ts. if begins ts then mapped (λ _. true) (p ts) else Ok (false, ts)

abbrev pub read_perhaps : {A : Type 0} → (Trees → Bool) → Parser A → Parser (Option A)
read_perhaps begins p = λ ts. if begins ts then mapped (λ a. Some a) (p ts) else Ok (None, ts)

-- ---- trees that are not read

abbrev pub if_shallow : Option Span → Stream → Outcome Stream
if_shallow None s = Ok (s, no_trees)
if_shallow (Some span) s = too_deep_at span

-- all that is left
abbrev pub read_rest : Where → Parser Stream
read_rest w ts = if_shallow (first_too_deep (marks_of w.level ts)) (record { trees = ts; limit = w.limit })

-- ---- lists. A number bounds the turns.

abbrev pub turns : Trees → ℕ
turns ts = length (flatten ts) + 1

-- items with a separator between, and perhaps one behind the last
module _ {A : Type 0} (w : Where) (separator : ℕ) (ends : Trees → Bool) (item : Parser A) where
  abbrev pub list_from : ℕ → List A → Bool → Parser (List A × Bool)
  list_from zero found trailing = refuse w
  list_from (suc n) found trailing = λ ts. if ends ts then Ok ((found, trailing), ts) else and_then (item ts) (λ x mid.
      if sees separator mid then and_then (read_punct separator w mid) (λ _ rest. list_from n (found ++ x ∷ []) true rest) else Ok ((found ++ x ∷ [], false), mid))

  abbrev pub read_list : Parser (List A × Bool)
  read_list = λ ts. list_from (turns ts) [] false ts

-- as many items as begin there
module _ {A : Type 0} (w : Where) (begins : Trees → Bool) (item : Parser A) where
  abbrev pub repeat_from : ℕ → List A → Parser (List A)
  repeat_from zero found = refuse w
  repeat_from (suc n) found = λ ts. if begins ts then and_then (item ts) (λ x mid. repeat_from n (found ++ x ∷ []) mid) else Ok (found, ts)

  abbrev pub read_repeated : List A → Parser (List A)
  read_repeated found = λ ts. repeat_from (turns ts) found ts

-- one item at least, and a separator before each other
abbrev pub read_chain : {A : Type 0} → Where → Parser (Unit {0}) → (Trees → Bool) → Parser A → Parser (List A)
read_chain w separator begins item = λ ts. and_then (item ts) (λ x mid. read_repeated w begins (separator next item) (x ∷ []) mid)

-- ---- ranges

abbrev pub entry_span : Entry → Span
entry_span (entry.Token k) = token_span k
entry_span (entry.Open d from n) = from
entry_span (entry.Close d upto) = upto

abbrev pub last_end : ℕ → List Entry → ℕ
last_end n [] = n
last_end n (e ∷ es) = last_end (entry_span e).«end» es

abbrev pub range_over : List Entry → Span
range_over [] = record { start = 0; «end» = 0 }
range_over (e ∷ es) = record { start = (entry_span e).start; «end» = last_end (entry_span e).«end» es }

-- the range of the tokens before what is left
abbrev pub range_between : Trees → Trees → Span
range_between ts others = range_over (take (length (flatten ts) - length (flatten others)) (flatten ts))

abbrev pub ranged : {A : Type 0} → Parser A → Parser (A × Span)
ranged p = λ ts. and_then (p ts) (λ a others. Ok ((a, range_between ts others), others))

-- ---- what a function that reads ensures: the reader's outcome, unless memory fails

-- the place of a cursor at a level
abbrev pub place : ℕ → Cursor → Where
place n c = record { level = n; limit = end_of c }

abbrev pub Reads : {A X : Type 0} → (X → A) → Outcome A → Result (X × Cursor) Error → Type 0
Reads view outcome (Ok r) = outcome ≡ Ok (view r.0, left r.1)
Reads view outcome (Err (error.Refused r)) = outcome ≡ Err r
Reads view outcome (Err error.NoMemory) = Unit {0}

-- of a part that says nothing
abbrev pub Passes : Outcome (Unit {0}) → Result Cursor Error → Type 0
Passes outcome (Ok c) = outcome ≡ Ok (tt, left c)
Passes outcome (Err (error.Refused r)) = outcome ≡ Err r
Passes outcome (Err error.NoMemory) = Unit {0}

-- of the opening of a group
abbrev pub Opens : Result (Trees × ℕ × Trees) Refusal → Result (Cursor × Cursor) Error → Type 0
Opens outcome (Ok r) = outcome ≡ Ok (left r.0, end_of r.0, left r.1)
Opens outcome (Err (error.Refused r)) = outcome ≡ Err r
Opens outcome (Err error.NoMemory) = Unit {0}
