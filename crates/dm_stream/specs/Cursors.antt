-- What contracts say of places in a list of trees.
use Rattle.std.specs.Prelude.{◌≡◌, ◌<◌, ◌≤◌, ◌+◌, ℕ, zero, suc, Option, Some, None, Bool, true, false, List, length, take, drop}
use Rattle.dm_stream.specs.declared.cursor.Cursor.{Cursor}
use Rattle.dm_stream.specs.declared.cursor.Piece.{Piece}
use Rattle.dm_stream.specs.declared.tokens.Delim.{Delim}
use Rattle.dm_stream.specs.declared.tokens.Delim.TheVariants.{Paren, Bracket, Brace}
use Rattle.dm_stream.specs.declared.tokens.Spacing.{Spacing}
use Rattle.dm_stream.specs.declared.tokens.Spacing.TheVariants.{Joint, Alone}
use Rattle.dm_stream.specs.declared.tokens.Span.{Span}
use Rattle.dm_stream.specs.declared.tokens.Ident.{Ident}
use Rattle.dm_stream.specs.declared.tokens.Lifetime.{Lifetime}
use Rattle.dm_stream.specs.declared.tokens.Punct.{Punct}
use Rattle.dm_stream.specs.declared.tokens.Literal.{Literal}
use Rattle.dm_stream.specs.declared.tokens.Token.TheVariants as t
use Rattle.dm_stream.specs.declared.tokens.Entry.TheVariants as entry
use Rattle.dm_stream.specs.Trees.{Trees, no_trees, token, group, join, flatten, unflatten}

-- the trees that are left
abbrev pub left : Cursor → Trees
left c = unflatten c.entries.now

-- the end of the list
abbrev pub end_of : Cursor → ℕ
end_of c = c.limit

-- whether the entries are those of a list of trees
abbrev pub sound : Cursor → Type 0
sound c = flatten (unflatten c.entries.now) ≡ c.entries.now

-- d stands in a list of trees that ends where that of c does
pub record SharesEnd (c d : Cursor) : Type 0 where
  pub is_sound : sound d
  pub same_limit : end_of d ≡ end_of c

abbrev pub ident_of : t.the_data → Option Ident
ident_of (t.Ident i) = Some i
ident_of _ = None

-- whether no tree is left
abbrev pub at_end : Trees → Bool
at_end no_trees = true
at_end _ = false

-- the token that a list of trees begins with, and the rest
abbrev pub first_token : Trees → Option (t.the_data × Trees)
first_token (token k rest) = Some (k, rest)
first_token _ = None

abbrev pub then_left : {A : Type 0} → Option A → Trees → Option (A × Trees)
then_left None ts = None
then_left (Some a) ts = Some (a, ts)

-- the identifier that a list of trees begins with, and the rest
abbrev pub first_ident : Trees → Option (Ident × Trees)
first_ident (token k rest) = then_left (ident_of k) rest
first_ident _ = None

abbrev pub lifetime_of : t.the_data → Option Lifetime
lifetime_of (t.Lifetime l) = Some l
lifetime_of _ = None

abbrev pub first_lifetime : Trees → Option (Lifetime × Trees)
first_lifetime (token k rest) = then_left (lifetime_of k) rest
first_lifetime _ = None

abbrev pub literal_of : t.the_data → Option Literal
literal_of (t.Literal l) = Some l
literal_of _ = None

abbrev pub first_literal : Trees → Option (Literal × Trees)
first_literal (token k rest) = then_left (literal_of k) rest
first_literal _ = None

abbrev pub punct_of : t.the_data → Option Punct
punct_of (t.Punct p) = Some p
punct_of _ = None

abbrev pub first_punct : Trees → Option (Punct × Trees)
first_punct (token k rest) = then_left (punct_of k) rest
first_punct _ = None

abbrev pub same_delim : Delim → Delim → Bool
same_delim Paren Paren = true
same_delim Bracket Bracket = true
same_delim Brace Brace = true
same_delim _ _ = false

abbrev pub same_spacing : Spacing → Spacing → Bool
same_spacing Joint Joint = true
same_spacing Alone Alone = true
same_spacing _ _ = false

abbrev pub group_if : Bool → Trees → Span → Trees → Option (Trees × ℕ × Trees)
group_if true inside upto rest = Some (inside, upto.start, rest)
group_if false inside upto rest = None

-- the group that a list of trees begins with: its inside, where that ends, and what follows the group
abbrev pub first_group : Delim → Trees → Option (Trees × ℕ × Trees)
first_group d (group e from inside upto rest) = group_if (same_delim e d) inside upto rest
first_group d _ = None

abbrev pub entry_start : entry.the_data → ℕ
entry_start (entry.Token t) = 0
entry_start (entry.Open d from n) = from.start
entry_start (entry.Close d upto) = upto.start

-- the first tree of a list, as a list of its own, and the rest
abbrev pub first_tree : Trees → Option (Trees × Trees)
first_tree no_trees = None
first_tree (token k rest) = Some (token k no_trees, rest)
first_tree (group d from inside upto rest) = Some (group d from inside upto no_trees, rest)

-- what the first n entries of a flat form are
pub record IsTreeLen (es : List entry.the_data) (n : ℕ) : Type 0 where
  pub fits : n ≤ length es
  pub positive : 0 < n
  pub front_is_flat : flatten (unflatten (take n es)) ≡ take n es
  pub back_is_flat : flatten (unflatten (drop n es)) ≡ drop n es
  pub trees_are : first_tree (unflatten es) ≡ Some (unflatten (take n es), unflatten (drop n es))

abbrev pub IsFlat : List entry.the_data → Type 0
IsFlat es = flatten (unflatten es) ≡ es

abbrev pub token_span : t.the_data → Span
token_span (t.Ident i) = i.span
token_span (t.Punct p) = p.span
token_span (t.Literal l) = l.span
token_span (t.Lifetime l) = l.span

-- the range of the first tree, or the empty one at the end
abbrev pub first_span : Trees → ℕ → Span
first_span no_trees n = record { start = n; «end» = n }
first_span (token k rest) n = token_span k
first_span (group d from inside upto rest) n = record { start = from.start; «end» = upto.«end» }

-- the range of the first token, which of a group is its opening delimiter, or the empty one at the end
abbrev pub front_span : Trees → ℕ → Span
front_span no_trees n = record { start = n; «end» = n }
front_span (token k rest) n = token_span k
front_span (group d from inside upto rest) n = from

-- the trees of a run
abbrev pub trees_in : Piece → Trees
trees_in p = unflatten p.entries.now

-- the end of the list from which a run was taken
abbrev pub piece_end : Piece → ℕ
piece_end p = p.limit

-- whether the entries of a run are those of a list of trees
abbrev pub sound_piece : Piece → Type 0
sound_piece p = flatten (unflatten p.entries.now) ≡ p.entries.now

abbrev pub entry_end : entry.the_data → ℕ
entry_end (entry.Token t) = 0
entry_end (entry.Open d from n) = from.«end»
entry_end (entry.Close d upto) = upto.«end»

-- `first` put before the trees that were taken
abbrev pub before : Trees → Option (Trees × Trees) → Option (Trees × Trees)
before first None = None
before first (Some r) = Some (join first r.0, r.1)

-- the first n trees of a list, and the rest, where it has so many
abbrev pub split_trees : ℕ → Trees → Option (Trees × Trees)
split_trees zero ts = Some (no_trees, ts)
split_trees (suc n) no_trees = None
split_trees (suc n) (token k rest) = before (token k no_trees) (split_trees n rest)
split_trees (suc n) (group d from inside upto rest) = before (group d from inside upto no_trees) (split_trees n rest)

-- the first entries, up to `at`, are those of all but `more` of the first `count` trees
pub record IsCutAfter (es : List entry.the_data) (count more at : ℕ) : Type 0 where
  pub fits : at ≤ length es
  pub front_is_flat : IsFlat (take at es)
  pub back_is_flat : IsFlat (drop at es)
  pub go_on : split_trees count (unflatten es) ≡ before (unflatten (take at es)) (split_trees more (unflatten (drop at es)))

-- the number of tokens and groups, at all depths: a measure for a recursion over trees
abbrev pub weight : Trees → ℕ
weight no_trees = 0
weight (token k rest) = weight rest + 1
weight (group d from inside upto rest) = weight inside + weight rest + 1
