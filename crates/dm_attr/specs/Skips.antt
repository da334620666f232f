-- Which places an attribute skips: `#[NAME(skip)]` or `#[NAME(ignore)]`, in any delimiters.
use Rattle.std.specs.Prelude.{ℕ, List, [], ◌∷◌, Bool, true, false, cond, Option, Some, None, codes, filter}
use Rattle.std.specs.Option.{is_some}
use Rattle.dm_stream.specs.declared.tokens.Ident.{Ident}
use Rattle.dm_stream.specs.declared.tokens.Token.TheVariants as t
use Rattle.dm_stream.specs.Trees.{Trees, no_trees, token}
use Rattle.dm_ast.specs.declared.plain.Attribute.{Attribute}
use Rattle.dm_ast.specs.declared.plain.AttrArgs.{AttrArgs}
use Rattle.dm_ast.specs.declared.plain.AttrArgs.TheVariants as args
use Rattle.dm_ast.specs.Declarations.{FieldTree}
use Rattle.dm_attr.specs.declared.skip.Skip.{Skip}
use Rattle.dm_attr.specs.declared.skip.Skip.TheVariants.{BySkip, ByIgnore}
pub use Rattle.dm_attr.specs.Examined.{is_spelled, is_one_word, is_examined}

abbrev pub skip_name : Skip → List ℕ
skip_name BySkip = codes "skip"
skip_name ByIgnore = codes "ignore"

-- the word by which a place is skipped
abbrev pub skip_named : Ident → Option Skip
skip_named i = cond (is_spelled (codes "skip") i) (Some BySkip) (cond (is_spelled (codes "ignore") i) (Some ByIgnore) None)

abbrev pub skip_in : Trees → Option Skip
skip_in (token (t.Ident i) no_trees) = skip_named i
skip_in _ = None

-- what the contents of an attribute are read as, by what their trees are
abbrev pub read_in : {T : Type 0} → (Trees → Option T) → AttrArgs → Option T
read_in value_of args.Absent = None
read_in value_of (args.List d inside) = value_of inside.trees
read_in value_of (args.Value o) = None

abbrev pub reads_in : {T : Type 0} → (Trees → Option T) → AttrArgs → Bool
reads_in value_of a = is_some (read_in value_of a)

abbrev pub reads_skip : AttrArgs → Bool
reads_skip a = reads_in skip_in a

pub data Skipping : Type 0 where
  no : Skipping
  yes : Skipping
  bad : Skipping

-- none is examined; exactly one is, and it reads; anything else
abbrev pub once_among : (AttrArgs → Bool) → List Attribute → Skipping
once_among reads [] = no
once_among reads (a ∷ []) = cond (reads a.args) yes bad
once_among reads (a ∷ b ∷ more) = bad

abbrev pub skip_among : List Attribute → Skipping
skip_among attrs = once_among reads_skip attrs

abbrev pub skip : List Attribute → List ℕ → Skipping
skip attrs name = skip_among (filter (is_examined name) attrs)

abbrev pub or_else : Skipping → Skipping → Skipping
or_else no s = s
or_else yes s = yes
or_else bad s = bad

-- under `partial_eq`, or under `eq` where the first gave none
abbrev pub partial_eq_skip : List Attribute → Skipping
partial_eq_skip attrs = or_else (skip attrs (codes "partial_eq")) (skip attrs (codes "eq"))

abbrev pub is_yes : Skipping → Bool
is_yes no = false
is_yes yes = true
is_yes bad = false

-- whether `PartialEq` skips the place with these attributes
unfoldable pub is_skipped : List Attribute → Bool
is_skipped attrs = is_yes (partial_eq_skip attrs)

abbrev pub skips_field : FieldTree → Bool
skips_field f = is_skipped f.attrs
