-- Readers of the parts that hold no types.
use Rattle.std.specs.Prelude.{Bool, false, if◌then◌else◌, ◌||◌, List, [], codes, Option, Some, None, Ok}
use Rattle.dm_stream.specs.declared.seq.Punctuated.{Punctuated}
use Rattle.dm_stream.specs.declared.tokens.Span.{Span}
use Rattle.dm_stream.specs.declared.tokens.Delim.{Delim}
use Rattle.dm_stream.specs.declared.tokens.Delim.TheVariants.{Paren, Bracket, Brace}
use Rattle.dm_stream.specs.declared.tokens.Ident.{Ident}
use Rattle.dm_stream.specs.declared.tokens.Lifetime.{Lifetime}
use Rattle.dm_stream.specs.declared.tokens.Literal.{Literal}
use Rattle.dm_stream.specs.declared.tokens.Token.TheVariants as t
use Rattle.dm_stream.specs.Trees.{Trees, token, group, Stream}
use Rattle.dm_ast.specs.declared.plain.PlainPath.{PlainPath}
use Rattle.dm_ast.specs.declared.plain.Attribute.{Attribute}
use Rattle.dm_ast.specs.declared.plain.AttrArgs.{AttrArgs}
use Rattle.dm_ast.specs.declared.plain.AttrArgs.TheVariants as args
use Rattle.dm_ast.specs.declared.plain.Opaque.{Opaque}
use Rattle.dm_ast.specs.declared.plain.ConstArg.{ConstArg}
use Rattle.dm_ast.specs.declared.plain.ConstArg.TheVariants as constant
use Rattle.dm_ast.specs.declared.plain.Vis.{Vis}
use Rattle.dm_ast.specs.declared.plain.Vis.TheVariants as vis
use Rattle.dm_ast.specs.Tree.{Lifetimes}
use Rattle.dm_ast.specs.Keywords.{is_name}
use Rattle.dm_ast.specs.Spelling.{Where, deeper, at_end, sees, sees_word, sees_colons, sees_equals, sees_literal, sees_group}
use Rattle.dm_ast.specs.TypeGrammar.{is_truth}
use Rattle.dm_ast.specs.DeclarationGrammar.{sees_restriction}
use Rattle.dm_ast.specs.Readers.{Outcome, Parser, mapped, ◌and◌, ◌next◌, ◌till◌, ◌gives◌, refuse, read_flag, read_perhaps, read_any, read_ident, read_lifetime, read_literal, read_punct, read_word, read_colons, read_equals, read_group, read_rest, read_list, read_repeated, read_chain, ranged}

-- ---- plain paths

abbrev pub plain_path_of : Bool × List Ident → PlainPath
plain_path_of v = record { leading_colon = v.0; segments = v.1 }

abbrev pub read_leading : Where → Parser Bool
read_leading w = read_flag sees_colons (read_colons w)

abbrev pub read_idents : Where → Parser (List Ident)
read_idents w = read_chain w (read_colons w) sees_colons (read_any w)

abbrev pub read_plain : Where → Parser PlainPath
read_plain w = (read_leading w and read_idents w) gives plain_path_of

-- ---- groups of any delimiter, and what is not read

abbrev pub delim_of : Trees → Option Delim
delim_of (group d from inside upto rest) = Some d
delim_of _ = None

abbrev pub with_delim : Delim → Stream → Delim × Stream
with_delim d s = (d, s)

abbrev pub kept_by : Where → Trees → Option Delim → Outcome (Delim × Stream)
kept_by w ts None = refuse w ts
kept_by w ts (Some d) = mapped (with_delim d) (read_group d read_rest w ts)

-- a group that is not read
abbrev pub read_kept : Where → Parser (Delim × Stream)
read_kept w ts = kept_by w ts (delim_of ts)

abbrev pub opaque_of : Stream → Opaque
opaque_of s = record { tokens = s }

-- all that is left, one tree at least
abbrev pub read_opaque : Where → Parser Opaque
read_opaque w ts = if at_end ts then refuse w ts else mapped opaque_of (read_rest w ts)

-- ---- attributes

abbrev pub list_args : Delim × Stream → AttrArgs
list_args v = args.List v.0 v.1

abbrev pub value_args : Opaque → AttrArgs
value_args o = args.Value o

abbrev pub read_value : Where → Parser Opaque
read_value w = read_equals w next read_opaque w

abbrev pub read_args : Where → Parser AttrArgs
read_args w ts = if at_end ts then Ok (args.Absent, ts) else (if sees_equals ts then mapped value_args (read_value w ts) else mapped list_args (read_kept w ts))

abbrev pub read_inside : Where → Parser (PlainPath × AttrArgs)
read_inside v = read_plain v and read_args v

abbrev pub attribute_of : (PlainPath × AttrArgs) × Span → Attribute
attribute_of v = record { path = v.0.0; args = v.0.1; span = v.1 }

abbrev pub read_bracketed : Where → Parser (PlainPath × AttrArgs)
read_bracketed w = read_punct 35 w next read_group Bracket read_inside w

abbrev pub read_attribute : Where → Parser Attribute
read_attribute w = ranged (read_bracketed w) gives attribute_of

abbrev pub read_attributes : Where → Parser (List Attribute)
read_attributes w = read_repeated w (sees 35) (read_attribute w) []

-- ---- `<..>` and `for<..>`

abbrev pub read_angles : {A : Type 0} → (Where → Parser A) → Where → Parser A
read_angles inner w = read_punct 60 w next (inner (deeper w) till read_punct 62 w)

abbrev pub punctuated : {A : Type 0} → List A × Bool → Punctuated A
punctuated v = record { items = v.0; trailing = v.1 }

abbrev pub read_lifetimes : Where → Parser (Punctuated Lifetime)
read_lifetimes v = read_list v 44 (sees 62) (read_lifetime v) gives punctuated

abbrev pub read_some_for : Where → Parser (Punctuated Lifetime)
read_some_for w = read_word (codes "for") w next read_angles read_lifetimes w

abbrev pub read_for : Where → Parser Lifetimes
read_for w = read_perhaps (sees_word (codes "for")) (read_some_for w)

-- ---- constants

abbrev pub literal_of : Bool × Literal → ConstArg
literal_of v = constant.Literal v.0 v.1

abbrev pub read_minus : Where → Parser Bool
read_minus w = read_flag (sees 45) (read_punct 45 w)

abbrev pub read_signed : Where → Parser (Bool × Literal)
read_signed w = read_minus w and read_literal w

abbrev pub truth_of : Ident → ConstArg
truth_of i = constant.Bool i

abbrev pub block_of : Stream → ConstArg
block_of s = constant.Block s

abbrev pub name_of : Ident → ConstArg
name_of i = constant.Name i

abbrev pub sees_truth : Trees → Bool
sees_truth (token (t.Ident i) rest) = is_truth i
sees_truth _ = false

abbrev pub read_constant : Where → Parser ConstArg
read_constant w ts =
    if sees 45 ts || sees_literal ts then mapped literal_of (read_signed w ts)
    else (if sees_group Brace ts then mapped block_of (read_group Brace read_rest w ts)
    else (if sees_truth ts then mapped truth_of (read_ident is_truth w ts) else mapped name_of (read_ident is_name w ts)))

-- ---- visibility

abbrev pub as_crate : Unit {0} → Vis
as_crate _ = vis.Crate

abbrev pub as_self : Unit {0} → Vis
as_self _ = vis.SelfOnly

abbrev pub as_super : Unit {0} → Vis
as_super _ = vis.Super

abbrev pub as_in : PlainPath → Vis
as_in p = vis.In p

abbrev pub read_within : Where → Parser Vis
read_within v ts =
    if sees_word (codes "crate") ts then mapped as_crate (read_word (codes "crate") v ts)
    else (if sees_word (codes "self") ts then mapped as_self (read_word (codes "self") v ts)
    else (if sees_word (codes "super") ts then mapped as_super (read_word (codes "super") v ts)
    else mapped as_in ((read_word (codes "in") v next read_plain v) ts)))

abbrev pub read_restriction : Where → Parser Vis
read_restriction w ts = if sees_restriction ts then read_group Paren read_within w ts else Ok (vis.Public, ts)

abbrev pub read_visibility : Where → Parser (Option Vis)
read_visibility w = read_perhaps (sees_word (codes "pub")) (read_word (codes "pub") w next read_restriction w)
