-- What is read of a few texts, whatever the leaves are.
use Rattle.std.specs.Prelude.{◌≡◌, ℕ, true, false, codes, Some, None, refl}
use Rattle.dm_stream.specs.declared.tokens.Delim.TheVariants.{Paren}
use Rattle.dm_stream.specs.declared.tokens.LitKind.TheVariants.{Int}
use Rattle.dm_stream.specs.declared.tokens.Spacing.TheVariants.{Joint}
use Rattle.dm_stream.specs.declared.tokens.Token.TheVariants as t
use Rattle.dm_stream.specs.Layout.{nowhere}
use Rattle.dm_stream.specs.Trees.{Trees, no_trees, token, join}
use Rattle.dm_ast.specs.Keywords.{is_keyword}
use Rattle.dm_ast.specs.Tree.{path_tree, segment, segment_then, no_segments, absent}
use Rattle.dm_ast.specs.TypeTokens as syntax
use Rattle.dm_output.specs.Output.{equal, ref_expr, method_call, bool, no_exprs, path_pattern}
use Rattle.dm_output.specs.Tokens as k
use Rattle.dm_reread.specs.Leaves.{Leaves}
use Rattle.dm_reread.specs.Reading.{readers, whole}
use Rattle.dm_reread.specs.Whole.{read_whole, read_pattern}
use Rattle.dm_reread.proofs.Words.{plainly}

-- `& ()`
pub ref-nothing : (l : Leaves) → read_whole l (join (k.punct 38) (k.enclosed Paren no_trees)) ≡ None
unfolding readers
ref-nothing l = refl

-- `& mut (true)`
pub mut-group : (l : Leaves) →
    read_whole l (join (k.punct 38) (join (k.word (codes "mut")) (k.enclosed Paren (k.word (codes "true"))))) ≡ None
unfolding readers
mut-group l = refl

-- `() (true)`
pub call-nothing : (l : Leaves) → read_whole l (join (k.enclosed Paren no_trees) (k.enclosed Paren (k.word (codes "true")))) ≡ None
unfolding readers
call-nothing l = refl

-- `true . map_err ()`
pub map-err-nothing : (l : Leaves) →
    read_whole l (join (k.word (codes "true")) (join (k.punct 46) (join (k.word (codes "map_err")) (k.enclosed Paren no_trees)))) ≡
    Some (method_call (bool true) (plainly (codes "map_err")) no_exprs)
unfolding readers is_keyword
map-err-nothing l = refl

-- `true . f (true,)`
pub method-comma : (l : Leaves) →
    read_whole l
    (join (k.word (codes "true"))
    (join (k.punct 46) (join (k.word (codes "f")) (k.enclosed Paren (join (k.word (codes "true")) k.comma))))) ≡
    None
unfolding readers is_keyword
method-comma l = refl

-- `true == & false`
pub equal-ref : (l : Leaves) →
    read_whole l (join (k.word (codes "true")) (join (k.joint 61 61) (join (k.punct 38) (k.word (codes "false"))))) ≡
    Some (equal (bool true) (ref_expr false (bool false)))
unfolding readers
equal-ref l = refl

-- a punct with another right behind it
abbrev close : ℕ → Trees → Trees
close ch ts = token (t.Punct (record { ch = ch; spacing = Joint; span = nowhere })) ts

-- `true ==& false`
pub equal-close : (l : Leaves) →
    read_whole l (join (k.word (codes "true")) (close 61 (close 61 (join (k.punct 38) (k.word (codes "false")))))) ≡ None
unfolding readers
equal-close l = refl

-- a number alone
pub number : (l : Leaves) → read_whole l (syntax.literal (record { kind = Int; text = codes "1"; span = nowhere })) ≡ None
unfolding readers
number l = refl

-- `core :: write ! (true)`
pub other-macro : (l : Leaves) →
    read_whole l
    (join (k.word (codes "core"))
    (join (k.joint 58 58) (join (k.word (codes "write")) (join (k.punct 33) (k.enclosed Paren (k.word (codes "true"))))))) ≡
    None
unfolding readers is_keyword
other-macro l = refl

-- `Self` is a path where a pattern stands
pub self-pattern : (l : Leaves) →
    whole (read_pattern l (k.word (codes "Self"))) ≡
    Some (path_pattern (path_tree false (segment_then (segment (plainly (codes "Self")) absent) no_segments)))
unfolding readers is_keyword
self-pattern l = refl
