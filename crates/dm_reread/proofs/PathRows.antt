-- Paths, arguments, formats and macros, read back.
use Rattle.std.specs.Prelude.{◌≡◌, ℕ, suc, ◌+◌, ◌≤◌, ◌==◌, ◌&&◌, Bool, true, false, cond, T, codes, List, [], ◌∷◌, Option, Some, None, refl}
use Rattle.std.proofs.Common.{◌∙◌}
use native.Mathlib.Omega.{arith}
use Rattle.dm_stream.specs.declared.tokens.Delim.TheVariants.{Paren}
use Rattle.dm_stream.specs.declared.tokens.Ident.{Ident}
use Rattle.dm_stream.specs.declared.tokens.Token.TheVariants as t
use Rattle.dm_stream.specs.Layout.{nowhere}
use Rattle.dm_stream.specs.Trees.{Trees, no_trees, token, group, join}
use Rattle.dm_ast.specs.Keywords.{is_name}
use Rattle.dm_ast.specs.Tree.{TypeTree, MaybeSelf, no_self, some_self, PathTree, path_tree, segment, SegmentTrees, no_segments, segment_then, absent}
use Rattle.dm_ast.specs.TypeTokens.{name, spaced, path_trees}
use Rattle.dm_output.specs.Output.{FmtArgTree, FmtTree, ExprTree, write_expr, format_args, ExprTrees, no_exprs, expr_then}
use Rattle.dm_output.specs.Tokens as k
use Rattle.dm_output.specs.Tokens.{expr_trees, each_expr, ended, path_expr_trees, alias_trees, fmt_trees}
use Rattle.dm_reread.specs.Next.{a_name, next}
use Rattle.dm_reread.specs.Leaves.{LeafGrammar, Leaves, ends_qualified, ends_run, LeafLaws}
use Rattle.dm_reread.specs.Reading.{Readers, segment_from, more_segments, plain_path, path_base, after_path, read_base, more_args, read_args, is_alone, alias_of, read_fmt_arg, more_fmt_args, read_fmt, pattern_path, read_pattern}
use Rattle.dm_reread.specs.Grammar.{at_or, Stops, ArePlain, IsPlainPath, IsPath, is_any, IsExpr, IsName, Each, IsFmtArg, AreFmtArgs, IsFmt}
use Rattle.dm_reread.specs.Need.{need, needs, segments_need, path_need, any_path_need, fmt_args_need}
use Rattle.dm_reread.proofs.Words.{plainly, word-next, name-next, name-path, derive-more-name, core-name, write-name, format-args-name}
use Rattle.dm_reread.proofs.Passing.{EndsPath, ends-path, segments-stop, args-some}
use Rattle.dm_reread.proofs.Laws.{Laws, tail, colons_tail, fmt_tail}

-- ---- paths

-- the segments behind `::` or at the front
pub segments-row : (g : LeafGrammar) (r : Readers) (n : ℕ) (L : Laws g r n) (i : Ident) (ss : SegmentTrees) (rest : Trees) → ArePlain ss →
    segments_need ss ≤ n →
    EndsPath (next rest) → segment_from r (a_name i (join (colons_tail ss) rest)) ≡ Some (segment_then (segment i absent) ss, rest)
segments-row g r n L i ss rest p m s = rw (L.segments ss rest p m s) refl

pub more-segments-row : (g : LeafGrammar) (r : Readers) (n : ℕ) (L : Laws g r n) (ss : SegmentTrees) (rest : Trees) → ArePlain ss →
    segments_need ss ≤ suc n →
    EndsPath (next rest) → more_segments r (join (colons_tail ss) rest) (next (join (colons_tail ss) rest)) ≡ Some (ss, rest)
more-segments-row g r n L no_segments rest p m s = segments-stop r rest (next rest) s
more-segments-row g r n L (segment_then (segment i absent) ss) rest p m s =
    rw (word-next i (join (colons_tail ss) rest) p.0) (segments-row g r n L i ss rest p.1 (omega arith) s)
more-segments-row g r n L (segment_then (segment i x) ss) rest p m s = absurd p

pub path-row : (g : LeafGrammar) (r : Readers) (n : ℕ) (L : Laws g r n) (p : PathTree) (rest : Trees) → IsPlainPath p →
    path_need p ≤ suc n →
    EndsPath (next rest) → plain_path r (next (join (path_trees nowhere p) rest)) ≡ Some (p, rest)
path-row g r n L (path_tree leading no_segments) rest p m s = absurd p.0
path-row g r n L (path_tree false (segment_then (segment i absent) ss)) rest p m s =
    rw (word-next i (join (colons_tail ss) rest) p.1.0, segments-row g r n L i ss rest p.1.1 (omega arith) s) refl
path-row g r n L (path_tree true (segment_then (segment i absent) ss)) rest p m s =
    rw (word-next i (join (colons_tail ss) rest) p.1.0, segments-row g r n L i ss rest p.1.1 (omega arith) s) refl
path-row g r n L (path_tree leading (segment_then (segment i x) ss)) rest p m s = absurd p.1

-- where a plain path stands, an expression and a pattern begin with one
base-path : (r : Readers) (b : Bool) (p : PathTree) (rest : Trees) → IsPlainPath p →
    read_base r b (join (path_trees nowhere p) rest) (next (join (path_trees nowhere p) rest)) ≡
    path_base r b (next (join (path_trees nowhere p) rest))
base-path r b (path_tree leading no_segments) rest p = absurd p.0
base-path r b (path_tree false (segment_then (segment i absent) ss)) rest p = rw (word-next i (join (colons_tail ss) rest) p.1.0) refl
base-path r b (path_tree true (segment_then (segment i absent) ss)) rest p = refl
base-path r b (path_tree leading (segment_then (segment i x) ss)) rest p = absurd p.1

pub pattern-path : (r : Readers) (p : PathTree) (rest : Trees) → IsPlainPath p →
    read_pattern r (next (join (path_trees nowhere p) rest)) ≡ pattern_path r (next (join (path_trees nowhere p) rest))
pattern-path r (path_tree leading no_segments) rest p = absurd p.0
pattern-path r (path_tree false (segment_then (segment i absent) ss)) rest p = rw (word-next i (join (colons_tail ss) rest) p.1.0) refl
pattern-path r (path_tree true (segment_then (segment i absent) ss)) rest p = refl
pattern-path r (path_tree leading (segment_then (segment i x) ss)) rest p = absurd p.1

plain-base-row : (g : LeafGrammar) (r : Readers) (n : ℕ) (L : Laws g r n) (b : Bool) (p : PathTree) (rest : Trees) → IsPlainPath p →
    path_need p ≤ suc n →
    EndsPath (next rest) →
    read_base r b (join (path_trees nowhere p) rest) (next (join (path_trees nowhere p) rest)) ≡ after_path r b no_self p rest (next rest)
plain-base-row g r n L b p rest h m s = base-path r b p rest h ∙ rw (path-row g r n L p rest h m s) refl

qualified-row : (g : LeafGrammar) (r : Readers) (n : ℕ) (L : Laws g r n) (b : Bool) (t : TypeTree) (position : ℕ) (p : PathTree) (rest : Trees) →
    g.IsQualified (some_self t position) p → T (ends_qualified (next rest)) →
    read_base r b (join (path_expr_trees (some_self t position) p) rest) (next (join (path_expr_trees (some_self t position) p) rest)) ≡
    after_path r b (some_self t position) p rest (next rest)
qualified-row g r n L b t position (path_tree leading ss) rest h s = rw (L.leaf.qualified t position (path_tree leading ss) rest h s) refl

pub any-path-row : (g : LeafGrammar) (r : Readers) (n : ℕ) (L : Laws g r n) (b : Bool) (q : MaybeSelf) (p : PathTree) (rest : Trees) →
    IsPath g q p → any_path_need q p ≤ suc n →
    T (ends_qualified (next rest)) →
    read_base r b (join (path_expr_trees q p) rest) (next (join (path_expr_trees q p) rest)) ≡ after_path r b q p rest (next rest)
any-path-row g r n L b no_self p rest h m s = plain-base-row g r n L b p rest h m (ends-path (next rest) s)
any-path-row g r n L b (some_self t position) p rest h m s = qualified-row g r n L b t position p rest h s

-- ---- arguments

-- expressions behind one, as the tail of a list shows them
comma-stops : (es : ExprTrees) → Stops at_or true (next (tail k.comma es))
comma-stops no_exprs = tt
comma-stops (expr_then e es) = tt

pub first-args : (g : LeafGrammar) (r : Readers) (n : ℕ) (L : Laws g r n) (c : Bool) (e : ExprTree) (es : ExprTrees) → IsExpr g true e →
    Each g at_or true es →
    need e + needs es ≤ n → read_args r c (join (expr_trees e) (tail k.comma es)) ≡ Some (expr_then e es, false)
first-args g r n L c e es h hs m =
    let first : r.expr true (join (expr_trees e) (tail k.comma es)) ≡ Some (e, tail k.comma es) =
    L.expr true e (tail k.comma es) h (omega arith) (comma-stops es) in
    args-some r c (join (expr_trees e) (tail k.comma es)) (e, tail k.comma es) L.empty first ∙ rw (first, L.args es hs (omega arith)) refl

pub args-row : (g : LeafGrammar) (r : Readers) (n : ℕ) (L : Laws g r n) (es : ExprTrees) → Each g at_or true es → needs es ≤ suc n →
    more_args r (next (tail k.comma es)) ≡ Some (es, false)
args-row g r n L no_exprs h m = refl
args-row g r n L (expr_then e es) h m = first-args g r n L true e es h.0.0 h.1 (omega arith)

pub ended-args : (g : LeafGrammar) (r : Readers) (n : ℕ) (L : Laws g r n) (c : Bool) (e : ExprTree) (es : ExprTrees) → IsExpr g true e →
    Each g at_or true es →
    need e + needs es ≤ n → read_args r c (join (expr_trees e) (join k.comma (ended (each_expr es)))) ≡ Some (expr_then e es, true)
ended-args g r n L c e es h hs m =
    let more : Trees = join k.comma (ended (each_expr es)) in
    let first : r.expr true (join (expr_trees e) more) ≡ Some (e, more) =
    L.expr true e more h (omega arith) tt in
    args-some r c (join (expr_trees e) more) (e, more) L.empty first ∙ rw (first, L.ended_args es hs (omega arith)) refl

pub ended-row : (g : LeafGrammar) (r : Readers) (n : ℕ) (L : Laws g r n) (es : ExprTrees) → Each g at_or true es → needs es ≤ suc n →
    more_args r (next (join k.comma (ended (each_expr es)))) ≡ Some (es, true)
ended-row g r n L no_exprs h m = refl
ended-row g r n L (expr_then e es) h m = ended-args g r n L true e es h.0.0 h.1 (omega arith)

-- all arguments of a call
pub all-args : (g : LeafGrammar) (r : Readers) (n : ℕ) (L : Laws g r n) (es : ExprTrees) → Each g at_or true es → needs es ≤ suc n →
    read_args r false (spaced k.comma true (each_expr es)) ≡ Some (es, false)
all-args g r n L no_exprs h m = refl
all-args g r n L (expr_then e es) h m = first-args g r n L false e es h.0.0 h.1 (omega arith)

pub all-ended : (g : LeafGrammar) (r : Readers) (n : ℕ) (L : Laws g r n) (es : ExprTrees) → T (is_any es) → Each g at_or true es →
    needs es ≤ suc n →
    read_args r false (ended (each_expr es)) ≡ Some (es, true)
all-ended g r n L no_exprs any h m = absurd any
all-ended g r n L (expr_then e es) any h m = ended-args g r n L false e es h.0.0 h.1 (omega arith)

-- ---- formats

unchosen : {A : Type 0} → (c : Bool) (x y : A) → cond c (Some x) None ≡ None → cond c (Some y) None ≡ None
unchosen true x y h = absurd (cc)
unchosen false x y h = refl

-- a value without a name, with other arguments behind it
no-alias : (v : Trees) (as' : List FmtArgTree) → alias_of v ≡ None → alias_of (join v (fmt_tail as')) ≡ None
no-alias no_trees [] h = refl
no-alias no_trees (a ∷ as') h = refl
no-alias (group d from inside upto ts) as' h = refl
no-alias (token (t.Ident i) no_trees) [] h = refl
no-alias (token (t.Ident i) no_trees) (a ∷ as') h = refl
no-alias (token (t.Ident i) (group d from inside upto ts)) as' h = refl
no-alias (token (t.Ident i) (token (t.Punct p) ts)) as' h =
    unchosen ((is_alone p.spacing && (p.ch == 61)) && is_name i) (i, ts) (i, join ts (fmt_tail as')) h
no-alias (token (t.Ident i) (token (t.Ident j) ts)) as' h = refl
no-alias (token (t.Ident i) (token (t.Literal l) ts)) as' h = refl
no-alias (token (t.Ident i) (token (t.Lifetime l) ts)) as' h = refl
no-alias (token (t.Punct p) ts) as' h = refl
no-alias (token (t.Literal l) ts) as' h = refl
no-alias (token (t.Lifetime l) ts) as' h = refl

-- what ends an argument
args-end : (as' : List FmtArgTree) → T (ends_run (next (fmt_tail as')))
args-end [] = tt
args-end (a ∷ as') = tt

fmt-arg-row : (g : LeafGrammar) (l : Leaves) (L : LeafLaws g l) (alias : Option Ident) (v : Trees) (as' : List FmtArgTree) →
    IsFmtArg g alias v →
    read_fmt_arg l (join (join (alias_trees alias) v) (fmt_tail as')) ≡ Some (record { alias = alias; value = v }, fmt_tail as')
fmt-arg-row g l L None v as' h = rw (no-alias v as' h.1, L.run v (fmt_tail as') h.0 (args-end as')) refl
fmt-arg-row g l L (Some i) v as' h = rw (h.1, L.run v (fmt_tail as') h.0 (args-end as')) refl

pub fmt-args-row : (g : LeafGrammar) (r : Readers) (n : ℕ) (L : Laws g r n) (as' : List FmtArgTree) → AreFmtArgs g as' →
    fmt_args_need as' ≤ suc n →
    more_fmt_args r (next (fmt_tail as')) ≡ Some as'
fmt-args-row g r n L [] h m = refl
fmt-args-row g r n L (a ∷ as') h m = rw (fmt-arg-row g r.leaves L.leaf a.alias a.value as' h.0, L.fmt_args as' h.1 (omega arith)) refl

pub fmt-row : (g : LeafGrammar) (r : Readers) (n : ℕ) (L : Laws g r n) (f : FmtTree) → IsFmt g f → fmt_args_need f.args ≤ n →
    read_fmt r (next (fmt_trees f)) ≡ Some f
fmt-row g r n L f h m = rw (L.fmt_args f.args h m) refl

-- ---- macros

-- `derive_more::core::` and a name
abbrev macro_path : List ℕ → PathTree
macro_path called = path_tree false (segment_then (segment (plainly (codes "derive_more")) absent)
    (segment_then (segment (plainly (codes "core")) absent) (segment_then (segment (plainly called) absent) no_segments)))

macro-plain : (called : List ℕ) → IsName (plainly called) → IsPlainPath (macro_path called)
macro-plain called h =
    (tt, (name-path (plainly (codes "derive_more")) derive-more-name, (name-path (plainly (codes "core")) core-name, (name-path (plainly called) h, tt))))

pub format-args-row : (g : LeafGrammar) (r : Readers) (n : ℕ) (L : Laws g r n) (b : Bool) (f : FmtTree) (rest : Trees) → IsFmt g f →
    4 + fmt_args_need f.args ≤ n →
    read_base r b (join (expr_trees (format_args f)) rest) (next (join (expr_trees (format_args f)) rest)) ≡ Some (format_args f, rest)
format-args-row g r n L b f rest h m =
    plain-base-row g r n L b (macro_path (codes "format_args")) (join (k.punct 33) (join (k.enclosed Paren (fmt_trees f)) rest))
    (macro-plain (codes "format_args") format-args-name) (omega arith) tt ∙ rw (fmt-row g r n L f h (omega arith)) refl

pub write-row : (g : LeafGrammar) (r : Readers) (n : ℕ) (L : Laws g r n) (b : Bool) (i : Ident) (f : FmtTree) (rest : Trees) → IsName i →
    IsFmt g f →
    4 + fmt_args_need f.args ≤ n →
    read_base r b (join (expr_trees (write_expr i f)) rest) (next (join (expr_trees (write_expr i f)) rest)) ≡ Some (write_expr i f, rest)
write-row g r n L b i f rest w h m =
    plain-base-row g r n L b (macro_path (codes "write")) (join (k.punct 33) (join (k.enclosed Paren (join (name i) (join k.comma (fmt_trees f)))) rest))
    (macro-plain (codes "write") write-name) (omega arith) tt ∙
    rw (name-next i (join k.comma (fmt_trees f)) w, w, fmt-row g r n L f h (omega arith)) refl
