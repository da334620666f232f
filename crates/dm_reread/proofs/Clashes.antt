-- Two trees with the same tokens, for each condition of the grammar that keeps them apart.
use Rattle.std.specs.Prelude.{◌≡◌, true, false, [], ◌∷◌, codes, Some, None, refl}
use Rattle.std.proofs.Common.{ap}
use Rattle.dm_stream.specs.declared.tokens.Ident.{Ident}
use Rattle.dm_stream.specs.declared.tokens.Literal.{Literal}
use Rattle.dm_stream.specs.declared.tokens.Delim.TheVariants.{Paren}
use Rattle.dm_stream.specs.Trees.{Trees, no_trees, join, join-no_trees, join_assoc}
use Rattle.dm_ast.specs.Tree.{no_self, PathTree, path_tree, segment, segment_then, no_segments, absent}
use Rattle.dm_ast.specs.TypeTokens.{name}
use Rattle.dm_output.specs.declared.pattern.Binding.TheVariants as binding
use Rattle.dm_output.specs.declared.expr.Member.TheVariants as m
use Rattle.dm_output.specs.Output.{ExprTree, or_expr, and_expr, equal, deref, path_expr, call, build, tuple, bool, return_expr, ref_opaque, ref_expr, member, method_call, map_err, paren, format_args, expr_then, no_exprs, wild, bind, path_pattern}
use Rattle.dm_output.specs.Tokens as k
use Rattle.dm_output.specs.Tokens.{expr_trees, pattern_trees}
use Rattle.dm_reread.proofs.Words.{plainly}

-- a path of one word
abbrev single : Ident → PathTree
single i = path_tree false (segment_then (segment i absent) no_segments)

-- ---- what is not read

-- the operand of `&` is no paren, and no tuple
pub ref-paren : (a : ExprTree) → expr_trees (ref_expr false (paren a)) ≡ expr_trees (ref_opaque (expr_trees a))
ref-paren a = refl

pub ref-tuple : (a b : ExprTree) → expr_trees (ref_expr false (tuple (expr_then a (expr_then b no_exprs)))) ≡
    expr_trees (ref_opaque (join (expr_trees a) (join k.comma (join (expr_trees b) no_trees))))
ref-tuple a b = refl

-- behind `&` something stands between the parentheses
pub ref-nothing : expr_trees (ref_expr false (tuple no_exprs)) ≡ expr_trees (ref_opaque no_trees)
ref-nothing = refl

-- so it does behind `map_err`
pub map-err-nothing : (a : ExprTree) → expr_trees (method_call a (plainly (codes "map_err")) no_exprs) ≡ expr_trees (map_err a no_trees)
map-err-nothing a = refl

-- and no method with an argument is named `map_err`
pub map-err : (a x : ExprTree) →
    expr_trees (method_call a (plainly (codes "map_err")) (expr_then x no_exprs)) ≡ expr_trees (map_err a (expr_trees x))
map-err a x =
    ap (λ ts. join (expr_trees a) (join (k.punct 46) (join (k.word (codes "map_err")) (k.enclosed Paren ts)))) (join-no_trees (expr_trees x))

-- ---- rows

-- `return` takes all that follows
pub return-or : (a b : ExprTree) →
    expr_trees (return_expr (or_expr (expr_then a (expr_then b no_exprs)))) ≡
    expr_trees (or_expr (expr_then (return_expr a) (expr_then b no_exprs)))
return-or a b = refl

-- operators of a tighter row stand inside
pub deref-equal : (a b : ExprTree) → expr_trees (deref (equal a b)) ≡ expr_trees (equal (deref a) b)
deref-equal a b = refl

pub deref-member : (a : ExprTree) (i : Ident) → expr_trees (deref (member a (m.Named i))) ≡ expr_trees (member (deref a) (m.Named i))
deref-member a i = refl

pub ref-member : (a : ExprTree) (i : Ident) →
    expr_trees (ref_expr true (member a (m.Named i))) ≡ expr_trees (member (ref_expr true a) (m.Named i))
ref-member a i = refl

pub equal-equal : (a b c : ExprTree) → expr_trees (equal (equal a b) c) ≡ expr_trees (equal a (equal b c))
equal-equal a b c = join_assoc (expr_trees a) (join (k.joint 61 61) (expr_trees b)) (join (k.joint 61 61) (expr_trees c))

pub and-or : (a b c : ExprTree) →
    expr_trees (and_expr (expr_then a (expr_then (or_expr (expr_then b (expr_then c no_exprs))) no_exprs))) ≡
    expr_trees (or_expr (expr_then (and_expr (expr_then a (expr_then b no_exprs))) (expr_then c no_exprs)))
and-or a b c = simp (join_assoc, join-no_trees) refl

pub or-or : (a b c : ExprTree) → expr_trees (or_expr (expr_then a (expr_then (or_expr (expr_then b (expr_then c no_exprs))) no_exprs))) ≡
    expr_trees (or_expr (expr_then a (expr_then b (expr_then c no_exprs))))
or-or a b c = simp (join_assoc, join-no_trees) refl

-- ---- lists

-- a chain of one
pub or-one : (a : ExprTree) → expr_trees (or_expr (expr_then a no_exprs)) ≡ expr_trees a
or-one a = join-no_trees (expr_trees a)

pub and-one : (a : ExprTree) → expr_trees (and_expr (expr_then a no_exprs)) ≡ expr_trees a
and-one a = join-no_trees (expr_trees a)

-- chains of none
pub and-none : expr_trees (and_expr no_exprs) ≡ expr_trees (or_expr no_exprs)
and-none = refl

-- a tuple of one
pub tuple-one : (a : ExprTree) → expr_trees (tuple (expr_then a no_exprs)) ≡ expr_trees (paren a)
tuple-one a = ap (k.enclosed Paren) (join-no_trees (expr_trees a))

-- a constructor call holds something
pub build-none : (i : Ident) → expr_trees (build no_self (single i) no_exprs) ≡ expr_trees (call no_self (single i) no_exprs)
build-none i = refl

-- ---- words

-- keywords are no words of a path
pub true-path : expr_trees (bool true) ≡ expr_trees (path_expr no_self (single (plainly (codes "true"))))
true-path = refl

pub return-path : (a : ExprTree) → expr_trees (return_expr (tuple (expr_then a (expr_then a no_exprs)))) ≡
    expr_trees (call no_self (single (plainly (codes "return"))) (expr_then a (expr_then a no_exprs)))
return-path a = refl

-- ---- patterns

-- a single name binds
pub bind-path : (i : Ident) → pattern_trees (bind binding.Plain i) ≡ pattern_trees (path_pattern (single i))
bind-path i = refl

-- `_` is no name
pub wild-bind : pattern_trees wild ≡ pattern_trees (bind binding.Plain (plainly (codes "_")))
wild-bind = refl

-- ---- formats

-- without a name an argument does not begin with a name and `=`
pub fmt-alias : (l : Literal) (i : Ident) (v : Trees) →
    expr_trees (format_args (record { lit = l; args = record { alias = None; value = join (name i) (join k.assigns v) } ∷ [] })) ≡
    expr_trees (format_args (record { lit = l; args = record { alias = Some i; value = v } ∷ [] }))
fmt-alias l i v = refl

-- a value ends before a comma
pub fmt-comma : (l : Literal) (v w : Trees) →
    expr_trees (format_args (record { lit = l; args = record { alias = None; value = join v (join k.comma w) } ∷ [] })) ≡
    expr_trees (format_args (record { lit = l; args = record { alias = None; value = v } ∷ record { alias = None; value = w } ∷ [] }))
fmt-comma l v w = simp (join_assoc, join-no_trees) refl
