-- What the reader does at the end of a row.
use Rattle.std.specs.Prelude.{cond, ◌≡◌, Bool, true, false, Some, None, Option, T, refl}
use Rattle.dm_stream.specs.Trees.{Trees, no_trees, token, group}
use Rattle.dm_ast.specs.Tree.{PathTree, path_tree, MaybeSelf, SegmentTrees, no_segments, segment_then, segment, absent}
use Rattle.dm_stream.specs.declared.tokens.Ident.{Ident}
use Rattle.dm_output.specs.declared.expr.Member.TheVariants as m
use Rattle.dm_output.specs.Output.{ref_opaque, expr_body, PatternTree, path_pattern, no_patterns, pattern_then, ExprTree, path_expr, no_exprs}
use Rattle.dm_reread.specs.Next.{Next, ended, oror, andand, equals, differs, star, colons, bangs, semicolon, in_parens, in_braces, a_word, k_let, k_use, k_const, k_if, k_mut, k_return, amp, dot, asks, bar, leads, next}
use Rattle.dm_reread.specs.Leaves.{ends_qualified}
use Rattle.dm_reread.specs.Reading.{Readers, is_some_trees, provided, after_path, after_pre, after_cmp, after_and, more_ands, more_ors, more_segments, read_args, first_arg, then, no_posts, p_member, p_map_err, group_from, tuple_of, after_member, read_posts, goes_on, ref_from_pre, read_mut_ref, read_ref, read_base, read_post, read_and, or_from, read_pre, read_block, read_body, after_stmt, read_arms, some_arm, read_patterns, comma_after, after_pattern_path, pattern_of_path, more_bars, map_from, map_err_from, method_from}
use Rattle.dm_reread.specs.Grammar.{no_start, EndsPattern, is_single, at_or, at_and, at_cmp, at_pre, at_post, Stops}

pub pre-stops : (r : Readers) (b : Bool) (e : ExprTree) (ts : Trees) (n : Next) → Stops at_cmp b n → after_pre r b e ts n ≡ Some (e, ts)
pre-stops r b e ts (equals us) h = absurd h
pre-stops r b e ts (differs us) h = absurd h
pre-stops r b e ts _ h = refl

pub cmp-stops : (r : Readers) (b : Bool) (e : ExprTree) (ts : Trees) (n : Next) → Stops at_and b n → after_cmp r b e ts n ≡ Some (e, ts)
cmp-stops r b e ts (andand us) h = absurd h
cmp-stops r b e ts _ h = refl

pub and-stops : (r : Readers) (b : Bool) (e : ExprTree) (ts : Trees) (n : Next) → Stops at_or b n → after_and r b e ts n ≡ Some (e, ts)
and-stops r b e ts (oror us) h = absurd h
and-stops r b e ts _ h = refl

pub ands-stop : (r : Readers) (b : Bool) (ts : Trees) (n : Next) → Stops at_and b n → more_ands r b ts n ≡ Some (no_exprs, ts)
ands-stop r b ts (andand us) h = absurd h
ands-stop r b ts _ h = refl

pub ors-stop : (r : Readers) (b : Bool) (ts : Trees) (n : Next) → Stops at_or b n → more_ors r b ts n ≡ Some (no_exprs, ts)
ors-stop r b ts (oror us) h = absurd h
ors-stop r b ts _ h = refl

pub path-stops : (r : Readers) (b : Bool) (q : MaybeSelf) (p : PathTree) (ts : Trees) (n : Next) → Stops at_post b n →
    after_path r b q p ts n ≡ Some (path_expr q p, ts)
path-stops r b q p ts (in_parens i us) h = absurd h
path-stops r true q p ts (in_braces i us) h = absurd h
path-stops r b q p ts (bangs us) h = absurd h
path-stops r true q p ts _ h = refl
path-stops r false q p ts _ h = refl

-- a path is at its end
abbrev pub EndsPath : Next → Type 0
EndsPath (colons ts) = ⊥
EndsPath _ = Unit {0}

pub segments-stop : (r : Readers) (ts : Trees) (n : Next) → EndsPath n → more_segments r ts n ≡ Some (no_segments, ts)
segments-stop r ts (colons us) h = absurd h
segments-stop r ts _ h = refl

pub ends-path : (n : Next) → T (ends_qualified n) → EndsPath n
ends-path (colons us) h = absurd h
ends-path _ h = tt

pub post-ends : (b : Bool) (n : Next) → Stops at_post b n → T (ends_qualified n)
post-ends b ended h = tt
post-ends b (oror ts) h = tt
post-ends b (andand ts) h = tt
post-ends b (equals ts) h = tt
post-ends b (differs ts) h = tt
post-ends b (dot ts) h = tt
post-ends b (asks ts) h = tt
post-ends b (Next.comma ts) h = tt
post-ends b (semicolon ts) h = tt
post-ends b (leads ts) h = tt
post-ends b (in_braces i ts) h = tt
post-ends b _ h = absurd h

-- ---- what stops a row stops the rows below

pub and-or : (b : Bool) (n : Next) → Stops at_or b n → Stops at_and b n
and-or b (oror us) h = absurd h
and-or b (andand us) h = absurd h
and-or b (equals us) h = absurd h
and-or b (differs us) h = absurd h
and-or b _ h = h

pub cmp-and : (b : Bool) (n : Next) → Stops at_and b n → Stops at_cmp b n
cmp-and b (andand us) h = absurd h
cmp-and b (equals us) h = absurd h
cmp-and b (differs us) h = absurd h
cmp-and b _ h = h

pub pre-cmp : (b : Bool) (n : Next) → Stops at_cmp b n → Stops at_pre b n
pre-cmp b (equals us) h = absurd h
pre-cmp b (differs us) h = absurd h
pre-cmp b _ h = h

pub post-pre : (b : Bool) (n : Next) → Stops at_pre b n → Stops at_post b n
post-pre b (dot us) h = absurd h
post-pre b (asks us) h = absurd h
post-pre b _ h = h

pub posts-stop : (r : Readers) (b : Bool) (ts : Trees) (n : Next) → Stops at_pre b n → read_posts r ts n ≡ Some (no_posts, ts)
posts-stop r b ts (dot us) h = absurd h
posts-stop r b ts (asks us) h = absurd h
posts-stop r b ts _ h = refl

abbrev pub not_parens : Next → Bool
not_parens (in_parens i ts) = false
not_parens _ = true

pub no-parens : (b : Bool) (n : Next) → Stops at_post b n → T (not_parens n)
no-parens b (in_parens i ts) h = absurd h
no-parens b _ h = tt

pub member-stops : (r : Readers) (i : Ident) (ts : Trees) (n : Next) → T (not_parens n) →
    after_member r i ts n ≡ then (r.posts ts) (λ s. Some (p_member (m.Named i) s.0, s.1))
member-stops r i ts (in_parens j us) h = absurd h
member-stops r i ts _ h = refl

pub group-stops : (r : Readers) (inside ts : Trees) (n : Next) → T (not_parens n) →
    group_from r inside ts n ≡ then (read_args r false inside) (λ a. tuple_of ts a.0 a.1)
group-stops r inside ts (in_parens j us) h = absurd h
group-stops r inside ts _ h = refl

-- where a base is read, no operator stands
pub pre-base : (r : Readers) (b : Bool) (ts : Trees) (n : Next) (x : ExprTree × Trees) → read_base r b ts n ≡ Some x →
    read_pre r b ts n ≡ read_post r b ts n
pre-base r b ts (star us) x h = absurd (cc)
pre-base r b ts (amp us) x h = absurd (cc)
pre-base r b ts _ x h = refl

-- ---- what is not read

pub some-opaque : {A : Type 0} → (o : Trees) (x : Option A) → T (is_some_trees o) → provided (is_some_trees o) x ≡ x
some-opaque no_trees x h = absurd h
some-opaque (token k ts) x h = refl
some-opaque (group d from inside upto ts) x h = refl

pub map-err-some : (r : Readers) (i : Ident) (o ts : Trees) → T (is_some_trees o) →
    map_err_from r i o ts ≡ then (r.posts ts) (λ s. Some (p_map_err o s.0, s.1))
map-err-some r i no_trees ts h = absurd h
map-err-some r i (token k us) ts h = refl
map-err-some r i (group d from inside upto us) ts h = refl

-- ---- `return`

abbrev pub is_return : Next → Bool
is_return (a_word k_return ts) = true
is_return _ = false

pub return-pre : (r : Readers) (b : Bool) (ts : Trees) (n : Next) → T (is_return n) → read_pre r b ts n ≡ None
return-pre r b ts (a_word k_return us) h = refl
return-pre r b ts _ h = absurd h

pub or-some : (r : Readers) (b : Bool) (ts : Trees) (n : Next) → (T (is_return n) → ⊥) →
    or_from r b ts n ≡ then (read_and r b ts) (λ a. after_and r b a.0 a.1 (next a.1))
or-some r b ts (a_word k_return us) c = absurd (c tt)
or-some r b ts _ c = refl

-- ---- `&`

-- where the operand of a plain `&` may begin
abbrev pub ref_ready : Next → Bool
ref_ready (a_word k_mut ts) = false
ref_ready (in_parens i ts) = goes_on (next ts)
ref_ready _ = true

pub ref-pre : (r : Readers) (b : Bool) (ts : Trees) (n : Next) → T (ref_ready n) → read_ref r b ts n ≡ ref_from_pre r b false ts
ref-pre r b ts (a_word k_mut us) h = absurd h
ref-pre r b ts (in_parens i us) h = chosen (goes_on (next us)) h
  where
    chosen : (c : Bool) → T c →
        cond c (ref_from_pre r b false ts) (provided (is_some_trees i) (Some (ref_opaque i, us))) ≡ ref_from_pre r b false ts
    chosen true h = refl
    chosen false h = absurd h
ref-pre r b ts _ h = refl

-- where `mut` stands between, it may begin there too
pub mut-ref-pre : (r : Readers) (b : Bool) (ts : Trees) (n : Next) → T (ref_ready n) → read_mut_ref r b ts n ≡ ref_from_pre r b true ts
mut-ref-pre r b ts (in_parens i us) h = chosen (goes_on (next us)) h
  where
    chosen : (c : Bool) → T c → provided c (ref_from_pre r b true ts) ≡ ref_from_pre r b true ts
    chosen true h = refl
    chosen false h = absurd h
mut-ref-pre r b ts _ h = refl

pub opaque-stops : (b : Bool) (n : Next) → Stops at_pre b n → goes_on n ≡ false
opaque-stops b (in_parens i ts) h = absurd h
opaque-stops b (dot ts) h = absurd h
opaque-stops b (asks ts) h = absurd h
opaque-stops b _ h = refl

-- ---- arguments

pub args-some : (r : Readers) (c : Bool) (ts : Trees) (x : ExprTree × Trees) → r.expr true no_trees ≡ None → r.expr true ts ≡ Some x →
    read_args r c ts ≡ first_arg r ts
args-some r c no_trees x empty h = absurd (cc)
args-some r c (token k ts) x empty h = refl
args-some r c (group d from inside upto ts) x empty h = refl

-- `map` without a closure
abbrev pub is_bar : Next → Bool
is_bar (bar ts) = true
is_bar _ = false

pub map-method : (r : Readers) (i : Ident) (inside ts : Trees) (n : Next) → (T (is_bar n) → ⊥) →
    map_from r i inside ts n ≡ method_from r i inside ts
map-method r i inside ts (bar us) c = absurd (c tt)
map-method r i inside ts _ c = refl

pub bar-start : (n : Next) → T (is_bar n) → T (no_start n)
bar-start (bar ts) h = tt
bar-start _ h = absurd h

-- ---- what begins with no expression

pub no-start-pre : (r : Readers) (b : Bool) (ts : Trees) (n : Next) → T (no_start n) → read_pre r b ts n ≡ None
no-start-pre r b ts ended h = refl
no-start-pre r b ts (in_braces i us) h = refl
no-start-pre r b ts (bar us) h = refl
no-start-pre r b ts (a_word k_let us) h = refl
no-start-pre r b ts (a_word k_use us) h = refl
no-start-pre r b ts (a_word k_const us) h = refl
no-start-pre r b ts _ h = absurd h

pub block-some : (r : Readers) (ts : Trees) (n : Next) (x : ExprTree × Trees) → (T (no_start n) → ⊥) → r.expr true ts ≡ Some x →
    read_block r ts n ≡ after_stmt r x.0 (next x.1)
block-some r ts ended x c h = absurd (c tt)
block-some r ts (a_word k_let us) x c h = absurd (c tt)
block-some r ts (a_word k_use us) x c h = absurd (c tt)
block-some r ts (a_word k_const us) x c h = absurd (c tt)
block-some r ts _ x c h = rw h refl

pub body-some : (r : Readers) (ts : Trees) (n : Next) (x : ExprTree × Trees) → (T (no_start n) → ⊥) → r.expr true ts ≡ Some x →
    read_body r ts n ≡ Some (expr_body x.0, x.1)
body-some r ts (in_braces i us) x c h = absurd (c tt)
body-some r ts _ x c h = rw h refl

-- ---- patterns

pub pattern-stops : (r : Readers) (p : PathTree) (ts : Trees) (n : Next) → EndsPattern n →
    after_pattern_path r p ts n ≡ Some (pattern_of_path p, ts)
pattern-stops r p ts (in_parens i us) h = absurd h
pattern-stops r p ts (in_braces i us) h = absurd h
pattern-stops r p ts _ h = refl

pub pattern-ends-path : (n : Next) → EndsPattern n → EndsPath n
pattern-ends-path (colons us) h = absurd h
pattern-ends-path _ h = tt

pub plain-pattern : (leading : Bool) (i : Ident) (ss : SegmentTrees) →
    is_single (path_tree leading (segment_then (segment i absent) ss)) ≡ false →
    pattern_of_path (path_tree leading (segment_then (segment i absent) ss)) ≡
    path_pattern (path_tree leading (segment_then (segment i absent) ss))
plain-pattern true i ss h = refl
plain-pattern false i no_segments h = rw h refl
plain-pattern false i (segment_then s ss) h = refl

-- what ends the patterns of an arm
abbrev pub ends_bars : Next → Bool
ends_bars (leads ts) = true
ends_bars (a_word k_if ts) = true
ends_bars _ = false

pub bars-stop : (r : Readers) (ts : Trees) (n : Next) → T (ends_bars n) → more_bars r ts n ≡ Some (no_patterns, ts)
bars-stop r ts (bar us) h = absurd h
bars-stop r ts _ h = refl

pub bars-end : (n : Next) → T (ends_bars n) → EndsPattern n
bars-end (leads ts) h = tt
bars-end (a_word k_if ts) h = tt
bars-end _ h = absurd h

pub patterns-some : (r : Readers) (ts : Trees) (x : PatternTree × Trees) → r.pattern no_trees ≡ None → r.pattern ts ≡ Some x →
    read_patterns r ts ≡ then (comma_after (next x.1)) (λ us. then (r.patterns us) (λ s. Some (pattern_then x.0 s)))
patterns-some r no_trees x empty h = absurd (cc)
patterns-some r (token k ts) x empty h = rw h refl
patterns-some r (group d from inside upto ts) x empty h = rw h refl

pub arms-some : (r : Readers) (ts : Trees) (x : PatternTree × Trees) → r.pattern no_trees ≡ None → r.pattern ts ≡ Some x →
    read_arms r ts ≡ some_arm r ts
arms-some r no_trees x empty h = absurd (cc)
arms-some r (token k ts) x empty h = refl
arms-some r (group d from inside upto ts) x empty h = refl

pub or-none : (r : Readers) (ts : Trees) (n : Next) → T (no_start n) → read_and r true ts ≡ None → or_from r true ts n ≡ None
or-none r ts ended s h = rw h refl
or-none r ts (in_braces i us) s h = rw h refl
or-none r ts (bar us) s h = rw h refl
or-none r ts (a_word k_let us) s h = rw h refl
or-none r ts (a_word k_use us) s h = rw h refl
or-none r ts (a_word k_const us) s h = rw h refl
or-none r ts _ s h = absurd s
