-- The calls of macros.
use Rattle.std.proofs.Common.{◌≡◌, ◌≢◌, ℕ, ◌&&◌, Bool, true, false, cond, List, [], ◌∷◌, map, length, get_or, codes, Option, Some, None, refl, sym, ap, ◌∙◌}
use Rattle.std.proofs.lemmas.Grind.{common_steps}
use Rattle.dm_stream.specs.declared.tokens.Ident.{Ident}
use Rattle.dm_stream.specs.Trees.{Trees}
use Rattle.dm_ast.specs.declared.ty.PathSegment.{PathSegment}
use Rattle.dm_ast.specs.Keywords.{is_name}
use Rattle.dm_ast.specs.Idents.{segment_ident}
use Rattle.dm_ast.specs.Spelling.{is_word}
use Rattle.dm_ast.specs.Tree.{PathTree, path_tree, SegmentTree, segment, no_segments, segment_then, absent, angle, parens, segments_of, segment_view}
use Rattle.dm_ast.proofs.View as syntax
use Rattle.dm_output.specs.Output.{ExprTree, write_expr, FmtTree}
use Rattle.dm_reread.specs.Next.{Next, a_name, next}
use Rattle.dm_reread.specs.Reading.{then, provided, comma_after, read_fmt, is_macro_path, write_from, macro_of}
use Rattle.dm_read_places.specs.Turns.{rows, declared_at}
use Rattle.dm_read_places.proofs.Thens.{then_on}
use Rattle.dm_read_bases.specs.Macros.{segment_is, fmt_behind_comma, named_write, format_args_from}

-- ---- the names of macros

pub a_word_alone : (word : List ℕ) (s : SegmentTree) (i : Ident) → segment_ident s ≡ Some i → segment_is word s ≡ is_word word i
a_word_alone word (segment j absent) i e = let f : j ≡ i = cc in ap (is_word word) f
a_word_alone word (segment j (angle d xs u)) i e = absurd (cc)
a_word_alone word (segment j (parens xs u o)) i e = absurd (cc)

pub no_word_alone : (word : List ℕ) (s : SegmentTree) → segment_ident s ≡ None → segment_is word s ≡ false
no_word_alone word (segment j absent) e = absurd (cc)
no_word_alone word (segment j (angle d xs u)) e = refl
no_word_alone word (segment j (parens xs u o)) e = refl

and_false : (a : Bool) → (a && false) ≡ false
and_false true = refl
and_false false = refl

three_by : (called : List ℕ) (a b c : SegmentTree) →
    is_macro_path called (path_tree false (segment_then a (segment_then b (segment_then c no_segments)))) ≡
    ((segment_is (codes "derive_more") a && segment_is (codes "core") b) && segment_is called c)
three_by called (segment i absent) (segment j absent) (segment k absent) = refl
three_by called (segment i absent) (segment j absent) (segment k (angle d xs u)) =
    sym (and_false (is_word (codes "derive_more") i && is_word (codes "core") j))
three_by called (segment i absent) (segment j absent) (segment k (parens xs u o)) =
    sym (and_false (is_word (codes "derive_more") i && is_word (codes "core") j))
three_by called (segment i absent) (segment j (angle d xs u)) c =
    sym (ap (λ b. b && segment_is called c) (and_false (is_word (codes "derive_more") i)))
three_by called (segment i absent) (segment j (parens xs u o)) c =
    sym (ap (λ b. b && segment_is called c) (and_false (is_word (codes "derive_more") i)))
three_by called (segment i (angle d xs u)) b c = refl
three_by called (segment i (parens xs u o)) b c = refl

abbrev Called : List ℕ → Bool → List PathSegment → Bool
Called called b l = is_macro_path called (path_tree b (segments_of (map segment_view l)))

pub leading_path : (called : List ℕ) (l : List PathSegment) (b : Bool) → b ≡ true → Called called b l ≡ false
leading_path called l true e = refl
leading_path called l false e = absurd (cc)

pub not_three : (called : List ℕ) (l : List PathSegment) (b : Bool) → b ≡ false → length l ≢ 3 → Called called b l ≡ false
not_three called l true e n = absurd (cc)
not_three called [] false e n = refl
not_three called (x ∷ []) false e n = by (segment_view x)
  where
    by : (s : SegmentTree) → is_macro_path called (path_tree false (segment_then s no_segments)) ≡ false
    by (segment i absent) = refl
    by (segment i (angle d xs u)) = refl
    by (segment i (parens xs u o)) = refl
not_three called (x ∷ y ∷ []) false e n = by (segment_view x) (segment_view y)
  where
    by : (s r : SegmentTree) → is_macro_path called (path_tree false (segment_then s (segment_then r no_segments))) ≡ false
    by (segment i absent) (segment j absent) = refl
    by (segment i absent) (segment j (angle d xs u)) = refl
    by (segment i absent) (segment j (parens xs u o)) = refl
    by (segment i (angle d xs u)) r = refl
    by (segment i (parens xs u o)) r = refl
not_three called (x ∷ y ∷ z ∷ []) false e n = absurd (n refl)
not_three called (x ∷ y ∷ z ∷ w ∷ l) false e n = by (segment_view x) (segment_view y) (segment_view z)
  where
    by : (s r q : SegmentTree) →
        is_macro_path called
        (path_tree false (segment_then s (segment_then r (segment_then q (segment_then (segment_view w) (segments_of (map segment_view l))))))) ≡
        false
    by (segment i absent) (segment j absent) (segment k absent) = refl
    by (segment i absent) (segment j absent) (segment k (angle d xs u)) = refl
    by (segment i absent) (segment j absent) (segment k (parens xs u o)) = refl
    by (segment i absent) (segment j (angle d xs u)) q = refl
    by (segment i absent) (segment j (parens xs u o)) q = refl
    by (segment i (angle d xs u)) r q = refl
    by (segment i (parens xs u o)) r q = refl

abbrev is_segment : List ℕ → PathSegment → Bool
is_segment word x = segment_is word (segment_view x)

-- the three segments, by what indexing gives
by_index : (called : List ℕ) (l : List PathSegment) (x y z : PathSegment) (b : Bool) → b ≡ false → length l ≡ 3 →
    Called called b l ≡
    ((is_segment (codes "derive_more") (get_or l 0 x) && is_segment (codes "core") (get_or l 1 y)) && is_segment called (get_or l 2 z))
by_index called (p ∷ q ∷ r ∷ []) x y z false e n = three_by called (segment_view p) (segment_view q) (segment_view r)
by_index called _ x y z _ e n = absurd (cc)

pub three_are : (called : List ℕ) (l : List PathSegment) (x y z : PathSegment) (b : Bool) → b ≡ false → length l ≡ 3 → x ≡ get_or l 0 x →
    y ≡ get_or l 1 y → z ≡ get_or l 2 z →
    Called called b l ≡
    ((segment_is (codes "derive_more") (segment_view x) && segment_is (codes "core") (segment_view y)) && segment_is called (segment_view z))
three_are called l x y z b e n f g h =
    by_index called l x y z b e n ∙
    ap (λ s. (is_segment (codes "derive_more") s && is_segment (codes "core") (get_or l 1 y)) && is_segment called (get_or l 2 z)) (sym f) ∙
    ap (λ s. (is_segment (codes "derive_more") x && is_segment (codes "core") s) && is_segment called (get_or l 2 z)) (sym g) ∙
    ap (λ s. (is_segment (codes "derive_more") x && is_segment (codes "core") y) && is_segment called s) (sym h)

-- the first segment is another, or the second
pub first_apart : (called : List ℕ) (l : List PathSegment) (x : PathSegment) (b : Bool) → b ≡ false → length l ≡ 3 → x ≡ get_or l 0 x →
    segment_is (codes "derive_more") (segment_view x) ≡ false →
    Called called b l ≡ false
first_apart called l x b e n f h =
    by_index called l x x x b e n ∙
    ap (λ c. (c && is_segment (codes "core") (get_or l 1 x)) && is_segment called (get_or l 2 x)) (ap (is_segment (codes "derive_more")) (sym f) ∙ h)

pub second_apart : (called : List ℕ) (l : List PathSegment) (y : PathSegment) (b : Bool) → b ≡ false → length l ≡ 3 → y ≡ get_or l 1 y →
    segment_is (codes "core") (segment_view y) ≡ false →
    Called called b l ≡ false
second_apart called l y b e n f h =
    let first = is_segment (codes "derive_more") (get_or l 0 y) in
    let third = is_segment called (get_or l 2 y) in
    by_index called l y y y b e n ∙ ap (λ c. (first && c) && third) (ap (is_segment (codes "core")) (sym f) ∙ h) ∙
    ap (λ c. c && third) (and_false first)

pub ruleset three_steps = (syntax.view_steps, leading_path, not_three, first_apart, second_apart, three_are)

-- ---- calls

-- `write!` with this name, and a format behind it
abbrev Written : Ident → Option FmtTree → Option ExprTree
Written i o = then o (λ f. Some (write_expr i f))

write_is : (n : ℕ) (m : Next) →
    write_from (rows n) m ≡ then {A = Ident × Trees} {B = ExprTree} (declared_at m) (λ s. then (fmt_behind_comma n s.1) (λ f. Some (write_expr s.0 f)))
write_is n (a_name i ts) = by (is_name i)
  where
    by : (b : Bool) →
        provided b (then (comma_after (next ts)) (λ us. then (read_fmt (rows n) (next us)) (λ f. Some (write_expr i f)))) ≡
        then {A = Ident × Trees} {B = ExprTree} (provided b (Some (i, ts))) (λ s. then (fmt_behind_comma n s.1) (λ f. Some (write_expr s.0 f)))
    by true = then_on (Written i) refl (comma_after (next ts)) _ _ (λ us. refl)
    by false = refl
write_is n _ = refl

pub is_write : (n : ℕ) (p : PathTree) (ts : Trees) → is_macro_path (codes "write") p ≡ true →
    macro_of (rows n) p ts ≡ named_write n ts
is_write n p ts e =
    ap (λ b. cond b (write_from (rows n) (next ts)) (provided (is_macro_path (codes "format_args") p) (format_args_from n ts))) e ∙
    write_is n (next ts)

other_macro : (n : ℕ) (p : PathTree) (ts : Trees) → is_macro_path (codes "write") p ≡ false →
    macro_of (rows n) p ts ≡ provided (is_macro_path (codes "format_args") p) (format_args_from n ts)
other_macro n p ts e =
    ap (λ b. cond b (write_from (rows n) (next ts)) (provided (is_macro_path (codes "format_args") p) (format_args_from n ts))) e

pub is_format_args : (n : ℕ) (p : PathTree) (ts : Trees) → is_macro_path (codes "write") p ≡ false →
    is_macro_path (codes "format_args") p ≡ true →
    macro_of (rows n) p ts ≡ format_args_from n ts
is_format_args n p ts e f = other_macro n p ts e ∙ ap (λ b. provided b (format_args_from n ts)) f

pub no_macro : (n : ℕ) (p : PathTree) (ts : Trees) → is_macro_path (codes "write") p ≡ false →
    is_macro_path (codes "format_args") p ≡ false →
    macro_of (rows n) p ts ≡ None
no_macro n p ts e f = other_macro n p ts e ∙ ap (λ b. provided b (format_args_from n ts)) f

pub ruleset macro_steps = (common_steps, a_word_alone, no_word_alone, is_write, is_format_args, no_macro)
