-- The predicates that the types of fields need are spelled alone, where those types and the traits are.
use Rattle.std.proofs.Common.{◌≡◌, ℕ, Bool, true, false, not, ◌&&◌, nat_eq, List, [], ◌∷◌, ◌++◌, map, flat_map, cond, codes, Option, Some, None, IsTrue, refl, sym, ap, ◌∙◌, subst}
use Rattle.dm_stream.specs.declared.tokens.Span.{Span}
use Rattle.dm_stream.specs.declared.tokens.Ident.{Ident}
use Rattle.dm_stream.specs.declared.tokens.Lifetime.{Lifetime}
use Rattle.dm_stream.specs.declared.tokens.Literal.{Literal}
use Rattle.dm_stream.specs.declared.tokens.Delim.{Delim}
use Rattle.dm_stream.specs.declared.tokens.Delim.TheVariants.{Paren}
use Rattle.dm_stream.specs.declared.tokens.Spacing.TheVariants.{Alone}
use Rattle.dm_stream.specs.declared.tokens.Token.TheVariants as t
use Rattle.dm_stream.specs.Layout.{nowhere}
use Rattle.dm_stream.specs.Trees.{Stream, Trees, no_trees, token, join, join-no_trees, join_assoc}
use Rattle.dm_ast.specs.Keywords.{is_keyword}
use Rattle.dm_ast.specs.declared.plain.Attribute.{Attribute}
use Rattle.dm_ast.specs.declared.plain.PlainPath.{PlainPath}
use Rattle.dm_ast.specs.Tree.{Lifetimes, TypeTree, type_tree, paren, tuple, slice, array, reference, pointer, bare_fn, trait_object, impl_trait, infer, never, path, macro_type, no_self, some_self, MaybeType, InputTrees, fn_tree, PathTree, path_tree, no_segments, segment_then, segment}
use Rattle.dm_ast.specs.Declarations.{PredicateTree, type_predicate, FieldTree, Declaration}
use Rattle.dm_ast.specs.Spelling.{sees_colons, ident, colons, chain, Where, Marks, Spelling, deeper, first_too_deep, last_end, range_of, sees, sees_word, is_word, sees_literal, lifetime, literal, keyword, GroupAt, flag, perhaps, ◌then◌, items, items_left}
use Rattle.dm_ast.specs.TypeGrammar.{is_path_word, sees_macro, inputs, output, for_lifetimes, type_spelled, path_spelled}
use Rattle.dm_ast.specs.DeclarationGrammar.{bound_list, predicate}
use Rattle.dm_ast.specs.TypeTokens as spell
use Rattle.dm_ast.specs.Readers.{tail}
use Rattle.dm_ast.specs.Parsed.{SpelledBy}
use Rattle.dm_output.specs.Values.{Case, cases, field_list}
use Rattle.dm_read.proofs.Tokens.{word_is}
use Rattle.dm_type_eq.specs.Unplaced.{unplaced_abi, unplaced_ident, unplaced_inputs, unplaced_lifetimes, unplaced_maybe_type, unplaced_path, unplaced_plain, unplaced_stream, unplaced_type}
use Rattle.dm_reread.specs.Bare.{bare_listed, bare_predicate}
use Rattle.dm_reread.specs.TypeLeaves.{top}
use Rattle.dm_reread.proofs.HeadLeaf.{first_within, rest_within}
use Rattle.dm_operands.specs.Marked.{MarkedField, MarkedCase, mark_field, mark_case, marked}
use Rattle.dm_bounds.specs.Needed.{only_trait, bounded, Wanted, wanted_of, Asking, added_by, added_in_by, needed_by}
use Rattle.dm_head_laws.specs.Parts as parts
use Rattle.dm_head_laws.specs.Parts.{PredicateAlone, TypeAlone, Each}
use Rattle.dm_head_laws.proofs.HeadParts.{Stands, stands_as, stands_then, none_stands, colon_stands}
use Rattle.dm_head_laws.proofs.DeclaredParts.{each_map, each_both, declared_cases}
use Rattle.dm_derived_laws.proofs.BeforeColon.{Gone, colon_before, go_type}

-- a path that its own tokens spell
abbrev pub PathAlone : PathTree → Type 0
PathAlone p = parts.Alone (path_spelled (unplaced_path p)) top (spell.path_trees nowhere (unplaced_path p))

-- ---- no `for` in front

for_is_keyword : (i : Ident) → IsTrue (is_path_word i) → is_word (codes "for") i ≡ false
unfolding is_keyword
for_is_keyword i h = by (is_word (codes "for") i) refl
  where
    by : (b : Bool) → is_word (codes "for") i ≡ b → b ≡ false
    by false e = refl
    by true e = let f : false ≡ true = subst (λ x. IsTrue (is_path_word x)) (word_is i (codes "for") e) h in cc

-- a path begins with a word or `::`
pub path_begins : (p : PathTree) (w : Where) (ts others : Trees) (m : Marks) → path_spelled p w ts others m →
    (sees 63 ts ≡ false) × (sees_word (codes "for") ts ≡ false)
path_begins (path_tree true ss) w ts others m s =
    (ap (sees 63) s.first.spelled ∙ ap (λ c. nat_eq c 63) s.first.is_first, ap (sees_word (codes "for")) s.first.spelled)
path_begins (path_tree false no_segments) w ts others m s = absurd s.rest.fact
path_begins (path_tree false (segment_then (segment i a) ss)) w ts others m s =
    let e = s.first.part.spelled ∙ s.rest.first.first.part.spelled in
    (ap (sees 63) e, ap (sees_word (codes "for")) e ∙ for_is_keyword i s.rest.first.first.fact)

-- a macro's path that begins with the word `for`
abbrev pub first_for : List Ident → Bool
first_for [] = false
first_for (i ∷ is) = is_word (codes "for") i

abbrev pub begins_for : PlainPath → Bool
begins_for p = not p.leading_colon && first_for p.segments

-- the call of such a macro: in front of a predicate its word would begin `for<..>`
abbrev pub calls_for : TypeTree → Bool
calls_for (type_tree (macro_type p d s) range) = begins_for p
calls_for _ = false

-- that, or a function type behind `for<..>`
abbrev starts_for : TypeTree → Bool
starts_for (type_tree (macro_type p d s) range) = begins_for p
starts_for (type_tree (bare_fn (fn_tree (Some ls) b abi is u out)) range) = true
starts_for _ = false

macro_begins : (b : Bool) (names : List Ident) (w : Where) (ts others : Trees) (m : Marks) →
    (flag sees_colons b (colons w) then chain (colons w) sees_colons (ident w) names) ts others m → (not b && first_for names) ≡ false →
    sees_word (codes "for") ts ≡ false
macro_begins true names w ts others m s h = ap (sees_word (codes "for")) s.first.spelled
macro_begins false [] w ts others m s h = absurd s.rest.fact
macro_begins false (i ∷ is) w ts others m s h = ap (sees_word (codes "for")) (s.first.part.spelled ∙ s.rest.first.spelled) ∙ h

type_begins : (x : TypeTree) (single : Bool) (w : Where) (ts others : Trees) (m : Marks) → type_spelled x single w ts others m → starts_for x ≡ false →
    sees_word (codes "for") ts ≡ false
type_begins (type_tree (paren x) r) single w ts others m s h = ap (sees_word (codes "for")) s.part.part.spelled
type_begins (type_tree (tuple xs u) r) single w ts others m s h = ap (sees_word (codes "for")) s.part.part.part.spelled
type_begins (type_tree (slice x) r) single w ts others m s h = ap (sees_word (codes "for")) s.part.part.spelled
type_begins (type_tree (array x o) r) single w ts others m s h = ap (sees_word (codes "for")) s.part.part.spelled
type_begins (type_tree (reference l b x) r) single w ts others m s h = ap (sees_word (codes "for")) s.part.part.first.there.spelled
type_begins (type_tree (pointer true x) r) single w ts others m s h = ap (sees_word (codes "for")) s.part.part.first.there.spelled
type_begins (type_tree (pointer false x) r) single w ts others m s h = ap (sees_word (codes "for")) s.part.part.first.there.spelled
type_begins (type_tree (bare_fn (fn_tree None b abi is u out)) r) single w ts others m s h =
    ap (sees_word (codes "for")) s.part.part.first.part.spelled ∙ s.part.part.first.fact
type_begins (type_tree (bare_fn (fn_tree (Some ls) b abi is u out)) r) single w ts others m s h = absurd (cc)
type_begins (type_tree (trait_object bs u) r) single w ts others m s h = ap (sees_word (codes "for")) s.part.part.part.first.there.spelled
type_begins (type_tree (impl_trait bs u) r) single w ts others m s h = ap (sees_word (codes "for")) s.part.part.part.first.there.spelled
type_begins (type_tree infer r) single w ts others m s h = ap (sees_word (codes "for")) s.part.part.there.spelled
type_begins (type_tree never r) single w ts others m s h = ap (sees_word (codes "for")) s.part.part.there.spelled
type_begins (type_tree (path no_self p) r) single w ts others m s h = (path_begins p w ts others m s.part.part).1
type_begins (type_tree (path (some_self x n) p) r) single w ts others m s h = ap (sees_word (codes "for")) s.part.part.first.there.spelled
type_begins (type_tree (macro_type p d o) r) single w ts others m s h =
    let x = s.part.part in macro_begins p.leading_colon p.segments w ts x.middle x.first_marks x.first h

-- ---- behind a type: `:` and the trait

-- the trait's tokens, as those of bounds
abbrev trait_only : PathTree → Trees
trait_only p = join (join (spell.path_trees nowhere (unplaced_path p)) no_trees) no_trees

trait_stands : (p : PathTree) → PathAlone p → Stands (bound_list top (bare_listed (only_trait p))) (trait_only p) no_trees
trait_stands p h =
    let own : Trees = spell.path_trees nowhere (unplaced_path p) in
    let b = path_begins (unplaced_path p) top own no_trees h.marks h.spelled in
    let x : Stands (path_spelled (unplaced_path p) top) own no_trees = record { marks = h.marks; spelled = h.spelled; within = h.within } in
    stands_as {us = own} (join-no_trees (join own no_trees) ∙ join-no_trees own)
    (stands_then (stands_then (none_stands (sees 63) own b.0) (stands_then (none_stands (sees_word (codes "for")) own b.1) x))
    (none_stands (sees 43) no_trees refl))

-- a type's tokens, before that
type_before : (x : TypeTree) → TypeAlone x → (more : Trees) → Stands (type_spelled x false top) (join (spell.type_trees x) (colon_before more)) (colon_before more)
type_before x h more =
    let g : Gone more (type_spelled x false top) (spell.type_trees x) no_trees h.marks =
    go_type more x false top (spell.type_trees x) no_trees h.marks h.spelled refl tt in
    record { marks = h.marks; spelled = g.spelled; within = h.within }

-- ---- a type that no `for` stands in front of

plain_alone : (p : PathTree) (x : TypeTree) → PathAlone p → TypeAlone (unplaced_type x) → starts_for (unplaced_type x) ≡ false →
    PredicateAlone (bare_predicate (type_predicate None x (only_trait p)))
plain_alone p x a h e =
    let own : Trees = spell.type_trees (unplaced_type x) in
    let more : Trees = trait_only p in
    let all : Trees = join own (colon_before more) in
    let s = type_before (unplaced_type x) h more in
    let y : Stands (predicate (bare_predicate (type_predicate None x (only_trait p))) top) all no_trees =
    stands_then (none_stands (sees_word (codes "for")) all (type_begins (unplaced_type x) false top all (colon_before more) s.marks s.spelled e))
    (stands_then s (stands_then (colon_stands top more refl) (trait_stands p a))) in
    record { marks = y.marks; spelled = y.spelled; within = y.within }

-- ---- a function type behind `for<..>`, which is the predicate's

-- the range of the identifier in front
abbrev front_range : Trees → Span
front_range (token (t.Ident i) ts) = i.span
front_range _ = nowhere

-- lifetimes behind the first one, and what ends them
abbrev left_trees : List Lifetime → Bool → Trees
left_trees ls u = join (spell.spaced (spell.punct 44 nowhere) false (map spell.lifetime ls)) (spell.given u (spell.punct 44 nowhere))

abbrev closed_left : List Lifetime → Bool → Trees → Trees
closed_left ls u us = join (join (left_trees ls u) (spell.punct 62 nowhere)) us

module _ (v : Where) (us mid : Trees) where
  left_after : (ls : List Lifetime) (u : Bool) (m : Marks) → items_left v 44 (sees 62) (lifetime v) ls u (closed_left ls u us) mid m →
      mid ≡ join (spell.punct 62 nowhere) us
  left_after [] false m s = sym s.part.spelled
  left_after [] true m s = sym (ap tail s.first.there.spelled ∙ s.rest.part.spelled)
  left_after (l ∷ ls) u m s =
      let e : closed_left ls u us ≡ s.rest.middle = ap tail (ap tail s.first.there.spelled ∙ s.rest.first.spelled) in
      left_after ls u s.rest.rest_marks
      (subst (λ z. items_left v 44 (sees 62) (lifetime v) ls u z mid s.rest.rest_marks) (sym e) s.rest.rest)

  items_after : (ls : List Lifetime) (u : Bool) (m : Marks) →
      items v 44 (sees 62) (lifetime v) ls u
      (join (join (spell.listed 44 nowhere (map spell.lifetime ls) u) (spell.punct 62 nowhere)) us) mid m →
      mid ≡ join (spell.punct 62 nowhere) us
  items_after [] true m s = absurd (cc)
  items_after [] false m s = sym s.part.part.spelled
  items_after (l ∷ ls) u m s =
      let e : closed_left ls u us ≡ s.middle = ap tail s.first.spelled in
      left_after ls u s.rest_marks (subst (λ z. items_left v 44 (sees 62) (lifetime v) ls u z mid s.rest_marks) (sym e) s.rest)

-- `for<..>` leaves what stands behind its own tokens
for_after : (ls : _) (w : Where) (us mid : Trees) (m : Marks) →
    for_lifetimes w (Some ls) (join (spell.for_trees nowhere (Some ls)) us) mid m → mid ≡ us
for_after ls w us mid m s =
    let x = s.rest.rest in
    let own : Trees = join (join (spell.listed 44 nowhere (map spell.lifetime ls.items) ls.trailing) (spell.punct 62 nowhere)) us in
    let e : own ≡ s.rest.middle = ap tail (ap tail s.first.there.spelled ∙ s.rest.first.there.spelled) in
    let f : x.middle ≡ join (spell.punct 62 nowhere) us =
    items_after (deeper w) us x.middle ls.items ls.trailing x.first_marks
    (subst (λ z. items (deeper w) 44 (sees 62) (lifetime (deeper w)) ls.items ls.trailing z x.middle x.first_marks) (sym e) x.first) in
    sym (ap tail (sym f ∙ x.rest.there.spelled))

-- the rest of such a type, and its tokens
module _ (b : Bool) (abi : Option (Option Literal)) (is : InputTrees) (u : Bool) (out : MaybeType) where
  abbrev Behind : Where → Spelling
  Behind w =
      flag (sees_word (codes "unsafe")) b (keyword w (codes "unsafe")) then
      (perhaps (sees_word (codes "extern")) abi (λ called. keyword w (codes "extern") then perhaps sees_literal called (literal w)) then
      (keyword w (codes "fn") then
      (GroupAt (deeper w) Paren (λ v. inputs is u v) then
      output out (deeper w) (deeper w))))

  abbrev behind_trees : Trees
  behind_trees = spell.fn_trees nowhere (fn_tree None b abi is u out)

-- it begins with a word, at the range 0..0
record Placed (w : Where) (m : Marks) : Type 0 where
  others : Marks
  is : m ≡ (w.level, nowhere) ∷ others

word_placed : (w : Where) (l : List ℕ) (us others : Trees) (m : Marks) → keyword w l (join (spell.word l nowhere) us) others m →
    m ≡ (w.level, nowhere) ∷ []
word_placed w l us others m s = s.there.marks ∙ ap (λ r. (w.level, r) ∷ []) (sym (ap front_range s.there.spelled))

behind_placed : (b : Bool) (abi : Option (Option Literal)) (is : InputTrees) (u : Bool) (out : MaybeType) (w : Where) (us others : Trees)
    (m : Marks) →
    Behind b abi is u out w (join (behind_trees b abi is u out) us) others m → Placed w m
behind_placed true abi is u out w us others m s = record {
  others = s.rest_marks;
  is = s.marks ∙ ap (λ k. k ++ s.rest_marks) (word_placed w (codes "unsafe") _ s.middle s.first_marks s.first);
}
behind_placed false None is u out w us others m s =
    let x = s.rest in
    let y = x.rest in
    let e = s.first.part.spelled ∙ x.first.part.spelled in
    record {
      others = y.rest_marks;
      is = s.marks ∙
          (ap (λ k. k ++ s.rest_marks) s.first.part.marks ∙
          (x.marks ∙
          (ap (λ k. k ++ x.rest_marks) x.first.part.marks ∙
          (y.marks ∙
          ap (λ k. k ++ y.rest_marks)
          (word_placed w (codes "fn") _ y.middle y.first_marks
          (subst (λ z. keyword w (codes "fn") z y.middle y.first_marks) (sym e) y.first))))));
    }
behind_placed false (Some called) is u out w us others m s =
    let x = s.rest in
    let y = x.first in
    record {
      others = y.rest_marks ++ x.rest_marks;
      is = s.marks ∙
          (ap (λ k. k ++ s.rest_marks) s.first.part.marks ∙
          (x.marks ∙
          ap (λ k. k ++ x.rest_marks)
          (y.marks ∙
          ap (λ k. k ++ y.rest_marks)
          (word_placed w (codes "extern") _ y.middle y.first_marks
          (subst (λ z. keyword w (codes "extern") z y.middle y.first_marks) (sym s.first.part.spelled) y.first)))));
    }

-- that word is no `for`, and no macro call begins
behind_front : (b : Bool) (abi : Option (Option Literal)) (is : InputTrees) (u : Bool) (out : MaybeType) (us : Trees) →
    (sees_word (codes "for") (join (behind_trees b abi is u out) us) ≡ false) × (sees_macro (join (behind_trees b abi is u out) us) ≡ false)
behind_front true None is u out us = (refl, refl)
behind_front true (Some called) is u out us = (refl, refl)
behind_front false None is u out us = (refl, refl)
behind_front false (Some None) is u out us = (refl, refl)
behind_front false (Some (Some l)) is u out us = (refl, refl)

-- marks end as those behind them do
end_behind : (n : ℕ) (m : Marks) (l : ℕ) (r : Span) (ks : Marks) → last_end n (m ++ (l, r) ∷ ks) ≡ last_end r.«end» ks
end_behind n [] l r ks = refl
end_behind n (x ∷ m) l r ks = end_behind x.1.«end» m l r ks

range_behind : (m : Marks) (l : ℕ) (r : Span) (ks : Marks) → (range_of (m ++ (l, r) ∷ ks)).«end» ≡ last_end r.«end» ks
range_behind [] l r ks = refl
range_behind (x ∷ m) l r ks = end_behind x.1.«end» m l r ks

range_left : (w : Where) (m a k : Marks) → nowhere ≡ range_of m → m ≡ a ++ k → Placed w k → nowhere ≡ range_of k
range_left w m a k h e x =
    let f : last_end 0 x.others ≡ 0 =
    sym (range_behind a w.level nowhere x.others) ∙
    (sym (ap (λ z. (range_of z).«end») (e ∙ ap (λ z. a ++ z) x.is)) ∙ sym (ap (λ r. r.«end») h)) in
    ap (λ n. record { start = 0; «end» = n }) (sym f) ∙ sym (ap range_of x.is)

function_alone : (p : PathTree) (ls : _) (b : Bool) (abi : Option (Option Literal)) (is : InputTrees) (u : Bool) (out : MaybeType) (range : Span) →
    PathAlone p →
    TypeAlone (unplaced_type (type_tree (bare_fn (fn_tree (Some ls) b abi is u out)) range)) →
    PredicateAlone (bare_predicate (bounded p (type_tree (bare_fn (fn_tree (Some ls) b abi is u out)) range)))
function_alone p ls b abi is u out range a h =
    let x : TypeTree = unplaced_type (type_tree (bare_fn (fn_tree (Some ls) b abi is u out)) range) in
    let abi' = unplaced_abi abi in
    let is' = unplaced_inputs is in
    let out' = unplaced_maybe_type out in
    let ls' : Lifetimes = unplaced_lifetimes (Some ls) in
    let more : Trees = trait_only p in
    let own : Trees = behind_trees b abi' is' u out' in
    let all : Trees = join own (colon_before more) in
    let front : Trees = spell.for_trees nowhere ls' in
    let s = type_before x h more in
    let f = subst (λ z. type_spelled x false top z (colon_before more) s.marks) (join_assoc front own (colon_before more)) s.spelled in
    let c = f.part.part in
    let e : c.middle ≡ all = for_after _ top all c.middle c.first_marks c.first in
    let r : Behind b abi' is' u out' top all (colon_before more) c.rest_marks =
    subst (λ z. Behind b abi' is' u out' top z (colon_before more) c.rest_marks) e c.rest in
    let k = behind_front b abi' is' u out' (colon_before more) in
    let g : Stands (for_lifetimes top ls') (join front all) all = record {
      marks = c.first_marks;
      spelled = subst (λ z. for_lifetimes top ls' (join front all) z c.first_marks) e c.first;
      within = first_within {A = for_lifetimes top ls'} {B = Behind b abi' is' u out' top} c s.within;
    } in
    let y : Stands (type_spelled (type_tree (bare_fn (fn_tree None b abi' is' u out')) nowhere) false top) all (colon_before more) = record {
      marks = c.rest_marks;
      spelled = record {
        part = record {
          fact = k.1;
          part = record {
            middle = all;
            first_marks = [];
            rest_marks = c.rest_marks;
            first = record { part = record { spelled = refl; marks = refl }; fact = k.0 };
            rest = r;
            marks = refl;
          };
        };
        is_range = range_left top s.marks c.first_marks c.rest_marks f.is_range c.marks
            (behind_placed b abi' is' u out' top (colon_before more) (colon_before more) c.rest_marks r);
      };
      within = rest_within {A = for_lifetimes top ls'} {B = Behind b abi' is' u out' top} c s.within;
    } in
    let z : Stands (predicate (bare_predicate (bounded p (type_tree (bare_fn (fn_tree (Some ls) b abi is u out)) range))) top) (join front all) no_trees =
    stands_then g (stands_then y (stands_then (colon_stands top more refl) (trait_stands p a))) in
    record { marks = z.marks; spelled = z.spelled; within = z.within }

-- ---- any type

first_bare : (is : List Ident) → first_for (map unplaced_ident is) ≡ first_for is
first_bare [] = refl
first_bare (i ∷ is) = refl

-- the predicate of a type and a trait that are spelled alone, where the type calls no macro `for!`
pub bounded_alone : (p : PathTree) (x : TypeTree) → PathAlone p → TypeAlone (unplaced_type x) → calls_for x ≡ false →
    PredicateAlone (bare_predicate (bounded p x))
bounded_alone p (type_tree (bare_fn (fn_tree (Some ls) b abi is u out)) r) a h e = function_alone p ls b abi is u out r a h
bounded_alone p (type_tree (bare_fn (fn_tree None b abi is u out)) r) a h e =
    plain_alone p (type_tree (bare_fn (fn_tree None b abi is u out)) r) a h refl
bounded_alone p (type_tree (macro_type q d o) r) a h e =
    plain_alone p (type_tree (macro_type q d o) r) a h (ap (λ b. not q.leading_colon && b) (first_bare q.segments) ∙ e)
bounded_alone p x a h e = plain_alone p x a h refl

-- the condition on calls can't be left out: with such a type the predicate isn't spelled alone
call_front : (b : Bool) (names : List Ident) (us : Trees) →
    sees_word (codes "for")
    (join (join (spell.given b (spell.colons nowhere)) (spell.spaced (spell.colons nowhere) true (map spell.name (map unplaced_ident names))))
    (join (spell.punct 33 nowhere) us)) ≡
    (not b && first_for names)
call_front true names us = refl
call_front false [] us = refl
call_front false (i ∷ is) us = refl

pub call_refused : (p : PathTree) (q : PlainPath) (d : Delim) (o : Stream) (r : Span) → begins_for q ≡ true →
    PredicateAlone (bare_predicate (bounded p (type_tree (macro_type q d o) r))) → ⊥
call_refused p q d o r e h =
    let bare : TypeTree = unplaced_type (type_tree (macro_type q d o) r) in
    let us : Trees = spell.grouped d (unplaced_stream o).trees in
    let f = call_front q.leading_colon q.segments (join us (colon_before (trait_only p))) in
    let own : Trees = join (spell.plain_trees nowhere (unplaced_plain q)) (join (spell.punct 33 nowhere) (join us (colon_before (trait_only p)))) in
    let g : spell.type_trees bare ≡ join (spell.plain_trees nowhere (unplaced_plain q)) (join (spell.punct 33 nowhere) us) = refl in
    let k : join (spell.type_trees bare) (colon_before (trait_only p)) ≡ own =
    join_assoc (spell.plain_trees nowhere (unplaced_plain q)) (join (spell.punct 33 nowhere) us) (colon_before (trait_only p)) in
    let n : false ≡ true =
    sym (ap (sees_word (codes "for")) h.spelled.first.part.spelled ∙ h.spelled.first.fact) ∙ (ap (sees_word (codes "for")) k ∙ (f ∙ e)) in
    cc

-- such a type, which is spelled alone: `for!()`
unfoldable pub for_call : TypeTree
for_call =
    type_tree
    (macro_type (record { leading_colon = false; segments = record { name = codes "for"; raw = false; span = nowhere } ∷ [] }) Paren
    (record { trees = no_trees; limit = 0 }))
    nowhere

for_call_alone : TypeAlone (unplaced_type for_call)
unfolding for_call
for_call_alone =
    let more : Trees = join (spell.punct 33 nowhere) (spell.grouped Paren no_trees) in
    let i : Ident = record { name = codes "for"; raw = false; span = nowhere } in
    record {
      marks = (0, nowhere) ∷ (0, nowhere) ∷ (0, nowhere) ∷ (0, nowhere) ∷ [];
      spelled = record {
        part = record {
          fact = refl;
          part = record {
            middle = more;
            first_marks = (0, nowhere) ∷ [];
            rest_marks = (0, nowhere) ∷ (0, nowhere) ∷ (0, nowhere) ∷ [];
            first = record {
              middle = token (t.Ident i) more;
              first_marks = [];
              rest_marks = (0, nowhere) ∷ [];
              first = record { part = record { spelled = refl; marks = refl }; fact = refl };
              rest = record {
                middle = more;
                first_marks = (0, nowhere) ∷ [];
                rest_marks = [];
                first = record { spelled = refl; marks = refl };
                rest = record { part = record { spelled = refl; marks = refl }; fact = refl };
                marks = refl;
              };
              marks = refl;
            };
            rest = record {
              middle = spell.grouped Paren no_trees;
              first_marks = (0, nowhere) ∷ [];
              rest_marks = (0, nowhere) ∷ (0, nowhere) ∷ [];
              first = record {
                punct = record { ch = 33; spacing = Alone; span = nowhere };
                is = refl;
                there = record { spelled = refl; marks = refl };
              };
              rest = record {
                opener = nowhere;
                inside = no_trees;
                closer = nowhere;
                inner_marks = [];
                spelled = refl;
                whole = record { fact = refl; part = record { spelled = refl; none_left = refl; marks = refl } };
                marks = refl;
              };
              marks = refl;
            };
            marks = refl;
          };
        };
        is_range = refl;
      };
      within = refl;
    }

pub for_call_refused : (p : PathTree) → TypeAlone (unplaced_type for_call) × (PredicateAlone (bare_predicate (bounded p for_call)) → ⊥)
unfolding for_call
for_call_refused p =
    let q : PlainPath = record { leading_colon = false; segments = record { name = codes "for"; raw = false; span = nowhere } ∷ [] } in
    let o : Stream = record { trees = no_trees; limit = 0 } in
    (for_call_alone, λ h. call_refused p q Paren o nowhere refl h)

-- ---- all predicates that are asked for

-- the type of a field and the trait that is asked of it are spelled alone, and the type calls no such macro
abbrev pub AskedAlone : Asking → TypeTree → Type 0
AskedAlone a x = TypeAlone (unplaced_type x) × PathAlone (a.path x) × (calls_for x ≡ false)

-- where one is asked for
abbrev pub FieldAlone : Asking → Wanted → TypeTree → Type 0
FieldAlone a w x = a.asks w x ≡ true → AskedAlone a x

abbrev BareAlone : PredicateTree → Type 0
BareAlone q = PredicateAlone (bare_predicate q)

added_if : (a : Asking) (x : TypeTree) (l b : Bool) → (b ≡ true → AskedAlone a x) →
    Each BareAlone (cond (not l && b) (bounded (a.path x) x ∷ []) [])
added_if a x true b h = tt
added_if a x false true h = let k = h refl in (bounded_alone (a.path x) x k.1 k.0 k.2, tt)
added_if a x false false h = tt

module _ (a : Asking) (w : Wanted) where
  added_fields : (fs : List MarkedField) → Each (λ f. FieldAlone a w f.field.ty) fs → Each BareAlone (flat_map (added_by a w) fs)
  added_fields [] h = tt
  added_fields (f ∷ fs) h =
      each_both BareAlone (added_by a w f) (flat_map (added_by a w) fs) (added_if a f.field.ty f.left_out (a.asks w f.field.ty) h.0)
      (added_fields fs h.1)

  added_case : (b : Bool) (fs : List MarkedField) → Each (λ f. FieldAlone a w f.field.ty) fs →
      Each BareAlone (cond b [] (flat_map (added_by a w) fs))
  added_case true fs h = tt
  added_case false fs h = added_fields fs h

  added_cases : (cs : List MarkedCase) → Each (λ c. Each (λ f. FieldAlone a w f.field.ty) c.fields) cs →
      Each BareAlone (flat_map (added_in_by a w) cs)
  added_cases [] h = tt
  added_cases (c ∷ cs) h =
      each_both BareAlone (added_in_by a w c) (flat_map (added_in_by a w) cs) (added_case c.left_out c.fields h.0) (added_cases cs h.1)

  pub needed_alone : (cs : List MarkedCase) → Each (λ c. Each (λ f. FieldAlone a w f.field.ty) c.fields) cs →
      Each PredicateAlone (map bare_predicate (flat_map (added_in_by a w) cs))
  needed_alone cs h = each_map PredicateAlone bare_predicate (flat_map (added_in_by a w) cs) (added_cases cs h)

-- ---- those of a declaration

-- what holds of the types of the fields holds of those of marked ones
module _ (P : TypeTree → Type 0) (leaves_out : List Attribute → Bool) where
  marked_fields : (fs : List FieldTree) → Each (λ f. P f.ty) fs → Each (λ f. P f.field.ty) (map (mark_field leaves_out) fs)
  marked_fields [] h = tt
  marked_fields (f ∷ fs) h = (h.0, marked_fields fs h.1)

  marked_case : (b : Bool) (fs : List FieldTree) → Each (λ f. P f.ty) fs →
      Each (λ f. P f.field.ty) (cond b [] (map (mark_field leaves_out) fs))
  marked_case true fs h = tt
  marked_case false fs h = marked_fields fs h

  pub marked_cases : (cs : List Case) → Each (λ c. Each (λ f. P f.ty) (field_list c.fields)) cs →
      Each (λ c. Each (λ f. P f.field.ty) c.fields) (map (mark_case leaves_out) cs)
  marked_cases [] h = tt
  marked_cases (c ∷ cs) h = (marked_case (leaves_out c.attrs) (field_list c.fields) h.0, marked_cases cs h.1)

-- two truths of each, as a third
both_each : {A : Type 0} {P Q R : A → Type 0} → ((x : A) → P x → Q x → R x) → (xs : List A) → Each P xs → Each Q xs → Each R xs
both_each f [] h k = tt
both_each f (x ∷ xs) h k = (f x h.0 k.0, both_each f xs h.1 k.1)

-- P holds of the type of each declared field
abbrev pub EachField : (TypeTree → Type 0) → Declaration → Type 0
EachField P d = Each (λ c. Each (λ f. P f.ty) (field_list c.fields)) (cases d)

pub both_fields : {P Q R : TypeTree → Type 0} → ((x : TypeTree) → P x → Q x → R x) → (d : Declaration) → EachField P d → EachField Q d →
    EachField R d
both_fields f d h k = both_each (λ c x y. both_each (λ g u v. f g.ty u v) (field_list c.fields) x y) (cases d) h k

module _ (d : Declaration) (limit : ℕ) (ts : Trees) (m : Marks) (s : SpelledBy d limit ts m) (within : first_too_deep m ≡ None) where
  pub needed_declared : (a : Asking) (leaves_out : List Attribute → Bool) → ((x : TypeTree) → TypeAlone (unplaced_type x) → PathAlone (a.path x)) →
      EachField (λ x. a.asks (wanted_of d) x ≡ true → calls_for x ≡ false) d →
      Each PredicateAlone (map bare_predicate (needed_by a d (marked leaves_out d)))
  needed_declared a leaves_out paths plain =
      needed_alone a (wanted_of d) (marked leaves_out d)
      (marked_cases (FieldAlone a (wanted_of d)) leaves_out (cases d)
      (both_fields (λ x k h e. (k.1, paths x k.1, h e)) d (declared_cases d limit ts m s within) plain))
