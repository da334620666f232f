-- What is spelled within the deepest level has low levels: so do the parts of a declaration that emitted heads take over, and every head of
-- the grammar.
use Rattle.std.proofs.Common.{◌≡◌, ℕ, ◌+◌, ◌≤◌, Bool, true, false, cond, nat_lt, List, [], ◌∷◌, ◌++◌, map, codes, Option, Some, None, refl, sym, ap, ◌∙◌, subst, arith}
use Rattle.std.proofs.lemmas.Bool.Decides.{nat_tests}
use Rattle.dm_stream.specs.declared.tokens.Span.{Span}
use Rattle.dm_stream.specs.Trees.{Trees, no_trees, join-no_trees}
use Rattle.dm_ast.specs.Tree.{TypeTree, type_tree, path, no_self, PathTree}
use Rattle.dm_ast.specs.Declarations.{ParamTree, PredicateTree}
use Rattle.dm_ast.specs.Spelling.{Where, Marks, deepest, first_too_deep, range_of, sees}
use Rattle.dm_ast.specs.TypeGrammar.{sees_macro, type_spelled, path_spelled}
use Rattle.dm_ast.specs.DeclarationGrammar.{param, generics, predicate, ends_where, where_clause}
use Rattle.dm_output.specs.Output.{ItemTree}
use Rattle.dm_output.specs.declared.item.ItemAttr.{ItemAttr}
use Rattle.dm_output.specs.declared.item.ItemAttr.TheVariants as attr
use Rattle.dm_type_levels.specs.TypeLevels.{type_levels, path_levels, param_levels, predicate_levels}
use Rattle.dm_type_levels.proofs.Marked.{levels_are_marks, param_levels_are_marks, predicate_levels_are_marks}
use Rattle.dm_levels.specs.Low.{AllLow}
use Rattle.dm_levels.specs.Levels.{in_turn, allowing, attr_inside, attr_levels, params_levels, where_levels, trait_levels, head_levels}
use Rattle.dm_reread.specs.Bare.{bare_item}
use Rattle.dm_reread.specs.TypeLeaves.{top}
use Rattle.dm_reread.specs.Items.{HeadTree, head_of, between_trees}
use Rattle.dm_reread.specs.HeadLeaves.{is_some_params, listed, clause_of, trait_spelled, head_spelled, IsHead}
use Rattle.dm_reread.proofs.TypeLeafEnds.{stop_end}
use Rattle.dm_reread.proofs.HeadLeaf.{first_within}
use Rattle.dm_reread.proofs.TypeLeafCalls.{Calm, calm_word, uncalled_path}
use Rattle.dm_head_laws.specs.Parts.{inner, Each}
use Rattle.dm_head_laws.proofs.DeclaredParts.{From, first_from, rest_from, given_from, each_item, each_map}
use Rattle.dm_level_laws.proofs.BareLevels.{head_same}
use Rattle.dm_emitted_laws.proofs.LowBodies.{Low, low_none, low_next, low_one, low_two, low_both, low_grouped, low_spaced, low_in_turn}

-- ---- marks

first_low : (l : ℕ) → nat_lt deepest l ≡ false → l ≤ deepest
first_low l h = grind (arith, nat_tests)

none_first : (b : Bool) (s : Span) (more : Option Span) → cond b (Some s) more ≡ None → (b ≡ false) × (more ≡ None)
none_first true s more h = absurd (cc)
none_first false s more h = (refl, h)

marks_low : (m : Marks) → first_too_deep m ≡ None → AllLow (map (λ k. k.0) m)
marks_low [] h = tt
marks_low (k ∷ m) h =
    let parts = none_first (nat_lt deepest k.0) k.1 (first_too_deep m) h in (first_low k.0 parts.0, marks_low m parts.1)

-- levels that are those of such marks
marked_low : (m : Marks) (ls : List ℕ) → map (λ k. k.0) m ≡ ls → first_too_deep m ≡ None → Low ls
marked_low m ls e h = record { all = subst AllLow e (marks_low m h) }

-- ---- what is spelled within the deepest level

pub type_low : (x : TypeTree) (single : Bool) (w : Where) (ts : Trees) → From (type_spelled x single w) ts → Low (type_levels w.level x)
type_low x single w ts s =
    marked_low s.marks (type_levels w.level x) (levels_are_marks x single w ts s.others s.marks s.spelled) s.within

pub param_low : (p : ParamTree) (w : Where) (ts : Trees) → From (param p w) ts → Low (param_levels w.level p)
param_low p w ts s = marked_low s.marks (param_levels w.level p) (param_levels_are_marks p w ts s.others s.marks s.spelled) s.within

pub predicate_low : (p : PredicateTree) (w : Where) (ts : Trees) → From (predicate p w) ts → Low (predicate_levels w.level p)
predicate_low p w ts s =
    marked_low s.marks (predicate_levels w.level p) (predicate_levels_are_marks p w ts s.others s.marks s.spelled) s.within

-- a path that goes on with no `!` is a type
path_low : (p : PathTree) (ts others : Trees) (m : Marks) → path_spelled p top ts others m → first_too_deep m ≡ None →
    Calm no_trees stop_end others → Low (path_levels 0 p)
path_low p ts others m s h c =
    let e : sees_macro ts ≡ false = ap sees_macro (sym (join-no_trees ts)) ∙ uncalled_path no_trees stop_end p top ts others m s c in
    type_low (type_tree (path no_self p) (range_of m)) false top ts
    (record {
      others = others;
      marks = m;
      spelled = record { part = record { fact = e; part = s }; is_range = refl };
      within = h;
    })

-- ---- heads

-- what stands at the level 0, and at 1
at_top : 0 ≤ deepest
at_top = omega arith

at_inner : 1 ≤ deepest
at_inner = omega arith

params_low : (ps : List ParamTree) (ts : Trees) → From (generics (is_some_params ps) (listed ps) top) ts → Low (params_levels 0 ps)
params_low [] ts s = low_none
params_low (p ∷ ps) ts s =
    let own = first_from (rest_from (given_from s)) in
    let each : Each (λ q. Low (param_levels 1 q)) (p ∷ ps) =
    each_item (λ q. param q inner) (λ q. Low (param_levels 1 q)) (λ q us x. param_low q inner us x) inner 44 (sees 62) (p ∷ ps) false _
    own in
    low_grouped 0 at_top
    (low_spaced (low_one 1 at_inner) true (map (param_levels 1) (p ∷ ps)) (each_map Low (param_levels 1) (p ∷ ps) each))

trait_low : (o : Option PathTree) (ts : Trees) → From (trait_spelled o top) ts → Low (trait_levels 0 o)
trait_low None ts s = low_none
trait_low (Some p) ts s =
    let t = s.spelled in
    low_both
    (path_low p ts t.middle t.first_marks t.first (first_within t s.within)
    (calm_word no_trees stop_end top (codes "for") t.middle s.others t.rest_marks t.rest))
    (low_one 0 at_top)

where_low : (ps : List PredicateTree) (ts : Trees) → From (where_clause (clause_of ps) top) ts → Low (where_levels 0 ps)
where_low [] ts s = low_none
where_low (p ∷ ps) ts s =
    let each : Each (λ q. Low (predicate_levels 0 q)) (p ∷ ps) =
    each_item (λ q. predicate q top) (λ q. Low (predicate_levels 0 q)) (λ q us x. predicate_low q top us x) top 44 ends_where (p ∷ ps)
    false _ (rest_from s) in
    low_next 0 at_top
    (low_spaced (low_one 0 at_top) true (map (predicate_levels 0) (p ∷ ps)) (each_map Low (predicate_levels 0) (p ∷ ps) each))

between_low : (h : HeadTree) → IsHead h →
    Low (params_levels 0 h.params ++ (trait_levels 0 h.trait_path ++ (type_levels 0 h.ty ++ where_levels 0 h.predicates)))
between_low h i =
    let s : From (head_spelled h top) (between_trees h) =
    record { others = no_trees; marks = i.marks; spelled = i.spelled; within = i.within } in
    let r = rest_from s in
    let t = rest_from r in
    low_both (params_low h.params _ (first_from s))
    (low_both (trait_low h.trait_path _ (first_from r))
    (low_both (type_low h.ty false top _ (first_from t)) (where_low h.predicates _ (rest_from t))))

-- attributes nest two levels at the most
pub attr_low : (k : ℕ) → k + 2 ≤ deepest → (a : ItemAttr) → Low (attr_levels k a)
attr_low k room a = low_next k h (low_grouped k h (inside_low a))
  where
    h : k ≤ deepest
    h = omega arith

    i : k + 1 ≤ deepest
    i = omega arith

    j : k + 1 + 1 ≤ deepest
    j = omega arith

    allowing_low : {ls : List ℕ} → Low ls → Low (allowing (k + 1) ls)
    allowing_low l = low_next (k + 1) i (low_grouped (k + 1) i l)

    inside_low : (b : ItemAttr) → Low (attr_inside (k + 1) b)
    inside_low attr.AllowPrivateBounds = allowing_low (low_one (k + 1 + 1) j)
    inside_low attr.AllowDeadCodePrivateBounds = allowing_low (low_next (k + 1 + 1) j (low_two (k + 1 + 1) j))
    inside_low attr.AllowDeprecated = allowing_low (low_one (k + 1 + 1) j)
    inside_low attr.AllowUnreachableCode = allowing_low (low_one (k + 1 + 1) j)
    inside_low attr.AllowNonUpperCaseGlobals = allowing_low (low_one (k + 1 + 1) j)
    inside_low attr.AllowUnusedUnit = allowing_low (low_next (k + 1 + 1) j (low_next (k + 1 + 1) j (low_two (k + 1 + 1) j)))
    inside_low attr.AutomaticallyDerived = low_one (k + 1) i
    inside_low attr.DocHidden = allowing_low (low_one (k + 1 + 1) j)
    inside_low attr.Inline = low_one (k + 1) i
    inside_low attr.TrackCaller = low_one (k + 1) i

pub attrs_low : (k : ℕ) → k + 2 ≤ deepest → (as' : List ItemAttr) → Low (in_turn (map (attr_levels k) as'))
attrs_low k room as' = low_in_turn (map (attr_levels k) as') (each as')
  where
    each : (bs : List ItemAttr) → Each Low (map (attr_levels k) bs)
    each [] = tt
    each (a ∷ bs) = (attr_low k room a, each bs)

-- a head of the grammar, behind any attributes
pub head_low : (i : ItemTree) → IsHead (head_of (bare_item i)) → Low (head_levels 0 i)
head_low i h =
    let low : Low (head_levels 0 (bare_item i)) =
    low_both (attrs_low 0 (omega arith) i.attrs) (low_next 0 at_top (between_low (head_of (bare_item i)) h)) in
    subst Low (head_same 0 i) low
