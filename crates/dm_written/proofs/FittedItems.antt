-- Implementations fit in a text where their parts do.
use Rattle.std.specs.Prelude.{◌≡◌, ℕ, true, ◌-◌, ◌<◌, List, [], ◌∷◌, map, codes, Option, Some, None, refl}
use Rattle.std.proofs.Common.{arith}
use Rattle.dm_stream.specs.declared.tokens.Delim.TheVariants.{Paren, Bracket, Brace}
use Rattle.dm_stream.specs.Layout.{nowhere}
use Rattle.dm_stream.specs.Trees.{Trees, join}
use Rattle.dm_lexer.specs.Written.{AllAreWritable}
use Rattle.dm_lexer.proofs.Writables.{is_ascii_word}
use Rattle.dm_ast.specs.Tree.{TypeTree, PathTree}
use Rattle.dm_ast.specs.TypeTokens.{type_trees, path_trees}
use Rattle.dm_ast.specs.Declarations.{ParamTree, PredicateTree}
use Rattle.dm_output.specs.Output.{AssocTree, ParamOfMethod, MethodTree, ItemTree}
use Rattle.dm_output.specs.Tokens.{punct, word, enclosed, in_turn, param_trees, predicate_trees, private_bounds, dead_code, deprecated, unreachable_code, non_upper_case_globals, unused_unit, automatically_derived, track_caller, allowing, attr_trees, params_trees, where_trees, trait_trees, assoc_trees, receiver_trees, method_param_trees, inputs_trees, output_trees, signature_trees, method_trees, head_trees, item_trees}
use Rattle.dm_output.specs.declared.item.ItemAttr.{ItemAttr}
use Rattle.dm_output.specs.declared.item.ItemAttr.TheVariants as attr
use Rattle.dm_output.specs.declared.item.Receiver.{Receiver}
use Rattle.dm_output.specs.declared.item.Receiver.TheVariants as receiver
use Rattle.dm_written.specs.Fitting.{Fits, Each, IfThere, AttrFits, AssocFits, ParamFits, MethodFits, ItemFits, AllFit, ItemsFit}
use Rattle.dm_written.proofs.Fitted.{none_fits, join_fits, group_fits, name_fits, word_fits, punct_fits, comma_fits, colon_fits, semicolon_fits, assigns_fits, colons_fit, arrow_fits, given_fits, listed_fits, in_turn_fits, map_fits}
use Rattle.dm_written.proofs.FittedExprs.{block_fits}

-- ---- attributes

attr_group : (n : ℕ) {inside : Trees} → 0 < n → Fits (n - 1) inside → Fits n (join (punct 35) (enclosed Bracket inside))
attr_group n some h = join_fits (punct_fits n 35 refl) (group_fits n Bracket some h)

-- a word with a group behind it
grouping : (n : ℕ) (letters : List ℕ) {inside : Trees} → is_ascii_word letters ≡ true → 1 < n → Fits (n - 1 - 1) inside →
    Fits n (join (punct 35) (enclosed Bracket (join (word letters) (enclosed Paren inside))))
grouping n letters w two h = attr_group n (omega arith) (join_fits (word_fits (n - 1) letters w) (group_fits (n - 1) Paren (omega arith) h))

allows : (n : ℕ) {lint : Trees} → 1 < n → Fits (n - 1 - 1) lint → Fits n (join (punct 35) (enclosed Bracket (allowing lint)))
allows n two h = grouping n (codes "allow") refl two h

pub attr_fits : (n : ℕ) (a : ItemAttr) → AttrFits n a → Fits n (attr_trees a)
unfolding private_bounds dead_code deprecated unreachable_code non_upper_case_globals unused_unit automatically_derived track_caller
attr_fits n attr.AllowPrivateBounds h = allows n h (word_fits (n - 1 - 1) (codes "private_bounds") refl)
attr_fits n attr.AllowDeadCodePrivateBounds h =
    let m : ℕ = n - 1 - 1 in
    allows n h (join_fits (word_fits m (codes "dead_code") refl) (join_fits (comma_fits m) (word_fits m (codes "private_bounds") refl)))
attr_fits n attr.AllowDeprecated h = allows n h (word_fits (n - 1 - 1) (codes "deprecated") refl)
attr_fits n attr.AllowUnreachableCode h = allows n h (word_fits (n - 1 - 1) (codes "unreachable_code") refl)
attr_fits n attr.AllowNonUpperCaseGlobals h = allows n h (word_fits (n - 1 - 1) (codes "non_upper_case_globals") refl)
attr_fits n attr.AllowUnusedUnit h =
    let m : ℕ = n - 1 - 1 in
    allows n h (join_fits (word_fits m (codes "clippy") refl) (join_fits (colons_fit m) (word_fits m (codes "unused_unit") refl)))
attr_fits n attr.AutomaticallyDerived h = attr_group n h (word_fits (n - 1) (codes "automatically_derived") refl)
attr_fits n attr.DocHidden h = grouping n (codes "doc") refl h (word_fits (n - 1 - 1) (codes "hidden") refl)
attr_fits n attr.Inline h = attr_group n h (word_fits (n - 1) (codes "inline") refl)
attr_fits n attr.TrackCaller h = attr_group n h (word_fits (n - 1) (codes "track_caller") refl)

attrs_fit : (n : ℕ) (all : List ItemAttr) → Each (AttrFits n) all → Fits n (in_turn (map attr_trees all))
attrs_fit n all h = in_turn_fits n (map attr_trees all) (map_fits n (AttrFits n) attr_trees (attr_fits n) all h)

-- ---- parameters, predicates and the trait

pub params_fit : (n : ℕ) (ps : List ParamTree) → Each (Fits n) (map param_trees ps) → Fits n (params_trees ps)
params_fit n [] h = none_fits n
params_fit n (p ∷ ps) h = join_fits (punct_fits n 60 refl) (join_fits (listed_fits n (map param_trees (p ∷ ps)) h) (punct_fits n 62 refl))

pub predicates_fit : (n : ℕ) (ps : List PredicateTree) → Each (Fits n) (map predicate_trees ps) → Fits n (where_trees ps)
predicates_fit n [] h = none_fits n
predicates_fit n (p ∷ ps) h = join_fits (word_fits n (codes "where") refl) (listed_fits n (map predicate_trees (p ∷ ps)) h)

pub trait_fits : (n : ℕ) (p : Option PathTree) → IfThere (λ (q : PathTree). Fits n (path_trees nowhere q)) p → Fits n (trait_trees p)
trait_fits n None h = none_fits n
trait_fits n (Some p) h = join_fits h (word_fits n (codes "for") refl)

-- ---- associated types and methods

pub assoc_fits : (n : ℕ) (a : AssocTree) → AssocFits n a → Fits n (assoc_trees a)
assoc_fits n a h =
    join_fits (word_fits n (codes "type") refl)
    (join_fits (name_fits n a.name h.0) (join_fits (assigns_fits n) (join_fits h.1 (semicolon_fits n))))

pub receiver_fits : (n : ℕ) (r : Receiver) → Fits n (receiver_trees r)
receiver_fits n receiver.Value = word_fits n (codes "self") refl
receiver_fits n receiver.Ref = join_fits (punct_fits n 38 refl) (word_fits n (codes "self") refl)
receiver_fits n receiver.RefMut =
    join_fits (punct_fits n 38 refl) (join_fits (word_fits n (codes "mut") refl) (word_fits n (codes "self") refl))

pub param_fits : (n : ℕ) (p : ParamOfMethod) → ParamFits n p → Fits n (method_param_trees p)
param_fits n p h = join_fits (name_fits n p.name h.0) (join_fits (colon_fits n) h.1)

inputs_fit : (n : ℕ) (r : Option Receiver) (p : Option ParamOfMethod) → IfThere (ParamFits n) p → Fits n (inputs_trees r p)
inputs_fit n None None h = none_fits n
inputs_fit n None (Some p) h = param_fits n p h
inputs_fit n (Some r) None h = receiver_fits n r
inputs_fit n (Some r) (Some p) h = join_fits (receiver_fits n r) (join_fits (comma_fits n) (param_fits n p h))

output_fits : (n : ℕ) (o : Option TypeTree) → IfThere (λ (x : TypeTree). Fits n (type_trees x)) o → Fits n (output_trees o)
output_fits n None h = none_fits n
output_fits n (Some x) h = join_fits (arrow_fits n) h

pub signature_fits : (n : ℕ) (m : MethodTree) → MethodFits n m → Fits n (signature_trees m)
signature_fits n m h =
    join_fits (attrs_fit n m.attrs h.attrs)
    (join_fits (given_fits m.is_const (word_fits n (codes "const") refl))
    (join_fits (word_fits n (codes "fn") refl)
    (join_fits (name_fits n m.name h.name)
    (join_fits (group_fits n Paren h.groups (inputs_fit (n - 1) m.receiver m.param h.param)) (output_fits n m.output h.output)))))

pub method_fits : (n : ℕ) (m : MethodTree) → MethodFits n m → Fits n (method_trees m)
method_fits n m h = join_fits (signature_fits n m h) (group_fits n Brace h.groups (block_fits (n - 1) m.body h.body))

-- ---- items

pub head_fits : (n : ℕ) (i : ItemTree) → ItemFits n i → Fits n (head_trees i)
head_fits n i h =
    join_fits (attrs_fit n i.attrs h.attrs)
    (join_fits (word_fits n (codes "impl") refl)
    (join_fits (params_fit n i.params h.params)
    (join_fits (trait_fits n i.trait_path h.trait_path) (join_fits h.ty (predicates_fit n i.predicates h.predicates)))))

assocs_fit : (n : ℕ) (all : List AssocTree) → Each (AssocFits n) all → Fits n (in_turn (map assoc_trees all))
assocs_fit n all h = in_turn_fits n (map assoc_trees all) (map_fits n (AssocFits n) assoc_trees (assoc_fits n) all h)

methods_fit : (n : ℕ) (all : List MethodTree) → Each (MethodFits n) all → Fits n (in_turn (map method_trees all))
methods_fit n all h = in_turn_fits n (map method_trees all) (map_fits n (MethodFits n) method_trees (method_fits n) all h)

pub item_fits : (n : ℕ) (i : ItemTree) → ItemFits n i → Fits n (item_trees i)
item_fits n i h =
    join_fits (head_fits n i h)
    (group_fits n Brace h.groups (join_fits (assocs_fit (n - 1) i.assocs h.assocs) (methods_fit (n - 1) i.methods h.methods)))

pub all_items_fit : (n : ℕ) (is : List ItemTree) → AllFit n is → Each (Fits n) (map item_trees is)
all_items_fit n is h = map_fits n (ItemFits n) item_trees (item_fits n) is h

pub all_writable : (n : ℕ) (all : List Trees) → Each (Fits n) all → AllAreWritable all
all_writable n [] h = tt
all_writable n (ts ∷ more) h = (h.0.writable, all_writable n more h.1)

pub items_fit : ItemsFit
items_fit n is h =
    let parts = all_items_fit n is h in
    (all_writable n (map item_trees is) parts, (in_turn_fits n (map item_trees is) parts).shallow)
