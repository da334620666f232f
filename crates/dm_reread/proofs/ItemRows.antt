-- Implementations, read back.
use Rattle.std.specs.Prelude.{◌≡◌, ℕ, zero, suc, ◌≤◌, Bool, true, false, T, List, [], ◌∷◌, map, length, codes, IsTrue, Option, Some, None, refl}
use Rattle.std.proofs.Common.{ap, ◌∙◌, sym}
use native.Mathlib.Omega.{arith}
use Rattle.dm_stream.specs.declared.tokens.Delim.TheVariants.{Paren, Brace}
use Rattle.dm_stream.specs.Trees.{Trees, no_trees, join, join-no_trees, join_assoc}
use Rattle.dm_ast.specs.Keywords.{is_name, is_keyword}
use Rattle.dm_ast.specs.TypeGrammar.{is_path_word}
use Rattle.dm_ast.specs.Tree.{TypeTree}
use Rattle.dm_ast.specs.TypeTokens.{given, name, type_trees}
use Rattle.dm_output.specs.Output.{AssocTree, ParamOfMethod, MethodTree, ItemTree}
use Rattle.dm_output.specs.Tokens as k
use Rattle.dm_output.specs.Tokens.{in_turn, attr_inside, attr_trees, assoc_trees, method_trees, head_trees, item_trees, signature_trees, block_trees, inside_trees, inputs_trees, output_trees, method_param_trees, private_bounds, dead_code, deprecated, unreachable_code, non_upper_case_globals, unused_unit, automatically_derived, track_caller}
use Rattle.dm_output.specs.declared.item.ItemAttr.{ItemAttr}
use Rattle.dm_output.specs.declared.item.ItemAttr.TheVariants as attr
use Rattle.dm_output.specs.declared.item.Receiver.{Receiver}
use Rattle.dm_output.specs.declared.item.Receiver.TheVariants as receiver
use Rattle.dm_reread.specs.Next.{Next, k_type, hash, a_word, next}
use Rattle.dm_reread.specs.Leaves.{LeafGrammar, Leaves, LeafLaws}
use Rattle.dm_reread.specs.Reading.{whole}
use Rattle.dm_reread.specs.Grammar.{IsName}
use Rattle.dm_reread.specs.Whole.{size}
use Rattle.dm_reread.specs.Items.{head_of, between_trees, ItemLeaves, all_attrs, attr_among, attrs_from, read_attrs, assocs_from, read_assocs, param_from, behind_receiver, read_inputs, output_after, const_or_fn, name_of_method, read_method, read_methods, members_of, read_item}
use Rattle.dm_reread.specs.ItemGrammar.{ItemGrammar, ItemLaws, AreAssocs, IsParam, IsOutput, IsMethod, AreMethods, IsItem}
use Rattle.dm_reread.proofs.Words.{plainly, name-next, word-next}
use Rattle.dm_reread.proofs.Fuel.{size-join}
use Rattle.dm_reread.proofs.PartLists.{parts-row}
use Rattle.dm_reread.proofs.Back.{block-back}

-- ---- attributes

attr-back : (a : ItemAttr) → attr_among all_attrs (attr_inside a) ≡ Some a
unfolding private_bounds dead_code deprecated unreachable_code non_upper_case_globals unused_unit automatically_derived track_caller
attr-back attr.AllowPrivateBounds = refl
attr-back attr.AllowDeadCodePrivateBounds = refl
attr-back attr.AllowDeprecated = refl
attr-back attr.AllowUnreachableCode = refl
attr-back attr.AllowNonUpperCaseGlobals = refl
attr-back attr.AllowUnusedUnit = refl
attr-back attr.AutomaticallyDerived = refl
attr-back attr.DocHidden = refl
attr-back attr.Inline = refl
attr-back attr.TrackCaller = refl

abbrev no_hash : Next → Bool
no_hash (hash ts) = false
no_hash _ = true

attrs-stop : (more : Trees → Option (List ItemAttr × Trees)) (ts : Trees) (n : Next) → T (no_hash n) →
    attrs_from more ts n ≡ Some ([], ts)
attrs-stop more ts (hash us) h = absurd h
attrs-stop more ts _ h = refl

attrs-row : (n : ℕ) (as' : List ItemAttr) (rest : Trees) → suc (length as') ≤ n → T (no_hash (next rest)) →
    read_attrs n (join (in_turn (map attr_trees as')) rest) ≡ Some (as', rest)
attrs-row zero as' rest m h = absurd (omega (arith, m))
attrs-row (suc n) [] rest m h = attrs-stop (read_attrs n) rest (next rest) h
attrs-row (suc n) (a ∷ as') rest m h = rw (attr-back a, attrs-row n as' rest (omega (arith, m)) h) refl

attrs-size : (as' : List ItemAttr) → length as' ≤ size (in_turn (map attr_trees as'))
attrs-size [] = omega arith
attrs-size (a ∷ as') = omega (arith, attrs-size as')

-- with the fuel of the text
all-attrs : (as' : List ItemAttr) (rest : Trees) → T (no_hash (next rest)) →
    read_attrs (suc (size (join (in_turn (map attr_trees as')) rest))) (join (in_turn (map attr_trees as')) rest) ≡ Some (as', rest)
all-attrs as' rest h =
    attrs-row (suc (size (join (in_turn (map attr_trees as')) rest))) as' rest (omega (arith, attrs-size as', size-join (in_turn (map attr_trees as')) rest)) h

-- ---- associated types

abbrev no_type : Next → Bool
no_type (a_word k_type ts) = false
no_type _ = true

assocs-stop : (l : Leaves) (more : Trees → Option (List AssocTree × Trees)) (ts : Trees) (n : Next) → T (no_type n) →
    assocs_from l more ts n ≡ Some ([], ts)
assocs-stop l more ts (a_word k_type us) h = absurd h
assocs-stop l more ts _ h = refl

assocs-row : (g : LeafGrammar) (l : Leaves) (L : LeafLaws g l) (n : ℕ) (as' : List AssocTree) (rest : Trees) → AreAssocs g as' →
    suc (length as') ≤ n →
    T (no_type (next rest)) → read_assocs l n (join (in_turn (map assoc_trees as')) rest) ≡ Some (as', rest)
assocs-row g l L zero as' rest p m h = absurd (omega (arith, m))
assocs-row g l L (suc n) [] rest p m h = assocs-stop l (read_assocs l n) rest (next rest) h
assocs-row g l L (suc n) (a ∷ as') rest p m h =
    let more : Trees = in_turn (map assoc_trees as') in
    rw (
      join_assoc (type_trees a.ty) k.semicolon more,
      join_assoc (type_trees a.ty) (join k.semicolon more) rest,
      name-next a.name (join k.assigns (join (type_trees a.ty) (join k.semicolon (join more rest)))) p.0.0,
      p.0.0,
      L.type a.ty (join k.semicolon (join more rest)) p.0.1 tt,
      assocs-row g l L n as' rest p.1 (omega (arith, m)) h,
    ) refl

assocs-size : (as' : List AssocTree) → length as' ≤ size (in_turn (map assoc_trees as'))
assocs-size [] = omega arith
assocs-size (a ∷ as') = omega (arith, size-join (join (type_trees a.ty) k.semicolon) (in_turn (map assoc_trees as')), assocs-size as')

-- ---- methods

self-path : IsTrue (is_path_word (plainly (codes "self")))
unfolding is_keyword
self-path = refl

self-word : (ts : Trees) → next (join (k.word (codes "self")) ts) ≡ Next.a_name (plainly (codes "self")) ts
self-word ts = word-next (plainly (codes "self")) ts self-path

self-no-name : is_name (plainly (codes "self")) ≡ false
unfolding is_keyword
self-no-name = refl

type-whole : (g : LeafGrammar) (l : Leaves) (L : LeafLaws g l) (t : TypeTree) → g.IsType t → whole (l.type (type_trees t)) ≡ Some t
type-whole g l L t h = ap (λ ts. whole (l.type ts)) (sym (join-no_trees (type_trees t))) ∙ ap whole (L.type t no_trees h tt)

param-row : (g : LeafGrammar) (l : Leaves) (L : LeafLaws g l) (p : ParamOfMethod) → IsName p.name × g.IsType p.ty →
    param_from l (next (method_param_trees p)) ≡ Some p
param-row g l L p h = rw (name-next p.name (join k.colon (type_trees p.ty)) h.0, h.0, type-whole g l L p.ty h.1) refl

-- a parameter behind a receiver
behind-row : (g : LeafGrammar) (l : Leaves) (L : LeafLaws g l) (r : Receiver) (p : ParamOfMethod) → IsName p.name × g.IsType p.ty →
    behind_receiver l r (next (join k.comma (method_param_trees p))) ≡ Some (Some r, Some p)
behind-row g l L r p h = rw (param-row g l L p h) refl

inputs-row : (g : LeafGrammar) (l : Leaves) (L : LeafLaws g l) (r : Option Receiver) (p : Option ParamOfMethod) → IsParam g p →
    read_inputs l (next (inputs_trees r p)) ≡ Some (r, p)
inputs-row g l L None None h = refl
inputs-row g l L None (Some p) h =
    rw (name-next p.name (join k.colon (type_trees p.ty)) h.0, h.0, type-whole g l L p.ty h.1) refl
inputs-row g l L (Some receiver.Value) None h = rw (self-word no_trees, self-no-name) refl
inputs-row g l L (Some receiver.Ref) None h = rw (self-word no_trees) refl
inputs-row g l L (Some receiver.RefMut) None h = rw (self-word no_trees) refl
inputs-row g l L (Some receiver.Value) (Some p) h =
    rw (self-word (join k.comma (method_param_trees p)), self-no-name) (behind-row g l L receiver.Value p h)
inputs-row g l L (Some receiver.Ref) (Some p) h = rw (self-word (join k.comma (method_param_trees p))) (behind-row g l L receiver.Ref p h)
inputs-row g l L (Some receiver.RefMut) (Some p) h =
    rw (self-word (join k.comma (method_param_trees p))) (behind-row g l L receiver.RefMut p h)

-- what is given, and the brace of a body
output-row : (g : LeafGrammar) (l : Leaves) (L : LeafLaws g l) (o : Option TypeTree) (inside rest : Trees) → IsOutput g o →
    output_after l (join (output_trees o) (join (k.enclosed Brace inside) rest)) (next (join (output_trees o) (join (k.enclosed Brace inside) rest))) ≡
    Some (o, join (k.enclosed Brace inside) rest)
output-row g l L None inside rest h = refl
output-row g l L (Some t) inside rest h = rw (L.type t (join (k.enclosed Brace inside) rest) h tt) refl

-- a method from its name on, and from `fn` on, with others behind it
abbrev named_end : MethodTree → Trees → Trees
named_end x rest =
    join (name x.name)
    (join (k.enclosed Paren (inputs_trees x.receiver x.param)) (join (output_trees x.output) (join (block_trees x.body) rest)))

abbrev method_end : MethodTree → Trees → Trees
method_end x rest = join (k.word (codes "fn")) (named_end x rest)

named-row : (g : LeafGrammar) (l : Leaves) (L : LeafLaws g l) (x : MethodTree) (rest : Trees) → IsMethod g x →
    name_of_method l x.attrs x.is_const (next (named_end x rest)) ≡
    Some (x, rest)
named-row g l L x rest h =
    let behind : Trees = join (output_trees x.output) (join (block_trees x.body) rest) in
    rw (
      name-next x.name (join (k.enclosed Paren (inputs_trees x.receiver x.param)) behind) h.0.0,
      h.0.0,
      inputs-row g l L x.receiver x.param h.0.1,
      output-row g l L x.output (inside_trees x.body) rest h.1.0,
      block-back g l L x.body h.1.1,
    ) refl

const-row : (l : Leaves) (as' : List ItemAttr) (b : Bool) (x : MethodTree) (rest : Trees) →
    const_or_fn l as' (next (join (given b (k.word (codes "const"))) (method_end x rest))) ≡
    name_of_method l as' b (next (named_end x rest))
const-row l as' true x rest = refl
const-row l as' false x rest = refl

fn-no-hash : (b : Bool) (x : MethodTree) (rest : Trees) → T (no_hash (next (join (given b (k.word (codes "const"))) (method_end x rest))))
fn-no-hash true x rest = tt
fn-no-hash false x rest = tt

method-shape : (x : MethodTree) (rest : Trees) →
    join (method_trees x) rest ≡
    join (in_turn (map attr_trees x.attrs)) (join (given x.is_const (k.word (codes "const"))) (method_end x rest))
method-shape x rest = simp join_assoc refl

method-row : (g : LeafGrammar) (l : Leaves) (L : LeafLaws g l) (x : MethodTree) (rest : Trees) → IsMethod g x →
    read_method l (join (method_trees x) rest) ≡ Some (x, rest)
method-row g l L x rest h =
    let behind : Trees = join (given x.is_const (k.word (codes "const"))) (method_end x rest) in
    ap (read_method l) (method-shape x rest) ∙
    rw (all-attrs x.attrs behind (fn-no-hash x.is_const x rest)) (const-row l x.attrs x.is_const x rest ∙ named-row g l L x rest h)

methods-row : (g : LeafGrammar) (l : Leaves) (L : LeafLaws g l) (n : ℕ) (xs : List MethodTree) → AreMethods g xs → suc (length xs) ≤ n →
    read_methods l n (in_turn (map method_trees xs)) ≡ Some xs
methods-row g l L =
    parts-row (read_method l) method_trees (AreMethods g) refl (λ x xs rest h. (method-row g l L x rest h.0, h.1))

methods-size : (xs : List MethodTree) → length xs ≤ size (in_turn (map method_trees xs))
methods-size [] = omega arith
methods-size (x ∷ xs) =
    omega (
      arith,
      size-join (method_trees x) (in_turn (map method_trees xs)),
      size-join (signature_trees x) (block_trees x.body),
      methods-size xs,
    )

-- methods begin with no `type`
method-no-type : (as' : List ItemAttr) (b : Bool) (x : MethodTree) (rest : Trees) →
    T (no_type (next (join (in_turn (map attr_trees as')) (join (given b (k.word (codes "const"))) (method_end x rest)))))
method-no-type [] true x rest = tt
method-no-type [] false x rest = tt
method-no-type (a ∷ as') b x rest = tt

methods-no-type : (xs : List MethodTree) → T (no_type (next (in_turn (map method_trees xs))))
methods-no-type [] = tt
methods-no-type (x ∷ xs) =
    rw (method-shape x (in_turn (map method_trees xs))) (method-no-type x.attrs x.is_const x (in_turn (map method_trees xs)))

-- ---- implementations

members-row : (g : ItemGrammar) (l : ItemLeaves) (L : ItemLaws g l) (i : ItemTree) → AreAssocs g.parts i.assocs →
    AreMethods g.parts i.methods →
    members_of l i.attrs (head_of i) (join (in_turn (map assoc_trees i.assocs)) (in_turn (map method_trees i.methods))) ≡ Some i
members-row g l L i h m =
    let assocs : Trees = in_turn (map assoc_trees i.assocs) in
    let methods : Trees = in_turn (map method_trees i.methods) in
    let fuel : ℕ = suc (size (join assocs methods)) in
    let enough : suc (length i.assocs) ≤ fuel = omega (arith, assocs-size i.assocs, size-join assocs methods) in
    rw (
      assocs-row g.parts l.parts L.parts fuel i.assocs methods h enough (methods-no-type i.methods),
      methods-row g.parts l.parts L.parts (suc (size methods)) i.methods m (omega (arith, methods-size i.methods)),
    ) refl

abbrev item_braces : ItemTree → Trees
item_braces i = k.enclosed Brace (join (in_turn (map assoc_trees i.assocs)) (in_turn (map method_trees i.methods)))

item-shape : (i : ItemTree) (rest : Trees) →
    join (item_trees i) rest ≡
    join (in_turn (map attr_trees i.attrs)) (join (k.word (codes "impl")) (join (between_trees (head_of i)) (join (item_braces i) rest)))
item-shape i rest = simp join_assoc refl

pub item-back : (g : ItemGrammar) (l : ItemLeaves) → ItemLaws g l → (i : ItemTree) (rest : Trees) → IsItem g i →
    read_item l (join (item_trees i) rest) ≡ Some (i, rest)
item-back g l L i rest h =
    let headed : Trees = join (between_trees (head_of i)) (join (item_braces i) rest) in
    ap (read_item l) (item-shape i rest) ∙
    rw (
      all-attrs i.attrs (join (k.word (codes "impl")) headed) tt,
      L.head (head_of i) (join (item_braces i) rest) h.0 tt,
      members-row g l L i h.1.0 h.1.1,
    ) refl

pub item-size : (i : ItemTree) → 1 ≤ size (item_trees i)
item-size i = omega (arith, size-join (head_trees i) (item_braces i))
