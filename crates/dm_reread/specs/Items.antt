-- A reader of implementations: their attributes, associated types and methods. What stands between `impl` and the brace is a leaf.
use Rattle.std.specs.Prelude.{cond, ℕ, zero, suc, ◌==◌, ◌&&◌, not, ◌||◌, Bool, true, false, List, [], ◌∷◌, codes, Option, Some, None}
use Rattle.std.specs.Str.{bytes_eq}
use Rattle.dm_stream.specs.declared.tokens.Token.{Token}
use Rattle.dm_stream.specs.declared.tokens.Token.TheVariants as t
use Rattle.dm_stream.specs.Cursors.{same_delim}
use Rattle.dm_stream.specs.Trees.{Trees, no_trees, token, group, join}
use Rattle.dm_ast.specs.Keywords.{is_name}
use Rattle.dm_ast.specs.Spelling.{is_word}
use Rattle.dm_ast.specs.Tree.{TypeTree, PathTree}
use Rattle.dm_ast.specs.TypeTokens.{type_trees}
use Rattle.dm_ast.specs.Declarations.{ParamTree, PredicateTree}
use Rattle.dm_output.specs.Output.{BlockTree, AssocTree, ParamOfMethod, MethodTree, ItemTree}
use Rattle.dm_output.specs.Tokens.{attr_inside, params_trees, trait_trees, where_trees}
use Rattle.dm_output.specs.declared.item.ItemAttr.{ItemAttr}
use Rattle.dm_output.specs.declared.item.ItemAttr.TheVariants as attr
use Rattle.dm_output.specs.declared.item.Receiver.{Receiver}
use Rattle.dm_output.specs.declared.item.Receiver.TheVariants as receiver
use Rattle.dm_reread.specs.Next.{k_const, k_mut, k_type, k_fn, k_impl, Next, ended, amp, hash, comma, arrow, in_parens, in_braces, in_brackets, a_name, a_word, next}
use Rattle.dm_reread.specs.Leaves.{Answer, Leaves}
use Rattle.dm_reread.specs.Reading.{then, provided, is_alone, whole, assigns_after, semicolon_after, colon_after}
use Rattle.dm_reread.specs.Whole.{size, read_inside}

-- ---- between `impl` and the brace

pub record HeadTree : Type 0 where
  pub params : List ParamTree
  pub trait_path : Option PathTree
  pub ty : TypeTree
  pub predicates : List PredicateTree

abbrev pub head_of : ItemTree → HeadTree
head_of i = record { params = i.params; trait_path = i.trait_path; ty = i.ty; predicates = i.predicates }

abbrev pub between_trees : HeadTree → Trees
between_trees h = join (params_trees h.params) (join (trait_trees h.trait_path) (join (type_trees h.ty) (where_trees h.predicates)))

pub record ItemLeaves : Type 0 where
  pub parts : Leaves
  pub head : Trees → Answer HeadTree

-- ---- parts one behind the other, to the end of the trees

abbrev pub some_parts : {A : Type 0} → (Trees → Answer A) → (Trees → Option (List A)) → Trees → Option (List A)
some_parts read more ts = then (read ts) (λ a. then (more a.1) (λ s. Some (a.0 ∷ s)))

abbrev pub parts_from : {A : Type 0} → (Trees → Answer A) → (Trees → Option (List A)) → Trees → Option (List A)
parts_from read more no_trees = Some []
parts_from read more ts = some_parts read more ts

-- at most so many
abbrev pub parts_within : {A : Type 0} → (Trees → Answer A) → ℕ → Trees → Option (List A)
parts_within read zero ts = None
parts_within read (suc n) ts = parts_from read (parts_within read n) ts

-- ---- attributes

-- trees that differ in ranges alone
abbrev same_token : Token → Token → Bool
same_token (t.Ident i) (t.Ident j) = ((i.raw && j.raw) || not (i.raw || j.raw)) && bytes_eq i.name j.name
same_token (t.Punct p) (t.Punct q) =
    ((is_alone p.spacing && is_alone q.spacing) || not (is_alone p.spacing || is_alone q.spacing)) && (p.ch == q.ch)
same_token _ _ = false

-- whether trees without literals and lifetimes are the same but for their ranges
abbrev pub same_words : Trees → Trees → Bool
same_words no_trees no_trees = true
same_words (token k ts) (token j us) = same_token k j && same_words ts us
same_words (group d from inside upto ts) (group e start behind stop us) = same_delim d e && (same_words inside behind && same_words ts us)
same_words _ _ = false

abbrev pub all_attrs : List ItemAttr
all_attrs =
    attr.AllowPrivateBounds ∷ attr.AllowDeadCodePrivateBounds ∷ attr.AllowDeprecated ∷ attr.AllowUnreachableCode ∷ attr.AllowNonUpperCaseGlobals ∷
    attr.AllowUnusedUnit ∷ attr.AutomaticallyDerived ∷ attr.DocHidden ∷ attr.Inline ∷ attr.TrackCaller ∷ []

abbrev pub attr_among : List ItemAttr → Trees → Option ItemAttr
attr_among [] ts = None
attr_among (a ∷ as') ts = cond (same_words (attr_inside a) ts) (Some a) (attr_among as' ts)

abbrev pub attr_bracket : (Trees → Answer (List ItemAttr)) → Next → Answer (List ItemAttr)
attr_bracket more (in_brackets inside ts) = then (attr_among all_attrs inside) (λ a. then (more ts) (λ s. Some (a ∷ s.0, s.1)))
attr_bracket more _ = None

abbrev pub attrs_from : (Trees → Answer (List ItemAttr)) → Trees → Next → Answer (List ItemAttr)
attrs_from more ts (hash us) = attr_bracket more (next us)
attrs_from more ts _ = Some ([], ts)

abbrev pub read_attrs : ℕ → Trees → Answer (List ItemAttr)
read_attrs zero ts = None
read_attrs (suc n) ts = attrs_from (read_attrs n) ts (next ts)

-- ---- associated types

abbrev pub assoc_from : Leaves → Next → Answer AssocTree
assoc_from l (a_name i ts) =
    provided (is_name i)
    (then (assigns_after (next ts)) (λ us. then (l.type us) (λ a. then (semicolon_after (next a.1)) (λ vs. Some (record { name = i; ty = a.0 }, vs)))))
assoc_from l _ = None

abbrev pub assocs_from : Leaves → (Trees → Answer (List AssocTree)) → Trees → Next → Answer (List AssocTree)
assocs_from l more ts (a_word k_type us) = then (assoc_from l (next us)) (λ a. then (more a.1) (λ s. Some (a.0 ∷ s.0, s.1)))
assocs_from l more ts _ = Some ([], ts)

abbrev pub read_assocs : Leaves → ℕ → Trees → Answer (List AssocTree)
read_assocs l zero ts = None
read_assocs l (suc n) ts = assocs_from l (read_assocs l n) ts (next ts)

-- ---- methods

abbrev pub param_from : Leaves → Next → Option ParamOfMethod
param_from l (a_name i ts) =
    provided (is_name i) (then (colon_after (next ts)) (λ us. then (whole (l.type us)) (λ x. Some (record { name = i; ty = x }))))
param_from l _ = None

abbrev pub Inputs : Type 0
Inputs = Option Receiver × Option ParamOfMethod

abbrev pub behind_receiver : Leaves → Receiver → Next → Option Inputs
behind_receiver l r ended = Some (Some r, None)
behind_receiver l r (comma ts) = then (param_from l (next ts)) (λ p. Some (Some r, Some p))
behind_receiver l r _ = None

abbrev pub self_from : Leaves → Receiver → Next → Option Inputs
self_from l r (a_name i ts) = provided (is_word (codes "self") i) (behind_receiver l r (next ts))
self_from l r _ = None

abbrev pub ref_input : Leaves → Next → Option Inputs
ref_input l (a_word k_mut ts) = self_from l receiver.RefMut (next ts)
ref_input l n = self_from l receiver.Ref n

-- the receiver, the parameter, or both
abbrev pub read_inputs : Leaves → Next → Option Inputs
read_inputs l ended = Some (None, None)
read_inputs l (amp ts) = ref_input l (next ts)
read_inputs l (a_name i ts) =
    cond (is_name i) (then (param_from l (a_name i ts)) (λ p. Some (None, Some p))) (self_from l receiver.Value (a_name i ts))
read_inputs l _ = None

abbrev pub inputs_after : Leaves → Next → Answer Inputs
inputs_after l (in_parens inside ts) = then (read_inputs l (next inside)) (λ p. Some (p, ts))
inputs_after l _ = None

abbrev pub output_after : Leaves → Trees → Next → Answer (Option TypeTree)
output_after l ts (arrow us) = then (l.type us) (λ a. Some (Some a.0, a.1))
output_after l ts _ = Some (None, ts)

abbrev pub body_after : Leaves → Next → Answer BlockTree
body_after l (in_braces inside ts) = then (read_inside l inside) (λ d. Some (d, ts))
body_after l _ = None

abbrev pub name_of_method : Leaves → List ItemAttr → Bool → Next → Answer MethodTree
name_of_method l as' is_const (a_name i ts) =
    provided (is_name i) (then (inputs_after l (next ts)) (λ p. then (output_after l p.1 (next p.1)) (λ o. then (body_after l (next o.1)) (λ d.
    Some (record { attrs = as'; is_const = is_const; name = i; receiver = p.0.0; param = p.0.1; output = o.0; body = d.0 }, d.1)))))
name_of_method l as' is_const _ = None

abbrev pub fn_from : Leaves → List ItemAttr → Bool → Next → Answer MethodTree
fn_from l as' is_const (a_word k_fn ts) = name_of_method l as' is_const (next ts)
fn_from l as' is_const _ = None

abbrev pub const_or_fn : Leaves → List ItemAttr → Next → Answer MethodTree
const_or_fn l as' (a_word k_const ts) = fn_from l as' true (next ts)
const_or_fn l as' n = fn_from l as' false n

abbrev pub read_method : Leaves → Trees → Answer MethodTree
read_method l ts = then (read_attrs (suc (size ts)) ts) (λ a. const_or_fn l a.0 (next a.1))

abbrev pub methods_from : Leaves → (Trees → Option (List MethodTree)) → Trees → Option (List MethodTree)
methods_from l = parts_from (read_method l)

abbrev pub read_methods : Leaves → ℕ → Trees → Option (List MethodTree)
read_methods l = parts_within (read_method l)

-- ---- implementations

abbrev pub impl_after : Next → Option Trees
impl_after (a_word k_impl ts) = Some ts
impl_after _ = None

abbrev pub members_of : ItemLeaves → List ItemAttr → HeadTree → Trees → Option ItemTree
members_of l as' h inside =
    then (read_assocs l.parts (suc (size inside)) inside) (λ x. then (read_methods l.parts (suc (size x.1)) x.1) (λ ms.
    Some (record { attrs = as'; params = h.params; trait_path = h.trait_path; ty = h.ty; predicates = h.predicates; assocs = x.0; methods = ms })))

abbrev pub braces_of_item : ItemLeaves → List ItemAttr → HeadTree → Next → Answer ItemTree
braces_of_item l as' h (in_braces inside ts) = then (members_of l as' h inside) (λ i. Some (i, ts))
braces_of_item l as' h _ = None

-- an implementation in front
abbrev pub read_item : ItemLeaves → Trees → Answer ItemTree
read_item l ts =
    then (read_attrs (suc (size ts)) ts) (λ a. then (impl_after (next a.1)) (λ us. then (l.head us) (λ h. braces_of_item l a.0 h.0 (next h.1))))

abbrev pub items_from : ItemLeaves → (Trees → Option (List ItemTree)) → Trees → Option (List ItemTree)
items_from l = parts_from (read_item l)

abbrev pub items_with : ItemLeaves → ℕ → Trees → Option (List ItemTree)
items_with l = parts_within (read_item l)

-- implementations, one behind the other, to the end
abbrev pub read_items : ItemLeaves → Trees → Option (List ItemTree)
read_items l ts = items_with l (suc (size ts)) ts
