-- Types that are the same part for part have the same tokens.
use Rattle.std.proofs.Common.{◌≡◌, ℕ, Bool, true, false, cond, ◌&&◌, ◌==◌, nat_eq, List, [], ◌∷◌, ◌++◌, map, take, drop, codes, Option, Some, None, refl, sym, ap, ap₂, ◌∙◌, append_assoc}
use Rattle.std.proofs.lemmas.Bool.{and_parts, eqb-true}
use Rattle.std.proofs.lemmas.List.{map-append, take-map, drop-map}
use Rattle.std.proofs.lemmas.Slice.Eq.{bytes_eq-Decides}
use Rattle.std.specs.Str.{bytes_eq}
use Rattle.dm_stream.specs.declared.tokens.Span.{Span}
use Rattle.dm_stream.specs.declared.tokens.Delim.{Delim}
use Rattle.dm_stream.specs.declared.tokens.Delim.TheVariants.{Paren, Bracket, Brace}
use Rattle.dm_stream.specs.declared.tokens.Ident.{Ident}
use Rattle.dm_stream.specs.declared.tokens.Lifetime.{Lifetime}
use Rattle.dm_stream.specs.declared.tokens.Literal.{Literal}
use Rattle.dm_stream.specs.declared.tokens.LitKind.{LitKind}
use Rattle.dm_stream.specs.declared.tokens.LitKind.TheVariants as lit
use Rattle.dm_stream.specs.declared.tokens.Spacing.{Spacing}
use Rattle.dm_stream.specs.declared.tokens.Spacing.TheVariants.{Joint, Alone}
use Rattle.dm_stream.specs.declared.tokens.Token.{Token}
use Rattle.dm_stream.specs.declared.tokens.Token.TheVariants as t
use Rattle.dm_stream.specs.declared.tokens.Entry.{Entry}
use Rattle.dm_stream.specs.declared.tokens.Entry.TheVariants as entry
use Rattle.dm_stream.specs.Trees.{Trees, no_trees, token, group, join, flatten, Stream}
use Rattle.dm_stream.specs.Cursors.{same_delim}
use Rattle.dm_ast.specs.declared.plain.PlainPath.{PlainPath}
use Rattle.dm_ast.specs.declared.plain.AttrArgs.{AttrArgs}
use Rattle.dm_ast.specs.declared.plain.AttrArgs.TheVariants as args
use Rattle.dm_ast.specs.declared.plain.Attribute.{Attribute}
use Rattle.dm_ast.specs.declared.plain.ConstArg.{ConstArg}
use Rattle.dm_ast.specs.declared.plain.ConstArg.TheVariants as constant
use Rattle.dm_ast.specs.Tree.{Lifetimes, TypeTree, type_tree, TypeNode, paren, tuple, slice, array, reference, pointer, bare_fn, trait_object, impl_trait, infer, never, path, macro_type, TypeTrees, no_types, type_then, MaybeType, no_type, some_type, MaybeSelf, no_self, some_self, BoundTree, outlives, implements, BoundTrees, no_bounds, bound_then, TraitBoundTree, trait_bound, FnTree, fn_tree, InputTree, input, InputTrees, no_inputs, input_then, PathTree, path_tree, SegmentTree, segment, SegmentTrees, no_segments, segment_then, ArgumentsTree, absent, angle, parens, ArgumentTree, lifetime_arg, type_arg, const_arg, assoc_type, assoc_const, constraint, ArgumentTrees, no_arguments, argument_then, MaybeArguments, arguments_absent, some_arguments}
use Rattle.dm_ast.specs.TypeTokens as spell
use Rattle.dm_type_eq.specs.BareTokens.{Bare, bare_name, bare_lifetime, bare_literal, bare_punct, opening, closing, bare, tokens_of}
use Rattle.dm_same.specs.SameTypes.{same_flag, same_option, all_same, same_name, same_lifetime, kind_number, same_literal, same_spacing, same_token, same_entry, same_stream, same_lifetimes, same_plain, same_args, same_attribute, same_constant, same_abi, same_type, same_node, same_types, same_maybe_type, same_self, same_bound, same_bounds, same_trait_bound, same_fn, same_input, same_inputs, same_path, same_segments, same_segment, same_arguments_of, same_argument, same_arguments, same_maybe_arguments}

abbrev pub Same : Trees → Trees → Type 0
Same ts us = tokens_of ts ≡ tokens_of us

-- ---- truth values

first_of_three : (a b c : Bool) → (a && b && c) ≡ true → a ≡ true
first_of_three a b c e = (and_parts a b (and_parts (a && b) c e).0).0

second_of_three : (a b c : Bool) → (a && b && c) ≡ true → b ≡ true
second_of_three a b c e = (and_parts a b (and_parts (a && b) c e).0).1

third_of_three : (a b c : Bool) → (a && b && c) ≡ true → c ≡ true
third_of_three a b c e = (and_parts (a && b) c e).1

flag_same : (a b : Bool) → same_flag a b ≡ true → a ≡ b
flag_same true true e = refl
flag_same true false e = absurd (cc)
flag_same false true e = absurd (cc)
flag_same false false e = refl

-- ---- lists of trees

pub tokens_join : (ts us : Trees) → tokens_of (join ts us) ≡ tokens_of ts ++ tokens_of us
tokens_join no_trees us = refl
tokens_join (token k rest) us = ap (λ l. bare k ∷ l) (tokens_join rest us)
tokens_join (group d from inside upto rest) us =
    ap (λ l. opening d ∷ (tokens_of inside ++ closing d ∷ l)) (tokens_join rest us) ∙
    ap (λ l. opening d ∷ l) (sym (append_assoc (tokens_of inside) (closing d ∷ tokens_of rest) (tokens_of us)))

join_same : (a b c d : Trees) → Same a b → Same c d → Same (join a c) (join b d)
join_same a b c d e f = tokens_join a c ∙ ap₂ (λ x y. x ++ y) e f ∙ sym (tokens_join b d)

grouped_same : (d e : Delim) (a b : Trees) → d ≡ e → Same a b → Same (spell.grouped d a) (spell.grouped e b)
grouped_same d e a b f g =
    ap (λ x. opening x ∷ (tokens_of a ++ closing x ∷ [])) f ∙ ap (λ l. opening e ∷ (l ++ closing e ∷ [])) g

given_same : (a b : Bool) (ts us : Trees) → a ≡ b → Same ts us → Same (spell.given a ts) (spell.given b us)
given_same true true ts us e f = f
given_same false false ts us e f = refl
given_same true false ts us e f = absurd (cc)
given_same false true ts us e f = absurd (cc)

abbrev all_tokens : List Trees → List (List Bare)
all_tokens l = map tokens_of l

abbrev AllSame : List Trees → List Trees → Type 0
AllSame xs ys = all_tokens xs ≡ all_tokens ys

-- one item more
item_same : {x y : List Bare} {xs ys : List (List Bare)} (a b : Bool) → (a ≡ true → x ≡ y) → (b ≡ true → xs ≡ ys) → (a && b) ≡ true → x ∷ xs ≡ y ∷ ys
item_same a b f g e = let h = and_parts a b e in ap₂ (λ l ls. l ∷ ls) (f h.0) (g h.1)

list_same : {A : Type 0} (same : A → A → Bool) (trees_of : A → Trees) → ((x y : A) → same x y ≡ true → Same (trees_of x) (trees_of y)) →
    (xs ys : List A) → all_same same xs ys ≡ true → AllSame (map trees_of xs) (map trees_of ys)
list_same same trees_of f [] [] e = refl
list_same same trees_of f (x ∷ xs) (y ∷ ys) e = item_same (same x y) (all_same same xs ys) (f x y) (list_same same trees_of f xs ys) e
list_same same trees_of f [] (y ∷ ys) e = absurd (cc)
list_same same trees_of f (x ∷ xs) [] e = absurd (cc)

-- what may be missing, by its tokens on each side
option_same : {A : Type 0} (same : A → A → Bool) (f g : Option A → Trees) → Same (f None) (g None) →
    ((x y : A) → same x y ≡ true → Same (f (Some x)) (g (Some y))) → (a b : Option A) → same_option same a b ≡ true → Same (f a) (g b)
option_same same f g n h None None e = n
option_same same f g n h (Some x) (Some y) e = h x y e
option_same same f g n h None (Some y) e = absurd (cc)
option_same same f g n h (Some x) None e = absurd (cc)

abbrev spaced_tokens : List Bare → Bool → List (List Bare) → List Bare
spaced_tokens between first [] = []
spaced_tokens between first (x ∷ xs) = cond first [] between ++ (x ++ spaced_tokens between false xs)

cond_tokens : (b : Bool) (ts : Trees) → tokens_of (cond b no_trees ts) ≡ cond b [] (tokens_of ts)
cond_tokens true ts = refl
cond_tokens false ts = refl

tokens_spaced : (between : Trees) (first : Bool) (xs : List Trees) → tokens_of (spell.spaced between first xs) ≡ spaced_tokens (tokens_of between) first (all_tokens xs)
tokens_spaced between first [] = refl
tokens_spaced between first (x ∷ xs) =
    tokens_join (cond first no_trees between) (join x (spell.spaced between false xs)) ∙
    ap₂ (λ a b. a ++ b) (cond_tokens first between) (tokens_join x (spell.spaced between false xs) ∙ ap (λ l. tokens_of x ++ l) (tokens_spaced between false xs))

spaced_same : (a b : Trees) (first : Bool) (xs ys : List Trees) → Same a b → AllSame xs ys → Same (spell.spaced a first xs) (spell.spaced b first ys)
spaced_same a b first xs ys e f =
    tokens_spaced a first xs ∙ ap₂ (λ x y. spaced_tokens x first y) e f ∙ sym (tokens_spaced b first ys)

listed_same : (c : ℕ) (s r : Span) (xs ys : List Trees) (a b : Bool) → AllSame xs ys → a ≡ b → Same (spell.listed c s xs a) (spell.listed c r ys b)
listed_same c s r xs ys a b e f =
    join_same (spell.spaced (spell.punct c s) true xs) (spell.spaced (spell.punct c r) true ys) (spell.given a (spell.punct c s)) (spell.given b (spell.punct c r))
    (spaced_same (spell.punct c s) (spell.punct c r) true xs ys refl e) (given_same a b (spell.punct c s) (spell.punct c r) f refl)

angles_same : (s r : Span) (xs ys : List Trees) (a b : Bool) → AllSame xs ys → a ≡ b → Same (spell.angle_trees s xs a) (spell.angle_trees r ys b)
angles_same s r xs ys a b e f =
    ap (λ l. bare_punct 60 Alone ∷ l)
    (join_same (spell.listed 44 s xs a) (spell.listed 44 r ys b) (spell.punct 62 s) (spell.punct 62 r) (listed_same 44 s r xs ys a b e f) refl)

-- ---- tokens

name_same : (i j : Ident) → same_name i j ≡ true → Same (spell.name i) (spell.name j)
name_same i j e =
    let h = and_parts (same_flag i.raw j.raw) (bytes_eq i.name j.name) e in
    ap₂ (λ n r. bare_name n r ∷ []) ((bytes_eq-Decides i.name j.name).0 h.1) (flag_same i.raw j.raw h.0)

lifetime_same : (l k : Lifetime) → same_lifetime l k ≡ true → Same (spell.lifetime l) (spell.lifetime k)
lifetime_same l k e = ap (λ n. bare_lifetime n ∷ []) ((bytes_eq-Decides l.name k.name).0 e)

-- the kind of a number, to tell kinds apart by theirs
abbrev kind_of : ℕ → LitKind
kind_of n =
    cond (n == 0) lit.Str (cond (n == 1) lit.RawStr (cond (n == 2) lit.ByteStr (cond (n == 3) lit.RawByteStr
    (cond (n == 4) lit.CStr (cond (n == 5) lit.RawCStr (cond (n == 6) lit.Char (cond (n == 7) lit.Byte lit.Int)))))))

kind_again : (k : LitKind) → kind_of (kind_number k) ≡ k
kind_again lit.Str = refl
kind_again lit.RawStr = refl
kind_again lit.ByteStr = refl
kind_again lit.RawByteStr = refl
kind_again lit.CStr = refl
kind_again lit.RawCStr = refl
kind_again lit.Char = refl
kind_again lit.Byte = refl
kind_again lit.Int = refl

kind_same : (k l : LitKind) → nat_eq (kind_number k) (kind_number l) ≡ true → k ≡ l
kind_same k l e = sym (kind_again k) ∙ ap kind_of (eqb-true (kind_number k) (kind_number l) e) ∙ kind_again l

literal_same : (l k : Literal) → same_literal l k ≡ true → Same (spell.literal l) (spell.literal k)
literal_same l k e =
    let h = and_parts (nat_eq (kind_number l.kind) (kind_number k.kind)) (bytes_eq l.text k.text) e in
    ap₂ (λ a b. bare_literal a b ∷ []) (kind_same l.kind k.kind h.0) ((bytes_eq-Decides l.text k.text).0 h.1)

spacing_same : (a b : Spacing) → same_spacing a b ≡ true → a ≡ b
spacing_same Joint Joint e = refl
spacing_same Joint Alone e = absurd (cc)
spacing_same Alone Joint e = absurd (cc)
spacing_same Alone Alone e = refl

delim_same : (d e : Delim) → same_delim d e ≡ true → d ≡ e
delim_same Paren Paren h = refl
delim_same Bracket Bracket h = refl
delim_same Brace Brace h = refl
delim_same _ _ h = absurd (cc)

token_same : (k l : Token) → same_token k l ≡ true → bare k ∷ [] ≡ bare l ∷ []
token_same (t.Ident i) (t.Ident j) e = name_same i j e
token_same (t.Lifetime l) (t.Lifetime k) e = lifetime_same l k e
token_same (t.Literal l) (t.Literal k) e = literal_same l k e
token_same (t.Punct p) (t.Punct q) e =
    let h = and_parts (nat_eq p.ch q.ch) (same_spacing p.spacing q.spacing) e in
    ap₂ (λ a b. bare_punct a b ∷ []) (eqb-true p.ch q.ch h.0) (spacing_same p.spacing q.spacing h.1)
token_same _ _ e = absurd (cc)

abbrev pub bare_entry : Entry → Bare
bare_entry (entry.Token k) = bare k
bare_entry (entry.Open d from n) = opening d
bare_entry (entry.Close d upto) = closing d

head_same : (x y : Bare) → x ∷ [] ≡ y ∷ [] → x ≡ y
head_same x y e = cc

entry_same : (e f : Entry) → same_entry e f ≡ true → bare_entry e ≡ bare_entry f
entry_same (entry.Token k) (entry.Token l) h = head_same (bare k) (bare l) (token_same k l h)
entry_same (entry.Open d from n) (entry.Open e upto m) h = ap opening (delim_same d e h)
entry_same (entry.Close d from) (entry.Close e upto) h = ap closing (delim_same d e h)
entry_same _ _ h = absurd (cc)

pub entries_same : (es fs : List Entry) → all_same same_entry es fs ≡ true → map bare_entry es ≡ map bare_entry fs
entries_same [] [] h = refl
entries_same (e ∷ es) (f ∷ fs) h =
    let g = and_parts (same_entry e f) (all_same same_entry es fs) h in
    ap₂ (λ x y. x ∷ y) (entry_same e f g.0) (entries_same es fs g.1)
entries_same [] (f ∷ fs) h = absurd (cc)
entries_same (e ∷ es) [] h = absurd (cc)

pub tokens_flat : (ts : Trees) → map bare_entry (flatten ts) ≡ tokens_of ts
tokens_flat no_trees = refl
tokens_flat (token k rest) = ap (λ l. bare k ∷ l) (tokens_flat rest)
tokens_flat (group d from inside upto rest) =
    ap (λ l. opening d ∷ l)
    (map-append bare_entry (flatten inside) (entry.Close d upto ∷ flatten rest) ∙
    ap₂ (λ x y. x ++ closing d ∷ y) (tokens_flat inside) (tokens_flat rest))

stream_same : (s u : Stream) → same_stream s u ≡ true → Same s.trees u.trees
stream_same s u e = sym (tokens_flat s.trees) ∙ entries_same (flatten s.trees) (flatten u.trees) e ∙ tokens_flat u.trees

-- ---- the parts that hold no types

names_same : (xs ys : List Ident) → all_same same_name xs ys ≡ true → AllSame (map spell.name xs) (map spell.name ys)
names_same = list_same same_name spell.name name_same

lifetimes_same : (xs ys : List Lifetime) → all_same same_lifetime xs ys ≡ true → AllSame (map spell.lifetime xs) (map spell.lifetime ys)
lifetimes_same = list_same same_lifetime spell.lifetime lifetime_same

for_same : (s r : Span) (a b : Lifetimes) → same_lifetimes a b ≡ true → Same (spell.for_trees s a) (spell.for_trees r b)
for_same s r None None e = refl
for_same s r (Some ls) (Some ks) e =
    let h = and_parts (all_same same_lifetime ls.items ks.items) (same_flag ls.trailing ks.trailing) e in
    ap (λ l. bare_name (codes "for") false ∷ l)
    (angles_same s r (map spell.lifetime ls.items) (map spell.lifetime ks.items) ls.trailing ks.trailing (lifetimes_same ls.items ks.items h.0)
    (flag_same ls.trailing ks.trailing h.1))
for_same s r None (Some ks) e = absurd (cc)
for_same s r (Some ls) None e = absurd (cc)

plain_same : (s r : Span) (p q : PlainPath) → same_plain p q ≡ true → Same (spell.plain_trees s p) (spell.plain_trees r q)
plain_same s r p q e =
    let h = and_parts (same_flag p.leading_colon q.leading_colon) (all_same same_name p.segments q.segments) e in
    join_same (spell.given p.leading_colon (spell.colons s)) (spell.given q.leading_colon (spell.colons r))
    (spell.spaced (spell.colons s) true (map spell.name p.segments)) (spell.spaced (spell.colons r) true (map spell.name q.segments))
    (given_same p.leading_colon q.leading_colon (spell.colons s) (spell.colons r) (flag_same p.leading_colon q.leading_colon h.0) refl)
    (spaced_same (spell.colons s) (spell.colons r) true (map spell.name p.segments) (map spell.name q.segments) refl (names_same p.segments q.segments h.1))

args_same : (s r : Span) (a b : AttrArgs) → same_args a b ≡ true → Same (spell.attr_args_trees s a) (spell.attr_args_trees r b)
args_same s r args.Absent args.Absent e = refl
args_same s r (args.List d i) (args.List c j) e =
    let h = and_parts (same_delim d c) (same_stream i j) e in
    grouped_same d c i.trees j.trees (delim_same d c h.0) (stream_same i j h.1)
args_same s r (args.Value o) (args.Value p) e = ap (λ l. bare_punct 61 Alone ∷ l) (stream_same o.tokens p.tokens e)
args_same s r _ _ e = absurd (cc)

attribute_same : (a b : Attribute) → same_attribute a b ≡ true → Same (spell.attribute_trees a) (spell.attribute_trees b)
attribute_same a b e =
    let h = and_parts (same_plain a.path b.path) (same_args a.args b.args) e in
    ap (λ l. bare_punct 35 Alone ∷ l)
    (grouped_same Bracket Bracket (join (spell.plain_trees a.span a.path) (spell.attr_args_trees a.span a.args))
    (join (spell.plain_trees b.span b.path) (spell.attr_args_trees b.span b.args)) refl
    (join_same (spell.plain_trees a.span a.path) (spell.plain_trees b.span b.path) (spell.attr_args_trees a.span a.args) (spell.attr_args_trees b.span b.args)
    (plain_same a.span b.span a.path b.path h.0) (args_same a.span b.span a.args b.args h.1)))

attributes_same : (xs ys : List Attribute) → all_same same_attribute xs ys ≡ true → Same (spell.attributes_trees xs) (spell.attributes_trees ys)
attributes_same [] [] e = refl
attributes_same (x ∷ xs) (y ∷ ys) e =
    let h = and_parts (same_attribute x y) (all_same same_attribute xs ys) e in
    join_same (spell.attribute_trees x) (spell.attribute_trees y) (spell.attributes_trees xs) (spell.attributes_trees ys) (attribute_same x y h.0) (attributes_same xs ys h.1)
attributes_same [] (y ∷ ys) e = absurd (cc)
attributes_same (x ∷ xs) [] e = absurd (cc)

constant_same : (s r : Span) (a b : ConstArg) → same_constant a b ≡ true → Same (spell.const_trees s a) (spell.const_trees r b)
constant_same s r (constant.Literal m l) (constant.Literal n k) e =
    let h = and_parts (same_flag m n) (same_literal l k) e in
    join_same (spell.given m (spell.punct 45 s)) (spell.given n (spell.punct 45 r)) (spell.literal l) (spell.literal k)
    (given_same m n (spell.punct 45 s) (spell.punct 45 r) (flag_same m n h.0) refl) (literal_same l k h.1)
constant_same s r (constant.Bool i) (constant.Bool j) e = name_same i j e
constant_same s r (constant.Block i) (constant.Block j) e = grouped_same Brace Brace i.trees j.trees refl (stream_same i j e)
constant_same s r (constant.Name i) (constant.Name j) e = name_same i j e
constant_same s r _ _ e = absurd (cc)

maybe_lifetime_same : (a b : Option Lifetime) → same_option same_lifetime a b ≡ true → Same (spell.maybe_lifetime a) (spell.maybe_lifetime b)
maybe_lifetime_same = option_same same_lifetime spell.maybe_lifetime spell.maybe_lifetime refl lifetime_same

abi_same : (s r : Span) (a b : Option (Option Literal)) → same_abi a b ≡ true → Same (spell.abi_trees s a) (spell.abi_trees r b)
abi_same s r =
    option_same (same_option same_literal) (spell.abi_trees s) (spell.abi_trees r) refl
    (λ l k e.
    ap (λ x. bare_name (codes "extern") false ∷ x) (option_same same_literal spell.maybe_literal spell.maybe_literal refl literal_same l k e))

input_name_same : (s r : Span) (a b : Option Ident) → same_option same_name a b ≡ true → Same (spell.input_name_trees s a) (spell.input_name_trees r b)
input_name_same s r =
    option_same same_name (spell.input_name_trees s) (spell.input_name_trees r) refl
    (λ i j e. join_same (spell.name i) (spell.name j) (spell.punct 58 s) (spell.punct 58 r) (name_same i j e) refl)

-- ---- what is known of parts that are the same

-- the type of a qualified path
abbrev SelfSame : MaybeSelf → MaybeSelf → Type 0
SelfSame no_self no_self = Unit {0}
SelfSame (some_self t n) (some_self u k) = Same (spell.type_trees t) (spell.type_trees u) × (n ≡ k)
SelfSame no_self (some_self u k) = ⊥
SelfSame (some_self t n) no_self = ⊥

abbrev PathSame : PathTree → PathTree → Type 0
PathSame (path_tree a ss) (path_tree b us) = (a ≡ b) × ((s r : Span) → AllSame (spell.each_segment s ss) (spell.each_segment r us))

path_by : (s r : Span) (p o : PathTree) → PathSame p o → Same (spell.path_trees s p) (spell.path_trees r o)
path_by s r (path_tree a ss) (path_tree b us) h =
    join_same (spell.given a (spell.colons s)) (spell.given b (spell.colons r)) (spell.spaced (spell.colons s) true (spell.each_segment s ss))
    (spell.spaced (spell.colons r) true (spell.each_segment r us)) (given_same a b (spell.colons s) (spell.colons r) h.0 refl)
    (spaced_same (spell.colons s) (spell.colons r) true (spell.each_segment s ss) (spell.each_segment r us) refl (h.1 s r))

take_same : (n : ℕ) (xs ys : List Trees) → AllSame xs ys → AllSame (take n xs) (take n ys)
take_same n xs ys e = sym (take-map tokens_of n xs) ∙ ap (take n) e ∙ take-map tokens_of n ys

drop_same : (n : ℕ) (xs ys : List Trees) → AllSame xs ys → AllSame (drop n xs) (drop n ys)
drop_same n xs ys e = sym (drop-map tokens_of n xs) ∙ ap (drop n) e ∙ drop-map tokens_of n ys

as_same : (s r : Span) (n : ℕ) (a b : Bool) (xs ys : List Trees) → a ≡ b → AllSame xs ys → Same (spell.as_trees s n a xs) (spell.as_trees r n b ys)
as_same s r n a b xs ys e f = by (n == 0)
  where
    by : (z : Bool) →
        Same (cond z no_trees (join (spell.word (codes "as") s) (join (spell.given a (spell.colons s)) (spell.spaced (spell.colons s) true (take n xs)))))
        (cond z no_trees (join (spell.word (codes "as") r) (join (spell.given b (spell.colons r)) (spell.spaced (spell.colons r) true (take n ys)))))
    by true = refl
    by false =
        ap (λ l. bare_name (codes "as") false ∷ l)
        (join_same (spell.given a (spell.colons s)) (spell.given b (spell.colons r)) (spell.spaced (spell.colons s) true (take n xs))
        (spell.spaced (spell.colons r) true (take n ys)) (given_same a b (spell.colons s) (spell.colons r) e refl)
        (spaced_same (spell.colons s) (spell.colons r) true (take n xs) (take n ys) refl (take_same n xs ys f)))

behind_self_same : (s r : Span) (n : ℕ) (a b : Bool) (xs ys : List Trees) → a ≡ b → AllSame xs ys → Same (spell.behind_self_trees s n a xs) (spell.behind_self_trees r n b ys)
behind_self_same s r n a b xs ys e f =
    join_same (spell.as_trees s n a xs) (spell.as_trees r n b ys) (join (spell.punct 62 s) (spell.spaced (spell.colons s) false (drop n xs)))
    (join (spell.punct 62 r) (spell.spaced (spell.colons r) false (drop n ys))) (as_same s r n a b xs ys e f)
    (ap (λ l. bare_punct 62 Alone ∷ l) (spaced_same (spell.colons s) (spell.colons r) false (drop n xs) (drop n ys) refl (drop_same n xs ys f)))

qualified_by : (s r : Span) (x y : Trees) (n k : ℕ) (a b : Bool) (xs ys : List Trees) → Same x y → n ≡ k → a ≡ b → AllSame xs ys →
    Same (spell.qualified_trees s x n a xs) (spell.qualified_trees r y k b ys)
qualified_by s r x y n k a b xs ys e f g h =
    ap (λ l. bare_punct 60 Alone ∷ l)
    (join_same x y (spell.behind_self_trees s n a xs) (spell.behind_self_trees r k b ys) e
    (behind_self_same s r n a b xs ys g h ∙ ap (λ m. tokens_of (spell.behind_self_trees r m b ys)) f))

path_node_by : (s r : Span) (q w : MaybeSelf) (p o : PathTree) → SelfSame q w → PathSame p o → Same (spell.node_trees s (path q p)) (spell.node_trees r (path w o))
path_node_by s r no_self no_self p o e f = path_by s r p o f
path_node_by s r (some_self t n) (some_self u k) (path_tree a ss) (path_tree b us) e f =
    qualified_by s r (spell.type_trees t) (spell.type_trees u) n k a b (spell.each_segment s ss) (spell.each_segment r us) e.0 e.1 f.0 (f.1 s r)
path_node_by s r no_self (some_self u k) p o e f = absurd e
path_node_by s r (some_self t n) no_self p o e f = absurd e

in_parens_same : (a b : Bool) (x y : Trees) → a ≡ b → Same x y → Same (cond a (spell.grouped Paren x) x) (cond b (spell.grouped Paren y) y)
in_parens_same true true x y e f = grouped_same Paren Paren x y refl f
in_parens_same false false x y e f = f
in_parens_same true false x y e f = absurd (cc)
in_parens_same false true x y e f = absurd (cc)

pointer_word_same : (a b : Bool) (s r : Span) → a ≡ b →
    Same (cond a (spell.word (codes "mut") s) (spell.word (codes "const") s)) (cond b (spell.word (codes "mut") r) (spell.word (codes "const") r))
pointer_word_same true true s r e = refl
pointer_word_same false false s r e = refl
pointer_word_same true false s r e = absurd (cc)
pointer_word_same false true s r e = absurd (cc)

-- the tokens of a function type behind its parts
abbrev behind_abi : Span → InputTrees → Bool → MaybeType → Trees
behind_abi s is a out = join (spell.word (codes "fn") s) (join (spell.grouped Paren (spell.listed 44 s (spell.each_input s is) a)) (spell.output_trees s out))

abbrev behind_unsafe : Span → Option (Option Literal) → InputTrees → Bool → MaybeType → Trees
behind_unsafe s abi is a out = join (spell.abi_trees s abi) (behind_abi s is a out)

abbrev behind_for : Span → Bool → Option (Option Literal) → InputTrees → Bool → MaybeType → Trees
behind_for s m abi is a out = join (spell.given m (spell.word (codes "unsafe") s)) (behind_unsafe s abi is a out)

-- ---- types

mutual
  pub type_same : (a b : TypeTree) → same_type a b ≡ true → Same (spell.type_trees a) (spell.type_trees b)
  type_same (type_tree n s) (type_tree k r) e = node_same s r n k e

  node_same : (s r : Span) (n k : TypeNode) → same_node n k ≡ true → Same (spell.node_trees s n) (spell.node_trees r k)
  node_same s r (paren x) (paren y) e = grouped_same Paren Paren (spell.type_trees x) (spell.type_trees y) refl (type_same x y e)
  node_same s r (tuple xs a) (tuple ys b) e =
      let h = and_parts (same_types xs ys) (same_flag a b) e in
      grouped_same Paren Paren (spell.listed 44 s (spell.each_type xs) a) (spell.listed 44 r (spell.each_type ys) b) refl
      (listed_same 44 s r (spell.each_type xs) (spell.each_type ys) a b (types_same xs ys h.0) (flag_same a b h.1))
  node_same s r (slice x) (slice y) e = grouped_same Bracket Bracket (spell.type_trees x) (spell.type_trees y) refl (type_same x y e)
  node_same s r (array x o) (array y p) e =
      let h = and_parts (same_type x y) (same_stream o.tokens p.tokens) e in
      grouped_same Bracket Bracket (join (spell.type_trees x) (join (spell.punct 59 s) o.tokens.trees)) (join (spell.type_trees y) (join (spell.punct 59 r) p.tokens.trees)) refl
      (join_same (spell.type_trees x) (spell.type_trees y) (join (spell.punct 59 s) o.tokens.trees) (join (spell.punct 59 r) p.tokens.trees) (type_same x y h.0)
      (ap (λ l. bare_punct 59 Alone ∷ l) (stream_same o.tokens p.tokens h.1)))
  node_same s r (reference l m x) (reference k n y) e =
      let p = same_option same_lifetime l k in
      let q = same_flag m n in
      let z = same_type x y in
      ap (λ v. bare_punct 38 Alone ∷ v)
      (join_same (spell.maybe_lifetime l) (spell.maybe_lifetime k) (join (spell.given m (spell.word (codes "mut") s)) (spell.type_trees x))
      (join (spell.given n (spell.word (codes "mut") r)) (spell.type_trees y)) (maybe_lifetime_same l k (first_of_three p q z e))
      (join_same (spell.given m (spell.word (codes "mut") s)) (spell.given n (spell.word (codes "mut") r)) (spell.type_trees x) (spell.type_trees y)
      (given_same m n (spell.word (codes "mut") s) (spell.word (codes "mut") r) (flag_same m n (second_of_three p q z e)) refl) (type_same x y (third_of_three p q z e))))
  node_same s r (pointer m x) (pointer n y) e =
      let h = and_parts (same_flag m n) (same_type x y) e in
      ap (λ v. bare_punct 42 Alone ∷ v)
      (join_same (cond m (spell.word (codes "mut") s) (spell.word (codes "const") s)) (cond n (spell.word (codes "mut") r) (spell.word (codes "const") r))
      (spell.type_trees x) (spell.type_trees y) (pointer_word_same m n s r (flag_same m n h.0)) (type_same x y h.1))
  node_same s r (bare_fn f) (bare_fn g) e = fn_same s r f g e
  node_same s r (trait_object bs a) (trait_object cs b) e =
      let h = and_parts (same_bounds bs cs) (same_flag a b) e in
      ap (λ v. bare_name (codes "dyn") false ∷ v)
      (listed_same 43 s r (spell.each_bound s bs) (spell.each_bound r cs) a b (bounds_same s r bs cs h.0) (flag_same a b h.1))
  node_same s r (impl_trait bs a) (impl_trait cs b) e =
      let h = and_parts (same_bounds bs cs) (same_flag a b) e in
      ap (λ v. bare_name (codes "impl") false ∷ v)
      (listed_same 43 s r (spell.each_bound s bs) (spell.each_bound r cs) a b (bounds_same s r bs cs h.0) (flag_same a b h.1))
  node_same s r infer infer e = refl
  node_same s r never never e = refl
  node_same s r (path q p) (path w o) e =
      let h = and_parts (same_self q w) (same_path p o) e in
      path_node_by s r q w p o (self_same q w h.0) (path_same p o h.1)
  node_same s r (macro_type p d i) (macro_type o c j) e =
      let x = same_plain p o in
      let y = same_delim d c in
      let z = same_stream i j in
      join_same (spell.plain_trees s p) (spell.plain_trees r o) (join (spell.punct 33 s) (spell.grouped d i.trees)) (join (spell.punct 33 r) (spell.grouped c j.trees))
      (plain_same s r p o (first_of_three x y z e))
      (ap (λ v. bare_punct 33 Alone ∷ v) (grouped_same d c i.trees j.trees (delim_same d c (second_of_three x y z e)) (stream_same i j (third_of_three x y z e))))
  node_same s r _ _ e = absurd (cc)

  types_same : (xs ys : TypeTrees) → same_types xs ys ≡ true → AllSame (spell.each_type xs) (spell.each_type ys)
  types_same no_types no_types e = refl
  types_same (type_then x xs) (type_then y ys) e = item_same (same_type x y) (same_types xs ys) (type_same x y) (types_same xs ys) e
  types_same _ _ e = absurd (cc)

  output_same : (s r : Span) (a b : MaybeType) → same_maybe_type a b ≡ true → Same (spell.output_trees s a) (spell.output_trees r b)
  output_same s r no_type no_type e = refl
  output_same s r (some_type x) (some_type y) e = ap (λ v. bare_punct 45 Joint ∷ (bare_punct 62 Alone ∷ v)) (type_same x y e)
  output_same s r _ _ e = absurd (cc)

  self_same : (q w : MaybeSelf) → same_self q w ≡ true → SelfSame q w
  self_same no_self no_self e = tt
  self_same (some_self x n) (some_self y k) e =
      let h = and_parts (same_type x y) (nat_eq n k) e in
      (type_same x y h.0, eqb-true n k h.1)
  self_same _ _ e = absurd (cc)

  bound_same : (s r : Span) (b c : BoundTree) → same_bound b c ≡ true → Same (spell.bound_trees s b) (spell.bound_trees r c)
  bound_same s r (outlives l) (outlives k) e = lifetime_same l k e
  bound_same s r (implements b) (implements c) e = trait_bound_same s r b c e
  bound_same s r _ _ e = absurd (cc)

  bounds_same : (s r : Span) (bs cs : BoundTrees) → same_bounds bs cs ≡ true → AllSame (spell.each_bound s bs) (spell.each_bound r cs)
  bounds_same s r no_bounds no_bounds e = refl
  bounds_same s r (bound_then b bs) (bound_then c cs) e = item_same (same_bound b c) (same_bounds bs cs) (bound_same s r b c) (bounds_same s r bs cs) e
  bounds_same s r _ _ e = absurd (cc)

  trait_bound_same : (s r : Span) (b c : TraitBoundTree) → same_trait_bound b c ≡ true → Same (spell.trait_bound_trees s b) (spell.trait_bound_trees r c)
  trait_bound_same s r (trait_bound a m ls p) (trait_bound b n ks o) e =
      let h = and_parts (same_flag a b && same_flag m n && same_lifetimes ls ks) (same_path p o) e in
      let v = same_flag a b in
      let y = same_flag m n in
      let z = same_lifetimes ls ks in
      in_parens_same a b (join (spell.given m (spell.punct 63 s)) (join (spell.for_trees s ls) (spell.path_trees s p)))
      (join (spell.given n (spell.punct 63 r)) (join (spell.for_trees r ks) (spell.path_trees r o))) (flag_same a b (first_of_three v y z h.0))
      (join_same (spell.given m (spell.punct 63 s)) (spell.given n (spell.punct 63 r)) (join (spell.for_trees s ls) (spell.path_trees s p))
      (join (spell.for_trees r ks) (spell.path_trees r o)) (given_same m n (spell.punct 63 s) (spell.punct 63 r) (flag_same m n (second_of_three v y z h.0)) refl)
      (join_same (spell.for_trees s ls) (spell.for_trees r ks) (spell.path_trees s p) (spell.path_trees r o) (for_same s r ls ks (third_of_three v y z h.0))
      (path_by s r p o (path_same p o h.1))))

  fn_same : (s r : Span) (f g : FnTree) → same_fn f g ≡ true → Same (spell.fn_trees s f) (spell.fn_trees r g)
  fn_same s r (fn_tree ls m abi is a out) (fn_tree ks n called js b into) e =
      let v = same_lifetimes ls ks && same_flag m n && same_abi abi called in
      let h : (same_lifetimes ls ks && same_flag m n && same_abi abi called && same_inputs is js ≡ true) × (same_flag a b ≡ true) × (same_maybe_type out into ≡ true) =
      let k = and_parts (v && same_inputs is js && same_flag a b) (same_maybe_type out into) e in
      let l = and_parts (v && same_inputs is js) (same_flag a b) k.0 in
      (l.0, l.1, k.1) in
      let i = and_parts v (same_inputs is js) h.0 in
      let x = same_lifetimes ls ks in
      let y = same_flag m n in
      let z = same_abi abi called in
      join_same (spell.for_trees s ls) (spell.for_trees r ks) (behind_for s m abi is a out) (behind_for r n called js b into) (for_same s r ls ks (first_of_three x y z i.0))
      (join_same (spell.given m (spell.word (codes "unsafe") s)) (spell.given n (spell.word (codes "unsafe") r)) (behind_unsafe s abi is a out) (behind_unsafe r called js b into)
      (given_same m n (spell.word (codes "unsafe") s) (spell.word (codes "unsafe") r) (flag_same m n (second_of_three x y z i.0)) refl)
      (join_same (spell.abi_trees s abi) (spell.abi_trees r called) (behind_abi s is a out) (behind_abi r js b into) (abi_same s r abi called (third_of_three x y z i.0))
      (ap (λ w. bare_name (codes "fn") false ∷ w)
      (join_same (spell.grouped Paren (spell.listed 44 s (spell.each_input s is) a)) (spell.grouped Paren (spell.listed 44 r (spell.each_input r js) b)) (spell.output_trees s out)
      (spell.output_trees r into)
      (grouped_same Paren Paren (spell.listed 44 s (spell.each_input s is) a) (spell.listed 44 r (spell.each_input r js) b) refl
      (listed_same 44 s r (spell.each_input s is) (spell.each_input r js) a b (inputs_same s r is js i.1) (flag_same a b h.1)))
      (output_same s r out into h.2)))))

  inputs_same : (s r : Span) (is js : InputTrees) → same_inputs is js ≡ true → AllSame (spell.each_input s is) (spell.each_input r js)
  inputs_same s r no_inputs no_inputs e = refl
  inputs_same s r (input_then i is) (input_then j js) e = item_same (same_input i j) (same_inputs is js) (input_same s r i j) (inputs_same s r is js) e
  inputs_same s r _ _ e = absurd (cc)

  input_same : (s r : Span) (i j : InputTree) → same_input i j ≡ true → Same (spell.input_trees s i) (spell.input_trees r j)
  input_same s r (input xs i x) (input ys j y) e =
      let p = all_same same_attribute xs ys in
      let q = same_option same_name i j in
      let z = same_type x y in
      join_same (spell.attributes_trees xs) (spell.attributes_trees ys) (join (spell.input_name_trees s i) (spell.type_trees x)) (join (spell.input_name_trees r j) (spell.type_trees y))
      (attributes_same xs ys (first_of_three p q z e))
      (join_same (spell.input_name_trees s i) (spell.input_name_trees r j) (spell.type_trees x) (spell.type_trees y) (input_name_same s r i j (second_of_three p q z e))
      (type_same x y (third_of_three p q z e)))

  path_same : (p o : PathTree) → same_path p o ≡ true → PathSame p o
  path_same (path_tree a ss) (path_tree b us) e =
      let h = and_parts (same_flag a b) (same_segments ss us) e in
      (flag_same a b h.0, λ s r. segments_same s r ss us h.1)

  segments_same : (s r : Span) (ss us : SegmentTrees) → same_segments ss us ≡ true → AllSame (spell.each_segment s ss) (spell.each_segment r us)
  segments_same s r no_segments no_segments e = refl
  segments_same s r (segment_then x ss) (segment_then y us) e = item_same (same_segment x y) (same_segments ss us) (segment_same s r x y) (segments_same s r ss us) e
  segments_same s r _ _ e = absurd (cc)

  segment_same : (s r : Span) (x y : SegmentTree) → same_segment x y ≡ true → Same (spell.segment_trees s x) (spell.segment_trees r y)
  segment_same s r (segment i gs) (segment j hs) e =
      let h = and_parts (same_name i j) (same_arguments_of gs hs) e in
      join_same (spell.name i) (spell.name j) (spell.arguments_trees s gs) (spell.arguments_trees r hs) (name_same i j h.0) (arguments_of_same s r gs hs h.1)

  arguments_of_same : (s r : Span) (a b : ArgumentsTree) → same_arguments_of a b ≡ true → Same (spell.arguments_trees s a) (spell.arguments_trees r b)
  arguments_of_same s r absent absent e = refl
  arguments_of_same s r (angle c gs a) (angle d hs b) e =
      let x = same_flag c d in
      let y = same_arguments gs hs in
      let z = same_flag a b in
      join_same (spell.given c (spell.colons s)) (spell.given d (spell.colons r)) (spell.angle_trees s (spell.each_argument s gs) a) (spell.angle_trees r (spell.each_argument r hs) b)
      (given_same c d (spell.colons s) (spell.colons r) (flag_same c d (first_of_three x y z e)) refl)
      (angles_same s r (spell.each_argument s gs) (spell.each_argument r hs) a b (arguments_same s r gs hs (second_of_three x y z e)) (flag_same a b (third_of_three x y z e)))
  arguments_of_same s r (parens xs a out) (parens ys b into) e =
      let x = same_types xs ys in
      let y = same_flag a b in
      let z = same_maybe_type out into in
      join_same (spell.grouped Paren (spell.listed 44 s (spell.each_type xs) a)) (spell.grouped Paren (spell.listed 44 r (spell.each_type ys) b)) (spell.output_trees s out)
      (spell.output_trees r into)
      (grouped_same Paren Paren (spell.listed 44 s (spell.each_type xs) a) (spell.listed 44 r (spell.each_type ys) b) refl
      (listed_same 44 s r (spell.each_type xs) (spell.each_type ys) a b (types_same xs ys (first_of_three x y z e)) (flag_same a b (second_of_three x y z e))))
      (output_same s r out into (third_of_three x y z e))
  arguments_of_same s r _ _ e = absurd (cc)

  maybe_angles_same : (s r : Span) (a b : MaybeArguments) → same_maybe_arguments a b ≡ true → Same (spell.maybe_angle_trees s a) (spell.maybe_angle_trees r b)
  maybe_angles_same s r arguments_absent arguments_absent e = refl
  maybe_angles_same s r (some_arguments gs a) (some_arguments hs b) e =
      let h = and_parts (same_arguments gs hs) (same_flag a b) e in
      angles_same s r (spell.each_argument s gs) (spell.each_argument r hs) a b (arguments_same s r gs hs h.0) (flag_same a b h.1)
  maybe_angles_same s r _ _ e = absurd (cc)

  argument_same : (s r : Span) (g h : ArgumentTree) → same_argument g h ≡ true → Same (spell.argument_trees s g) (spell.argument_trees r h)
  argument_same s r (lifetime_arg l) (lifetime_arg k) e = lifetime_same l k e
  argument_same s r (type_arg x) (type_arg y) e = type_same x y e
  argument_same s r (const_arg c) (const_arg d) e = constant_same s r c d e
  argument_same s r (assoc_type i gs x) (assoc_type j hs y) e =
      let p = same_name i j in
      let q = same_maybe_arguments gs hs in
      let z = same_type x y in
      join_same (spell.name i) (spell.name j) (join (spell.maybe_angle_trees s gs) (join (spell.punct 61 s) (spell.type_trees x)))
      (join (spell.maybe_angle_trees r hs) (join (spell.punct 61 r) (spell.type_trees y))) (name_same i j (first_of_three p q z e))
      (join_same (spell.maybe_angle_trees s gs) (spell.maybe_angle_trees r hs) (join (spell.punct 61 s) (spell.type_trees x)) (join (spell.punct 61 r) (spell.type_trees y))
      (maybe_angles_same s r gs hs (second_of_three p q z e)) (ap (λ v. bare_punct 61 Alone ∷ v) (type_same x y (third_of_three p q z e))))
  argument_same s r (assoc_const i gs c) (assoc_const j hs d) e =
      let p = same_name i j in
      let q = same_maybe_arguments gs hs in
      let z = same_constant c d in
      join_same (spell.name i) (spell.name j) (join (spell.maybe_angle_trees s gs) (join (spell.punct 61 s) (spell.const_trees s c)))
      (join (spell.maybe_angle_trees r hs) (join (spell.punct 61 r) (spell.const_trees r d))) (name_same i j (first_of_three p q z e))
      (join_same (spell.maybe_angle_trees s gs) (spell.maybe_angle_trees r hs) (join (spell.punct 61 s) (spell.const_trees s c)) (join (spell.punct 61 r) (spell.const_trees r d))
      (maybe_angles_same s r gs hs (second_of_three p q z e)) (ap (λ v. bare_punct 61 Alone ∷ v) (constant_same s r c d (third_of_three p q z e))))
  argument_same s r (constraint i gs bs a) (constraint j hs cs b) e =
      let p = same_name i j in
      let q = same_maybe_arguments gs hs in
      let z = same_bounds bs cs && same_flag a b in
      let k = and_parts (same_bounds bs cs) (same_flag a b) (third_of_three p q z e) in
      join_same (spell.name i) (spell.name j) (join (spell.maybe_angle_trees s gs) (join (spell.punct 58 s) (spell.listed 43 s (spell.each_bound s bs) a)))
      (join (spell.maybe_angle_trees r hs) (join (spell.punct 58 r) (spell.listed 43 r (spell.each_bound r cs) b))) (name_same i j (first_of_three p q z e))
      (join_same (spell.maybe_angle_trees s gs) (spell.maybe_angle_trees r hs) (join (spell.punct 58 s) (spell.listed 43 s (spell.each_bound s bs) a))
      (join (spell.punct 58 r) (spell.listed 43 r (spell.each_bound r cs) b)) (maybe_angles_same s r gs hs (second_of_three p q z e))
      (ap (λ v. bare_punct 58 Alone ∷ v)
      (listed_same 43 s r (spell.each_bound s bs) (spell.each_bound r cs) a b (bounds_same s r bs cs k.0) (flag_same a b k.1))))
  argument_same s r _ _ e = absurd (cc)

  arguments_same : (s r : Span) (gs hs : ArgumentTrees) → same_arguments gs hs ≡ true → AllSame (spell.each_argument s gs) (spell.each_argument r hs)
  arguments_same s r no_arguments no_arguments e = refl
  arguments_same s r (argument_then x gs) (argument_then y hs) e = item_same (same_argument x y) (same_arguments gs hs) (argument_same s r x y) (arguments_same s r gs hs) e
  arguments_same s r _ _ e = absurd (cc)
