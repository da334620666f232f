-- What a type doesn't begin with: an end, `>`, or a constant.
use Rattle.std.proofs.Common.{◌≡◌, ℕ, Bool, true, false, not, ◌&&◌, ◌||◌, nat_eq, List, [], ◌∷◌, codes, refl, sym, ap, ◌∙◌}
use Rattle.std.proofs.lemmas.Bool.{eqb-true}
use Rattle.dm_stream.specs.declared.tokens.Ident.{Ident}
use Rattle.dm_stream.specs.declared.tokens.Delim.TheVariants.{Paren, Bracket, Brace}
use Rattle.dm_stream.specs.declared.tokens.Token.TheVariants as t
use Rattle.dm_stream.specs.Trees.{Trees, no_trees, token, group}
use Rattle.dm_read_paths.specs.declared.kind.NodeKind.TheVariants as kind
use Rattle.dm_ast.specs.Keywords.{is_keyword}
use Rattle.dm_ast.specs.Spelling.{Where, Marks, ◌then◌, at_end, sees, sees_literal, sees_group, sees_colons, is_word, ident, colons, flag, chain}
use Rattle.dm_ast.specs.TypeGrammar.{sees_macro, is_macro, is_path_word, is_truth, node, path_spelled, segments, type_spelled}
use Rattle.dm_ast.specs.Tree.{TypeTree, type_tree, TypeNode, paren, tuple, slice, array, reference, pointer, bare_fn, trait_object, impl_trait, infer, never, path, macro_type, no_self, some_self, PathTree, path_tree, segment, SegmentTrees, no_segments, segment_then}
use Rattle.dm_ast.specs.PlainReaders.{sees_truth}
use Rattle.dm_read_paths.specs.TypeReaders.{punct_kind, word_kind, front_kind, sees_constant}
use Rattle.dm_read.proofs.Tokens.{word_is}
use Rattle.dm_read_paths.proofs.NodeKinds.{kind_of, node_first, not_word}

-- what no type but a macro call begins with
abbrev pub constant_front : Trees → Bool
constant_front ts = sees 45 ts || (sees_literal ts || (sees_group Brace ts || sees_truth ts))

abbrev pub odd : Trees → Bool
odd ts = at_end ts || (sees 62 ts || constant_front ts)

-- by the character of a punct
odd_punct : (c : ℕ) → (nat_eq c 62 || (nat_eq c 45 || false)) ≡ true → punct_kind c ≡ kind.Path
odd_punct c e = by (nat_eq c 62) (nat_eq c 45) refl refl e
  where
    by : (a b : Bool) → nat_eq c 62 ≡ a → nat_eq c 45 ≡ b → (a || (b || false)) ≡ true → punct_kind c ≡ kind.Path
    by true b f g h = ap punct_kind (eqb-true c 62 f)
    by false true f g h = ap punct_kind (eqb-true c 45 g)
    by false false f g h = absurd (cc)

odd_word : (i : Ident) (a : Bool) → is_word (codes "true") i ≡ a → (a || is_word (codes "false") i) ≡ true → word_kind i ≡ kind.Path
odd_word i true e f = ap word_kind (word_is i (codes "true") e)
odd_word i false e f = ap word_kind (word_is i (codes "false") f)

odd_kind : (ts : Trees) → odd ts ≡ true → front_kind ts ≡ kind.Path
odd_kind no_trees e = refl
odd_kind (token (t.Punct p) rest) e = odd_punct p.ch e
odd_kind (token (t.Ident i) rest) e = odd_word i (is_word (codes "true") i) refl e
odd_kind (token (t.Literal l) rest) e = refl
odd_kind (token (t.Lifetime l) rest) e = absurd (cc)
odd_kind (group Paren from inside upto rest) e = absurd (cc)
odd_kind (group Bracket from inside upto rest) e = absurd (cc)
odd_kind (group Brace from inside upto rest) e = refl

path_no_truth : (i : Ident) → is_path_word i ≡ true → is_truth i ≡ false
unfolding is_keyword
path_no_truth i p =
    let a = not_word i p (codes "true") (λ range. refl) in
    let b = not_word i p (codes "false") (λ range. refl) in
    rw (a, b) refl

segments_odd : (w : Where) (ss : SegmentTrees) (ts o : Trees) (m : Marks) → segments ss w ts o m → odd ts ≡ false
segments_odd w no_segments ts o m s = absurd s.fact
segments_odd w (segment_then (segment i as') ss) ts o m s = ap odd s.first.first.part.spelled ∙ path_no_truth i s.first.first.fact

path_odd : (w : Where) (p : PathTree) (ts o : Trees) (m : Marks) → path_spelled p w ts o m → odd ts ≡ false
path_odd w (path_tree true ss) ts o m s = ap odd s.first.spelled ∙ ap (λ c. nat_eq c 62 || (nat_eq c 45 || false)) s.first.is_first
path_odd w (path_tree false ss) ts o m s = ap odd s.first.part.spelled ∙ segments_odd w ss s.middle o s.rest_marks s.rest

other_kind : (n : TypeNode) (ts : Trees) → front_kind ts ≡ kind_of n → (kind_of n ≡ kind.Path → ⊥) → (b : Bool) → odd ts ≡ b → b ≡ false
other_kind n ts e h false f = refl
other_kind n ts e h true f = absurd (h (sym e ∙ odd_kind ts f))

node_odd : (n : TypeNode) (single : Bool) (w : Where) (ts o : Trees) (m : Marks) → node n single w ts o m → is_macro n ≡ false → odd ts ≡ false
node_odd (path no_self p) single w ts o m s e = path_odd w p ts o m s
node_odd (macro_type p d inside) single w ts o m s e = absurd (cc)
node_odd (path (some_self t n) p) single w ts o m s e = other_kind (path (some_self t n) p) ts (node_first (path (some_self t n) p) single w ts o m s e) (λ q. absurd (cc)) (odd ts) refl
node_odd (paren t) single w ts o m s e = other_kind (paren t) ts (node_first (paren t) single w ts o m s e) (λ q. absurd (cc)) (odd ts) refl
node_odd (tuple xs u) single w ts o m s e = other_kind (tuple xs u) ts (node_first (tuple xs u) single w ts o m s e) (λ q. absurd (cc)) (odd ts) refl
node_odd (slice t) single w ts o m s e = other_kind (slice t) ts (node_first (slice t) single w ts o m s e) (λ q. absurd (cc)) (odd ts) refl
node_odd (array t x) single w ts o m s e = other_kind (array t x) ts (node_first (array t x) single w ts o m s e) (λ q. absurd (cc)) (odd ts) refl
node_odd (reference l b t) single w ts o m s e = other_kind (reference l b t) ts (node_first (reference l b t) single w ts o m s e) (λ q. absurd (cc)) (odd ts) refl
node_odd (pointer b t) single w ts o m s e = other_kind (pointer b t) ts (node_first (pointer b t) single w ts o m s e) (λ q. absurd (cc)) (odd ts) refl
node_odd (bare_fn f) single w ts o m s e = other_kind (bare_fn f) ts (node_first (bare_fn f) single w ts o m s e) (λ q. absurd (cc)) (odd ts) refl
node_odd (trait_object bs b) single w ts o m s e = other_kind (trait_object bs b) ts (node_first (trait_object bs b) single w ts o m s e) (λ q. absurd (cc)) (odd ts) refl
node_odd (impl_trait bs b) single w ts o m s e = other_kind (impl_trait bs b) ts (node_first (impl_trait bs b) single w ts o m s e) (λ q. absurd (cc)) (odd ts) refl
node_odd infer single w ts o m s e = other_kind infer ts (node_first infer single w ts o m s e) (λ q. absurd (cc)) (odd ts) refl
node_odd never single w ts o m s e = other_kind never ts (node_first never single w ts o m s e) (λ q. absurd (cc)) (odd ts) refl

-- a macro's path begins with an identifier or `::`
idents_end : (w : Where) (is : List Ident) (ts o : Trees) (m : Marks) → chain (colons w) sees_colons (ident w) is ts o m → (at_end ts || sees 62 ts) ≡ false
idents_end w [] ts o m s = absurd s.fact
idents_end w (i ∷ is) ts o m s = ap (λ x. at_end x || sees 62 x) s.first.spelled

plain_end : (w : Where) (b : Bool) (is : List Ident) (ts o : Trees) (m : Marks) →
    (flag sees_colons b (colons w) then chain (colons w) sees_colons (ident w) is) ts o m → (at_end ts || sees 62 ts) ≡ false
plain_end w true is ts o m s = ap (λ x. at_end x || sees 62 x) s.first.spelled ∙ ap (λ c. nat_eq c 62) s.first.is_first
plain_end w false is ts o m s = ap (λ x. at_end x || sees 62 x) s.first.part.spelled ∙ idents_end w is s.middle o s.rest_marks s.rest

or_false : (a b : Bool) → (a || b) ≡ false → (a ≡ false) × (b ≡ false)
or_false true b e = absurd (cc)
or_false false b e = (refl, e)

odd_ends : (ts : Trees) → odd ts ≡ false → (at_end ts || sees 62 ts) ≡ false
odd_ends ts e =
    let a = or_false (at_end ts) (sees 62 ts || constant_front ts) e in
    let b = or_false (sees 62 ts) (constant_front ts) a.1 in
    rw (a.0, b.0) refl

node_ends : (n : TypeNode) (single : Bool) (w : Where) (ts o : Trees) (m : Marks) → node n single w ts o m → (b : Bool) → is_macro n ≡ b → (at_end ts || sees 62 ts) ≡ false
node_ends n single w ts o m s false e = odd_ends ts (node_odd n single w ts o m s e)
node_ends (macro_type p d inside) single w ts o m s true e = plain_end w p.leading_colon p.segments ts s.middle s.first_marks s.first
node_ends _ single w ts o m s true e = absurd (cc)

type_ends : (x : TypeTree) (single : Bool) (w : Where) (ts o : Trees) (m : Marks) → type_spelled x single w ts o m → (at_end ts || sees 62 ts) ≡ false
type_ends (type_tree n range) single w ts o m s = node_ends n single w ts o m s.part.part (is_macro n) refl

pub type_goes_on : (x : TypeTree) (single : Bool) (w : Where) (ts o : Trees) (m : Marks) → type_spelled x single w ts o m → at_end ts ≡ false
type_goes_on x single w ts o m s = (or_false (at_end ts) (sees 62 ts) (type_ends x single w ts o m s)).0

pub type_no_angle : (x : TypeTree) (single : Bool) (w : Where) (ts o : Trees) (m : Marks) → type_spelled x single w ts o m → sees 62 ts ≡ false
type_no_angle x single w ts o m s = (or_false (at_end ts) (sees 62 ts) (type_ends x single w ts o m s)).1

constant_by : (n : TypeNode) (single : Bool) (w : Where) (ts o : Trees) (m : Marks) → node n single w ts o m → (b : Bool) → is_macro n ≡ b → sees_macro ts ≡ b → sees_constant ts ≡ false
constant_by n single w ts o m s true e f = ap (λ b. not b && constant_front ts) f
constant_by n single w ts o m s false e f =
    let a = or_false (at_end ts) (sees 62 ts || constant_front ts) (node_odd n single w ts o m s e) in
    let b = or_false (sees 62 ts) (constant_front ts) a.1 in
    ap (λ b. not b && constant_front ts) f ∙ b.1

pub type_no_constant : (x : TypeTree) (single : Bool) (w : Where) (ts o : Trees) (m : Marks) → type_spelled x single w ts o m → sees_constant ts ≡ false
type_no_constant (type_tree n range) single w ts o m s = constant_by n single w ts o m s.part.part (is_macro n) refl s.part.fact
