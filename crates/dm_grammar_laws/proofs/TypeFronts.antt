-- The first token of a type, and what it tells apart.
use Rattle.std.proofs.Common.{◌≡◌, ℕ, Bool, true, false, nat_eq, List, [], ◌∷◌, codes, Option, Some, None, refl, ap, ◌∙◌}
use Rattle.std.proofs.lemmas.Bool.{eqb-true}
use Rattle.dm_stream.specs.declared.tokens.Delim.TheVariants.{Paren, Bracket}
use Rattle.dm_stream.specs.declared.tokens.Ident.{Ident}
use Rattle.dm_stream.specs.declared.tokens.Literal.{Literal}
use Rattle.dm_stream.specs.declared.tokens.Token.TheVariants as t
use Rattle.dm_stream.specs.Trees.{Trees, no_trees, token, group}
use Rattle.dm_ast.specs.declared.plain.PlainPath.{PlainPath}
use Rattle.dm_ast.specs.Tree.{TypeTree, type_tree, TypeNode, paren, tuple, slice, array, reference, pointer, bare_fn, trait_object, impl_trait, infer, never, path, macro_type, no_self, some_self, FnTree, fn_tree, PathTree, path_tree, SegmentTrees, no_segments, segment_then, segment}
use Rattle.dm_ast.specs.Spelling.{Where, deeper, Marks, Spelling, ◌then◌, at_end, one_of, sees, sees_word, sees_lifetime, sees_literal, sees_colons, ident, lifetime, literal, punct, keyword, colons, GroupAt, flag, perhaps, repeated, chain, items}
use Rattle.dm_ast.specs.TypeGrammar.{type_spelled, node, function, inputs, output, path_spelled, segments, plain_path, between_angles}
use Rattle.dm_ast.specs.DeclarationGrammar.{ends_where}

-- ---- behind parts that may be missing

-- a test of the first tokens gives this, wherever such a part stands
abbrev pub Begins : (Trees → Bool) → Bool → Spelling → Type 0
Begins b v S = (ts o : Trees) (m : Marks) → S ts o m → b ts ≡ v

module _ (b : Trees → Bool) (v : Bool) (rest : Spelling) where
  pub behind_flag : (begins : Trees → Bool) (x : Bool) (part : Spelling) → Begins b v part → Begins b v rest → Begins b v (flag begins x part then rest)
  behind_flag begins true part f g = λ ts o m s. f ts s.middle s.first_marks s.first
  behind_flag begins false part f g = λ ts o m s. ap b s.first.part.spelled ∙ g s.middle o s.rest_marks s.rest

  pub behind_perhaps : {A : Type 0} (begins : Trees → Bool) (x : Option A) (part : A → Spelling) → ((a : A) → Begins b v (part a)) → Begins b v rest →
      Begins b v (perhaps begins x part then rest)
  behind_perhaps begins (Some a) part f g = λ ts o m s. f a ts s.middle s.first_marks s.first
  behind_perhaps begins None part f g = λ ts o m s. ap b s.first.part.spelled ∙ g s.middle o s.rest_marks s.rest

  pub behind_repeated : {A : Type 0} (begins : Trees → Bool) (xs : List A) (item : A → Spelling) → ((a : A) → Begins b v (item a)) → Begins b v rest →
      Begins b v (repeated begins item xs then rest)
  behind_repeated begins (x ∷ xs) item f g = λ ts o m s. f x ts s.first.middle s.first.first_marks s.first.first
  behind_repeated begins [] item f g = λ ts o m s. ap b s.first.part.spelled ∙ g s.middle o s.rest_marks s.rest

-- ---- the first token of a type

-- `!`, `&`, `*`, `:` and `<`
abbrev type_puncts : List ℕ
type_puncts = 33 ∷ 38 ∷ 42 ∷ 58 ∷ 60 ∷ []

abbrev pub begins_type : Trees → Bool
begins_type (token (t.Ident i) rest) = true
begins_type (token (t.Punct p) rest) = one_of type_puncts p.ch
begins_type (group Paren from inside upto rest) = true
begins_type (group Bracket from inside upto rest) = true
begins_type _ = false

by_ident : (w : Where) (i : Ident) → Begins begins_type true (ident w i)
by_ident w i ts o m s = ap begins_type s.spelled

by_word : (w : Where) (word : List ℕ) → Begins begins_type true (keyword w word)
by_word w word ts o m s = ap begins_type s.there.spelled

by_punct : (w : Where) (c : ℕ) → one_of type_puncts c ≡ true → Begins begins_type true (punct w c)
by_punct w c e ts o m s = ap begins_type s.there.spelled ∙ ap (one_of type_puncts) s.is ∙ e

by_colons : (w : Where) → Begins begins_type true (colons w)
by_colons w ts o m s = ap begins_type s.spelled ∙ ap (one_of type_puncts) s.is_first

plain_chain : (w : Where) (begins : Trees → Bool) (is : List Ident) → Begins begins_type true (chain (colons w) begins (ident w) is)
plain_chain w begins [] ts o m s = absurd s.fact
plain_chain w begins (i ∷ is) ts o m s = by_ident w i ts s.middle s.first_marks s.first

plain_front : (w : Where) (p : PlainPath) → Begins begins_type true (plain_path w p)
plain_front w p =
    behind_flag begins_type true (chain (colons w) sees_colons (ident w) p.segments) sees_colons p.leading_colon (colons w) (by_colons w) (plain_chain w sees_colons p.segments)

segments_front : (w : Where) (ss : SegmentTrees) → Begins begins_type true (segments ss w)
segments_front w no_segments ts o m s = absurd s.fact
segments_front w (segment_then (segment i as') ss) ts o m s = by_ident w i ts s.first.middle s.first.first_marks s.first.first.part

path_front : (w : Where) (p : PathTree) → Begins begins_type true (path_spelled p w)
path_front w (path_tree leading ss) = behind_flag begins_type true (segments ss w) sees_colons leading (colons w) (by_colons w) (segments_front w ss)

function_front : (w : Where) (f : FnTree) → Begins begins_type true (function f w)
function_front w (fn_tree ls is_unsafe abi is trailing out) =
    let last : Spelling = keyword w (codes "fn") then (GroupAt (deeper w) Paren (λ v. inputs is trailing v) then output out (deeper w) (deeper w)) in
    let called : Option Literal → Spelling = λ l. keyword w (codes "extern") then perhaps sees_literal l (literal w) in
    let third : Spelling = perhaps (sees_word (codes "extern")) abi called then last in
    let second : Spelling = flag (sees_word (codes "unsafe")) is_unsafe (keyword w (codes "unsafe")) then third in
    behind_perhaps begins_type true second (sees_word (codes "for")) ls
    (λ l. keyword w (codes "for") then between_angles w (λ v. items v 44 (sees 62) (lifetime v) l.items l.trailing))
    (λ l ts o m s. by_word w (codes "for") ts s.middle s.first_marks s.first)
    (behind_flag begins_type true third (sees_word (codes "unsafe")) is_unsafe (keyword w (codes "unsafe")) (by_word w (codes "unsafe"))
    (behind_perhaps begins_type true last (sees_word (codes "extern")) abi called
    (λ l ts o m s. by_word w (codes "extern") ts s.middle s.first_marks s.first)
    (λ ts o m s. by_word w (codes "fn") ts s.middle s.first_marks s.first)))

node_front : (n : TypeNode) (single : Bool) (w : Where) → Begins begins_type true (node n single w)
node_front (paren t) single w ts o m s = ap begins_type s.spelled
node_front (tuple us trailing) single w ts o m s = ap begins_type s.part.spelled
node_front (slice t) single w ts o m s = ap begins_type s.spelled
node_front (array t n) single w ts o m s = ap begins_type s.spelled
node_front (reference l is_mut t) single w ts o m s = by_punct w 38 refl ts s.middle s.first_marks s.first
node_front (pointer true t) single w ts o m s = by_punct w 42 refl ts s.middle s.first_marks s.first
node_front (pointer false t) single w ts o m s = by_punct w 42 refl ts s.middle s.first_marks s.first
node_front (bare_fn f) single w ts o m s = function_front w f ts o m s
node_front (trait_object bs trailing) single w ts o m s = by_word w (codes "dyn") ts s.part.middle s.part.first_marks s.part.first
node_front (impl_trait bs trailing) single w ts o m s = by_word w (codes "impl") ts s.part.middle s.part.first_marks s.part.first
node_front infer single w ts o m s = by_word w (codes "_") ts o m s
node_front never single w ts o m s = by_punct w 33 refl ts o m s
node_front (path no_self p) single w ts o m s = path_front w p ts o m s
node_front (path (some_self t n) p) single w ts o m s = by_punct w 60 refl ts s.middle s.first_marks s.first
node_front (macro_type p d inside) single w ts o m s = plain_front w p ts s.middle s.first_marks s.first

pub type_front : (t : TypeTree) (single : Bool) (w : Where) → Begins begins_type true (type_spelled t single w)
type_front (type_tree n range) single w ts o m s = node_front n single w ts o m s.part.part

-- ---- what the front of a type is not

pub type_no_end : (ts : Trees) → begins_type ts ≡ true → at_end ts ≡ false
type_no_end no_trees e = absurd (cc)
type_no_end _ e = refl

pub type_no_lifetime : (ts : Trees) → begins_type ts ≡ true → sees_lifetime ts ≡ false
type_no_lifetime (token (t.Lifetime l) rest) e = absurd (cc)
type_no_lifetime _ e = refl

other_punct : (c d : ℕ) → one_of type_puncts d ≡ false → one_of type_puncts c ≡ true → nat_eq c d ≡ false
other_punct c d e f = by (nat_eq c d) refl
  where
    by : (b : Bool) → nat_eq c d ≡ b → b ≡ false
    by false g = refl
    by true g =
        let h : one_of type_puncts c ≡ one_of type_puncts d = ap (one_of type_puncts) (eqb-true c d g) in
        absurd (cc)

pub type_no_where_end : (ts : Trees) → begins_type ts ≡ true → ends_where ts ≡ false
type_no_where_end (token (t.Punct p) rest) e = other_punct p.ch 59 refl e
type_no_where_end (token (t.Ident i) rest) e = refl
type_no_where_end (group Paren from inside upto rest) e = refl
type_no_where_end (group Bracket from inside upto rest) e = refl
type_no_where_end _ e = absurd (cc)
