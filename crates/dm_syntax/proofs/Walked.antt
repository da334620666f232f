-- What is read and written again, by a walk over the rules that spell types: a property that stays when one part stands behind another, and that
-- holds of single tokens and of what is not read, holds of all.
use Rattle.std.proofs.Common.{◌≡◌, ℕ, zero, suc, Bool, true, false, cond, ◌==◌, List, [], ◌∷◌, ◌++◌, map, take, drop, codes, Option, Some, None, refl, sym, ap, ◌∙◌, subst, append-nil, arith}
use Rattle.std.proofs.lemmas.Bool.{ne_eqb}
use Rattle.dm_stream.specs.declared.tokens.Span.{Span}
use Rattle.dm_stream.specs.declared.tokens.Delim.{Delim}
use Rattle.dm_stream.specs.declared.tokens.Delim.TheVariants.{Bracket, Brace}
use Rattle.dm_stream.specs.declared.tokens.Ident.{Ident}
use Rattle.dm_stream.specs.declared.tokens.Lifetime.{Lifetime}
use Rattle.dm_stream.specs.declared.tokens.Literal.{Literal}
use Rattle.dm_stream.specs.declared.tokens.Punct.{Punct}
use Rattle.dm_stream.specs.declared.tokens.Token.TheVariants as t
use Rattle.dm_stream.specs.Trees.{Trees, no_trees, token, join, Stream, join-no_trees, join_assoc}
use Rattle.dm_ast.specs.declared.plain.Opaque.{Opaque}
use Rattle.dm_ast.specs.declared.plain.PlainPath.{PlainPath}
use Rattle.dm_ast.specs.declared.plain.AttrArgs.{AttrArgs}
use Rattle.dm_ast.specs.declared.plain.AttrArgs.TheVariants as args
use Rattle.dm_ast.specs.declared.plain.Attribute.{Attribute}
use Rattle.dm_ast.specs.declared.plain.ConstArg.{ConstArg}
use Rattle.dm_ast.specs.declared.plain.ConstArg.TheVariants as constant
use Rattle.dm_ast.specs.Tree.{Lifetimes, path_tree, SegmentTrees, no_segments, segment_then, ArgumentTrees}
use Rattle.dm_ast.specs.Spelling.{Where, deeper, Marks, Spelling, ◌then◌, TokenAt, PairAt, LoneAt, GroupAt, AllAt, sees, sees_word, sees_lifetime, sees_literal, sees_colons, ident, lifetime, literal, punct, keyword, colons, flag, perhaps, repeated, chain, items, items_left, last_item, no_items}
use Rattle.dm_ast.specs.TypeGrammar.{plain_path, opaque, kept, attribute_args, attribute, attributes, between_angles, for_lifetimes, constant_spelled, qualified, trait_segments, segments_left, some_segments_left, arguments}
use Rattle.dm_ast.specs.TypeTokens as spell
use Rattle.dm_syntax.specs.Unread.{Part, whole, in_args, in_attributes, in_constant, in_segments, in_arguments}

pub suc_apart : (n : ℕ) → (suc n == 0) ≡ false
suc_apart n = ne_eqb (suc n) 0 (λ e. omega (arith, e))

-- the trees of a list behind its first item
abbrev pub Left : ℕ → Span → List Trees → Bool → Trees
Left c r xs u = join (spell.spaced (spell.punct c r) false xs) (spell.given u (spell.punct c r))

-- the first segments, `>`, and the others
abbrev pub Cut : ℕ → Span → List Trees → Trees
Cut n r xs = join (spell.spaced (spell.colons r) true (take (suc n) xs)) (join (spell.punct 62 r) (spell.spaced (spell.colons r) false (drop (suc n) xs)))

pub no_trait : (n : ℕ) (w : Where) (ts o : Trees) (m : Marks) → trait_segments n no_segments w ts o m → ⊥
no_trait zero w ts o m s = s.fact
no_trait (suc n) w ts o m s = s.fact

-- where a segment has to be left, segments are left
pub some_are_left : (ss : SegmentTrees) (w : Where) (ts o : Trees) (m : Marks) → some_segments_left ss w ts o m → segments_left ss w ts o m
some_are_left no_segments w ts o m s = absurd s.fact
some_are_left (segment_then x ss) w ts o m s = s

-- a token that is written as it was read
abbrev pub is_plain : t.the_data → Bool
is_plain (t.Ident i) = true
is_plain (t.Lifetime l) = true
is_plain (t.Literal l) = true
is_plain (t.Punct p) = false

-- What the walk asks of a property of the parts that are not read, the trees that are written, the trees that begin with them, and the others
-- behind these.
pub record IsWalked (P : List Part → Trees → Trees → Trees → Type 0) : Type 1 where
  pub joined : (ps qs : List Part) (a b ts mid o : Trees) → P ps a ts mid → P qs b mid o → P (ps ++ qs) (join a b) ts o
  pub none : (ts o : Trees) → ts ≡ o → P [] no_trees ts o
  pub plain : (w : Where) (k : t.the_data) → is_plain k ≡ true → (ts o : Trees) (m : Marks) → TokenAt w k ts o m → P [] (spell.one k) ts o
  pub one : (r : Span) (c : ℕ) (p : Punct) (ts o : Trees) → p.ch ≡ c → ts ≡ token (t.Punct p) o → P [] (spell.punct c r) ts o
  pub pair : (r : Span) (w : Where) (a b : ℕ) (ts o : Trees) (m : Marks) → PairAt w a b ts o m → P [] (spell.joint a b r) ts o
  pub word : (r : Span) (w : Where) (word : List ℕ) (ts o : Trees) (m : Marks) → keyword w word ts o m → P [] (spell.word word r) ts o
  pub grouped : (ps : List Part) (w : Where) (d : Delim) (a : Trees) (Inside : Where → Spelling) (ts o : Trees) (m : Marks) → GroupAt w d Inside ts o m →
      ((v : Where) (i : Trees) (k : Marks) → Inside v i no_trees k → P ps a i no_trees) → P ps (spell.grouped d a) ts o
  pub all : (w : Where) (all ts o : Trees) (m : Marks) → AllAt w all ts o m → P (whole all ∷ []) all ts o

module _ {P : List Part → Trees → Trees → Trees → Type 0} (laws : IsWalked P) where
  pub walk_join : {ps qs : List Part} (a b ts mid o : Trees) → P ps a ts mid → P qs b mid o → P (ps ++ qs) (join a b) ts o
  walk_join {ps = ps} {qs = qs} a b ts mid o e f = laws.joined ps qs a b ts mid o e f

  pub walk_none : (ts o : Trees) → ts ≡ o → P [] no_trees ts o
  walk_none = laws.none

  pub walk_token : (w : Where) (k : t.the_data) → is_plain k ≡ true → (ts o : Trees) (m : Marks) → TokenAt w k ts o m → P [] (spell.one k) ts o
  walk_token = laws.plain

  pub walk_punct : (r : Span) (w : Where) (c : ℕ) (ts o : Trees) (m : Marks) → punct w c ts o m → P [] (spell.punct c r) ts o
  walk_punct r w c ts o m s = laws.one r c s.punct ts o s.is s.there.spelled

  pub walk_lone : (r : Span) (w : Where) (c : ℕ) (stops : List ℕ) (ts o : Trees) (m : Marks) → LoneAt w c stops ts o m → P [] (spell.punct c r) ts o
  walk_lone r w c stops ts o m s = laws.one r c s.punct ts o s.is s.there.spelled

  pub walk_pair : (r : Span) (w : Where) (a b : ℕ) (ts o : Trees) (m : Marks) → PairAt w a b ts o m → P [] (spell.joint a b r) ts o
  walk_pair = laws.pair

  pub walk_word : (r : Span) (w : Where) (word : List ℕ) (ts o : Trees) (m : Marks) → keyword w word ts o m → P [] (spell.word word r) ts o
  walk_word = laws.word

  pub walk_group : {ps : List Part} (w : Where) (d : Delim) (a : Trees) (Inside : Where → Spelling) (ts o : Trees) (m : Marks) → GroupAt w d Inside ts o m →
      ((v : Where) (i : Trees) (k : Marks) → Inside v i no_trees k → P ps a i no_trees) → P ps (spell.grouped d a) ts o
  walk_group {ps = ps} = laws.grouped ps

  -- other trees and parts that are the same
  pub walk_as : {ps qs : List Part} (a b ts o : Trees) → ps ≡ qs → a ≡ b → P ps a ts o → P qs b ts o
  walk_as {ps = ps} {qs = qs} a b ts o e f h = subst (λ l. P l b ts o) e (subst (λ v. P ps v ts o) f h)

  -- nothing that isn't read stands in the second
  pub walk_last : {ps : List Part} (a b ts mid o : Trees) → P ps a ts mid → P [] b mid o → P ps (join a b) ts o
  walk_last {ps = ps} a b ts mid o e f = walk_as (join a b) (join a b) ts o (append-nil ps) refl (walk_join a b ts mid o e f)

  -- ---- what is not read

  pub walk_opaque : (w : Where) (x : Opaque) (ts o : Trees) (m : Marks) → opaque w x ts o m → P (whole x.tokens.trees ∷ []) x.tokens.trees ts o
  walk_opaque w x ts o m s = laws.all w x.tokens.trees ts o m s.part.part

  pub walk_kept : (w : Where) (d : Delim) (x : Stream) (ts o : Trees) (m : Marks) → GroupAt w d (kept x) ts o m → P (whole x.trees ∷ []) (spell.grouped d x.trees) ts o
  walk_kept w d x ts o m s = walk_group w d x.trees (kept x) ts o m s (λ v i k h. laws.all v x.trees i no_trees k h.part)

  -- ---- what may be missing, and lists

  pub walk_flag : (begins : Trees → Bool) (b : Bool) (part : Spelling) (a ts o : Trees) (m : Marks) → flag begins b part ts o m → (part ts o m → P [] a ts o) → P [] (spell.given b a) ts o
  walk_flag begins true part a ts o m s h = h s
  walk_flag begins false part a ts o m s h = walk_none ts o s.part.spelled

  pub walk_last_item : (r : Span) (w : Where) (c : ℕ) (ends : Trees → Bool) (u : Bool) (ts o : Trees) (m : Marks) → last_item w c ends u ts o m → P [] (spell.given u (spell.punct c r)) ts o
  walk_last_item r w c ends true ts o m s =
      walk_join (spell.punct c r) no_trees ts s.middle o (walk_punct r w c ts s.middle s.first_marks s.first) (walk_none s.middle o s.rest.part.spelled)
  walk_last_item r w c ends false ts o m s = walk_none ts o s.part.spelled

  -- an item, and the others
  pub walk_first : {ps qs : List Part} (c : ℕ) (r : Span) (x : Trees) (xs : List Trees) (u : Bool) (ts mid o : Trees) → P ps x ts mid → P qs (Left c r xs u) mid o →
      P (ps ++ qs) (spell.listed c r (x ∷ xs) u) ts o
  walk_first c r x xs u ts mid o e f =
      walk_as (join x (Left c r xs u)) (spell.listed c r (x ∷ xs) u) ts o refl (sym (join_assoc x (spell.spaced (spell.punct c r) false xs) (spell.given u (spell.punct c r))))
      (walk_join x (Left c r xs u) ts mid o e f)

  pub walk_next : {ps qs : List Part} (c : ℕ) (r : Span) (x : Trees) (xs : List Trees) (u : Bool) (ts mid more o : Trees) → P [] (spell.punct c r) ts mid → P ps x mid more →
      P qs (Left c r xs u) more o → P (ps ++ qs) (Left c r (x ∷ xs) u) ts o
  walk_next c r x xs u ts mid more o d e f =
      walk_join (spell.punct c r) (spell.listed c r (x ∷ xs) u) ts mid o d (walk_first c r x xs u mid more o e f)

  pub walk_no_items : (c : ℕ) (r : Span) (w : Where) (ends : Trees → Bool) (u : Bool) (ts o : Trees) (m : Marks) → no_items w c ends u ts o m → P [] (spell.listed c r [] u) ts o
  walk_no_items c r w ends true ts o m s = absurd (cc)
  walk_no_items c r w ends false ts o m s = walk_none ts o s.part.part.spelled

  pub walk_angles : {ps : List Part} (r : Span) (w : Where) (a : Trees) (Inside : Where → Spelling) (ts o : Trees) (m : Marks) → between_angles w Inside ts o m →
      ((i j : Trees) (k : Marks) → Inside (deeper w) i j k → P ps a i j) → P ps (join (spell.punct 60 r) (join a (spell.punct 62 r))) ts o
  walk_angles r w a Inside ts o m s h =
      walk_join (spell.punct 60 r) (join a (spell.punct 62 r)) ts s.middle o (walk_punct r w 60 ts s.middle s.first_marks s.first)
      (walk_last a (spell.punct 62 r) s.middle s.rest.middle o (h s.middle s.rest.middle s.rest.first_marks s.rest.first)
      (walk_punct r w 62 s.rest.middle o s.rest.rest_marks s.rest.rest))

  -- a segment behind `::`, and the others
  pub walk_next_segment : {ps qs : List Part} (r : Span) (w : Where) (x : Trees) (xs : List Trees) (ts mid more o : Trees) (m : Marks) → colons w ts mid m → P ps x mid more →
      P qs (spell.spaced (spell.colons r) false xs) more o → P (ps ++ qs) (spell.spaced (spell.colons r) false (x ∷ xs)) ts o
  walk_next_segment r w x xs ts mid more o m c e f =
      walk_join (spell.colons r) (join x (spell.spaced (spell.colons r) false xs)) ts mid o (walk_pair r w 58 58 ts mid m c)
      (walk_join x (spell.spaced (spell.colons r) false xs) mid more o e f)

  -- ---- the parts that hold no types

  walk_idents : (r : Span) (w : Where) (is : List Ident) (ts o : Trees) (m : Marks) → repeated sees_colons (λ y. colons w then ident w y) is ts o m →
      P [] (spell.spaced (spell.colons r) false (map spell.name is)) ts o
  walk_idents r w [] ts o m s = walk_none ts o s.part.spelled
  walk_idents r w (x ∷ xs) ts o m s =
      walk_next_segment r w (spell.name x) (map spell.name xs) ts s.first.middle s.middle o s.first.first_marks s.first.first
      (walk_token w (t.Ident x) refl s.first.middle s.middle s.first.rest_marks s.first.rest) (walk_idents r w xs s.middle o s.rest_marks s.rest)

  walk_chain : (r : Span) (w : Where) (is : List Ident) (ts o : Trees) (m : Marks) → chain (colons w) sees_colons (ident w) is ts o m →
      P [] (spell.spaced (spell.colons r) true (map spell.name is)) ts o
  walk_chain r w [] ts o m s = absurd s.fact
  walk_chain r w (x ∷ xs) ts o m s =
      walk_join (spell.name x) (spell.spaced (spell.colons r) false (map spell.name xs)) ts s.middle o (walk_token w (t.Ident x) refl ts s.middle s.first_marks s.first)
      (walk_idents r w xs s.middle o s.rest_marks s.rest)

  pub walk_plain : (r : Span) (w : Where) (p : PlainPath) (ts o : Trees) (m : Marks) → plain_path w p ts o m → P [] (spell.plain_trees r p) ts o
  walk_plain r w p ts o m s =
      walk_join (spell.given p.leading_colon (spell.colons r)) (spell.spaced (spell.colons r) true (map spell.name p.segments)) ts s.middle o
      (walk_flag sees_colons p.leading_colon (colons w) (spell.colons r) ts s.middle s.first_marks s.first (walk_pair r w 58 58 ts s.middle s.first_marks))
      (walk_chain r w p.segments s.middle o s.rest_marks s.rest)

  walk_args : (r : Span) (w : Where) (a : AttrArgs) (ts o : Trees) (m : Marks) → attribute_args w a ts o m → P (in_args a) (spell.attr_args_trees r a) ts o
  walk_args r w args.Absent ts o m s = walk_none ts o s.part.spelled
  walk_args r w (args.List d x) ts o m s = walk_kept w d x ts o m s
  walk_args r w (args.Value x) ts o m s =
      walk_join (spell.punct 61 r) x.tokens.trees ts s.middle o (walk_lone r w 61 (61 ∷ 62 ∷ []) ts s.middle s.first_marks s.first)
      (walk_opaque w x s.middle o s.rest_marks s.rest)

  walk_attribute : (w : Where) (a : Attribute) (ts o : Trees) (m : Marks) → attribute w a ts o m → P (in_args a.args) (spell.attribute_trees a) ts o
  walk_attribute w a ts o m s =
      let q = s.part in
      let inside : Trees = join (spell.plain_trees a.span a.path) (spell.attr_args_trees a.span a.args) in
      walk_join (spell.punct 35 a.span) (spell.grouped Bracket inside) ts q.middle o (walk_punct a.span w 35 ts q.middle q.first_marks q.first)
      (walk_group w Bracket inside (λ v. plain_path v a.path then attribute_args v a.args) q.middle o q.rest_marks q.rest
      (λ v i k h.
      walk_join (spell.plain_trees a.span a.path) (spell.attr_args_trees a.span a.args) i h.middle no_trees (walk_plain a.span v a.path i h.middle h.first_marks h.first)
      (walk_args a.span v a.args h.middle no_trees h.rest_marks h.rest)))

  pub walk_attributes : (w : Where) (as' : List Attribute) (ts o : Trees) (m : Marks) → attributes w as' ts o m → P (in_attributes as') (spell.attributes_trees as') ts o
  walk_attributes w [] ts o m s = walk_none ts o s.part.spelled
  walk_attributes w (a ∷ as') ts o m s =
      walk_join (spell.attribute_trees a) (spell.attributes_trees as') ts s.middle o (walk_attribute w a ts s.middle s.first_marks s.first)
      (walk_attributes w as' s.middle o s.rest_marks s.rest)

  lifetimes_left : (r : Span) (w : Where) (ls : List Lifetime) (u : Bool) (ts o : Trees) (m : Marks) → items_left w 44 (sees 62) (lifetime w) ls u ts o m →
      P [] (Left 44 r (map spell.lifetime ls) u) ts o
  lifetimes_left r w [] u ts o m s = walk_last_item r w 44 (sees 62) u ts o m s
  lifetimes_left r w (x ∷ xs) u ts o m s =
      walk_next 44 r (spell.lifetime x) (map spell.lifetime xs) u ts s.middle s.rest.middle o (walk_punct r w 44 ts s.middle s.first_marks s.first)
      (walk_token w (t.Lifetime x) refl s.middle s.rest.middle s.rest.first_marks s.rest.first) (lifetimes_left r w xs u s.rest.middle o s.rest.rest_marks s.rest.rest)

  walk_lifetimes : (r : Span) (w : Where) (ls : List Lifetime) (u : Bool) (ts o : Trees) (m : Marks) → items w 44 (sees 62) (lifetime w) ls u ts o m →
      P [] (spell.listed 44 r (map spell.lifetime ls) u) ts o
  walk_lifetimes r w [] u ts o m s = walk_no_items 44 r w (sees 62) u ts o m s
  walk_lifetimes r w (x ∷ xs) u ts o m s =
      walk_first 44 r (spell.lifetime x) (map spell.lifetime xs) u ts s.middle o (walk_token w (t.Lifetime x) refl ts s.middle s.first_marks s.first)
      (lifetimes_left r w xs u s.middle o s.rest_marks s.rest)

  pub walk_for : (r : Span) (w : Where) (f : Lifetimes) (ts o : Trees) (m : Marks) → for_lifetimes w f ts o m → P [] (spell.for_trees r f) ts o
  walk_for r w None ts o m s = walk_none ts o s.part.spelled
  walk_for r w (Some ls) ts o m s =
      walk_join (spell.word (codes "for") r) (spell.angle_trees r (map spell.lifetime ls.items) ls.trailing) ts s.middle o
      (walk_word r w (codes "for") ts s.middle s.first_marks s.first)
      (walk_angles r w (spell.listed 44 r (map spell.lifetime ls.items) ls.trailing) (λ v. items v 44 (sees 62) (lifetime v) ls.items ls.trailing) s.middle o s.rest_marks s.rest
      (λ i j k h. walk_lifetimes r (deeper w) ls.items ls.trailing i j k h))

  pub walk_constant : (r : Span) (w : Where) (c : ConstArg) (ts o : Trees) (m : Marks) → constant_spelled w c ts o m → P (in_constant c) (spell.const_trees r c) ts o
  walk_constant r w (constant.Literal b l) ts o m s =
      walk_join (spell.given b (spell.punct 45 r)) (spell.literal l) ts s.middle o
      (walk_flag (sees 45) b (punct w 45) (spell.punct 45 r) ts s.middle s.first_marks s.first (walk_punct r w 45 ts s.middle s.first_marks))
      (walk_token w (t.Literal l) refl s.middle o s.rest_marks s.rest)
  walk_constant r w (constant.Bool i) ts o m s = walk_token w (t.Ident i) refl ts o m s.part
  walk_constant r w (constant.Block x) ts o m s = walk_kept w Brace x ts o m s
  walk_constant r w (constant.Name i) ts o m s = walk_token w (t.Ident i) refl ts o m s.part

  pub walk_maybe_lifetime : (w : Where) (l : Option Lifetime) (ts o : Trees) (m : Marks) → perhaps sees_lifetime l (lifetime w) ts o m → P [] (spell.maybe_lifetime l) ts o
  walk_maybe_lifetime w None ts o m s = walk_none ts o s.part.spelled
  walk_maybe_lifetime w (Some l) ts o m s = walk_token w (t.Lifetime l) refl ts o m s

  walk_maybe_literal : (w : Where) (l : Option Literal) (ts o : Trees) (m : Marks) → perhaps sees_literal l (literal w) ts o m → P [] (spell.maybe_literal l) ts o
  walk_maybe_literal w None ts o m s = walk_none ts o s.part.spelled
  walk_maybe_literal w (Some l) ts o m s = walk_token w (t.Literal l) refl ts o m s

  pub walk_abi : (r : Span) (w : Where) (a : Option (Option Literal)) (ts o : Trees) (m : Marks) →
      perhaps (sees_word (codes "extern")) a (λ called. keyword w (codes "extern") then perhaps sees_literal called (literal w)) ts o m → P [] (spell.abi_trees r a) ts o
  walk_abi r w None ts o m s = walk_none ts o s.part.spelled
  walk_abi r w (Some l) ts o m s =
      walk_join (spell.word (codes "extern") r) (spell.maybe_literal l) ts s.middle o (walk_word r w (codes "extern") ts s.middle s.first_marks s.first)
      (walk_maybe_literal w l s.middle o s.rest_marks s.rest)

  pub walk_pointer_word : {ps : List Part} (r : Span) (w : Where) (word : List ℕ) (a ts o : Trees) (m : Marks) (Rest : Spelling) → (punct w 42 then (keyword (deeper w) word then Rest)) ts o m →
      ((i : Trees) (k : Marks) → Rest i o k → P ps a i o) → P ps (join (spell.punct 42 r) (join (spell.word word r) a)) ts o
  walk_pointer_word r w word a ts o m Rest s h =
      walk_join (spell.punct 42 r) (join (spell.word word r) a) ts s.middle o (walk_punct r w 42 ts s.middle s.first_marks s.first)
      (walk_join (spell.word word r) a s.middle s.rest.middle o (walk_word r (deeper w) word s.middle s.rest.middle s.rest.first_marks s.rest.first)
      (h s.rest.middle s.rest.rest_marks s.rest.rest))

  -- ---- a qualified path

  walk_trait_of : {ps : List Part} (n : ℕ) (r : Span) (b : Bool) (xs : List Trees) (ts mid more o : Trees) → P [] (spell.word (codes "as") r) ts mid →
      P [] (spell.given b (spell.colons r)) mid more → P ps (Cut n r xs) more o → P ps (spell.behind_self_trees r (suc n) b xs) ts o
  walk_trait_of n r b xs ts mid more o d e f =
      let as' : Trees = spell.word (codes "as") r in
      let front : Trees = spell.given b (spell.colons r) in
      let first : Trees = spell.spaced (spell.colons r) true (take (suc n) xs) in
      let behind : Trees = join (spell.punct 62 r) (spell.spaced (spell.colons r) false (drop (suc n) xs)) in
      walk_as (join as' (join front (join first behind))) (spell.behind_self_trees r (suc n) b xs) ts o refl
      (ap (λ v. join as' v) (sym (join_assoc front first behind)) ∙ sym (join_assoc as' (join front first) behind) ∙
      ap (λ z. join (cond z no_trees (join as' (join front first))) behind) (sym (suc_apart n)))
      (walk_join as' (join front (join first behind)) ts mid o d (walk_join front (join first behind) mid more o e f))

  pub walk_cut_last : {ps qs : List Part} (r : Span) (x : Trees) (xs : List Trees) (ts mid more o : Trees) → P ps x ts mid → P [] (spell.punct 62 r) mid more →
      P qs (spell.spaced (spell.colons r) false xs) more o → P (ps ++ qs) (Cut zero r (x ∷ xs)) ts o
  walk_cut_last r x xs ts mid more o d e f =
      let rest : Trees = join (spell.punct 62 r) (spell.spaced (spell.colons r) false xs) in
      walk_as (join x rest) (Cut zero r (x ∷ xs)) ts o refl (ap (λ v. join v rest) (sym (join-no_trees x)))
      (walk_join x rest ts mid o d (walk_join (spell.punct 62 r) (spell.spaced (spell.colons r) false xs) mid more o e f))

  pub walk_cut_next : {ps qs : List Part} (n : ℕ) (r : Span) (x y : Trees) (ys : List Trees) (ts mid more o : Trees) → P ps x ts mid → P [] (spell.colons r) mid more →
      P qs (Cut n r (y ∷ ys)) more o → P (ps ++ qs) (Cut (suc n) r (x ∷ y ∷ ys)) ts o
  walk_cut_next n r x y ys ts mid more o d e f =
      let first : Trees = spell.spaced (spell.colons r) true (take (suc n) (y ∷ ys)) in
      let behind : Trees = join (spell.punct 62 r) (spell.spaced (spell.colons r) false (drop (suc n) (y ∷ ys))) in
      walk_as (join x (join (spell.colons r) (join first behind))) (Cut (suc n) r (x ∷ y ∷ ys)) ts o refl
      (ap (λ v. join x v) (sym (join_assoc (spell.colons r) first behind)) ∙ sym (join_assoc x (join (spell.colons r) first) behind))
      (walk_join x (join (spell.colons r) (join first behind)) ts mid o d (walk_join (spell.colons r) (join first behind) mid more o e f))

  -- by what is known of the segments
  pub walk_qualified : (ss : SegmentTrees) (n : ℕ) (r : Span) (b : Bool) (w : Where) (ts o : Trees) (m : Marks) → qualified n (path_tree b ss) w ts o m →
      ((k : ℕ) (i : Trees) (l : Marks) → trait_segments k ss w i o l → P (in_segments ss) (Cut k r (spell.each_segment r ss)) i o) →
      ((i : Trees) (l : Marks) → some_segments_left ss w i o l → P (in_segments ss) (spell.spaced (spell.colons r) false (spell.each_segment r ss)) i o) →
      P (in_segments ss) (spell.behind_self_trees r n b (spell.each_segment r ss)) ts o
  walk_qualified ss zero r b w ts o m s cut later =
      let q = s.part in
      walk_join (spell.punct 62 r) (spell.spaced (spell.colons r) false (spell.each_segment r ss)) ts q.middle o (walk_punct r w 62 ts q.middle q.first_marks q.first)
      (later q.middle q.rest_marks q.rest)
  walk_qualified ss (suc n) r b w ts o m s cut later =
      let q = s.rest in
      walk_trait_of n r b (spell.each_segment r ss) ts s.middle q.middle o (walk_word r (deeper w) (codes "as") ts s.middle s.first_marks s.first)
      (walk_flag sees_colons b (colons (deeper w)) (spell.colons r) s.middle q.middle q.first_marks q.first (walk_pair r (deeper w) 58 58 s.middle q.middle q.first_marks))
      (cut n q.middle q.rest_marks q.rest)

  -- `<..>`, perhaps behind `::`
  pub walk_angle : (gs : ArgumentTrees) (r : Span) (b u : Bool) (w : Where) (ts o : Trees) (m : Marks) →
      (flag sees_colons b (colons w) then between_angles w (λ v. arguments gs u v)) ts o m →
      ((i j : Trees) (k : Marks) → arguments gs u (deeper w) i j k → P (in_arguments gs) (spell.listed 44 r (spell.each_argument r gs) u) i j) →
      P (in_arguments gs) (join (spell.given b (spell.colons r)) (spell.angle_trees r (spell.each_argument r gs) u)) ts o
  walk_angle gs r b u w ts o m s h =
      walk_join (spell.given b (spell.colons r)) (spell.angle_trees r (spell.each_argument r gs) u) ts s.middle o
      (walk_flag sees_colons b (colons w) (spell.colons r) ts s.middle s.first_marks s.first (walk_pair r w 58 58 ts s.middle s.first_marks))
      (walk_angles r w (spell.listed 44 r (spell.each_argument r gs) u) (λ v. arguments gs u v) s.middle o s.rest_marks s.rest h)
