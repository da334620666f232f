-- The qualified path that is read where it has the tokens that were passed is one of the grammar.
use Rattle.std.proofs.Common.{◌≡◌, ℕ, ◌+◌, ◌<◌, ◌≤◌, Bool, true, false, ◌&&◌, nat_eq, cond, Option, Some, None, T, refl, sym, ap, ap₂, ◌∙◌, subst, arith}
use Rattle.std.proofs.lemmas.Option.{some_pair_parts}
use Rattle.dm_stream.specs.declared.tokens.Token.TheVariants as t
use Rattle.dm_stream.specs.declared.tokens.Span.{Span}
use Rattle.dm_stream.specs.Layout.{nowhere}
use Rattle.dm_stream.specs.Trees.{Trees, no_trees, token, join, flatten}
use Rattle.dm_stream.specs.Sizes.{size}
use Rattle.dm_ast.specs.Spelling.{is_joint}
use Rattle.dm_ast.specs.Tree.{TypeTree, type_tree, path, MaybeSelf, some_self, PathTree}
use Rattle.dm_ast.specs.TypeGrammar.{type_spelled}
use Rattle.dm_output.specs.Tokens.{path_expr_trees}
use Rattle.dm_expr.specs.Cuts.{Front, after, and_then, pair_at, split_at}
use Rattle.dm_expr.proofs.Joining.{split_joins}
use Rattle.dm_read.proofs.Deciding.{IsRead}
use Rattle.dm_type_eq.specs.Unplaced.{unplaced_path, unplaced_self}
use Rattle.dm_reread.specs.BareReading.{NaturalItems, bare_qualified}
use Rattle.dm_reread.specs.ReadBack.{item_leaves}
use Rattle.dm_reread.specs.Reading.{then, whole}
use Rattle.dm_reread.specs.TypeLeaves.{top, read_type, IsType}
use Rattle.dm_reread.specs.PathLeaves.{names_at, path_at, qualified_in, read_qualified, IsQualified}
use Rattle.dm_reread.specs.ExactLeaves.{has_entries, exact_qualified}
use Rattle.dm_type_eq.proofs.BareTypeTokens.{node-bare}
use Rattle.dm_reread.proofs.LeafFronts.{split_size}
use Rattle.dm_reread.proofs.TypeLeafUnplaced.{read_is_type}
use Rattle.dm_read_laws.specs.Sound.{IsBare, Spells, is_qualified}
use Rattle.dm_read_laws.proofs.Entries.{same_trees}
use Rattle.dm_read_laws.proofs.Answers.{then_by, whole_some, same_answer}
use Rattle.dm_read_laws.proofs.SoundSteps.{bare_own}
use Rattle.dm_read_laws.proofs.ExactSound.{natural_answer, passed_front, joined_front, exact_answer}
use Rattle.dm_read_laws.proofs.RunSound.{IsLocal, local_pair}
use Rattle.dm_read_laws.proofs.TypeSound.{type_is_read}

-- ---- names behind a pair, where nothing but they is there

abbrev Counts : Front → ℕ → Trees → Type 0
Counts f n us = ◌≡◌ {A = Front} f (Some (n, us))

count_same : (k n : ℕ) (us vs : Trees) → Counts (Some (k, us)) n vs → k ≡ n
count_same k n us vs e = (some_pair_parts k n us vs e).0

-- a front with trees in front of it
record Behind (k n : ℕ) (us : Trees) (f : Front) : Type 0 where
  count : ℕ
  there : Counts f count us
  sum : k + count ≡ n

behind : (k n : ℕ) (us : Trees) (f : Front) → Counts (after k f) n us → Behind k n us f
behind k n us None e = absurd (cc)
behind k n us (Some (m, vs)) e =
    let h = some_pair_parts (k + m) n vs us e in
    record { count = m; there = ap (λ x. Some (m, x)) h.1; sum = h.0 }

-- names are three trees each
three_by : (b : Bool) (n : ℕ) (f : Front) (us vs : Trees) → Counts (cond b (after 3 f) (Some (0, us))) n vs → 0 < n → 3 ≤ n
three_by true n f us vs e p = let h : Behind 3 n vs f = behind 3 n vs f e in omega (arith, h.sum)
three_by false n f us vs e p = absurd (omega (arith, p, count_same 0 n us vs e))

three_least : (ts : Trees) (n : ℕ) (vs : Trees) → Counts (names_at ts) n vs → 0 < n → 3 ≤ n
three_least (token (t.Punct a) (token (t.Punct b) (token (t.Ident i) ts))) n vs e p =
    three_by ((nat_eq a.ch 58 && is_joint a.spacing) && nat_eq b.ch 58) n (names_at ts) (token (t.Punct a) (token (t.Punct b) (token (t.Ident i) ts))) vs e p
three_least ts n vs e p = absurd (omega (arith, p, count_same 0 n ts vs e))

module _ (us : Trees) where
  linked : (b : Bool) (w x y vs : Trees) (n : ℕ) → n ≡ 3 + size w →
      ((z : Trees) → Counts (names_at (join w us)) (size w) z → Counts (names_at w) (size w) no_trees) →
      Counts (cond b (after 3 (names_at (join w us))) (Some (0, x))) n vs → Counts (cond b (after 3 (names_at w)) (Some (0, y))) n no_trees
  linked true w x y vs n s more e =
      let h : Behind 3 n vs (names_at (join w us)) = behind 3 n vs (names_at (join w us)) e in
      let c : h.count ≡ size w = omega (arith, s, h.sum) in
      ap (after 3) (more vs (h.there ∙ ap (λ k. Some (k, vs)) c)) ∙ ap (λ k. Some (k, no_trees)) (sym s)
  linked false w x y vs n s more e = absurd (omega (arith, s, count_same 0 n x vs e))

  names_alone : (w vs : Trees) → Counts (names_at (join w us)) (size w) vs → Counts (names_at w) (size w) no_trees
  names_alone no_trees vs e = refl
  names_alone (token (t.Punct a) (token (t.Punct b) (token (t.Ident i) w))) vs e =
      linked ((nat_eq a.ch 58 && is_joint a.spacing) && nat_eq b.ch 58) w
      (token (t.Punct a) (token (t.Punct b) (token (t.Ident i) (join w us)))) (token (t.Punct a) (token (t.Punct b) (token (t.Ident i) w))) vs
      (size w + 1 + 1 + 1) (omega arith) (names_alone w) e
  names_alone (token (t.Punct a) no_trees) vs e =
      let h : 3 ≤ 1 = three_least (token (t.Punct a) us) 1 vs e (omega arith) in
      absurd (omega (arith, h))
  names_alone (token (t.Punct a) (token (t.Punct b) no_trees)) vs e =
      let h : 3 ≤ 2 = three_least (token (t.Punct a) (token (t.Punct b) us)) 2 vs e (omega arith) in
      absurd (omega (arith, h))
  names_alone w vs e = absurd (omega (arith, count_same 0 (size w) (join w us) vs e))

  -- ---- and the pair

  path_by : (v vs : Trees) (f g : Front) → IsLocal us v f g → Counts (and_then g names_at) (size v) vs → Counts (and_then f names_at) (size v) no_trees
  path_by v vs None None l e = absurd (cc)
  path_by v vs None (Some q) l e =
      let h : Behind q.0 (size v) vs (names_at q.1) = behind q.0 (size v) vs (names_at q.1) e in
      absurd (omega (arith, l q refl, h.sum))
  path_by v vs (Some q) g l e =
      let h : Behind q.0 (size v) vs (names_at (join q.1 us)) =
      behind q.0 (size v) vs (names_at (join q.1 us)) (sym (ap (λ x. and_then x names_at) l.1) ∙ e) in
      let c : h.count ≡ size q.1 = omega (arith, h.sum, l.0) in
      ap (after q.0) (names_alone q.1 vs (h.there ∙ ap (λ k. Some (k, vs)) c)) ∙ ap (λ k. Some (k, no_trees)) l.0

  path_alone : (v vs : Trees) → Counts (path_at (join v us)) (size v) vs → Counts (path_at v) (size v) no_trees
  path_alone v vs e = path_by v vs (pair_at 60 62 v) (pair_at 60 62 (join v us)) (local_pair us 60 62 v) e

-- the front that was split off
record Cut (f : Front) (n : ℕ) : Type 0 where
  left : Trees
  there : Counts f n left

cut_by : (f : Front) (ts v us : Trees) → split_at f ts ≡ Some (v, us) → Cut f (size v)
cut_by None ts v us e = absurd (cc)
cut_by (Some (n, vs)) ts v us e = record { left = vs; there = ap (λ k. Some (k, vs)) (split_size n ts v us e) }

front_alone : (ts v us : Trees) → split_at (path_at ts) ts ≡ Some (v, us) → Counts (path_at v) (size v) no_trees
front_alone ts v us e =
    let c : Cut (path_at ts) (size v) = cut_by (path_at ts) ts v us e in
    let j : ts ≡ join v us = split_joins (path_at ts) ts v us e in
    path_alone us v c.left (ap path_at (sym j) ∙ c.there)

-- ---- the type that the path is

record IsPathType (x : TypeTree) (q : MaybeSelf) (p : PathTree) : Type 0 where
  range : Span
  is : x ≡ type_tree (path q p) range
  qualified : T (is_qualified q)

path_type : (x : TypeTree) (q : MaybeSelf) (p : PathTree) → qualified_in x ≡ Some (q, p) → IsPathType x q p
path_type (type_tree (path (some_self y n) o) range) q p e =
    same_answer (λ (z : MaybeSelf × PathTree). IsPathType (type_tree (path (some_self y n) o) range) z.0 z.1) (some_self y n, o) (q, p) e
    (record { range = range; is = refl; qualified = tt })
path_type _ q p e = absurd (cc)

-- ---- the path in front

abbrev Qualified : Type 0
Qualified = MaybeSelf × PathTree

abbrev qualified_trees : Qualified → Trees
qualified_trees q = path_expr_trees q.0 q.1

-- the trees that were cut out, and the type that they are
record IsPathRead (ts us : Trees) (q : MaybeSelf) (p : PathTree) : Type 0 where
  own : Trees
  cut : split_at (path_at ts) ts ≡ Some (own, us)
  range : Span
  read : read_type own ≡ Some (type_tree (path q p) range, no_trees)
  qualified : T (is_qualified q)

abbrev out_of : Trees → TypeTree → Option (Qualified × Trees)
out_of us x = then (qualified_in x) (λ q. Some (q, us))

path_by_type : (ts own rest : Trees) (x : TypeTree) (c : Qualified) → split_at (path_at ts) ts ≡ Some (own, rest) → whole (read_type own) ≡ Some x →
    IsPathType x c.0 c.1 → IsPathRead ts rest c.0 c.1
path_by_type ts own rest x c e f k =
    record {
      own = own;
      cut = e;
      range = k.range;
      read = subst (λ y. read_type own ≡ Some (y, no_trees)) k.is (whole_some (read_type own) x f);
      qualified = k.qualified;
    }

path_read : (ts us : Trees) (q : MaybeSelf) (p : PathTree) → read_qualified ts ≡ Some ((q, p), us) → IsPathRead ts us q p
path_read ts us q p e =
    then_by {A = Trees × Trees} {B = Qualified × Trees} (split_at (path_at ts) ts) (λ c. then (whole (read_type c.0)) (out_of c.1)) ((q, p), us)
    (IsPathRead ts us q p) e
    (λ c cut e'. then_by {A = TypeTree} {B = Qualified × Trees} (whole (read_type c.0)) (out_of c.1) ((q, p), us) (IsPathRead ts us q p) e'
    (λ x read e''. then_by {A = Qualified} {B = Qualified × Trees} (qualified_in x) (λ z. Some (z, c.1)) ((q, p), us) (IsPathRead ts us q p) e''
    (λ z there f.
    same_answer (λ (a : Qualified × Trees). IsPathRead ts a.1 a.0.0 a.0.1) (z, c.1) ((q, p), us) f
    (path_by_type ts c.0 c.1 x z cut read (path_type x z.0 z.1 there)))))

module _ (N : NaturalItems item_leaves) where
  pub qualified_sound : (ts us : Trees) (q : MaybeSelf) (p : PathTree) → IsBare ts → exact_qualified ts ≡ Some ((q, p), us) →
      (T (is_qualified q) × IsQualified q p) × Spells (path_expr_trees q p) ts us
  qualified_sound ts us q p b e =
      let own : Trees = path_expr_trees q p in
      let a = exact_answer {A = Qualified} qualified_trees ts us (q, p) (read_qualified ts) e in
      let r : IsPathRead ts us q p = path_read ts us q p a.0 in
      let j : ts ≡ join r.own us = split_joins (path_at ts) ts r.own us r.cut in
      let n = natural_answer {A = Qualified} bare_qualified exact_qualified ts us (q, p) (N.parts.qualified ts) b e in
      let s = some_pair_parts (unplaced_self q) q (unplaced_path p) p (ap Some n.0) in
      let bare : IsBare own = node-bare nowhere (path q p) ∙ ap₂ (λ x y. path_expr_trees x y) s.0 s.1 in
      let cut_bare : IsBare r.own = bare_own r.own ts us b j in
      let same : own ≡ r.own =
      sym bare ∙ same_trees own r.own (ap (has_entries own) (sym (passed_front ts us (flatten r.own) (joined_front ts r.own us j))) ∙ a.1) ∙ cut_bare in
      let x : TypeTree = type_tree (path q p) r.range in
      let k : IsRead (λ y. type_spelled y false top) r.own x no_trees = type_is_read r.own no_trees x r.read in
      let u : IsType (type_tree (path q p) nowhere) =
      subst IsType (ap₂ (λ y z. type_tree (path y z) nowhere) s.0 s.1)
      (read_is_type x false top r.own no_trees k.marks k.spelled k.within) in
      let front : path_at own ≡ Some (size own, no_trees) =
      subst (λ z. path_at z ≡ Some (size z, no_trees)) (sym same) (front_alone ts r.own us r.cut) in
      ((r.qualified, record { type = u; front = front }), subst (λ z. ts ≡ join z us) (sym same) j)
