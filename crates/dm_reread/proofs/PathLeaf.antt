-- A qualified path comes back from its tokens, where what stands behind it doesn't go on with `::`.
use Rattle.std.proofs.Common.{◌≡◌, ℕ, ◌+◌, Bool, true, false, ◌&&◌, nat_eq, ◌==◌, cond, Some, None, T, refl, sym, ap, ◌∙◌, subst}
use Rattle.dm_stream.specs.Layout.{nowhere}
use Rattle.dm_stream.specs.declared.tokens.Punct.{Punct}
use Rattle.dm_stream.specs.declared.tokens.Spacing.{Spacing}
use Rattle.dm_stream.specs.declared.tokens.Spacing.TheVariants.{Joint, Alone}
use Rattle.dm_stream.specs.declared.tokens.Token.TheVariants as t
use Rattle.dm_stream.specs.Trees.{Trees, no_trees, token, group, join, join-no_trees}
use Rattle.dm_stream.specs.Sizes.{size}
use Rattle.dm_ast.specs.Spelling.{is_joint, sees, sees_colons}
use Rattle.dm_ast.specs.Tree.{TypeTree, type_tree, path, some_self, PathTree, path_tree}
use Rattle.dm_ast.specs.TypeTokens.{type_trees, behind_self_trees, each_segment}
use Rattle.dm_output.specs.Tokens.{path_expr_trees}
use Rattle.dm_expr.specs.Cuts.{Front, after, and_then, closed_at, split_at}
use Rattle.dm_expr.specs.Reach.{is_there}
use Rattle.dm_reread.specs.Next.{Next, colons, pair_next, last_next, joint_next, punct_next, next}
use Rattle.dm_reread.specs.Leaves.{Answer, ends_qualified}
use Rattle.dm_reread.specs.Reading.{whole}
use Rattle.dm_reread.specs.TypeLeaves.{read_type}
use Rattle.dm_reread.specs.PathLeaves.{names_at, path_at, read_qualified, IsQualified}
use Rattle.dm_type_eq.proofs.Cutting.{alone_apart}
use Rattle.dm_reread.proofs.LeafFronts.{longer, stays_closed, split_join}
use Rattle.dm_reread.proofs.TypeLeaf.{type_back}

-- ---- what follows doesn't go on with `::`

no_names : (ts : Trees) → sees_colons ts ≡ false → names_at ts ≡ Some (0, ts)
no_names (token (t.Punct a) (token (t.Punct b) (token (t.Ident i) ts))) e =
    ap (λ x. cond x (after 3 (names_at ts)) (Some (0, token (t.Punct a) (token (t.Punct b) (token (t.Ident i) ts))))) e
no_names _ e = refl

left_same : (k n : ℕ) (us vs : Trees) → ◌≡◌ {A = Front} (Some (k, us)) (Some (n, vs)) → us ≡ vs
left_same k n us vs e = let h : (k, us) ≡ (n, vs) = cc in ap (λ (x : ℕ × Trees). x.1) h

-- a front with trees in front of it
record Behind (k n : ℕ) (f : Front) : Type 0 where
  count : ℕ
  there : f ≡ Some (count, no_trees)
  sum : k + count ≡ n

behind : (k n : ℕ) (f : Front) → after k f ≡ Some (n, no_trees) → Behind k n f
behind k n None e = absurd (cc)
behind k n (Some (m, us)) e =
    let h : (k + m, us) ≡ (n, no_trees) = cc in
    record { count = m; there = ap (λ (x : ℕ × Trees). Some (m, x.1)) h; sum = ap (λ (x : ℕ × Trees). x.0) h }

module _ (rest : Trees) (apart : sees_colons rest ≡ false) where
  -- names to the end are the same names with others behind
  abbrev Stay : Trees → Type 0
  Stay ts = (n : ℕ) → names_at ts ≡ Some (n, no_trees) → names_at (join ts rest) ≡ Some (n, rest)

  linked : (b : Bool) (n : ℕ) (ts us vs : Trees) → Stay ts → (us ≡ no_trees → ⊥) →
      cond b (after 3 (names_at ts)) (Some (0, us)) ≡ Some (n, no_trees) →
      cond b (after 3 (names_at (join ts rest))) (Some (0, vs)) ≡ Some (n, rest)
  linked true n ts us vs k f e =
      let h : Behind 3 n (names_at ts) = behind 3 n (names_at ts) e in
      ap (after 3) (k h.count h.there) ∙ ap (λ x. Some (x, rest)) h.sum
  linked false n ts us vs k f e = absurd (f (left_same 0 n us no_trees e))

  names_stay : (ts : Trees) → Stay ts
  names_stay (token (t.Punct a) (token (t.Punct b) (token (t.Ident i) ts))) n e =
      linked ((nat_eq a.ch 58 && is_joint a.spacing) && nat_eq b.ch 58) n ts (token (t.Punct a) (token (t.Punct b) (token (t.Ident i) ts)))
      (token (t.Punct a) (token (t.Punct b) (token (t.Ident i) (join ts rest)))) (names_stay ts) (λ h. absurd (cc)) e
  names_stay no_trees n e = let h : (0, no_trees) ≡ (n, no_trees) = cc in no_names rest apart ∙ ap (λ (x : ℕ × Trees). Some (x.0, rest)) h
  names_stay ts n e = let h : ts ≡ no_trees = left_same 0 n ts no_trees e in absurd (cc)

  is_some : (f : Front) (r : ℕ × Trees) → f ≡ Some r → is_there f ≡ true
  is_some f r e = ap is_there e

  -- behind the first `<`
  path_stays : (us : Trees) (n : ℕ) (f : Front) → closed_at 60 62 1 us ≡ f → and_then (after 1 f) names_at ≡ Some (n, no_trees) →
      and_then (after 1 (closed_at 60 62 1 (join us rest))) names_at ≡ Some (n, rest)
  path_stays us n None g e = absurd (cc)
  path_stays us n (Some (k, ts)) g e =
      let h : Behind (1 + k) n (names_at ts) = behind (1 + k) n (names_at ts) e in
      ap (λ x. and_then (after 1 x) names_at) (stays_closed rest 60 62 1 us (is_some (closed_at 60 62 1 us) (k, ts) g) ∙
      ap (longer rest) g) ∙
      (ap (after (1 + k)) (names_stay ts h.count h.there) ∙ ap (λ x. Some (x, rest)) h.sum)

-- ---- what may follow

not_first : (b : Bool) (x y : Next) → ends_qualified x ≡ false → b ≡ true → T (ends_qualified (cond b x y)) → ⊥
not_first true x y e f h = subst T e h
not_first false x y e f h = absurd (cc)

still_false : (x y z : Bool) → (x && z) ≡ false → ((x && y) && z) ≡ false
still_false true true z e = e
still_false true false z e = refl
still_false false y z e = refl

two_apart : (a b : ℕ) (ts : Trees) (s : Spacing) → T (ends_qualified (pair_next a b ts)) →
    ((nat_eq a 58 && is_joint s) && nat_eq b 58) ≡ false
two_apart a b ts s h = by ((a == 58) && (b == 58)) refl
  where
    by : (x : Bool) → ((a == 58) && (b == 58)) ≡ x → ((nat_eq a 58 && is_joint s) && nat_eq b 58) ≡ false
    by true e = absurd (not_first ((a == 58) && (b == 58)) (colons ts) _ refl e h)
    by false e = still_false (nat_eq a 58) (is_joint s) (nat_eq b 58) e

last_apart : (a b : ℕ) (ts : Trees) (s z : Spacing) → T (ends_qualified (last_next z a b ts)) →
    ((nat_eq a 58 && is_joint s) && nat_eq b 58) ≡ false
last_apart a b ts s Alone h = two_apart a b ts s h
last_apart a b ts s Joint h = absurd h

joint_apart : (p : Punct) (ts : Trees) → T (ends_qualified (joint_next p.ch ts)) → sees_colons (token (t.Punct p) ts) ≡ false
joint_apart p (token (t.Punct q) ts) h = last_apart p.ch q.ch ts p.spacing q.spacing h
joint_apart p (token (t.Ident i) ts) h = absurd h
joint_apart p (token (t.Literal l) ts) h = absurd h
joint_apart p (token (t.Lifetime l) ts) h = absurd h
joint_apart p no_trees h = absurd h
joint_apart p (group d f us g ts) h = absurd h

punct_apart : (p : Punct) (ts : Trees) (s : Spacing) → p.spacing ≡ s → T (ends_qualified (punct_next s p.ch ts)) →
    sees_colons (token (t.Punct p) ts) ≡ false
punct_apart p ts Joint e h = joint_apart p ts h
punct_apart p ts Alone e h = ap (λ x. (nat_eq p.ch 58 && is_joint x) && sees 58 ts) e ∙ alone_apart (nat_eq p.ch 58) (sees 58 ts)

qualified_apart : (rest : Trees) → T (ends_qualified (next rest)) → sees_colons rest ≡ false
qualified_apart (token (t.Punct p) ts) h = punct_apart p ts p.spacing refl h
qualified_apart (token (t.Ident i) ts) h = refl
qualified_apart (token (t.Literal l) ts) h = refl
qualified_apart (token (t.Lifetime l) ts) h = refl
qualified_apart no_trees h = refl
qualified_apart (group d f us g ts) h = refl

-- ---- read back

cut_stays : (x : TypeTree) (position : ℕ) (p : PathTree) (rest : Trees) → sees_colons rest ≡ false → (n : ℕ) →
    path_at (path_expr_trees (some_self x position) p) ≡ Some (n, no_trees) →
    path_at (join (path_expr_trees (some_self x position) p) rest) ≡ Some (n, rest)
cut_stays x position (path_tree b ss) rest a n e =
    let us : Trees = join (type_trees x) (behind_self_trees nowhere position b (each_segment nowhere ss)) in
    path_stays rest a us n (closed_at 60 62 1 us) refl e

whole_some : {A : Type 0} (o : Answer A) (x : A) → o ≡ Some (x, no_trees) → whole o ≡ Some x
whole_some o x e = ap whole e

pub qualified_back : (x : TypeTree) (position : ℕ) (p : PathTree) (rest : Trees) → IsQualified (some_self x position) p →
    T (ends_qualified (next rest)) →
    read_qualified (join (path_expr_trees (some_self x position) p) rest) ≡ Some ((some_self x position, p), rest)
qualified_back x position p rest h e =
    let own : Trees = path_expr_trees (some_self x position) p in
    let u : TypeTree = type_tree (path (some_self x position) p) nowhere in
    let cut : split_at (path_at (join own rest)) (join own rest) ≡ Some (own, rest) =
    ap (λ f. split_at f (join own rest)) (cut_stays x position p rest (qualified_apart rest e) (size own) h.front) ∙ split_join own rest in
    let read : whole (read_type own) ≡ Some u =
    whole_some (read_type own) u (ap read_type (sym (join-no_trees own)) ∙ type_back u no_trees h.type tt) in
    rw cut (rw read refl)
