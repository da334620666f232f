-- Names behind `::`, and qualified paths.
use Rattle.std.proofs.Common.{◌≡◌, ℕ, ◌+◌, Bool, true, false, cond, Option, Some, None, refl, sym, ap, ◌∙◌, subst, arith}
use Rattle.std.proofs.lemmas.Grind.{common_steps}
use Rattle.dm_stream.specs.declared.tokens.Ident.{Ident}
use Rattle.dm_stream.specs.declared.tokens.Punct.{Punct}
use Rattle.dm_stream.specs.declared.tokens.Token.TheVariants as t
use Rattle.dm_stream.specs.Trees.{Trees, token}
use Rattle.dm_stream.specs.Cursors.{first_punct, first_ident}
use Rattle.dm_stream.specs.Sizes.{size}
use Rattle.dm_expr.specs.Cuts.{after, and_then, pair_at, split_at}
use Rattle.dm_ast.specs.Tree.{TypeTree, type_tree, path, some_self, MaybeSelf, PathTree}
use Rattle.dm_ast.specs.TypeTokens.{type_trees}
use Rattle.dm_output.specs.Tokens.{path_expr_trees}
use Rattle.dm_reread.specs.Leaves.{Answer}
use Rattle.dm_reread.specs.Reading.{then, provided, whole}
use Rattle.dm_reread.specs.TypeLeaves.{read_type}
use Rattle.dm_reread.specs.PathLeaves.{names_at, path_at, qualified_in}
use Rattle.dm_reread.specs.ExactLeaves.{passed, has_entries, exactly, exact_qualified}
use Rattle.dm_read.proofs.Seeing.{punct_front, ident_front}
use Rattle.dm_read_places.proofs.Expecting.{whole_open}
use Rattle.dm_read_leaves.specs.Leaves.{is_separated, unranged_type, cut_type, exact_cut}

-- ---- names behind `::`

pub no_first : (ts : Trees) → first_punct ts ≡ None → names_at ts ≡ Some (0, ts)
no_first (token (t.Punct p) us) e = absurd (cc)
no_first _ e = refl

second_missing : (p : Punct) (us : Trees) → first_punct us ≡ None → names_at (token (t.Punct p) us) ≡ Some (0, token (t.Punct p) us)
second_missing p (token (t.Punct q) vs) e = absurd (cc)
second_missing p _ e = refl

name_missing : (p q : Punct) (vs : Trees) → first_ident vs ≡ None →
    names_at (token (t.Punct p) (token (t.Punct q) vs)) ≡ Some (0, token (t.Punct p) (token (t.Punct q) vs))
name_missing p q (token (t.Ident i) ws) e = absurd (cc)
name_missing p q _ e = refl

pub no_second : (ts us : Trees) (p : Punct) → first_punct ts ≡ Some (p, us) → first_punct us ≡ None → names_at ts ≡ Some (0, ts)
no_second ts us p e f = subst (λ z. names_at z ≡ Some (0, z)) (sym (punct_front ts us p e)) (second_missing p us f)

pub no_third : (ts us vs : Trees) (p q : Punct) → first_punct ts ≡ Some (p, us) → first_punct us ≡ Some (q, vs) → first_ident vs ≡ None →
    names_at ts ≡ Some (0, ts)
no_third ts us vs p q e f g =
    let h : ts ≡ token (t.Punct p) (token (t.Punct q) vs) = punct_front ts us p e ∙ ap (token (t.Punct p)) (punct_front us vs q f) in
    subst (λ z. names_at z ≡ Some (0, z)) (sym h) (name_missing p q vs g)

-- three tokens that may be `::` and a name
three : (ts us vs ws : Trees) (p q : Punct) (i : Ident) → first_punct ts ≡ Some (p, us) → first_punct us ≡ Some (q, vs) →
    first_ident vs ≡ Some (i, ws) →
    ts ≡ token (t.Punct p) (token (t.Punct q) (token (t.Ident i) ws))
three ts us vs ws p q i e f g =
    punct_front ts us p e ∙ ap (token (t.Punct p)) (punct_front us vs q f ∙ ap (token (t.Punct q)) (ident_front vs ws i g))

pub a_name_more : (ts us vs ws : Trees) (p q : Punct) (i : Ident) → first_punct ts ≡ Some (p, us) → first_punct us ≡ Some (q, vs) →
    first_ident vs ≡ Some (i, ws) →
    is_separated p q ≡ true → names_at ts ≡ after 3 (names_at ws)
a_name_more ts us vs ws p q i e f g h =
    ap names_at (three ts us vs ws p q i e f g) ∙
    ap (λ b. cond b (after 3 (names_at ws)) (Some (0, token (t.Punct p) (token (t.Punct q) (token (t.Ident i) ws))))) h

pub no_name_more : (ts us vs ws : Trees) (p q : Punct) (i : Ident) → first_punct ts ≡ Some (p, us) → first_punct us ≡ Some (q, vs) →
    first_ident vs ≡ Some (i, ws) →
    is_separated p q ≡ false → names_at ts ≡ Some (0, ts)
no_name_more ts us vs ws p q i e f g h =
    ap names_at (three ts us vs ws p q i e f g) ∙
    ap (λ b. cond b (after 3 (names_at ws)) (Some (0, token (t.Punct p) (token (t.Punct q) (token (t.Ident i) ws))))) h ∙
    ap (λ z. Some (0, z)) (sym (three ts us vs ws p q i e f g))

pub three_size : (ts us vs ws : Trees) (p q : Punct) (i : Ident) → first_punct ts ≡ Some (p, us) → first_punct us ≡ Some (q, vs) →
    first_ident vs ≡ Some (i, ws) →
    size ts ≡ size ws + 3
three_size ts us vs ws p q i e f g = ap size (three ts us vs ws p q i e f g) ∙ omega arith

-- ---- what is cut

pub path_is : (ts us vs : Trees) (pair names : ℕ) → pair_at 60 62 ts ≡ Some (pair, us) → names_at us ≡ Some (names, vs) →
    path_at ts ≡ Some (pair + names, vs)
path_is ts us vs pair names e f = ap (λ o. and_then o names_at) e ∙ ap (after pair) f

pub no_path : (ts : Trees) → pair_at 60 62 ts ≡ None → path_at ts ≡ None
no_path ts e = ap (λ o. and_then o names_at) e

-- ---- the path that a type is

-- the tokens of a qualified path are those of the type that it is
pub same_tokens : (x : TypeTree) (q : MaybeSelf × PathTree) → qualified_in x ≡ Some q → type_trees (unranged_type x) ≡ path_expr_trees q.0 q.1
same_tokens (type_tree (path (some_self u n) p) range) q e =
    let f : (some_self u n, p) ≡ q = cc in ap (λ (r : MaybeSelf × PathTree). path_expr_trees r.0 r.1) f
same_tokens _ q e = absurd (cc)

same_path : (x : TypeTree) → qualified_in (unranged_type x) ≡ qualified_in x
same_path (type_tree (path (some_self u n) p) range) = refl
same_path (type_tree _ range) = refl

module _ (ts : Trees) where
  abbrev Paths : Type 0
  Paths = Answer (MaybeSelf × PathTree)

  abbrev by_path : MaybeSelf × PathTree → Trees
  by_path q = path_expr_trees q.0 q.1

  path_checked : (x : TypeTree) (us : Trees) (o : Option (MaybeSelf × PathTree)) → qualified_in x ≡ o →
      exactly by_path ts (then {B = (MaybeSelf × PathTree) × Trees} o (λ q. Some (q, us))) ≡
      then {A = TypeTree × Trees} {B = (MaybeSelf × PathTree) × Trees} (exactly type_trees ts (Some (unranged_type x, us))) (λ a. then (qualified_in a.0) (λ q. Some (q, a.1)))
  path_checked x us None e = by (has_entries (type_trees (unranged_type x)) (passed ts us))
    where
      by : (b : Bool) →
          None ≡ then {A = TypeTree × Trees} {B = (MaybeSelf × PathTree) × Trees} (provided b (Some (unranged_type x, us))) (λ a. then (qualified_in a.0) (λ q. Some (q, a.1)))
      by true = sym (ap (λ o. then {B = (MaybeSelf × PathTree) × Trees} o (λ q. Some (q, us))) (same_path x ∙ e))
      by false = refl
  path_checked x us (Some q) e =
      ap (λ z. provided (has_entries z (passed ts us)) (Some (q, us))) (sym (same_tokens x q e)) ∙ by (has_entries (type_trees (unranged_type x)) (passed ts us))
    where
      by : (b : Bool) →
          provided b (Some (q, us)) ≡
          then {A = TypeTree × Trees} {B = (MaybeSelf × PathTree) × Trees} (provided b (Some (unranged_type x, us))) (λ a. then (qualified_in a.0) (λ r. Some (r, a.1)))
      by true = sym (ap (λ o. then {B = (MaybeSelf × PathTree) × Trees} o (λ r. Some (r, us))) (same_path x ∙ e))
      by false = refl

  path_whole : (us : Trees) (o : Option TypeTree) →
      exactly by_path ts (then o (λ x. then (qualified_in x) (λ q. Some (q, us)))) ≡
      then {A = TypeTree × Trees} {B = (MaybeSelf × PathTree) × Trees} (exactly type_trees ts (then o (λ x. Some (unranged_type x, us)))) (λ a. then (qualified_in a.0) (λ q. Some (q, a.1)))
  path_whole us None = refl
  path_whole us (Some x) = path_checked x us (qualified_in x) refl

  path_cut : (o : Option (Trees × Trees)) →
      exactly by_path ts (then o (λ c. then (whole (read_type c.0)) (λ x. then (qualified_in x) (λ q. Some (q, c.1))))) ≡
      then {A = TypeTree × Trees} {B = (MaybeSelf × PathTree) × Trees}
      (exactly type_trees ts (then o (λ c. then (whole (read_type c.0)) (λ x. Some (unranged_type x, c.1))))) (λ a. then (qualified_in a.0) (λ q. Some (q, a.1)))
  path_cut None = refl
  path_cut (Some c) = path_whole c.1 (whole (read_type c.0))

-- the comparison may come before the type is taken apart
pub qualified_is : (ts : Trees) →
    exact_qualified ts ≡ then {A = TypeTree × Trees} {B = (MaybeSelf × PathTree) × Trees} (exact_cut ts) (λ a. then (qualified_in a.0) (λ q. Some (q, a.1)))
qualified_is ts = path_cut ts (split_at (path_at ts) ts)

pub no_exact_cut : (ts : Trees) → cut_type ts ≡ None → exactly type_trees ts (cut_type ts) ≡ None
no_exact_cut ts e = ap (exactly type_trees ts) e

pub ruleset path_steps = (common_steps, no_first, no_second, no_third, a_name_more, no_name_more, three_size, path_is, no_path, no_exact_cut, whole_open, qualified_is)
