-- The leaves of the plain reader read the same of the same tokens, ranges aside.
use Rattle.std.proofs.Common.{◌≡◌, ◌-◌, Bool, true, ◌&&◌, List, [], ◌∷◌, map, length, take, Option, option_map, Some, None, refl, sym, ap, ap₂, ◌∙◌}
use Rattle.std.proofs.lemmas.List.{take-map}
use Rattle.dm_stream.specs.declared.tokens.Token.{Token}
use Rattle.dm_stream.specs.declared.tokens.Token.TheVariants as t
use Rattle.dm_stream.specs.declared.tokens.Entry.{Entry}
use Rattle.dm_stream.specs.declared.tokens.Entry.TheVariants as entry
use Rattle.dm_stream.specs.Trees.{Trees, flatten}
use Rattle.dm_lexer.specs.Written.{unplaced_token, unplaced}
use Rattle.dm_ast.specs.Tree.{TypeTree, type_tree, path, no_self, PathTree}
use Rattle.dm_ast.specs.TypeTokens.{type_trees}
use Rattle.dm_ast.specs.Declarations.{Listed, ParamTree, lifetime_param, type_param, const_param, PredicateTree}
use Rattle.dm_same.specs.SameTypes.{all_same, same_token, same_entry}
use Rattle.dm_output.specs.Tokens.{path_expr_trees}
use Rattle.dm_read_paths.specs.Bindings.{path_alone}
use Rattle.dm_type_eq.specs.Unplaced.{unplaced_path, unplaced_type}
use Rattle.dm_reread.specs.Bare.{bare_param, bare_predicate}
use Rattle.dm_reread.specs.BareReading.{bare_pair, bare_answer, bare_qualified, bare_head, NaturalLeaves, NaturalItems}
use Rattle.dm_reread.specs.Leaves.{Answer}
use Rattle.dm_reread.specs.Reading.{then, provided}
use Rattle.dm_reread.specs.Items.{HeadTree, between_trees}
use Rattle.dm_reread.specs.TypeLeaves.{read_type}
use Rattle.dm_reread.specs.PathLeaves.{read_qualified}
use Rattle.dm_reread.specs.RunLeaves.{read_run, is_closed}
use Rattle.dm_reread.specs.HeadLeaves.{read_generics, read_where, head_in, read_named, read_head, is_plain, is_lifetime, are_plain, plain_head}
use Rattle.dm_reread.specs.ExactLeaves.{passed, has_entries, exactly, closed_run}
use Rattle.dm_reread.specs.ReadBack.{leaves, item_leaves}
use Rattle.dm_type_eq.proofs.BareTypeTokens.{unplaced-join, type-bare}
use Rattle.dm_reread.proofs.BareTokens.{path-expr-bare}
use Rattle.dm_reread.proofs.BareItemTokens.{params-bare, where-bare, trait-bare}
use Rattle.dm_reread.proofs.BareNext.{passing, chained, provided-bare}
use Rattle.dm_read_laws.proofs.NaturalSteps.{same, both, bare_entry, flatten_bare, length_bare, tail_bare, word_blind}
use Rattle.dm_read_laws.proofs.NaturalDeclarations.{bare_items_of, type_natural, generics_natural, where_natural}
use Rattle.dm_read_laws.proofs.NaturalRuns.{run_natural, closed_bare, qualified_natural}

-- what is read, where it passes a test
tested_bare : {A : Type 0} (a : A → A) (again test : A × Trees → Bool) → ((r : A × Trees) → again (bare_pair a r) ≡ test r) → (o' o : Answer A) →
    o' ≡ bare_answer a o → then o' (λ r. provided (again r) (Some r)) ≡ bare_answer a (then o (λ r. provided (test r) (Some r)))
tested_bare a again test e o' o h =
    chained (bare_pair a) (bare_pair a) o' o (λ r. provided (again r) (Some r)) (λ r. provided (test r) (Some r)) h
    (λ r.
    ap (λ b. provided b (Some (bare_pair a r))) (e r) ∙
    provided-bare (bare_pair a) (test r) (Some (bare_pair a r)) (Some r) refl)

-- ---- the tokens that were passed

token_blind : (k l : Token) → same_token (unplaced_token k) (unplaced_token l) ≡ same_token k l
token_blind (t.Ident i) (t.Ident j) = refl
token_blind (t.Lifetime l) (t.Lifetime k) = refl
token_blind (t.Literal l) (t.Literal k) = refl
token_blind (t.Punct p) (t.Punct q) = refl
token_blind _ _ = refl

entry_blind : (x y : Entry) → same_entry (bare_entry x) (bare_entry y) ≡ same_entry x y
entry_blind (entry.Token k) (entry.Token l) = token_blind k l
entry_blind (entry.Open d from n) (entry.Open e upto m) = refl
entry_blind (entry.Close d from) (entry.Close e upto) = refl
entry_blind _ _ = refl

all_blind : (xs ys : List Entry) → all_same same_entry (map bare_entry xs) (map bare_entry ys) ≡ all_same same_entry xs ys
all_blind [] [] = refl
all_blind (x ∷ xs) (y ∷ ys) = ap₂ (λ a b. a && b) (entry_blind x y) (all_blind xs ys)
all_blind [] (y ∷ ys) = refl
all_blind (x ∷ xs) [] = refl

passed_bare : (ts us : Trees) → passed (unplaced ts) (unplaced us) ≡ map bare_entry (passed ts us)
passed_bare ts us =
    ap₂ (λ m n. take (m - n) (flatten (unplaced ts))) (length_bare ts) (length_bare us) ∙
    ap (take (length (flatten ts) - length (flatten us))) (flatten_bare ts) ∙
    take-map bare_entry (length (flatten ts) - length (flatten us)) (flatten ts)

entries_bare : (own ts us : Trees) → has_entries (unplaced own) (passed (unplaced ts) (unplaced us)) ≡ has_entries own (passed ts us)
entries_bare own ts us = ap₂ (all_same same_entry) (flatten_bare own) (passed_bare ts us) ∙ all_blind (flatten own) (passed ts us)

natural_exactly : {A : Type 0} (a : A → A) (trees_of : A → Trees) → ((x : A) → unplaced (trees_of x) ≡ trees_of (a x)) →
    (read : Trees → Answer A) → ((ts : Trees) → read (unplaced ts) ≡ bare_answer a (read ts)) → (ts : Trees) →
    exactly trees_of (unplaced ts) (read (unplaced ts)) ≡ bare_answer a (exactly trees_of ts (read ts))
natural_exactly a trees_of e read h ts =
    tested_bare a (λ r. has_entries (trees_of r.0) (passed (unplaced ts) r.1)) (λ r. has_entries (trees_of r.0) (passed ts r.1))
    (λ r. ap (λ own. has_entries own (passed (unplaced ts) (unplaced r.1))) (sym (e r.0)) ∙ entries_bare (trees_of r.0) ts r.1)
    (read (unplaced ts)) (read ts) (h ts)

-- ---- the tokens of what is read

pub between_bare : (h : HeadTree) → unplaced (between_trees h) ≡ between_trees (bare_head h)
between_bare h = simp (params-bare, trait-bare, type-bare, where-bare, unplaced-join)

-- ---- heads

path_alone_bare : (x : TypeTree) → path_alone (unplaced_type x) ≡ option_map unplaced_path (path_alone x)
path_alone_bare (type_tree (path no_self p) range) = refl
path_alone_bare _ = refl

abbrev bare_named : Option PathTree × TypeTree → Option PathTree × TypeTree
bare_named = both (option_map unplaced_path) unplaced_type

named_natural : (ts : Trees) → read_named (unplaced ts) ≡ bare_answer bare_named (read_named ts)
named_natural ts = simp (type_natural, path_alone_bare, tail_bare, word_blind, passing)

head_in_bare : (ps : Listed ParamTree) (x : Option PathTree × TypeTree) (c : Option (Listed PredicateTree)) →
    head_in (bare_items_of bare_param ps) (bare_named x) (option_map (bare_items_of bare_predicate) c) ≡ bare_head (head_in ps x c)
head_in_bare ps x None = refl
head_in_bare ps x (Some qs) = refl

head_natural : (ts : Trees) → read_head (unplaced ts) ≡ bare_answer bare_head (read_head ts)
head_natural ts =
    chained (bare_pair (both same (bare_items_of bare_param))) (bare_pair bare_head) (read_generics (unplaced ts)) (read_generics ts) _ _
    (generics_natural ts) (λ ps.
    chained (bare_pair bare_named) (bare_pair bare_head) (read_named (unplaced ps.1)) (read_named ps.1) _ _ (named_natural ps.1) (λ x.
    chained (bare_pair (option_map (bare_items_of bare_predicate))) (bare_pair bare_head) (read_where (unplaced x.1)) (read_where x.1) _ _
    (where_natural x.1) (λ c. ap {B = Answer HeadTree} (λ h. Some (h, unplaced c.1)) (head_in_bare ps.0.1 x.0 c.0))))

plain_bare : (p : ParamTree) → is_plain (bare_param p) ≡ is_plain p
plain_bare (lifetime_param [] l bs) = refl
plain_bare (type_param [] i bs None) = refl
plain_bare (const_param [] i x None) = refl
plain_bare _ = refl

lifetime_bare : (p : ParamTree) → is_lifetime (bare_param p) ≡ is_lifetime p
lifetime_bare (lifetime_param attrs l bs) = refl
lifetime_bare _ = refl

are_plain_bare : (lifetimes : Bool) (ps : List ParamTree) → are_plain lifetimes (map bare_param ps) ≡ are_plain lifetimes ps
are_plain_bare lifetimes [] = refl
are_plain_bare lifetimes (p ∷ ps) = simp (plain_bare, lifetime_bare, are_plain_bare (is_lifetime p) ps)

plain_head_natural : (ts : Trees) → plain_head (unplaced ts) ≡ bare_answer bare_head (plain_head ts)
plain_head_natural ts =
    tested_bare bare_head (λ r. are_plain true r.0.params) (λ r. are_plain true r.0.params) (λ r. are_plain_bare true r.0.params)
    (read_head (unplaced ts)) (read_head ts) (head_natural ts)

-- ---- values

closed_natural : (ts : Trees) → closed_run (unplaced ts) ≡ bare_answer unplaced (closed_run ts)
closed_natural ts =
    tested_bare unplaced (λ r. is_closed r.0) (λ r. is_closed r.0) (λ r. closed_bare r.0) (read_run (unplaced ts)) (read_run ts) (run_natural ts)

-- ---- all of them

natural_leaves : NaturalLeaves leaves
natural_leaves =
    record {
      type = natural_exactly unplaced_type type_trees type-bare read_type type_natural;
      qualified = natural_exactly bare_qualified (λ q. path_expr_trees q.0 q.1) (λ q. path-expr-bare q.0 q.1) read_qualified qualified_natural;
      run = closed_natural;
    }

pub leaves_natural : NaturalItems item_leaves
leaves_natural =
    record { parts = natural_leaves; head = natural_exactly bare_head between_trees between_bare plain_head plain_head_natural }
