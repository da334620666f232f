-- Predicates have the tokens that were read; what is not read keeps its spacing.
use Rattle.std.specs.Prelude.{flat_map}
use Rattle.std.proofs.Common.{◌≡◌, refl, ℕ, Bool, false, List, [], ◌∷◌, map, codes, not, Option, Some, None}
use Rattle.dm_stream.specs.declared.seq.Punctuated.{Punctuated}
use Rattle.dm_stream.specs.declared.tokens.Lifetime.{Lifetime}
use Rattle.dm_stream.specs.declared.tokens.Token.TheVariants as t
use Rattle.dm_stream.specs.Layout.{nowhere}
use Rattle.dm_stream.specs.Trees.{Trees, join}
use Rattle.dm_ast.specs.Tree.{BoundTree, bounds_of}
use Rattle.dm_ast.specs.Declarations.{Listed, PredicateTree, lifetime_predicate, type_predicate}
use Rattle.dm_ast.specs.Spelling.{Where, Marks, Spelling, sees_lifetime, lifetime, items, items_left}
use Rattle.dm_ast.specs.DeclarationGrammar.{lifetime_bounds, bound_list, predicate, ends_where, where_clause}
use Rattle.dm_ast.specs.TypeTokens as spell
use Rattle.dm_ast.specs.DeclarationTokens as written
use Rattle.dm_syntax.specs.Unread.{Part, in_bound_list, in_predicate, in_where}
use Rattle.dm_syntax.proofs.Back.{Back, back_join, back_none, back_token, back_word, backs}
use Rattle.dm_syntax.proofs.Walked.{walk_punct, walk_lone, Left, walk_as, walk_first, walk_for, walk_last_item, walk_next, walk_no_items}
use Rattle.dm_syntax.proofs.WalkedTypes.{walk_bounds, walk_type}

-- a list, of which each item has its tokens
module _ {A : Type 0} (c : ℕ) (w : Where) (ends : Trees → Bool) (item : A → Spelling) (parts : A → List Part) (trees_of : A → Trees)
    (back : (x : A) (ts o : Trees) (m : Marks) → item x ts o m → Back (parts x) (trees_of x) ts o) where
  back_items_left : (xs : List A) (u : Bool) (ts o : Trees) (m : Marks) → items_left w c ends item xs u ts o m → Back (flat_map parts xs) (Left c nowhere (map trees_of xs) u) ts o
  back_items_left [] u ts o m s = walk_last_item backs nowhere w c ends u ts o m s
  back_items_left (x ∷ xs) u ts o m s =
      walk_next backs c nowhere (trees_of x) (map trees_of xs) u ts s.middle s.rest.middle o (walk_punct backs nowhere w c ts s.middle s.first_marks s.first)
      (back x s.middle s.rest.middle s.rest.first_marks s.rest.first) (back_items_left xs u s.rest.middle o s.rest.rest_marks s.rest.rest)

  pub back_items : (xs : List A) (u : Bool) (ts o : Trees) (m : Marks) → items w c ends item xs u ts o m → Back (flat_map parts xs) (spell.listed c nowhere (map trees_of xs) u) ts o
  back_items [] u ts o m s = walk_no_items backs c nowhere w ends u ts o m s
  back_items (x ∷ xs) u ts o m s =
      walk_first backs c nowhere (trees_of x) (map trees_of xs) u ts s.middle o (back x ts s.middle s.first_marks s.first)
      (back_items_left xs u s.middle o s.rest_marks s.rest)

-- a lifetime is read whole
abbrev in_lifetime : Lifetime → List Part
in_lifetime l = []

no_parts : (ls : List Lifetime) → flat_map in_lifetime ls ≡ []
no_parts [] = refl
no_parts (l ∷ ls) = no_parts ls

-- lifetimes with `+` between
pub back_lifetime_bounds : (w : Where) (ls : Punctuated Lifetime) (ts o : Trees) (m : Marks) → lifetime_bounds w ls ts o m →
    Back [] (spell.listed 43 nowhere (map spell.lifetime ls.items) ls.trailing) ts o
back_lifetime_bounds w ls ts o m s =
    let all : Trees = spell.listed 43 nowhere (map spell.lifetime ls.items) ls.trailing in
    walk_as backs all all ts o (no_parts ls.items) refl
    (back_items 43 w (λ us. not (sees_lifetime us)) (lifetime w) in_lifetime spell.lifetime (λ l i j k h. back_token w (t.Lifetime l) i j k h) ls.items ls.trailing ts o m s)

pub back_bound_list : (w : Where) (bs : Listed BoundTree) (ts o : Trees) (m : Marks) → bound_list w bs ts o m → Back (in_bound_list bs) (written.bound_list_trees bs) ts o
back_bound_list w bs ts o m s = walk_bounds backs (bounds_of bs.items) nowhere bs.trailing w ts o m s

pub back_predicate : (p : PredicateTree) (w : Where) (ts o : Trees) (m : Marks) → predicate p w ts o m → Back (in_predicate p) (written.predicate_trees p) ts o
back_predicate (lifetime_predicate l ls) w ts o m s =
    let q = s.rest in
    let all : Trees = spell.listed 43 nowhere (map spell.lifetime ls.items) ls.trailing in
    back_join (spell.lifetime l) (join (spell.punct 58 nowhere) all) ts s.middle o (back_token w (t.Lifetime l) ts s.middle s.first_marks s.first)
    (back_join (spell.punct 58 nowhere) all s.middle q.middle o (walk_lone backs nowhere w 58 (58 ∷ []) s.middle q.middle q.first_marks q.first)
    (back_lifetime_bounds w ls q.middle o q.rest_marks q.rest))
back_predicate (type_predicate ls x bs) w ts o m s =
    let q = s.rest in
    let z = q.rest in
    let all : Trees = written.bound_list_trees bs in
    back_join (spell.for_trees nowhere ls) (join (spell.type_trees x) (join (spell.punct 58 nowhere) all)) ts s.middle o
    (walk_for backs nowhere w ls ts s.middle s.first_marks s.first)
    (back_join (spell.type_trees x) (join (spell.punct 58 nowhere) all) s.middle q.middle o (walk_type backs x false w s.middle q.middle q.first_marks q.first)
    (back_join (spell.punct 58 nowhere) all q.middle z.middle o (walk_lone backs nowhere w 58 (58 ∷ []) q.middle z.middle z.first_marks z.first)
    (back_bound_list w bs z.middle o z.rest_marks z.rest)))

-- `where`, also before no predicate
pub back_where : (c : Option (Listed PredicateTree)) (w : Where) (ts o : Trees) (m : Marks) → where_clause c w ts o m → Back (in_where c) (written.where_trees c) ts o
back_where None w ts o m s = back_none ts o s.part.spelled
back_where (Some ps) w ts o m s =
    back_join (spell.word (codes "where") nowhere) (spell.listed 44 nowhere (map written.predicate_trees ps.items) ps.trailing) ts s.middle o
    (back_word nowhere w (codes "where") ts s.middle s.first_marks s.first)
    (back_items 44 w ends_where (λ p. predicate p w) in_predicate written.predicate_trees (λ p i j k h. back_predicate p w i j k h) ps.items ps.trailing s.middle o s.rest_marks s.rest)
