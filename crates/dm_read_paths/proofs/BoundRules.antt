-- Bounds: what their readers decide, where the readers of the paths in them decide those.
use Rattle.std.proofs.Common.{◌≡◌, ℕ, ◌<◌, ◌≤◌, Bool, true, false, not, ◌||◌, List, [], ◌∷◌, ◌++◌, length, codes, Some, None, refl, sym, ap, ◌∙◌, subst, append-nil, arith}
use Rattle.dm_stream.specs.declared.tokens.Delim.TheVariants.{Paren}
use Rattle.dm_stream.specs.Trees.{Trees}
use Rattle.dm_read_paths.specs.declared.kind.Mode.{Mode}
use Rattle.dm_read_paths.specs.declared.kind.Mode.TheVariants.{PathOnly}
use Rattle.dm_ast.specs.Spelling.{Where, Marks, Spelling, ◌then◌, GroupAt, sees, sees_group, sees_word, sees_lifetime, sees_colons, lifetime, punct, flag, repeated, chain, range_of}
use Rattle.dm_ast.specs.TypeGrammar.{sees_bound, sees_path_word, for_lifetimes, path_spelled, segments, bound, trait_bound_spelled, bounds, some_bounds, more_bounds}
use Rattle.dm_ast.specs.Tree.{Lifetimes, TypeTree, type_tree, path, no_self, some_self, BoundTree, outlives, implements, TraitBoundTree, trait_bound, BoundTrees, no_bounds, bound_then, bounds_of, PathTree, path_tree, SegmentTrees, no_segments, segment_then, segment}
use Rattle.dm_ast.specs.Readers.{Parser, mapped, ◌and◌, read_flag, read_punct, read_lifetime, read_group, inside_at, read_chain}
use Rattle.dm_ast.specs.PlainReaders.{read_for}
use Rattle.dm_read_paths.specs.TypeReaders.{outlives_of, implements_of, trait_of, one_bound, as_path, inner_path, read_plain_trait, read_trait, read_bound, read_bounds, read_some_bounds}
use Rattle.dm_read.proofs.Deciding.{Reader, Image, pair, decides_by, decides_test, reads_and, reads_flag}
use Rattle.dm_read.proofs.Tokens.{reads_lifetime, lifetime_seen, reads_punct, punct_seen, word_seen}
use Rattle.dm_read.proofs.Groups.{pair_seen, reads_group, group_seen}
use Rattle.dm_read_paths.proofs.Listing.{reads_chain}
use Rattle.dm_read_paths.proofs.PlainParts.{reads_by, reads_for}
use Rattle.dm_read_paths.proofs.Sequences.{then_right, then_left, then_map, then_nothing}
use Rattle.dm_read_paths.proofs.TypeLists.{reads_lists, bounds_listed, bound_lists}
use Rattle.dm_read_paths.proofs.Paths.{or_first, or_second}
use Rattle.dm_read_paths.proofs.TypeRules.{path_only, ReadsDeeper}

-- ---- what a bound begins with

-- neither a lifetime nor a group, and what a bound may begin with
record TraitFront (ts : Trees) : Type 0 where
  no_lifetime : sees_lifetime ts ≡ false
  no_group : sees_group Paren ts ≡ false
  seen : sees_bound ts ≡ true

front_same : (ts us : Trees) → ts ≡ us → TraitFront us → TraitFront ts
front_same ts us e f = subst TraitFront (sym e) f

module _ (ts : Trees) where
  abbrev till_group : Bool
  till_group = sees_lifetime ts || sees 63 ts || sees_group Paren ts

  abbrev till_for : Bool
  till_for = till_group || sees_word (codes "for") ts

  abbrev till_colons : Bool
  till_colons = till_for || sees_colons ts

  lifetime_bound : sees_lifetime ts ≡ true → sees_bound ts ≡ true
  lifetime_bound e =
      or_first till_colons (sees_path_word ts) (or_first till_for (sees_colons ts) (or_first till_group (sees_word (codes "for") ts)
      (or_first (sees_lifetime ts || sees 63 ts) (sees_group Paren ts) (or_first (sees_lifetime ts) (sees 63 ts) e))))

  mark_bound : sees 63 ts ≡ true → sees_bound ts ≡ true
  mark_bound e =
      or_first till_colons (sees_path_word ts) (or_first till_for (sees_colons ts) (or_first till_group (sees_word (codes "for") ts)
      (or_first (sees_lifetime ts || sees 63 ts) (sees_group Paren ts) (or_second (sees_lifetime ts) (sees 63 ts) e))))

  group_bound : sees_group Paren ts ≡ true → sees_bound ts ≡ true
  group_bound e =
      or_first till_colons (sees_path_word ts) (or_first till_for (sees_colons ts) (or_first till_group (sees_word (codes "for") ts)
      (or_second (sees_lifetime ts || sees 63 ts) (sees_group Paren ts) e)))

  for_bound : sees_word (codes "for") ts ≡ true → sees_bound ts ≡ true
  for_bound e = or_first till_colons (sees_path_word ts) (or_first till_for (sees_colons ts) (or_second till_group (sees_word (codes "for") ts) e))

  colons_bound : sees_colons ts ≡ true → sees_bound ts ≡ true
  colons_bound e = or_first till_colons (sees_path_word ts) (or_second till_for (sees_colons ts) e)

  word_bound : sees_path_word ts ≡ true → sees_bound ts ≡ true
  word_bound e = or_second till_colons (sees_path_word ts) e

segments_front : (w : Where) (ss : SegmentTrees) (ts o : Trees) (m : Marks) → segments ss w ts o m → TraitFront ts
segments_front w no_segments ts o m s = absurd s.fact
segments_front w (segment_then (segment i as') ss) ts o m s =
    let e = s.first.first.part.spelled in
    record { no_lifetime = ap sees_lifetime e; no_group = ap (sees_group Paren) e; seen = word_bound ts (ap sees_path_word e ∙ s.first.first.fact) }

path_front : (w : Where) (p : PathTree) (ts o : Trees) (m : Marks) → path_spelled p w ts o m → TraitFront ts
path_front w (path_tree true ss) ts o m s =
    let e = s.first.spelled in
    record { no_lifetime = ap sees_lifetime e; no_group = ap (sees_group Paren) e; seen = colons_bound ts (pair_seen 58 58 w ts s.middle s.first_marks s.first) }
path_front w (path_tree false ss) ts o m s = front_same ts s.middle s.first.part.spelled (segments_front w ss s.middle o s.rest_marks s.rest)

pub path_no_lifetime : (w : Where) (p : PathTree) (ts o : Trees) (m : Marks) → path_spelled p w ts o m → sees_lifetime ts ≡ false
path_no_lifetime w p ts o m s = (path_front w p ts o m s).no_lifetime

abbrev PlainTrait : Where → Bool × (Lifetimes × PathTree) → Spelling
PlainTrait v r = flag (sees 63) r.0 (punct v 63) then (for_lifetimes v r.1.0 then path_spelled r.1.1 v)

for_front : (w : Where) (ls : Lifetimes) (p : PathTree) (ts o : Trees) (m : Marks) → (for_lifetimes w ls then path_spelled p w) ts o m → TraitFront ts
for_front w (Some ls) p ts o m s =
    let e = s.first.first.there.spelled in
    record {
      no_lifetime = ap sees_lifetime e;
      no_group = ap (sees_group Paren) e;
      seen = for_bound ts (word_seen (codes "for") w ts s.first.middle s.first.first_marks s.first.first);
    }
for_front w None p ts o m s = front_same ts s.middle s.first.part.spelled (path_front w p s.middle o s.rest_marks s.rest)

trait_front : (w : Where) (maybe : Bool) (ls : Lifetimes) (p : PathTree) (ts o : Trees) (m : Marks) → PlainTrait w (pair maybe (pair ls p)) ts o m → TraitFront ts
trait_front w true ls p ts o m s =
    let e = s.first.there.spelled in
    record { no_lifetime = ap sees_lifetime e; no_group = ap (sees_group Paren) e; seen = mark_bound ts (punct_seen 63 w ts s.middle s.first_marks s.first) }
trait_front w false ls p ts o m s = front_same ts s.middle s.first.part.spelled (for_front w ls p s.middle o s.rest_marks s.rest)

abbrev InParens : Where → Bool × (Lifetimes × PathTree) → Spelling
InParens w r = GroupAt w Paren (λ v. PlainTrait v r)

pub bound_seen : (w : Where) (b : BoundTree) (ts o : Trees) (m : Marks) → bound b w ts o m → sees_bound ts ≡ true
bound_seen w (outlives l) ts o m s = lifetime_bound ts (lifetime_seen w l ts o m s)
bound_seen w (implements (trait_bound true maybe ls p)) ts o m s = group_bound ts (group_seen w Paren (λ v. PlainTrait v (pair maybe (pair ls p))) ts o m s)
bound_seen w (implements (trait_bound false maybe ls p)) ts o m s = (trait_front w maybe ls p ts o m s).seen

trait_no_lifetime : (w : Where) (b : TraitBoundTree) (ts o : Trees) (m : Marks) → trait_bound_spelled b w ts o m → sees_lifetime ts ≡ false
trait_no_lifetime w (trait_bound true maybe ls p) ts o m s = ap sees_lifetime s.spelled
trait_no_lifetime w (trait_bound false maybe ls p) ts o m s = (trait_front w maybe ls p ts o m s).no_lifetime

-- ---- one bound

module _ (w : Where) (ts : Trees) where
  parens_back : sees_group Paren ts ≡ true → (y : TraitBoundTree) (o : Trees) (m : Marks) → trait_bound_spelled y w ts o m → Image (trait_of true) (InParens w) y ts o m
  parens_back e (trait_bound true maybe ls p) o m s = record { value = pair maybe (pair ls p); is_it = refl; spelled = s }
  parens_back e (trait_bound false maybe ls p) o m s = let f = (trait_front w maybe ls p ts o m s).no_group in absurd (cc)

  plain_back : sees_group Paren ts ≡ false → (y : TraitBoundTree) (o : Trees) (m : Marks) → trait_bound_spelled y w ts o m → Image (trait_of false) (PlainTrait w) y ts o m
  plain_back e (trait_bound true maybe ls p) o m s = let f = group_seen w Paren (λ v. PlainTrait v (pair maybe (pair ls p))) ts o m s in absurd (cc)
  plain_back e (trait_bound false maybe ls p) o m s = record { value = pair maybe (pair ls p); is_it = refl; spelled = s }

  outlives_back : sees_lifetime ts ≡ true → (y : BoundTree) (o : Trees) (m : Marks) → bound y w ts o m → Image outlives_of (lifetime w) y ts o m
  outlives_back e (outlives l) o m s = record { value = l; is_it = refl; spelled = s }
  outlives_back e (implements b) o m s = let f = trait_no_lifetime w b ts o m s in absurd (cc)

  implements_back : sees_lifetime ts ≡ false → (y : BoundTree) (o : Trees) (m : Marks) → bound y w ts o m → Image implements_of (λ b. trait_bound_spelled b w) y ts o m
  implements_back e (outlives l) o m s = let f = lifetime_seen w l ts o m s in absurd (cc)
  implements_back e (implements b) o m s = record { value = b; is_it = refl; spelled = s }

-- the paths at this level and at deeper ones are decided
abbrev pub ReadsPaths : (Where → Parser PathTree) → ℕ → Type 0
ReadsPaths bound_path n = (v : Where) → n ≤ v.level → Reader (λ p. path_spelled p v) (bound_path v)

module _ (inner : Mode → Where → Parser TypeTree) (bound_path : Where → Parser PathTree) (w : Where) (paths : ReadsPaths bound_path w.level) where
  reads_plain_trait : (v : Where) → w.level ≤ v.level → Reader (PlainTrait v) (read_plain_trait inner bound_path v)
  reads_plain_trait v h =
      reads_and (λ b. flag (sees 63) b (punct v 63)) (λ r. for_lifetimes v r.0 then path_spelled r.1 v) (read_flag (sees 63) (read_punct 63 v)) (read_for v and bound_path v)
      (reads_flag (sees 63) (punct v 63) (read_punct 63 v) (punct_seen 63 v) (reads_punct 63 v))
      (reads_and (for_lifetimes v) (λ p. path_spelled p v) (read_for v) (bound_path v) (reads_for v) (paths v h))

  reads_trait : Reader (λ b. trait_bound_spelled b w) (read_trait inner bound_path w)
  reads_trait ts =
      decides_test (λ b. trait_bound_spelled b w) ts (sees_group Paren ts)
      (mapped (trait_of true) (read_group Paren (read_plain_trait inner bound_path) w ts)) (mapped (trait_of false) (read_plain_trait inner bound_path w ts))
      (λ e. decides_by (trait_of true) (InParens w) (λ b. trait_bound_spelled b w) ts (λ x o m s. s) (parens_back w ts e) (read_group Paren (read_plain_trait inner bound_path) w ts)
      (reads_group Paren (λ r v. PlainTrait v r) (read_plain_trait inner bound_path) w (λ limit. reads_plain_trait (inside_at w limit) (omega arith)) ts))
      (λ e. decides_by (trait_of false) (PlainTrait w) (λ b. trait_bound_spelled b w) ts (λ x o m s. s) (plain_back w ts e) (read_plain_trait inner bound_path w ts)
      (reads_plain_trait w (omega arith) ts))

  pub reads_bound : Reader (λ b. bound b w) (read_bound inner bound_path w)
  reads_bound ts =
      decides_test (λ b. bound b w) ts (sees_lifetime ts) (mapped outlives_of (read_lifetime w ts)) (mapped implements_of (read_trait inner bound_path w ts))
      (λ e. decides_by outlives_of (lifetime w) (λ b. bound b w) ts (λ x o m s. s) (outlives_back w ts e) (read_lifetime w ts) (reads_lifetime w ts))
      (λ e. decides_by implements_of (λ b. trait_bound_spelled b w) (λ b. bound b w) ts (λ x o m s. s) (implements_back w ts e) (read_trait inner bound_path w ts) (reads_trait ts))

  -- ---- lists of bounds

  pub reads_bounds : Reader (λ r. bounds r.0 r.1 w) (read_bounds inner bound_path w)
  reads_bounds = reads_lists (bound_lists w) (read_bound inner bound_path w) (λ b ts o m s. ap not (bound_seen w b ts o m s)) reads_bound

-- ---- the bounds of a `dyn` or an `impl`

module _ (w : Where) where
  one_to : (b : BoundTree) (ts o : Trees) (m : Marks) → bound b w ts o m → some_bounds (one_bound b) true w ts o m
  one_to b ts o m s =
      then_nothing s (record { part = record { spelled = refl; marks = refl }; fact = refl })

  one_back : (y : BoundTrees) (ts o : Trees) (m : Marks) → some_bounds y true w ts o m → Image one_bound (λ b. bound b w) y ts o m
  one_back no_bounds ts o m s = absurd s.fact
  one_back (bound_then b no_bounds) ts o m s =
      let a : bound b w ts o s.first_marks = subst (λ x. bound b w ts x s.first_marks) s.rest.part.spelled s.first in
      record {
        value = b;
        is_it = refl;
        spelled = subst (λ k. bound b w ts o k) (sym (s.marks ∙ ap (λ l. s.first_marks ++ l) s.rest.part.marks ∙ append-nil s.first_marks)) a;
      }
  one_back (bound_then b (bound_then c bs)) ts o m s = let f = s.rest.fact in absurd (cc)

  abbrev BoundApart : BoundTree → Spelling
  BoundApart b = punct w 43 then bound b w

  more_to : (xs : List BoundTree) (ts o : Trees) (m : Marks) → repeated (sees 43) BoundApart xs ts o m → more_bounds (bounds_of xs) false w ts o m
  more_to [] ts o m s = s
  more_to (x ∷ xs) ts o m s =
      record { fact = refl; part = then_map (λ mid k r. then_map (λ a b q. more_to xs a o b q) r) (then_right (punct w 43) (bound x w) (repeated (sees 43) BoundApart xs) ts o m s) }

  some_to : (xs : List BoundTree) (ts o : Trees) (m : Marks) → chain (punct w 43) (sees 43) (λ b. bound b w) xs ts o m → some_bounds (bounds_of xs) false w ts o m
  some_to [] ts o m s = s
  some_to (x ∷ xs) ts o m s = then_map (λ a b q. more_to xs a o b q) s

  more_back : (xs : BoundTrees) (ts o : Trees) (m : Marks) → more_bounds xs false w ts o m → repeated (sees 43) BoundApart (bounds_listed xs).list ts o m
  more_back no_bounds ts o m s = s
  more_back (bound_then x xs) ts o m s =
      then_left (punct w 43) (bound x w) (repeated (sees 43) BoundApart (bounds_listed xs).list) ts o m (then_map (λ mid k r. then_map (λ a b q. more_back xs a o b q) r) s.part)

  some_back : (xs : BoundTrees) (ts o : Trees) (m : Marks) → some_bounds xs false w ts o m → chain (punct w 43) (sees 43) (λ b. bound b w) (bounds_listed xs).list ts o m
  some_back no_bounds ts o m s = s
  some_back (bound_then x xs) ts o m s = then_map (λ a b q. more_back xs a o b q) s

module _ (inner : Mode → Where → Parser TypeTree) (bound_path : Where → Parser PathTree) (w : Where) (paths : ReadsPaths bound_path w.level) where
  pub reads_some_bounds : (single : Bool) → Reader (λ bs. some_bounds bs single w) (read_some_bounds inner bound_path single w)
  reads_some_bounds true =
      reads_by one_bound (λ b. bound b w) (λ bs. some_bounds bs true w) (read_bound inner bound_path w) (one_to w) (one_back w) (reads_bound inner bound_path w paths)
  reads_some_bounds false =
      reads_by bounds_of (chain (punct w 43) (sees 43) (λ b. bound b w)) (λ bs. some_bounds bs false w) (read_chain w (read_punct 43 w) (sees 43) (read_bound inner bound_path w))
      (some_to w) (λ y ts o m s. record { value = (bounds_listed y).list; is_it = sym (bounds_listed y).again; spelled = some_back w y ts o m s })
      (reads_chain w (punct w 43) (read_punct 43 w) (sees 43) (λ b. bound b w) (read_bound inner bound_path w) (punct_seen 43 w)
      (λ ts o m s. omega (arith, ap length s.there.marks)) (reads_punct 43 w) (reads_bound inner bound_path w paths))

-- ---- paths by the reader of types

as_path_to : (v : Where) (t : TypeTree) (ts o : Trees) (m : Marks) → path_only t v ts o m → path_spelled (as_path t) v ts o m
as_path_to v (type_tree (path no_self p) range) ts o m s = s.part
as_path_to v (type_tree (path (some_self t n) p) range) ts o m s = absurd s.fact
as_path_to v (type_tree _ range) ts o m s = absurd s.fact

module _ (inner : Mode → Where → Parser TypeTree) where
  pub reads_inner_path : (v : Where) → Reader (λ t. path_only t v) (inner PathOnly v) → Reader (λ p. path_spelled p v) (inner_path inner v)
  reads_inner_path v h =
      reads_by as_path (λ t. path_only t v) (λ p. path_spelled p v) (inner PathOnly v) (as_path_to v)
      (λ p ts o m s. record { value = type_tree (path no_self p) (range_of m); is_it = refl; spelled = record { part = s; is_range = refl } }) h

  pub paths_deeper : (n k : ℕ) → n < k → ReadsDeeper inner n → ReadsPaths (inner_path inner) k
  paths_deeper n k h deep v e = reads_inner_path v (deep PathOnly v (omega (arith, h, e)))
