-- A head is of the output language where its parts are spelled alone, and its type begins with `<` behind parameters or a trait only.
use Rattle.std.proofs.Common.{◌≡◌, ℕ, Bool, true, false, nat_eq, nat_lt, List, [], ◌∷◌, ◌++◌, map, codes, Option, Some, None, refl, sym, ap, ◌∙◌, subst}
use Rattle.dm_stream.specs.declared.tokens.Punct.{Punct}
use Rattle.dm_stream.specs.declared.tokens.Spacing.TheVariants.{Alone}
use Rattle.dm_stream.specs.Layout.{nowhere}
use Rattle.dm_stream.specs.Trees.{Trees, no_trees, join, join-no_trees, join_assoc}
use Rattle.dm_ast.specs.Tree.{TypeTree, PathTree, path_tree, segment, SegmentTrees, no_segments, segment_then}
use Rattle.dm_ast.specs.TypeTokens.{type_trees, path_trees, spaced}
use Rattle.dm_ast.specs.Declarations.{ParamTree, PredicateTree}
use Rattle.dm_ast.specs.Spelling.{Where, Marks, Spelling, deepest, first_too_deep, Nothing, ◌then◌, Before, sees, sees_word, punct, colon, keyword, items, items_left}
use Rattle.dm_ast.specs.TypeGrammar.{type_spelled, path_spelled, segments}
use Rattle.dm_ast.specs.DeclarationGrammar.{param, generics, predicate, ends_where, where_clause}
use Rattle.dm_output.specs.Tokens.{comma, word, param_trees, predicate_trees, params_trees, trait_trees, where_trees}
use Rattle.dm_output.specs.Tokens as output
use Rattle.dm_read.proofs.Deciding.{deep_behind}
use Rattle.dm_reread.specs.Items.{HeadTree, between_trees}
use Rattle.dm_reread.specs.TypeLeaves.{top}
use Rattle.dm_reread.specs.HeadLeaves.{are_plain, is_some_params, listed, clause_of, trait_spelled, head_spelled, IsHead}
use Rattle.dm_reread.proofs.TypeLeafEnds.{plain_word, Stop, stop_end, stop_punct, stop_word, unmet_sees}
use Rattle.dm_reread.proofs.TypeLeafCalls.{calm_end}
use Rattle.dm_reread.proofs.TypeLeafTypes.{ext_type, ext_path}
use Rattle.dm_reread.proofs.HeadLeafParts.{ends_item, quiet_end, ext_param, ext_predicate}
use Rattle.dm_head_laws.specs.Parts.{inner, ParamAlone, PredicateAlone, TypeAlone, TraitAlone, Each}

-- ---- spelled before others, and none of its tokens too deep

pub record Stands (S : Spelling) (ts others : Trees) : Type 0 where
  pub marks : Marks
  pub spelled : S ts others marks
  pub within : first_too_deep marks ≡ None

pub stands_as : {S : Spelling} {ts us others : Trees} → ts ≡ us → Stands S us others → Stands S ts others
stands_as {S} {ts} {us} {others} e s = subst (λ x. Stands S x others) (sym e) s

pub stands_then : {A B : Spelling} {ts mid others : Trees} → Stands A ts mid → Stands B mid others → Stands (A then B) ts others
stands_then {A} {B} {ts} {mid} {others} a b =
    record {
      marks = a.marks ++ b.marks;
      spelled = record { middle = mid; first_marks = a.marks; rest_marks = b.marks; first = a.spelled; rest = b.spelled; marks = refl };
      within = deep_behind a.marks b.marks a.within ∙ b.within;
    }

-- ---- no token, a punct, and a word

pub none_stands : (test : Trees → Bool) (ts : Trees) → test ts ≡ false → Stands (Before (λ others. test others ≡ false) Nothing) ts ts
none_stands test ts e = record { marks = []; spelled = record { part = record { spelled = refl; marks = refl }; fact = e }; within = refl }

abbrev plain_punct : ℕ → Punct
plain_punct c = record { ch = c; spacing = Alone; span = nowhere }

pub punct_stands : (w : Where) (c : ℕ) (ts : Trees) → nat_lt deepest w.level ≡ false → Stands (punct w c) (join (output.punct c) ts) ts
punct_stands w c ts level =
    record {
      marks = (w.level, nowhere) ∷ [];
      spelled = record { punct = plain_punct c; is = refl; there = record { spelled = refl; marks = refl } };
      within = rw level refl;
    }

pub colon_stands : (w : Where) (ts : Trees) → nat_lt deepest w.level ≡ false → Stands (colon w) (join (output.punct 58) ts) ts
colon_stands w ts level =
    record {
      marks = (w.level, nowhere) ∷ [];
      spelled = record { punct = plain_punct 58; is = refl; lone = refl; there = record { spelled = refl; marks = refl } };
      within = rw level refl;
    }

word_stands : (l : List ℕ) (ts : Trees) → Stands (keyword top l) (join (word l) ts) ts
word_stands l ts =
    record {
      marks = (0, nowhere) ∷ [];
      spelled = record { range = nowhere; there = record { spelled = refl; marks = refl } };
      within = refl;
    }

-- ---- items with `,` between

module _ {A : Type 0} (S : A → Spelling) (trees : A → Trees) (ends : Trees → Bool) where
  -- before an end, as items have it behind them
  abbrev Ahead : A → Type 0
  Ahead x = (rest : Trees) → Stop rest → ends_item rest ≡ true → Stands (S x) (join (trees x) rest) rest

  abbrev others_trees : List A → Trees
  others_trees xs = spaced comma false (map trees xs)

  module _ (rest : Trees) (stop : Stop rest) (over : ends_item rest ≡ true) where
    left_stop : (xs : List A) → Stop (join (others_trees xs) rest)
    left_stop [] = stop
    left_stop (x ∷ xs) = stop_punct (plain_punct 44) (join (join (trees x) (others_trees xs)) rest) refl refl

    left_over : (xs : List A) → ends_item (join (others_trees xs) rest) ≡ true
    left_over [] = over
    left_over (x ∷ xs) = refl

    module _ (apart : sees 44 rest ≡ false) (w : Where) (level : nat_lt deepest w.level ≡ false) where
      left_stands : (xs : List A) → Each Ahead xs → Stands (items_left w 44 ends S xs false) (join (others_trees xs) rest) rest
      left_stands [] h = none_stands (sees 44) rest apart
      left_stands (x ∷ xs) h =
          let more : Trees = join (others_trees xs) rest in
          stands_as {us = join comma (join (trees x) more)} (ap (join comma) (join_assoc (trees x) (others_trees xs) rest))
          (stands_then (punct_stands w 44 (join (trees x) more) level)
          (stands_then (h.0 more (left_stop xs) (left_over xs)) (left_stands xs h.1)))

      items_stand : (x : A) (xs : List A) → Each Ahead (x ∷ xs) →
          Stands (items w 44 ends S (x ∷ xs) false) (join (spaced comma true (map trees (x ∷ xs))) rest) rest
      items_stand x xs h =
          let more : Trees = join (others_trees xs) rest in
          stands_as (join_assoc (trees x) (others_trees xs) rest)
          (stands_then (h.0 more (left_stop xs) (left_over xs)) (left_stands xs h.1))

pub each_by : {A : Type 0} {P Q : A → Type 0} → ((x : A) → P x → Q x) → (xs : List A) → Each P xs → Each Q xs
each_by f [] h = tt
each_by f (x ∷ xs) h = (f x h.0, each_by f xs h.1)

-- ---- the parameters

param_ahead : (p : ParamTree) → ParamAlone p → Ahead (λ x. param x inner) param_trees (sees 62) p
param_ahead p h rest stop over =
    record {
      marks = h.marks;
      spelled = ext_param rest stop p inner (param_trees p) no_trees h.marks h.spelled (quiet_end rest stop over);
      within = h.within;
    }

params_stand : (ps : List ParamTree) → Each ParamAlone ps → (rest : Trees) → (ps ≡ [] → sees 60 rest ≡ false) →
    Stands (generics (is_some_params ps) (listed ps) top) (join (params_trees ps) rest) rest
params_stand [] h rest k =
    let own = none_stands (sees 60) rest (k refl) in
    record { marks = own.marks; spelled = record { fact = λ _. refl; part = own.spelled }; within = own.within }
params_stand (p ∷ ps) h rest k =
    let all : Trees = spaced comma true (map param_trees (p ∷ ps)) in
    let more : Trees = join (output.punct 62) rest in
    let stop : Stop more = stop_punct (plain_punct 62) rest refl refl in
    let own =
    stands_as (ap (join (output.punct 60)) (join_assoc all (output.punct 62) rest))
    (stands_then (punct_stands top 60 (join all more) refl)
    (stands_then
    (items_stand (λ x. param x inner) param_trees (sees 62) more stop refl refl inner refl p ps (each_by param_ahead (p ∷ ps) h))
    (punct_stands top 62 rest refl))) in
    record { marks = own.marks; spelled = record { fact = λ e. absurd (cc); part = own.spelled }; within = own.within }

-- ---- the trait and the type

path_stands : (p : PathTree) → TraitAlone (Some p) → (rest : Trees) → Stop rest →
    Stands (path_spelled p top) (join (path_trees nowhere p) rest) rest
path_stands p h rest stop =
    record {
      marks = h.marks;
      spelled = ext_path rest stop p top (path_trees nowhere p) no_trees h.marks h.spelled (calm_end rest stop);
      within = h.within;
    }

for_stop : (rest : Trees) → Stop (join (word (codes "for")) rest)
for_stop rest = stop_word (plain_word (codes "for")) rest refl

trait_stands : (o : Option PathTree) → TraitAlone o → (rest : Trees) → Stands (trait_spelled o top) (join (trait_trees o) rest) rest
trait_stands None h rest = record { marks = []; spelled = record { spelled = refl; marks = refl }; within = refl }
trait_stands (Some p) h rest =
    stands_as (join_assoc (path_trees nowhere p) (word (codes "for")) rest)
    (stands_then (path_stands p h (join (word (codes "for")) rest) (for_stop rest)) (word_stands (codes "for") rest))

type_stands : (x : TypeTree) → TypeAlone x → (rest : Trees) → Stop rest → Stands (type_spelled x false top) (join (type_trees x) rest) rest
type_stands x h rest stop =
    record {
      marks = h.marks;
      spelled = ext_type rest stop x false top (type_trees x) no_trees h.marks h.spelled (calm_end rest stop);
      within = h.within;
    }

-- ---- the predicates

predicate_ahead : (x : PredicateTree) → PredicateAlone x → Ahead (λ x. predicate x top) predicate_trees ends_where x
predicate_ahead x h rest stop over =
    record {
      marks = h.marks;
      spelled = ext_predicate rest stop x top (predicate_trees x) no_trees h.marks h.spelled (quiet_end rest stop over);
      within = h.within;
    }

where_stands : (ps : List PredicateTree) → Each PredicateAlone ps → Stands (where_clause (clause_of ps) top) (where_trees ps) no_trees
where_stands [] h = none_stands (sees_word (codes "where")) no_trees refl
where_stands (p ∷ ps) h =
    let all : Trees = spaced comma true (map predicate_trees (p ∷ ps)) in
    stands_then (word_stands (codes "where") all)
    (stands_as (sym (join-no_trees all))
    (items_stand (λ x. predicate x top) predicate_trees ends_where no_trees stop_end refl refl top refl p ps
    (each_by predicate_ahead (p ∷ ps) h)))

where_stop : (ps : List PredicateTree) → Stop (where_trees ps)
where_stop [] = stop_end
where_stop (p ∷ ps) =
    stop_word (plain_word (codes "where")) (spaced comma true (map predicate_trees (p ∷ ps))) refl

-- ---- no `<` in front, where no parameters are

segments_front : (ss : SegmentTrees) (w : Where) (ts others : Trees) (m : Marks) → segments ss w ts others m → sees 60 ts ≡ false
segments_front no_segments w ts others m s = absurd s.fact
segments_front (segment_then (segment i a) ss) w ts others m s = ap (sees 60) s.first.first.part.spelled

path_front : (p : PathTree) (w : Where) (ts others : Trees) (m : Marks) → path_spelled p w ts others m → sees 60 ts ≡ false
path_front (path_tree true ss) w ts others m s = ap (sees 60) s.first.spelled ∙ ap (λ c. nat_eq c 60) s.first.is_first
path_front (path_tree false ss) w ts others m s =
    ap (sees 60) s.first.part.spelled ∙ segments_front ss w s.middle others s.rest_marks s.rest

head_front : (o : Option PathTree) (x : TypeTree) (us : Trees) → Stop us → TraitAlone o → (o ≡ None → sees 60 (type_trees x) ≡ false) →
    sees 60 (join (trait_trees o) (join (type_trees x) us)) ≡ false
head_front None x us stop h k = unmet_sees us stop 60 refl (type_trees x) (k refl)
head_front (Some p) x us stop h k =
    let rest : Trees = join (type_trees x) us in
    let more : Trees = join (word (codes "for")) rest in
    let s = path_stands p h more (for_stop rest) in
    ap (sees 60) (join_assoc (path_trees nowhere p) (word (codes "for")) rest) ∙
    path_front p top (join (path_trees nowhere p) more) more s.marks s.spelled

-- ---- all of it

pub head_from_parts : (h : HeadTree) → Each ParamAlone h.params → are_plain true h.params ≡ true → TraitAlone h.trait_path →
    TypeAlone h.ty → Each PredicateAlone h.predicates → (h.params ≡ [] → h.trait_path ≡ None → sees 60 (type_trees h.ty) ≡ false) → IsHead h
head_from_parts h ps plain o x qs k =
    let last : Trees = where_trees h.predicates in
    let named : Trees = join (trait_trees h.trait_path) (join (type_trees h.ty) last) in
    let own : Stands (head_spelled h top) (between_trees h) no_trees =
    stands_then (params_stand h.params ps named (λ e. head_front h.trait_path h.ty last (where_stop h.predicates) o (k e)))
    (stands_then (trait_stands h.trait_path o (join (type_trees h.ty) last))
    (stands_then (type_stands h.ty x last (where_stop h.predicates)) (where_stands h.predicates qs))) in
    record { marks = own.marks; spelled = own.spelled; within = own.within; plain = plain }
