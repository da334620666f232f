-- What stands between `impl` and the brace, where it is read with the tokens that were passed, is of the grammar; and so all leaves are.
use Rattle.std.proofs.Common.{◌≡◌, ℕ, ◌+◌, Bool, true, false, List, [], ◌∷◌, ◌++◌, map, length, codes, Option, option_map, Some, None, refl, sym, ap, ap₂, ◌∙◌, subst, append-nil, arith}
use Rattle.std.proofs.lemmas.Bool.{and_parts}
use Rattle.std.proofs.lemmas.List.{length-append, length-map}
use Rattle.std.proofs.lemmas.Option.{same_Some}
use Rattle.dm_stream.specs.declared.tokens.Span.{Span}
use Rattle.dm_stream.specs.declared.tokens.Token.TheVariants as t
use Rattle.dm_stream.specs.declared.tokens.Entry.{Entry}
use Rattle.dm_stream.specs.declared.tokens.Entry.TheVariants as entry
use Rattle.dm_stream.specs.Layout.{nowhere}
use Rattle.dm_stream.specs.Trees.{Trees, no_trees, token, join, join-no_trees, flatten}
use Rattle.dm_stream.proofs.Trees.{flatten-join}
use Rattle.dm_ast.specs.Tree.{TypeTree, type_tree, path, no_self, PathTree}
use Rattle.dm_ast.specs.Declarations.{Listed, ParamTree, PredicateTree}
use Rattle.dm_ast.specs.Spelling.{Where, Marks, Spelling, ◌then◌, TokenAt, first_too_deep, sees_word, keyword}
use Rattle.dm_ast.specs.TypeGrammar.{type_spelled}
use Rattle.dm_ast.specs.TypeTokens as spell
use Rattle.dm_ast.specs.TypeTokens.{type_trees}
use Rattle.dm_ast.specs.DeclarationGrammar.{no_params, generics, where_clause}
use Rattle.dm_ast.specs.Readers.{Parser, tail, entry_span}
use Rattle.dm_output.specs.Tokens.{param_trees, predicate_trees, params_trees, where_trees, trait_trees}
use Rattle.dm_same.specs.SameTypes.{all_same, same_entry}
use Rattle.dm_read.specs.DeclarationReaders as decl
use Rattle.dm_read.proofs.Deciding.{Covers, covers_then, covers_none, IsRead, Reader, deep_behind}
use Rattle.dm_read_paths.specs.WholeReaders.{whole_type, parts}
use Rattle.dm_read_paths.specs.Bindings.{path_alone}
use Rattle.dm_type_eq.proofs.Cutting.{cut_end}
use Rattle.dm_type_eq.proofs.Respelling.{Lowered, lowered_within}
use Rattle.dm_type_eq.specs.Unplaced.{unplaced_path, unplaced_type}
use Rattle.dm_reread.specs.Bare.{bare_param, bare_predicate}
use Rattle.dm_reread.specs.BareReading.{NaturalItems, bare_head}
use Rattle.dm_reread.specs.Leaves.{Answer}
use Rattle.dm_reread.specs.Reading as reading
use Rattle.dm_reread.specs.Items.{HeadTree, between_trees}
use Rattle.dm_reread.specs.TypeLeaves.{top, read_type}
use Rattle.dm_reread.specs.HeadLeaves.{read_generics, read_where, trait_first, predicates_in, head_in, read_named, read_head, are_plain, plain_head, is_some_params, listed, clause_of, trait_spelled, head_spelled, IsHead}
use Rattle.dm_reread.specs.ExactLeaves.{passed, has_entries, exact_head}
use Rattle.dm_reread.specs.ReadBack.{leaf_grammar, leaves, item_grammar, item_leaves}
use Rattle.dm_reread.proofs.TypeLeaf.{decided_answer, whole_decided}
use Rattle.dm_reread.proofs.HeadLeaf.{generics_decided, where_decided, first_within, rest_within}
use Rattle.dm_read_laws.specs.Sound.{IsBare, Spells, SoundLeaves, SoundItems}
use Rattle.dm_read_laws.proofs.Answers.{then_by, tested_some, cond_some, same_answer}
use Rattle.dm_read_laws.proofs.SoundSteps.{word_parts}
use Rattle.dm_read_laws.proofs.ExactSound.{is_read, natural_answer, passed_front, exact_answer, exact_spells}
use Rattle.dm_read_laws.proofs.NaturalLeaves.{between_bare}
use Rattle.dm_read_laws.proofs.TypeSound.{type_is_read, type_sound}
use Rattle.dm_read_laws.proofs.PathSound.{qualified_sound}
use Rattle.dm_read_laws.proofs.RunSound.{run_sound}
use Rattle.dm_read_laws.proofs.HeadAgain.{bare_params, generic_trees, clause_trees, bare_clause, before_for, before_for_trees, between, all_trees, between_again}

-- ---- marks, and the tokens that they are of

both_within : (m n : Marks) → first_too_deep m ≡ None → first_too_deep n ≡ None → first_too_deep (m ++ n) ≡ None
both_within m n e f = deep_behind m n e ∙ f

-- as many marks as tokens and delimiters
covers_length : (ts others : Trees) (m : Marks) (c : Covers ts others m) → length c.front ≡ length m
covers_length ts others m c = sym (length-map c.front entry_span) ∙ ap length c.ranges ∙ length-map m (λ x. x.1)

-- what is spelled, by what its reader decides
covers_spelled : {A : Type 0} (S : A → Spelling) (p : Parser A) → Reader S p → (x : A) (ts others : Trees) (m : Marks) → S x ts others m →
    first_too_deep m ≡ None → Covers ts others m
covers_spelled S p h x ts others m s w =
    let r : IsRead S ts x others = is_read S p h ts others x (decided_answer S ts others x m (p ts) (h ts) s w) in
    subst (λ n. Covers ts others n) (sym (r.only x others m s).marks) r.covers

covers_token : (w : Where) (c : t.the_data) (ts others : Trees) (m : Marks) → TokenAt w c ts others m → Covers ts others m
covers_token w c ts others m s =
    record { front = entry.Token c ∷ []; splits = ap flatten s.spelled; ranges = ap (λ n. map (λ x. x.1) n) (sym s.marks) }

type_covers : (x : TypeTree) (ts others : Trees) (m : Marks) → type_spelled x false top ts others m → first_too_deep m ≡ None → Covers ts others m
type_covers x ts others m s w = covers_spelled (λ y. type_spelled y false top) (whole_type top) whole_decided x ts others m s w

module _ {A B : Spelling} (f : (ts others : Trees) (m : Marks) → A ts others m → first_too_deep m ≡ None → Covers ts others m)
    (g : (ts others : Trees) (m : Marks) → B ts others m → first_too_deep m ≡ None → Covers ts others m) where
  then_covers : (ts others : Trees) (m : Marks) → (A then B) ts others m → first_too_deep m ≡ None → Covers ts others m
  then_covers ts others m s w =
      subst (Covers ts others) (sym s.marks)
      (covers_then (f ts s.middle s.first_marks s.first (first_within s w)) (g s.middle others s.rest_marks s.rest (rest_within s w)))

before_for_covers : (o : Option TypeTree) (ts others : Trees) (m : Marks) → before_for o top ts others m → first_too_deep m ≡ None → Covers ts others m
before_for_covers None ts others m s w = subst (Covers ts others) (sym s.marks) (subst (λ z. Covers ts z []) s.spelled (covers_none ts))
before_for_covers (Some x) ts others m s w =
    then_covers {A = type_spelled x false top} {B = keyword top (codes "for")} (type_covers x)
    (λ us vs n r v. covers_token top (t.Ident record { name = codes "for"; raw = false; span = r.range }) us vs n r.there) ts others m s w

between_covers : (angled : Bool) (ps : Listed ParamTree) (o : Option TypeTree) (x : TypeTree) (c : Option (Listed PredicateTree)) →
    (ts others : Trees) (m : Marks) → between angled ps o x c top ts others m → first_too_deep m ≡ None → Covers ts others m
between_covers angled ps o x c =
    then_covers {A = generics angled ps top} {B = before_for o top then (type_spelled x false top then where_clause c top)}
    (covers_spelled (λ v. generics v.0 v.1 top) (decl.read_generics parts top) generics_decided (angled, ps))
    (then_covers {A = before_for o top} {B = type_spelled x false top then where_clause c top} (before_for_covers o)
    (then_covers {A = type_spelled x false top} {B = where_clause c top} (type_covers x)
    (covers_spelled (λ v. where_clause v top) (decl.read_where parts top) where_decided c)))

-- ---- a path before `for`

for_word : (ts : Trees) → sees_word (codes "for") ts ≡ true → (m : Marks) × keyword top (codes "for") ts (tail ts) m × (first_too_deep m ≡ None)
for_word (token (t.Ident i) ts) e =
    let h = word_parts (codes "for") i e in (
      (0, i.span) ∷ [],
      record {
        range = i.span;
        there = record { spelled = ap₂ (λ x y. token (t.Ident record { name = x; raw = y; span = i.span }) ts) h.1 h.0; marks = refl };
      },
      refl,
    )
for_word _ e = absurd (cc)

-- the type that such a path is
abbrev as_type : Span → Option PathTree → Option TypeTree
as_type range o = option_map (λ p. type_tree (path no_self p) range) o

record IsPath (x : TypeTree) (p : PathTree) : Type 0 where
  range : Span
  is : x ≡ type_tree (path no_self p) range

is_path : (x : TypeTree) (p : PathTree) → path_alone x ≡ Some p → IsPath x p
is_path (type_tree (path no_self q) range) p e = record { range = range; is = ap (λ o. type_tree (path no_self o) range) (same_Some q p e) }
is_path _ p e = absurd (cc)

-- the trait and the type
record IsNamed (o : Option PathTree) (x : TypeTree) (ts us : Trees) : Type 0 where
  range : Span
  middle : Trees
  first_marks : Marks
  rest_marks : Marks
  first : before_for (as_type range o) top ts middle first_marks
  rest : type_spelled x false top middle us rest_marks
  first_fits : first_too_deep first_marks ≡ None
  rest_fits : first_too_deep rest_marks ≡ None

abbrev Named : Type 0
Named = Option PathTree × TypeTree

for_trait : (ts mid us : Trees) (y : TypeTree) (p : PathTree) (x : TypeTree) (m : Marks) → IsRead (λ z. type_spelled z false top) ts y mid → IsPath y p →
    keyword top (codes "for") mid (tail mid) m → first_too_deep m ≡ None → IsRead (λ z. type_spelled z false top) (tail mid) x us → IsNamed (Some p) x ts us
for_trait ts mid us y p x m r q w f s =
    record {
      range = q.range;
      middle = tail mid;
      first_marks = r.marks ++ m;
      rest_marks = s.marks;
      first = record {
        middle = mid;
        first_marks = r.marks;
        rest_marks = m;
        first = subst (λ z. type_spelled z false top ts mid r.marks) q.is r.spelled;
        rest = w;
        marks = refl;
      };
      rest = s.spelled;
      first_fits = both_within r.marks m r.within f;
      rest_fits = s.within;
    }

module _ (ts mid us : Trees) (y : TypeTree) (r : IsRead (λ z. type_spelled z false top) ts y mid) (o : Option PathTree) (x : TypeTree) where
  alone : ◌≡◌ {A = Answer Named} (Some ((None, y), mid)) (Some ((o, x), us)) → IsNamed o x ts us
  alone e =
      same_answer (λ (z : Named × Trees). IsNamed z.0.0 z.0.1 ts z.1) ((None, y), mid) ((o, x), us) e
      (record {
        range = nowhere;
        middle = ts;
        first_marks = [];
        rest_marks = r.marks;
        first = record { spelled = refl; marks = refl };
        rest = r.spelled;
        first_fits = refl;
        rest_fits = r.within;
      })

  abbrev behind_for : PathTree → Answer Named
  behind_for p = reading.then (read_type (tail mid)) (λ a. Some ((Some p, a.0), a.1))

  with_trait : sees_word (codes "for") mid ≡ true → reading.then (path_alone y) behind_for ≡ Some ((o, x), us) → IsNamed o x ts us
  with_trait f e =
      let w = for_word mid f in
      then_by {A = PathTree} {B = Named × Trees} (path_alone y) behind_for ((o, x), us) (IsNamed o x ts us) e
      (λ p h e'. then_by {A = TypeTree × Trees} {B = Named × Trees} (read_type (tail mid)) (λ v. Some ((Some p, v.0), v.1)) ((o, x), us)
      (IsNamed o x ts us) e'
      (λ v i e''.
      same_answer (λ (z : Named × Trees). IsNamed z.0.0 z.0.1 ts z.1) ((Some p, v.0), v.1) ((o, x), us) e''
      (for_trait ts mid v.1 y p v.0 w.0 r (is_path y p h) w.1 w.2 (type_is_read (tail mid) v.1 v.0 i))))

  by_for : trait_first y mid ≡ Some ((o, x), us) → IsNamed o x ts us
  by_for e =
      cond_some {A = Named × Trees} (sees_word (codes "for") mid) (reading.then (path_alone y) behind_for) (Some ((None, y), mid)) ((o, x), us)
      (IsNamed o x ts us) e with_trait (λ f. alone)

named_read : (ts us : Trees) (o : Option PathTree) (x : TypeTree) → read_named ts ≡ Some ((o, x), us) → IsNamed o x ts us
named_read ts us o x e =
    then_by {A = TypeTree × Trees} {B = Named × Trees} (read_type ts) (λ v. trait_first v.0 v.1) ((o, x), us) (IsNamed o x ts us) e
    (λ v h f. by_for ts v.1 us v.0 (type_is_read ts v.1 v.0 h) o x f)

-- ---- all that is read

record IsHeadRead (h : HeadTree) (ts us : Trees) : Type 0 where
  angled : Bool
  params : Listed ParamTree
  range : Span
  clause : Option (Listed PredicateTree)
  marks : Marks
  spelled : between angled params (as_type range h.trait_path) h.ty clause top ts us marks
  within : first_too_deep marks ≡ None
  params_are : params.items ≡ h.params
  predicates_are : predicates_in clause ≡ h.predicates

abbrev Params : Type 0
Params = Bool × Listed ParamTree

abbrev Clause : Type 0
Clause = Option (Listed PredicateTree)

head_parts : (ts mid more us : Trees) (angled : Bool) (ps : Listed ParamTree) (o : Option PathTree) (x : TypeTree) (c : Clause) →
    IsRead (λ (v : Params). generics v.0 v.1 top) ts (angled, ps) mid → IsNamed o x mid more → IsRead (λ v. where_clause v top) more c us →
    IsHeadRead (head_in ps (o, x) c) ts us
head_parts ts mid more us angled ps o x c g n w =
    record {
      angled = angled;
      params = ps;
      range = n.range;
      clause = c;
      marks = g.marks ++ (n.first_marks ++ (n.rest_marks ++ w.marks));
      spelled = record {
        middle = mid;
        first_marks = g.marks;
        rest_marks = n.first_marks ++ (n.rest_marks ++ w.marks);
        first = g.spelled;
        rest = record {
          middle = n.middle;
          first_marks = n.first_marks;
          rest_marks = n.rest_marks ++ w.marks;
          first = n.first;
          rest = record { middle = more; first_marks = n.rest_marks; rest_marks = w.marks; first = n.rest; rest = w.spelled; marks = refl };
          marks = refl;
        };
        marks = refl;
      };
      within = both_within g.marks (n.first_marks ++ (n.rest_marks ++ w.marks)) g.within
          (both_within n.first_marks (n.rest_marks ++ w.marks) n.first_fits (both_within n.rest_marks w.marks n.rest_fits w.within));
      params_are = refl;
      predicates_are = refl;
    }

-- behind the parameters
behind_generics : (ts mid us : Trees) (h : HeadTree) (angled : Bool) (ps : Listed ParamTree) →
    IsRead (λ (v : Params). generics v.0 v.1 top) ts (angled, ps) mid →
    reading.then (read_named mid) (λ x. reading.then {A = Clause × Trees} {B = HeadTree × Trees} (read_where x.1) (λ c. Some (head_in ps x.0 c.0, c.1))) ≡
    Some (h, us) → IsHeadRead h ts us
behind_generics ts mid us h angled ps g e =
    then_by {A = Named × Trees} {B = HeadTree × Trees} (read_named mid)
    (λ x. reading.then (read_where x.1) (λ c. Some (head_in ps x.0 c.0, c.1))) (h, us) (IsHeadRead h ts us) e
    (λ x i e'. then_by {A = Clause × Trees} {B = HeadTree × Trees} (read_where x.1) (λ c. Some (head_in ps x.0 c.0, c.1)) (h, us)
    (IsHeadRead h ts us) e'
    (λ c j f.
    same_answer (λ (z : HeadTree × Trees). IsHeadRead z.0 ts z.1) (head_in ps x.0 c.0, c.1) (h, us) f
    (head_parts ts mid x.1 c.1 angled ps x.0.0 x.0.1 c.0 g (named_read mid x.1 x.0.0 x.0.1 i)
    (is_read (λ v. where_clause v top) (decl.read_where parts top) where_decided x.1 c.1 c.0 j))))

head_read : (ts us : Trees) (h : HeadTree) → read_head ts ≡ Some (h, us) → IsHeadRead h ts us
head_read ts us h e =
    then_by {A = Params × Trees} {B = HeadTree × Trees} (read_generics ts)
    (λ ps. reading.then (read_named ps.1) (λ x. reading.then (read_where x.1) (λ c. Some (head_in ps.0.1 x.0 c.0, c.1)))) (h, us)
    (IsHeadRead h ts us) e
    (λ ps i f.
    behind_generics ts ps.1 us h ps.0.0 ps.0.1
    (is_read (λ v. generics v.0 v.1 top) (decl.read_generics parts top) generics_decided ts ps.1 ps.0 i) f)

-- ---- how many tokens and delimiters more than the head's own: those of a comma behind the last, of empty brackets and of a lone `where`

abbrev count : Trees → ℕ
count ts = length (flatten ts)

count_join : (a b : Trees) → count (join a b) ≡ count a + count b
count_join a b = ap length (flatten-join a b) ∙ length-append (flatten a) (flatten b)

abbrev params_more : Bool → List ParamTree → Bool → ℕ
params_more false ps trailing = 0
params_more true [] false = 2
params_more true [] true = 3
params_more true (p ∷ ps) false = 0
params_more true (p ∷ ps) true = 1

abbrev clause_more : List PredicateTree → Bool → ℕ
clause_more [] false = 1
clause_more [] true = 2
clause_more (p ∷ ps) false = 0
clause_more (p ∷ ps) true = 1

abbrev where_more : Clause → ℕ
where_more None = 0
where_more (Some ps) = clause_more ps.items ps.trailing

-- a comma behind the last
comma_count : (xs : List Trees) → count (spell.listed 44 nowhere xs true) ≡ count (spell.spaced (spell.punct 44 nowhere) true xs) + 1
comma_count xs = count_join (spell.spaced (spell.punct 44 nowhere) true xs) (spell.punct 44 nowhere)

no_comma : (xs : List Trees) → spell.listed 44 nowhere xs false ≡ spell.spaced (spell.punct 44 nowhere) true xs
no_comma xs = join-no_trees (spell.spaced (spell.punct 44 nowhere) true xs)

angled_count : (ps : List ParamTree) (trailing : Bool) →
    count (spell.angle_trees nowhere (map param_trees ps) trailing) ≡ count (params_trees ps) + params_more true ps trailing
angled_count [] false = refl
angled_count [] true = refl
angled_count (p ∷ ps) false =
    let e : spell.angle_trees nowhere (map param_trees (p ∷ ps)) false ≡ params_trees (p ∷ ps) =
    ap (λ x. join (spell.punct 60 nowhere) (join x (spell.punct 62 nowhere))) (no_comma (map param_trees (p ∷ ps))) in
    let f = ap count e in
    omega (arith, f)
angled_count (p ∷ ps) true =
    let xs : List Trees = map param_trees (p ∷ ps) in
    let all : Trees = spell.listed 44 nowhere xs true in
    let own : Trees = spell.spaced (spell.punct 44 nowhere) true xs in
    let a : count (join all (spell.punct 62 nowhere)) ≡ count all + 1 = count_join all (spell.punct 62 nowhere) in
    let b : count (join own (spell.punct 62 nowhere)) ≡ count own + 1 = count_join own (spell.punct 62 nowhere) in
    let c : count all ≡ count own + 1 = comma_count xs in
    let d : count (spell.angle_trees nowhere xs true) ≡ 1 + count (join all (spell.punct 62 nowhere)) =
    count_join (spell.punct 60 nowhere) (join all (spell.punct 62 nowhere)) in
    let e : count (params_trees (p ∷ ps)) ≡ 1 + count (join own (spell.punct 62 nowhere)) =
    count_join (spell.punct 60 nowhere) (join own (spell.punct 62 nowhere)) in
    omega (arith, a, b, c, d, e)

generic_count : (angled : Bool) (ps : Listed ParamTree) → (angled ≡ false → ps ≡ no_params) →
    count (generic_trees angled ps) ≡ count (params_trees ps.items) + params_more angled ps.items ps.trailing
generic_count true ps h = angled_count ps.items ps.trailing
generic_count false ps h = let e : count (params_trees ps.items) ≡ 0 = ap (λ (q : Listed ParamTree). count (params_trees q.items)) (h refl) in omega (arith, e)

listed_count : (ps : List PredicateTree) (trailing : Bool) →
    count (clause_trees (Some (record { items = ps; trailing = trailing }))) ≡ count (where_trees ps) + clause_more ps trailing
listed_count [] false = refl
listed_count [] true = refl
listed_count (p ∷ ps) false =
    let f = ap (λ x. count (join (spell.word (codes "where") nowhere) x)) (no_comma (map predicate_trees (p ∷ ps))) in
    omega (arith, f)
listed_count (p ∷ ps) true =
    let xs : List Trees = map predicate_trees (p ∷ ps) in
    let word : Trees = spell.word (codes "where") nowhere in
    let a : count (join word (spell.listed 44 nowhere xs true)) ≡ 1 + count (spell.listed 44 nowhere xs true) =
    count_join word (spell.listed 44 nowhere xs true) in
    let b : count (join word (spell.spaced (spell.punct 44 nowhere) true xs)) ≡ 1 + count (spell.spaced (spell.punct 44 nowhere) true xs) =
    count_join word (spell.spaced (spell.punct 44 nowhere) true xs) in
    omega (arith, a, b, comma_count xs)

clause_count : (c : Clause) → count (clause_trees c) ≡ count (where_trees (predicates_in c)) + where_more c
clause_count None = refl
clause_count (Some ps) = listed_count ps.items ps.trailing

-- where there are none
params_exact : (angled : Bool) (ps : Listed ParamTree) → (angled ≡ false → ps ≡ no_params) → params_more angled ps.items ps.trailing ≡ 0 →
    (angled ≡ is_some_params ps.items) × (ps ≡ listed ps.items)
params_exact false ps h e =
    (sym (ap (λ (q : Listed ParamTree). is_some_params q.items) (h refl)), h refl ∙ ap (λ (q : Listed ParamTree). listed q.items) (sym (h refl)))
params_exact true ps h e = by ps.items ps.trailing e
  where
    by : (xs : List ParamTree) (u : Bool) → params_more true xs u ≡ 0 →
        (true ≡ is_some_params xs) × (◌≡◌ {A = Listed ParamTree} (record { items = xs; trailing = u }) (listed xs))
    by [] false f = absurd (omega (arith, f))
    by [] true f = absurd (omega (arith, f))
    by (x ∷ xs) false f = (refl, refl)
    by (x ∷ xs) true f = absurd (omega (arith, f))

clause_exact : (c : Clause) → where_more c ≡ 0 → c ≡ clause_of (predicates_in c)
clause_exact None e = refl
clause_exact (Some ps) e = by ps.items ps.trailing e
  where
    by : (xs : List PredicateTree) (u : Bool) → clause_more xs u ≡ 0 → ◌≡◌ {A = Clause} (Some (record { items = xs; trailing = u })) (clause_of xs)
    by [] false f = absurd (omega (arith, f))
    by [] true f = absurd (omega (arith, f))
    by (x ∷ xs) false f = refl
    by (x ∷ xs) true f = absurd (omega (arith, f))

generics_own : (ps : List ParamTree) → generic_trees (is_some_params ps) (listed ps) ≡ params_trees ps
generics_own [] = refl
generics_own (p ∷ ps) = ap (λ x. join (spell.punct 60 nowhere) (join x (spell.punct 62 nowhere))) (no_comma (map param_trees (p ∷ ps)))

clause_own : (ps : List PredicateTree) → clause_trees (clause_of ps) ≡ where_trees ps
clause_own [] = refl
clause_own (p ∷ ps) = ap (λ x. join (spell.word (codes "where") nowhere) x) (no_comma (map predicate_trees (p ∷ ps)))

trait_own : (o : Option PathTree) → before_for_trees (as_type nowhere o) ≡ trait_trees o
trait_own None = refl
trait_own (Some p) = refl

-- ---- without ranges

clause_plain : (c : Clause) → map bare_predicate (predicates_in c) ≡ predicates_in c → bare_clause c ≡ c
clause_plain None e = refl
clause_plain (Some ps) e = ap (λ x. Some (record { items = x; trailing = ps.trailing })) e

trait_plain : (range : Span) (o : Option PathTree) → option_map unplaced_path o ≡ o → option_map unplaced_type (as_type range o) ≡ as_type nowhere o
trait_plain range None e = refl
trait_plain range (Some p) e = ap (as_type nowhere) e

-- ---- a head in the grammar's words

lowered_length : (m n : Marks) → Lowered m n → length m ≡ length n
lowered_length [] [] h = refl
lowered_length (x ∷ m) (y ∷ n) h = let e : length m ≡ length n = lowered_length m n h.2 in omega (arith, e)
lowered_length [] (y ∷ n) h = absurd h
lowered_length (x ∷ m) [] h = absurd h

same_length : (es fs : List Entry) → all_same same_entry es fs ≡ true → length es ≡ length fs
same_length [] [] h = refl
same_length (e ∷ es) (f ∷ fs) h =
    let i : length es ≡ length fs = same_length es fs (and_parts (same_entry e f) (all_same same_entry es fs) h).1 in
    omega (arith, i)
same_length [] (f ∷ fs) h = absurd (cc)
same_length (e ∷ es) [] h = absurd (cc)

trait_again : (o : Option PathTree) (ts others : Trees) (m : Marks) → before_for (as_type nowhere o) top ts others m → trait_spelled o top ts others m
trait_again None ts others m s = s
trait_again (Some p) ts others m s =
    record { middle = s.middle; first_marks = s.first_marks; rest_marks = s.rest_marks; first = s.first.part.part; rest = s.rest; marks = s.marks }

head_again : (h : HeadTree) (ts others : Trees) (m : Marks) →
    between (is_some_params h.params) (listed h.params) (as_type nowhere h.trait_path) h.ty (clause_of h.predicates) top ts others m →
    head_spelled h top ts others m
head_again h ts others m s =
    let r = s.rest in
    record {
      middle = s.middle;
      first_marks = s.first_marks;
      rest_marks = s.rest_marks;
      first = s.first;
      rest = record {
        middle = r.middle;
        first_marks = r.first_marks;
        rest_marks = r.rest_marks;
        first = trait_again h.trait_path s.middle r.middle r.first_marks r.first;
        rest = r.rest;
        marks = r.marks;
      };
      marks = s.marks;
    }

-- spelled by trees of its own, with so many marks
record IsOwn (angled : Bool) (ps : Listed ParamTree) (o : Option TypeTree) (x : TypeTree) (c : Clause) (n : ℕ) : Type 0 where
  marks : Marks
  spelled : between angled ps o x c top (all_trees angled ps o x c) no_trees marks
  within : first_too_deep marks ≡ None
  many : length marks ≡ n

own_count : (angled : Bool) (ps : Listed ParamTree) (o : Option TypeTree) (x : TypeTree) (c : Clause) (n : ℕ) → IsOwn angled ps o x c n →
    count (all_trees angled ps o x c) ≡ n
own_count angled ps o x c n i =
    let all : Trees = all_trees angled ps o x c in
    let e : Covers all no_trees i.marks = between_covers angled ps o x c all no_trees i.marks i.spelled i.within in
    ap length (e.splits ∙ append-nil e.front) ∙ covers_length all no_trees i.marks e ∙ i.many

module _ (h : HeadTree) (ts us : Trees) (r : IsHeadRead h ts us) (bare : bare_head h ≡ h) (fits : are_plain true h.params ≡ true) where
  abbrev ps : Listed ParamTree
  ps = record { items = h.params; trailing = r.params.trailing }

  abbrev read_trait : Option TypeTree
  read_trait = as_type r.range h.trait_path

  abbrev own_trait : Option TypeTree
  own_trait = as_type nowhere h.trait_path

  params_plain : bare_params r.params ≡ ps
  params_plain =
      ap (λ xs. record { items = xs; trailing = r.params.trailing }) (ap (map bare_param) r.params_are ∙ ap (λ (x : HeadTree). x.params) bare)

  clause_same : bare_clause r.clause ≡ r.clause
  clause_same =
      clause_plain r.clause (ap (map bare_predicate) r.predicates_are ∙ ap (λ (x : HeadTree). x.predicates) bare ∙ sym r.predicates_are)

  type_same : unplaced_type h.ty ≡ h.ty
  type_same = ap (λ (x : HeadTree). x.ty) bare

  trait_same : option_map unplaced_type read_trait ≡ own_trait
  trait_same = trait_plain r.range h.trait_path (ap (λ (x : HeadTree). x.trait_path) bare)

  abbrev trees_again : Trees
  trees_again = all_trees r.angled (bare_params r.params) (option_map unplaced_type read_trait) (unplaced_type h.ty) (bare_clause r.clause)

  abbrev Again : Trees → Marks → Type 0
  Again own m =
      between r.angled (bare_params r.params) (option_map unplaced_type read_trait) (unplaced_type h.ty) (bare_clause r.clause) top own no_trees m

  own_plain : IsOwn r.angled (bare_params r.params) (option_map unplaced_type read_trait) (unplaced_type h.ty) (bare_clause r.clause) (length r.marks)
  own_plain =
      let x =
      between_again {v = top} {w = top} (record { level = omega arith; limit = refl }) r.angled r.params read_trait h.ty r.clause
      (ap (are_plain true) r.params_are ∙ fits) ts us r.marks r.spelled no_trees (cut_end us) (λ _. refl) in
      record {
        marks = x.marks;
        spelled = subst (λ z. Again z x.marks) (join-no_trees trees_again) x.spelled;
        within = lowered_within x.marks r.marks x.lower r.within;
        many = lowered_length x.marks r.marks x.lower;
      }

  own : IsOwn r.angled ps own_trait h.ty r.clause (length r.marks)
  own =
      subst (λ z. IsOwn r.angled ps own_trait h.ty z (length r.marks)) clause_same
      (subst (λ z. IsOwn r.angled ps own_trait z (bare_clause r.clause) (length r.marks)) type_same
      (subst (λ z. IsOwn r.angled ps z (unplaced_type h.ty) (bare_clause r.clause) (length r.marks)) trait_same
      (subst (λ z. IsOwn r.angled z (option_map unplaced_type read_trait) (unplaced_type h.ty) (bare_clause r.clause) (length r.marks)) params_plain
      own_plain)))

  covered : Covers ts us r.marks
  covered = between_covers r.angled r.params read_trait h.ty r.clause ts us r.marks r.spelled r.within

  module _ (exact : has_entries (between_trees h) (passed ts us) ≡ true) where
    head_count : count (between_trees h) ≡ length r.marks
    head_count =
        same_length (flatten (between_trees h)) covered.front
        (ap (has_entries (between_trees h)) (sym (passed_front ts us covered.front covered.splits)) ∙ exact) ∙
        covers_length ts us r.marks covered

    none_more : params_more r.angled h.params r.params.trailing + where_more r.clause ≡ 0
    none_more =
        let a : Trees = generic_trees r.angled ps in
        let b : Trees = before_for_trees own_trait in
        let c : Trees = type_trees h.ty in
        let d : Trees = clause_trees r.clause in
        let e : Trees = params_trees h.params in
        let f : Trees = where_trees h.predicates in
        let g : Trees = trait_trees h.trait_path in
        let all : count (join a (join b (join c d))) ≡ length r.marks = own_count r.angled ps own_trait h.ty r.clause (length r.marks) own in
        let one : count (join e (join g (join c f))) ≡ length r.marks = head_count in
        let w : count d ≡ count f + where_more r.clause = clause_count r.clause ∙ ap (λ x. count (where_trees x) + where_more r.clause) r.predicates_are in
        let q : count b ≡ count g = ap count (trait_own h.trait_path) in
        omega (
          arith,
          all,
          one,
          w,
          q,
          generic_count r.angled ps own.spelled.first.fact,
          count_join a (join b (join c d)),
          count_join b (join c d),
          count_join c d,
          count_join e (join g (join c f)),
          count_join g (join c f),
          count_join c f,
        )

    exact_own : IsOwn (is_some_params h.params) (listed h.params) own_trait h.ty (clause_of h.predicates) (length r.marks)
    exact_own =
        let z = none_more in
        let p = params_exact r.angled ps own.spelled.first.fact (omega (arith, z)) in
        let w : r.clause ≡ clause_of h.predicates = clause_exact r.clause (omega (arith, z)) ∙ ap clause_of r.predicates_are in
        subst (λ y. IsOwn (is_some_params h.params) (listed h.params) own_trait h.ty y (length r.marks)) w
        (subst (λ y. IsOwn (is_some_params h.params) y own_trait h.ty r.clause (length r.marks)) p.1
        (subst (λ y. IsOwn y ps own_trait h.ty r.clause (length r.marks)) p.0 own))

    own_trees : all_trees (is_some_params h.params) (listed h.params) own_trait h.ty (clause_of h.predicates) ≡ between_trees h
    own_trees =
        ap₂ (λ x y. join x (join y (join (type_trees h.ty) (clause_trees (clause_of h.predicates))))) (generics_own h.params) (trait_own h.trait_path) ∙
        ap (λ x. join (params_trees h.params) (join (trait_trees h.trait_path) (join (type_trees h.ty) x))) (clause_own h.predicates)

    is_head : IsHead h
    is_head =
        let i = exact_own in
        let s : between (is_some_params h.params) (listed h.params) own_trait h.ty (clause_of h.predicates) top (between_trees h) no_trees i.marks =
        subst (λ x. between (is_some_params h.params) (listed h.params) own_trait h.ty (clause_of h.predicates) top x no_trees i.marks) own_trees i.spelled in
        record { marks = i.marks; spelled = head_again h (between_trees h) no_trees i.marks s; within = i.within; plain = fits }

-- ---- the leaves

plain_read : (ts us : Trees) (h : HeadTree) → plain_head ts ≡ Some (h, us) → (read_head ts ≡ Some (h, us)) × (are_plain true h.params ≡ true)
plain_read ts us h e = tested_some {A = HeadTree × Trees} (λ a. are_plain true a.0.params) (read_head ts) (h, us) e

module _ (N : NaturalItems item_leaves) where
  pub head_sound : (ts us : Trees) (h : HeadTree) → IsBare ts → exact_head ts ≡ Some (h, us) → IsHead h × Spells (between_trees h) ts us
  head_sound ts us h b e =
      let a = exact_answer between_trees ts us h (plain_head ts) e in
      let p = plain_read ts us h a.0 in
      let r : IsHeadRead h ts us = head_read ts us h p.0 in
      let n = natural_answer bare_head exact_head ts us h (N.head ts) b e in
      let c : Covers ts us r.marks = covered h ts us r n.0 p.1 in (
        is_head h ts us r n.0 p.1 a.1,
        exact_spells (between_trees h) ts us (record { front = c.front; splits = c.splits }) a.1 (between_bare h ∙ ap between_trees n.0) n.1 b,
      )

  pub parts_sound : SoundLeaves leaf_grammar leaves
  parts_sound = record { type = type_sound N; qualified = qualified_sound N; run = λ ts us v b e. run_sound ts us v e }

  pub leaves_sound : SoundItems item_grammar item_leaves
  leaves_sound = record { parts = parts_sound; head = head_sound }
