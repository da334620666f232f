-- Generics and predicates: what their readers decide.
use Rattle.std.proofs.Common.{◌≡◌, ℕ, Bool, true, false, if◌then◌else◌, nat_eq, List, [], ◌∷◌, ◌++◌, codes, Option, Some, None, refl, sym, ap, ◌∙◌, subst}
use Rattle.dm_stream.specs.declared.seq.Punctuated.{Punctuated}
use Rattle.dm_stream.specs.declared.tokens.Ident.{Ident}
use Rattle.dm_stream.specs.declared.tokens.Lifetime.{Lifetime}
use Rattle.dm_stream.specs.Trees.{Trees}
use Rattle.dm_ast.specs.declared.plain.Attribute.{Attribute}
use Rattle.dm_ast.specs.declared.plain.Opaque.{Opaque}
use Rattle.dm_ast.specs.declared.plain.ConstArg.{ConstArg}
use Rattle.dm_ast.specs.Tree.{Lifetimes, TypeTree, BoundTree}
use Rattle.dm_ast.specs.Declarations.{Listed, ParamTree, lifetime_param, type_param, const_param, PredicateTree, lifetime_predicate, type_predicate}
use Rattle.dm_ast.specs.Spelling.{Where, deeper, Marks, Spelling, ◌then◌, Provided, sees, sees_lifetime, sees_word, sees_colon, sees_equals, lifetime, keyword, colon, equals, perhaps, items}
use Rattle.dm_ast.specs.TypeGrammar.{name, attribute, attributes, between_angles, for_lifetimes, constant_spelled, type_spelled}
use Rattle.dm_ast.specs.DeclarationGrammar.{listed, lifetime_bounds, bound_list, param, generics, predicate, ends_where, where_clause}
use Rattle.dm_ast.specs.Readers.{Parser, ◌and◌, ◌next◌, read_lifetime, read_word, read_colon, read_equals, read_perhaps}
use Rattle.dm_ast.specs.PlainReaders.{read_angles}
use Rattle.dm_read.specs.DeclarationReaders.{Parts, read_name, read_listed, read_lifetime_bounds, to_params, read_lifetime_param, read_const_param, read_type_param, read_param_behind, read_param, read_generics, read_lifetime_predicate, read_type_predicate, read_predicate, read_where}
use Rattle.dm_read.proofs.Deciding.{Decides, Reader, Image, Bound, Both, decides_bind, decides_by, decides_iff, decides_test, pair, reads_and, reads_next, reads_perhaps}
use Rattle.dm_read.proofs.Tokens.{reads_lifetime, lifetime_seen, punct_seen, reads_word, word_seen}
use Rattle.dm_read.proofs.Groups.{reads_lone, lone_seen}
use Rattle.dm_read_paths.proofs.PlainParts.{reads_by, reads_angles}
use Rattle.dm_grammar_laws.proofs.TypeFronts.{Begins, behind_perhaps, behind_repeated, type_front, type_no_lifetime, type_no_where_end}
use Rattle.dm_grammar_laws.proofs.DeclarationParts.{AreDecided, reads_either, both_ways, reads_name, name_no_word, const_keyword, reads_listed, reads_lifetime_bounds}
use Rattle.dm_read_paths.proofs.Sequences.{then_with}

-- ---- parts behind a lone `:` or `=`

pub reads_colon : (w : Where) → Reader (λ (_ : Unit {0}). colon w) (read_colon w)
reads_colon w = reads_lone 58 (58 ∷ []) w

pub reads_equals : (w : Where) → Reader (λ (_ : Unit {0}). equals w) (read_equals w)
reads_equals w = reads_lone 61 (61 ∷ 62 ∷ []) w

pub behind_colon : {A : Type 0} (w : Where) (P : A → Spelling) (p : Parser A) → Reader P p →
    Reader (λ b. perhaps sees_colon b (λ x. colon w then P x)) (read_perhaps sees_colon (read_colon w next p))
behind_colon w P p h =
    reads_perhaps sees_colon (λ x. colon w then P x) (read_colon w next p) (λ x ts o m s. lone_seen 58 (58 ∷ []) w ts s.middle s.first_marks s.first)
    (reads_next (colon w) P (read_colon w) p (reads_colon w) h)

pub behind_equals : {A : Type 0} (w : Where) (P : A → Spelling) (p : Parser A) → Reader P p →
    Reader (λ b. perhaps sees_equals b (λ x. equals w then P x)) (read_perhaps sees_equals (read_equals w next p))
behind_equals w P p h =
    reads_perhaps sees_equals (λ x. equals w then P x) (read_equals w next p) (λ x ts o m s. lone_seen 61 (61 ∷ 62 ∷ []) w ts s.middle s.first_marks s.first)
    (reads_next (equals w) P (read_equals w) p (reads_equals w) h)

-- ---- what begins each part

word_no_lifetime : (w : Where) (word : List ℕ) → Begins sees_lifetime false (keyword w word)
word_no_lifetime w word ts o m s = ap sees_lifetime s.there.spelled

name_no_lifetime : (w : Where) (i : Ident) → Begins sees_lifetime false (name w i)
name_no_lifetime w i ts o m s = ap sees_lifetime s.part.spelled

attribute_no_angle : (w : Where) (a : Attribute) → Begins (sees 62) false (attribute w a)
attribute_no_angle w a ts o m s = ap (sees 62) s.part.first.there.spelled ∙ ap (λ c. nat_eq c 62) s.part.first.is

module _ (Run : Opaque → Where → Spelling) (p : Parts) (is : AreDecided Run p) where
  -- ---- parameters

  -- a parameter with these attributes, behind them
  abbrev Param : Where → List Attribute → ParamTree → Spelling
  Param w attrs (lifetime_param as' l bs) =
      Provided (as' ≡ attrs) (lifetime w l then perhaps sees_colon bs (λ ls. colon w then lifetime_bounds w ls))
  Param w attrs (type_param as' i bs default) =
      Provided (as' ≡ attrs)
      (name w i then (perhaps sees_colon bs (λ b. colon w then bound_list w b) then perhaps sees_equals default (λ t. equals w then type_spelled t false w)))
  Param w attrs (const_param as' i ty default) =
      Provided (as' ≡ attrs)
      (keyword w (codes "const") then
      (name w i then (colon w then (type_spelled ty false w then perhaps sees_equals default (λ c. equals w then constant_spelled w c)))))

  module _ (w : Where) (attrs : List Attribute) where
    lifetime_back : (ts : Trees) → sees_lifetime ts ≡ true → (y : ParamTree) (o : Trees) (m : Marks) → Param w attrs y ts o m →
        Image (λ v. lifetime_param attrs v.0 v.1) (Both (lifetime w) (λ bs. perhaps sees_colon bs (λ ls. colon w then lifetime_bounds w ls))) y ts o m
    lifetime_back ts e (lifetime_param as' l bs) o m s = record { value = pair l bs; is_it = ap (λ a. lifetime_param a l bs) s.fact; spelled = s.part }
    lifetime_back ts e (type_param as' i bs default) o m s =
        absurd (both_ways (sees_lifetime ts) e (name_no_lifetime w i ts s.part.middle s.part.first_marks s.part.first))
    lifetime_back ts e (const_param as' i ty default) o m s =
        absurd (both_ways (sees_lifetime ts) e (word_no_lifetime w (codes "const") ts s.part.middle s.part.first_marks s.part.first))

    lifetime_decides : (ts : Trees) → sees_lifetime ts ≡ true → Decides (Param w attrs) ts (read_lifetime_param p attrs w ts)
    lifetime_decides ts e =
        let rest : Parser Lifetimes = read_perhaps sees_colon (read_colon w next read_lifetime_bounds w) in
        decides_by (λ v. lifetime_param attrs v.0 v.1) (Both (lifetime w) (λ bs. perhaps sees_colon bs (λ ls. colon w then lifetime_bounds w ls))) (Param w attrs) ts
        (λ v o m s. record { fact = refl; part = s }) (lifetime_back ts e) ((read_lifetime w and rest) ts)
        (reads_and (lifetime w) (λ bs. perhaps sees_colon bs (λ ls. colon w then lifetime_bounds w ls)) (read_lifetime w) rest (reads_lifetime w)
        (behind_colon w (lifetime_bounds w) (read_lifetime_bounds w) (reads_lifetime_bounds w)) ts)

    -- ---- `const N: T = V`

    abbrev ConstRest : TypeTree × Option ConstArg → Spelling
    ConstRest = Both (λ ty. type_spelled ty false w) (λ d. perhaps sees_equals d (λ c. equals w then constant_spelled w c))

    abbrev Const : Ident × (TypeTree × Option ConstArg) → Spelling
    Const v = keyword w (codes "const") then Both (name w) (λ r. colon w then ConstRest r) v

    abbrev const_rest : Parser (TypeTree × Option ConstArg)
    const_rest = p.types w and read_perhaps sees_equals (read_equals w next p.constant w)

    reads_const : Reader Const (read_word (codes "const") w next (read_name w and (read_colon w next const_rest)))
    reads_const =
        reads_next (keyword w (codes "const")) (Both (name w) (λ r. colon w then ConstRest r)) (read_word (codes "const") w) (read_name w and (read_colon w next const_rest))
        (reads_word (codes "const") w)
        (reads_and (name w) (λ r. colon w then ConstRest r) (read_name w) (read_colon w next const_rest) (reads_name w)
        (reads_next (colon w) ConstRest (read_colon w) const_rest (reads_colon w)
        (reads_and (λ ty. type_spelled ty false w) (λ d. perhaps sees_equals d (λ c. equals w then constant_spelled w c)) (p.types w)
        (read_perhaps sees_equals (read_equals w next p.constant w)) (is.types w) (behind_equals w (constant_spelled w) (p.constant w) (is.constant w)))))

    const_back : (ts : Trees) → sees_lifetime ts ≡ false → sees_word (codes "const") ts ≡ true → (y : ParamTree) (o : Trees) (m : Marks) → Param w attrs y ts o m →
        Image (λ v. const_param attrs v.0 v.1.0 v.1.1) Const y ts o m
    const_back ts e f (lifetime_param as' l bs) o m s = absurd (both_ways (sees_lifetime ts) (lifetime_seen w l ts s.part.middle s.part.first_marks s.part.first) e)
    const_back ts e f (type_param as' i bs default) o m s =
        absurd (both_ways (sees_word (codes "const") ts) f (name_no_word (codes "const") w i const_keyword ts s.part.middle s.part.first_marks s.part.first))
    const_back ts e f (const_param as' i ty default) o m s =
        record { value = pair i (pair ty default); is_it = ap (λ a. const_param a i ty default) s.fact; spelled = s.part }

    const_decides : (ts : Trees) → sees_lifetime ts ≡ false → sees_word (codes "const") ts ≡ true → Decides (Param w attrs) ts (read_const_param p attrs w ts)
    const_decides ts e f =
        decides_by (λ v. const_param attrs v.0 v.1.0 v.1.1) Const (Param w attrs) ts (λ v o m s. record { fact = refl; part = s }) (const_back ts e f)
        ((read_word (codes "const") w next (read_name w and (read_colon w next const_rest))) ts) (reads_const ts)

    -- ---- `T: A + B = U`

    abbrev TypeRest : Option (Listed BoundTree) × Option TypeTree → Spelling
    TypeRest = Both (λ bs. perhaps sees_colon bs (λ b. colon w then bound_list w b)) (λ d. perhaps sees_equals d (λ t. equals w then type_spelled t false w))

    abbrev type_rest : Parser (Option (Listed BoundTree) × Option TypeTree)
    type_rest = read_perhaps sees_colon (read_colon w next p.bounds w) and read_perhaps sees_equals (read_equals w next p.types w)

    reads_named_type : Reader (Both (name w) TypeRest) (read_name w and type_rest)
    reads_named_type =
        reads_and (name w) TypeRest (read_name w) type_rest (reads_name w)
        (reads_and (λ bs. perhaps sees_colon bs (λ b. colon w then bound_list w b)) (λ d. perhaps sees_equals d (λ t. equals w then type_spelled t false w))
        (read_perhaps sees_colon (read_colon w next p.bounds w)) (read_perhaps sees_equals (read_equals w next p.types w))
        (behind_colon w (bound_list w) (p.bounds w) (is.bounds w)) (behind_equals w (λ t. type_spelled t false w) (p.types w) (is.types w)))

    type_back : (ts : Trees) → sees_lifetime ts ≡ false → sees_word (codes "const") ts ≡ false → (y : ParamTree) (o : Trees) (m : Marks) → Param w attrs y ts o m →
        Image (λ v. type_param attrs v.0 v.1.0 v.1.1) (Both (name w) TypeRest) y ts o m
    type_back ts e f (lifetime_param as' l bs) o m s = absurd (both_ways (sees_lifetime ts) (lifetime_seen w l ts s.part.middle s.part.first_marks s.part.first) e)
    type_back ts e f (type_param as' i bs default) o m s =
        record { value = pair i (pair bs default); is_it = ap (λ a. type_param a i bs default) s.fact; spelled = s.part }
    type_back ts e f (const_param as' i ty default) o m s =
        absurd (both_ways (sees_word (codes "const") ts) (word_seen (codes "const") w ts s.part.middle s.part.first_marks s.part.first) f)

    type_decides : (ts : Trees) → sees_lifetime ts ≡ false → sees_word (codes "const") ts ≡ false → Decides (Param w attrs) ts (read_type_param p attrs w ts)
    type_decides ts e f =
        decides_by (λ v. type_param attrs v.0 v.1.0 v.1.1) (Both (name w) TypeRest) (Param w attrs) ts (λ v o m s. record { fact = refl; part = s }) (type_back ts e f)
        ((read_name w and type_rest) ts) (reads_named_type ts)

    behind_attributes : Reader (Param w attrs) (read_param_behind p attrs w)
    behind_attributes ts =
        decides_test (Param w attrs) ts (sees_lifetime ts) (read_lifetime_param p attrs w ts)
        (if sees_word (codes "const") ts then read_const_param p attrs w ts else read_type_param p attrs w ts) (lifetime_decides ts)
        (λ e. decides_test (Param w attrs) ts (sees_word (codes "const") ts) (read_const_param p attrs w ts) (read_type_param p attrs w ts) (const_decides ts e) (type_decides ts e))

  module _ (w : Where) where
    param_by : (ts : Trees) (o : Trees) (m : Marks) (attrs : List Attribute) (mid : Trees) (a b : Marks) → attributes w attrs ts mid a → m ≡ a ++ b → (y : ParamTree) →
        Param w attrs y mid o b → param y w ts o m
    param_by ts o m attrs mid a b f e (lifetime_param as' l bs) s =
        subst (λ x. param (lifetime_param x l bs) w ts o m) (sym s.fact) (record { middle = mid; first_marks = a; rest_marks = b; first = f; rest = s.part; marks = e })
    param_by ts o m attrs mid a b f e (type_param as' i bs default) s =
        subst (λ x. param (type_param x i bs default) w ts o m) (sym s.fact) (record { middle = mid; first_marks = a; rest_marks = b; first = f; rest = s.part; marks = e })
    param_by ts o m attrs mid a b f e (const_param as' i ty default) s =
        subst (λ x. param (const_param x i ty default) w ts o m) (sym s.fact) (record { middle = mid; first_marks = a; rest_marks = b; first = f; rest = s.part; marks = e })

    param_to : (ts : Trees) (y : ParamTree) (o : Trees) (m : Marks) → Bound (attributes w) (Param w) y ts o m → param y w ts o m
    param_to ts y o m s = param_by ts o m s.value s.parts.middle s.parts.first_marks s.parts.rest_marks s.parts.first s.parts.marks y s.parts.rest

    param_back : (ts : Trees) (y : ParamTree) (o : Trees) (m : Marks) → param y w ts o m → Bound (attributes w) (Param w) y ts o m
    param_back ts (lifetime_param as' l bs) o m s =
        record { value = as'; parts = then_with s (record { fact = refl; part = s.rest }) }
    param_back ts (type_param as' i bs default) o m s =
        record { value = as'; parts = then_with s (record { fact = refl; part = s.rest }) }
    param_back ts (const_param as' i ty default) o m s =
        record { value = as'; parts = then_with s (record { fact = refl; part = s.rest }) }

    pub reads_param : Reader (λ x. param x w) (read_param p w)
    reads_param ts =
        decides_iff (Bound (attributes w) (Param w)) (λ x. param x w) ts (param_to ts) (param_back ts) (read_param p w ts)
        (decides_bind (attributes w) (Param w) ts (p.attributes w ts) (λ attrs. read_param_behind p attrs w) (is.attributes w ts) (λ attrs mid _. behind_attributes w attrs mid))

    param_front : (x : ParamTree) → Begins (sees 62) false (param x w)
    param_front (lifetime_param as' l bs) =
        behind_repeated (sees 62) false (lifetime w l then perhaps sees_colon bs (λ ls. colon w then lifetime_bounds w ls)) (sees 35) as' (attribute w) (attribute_no_angle w)
        (λ ts o m s. ap (sees 62) s.first.spelled)
    param_front (type_param as' i bs default) =
        behind_repeated (sees 62) false
        (name w i then (perhaps sees_colon bs (λ b. colon w then bound_list w b) then perhaps sees_equals default (λ t. equals w then type_spelled t false w)))
        (sees 35) as' (attribute w) (attribute_no_angle w) (λ ts o m s. ap (sees 62) s.first.part.spelled)
    param_front (const_param as' i ty default) =
        behind_repeated (sees 62) false
        (keyword w (codes "const") then
        (name w i then (colon w then (type_spelled ty false w then perhaps sees_equals default (λ c. equals w then constant_spelled w c)))))
        (sees 35) as' (attribute w) (attribute_no_angle w) (λ ts o m s. ap (sees 62) s.first.there.spelled)

  -- ---- generics

  module _ (w : Where) where
    abbrev Angled : Listed ParamTree → Spelling
    Angled ps = between_angles w (λ v. listed (sees 62) param ps v)

    abbrev Generics : Bool × Listed ParamTree → Spelling
    Generics v = generics v.0 v.1 w

    abbrev MaybeAngled : Option (Listed ParamTree) → Spelling
    MaybeAngled b = perhaps (sees 60) b Angled

    generics_to : (ts : Trees) (b : Option (Listed ParamTree)) (o : Trees) (m : Marks) → MaybeAngled b ts o m → Generics (to_params b) ts o m
    generics_to ts None o m s = record { fact = λ _. refl; part = s }
    generics_to ts (Some ps) o m s = record { fact = λ e. absurd (cc); part = s }

    generics_back_by : (ts : Trees) (angled : Bool) (ps : Listed ParamTree) (o : Trees) (m : Marks) → Generics (angled, ps) ts o m → Image to_params MaybeAngled (angled, ps) ts o m
    generics_back_by ts true ps o m s = record { value = Some ps; is_it = refl; spelled = s.part }
    generics_back_by ts false ps o m s = record { value = None; is_it = ap (pair false) (s.fact refl); spelled = s.part }

    pub reads_generics : Reader Generics (read_generics p w)
    reads_generics =
        reads_by to_params MaybeAngled Generics (read_perhaps (sees 60) (read_angles (read_listed (sees 62) (read_param p)) w))
        (λ b ts o m s. generics_to ts b o m s) (λ v ts o m s. generics_back_by ts v.0 v.1 o m s)
        (reads_perhaps (sees 60) Angled (read_angles (read_listed (sees 62) (read_param p)) w) (λ ps ts o m s. punct_seen 60 w ts s.middle s.first_marks s.first)
        (reads_angles (listed (sees 62) param) (read_listed (sees 62) (read_param p)) w
        (reads_listed (sees 62) param (read_param p) (deeper w) (param_front (deeper w)) (reads_param (deeper w)))))

  -- ---- predicates

  module _ (w : Where) where
    abbrev LifetimePredicate : Lifetime × Punctuated Lifetime → Spelling
    LifetimePredicate = Both (lifetime w) (λ ls. colon w then lifetime_bounds w ls)

    abbrev TypePredicate : Lifetimes × (TypeTree × Listed BoundTree) → Spelling
    TypePredicate = Both (for_lifetimes w) (Both (λ t. type_spelled t false w) (λ bs. colon w then bound_list w bs))

    lifetime_part : Reader LifetimePredicate (read_lifetime w and (read_colon w next read_lifetime_bounds w))
    lifetime_part =
        reads_and (lifetime w) (λ ls. colon w then lifetime_bounds w ls) (read_lifetime w) (read_colon w next read_lifetime_bounds w) (reads_lifetime w)
        (reads_next (colon w) (lifetime_bounds w) (read_colon w) (read_lifetime_bounds w) (reads_colon w) (reads_lifetime_bounds w))

    type_part : Reader TypePredicate (p.lifetimes w and (p.types w and (read_colon w next p.bounds w)))
    type_part =
        reads_and (for_lifetimes w) (Both (λ t. type_spelled t false w) (λ bs. colon w then bound_list w bs)) (p.lifetimes w) (p.types w and (read_colon w next p.bounds w))
        (is.lifetimes w)
        (reads_and (λ t. type_spelled t false w) (λ bs. colon w then bound_list w bs) (p.types w) (read_colon w next p.bounds w) (is.types w)
        (reads_next (colon w) (bound_list w) (read_colon w) (p.bounds w) (reads_colon w) (is.bounds w)))

    -- the front of a predicate over a type
    for_front : (b : Trees → Bool) (v : Bool) → ((word : List ℕ) → Begins b v (keyword w word)) → ((t : TypeTree) → Begins b v (type_spelled t false w)) →
        (ls : Lifetimes) (t : TypeTree) (bs : Listed BoundTree) → Begins b v (predicate (type_predicate ls t bs) w)
    for_front b v f g ls t bs =
        behind_perhaps b v (type_spelled t false w then (colon w then bound_list w bs)) (sees_word (codes "for")) ls
        (λ l. keyword w (codes "for") then between_angles w (λ u. items u 44 (sees 62) (lifetime u) l.items l.trailing))
        (λ l ts o m s. f (codes "for") ts s.middle s.first_marks s.first) (λ ts o m s. g t ts s.middle s.first_marks s.first)

    predicate_no_lifetime : (ls : Lifetimes) (t : TypeTree) (bs : Listed BoundTree) → Begins sees_lifetime false (predicate (type_predicate ls t bs) w)
    predicate_no_lifetime =
        for_front sees_lifetime false (word_no_lifetime w) (λ t ts o m s. type_no_lifetime ts (type_front t false w ts o m s))

    predicate_front : (x : PredicateTree) → Begins ends_where false (predicate x w)
    predicate_front (lifetime_predicate l ls) = λ ts o m s. ap ends_where s.first.spelled
    predicate_front (type_predicate ls t bs) =
        for_front ends_where false (λ word ts o m s. ap ends_where s.there.spelled) (λ u ts o m s. type_no_where_end ts (type_front u false w ts o m s)) ls t bs

    lifetime_predicate_back : (ts : Trees) → sees_lifetime ts ≡ true → (y : PredicateTree) (o : Trees) (m : Marks) → predicate y w ts o m →
        Image (λ v. lifetime_predicate v.0 v.1) LifetimePredicate y ts o m
    lifetime_predicate_back ts e (lifetime_predicate l ls) o m s = record { value = pair l ls; is_it = refl; spelled = s }
    lifetime_predicate_back ts e (type_predicate ls t bs) o m s = absurd (both_ways (sees_lifetime ts) e (predicate_no_lifetime ls t bs ts o m s))

    type_predicate_back : (ts : Trees) → sees_lifetime ts ≡ false → (y : PredicateTree) (o : Trees) (m : Marks) → predicate y w ts o m →
        Image (λ v. type_predicate v.0 v.1.0 v.1.1) TypePredicate y ts o m
    type_predicate_back ts e (lifetime_predicate l ls) o m s = absurd (both_ways (sees_lifetime ts) (lifetime_seen w l ts s.middle s.first_marks s.first) e)
    type_predicate_back ts e (type_predicate ls t bs) o m s = record { value = pair ls (pair t bs); is_it = refl; spelled = s }

    pub reads_predicate : Reader (λ x. predicate x w) (read_predicate p w)
    reads_predicate =
        reads_either (λ x. predicate x w) sees_lifetime (read_lifetime_predicate p w) (read_type_predicate p w)
        (λ ts e. decides_by (λ v. lifetime_predicate v.0 v.1) LifetimePredicate (λ x. predicate x w) ts (λ v o m s. s) (lifetime_predicate_back ts e)
        ((read_lifetime w and (read_colon w next read_lifetime_bounds w)) ts) (lifetime_part ts))
        (λ ts e. decides_by (λ v. type_predicate v.0 v.1.0 v.1.1) TypePredicate (λ x. predicate x w) ts (λ v o m s. s) (type_predicate_back ts e)
        ((p.lifetimes w and (p.types w and (read_colon w next p.bounds w))) ts) (type_part ts))

    abbrev Clause : Listed PredicateTree → Spelling
    Clause ps = keyword w (codes "where") then listed ends_where predicate ps w

    pub reads_where : Reader (λ c. where_clause c w) (read_where p w)
    reads_where =
        reads_perhaps (sees_word (codes "where")) Clause (read_word (codes "where") w next read_listed ends_where (read_predicate p) w)
        (λ ps ts o m s. word_seen (codes "where") w ts s.middle s.first_marks s.first)
        (reads_next (keyword w (codes "where")) (λ ps. listed ends_where predicate ps w) (read_word (codes "where") w) (read_listed ends_where (read_predicate p) w)
        (reads_word (codes "where") w) (reads_listed ends_where predicate (read_predicate p) w predicate_front reads_predicate))
