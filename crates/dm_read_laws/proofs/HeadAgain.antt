-- What stands between `impl` and the brace is spelled again by its own tokens without places, whatever follows it.
use Rattle.std.proofs.Common.{◌≡◌, ℕ, Bool, true, false, not, List, [], ◌∷◌, map, codes, Option, option_map, Some, None, refl, sym, ap, subst}
use Rattle.std.proofs.lemmas.Bool.{and_parts, not_from_false, not-true}
use Rattle.dm_stream.specs.declared.seq.Punctuated.{Punctuated}
use Rattle.dm_stream.specs.declared.tokens.Lifetime.{Lifetime}
use Rattle.dm_stream.specs.Layout.{nowhere}
use Rattle.dm_stream.specs.Trees.{Trees, no_trees, join}
use Rattle.dm_ast.specs.Tree.{Lifetimes, TypeTree, BoundTree, bounds_of}
use Rattle.dm_ast.specs.Declarations.{Listed, ParamTree, lifetime_param, type_param, const_param, PredicateTree, lifetime_predicate, type_predicate}
use Rattle.dm_ast.specs.Spelling.{Where, deeper, Spelling, Nothing, ◌then◌, sees, sees_lifetime, sees_colon, lifetime, keyword, colon, perhaps, items, items_left}
use Rattle.dm_ast.specs.TypeGrammar.{for_lifetimes, type_spelled, bounds}
use Rattle.dm_ast.specs.DeclarationGrammar as decl
use Rattle.dm_ast.specs.DeclarationGrammar.{lifetime_bounds, bound_list, param, generics, predicate, ends_where, where_clause}
use Rattle.dm_ast.specs.TypeTokens as spell
use Rattle.dm_output.specs.Tokens.{maybe_bounds_trees, maybe_lifetimes_trees, param_trees, predicate_trees}
use Rattle.dm_type_eq.proofs.Cutting.{Cut, unseen_sees, unseen_word, unseen_lifetime, unseen_colon, unseen_equals, ends_kept}
use Rattle.dm_type_eq.proofs.Respelling.{Lower, below, RespellsIf, Respells, Ending, respells_then, respells_provided, respells_nothing, respells_absent, respells_flag, respells_lifetime, respells_word, IsPlain, plain, respells_colon, Left, respells_last, respells_none, respells_first, respells_next, respells_angles, respells_attributes, respells_for, respells_name}
use Rattle.dm_type_eq.proofs.RespelledTypes.{again_type, again_bounds}
use Rattle.dm_type_eq.specs.Unplaced.{unplaced_lifetime, unplaced_lifetimes, unplaced_type}
use Rattle.dm_reread.specs.Bare.{bare_listed, bare_punctuated, bare_param, bare_predicate}
use Rattle.dm_reread.specs.HeadLeaves.{is_plain, is_lifetime, are_plain}
use Rattle.dm_read_laws.proofs.NaturalTypes.{bounds_of_bare}
use Rattle.dm_read_laws.proofs.NaturalDeclarations.{bare_items_of}

-- ---- types and lifetimes, without ranges in the words of the output language

pub again_bare : {v w : Where} → Lower v w → (x : TypeTree) →
    Respells (type_spelled x false w) (type_spelled (unplaced_type x) false v) (spell.type_trees (unplaced_type x))
again_bare l x = again_type x false l

again_for : {v w : Where} → Lower v w → (f : Lifetimes) →
    Respells (for_lifetimes w f) (for_lifetimes v (unplaced_lifetimes f)) (spell.for_trees nowhere (unplaced_lifetimes f))
again_for l None = respells_for l None
again_for l (Some ls) = respells_for l (Some ls)

-- ---- lists

module _ {A : Type 0} (S R : A → Spelling) (f : A → A) (trees : A → Trees) where
  -- each item is spelled again
  abbrev EachAgain : List A → Type 0
  EachAgain [] = Unit {0}
  EachAgain (x ∷ xs) = Respells (S x) (R (f x)) (trees (f x)) × EachAgain xs

  each_again : ((x : A) → Respells (S x) (R (f x)) (trees (f x))) → (xs : List A) → EachAgain xs
  each_again h [] = tt
  each_again h (x ∷ xs) = (h x, each_again h xs)

  module _ (c : ℕ) (p : IsPlain c) (ends : Trees → Bool) {v w : Where} (l : Lower v w) where
    left_again : (xs : List A) (u : Bool) → EachAgain xs →
        RespellsIf (Ending ends) (items_left w c ends S xs u) (items_left v c ends R (map f xs) u) (Left c (map trees (map f xs)) u)
    left_again [] u h = respells_last c p ends l u
    left_again (x ∷ xs) u h = respells_next c p ends l (map trees (map f xs)) u h.0 (left_again xs u h.1)

    items_again : (xs : List A) (u : Bool) → EachAgain xs →
        RespellsIf (Ending ends) (items w c ends S xs u) (items v c ends R (map f xs) u) (spell.listed c nowhere (map trees (map f xs)) u)
    items_again [] u h = respells_none c p ends l u
    items_again (x ∷ xs) u h = respells_first c p ends l (map trees (map f xs)) u h.0 (left_again xs u h.1)

-- ---- lifetimes and bounds behind a colon

abbrev no_lifetime : Trees → Bool
no_lifetime ts = not (sees_lifetime ts)

lifetime_ends : (o others : Trees) → Cut o others → no_lifetime others ≡ true → no_lifetime o ≡ true
lifetime_ends o others c h = not_from_false (sees_lifetime o) (unseen_lifetime o others c (not-true (sees_lifetime others) h))

again_lifetimes : {v w : Where} → Lower v w → (ls : Punctuated Lifetime) →
    Respells (colon w then lifetime_bounds w ls) (colon v then lifetime_bounds v (bare_punctuated ls))
    (maybe_lifetimes_trees (Some (bare_punctuated ls)))
again_lifetimes {v} {w} l ls =
    respells_then (respells_colon l) (λ ts others m s o c h.
    items_again (lifetime w) (lifetime v) unplaced_lifetime spell.lifetime 43 (plain 43 refl) no_lifetime l ls.items ls.trailing
    (each_again (lifetime w) (lifetime v) unplaced_lifetime spell.lifetime (respells_lifetime l) ls.items) ts others m s o c (lifetime_ends o others c))

pub maybe_lifetimes : {v w : Where} → Lower v w → (bs : Option (Punctuated Lifetime)) →
    Respells (perhaps sees_colon bs (λ ls. colon w then lifetime_bounds w ls))
    (perhaps sees_colon (unplaced_lifetimes bs) (λ ls. colon v then lifetime_bounds v ls)) (maybe_lifetimes_trees (unplaced_lifetimes bs))
maybe_lifetimes l None = respells_absent unseen_colon
maybe_lifetimes l (Some ls) = again_lifetimes l ls

again_list : {v w : Where} → Lower v w → (bs : Listed BoundTree) →
    Respells (colon w then bound_list w bs) (colon v then bound_list v (bare_listed bs)) (maybe_bounds_trees (Some (bare_listed bs)))
again_list {v} {w} l bs =
    respells_then (respells_colon l)
    (subst
    (λ x.
    Respells (bounds (bounds_of bs.items) bs.trailing w) (bounds x bs.trailing v) (spell.listed 43 nowhere (spell.each_bound nowhere x) bs.trailing))
    (sym (bounds_of_bare bs.items))
    (λ ts others m s o c h. again_bounds (bounds_of bs.items) bs.trailing l ts others m s o c (ends_kept o others c)))

pub maybe_list : {v w : Where} → Lower v w → (bs : Option (Listed BoundTree)) →
    Respells (perhaps sees_colon bs (λ b. colon w then bound_list w b))
    (perhaps sees_colon (option_map bare_listed bs) (λ b. colon v then bound_list v b))
    (maybe_bounds_trees (option_map bare_listed bs))
maybe_list l None = respells_absent unseen_colon
maybe_list l (Some bs) = again_list l bs

-- ---- parameters

param_again : {v w : Where} → Lower v w → (p : ParamTree) → is_plain p ≡ true →
    Respells (param p w) (param (bare_param p) v) (param_trees (bare_param p))
param_again l (lifetime_param [] x bs) e = respells_then (respells_attributes l []) (respells_then (respells_lifetime l x) (maybe_lifetimes l bs))
param_again l (type_param [] i bs None) e =
    respells_then (respells_attributes l []) (respells_then (respells_name l i) (respells_then (maybe_list l bs) (respells_absent unseen_equals)))
param_again l (const_param [] i x None) e =
    respells_then (respells_attributes l [])
    (respells_then (respells_word l (codes "const"))
    (respells_then (respells_name l i) (respells_then (respells_colon l) (respells_then (again_bare l x) (respells_absent unseen_equals)))))
param_again l _ e = absurd (cc)

first_plain : (b : Bool) (p : ParamTree) (ps : List ParamTree) → are_plain b (p ∷ ps) ≡ true → (is_plain p ≡ true) × (are_plain (is_lifetime p) ps ≡ true)
first_plain b p ps e = let h = and_parts _ (are_plain (is_lifetime p) ps) e in ((and_parts (is_plain p) _ h.0).0, h.1)

each_param : {v w : Where} → Lower v w → (ps : List ParamTree) (b : Bool) → are_plain b ps ≡ true →
    EachAgain (λ p. param p w) (λ p. param p v) bare_param param_trees ps
each_param l [] b e = tt
each_param l (p ∷ ps) b e = let h = first_plain b p ps e in (param_again l p h.0, each_param l ps (is_lifetime p) h.1)

abbrev pub bare_params : Listed ParamTree → Listed ParamTree
bare_params ps = bare_items_of bare_param ps

-- the tokens of parameters, as they are listed
abbrev pub generic_trees : Bool → Listed ParamTree → Trees
generic_trees angled ps = spell.given angled (spell.angle_trees nowhere (map param_trees ps.items) ps.trailing)

generics_again : {v w : Where} → Lower v w → (angled : Bool) (ps : Listed ParamTree) → are_plain true ps.items ≡ true →
    Respells (generics angled ps w) (generics angled (bare_params ps) v) (generic_trees angled (bare_params ps))
generics_again {v} {w} l angled ps e =
    respells_provided (λ f h. ap bare_params (f h))
    (λ f.
    respells_flag angled (unseen_sees 60)
    (respells_angles (λ v. decl.listed (sees 62) param ps v) (λ v. decl.listed (sees 62) param (bare_params ps) v) l
    (items_again (λ p. param p (deeper w)) (λ p. param p (deeper v)) bare_param param_trees 44 (plain 44 refl) (sees 62) (below l) ps.items
    ps.trailing (each_param (below l) ps.items true e))))

-- ---- predicates

pub predicate_again : {v w : Where} → Lower v w → (x : PredicateTree) →
    Respells (predicate x w) (predicate (bare_predicate x) v) (predicate_trees (bare_predicate x))
predicate_again l (lifetime_predicate x ls) = respells_then (respells_lifetime l x) (again_lifetimes l ls)
predicate_again l (type_predicate ls x bs) = respells_then (again_for l ls) (respells_then (again_bare l x) (again_list l bs))

-- the tokens of predicates, as they are listed
abbrev pub clause_trees : Option (Listed PredicateTree) → Trees
clause_trees None = no_trees
clause_trees (Some ps) = join (spell.word (codes "where") nowhere) (spell.listed 44 nowhere (map predicate_trees ps.items) ps.trailing)

abbrev pub bare_clause : Option (Listed PredicateTree) → Option (Listed PredicateTree)
bare_clause c = option_map (bare_items_of bare_predicate) c

clause_again : {v w : Where} → Lower v w → (c : Option (Listed PredicateTree)) →
    RespellsIf (Ending ends_where) (where_clause c w) (where_clause (bare_clause c) v) (clause_trees (bare_clause c))
clause_again l None = λ ts others m s o c h. respells_absent (unseen_word (codes "where")) ts others m s o c tt
clause_again {v} {w} l (Some ps) =
    respells_then (respells_word l (codes "where"))
    (items_again (λ x. predicate x w) (λ x. predicate x v) bare_predicate predicate_trees 44 (plain 44 refl) ends_where l ps.items ps.trailing
    (each_again (λ x. predicate x w) (λ x. predicate x v) bare_predicate predicate_trees (predicate_again l) ps.items))

-- ---- all of it: a type before `for` is the trait

abbrev pub before_for : Option TypeTree → Where → Spelling
before_for None w = Nothing
before_for (Some x) w = type_spelled x false w then keyword w (codes "for")

abbrev pub before_for_trees : Option TypeTree → Trees
before_for_trees None = no_trees
before_for_trees (Some x) = join (spell.type_trees x) (spell.word (codes "for") nowhere)

before_for_again : {v w : Where} → Lower v w → (o : Option TypeTree) →
    Respells (before_for o w) (before_for (option_map unplaced_type o) v) (before_for_trees (option_map unplaced_type o))
before_for_again l None = respells_nothing
before_for_again l (Some x) = respells_then (again_bare l x) (respells_word l (codes "for"))

abbrev pub between : Bool → Listed ParamTree → Option TypeTree → TypeTree → Option (Listed PredicateTree) → Where → Spelling
between angled ps o x c w = generics angled ps w then (before_for o w then (type_spelled x false w then where_clause c w))

abbrev pub all_trees : Bool → Listed ParamTree → Option TypeTree → TypeTree → Option (Listed PredicateTree) → Trees
all_trees angled ps o x c = join (generic_trees angled ps) (join (before_for_trees o) (join (spell.type_trees x) (clause_trees c)))

pub between_again : {v w : Where} → Lower v w → (angled : Bool) (ps : Listed ParamTree) (o : Option TypeTree) (x : TypeTree) →
    (c : Option (Listed PredicateTree)) → are_plain true ps.items ≡ true →
    RespellsIf (Ending ends_where) (between angled ps o x c w)
    (between angled (bare_params ps) (option_map unplaced_type o) (unplaced_type x) (bare_clause c) v)
    (all_trees angled (bare_params ps) (option_map unplaced_type o) (unplaced_type x) (bare_clause c))
between_again l angled ps o x c e =
    respells_then (generics_again l angled ps e)
    (respells_then (before_for_again l o) (respells_then (again_bare l x) (clause_again l c)))
