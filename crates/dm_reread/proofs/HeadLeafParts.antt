-- Parameters and predicates that are spelled before other trees are spelled before them also where an end stands behind these, and so is
-- a where clause, where its own end stands behind.
use Rattle.std.proofs.Common.{◌≡◌, Bool, true, false, ◌&&◌, ◌||◌, not, nat_eq, List, [], ◌∷◌, codes, Option, Some, None, refl, ap, ◌∙◌}
use Rattle.std.proofs.lemmas.Bool.{eqb-true, or_parts, not_from_false, not-true}
use Rattle.dm_stream.specs.declared.tokens.Delim.TheVariants.{Bracket, Brace}
use Rattle.dm_stream.specs.declared.tokens.Token.TheVariants as t
use Rattle.dm_stream.specs.declared.seq.Punctuated.{Punctuated}
use Rattle.dm_stream.specs.Trees.{Trees, no_trees, token, group, join}
use Rattle.dm_ast.specs.declared.plain.Attribute.{Attribute}
use Rattle.dm_ast.specs.Tree.{BoundTree, bounds_of}
use Rattle.dm_ast.specs.Declarations.{Listed, ParamTree, lifetime_param, type_param, const_param, PredicateTree, lifetime_predicate, type_predicate}
use Rattle.dm_ast.specs.Spelling.{Where, Marks, Spelling, at_end, ◌then◌, is_joint, one_of, sees, sees_one, sees_word, sees_group, sees_lifetime, sees_colon, sees_equals, lifetime, colon, equals, perhaps}
use Rattle.dm_ast.specs.TypeGrammar.{behind_idents, is_call, attributes, plain_path, attribute_args}
use Rattle.dm_ast.specs.DeclarationGrammar as decl
use Rattle.dm_ast.specs.DeclarationGrammar.{lifetime_bounds, bound_list, param, generics, predicate, ends_where, where_clause}
use Rattle.dm_read_paths.proofs.TypeEnds.{type_goes_on}
use Rattle.dm_type_eq.proofs.Cutting.{and_kept}
use Rattle.dm_reread.proofs.TypeLeafEnds.{Stop, stop_end, stop_punct, stop_brace, stop_word, apart, unmet_sees, unmet_one, unmet_colon, unmet_lifetime, kept_word}
use Rattle.dm_reread.proofs.TypeLeafParts as parts
use Rattle.dm_reread.proofs.TypeLeafParts.{ExtendsIf, Extends, ext_then, ext_before, ext_if, ext_nothing, ext_where, ext_provided, ext_ranged, ext_absent, ext_flag, ext_token, ext_punct, ext_word, ext_group, ext_equals, ext_colon, ext_for, ext_angles, Ends, angle_over, ext_items}
use Rattle.dm_reread.proofs.TypeLeafCalls.{Calm, calm_as, calm_end, idents_stay, no_mark}
use Rattle.dm_reread.proofs.TypeLeafTypes.{no_binding, Bounded, bounded_punct, bounded_listed, bounded, ext_type, ext_bounds, ext_constant, constant_goes_on}

-- an end, `,`, `;`, `>` and a brace
abbrev pub ends_item : Trees → Bool
ends_item (token (t.Punct p) ts) = one_of (44 ∷ 59 ∷ 62 ∷ []) p.ch
ends_item ts = at_end ts || sees_group Brace ts

module _ (rest : Trees) (stop : Stop rest) where
  -- what a parameter stands before: bounds end there, and no default begins
  abbrev pub Quiet : Trees → Type 0
  Quiet ts = Bounded rest stop ts × (sees_equals (join ts rest) ≡ false)

  pub quiet_end : ends_item rest ≡ true → Quiet no_trees
  quiet_end h = let k = by rest stop h in ((calm_end rest stop, k.0), k.1)
    where
      by : (us : Trees) → Stop us → ends_item us ≡ true → (sees_word (codes "for") us ≡ false) × (sees_equals us ≡ false)
      by _ stop_end e = (refl, refl)
      by _ (stop_punct p ts a o) e =
          (refl, ap (λ b. b && not (is_joint p.spacing && sees_one (61 ∷ 62 ∷ []) ts)) (apart (44 ∷ 59 ∷ 62 ∷ []) p.ch 61 e refl))
      by _ (stop_brace f g us ts) e = (refl, refl)
      by _ (stop_word i ts o) e = absurd (cc)

  pub quiet : {S : Spelling} → ExtendsIf rest (Bounded rest stop) S → ExtendsIf rest Quiet S
  quiet f ts others m s c = f ts others m s c.0

  -- in angle brackets
  pub quiet_item : {S : Spelling} → ExtendsIf rest Quiet S → ExtendsIf rest parts.Listed S
  quiet_item f ts others m s c =
      let e = or_parts (sees_equals (join others rest)) (sees_colon (join others rest)) (no_binding rest stop others c) in
      f ts others m s (bounded_listed rest stop others c, e.0)

  -- ---- what stands behind parts of them

  bounded_as : {ts us : Trees} → ts ≡ us → Bounded rest stop us → Bounded rest stop ts
  bounded_as e c = (calm_as rest stop e c.0, ap (λ x. sees_word (codes "for") (join x rest)) e ∙ c.1)

  bounded_equals : (w : Where) (ts others : Trees) (m : Marks) → equals w ts others m → Bounded rest stop ts
  bounded_equals w ts others m s =
      bounded_punct rest stop w 61 refl ts others m (record { punct = s.punct; is = s.is; there = s.there })

  not_two : (b c : Bool) (ts : Trees) → (b && sees_one (58 ∷ []) ts) ≡ false → ((c && b) && sees 58 ts) ≡ false
  not_two b false ts e = refl
  not_two false true ts e = refl
  not_two true true no_trees e = refl
  not_two true true (token (t.Punct p) ts) e = (or_parts (nat_eq p.ch 58) false e).0
  not_two true true (token (t.Ident i) ts) e = refl
  not_two true true (token (t.Literal l) ts) e = refl
  not_two true true (token (t.Lifetime l) ts) e = refl
  not_two true true (group d f us g ts) e = refl

  -- a lone `:` goes on with no path
  calm_colon : (w : Where) (ts others : Trees) (m : Marks) → colon w ts others m → Calm rest stop ts
  calm_colon w ts others m s =
      let k : Trees = token (t.Punct s.punct) (join others rest) in
      let lone : (is_joint s.punct.spacing && sees_one (58 ∷ []) (join others rest)) ≡ false =
      and_kept (is_joint s.punct.spacing) (sees_one (58 ∷ []) others) (sees_one (58 ∷ []) (join others rest))
      (unmet_one rest stop 58 refl others) s.lone in
      let called : is_call (Some (behind_idents k)) ≡ false =
      ap (λ x. is_call (Some x)) (idents_stay k (not_two (is_joint s.punct.spacing) (nat_eq s.punct.ch 58) (join others rest) lone)) ∙
      no_mark s.punct (join others rest) (ap (λ x. nat_eq x 33) s.is) in
      calm_as rest stop s.there.spelled (called, ap (λ x. nat_eq x 45) s.is)

  -- ---- parts of parameters and predicates

  ext_attributes : (w : Where) (as' : List Attribute) → Extends rest (attributes w as')
  ext_attributes w [] = ext_absent rest (unmet_sees rest stop 35 refl)
  ext_attributes w (a ∷ as') =
      ext_then rest
      (ext_ranged rest
      (ext_then rest (ext_punct rest w 35) (ext_group rest w Bracket (λ v. plain_path v a.path then attribute_args v a.args))))
      (ext_attributes w as')

  lifetimes_over : (w : Where) → Ends rest (Bounded rest stop) w 43 (λ ts. not (sees_lifetime ts))
  lifetimes_over w =
      record {
        apart = λ ts c e. unmet_sees rest stop 43 refl ts e;
        ends = λ ts c e. not_from_false (sees_lifetime (join ts rest)) (unmet_lifetime rest stop ts (not-true (sees_lifetime ts) e));
        before = λ ts others m s. bounded_punct rest stop w 43 refl ts others m s;
      }

  ext_lifetimes : (w : Where) (ls : Punctuated _) → ExtendsIf rest (Bounded rest stop) (lifetime_bounds w ls)
  ext_lifetimes w ls =
      ext_items rest (Bounded rest stop) w 43 (λ ts. not (sees_lifetime ts)) (lifetimes_over w) (lifetime w)
      (λ l. ext_if rest _ (ext_token rest w (t.Lifetime l))) ls.items
      ls.trailing

  ext_bound_list : (w : Where) (bs : Listed BoundTree) → ExtendsIf rest (Bounded rest stop) (bound_list w bs)
  ext_bound_list w bs = ext_bounds rest stop (bounds_of bs.items) bs.trailing w

  -- what may be missing, before what is no call
  ext_maybe : {X : Type 0} {test : Trees → Bool} {A : X → Spelling} (x : Option X) →
      ((ts : Trees) → test ts ≡ false → test (join ts rest) ≡ false) →
      ((y : X) → ExtendsIf rest (Bounded rest stop) (A y)) → ExtendsIf rest (Bounded rest stop) (perhaps test x A)
  ext_maybe None k h = ext_if rest _ (ext_absent rest k)
  ext_maybe (Some y) k h = h y

  pub before_maybe : {X : Type 0} (test : Trees → Bool) {A : X → Spelling} (x : Option X) →
      ((y : X) (ts others : Trees) (m : Marks) → A y ts others m → Bounded rest stop ts) → (ts others : Trees) (m : Marks) →
      perhaps test x A ts others m → Bounded rest stop others → Bounded rest stop ts
  before_maybe test None h ts others m s c = bounded_as s.part.spelled c
  before_maybe test (Some y) h ts others m s c = h y ts others m s

  -- a default, where none begins behind
  ext_default : {X : Type 0} {A : X → Spelling} (w : Where) (x : Option X) →
      ((y : X) (ts others : Trees) (m : Marks) → A y ts others m → at_end ts ≡ false) → ((y : X) → ExtendsIf rest Quiet (A y)) →
      ExtendsIf rest Quiet (perhaps sees_equals x (λ y. equals w then A y))
  ext_default w None k h = ext_where rest (λ others c e. c.1) (ext_if rest _ (ext_nothing rest))
  ext_default w (Some y) k h = ext_before rest (λ mid others m s c. k y mid others m s) (ext_equals rest w) (h y)

  -- ---- parameters

  pub ext_param : (p : ParamTree) (w : Where) → ExtendsIf rest Quiet (param p w)
  ext_param (lifetime_param as' l bs) w =
      ext_then rest (ext_attributes w as')
      (ext_then rest (ext_token rest w (t.Lifetime l))
      (quiet (ext_maybe bs (unmet_colon rest stop) (λ ls. ext_then rest (ext_colon rest stop w) (ext_lifetimes w ls)))))
  ext_param (type_param as' i bs default) w =
      ext_then rest (ext_attributes w as')
      (ext_then rest (ext_provided rest (λ e. ext_token rest w (t.Ident i)))
      (ext_before rest
      (λ mid others m s c. before_maybe sees_equals default
      (λ x ts o k r. bounded_equals w ts r.middle r.first_marks r.first) mid others m s c.0)
      (ext_maybe bs (unmet_colon rest stop) (λ b. ext_then rest (ext_colon rest stop w) (ext_bound_list w b)))
      (ext_default w default (λ x. type_goes_on x false w) (λ x. quiet (bounded rest stop (ext_type rest stop x false w))))))
  ext_param (const_param as' i x default) w =
      ext_then rest (ext_attributes w as')
      (ext_then rest (ext_word rest w (codes "const"))
      (ext_then rest (ext_provided rest (λ e. ext_token rest w (t.Ident i)))
      (ext_then rest (ext_colon rest stop w)
      (ext_before rest
      (λ mid others m s c. before_maybe sees_equals default
      (λ k ts o n r. bounded_equals w ts r.middle r.first_marks r.first) mid others m s c.0)
      (bounded rest stop (ext_type rest stop x false w))
      (ext_default w default (λ k. constant_goes_on rest stop k w) (λ k. ext_if rest _ (ext_constant rest stop k w)))))))

  pub ext_generics : (angled : Bool) (ps : Listed ParamTree) (w : Where) → Extends rest (generics angled ps w)
  ext_generics angled ps w =
      ext_provided rest
      (λ e.
      ext_flag rest angled (unmet_sees rest stop 60 refl)
      (ext_angles rest w (λ v. decl.listed (sees 62) param ps v)
      (λ v. ext_items rest parts.Listed v 44 (sees 62) (angle_over rest v) (λ x. param x v)
      (λ x. quiet_item (ext_param x v)) ps.items ps.trailing)))

  -- ---- predicates

  bounded_predicate : (x : PredicateTree) (w : Where) → ExtendsIf rest (Bounded rest stop) (predicate x w)
  bounded_predicate (lifetime_predicate l ls) w =
      ext_then rest (ext_token rest w (t.Lifetime l)) (ext_then rest (ext_colon rest stop w) (ext_lifetimes w ls))
  bounded_predicate (type_predicate ls x bs) w =
      ext_before rest (λ mid others m s c. type_goes_on x false w mid s.middle s.first_marks s.first) (ext_for rest stop w ls)
      (ext_before rest (λ mid others m s c. calm_colon w mid s.middle s.first_marks s.first) (ext_type rest stop x false w)
      (ext_then rest (ext_colon rest stop w) (ext_bound_list w bs)))

  pub ext_predicate : (x : PredicateTree) (w : Where) → ExtendsIf rest Quiet (predicate x w)
  ext_predicate x w = quiet (bounded_predicate x w)

  -- ---- the where clause, before an end, `;` or a brace

  module _ (over : ends_where rest ≡ true) where
    where_stop : (us : Trees) → Stop us → ends_where us ≡ true → (sees_word (codes "where") us ≡ false) × (sees 44 us ≡ false)
    where_stop _ stop_end e = (refl, refl)
    where_stop _ (stop_punct p ts a o) e = (refl, ap (λ c. nat_eq c 44) (eqb-true p.ch 59 e))
    where_stop _ (stop_brace f g us ts) e = (refl, refl)
    where_stop _ (stop_word i ts o) e = absurd (cc)

    no_where : (ts : Trees) → sees_word (codes "where") ts ≡ false → sees_word (codes "where") (join ts rest) ≡ false
    no_where no_trees e = (where_stop rest stop over).0
    no_where (token k ts) e = kept_word rest stop (codes "where") (token k ts) refl e
    no_where (group d f us g ts) e = refl

    no_comma : (ts : Trees) → sees 44 ts ≡ false → sees 44 (join ts rest) ≡ false
    no_comma no_trees e = (where_stop rest stop over).1
    no_comma (token (t.Punct p) ts) e = e
    no_comma (token (t.Ident i) ts) e = e
    no_comma (token (t.Literal l) ts) e = e
    no_comma (token (t.Lifetime l) ts) e = e
    no_comma (group d f us g ts) e = e

    where_ends : (ts : Trees) → ends_where ts ≡ true → ends_where (join ts rest) ≡ true
    where_ends no_trees e = over
    where_ends (token (t.Punct p) ts) e = e
    where_ends (token (t.Ident i) ts) e = e
    where_ends (token (t.Literal l) ts) e = e
    where_ends (token (t.Lifetime l) ts) e = e
    where_ends (group d f us g ts) e = e

    where_over : (w : Where) → Ends rest (Bounded rest stop) w 44 ends_where
    where_over w =
        record {
          apart = λ ts c e. no_comma ts e;
          ends = λ ts c e. where_ends ts e;
          before = λ ts others m s. bounded_punct rest stop w 44 refl ts others m s;
        }

    pub ext_clause : (c : Option (Listed PredicateTree)) (w : Where) → ExtendsIf rest (Bounded rest stop) (where_clause c w)
    ext_clause c w =
        ext_maybe c no_where
        (λ ps.
        ext_then rest (ext_word rest w (codes "where"))
        (ext_items rest (Bounded rest stop) w 44 ends_where (where_over w) (λ x. predicate x w) (λ x. bounded_predicate x w) ps.items
        ps.trailing))
