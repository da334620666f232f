-- What the program's readers of fronts give: what their readers decide, seen by the program's values.
use Rattle.std.proofs.Common.{◌≡◌, ℕ, true, false, codes, Result, Ok, Err, IfOk, IfErr, refl, sym, ap, ◌∙◌, subst, arith}
use Rattle.std.specs.Prelude.{IsErrAnd}
use Rattle.dm_stream.specs.declared.error.Error.{Error}
use Rattle.dm_stream.specs.declared.error.Error.TheVariants as error
use Rattle.dm_stream.specs.declared.error.Kind.{Kind}
use Rattle.dm_stream.specs.declared.error.Kind.TheVariants.{TooDeep, Syntax}
use Rattle.dm_stream.specs.declared.error.Refusal.{Refusal}
use Rattle.dm_stream.specs.declared.cursor.Cursor.{Cursor}
use Rattle.dm_stream.specs.Trees.{Trees, no_trees}
use Rattle.dm_stream.specs.Cursors.{left, front_span}
use Rattle.dm_ast.specs.Declarations.{PredicateTree, lifetime_predicate, type_predicate}
use Rattle.dm_ast.specs.Spelling.{Where, Marks, Spelling, ◌then◌, at_end, sees, sees_word, lifetime, keyword, colon, items}
use Rattle.dm_ast.specs.TypeGrammar.{type_spelled, bound, between_angles}
use Rattle.dm_ast.specs.DeclarationGrammar.{listed, bound_list, predicate}
use Rattle.dm_read.specs.DeclarationReaders.{read_listed, read_predicate}
use Rattle.dm_ast.specs.Runs.{run, read_run}
use Rattle.dm_ast.specs.Readers.{Outcome, Reads}
use Rattle.dm_meta.specs.Fronts.{IsFront, IsUnreadFront, NoFront, ToEnd}
use Rattle.dm_ast.specs.Places.{IsPlaceIn, IsRefusedAt}
use Rattle.dm_grammar_laws.proofs.LicensedSteps.{Licensed}
use Rattle.dm_read_paths.specs.WholeReaders.{whole_type, whole_bound, parts}
use Rattle.dm_read_paths.proofs.PlainParts.{nothing_left}
use Rattle.dm_read.proofs.Deciding.{Same, IsRead, IsRefused, Decides, Reader}
use Rattle.dm_grammar_laws.proofs.Licensing.{syntax_by, syntax_in_front, refused_behind}
use Rattle.dm_grammar_laws.proofs.TypeTheorem.{type_decided, bound_decided}
use Rattle.dm_grammar_laws.proofs.TypeFronts.{Begins, behind_perhaps, type_front, type_no_end}
use Rattle.dm_grammar_laws.proofs.DeclarationParts.{reads_listed}
use Rattle.dm_grammar_laws.proofs.DeclarationGenerics.{reads_predicate}
use Rattle.dm_grammar_laws.proofs.DeclarationRules.{parts_decided}
use Rattle.dm_grammar_laws.proofs.Runs.{reads_run}

module _ {A : Type 0} (S : A → Spelling) (ts : Trees) where
  same_parts : (x : A) (others : Trees) (k : Marks) (y : A) (o : Trees) (m : Marks) → Same x others k y o m → (y ≡ x) × (o ≡ others) × (m ≡ k)
  same_parts x others k y o m s = (s.value, s.left, s.marks)

  pub is_front : (x : A) (others : Trees) → IsRead S ts x others → IsFront S ts x others
  is_front x others h =
      record { marks = h.marks; spelled = h.spelled; within = h.within; only = λ y o m s. same_parts x others h.marks y o m (h.only y o m s) }

  pub is_no_front : (k : Kind) (limit : ℕ) (r : Refusal) → r.kind ≡ k → IsRefusedAt 0 limit r ts → IsRefused S ts k r.span → IsUnreadFront S k r.span limit ts
  is_no_front TooDeep limit r q p h = record { first = h; place = p.place; deep = omega (arith, p.deep q) }
  is_no_front Syntax limit r q p h = record { none = h; place = p.place }
  is_no_front _ limit r q p h = absurd h

  module _ {X : Type 0} (view : X → A) (limit : ℕ) (outcome : Outcome A) (d : Decides S ts outcome) (p : (r : Refusal) → outcome ≡ Err r → IsRefusedAt 0 limit r ts) where
    pub front_found : (r : Result (X × Cursor) Error) → Reads view outcome r → IfOk r (λ p. IsFront S ts (view p.0) (left p.1))
    front_found (Ok x) h = is_front (view x.0) (left x.1) (subst (Decides S ts) h d)
    front_found (Err e) h = tt

    pub front_refused : (r : Result (X × Cursor) Error) → Reads view outcome r → IfErr r (λ e. NoFront S e limit ts)
    front_refused (Ok x) h = tt
    front_refused (Err (error.Refused r)) h = is_no_front r.kind limit r refl (p r h) (subst (Decides S ts) h d)
    front_refused (Err error.NoMemory) h = tt

-- ---- parts behind which nothing is left

module _ {A X : Type 0} (view : X → A) (S : A → Spelling) (c : Cursor) (w : Where) (outcome : Outcome A) (d : Decides S (left c) outcome)
    (g : Licensed 0 w (left c) outcome) (top : w.level ≡ 0) where
  read_is : (x : X) (rest : Cursor) → outcome ≡ Ok (view x, left rest) → IsRead S (left c) (view x) (left rest)
  read_is x rest h = subst (Decides S (left c)) h d

  pub end_found : (x : X) (rest : Cursor) → outcome ≡ Ok (view x, left rest) → at_end (left rest) ≡ true → IsFront (ToEnd S) (left c) (view x) no_trees
  end_found x rest h e =
      let i : IsRead S (left c) (view x) (left rest) = read_is x rest h in
      record {
        marks = i.marks;
        spelled = record { part = subst (λ o. S (view x) (left c) o i.marks) (nothing_left (left rest) e) i.spelled; fact = refl };
        within = i.within;
        only = λ y o m s.
            let k : Same (view x) (left rest) i.marks y o m = i.only y o m s.part in
            (k.value, s.fact, k.marks);
      }

  refused_so : (k : Kind) (r : Refusal) → r.kind ≡ k → IsRefusedAt w.level w.limit r (left c) → IsRefused S (left c) k r.span →
      IsUnreadFront (ToEnd S) k r.span w.limit (left c)
  refused_so TooDeep r q p h = record { first = λ y o m s. h y o m s.part; place = p.place; deep = omega (arith, p.deep q, top) }
  refused_so Syntax r q p h = record { none = λ y o m s. h y o m s.part; place = p.place }
  refused_so _ r q p h = absurd h

  refused_by : (e : Error) → Reads view outcome (Err e) → NoFront (ToEnd S) e w.limit (left c)
  refused_by (error.Refused r) h = refused_so r.kind r refl (subst (Licensed 0 w (left c)) h g) (subst (Decides S (left c)) h d)
  refused_by error.NoMemory h = tt

  -- the part itself is refused
  pub end_refused : {Y : Type 0} (e : Error) → Reads view outcome (Err e) → (res : Result Y Error) → IsErrAnd res (λ f. f ≡ e) →
      IfErr res (λ f. NoFront (ToEnd S) f w.limit (left c))
  end_refused e h (Ok y) k = tt
  end_refused e h (Err f) k = subst (λ x. NoFront (ToEnd S) x w.limit (left c)) (sym k) (refused_by e h)

  more_left : (x : X) (rest : Cursor) → outcome ≡ Ok (view x, left rest) → at_end (left rest) ≡ false → (y : A) (o : Trees) (m : Marks) → ¬ ToEnd S y (left c) o m
  more_left x rest h e y o m s =
      let i : IsRead S (left c) (view x) (left rest) = read_is x rest h in
      let k : Same (view x) (left rest) i.marks y o m = i.only y o m s.part in
      let f : at_end (left rest) ≡ true = ap at_end (sym k.left ∙ s.fact) in
      absurd (cc)

  missed_at : (x : X) (rest : Cursor) → outcome ≡ Ok (view x, left rest) → IsPlaceIn w.limit (left c) (front_span (left rest) w.limit)
  missed_at x rest h = (refused_behind w.level w.limit (syntax_by (front_span (left rest) w.limit)) (left c) (left rest) (subst (Licensed 0 w (left c)) h g)
      (syntax_in_front w.level w.limit (left rest))).place

  -- more is left behind it
  pub end_missed : {Y : Type 0} (x : X) (rest : Cursor) (e : Error) → outcome ≡ Ok (view x, left rest) → at_end (left rest) ≡ false →
      e ≡ error.Refused (syntax_by (front_span (left rest) w.limit)) → (res : Result Y Error) → IsErrAnd res (λ f. f ≡ e) →
      IfErr res (λ f. NoFront (ToEnd S) f w.limit (left c))
  end_missed x rest e h b q (Ok y) k = tt
  end_missed x rest e h b q (Err f) k =
      subst (λ z. NoFront (ToEnd S) z w.limit (left c)) (sym (k ∙ q)) (record { none = more_left x rest h b; place = missed_at x rest h })

-- ---- types

pub whole_type_decided : (w : Where) → Reader (λ t. type_spelled t false w) (whole_type w)
unfolding whole_type
whole_type_decided w = type_decided w

pub whole_bound_decided : (w : Where) → Reader (λ b. bound b w) (whole_bound w)
unfolding whole_bound
whole_bound_decided w = bound_decided w

-- ---- predicates

predicates_front : (w : Where) (x : PredicateTree) → Begins at_end false (predicate x w)
predicates_front w (lifetime_predicate l ls) = λ ts o m s. ap at_end s.first.spelled
predicates_front w (type_predicate ls t bs) =
    behind_perhaps at_end false (type_spelled t false w then (colon w then bound_list w bs)) (sees_word (codes "for")) ls
    (λ l. keyword w (codes "for") then between_angles w (λ v. items v 44 (sees 62) (lifetime v) l.items l.trailing))
    (λ l ts o m s. ap at_end s.first.there.spelled) (λ ts o m s. type_no_end ts (type_front t false w ts s.middle s.first_marks s.first))

pub predicates_decided : (w : Where) → Reader (λ ps. listed at_end predicate ps w) (read_listed at_end (read_predicate parts) w)
predicates_decided w =
    reads_listed at_end predicate (read_predicate parts) w (predicates_front w)
    (reads_predicate run parts (parts_decided run whole_type whole_bound read_run whole_type_decided whole_bound_decided reads_run) w)
