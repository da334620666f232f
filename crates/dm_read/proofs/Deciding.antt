-- What a reader decides: it reads the one thing that the trees spell, or refuses where they spell none within the deepest level.
use Rattle.std.proofs.Common.{◌≡◌, Bool, true, false, cond, if◌then◌else◌, nat_lt, List, [], ◌∷◌, ◌++◌, map, Option, Some, None, Ok, Err, refl, sym, ap, ap₂, ◌∙◌, subst, append_assoc}
use Rattle.std.proofs.lemmas.List.{map-append}
use Rattle.dm_stream.specs.declared.tokens.Span.{Span}
use Rattle.dm_stream.specs.declared.tokens.Entry.{Entry}
use Rattle.dm_stream.specs.declared.error.Kind.{Kind}
use Rattle.dm_stream.specs.declared.error.Kind.TheVariants.{TooDeep, Syntax}
use Rattle.dm_stream.specs.Trees.{Trees, flatten}
use Rattle.dm_ast.specs.Spelling.{Marks, Spelling, deepest, first_too_deep, Nothing, Then, ◌then◌, Before, flag, perhaps}
use Rattle.dm_ast.specs.Readers.{Outcome, Parser, and_then, mapped, entry_span, ◌and◌, ◌next◌, ◌till◌, read_flag, read_perhaps}

-- ---- what is decided

-- the tokens between the trees and what is left are those of the marks
pub record Covers (ts others : Trees) (m : Marks) : Type 0 where
  pub front : List Entry
  pub splits : flatten ts ≡ front ++ flatten others
  pub ranges : map entry_span front ≡ map (λ k. k.1) m

pub record Same {A : Type 0} (x : A) (others : Trees) (m : Marks) (y : A) (o : Trees) (k : Marks) : Type 0 where
  pub value : y ≡ x
  pub left : o ≡ others
  pub marks : k ≡ m

pub record IsRead {A : Type 0} (S : A → Spelling) (ts : Trees) (x : A) (others : Trees) : Type 0 where
  pub marks : Marks
  pub spelled : S x ts others marks
  pub within : first_too_deep marks ≡ None
  pub covers : Covers ts others marks
  pub only : (y : A) (o : Trees) (k : Marks) → S y ts o k → Same x others marks y o k

abbrev pub IsRefused : {A : Type 0} → (A → Spelling) → Trees → Kind → Span → Type 0
IsRefused {A} S ts TooDeep span = (y : A) (o : Trees) (k : Marks) → S y ts o k → first_too_deep k ≡ Some span
IsRefused {A} S ts Syntax span = (y : A) (o : Trees) (k : Marks) → S y ts o k → ⊥
IsRefused S ts _ span = ⊥

abbrev pub Decides : {A : Type 0} → (A → Spelling) → Trees → Outcome A → Type 0
Decides S ts (Ok p) = IsRead S ts p.0 p.1
Decides S ts (Err r) = IsRefused S ts r.kind r.span

-- a reader decides it at all trees
abbrev pub Reader : {A : Type 0} → (A → Spelling) → Parser A → Type 0
Reader S p = (ts : Trees) → Decides S ts (p ts)

-- ---- marks one after another

pub covers_then : {ts mid others : Trees} {m k : Marks} → Covers ts mid m → Covers mid others k → Covers ts others (m ++ k)
covers_then {ts} {mid} {others} {m} {k} a b =
    record {
      front = a.front ++ b.front;
      splits = a.splits ∙ ap (λ l. a.front ++ l) b.splits ∙ sym (append_assoc a.front b.front (flatten others));
      ranges = map-append entry_span a.front b.front ∙ ap₂ (λ x y. x ++ y) a.ranges b.ranges ∙ sym (map-append (λ p. p.1) m k);
    }

pub covers_none : (ts : Trees) → Covers ts ts []
covers_none ts = record { front = []; splits = refl; ranges = refl }

-- where nothing stands
nothing_read : {A : Type 0} (S : A → Spelling) (ts : Trees) (x : A) → S x ts ts [] → ((y : A) (o : Trees) (m : Marks) → S y ts o m → Same x ts [] y o m) →
    IsRead S ts x ts
nothing_read S ts x s only = record { marks = []; spelled = s; within = refl; covers = covers_none ts; only = only }

behind : (b : Bool) (s : Span) (r q : Option Span) → cond b (Some s) r ≡ None → (r ≡ None → q ≡ q) → cond b (Some s) q ≡ q
behind true s r q h k = absurd (cc)
behind false s r q h k = refl

rest_none : (b : Bool) (s : Span) (r : Option Span) → cond b (Some s) r ≡ None → r ≡ None
rest_none true s r h = absurd (cc)
rest_none false s r h = h

-- behind marks that are not too deep
pub deep_behind : (m k : Marks) → first_too_deep m ≡ None → first_too_deep (m ++ k) ≡ first_too_deep k
deep_behind [] k h = refl
deep_behind (x ∷ m) k h =
    behind (nat_lt deepest x.0) x.1 (first_too_deep m) (first_too_deep (m ++ k)) h (λ _. refl) ∙ deep_behind m k (rest_none (nat_lt deepest x.0) x.1 (first_too_deep m) h)

front_too : (b : Bool) (s e : Span) (r q : Option Span) → cond b (Some s) r ≡ Some e → (r ≡ Some e → q ≡ Some e) → cond b (Some s) q ≡ Some e
front_too true s e r q h k = h
front_too false s e r q h k = k h

-- marks that are too deep, and others behind them
pub deep_front : (m k : Marks) (e : Span) → first_too_deep m ≡ Some e → first_too_deep (m ++ k) ≡ Some e
deep_front [] k e h = absurd (cc)
deep_front (x ∷ m) k e h = front_too (nat_lt deepest x.0) x.1 e (first_too_deep m) (first_too_deep (m ++ k)) h (deep_front m k e)

-- ---- refusals are passed on

-- the marks are those of a spelling among others
pub record Holds {A : Type 0} (S : A → Spelling) (ts : Trees) (m : Marks) : Type 0 where
  pub value : A
  pub left : Trees
  pub marks : Marks
  pub spelled : S value ts left marks
  pub deep : (e : Span) → first_too_deep marks ≡ Some e → first_too_deep m ≡ Some e

pub refused_by : {A B : Type 0} (S : A → Spelling) (R : B → Spelling) (ts us : Trees) (k : Kind) (span : Span) →
    ((y : B) (o : Trees) (m : Marks) → R y us o m → Holds S ts m) → IsRefused S ts k span → IsRefused R us k span
refused_by S R ts us TooDeep span f h = λ y o m r. let c = f y o m r in c.deep span (h c.value c.left c.marks c.spelled)
refused_by S R ts us Syntax span f h = λ y o m r. let c = f y o m r in h c.value c.left c.marks c.spelled
refused_by S R ts us _ span f h = h

-- ---- one part and another that depends on it

pub record Bound {A B : Type 0} (P : A → Spelling) (T : A → B → Spelling) (y : B) (ts others : Trees) (m : Marks) : Type 0 where
  pub value : A
  pub parts : Then (P value) (T value y) ts others m

module _ {A B : Type 0} (P : A → Spelling) (T : A → B → Spelling) (ts : Trees) where
  -- the second part behind the first that is read
  second : (x : A) (mid : Trees) (p : IsRead P ts x mid) (y : B) (o : Trees) (m : Marks) (b : Bound P T y ts o m) →
      (k : Marks) × (T x y mid o k) × (m ≡ p.marks ++ k)
  second x mid p y o m b =
      let s : Same x mid p.marks b.value b.parts.middle b.parts.first_marks = p.only b.value b.parts.middle b.parts.first_marks b.parts.first in
      let there : T x y b.parts.middle o b.parts.rest_marks = subst (λ v. T v y b.parts.middle o b.parts.rest_marks) s.value b.parts.rest in
      (b.parts.rest_marks, subst (λ v. T x y v o b.parts.rest_marks) s.left there, b.parts.marks ∙ ap (λ l. l ++ b.parts.rest_marks) s.marks)

  second_read : (x : A) (mid : Trees) → IsRead P ts x mid → (y : B) (others : Trees) → IsRead (T x) mid y others → IsRead (Bound P T) ts y others
  second_read x mid p y others q =
      record {
        marks = p.marks ++ q.marks;
        spelled = record { value = x; parts = record { middle = mid; first_marks = p.marks; rest_marks = q.marks; first = p.spelled; rest = q.spelled; marks = refl } };
        within = deep_behind p.marks q.marks p.within ∙ q.within;
        covers = covers_then p.covers q.covers;
        only = λ z o k b.
            let c = second x mid p z o k b in
            let s : Same y others q.marks z o c.0 = q.only z o c.0 c.1 in
            record { value = s.value; left = s.left; marks = c.2 ∙ ap (λ l. p.marks ++ l) s.marks };
      }

  second_holds : (x : A) (mid : Trees) → IsRead P ts x mid → (y : B) (o : Trees) (m : Marks) → Bound P T y ts o m → Holds (T x) mid m
  second_holds x mid p y o m b =
      let c = second x mid p y o m b in
      record { value = y; left = o; marks = c.0; spelled = c.1; deep = λ e h. ap first_too_deep c.2 ∙ deep_behind p.marks c.0 p.within ∙ h }

  first_holds : (y : B) (o : Trees) (m : Marks) → Bound P T y ts o m → Holds P ts m
  first_holds y o m b =
      record {
        value = b.value;
        left = b.parts.middle;
        marks = b.parts.first_marks;
        spelled = b.parts.first;
        deep = λ e h. ap first_too_deep b.parts.marks ∙ deep_front b.parts.first_marks b.parts.rest_marks e h;
      }

  behind_first : (x : A) (mid : Trees) → IsRead P ts x mid → (r : Outcome B) → Decides (T x) mid r → Decides (Bound P T) ts r
  behind_first x mid p (Ok q) h = second_read x mid p q.0 q.1 h
  behind_first x mid p (Err r) h = refused_by (T x) (Bound P T) mid ts r.kind r.span (second_holds x mid p) h

  pub decides_bind : (o : Outcome A) (q : A → Parser B) → Decides P ts o → ((x : A) (mid : Trees) → IsRead P ts x mid → Decides (T x) mid (q x mid)) →
      Decides (Bound P T) ts (and_then o q)
  decides_bind (Ok p) q h k = behind_first p.0 p.1 h (q p.0 p.1) (k p.0 p.1 h)
  decides_bind (Err r) q h k = refused_by P (Bound P T) ts ts r.kind r.span first_holds h

-- ---- the same relation in another form

-- y is the value of a spelling
pub record Image {A B : Type 0} (f : A → B) (P : A → Spelling) (y : B) (ts others : Trees) (m : Marks) : Type 0 where
  pub value : A
  pub is_it : y ≡ f value
  pub spelled : P value ts others m

module _ {A B : Type 0} (f : A → B) (P : A → Spelling) (S : B → Spelling) (ts : Trees) where
  image_read : ((x : A) (o : Trees) (m : Marks) → P x ts o m → S (f x) ts o m) → ((y : B) (o : Trees) (m : Marks) → S y ts o m → Image f P y ts o m) →
      (x : A) (others : Trees) → IsRead P ts x others → IsRead S ts (f x) others
  image_read to back x others h =
      record {
        marks = h.marks;
        spelled = to x others h.marks h.spelled;
        within = h.within;
        covers = h.covers;
        only = λ y o k s.
            let b = back y o k s in
            let e : Same x others h.marks b.value o k = h.only b.value o k b.spelled in
            record { value = b.is_it ∙ ap f e.value; left = e.left; marks = e.marks };
      }

  image_holds : ((y : B) (o : Trees) (m : Marks) → S y ts o m → Image f P y ts o m) → (y : B) (o : Trees) (m : Marks) → S y ts o m → Holds P ts m
  image_holds back y o m s =
      let b = back y o m s in
      record { value = b.value; left = o; marks = m; spelled = b.spelled; deep = λ e h. h }

  pub decides_by : ((x : A) (o : Trees) (m : Marks) → P x ts o m → S (f x) ts o m) → ((y : B) (o : Trees) (m : Marks) → S y ts o m → Image f P y ts o m) →
      (r : Outcome A) → Decides P ts r → Decides S ts (mapped f r)
  decides_by to back (Ok p) h = image_read to back p.0 p.1 h
  decides_by to back (Err r) h = refused_by P S ts ts r.kind r.span (image_holds back) h

module _ {A : Type 0} (P S : A → Spelling) (ts : Trees) where
  unmapped : (R : A → Spelling) (r : Outcome A) → Decides R ts (mapped (λ x. x) r) → Decides R ts r
  unmapped R (Ok p) h = h
  unmapped R (Err r) h = h

  pub decides_iff : ((x : A) (o : Trees) (m : Marks) → P x ts o m → S x ts o m) → ((y : A) (o : Trees) (m : Marks) → S y ts o m → P y ts o m) →
      (r : Outcome A) → Decides P ts r → Decides S ts r
  decides_iff to back r h =
      unmapped S r (decides_by (λ x. x) P S ts to (λ y o m s. record { value = y; is_it = refl; spelled = back y o m s }) r h)

pub decides_test : {A : Type 0} (S : A → Spelling) (ts : Trees) (b : Bool) (x y : Outcome A) → (b ≡ true → Decides S ts x) → (b ≡ false → Decides S ts y) →
    Decides S ts (if b then x else y)
decides_test S ts true x y p q = p refl
decides_test S ts false x y p q = q refl

-- ---- parts one after another

abbrev pub pair : {A B : Type 0} → A → B → A × B
pair a b = (a, b)

pub pair_is : {A B : Type 0} (v : A × B) (a : A) (b : B) → v.0 ≡ a → v.1 ≡ b → v ≡ pair a b
pair_is v a b e f = ap₂ pair e f

pub decides_image : {A B : Type 0} (f : A → B) (P : A → Spelling) (ts : Trees) (r : Outcome A) → Decides P ts r → Decides (Image f P) ts (mapped f r)
decides_image f P ts r h =
    decides_by f P (Image f P) ts (λ x o m s. record { value = x; is_it = refl; spelled = s }) (λ y o m s. s) r h

abbrev pub Both : {A B : Type 0} → (A → Spelling) → (B → Spelling) → A × B → Spelling
Both P Q v = P v.0 then Q v.1

module _ {A B : Type 0} (P : A → Spelling) (Q : B → Spelling) (p : Parser A) (q : Parser B) where
  both_to : (ts : Trees) (v : A × B) (o : Trees) (m : Marks) → Bound P (λ a. Image (pair a) Q) v ts o m → Both P Q v ts o m
  both_to ts v o m b =
      let i : Image (pair b.value) Q v b.parts.middle o b.parts.rest_marks = b.parts.rest in
      subst (λ u. Both P Q u ts o m) (sym i.is_it)
      (record { middle = b.parts.middle; first_marks = b.parts.first_marks; rest_marks = b.parts.rest_marks; first = b.parts.first; rest = i.spelled; marks = b.parts.marks })

  both_back : (ts : Trees) (v : A × B) (o : Trees) (m : Marks) → Both P Q v ts o m → Bound P (λ a. Image (pair a) Q) v ts o m
  both_back ts v o m b =
      record {
        value = v.0;
        parts = record {
          middle = b.middle;
          first_marks = b.first_marks;
          rest_marks = b.rest_marks;
          first = b.first;
          rest = record { value = v.1; is_it = refl; spelled = b.rest };
          marks = b.marks;
        };
      }

  pub reads_and : Reader P p → Reader Q q → Reader (Both P Q) (p and q)
  reads_and h k ts =
      decides_iff (Bound P (λ a. Image (pair a) Q)) (Both P Q) ts (both_to ts) (both_back ts) ((p and q) ts)
      (decides_bind P (λ a. Image (pair a) Q) ts (p ts) (λ a mid. mapped (pair a) (q mid)) (h ts) (λ a mid _. decides_image (pair a) Q mid (q mid) (k mid)))

module _ {B : Type 0} (P : Spelling) (Q : B → Spelling) (p : Parser (Unit {0})) (q : Parser B) where
  pub reads_next : Reader (λ (_ : Unit {0}). P) p → Reader Q q → Reader (λ y. P then Q y) (p next q)
  reads_next h k ts =
      decides_iff (Bound (λ (_ : Unit {0}). P) (λ _. Q)) (λ y. P then Q y) ts (λ y o m b. b.parts) (λ y o m b. record { value = tt; parts = b }) ((p next q) ts)
      (decides_bind (λ (_ : Unit {0}). P) (λ _. Q) ts (p ts) (λ _. q) (h ts) (λ _ mid _. k mid))

abbrev pub const_at : {A : Type 0} → A → Unit {0} → A
const_at a _ = a

module _ {A : Type 0} (P : A → Spelling) (Q : Spelling) (p : Parser A) (q : Parser (Unit {0})) where
  till_to : (ts : Trees) (x : A) (o : Trees) (m : Marks) → Bound P (λ a. Image (const_at a) (λ _. Q)) x ts o m → (P x then Q) ts o m
  till_to ts x o m b =
      let i : Image (const_at b.value) (λ _. Q) x b.parts.middle o b.parts.rest_marks = b.parts.rest in
      subst (λ u. (P u then Q) ts o m) (sym i.is_it)
      (record { middle = b.parts.middle; first_marks = b.parts.first_marks; rest_marks = b.parts.rest_marks; first = b.parts.first; rest = i.spelled; marks = b.parts.marks })

  till_back : (ts : Trees) (x : A) (o : Trees) (m : Marks) → (P x then Q) ts o m → Bound P (λ a. Image (const_at a) (λ _. Q)) x ts o m
  till_back ts x o m b =
      record {
        value = x;
        parts = record {
          middle = b.middle;
          first_marks = b.first_marks;
          rest_marks = b.rest_marks;
          first = b.first;
          rest = record { value = tt; is_it = refl; spelled = b.rest };
          marks = b.marks;
        };
      }

  pub reads_till : Reader P p → Reader (λ (_ : Unit {0}). Q) q → Reader (λ x. P x then Q) (p till q)
  reads_till h k ts =
      decides_iff (Bound P (λ a. Image (const_at a) (λ _. Q))) (λ x. P x then Q) ts (till_to ts) (till_back ts) ((p till q) ts)
      (decides_bind P (λ a. Image (const_at a) (λ _. Q)) ts (p ts) (λ a mid. mapped (const_at a) (q mid)) (h ts)
      (λ a mid _. decides_image (const_at a) (λ _. Q) mid (q mid) (k mid)))

-- ---- what may be missing

pub no_nothing : (begins : Trees → Bool) (ts o : Trees) (m : Marks) → begins ts ≡ true → Before (λ others. begins others ≡ false) Nothing ts o m → ⊥
no_nothing begins ts o m e b =
    let f : begins ts ≡ false = ap begins b.part.spelled ∙ b.fact in
    absurd (cc)

pub nothing_same : {A : Type 0} (x : A) (ts o : Trees) (m : Marks) → Nothing ts o m → Same x ts [] x o m
nothing_same x ts o m n = record { value = refl; left = sym n.spelled; marks = n.marks }

module _ (begins : Trees → Bool) (part : Spelling) (p : Parser (Unit {0})) where
  flag_back : (ts : Trees) → begins ts ≡ true → (b : Bool) (o : Trees) (m : Marks) → flag begins b part ts o m → Image (const_at true) (λ _. part) b ts o m
  flag_back ts e true o m s = record { value = tt; is_it = refl; spelled = s }
  flag_back ts e false o m s = absurd (no_nothing begins ts o m e s)

  flag_only : ((ts o : Trees) (m : Marks) → part ts o m → begins ts ≡ true) → (ts : Trees) → begins ts ≡ false →
      (b : Bool) (o : Trees) (m : Marks) → flag begins b part ts o m → Same false ts [] b o m
  flag_only there ts e true o m s = let f = there ts o m s in absurd (cc)
  flag_only there ts e false o m s = nothing_same false ts o m s.part

  pub reads_flag : ((ts o : Trees) (m : Marks) → part ts o m → begins ts ≡ true) → Reader (λ (_ : Unit {0}). part) p →
      Reader (λ b. flag begins b part) (read_flag begins p)
  reads_flag there h ts =
      decides_test (λ b. flag begins b part) ts (begins ts) (mapped (const_at true) (p ts)) (Ok (false, ts))
      (λ e. decides_by (const_at true) (λ _. part) (λ b. flag begins b part) ts (λ _ o m s. s) (flag_back ts e) (p ts) (h ts))
      (λ e. nothing_read (λ b. flag begins b part) ts false (record { part = record { spelled = refl; marks = refl }; fact = e }) (flag_only there ts e))

abbrev pub some : {A : Type 0} → A → Option A
some a = Some a

module _ {A : Type 0} (begins : Trees → Bool) (part : A → Spelling) (p : Parser A) where
  perhaps_back : (ts : Trees) → begins ts ≡ true → (b : Option A) (o : Trees) (m : Marks) → perhaps begins b part ts o m → Image some part b ts o m
  perhaps_back ts e (Some a) o m s = record { value = a; is_it = refl; spelled = s }
  perhaps_back ts e None o m s = absurd (no_nothing begins ts o m e s)

  perhaps_only : ((a : A) (ts o : Trees) (m : Marks) → part a ts o m → begins ts ≡ true) → (ts : Trees) → begins ts ≡ false →
      (b : Option A) (o : Trees) (m : Marks) → perhaps begins b part ts o m → Same None ts [] b o m
  perhaps_only there ts e (Some a) o m s = let f = there a ts o m s in absurd (cc)
  perhaps_only there ts e None o m s = nothing_same None ts o m s.part

  pub reads_perhaps : ((a : A) (ts o : Trees) (m : Marks) → part a ts o m → begins ts ≡ true) → Reader part p →
      Reader (λ b. perhaps begins b part) (read_perhaps begins p)
  reads_perhaps there h ts =
      decides_test (λ b. perhaps begins b part) ts (begins ts) (mapped some (p ts)) (Ok (None, ts))
      (λ e. decides_by some part (λ b. perhaps begins b part) ts (λ _ o m s. s) (perhaps_back ts e) (p ts) (h ts))
      (λ e. nothing_read (λ b. perhaps begins b part) ts None (record { part = record { spelled = refl; marks = refl }; fact = e }) (perhaps_only there ts e))
