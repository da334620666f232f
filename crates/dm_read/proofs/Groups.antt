-- Pairs of puncts, groups, and trees that are not read: what their readers decide.
use Rattle.std.proofs.Common.{◌≡◌, ℕ, ◌+◌, Bool, true, false, cond, if◌then◌else◌, not, ◌&&◌, nat_eq, nat_lt, List, [], ◌∷◌, ◌++◌, map, length, Option, Some, None, Ok, Err, refl, sym, ap, ap₂, ◌∙◌, subst, append_assoc, append-nil}
use Rattle.std.proofs.lemmas.List.{map-append}
use Rattle.std.proofs.lemmas.Bool.{eqb-true, eq-eqb, not-true}
use Rattle.dm_stream.specs.declared.tokens.Span.{Span}
use Rattle.dm_stream.specs.declared.tokens.Delim.{Delim}
use Rattle.dm_stream.specs.declared.tokens.Delim.TheVariants.{Paren, Bracket, Brace}
use Rattle.dm_stream.specs.declared.tokens.Spacing.{Spacing}
use Rattle.dm_stream.specs.declared.tokens.Spacing.TheVariants.{Joint, Alone}
use Rattle.dm_stream.specs.declared.tokens.Token.TheVariants as t
use Rattle.dm_stream.specs.declared.tokens.Entry.TheVariants as entry
use Rattle.dm_stream.specs.declared.error.Kind.TheVariants.{TooDeep, Syntax}
use Rattle.dm_stream.specs.Trees.{Trees, no_trees, token, group, flatten, Stream}
use Rattle.dm_stream.specs.Cursors.{token_span, front_span, same_delim}
use Rattle.dm_ast.specs.Spelling.{Where, Marks, Spelling, deepest, first_too_deep, marks_of, PairAt, LoneAt, GroupAt, sees_one, sees_pair, sees_lone, sees_group, is_joint}
use Rattle.dm_ast.specs.TypeGrammar.{kept}
use Rattle.dm_ast.specs.Readers.{Outcome, Parser, and_then, entry_span, tail, read_pair, read_lone, within_group, read_group, inside_at, ended, if_shallow, read_rest}
use Rattle.dm_read.proofs.Deciding.{Covers, Same, IsRead, Decides, Reader, Holds, refused_by, deep_behind, deep_front}
use Rattle.dm_read.proofs.Tokens.{deep_mark, fine_mark, reads_seen, left_true, right_true, both_true}

-- ---- two puncts

joint : (s : Spacing) → is_joint s ≡ true → s ≡ Joint
joint Joint e = refl
joint Alone e = absurd (cc)

two_levels : (w : Where) (a b : Span) → first_too_deep ((w.level, a) ∷ (w.level, b) ∷ []) ≡ cond (nat_lt deepest w.level) (Some a) None
two_levels w a b = by (nat_lt deepest w.level)
  where
    by : (x : Bool) → cond x (Some a) (cond x (Some b) None) ≡ cond x (Some a) None
    by true = refl
    by false = refl

module _ (a b : ℕ) (w : Where) where
  pair_there : (ts : Trees) → sees_pair a b ts ≡ true → (m : Marks) × (PairAt w a b ts (tail (tail ts)) m)
  pair_there (token (t.Punct p) (token (t.Punct q) rest)) e =
      let f = left_true (nat_eq p.ch a && is_joint p.spacing) (nat_eq q.ch b) e in (
        (w.level, p.span) ∷ (w.level, q.span) ∷ [],
        record {
          first = p;
          second = q;
          is_first = eqb-true p.ch a (left_true (nat_eq p.ch a) (is_joint p.spacing) f);
          is_joint = joint p.spacing (right_true (nat_eq p.ch a) (is_joint p.spacing) f);
          is_second = eqb-true q.ch b (right_true (nat_eq p.ch a && is_joint p.spacing) (nat_eq q.ch b) e);
          spelled = refl;
          marks = refl;
        },
      )
  pair_there (token (t.Punct p) _) e =
      let f : false ≡ true = right_true (nat_eq p.ch a && is_joint p.spacing) false e in
      absurd (cc)
  pair_there _ e = absurd (cc)

  pub pair_seen : (ts o : Trees) (m : Marks) → PairAt w a b ts o m → sees_pair a b ts ≡ true
  pair_seen ts o m s =
      ap (sees_pair a b) s.spelled ∙
      both_true (nat_eq s.first.ch a && is_joint s.first.spacing) (nat_eq s.second.ch b)
      (both_true (nat_eq s.first.ch a) (is_joint s.first.spacing) (eq-eqb s.first.ch a s.is_first) (ap is_joint s.is_joint)) (eq-eqb s.second.ch b s.is_second)

  pair_same : (ts o p : Trees) (m k : Marks) → PairAt w a b ts o m → PairAt w a b ts p k → m ≡ k
  pair_same ts o p m k s r =
      let e = s.spelled in
      let f = r.spelled in
      let x : s.first ≡ r.first = cc in
      let y : s.second ≡ r.second = cc in
      s.marks ∙ ap₂ (λ u v. (w.level, u.span) ∷ (w.level, v.span) ∷ []) x y ∙ sym r.marks

  pair_covers : (ts o : Trees) (m : Marks) → PairAt w a b ts o m → Covers ts o m
  pair_covers ts o m s =
      record { front = entry.Token (t.Punct s.first) ∷ entry.Token (t.Punct s.second) ∷ []; splits = ap flatten s.spelled; ranges = sym (ap (map (λ k. k.1)) s.marks) }

  pub reads_pair : Reader (λ (_ : Unit {0}). PairAt w a b) (read_pair a b w)
  reads_pair =
      reads_seen w (PairAt w a b) (sees_pair a b) (λ ts. tail (tail ts))
      (record {
        there = pair_there;
        seen = pair_seen;
        left = λ ts o m s. sym (ap (λ x. tail (tail x)) s.spelled);
        same = pair_same;
        covers = pair_covers;
        level = λ ts o m s.
            ap first_too_deep s.marks ∙ two_levels w s.first.span s.second.span ∙
            ap (λ x. cond (nat_lt deepest w.level) (Some (front_span x w.limit)) None) (sym s.spelled);
      })

-- ---- a punct that isn't joint to some others

module _ (c : ℕ) (stops : List ℕ) (w : Where) where
  lone_there : (ts : Trees) → sees_lone c stops ts ≡ true → (m : Marks) × (LoneAt w c stops ts (tail ts) m)
  lone_there (token (t.Punct p) rest) e = (
    (w.level, p.span) ∷ [],
    record {
      punct = p;
      is = eqb-true p.ch c (left_true (nat_eq p.ch c) (not (is_joint p.spacing && sees_one stops rest)) e);
      lone = not-true (is_joint p.spacing && sees_one stops rest) (right_true (nat_eq p.ch c) (not (is_joint p.spacing && sees_one stops rest)) e);
      there = record { spelled = refl; marks = refl };
    },
  )
  lone_there _ e = absurd (cc)

  pub lone_seen : (ts o : Trees) (m : Marks) → LoneAt w c stops ts o m → sees_lone c stops ts ≡ true
  lone_seen ts o m s =
      ap (sees_lone c stops) s.there.spelled ∙
      both_true (nat_eq s.punct.ch c) (not (is_joint s.punct.spacing && sees_one stops o)) (eq-eqb s.punct.ch c s.is) (ap not s.lone)

  lone_same : (ts o p : Trees) (m k : Marks) → LoneAt w c stops ts o m → LoneAt w c stops ts p k → m ≡ k
  lone_same ts o p m k s r =
      let e = s.there.spelled in
      let f = r.there.spelled in
      let x : s.punct ≡ r.punct = cc in
      s.there.marks ∙ ap (λ u. (w.level, u.span) ∷ []) x ∙ sym r.there.marks

  lone_covers : (ts o : Trees) (m : Marks) → LoneAt w c stops ts o m → Covers ts o m
  lone_covers ts o m s =
      record { front = entry.Token (t.Punct s.punct) ∷ []; splits = ap flatten s.there.spelled; ranges = sym (ap (map (λ k. k.1)) s.there.marks) }

  pub reads_lone : Reader (λ (_ : Unit {0}). LoneAt w c stops) (read_lone c stops w)
  reads_lone =
      reads_seen w (LoneAt w c stops) (sees_lone c stops) tail
      (record {
        there = lone_there;
        seen = lone_seen;
        left = λ ts o m s. sym (ap tail s.there.spelled);
        same = lone_same;
        covers = lone_covers;
        level = λ ts o m s.
            ap first_too_deep s.there.marks ∙ ap (λ x. cond (nat_lt deepest w.level) (Some (front_span x w.limit)) None) (sym s.there.spelled);
      })

-- ---- groups

pub delim_same : (d : Delim) → same_delim d d ≡ true
delim_same Paren = refl
delim_same Bracket = refl
delim_same Brace = refl

pub delim_is : (d e : Delim) → same_delim e d ≡ true → e ≡ d
delim_is Paren Paren h = refl
delim_is Bracket Bracket h = refl
delim_is Brace Brace h = refl
delim_is _ _ h = absurd (cc)

pub group_seen : (w : Where) (d : Delim) (Inside : Where → Spelling) (ts o : Trees) (m : Marks) → GroupAt w d Inside ts o m → sees_group d ts ≡ true
group_seen w d Inside ts o m s = ap (sees_group d) s.spelled ∙ delim_same d

-- the marks of all the trees
whole_covers : (ts : Trees) (m : Marks) → Covers ts no_trees m → map entry_span (flatten ts) ≡ map (λ k. k.1) m
whole_covers ts m c = ap (map entry_span) (c.splits ∙ append-nil c.front) ∙ c.ranges

module _ {A : Type 0} (d : Delim) (Inside : A → Where → Spelling) (inner : Where → Parser A) (w : Where) where
  -- a group that is spelled, taken apart
  record Opened (from : Span) (inside : Trees) (upto : Span) (rest : Trees) (x : A) (o : Trees) (m : Marks) : Type 0 where
    is_left : o ≡ rest
    inner_marks : Marks
    whole : Inside x (inside_at w upto.start) inside no_trees inner_marks
    marks : m ≡ (w.level, from) ∷ (inner_marks ++ (w.level, upto) ∷ [])

  opened : (e : Delim) (from : Span) (inside : Trees) (upto : Span) (rest : Trees) (x : A) (o : Trees) (m : Marks) →
      GroupAt w d (Inside x) (group e from inside upto rest) o m → Opened from inside upto rest x o m
  opened e from inside upto rest x o m s =
      let q = s.spelled in
      let i : s.inside ≡ inside = cc in
      let u : s.closer ≡ upto = cc in
      let f : s.opener ≡ from = cc in
      let a : Inside x (inside_at w upto.start) s.inside no_trees s.inner_marks = subst (λ v. Inside x (inside_at w v.start) s.inside no_trees s.inner_marks) u s.whole in
      record {
        is_left = cc;
        inner_marks = s.inner_marks;
        whole = subst (λ v. Inside x (inside_at w upto.start) v no_trees s.inner_marks) i a;
        marks = s.marks ∙ ap₂ (λ y z. (w.level, y) ∷ (s.inner_marks ++ (w.level, z) ∷ [])) f u;
      }

  group_covers : (e : Delim) (from : Span) (inside : Trees) (upto : Span) (rest : Trees) (m : Marks) → Covers inside no_trees m →
      Covers (group e from inside upto rest) rest ((w.level, from) ∷ (m ++ (w.level, upto) ∷ []))
  group_covers e from inside upto rest m c =
      record {
        front = entry.Open e from (length (flatten inside) + 1) ∷ (flatten inside ++ entry.Close e upto ∷ []);
        splits = ap (λ l. entry.Open e from (length (flatten inside) + 1) ∷ l) (sym (append_assoc (flatten inside) (entry.Close e upto ∷ []) (flatten rest)));
        ranges =
            ap (λ l. from ∷ l)
            (map-append entry_span (flatten inside) (entry.Close e upto ∷ []) ∙ ap (λ l. l ++ upto ∷ []) (whole_covers inside m c) ∙
            sym (map-append (λ k. k.1) m ((w.level, upto) ∷ [])));
      }

  -- the inside is read whole, or not
  inside_read : (from : Span) (inside : Trees) (upto : Span) (rest : Trees) → nat_lt deepest w.level ≡ false → (x : A) → (left : Trees) →
      IsRead (λ y. Inside y (inside_at w upto.start)) inside x left → Decides (λ y. GroupAt w d (Inside y)) (group d from inside upto rest) (ended (inside_at w upto.start) rest x left)
  inside_read from inside upto rest fine x no_trees h =
      record {
        marks = (w.level, from) ∷ (h.marks ++ (w.level, upto) ∷ []);
        spelled = record { opener = from; inside = inside; closer = upto; inner_marks = h.marks; spelled = refl; whole = h.spelled; marks = refl };
        within =
            fine_mark w from (h.marks ++ (w.level, upto) ∷ []) fine ∙ deep_behind h.marks ((w.level, upto) ∷ []) h.within ∙ fine_mark w upto [] fine;
        covers = group_covers d from inside upto rest h.marks h.covers;
        only = λ y o k s.
            let q : Opened from inside upto rest y o k = opened d from inside upto rest y o k s in
            let r : Same x no_trees h.marks y no_trees q.inner_marks = h.only y no_trees q.inner_marks q.whole in
            record { value = r.value; left = q.is_left; marks = q.marks ∙ ap (λ l. (w.level, from) ∷ (l ++ (w.level, upto) ∷ [])) r.marks };
      }
  inside_read from inside upto rest fine x (token k left) h = λ y o m s.
      let q : Opened from inside upto rest y o m = opened d from inside upto rest y o m s in
      let e = (h.only y no_trees q.inner_marks q.whole).left in
      absurd (cc)
  inside_read from inside upto rest fine x (group g a i u left) h = λ y o m s.
      let q : Opened from inside upto rest y o m = opened d from inside upto rest y o m s in
      let e = (h.only y no_trees q.inner_marks q.whole).left in
      absurd (cc)

  inside_holds : (from : Span) (inside : Trees) (upto : Span) (rest : Trees) → nat_lt deepest w.level ≡ false →
      (y : A) (o : Trees) (m : Marks) → GroupAt w d (Inside y) (group d from inside upto rest) o m → Holds (λ z. Inside z (inside_at w upto.start)) inside m
  inside_holds from inside upto rest fine y o m s =
      let q : Opened from inside upto rest y o m = opened d from inside upto rest y o m s in
      record {
        value = y;
        left = no_trees;
        marks = q.inner_marks;
        spelled = q.whole;
        deep = λ e h. ap first_too_deep q.marks ∙ fine_mark w from (q.inner_marks ++ (w.level, upto) ∷ []) fine ∙ deep_front q.inner_marks ((w.level, upto) ∷ []) e h;
      }

  inside_decides : (from : Span) (inside : Trees) (upto : Span) (rest : Trees) → nat_lt deepest w.level ≡ false → (r : Outcome A) →
      Decides (λ y. Inside y (inside_at w upto.start)) inside r → Decides (λ y. GroupAt w d (Inside y)) (group d from inside upto rest) (and_then r (ended (inside_at w upto.start) rest))
  inside_decides from inside upto rest fine (Ok p) h = inside_read from inside upto rest fine p.0 p.1 h
  inside_decides from inside upto rest fine (Err r) h =
      refused_by (λ y. Inside y (inside_at w upto.start)) (λ y. GroupAt w d (Inside y)) inside (group d from inside upto rest) r.kind r.span (inside_holds from inside upto rest fine) h

  -- the inside of the group
  abbrev opened_by : Span → Trees → Span → Trees → Bool → Bool → Outcome A
  opened_by from inside upto rest same deep =
      within_group inner w
      (if same then (if deep then Err (record { kind = TooDeep; span = from }) else Ok (inside, upto.start, rest)) else Err (record { kind = Syntax; span = from }))

  group_by : (from : Span) (inside : Trees) (upto : Span) (rest : Trees) → Reader (λ y. Inside y (inside_at w upto.start)) (inner (inside_at w upto.start)) →
      (deep : Bool) → nat_lt deepest w.level ≡ deep → Decides (λ y. GroupAt w d (Inside y)) (group d from inside upto rest) (opened_by from inside upto rest true deep)
  group_by from inside upto rest h true deep = λ y o m s.
      let q : Opened from inside upto rest y o m = opened d from inside upto rest y o m s in
      ap first_too_deep q.marks ∙ deep_mark w from (q.inner_marks ++ (w.level, upto) ∷ []) deep
  group_by from inside upto rest h false fine = inside_decides from inside upto rest fine (inner (inside_at w upto.start) inside) (h inside)

  group_if_same : (e : Delim) (from : Span) (inside : Trees) (upto : Span) (rest : Trees) → Reader (λ y. Inside y (inside_at w upto.start)) (inner (inside_at w upto.start)) →
      (same : Bool) → same_delim e d ≡ same → Decides (λ y. GroupAt w d (Inside y)) (group e from inside upto rest) (opened_by from inside upto rest same (nat_lt deepest w.level))
  group_if_same e from inside upto rest h true is =
      subst (λ g. Decides (λ y. GroupAt w d (Inside y)) (group g from inside upto rest) (opened_by from inside upto rest true (nat_lt deepest w.level)))
      (sym (delim_is d e is)) (group_by from inside upto rest h (nat_lt deepest w.level) refl)
  group_if_same e from inside upto rest h false is = λ y o m s.
      let f = group_seen w d (Inside y) (group e from inside upto rest) o m s in
      absurd (cc)

  pub reads_group : ((limit : ℕ) → Reader (λ y. Inside y (inside_at w limit)) (inner (inside_at w limit))) →
      Reader (λ y. GroupAt w d (Inside y)) (read_group d inner w)
  reads_group h no_trees = λ y o m s. let e = s.spelled in absurd (cc)
  reads_group h (token k rest) = λ y o m s. let e = s.spelled in absurd (cc)
  reads_group h (group e from inside upto rest) = group_if_same e from inside upto rest (h upto.start) (same_delim e d) refl

-- ---- trees that are not read

pub covers_all : (n : ℕ) (ts : Trees) → map entry_span (flatten ts) ≡ map (λ k. k.1) (marks_of n ts)
covers_all n no_trees = refl
covers_all n (token k rest) = ap (λ l. token_span k ∷ l) (covers_all n rest)
covers_all n (group d from inside upto rest) =
    ap (λ l. from ∷ l)
    (map-append entry_span (flatten inside) (entry.Close d upto ∷ flatten rest) ∙
    ap₂ (λ a b. a ++ upto ∷ b) (covers_all (n + 1) inside) (covers_all n rest) ∙ sym (map-append (λ k. k.1) (marks_of (n + 1) inside) ((n, upto) ∷ marks_of n rest)))

stream_is : (s : Stream) (ts : Trees) (n : ℕ) → ts ≡ s.trees → s.limit ≡ n → s ≡ record { trees = ts; limit = n }
stream_is s ts n e f = ap₂ (λ a b. record { trees = a; limit = b }) (sym e) f

module _ (w : Where) (ts : Trees) where
  abbrev whole_rest : Stream
  whole_rest = record { trees = ts; limit = w.limit }

  rest_by : (found : Option Span) → first_too_deep (marks_of w.level ts) ≡ found → Decides (λ s. kept s w) ts (if_shallow found whole_rest)
  rest_by (Some span) e = λ s o m k. ap first_too_deep (k.part.marks ∙ ap (marks_of w.level) (sym k.part.spelled)) ∙ e
  rest_by None e =
      record {
        marks = marks_of w.level ts;
        spelled = record { fact = refl; part = record { spelled = refl; none_left = refl; marks = refl } };
        within = e;
        covers = record { front = flatten ts; splits = sym (append-nil (flatten ts)); ranges = covers_all w.level ts };
        only = λ s o m k. record { value = stream_is s ts w.limit k.part.spelled k.fact; left = k.part.none_left; marks = k.part.marks ∙ ap (marks_of w.level) (sym k.part.spelled) };
      }

pub reads_rest : (w : Where) → Reader (λ s. kept s w) (read_rest w)
reads_rest w ts = rest_by w ts (first_too_deep (marks_of w.level ts)) refl
