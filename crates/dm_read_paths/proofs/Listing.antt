-- Lists and ranges: what their readers decide.
use Rattle.std.proofs.Common.{◌≡◌, ℕ, zero, suc, ◌+◌, ◌-◌, ◌<◌, ◌≤◌, Bool, true, false, if◌then◌else◌, List, [], ◌∷◌, ◌++◌, map, length, take, Ok, Err, refl, sym, ap, ap₂, ◌∙◌, subst, append_assoc, append-nil, length-append, arith}
use Rattle.std.proofs.Math.Seq.{take-append_seam}
use Rattle.std.proofs.lemmas.List.{length-map}
use Rattle.dm_stream.specs.declared.tokens.Span.{Span}
use Rattle.dm_stream.specs.declared.tokens.Entry.{Entry}
use Rattle.dm_stream.specs.Trees.{Trees, flatten}
use Rattle.dm_ast.specs.Spelling.{Where, Marks, Spelling, Nothing, ◌then◌, Provided, Before, RangedAt, range_of, punct, sees, repeated, chain, items, items_left, last_item}
use Rattle.dm_ast.specs.Spelling as spelling
use Rattle.dm_ast.specs.Readers.{Outcome, Parser, and_then, ◌next◌, read_punct, turns, list_from, read_list, repeat_from, read_repeated, read_chain, entry_span, last_end, range_over, range_between, ranged}
use Rattle.dm_read.proofs.Deciding.{Covers, Same, Decides, Reader, refused_by, Bound, decides_bind, decides_iff, decides_test, covers_none, no_nothing, pair, pair_is, reads_next}
use Rattle.dm_read.proofs.Tokens.{reads_punct, punct_seen}
use Rattle.dm_read_paths.proofs.Sequences.{then_with}

-- ---- how many tokens there are

pub covers_length : (ts others : Trees) (m : Marks) → Covers ts others m → length (flatten ts) ≡ length m + length (flatten others)
covers_length ts others m c =
    let e : length c.front ≡ length m = sym (length-map c.front entry_span) ∙ ap length c.ranges ∙ length-map m (λ k. k.1) in
    ap length c.splits ∙ length-append c.front (flatten others) ∙ ap (λ n. n + length (flatten others)) e

pub covers_less : (ts others : Trees) (m : Marks) → Covers ts others m → length (flatten others) ≤ length (flatten ts)
covers_less ts others m c = omega (arith, covers_length ts others m c)

-- ---- lists

module _ {A : Type 0} (w : Where) (separator : ℕ) (ends : Trees → Bool) (Item : A → Spelling) (item : Parser A) where
  -- the items from a turn on: whether a separator stands in front, and whether one ends the list
  abbrev From : Bool → List A → Bool → Spelling
  From t [] u = Provided (u ≡ t) (Before (λ others. ends others ≡ true) Nothing)
  From t (x ∷ xs) u = Item x then items_left w separator ends Item xs u

  -- what is found, and the items from a turn on
  record More (found : List A) (t : Bool) (all : List A) (u : Bool) (ts o : Trees) (m : Marks) : Type 0 where
    more : List A
    is_it : all ≡ found ++ more
    there : From t more u ts o m

  -- what is found, an item behind it that is read, and the others
  record After (found : List A) (x : A) (all : List A) (u : Bool) (ts o : Trees) (m : Marks) : Type 0 where
    more : List A
    is_it : all ≡ found ++ x ∷ more
    there : items_left w separator ends Item more u ts o m

  abbrev Comma : List A → A → List A × Bool → Spelling
  Comma found x = Bound (λ (_ : Unit {0}). punct w separator) (λ _ r. More (found ++ x ∷ []) true r.0 r.1)

  after_by : (found : List A) (x : A) (all : List A) (u : Bool) (ts mid o : Trees) (m a b : Marks) → punct w separator ts mid a → m ≡ a ++ b →
      (more : List A) → all ≡ (found ++ x ∷ []) ++ more → From true more u mid o b → After found x all u ts o m
  after_by found x all u ts mid o m a b p e [] i s =
      record {
        more = [];
        is_it = i ∙ append-nil (found ++ x ∷ []);
        there = subst (λ v. last_item w separator ends v ts o m) (sym s.fact) (record { middle = mid; first_marks = a; rest_marks = b; first = p; rest = s.part; marks = e });
      }
  after_by found x all u ts mid o m a b p e (y ∷ ys) i s =
      record {
        more = y ∷ ys;
        is_it = i ∙ append_assoc found (x ∷ []) (y ∷ ys);
        there = record { middle = mid; first_marks = a; rest_marks = b; first = p; rest = s; marks = e };
      }

  after_to : (found : List A) (x : A) (ts : Trees) (r : List A × Bool) (o : Trees) (m : Marks) → Comma found x r ts o m → After found x r.0 r.1 ts o m
  after_to found x ts r o m b =
      let q : More (found ++ x ∷ []) true r.0 r.1 b.parts.middle o b.parts.rest_marks = b.parts.rest in
      after_by found x r.0 r.1 ts b.parts.middle o m b.parts.first_marks b.parts.rest_marks b.parts.first b.parts.marks q.more q.is_it q.there

  back_by : (found : List A) (x : A) (all : List A) (u : Bool) (ts o : Trees) (m : Marks) → sees separator ts ≡ true → (more : List A) → all ≡ found ++ x ∷ more →
      items_left w separator ends Item more u ts o m → Comma found x (pair all u) ts o m
  back_by found x all true ts o m e [] i s =
      record { value = tt; parts = then_with s (record { more = []; is_it = i ∙ sym (append-nil (found ++ x ∷ [])); there = record { fact = refl; part = s.rest } }) }
  back_by found x all false ts o m e [] i s = absurd (no_nothing (sees separator) ts o m e s)
  back_by found x all u ts o m e (y ∷ ys) i s =
      record { value = tt; parts = then_with s (record { more = y ∷ ys; is_it = i ∙ sym (append_assoc found (x ∷ []) (y ∷ ys)); there = s.rest }) }

  after_back : (found : List A) (x : A) (ts : Trees) → sees separator ts ≡ true → (r : List A × Bool) (o : Trees) (m : Marks) → After found x r.0 r.1 ts o m → Comma found x r ts o m
  after_back found x ts e r o m q = back_by found x r.0 r.1 ts o m e q.more q.is_it q.there

  last_by : (found : List A) (x : A) (all : List A) (u : Bool) (ts o : Trees) (m : Marks) → sees separator ts ≡ false → (more : List A) → all ≡ found ++ x ∷ more →
      items_left w separator ends Item more u ts o m → Same (pair (found ++ x ∷ []) false) ts [] (pair all u) o m
  last_by found x all true ts o m e [] i s = let f = punct_seen separator w ts s.middle s.first_marks s.first in absurd (cc)
  last_by found x all false ts o m e [] i s = record { value = ap (λ l. pair l false) i; left = sym s.part.spelled; marks = s.part.marks }
  last_by found x all u ts o m e (y ∷ ys) i s = let f = punct_seen separator w ts s.middle s.first_marks s.first in absurd (cc)

  abbrev behind_item : ℕ → List A → A → Parser (List A × Bool)
  behind_item n found x mid =
      if sees separator mid then and_then (read_punct separator w mid) (λ _ rest. list_from w separator ends item n (found ++ x ∷ []) true rest) else Ok (pair (found ++ x ∷ []) false, mid)

  after_decides : (n : ℕ) (found : List A) (x : A) (mid : Trees) →
      ((rest : Trees) → length (flatten rest) < length (flatten mid) → Decides (λ r. More (found ++ x ∷ []) true r.0 r.1) rest (list_from w separator ends item n (found ++ x ∷ []) true rest)) →
      Decides (λ r. After found x r.0 r.1) mid (behind_item n found x mid)
  after_decides n found x mid h =
      decides_test (λ r. After found x r.0 r.1) mid (sees separator mid) (and_then (read_punct separator w mid) (λ _ rest. list_from w separator ends item n (found ++ x ∷ []) true rest))
      (Ok (pair (found ++ x ∷ []) false, mid))
      (λ e.
      decides_iff (Comma found x) (λ r. After found x r.0 r.1) mid (after_to found x mid) (after_back found x mid e)
      (and_then (read_punct separator w mid) (λ _ rest. list_from w separator ends item n (found ++ x ∷ []) true rest))
      (decides_bind (λ (_ : Unit {0}). punct w separator) (λ _ r. More (found ++ x ∷ []) true r.0 r.1) mid (read_punct separator w mid)
      (λ _ rest. list_from w separator ends item n (found ++ x ∷ []) true rest) (reads_punct separator w mid)
      (λ _ rest p.
      let one : length p.marks ≡ 1 = ap length p.spelled.there.marks in
      h rest (omega (arith, covers_length mid rest p.marks p.covers, one)))))
      (λ e. record {
        marks = [];
        spelled = record { more = []; is_it = refl; there = record { part = record { spelled = refl; marks = refl }; fact = e } };
        within = refl;
        covers = covers_none mid;
        only = λ r o m q. last_by found x r.0 r.1 mid o m e q.more q.is_it q.there;
      })

  -- one item, and what is behind it
  abbrev Next : List A → List A × Bool → Spelling
  Next found = Bound Item (λ x r. After found x r.0 r.1)

  next_to : (found : List A) (t : Bool) (ts : Trees) (r : List A × Bool) (o : Trees) (m : Marks) → Next found r ts o m → More found t r.0 r.1 ts o m
  next_to found t ts r o m b =
      let q : After found b.value r.0 r.1 b.parts.middle o b.parts.rest_marks = b.parts.rest in
      record {
        more = b.value ∷ q.more;
        is_it = q.is_it;
        there = then_with b.parts q.there;
      }

  next_by : (found : List A) (t : Bool) (ts : Trees) → ends ts ≡ false → (all : List A) (u : Bool) (o : Trees) (m : Marks) (more : List A) → all ≡ found ++ more →
      From t more u ts o m → Next found (pair all u) ts o m
  next_by found t ts e all u o m [] i s = let f : ends ts ≡ true = ap ends s.part.part.spelled ∙ s.part.fact in absurd (cc)
  next_by found t ts e all u o m (x ∷ xs) i s =
      record { value = x; parts = then_with s (record { more = xs; is_it = i; there = s.rest }) }

  ended_by : ((x : A) (ts o : Trees) (m : Marks) → Item x ts o m → ends ts ≡ false) → (found : List A) (t : Bool) (ts : Trees) → ends ts ≡ true →
      (all : List A) (u : Bool) (o : Trees) (m : Marks) (more : List A) → all ≡ found ++ more → From t more u ts o m → Same (pair found t) ts [] (pair all u) o m
  ended_by starts found t ts e all u o m [] i s =
      record { value = ap₂ pair (i ∙ append-nil found) s.fact; left = sym s.part.part.spelled; marks = s.part.part.marks }
  ended_by starts found t ts e all u o m (x ∷ xs) i s = let f = starts x ts s.middle s.first_marks s.first in absurd (cc)

  module _ (starts : (x : A) (ts o : Trees) (m : Marks) → Item x ts o m → ends ts ≡ false) (reads : Reader Item item) where
    list_decides : (n : ℕ) (found : List A) (t : Bool) (ts : Trees) → length (flatten ts) < n → Decides (λ r. More found t r.0 r.1) ts (list_from w separator ends item n found t ts)
    list_decides zero found t ts h = absurd (omega (arith, h))
    list_decides (suc n) found t ts h =
        decides_test (λ r. More found t r.0 r.1) ts (ends ts) (Ok (pair found t, ts)) (and_then (item ts) (behind_item n found))
        (λ e. record {
          marks = [];
          spelled = record { more = []; is_it = sym (append-nil found); there = record { fact = refl; part = record { part = record { spelled = refl; marks = refl }; fact = e } } };
          within = refl;
          covers = covers_none ts;
          only = λ r o m q. ended_by starts found t ts e r.0 r.1 o m q.more q.is_it q.there;
        })
        (λ e.
        decides_iff (Next found) (λ r. More found t r.0 r.1) ts (next_to found t ts) (λ r o m q. next_by found t ts e r.0 r.1 o m q.more q.is_it q.there)
        (and_then (item ts) (behind_item n found))
        (decides_bind Item (λ x r. After found x r.0 r.1) ts (item ts) (behind_item n found) (reads ts)
        (λ x mid p. after_decides n found x mid (λ rest less. list_decides n (found ++ x ∷ []) true rest (omega (arith, h, less, covers_less ts mid p.marks p.covers))))))

    list_to : (ts : Trees) (all : List A) (u : Bool) (o : Trees) (m : Marks) (more : List A) → all ≡ more → From false more u ts o m → items w separator ends Item all u ts o m
    list_to ts all u o m [] i s = subst (λ l. items w separator ends Item l u ts o m) (sym i) s
    list_to ts all u o m (x ∷ xs) i s = subst (λ l. items w separator ends Item l u ts o m) (sym i) s

    list_back : (ts : Trees) (all : List A) (u : Bool) (o : Trees) (m : Marks) → items w separator ends Item all u ts o m → More [] false all u ts o m
    list_back ts [] u o m s = record { more = []; is_it = refl; there = s }
    list_back ts (x ∷ xs) u o m s = record { more = x ∷ xs; is_it = refl; there = s }

    pub reads_list : Reader (λ r. items w separator ends Item r.0 r.1) (read_list w separator ends item)
    reads_list ts =
        decides_iff (λ r. More [] false r.0 r.1) (λ r. items w separator ends Item r.0 r.1) ts
        (λ r o m q. list_to ts r.0 r.1 o m q.more q.is_it q.there) (λ r o m s. list_back ts r.0 r.1 o m s)
        (read_list w separator ends item ts) (list_decides (turns ts) [] false ts (omega arith))

-- ---- as many as begin there

module _ {A : Type 0} (w : Where) (begins : Trees → Bool) (Item : A → Spelling) (item : Parser A) where
  pub record Further (found : List A) (all : List A) (ts o : Trees) (m : Marks) : Type 0 where
    pub more : List A
    pub is_it : all ≡ found ++ more
    pub there : repeated begins Item more ts o m

  abbrev One : List A → List A → Spelling
  One found = Bound Item (λ x. Further (found ++ x ∷ []))

  one_to : (found : List A) (ts : Trees) (all : List A) (o : Trees) (m : Marks) → One found all ts o m → Further found all ts o m
  one_to found ts all o m b =
      let q : Further (found ++ b.value ∷ []) all b.parts.middle o b.parts.rest_marks = b.parts.rest in
      record {
        more = b.value ∷ q.more;
        is_it = q.is_it ∙ append_assoc found (b.value ∷ []) q.more;
        there = then_with b.parts q.there;
      }

  one_back : (found : List A) (ts : Trees) → begins ts ≡ true → (all : List A) (o : Trees) (m : Marks) (more : List A) → all ≡ found ++ more →
      repeated begins Item more ts o m → One found all ts o m
  one_back found ts e all o m [] i s = absurd (no_nothing begins ts o m e s)
  one_back found ts e all o m (x ∷ xs) i s =
      record { value = x; parts = then_with s (record { more = xs; is_it = i ∙ sym (append_assoc found (x ∷ []) xs); there = s.rest }) }

  module _ (starts : (x : A) (ts o : Trees) (m : Marks) → Item x ts o m → begins ts ≡ true) (some : (x : A) (ts o : Trees) (m : Marks) → Item x ts o m → 0 < length m)
      (reads : Reader Item item) where
    none_by : (found : List A) (ts : Trees) → begins ts ≡ false → (all : List A) (o : Trees) (m : Marks) (more : List A) → all ≡ found ++ more →
        repeated begins Item more ts o m → Same found ts [] all o m
    none_by found ts e all o m [] i s = record { value = i ∙ append-nil found; left = sym s.part.spelled; marks = s.part.marks }
    none_by found ts e all o m (x ∷ xs) i s = let f = starts x ts s.middle s.first_marks s.first in absurd (cc)

    repeat_decides : (n : ℕ) (found : List A) (ts : Trees) → length (flatten ts) < n → Decides (Further found) ts (repeat_from w begins item n found ts)
    repeat_decides zero found ts h = absurd (omega (arith, h))
    repeat_decides (suc n) found ts h =
        decides_test (Further found) ts (begins ts) (and_then (item ts) (λ x mid. repeat_from w begins item n (found ++ x ∷ []) mid)) (Ok (found, ts))
        (λ e.
        decides_iff (One found) (Further found) ts (one_to found ts) (λ all o m q. one_back found ts e all o m q.more q.is_it q.there)
        (and_then (item ts) (λ x mid. repeat_from w begins item n (found ++ x ∷ []) mid))
        (decides_bind Item (λ x. Further (found ++ x ∷ [])) ts (item ts) (λ x mid. repeat_from w begins item n (found ++ x ∷ []) mid) (reads ts)
        (λ x mid p. repeat_decides n (found ++ x ∷ []) mid (omega (arith, h, covers_length ts mid p.marks p.covers, some x ts mid p.marks p.spelled)))))
        (λ e. record {
          marks = [];
          spelled = record { more = []; is_it = sym (append-nil found); there = record { part = record { spelled = refl; marks = refl }; fact = e } };
          within = refl;
          covers = covers_none ts;
          only = λ all o m q. none_by found ts e all o m q.more q.is_it q.there;
        })

    pub reads_further : (found : List A) → Reader (Further found) (read_repeated w begins item found)
    reads_further found ts = repeat_decides (turns ts) found ts (omega arith)

    pub reads_repeated : Reader (repeated begins Item) (read_repeated w begins item [])
    reads_repeated ts =
        decides_iff (Further []) (repeated begins Item) ts
        (λ all o m q. subst (λ l. repeated begins Item l ts o m) (sym q.is_it) q.there) (λ all o m s. record { more = all; is_it = refl; there = s })
        (read_repeated w begins item [] ts) (reads_further [] ts)

-- ---- one at least, with a separator before each other

module _ {A : Type 0} (w : Where) (Separator : Spelling) (separator : Parser (Unit {0})) (begins : Trees → Bool) (Item : A → Spelling) (item : Parser A) where
  abbrev Apart : A → Spelling
  Apart y = Separator then Item y

  chain_to : (ts : Trees) (all : List A) (o : Trees) (m : Marks) → Bound Item (λ x. Further w begins Apart (separator next item) (x ∷ [])) all ts o m → chain Separator begins Item all ts o m
  chain_to ts all o m b =
      let q : Further w begins Apart (separator next item) (b.value ∷ []) all b.parts.middle o b.parts.rest_marks = b.parts.rest in
      subst (λ l. chain Separator begins Item l ts o m) (sym q.is_it)
      (then_with b.parts q.there)

  chain_back : (ts : Trees) (all : List A) (o : Trees) (m : Marks) → chain Separator begins Item all ts o m → Bound Item (λ x. Further w begins Apart (separator next item) (x ∷ [])) all ts o m
  chain_back ts [] o m s = absurd s.fact
  chain_back ts (x ∷ xs) o m s =
      record { value = x; parts = then_with s (record { more = xs; is_it = refl; there = s.rest }) }

  pub reads_chain : ((ts o : Trees) (m : Marks) → Separator ts o m → begins ts ≡ true) → ((ts o : Trees) (m : Marks) → Separator ts o m → 0 < length m) →
      Reader (λ (_ : Unit {0}). Separator) separator → Reader Item item → Reader (chain Separator begins Item) (read_chain w separator begins item)
  reads_chain starts some h k ts =
      decides_iff (Bound Item (λ x. Further w begins Apart (separator next item) (x ∷ []))) (chain Separator begins Item) ts (chain_to ts) (chain_back ts)
      (read_chain w separator begins item ts)
      (decides_bind Item (λ x. Further w begins Apart (separator next item) (x ∷ [])) ts (item ts) (λ x mid. read_repeated w begins (separator next item) (x ∷ []) mid) (k ts)
      (λ x mid _.
      reads_further w begins Apart (separator next item) (λ y us o m s. starts us s.middle s.first_marks s.first)
      (λ y us o m s. omega (arith, ap length s.marks, length-append s.first_marks s.rest_marks, some us s.middle s.first_marks s.first))
      (reads_next Separator Item separator item h k) (x ∷ []) mid))

-- ---- ranges

-- the range over these ranges
abbrev end_over : ℕ → List Span → ℕ
end_over n [] = n
end_over n (s ∷ ss) = end_over s.«end» ss

abbrev over : List Span → Span
over [] = record { start = 0; «end» = 0 }
over (s ∷ ss) = record { start = s.start; «end» = end_over s.«end» ss }

end_entries : (n : ℕ) (es : List Entry) → last_end n es ≡ end_over n (map entry_span es)
end_entries n [] = refl
end_entries n (e ∷ es) = end_entries (entry_span e).«end» es

over_entries : (es : List Entry) → range_over es ≡ over (map entry_span es)
over_entries [] = refl
over_entries (e ∷ es) = ap (λ n. record { start = (entry_span e).start; «end» = n }) (end_entries (entry_span e).«end» es)

end_marks : (n : ℕ) (m : Marks) → spelling.last_end n m ≡ end_over n (map (λ k. k.1) m)
end_marks n [] = refl
end_marks n (k ∷ m) = end_marks k.1.«end» m

over_marks : (m : Marks) → range_of m ≡ over (map (λ k. k.1) m)
over_marks [] = refl
over_marks (k ∷ m) = ap (λ n. record { start = k.1.start; «end» = n }) (end_marks k.1.«end» m)

pub range_is : (ts others : Trees) (m : Marks) → Covers ts others m → range_between ts others ≡ range_of m
range_is ts others m c =
    let n : length (flatten ts) - length (flatten others) ≡ length c.front = omega (arith, ap length c.splits, length-append c.front (flatten others)) in
    ap (λ k. range_over (take k (flatten ts))) n ∙ ap (λ l. range_over (take (length c.front) l)) c.splits ∙ ap range_over (take-append_seam c.front (flatten others)) ∙
    over_entries c.front ∙ ap over c.ranges ∙ sym (over_marks m)

module _ {A : Type 0} (P : A → Spelling) (p : Parser A) where
  abbrev Ranged : A × Span → Spelling
  Ranged v = RangedAt v.1 (P v.0)

  ranged_by : (ts : Trees) (r : Outcome A) → Decides P ts r → Decides Ranged ts (and_then r (λ a others. Ok (pair a (range_between ts others), others)))
  ranged_by ts (Ok q) h =
      record {
        marks = h.marks;
        spelled = record { part = h.spelled; is_range = range_is ts q.1 h.marks h.covers };
        within = h.within;
        covers = h.covers;
        only = λ v o m s.
            let e : Same q.0 q.1 h.marks v.0 o m = h.only v.0 o m s.part in
            record { value = pair_is v q.0 (range_between ts q.1) e.value (s.is_range ∙ ap range_of e.marks ∙ sym (range_is ts q.1 h.marks h.covers)); left = e.left; marks = e.marks };
      }
  ranged_by ts (Err r) h = refused_by P Ranged ts ts r.kind r.span (λ v o m s. record { value = v.0; left = o; marks = m; spelled = s.part; deep = λ e x. x }) h

  pub reads_ranged : Reader P p → Reader Ranged (ranged p)
  reads_ranged h ts = ranged_by ts (p ts) (h ts)
