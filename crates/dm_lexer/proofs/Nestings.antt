-- The nesting of lexemes, and the entries that were made of them.
use Rattle.std.specs.Prelude.{◌≡◌, ℕ, suc, ◌+◌, ◌-◌, ◌<◌, Bool, true, false, nat_lt, cond, Option, Some, None, List, [], ◌∷◌, ◌++◌, length, refl}
use Rattle.std.proofs.Common.{ap, ◌∙◌, sym, append_assoc, append-nil, arith, length-append, set}
use Rattle.std.proofs.Math.Seq.{set-append_seam}
use Rattle.dm_stream.specs.declared.tokens.Span.{Span}
use Rattle.dm_stream.specs.declared.tokens.Delim.{Delim}
use Rattle.dm_stream.specs.declared.tokens.Delim.TheVariants.{Paren, Bracket, Brace}
use Rattle.dm_stream.specs.declared.tokens.Token.{Token}
use Rattle.dm_stream.specs.declared.tokens.Entry.TheVariants as entry
use Rattle.dm_lexer.specs.declared.lexing.Lexeme.{Lexeme}
use Rattle.dm_lexer.specs.declared.lexing.Lexeme.TheVariants as lexeme
use Rattle.dm_lexer.specs.declared.nesting.Depth.{Depth}
use Rattle.dm_lexer.specs.declared.nesting.Nesting.{Nesting}
use Rattle.dm_lexer.specs.declared.nesting.OpenGroup.{OpenGroup}
use Rattle.dm_stream.specs.Trees.{Trees, no_trees, token, group, join, flatten, join-no_trees, join_assoc}
use Rattle.dm_stream.specs.Cursors.{same_delim, token_span}
use Rattle.dm_lexer.specs.Rows.{Reading}
use Rattle.dm_lexer.specs.Nesting.{marks, nest, nest_all, Level, Verdict, are_trees, has_fault, if_same, none_deep, first_past, deeper, fault, first_deep, so_far, opened_at, IsNesting, IsNested, Takes}
use Rattle.dm_stream.proofs.Trees.{flatten-join}

same_delim-refl : (d : Delim) → same_delim d d ≡ true
same_delim-refl Paren = refl
same_delim-refl Bracket = refl
same_delim-refl Brace = refl

same_delim-eq : (d e : Delim) → same_delim d e ≡ true → d ≡ e
same_delim-eq Paren Paren h = refl
same_delim-eq Bracket Bracket h = refl
same_delim-eq Brace Brace h = refl
same_delim-eq Paren Bracket h = absurd (cc)
same_delim-eq Paren Brace h = absurd (cc)
same_delim-eq Bracket Paren h = absurd (cc)
same_delim-eq Bracket Brace h = absurd (cc)
same_delim-eq Brace Paren h = absurd (cc)
same_delim-eq Brace Bracket h = absurd (cc)

-- the lexemes of trees are nested as these trees
pub nest-marks : (ts : Trees) (ls : List Level) (here : Trees) (deep : Depth) (xs : List Lexeme) (read : Option Span) →
    (more : Depth) × (nest ls here deep (marks ts ++ xs) read ≡ nest ls (join here ts) more xs read)
nest-marks no_trees ls here deep xs read = (deep, ap (λ h. nest ls h deep xs read) (sym (join-no_trees here)))
nest-marks (token t rest) ls here deep xs read =
    let r = nest-marks rest ls (join here (token t no_trees)) (deeper deep (length ls) (token_span t)) xs read in
    (r.0, r.1 ∙ ap (λ h. nest ls h r.0 xs read) (join_assoc here (token t no_trees) rest))
nest-marks (group d from inside upto rest) ls here deep xs read =
    let level : Level = record { before = here; delim = d; from = from } in
    let whole : Trees = join here (group d from inside upto no_trees) in
    let a = nest-marks inside (level ∷ ls) no_trees (deeper deep (length ls) from) (lexeme.Close d upto ∷ (marks rest ++ xs)) read in
    let b = nest-marks rest ls whole (deeper a.0 (length ls) upto) xs read in (
      b.0,
      ap (λ l. nest (level ∷ ls) no_trees (deeper deep (length ls) from) l read) (append_assoc (marks inside) (lexeme.Close d upto ∷ marks rest) xs) ∙
          a.1 ∙
          ap (λ v. if_same v upto (nest ls whole (deeper a.0 (length ls) upto) (marks rest ++ xs) read)) (same_delim-refl d) ∙
          b.1 ∙
          ap (λ h. nest ls h b.0 xs read) (join_assoc here (group d from inside upto no_trees) rest),
    )

pub marks-join : (ts us : Trees) → marks (join ts us) ≡ marks ts ++ marks us
marks-join no_trees us = refl
marks-join (token t rest) us = ap (λ l. lexeme.Token t ∷ l) (marks-join rest us)
marks-join (group d from inside upto rest) us =
    ap (λ l. lexeme.Open d from ∷ (marks inside ++ lexeme.Close d upto ∷ l)) (marks-join rest us) ∙
    ap (λ l. lexeme.Open d from ∷ l) (sym (append_assoc (marks inside) (lexeme.Close d upto ∷ marks rest) (marks us)))

-- the lexemes of open groups and of what follows
abbrev pub outer : List Level → List Lexeme → List Lexeme
outer [] xs = xs
outer (l ∷ ls) xs = outer ls (marks l.before ++ lexeme.Open l.delim l.from ∷ xs)

closed-same : (b : Bool) (upto : Span) (found : Verdict) (ts : Trees) (more : Depth) → if_same b upto found ≡ are_trees ts more →
    (b ≡ true) × (found ≡ are_trees ts more)
closed-same true upto found ts more h = (refl, h)
closed-same false upto found ts more h = absurd (cc)

-- lexemes that nest are those of the trees, and nothing else was read
pub nest-sound : (xs : List Lexeme) (ls : List Level) (here : Trees) (deep : Depth) (read : Option Span) (ts : Trees) (more : Depth) →
    nest ls here deep xs read ≡ are_trees ts more → (outer ls (marks here ++ xs) ≡ marks ts) × (read ≡ None)
nest-sound [] [] here deep None ts more h = let e : here ≡ ts = cc in (append-nil (marks here) ∙ ap marks e, refl)
nest-sound [] [] here deep (Some s) ts more h = absurd (cc)
nest-sound [] (l ∷ ls) here deep None ts more h = absurd (cc)
nest-sound [] (l ∷ ls) here deep (Some s) ts more h = absurd (cc)
nest-sound (lexeme.Token t ∷ xs) ls here deep read ts more h =
    let r = nest-sound xs ls (join here (token t no_trees)) (deeper deep (length ls) (token_span t)) read ts more h in (
      ap (outer ls) (sym (append_assoc (marks here) (lexeme.Token t ∷ []) xs) ∙ ap (λ l. l ++ xs) (sym (marks-join here (token t no_trees)))) ∙ r.0,
      r.1,
    )
nest-sound (lexeme.Open d from ∷ xs) ls here deep read ts more h =
    nest-sound xs (record { before = here; delim = d; from = from } ∷ ls) no_trees (deeper deep (length ls) from) read ts more h
nest-sound (lexeme.Close d upto ∷ xs) [] here deep read ts more h = absurd (cc)
nest-sound (lexeme.Close d upto ∷ xs) (l ∷ ls) here deep read ts more h =
    let whole : Trees = group l.delim l.from here upto no_trees in
    let next : Verdict = nest ls (join l.before whole) (deeper deep (length ls) upto) xs read in
    let s : (same_delim l.delim d ≡ true) × (next ≡ are_trees ts more) = closed-same (same_delim l.delim d) upto next ts more h in
    let e : d ≡ l.delim = sym (same_delim-eq l.delim d s.0) in
    let inner : marks whole ++ xs ≡ lexeme.Open l.delim l.from ∷ (marks here ++ lexeme.Close l.delim upto ∷ xs) =
    ap (λ k. lexeme.Open l.delim l.from ∷ k) (append_assoc (marks here) (lexeme.Close l.delim upto ∷ []) xs) in
    let all : marks (join l.before whole) ++ xs ≡ marks l.before ++ lexeme.Open l.delim l.from ∷ (marks here ++ lexeme.Close l.delim upto ∷ xs) =
    ap (λ k. k ++ xs) (marks-join l.before whole) ∙ append_assoc (marks l.before) (marks whole) xs ∙ ap (λ k. marks l.before ++ k) inner in
    let r = nest-sound xs ls (join l.before whole) (deeper deep (length ls) upto) read ts more s.1 in (
      ap (λ k. outer ls (marks l.before ++ lexeme.Open l.delim l.from ∷ (marks here ++ lexeme.Close k upto ∷ xs))) e ∙
          ap (outer ls) (sym all) ∙ r.0,
      r.1,
    )

pub nest_all-sound : (deep : Depth) (r : Reading) (ts : Trees) (more : Depth) → nest_all [] no_trees deep r ≡ are_trees ts more →
    r ≡ record { lexemes = marks ts; fault = None }
nest_all-sound deep r ts more h =
    let s : (r.lexemes ≡ marks ts) × (r.fault ≡ None) = nest-sound r.lexemes [] no_trees deep r.fault ts more h in
    ap (λ l. record { lexemes = l; fault = r.fault }) s.0 ∙ ap (λ f. record { lexemes = marks ts; fault = f }) s.1

pub nest_all-complete : (deep : Depth) (r : Reading) (ts : Trees) → r ≡ record { lexemes = marks ts; fault = None } →
    (more : Depth) × (nest_all [] no_trees deep r ≡ are_trees ts more)
nest_all-complete deep r ts h =
    let m = nest-marks ts [] no_trees deep [] None in
    (m.0, ap (nest_all [] no_trees deep) h ∙ ap (λ l. nest [] no_trees deep l None) (sym (append-nil (marks ts))) ∙ m.1)

-- a text has one list of trees at most
pub trees-only : (r : Reading) (ts us : Trees) → r ≡ record { lexemes = marks ts; fault = None } → r ≡ record { lexemes = marks us; fault = None } →
    us ≡ ts
trees-only r ts us h k =
    let u = nest_all-complete (none_deep 0) r us k in
    let t = nest_all-complete (none_deep 0) r ts h in
    let e : are_trees us u.0 ≡ are_trees ts t.0 = sym u.1 ∙ t.1 in
    cc

-- no trees are those of a text with a fault
pub faulty-none : (deep : Depth) (r : Reading) (s : Span) → nest_all [] no_trees deep r ≡ has_fault s → (ts : Trees) →
    r ≡ record { lexemes = marks ts; fault = None } → ⊥
faulty-none deep r s h ts k =
    let t = nest_all-complete deep r ts k in
    let e : are_trees ts t.0 ≡ has_fault s = sym t.1 ∙ h in
    absurd cc

-- the place of a fault

abbrev pub openers : List Level → List (Delim × Span)
openers [] = []
openers (l ∷ ls) = (l.delim, l.from) ∷ openers ls

abbrev pub fault_in : Verdict → Option Span
fault_in (are_trees ts more) = None
fault_in (has_fault s) = Some s

fault-same : (b : Bool) (upto : Span) (found : Option Span) (v : Verdict) → found ≡ fault_in v → cond b found (Some upto) ≡ fault_in (if_same b upto v)
fault-same true upto found v h = h
fault-same false upto found v h = refl

pub nest-fault : (xs : List Lexeme) (ls : List Level) (here : Trees) (deep : Depth) (read : Option Span) →
    fault (openers ls) xs read ≡ fault_in (nest ls here deep xs read)
nest-fault [] [] here deep None = refl
nest-fault [] [] here deep (Some s) = refl
nest-fault [] (l ∷ ls) here deep None = refl
nest-fault [] (l ∷ ls) here deep (Some s) = refl
nest-fault (lexeme.Token t ∷ xs) [] here deep read =
    nest-fault xs [] (join here (token t no_trees)) (deeper deep 0 (token_span t)) read
nest-fault (lexeme.Token t ∷ xs) (l ∷ ls) here deep read =
    nest-fault xs (l ∷ ls) (join here (token t no_trees)) (deeper deep (length (l ∷ ls)) (token_span t)) read
nest-fault (lexeme.Open d from ∷ xs) [] here deep read =
    nest-fault xs (record { before = here; delim = d; from = from } ∷ []) no_trees (deeper deep 0 from) read
nest-fault (lexeme.Open d from ∷ xs) (l ∷ ls) here deep read =
    nest-fault xs (record { before = here; delim = d; from = from } ∷ l ∷ ls) no_trees (deeper deep (length (l ∷ ls)) from) read
nest-fault (lexeme.Close d upto ∷ xs) [] here deep read = refl
nest-fault (lexeme.Close d upto ∷ xs) (l ∷ ls) here deep read =
    let whole : Trees = join l.before (group l.delim l.from here upto no_trees) in
    let more : Depth = deeper deep (length ls) upto in
    fault-same (same_delim l.delim d) upto (fault (openers ls) xs read) (nest ls whole more xs read) (nest-fault xs ls whole more read)

-- the first lexeme that is too deep

abbrev pub first_with : Option Span → ℕ → ℕ → List Lexeme → Option Span
first_with (Some s) deepest depth xs = Some s
first_with None deepest depth xs = first_deep deepest depth xs

abbrev pub deep_with : Depth → ℕ → List Lexeme → Option Span
deep_with deep depth xs = first_with deep.first deep.deepest depth xs

deep-cond : (b : Bool) (s : Span) (deepest depth : ℕ) (xs : List Lexeme) →
    cond b (Some s) (first_deep deepest depth xs) ≡ first_with (cond b (Some s) None) deepest depth xs
deep-cond true s deepest depth xs = refl
deep-cond false s deepest depth xs = refl

first-token : (first : Option Span) (deepest depth : ℕ) (t : Token) (xs : List Lexeme) →
    first_with first deepest depth (lexeme.Token t ∷ xs) ≡ first_with (first_past deepest first depth (token_span t)) deepest depth xs
first-token None deepest depth t xs = deep-cond (nat_lt deepest depth) (token_span t) deepest depth xs
first-token (Some s) deepest depth t xs = refl

deep-token : (deep : Depth) (depth : ℕ) (t : Token) (xs : List Lexeme) →
    deep_with deep depth (lexeme.Token t ∷ xs) ≡ deep_with (deeper deep depth (token_span t)) depth xs
deep-token deep depth t xs = first-token deep.first deep.deepest depth t xs

first-open : (first : Option Span) (deepest depth : ℕ) (d : Delim) (from : Span) (xs : List Lexeme) →
    first_with first deepest depth (lexeme.Open d from ∷ xs) ≡ first_with (first_past deepest first depth from) deepest (suc depth) xs
first-open None deepest depth d from xs = deep-cond (nat_lt deepest depth) from deepest (suc depth) xs
first-open (Some s) deepest depth d from xs = refl

deep-open : (deep : Depth) (depth : ℕ) (d : Delim) (from : Span) (xs : List Lexeme) →
    deep_with deep depth (lexeme.Open d from ∷ xs) ≡ deep_with (deeper deep depth from) (suc depth) xs
deep-open deep depth d from xs = first-open deep.first deep.deepest depth d from xs

suc-less : (n : ℕ) → suc n - 1 ≡ n
suc-less n = omega arith

first-close : (first : Option Span) (deepest depth : ℕ) (d : Delim) (upto : Span) (xs : List Lexeme) →
    first_with first deepest (suc depth) (lexeme.Close d upto ∷ xs) ≡ first_with (first_past deepest first depth upto) deepest depth xs
first-close None deepest depth d upto xs =
    ap (λ n. cond (nat_lt deepest n) (Some upto) (first_deep deepest n xs)) (suc-less depth) ∙
    deep-cond (nat_lt deepest depth) upto deepest depth xs
first-close (Some s) deepest depth d upto xs = refl

deep-close : (deep : Depth) (depth : ℕ) (d : Delim) (upto : Span) (xs : List Lexeme) →
    deep_with deep (suc depth) (lexeme.Close d upto ∷ xs) ≡ deep_with (deeper deep depth upto) depth xs
deep-close deep depth d upto xs = first-close deep.first deep.deepest depth d upto xs

first-nil : (first : Option Span) (deepest depth : ℕ) → first_with first deepest depth [] ≡ first
first-nil None deepest depth = refl
first-nil (Some s) deepest depth = refl

pub nest-deep : (xs : List Lexeme) (ls : List Level) (here : Trees) (deep : Depth) (read : Option Span) (ts : Trees) (more : Depth) →
    nest ls here deep xs read ≡ are_trees ts more → deep_with deep (length ls) xs ≡ more.first
nest-deep [] [] here deep None ts more h =
    let same : deep ≡ more = cc in
    first-nil deep.first deep.deepest 0 ∙ ap (λ d. d.first) same
nest-deep [] [] here deep (Some s) ts more h = absurd (cc)
nest-deep [] (l ∷ ls) here deep None ts more h = absurd (cc)
nest-deep [] (l ∷ ls) here deep (Some s) ts more h = absurd (cc)
nest-deep (lexeme.Token t ∷ xs) ls here deep read ts more h =
    deep-token deep (length ls) t xs ∙ nest-deep xs ls (join here (token t no_trees)) (deeper deep (length ls) (token_span t)) read ts more h
nest-deep (lexeme.Open d from ∷ xs) ls here deep read ts more h =
    deep-open deep (length ls) d from xs ∙
    nest-deep xs (record { before = here; delim = d; from = from } ∷ ls) no_trees (deeper deep (length ls) from) read ts more h
nest-deep (lexeme.Close d upto ∷ xs) [] here deep read ts more h = absurd (cc)
nest-deep (lexeme.Close d upto ∷ xs) (l ∷ ls) here deep read ts more h =
    let whole : Trees = join l.before (group l.delim l.from here upto no_trees) in
    let next : Verdict = nest ls whole (deeper deep (length ls) upto) xs read in
    let s : (same_delim l.delim d ≡ true) × (next ≡ are_trees ts more) = closed-same (same_delim l.delim d) upto next ts more h in
    deep-close deep (length ls) d upto xs ∙ nest-deep xs ls whole (deeper deep (length ls) upto) read ts more s.1

-- the entries

so_far-join : (ls : List Level) (here more : Trees) → so_far ls (join here more) ≡ so_far ls here ++ flatten more
so_far-join [] here more = flatten-join here more
so_far-join (l ∷ ls) here more =
    ap (λ f. so_far ls l.before ++ entry.Open l.delim l.from 0 ∷ f) (flatten-join here more) ∙
    sym (append_assoc (so_far ls l.before) (entry.Open l.delim l.from 0 ∷ flatten here) (flatten more))

opened-length : (ls : List Level) → length (opened_at ls) ≡ length ls
opened-length [] = refl
opened-length (l ∷ ls) =
    length-append (opened_at ls) (record { delim = l.delim; from = l.from; place = length (so_far ls l.before) } ∷ []) ∙
    (let e : length (opened_at ls) ≡ length ls = opened-length ls in omega (arith, e))

-- as many groups are open as there are levels
deep-at : (old new : Nesting) (ls : List Level) (here : Trees) (s : Span) → IsNesting old ls here →
    new.deep ≡ deeper old.deep (length old.opened.items) s → new.deep ≡ deeper old.deep (length ls) s
deep-at old new ls here s n q = q ∙ ap (λ k. deeper old.deep k s) (ap length n.opened_are ∙ opened-length ls)

pub nesting-add : (old new : Nesting) (t : Token) → new.entries.items ≡ old.entries.items ++ entry.Token t ∷ [] →
    new.opened.items ≡ old.opened.items → new.deep ≡ deeper old.deep (length old.opened.items) (token_span t) → Takes None old new (lexeme.Token t)
nesting-add old new t e o q ls here n = record {
  levels = ls;
  trees = join here (token t no_trees);
  nested = record {
    entries_are = e ∙ ap (λ l. l ++ entry.Token t ∷ []) n.entries_are ∙ sym (so_far-join ls here (token t no_trees));
    opened_are = o ∙ n.opened_are;
  };
  steps = λ xs read. ap (λ k. nest ls (join here (token t no_trees)) k xs read) (sym (deep-at old new ls here (token_span t) n q));
}

pub nesting-open : (old new : Nesting) (d : Delim) (from : Span) (place : ℕ) → place ≡ length old.entries.items →
    new.entries.items ≡ old.entries.items ++ entry.Open d from 0 ∷ [] →
    new.opened.items ≡ old.opened.items ++ record { delim = d; from = from; place = place } ∷ [] →
    new.deep ≡ deeper old.deep (length old.opened.items) from → Takes None old new (lexeme.Open d from)
nesting-open old new d from place p e o v ls here n =
    let q : place ≡ length (so_far ls here) = p ∙ ap length n.entries_are in
    record {
      levels = record { before = here; delim = d; from = from } ∷ ls;
      trees = no_trees;
      nested = record {
        entries_are = e ∙ ap (λ l. l ++ entry.Open d from 0 ∷ []) n.entries_are;
        opened_are =
            o ∙ ap (λ l. l ++ record { delim = d; from = from; place = place } ∷ []) n.opened_are ∙
            ap (λ k. opened_at ls ++ record { delim = d; from = from; place = k } ∷ []) q;
      };
      steps = λ xs read.
          ap (λ k. nest (record { before = here; delim = d; from = from } ∷ ls) no_trees k xs read) (sym (deep-at old new ls here from n v));
    }

snoc-some : {A : Type 0} (xs : List A) (x : A) → xs ++ x ∷ [] ≡ [] → ⊥
snoc-some [] x h = cc
snoc-some (y ∷ xs) x h = cc

snoc-same : {A : Type 0} (xs ys : List A) (x y : A) → xs ++ x ∷ [] ≡ ys ++ y ∷ [] → (xs ≡ ys) × (x ≡ y)
snoc-same [] [] x y h = (refl, cc)
snoc-same [] (z ∷ ys) x y h = let e : ys ++ y ∷ [] ≡ [] = cc in absurd (snoc-some ys y e)
snoc-same (w ∷ xs) [] x y h = let e : xs ++ x ∷ [] ≡ [] = cc in absurd (snoc-some xs x e)
snoc-same (w ∷ xs) (z ∷ ys) x y h =
    let e : xs ++ x ∷ [] ≡ ys ++ y ∷ [] = cc in
    let s : (xs ≡ ys) × (x ≡ y) = snoc-same xs ys x y e in
    let f : w ≡ z = cc in
    let g : xs ≡ ys = s.0 in
    (cc, s.1)

level_opened : Level → List Level → OpenGroup
level_opened l ls = record { delim = l.delim; from = l.from; place = length (so_far ls l.before) }

-- the innermost open group, as the list of them has it last
innermost : (n : Nesting) (ls : List Level) (l : Level) (here : Trees) (rest : List OpenGroup) (o : OpenGroup) → IsNesting n (l ∷ ls) here →
    n.opened.items ≡ rest ++ o ∷ [] → (opened_at ls ≡ rest) × (level_opened l ls ≡ o)
unfolding level_opened
innermost n ls l here rest o h e = snoc-same (opened_at ls) rest (level_opened l ls) o (sym h.opened_are ∙ e)

entries-length : (n : Nesting) (ls : List Level) (l : Level) (here : Trees) → IsNesting n (l ∷ ls) here →
    length n.entries.items ≡ length (so_far ls l.before) + (length (flatten here) + 1)
entries-length n ls l here h =
    omega (arith, ap length h.entries_are, length-append (so_far ls l.before) (entry.Open l.delim l.from 0 ∷ flatten here))

-- the opener of the innermost level
pub innermost-from : (n : Nesting) (ls : List Level) (l : Level) (here : Trees) (rest : List OpenGroup) (o : OpenGroup) → IsNesting n (l ∷ ls) here →
    n.opened.items ≡ rest ++ o ∷ [] → l.from ≡ o.from
unfolding level_opened
innermost-from n ls l here rest o h e = ap (λ x. x.from) (innermost n ls l here rest o h e).1

pub place-within : (n : Nesting) (rest : List OpenGroup) (o : OpenGroup) → IsNested n → n.opened.items ≡ rest ++ o ∷ [] →
    o.place < length n.entries.items
unfolding level_opened
place-within n rest o ([], here, h) e = absurd (snoc-some rest o (sym e ∙ h.opened_are))
place-within n rest o (l ∷ ls, here, h) e =
    let p : length (so_far ls l.before) ≡ o.place = ap (λ x. x.place) (innermost n ls l here rest o h e).1 in
    omega (arith, entries-length n ls l here h, p)

pub nesting-close : (old new : Nesting) (d : Delim) (upto : Span) (rest : List OpenGroup) (o : OpenGroup) → old.opened.items ≡ rest ++ o ∷ [] →
    same_delim o.delim d ≡ true → new.opened.items ≡ rest →
    new.entries.items ≡ set old.entries.items o.place (entry.Open o.delim o.from (length old.entries.items - o.place)) ++ entry.Close d upto ∷ [] →
    new.deep ≡ deeper old.deep (length rest) upto → Takes None old new (lexeme.Close d upto)
unfolding level_opened
nesting-close old new d upto rest o e h r k v [] here n = absurd (snoc-some rest o (sym e ∙ n.opened_are))
nesting-close old new d upto rest o e h r k v (l ∷ ls) here n =
    let q : (opened_at ls ≡ rest) × (level_opened l ls ≡ o) = innermost old ls l here rest o n e in
    let dd : o.delim ≡ l.delim = sym (ap (λ x. x.delim) q.1) in
    let ff : o.from ≡ l.from = sym (ap (λ x. x.from) q.1) in
    let pp : o.place ≡ length (so_far ls l.before) = sym (ap (λ x. x.place) q.1) in
    let same : same_delim l.delim d ≡ true = ap (λ x. same_delim x d) (sym dd) ∙ h in
    let de : d ≡ l.delim = sym (same_delim-eq l.delim d same) in
    let whole : Trees = group l.delim l.from here upto no_trees in
    let deep : new.deep ≡ deeper old.deep (length ls) upto =
    v ∙ ap (λ m. deeper old.deep m upto) (ap length (sym q.0) ∙ opened-length ls) in
    let all = entries-length old ls l here n in
    let count : length old.entries.items - o.place ≡ length (flatten here) + 1 = omega (arith, all, pp) in
    let entries : old.entries.items ≡ so_far ls l.before ++ entry.Open l.delim l.from 0 ∷ flatten here = n.entries_are in
    let patched : set old.entries.items o.place (entry.Open o.delim o.from (length old.entries.items - o.place)) ≡
    set (so_far ls l.before ++ entry.Open l.delim l.from 0 ∷ flatten here) (length (so_far ls l.before)) (entry.Open l.delim l.from (length (flatten here) + 1)) =
    cc in
    record {
      levels = ls;
      trees = join l.before whole;
      nested = record {
        entries_are =
            k ∙
            ap (λ x. x ++ entry.Close d upto ∷ [])
            (patched ∙ set-append_seam (so_far ls l.before) (entry.Open l.delim l.from 0) (flatten here) (entry.Open l.delim l.from (length (flatten here) + 1))) ∙
            append_assoc (so_far ls l.before) (entry.Open l.delim l.from (length (flatten here) + 1) ∷ flatten here) (entry.Close d upto ∷ []) ∙
            ap (λ x. so_far ls l.before ++ entry.Open l.delim l.from (length (flatten here) + 1) ∷ (flatten here ++ entry.Close x upto ∷ [])) de ∙
            sym (so_far-join ls l.before whole);
        opened_are = r ∙ sym q.0;
      };
      steps = λ xs read.
          ap (λ b. if_same b upto (nest ls (join l.before whole) (deeper old.deep (length ls) upto) xs read)) same ∙
          ap (λ m. nest ls (join l.before whole) m xs read) (sym deep);
    }

-- with no group open, the entries are a flat form
pub nesting-flat : (n : Nesting) (ls : List Level) (here : Trees) → IsNesting n ls here → length n.opened.items ≡ 0 →
    (n.entries.items ≡ flatten here) × (ls ≡ [])
nesting-flat n [] here h e = (h.entries_are, refl)
nesting-flat n (l ∷ ls) here h e =
    let last : List OpenGroup = record { delim = l.delim; from = l.from; place = length (so_far ls l.before) } ∷ [] in
    let k : length n.opened.items ≡ length (opened_at ls) + 1 = ap length h.opened_are ∙ length-append (opened_at ls) last in
    absurd (omega (arith, e, k))
