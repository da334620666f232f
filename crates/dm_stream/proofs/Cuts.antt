-- Trees that are taken one by one.
use Rattle.std.specs.Prelude.{◌≡◌, ℕ, zero, suc, ◌<◌, ◌≤◌, ◌+◌, ◌-◌, Option, None, Some, List, ◌++◌, length, refl}
use Rattle.std.proofs.Common.{ap, ◌∙◌, sym, subst, take, drop, arith, length-drop, length-take, take-append-drop}
use Rattle.std.proofs.Math.Seq.{take-add, drop-append-add, take-length}
use Rattle.dm_stream.specs.declared.tokens.Entry.{Entry}
use Rattle.dm_stream.specs.Trees.{Trees, no_trees, token, group, join, unflatten, join-no_trees}
use Rattle.dm_stream.specs.Cursors.{first_tree, split_trees, before, IsTreeLen, IsCutAfter}
use Rattle.dm_stream.proofs.Trees.{flat-append, unflatten-append}

pub drop-more : {X : Type 0} (i n : ℕ) (xs : List X) → i ≤ length xs → drop (i + n) xs ≡ drop n (drop i xs)
drop-more i n xs h =
    let l : length (take i xs) ≡ i = simp length-take (omega arith) in
    ap (λ m. drop (m + n) xs) (sym l) ∙ ap (drop (length (take i xs) + n)) (sym (take-append-drop i xs)) ∙
    drop-append-add (take i xs) (drop i xs) n

pub join_assoc : (a b c : Trees) → join (join a b) c ≡ join a (join b c)
join_assoc no_trees b c = refl
join_assoc (token k r) b c = ap (token k) (join_assoc r b c)
join_assoc (group d f i u r) b c = ap (group d f i u) (join_assoc r b c)

before-before : (a b : Trees) (o : Option (Trees × Trees)) → before a (before b o) ≡ before (join a b) o
before-before a b None = refl
before-before a b (Some r) = ap (λ t. Some (t, r.1)) (sym (join_assoc a b r.0))

of_first : (t r a b : Trees) (n : ℕ) → ◌≡◌ {A = Trees × Trees} (t, r) (a, b) → before t (split_trees n r) ≡ before a (split_trees n b)
of_first t r a b n q = ap (λ p. before p.0 (split_trees n p.1)) q

split_trees-step : (n : ℕ) (ts a b : Trees) → first_tree ts ≡ Some (a, b) → split_trees (suc n) ts ≡ before a (split_trees n b)
split_trees-step n no_trees a b h = absurd (cc)
split_trees-step n (token k r) a b h = of_first (token k no_trees) r a b n (cc)
split_trees-step n (group d x i u r) a b h = of_first (group d x i u no_trees) r a b n (cc)

pub cut-step : (es : List Entry) (count more at n : ℕ) → IsCutAfter es count (suc more) at → IsTreeLen (drop at es) n →
    IsCutAfter es count more (at + n)
cut-step es count more at n c t =
    let a : take (at + n) es ≡ take at es ++ take n (drop at es) = take-add at n es in
    let b : drop (at + n) es ≡ drop n (drop at es) = drop-more at n es c.fits in
    record {
      fits = omega (arith, c.fits, t.fits, length-drop at es);
      front_is_flat = rw a (flat-append _ _ c.front_is_flat t.front_is_flat);
      back_is_flat = rw b t.back_is_flat;
      go_on =
          c.go_on ∙ ap (before (unflatten (take at es))) (split_trees-step more (unflatten (drop at es)) _ _ t.trees_are) ∙
          before-before (unflatten (take at es)) (unflatten (take n (drop at es))) (split_trees more (unflatten (drop n (drop at es)))) ∙
          ap (λ x. before x (split_trees more (unflatten (drop n (drop at es))))) (sym (unflatten-append (take at es) (take n (drop at es)) c.front_is_flat)) ∙
          ap (λ l. before (unflatten l) (split_trees more (unflatten (drop n (drop at es))))) (sym a) ∙
          ap (λ l. before (unflatten (take (at + n) es)) (split_trees more (unflatten l))) (sym b);
    }

-- what is had where no more trees are asked for, and where there are none
pub cut-end : (es : List Entry) (count at : ℕ) → IsCutAfter es count 0 at →
    split_trees count (unflatten es) ≡ Some (unflatten (take at es), unflatten (drop at es))
cut-end es count at c = c.go_on ∙ ap (λ t. Some (t, unflatten (drop at es))) (join-no_trees (unflatten (take at es)))

-- `&es[at..]` as a proof sees it
pub rest_whole : {X : Type 0} (xs : List X) (at : ℕ) → take (length xs - at) (drop at xs) ≡ drop at xs
rest_whole xs at = ap (λ n. take n (drop at xs)) (sym (length-drop at xs)) ∙ take-length (drop at xs)

pub cut-next : (es : List Entry) (count more at n : ℕ) → IsCutAfter es count more at → 0 < more →
    IsTreeLen (take (length es - at) (drop at es)) n → IsCutAfter es count (more - 1) (at + n)
cut-next es count zero at n c p t = absurd (omega arith)
cut-next es count (suc m) at n c p t =
    let e : suc m - 1 ≡ m = omega arith in
    let P : List Entry → Type 0 = λ l. IsTreeLen l n in
    rw e (cut-step es count m at n c (subst P (rest_whole es at) t))
