-- How many trees there are, by their entries.
use Rattle.std.proofs.Common.{◌≡◌, ℕ, suc, ◌+◌, ◌≤◌, cond, Bool, true, false, List, [], ◌∷◌, ◌++◌, length, refl, ap, ap₂, ◌∙◌, arith}
use Rattle.std.proofs.lemmas.Grind.{common_steps}
use Rattle.dm_stream.specs.declared.tokens.Entry.{Entry}
use Rattle.dm_stream.specs.declared.tokens.Entry.TheVariants as entry
use Rattle.dm_stream.specs.Trees.{Trees, no_trees, token, group, flatten}
use Rattle.dm_reread.specs.Whole.{size}
use Rattle.dm_read_members.specs.Rows.{is_close, opened}

either_more : (b : Bool) (m n : ℕ) → cond b (m + n) (suc (m + n)) ≡ cond b m (suc m) + n
either_more true m n = refl
either_more false m n = omega arith

opened_both : (xs ys : List Entry) → opened (xs ++ ys) ≡ opened xs + opened ys
opened_both [] ys = omega arith
opened_both (x ∷ xs) ys = ap (λ n. cond (is_close x) n (suc n)) (opened_both xs ys) ∙ either_more (is_close x) (opened xs) (opened ys)

pub opened_size : (ts : Trees) → opened (flatten ts) ≡ size ts
opened_size no_trees = refl
opened_size (token k ts) = ap suc (opened_size ts)
opened_size (group d from inside upto ts) =
    ap suc (opened_both (flatten inside) (entry.Close d upto ∷ flatten ts) ∙ ap₂ (λ m n. m + n) (opened_size inside) (opened_size ts))

either_fits : (b : Bool) (m n : ℕ) → m ≤ n → cond b m (suc m) ≤ suc n
either_fits true m n p = omega (arith, p)
either_fits false m n p = omega (arith, p)

pub opened_fits : (es : List Entry) → opened es ≤ length es
opened_fits [] = omega arith
opened_fits (e ∷ es) = either_fits (is_close e) (opened es) (length es) (opened_fits es)

pub ruleset count_steps = (common_steps, opened_size)
