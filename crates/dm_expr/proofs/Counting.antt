-- What holds of fronts that are read tree by tree.
use Rattle.std.specs.Prelude.{◌≡◌, ℕ, zero, suc, ◌<◌, ◌≤◌, ◌+◌, ◌-◌, Bool, true, false, if◌then◌else◌, None, Some, refl}
use Rattle.std.proofs.Common.{ap, ◌∙◌, sym, arith, add_assoc}
use Rattle.dm_stream.specs.declared.tokens.Punct.{Punct}
use Rattle.dm_stream.specs.Trees.{Trees, no_trees, token, group}
use Rattle.dm_stream.specs.Cursors.{first_punct, first_tree}
use Rattle.dm_stream.specs.Sizes.{size}
use Rattle.dm_expr.specs.Cuts.{Front, after, after_tree, closed_at, waiting, is_char}

pub after-after : (m n : ℕ) (f : Front) → after m (after n f) ≡ after (m + n) f
after-after m n None = refl
after-after m n (Some r) = ap (λ k. Some (k, r.1)) (sym (add_assoc m n r.0))

closed_same : (opener closer count : ℕ) (p q : ℕ × Trees) → p ≡ q →
    after count (after 1 (closed_at opener closer p.0 p.1)) ≡ after (count + 1) (closed_at opener closer q.0 q.1)
closed_same opener closer count p q e =
    after-after count 1 (closed_at opener closer p.0 p.1) ∙ ap (λ (r : ℕ × Trees). after (count + 1) (closed_at opener closer r.0 r.1)) e

pair_same : (p q : ℕ × Trees) → p ≡ q → p ≡ q
pair_same p q e = e

few_wait : (n : ℕ) (a b : Bool) → (if a then n - 1 else if b then n + 1 else n) ≤ n + 1
few_wait n true b = omega arith
few_wait n false true = omega arith
few_wait n false false = omega arith

-- one tree of a pair more
pub closed-step : (opener closer depth count next : ℕ) (ts rest : Trees) → 0 < depth → after_tree opener closer depth ts ≡ Some (next, rest) →
    after count (closed_at opener closer depth ts) ≡ after (count + 1) (closed_at opener closer next rest)
closed-step opener closer zero count next ts rest h e = absurd (omega arith)
closed-step opener closer (suc d) count next no_trees rest h e = absurd (cc)
closed-step opener closer (suc d) count next (token k us) rest h e =
    closed_same opener closer count (waiting opener closer (suc d) k, us) (next, rest) (cc)
closed-step opener closer (suc d) count next (group x from inside upto us) rest h e =
    closed_same opener closer count (suc d, us) (next, rest) (cc)

size_same : (p q : ℕ × Trees) → p ≡ q → size p.1 + 1 ≡ size q.1 + 1
size_same p q e = ap (λ (r : ℕ × Trees). size r.1 + 1) e

pub size-step : (opener closer depth next : ℕ) (ts rest : Trees) → after_tree opener closer depth ts ≡ Some (next, rest) →
    size ts ≡ size rest + 1
size-step opener closer depth next no_trees rest e = absurd (cc)
size-step opener closer depth next (token k us) rest e = size_same (waiting opener closer depth k, us) (next, rest) (cc)
size-step opener closer depth next (group x from inside upto us) rest e = size_same (depth, us) (next, rest) (cc)

-- no more wait after a tree than before it, and one
pub waits-step : (opener closer depth next : ℕ) (ts rest : Trees) → after_tree opener closer depth ts ≡ Some (next, rest) → next ≤ depth + 1
waits-step opener closer depth next no_trees rest e = absurd (cc)
waits-step opener closer depth next (token k us) rest e =
    let w : waiting opener closer depth k ≤ depth + 1 = few_wait depth (is_char closer k) (is_char opener k) in
    let p : waiting opener closer depth k ≡ next = ap (λ (r : ℕ × Trees). r.0) (pair_same (waiting opener closer depth k, us) (next, rest) (cc)) in
    omega arith
waits-step opener closer depth next (group x from inside upto us) rest e =
    let p : depth ≡ next = ap (λ (r : ℕ × Trees). r.0) (pair_same (depth, us) (next, rest) (cc)) in omega arith

-- a list that begins with a punct isn't empty
pub size_punct : (ts rest : Trees) (p : Punct) → first_punct ts ≡ Some (p, rest) → 0 < size ts
size_punct no_trees rest p e = absurd (cc)
size_punct (token k us) rest p e = omega arith
size_punct (group d from inside upto us) rest p e = omega arith

tree_same : (p q : Trees × Trees) → p ≡ q → p ≡ q
tree_same p q e = e

-- a tree at the front is one tree
pub size_after_tree : (ts first rest : Trees) → first_tree ts ≡ Some (first, rest) → 1 + size rest ≡ size ts
size_after_tree no_trees first rest e = absurd (cc)
size_after_tree (token k us) first rest e =
    let p : us ≡ rest = ap (λ (r : Trees × Trees). r.1) (tree_same (token k no_trees, us) (first, rest) (cc)) in
    omega (arith, ap size p)
size_after_tree (group d from inside upto us) first rest e =
    let p : us ≡ rest = ap (λ (r : Trees × Trees). r.1) (tree_same (group d from inside upto no_trees, us) (first, rest) (cc)) in
    omega (arith, ap size p)
