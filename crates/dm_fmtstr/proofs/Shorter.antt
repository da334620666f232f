-- What stands behind a thing that was read is no longer than the characters there.
use Rattle.std.specs.Prelude.{◌≡◌, ℕ, suc, ◌+◌, ◌≤◌, Bool, true, false, ◌&&◌, nat_eq, nat_lt, cond, Option, None, Some, List, [], ◌∷◌, length, take, drop}
use Rattle.std.proofs.Common.{arith, subst, length-drop}
use Rattle.std.specs.Str.Parse.{digits_value}
use Rattle.unicode_ident.specs.Ident.{is_xid_continue}
use Rattle.dm_lexer.specs.Characters as char
use Rattle.dm_lexer.specs.TextFronts.{run}
use Rattle.dm_fmtstr.specs.Fronts.{begins_with, behind}
use Rattle.dm_fmtstr.specs.Parts.{Argument, Count, Precision, Spec, Format}
use Rattle.dm_fmtstr.specs.declared.spec.Align.{Align}
use Rattle.dm_fmtstr.specs.declared.spec.Sign.{Sign}
use Rattle.dm_fmtstr.specs.declared.spec.Alternate.{Alternate}
use Rattle.dm_fmtstr.specs.declared.spec.ZeroPadding.{ZeroPadding}
use Rattle.dm_fmtstr.specs.Grammar.{Read, given, as_a, or_else, ended_by, and_then, is_a, one, optional, text_of, begins_identifier, identifier_at, is_decimal, integer_at, argument_at, count_at, side_at, filled_at, align_at, sign_at, alternate_at, behind_padding, padding_at, precision_at, kind_at, sign_of, spec_with, spec_at, spec_part_at, inside_at, format_at}

-- with k more, what is left is within n
abbrev pub Leaves : ℕ → ℕ → Option (List ℕ) → Type 0
Leaves k n None = Unit {0}
Leaves k n (Some cs) = length cs + k ≤ n

abbrev pub Within : {A : Type 0} → ℕ → ℕ → Read A → Type 0
Within k n None = Unit {0}
Within k n (Some r) = length r.0 + k ≤ n

leaves-less : (k m n : ℕ) (o : Option (List ℕ)) → m ≤ n → Leaves k m o → Leaves 0 n o
leaves-less k m n None h l = tt
leaves-less k m n (Some cs) h l = omega arith

leaves-more : (m n : ℕ) (o : Option (List ℕ)) → m ≤ n → Leaves 1 m o → Leaves 2 (suc n) o
leaves-more m n None h l = tt
leaves-more m n (Some cs) h l = omega arith

within-less : {A : Type 0} (m n : ℕ) (o : Read A) → m ≤ n → Within 0 m o → Within 0 n o
within-less m n None h l = tt
within-less m n (Some r) h l = omega arith

given-within : {A : Type 0} (k n : ℕ) (a : A) (o : Option (List ℕ)) → Leaves k n o → Within k n (given a o)
given-within k n a None l = tt
given-within k n a (Some cs) l = l

as_a-within : {A B : Type 0} (k n : ℕ) (f : A → B) (o : Read A) → Within k n o → Within k n (as_a f o)
as_a-within k n f None l = tt
as_a-within k n f (Some r) l = l

or_else-within : {A : Type 0} (k n : ℕ) (o p : Read A) → Within k n o → Within k n p → Within k n (or_else o p)
or_else-within k n None p l m = m
or_else-within k n (Some r) p l m = l

cond-leaves : (b : Bool) (cs : List ℕ) → Leaves 1 (suc (length cs)) (cond b (Some cs) None)
cond-leaves true cs = omega arith
cond-leaves false cs = tt

behind-leaves : (c : ℕ) (cs : List ℕ) → Leaves 1 (length cs) (behind c cs)
behind-leaves c [] = tt
behind-leaves c (d ∷ cs) = cond-leaves (nat_eq d c) cs

ended_by-within : {A : Type 0} (n c : ℕ) (o : Read A) → Within 0 n o → Within 0 n (ended_by c o)
ended_by-within n c None l = tt
ended_by-within n c (Some r) l = given-within 0 n r.1 (behind c r.0) (leaves-less 1 (length r.0) n (behind c r.0) (omega arith) (behind-leaves c r.0))

and_then-within : {A : Type 0} (n : ℕ) (o : Option (List ℕ)) (next : List ℕ → Read A) → Leaves 1 n o →
    ((cs : List ℕ) → length cs ≤ n → Within 0 n (next cs)) → Within 0 n (and_then o next)
and_then-within n None next l w = tt
and_then-within n (Some cs) next l w = w cs (omega arith)

is_a-within : {A : Type 0} (cs : List ℕ) (o : Option A) → Within 0 (suc (length cs)) (is_a cs o)
is_a-within cs None = tt
is_a-within cs (Some a) = omega arith

one-within : {A : Type 0} (of : ℕ → Option A) (cs : List ℕ) → Within 0 (length cs) (one of cs)
one-within of [] = tt
one-within of (c ∷ cs) = is_a-within cs (of c)

optional-leaves : {A : Type 0} (cs : List ℕ) (o : Read A) → Within 0 (length cs) o → length (optional cs o).0 ≤ length cs
optional-leaves cs None l = omega arith
optional-leaves cs (Some r) l = omega arith

-- ---- arguments

text-within : (b : Bool) (n : ℕ) (cs : List ℕ) → Within 0 (length cs) (cond b (text_of n cs) None)
text-within true n cs = omega (arith, length-drop n cs)
text-within false n cs = tt

identifier-within : (cs : List ℕ) → Within 0 (length cs) (identifier_at cs)
identifier-within [] = tt
identifier-within (c ∷ cs) = text-within (begins_identifier c cs) (suc (run is_xid_continue cs)) (c ∷ cs)

number-within : (b : Bool) (n v : ℕ) (cs : List ℕ) → Within 0 (length cs) (cond b (Some (drop n cs, v)) None)
number-within true n v cs = omega (arith, length-drop n cs)
number-within false n v cs = tt

integer-within : (cs : List ℕ) → Within 0 (length cs) (integer_at cs)
integer-within cs =
    let n : ℕ = run is_decimal cs in
    number-within (nat_lt 0 n && nat_lt (digits_value 10 (take n cs)) 18446744073709551616) n (digits_value 10 (take n cs)) cs

argument-within : (cs : List ℕ) → Within 0 (length cs) (argument_at cs)
argument-within cs = or_else-within 0 _ _ _ (as_a-within 0 _ _ _ (identifier-within cs)) (as_a-within 0 _ _ _ (integer-within cs))

count-within : (cs : List ℕ) → Within 0 (length cs) (count_at cs)
count-within cs =
    or_else-within 0 _ _ _ (as_a-within 0 _ _ _ (ended_by-within _ char.dollar _ (argument-within cs))) (as_a-within 0 _ _ _ (integer-within cs))

-- ---- what stands behind `:`

filled-within : (cs : List ℕ) → Within 0 (length cs) (filled_at cs)
filled-within [] = tt
filled-within (c ∷ cs) = as_a-within 0 _ _ _ (within-less (length cs) (suc (length cs)) (side_at cs) (omega arith) (one-within _ cs))

align-within : (cs : List ℕ) → Within 0 (length cs) (align_at cs)
align-within cs = or_else-within 0 _ _ _ (filled-within cs) (as_a-within 0 _ _ _ (one-within _ cs))

alternate-within : (cs : List ℕ) → Within 0 (length cs) (alternate_at cs)
alternate-within cs = given-within 0 _ _ _ (leaves-less 1 (length cs) (length cs) _ (omega arith) (behind-leaves char.number_sign cs))

dollar-leaves : (b : Bool) (n : ℕ) (cs : List ℕ) → length cs ≤ n → Leaves 0 n (cond b None (Some cs))
dollar-leaves true n cs h = tt
dollar-leaves false n cs h = omega arith

padding-leaves : (n : ℕ) (o : Option (List ℕ)) → Leaves 1 n o → Leaves 0 n (behind_padding o)
padding-leaves n None l = tt
padding-leaves n (Some cs) l = dollar-leaves (begins_with char.dollar cs) n cs (omega arith)

padding-within : (cs : List ℕ) → Within 0 (length cs) (padding_at cs)
padding-within cs = given-within 0 _ _ _ (padding-leaves (length cs) (behind char.digit_zero cs) (behind-leaves char.digit_zero cs))

precision-within : (cs : List ℕ) → Within 0 (length cs) (precision_at cs)
precision-within cs =
    and_then-within (length cs) (behind char.dot cs) _ (behind-leaves char.dot cs)
    (λ ds h.
    or_else-within 0 _ _ _ (as_a-within 0 _ _ _ (within-less (length ds) (length cs) _ h (count-within ds)))
    (given-within 0 _ _ _ (leaves-less 1 (length ds) (length cs) _ h (behind-leaves char.star ds))))

display-within : {A : Type 0} (b : Bool) (cs : List ℕ) (a : A) → Within 0 (length cs) (cond b (Some (cs, a)) None)
display-within true cs a = omega arith
display-within false cs a = tt

kind-within : (cs : List ℕ) → Within 0 (length cs) (kind_at cs)
kind-within cs =
    or_else-within 0 _ _ _ (ended_by-within _ char.question_mark _ (one-within _ cs))
    (or_else-within 0 _ _ _ (one-within _ cs) (display-within (begins_with char.close_brace cs) cs _))

spec-within : (n : ℕ) (cs : List ℕ) → length cs ≤ n → Within 0 n (spec_at cs)
spec-within n cs h =
    let a : List ℕ × Option (Option ℕ × Align) = optional cs (align_at cs) in
    let s : List ℕ × Option Sign = optional a.0 (sign_at a.0) in
    let t : List ℕ × Option Alternate = optional s.0 (alternate_at s.0) in
    let z : List ℕ × Option ZeroPadding = optional t.0 (padding_at t.0) in
    let w : List ℕ × Option Count = optional z.0 (count_at z.0) in
    let p : List ℕ × Option Precision = optional w.0 (precision_at w.0) in
    let least : length p.0 ≤ n = omega (
      arith,
      optional-leaves cs (align_at cs) (align-within cs),
      optional-leaves a.0 (sign_at a.0) (one-within sign_of a.0),
      optional-leaves s.0 (alternate_at s.0) (alternate-within s.0),
      optional-leaves t.0 (padding_at t.0) (padding-within t.0),
      optional-leaves z.0 (count_at z.0) (count-within z.0),
      optional-leaves w.0 (precision_at w.0) (precision-within w.0),
    ) in
    as_a-within 0 n (spec_with a.1 s.1 t.1 z.1 w.1 p.1) (kind_at p.0) (within-less (length p.0) n (kind_at p.0) least (kind-within p.0))

spec_part-within : (cs : List ℕ) → Within 0 (length cs) (spec_part_at cs)
spec_part-within cs = and_then-within (length cs) (behind char.colon cs) spec_at (behind-leaves char.colon cs) (λ ds h. spec-within (length cs) ds h)

-- ---- placeholders

closed-within : {A : Type 0} (n : ℕ) (cs : List ℕ) (a : A) → length cs ≤ n → Within 2 (suc n) (given a (behind char.close_brace cs))
closed-within n cs a h = given-within 2 (suc n) a (behind char.close_brace cs) (leaves-more (length cs) n (behind char.close_brace cs) h (behind-leaves char.close_brace cs))

inside-within : (cs : List ℕ) → Within 2 (suc (length cs)) (inside_at cs)
inside-within cs =
    let a : List ℕ × Option Argument = optional cs (argument_at cs) in
    let s : List ℕ × Option Spec = optional a.0 (spec_part_at a.0) in
    let least : length s.0 ≤ length cs = omega (
      arith,
      optional-leaves cs (argument_at cs) (argument-within cs),
      optional-leaves a.0 (spec_part_at a.0) (spec_part-within a.0),
    ) in
    closed-within (length cs) s.0 _ least

opened-within : (b : Bool) (cs : List ℕ) → Within 2 (suc (length cs)) (and_then (cond b (Some cs) None) inside_at)
opened-within true cs = inside-within cs
opened-within false cs = tt

format-within : (cs : List ℕ) → Within 2 (length cs) (format_at cs)
format-within [] = tt
format-within (c ∷ cs) = opened-within (nat_eq c char.open_brace) cs

-- a placeholder takes two characters at least
pub format-shorter : (cs rest : List ℕ) (f : Format) → format_at cs ≡ Some (rest, f) → length rest + 2 ≤ length cs
format-shorter cs rest f h =
    let P : Read Format → Type 0 = λ o. Within 2 (length cs) o in
    subst P h (format-within cs)
