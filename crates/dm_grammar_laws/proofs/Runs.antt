-- A discriminant: its reader decides which run stands in front.
use Rattle.std.proofs.Common.{◌≡◌, ℕ, false, Option, Some, None, refl, sym, ap, ap₂, ◌∙◌}
use Rattle.dm_stream.specs.declared.tokens.Span.{Span}
use Rattle.dm_stream.specs.Trees.{Trees, flatten}
use Rattle.dm_stream.proofs.Trees.{flatten-join}
use Rattle.dm_expr.specs.Cuts.{run_at}
use Rattle.dm_expr.proofs.Joining.{split_joins}
use Rattle.dm_ast.specs.declared.plain.Opaque.{Opaque}
use Rattle.dm_ast.specs.Spelling.{Where, Marks, first_too_deep, marks_of}
use Rattle.dm_ast.specs.Readers.{if_shallow}
use Rattle.dm_ast.specs.Runs.{cut_run, last_alone, RunAt, run, behind_run, if_cut, read_run}
use Rattle.dm_read.proofs.Deciding.{Covers, Decides, Reader, pair}
use Rattle.dm_read.proofs.Groups.{covers_all}

-- the trees have one run in front
one_cut : (ts front others : Trees) → cut_run ts ≡ Some (front, others) → (b o : Trees) → cut_run ts ≡ Some (b, o) → (b ≡ front) × (o ≡ others)
one_cut ts front others e b o f =
    let g : Some (pair b o) ≡ Some (pair front others) = sym f ∙ e in
    let h : pair b o ≡ pair front others = cc in
    (ap (λ v. v.0) h, ap (λ v. v.1) h)

kept_is : (o : Opaque) (ts : Trees) (n : ℕ) → o.tokens.trees ≡ ts → o.tokens.limit ≡ n → o ≡ record { tokens = record { trees = ts; limit = n } }
kept_is o ts n e f = ap₂ (λ a b. record { tokens = record { trees = a; limit = b } }) e f

module _ (w : Where) (ts : Trees) where
  module _ (front others : Trees) (e : cut_run ts ≡ Some (front, others)) where
    run_covers : Covers ts others (marks_of w.level front)
    run_covers =
        record {
          front = flatten front;
          splits = ap flatten (split_joins (run_at false ts) ts front others e) ∙ flatten-join front others;
          ranges = covers_all w.level front;
        }

    marks_same : (y : Opaque) (o : Trees) (m : Marks) → RunAt w y ts o m → m ≡ marks_of w.level front
    marks_same y o m s = s.marks ∙ ap (marks_of w.level) (one_cut ts front others e s.front o s.cut).0

    shallow_by : (found : Option Span) → first_too_deep (marks_of w.level front) ≡ found →
        Decides (λ o. run o w) ts (behind_run others (if_shallow found (record { trees = front; limit = w.limit })))
    shallow_by (Some span) f = λ y o m s. ap first_too_deep (marks_same y o m s) ∙ f
    shallow_by None f =
        record {
          marks = marks_of w.level front;
          spelled = record { front = front; cut = e; trees = refl; limit = refl; marks = refl };
          within = f;
          covers = run_covers;
          only = λ y o m s.
              let c = one_cut ts front others e s.front o s.cut in
              record { value = kept_is y (last_alone front) w.limit (s.trees ∙ ap last_alone c.0) s.limit; left = c.1; marks = marks_same y o m s };
        }

  cut_by : (found : Option (Trees × Trees)) → cut_run ts ≡ found → Decides (λ o. run o w) ts (if_cut w ts found)
  cut_by None e = λ y o m s. let f = s.cut in absurd (cc)
  cut_by (Some r) e = shallow_by r.0 r.1 e (first_too_deep (marks_of w.level r.0)) refl

pub reads_run : (w : Where) → Reader (λ o. run o w) (read_run w)
reads_run w ts = cut_by w ts (cut_run ts) refl
