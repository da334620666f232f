-- The plain reader's lists are turns: arguments of formats.
use Rattle.std.proofs.Common.{◌≡◌, ℕ, zero, suc, List, ◌∷◌, Some, option_map, refl, ap, ◌∙◌}
use Rattle.dm_stream.specs.Trees.{Trees}
use Rattle.dm_output.specs.Output.{FmtArgTree}
use Rattle.dm_reread.specs.Next.{Next, ended, comma, next}
use Rattle.dm_reread.specs.Reading.{then, readers, read_fmt_arg, more_fmt_args}
use Rattle.dm_reread.specs.ReadBack.{leaves}
use Rattle.dm_read_places.specs.Repeating.{repeat}
use Rattle.dm_read_places.specs.Turns.{rows}
use Rattle.dm_read_places.proofs.Lists.{Behind, part_on}
use Rattle.dm_read_formats.specs.Formats.{fmt_turn_at, fmt_turn}

-- fuel does not change the leaves
pub leaves_are : (n : ℕ) → (rows n).leaves ≡ leaves
unfolding readers
leaves_are zero = refl
leaves_are (suc n) = leaves_are n

abbrev fmts : (List FmtArgTree × Unit {0}) × Trees → List FmtArgTree
fmts v = v.0.0

module _ (n : ℕ) (more : (ts : Trees) → (rows n).fmt_args ts ≡ option_map fmts (repeat fmt_turn n ts)) where
  fmts_on : (ts : Trees) (m : Next) → next ts ≡ m → more_fmt_args (rows n) m ≡ Behind fmts fmt_turn n (fmt_turn_at ts m)
  fmts_on ts ended e = refl
  fmts_on ts (comma us) e =
      ap (λ l. then (read_fmt_arg l us) (λ a. then ((rows n).fmt_args a.1) (λ s. Some (a.0 ∷ s)))) (leaves_are n) ∙
      part_on fmt_turn n more (λ x s. x ∷ s) (λ x s. refl) (read_fmt_arg leaves us)
  fmts_on ts _ e = refl

pub fmts_are : (n : ℕ) (ts : Trees) → (rows n).fmt_args ts ≡ option_map (λ v. v.0.0) (repeat fmt_turn n ts)
unfolding readers
fmts_are zero ts = refl
fmts_are (suc n) ts = fmts_on n (fmts_are n) ts (next ts) refl
