-- Groups with something in them, and without.
use Rattle.std.proofs.Common.{◌≡◌, true, false, refl}
use Rattle.std.proofs.lemmas.Grind.{common_steps}
use Rattle.dm_stream.specs.Trees.{Trees, no_trees}
use Rattle.dm_ast.specs.Spelling.{at_end}
use Rattle.dm_reread.specs.Reading.{is_some_trees}

pub nothing_inside : (ts : Trees) → at_end ts ≡ true → is_some_trees ts ≡ false
nothing_inside no_trees e = refl
nothing_inside _ e = absurd (cc)

pub something_inside : (ts : Trees) → at_end ts ≡ false → is_some_trees ts ≡ true
something_inside no_trees e = absurd (cc)
something_inside _ e = refl

pub ruleset group_steps = (common_steps, nothing_inside, something_inside)
