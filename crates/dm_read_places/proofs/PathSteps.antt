-- The rows of paths.
use Rattle.std.proofs.Common.{◌≡◌, Bool, false, Some, None, refl, sym}
use Rattle.std.proofs.lemmas.Grind.{common_steps}
use Rattle.dm_stream.specs.Trees.{Trees}
use Rattle.dm_ast.specs.Tree.{PathTree, SegmentTrees, segment_then, path_tree}
use Rattle.dm_read_places.specs.declared.front.Sign.TheVariants as sign
use Rattle.dm_read_places.specs.declared.list.Turn.TheVariants.{End}
use Rattle.dm_reread.specs.Next.{Next, colons, a_name}
use Rattle.dm_reread.specs.Leaves.{Answer}
use Rattle.dm_reread.specs.Reading.{then, Readers, path_from, plain_path}
use Rattle.dm_read_places.specs.Fronts.{is_sign, is_name_next}
use Rattle.dm_read_places.specs.Turns.{segment_at, segment_turn_at}
use Rattle.dm_read_places.proofs.Lists.{segments_are}
use Rattle.dm_read_places.proofs.Thens.{then_on}

pub no_segment : (n : Next) → is_name_next n ≡ false → segment_at n ≡ None
no_segment (a_name i ts) e = absurd (cc)
no_segment _ e = refl

pub segments_end : (ts : Trees) (n : Next) → is_sign sign.Colons n ≡ false → segment_turn_at ts n ≡ Some (End tt, ts)
segments_end ts (colons us) e = absurd (cc)
segments_end ts _ e = refl

pub no_colons : (r : Readers) (n : Next) → is_sign sign.Colons n ≡ false → plain_path r n ≡ path_from r false n
no_colons r (colons us) e = absurd (cc)
no_colons r _ e = refl

abbrev PathOf : Bool → Answer SegmentTrees → Answer PathTree
PathOf b o = then o (λ x. Some (path_tree b x.0, x.1))

pub path_is : (r : Readers) (b : Bool) (n : Next) →
    path_from r b n ≡ then (segment_at n) (λ a. then (r.segments a.1) (λ s. Some (path_tree b (segment_then a.0 s.0), s.1)))
path_is r b (a_name i ts) = sym (then_on (PathOf b) refl (r.segments ts) _ _ (λ x. refl))
path_is r b _ = refl

pub ruleset path_steps = (common_steps, no_segment, segments_end, no_colons, path_is, segments_are)
