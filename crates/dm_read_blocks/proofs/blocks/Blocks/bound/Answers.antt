-- A name's value behind `let`.
use Rattle.std.proofs.Common.{subst}
use Rattle.dm_read_places.specs.declared.front.Keyword.TheVariants as keyword
use Rattle.dm_read_places.specs.Fronts.{is_keyword, keyword_next}
use Rattle.dm_read_places.specs.Reads.{Takes}
use Rattle.dm_read_blocks.proofs.BlockSteps.{let_reads}
use Rattle.dm_read_blocks.proofs.blocks.Blocks.bound.Goals as goal

pub returns : goal.returns
returns g c =
    let old = c.args.place.now in
    let stays = subst (λ b. Takes (is_keyword keyword.Wild) (keyword_next keyword.Wild) old b c.take_keyword.new.self) c.if-take_keyword.false c.take_keyword.ensures in
    let_reads c.args.self.now.parts.fuel old c.take_keyword.new.self c.named_let.new.place c.named_let.result stays.0 stays.1 c.named_let.ensures
