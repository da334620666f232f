use Rattle.std.proofs.Common.{rules, ◌≡◌, refl, sym}
use Rattle.dm_stream.specs.Trees.{unflatten}
use Rattle.dm_stream.specs.LastAlone.{last_alone}
use Rattle.dm_stream.proofs.LastAlone.{punct_found, other_last}
use Rattle.dm_stream.proofs.stream.last_punct.Goals as goal

pub returns-in_err-punct : goal.returns-in_err-punct
returns-in_err-punct c =
    let f : last_alone (unflatten c.args.entries.now) ≡ unflatten c.args.entries.now =
    other_last c.args.entries.now c.in_ok-last.front.now c.in_ok-last.last.now c.requires c.in_ok-last.ensures.cases.0 (sym c.in_err-punct.ensures) in
    search rules

pub returns : goal.returns
returns c =
    punct_found c.args.entries.now c.in_ok-last.front.now c.in_ok-last.last.now c.in_ok-punct.punct _ c.in_ok-last.ensures.cases.0 (sym c.in_ok-punct.ensures) refl
