use Rattle.std.proofs.Common.{◌≤◌, ◌+◌, length, rules, arith}
use Rattle.std.specs.Str.{chars}
use Rattle.dm_fmtstr.proofs.Shorter.{format-shorter}
use Rattle.dm_fmtstr.proofs.Strings.{values-start, read-text, values-placeholder, read-none, read-end}
use Rattle.dm_fmtstr.proofs.format.format_string.Goals as goal

pub loop-c-init : goal.loop-c-init
loop-c-init c = record { text = c.utf8.text; read = values-start _ _ c.new-formats.ensures }

pub loop-c-smaller : goal.loop-c-smaller
loop-c-smaller c =
    let l : length (chars c.in-Some-read_format.behind.now) + 2 ≤ length (chars c.loop-c.rest.now) = format-shorter _ _ _ c.in-Some-read_format.ensures in
    omega (arith, l)

pub loop-c-preserved : goal.loop-c-preserved
loop-c-preserved c = record {
  text = search rules;
  read = values-placeholder _ _ _ _ _ _ c.loop-c.invariant.read c.in-Some-read_format.ensures c.in_ok-add.ensures.added;
}

pub returns-in_default-read_format : goal.returns-in_default-read_format
returns-in_default-read_format c =
    read-none _ _ _ _ _ c.loop-c.invariant.read c.in-Some.ensures.chars c.in_default-behind_text.ensures c.in_default-read_format.ensures

pub returns : goal.returns
returns c = read-end _ _ _ c.loop-c.invariant.read c.in_default.ensures.chars

pub loop-c-preserved-in-Some-behind_text : goal.loop-c-preserved-in-Some-behind_text
loop-c-preserved-in-Some-behind_text c = record {
  text = search rules;
  read = read-text _ _ _ _ _ _ c.loop-c.invariant.read c.in-Some.ensures.chars c.in-Some-behind_text.ensures;
}
