use Rattle.std.specs.Str.{chars}
use Rattle.dm_fmtstr.specs.Parts.{count_of, precision_of}
use Rattle.dm_fmtstr.proofs.Specs.{part-read, plain-read, parts-are, spec-none, spec-read}
use Rattle.dm_fmtstr.proofs.spec.read_spec.Goals as goal

pub returns-in_default : goal.returns-in_default
returns-in_default c =
    let parts = parts-are {cs = chars c.args.text.now} (plain-read _ _ _ _ _ c.read_align.ensures c.optional-align.ensures)
    (plain-read _ _ _ _ _ c.read_sign.ensures c.optional-sign.ensures)
    (plain-read _ _ _ _ _ c.read_alternate.ensures c.optional-alternate.ensures) (plain-read _ _ _ _ _ c.read_zero_padding.ensures c.optional-zero_padding.ensures)
    (part-read count_of _ _ _ _ _ c.read_count.ensures c.optional.ensures) (part-read precision_of _ _ _ _ _ c.read_precision.ensures c.optional-2.ensures) in
    spec-none _ _ _ _ _ _ _ _ parts c.in_default.ensures

pub returns : goal.returns
returns c =
    let parts = parts-are {cs = chars c.args.text.now} (plain-read _ _ _ _ _ c.read_align.ensures c.optional-align.ensures)
    (plain-read _ _ _ _ _ c.read_sign.ensures c.optional-sign.ensures)
    (plain-read _ _ _ _ _ c.read_alternate.ensures c.optional-alternate.ensures) (plain-read _ _ _ _ _ c.read_zero_padding.ensures c.optional-zero_padding.ensures)
    (part-read count_of _ _ _ _ _ c.read_count.ensures c.optional.ensures) (part-read precision_of _ _ _ _ _ c.read_precision.ensures c.optional-2.ensures) in
    spec-read _ _ _ _ _ _ _ _ _ _ parts c.in-Some.ensures
