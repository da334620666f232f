use Rattle.std.proofs.Common.{◌≡◌, List, ℕ, Option, IfOk, option_map, subst}
use Rattle.std.specs.String.{string_bytes}
use Rattle.dm_lexer.proofs.Meanings.{whole-boundary, value-is}
use Rattle.dm_lexer.proofs.values.str_value.Goals as goal

pub text_from-requires : goal.text_from-requires
text_from-requires c = whole-boundary _ _ c.as_str-text.utf8 c.in-Some.ensures

pub returns : goal.returns
returns c =
    let P : Option (List ℕ) → Type 0 = λ w. IfOk c.meant_behind.result (λ v. option_map string_bytes v ≡ w) in
    let e = value-is c.args.literal.now.kind c.as_str-text.result.now c.args.literal.now.text c.text_from.result.now c.in-Some.by c.as_str-text.utf8 c.as_str-text.ensures c.in-Some.ensures c.text_from.ensures in
    subst P e c.meant_behind.ensures
