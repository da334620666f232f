-- What has to come next, and doesn't.
use Rattle.std.proofs.Common.{◌≡◌, true, false, Some, None, refl}
use Rattle.std.proofs.lemmas.Grind.{common_steps}
use Rattle.dm_stream.specs.Trees.{Trees, no_trees}
use Rattle.dm_ast.specs.Spelling.{at_end}
use Rattle.dm_read_places.specs.declared.front.Sign.TheVariants as sign
use Rattle.dm_reread.specs.Next.{k_as, k_wild, Next, comma, colon, semicolon, leads, assigns, plus, literal, a_name, a_word}
use Rattle.dm_reread.specs.Reading.{whole, comma_after, colon_after, semicolon_after, leads_after, assigns_after, plus_after, as_after, wild_after, int_after}
use Rattle.dm_read_places.specs.declared.front.Keyword.TheVariants as keyword
use Rattle.dm_read_places.specs.Fronts.{is_sign, is_keyword, is_name_next, is_literal_next}
use Rattle.dm_read_places.specs.Turns.{declared_at}

pub no_comma : (n : Next) → is_sign sign.Comma n ≡ false → comma_after n ≡ None
no_comma (comma ts) e = absurd (cc)
no_comma _ e = refl

pub no_colon : (n : Next) → is_sign sign.Colon n ≡ false → colon_after n ≡ None
no_colon (colon ts) e = absurd (cc)
no_colon _ e = refl

pub no_semicolon : (n : Next) → is_sign sign.Semicolon n ≡ false → semicolon_after n ≡ None
no_semicolon (semicolon ts) e = absurd (cc)
no_semicolon _ e = refl

pub no_leads : (n : Next) → is_sign sign.Leads n ≡ false → leads_after n ≡ None
no_leads (leads ts) e = absurd (cc)
no_leads _ e = refl

pub no_assigns : (n : Next) → is_sign sign.Assigns n ≡ false → assigns_after n ≡ None
no_assigns (assigns ts) e = absurd (cc)
no_assigns _ e = refl

pub no_plus : (n : Next) → is_sign sign.Plus n ≡ false → plus_after n ≡ None
no_plus (plus ts) e = absurd (cc)
no_plus _ e = refl

pub no_as : (n : Next) → is_keyword keyword.As n ≡ false → as_after n ≡ None
no_as (a_word k_as ts) e = absurd (cc)
no_as _ e = refl

pub no_wild : (n : Next) → is_keyword keyword.Wild n ≡ false → wild_after n ≡ None
no_wild (a_word k_wild ts) e = absurd (cc)
no_wild _ e = refl

pub no_int : (n : Next) → is_literal_next n ≡ false → int_after n ≡ None
no_int (literal l ts) e = absurd (cc)
no_int _ e = refl

pub not_declared : (n : Next) → is_name_next n ≡ false → declared_at n ≡ None
not_declared (a_name i ts) e = absurd (cc)
not_declared _ e = refl

pub all_read : (ts : Trees) → at_end ts ≡ true → ts ≡ no_trees
all_read no_trees e = refl
all_read _ e = absurd (cc)

pub whole_open : {A : Type 0} (x : A) (ts : Trees) → at_end ts ≡ false → whole (Some (x, ts)) ≡ None
whole_open x no_trees e = absurd (cc)
whole_open x _ e = refl

pub ruleset expect_steps = (common_steps, no_comma, no_colon, no_semicolon, no_leads, no_assigns, no_plus, no_as, no_wild, no_int, not_declared, all_read)
