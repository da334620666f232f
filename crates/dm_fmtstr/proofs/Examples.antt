-- The definitions at texts that are written out.
use Rattle.std.specs.Prelude.{◌≡◌, true, false, None, Some, [], ◌∷◌, codes, encode_utf8, refl}
use Rattle.std.proofs.Common.{arith}
use Rattle.std.proofs.lemmas.Str.{encode_ascii}
use Rattle.unicode_ident.specs.Ident.{is_xid_start, is_xid_continue}
use Rattle.unicode_ident.proofs.IdentLemmas.{is_xid_start-ascii, is_xid_continue-ascii}
use Rattle.dm_fmtstr.specs.declared.spec.Align.TheVariants.{Left, Right}
use Rattle.dm_fmtstr.specs.declared.kind.FmtType.TheVariants as kind
use Rattle.dm_fmtstr.specs.Parts.{position, name, number, parameter, counted, starred, Spec, Format}
use Rattle.dm_fmtstr.specs.Grammar.{format_at, Formats, ends, opening, closing, placeholder, HasNoFormats}
use Rattle.dm_fmtstr.specs.Positions.{placeholders}
use Rattle.dm_fmtstr.proofs.Strings.{double_open, formats-passed, formats-none}

-- ---- characters

no_space : is_xid_start 32 ≡ false
no_space = is_xid_start-ascii 32 (omega arith)

no_star : is_xid_start 42 ≡ false
no_star = is_xid_start-ascii 42 (omega arith)

no_dot : is_xid_start 46 ≡ false
no_dot = is_xid_start-ascii 46 (omega arith)

no_zero : is_xid_start 48 ≡ false
no_zero = is_xid_start-ascii 48 (omega arith)

no_one : is_xid_start 49 ≡ false
no_one = is_xid_start-ascii 49 (omega arith)

no_three : is_xid_start 51 ≡ false
no_three = is_xid_start-ascii 51 (omega arith)

no_eight : is_xid_start 56 ≡ false
no_eight = is_xid_start-ascii 56 (omega arith)

no_colon : is_xid_start 58 ≡ false
no_colon = is_xid_start-ascii 58 (omega arith)

no_question : is_xid_start 63 ≡ false
no_question = is_xid_start-ascii 63 (omega arith)

no_close : is_xid_start 125 ≡ false
no_close = is_xid_start-ascii 125 (omega arith)

p_starts : is_xid_start 112 ≡ true
p_starts = is_xid_start-ascii 112 (omega arith)

w_starts : is_xid_start 119 ≡ true
w_starts = is_xid_start-ascii 119 (omega arith)

x_starts : is_xid_start 120 ≡ true
x_starts = is_xid_start-ascii 120 (omega arith)

dollar_ends : is_xid_continue 36 ≡ false
dollar_ends = is_xid_continue-ascii 36 (omega arith)

colon_ends : is_xid_continue 58 ≡ false
colon_ends = is_xid_continue-ascii 58 (omega arith)

question_ends : is_xid_continue 63 ≡ false
question_ends = is_xid_continue-ascii 63 (omega arith)

close_ends : is_xid_continue 125 ≡ false
close_ends = is_xid_continue-ascii 125 (omega arith)

p_is : encode_utf8 112 ≡ codes "p"
p_is = encode_ascii 112 (omega arith)

w_is : encode_utf8 119 ≡ codes "w"
w_is = encode_ascii 119 (omega arith)

x_is : encode_utf8 120 ≡ codes "x"
x_is = encode_ascii 120 (omega arith)

ruleset characters = (
  no_space,
  no_star,
  no_dot,
  no_zero,
  no_one,
  no_three,
  no_eight,
  no_colon,
  no_question,
  no_close,
  p_starts,
  w_starts,
  x_starts,
  dollar_ends,
  colon_ends,
  question_ends,
  close_ends,
  p_is,
  w_is,
  x_is,
)

-- ---- placeholders

-- `:` and nothing behind it
bare : Spec
bare = record { align = None; sign = None; alternate = None; zero_padding = None; width = None; precision = None; ty = kind.Display }

plain : format_at (codes "{}") ≡ Some ([], record { arg = None; spec = None })
plain = simp characters

plain_spec : format_at (codes "{:}") ≡ Some ([], record { arg = None; spec = Some bare })
unfolding bare
plain_spec = simp characters

numbered : format_at (codes "{0:>8.3}") ≡
    Some ([], record { arg = Some (position 0); spec = Some record bare { align = Some (None, Right); width = Some (number 8); precision = Some (counted (number 3)) } })
unfolding bare
numbered = simp characters

named : format_at (codes "{x:w$.p$}") ≡
    Some (
      [],
      record {
        arg = Some (name (codes "x"));
        spec = Some record bare { width = Some (parameter (name (codes "w"))); precision = Some (counted (parameter (name (codes "p")))) };
      },
    )
unfolding bare
named = simp characters

filled : format_at (codes "{:_<10}") ≡ Some ([], record { arg = None; spec = Some record bare { align = Some (Some 95, Left); width = Some (number 10) } })
unfolding bare
filled = simp characters

alternate : format_at (codes "{:#?}") ≡ Some ([], record { arg = None; spec = Some record bare { alternate = Some record {}; ty = kind.Debug } })
unfolding bare
alternate = simp characters

hexadecimal : format_at (codes "{:x?}") ≡ Some ([], record { arg = None; spec = Some record bare { ty = kind.LowerDebug } })
unfolding bare
hexadecimal = simp characters

padded : format_at (codes "{:00}") ≡ Some ([], record { arg = None; spec = Some record bare { zero_padding = Some record {}; width = Some (number 0) } })
unfolding bare
padded = simp characters

zeroth : format_at (codes "{:0$}") ≡ Some ([], record { arg = None; spec = Some record bare { width = Some (parameter (position 0)) } })
unfolding bare
zeroth = simp characters

-- `{:.*}`
star : Format
star = record { arg = None; spec = Some record bare { precision = Some starred } }

star_then : format_at (codes "{:.*}{}") ≡ Some (codes "{}", star)
unfolding bare star
star_then = simp characters

largest : format_at (codes "{18446744073709551615}") ≡ Some ([], record { arg = Some (position 18446744073709551615); spec = None })
largest = simp characters

too_large : format_at (codes "{18446744073709551616}") ≡ None
too_large = simp characters

no_blank : format_at (codes "{ }") ≡ None
no_blank = simp characters

one_kind : format_at (codes "{:?x}") ≡ None
one_kind = simp characters

-- ---- whole strings

braces : Formats (codes "{{}}") []
braces = opening (closing ends)

two : Formats (codes "{:.*}{}") (star ∷ record { arg = None; spec = None } ∷ [])
two = placeholder star_then (placeholder plain ends)

half_open : HasNoFormats (codes "{{}")
half_open = λ fs t. formats-none (formats-passed (codes "}") t (double_open refl)) (omega arith) refl refl

lone_close : HasNoFormats (codes "}")
lone_close = λ fs t. formats-none t (omega arith) refl refl

-- the precision `*` takes position 0
positions : placeholders (star ∷ record { arg = None; spec = None } ∷ []) ≡
    record { arg = position 1; has_modifiers = true; trait_name = codes "Display" } ∷
    record { arg = position 2; has_modifiers = false; trait_name = codes "Display" } ∷ []
unfolding bare star
positions = refl
