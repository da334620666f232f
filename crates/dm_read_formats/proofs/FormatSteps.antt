-- The rows of formats and their arguments.
use Rattle.std.proofs.Common.{◌≡◌, true, false, cond, Some, None, refl, ap, ◌∙◌}
use Rattle.std.proofs.lemmas.Grind.{common_steps}
use Rattle.dm_stream.specs.declared.tokens.Ident.{Ident}
use Rattle.dm_stream.specs.declared.tokens.Punct.{Punct}
use Rattle.dm_stream.specs.declared.tokens.Token.TheVariants as t
use Rattle.dm_stream.specs.Trees.{Trees, no_trees, token}
use Rattle.dm_stream.specs.Cursors.{first_punct, first_ident}
use Rattle.dm_ast.specs.Spelling.{at_end}
use Rattle.dm_read.proofs.Seeing.{punct_front, ident_front}
use Rattle.dm_reread.specs.Next.{Next, ended, literal, next}
use Rattle.dm_reread.specs.Reading.{alias_of, Readers, read_fmt}
use Rattle.dm_read_places.specs.declared.list.Turn.TheVariants.{End}
use Rattle.dm_read_places.specs.Fronts.{is_literal_next}
use Rattle.dm_read_formats.specs.Values.{is_alias}
use Rattle.dm_read_formats.specs.Formats.{one_fmt_arg, fmt_turn_at}
use Rattle.dm_read_formats.proofs.FormatLists.{fmts_are}

-- ---- a name in front of `=`

pub no_alias_name : (ts : Trees) → first_ident ts ≡ None → alias_of ts ≡ None
no_alias_name (token (t.Ident i) us) e = absurd (cc)
no_alias_name _ e = refl

mark_missing : (i : Ident) (us : Trees) → first_punct us ≡ None → alias_of (token (t.Ident i) us) ≡ None
mark_missing i (token (t.Punct p) vs) e = absurd (cc)
mark_missing i _ e = refl

pub no_alias_mark : (ts us : Trees) (i : Ident) → first_ident ts ≡ Some (i, us) → first_punct us ≡ None → alias_of ts ≡ None
no_alias_mark ts us i e f = ap alias_of (ident_front ts us i e) ∙ mark_missing i us f

alias_is : (ts us vs : Trees) (i : Ident) (p : Punct) → first_ident ts ≡ Some (i, us) → first_punct us ≡ Some (p, vs) →
    alias_of ts ≡ cond (is_alias i p) (Some (i, vs)) None
alias_is ts us vs i p e f = ap alias_of (ident_front ts us i e ∙ ap (token (t.Ident i)) (punct_front us vs p f))

pub an_alias : (ts us vs : Trees) (i : Ident) (p : Punct) → first_ident ts ≡ Some (i, us) → first_punct us ≡ Some (p, vs) →
    is_alias i p ≡ true →
    alias_of ts ≡ Some (i, vs)
an_alias ts us vs i p e f h = alias_is ts us vs i p e f ∙ ap (λ b. cond b (Some (i, vs)) None) h

pub no_alias : (ts us vs : Trees) (i : Ident) (p : Punct) → first_ident ts ≡ Some (i, us) → first_punct us ≡ Some (p, vs) →
    is_alias i p ≡ false →
    alias_of ts ≡ None
no_alias ts us vs i p e f h = alias_is ts us vs i p e f ∙ ap (λ b. cond b (Some (i, vs)) None) h

-- ---- turns and rows

pub formats_end : (ts : Trees) → at_end ts ≡ true → fmt_turn_at ts (next ts) ≡ Some (End tt, ts)
formats_end no_trees e = refl
formats_end _ e = absurd (cc)

pub formats_more : (ts : Trees) (m : Next) → (m ≡ ended → ⊥) → fmt_turn_at ts m ≡ one_fmt_arg m
formats_more ts ended f = absurd (f refl)
formats_more ts _ f = refl

pub no_format : (r : Readers) (n : Next) → is_literal_next n ≡ false → read_fmt r n ≡ None
no_format r (literal l ts) e = absurd (cc)
no_format r _ e = refl

pub ruleset format_steps = (common_steps, no_alias_name, no_alias_mark, an_alias, no_alias, formats_end, formats_more, no_format, fmts_are)
