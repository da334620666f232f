-- Whether a restriction of `pub` comes next, by what the calls of a cursor say.
use Rattle.std.proofs.Common.{◌≡◌, ℕ, true, false, ◌&&◌, ◌||◌, codes, Some, None, refl, ap, ◌∙◌}
use Rattle.std.proofs.lemmas.Grind.{common_steps}
use Rattle.dm_stream.specs.declared.tokens.Ident.{Ident}
use Rattle.dm_stream.specs.declared.tokens.Delim.TheVariants.{Paren, Bracket, Brace}
use Rattle.dm_stream.specs.declared.tokens.Token.TheVariants as t
use Rattle.dm_stream.specs.Trees.{Trees, no_trees, token, group}
use Rattle.dm_stream.specs.Cursors.{first_ident, first_group}
use Rattle.dm_ast.specs.Spelling.{at_end, is_word}
use Rattle.dm_ast.specs.TypeGrammar.{behind_colons, behind_idents, behind_first, behind_plain}
use Rattle.dm_ast.specs.DeclarationGrammar.{is_whole, is_restriction, sees_restriction}
use Rattle.dm_read.proofs.Seeing.{ident_front}
use Rattle.dm_read.proofs.MacroSeeing.{nothing_first}

whole_end : (us : Trees) → is_whole (Some us) ≡ at_end us
whole_end no_trees = refl
whole_end (token k rest) = refl
whole_end (group d from inside upto rest) = refl

pub whole_named : (ts us : Trees) (i : Ident) → first_ident (behind_colons ts) ≡ Some (i, us) → is_whole (behind_plain ts) ≡ at_end (behind_idents us)
whole_named ts us i e = ap (λ x. is_whole (behind_first x)) (ident_front (behind_colons ts) us i e) ∙ whole_end (behind_idents us)

pub whole_unnamed : (ts : Trees) → first_ident (behind_colons ts) ≡ None → is_whole (behind_plain ts) ≡ false
whole_unnamed ts e = ap is_whole (nothing_first (behind_colons ts) e)

pub ruleset whole_steps = (common_steps, whole_named, whole_unnamed)

alone_by : (us : Trees) (i : Ident) → at_end us ≡ true → is_restriction (token (t.Ident i) us) ≡ (is_word (codes "crate") i || is_word (codes "self") i || is_word (codes "super") i)
alone_by no_trees i h = refl
alone_by (token k rest) i h = absurd (cc)
alone_by (group d from inside upto rest) i h = absurd (cc)

pub restriction_alone : (ts us : Trees) (i : Ident) → first_ident ts ≡ Some (i, us) → at_end us ≡ true → is_restriction ts ≡ (is_word (codes "crate") i || is_word (codes "self") i || is_word (codes "super") i)
restriction_alone ts us i e h = ap is_restriction (ident_front ts us i e) ∙ alone_by us i h

more_by : (us : Trees) (i : Ident) → at_end us ≡ false → is_restriction (token (t.Ident i) us) ≡ (is_word (codes "in") i && is_whole (behind_plain us))
more_by no_trees i h = absurd (cc)
more_by (token k rest) i h = refl
more_by (group d from inside upto rest) i h = refl

pub restriction_more : (ts us : Trees) (i : Ident) → first_ident ts ≡ Some (i, us) → at_end us ≡ false → is_restriction ts ≡ (is_word (codes "in") i && is_whole (behind_plain us))
restriction_more ts us i e h = ap is_restriction (ident_front ts us i e) ∙ more_by us i h

pub restriction_none : (ts : Trees) → first_ident ts ≡ None → is_restriction ts ≡ false
restriction_none (token (t.Ident q) rest) e = absurd (cc)
restriction_none _ e = refl

pub ruleset restriction_steps = (common_steps, restriction_alone, restriction_more, restriction_none)

abbrev triple : Trees → ℕ → Trees → Trees × ℕ × Trees
triple a n b = (a, n, b)

pub sees_inside : (ts us vs : Trees) (n : ℕ) → first_group Paren ts ≡ Some (us, n, vs) → sees_restriction ts ≡ is_restriction us
sees_inside (group Paren from inside upto rest) us vs n e = let f : triple inside upto.start rest ≡ triple us n vs = cc in ap (λ v. is_restriction v.0) f
sees_inside (group Bracket from inside upto rest) us vs n e = absurd (cc)
sees_inside (group Brace from inside upto rest) us vs n e = absurd (cc)
sees_inside no_trees us vs n e = absurd (cc)
sees_inside (token k rest) us vs n e = absurd (cc)

pub sees_no_inside : (ts : Trees) → first_group Paren ts ≡ None → sees_restriction ts ≡ false
sees_no_inside (group Paren from inside upto rest) e = absurd (cc)
sees_no_inside (group Bracket from inside upto rest) e = refl
sees_no_inside (group Brace from inside upto rest) e = refl
sees_no_inside no_trees e = refl
sees_no_inside (token k rest) e = refl

pub ruleset inside_steps = (common_steps, sees_inside, sees_no_inside)
