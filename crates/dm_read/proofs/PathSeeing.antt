-- What stands behind `::`, by what the calls of a cursor say.
use Rattle.std.proofs.Common.{◌≡◌, Bool, true, false, ◌&&◌, cond, ap, ◌∙◌}
use Rattle.std.proofs.lemmas.Grind.{common_steps}
use Rattle.dm_stream.specs.declared.tokens.Token.TheVariants as t
use Rattle.dm_stream.specs.Trees.{Trees, no_trees, token, group}
use Rattle.dm_ast.specs.Spelling.{sees, sees_colons}
use Rattle.dm_ast.specs.Readers.{tail}
use Rattle.dm_ast.specs.TypeGrammar.{behind_colons, sees_turbofish}

pub not_both : (b : Bool) → (b && false) ≡ true → ⊥
not_both true e = cc
not_both false e = cc

pub colons_tail : (ts : Trees) → sees_colons ts ≡ true → behind_colons ts ≡ tail (tail ts)
colons_tail (token (t.Punct a) (token (t.Punct b) rest)) e = ap (λ x. cond x rest (token (t.Punct a) (token (t.Punct b) rest))) e
colons_tail (token (t.Punct a) (token (t.Ident b) rest)) e = absurd (not_both _ e)
colons_tail (token (t.Punct a) (token (t.Literal b) rest)) e = absurd (not_both _ e)
colons_tail (token (t.Punct a) (token (t.Lifetime b) rest)) e = absurd (not_both _ e)
colons_tail (token (t.Punct a) (group d from inside upto rest)) e = absurd (not_both _ e)
colons_tail (token (t.Punct a) no_trees) e = absurd (not_both _ e)
colons_tail _ e = absurd (cc)

pub no_turbofish : (ts : Trees) → sees_colons ts ≡ false → sees_turbofish ts ≡ false
no_turbofish ts e = ap (λ b. b && sees 60 (behind_colons ts)) e

pub turbofish : (ts : Trees) → sees_colons ts ≡ true → sees_turbofish ts ≡ sees 60 (tail (tail ts))
turbofish ts e = ap (λ b. b && sees 60 (behind_colons ts)) e ∙ ap (sees 60) (colons_tail ts e)

pub ruleset turbofish_steps = (common_steps, no_turbofish, turbofish)
