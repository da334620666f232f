-- Which rule the first tree begins, by what the calls of a cursor say.
use Rattle.std.proofs.Common.{◌≡◌, Some, None, refl, ap}
use Rattle.std.proofs.lemmas.Grind.{common_steps}
use Rattle.dm_stream.specs.declared.tokens.Ident.{Ident}
use Rattle.dm_stream.specs.declared.tokens.Punct.{Punct}
use Rattle.dm_stream.specs.declared.tokens.Delim.{Delim}
use Rattle.dm_stream.specs.declared.tokens.Token.TheVariants as t
use Rattle.dm_stream.specs.Trees.{Trees, no_trees, token, group}
use Rattle.dm_stream.specs.Cursors.{first_ident, first_punct}
use Rattle.dm_read_paths.specs.declared.kind.NodeKind.TheVariants as kind
use Rattle.dm_ast.specs.PlainReaders.{delim_of}
use Rattle.dm_read_paths.specs.TypeReaders.{front_kind, punct_kind, word_kind, delim_kind}
use Rattle.dm_read.proofs.Seeing.{ident_front, punct_front}

pub front_punct : (ts us : Trees) (p : Punct) → first_punct ts ≡ Some (p, us) → front_kind ts ≡ punct_kind p.ch
front_punct ts us p e = ap front_kind (punct_front ts us p e)

pub front_ident : (ts us : Trees) (i : Ident) → first_ident ts ≡ Some (i, us) → front_kind ts ≡ word_kind i
front_ident ts us i e = ap front_kind (ident_front ts us i e)

some_of : (d e : Delim) → Some d ≡ Some e → d ≡ e
some_of d e h = cc

pub front_group : (ts : Trees) (d : Delim) → delim_of ts ≡ Some d → front_kind ts ≡ delim_kind d
front_group (group e from inside upto rest) d h = ap delim_kind (some_of e d h)
front_group no_trees d h = absurd (cc)
front_group (token k rest) d h = absurd (cc)

pub front_other : (ts : Trees) → first_punct ts ≡ None → first_ident ts ≡ None → delim_of ts ≡ None → front_kind ts ≡ kind.Path
front_other (token (t.Punct p) rest) a b c = absurd (cc)
front_other (token (t.Ident i) rest) a b c = absurd (cc)
front_other (group e from inside upto rest) a b c = absurd (cc)
front_other _ a b c = refl

pub ruleset front_steps = (common_steps, front_punct, front_ident, front_group, front_other)
