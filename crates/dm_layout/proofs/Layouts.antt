-- What holds of layouts.
use Rattle.std.specs.Prelude.{◌≡◌, List, [], ◌∷◌, ◌++◌, refl}
use Rattle.std.proofs.Common.{ap, ◌∙◌}
use Rattle.std.proofs.lemmas.Grind.{common_steps}
use Rattle.dm_stream.specs.declared.tokens.Span.{Span}
use Rattle.dm_stream.specs.declared.tokens.Delim.{Delim}
use Rattle.dm_stream.specs.declared.tokens.Entry.{Entry}
use Rattle.dm_stream.specs.declared.tokens.Entry.TheVariants as entry
use Rattle.dm_stream.specs.Trees.{Trees, group, join, flatten}
use Rattle.dm_stream.specs.Layout.{Laid, laid, laid_one, opened, closed}
use Rattle.dm_stream.proofs.Trees.{flatten-join}

-- one run of entries after another
pub laid-append : (s : Laid) (es fs : List Entry) → laid s (es ++ fs) ≡ laid (laid s es) fs
laid-append s [] fs = refl
laid-append s (e ∷ es) fs = laid-append (laid_one s e) es fs

-- one list of trees after another
pub laid-join : (s : Laid) (ts us : Trees) → laid s (flatten (join ts us)) ≡ laid (laid s (flatten ts)) (flatten us)
laid-join s ts us = ap (laid s) (flatten-join ts us) ∙ laid-append s (flatten ts) (flatten us)

-- a group: its opening, its inside and its closing
pub laid-group : (s : Laid) (d : Delim) (from : Span) (inside : Trees) (upto : Span) (rest : Trees) →
    laid s (flatten (group d from inside upto rest)) ≡ laid (closed (laid (opened s d) (flatten inside)) d) (flatten rest)
laid-group s d from inside upto rest = laid-append (opened s d) (flatten inside) (entry.Close d upto ∷ flatten rest)

-- one entry more at the end
pub laid-push : (s : Laid) (es : List Entry) (e : Entry) → laid s (es ++ e ∷ []) ≡ laid_one (laid s es) e
laid-push s es e = laid-append s es (e ∷ [])

pub ruleset layout_steps = (common_steps, laid-append, laid-join, laid-group, laid-push)
