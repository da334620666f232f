use Rattle.std.proofs.Common.{sym, ◌∙◌}
use Rattle.std.proofs.lemmas.Slice.Eq.{bytes_eq-Decides}
use Rattle.dm_sample.proofs.Asked.{two, sized}
use Rattle.dm_sample.proofs.words.sample_size.Goals as goal

-- two words, the first of which is `sample`
pub returns-in-len2 : goal.returns-in-len2
returns-in-len2 c =
    sized _ _ _ (two _ _ _ c.in-len2.len_at_least c.in-len2.len_below c.first-item.is c.second-item.is)
    (sym c.as_str.ensures.value ∙ (bytes_eq-Decides _ _).0 (sym c.if-eq.ensures)) _ c.as_str-in-len2.ensures.value _ c.size_of.ensures
