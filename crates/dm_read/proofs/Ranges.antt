-- Ranges of entries, by the first and the last of them.
use Rattle.std.proofs.Common.{◌≡◌, ℕ, suc, ◌-◌, ◌<◌, ◌≤◌, List, [], ◌∷◌, length, take, get_or, refl, ap, ◌∙◌, arith}
use Rattle.std.proofs.lemmas.Grind.{common_steps}
use Rattle.dm_stream.specs.declared.tokens.Entry.{Entry}
use Rattle.dm_stream.specs.Trees.{Trees, flatten}
use Rattle.dm_ast.specs.Readers.{entry_span, last_end, range_over, range_between}

end_over : (n : ℕ) (e last : Entry) (es : List Entry) → last ≡ get_or (e ∷ es) (length es) last → (entry_span last).«end» ≡ last_end n (e ∷ es)
end_over n e last [] h = ap (λ x. (entry_span x).«end») h
end_over n e last (f ∷ es) h = end_over (entry_span e).«end» f last es h

pub end_is : (n : ℕ) (last : Entry) (es : List Entry) → 1 ≤ length es → last ≡ get_or es (length es - 1) last → (entry_span last).«end» ≡ last_end n es
end_is n last [] l h = absurd (omega arith)
end_is n last (e ∷ es) l h =
    let i : suc (length es) - 1 ≡ length es = omega arith in
    end_over n e last es (h ∙ ap (λ k. get_or (e ∷ es) k last) i)

pub no_end : (n : ℕ) (es : List Entry) → length es < 1 → n ≡ last_end n es
no_end n [] l = refl
no_end n (e ∷ es) l = absurd (omega arith)

pub ruleset end_steps = (common_steps, end_is, no_end)

pub between_is : (ts us : Trees) (es fs : List Entry) → flatten ts ≡ es → flatten us ≡ fs → range_between ts us ≡ range_over (take (length es - length fs) es)
between_is ts us es fs e f = ap (λ l. range_over (take (length l - length (flatten us)) l)) e ∙ ap (λ l. range_over (take (length es - length l) es)) f

pub ruleset between_steps = (common_steps, between_is)
