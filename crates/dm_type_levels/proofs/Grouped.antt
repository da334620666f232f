-- What stands between two delimiters.
use Rattle.std.proofs.Common.{◌≡◌, ℕ, List, [], ◌∷◌, ◌++◌, Result, Ok, Err, ap, ◌∙◌}
use denote.Ref.{Bor}
use Rattle.dm_stream.specs.declared.tokens.Span.{Span}
use Rattle.dm_stream.specs.declared.tokens.Entry.{Entry}
use Rattle.dm_type_levels.specs.Passing.{pass, pass_then, Passes}
use Rattle.dm_type_levels.specs.TypeLevels.{grouped_levels}
use Rattle.dm_type_levels.proofs.Passes.{pass_both}

pub pass_next : (ls ms : List ℕ) (es : List Entry) (e1 : List Entry) → pass ls es ≡ Ok e1 → pass (ls ++ ms) es ≡ pass ms e1
pass_next ls ms es e1 h = pass_both ls ms es ∙ ap (pass_then ms) h

pub pass_group : (k : ℕ) (inside : List ℕ) (es e1 e2 : List Entry) → pass (k ∷ []) es ≡ Ok e1 → pass inside e1 ≡ Ok e2 →
    pass (grouped_levels k inside) es ≡ pass (k ∷ []) e2
pass_group k inside es e1 e2 h i = pass_next (k ∷ []) (inside ++ k ∷ []) es e1 h ∙ pass_next inside (k ∷ []) e1 e2 i

-- levels that pass as others do
pub passes_as : (ls ms : List ℕ) (es e1 : List Entry) (r : Result (Bor (List Entry)) Span) → pass ls es ≡ pass ms e1 → Passes ms e1 r → Passes ls es r
passes_as ls ms es e1 (Ok b) h p = h ∙ p
passes_as ls ms es e1 (Err s) h p = h ∙ p

pub passes_group : (k : ℕ) (inside : List ℕ) (es e1 e2 : List Entry) (r : Result (Bor (List Entry)) Span) →
    pass (k ∷ []) es ≡ Ok e1 → pass inside e1 ≡ Ok e2 → Passes (k ∷ []) e2 r → Passes (grouped_levels k inside) es r
passes_group k inside es e1 e2 r h i p = passes_as (grouped_levels k inside) (k ∷ []) es e2 r (pass_group k inside es e1 e2 h i) p
