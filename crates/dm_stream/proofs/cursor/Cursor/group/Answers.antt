use Rattle.std.proofs.Common.{◌≡◌, ◌∷◌, true, Some, ℕ, refl, sym, ap, ◌∙◌}
use Rattle.dm_stream.specs.Cursors.{first_group, same_delim, group_if, entry_start}
use Rattle.dm_stream.specs.Trees.{Trees, group}
use Rattle.dm_stream.specs.declared.tokens.Span.{Span}
use Rattle.dm_stream.specs.declared.tokens.Delim.{Delim}
use Rattle.dm_stream.proofs.Trees.{open_fits, parts, Parts}
use Rattle.dm_stream.proofs.Delims.{told_same}
use Rattle.dm_stream.proofs.cursor.Cursor.group.Goals as goal

gives_group : (ts : Trees) (d e : Delim) (from upto : Span) (a b : Trees) (n : ℕ) → ts ≡ group e from a upto b →
    same_delim e d ≡ true → n ≡ upto.start → first_group d ts ≡ Some (a, n, b)
gives_group ts d e from upto a b n t h u = rw (t, u) (ap (λ s. group_if s a upto b) h)

pub cut-requires : goal.cut-requires
cut-requires c =
    let e = open_fits _ _ _ _ _ c.requires (c.in_ok-first.ensures ∙ ap (λ e. e ∷ c.in_ok-first.rest.now) c.in-Open.is) in
    record { some = e.0; fits = e.1 }

pub returns-else-ne-clause-inside : goal.returns-else-ne-clause-inside
returns-else-ne-clause-inside c =
    (parts _ _ _ _ _ _ _ _ c.requires (c.in_ok-first.ensures ∙ ap (λ e. e ∷ c.in_ok-first.rest.now) c.in-Open.is) c.cut.ensures.front c.cut.ensures.back).front_is_flat

pub returns-else-ne-clause-place : goal.returns-else-ne-clause-place
returns-else-ne-clause-place c =
    record {
      is_sound = (parts _ _ _ _ _ _ _ _ c.requires (c.in_ok-first.ensures ∙ ap (λ e. e ∷ c.in_ok-first.rest.now) c.in-Open.is) c.cut.ensures.front c.cut.ensures.back).back_is_flat;
      same_limit = refl;
    }

pub returns-else-ne-clause-gives : goal.returns-else-ne-clause-gives
returns-else-ne-clause-gives c =
    let p : Parts c.in-Open.found c.in-Open.field-1 c.args.self.entries.now c.cut.result.0.now c.cut.result.1.now c.cut.result.2.now =
    parts _ _ _ _ _ _ _ _ c.requires (c.in_ok-first.ensures ∙ ap (λ e. e ∷ c.in_ok-first.rest.now) c.in-Open.is) c.cut.ensures.front c.cut.ensures.back in
    let d : same_delim c.in-Open.found c.args.delim ≡ true = told_same _ _ (sym c.ne.ensures ∙ c.if-ne.false) in
    let u : c.starts_at.result ≡ p.upto.start = c.starts_at.ensures ∙ ap entry_start p.closing_is in
    gives_group _ _ _ _ _ _ _ _ p.trees_are d u
