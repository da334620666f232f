-- What holds of layouts step by step.
use Rattle.std.specs.Prelude.{◌≡◌, ℕ, List, [], ◌∷◌, ◌++◌, true, refl}
use Rattle.std.proofs.Common.{ap, ◌∙◌, sym, append-nil}
use Rattle.dm_stream.specs.declared.tokens.Delim.{Delim}
use Rattle.dm_stream.specs.declared.tokens.Token.{Token}
use Rattle.dm_stream.specs.declared.tokens.Entry.{Entry}
use Rattle.dm_stream.specs.declared.tokens.Entry.TheVariants as entry
use Rattle.dm_stream.specs.Trees.{Trees, no_trees, token, group, join, flatten}
use Rattle.dm_stream.specs.Layout.{Laid, laid, laid_one, laid_start, opened, closed, layout}
use Rattle.std.proofs.lemmas.Grind.{common_steps}
use Rattle.dm_layout.proofs.Layouts.{laid-group}
use Rattle.dm_layout.proofs.Fixing.{laid-prefixed}
use Rattle.dm_print_types.specs.Laying.{put, begun, done, lay, stepped}
use Rattle.dm_output.proofs.View.{view_steps}

-- one list of trees after another
pub lay-join : (s : Laid) (ts us : Trees) → lay s (join ts us) ≡ lay (lay s ts) us
lay-join s no_trees us = refl
lay-join s (token k rest) us = lay-join (put s k) rest us
lay-join s (group d from inside upto rest) us = lay-join (done (lay (begun s d) inside) d) rest us

-- the layout of the flat form
pub lay-laid : (s : Laid) (ts : Trees) → lay s ts ≡ laid s (flatten ts)
unfolding put begun done
lay-laid s no_trees = refl
lay-laid s (token k rest) = lay-laid (laid_one s (entry.Token k)) rest
lay-laid s (group d from inside upto rest) =
    ap (λ l. lay (closed l d) rest) (lay-laid (opened s d) inside) ∙ lay-laid (closed (laid (opened s d) (flatten inside)) d) rest ∙ sym (laid-group s d from inside upto rest)

pub ruleset print_steps = (view_steps, lay-join)

-- the steps of the single tokens
pub put-laid : (s : Laid) (k : Token) → put s k ≡ laid_one s (entry.Token k)
unfolding put
put-laid s k = refl

pub begun-opened : (s : Laid) (d : Delim) → begun s d ≡ opened s d
unfolding begun
begun-opened s d = refl

pub done-closed : (s : Laid) (d : Delim) → done s d ≡ closed s d
unfolding done
done-closed s d = refl

-- a flat form, step by step
pub stepped_laid : (s : Laid) (es : List Entry) → laid s es ≡ stepped s es
unfolding put begun done
stepped_laid s [] = refl
stepped_laid s (entry.Token k ∷ es) = stepped_laid (laid_one s (entry.Token k)) es
stepped_laid s (entry.Open d from n ∷ es) = stepped_laid (opened s d) es
stepped_laid s (entry.Close d upto ∷ es) = stepped_laid (closed s d) es

pub ruleset token_steps = (common_steps, put-laid, begun-opened, done-closed, lay-laid)

-- ---- a layout behind a text

-- behind a text that the next token follows with no space
pub lay-text : (x : List ℕ) (ts : Trees) → (lay (record { text = x; glued = true }) ts).text ≡ x ++ layout ts
lay-text x ts =
    ap (λ (l : Laid). l.text) (lay-laid (record { text = x; glued = true }) ts) ∙
    ap (λ (l : List ℕ). (laid (record { text = l; glued = true }) (flatten ts)).text) (sym (append-nil x)) ∙
    ap (λ (l : Laid). l.text) (laid-prefixed x laid_start (flatten ts))

-- a text from its start
pub laid-start : (ts : Trees) → (lay laid_start ts).text ≡ layout ts
laid-start ts = lay-text [] ts
