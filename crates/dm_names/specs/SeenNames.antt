-- The names that a search has seen, in a set.
use Rattle.std.specs.Prelude.{ℕ, Bool, List, Option, Some, None}
use Rattle.std.specs.Borrow.{Bor}
use Rattle.std.specs.HashSet.{HashSet, contains_by}
use Rattle.std.specs.Str.{bytes_eq}
use Rattle.dm_stream.specs.declared.tokens.Span.{Span}
use Rattle.dm_stream.specs.declared.tokens.Ident.{Ident}
use Rattle.dm_ast.specs.Declarations.{ParamTree, lifetime_param, type_param, const_param}
use Rattle.dm_repeats.specs.Repeats.{place_if}

abbrev pub was_seen : {S : Type 0} → HashSet (Bor (List ℕ)) S → List ℕ → Bool
was_seen seen name = contains_by (λ k. bytes_eq name k.now) seen

-- the place of a field's name that was seen before
abbrev pub label_seen : (List ℕ → Bool) → Option Ident → Option Span
label_seen before None = None
label_seen before (Some i) = place_if (before i.name) i.span

-- the place of a parameter's name that was seen before among the lifetimes or the types
abbrev pub param_seen : (List ℕ → Bool) → (List ℕ → Bool) → ParamTree → Option Span
param_seen of_lifetimes of_types (lifetime_param attrs l bs) = place_if (of_lifetimes l.name) l.span
param_seen of_lifetimes of_types (type_param attrs i bs default) = place_if (of_types i.name) i.span
param_seen of_lifetimes of_types (const_param attrs i t default) = place_if (of_types i.name) i.span
