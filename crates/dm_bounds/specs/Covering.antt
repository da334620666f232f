-- That predicates cover the operations on fields: each kept field whose type mentions a parameter has the predicate of its type and the
-- trait, or the implementation's own type stands in its type.
use Rattle.std.specs.Prelude.{◌≡◌, ℕ, List, true, false, Some, slice_get, ◌⊎◌}
use Rattle.dm_ast.specs.Tree.{TypeTree, PathTree}
use Rattle.dm_ast.specs.Declarations.{FieldTree, PredicateTree, Declaration}
use Rattle.dm_attr.specs.Skips.{is_skipped}
use Rattle.dm_output.specs.Values.{Case, cases, field_list}
use Rattle.dm_searches.specs.Mentions.{mentions}
use Rattle.dm_searches.specs.Inside.{inside}
use Rattle.dm_bounds.specs.Needed.{Wanted, wanted_of, bounded}

-- the item stands among these
abbrev pub IsAmong : {A : Type 0} → A → List A → Type 0
IsAmong x xs = (k : ℕ) × (slice_get xs k ≡ Some x)

-- `Self`, or the declared type with its parameters, stands in the type
abbrev pub HoldsOwn : Wanted → TypeTree → Type 0
HoldsOwn w t = (inside w.this t ≡ true) ⊎ (inside w.whole t ≡ true)

-- the trait's operation may be called on a value of the type: it mentions no parameter, or a predicate says so, or it holds the type itself
abbrev pub IsCovered : PathTree → Wanted → List PredicateTree → TypeTree → Type 0
IsCovered p w ps t = mentions w.parameters t ≡ true → HoldsOwn w t ⊎ IsAmong (bounded p t) ps

-- so is each field on which the trait's operation is called: those that are kept, of the variants that are
pub record Covers (p : PathTree) (d : Declaration) (ps : List PredicateTree) : Type 0 where
  pub covers : (c : Case) (f : FieldTree) (i j : ℕ) → slice_get (cases d) i ≡ Some c → is_skipped c.attrs ≡ false →
      slice_get (field_list c.fields) j ≡ Some f → is_skipped f.attrs ≡ false → IsCovered p (wanted_of d) ps f.ty
