-- What the steps of a derive say of the text.
use Rattle.std.proofs.Common.{ℕ, List, Result, Ok, Err}
use Rattle.std.specs.Prelude.{IfOk}
use Rattle.dm_stream.specs.declared.error.Error.{Error}
use Rattle.dm_stream.specs.declared.error.Error.TheVariants.{NoMemory, Refused}
use Rattle.dm_ast.specs.declared.decl.DeriveInput.{DeriveInput}
use Rattle.dm_ast.specs.Declarations.{declaration_view}
use Rattle.dm_expansion.specs.declared.expansion.Expansion.{Expansion}
use Rattle.dm_printed.specs.Traits.{Trait}
use Rattle.dm_printed.specs.Derived.{Answers, Names, Reads, IsDerivable, IsUnrefused}
use Rattle.dm_printed.proofs.Deriving.{not-read, not-given, not-known, unnamed, derived-operator, derivable}
use Rattle.dm_derive.specs.Answers.{TraitAnswers}
use Rattle.dm_derive.specs.Derived.{Derives}

pub not-derived : (t : Trait) (name text : List ℕ) (e : Error) → Names name t → Reads text (Err e) → Derives name text (Err e)
not-derived t name text NoMemory known h = tt
not-derived t name text (Refused r) known h = not-read t name text r known h

pub derived : (t : Trait) (name text : List ℕ) (d : DeriveInput) (r : Result Expansion Error) → Names name t → Reads text (Ok d) →
    TraitAnswers t (declaration_view d) r → Derives name text r
derived t name text d (Ok x) known h m = (
  m.1.0,
  record { derived = t; is_known = known; declaration = declaration_view d; is_read = h.0; named = h.1; expanded = m.1.1 },
  m.1.2,
)
derived t name text d (Err NoMemory) known h m = tt
derived t name text d (Err (Refused r)) known h m = not-given t name text d r known h m

pub answered : (t : Trait) (name text : List ℕ) (d : DeriveInput) (r : Result Expansion Error) → Names name t → Reads text (Ok d) →
    TraitAnswers t (declaration_view d) r → IfOk r (λ x. Answers name text x.text)
unfolding Answers
answered t name text d (Ok x) known h m = (
  m.1.0,
  record { derived = t; is_known = known; declaration = declaration_view d; is_read = h.0; named = h.1; expanded = m.1.1 },
)
answered t name text d (Err e) known h m = tt

pub expands-it : (name text : List ℕ) (r : Result Expansion Error) → Derives name text r → IsDerivable name text → IsUnrefused r
expands-it name text (Ok x) h d = tt
expands-it name text (Err NoMemory) h d = tt
expands-it name text (Err (Refused r)) h d = derivable name text d r h

pub ruleset derive_steps = (not-known, unnamed, derived-operator, not-derived, derived, answered, expands-it)
