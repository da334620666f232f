-- Lists: parts in turn, and what ends them.
use Rattle.std.specs.Prelude.{ℕ, zero, suc, List, [], ◌∷◌, ◌++◌, Some, None}
use Rattle.dm_stream.specs.Trees.{Trees}
use Rattle.dm_read_places.specs.declared.list.Turn.{Turn}
use Rattle.dm_read_places.specs.declared.list.Turn.TheVariants.{One, End}
use Rattle.dm_reread.specs.Leaves.{Answer}
use Rattle.dm_reread.specs.Reading.{then}

-- a part or an end, by what each stands for
abbrev pub turn_view : {T E A B : Type 0} → (T → A) → (E → B) → Turn T E → Turn A B
turn_view v w (One x) = One (v x)
turn_view v w (End e) = End (w e)

-- a part in front of others
abbrev pub before_others : {A B : Type 0} → A → (List A × B) × Trees → (List A × B) × Trees
before_others x s = ((x ∷ s.0.0, s.0.1), s.1)

-- what is read behind a turn
abbrev pub after_turn : {A B : Type 0} → (Trees → Answer (List A × B)) → Turn A B → Trees → Answer (List A × B)
after_turn more (End e) ts = Some (([], e), ts)
after_turn more (One x) ts = then (more ts) (λ s. Some (before_others x s))

-- parts up to an end, in at most so many turns
abbrev pub repeat : {A B : Type 0} → (ℕ → Trees → Answer (Turn A B)) → ℕ → Trees → Answer (List A × B)
repeat turn zero ts = None
repeat turn (suc n) ts = then (turn n ts) (λ t. after_turn (repeat turn n) t.0 t.1)

-- what is read, behind the parts that were read before
abbrev pub behind_parts : {A B : Type 0} → List A → (List A × B) × Trees → (List A × B) × Trees
behind_parts xs s = ((xs ++ s.0.0, s.0.1), s.1)
