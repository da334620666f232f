-- One part behind another over an input. What is known of the second one stands at the state that the first one left.
use Rattle.std.proofs.Common.{◌≡◌, Ok, Err, sym, ap, ◌∙◌, subst}
use Rattle.std.specs.Prelude.{ℕ, Result, IsErrAnd, MatchResult}
use Rattle.dm_stream.specs.declared.error.Error.{Error}
use Rattle.dm_stream.specs.declared.error.Error.TheVariants as error
use Rattle.dm_stream.specs.declared.error.Refusal.{Refusal}
use Rattle.dm_stream.specs.declared.cursor.Cursor.{Cursor}
use Rattle.dm_stream.specs.Cursors.{left}
use Rattle.dm_ast.specs.Spelling.{Where, deeper}
use Rattle.dm_ast.specs.Readers as cursors
use Rattle.dm_ast.specs.Readers.{Outcome, Parser, place, and_then, mapped, ◌and◌, ◌next◌, ◌gives◌}
use Rattle.dm_read.proofs.Deciding.{pair}
use Rattle.dm_input.specs.State.{State}
use Rattle.dm_input.specs.Inputs.{Reads, shallower}
use Rattle.dm_input.proofs.Levels.{shallower_deeper}

-- what is read at a place, where the place is known to be this one
moved : {B Y : Type 0} (g : Y → B) (q : Where → Parser B) (old mid new : State) → mid.at ≡ old.at → (r : Result Y Error) → Reads g q mid r new →
    Reads g q (record { trees = mid.trees; at = old.at }) r new
moved g q old mid new same r h = subst (λ w. Reads g q (record { trees = mid.trees; at = w }) r new) same h

-- a part that depends on the first one
pub then_reads : {A B X Y : Type 0} (f : X → A) (g : Y → B) (p : Where → Parser A) (q : A → Where → Parser B) (old mid new : State) (x : X) →
    Reads f p old (Ok x) mid → (r : Result Y Error) → Reads g (q (f x)) mid r new → Reads g (λ w ts. and_then (p w ts) (λ a. q a w)) old r new
then_reads f g p q old mid new x first (Ok y) h =
    let k = moved g (q (f x)) old mid new first.1 (Ok y) h in (ap (λ o. and_then o (λ a. q a old.at)) first.0 ∙ k.0, k.1)
then_reads f g p q old mid new x first (Err (error.Refused e)) h =
    ap (λ o. and_then o (λ a. q a old.at)) first.0 ∙ moved g (q (f x)) old mid new first.1 (Err (error.Refused e)) h
then_reads f g p q old mid new x first (Err error.NoMemory) h = tt

-- a part behind one that says nothing
pub next_reads : {B Y : Type 0} (g : Y → B) (p : Where → Parser (Unit {0})) (q : Where → Parser B) (old mid new : State) (x : Unit {0}) →
    Reads (λ v. v) p old (Ok x) mid → (r : Result Y Error) → Reads g q mid r new → Reads g (λ w. p w next q w) old r new
next_reads g p q = then_reads (λ v. v) g p (λ _. q)

pub next_step : {B : Type 0} (p : Where → Parser (Unit {0})) (q : Where → Parser B) (old mid : State) → p old.at old.trees ≡ Ok (pair tt mid.trees) →
    mid.at ≡ old.at → (p old.at next q old.at) old.trees ≡ q mid.at mid.trees
next_step p q old mid first same = ap (λ o. and_then o (λ _. q old.at)) first ∙ ap (λ w. q w mid.trees) (sym same)

-- both parts, of which the second one may be refused
module _ {A B X Y : Type 0} (f : X → A) (g : Y → B) (p : Where → Parser A) (q : Where → Parser B) (old mid new : State) (x : X) (first : Reads f p old (Ok x) mid) where
  both_step : (p old.at and q old.at) old.trees ≡ mapped (pair (f x)) (q mid.at mid.trees)
  both_step = ap (λ o. and_then o (λ b rest. mapped (pair b) (q old.at rest))) first.0 ∙ ap (λ w. mapped (pair (f x)) (q w mid.trees)) (sym first.1)

  pub both_reads : (second : Result Y Error) → Reads g q mid second new → (r : Result (X × Y) Error) →
      MatchResult r (λ v. (second ≡ Ok v.1) × (v.0 ≡ x)) (λ e. second ≡ Err e) → Reads (λ v. pair (f v.0) (g v.1)) (λ w. p w and q w) old r new
  both_reads second h (Ok v) j =
      let k : Reads g q mid (Ok v.1) new = subst (λ s. Reads g q mid s new) j.0 h in
      (both_step ∙ ap (mapped (pair (f x))) k.0 ∙ ap (λ y. Ok (pair (pair (f y) (g v.1)) new.trees)) (sym j.1), k.1 ∙ first.1)
  both_reads second h (Err (error.Refused e)) j =
      let k : Reads g q mid (Err (error.Refused e)) new = subst (λ s. Reads g q mid s new) j h in
      both_step ∙ ap (mapped (pair (f x))) k
  both_reads second h (Err error.NoMemory) j = tt

  -- what is made of both
  module _ {C Z : Type 0} (view : Z → C) (make : A × B → C) where
    pub made_refused : (e : Error) → Reads g q mid (Err e) new → (r : Result Z Error) → IsErrAnd r (λ d. d ≡ e) → Reads view (λ w. (p w and q w) gives make) old r new
    made_refused e h (Ok z) i = absurd i
    made_refused error.NoMemory h (Err d) i = rw i tt
    made_refused (error.Refused e) h (Err d) i = rw i (ap (mapped make) (both_step ∙ ap (mapped (pair (f x))) h))

    pub made_read : (y : Y) → Reads g q mid (Ok y) new → (z : Z) → view z ≡ make (pair (f x) (g y)) → Reads view (λ w. (p w and q w) gives make) old (Ok z) new
    made_read y h z e = (ap (mapped make) (both_step ∙ ap (mapped (pair (f x))) h.0) ∙ ap (λ c. Ok (pair c new.trees)) (sym e), h.1 ∙ first.1)

-- what a refusal of a part makes of the whole
pub err_here : {A B X Y : Type 0} (view : Y → B) (seen : X → A) (whole : Where → Parser B) (part : Where → Parser A) (old mid new : State)
    (make : Outcome A → Outcome B) → ((r : Refusal) → make (Err r) ≡ Err r) → whole old.at old.trees ≡ make (part mid.at mid.trees) →
    (e : Error) → Reads {A = A} {X = X} seen part mid (Err e) new → (res : Result Y Error) → IsErrAnd res (λ d. d ≡ e) → Reads view whole old res new
err_here view seen whole part old mid new make passes step e h (Ok y) i = absurd i
err_here view seen whole part old mid new make passes step error.NoMemory h (Err d) i = rw i tt
err_here view seen whole part old mid new make passes step (error.Refused r) h (Err d) i = rw i (step ∙ ap make h ∙ passes r)

-- a part one level deeper
module _ {A X : Type 0} (view : X → A) (part : Where → Parser A) (old down : State)
    (goes : down ≡ record { trees = old.trees; at = deeper old.at }) where
  pub deep_step : part (deeper old.at) old.trees ≡ part down.at down.trees
  deep_step = ap (λ (s : State). part s.at s.trees) (sym goes)

  pub deep_here : (mid up : State) (x : X) → part down.at down.trees ≡ Ok (pair (view x) mid.trees) → mid.at ≡ down.at →
      up ≡ record { trees = mid.trees; at = shallower mid.at } → (part (deeper old.at) old.trees ≡ Ok (pair (view x) up.trees)) × (up.at ≡ old.at)
  deep_here mid up x h same comes = (
    deep_step ∙ h ∙ ap (λ (s : State). Ok (pair (view x) s.trees)) (sym comes),
    ap (λ (s : State). s.at) comes ∙ ap shallower (same ∙ ap (λ (s : State). s.at) goes) ∙ shallower_deeper old.at,
  )

-- what is read from a cursor on
module _ {A X : Type 0} (view : X → A) (reader : Where → Parser A) (n : ℕ) (c : Cursor) (old new : State) (begins : old ≡ record { trees = left c; at = place n c }) where
  pub read_from : (x : X) (d : Cursor) → reader old.at old.trees ≡ Ok (pair (view x) new.trees) → left d ≡ new.trees →
      reader (place n c) (left c) ≡ Ok (pair (view x) (left d))
  read_from x d h e = ap (λ (s : State). reader s.at s.trees) (sym begins) ∙ h ∙ ap (λ ts. Ok (pair (view x) ts)) (sym e)

  pub passed_on : (e : Error) → Reads {A = A} {X = X} view reader old (Err e) new → (res : Result (X × Cursor) Error) → IsErrAnd res (λ d. d ≡ e) →
      cursors.Reads view (reader (place n c) (left c)) res
  passed_on e h (Ok x) k = absurd k
  passed_on error.NoMemory h (Err d) k = rw k tt
  passed_on (error.Refused r) h (Err d) k = rw k (ap (λ (s : State). reader s.at s.trees) (sym begins) ∙ h)
