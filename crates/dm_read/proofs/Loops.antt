-- One turn of the loops that read lists, in the form that the program's loops have.
use Rattle.std.proofs.Common.{◌≡◌, ℕ, suc, ◌+◌, ◌-◌, ◌<◌, ◌≤◌, Bool, true, false, if◌then◌else◌, List, [], ◌∷◌, ◌++◌, map, Ok, Err, sym, ap, ◌∙◌, arith}
use Rattle.std.proofs.lemmas.List.{map-append}
use Rattle.std.specs.Prelude.{Result, IsErrAnd}
use Rattle.dm_stream.specs.declared.error.Error.{Error}
use Rattle.dm_stream.specs.declared.error.Error.TheVariants as error
use Rattle.dm_stream.specs.declared.error.Refusal.{Refusal}
use Rattle.dm_stream.specs.declared.error.Kind.TheVariants.{Syntax}
use Rattle.dm_stream.specs.declared.cursor.Cursor.{Cursor}
use Rattle.dm_stream.specs.Cursors.{left, end_of, front_span}
use Rattle.dm_stream.specs.Trees.{Trees}
use Rattle.dm_ast.specs.Spelling.{Where, sees}
use Rattle.dm_ast.specs.Readers.{Outcome, Parser, and_then, mapped, refuse, read_punct, list_from, repeat_from, place, Reads, Passes}
use Rattle.dm_read.proofs.Deciding.{pair}

-- an item that is added, seen as plain data
pub map_added : {X A : Type 0} (view : X → A) (items next : List X) (x : X) → next ≡ items ++ x ∷ [] → map view next ≡ map view items ++ view x ∷ []
map_added view items next x e = ap (map view) e ∙ map-append view items (x ∷ [])

-- places of one list at one level
pub place_same : (n : ℕ) (c d : Cursor) → end_of d ≡ end_of c → place n d ≡ place n c
place_same n c d e = ap (λ l. record { level = n; limit = l }) e

-- an error at a part that says nothing is passed on
pub passed : {A X : Type 0} (view : X → A) (whole : Outcome A) (o : Outcome (Unit {0})) (e : Error) → Passes o (Err e) → ((r : Refusal) → o ≡ Err r → whole ≡ Err r) →
    (res : Result (X × Cursor) Error) → IsErrAnd res (λ d. d ≡ e) → Reads view whole res
passed view whole o e p f (Ok x) h = absurd h
passed view whole o error.NoMemory p f (Err d) h = rw h tt
passed view whole o (error.Refused r) p f (Err d) h = rw h (f r p)

-- and one at a part with a value
pub reads_passed : {A B X Y : Type 0} (view : X → A) (seen : Y → B) (whole : Outcome A) (o : Outcome B) (e : Error) → Reads {A = B} {X = Y} seen o (Err e) →
    ((r : Refusal) → o ≡ Err r → whole ≡ Err r) → (res : Result (X × Cursor) Error) → IsErrAnd res (λ d. d ≡ e) → Reads view whole res
reads_passed view seen whole o e p f (Ok x) h = absurd h
reads_passed view seen whole o error.NoMemory p f (Err d) h = rw h tt
reads_passed view seen whole o (error.Refused r) p f (Err d) h = rw h (f r p)

-- where memory fails, nothing is said
pub no_memory : {A X : Type 0} (view : X → A) (whole : Outcome A) (res : Result (X × Cursor) Error) → IsErrAnd res (λ d. d ≡ error.NoMemory) → Reads view whole res
no_memory view whole (Ok x) h = absurd h
no_memory view whole (Err d) h = rw h tt

-- a refusal behind the last turn
pub refused_there : {A X : Type 0} (view : X → A) (whole : Outcome A) (n : ℕ) (c d : Cursor) (e : Error) → whole ≡ refuse (place n c) (left d) → end_of d ≡ end_of c →
    e ≡ error.Refused (record { kind = Syntax; span = front_span (left d) (end_of d) }) → Reads view whole (Err e)
refused_there view whole n c d e s same is = rw is (s ∙ ap (λ l. Err (record { kind = Syntax; span = front_span (left d) l })) (sym same))

-- the second of two parts is refused
pub and_refused : {A B C : Type 0} (f : A × B → C) (o : Outcome A) (q : Parser B) (a : A) (mid : Trees) (r : Refusal) → o ≡ Ok (pair a mid) → q mid ≡ Err r →
    mapped f (and_then o (λ x rest. mapped (pair x) (q rest))) ≡ Err r
and_refused f o q a mid r e h = ap (λ x. mapped f (and_then x (λ y rest. mapped (pair y) (q rest)))) e ∙ ap (λ x. mapped f (mapped (pair a) x)) h

module _ {A : Type 0} (w : Where) (separator : ℕ) (ends : Trees → Bool) (item : Parser A) (whole : Outcome (List A × Bool)) (n at : ℕ) (found : List A) (t : Bool) (ts : Trees) where
  -- what is read so far is a part of the whole
  abbrev pub ListSoFar : Type 0
  ListSoFar = whole ≡ list_from w separator ends item (n - at) found t ts

  abbrev behind : A → Parser (List A × Bool)
  behind x mid =
      if sees separator mid then and_then (read_punct separator w mid) (λ _ rest. list_from w separator ends item (n - (at + 1)) (found ++ x ∷ []) true rest) else Ok (pair (found ++ x ∷ []) false, mid)

  turn : at < n → ListSoFar → whole ≡ (if ends ts then Ok (pair found t, ts) else and_then (item ts) behind)
  turn l s = let e : n - at ≡ suc (n - (at + 1)) = omega arith in s ∙ ap (λ k. list_from w separator ends item k found t ts) e

  pub list_ends : at < n → ListSoFar → ends ts ≡ true → whole ≡ Ok (pair found t, ts)
  list_ends l s e = turn l s ∙ ap (λ b. if b then Ok (pair found t, ts) else and_then (item ts) behind) e

  on : at < n → ListSoFar → ends ts ≡ false → whole ≡ and_then (item ts) behind
  on l s e = turn l s ∙ ap (λ b. if b then Ok (pair found t, ts) else and_then (item ts) behind) e

  pub list_refused : at < n → ListSoFar → ends ts ≡ false → (r : Refusal) → item ts ≡ Err r → whole ≡ Err r
  list_refused l s e r i = on l s e ∙ ap (λ o. and_then o behind) i

  past : at < n → ListSoFar → ends ts ≡ false → (x : A) (mid : Trees) → item ts ≡ Ok (x, mid) → whole ≡ behind x mid
  past l s e x mid i = on l s e ∙ ap (λ o. and_then o behind) i

  pub list_last : at < n → ListSoFar → ends ts ≡ false → (x : A) (mid : Trees) → item ts ≡ Ok (x, mid) → sees separator mid ≡ false → whole ≡ Ok (pair (found ++ x ∷ []) false, mid)
  list_last l s e x mid i f =
      past l s e x mid i ∙
      ap (λ b. if b then and_then (read_punct separator w mid) (λ _ rest. list_from w separator ends item (n - (at + 1)) (found ++ x ∷ []) true rest) else Ok (pair (found ++ x ∷ []) false, mid)) f

  more : at < n → ListSoFar → ends ts ≡ false → (x : A) (mid : Trees) → item ts ≡ Ok (x, mid) → sees separator mid ≡ true →
      whole ≡ and_then (read_punct separator w mid) (λ _ rest. list_from w separator ends item (n - (at + 1)) (found ++ x ∷ []) true rest)
  more l s e x mid i f =
      past l s e x mid i ∙
      ap (λ b. if b then and_then (read_punct separator w mid) (λ _ rest. list_from w separator ends item (n - (at + 1)) (found ++ x ∷ []) true rest) else Ok (pair (found ++ x ∷ []) false, mid)) f

  pub list_cut : at < n → ListSoFar → ends ts ≡ false → (x : A) (mid : Trees) → item ts ≡ Ok (x, mid) → sees separator mid ≡ true → (r : Refusal) →
      read_punct separator w mid ≡ Err r → whole ≡ Err r
  list_cut l s e x mid i f r p =
      more l s e x mid i f ∙ ap (λ o. and_then o (λ _ rest. list_from w separator ends item (n - (at + 1)) (found ++ x ∷ []) true rest)) p

  pub list_next : at < n → ListSoFar → ends ts ≡ false → (x : A) (mid : Trees) → item ts ≡ Ok (x, mid) → sees separator mid ≡ true → (rest : Trees) →
      read_punct separator w mid ≡ Ok (tt, rest) → whole ≡ list_from w separator ends item (n - (at + 1)) (found ++ x ∷ []) true rest
  list_next l s e x mid i f rest p =
      more l s e x mid i f ∙ ap (λ o. and_then o (λ _ rest. list_from w separator ends item (n - (at + 1)) (found ++ x ∷ []) true rest)) p

  pub list_out : n ≤ at → ListSoFar → whole ≡ refuse w ts
  list_out l s = let e : n - at ≡ 0 = omega arith in s ∙ ap (λ k. list_from w separator ends item k found t ts) e

module _ {A : Type 0} (w : Where) (begins : Trees → Bool) (item : Parser A) (whole : Outcome (List A)) (n at : ℕ) (found : List A) (ts : Trees) where
  abbrev pub RepeatSoFar : Type 0
  RepeatSoFar = whole ≡ repeat_from w begins item (n - at) found ts

  abbrev then_on : A → Parser (List A)
  then_on x mid = repeat_from w begins item (n - (at + 1)) (found ++ x ∷ []) mid

  one_turn : at < n → RepeatSoFar → whole ≡ (if begins ts then and_then (item ts) then_on else Ok (found, ts))
  one_turn l s = let e : n - at ≡ suc (n - (at + 1)) = omega arith in s ∙ ap (λ k. repeat_from w begins item k found ts) e

  pub repeat_ends : at < n → RepeatSoFar → begins ts ≡ false → whole ≡ Ok (found, ts)
  repeat_ends l s e = one_turn l s ∙ ap (λ b. if b then and_then (item ts) then_on else Ok (found, ts)) e

  goes : at < n → RepeatSoFar → begins ts ≡ true → whole ≡ and_then (item ts) then_on
  goes l s e = one_turn l s ∙ ap (λ b. if b then and_then (item ts) then_on else Ok (found, ts)) e

  pub repeat_refused : at < n → RepeatSoFar → begins ts ≡ true → (r : Refusal) → item ts ≡ Err r → whole ≡ Err r
  repeat_refused l s e r i = goes l s e ∙ ap (λ o. and_then o then_on) i

  pub repeat_next : at < n → RepeatSoFar → begins ts ≡ true → (x : A) (mid : Trees) → item ts ≡ Ok (x, mid) → whole ≡ repeat_from w begins item (n - (at + 1)) (found ++ x ∷ []) mid
  repeat_next l s e x mid i = goes l s e ∙ ap (λ o. and_then o then_on) i

  pub repeat_out : n ≤ at → RepeatSoFar → whole ≡ refuse w ts
  repeat_out l s = let e : n - at ≡ 0 = omega arith in s ∙ ap (λ k. repeat_from w begins item k found ts) e
