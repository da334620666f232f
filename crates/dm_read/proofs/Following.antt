-- One part behind another in the program. What is known of the second stands at the place of its own cursor, which is the place of the first one.
use Rattle.std.proofs.Common.{◌≡◌, ℕ, Ok, sym, subst}
use Rattle.std.specs.Prelude.{Result}
use Rattle.dm_stream.specs.declared.error.Error.{Error}
use Rattle.dm_stream.specs.declared.cursor.Cursor.{Cursor}
use Rattle.dm_stream.specs.Cursors.{left, SharesEnd}
use Rattle.dm_ast.specs.Spelling.{Where}
use Rattle.dm_ast.specs.Readers.{Parser, and_then, place, Reads}
use Rattle.dm_read.proofs.Deciding.{pair}
use Rattle.dm_read.proofs.Loops.{place_same}

-- the second part depends on the first one, and ends the function
module _ {A B X : Type 0} (view : X → B) (p : Where → Parser A) (q : Where → A → Parser B) (n : ℕ) (c d : Cursor) (a : A) where
  pub last_part : SharesEnd c d → p (place n c) (left c) ≡ Ok (pair a (left d)) → (res : Result (X × Cursor) Error) →
      Reads view (q (place n d) a (left d)) res → Reads view (and_then (p (place n c) (left c)) (q (place n c))) res
  last_part after first res h =
      subst (λ o. Reads view (and_then o (q (place n c))) res) (sym first)
      (subst (λ w. Reads view (q w a (left d)) res) (place_same n c d after.same_limit) h)
