-- A refusal of a part at a cursor is one of the input.
use Rattle.std.proofs.Common.{Ok, Err, subst}
use Rattle.std.specs.Prelude.{◌≡◌, Result, IsErrAnd}
use Rattle.dm_stream.specs.declared.error.Error.{Error}
use Rattle.dm_stream.specs.declared.error.Error.TheVariants as error
use Rattle.dm_ast.specs.Spelling.{Where}
use Rattle.dm_ast.specs.Readers.{Parser}
use Rattle.dm_ast.specs.Readers as readers
use Rattle.dm_input.specs.State.{State}
use Rattle.dm_input.specs.Inputs.{Reads}

pub refused_here : {A X Y : Type 0} (view : X → A) (seen : Y → A) (reader : Where → Parser A) (here old new : State) → here ≡ old → (e : Error) →
    readers.Reads {A = A} {X = Y} seen (reader here.at here.trees) (Err e) → (res : Result X Error) → IsErrAnd res (λ d. d ≡ e) → Reads view reader old res new
refused_here view seen reader here old new same e p (Ok x) h = absurd h
refused_here view seen reader here old new same error.NoMemory p (Err d) h = rw h tt
refused_here view seen reader here old new same (error.Refused r) p (Err d) h = rw h (subst (λ s. reader s.at s.trees ≡ Err r) same p)
