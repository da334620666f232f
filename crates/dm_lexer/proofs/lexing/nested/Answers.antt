use Rattle.std.proofs.Common.{◌≡◌, ℕ, List, Result, Ok, Err, sym, subst}
use Rattle.std.specs.Prelude.{IsErr, IsErrAnd, IfOk, IfErr}
use Rattle.std.proofs.lemmas.Str.{IsCharBoundary-from_drop}
use Rattle.dm_stream.specs.declared.error.Error.{Error}
use Rattle.dm_stream.specs.declared.error.Error.TheVariants.{NoMemory}
use Rattle.dm_lexer.specs.Nesting.{IsRefusalWithin}
use Rattle.dm_lexer.proofs.LexSteps.{lex-start, lex-step, lex-fault, lex-ended}
use Rattle.dm_lexer.proofs.lexing.nested.Goals as goal

none-given : {A E : Type 0} (P : A → Type 0) (r : Result A E) → IsErr r → IfOk r P
none-given P (Ok x) h = absurd (cc)
none-given P (Err e) h = tt

no_memory-refused : {A : Type 0} (deepest : ℕ) (text : List ℕ) (r : Result A Error) → IsErrAnd r (λ e. e ≡ NoMemory) →
    IfErr r (λ e. IsRefusalWithin deepest text e)
no_memory-refused deepest text (Ok x) h = tt
no_memory-refused deepest text (Err e) h = let P : Error → Type 0 = λ v. IsRefusalWithin deepest text v in subst P (sym h) tt

pub loop-at-init : goal.loop-at-init
loop-at-init g c = lex-start _ _ _ c.utf8.text c.none-nesting.ensures.nested c.none-nesting.ensures.deep

pub text_from-requires : goal.text_from-requires
text_from-requires g c = IsCharBoundary-from_drop _ _ c.loop-at.invariant.fits c.loop-at.invariant.utf8

pub returns-in_err-size-clause-nested : goal.returns-in_err-size-clause-nested
returns-in_err-size-clause-nested g c = none-given _ c.from_residual.result c.from_residual.ensures.0

pub returns-in_err-size-clause-refused : goal.returns-in_err-size-clause-refused
returns-in_err-size-clause-refused g c = no_memory-refused _ _ c.from_residual.result c.from_residual.ensures.1

pub loop-at-preserved : goal.loop-at-preserved
loop-at-preserved g c = (lex-step _ _ _ _ _ _ _ _ c.loop-at.invariant c.text_from.ensures c.in_ok-size.ensures c.in-Reads.is).0

pub returns-in-Fault-clause-refused : goal.returns-in-Fault-clause-refused
returns-in-Fault-clause-refused g c =
    lex-fault _ _ _ _ _ _ _ _ _ c.loop-at.invariant c.text_from.ensures c.in_ok-size.ensures c.in-Fault.is c.refused.ensures

pub returns-clause-nested : goal.returns-clause-nested
returns-clause-nested g c = lex-ended _ _ _ _ c.loop-at.invariant c.loop-at-test.false
