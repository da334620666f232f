use Rattle.std.proofs.Common.{◌≡◌, ℕ, ◌+◌, List, Option, take, drop, arith, subst, sym}
use Rattle.std.proofs.Math.Seq.{take-add}
use Rattle.std.proofs.KnownBytes.{Appends-trans}
use Rattle.std.specs.Io.KnownBytes.{Appends}
use Rattle.dm_outside.proofs.Turning.{offers-more, offers-stopped}
use Rattle.dm_outside.proofs.transfer.write_all.Goals as goal

-- one more piece at the end of what is written
further : (a b c : Option (List ℕ)) (text rest : List ℕ) (at n : ℕ) → rest ≡ drop at text → Appends a b (take at text) →
    Appends b c (take n rest) → Appends a c (take (at + n) text)
further a b c text rest at n is put more =
    subst (Appends a c) (sym (take-add at n text)) (Appends-trans a b c (take at text) (take n (drop at text)) put (rw (sym is) more))

pub turns-preserved : goal.turns-preserved
turns-preserved g c =
    record {
      within = search arith;
      put = further _ _ _ c.args.text.now _ c.turns.at c.in_ok-at.field-0 c.split_at.ensures.back c.turns.invariant.put c.in_ok-at.ensures.bytes;
      offers = offers-more _ _ _ c.args.text.now _ c.turns.at c.in_ok-at.field-0 c.turns.invariant.offers c.split_at.ensures.back c.in_ok-at.ensures.told;
      later = search arith;
    }

pub returns-in_err-at-clause-part : goal.returns-in_err-at-clause-part
returns-in_err-at-clause-part g c =
    offers-stopped c.from_residual.result _ _ _ _ _ _ c.args.text.now _ c.turns.at (search arith) c.turns.invariant.put c.in_err-at.ensures.bytes c.turns.invariant.offers c.split_at.ensures.back c.in_err-at.ensures.told
