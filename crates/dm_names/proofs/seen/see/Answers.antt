use Rattle.std.proofs.Common.{◌≡◌, ℕ, List, Bool, true, false, ◌||◌, cond, refl, ◌∙◌, Bor}
use Rattle.std.specs.Str.{bytes_eq}
use Rattle.dm_names.specs.SeenNames.{was_seen}
use Rattle.dm_names.proofs.seen.see.Goals as goal

either : (b c : Bool) → cond b true c ≡ (b || c)
either true c = refl
either false c = refl

pub returns-in-Ok-clause-after : goal.returns-in-Ok-clause-after
returns-in-Ok-clause-after c = λ q.
    let word : Bor (List ℕ) = record { ref_ptr = (0, 0); now = q } in
    c.in-Ok.ensures.updates.0 word ∙ either (bytes_eq c.args.name.now q) (was_seen c.args.seen.now q)
