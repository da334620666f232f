use Rattle.std.proofs.Common.{Bool, if◌then◌else◌, None, ap, sym, ◌∙◌}
use Rattle.std.specs.Prelude.{option_copied}
use Rattle.dm_copy.proofs.types.standing.Goals as goal

pub returns-then-is_self : goal.returns-then-is_self
returns-then-is_self c =
    sym (ap (λ (b : Bool). if b then option_copied c.args.own else None) (sym c.is_self.ensures ∙ c.if-is_self.true))

pub returns-else-is_self : goal.returns-else-is_self
returns-else-is_self c =
    sym (ap (λ (b : Bool). if b then option_copied c.args.own else None) (sym c.is_self.ensures ∙ c.if-is_self.false))
