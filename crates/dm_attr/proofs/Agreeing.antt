-- Attributes that may leave out are refused nowhere exactly where what they say isn't bad.
use Rattle.std.proofs.Common.{◌≡◌, ◌≢◌, Bool, true, false, cond, Option, Some, None, refl}
use Rattle.std.specs.Prelude.{◌↔◌}
use Rattle.dm_stream.specs.declared.error.Refusal.{Refusal}
use Rattle.dm_attr.specs.Skips.{Skipping, yes, bad}

-- there is no refusal exactly where it isn't bad
abbrev pub Agree : Option Refusal → Skipping → Type 0
Agree o s = (o ≡ None) ↔ (s ≢ bad)

pub agree_none : (s : Skipping) → s ≢ bad → Agree None s
agree_none s h = (λ _. h, λ _. refl)

pub agree_some : (r : Refusal) → Agree (Some r) bad
agree_some r = (λ e. absurd cc, λ f. absurd (f refl))

pub agree_one : (v : Bool) (r : Refusal) → Agree (cond v None (Some r)) (cond v yes bad)
agree_one true r = agree_none yes (λ e. cc)
agree_one false r = agree_some r

pub agree_two : (v : Bool) (r s : Refusal) → Agree (cond v (Some s) (Some r)) bad
agree_two true r s = agree_some s
agree_two false r s = agree_some r
