-- The rows of methods.
use Rattle.std.proofs.Common.{◌≡◌, ℕ, Bool, true, false, Some, None, refl}
use Rattle.std.proofs.lemmas.Grind.{common_steps}
use Rattle.dm_stream.specs.declared.tokens.Delim.TheVariants.{Brace}
use Rattle.dm_stream.specs.Trees.{Trees}
use Rattle.dm_ast.specs.Spelling.{at_end}
use Rattle.dm_output.specs.Output.{MethodTree}
use Rattle.dm_reread.specs.Next.{k_const, k_fn, Next, in_braces, a_word}
use Rattle.dm_reread.specs.Reading.{then}
use Rattle.dm_reread.specs.Items.{body_after, read_method}
use Rattle.dm_reread.specs.ReadBack.{leaves}
use Rattle.dm_read_places.specs.declared.front.Keyword.TheVariants as keyword
use Rattle.dm_read_places.specs.declared.list.Turn.{Turn}
use Rattle.dm_read_places.specs.declared.list.Turn.TheVariants.{One, End}
use Rattle.dm_read_places.specs.Fronts.{is_keyword, is_group_next}
use Rattle.dm_read_places.proofs.ToEnd.{turn_ends, turn_goes_on}
use Rattle.dm_read_members.specs.Rows.{fn_at, const_fn, method_turn}
use Rattle.dm_read_members.proofs.MethodLists.{method_is, methods_are}

pub no_body : (m : Next) → is_group_next Brace m ≡ false → body_after leaves m ≡ None
no_body (in_braces inside ts) e = absurd (cc)
no_body _ e = refl

pub no_const : (m : Next) → is_keyword keyword.Const m ≡ false → const_fn m ≡ fn_at false m
no_const (a_word k_const ts) e = absurd (cc)
no_const _ e = refl

pub no_fn : (b : Bool) (m : Next) → is_keyword keyword.Fn m ≡ false → fn_at b m ≡ None
no_fn b (a_word k_fn ts) e = absurd (cc)
no_fn b _ e = refl

pub methods_end : (n : ℕ) (ts : Trees) → at_end ts ≡ true → method_turn n ts ≡ Some (End tt, ts)
methods_end n = turn_ends (read_method leaves)

pub methods_more : (n : ℕ) (ts : Trees) → at_end ts ≡ false →
    method_turn n ts ≡ then {A = MethodTree × Trees} {B = Turn MethodTree (Unit {0}) × Trees} (read_method leaves ts) (λ a. Some (One a.0, a.1))
methods_more n = turn_goes_on (read_method leaves)

pub ruleset method_steps = (common_steps, no_body, no_const, no_fn, methods_end, methods_more, method_is, methods_are)
