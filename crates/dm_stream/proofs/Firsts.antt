-- What a list of trees begins with, by its first token.
use Rattle.std.specs.Prelude.{◌≡◌, Option, Some, None, refl}
use Rattle.std.proofs.Common.{ap}
use Rattle.std.proofs.lemmas.Grind.{common_steps}
use Rattle.dm_stream.specs.declared.tokens.Token.{Token}
use Rattle.dm_stream.specs.Trees.{Trees, no_trees, token, group}
use Rattle.dm_stream.specs.Cursors.{ident_of, lifetime_of, punct_of, literal_of, then_left, first_token, first_ident, first_lifetime, first_punct, first_literal}

same_first : {A : Type 0} (of : Token → Option A) (j k : Token) (r us : Trees) → ◌≡◌ {A = Token × Trees} (j, r) (k, us) →
    then_left (of j) r ≡ then_left (of k) us
same_first of j k r us q = ap (λ p. then_left (of p.0) p.1) q

pub ident-by : (ts us : Trees) (k : Token) → first_token ts ≡ Some (k, us) → first_ident ts ≡ then_left (ident_of k) us
ident-by (token j rest) us k h = same_first ident_of j k rest us (cc)
ident-by no_trees us k h = absurd (cc)
ident-by (group d from inside upto rest) us k h = absurd (cc)

pub no-ident : (ts : Trees) → first_token ts ≡ None → first_ident ts ≡ None
no-ident (token j rest) h = absurd (cc)
no-ident no_trees h = refl
no-ident (group d from inside upto rest) h = refl

pub ruleset ident_steps = (common_steps, ident-by, no-ident)

pub lifetime-by : (ts us : Trees) (k : Token) → first_token ts ≡ Some (k, us) → first_lifetime ts ≡ then_left (lifetime_of k) us
lifetime-by (token j rest) us k h = same_first lifetime_of j k rest us (cc)
lifetime-by no_trees us k h = absurd (cc)
lifetime-by (group d from inside upto rest) us k h = absurd (cc)

pub no-lifetime : (ts : Trees) → first_token ts ≡ None → first_lifetime ts ≡ None
no-lifetime (token j rest) h = absurd (cc)
no-lifetime no_trees h = refl
no-lifetime (group d from inside upto rest) h = refl

pub ruleset lifetime_steps = (common_steps, lifetime-by, no-lifetime)

pub punct-by : (ts us : Trees) (k : Token) → first_token ts ≡ Some (k, us) → first_punct ts ≡ then_left (punct_of k) us
punct-by (token j rest) us k h = same_first punct_of j k rest us (cc)
punct-by no_trees us k h = absurd (cc)
punct-by (group d from inside upto rest) us k h = absurd (cc)

pub no-punct : (ts : Trees) → first_token ts ≡ None → first_punct ts ≡ None
no-punct (token j rest) h = absurd (cc)
no-punct no_trees h = refl
no-punct (group d from inside upto rest) h = refl

pub ruleset punct_steps = (common_steps, punct-by, no-punct)

pub literal-by : (ts us : Trees) (k : Token) → first_token ts ≡ Some (k, us) → first_literal ts ≡ then_left (literal_of k) us
literal-by (token j rest) us k h = same_first literal_of j k rest us (cc)
literal-by no_trees us k h = absurd (cc)
literal-by (group d from inside upto rest) us k h = absurd (cc)

pub no-literal : (ts : Trees) → first_token ts ≡ None → first_literal ts ≡ None
no-literal (token j rest) h = absurd (cc)
no-literal no_trees h = refl
no-literal (group d from inside upto rest) h = refl

pub ruleset literal_steps = (common_steps, literal-by, no-literal)
