-- What holds of each operator of the table.
use Rattle.std.proofs.Common.{◌≡◌, List, [], ◌∷◌, Bool, true, false, not, cond, ◌&&◌, Option, Some, None, refl, sym, ap, ◌∙◌}
use Rattle.std.specs.Str.{bytes_eq, chars}
use Rattle.std.proofs.Math.Utf8.{encode}
use Rattle.std.proofs.lemmas.Slice.Eq.{bytes_eq-Decides}
use Rattle.dm_stream.specs.declared.tokens.LitKind.TheVariants.{Str}
use Rattle.dm_lexer.specs.Values.{str_value}
use Rattle.dm_output.specs.Values.{Text}
use Rattle.dm_output.specs.Calls.{assigning_methods, is_among, known, unknown, assigning, by_trait}
use Rattle.dm_operators.specs.Operators.{Form, structural, scalar, unary, Operator, operators, named_in, IsOperator, method_names}
use Rattle.dm_operators.specs.Bodies.{quoted}

abbrev all_pass : (Operator → Bool) → List Operator → Bool
all_pass test [] = true
all_pass test (o ∷ os) = test o && all_pass test os

both-true : (a b : Bool) → (a && b) ≡ true → (a ≡ true) × (b ≡ true)
both-true true b h = (refl, h)
both-true false b h = absurd cc

named-passes : (test : Operator → Bool) (os : List Operator) (name : Text) (o : Operator) → all_pass test os ≡ true →
    named_in os name ≡ Some o → test o ≡ true
named-passes test [] name o all h = absurd cc
named-passes test (p ∷ os) name o all h =
    let parts = both-true (test p) (all_pass test os) all in
    (elim (bytes_eq name p.trait_name) as (λ b. cond b (Some p) (named_in os name) ≡ Some o → test o ≡ true) [
      | true ↦ λ e. let same : p ≡ o = cc in ap test (sym same) ∙ parts.0
      | false ↦ λ e. named-passes test os name o parts.1 e
    ]) h

-- ---- the method's name

abbrev is_text : Option Text → Text → Bool
is_text None t = false
is_text (Some a) t = bytes_eq a t

is-text : (o : Option Text) (t : Text) → is_text o t ≡ true → o ≡ Some t
is-text None t h = absurd cc
is-text (Some a) t h = ap (λ (x : Text). Some x) ((bytes_eq-Decides a t).0 h)

abbrev means_method : Operator → Bool
means_method o = is_text (str_value Str (quoted o.method).text) o.method

all-mean : all_pass means_method operators ≡ true
unfolding chars encode
all-mean = refl

-- a string of it has that name as its value
pub means-method : (o : Operator) → IsOperator o → str_value Str (quoted o.method).text ≡ Some o.method
means-method o is = is-text _ o.method (named-passes means_method operators is.name o all-mean is.found)

-- ---- which methods assign

abbrev same_truth : Bool → Bool → Bool
same_truth true b = b
same_truth false b = not b

same-truth : (a b : Bool) → same_truth a b ≡ true → a ≡ b
same-truth true b h = sym h
same-truth false true h = absurd cc
same-truth false false h = refl

abbrev is_marked : Operator → Bool
is_marked o = same_truth (is_among assigning_methods o.trait_name o.method) o.assigning

all-marked : all_pass is_marked operators ≡ true
all-marked = refl

marked : (o : Operator) → IsOperator o → is_among assigning_methods o.trait_name o.method ≡ o.assigning
marked o is = same-truth _ o.assigning (named-passes is_marked operators is.name o all-marked is.found)

pub known-value : (o : Operator) → IsOperator o → o.assigning ≡ false → known (method_names o) ≡ unknown
known-value o is e = ap (λ (b : Bool). by_trait b None) (marked o is ∙ e)

pub known-assigning : (o : Operator) → IsOperator o → o.assigning ≡ true → known (method_names o) ≡ assigning
known-assigning o is e = ap (λ (b : Bool). by_trait b None) (marked o is ∙ e)

-- ---- no right side

abbrev gives_value : Form → Bool → Bool
gives_value structural b = true
gives_value scalar b = true
gives_value unary b = not b

all-give : all_pass (λ o. gives_value o.form o.assigning) operators ≡ true
all-give = refl

not-assigning : (b : Bool) → gives_value unary b ≡ true → b ≡ false
not-assigning true h = absurd cc
not-assigning false h = refl

-- without a right side nothing is assigned
pub unary-value : (o : Operator) → IsOperator o → o.form ≡ unary → o.assigning ≡ false
unary-value o is e =
    not-assigning o.assigning (ap (λ (f : Form). gives_value f o.assigning) (sym e) ∙
    named-passes (λ p. gives_value p.form p.assigning) operators is.name o all-give is.found)
