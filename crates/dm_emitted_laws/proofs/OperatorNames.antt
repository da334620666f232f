-- The words of emitted code that don't come from the declaration are names, or words of paths: those of each operator, and those of the
-- fixed paths.
use Rattle.std.proofs.Common.{◌≡◌, true, false, ◌&&◌, cond, List, [], ◌∷◌, Bool, Some, codes, IsTrue, refl, subst}
use Rattle.std.specs.List.{list_all}
use Rattle.std.specs.Str.{bytes_eq}
use Rattle.std.proofs.lemmas.Bool.{and_parts}
use Rattle.dm_ast.specs.Keywords.{is_name, is_keyword}
use Rattle.dm_ast.specs.TypeGrammar.{is_path_word}
use Rattle.dm_output.specs.Values.{Text}
use Rattle.dm_output.specs.Calls.{core}
use Rattle.dm_generics.specs.Words.{word}
use Rattle.dm_head_laws.specs.Parts.{Each}
use Rattle.dm_reread.specs.Grammar.{IsName}
use Rattle.dm_operators.specs.Operators.{Operator, operators, named_in, operator_named}
use Rattle.dm_emitted_laws.specs.Parts.{OperatorNamed}

-- what a test finds of all of them holds of each
each_tested : {A : Type 0} (test : A → Bool) (xs : List A) → list_all test xs ≡ true → Each (λ x. IsTrue (test x)) xs
each_tested test [] e = tt
each_tested test (x ∷ xs) e = let parts = and_parts (test x) (list_all test xs) e in (parts.0, each_tested test xs parts.1)

-- ---- operators

-- what holds of each operator of a table holds of the one that is found there
found_in : (P : Operator → Type 0) (os : List Operator) (name : Text) (o : Operator) → Each P os → named_in os name ≡ Some o → P o
found_in P [] name o h e = absurd (cc)
found_in P (p ∷ os) name o h e =
    (elim (bytes_eq name p.trait_name) as (λ b. cond b (Some p) (named_in os name) ≡ Some o → P o) [
      | true ↦ λ k. let same : p ≡ o = cc in subst P same h.0
      | false ↦ λ k. found_in P os name o h.1 k
    ]) e

abbrev has_names : Operator → Bool
has_names o = is_path_word (word o.trait_name) && is_name (word o.method)

all_named : list_all has_names operators ≡ true
unfolding is_keyword
all_named = refl

pub operator_names : (name : Text) (o : Operator) → operator_named name ≡ Some o → OperatorNamed o
operator_names name o e =
    let parts =
    and_parts (is_path_word (word o.trait_name)) (is_name (word o.method))
    (found_in (λ p. IsTrue (has_names p)) operators name o (each_tested has_names operators all_named) e) in
    record { trait_named = parts.0; method_named = parts.1 }

-- ---- the words of paths

abbrev pub ArePathWords : List Text → Type 0
ArePathWords xs = Each (λ x. IsTrue (is_path_word (word x))) xs

-- functions of core

-- traits of core

-- in front of an operator's trait, and of `Result`, which may have arguments

pub ops_words : ArePathWords (core (codes "ops" ∷ []))
unfolding is_keyword
ops_words = (refl, (refl, (refl, tt)))

pub result_words : ArePathWords (core (codes "result" ∷ []))
unfolding is_keyword
result_words = (refl, (refl, (refl, tt)))

-- errors of derive_more, what makes them, and the kinds of that of two values

-- what stands alone, or behind `Self`

-- ---- names

pub eq_named : IsName (word (codes "eq"))
unfolding is_keyword
eq_named = refl

pub ne_named : IsName (word (codes "ne"))
unfolding is_keyword
ne_named = refl
