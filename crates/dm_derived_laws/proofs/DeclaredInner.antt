-- The type of each declared field is spelled alone between `<` and `>` too, since a field stands in braces or parentheses, one level deeper; and
-- so are the predicates that name it there.
use Rattle.std.proofs.Common.{◌≡◌, ℕ, false, true, Bool, None, List, map, refl, arith}
use Rattle.dm_stream.specs.Trees.{Trees, no_trees}
use Rattle.dm_ast.specs.declared.plain.Attribute.{Attribute}
use Rattle.dm_ast.specs.Tree.{TypeTree}
use Rattle.dm_ast.specs.Declarations.{Declaration}
use Rattle.dm_ast.specs.Spelling.{Where, Marks, first_too_deep}
use Rattle.dm_ast.specs.TypeGrammar.{type_spelled}
use Rattle.dm_ast.specs.DeclarationGrammar.{declaration}
use Rattle.dm_ast.specs.Runs.{run}
use Rattle.dm_ast.specs.Parsed.{SpelledBy}
use Rattle.dm_ast.specs.TypeTokens as spell
use Rattle.dm_output.specs.Values.{cases}
use Rattle.dm_type_eq.proofs.Respelling.{Lower}
use Rattle.dm_type_eq.specs.Unplaced.{unplaced_type}
use Rattle.dm_reread.specs.Bare.{bare_predicate}
use Rattle.dm_operands.specs.Marked.{marked}
use Rattle.dm_bounds.specs.Needed.{wanted_of, Asking, needed_by}
use Rattle.dm_read_laws.proofs.HeadAgain.{again_bare}
use Rattle.dm_head_laws.specs.Parts.{inner, TypeAlone, PredicateAlone, Each}
use Rattle.dm_head_laws.proofs.DeclaredParts.{declared_cases, From, rest_from, inside_of, spelled_alone, cases_hold}
use Rattle.dm_derived_laws.proofs.NeededAlone.{PathAlone, calls_for, FieldAlone, needed_alone, marked_cases, EachField, both_fields}
use Rattle.dm_derived_laws.proofs.WordsAlone.{InnerAlone}

abbrev Known : TypeTree → Type 0
Known x = InnerAlone (unplaced_type x)

type_known : (x : TypeTree) (w : Where) (n : ℕ) (ts : Trees) → From (type_spelled x false (inside_of w n)) ts → Known x
type_known x w n ts s =
    let l : Lower inner (inside_of w n) = record { level = omega arith; limit = refl } in
    spelled_alone (type_spelled (unplaced_type x) false) inner (spell.type_trees (unplaced_type x)) (again_bare l x) ts s tt

pub declared_inner : (d : Declaration) (limit : ℕ) (ts : Trees) (m : Marks) → SpelledBy d limit ts m → first_too_deep m ≡ None →
    EachField (λ x. InnerAlone (unplaced_type x)) d
declared_inner d limit ts m s within =
    let w : Where = record { level = 0; limit = limit } in
    let x : From (declaration run d w) ts = record { others = no_trees; marks = m; spelled = s.spelled; within = within } in
    cases_hold Known type_known d.attrs d.ident d.generics w d.shape _ (rest_from (rest_from x))

-- the predicates that are asked for, where the traits may have the types between `<` and `>`
pub needed_declared_inner : (d : Declaration) (limit : ℕ) (ts : Trees) (m : Marks) → SpelledBy d limit ts m → first_too_deep m ≡ None →
    (a : Asking) (leaves_out : List Attribute → Bool) →
    ((x : TypeTree) → TypeAlone (unplaced_type x) → InnerAlone (unplaced_type x) → PathAlone (a.path x)) →
    EachField (λ x. a.asks (wanted_of d) x ≡ true → calls_for x ≡ false) d →
    Each PredicateAlone (map bare_predicate (needed_by a d (marked leaves_out d)))
needed_declared_inner d limit ts m s within a leaves_out paths plain =
    let inside : EachField (λ x. TypeAlone (unplaced_type x) × InnerAlone (unplaced_type x)) d =
    both_fields (λ x k h. (k.1, h)) d (declared_cases d limit ts m s within) (declared_inner d limit ts m s within) in
    needed_alone a (wanted_of d) (marked leaves_out d)
    (marked_cases (FieldAlone a (wanted_of d)) leaves_out (cases d)
    (both_fields (λ x k h e. (k.0, paths x k.0 k.1, h e)) d inside plain))
