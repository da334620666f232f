-- The arguments of the declared type, as they are gathered.
use Rattle.std.proofs.Common.{◌≡◌, Bool, true, false, cond, List, [], ◌∷◌, ◌++◌, map, filter, refl, sym, ap, ap₂, ◌∙◌, append_assoc}
use Rattle.std.proofs.lemmas.Grind.{common_steps}
use Rattle.std.proofs.lemmas.List.{map-append}
use Rattle.dm_stream.specs.declared.tokens.Ident.{Ident}
use Rattle.dm_ast.specs.Tree.{ArgumentTree, segment}
use Rattle.dm_ast.specs.Declarations.{ParamTree, Declaration}
use Rattle.dm_ast.specs.Implementors.{is_lifetime, is_other, bare, argument, arguments, params_of}
use Rattle.dm_copy.specs.Segments.{bracketed}
use Rattle.dm_replace.specs.Arguments.{arguments_where}
use Rattle.dm_replace.specs.Replaced.{declared_segment}

pub arguments_by : (ps : List ParamTree) → arguments ps ≡ bracketed (map argument ps)
arguments_by [] = refl
arguments_by (p ∷ ps) = refl

-- the segment of a declaration, by the arguments as they are gathered
pub segment_made : (d : Declaration) (i : Ident) (gs : List ArgumentTree) → i ≡ d.ident →
    gs ≡ arguments_where is_lifetime d.generics.params.items ++ arguments_where is_other d.generics.params.items →
    segment i (bracketed gs) ≡ declared_segment d
segment_made d i gs ident gathered =
    let ps = d.generics.params.items in
    ap₂ (λ x y. segment x (bracketed y)) ident (gathered ∙ sym (map-append argument (map bare (filter is_lifetime ps)) (map bare (filter is_other ps)))) ∙
    ap (λ z. segment d.ident z) (sym (arguments_by (params_of d)))

-- an argument that is added where a parameter passes the test stands before the rest
pub argument_joined : (k : ParamTree → Bool) (front : List ArgumentTree) (p : ParamTree) (ps : List ParamTree) →
    (front ++ arguments_where k (p ∷ [])) ++ arguments_where k ps ≡ front ++ arguments_where k (p ∷ ps)
argument_joined k front p ps = by (k p)
  where
    by : (b : Bool) →
        (front ++ map argument (map bare (cond b (p ∷ []) []))) ++ map argument (map bare (filter k ps)) ≡
        front ++ map argument (map bare (cond b (p ∷ filter k ps) (filter k ps)))
    by true = simp append_assoc
    by false = simp append_assoc

pub ruleset declared_steps = (common_steps, argument_joined, segment_made)
