-- Steps that the builders of parameters and arguments take.
use Rattle.std.proofs.Common.{◌≡◌, ◌==◌, List, [], ◌∷◌, ◌++◌, map, length, Bool, true, false, cond, append_assoc, ap, ◌∙◌}
use Rattle.dm_ast.specs.declared.ty.GenericArgument.{GenericArgument}
use Rattle.dm_ast.specs.declared.ty.PathArguments.TheVariants as a
use Rattle.dm_ast.specs.declared.decl.GenericParam.{GenericParam}
use Rattle.dm_ast.specs.Tree.{angle, arguments_of, arguments_view, argument_view}
use Rattle.dm_ast.specs.Declarations.{ParamTree, param_view}
use Rattle.dm_ast.specs.Implementors.{bare, argument, arguments}
use Rattle.dm_ast.proofs.View.{view_PathArguments-Angle}
use Rattle.dm_generics.proofs.Builders.{builder_steps}

-- a parameter that is added where it is wanted stands before the rest
pub param_joined : (front rest : List ParamTree) (b : Bool) (p : ParamTree) →
    (front ++ cond b (bare p ∷ []) []) ++ map bare rest ≡ front ++ map bare (cond b (p ∷ rest) rest)
param_joined front rest true p = simp append_assoc
param_joined front rest false p = simp append_assoc

pub copy_joined : (front rest : List ParamTree) (b : Bool) (p : ParamTree) →
    (front ++ cond b (p ∷ []) []) ++ rest ≡ front ++ cond b (p ∷ rest) rest
copy_joined front rest true p = simp append_assoc
copy_joined front rest false p = simp append_assoc

-- the arguments of some parameters stand between `<` and `>`
pub some_arguments : (ps : List GenericParam) (gs : List GenericArgument) → (length ps == 0) ≡ false →
    map argument_view gs ≡ map argument (map param_view ps) →
    arguments_view (a.Angle false (record { items = gs; trailing = false })) ≡ arguments (map param_view ps)
some_arguments [] gs some items = absurd cc
some_arguments (p ∷ ps) gs some items =
    view_PathArguments-Angle false (record { items = gs; trailing = false }) ∙ ap (λ x. angle false (arguments_of x) false) items

pub ruleset parameter_steps = (builder_steps, param_joined, copy_joined)
