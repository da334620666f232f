use native.Mathlib.Omega.{arith}
use Rattle.dm_ast.proofs.View.{view_TyNode-Paren, view_TyNode-Tuple, view_TyNode-Slice, view_TyNode-Array, view_TyNode-Reference, view_TyNode-Pointer, view_TyNode-BareFn, view_TyNode-TraitObject, view_TyNode-ImplTrait, view_TyNode-Infer, view_TyNode-Never, view_TyNode-Macro, view_TyNode-Path, view-some_self}
use Rattle.dm_same.proofs.same_types.shape_of.Goals as goal

pub returns-in-Paren : goal.returns-in-Paren
returns-in-Paren c = grind (arith, view_TyNode-Paren)

pub returns-in-Tuple : goal.returns-in-Tuple
returns-in-Tuple c = grind (arith, view_TyNode-Tuple)

pub returns-in-Slice : goal.returns-in-Slice
returns-in-Slice c = grind (arith, view_TyNode-Slice)

pub returns-in-Array : goal.returns-in-Array
returns-in-Array c = grind (arith, view_TyNode-Array)

pub returns-in-Reference : goal.returns-in-Reference
returns-in-Reference c = grind (arith, view_TyNode-Reference)

pub returns-in-Pointer : goal.returns-in-Pointer
returns-in-Pointer c = grind (arith, view_TyNode-Pointer)

pub returns-in-BareFn : goal.returns-in-BareFn
returns-in-BareFn c = grind (arith, view_TyNode-BareFn)

pub returns-in-TraitObject : goal.returns-in-TraitObject
returns-in-TraitObject c = grind (arith, view_TyNode-TraitObject)

pub returns-in-ImplTrait : goal.returns-in-ImplTrait
returns-in-ImplTrait c = grind (arith, view_TyNode-ImplTrait)

pub returns-in-Infer : goal.returns-in-Infer
returns-in-Infer c = grind (arith, view_TyNode-Infer)

pub returns-in-Never : goal.returns-in-Never
returns-in-Never c = grind (arith, view_TyNode-Never)

pub returns-in-None : goal.returns-in-None
returns-in-None c = grind (arith, view_TyNode-Path)

pub returns-in-Some : goal.returns-in-Some
returns-in-Some c = grind (arith, view_TyNode-Path, view-some_self)

pub returns-in-Macro : goal.returns-in-Macro
returns-in-Macro c = grind (arith, view_TyNode-Macro)
