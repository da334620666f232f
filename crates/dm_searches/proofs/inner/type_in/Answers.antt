use Rattle.std.proofs.Common.{refl}
use Rattle.dm_ast.specs.Tree.{argument_view}
use Rattle.dm_ast.proofs.View.{view_GenericArgument-Lifetime, view_GenericArgument-Ty, view_GenericArgument-Const, view_GenericArgument-AssocTy, view_GenericArgument-AssocConst, view_GenericArgument-Constraint}
use Rattle.dm_searches.specs.Inner.{type_in}
use Rattle.dm_searches.proofs.Steps.{shown}
use Rattle.dm_searches.proofs.inner.type_in.Goals as goal

pub returns-in-Lifetime : goal.returns-in-Lifetime
returns-in-Lifetime c = shown (λ z. type_in z) argument_view c.in-Lifetime.is (view_GenericArgument-Lifetime _) refl

pub returns-in-Ty : goal.returns-in-Ty
returns-in-Ty c = shown (λ z. type_in z) argument_view c.in-Ty.is (view_GenericArgument-Ty _) refl

pub returns-in-Const : goal.returns-in-Const
returns-in-Const c = shown (λ z. type_in z) argument_view c.in-Const.is (view_GenericArgument-Const _) refl

pub returns-in-AssocTy : goal.returns-in-AssocTy
returns-in-AssocTy c = shown (λ z. type_in z) argument_view c.in-AssocTy.is (view_GenericArgument-AssocTy _ _ _) refl

pub returns-in-AssocConst : goal.returns-in-AssocConst
returns-in-AssocConst c = shown (λ z. type_in z) argument_view c.in-AssocConst.is (view_GenericArgument-AssocConst _ _ _) refl

pub returns-in-Constraint : goal.returns-in-Constraint
returns-in-Constraint c = shown (λ z. type_in z) argument_view c.in-Constraint.is (view_GenericArgument-Constraint _ _ _) refl
