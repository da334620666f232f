-- Some of the parameters of a declaration.
use Rattle.std.specs.Prelude.{Bool, true, false}
use Rattle.dm_ast.specs.Declarations.{ParamTree, lifetime_param, type_param, const_param}
use Rattle.dm_ast.specs.Implementors.{is_lifetime, is_other}
use Rattle.dm_generics.specs.declared.parameters.Chosen.{Chosen}
use Rattle.dm_generics.specs.declared.parameters.Chosen.TheVariants.{Lifetimes, Others, Types, Consts}

abbrev pub is_type : ParamTree → Bool
is_type (lifetime_param attrs l bounds) = false
is_type (type_param attrs i bounds default) = true
is_type (const_param attrs i t default) = false

abbrev pub is_const : ParamTree → Bool
is_const (lifetime_param attrs l bounds) = false
is_const (type_param attrs i bounds default) = false
is_const (const_param attrs i t default) = true

abbrev pub chosen : Chosen → ParamTree → Bool
chosen Lifetimes = is_lifetime
chosen Others = is_other
chosen Types = is_type
chosen Consts = is_const
