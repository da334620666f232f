-- Parts of function types, as plain data.
use Rattle.std.specs.Prelude.{Bool, Option, option_map}
use Rattle.dm_stream.specs.declared.seq.Punctuated.{Punctuated}
use Rattle.dm_stream.specs.declared.tokens.Literal.{Literal}
use Rattle.dm_ast.specs.declared.ty.FnArg.{FnArg}
use Rattle.dm_ast.specs.declared.ty.Ty.{Ty}
use Rattle.dm_ast.specs.Tree.{Lifetimes, InputTrees, MaybeType, ty_view, input_view, maybe_type}
use Rattle.dm_read.specs.Stops.{list_view}
use Rattle.dm_read_paths.specs.TypeReaders.{inputs_pair}

-- parameters and what follows `->`
abbrev pub Signature : Type 0
Signature = Punctuated FnArg × Option Ty

abbrev pub SignatureTree : Type 0
SignatureTree = (InputTrees × Bool) × MaybeType

abbrev pub signature_view : Signature → SignatureTree
signature_view v = (inputs_pair (list_view input_view v.0), maybe_type (option_map ty_view v.1))

-- with what follows `extern`
abbrev pub abi_view : Option (Option Literal) × Signature → Option (Option Literal) × SignatureTree
abi_view v = (v.0, signature_view v.1)

-- and whether it is unsafe
abbrev pub unsafe_view : Bool × (Option (Option Literal) × Signature) → Bool × (Option (Option Literal) × SignatureTree)
unsafe_view v = (v.0, abi_view v.1)

-- and its lifetimes
abbrev pub function_view : Lifetimes × (Bool × (Option (Option Literal) × Signature)) → Lifetimes × (Bool × (Option (Option Literal) × SignatureTree))
function_view v = (v.0, unsafe_view v.1)
