-- What a method takes and gives, as the program holds it.
use Rattle.std.specs.Prelude.{option_map}
use Rattle.dm_stream.specs.declared.tokens.Ident.{Ident}
use Rattle.dm_ast.specs.Tree.{ty_view}
use Rattle.dm_output.specs.Views.{method_param_view}
use Rattle.dm_reread.specs.Items as plain
use Rattle.dm_read_heads.specs.declared.signature.Inputs.{Inputs}
use Rattle.dm_read_heads.specs.declared.signature.Signature.{Signature}
use Rattle.dm_read_heads.specs.Members as spec

abbrev pub inputs_view : Inputs → plain.Inputs
inputs_view i = (i.receiver, option_map method_param_view i.param)

abbrev pub signature_view : Signature → spec.Signature
signature_view s = (inputs_view s.inputs, option_map ty_view s.output)

abbrev pub named_view : Ident × Signature → Ident × spec.Signature
named_view v = (v.0, signature_view v.1)
