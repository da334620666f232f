-- The tokens of the fields of an operand's pattern, which stand behind its path.
use Rattle.std.specs.Prelude.{ℕ, List}
use Rattle.dm_stream.specs.declared.tokens.Delim.TheVariants.{Paren, Brace}
use Rattle.dm_stream.specs.Trees.{Trees, no_trees, join}
use Rattle.dm_ast.specs.TypeTokens.{given}
use Rattle.dm_output.specs.Output.{patterns_of, named_of}
use Rattle.dm_output.specs.Tokens.{enclosed, ended, each_pattern, each_named, joint}
use Rattle.dm_output.specs.Values.{Text}
use Rattle.dm_operands.specs.declared.cases.Form.{Form}
use Rattle.dm_operands.specs.declared.cases.Form.TheVariants as forms
use Rattle.dm_operands.specs.Marked.{MarkedField}
use Rattle.dm_operands.specs.Sides.{bindings, named_bindings, some_left_out}

abbrev pub fields_trees : (ℕ → Text) → Form → List MarkedField → Trees
fields_trees naming forms.Named fs =
    enclosed Brace (join (ended (each_named (named_of (named_bindings naming 0 fs)))) (given (some_left_out fs) (joint 46 46)))
fields_trees naming forms.Unnamed fs = enclosed Paren (ended (each_pattern (patterns_of (bindings naming 0 fs))))
fields_trees naming forms.Unit fs = no_trees
