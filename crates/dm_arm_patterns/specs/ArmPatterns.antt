-- The patterns of arms whose fields are bound by a prefix and their number.
use Rattle.std.specs.Prelude.{ℕ, ◌+◌, List, [], ◌∷◌, ◌++◌, Bool, true, false, cond, nat_eq}
use Rattle.std.specs.Fmt.{decimal}
use Rattle.std.specs.List.{list_any}
use Rattle.dm_stream.specs.declared.tokens.Ident.{Ident}
use Rattle.dm_ast.specs.Tree.{PathTree}
use Rattle.dm_ast.specs.Declarations.{FieldTree, FieldsTree, named, unnamed, unit}
use Rattle.dm_output.specs.Output.{PatternTree, bind, path_pattern, tuple_pattern, named_pattern, patterns_of, named_of}
use Rattle.dm_output.specs.Values.{Text}
use Rattle.dm_output.specs.declared.pattern.Binding.TheVariants.{Plain}
use Rattle.dm_generics.specs.Words.{word}
use Rattle.dm_operands.specs.Sides.{binding, field_ident}

abbrev pub numbered : Text → ℕ → Text
numbered prefix n = prefix ++ decimal n

abbrev pub is_skipped : List ℕ → ℕ → Bool
is_skipped skipped n = list_any (nat_eq n) skipped

-- the fields between parentheses, from number n on
abbrev pub bindings : Text → List ℕ → ℕ → List FieldTree → List PatternTree
bindings prefix skipped n [] = []
bindings prefix skipped n (f ∷ fs) = binding (is_skipped skipped n) (numbered prefix n) ∷ bindings prefix skipped (n + 1) fs

-- the fields between braces
abbrev pub named_bindings : Text → List ℕ → ℕ → List FieldTree → List (Ident × PatternTree)
named_bindings prefix skipped n [] = []
named_bindings prefix skipped n (f ∷ fs) =
    cond (is_skipped skipped n) (named_bindings prefix skipped (n + 1) fs)
    ((field_ident f.ident, bind Plain (word (numbered prefix n))) ∷ named_bindings prefix skipped (n + 1) fs)

abbrev pub is_some : List ℕ → Bool
is_some [] = false
is_some (n ∷ ns) = true

abbrev pub arm_pattern : Text → List ℕ → PathTree → FieldsTree → PatternTree
arm_pattern prefix skipped path (named fs) = named_pattern path (named_of (named_bindings prefix skipped 0 fs.items)) (is_some skipped)
arm_pattern prefix skipped path (unnamed fs) = tuple_pattern path (patterns_of (bindings prefix skipped 0 fs.items))
arm_pattern prefix skipped path unit = path_pattern path
