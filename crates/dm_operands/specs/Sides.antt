-- The patterns of operands of one case, and the arms that have them: whichever fields are left out, whatever the others are called, and
-- whatever the arms give.
use Rattle.std.specs.Prelude.{ℕ, ◌+◌, List, [], ◌∷◌, Bool, false, cond, ◌||◌, Option, Some, None, codes}
use Rattle.dm_stream.specs.declared.tokens.Ident.{Ident}
use Rattle.dm_ast.specs.Tree.{PathTree}
use Rattle.dm_ast.specs.Declarations.{Declaration}
use Rattle.dm_ast.specs.Implementors.{plain_path}
use Rattle.dm_output.specs.declared.pattern.Binding.TheVariants.{Plain}
use Rattle.dm_output.specs.Output.{PatternTree, wild, bind, path_pattern, tuple_pattern, named_pattern, pair_pattern, patterns_of, named_of, ExprTree, ArmTree, some_expr, no_expr, last_expr, block_body}
use Rattle.dm_output.specs.Values.{Text, is_enum}
use Rattle.dm_operands.specs.declared.cases.Form.{Form}
use Rattle.dm_operands.specs.declared.cases.Form.TheVariants as forms
use Rattle.dm_generics.specs.Words.{word}
use Rattle.dm_operands.specs.Marked.{MarkedField, MarkedCase}

abbrev pub binding : Bool → Text → PatternTree
binding skip x = cond skip wild (bind Plain (word x))

-- the fields between parentheses, from number n on, called so by their numbers
abbrev pub bindings : (ℕ → Text) → ℕ → List MarkedField → List PatternTree
bindings naming n [] = []
bindings naming n (f ∷ fs) = binding f.left_out (naming n) ∷ bindings naming (n + 1) fs

abbrev pub field_ident : Option Ident → Ident
field_ident None = word []
field_ident (Some i) = i

-- the fields between braces
abbrev pub named_bindings : (ℕ → Text) → ℕ → List MarkedField → List (Ident × PatternTree)
named_bindings naming n [] = []
named_bindings naming n (f ∷ fs) =
    cond f.left_out (named_bindings naming (n + 1) fs) ((field_ident f.field.ident, bind Plain (word (naming n))) ∷ named_bindings naming (n + 1) fs)

abbrev pub some_left_out : List MarkedField → Bool
some_left_out [] = false
some_left_out (f ∷ fs) = f.left_out || some_left_out fs

-- `Self`, or `Self::V`
abbrev pub case_path : Declaration → Ident → PathTree
case_path d ident = cond (is_enum d) (plain_path (word (codes "Self") ∷ ident ∷ [])) (plain_path (word (codes "Self") ∷ []))

abbrev pub side_pattern : (ℕ → Text) → PathTree → Form → List MarkedField → PatternTree
side_pattern naming p forms.Named fs = named_pattern p (named_of (named_bindings naming 0 fs)) (some_left_out fs)
side_pattern naming p forms.Unnamed fs = tuple_pattern p (patterns_of (bindings naming 0 fs))
side_pattern naming p forms.Unit fs = path_pattern p

-- an operand of this case
abbrev pub side : (ℕ → Text) → Declaration → MarkedCase → PatternTree
side naming d c = side_pattern naming (case_path d c.ident) c.form c.fields

-- ---- arms

-- the arms for two operands of one case: what the fields of each are called, which cases have an arm, and what it gives
pub record PairArms : Type 0 where
  pub left : ℕ → Text
  pub right : ℕ → Text
  pub has : MarkedCase → Bool
  pub gives : MarkedCase → ExprTree

abbrev pub block_arm : PatternTree → ExprTree → ArmTree
block_arm p e = record { patterns = patterns_of (p ∷ []); guard = no_expr; body = block_body (last_expr (some_expr e)) }

abbrev pub pair_arm : PairArms → Declaration → MarkedCase → ArmTree
pair_arm a d c = block_arm (pair_pattern (side a.left d c) (side a.right d c)) (a.gives c)

-- an arm for each case that has one, in front of others
abbrev pub pair_arms : PairArms → Declaration → List MarkedCase → List ArmTree → List ArmTree
pair_arms a d [] more = more
pair_arms a d (c ∷ cs) more = cond (a.has c) (pair_arm a d c ∷ pair_arms a d cs more) (pair_arms a d cs more)
