-- Function types and their parameters: what their readers decide.
use Rattle.std.proofs.Common.{◌≡◌, Bool, true, false, List, [], ◌∷◌, codes, Option, Some, None, IsTrue, refl, sym, ap, ◌∙◌, arith}
use Rattle.dm_stream.specs.declared.tokens.Delim.TheVariants.{Paren}
use Rattle.dm_stream.specs.declared.tokens.Ident.{Ident}
use Rattle.dm_stream.specs.declared.tokens.Literal.{Literal}
use Rattle.dm_stream.specs.Trees.{Trees}
use Rattle.dm_ast.specs.declared.plain.Attribute.{Attribute}
use Rattle.dm_read_paths.specs.declared.kind.NodeKind.TheVariants as kind
use Rattle.dm_read_paths.specs.declared.kind.Mode.{Mode}
use Rattle.dm_read_paths.specs.declared.kind.Mode.TheVariants.{Whole, Single}
use Rattle.dm_ast.specs.Spelling.{Where, deeper, Marks, Spelling, ◌then◌, Provided, Facing, GroupAt, at_end, sees_word, sees_literal, sees_colon, ident, literal, keyword, colon, flag, perhaps, items}
use Rattle.dm_ast.specs.TypeGrammar.{type_spelled, sees_macro, sees_named, is_input_name, attributes, for_lifetimes, input_spelled, inputs, output}
use Rattle.dm_ast.specs.Tree.{Lifetimes, TypeTree, TypeNode, bare_fn, path, no_self, some_self, fn_tree, InputTree, input, InputTrees, MaybeType}
use Rattle.dm_ast.specs.Readers.{Parser, mapped, ◌and◌, ◌next◌, ◌till◌, read_flag, read_perhaps, read_ident, read_literal, read_word, read_colon, read_group, inside_at, read_list}
use Rattle.dm_ast.specs.PlainReaders.{read_attributes, read_for}
use Rattle.dm_read_paths.specs.TypeReaders.{node_kind, inputs_pair, some_name, no_name, read_named_type, input_of, read_input, read_inputs, read_abi, read_output, read_signature, function_of, read_function}
use Rattle.dm_read.proofs.Deciding.{Decides, Reader, Image, Both, pair, decides_by, decides_test, reads_and, reads_next, reads_till, reads_flag, reads_perhaps}
use Rattle.dm_read.proofs.Tokens.{reads_ident, reads_literal, literal_seen, reads_word, word_seen, both_true}
use Rattle.dm_read.proofs.Groups.{reads_lone, lone_seen, reads_group}
use Rattle.dm_read_paths.proofs.Listing.{reads_list}
use Rattle.dm_read_paths.proofs.PlainParts.{reads_by, reads_attributes, reads_for}
use Rattle.dm_read_paths.proofs.NodeKinds.{kind_of}
use Rattle.dm_read_paths.proofs.Sequences.{then_right, then_left}
use Rattle.dm_read_paths.proofs.TypeLists.{input_list, inputs_again, inputs_to, inputs_back}
use Rattle.dm_read_paths.proofs.TypeEnds.{type_goes_on}
use Rattle.dm_read_paths.proofs.TypeRules.{ReadsDeeper, NodeAt, rule_by, reads_output}

-- ---- parameters

abbrev InputName : Where → Ident → Spelling
InputName w i = Provided (IsTrue (is_input_name i)) (ident w i)

-- a type with a name or without
abbrev Named : Where → Option Ident → TypeTree → Spelling
Named w None t = Facing (λ ts. sees_named ts ≡ false) (type_spelled t false w)
Named w (Some i) t = InputName w i then (colon w then type_spelled t false w)

abbrev WithName : Where → Ident × TypeTree → Spelling
WithName w v = (InputName w v.0 then colon w) then type_spelled v.1 false w

named_seen : (w : Where) (i : Ident) (t : TypeTree) (ts o : Trees) (m : Marks) → Named w (Some i) t ts o m → sees_named ts ≡ true
named_seen w i t ts o m s =
    ap sees_named s.first.part.spelled ∙
    both_true (is_input_name i) (sees_colon s.middle) s.first.fact (lone_seen 58 (58 ∷ []) w s.middle s.rest.middle s.rest.first_marks s.rest.first)

module _ (w : Where) (ts : Trees) where
  name_back : sees_named ts ≡ true → (n : Option Ident) (t : TypeTree) (o : Trees) (m : Marks) → Named w n t ts o m → Image some_name (WithName w) (pair n t) ts o m
  name_back e None t o m s = let f = s.fact in absurd (cc)
  name_back e (Some i) t o m s = record { value = pair i t; is_it = refl; spelled = then_left (InputName w i) (colon w) (type_spelled t false w) ts o m s }

  no_name_back : sees_named ts ≡ false → (n : Option Ident) (t : TypeTree) (o : Trees) (m : Marks) → Named w n t ts o m → Image no_name (λ x. type_spelled x false w) (pair n t) ts o m
  no_name_back e None t o m s = record { value = t; is_it = refl; spelled = s.part }
  no_name_back e (Some i) t o m s = let f = named_seen w i t ts o m s in absurd (cc)

input_to : (w : Where) (as' : List Attribute) (n : Option Ident) (t : TypeTree) (ts o : Trees) (m : Marks) → (attributes w as' then Named w n t) ts o m → input_spelled (input as' n t) w ts o m
input_to w as' None t ts o m s = s
input_to w as' (Some i) t ts o m s = s

input_back : (w : Where) (y : InputTree) (ts o : Trees) (m : Marks) → input_spelled y w ts o m → Image input_of (Both (attributes w) (λ r. Named w r.0 r.1)) y ts o m
input_back w (input as' None t) ts o m s = record { value = pair as' (pair None t); is_it = refl; spelled = s }
input_back w (input as' (Some i) t) ts o m s = record { value = pair as' (pair (Some i) t); is_it = refl; spelled = s }

pub input_goes_on : (x : InputTree) (w : Where) (ts o : Trees) (m : Marks) → input_spelled x w ts o m → at_end ts ≡ false
input_goes_on (input [] None t) w ts o m s = ap at_end s.first.part.spelled ∙ type_goes_on t false w s.middle o s.rest_marks s.rest.part
input_goes_on (input [] (Some i) t) w ts o m s = ap at_end s.first.part.spelled ∙ ap at_end s.rest.first.part.spelled
input_goes_on (input (a ∷ as') None t) w ts o m s = ap at_end s.first.first.part.first.there.spelled
input_goes_on (input (a ∷ as') (Some i) t) w ts o m s = ap at_end s.first.first.part.first.there.spelled

module _ (inner : Mode → Where → Parser TypeTree) where
  reads_named_type : (w : Where) → Reader (λ t. type_spelled t false w) (inner Whole w) → Reader (λ r. Named w r.0 r.1) (read_named_type inner w)
  reads_named_type w h ts =
      decides_test (λ r. Named w r.0 r.1) ts (sees_named ts) (mapped some_name (((read_ident is_input_name w till read_colon w) and inner Whole w) ts)) (mapped no_name (inner Whole w ts))
      (λ e. decides_by some_name (WithName w) (λ r. Named w r.0 r.1) ts
      (λ x o m s. then_right (InputName w x.0) (colon w) (type_spelled x.1 false w) ts o m s) (λ y o m s. name_back w ts e y.0 y.1 o m s)
      (((read_ident is_input_name w till read_colon w) and inner Whole w) ts)
      (reads_and (λ i. InputName w i then colon w) (λ t. type_spelled t false w) (read_ident is_input_name w till read_colon w) (inner Whole w)
      (reads_till (InputName w) (colon w) (read_ident is_input_name w) (read_colon w) (reads_ident is_input_name w) (reads_lone 58 (58 ∷ []) w)) h ts))
      (λ e. decides_by no_name (λ t. type_spelled t false w) (λ r. Named w r.0 r.1) ts
      (λ x o m s. record { fact = e; part = s }) (λ y o m s. no_name_back w ts e y.0 y.1 o m s) (inner Whole w ts) (h ts))

  reads_input : (w : Where) → Reader (λ t. type_spelled t false w) (inner Whole w) → Reader (λ y. input_spelled y w) (read_input inner w)
  reads_input w h =
      reads_by input_of (Both (attributes w) (λ r. Named w r.0 r.1)) (λ y. input_spelled y w) (read_attributes w and read_named_type inner w)
      (λ x ts o m s. input_to w x.0 x.1.0 x.1.1 ts o m s) (input_back w)
      (reads_and (attributes w) (λ r. Named w r.0 r.1) (read_attributes w) (read_named_type inner w) (reads_attributes w) (reads_named_type w h))

  pub reads_inputs : (v : Where) → Reader (λ t. type_spelled t false v) (inner Whole v) → Reader (λ r. inputs r.0 r.1 v) (read_inputs inner v)
  reads_inputs v h =
      reads_by inputs_pair (λ r. items v 44 at_end (λ x. input_spelled x v) r.0 r.1) (λ r. inputs r.0 r.1 v) (read_list v 44 at_end (read_input inner v))
      (λ r ts o m s. inputs_to v r.1 r.0 ts o m s)
      (λ y ts o m s. record { value = pair (input_list y.0) y.1; is_it = sym (ap (λ x. pair x y.1) (inputs_again y.0)); spelled = inputs_back v y.1 y.0 ts o m s })
      (reads_list v 44 at_end (λ x. input_spelled x v) (read_input inner v) (λ x ts o m s. input_goes_on x v ts o m s) (reads_input v h))

-- ---- what stands before the parameters, and the whole

abbrev Abi : Where → Option Literal → Spelling
Abi w called = keyword w (codes "extern") then perhaps sees_literal called (literal w)

abbrev Signature : Where → (InputTrees × Bool) × MaybeType → Spelling
Signature w r = keyword w (codes "fn") then (GroupAt (deeper w) Paren (λ v. inputs r.0.0 r.0.1 v) then output r.1 (deeper w) (deeper w))

abbrev BehindUnsafe : Where → Option (Option Literal) × ((InputTrees × Bool) × MaybeType) → Spelling
BehindUnsafe w r = perhaps (sees_word (codes "extern")) r.0 (Abi w) then Signature w r.1

abbrev BehindFor : Where → Bool × (Option (Option Literal) × ((InputTrees × Bool) × MaybeType)) → Spelling
BehindFor w r = flag (sees_word (codes "unsafe")) r.0 (keyword w (codes "unsafe")) then BehindUnsafe w r.1

abbrev Function : Where → Lifetimes × (Bool × (Option (Option Literal) × ((InputTrees × Bool) × MaybeType))) → Spelling
Function w r = for_lifetimes w r.0 then BehindFor w r.1

reads_abi : (inner : Mode → Where → Parser TypeTree) (w : Where) → Reader (λ a. perhaps (sees_word (codes "extern")) a (Abi w)) (read_abi inner w)
reads_abi inner w =
    reads_perhaps (sees_word (codes "extern")) (Abi w) (read_word (codes "extern") w next read_perhaps sees_literal (read_literal w))
    (λ x ts o m s. word_seen (codes "extern") w ts s.middle s.first_marks s.first)
    (reads_next (keyword w (codes "extern")) (λ called. perhaps sees_literal called (literal w)) (read_word (codes "extern") w) (read_perhaps sees_literal (read_literal w)) (reads_word (codes "extern") w)
    (reads_perhaps sees_literal (literal w) (read_literal w) (literal_seen w) (reads_literal w)))

module _ (inner : Mode → Where → Parser TypeTree) (single : Bool) (w : Where) (h : ReadsDeeper inner w.level) where
  reads_signature : Reader (Signature w) (read_signature inner w)
  reads_signature =
      reads_next (keyword w (codes "fn")) (λ r. GroupAt (deeper w) Paren (λ v. inputs r.0.0 r.0.1 v) then output r.1 (deeper w) (deeper w))
      (read_word (codes "fn") w) (read_group Paren (read_inputs inner) (deeper w) and read_output inner (deeper w) (deeper w)) (reads_word (codes "fn") w)
      (reads_and (λ r. GroupAt (deeper w) Paren (λ v. inputs r.0 r.1 v)) (λ y. output y (deeper w) (deeper w)) (read_group Paren (read_inputs inner) (deeper w)) (read_output inner (deeper w) (deeper w))
      (reads_group Paren (λ r v. inputs r.0 r.1 v) (read_inputs inner) (deeper w) (λ limit. reads_inputs inner (inside_at (deeper w) limit) (h Whole (inside_at (deeper w) limit) (omega arith))))
      (reads_output inner (deeper w) (deeper w) (h Single (deeper w) (omega arith))))

  reads_behind_unsafe : Reader (BehindUnsafe w) (read_abi inner w and read_signature inner w)
  reads_behind_unsafe =
      reads_and (λ a. perhaps (sees_word (codes "extern")) a (Abi w)) (Signature w) (read_abi inner w) (read_signature inner w) (reads_abi inner w) reads_signature

  abbrev read_unsafe : Parser Bool
  read_unsafe = read_flag (sees_word (codes "unsafe")) (read_word (codes "unsafe") w)

  reads_behind_for : Reader (BehindFor w) (read_unsafe and (read_abi inner w and read_signature inner w))
  reads_behind_for =
      reads_and (λ b. flag (sees_word (codes "unsafe")) b (keyword w (codes "unsafe"))) (BehindUnsafe w) read_unsafe (read_abi inner w and read_signature inner w)
      (reads_flag (sees_word (codes "unsafe")) (keyword w (codes "unsafe")) (read_word (codes "unsafe") w) (word_seen (codes "unsafe") w) (reads_word (codes "unsafe") w)) reads_behind_unsafe

  reads_parts : Reader (Function w) (read_for w and (read_unsafe and (read_abi inner w and read_signature inner w)))
  reads_parts =
      reads_and (for_lifetimes w) (BehindFor w) (read_for w) (read_unsafe and (read_abi inner w and read_signature inner w)) (reads_for w) reads_behind_for

  function_back : (y : TypeNode) (ts o : Trees) (m : Marks) → NodeAt single w y ts o m → kind_of y ≡ kind.Function → Image function_of (Function w) y ts o m
  function_back (bare_fn (fn_tree ls b abi is u out)) ts o m s e =
      record { value = pair ls (pair b (pair abi (pair (pair is u) out))); is_it = refl; spelled = s.part }
  function_back (path no_self p) ts o m s e = absurd (cc)
  function_back (path (some_self t n) p) ts o m s e = absurd (cc)
  function_back _ ts o m s e = absurd (cc)

  pub function_rule : (ts : Trees) → node_kind ts ≡ kind.Function → sees_macro ts ≡ false → Decides (NodeAt single w) ts (read_function inner w ts)
  function_rule =
      rule_by inner function_of (Function w) single w kind.Function (read_for w and (read_unsafe and (read_abi inner w and read_signature inner w)))
      (λ x ts o m s. s) (λ x. refl) function_back reads_parts
