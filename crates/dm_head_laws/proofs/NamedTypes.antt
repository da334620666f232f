-- Types of a path of words, and those of one name with an argument for each parameter, are written without ranges at every place that isn't
-- too deep.
use Rattle.std.proofs.Common.{◌≡◌, ℕ, Bool, false, List, [], ◌∷◌, ◌++◌, map, IsTrue, refl, subst}
use Rattle.std.specs.Prelude.{⊤}
use Rattle.std.proofs.lemmas.Bool.{or_left}
use Rattle.dm_stream.specs.declared.tokens.Span.{Span}
use Rattle.dm_stream.specs.declared.tokens.Ident.{Ident}
use Rattle.dm_stream.specs.Layout.{nowhere}
use Rattle.dm_stream.specs.Trees.{Trees, no_trees, join, join-no_trees}
use Rattle.dm_ast.specs.Keywords.{is_name}
use Rattle.dm_ast.specs.Tree.{TypeTree, type_tree, path, no_self, PathTree, path_tree, SegmentTrees, segment, no_segments, segment_then, ArgumentTrees, arguments_of}
use Rattle.dm_ast.specs.Declarations.{ParamTree, lifetime_param, type_param, const_param}
use Rattle.dm_ast.specs.Spelling.{Where, deeper, Marks, Spelling, Nothing, ◌then◌, Before, punct}
use Rattle.dm_ast.specs.TypeGrammar.{name, is_path_word, sees_macro, type_spelled, path_spelled, argument}
use Rattle.dm_ast.specs.TypeTokens as spell
use Rattle.dm_ast.specs.Implementors.{segments, plain_path, name_type, arguments}
use Rattle.dm_ast.specs.Implementors as implementors
use Rattle.dm_type_eq.specs.Unplaced.{unplaced_ident, unplaced_path, unplaced_type}
use Rattle.dm_reread.proofs.TypeLeafEnds.{stop_end}
use Rattle.dm_reread.proofs.TypeLeafCalls.{calm_end, uncalled_path}
use Rattle.dm_head_laws.specs.Parts as parts
use Rattle.dm_head_laws.specs.Parts.{Each}
use Rattle.dm_head_laws.proofs.HeadParts.{Stands}
use Rattle.dm_head_laws.proofs.Flat.{Flat, flat_both, flat_within, flat_range}
use Rattle.dm_head_laws.proofs.WordPaths.{Shallow, IsBuilt, built_absent, built_punct, built_name, ArgumentOf, EachArgumentOf, ArgumentsOf, WordsOf, plain_words, TypeBuilt, path_built}

-- ---- written before others, at marks that stand at no place of a text

pub record Written (S : Spelling) (ts others : Trees) : Type 0 where
  pub marks : Marks
  pub spelled : S ts others marks
  pub flat : Flat marks

pub written_then : {A B : Spelling} {ts mid others : Trees} → Written A ts mid → Written B mid others → Written (A then B) ts others
written_then {A} {B} {ts} {mid} {others} a b =
    record {
      marks = a.marks ++ b.marks;
      spelled = record { middle = mid; first_marks = a.marks; rest_marks = b.marks; first = a.spelled; rest = b.spelled; marks = refl };
      flat = flat_both a.marks b.marks a.flat b.flat;
    }

-- where nothing follows, as parts of heads are spelled
pub written_alone : (S : Where → Spelling) (w : Where) (own : Trees) → Written (S w) own no_trees → parts.Alone S w own
written_alone S w own s = record { marks = s.marks; spelled = s.spelled; within = flat_within s.marks s.flat }

pub written_stands : {S : Spelling} {ts others : Trees} → Written S ts others → Stands S ts others
written_stands s = record { marks = s.marks; spelled = s.spelled; within = flat_within s.marks s.flat }

writing : IsBuilt Written
writing =
    record {
      flat = λ S ts others m f s. record { marks = m; spelled = s; flat = f };
      joined = λ A B ts mid others a b. written_then a b;
      kept = λ A B ts others us rest f s. record { marks = s.marks; spelled = f s.marks s.spelled; flat = s.flat };
    }

pub written_absent : (test : Trees → Bool) (ts : Trees) → test ts ≡ false → Written (Before (λ others. test others ≡ false) Nothing) ts ts
written_absent = built_absent writing

pub written_punct : (w : Where) → Shallow w → (c : ℕ) (ts : Trees) → Written (punct w c) (join (spell.punct c nowhere) ts) ts
written_punct = built_punct writing

pub written_name : (w : Where) → Shallow w → (i : Ident) → IsTrue (is_name i) → (ts : Trees) →
    Written (name w (unplaced_ident i)) (join (spell.name (unplaced_ident i)) ts) ts
written_name = built_name writing

-- ---- paths of words, of which the last one may have lifetimes, types and `NAME = TYPE` between `<` and `>`, and types of such a path

abbrev pub TypeWritten : TypeTree → Where → Type 0
TypeWritten x w = TypeBuilt Written w x

abbrev pub PathWritten : PathTree → Where → Type 0
PathWritten p w = Written (path_spelled (unplaced_path p) w) (spell.path_trees nowhere (unplaced_path p)) no_trees

-- as an argument between `<` and `>` behind a word at this place
abbrev pub InnerWritten : Where → TypeTree → Type 0
InnerWritten w x = TypeWritten x (deeper w)

module _ (w : Where) (h : Shallow w) (k : Shallow (deeper w)) where
  pub written_path : (ss : SegmentTrees) → WordsOf (InnerWritten w) ss → PathWritten (path_tree false ss) w
  written_path = path_built writing (InnerWritten w) w h k (λ x e. e)

  -- a path that is a type
  pub written_type : (p : PathTree) (r : Span) (single : Bool) → PathWritten p w →
      Written (type_spelled (unplaced_type (type_tree (path no_self p) r)) single w) (spell.path_trees nowhere (unplaced_path p)) no_trees
  written_type p r single s =
      let own : Trees = spell.path_trees nowhere (unplaced_path p) in
      let called : sees_macro (join own no_trees) ≡ false =
      uncalled_path no_trees stop_end (unplaced_path p) w own no_trees s.marks s.spelled (calm_end no_trees stop_end) in
      record {
        marks = s.marks;
        spelled = record {
          part = record { fact = subst (λ z. sees_macro z ≡ false) (join-no_trees own) called; part = s.spelled };
          is_range = flat_range s.marks s.flat;
        };
        flat = s.flat;
      }

  pub written_plain : (i : Ident) (is : List Ident) → Each (λ j. IsTrue (is_path_word j)) (i ∷ is) →
      TypeWritten (type_tree (path no_self (plain_path (i ∷ is))) nowhere) w
  written_plain i is e = written_type (plain_path (i ∷ is)) nowhere false (written_path (segments (i ∷ is)) (plain_words (InnerWritten w) i is e))

  pub written_name_type : (i : Ident) → IsTrue (is_name i) → TypeWritten (name_type i) w
  written_name_type i n = written_plain i [] (or_left (is_name i) _ n, tt)

-- ---- a name, with an argument for each parameter

-- the name of a parameter that isn't a lifetime
abbrev pub HasName : ParamTree → Type 0
HasName (lifetime_param as' l bs) = ⊤
HasName (type_param as' i bs d) = IsTrue (is_name i)
HasName (const_param as' i x d) = IsTrue (is_name i)

-- a type of one name, with an argument for each parameter
abbrev pub type_of : Ident → List ParamTree → TypeTree
type_of i ps = type_tree (path no_self (path_tree false (segment_then (segment i (arguments ps)) no_segments))) nowhere

abbrev each_argument : List ParamTree → ArgumentTrees
each_argument ps = arguments_of (map implementors.argument ps)

module _ (w : Where) (h : Shallow w) (k : Shallow (deeper w)) where
  argument_written : (p : ParamTree) → HasName p → ArgumentOf (λ x. TypeWritten x w) (implementors.argument p)
  argument_written (lifetime_param as' l bs) n = tt
  argument_written (type_param as' i bs d) n = written_name_type w h k i n
  argument_written (const_param as' i x d) n = written_name_type w h k i n

  each_written : (ps : List ParamTree) → Each HasName ps → EachArgumentOf (λ x. TypeWritten x w) (each_argument ps)
  each_written [] n = tt
  each_written (p ∷ ps) n = (argument_written p n.0, each_written ps n.1)

arguments_written : (w : Where) → Shallow (deeper w) → Shallow (deeper (deeper w)) → (ps : List ParamTree) → Each HasName ps →
    ArgumentsOf (InnerWritten w) (arguments ps)
arguments_written w h k [] n = tt
arguments_written w h k (p ∷ ps) n = each_written (deeper w) h k (p ∷ ps) n

pub named_written : (w : Where) → Shallow w → Shallow (deeper w) → Shallow (deeper (deeper w)) → (i : Ident) → IsTrue (is_name i) → (ps : List ParamTree) →
    Each HasName ps → TypeWritten (type_of i ps) w
named_written w h k l i n ps e =
    let ss : SegmentTrees = segment_then (segment i (arguments ps)) no_segments in
    written_type w h k (path_tree false ss) nowhere false (written_path w h k ss (or_left (is_name i) _ n, arguments_written w k l ps e))
