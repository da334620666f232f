-- Paths of words are spelled alone, and so are those whose last word has types and `NAME = TYPE` between `<` and `>`, where the types are.
use Rattle.std.proofs.Common.{ℕ, false, List, [], ◌∷◌, ◌++◌, IsTrue, refl}
use Rattle.dm_stream.specs.declared.tokens.Ident.{Ident}
use Rattle.dm_stream.specs.Trees.{no_trees}
use Rattle.dm_ast.specs.Tree.{TypeTree, segments_of, SegmentTrees, segment, path_tree, ArgumentsTree}
use Rattle.dm_ast.specs.TypeGrammar.{is_path_word, type_spelled}
use Rattle.dm_ast.specs.TypeTokens as spell
use Rattle.dm_ast.specs.Implementors.{segments, plain_path}
use Rattle.dm_generics.specs.Words.{word, plain_segments}
use Rattle.dm_type_eq.specs.Unplaced.{unplaced_type}
use Rattle.dm_reread.specs.TypeLeaves.{top}
use Rattle.dm_head_laws.specs.Parts as parts
use Rattle.dm_head_laws.specs.Parts.{inner, Each}
use Rattle.dm_head_laws.proofs.HeadParts.{Stands, stands_then}
use Rattle.dm_head_laws.proofs.Flat.{flat_within}
use Rattle.dm_head_laws.proofs.WordPaths.{IsBuilt, ArgumentsOf, WordsOf, plain_words, path_built}
use Rattle.dm_derived_laws.proofs.NeededAlone.{PathAlone}

-- a type that its own tokens spell between `<` and `>`
abbrev pub InnerAlone : TypeTree → Type 0
InnerAlone x = parts.Alone (type_spelled x false) inner (spell.type_trees x)

abbrev Known : TypeTree → Type 0
Known x = InnerAlone (unplaced_type x)

-- what may stand behind the last word
abbrev pub ArgumentsAlone : ArgumentsTree → Type 0
ArgumentsAlone = ArgumentsOf Known

standing : IsBuilt Stands
standing =
    record {
      flat = λ S ts others m f s. record { marks = m; spelled = s; within = flat_within m f };
      joined = λ A B ts mid others a b. stands_then a b;
      kept = λ A B ts others us rest f s. record { marks = s.marks; spelled = f s.marks s.spelled; within = s.within };
    }

inner_stands : (x : TypeTree) → Known x → Stands (type_spelled (unplaced_type x) false inner) (spell.type_trees (unplaced_type x)) no_trees
inner_stands x h = record { marks = h.marks; spelled = h.spelled; within = h.within }

-- such a path is spelled alone
path_alone : (ss : SegmentTrees) → WordsOf Known ss → PathAlone (path_tree false ss)
path_alone ss h =
    let s = path_built standing Known top refl refl inner_stands ss h in record { marks = s.marks; spelled = s.spelled; within = s.within }

-- one word or more
pub words_alone : (i : Ident) (is : List Ident) → Each (λ j. IsTrue (is_path_word j)) (i ∷ is) → PathAlone (plain_path (i ∷ is))
words_alone i is h = path_alone (segments (i ∷ is)) (plain_words Known i is h)

-- fixed words, and a last one that may have arguments
pub ending_words : (OfType : TypeTree → Type 0) (ls : List (List ℕ)) → Each (λ l. IsTrue (is_path_word (word l))) ls → (i : Ident) →
    IsTrue (is_path_word i) →
    (a : ArgumentsTree) → ArgumentsOf OfType a → WordsOf OfType (segments_of (plain_segments ls ++ segment i a ∷ []))
ending_words OfType [] h i k a g = (k, g)
ending_words OfType (l ∷ []) h i k a g = (h.0, (k, g))
ending_words OfType (l ∷ l' ∷ ls) h i k a g = (h.0, ending_words OfType (l' ∷ ls) h.1 i k a g)

pub ending_alone : (ls : List (List ℕ)) → Each (λ l. IsTrue (is_path_word (word l))) ls → (i : Ident) → IsTrue (is_path_word i) →
    (a : ArgumentsTree) → ArgumentsAlone a →
    PathAlone (path_tree false (segments_of (plain_segments ls ++ segment i a ∷ [])))
ending_alone ls h i k a g = path_alone (segments_of (plain_segments ls ++ segment i a ∷ [])) (ending_words Known ls h i k a g)
