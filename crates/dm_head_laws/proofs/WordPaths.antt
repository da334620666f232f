-- Paths of words, of which the last one may have lifetimes, types and `NAME = TYPE` between `<` and `>`: their own tokens spell them, in
-- whatever sense holds of tokens without ranges and of parts one behind the other.
use Rattle.std.proofs.Common.{◌≡◌, ℕ, Bool, true, false, ◌||◌, nat_lt, List, [], ◌∷◌, IsTrue, refl, sym, ap, ◌∙◌, subst}
use Rattle.std.specs.Prelude.{⊤}
use Rattle.dm_stream.specs.declared.tokens.Ident.{Ident}
use Rattle.dm_stream.specs.declared.tokens.Lifetime.{Lifetime}
use Rattle.dm_stream.specs.declared.tokens.Punct.{Punct}
use Rattle.dm_stream.specs.declared.tokens.Spacing.TheVariants.{Joint, Alone}
use Rattle.dm_stream.specs.declared.tokens.Token.TheVariants as t
use Rattle.dm_stream.specs.Layout.{nowhere}
use Rattle.dm_stream.specs.Trees.{Trees, no_trees, token, join, join-no_trees, join_assoc}
use Rattle.dm_ast.specs.Keywords.{is_name}
use Rattle.dm_ast.specs.Tree.{TypeTree, path_tree, SegmentTrees, segment, no_segments, segment_then, ArgumentsTree, absent, angle, ArgumentTree, lifetime_arg, type_arg, assoc_type, ArgumentTrees, no_arguments, argument_then, arguments_absent}
use Rattle.dm_ast.specs.Spelling.{Where, deeper, Marks, Spelling, deepest, sees, sees_colon, sees_equals, sees_colons, Nothing, ◌then◌, Before, punct, lifetime, colons, equals}
use Rattle.dm_ast.specs.TypeGrammar as grammar
use Rattle.dm_ast.specs.TypeGrammar.{name, is_path_word, sees_arguments, type_spelled, path_spelled, arguments_of_segment, argument, arguments_left}
use Rattle.dm_ast.specs.TypeTokens as spell
use Rattle.dm_ast.specs.Implementors.{segments}
use Rattle.dm_type_eq.specs.Unplaced.{unplaced_argument, unplaced_arguments, unplaced_arguments_of, unplaced_ident, unplaced_lifetime, unplaced_path, unplaced_segments, unplaced_type}
use Rattle.dm_reread.proofs.TypeLeafEnds.{Stop, stop_punct}
use Rattle.dm_reread.proofs.TypeLeafCalls.{calm_end}
use Rattle.dm_reread.proofs.TypeLeafTypes.{ext_type}
use Rattle.dm_head_laws.specs.Parts.{Each}
use Rattle.dm_head_laws.proofs.Flat.{Flat}

-- a place that isn't too deep
abbrev pub Shallow : Where → Type 0
Shallow w = nat_lt deepest w.level ≡ false

-- a sense in which trees spell a part before others: by marks that stand at no place of a text, of two parts one behind the other, and of
-- whatever has the same marks
pub record IsBuilt (W : Spelling → Trees → Trees → Type 0) : Type 1 where
  pub flat : (S : Spelling) (ts others : Trees) (m : Marks) → Flat m → S ts others m → W S ts others
  pub joined : (A B : Spelling) (ts mid others : Trees) → W A ts mid → W B mid others → W (A then B) ts others
  pub kept : (A B : Spelling) (ts others us rest : Trees) → ((m : Marks) → A ts others m → B us rest m) → W A ts others → W B us rest

-- a punct that is joint to nothing
abbrev lone : ℕ → Punct
lone c = record { ch = c; spacing = Alone; span = nowhere }

-- ---- tokens

module _ {W : Spelling → Trees → Trees → Type 0} (laws : IsBuilt W) where
  built_as : {S : Spelling} {ts us others : Trees} → ts ≡ us → W S us others → W S ts others
  built_as {S} {ts} {us} {others} e s = subst (λ x. W S x others) (sym e) s

  built_then : {A B : Spelling} {ts mid others : Trees} → W A ts mid → W B mid others → W (A then B) ts others
  built_then {A} {B} {ts} {mid} {others} a b = laws.joined A B ts mid others a b

  -- no token
  pub built_absent : (test : Trees → Bool) (ts : Trees) → test ts ≡ false → W (Before (λ others. test others ≡ false) Nothing) ts ts
  built_absent test ts e =
      laws.flat (Before (λ others. test others ≡ false) Nothing) ts ts [] tt
      (record { part = record { spelled = refl; marks = refl }; fact = e })

  built_nothing : (ts : Trees) → W Nothing ts ts
  built_nothing ts = laws.flat Nothing ts ts [] tt (record { spelled = refl; marks = refl })

  module _ (w : Where) (h : Shallow w) where
    one_token : (S : Spelling) (ts others : Trees) → S ts others ((w.level, nowhere) ∷ []) → W S ts others
    one_token S ts others s = laws.flat S ts others ((w.level, nowhere) ∷ []) (h, refl, tt) s

    pub built_punct : (c : ℕ) (ts : Trees) → W (punct w c) (join (spell.punct c nowhere) ts) ts
    built_punct c ts =
        one_token (punct w c) (join (spell.punct c nowhere) ts) ts
        (record { punct = lone c; is = refl; there = record { spelled = refl; marks = refl } })

    built_lifetime : (l : Lifetime) (ts : Trees) → W (lifetime w (unplaced_lifetime l)) (join (spell.lifetime (unplaced_lifetime l)) ts) ts
    built_lifetime l ts =
        one_token (lifetime w (unplaced_lifetime l)) (join (spell.lifetime (unplaced_lifetime l)) ts) ts (record { spelled = refl; marks = refl })

    built_word : (i : Ident) → IsTrue (is_path_word i) → (ts : Trees) →
        W (grammar.word w (unplaced_ident i)) (join (spell.name (unplaced_ident i)) ts) ts
    built_word i n ts =
        one_token (grammar.word w (unplaced_ident i)) (join (spell.name (unplaced_ident i)) ts) ts
        (record { fact = n; part = record { spelled = refl; marks = refl } })

    pub built_name : (i : Ident) → IsTrue (is_name i) → (ts : Trees) →
        W (name w (unplaced_ident i)) (join (spell.name (unplaced_ident i)) ts) ts
    built_name i n ts =
        one_token (name w (unplaced_ident i)) (join (spell.name (unplaced_ident i)) ts) ts
        (record { fact = n; part = record { spelled = refl; marks = refl } })

    built_equals : (ts : Trees) → W (equals w) (join (spell.punct 61 nowhere) ts) ts
    built_equals ts =
        one_token (equals w) (join (spell.punct 61 nowhere) ts) ts
        (record { punct = lone 61; is = refl; lone = refl; there = record { spelled = refl; marks = refl } })

    built_colons : (ts : Trees) → W (colons w) (join (spell.colons nowhere) ts) ts
    built_colons ts =
        laws.flat (colons w) (join (spell.colons nowhere) ts) ts ((w.level, nowhere) ∷ (w.level, nowhere) ∷ []) (h, refl, (h, refl, tt))
        (record {
          first = record { ch = 58; spacing = Joint; span = nowhere };
          second = lone 58;
          is_first = refl;
          is_joint = refl;
          is_second = refl;
          spelled = refl;
          marks = refl;
        })

-- ---- such paths, whose types are of one kind

module _ (OfType : TypeTree → Type 0) where
  abbrev pub ArgumentOf : ArgumentTree → Type 0
  ArgumentOf (lifetime_arg l) = ⊤
  ArgumentOf (type_arg x) = OfType x
  ArgumentOf (assoc_type i arguments_absent x) = IsTrue (is_name i) × OfType x
  ArgumentOf _ = ⊥

  abbrev pub EachArgumentOf : ArgumentTrees → Type 0
  EachArgumentOf no_arguments = ⊤
  EachArgumentOf (argument_then g gs) = ArgumentOf g × EachArgumentOf gs

  abbrev pub ArgumentsOf : ArgumentsTree → Type 0
  ArgumentsOf absent = ⊤
  ArgumentsOf (angle false (argument_then g gs) false) = EachArgumentOf (argument_then g gs)
  ArgumentsOf _ = ⊥

  abbrev pub WordsOf : SegmentTrees → Type 0
  WordsOf no_segments = ⊥
  WordsOf (segment_then (segment i a) no_segments) = IsTrue (is_path_word i) × ArgumentsOf a
  WordsOf (segment_then (segment i absent) (segment_then s ss)) = IsTrue (is_path_word i) × WordsOf (segment_then s ss)
  WordsOf _ = ⊥

  -- words without arguments
  pub plain_words : (i : Ident) (is : List Ident) → Each (λ j. IsTrue (is_path_word j)) (i ∷ is) → WordsOf (segments (i ∷ is))
  plain_words i [] h = (h.0, tt)
  plain_words i (j ∷ is) h = (h.0, plain_words j is h.1)

-- what stands between `<` and `>`
abbrev left_trees : ArgumentTrees → Trees
left_trees gs = spell.spaced (spell.punct 44 nowhere) false (spell.each_argument nowhere (unplaced_arguments gs))

abbrev closing : Trees → Trees
closing us = join (spell.punct 62 nowhere) us

left_stop : (gs : ArgumentTrees) (us : Trees) → Stop (join (left_trees gs) (closing us))
left_stop no_arguments us = stop_punct (lone 62) us refl refl
left_stop (argument_then g gs) us = stop_punct (lone 44) _ refl refl

left_free : (gs : ArgumentTrees) (us : Trees) →
    (sees_equals (join (left_trees gs) (closing us)) || sees_colon (join (left_trees gs) (closing us))) ≡ false
left_free no_arguments us = refl
left_free (argument_then g gs) us = refl

abbrev words_trees : Bool → SegmentTrees → Trees
words_trees first ss = spell.spaced (spell.colons nowhere) first (spell.each_segment nowhere (unplaced_segments ss))

-- types whose own tokens spell them where nothing follows
abbrev pub TypeBuilt : (Spelling → Trees → Trees → Type 0) → Where → TypeTree → Type 0
TypeBuilt W w x = W (type_spelled (unplaced_type x) false w) (spell.type_trees (unplaced_type x)) no_trees

module _ {W : Spelling → Trees → Trees → Type 0} (laws : IsBuilt W) where
  module _ (OfType : TypeTree → Type 0) (w : Where) (h : Shallow w) (of_type : (x : TypeTree) → OfType x → TypeBuilt W w x) where
    module _ (o : Trees) (stop : Stop o) (free : (sees_equals o || sees_colon o) ≡ false) where
      type_before : (x : TypeTree) → OfType x → W (type_spelled (unplaced_type x) false w) (join (spell.type_trees (unplaced_type x)) o) o
      type_before x k =
          let own : Trees = spell.type_trees (unplaced_type x) in
          let spelled : Spelling = type_spelled (unplaced_type x) false w in
          laws.kept spelled spelled own no_trees (join own o) o
          (λ m s. ext_type o stop (unplaced_type x) false w own no_trees m s (calm_end o stop)) (of_type x k)

      argument_built : (g : ArgumentTree) → ArgumentOf OfType g →
          W (argument (unplaced_argument g) w) (join (spell.argument_trees nowhere (unplaced_argument g)) o) o
      argument_built (lifetime_arg l) k = built_lifetime laws w h l o
      argument_built (type_arg x) k =
          let all : Trees = join (spell.type_trees (unplaced_type x)) o in
          laws.kept (type_spelled (unplaced_type x) false w) (argument (type_arg (unplaced_type x)) w) all o all o
          (λ m s. record { part = s; fact = free }) (type_before x k)
      argument_built (assoc_type i arguments_absent x) k =
          let us : Trees = join (spell.type_trees (unplaced_type x)) o in
          let more : Trees = join (spell.punct 61 nowhere) us in
          built_then laws (built_name laws w h i k.0 more)
          (built_then laws (built_nothing laws more) (built_then laws (built_equals laws w h us) (type_before x k.1)))
      argument_built _ k = absurd k

    left_built : (gs : ArgumentTrees) → EachArgumentOf OfType gs → (us : Trees) →
        W (arguments_left (unplaced_arguments gs) false w) (join (left_trees gs) (closing us)) (closing us)
    left_built no_arguments k us = built_absent laws (sees 44) (closing us) refl
    left_built (argument_then g gs) k us =
        let x : Trees = spell.argument_trees nowhere (unplaced_argument g) in
        let more : Trees = join (left_trees gs) (closing us) in
        built_as laws {us = join (spell.punct 44 nowhere) (join x more)}
        (ap (join (spell.punct 44 nowhere)) (join_assoc x (left_trees gs) (closing us)))
        (built_then laws (built_punct laws w h 44 (join x more))
        (built_then laws (argument_built more (left_stop gs us) (left_free gs us) g k.0) (left_built gs k.1 us)))

    arguments_built : (g : ArgumentTree) (gs : ArgumentTrees) → EachArgumentOf OfType (argument_then g gs) → (us : Trees) →
        W (grammar.arguments (unplaced_arguments (argument_then g gs)) false w)
        (join (join (join (spell.argument_trees nowhere (unplaced_argument g)) (left_trees gs)) no_trees) (closing us)) (closing us)
    arguments_built g gs k us =
        let x : Trees = spell.argument_trees nowhere (unplaced_argument g) in
        let more : Trees = join (left_trees gs) (closing us) in
        built_as laws {us = join x more}
        (ap (λ z. join z (closing us)) (join-no_trees (join x (left_trees gs))) ∙ join_assoc x (left_trees gs) (closing us))
        (built_then laws (argument_built more (left_stop gs us) (left_free gs us) g k.0) (left_built gs k.1 us))

  module _ (OfType : TypeTree → Type 0) (w : Where) (h : Shallow w) (k : Shallow (deeper w))
      (of_type : (x : TypeTree) → OfType x → TypeBuilt W (deeper w) x) where
    behind_built : (a : ArgumentsTree) → ArgumentsOf OfType a →
        W (arguments_of_segment (unplaced_arguments_of a) w) (spell.arguments_trees nowhere (unplaced_arguments_of a)) no_trees
    behind_built absent e = built_absent laws sees_arguments no_trees refl
    behind_built (angle false (argument_then g gs) false) e =
        let own : Trees = join (join (spell.argument_trees nowhere (unplaced_argument g)) (left_trees gs)) no_trees in
        let all : Trees = join own (spell.punct 62 nowhere) in
        built_then laws (built_absent laws sees_colons (join (spell.punct 60 nowhere) all) refl)
        (built_then laws (built_punct laws w h 60 all)
        (built_then laws (arguments_built OfType (deeper w) k of_type g gs e no_trees) (built_punct laws w h 62 no_trees)))
    behind_built _ e = absurd e

    words_built : (ss : SegmentTrees) → WordsOf OfType ss → W (grammar.segments (unplaced_segments ss) w) (words_trees true ss) no_trees
    words_built no_segments e = absurd e
    words_built (segment_then (segment i a) no_segments) e =
        let own : Trees = spell.arguments_trees nowhere (unplaced_arguments_of a) in
        built_as laws {us = token (t.Ident (unplaced_ident i)) own} (ap (token (t.Ident (unplaced_ident i))) (join-no_trees own))
        (built_then laws (built_then laws (built_word laws w h i e.0 own) (behind_built a e.1)) (built_absent laws sees_colons no_trees refl))
    words_built (segment_then (segment i absent) (segment_then (segment j a) ss)) e =
        let all : Trees = words_trees true (segment_then (segment j a) ss) in
        let more : Trees = join (spell.colons nowhere) all in
        built_then laws (built_then laws (built_word laws w h i e.0 more) (built_absent laws sees_arguments more refl))
        (built_then laws (built_colons laws w h all) (words_built (segment_then (segment j a) ss) e.1))
    words_built _ e = absurd e

    pub path_built : (ss : SegmentTrees) → WordsOf OfType ss →
        W (path_spelled (unplaced_path (path_tree false ss)) w) (spell.path_trees nowhere (unplaced_path (path_tree false ss))) no_trees
    path_built (segment_then (segment i a) ss) e =
        built_then laws (built_absent laws sees_colons (words_trees true (segment_then (segment i a) ss)) refl)
        (words_built (segment_then (segment i a) ss) e)
    path_built no_segments e = absurd e
