-- Types that are read somewhere and have the same tokens are the same part for part: both are read again from these tokens without their
-- places, and trees are read as one type.
use Rattle.std.proofs.Common.{◌≡◌, ℕ, Bool, true, false, List, codes, Some, None, Ok, Err, refl, sym, ◌∙◌, subst, arith}
use Rattle.dm_stream.specs.declared.tokens.Span.{Span}
use Rattle.dm_stream.specs.declared.error.Kind.{Kind}
use Rattle.dm_stream.specs.declared.error.Kind.TheVariants.{TooDeep, Syntax}
use Rattle.dm_stream.specs.Trees.{Trees, no_trees, join-no_trees}
use Rattle.dm_ast.specs.Tree.{TypeTree, type_tree, TypeNode, pointer, trait_object, impl_trait, path, no_self, some_self, BoundTrees, no_bounds, bound_then}
use Rattle.dm_ast.specs.Spelling.{Where, deeper, Marks, Spelling, first_too_deep, ◌then◌, keyword}
use Rattle.dm_ast.specs.TypeGrammar.{type_spelled, node, some_bounds}
use Rattle.dm_ast.specs.TypeTokens.{type_trees}
use Rattle.dm_type_eq.specs.BareTokens.{tokens_of}
use Rattle.dm_same.specs.SameTypes.{same_type}
use Rattle.dm_type_eq.specs.Spelled.{IsSpelled}
use Rattle.dm_ast.specs.Readers.{Outcome}
use Rattle.dm_read_paths.specs.TypeReaders.{read_type}
use Rattle.dm_read_paths.specs.declared.kind.Mode.TheVariants.{Whole}
use Rattle.dm_read.proofs.Deciding.{IsRefused, Decides}
use Rattle.dm_grammar_laws.proofs.TypeTheorem.{type_decided}
use Rattle.dm_type_eq.specs.Unplaced.{unplaced_type}
use Rattle.dm_type_eq.proofs.SameTokens.{type_same}
use Rattle.dm_type_eq.proofs.UnplacedSame.{same_unplaced, unplaced_tokens}
use Rattle.dm_type_eq.proofs.Cutting.{cut_end}
use Rattle.dm_type_eq.proofs.Respelling.{Again, lowered_within}
use Rattle.dm_type_eq.proofs.RespelledTypes.{again_type}

-- ---- one bound and nothing behind it is also a list of bounds

some_whole : (bs : BoundTrees) (w : Where) (ts : Trees) (m : Marks) → some_bounds bs true w ts no_trees m → some_bounds bs false w ts no_trees m
some_whole no_bounds w ts m s = absurd s.fact
some_whole (bound_then b no_bounds) w ts m s =
    record {
      middle = s.middle;
      first_marks = s.first_marks;
      rest_marks = s.rest_marks;
      first = s.first;
      rest = record { part = s.rest.part; fact = refl };
      marks = s.marks;
    }
some_whole (bound_then b (bound_then c bs)) w ts m s = let e = s.rest.fact in absurd (cc)

-- behind `dyn` or `impl`
behind_word : (bs : BoundTrees) (word : List ℕ) (w : Where) (ts : Trees) (m : Marks) → (keyword w word then some_bounds bs true (deeper w)) ts no_trees m →
    (keyword w word then some_bounds bs false (deeper w)) ts no_trees m
behind_word bs word w ts m s =
    record {
      middle = s.middle;
      first_marks = s.first_marks;
      rest_marks = s.rest_marks;
      first = s.first;
      rest = some_whole bs (deeper w) s.middle s.rest_marks s.rest;
      marks = s.marks;
    }

node_whole : (n : TypeNode) (w : Where) (ts : Trees) (m : Marks) → node n true w ts no_trees m → node n false w ts no_trees m
node_whole (trait_object bs u) w ts m s = record { fact = s.fact; part = behind_word bs (codes "dyn") w ts m s.part }
node_whole (impl_trait bs u) w ts m s = record { fact = s.fact; part = behind_word bs (codes "impl") w ts m s.part }
node_whole (pointer true t) w ts m s = s
node_whole (pointer false t) w ts m s = s
node_whole (path no_self p) w ts m s = s
node_whole (path (some_self t n) p) w ts m s = s
node_whole _ w ts m s = s

pub type_whole : (t : TypeTree) (single : Bool) (w : Where) (ts : Trees) (m : Marks) → type_spelled t single w ts no_trees m → type_spelled t false w ts no_trees m
type_whole t false w ts m s = s
type_whole (type_tree n range) true w ts m s =
    record { part = record { fact = s.part.fact; part = node_whole n w ts m s.part.part }; is_range = s.is_range }

-- ---- read again

abbrev top : Where
top = record { level = 0; limit = 0 }

abbrev Whole_of : TypeTree → Spelling
Whole_of t = type_spelled t false top

-- at the top, by its own tokens, and nothing behind it
record IsRespelled (t : TypeTree) : Type 0 where
  marks : Marks
  spelled : type_spelled t false top (type_trees t) no_trees marks
  within : first_too_deep marks ≡ None

like_respelled : (t : TypeTree) (h : IsSpelled t) → IsRespelled (unplaced_type h.like)
like_respelled t h =
    let own : Trees = type_trees (unplaced_type h.like) in
    let x : Again (type_spelled (unplaced_type h.like) h.single top) own h.trees no_trees h.marks =
    again_type h.like h.single (record { level = omega arith; limit = refl }) h.trees h.others h.marks h.spelled no_trees (cut_end h.others) tt in
    record {
      marks = x.marks;
      spelled = type_whole (unplaced_type h.like) h.single top own x.marks
          (subst (λ z. type_spelled (unplaced_type h.like) h.single top z no_trees x.marks) (join-no_trees own) x.spelled);
      within = lowered_within x.marks h.marks x.lower h.within;
    }

respelled : (t : TypeTree) → IsSpelled t → IsRespelled (unplaced_type t)
respelled t h = subst IsRespelled h.same (like_respelled t h)

-- ---- one type for the trees

not_refused : (ts : Trees) (k : Kind) (span : Span) → IsRefused Whole_of ts k span → (t : TypeTree) (m : Marks) → Whole_of t ts no_trees m →
    first_too_deep m ≡ None →
    ⊥
not_refused ts TooDeep span h t m s e = let f : first_too_deep m ≡ Some span = h t no_trees m s in cc
not_refused ts Syntax span h t m s e = h t no_trees m s
not_refused ts _ span h t m s e = absurd h

read_as_one : (ts : Trees) (outcome : Outcome TypeTree) → Decides Whole_of ts outcome → (t u : TypeTree) (m k : Marks) → Whole_of t ts no_trees m →
    first_too_deep m ≡ None →
    Whole_of u ts no_trees k →
    t ≡ u
read_as_one ts (Ok p) h t u m k s e r = (h.only t no_trees m s).value ∙ sym (h.only u no_trees k r).value
read_as_one ts (Err f) h t u m k s e r = absurd (not_refused ts f.kind f.span h t m s e)

pub same_spelled : (a b : TypeTree) → IsSpelled a → IsSpelled b → tokens_of (type_trees a) ≡ tokens_of (type_trees b) → same_type a b ≡ true
same_spelled a b h g e =
    let x : IsRespelled (unplaced_type a) = respelled a h in
    let y : IsRespelled (unplaced_type b) = respelled b g in
    let own : Trees = type_trees (unplaced_type a) in
    same_unplaced a b
    (read_as_one own (read_type 129 Whole top own) (type_decided top own) (unplaced_type a) (unplaced_type b) x.marks y.marks x.spelled x.within
    (subst (λ z. type_spelled (unplaced_type b) false top z no_trees y.marks) (sym (unplaced_tokens a b e)) y.spelled))

-- what the program answers
pub tokens_told : (a b : TypeTree) (r : Bool) → r ≡ same_type a b → r ≡ true → tokens_of (type_trees a) ≡ tokens_of (type_trees b)
tokens_told a b r e h = type_same a b (sym e ∙ h)

pub spelled_told : (a b : TypeTree) (r : Bool) → r ≡ same_type a b → IsSpelled a → IsSpelled b → tokens_of (type_trees a) ≡ tokens_of (type_trees b) → r ≡ true
spelled_told a b r e h g f = e ∙ same_spelled a b h g f
