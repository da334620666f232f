-- A type comes back from its tokens.
use Rattle.std.proofs.Common.{◌≡◌, false, Some, None, Ok, Err, T, refl, ◌∙◌, subst, arith}
use Rattle.dm_stream.specs.declared.tokens.Span.{Span}
use Rattle.dm_stream.specs.declared.error.Kind.{Kind}
use Rattle.dm_stream.specs.declared.error.Kind.TheVariants.{TooDeep, Syntax}
use Rattle.dm_stream.specs.Trees.{Trees, no_trees, join, join-no_trees}
use Rattle.dm_ast.specs.Tree.{TypeTree}
use Rattle.dm_ast.specs.Spelling.{Marks, Spelling, first_too_deep}
use Rattle.dm_ast.specs.TypeGrammar.{type_spelled}
use Rattle.dm_ast.specs.TypeTokens.{type_trees}
use Rattle.dm_ast.specs.Readers.{Outcome}
use Rattle.dm_read.proofs.Deciding.{IsRefused, Decides, Reader}
use Rattle.dm_read_paths.specs.WholeReaders.{whole_type}
use Rattle.dm_grammar_laws.proofs.TypeTheorem.{type_decided}
use Rattle.dm_type_eq.specs.Unplaced.{unplaced_type}
use Rattle.dm_type_eq.specs.Spelled.{IsSpelled}
use Rattle.dm_type_eq.proofs.Cutting.{cut_end}
use Rattle.dm_type_eq.proofs.Respelling.{Again, lowered_within}
use Rattle.dm_type_eq.proofs.RespelledTypes.{again_type}
use Rattle.dm_type_eq.proofs.SameSpelled.{type_whole}
use Rattle.dm_reread.specs.Next.{next}
use Rattle.dm_reread.specs.Leaves.{ends_type}
use Rattle.dm_reread.specs.TypeLeaves.{top, answer_of, read_type, IsType}
use Rattle.dm_reread.proofs.TypeLeafEnds.{Stop, ends_stop}
use Rattle.dm_reread.proofs.TypeLeafCalls.{calm_end}
use Rattle.dm_reread.proofs.TypeLeafTypes.{ext_type}

-- ---- what a reader that decides its grammar answers

refused_not : {A : Type 0} (S : A → Spelling) (ts others : Trees) (x : A) (m : Marks) (k : Kind) (span : Span) → IsRefused S ts k span →
    S x ts others m → first_too_deep m ≡ None → ⊥
refused_not S ts others x m TooDeep span h s w = let f : first_too_deep m ≡ Some span = h x others m s in cc
refused_not S ts others x m Syntax span h s w = h x others m s
refused_not S ts others x m _ span h s w = absurd h

pub decided_answer : {A : Type 0} (S : A → Spelling) (ts others : Trees) (x : A) (m : Marks) (o : Outcome A) → Decides S ts o →
    S x ts others m →
    first_too_deep m ≡ None → answer_of o ≡ Some (x, others)
decided_answer S ts others x m (Ok p) h s w = let e = h.only x others m s in rw (e.value, e.left) refl
decided_answer S ts others x m (Err r) h s w = absurd (refused_not S ts others x m r.kind r.span h s w)

-- ---- a type's own tokens spell it

-- at the top, before such an end
pub record IsOwn (t : TypeTree) (rest : Trees) : Type 0 where
  pub marks : Marks
  pub spelled : type_spelled t false top (join (type_trees t) rest) rest marks
  pub within : first_too_deep marks ≡ None

own_like : (t : TypeTree) (h : IsSpelled t) (rest : Trees) → Stop rest → IsOwn (unplaced_type h.like) rest
own_like t h rest stop =
    let u : TypeTree = unplaced_type h.like in
    let own : Trees = type_trees u in
    let x : Again (type_spelled u h.single top) own h.trees no_trees h.marks =
    again_type h.like h.single (record { level = omega arith; limit = refl }) h.trees h.others h.marks h.spelled no_trees
    (cut_end h.others) tt in
    record {
      marks = x.marks;
      spelled = ext_type rest stop u false top own no_trees x.marks
          (type_whole u h.single top own x.marks (subst (λ z. type_spelled u h.single top z no_trees x.marks)
          (join-no_trees own) x.spelled)) (calm_end rest stop);
      within = lowered_within x.marks h.marks x.lower h.within;
    }

pub own_type : (t : TypeTree) → IsType t → (rest : Trees) → Stop rest → IsOwn t rest
own_type t h rest stop = subst (λ u. IsOwn u rest) (h.spelled.same ∙ h.unplaced) (own_like t h.spelled rest stop)

-- ---- and so it is read back

pub whole_decided : Reader (λ t. type_spelled t false top) (whole_type top)
unfolding whole_type
whole_decided = type_decided top

pub type_back : (t : TypeTree) (rest : Trees) → IsType t → T (ends_type (next rest)) → read_type (join (type_trees t) rest) ≡ Some (t, rest)
type_back t rest h e =
    let own : IsOwn t rest = own_type t h rest (ends_stop rest e) in
    let ts : Trees = join (type_trees t) rest in
    decided_answer (λ u. type_spelled u false top) ts rest t own.marks (whole_type top ts) (whole_decided ts) own.spelled own.within
