-- The rows of heads.
use Rattle.std.proofs.Common.{◌≡◌, ℕ, Bool, List, Option, Some, None, Ok, Err, refl, sym, ap, ◌∙◌, subst}
use Rattle.std.proofs.lemmas.Grind.{common_steps}
use Rattle.dm_stream.specs.declared.error.Error.{Error}
use Rattle.dm_stream.specs.declared.error.Error.TheVariants as error
use Rattle.dm_stream.specs.Trees.{Trees}
use Rattle.dm_ast.specs.Declarations.{Listed, ParamTree, PredicateTree}
use Rattle.dm_ast.specs.Spelling.{Where}
use Rattle.dm_ast.specs.Readers.{Parser}
use Rattle.dm_input.specs.State.{State}
use Rattle.dm_input.specs.Inputs as inputs
use Rattle.dm_reread.specs.Leaves.{Answer}
use Rattle.dm_reread.specs.Reading.{then}
use Rattle.dm_reread.specs.TypeLeaves.{answer_of}
use Rattle.dm_reread.specs.Items.{HeadTree, between_trees}
use Rattle.dm_reread.specs.HeadLeaves.{read_generics, read_where, read_named, predicates_in, head_in, read_head, plain_head}
use Rattle.dm_reread.specs.ExactLeaves.{exactly}
use Rattle.dm_read_places.specs.Reads.{Reads}
use Rattle.dm_read_heads.specs.Heads.{NamedTree, params_at, predicates_at, behind_params, made_head}

-- ---- parameters and predicates, wherever the list ends

abbrev pub Params : Type 0
Params = Bool × Listed ParamTree

abbrev pub Clause : Type 0
Clause = Option (Listed PredicateTree)

module _ {A X : Type 0} (view : X → A) (reader : Where → Parser A) (read : Trees → Answer A) where
  -- the reader at any limit reads what is read
  abbrev pub IsFree : Type 0
  IsFree = (limit : ℕ) (ts : Trees) → answer_of (reader (record { level = 0; limit = limit }) ts) ≡ read ts

  pub found_free : IsFree → (limit : ℕ) (ts : Trees) (s new : State) (x : X) → s ≡ record { trees = ts; at = record { level = 0; limit = limit } } →
      inputs.Reads view reader s (Ok x) new → read ts ≡ Some (view x, new.trees)
  found_free free limit ts s new x e h =
      sym (free limit ts) ∙ ap answer_of (subst (λ (y : State). reader y.at y.trees ≡ Ok (view x, new.trees)) e h.0)

  pub failed_free : IsFree → (limit : ℕ) (ts us : Trees) (s new : State) (x : Error) → s ≡ record { trees = ts; at = record { level = 0; limit = limit } } →
      inputs.Reads view reader s (Err x) new → Reads view read ts (Err x) us
  failed_free free limit ts us s new (error.Refused r) e h =
      sym (free limit ts) ∙ ap answer_of (subst (λ (y : State). reader y.at y.trees ≡ Err r) e h)
  failed_free free limit ts us s new error.NoMemory e h = tt

-- ---- the parts one behind the other

abbrev Heads : Type 0
Heads = HeadTree × Trees

abbrev Behind : Type 0
Behind = (NamedTree × List PredicateTree) × Trees

module _ (ps : Listed ParamTree) where
  where_on : (x : NamedTree) (o : Answer Clause) →
      then {B = Heads} o (λ c. Some (head_in ps x c.0, c.1)) ≡
      then {A = Behind} {B = Heads} (then {B = Behind} (then {B = List PredicateTree × Trees} o (λ c. Some (predicates_in c.0, c.1))) (λ c. Some ((x, c.0), c.1)))
      (λ b. Some (made_head ps.items b.0, b.1))
  where_on x None = refl
  where_on x (Some c) = refl

  named_on : (o : Answer NamedTree) →
      then {B = Heads} o (λ x. then (read_where x.1) (λ c. Some (head_in ps x.0 c.0, c.1))) ≡
      then {A = Behind} {B = Heads} (then {B = Behind} o (λ x. then (predicates_at x.1) (λ c. Some ((x.0, c.0), c.1)))) (λ b. Some (made_head ps.items b.0, b.1))
  named_on None = refl
  named_on (Some x) = where_on x.0 (read_where x.1)

params_on : (o : Answer Params) →
    then {B = Heads} o (λ ps. then (read_named ps.1) (λ x. then (read_where x.1) (λ c. Some (head_in ps.0.1 x.0 c.0, c.1)))) ≡
    then {A = List ParamTree × Trees} {B = Heads} (then o (λ ps. Some (ps.0.1.items, ps.1)))
    (λ ps. then {A = Behind} {B = Heads} (behind_params ps.1) (λ b. Some (made_head ps.0 b.0, b.1)))
params_on None = refl
params_on (Some ps) = named_on ps.0.1 (read_named ps.1)

pub head_is : (ts : Trees) →
    read_head ts ≡
    then {A = List ParamTree × Trees} {B = Heads} (params_at ts) (λ ps. then {A = Behind} {B = Heads} (behind_params ps.1) (λ b. Some (made_head ps.0 b.0, b.1)))
head_is ts = params_on (read_generics ts)

pub no_exact_head : (ts : Trees) → plain_head ts ≡ None → exactly between_trees ts (plain_head ts) ≡ None
no_exact_head ts e = ap (exactly between_trees ts) e

pub ruleset head_steps = (common_steps, head_is, no_exact_head)
