-- The reader of what stands between `impl` and the brace, by the readers of declarations. And which heads it reads back.
use Rattle.std.specs.Prelude.{◌≡◌, Bool, true, false, not, ◌&&◌, ◌||◌, cond, codes, List, [], ◌∷◌, Option, Some, None}
use Rattle.dm_stream.specs.Trees.{Trees, no_trees}
use Rattle.dm_ast.specs.Tree.{TypeTree, PathTree}
use Rattle.dm_ast.specs.Declarations.{Listed, ParamTree, lifetime_param, type_param, const_param, PredicateTree}
use Rattle.dm_ast.specs.Spelling.{Where, Marks, Spelling, first_too_deep, sees_word, Nothing, ◌then◌, keyword}
use Rattle.dm_ast.specs.TypeGrammar.{type_spelled, path_spelled}
use Rattle.dm_ast.specs.DeclarationGrammar.{generics, where_clause}
use Rattle.dm_ast.specs.Readers.{tail}
use Rattle.dm_read.specs.DeclarationReaders as decl
use Rattle.dm_read_paths.specs.Bindings.{path_alone}
use Rattle.dm_read_paths.specs.WholeReaders.{parts}
use Rattle.dm_reread.specs.Leaves.{Answer}
use Rattle.dm_reread.specs.Reading as reading
use Rattle.dm_reread.specs.Items.{HeadTree, between_trees}
use Rattle.dm_reread.specs.TypeLeaves.{top, answer_of, read_type}

-- the parameters in front, and whether `<` stands there
abbrev pub read_generics : Trees → Answer (Bool × Listed ParamTree)
read_generics ts = answer_of (decl.read_generics parts top ts)

-- the predicates behind `where`
abbrev pub read_where : Trees → Answer (Option (Listed PredicateTree))
read_where ts = answer_of (decl.read_where parts top ts)

-- a trait is a path before `for`
abbrev pub trait_first : TypeTree → Trees → Answer (Option PathTree × TypeTree)
trait_first x ts =
    cond (sees_word (codes "for") ts)
    (reading.then (path_alone x) (λ p. reading.then (read_type (tail ts)) (λ a. Some ((Some p, a.0), a.1))))
    (Some ((None, x), ts))

-- without `where` there are no predicates
abbrev pub predicates_in : Option (Listed PredicateTree) → List PredicateTree
predicates_in None = []
predicates_in (Some ps) = ps.items

-- the parts together
abbrev pub head_in : Listed ParamTree → Option PathTree × TypeTree → Option (Listed PredicateTree) → HeadTree
head_in ps x c = record { params = ps.items; trait_path = x.0; ty = x.1; predicates = predicates_in c }

-- the type, and the trait before it
abbrev pub read_named : Trees → Answer (Option PathTree × TypeTree)
read_named ts = reading.then (read_type ts) (λ a. trait_first a.0 a.1)

-- parameters, perhaps a trait, the type, and predicates
abbrev pub read_head : Trees → Answer HeadTree
read_head ts =
    reading.then (read_generics ts) (λ ps. reading.then (read_named ps.1) (λ x. reading.then (read_where x.1) (λ c.
    Some (head_in ps.0.1 x.0 c.0, c.1))))

-- ---- parameters of implementations

-- without attributes and default
abbrev pub is_plain : ParamTree → Bool
is_plain (lifetime_param [] l bs) = true
is_plain (type_param [] i bs None) = true
is_plain (const_param [] i x None) = true
is_plain _ = false

abbrev pub is_lifetime : ParamTree → Bool
is_lifetime (lifetime_param as' l bs) = true
is_lifetime _ = false

-- all of them plain, and lifetimes first: whether one may still come
abbrev pub are_plain : Bool → List ParamTree → Bool
are_plain lifetimes [] = true
are_plain lifetimes (p ∷ ps) = (is_plain p && (lifetimes || not (is_lifetime p))) && are_plain (is_lifetime p) ps

-- a head with such parameters
abbrev pub plain_head : Trees → Answer HeadTree
plain_head ts = reading.then (read_head ts) (λ a. reading.provided (are_plain true a.0.params) (Some a))

-- ---- heads in the grammar's words

-- whether `<` stands there
abbrev pub is_some_params : List ParamTree → Bool
is_some_params [] = false
is_some_params _ = true

-- without a comma behind the last
abbrev pub listed : {A : Type 0} → List A → Listed A
listed xs = record { items = xs; trailing = false }

-- whether `where` stands there
abbrev pub clause_of : List PredicateTree → Option (Listed PredicateTree)
clause_of [] = None
clause_of (p ∷ ps) = Some (listed (p ∷ ps))

-- a path and `for`, or nothing
abbrev pub trait_spelled : Option PathTree → Where → Spelling
trait_spelled None w = Nothing
trait_spelled (Some p) w = path_spelled p w then keyword w (codes "for")

-- one part after another
abbrev pub head_spelled : HeadTree → Where → Spelling
head_spelled h w =
    generics (is_some_params h.params) (listed h.params) w then
    (trait_spelled h.trait_path w then (type_spelled h.ty false w then where_clause (clause_of h.predicates) w))

-- a head whose own tokens spell it within the deepest level, with parameters as implementations have them
pub record IsHead (h : HeadTree) : Type 0 where
  pub marks : Marks
  pub spelled : head_spelled h top (between_trees h) no_trees marks
  pub within : first_too_deep marks ≡ None
  pub plain : are_plain true h.params ≡ true
