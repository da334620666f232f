-- Types, parameters and predicates of the program are read the same of the same tokens, ranges aside.
use Rattle.std.proofs.Common.{◌≡◌, ℕ, Bool, not, List, map, codes, Option, option_map, Some, None, refl, ap}
use Rattle.dm_stream.specs.Trees.{Trees}
use Rattle.dm_lexer.specs.Written.{unplaced}
use Rattle.dm_ast.specs.declared.plain.Attribute.{Attribute}
use Rattle.dm_read_paths.specs.declared.kind.Mode.TheVariants.{Whole}
use Rattle.dm_ast.specs.Tree.{BoundTree}
use Rattle.dm_ast.specs.Declarations.{Listed, ParamTree, lifetime_param, type_param, const_param, lifetime_predicate, type_predicate}
use Rattle.dm_ast.specs.Keywords.{is_name}
use Rattle.dm_ast.specs.Spelling.{Where, sees, sees_lifetime, sees_word, sees_colon, sees_equals}
use Rattle.dm_ast.specs.TypeGrammar.{ends_bounds}
use Rattle.dm_ast.specs.DeclarationGrammar.{ends_where}
use Rattle.dm_ast.specs.Readers.{Parser}
use Rattle.dm_ast.specs.PlainReaders.{punctuated}
use Rattle.dm_read_paths.specs.TypeReaders as types
use Rattle.dm_read.specs.DeclarationReaders as decl
use Rattle.dm_read.specs.DeclarationReaders.{Parts, read_name, to_listed, read_listed, read_bound_list, ends_lifetimes, read_lifetime_bounds, to_params, read_lifetime_param, read_const_param, read_type_param, read_param_behind, read_param, read_lifetime_predicate, read_type_predicate, read_predicate}
use Rattle.dm_read_paths.specs.WholeReaders.{whole_type, whole_bound, parts}
use Rattle.dm_type_eq.specs.Unplaced.{unplaced_attribute, unplaced_bound, unplaced_constant, unplaced_ident, unplaced_lifetimes, unplaced_type}
use Rattle.dm_reread.specs.Bare.{bare_listed, bare_punctuated, bare_param, bare_predicate}
use Rattle.dm_reread.specs.BareReading.{bare_answer}
use Rattle.dm_reread.specs.TypeLeaves.{read_type}
use Rattle.dm_reread.specs.HeadLeaves.{read_generics, read_where}
use Rattle.dm_reread.proofs.FreeSteps.{ending}
use Rattle.dm_read_laws.proofs.NaturalSteps.{Alike, Natural, Blind, same, both, alike_by, alike_bind, alike_gives_by, alike_gives, alike_and, alike_next, alike_either, at_end_blind, sees_blind, word_blind, lifetime_blind, group_blind, natural_ident, natural_lifetime, natural_word, alike_perhaps, alike_list}
use Rattle.dm_read_laws.proofs.NaturalPlain.{equals_blind, natural_colon, natural_equals, natural_attributes, natural_angles, bare_lifetimes_are, natural_for, natural_constant}
use Rattle.dm_read_laws.proofs.NaturalTypes.{ends_bounds_blind, colon_blind, natural_inner_path, natural_bound, natural_type}

-- ---- small parts

-- items of which each is made bare
abbrev pub bare_items_of : {A : Type 0} → (A → A) → Listed A → Listed A
bare_items_of a xs = record { items = map a xs.items; trailing = xs.trailing }

natural_name : Natural unplaced_ident read_name
natural_name = natural_ident is_name (λ i. refl)

natural_listed : {A : Type 0} {a : A → A} (ends : Trees → Bool) → Blind ends → (item : Where → Parser A) → Natural a item →
    Natural (bare_items_of a) (read_listed ends item)
natural_listed ends e item h l m = alike_gives (alike_list l m 44 ends e (h l m)) to_listed (λ v. refl)

natural_bound_list : (one : Where → Parser BoundTree) → Natural unplaced_bound one → Natural bare_listed (read_bound_list one)
natural_bound_list one h l m = alike_gives (alike_list l m 43 ends_bounds ends_bounds_blind (h l m)) to_listed (λ v. refl)

ends_lifetimes_blind : Blind ends_lifetimes
ends_lifetimes_blind ts = ap not (lifetime_blind ts)

natural_lifetime_bounds : Natural bare_punctuated read_lifetime_bounds
natural_lifetime_bounds l m =
    alike_gives (alike_list l m 43 ends_lifetimes ends_lifetimes_blind (natural_lifetime l m)) punctuated (λ v. refl)

ends_where_blind : Blind ends_where
ends_where_blind ts = simp (at_end_blind, group_blind, sees_blind)

to_params_bare : (o : Option (Listed ParamTree)) →
    to_params (option_map (bare_items_of bare_param) o) ≡ both same (bare_items_of bare_param) (to_params o)
to_params_bare None = refl
to_params_bare (Some ps) = refl

-- the parts that parameters and predicates have
record AreNatural (p : Parts) : Type 0 where
  types : Natural unplaced_type p.types
  bounds : Natural bare_listed p.bounds
  attributes : Natural (map unplaced_attribute) p.attributes
  lifetimes : Natural unplaced_lifetimes p.lifetimes
  constant : Natural unplaced_constant p.constant

module _ (p : Parts) (h : AreNatural p) where
  -- ---- generics

  natural_lifetime_param : (attrs : List Attribute) (l m : ℕ) →
      Alike bare_param (read_lifetime_param p attrs (ending l m)) (read_lifetime_param p (map unplaced_attribute attrs) (ending l 0))
  natural_lifetime_param attrs l m =
      alike_gives_by
      (alike_and (natural_lifetime l m)
      (alike_by (alike_perhaps sees_colon colon_blind (alike_next (natural_colon l m) (natural_lifetime_bounds l m))) bare_lifetimes_are))
      (λ v. lifetime_param attrs v.0 v.1) (λ v. lifetime_param (map unplaced_attribute attrs) v.0 v.1) (λ v. refl)

  natural_const_param : (attrs : List Attribute) (l m : ℕ) →
      Alike bare_param (read_const_param p attrs (ending l m)) (read_const_param p (map unplaced_attribute attrs) (ending l 0))
  natural_const_param attrs l m =
      alike_gives_by
      (alike_next (natural_word (codes "const") l m)
      (alike_and (natural_name l m)
      (alike_next (natural_colon l m)
      (alike_and (h.types l m) (alike_perhaps sees_equals equals_blind (alike_next (natural_equals l m) (h.constant l m)))))))
      (λ v. const_param attrs v.0 v.1.0 v.1.1) (λ v. const_param (map unplaced_attribute attrs) v.0 v.1.0 v.1.1) (λ v. refl)

  natural_type_param : (attrs : List Attribute) (l m : ℕ) →
      Alike bare_param (read_type_param p attrs (ending l m)) (read_type_param p (map unplaced_attribute attrs) (ending l 0))
  natural_type_param attrs l m =
      alike_gives_by
      (alike_and (natural_name l m)
      (alike_and (alike_perhaps sees_colon colon_blind (alike_next (natural_colon l m) (h.bounds l m)))
      (alike_perhaps sees_equals equals_blind (alike_next (natural_equals l m) (h.types l m)))))
      (λ v. type_param attrs v.0 v.1.0 v.1.1) (λ v. type_param (map unplaced_attribute attrs) v.0 v.1.0 v.1.1) (λ v. refl)

  natural_param_behind : (attrs : List Attribute) (l m : ℕ) →
      Alike bare_param (read_param_behind p attrs (ending l m)) (read_param_behind p (map unplaced_attribute attrs) (ending l 0))
  natural_param_behind attrs l m =
      alike_either sees_lifetime lifetime_blind (natural_lifetime_param attrs l m)
      (alike_either (sees_word (codes "const")) (word_blind (codes "const")) (natural_const_param attrs l m) (natural_type_param attrs l m))

  natural_param : Natural bare_param (read_param p)
  natural_param l m = alike_bind _ (h.attributes l m) (λ attrs. natural_param_behind attrs l m)

  natural_generics : Natural (both same (bare_items_of bare_param)) (decl.read_generics p)
  natural_generics l m =
      alike_gives
      (alike_perhaps (sees 60) (sees_blind 60)
      (natural_angles (read_listed (sees 62) (read_param p)) (natural_listed (sees 62) (sees_blind 62) (read_param p) natural_param) l m))
      to_params to_params_bare

  -- ---- predicates

  natural_lifetime_predicate : Natural bare_predicate (read_lifetime_predicate p)
  natural_lifetime_predicate l m =
      alike_gives (alike_and (natural_lifetime l m) (alike_next (natural_colon l m) (natural_lifetime_bounds l m)))
      (λ v. lifetime_predicate v.0 v.1) (λ v. refl)

  natural_type_predicate : Natural bare_predicate (read_type_predicate p)
  natural_type_predicate l m =
      alike_gives (alike_and (h.lifetimes l m) (alike_and (h.types l m) (alike_next (natural_colon l m) (h.bounds l m))))
      (λ v. type_predicate v.0 v.1.0 v.1.1) (λ v. refl)

  natural_predicate : Natural bare_predicate (read_predicate p)
  natural_predicate l m = alike_either sees_lifetime lifetime_blind (natural_lifetime_predicate l m) (natural_type_predicate l m)

  natural_where : Natural (option_map (bare_items_of bare_predicate)) (decl.read_where p)
  natural_where l m =
      alike_perhaps (sees_word (codes "where")) (word_blind (codes "where"))
      (alike_next (natural_word (codes "where") l m)
      (natural_listed ends_where ends_where_blind (read_predicate p) natural_predicate l m))

-- ---- the readers of the program

natural_whole_type : Natural unplaced_type whole_type
unfolding whole_type
natural_whole_type l m = natural_type 129 Whole l m

natural_whole_bound : Natural unplaced_bound whole_bound
unfolding whole_bound
natural_whole_bound l m =
    natural_bound (types.read_type 129) (natural_type 129) (types.inner_path (types.read_type 129))
    (natural_inner_path (types.read_type 129) (natural_type 129)) l m

natural_parts : AreNatural parts
natural_parts =
    record {
      types = natural_whole_type;
      bounds = natural_bound_list whole_bound natural_whole_bound;
      attributes = natural_attributes;
      lifetimes = natural_for;
      constant = natural_constant;
    }

-- ---- what stands at the top

pub type_natural : (ts : Trees) → read_type (unplaced ts) ≡ bare_answer unplaced_type (read_type ts)
type_natural ts = (natural_whole_type 0 0).at ts

pub generics_natural : (ts : Trees) →
    read_generics (unplaced ts) ≡ bare_answer (both same (bare_items_of bare_param)) (read_generics ts)
generics_natural ts = (natural_generics parts natural_parts 0 0).at ts

pub where_natural : (ts : Trees) →
    read_where (unplaced ts) ≡ bare_answer (option_map (bare_items_of bare_predicate)) (read_where ts)
where_natural ts = (natural_where parts natural_parts 0 0).at ts
