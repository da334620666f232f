-- Types, parameters and predicates of the program are read alike wherever their list ends.
use Rattle.std.proofs.Common.{◌≡◌, ℕ, Bool, List, codes}
use Rattle.dm_stream.specs.Trees.{Trees}
use Rattle.dm_ast.specs.declared.plain.Attribute.{Attribute}
use Rattle.dm_read_paths.specs.declared.kind.Mode.TheVariants.{Whole}
use Rattle.dm_ast.specs.Tree.{BoundTree}
use Rattle.dm_ast.specs.Declarations.{lifetime_param, type_param, const_param, lifetime_predicate, type_predicate}
use Rattle.dm_ast.specs.Keywords.{is_name}
use Rattle.dm_ast.specs.Spelling.{Where, sees, sees_lifetime, sees_word, sees_colon, sees_equals}
use Rattle.dm_ast.specs.TypeGrammar.{ends_bounds}
use Rattle.dm_ast.specs.DeclarationGrammar.{ends_where}
use Rattle.dm_ast.specs.Readers.{Parser}
use Rattle.dm_ast.specs.PlainReaders.{punctuated}
use Rattle.dm_read_paths.specs.TypeReaders as types
use Rattle.dm_read.specs.DeclarationReaders as decl
use Rattle.dm_read.specs.DeclarationReaders.{Parts, read_name, to_listed, read_listed, read_bound_list, ends_lifetimes, read_lifetime_bounds, to_params, read_lifetime_param, read_const_param, read_type_param, read_param_behind, read_param, read_lifetime_predicate, read_type_predicate, read_predicate}
use Rattle.dm_read_paths.specs.WholeReaders.{whole_type, whole_bound, parts}
use Rattle.dm_reread.specs.TypeLeaves.{answer_of, read_type}
use Rattle.dm_reread.specs.HeadLeaves.{read_generics, read_where}
use Rattle.dm_reread.proofs.FreeSteps.{Free, same_bind, same_gives, same_and, same_next, same_either, free_ident, free_lifetime, free_word, same_perhaps, same_list}
use Rattle.dm_reread.proofs.FreePlain.{free_colon, free_equals, free_attributes, free_angles, free_for, free_constant}
use Rattle.dm_reread.proofs.FreeTypes.{free_inner_path, free_bound, free_type}

-- ---- small parts

free_name : Free read_name
free_name = free_ident is_name

free_listed : {A : Type 0} (ends : Trees → Bool) (item : Where → Parser A) → Free item → Free (read_listed ends item)
free_listed ends item h l m n = same_gives (same_list l m n 44 ends (h l m n)) to_listed

free_bound_list : (one : Where → Parser BoundTree) → Free one → Free (read_bound_list one)
free_bound_list one h l m n = same_gives (same_list l m n 43 ends_bounds (h l m n)) to_listed

free_lifetime_bounds : Free read_lifetime_bounds
free_lifetime_bounds l m n = same_gives (same_list l m n 43 ends_lifetimes (free_lifetime l m n)) punctuated

-- the parts that parameters and predicates have
record AreFree (p : Parts) : Type 0 where
  types : Free p.types
  bounds : Free p.bounds
  attributes : Free p.attributes
  lifetimes : Free p.lifetimes
  constant : Free p.constant

module _ (p : Parts) (h : AreFree p) where
  -- ---- generics

  free_lifetime_param : (attrs : List Attribute) → Free (read_lifetime_param p attrs)
  free_lifetime_param attrs l m n =
      same_gives
      (same_and (free_lifetime l m n) (same_perhaps sees_colon (same_next (free_colon l m n) (free_lifetime_bounds l m n))))
      (λ v. lifetime_param attrs v.0 v.1)

  free_const_param : (attrs : List Attribute) → Free (read_const_param p attrs)
  free_const_param attrs l m n =
      same_gives
      (same_next (free_word (codes "const") l m n)
      (same_and (free_name l m n)
      (same_next (free_colon l m n)
      (same_and (h.types l m n) (same_perhaps sees_equals (same_next (free_equals l m n) (h.constant l m n)))))))
      (λ v. const_param attrs v.0 v.1.0 v.1.1)

  free_type_param : (attrs : List Attribute) → Free (read_type_param p attrs)
  free_type_param attrs l m n =
      same_gives
      (same_and (free_name l m n)
      (same_and (same_perhaps sees_colon (same_next (free_colon l m n) (h.bounds l m n)))
      (same_perhaps sees_equals (same_next (free_equals l m n) (h.types l m n)))))
      (λ v. type_param attrs v.0 v.1.0 v.1.1)

  free_param_behind : (attrs : List Attribute) → Free (read_param_behind p attrs)
  free_param_behind attrs l m n =
      same_either sees_lifetime (free_lifetime_param attrs l m n)
      (same_either (sees_word (codes "const")) (free_const_param attrs l m n) (free_type_param attrs l m n))

  free_param : Free (read_param p)
  free_param l m n = same_bind (h.attributes l m n) (λ attrs. free_param_behind attrs l m n)

  free_generics : Free (decl.read_generics p)
  free_generics l m n =
      same_gives
      (same_perhaps (sees 60)
      (free_angles (read_listed (sees 62) (read_param p)) (free_listed (sees 62) (read_param p) free_param) l m n)) to_params

  -- ---- predicates

  free_lifetime_predicate : Free (read_lifetime_predicate p)
  free_lifetime_predicate l m n =
      same_gives (same_and (free_lifetime l m n) (same_next (free_colon l m n) (free_lifetime_bounds l m n)))
      (λ v. lifetime_predicate v.0 v.1)

  free_type_predicate : Free (read_type_predicate p)
  free_type_predicate l m n =
      same_gives (same_and (h.lifetimes l m n) (same_and (h.types l m n) (same_next (free_colon l m n) (h.bounds l m n))))
      (λ v. type_predicate v.0 v.1.0 v.1.1)

  free_predicate : Free (read_predicate p)
  free_predicate l m n = same_either sees_lifetime (free_lifetime_predicate l m n) (free_type_predicate l m n)

  free_where : Free (decl.read_where p)
  free_where l m n =
      same_perhaps (sees_word (codes "where"))
      (same_next (free_word (codes "where") l m n) (free_listed ends_where (read_predicate p) free_predicate l m n))

-- ---- the readers of the program

free_whole_type : Free whole_type
unfolding whole_type
free_whole_type l m n = free_type 129 Whole l m n

free_whole_bound : Free whole_bound
unfolding whole_bound
free_whole_bound l m n =
    free_bound (types.read_type 129) (types.inner_path (types.read_type 129)) (free_inner_path (types.read_type 129) (free_type 129)) l m n

whole_parts : AreFree parts
whole_parts =
    record {
      types = free_whole_type;
      bounds = free_bound_list whole_bound free_whole_bound;
      attributes = free_attributes;
      lifetimes = free_for;
      constant = free_constant;
    }

-- ---- what stands at the top is read as if its list ended at 0

pub type_free : (limit : ℕ) (ts : Trees) → answer_of (whole_type (record { level = 0; limit = limit }) ts) ≡ read_type ts
type_free limit ts = (free_whole_type 0 limit 0).at ts

pub generics_free : (limit : ℕ) (ts : Trees) →
    answer_of (decl.read_generics parts (record { level = 0; limit = limit }) ts) ≡ read_generics ts
generics_free limit ts = (free_generics parts whole_parts 0 limit 0).at ts

pub where_free : (limit : ℕ) (ts : Trees) → answer_of (decl.read_where parts (record { level = 0; limit = limit }) ts) ≡ read_where ts
where_free limit ts = (free_where parts whole_parts 0 limit 0).at ts
