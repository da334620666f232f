-- Where declarations, types and bounds are refused: at a place in the trees, and as too deep only behind more than 128 openers.
use Rattle.std.proofs.Common.{◌≡◌, ℕ, Bool, false, List, codes, Option, Some, None, Ok, Err, refl, sym, ap, ◌∙◌, subst, arith}
use Rattle.dm_stream.specs.declared.tokens.Span.{Span}
use Rattle.dm_stream.specs.declared.tokens.Delim.{Delim}
use Rattle.dm_stream.specs.declared.tokens.Delim.TheVariants.{Paren, Brace}
use Rattle.dm_stream.specs.declared.error.Refusal.{Refusal}
use Rattle.dm_stream.specs.Trees.{Trees, no_trees, flatten}
use Rattle.dm_stream.proofs.Trees.{flatten-join}
use Rattle.dm_expr.specs.Cuts.{run_at}
use Rattle.dm_expr.proofs.Joining.{split_joins}
use Rattle.dm_ast.specs.declared.plain.Attribute.{Attribute}
use Rattle.dm_ast.specs.declared.plain.Opaque.{Opaque}
use Rattle.dm_read_paths.specs.declared.kind.Mode.TheVariants.{Whole, PathOnly}
use Rattle.dm_ast.specs.Tree.{BoundTree}
use Rattle.dm_ast.specs.Declarations.{named, unnamed, unit, ShapeTree, enum_shape, union_shape, lifetime_param, type_param, const_param, lifetime_predicate, type_predicate}
use Rattle.dm_ast.specs.Keywords.{is_name}
use Rattle.dm_ast.specs.Spelling.{Where, deeper, first_too_deep, marks_of, at_end, sees, sees_group, sees_lifetime, sees_word, sees_colon, sees_equals, is_word}
use Rattle.dm_ast.specs.TypeGrammar.{ends_bounds}
use Rattle.dm_ast.specs.DeclarationGrammar.{ends_where}
use Rattle.dm_ast.specs.Readers.{Outcome, Parser, and_then, inside_at, refuse, ended, read_group, if_shallow}
use Rattle.dm_ast.specs.PlainReaders.{punctuated}
use Rattle.dm_read_paths.specs.TypeReaders.{read_type, inner_path}
use Rattle.dm_read.specs.DeclarationReaders.{Parts, read_name, read_word_at, to_listed, read_listed, read_bound_list, ends_lifetimes, read_lifetime_bounds, to_params, to_field, to_slot, to_variant, to_struct, to_braced, to_declaration, value_of, read_lifetime_param, read_const_param, read_type_param, read_param_behind, read_param, read_generics, read_lifetime_predicate, read_type_predicate, read_predicate, read_where, read_field, read_slot, read_fields, read_slots, read_variant_fields, read_discriminant, read_variant, read_variants, read_named_or_unit, read_struct_body, read_struct, read_braced, read_shape, read_front, read_declaration}
use Rattle.dm_ast.specs.Runs.{cut_run, behind_run, if_cut, read_run}
use Rattle.dm_read_paths.specs.WholeReaders.{whole_type, whole_bound, parts}
use Rattle.dm_ast.specs.Places.{IsBehind, IsRefusedAt}
use Rattle.dm_grammar_laws.proofs.LicensedSteps.{Licensed}
use Rattle.dm_read.proofs.Deciding.{pair}
use Rattle.dm_grammar_laws.proofs.Licensing.{Licenses, deep_by, all_behind, marks_deep, licensed_test, licensed_bind, licensed_any, licensed_gives, licensed_and, licensed_next, licensed_till, licensed_either, licensed_nothing, refused_outcome, licensed_ident, licensed_lifetime, licensed_punct, licensed_word, licensed_group, licensed_perhaps, licensed_list, licensed_ranged}
use Rattle.dm_grammar_laws.proofs.LicensedParts.{licensed_colon, licensed_equals, licensed_attributes, licensed_angles, licensed_for, licensed_constant, licensed_visibility}
use Rattle.dm_grammar_laws.proofs.LicensedTypes.{licensed_inner_path, licensed_bound, licensed_type}

-- ---- discriminants

module _ (w : Where) (ts : Trees) where
  -- what is behind the run in front
  run_behind : (front others : Trees) → cut_run ts ≡ Some (front, others) → IsBehind 0 ts others
  run_behind front others e =
      record { front = flatten front; splits = ap flatten (split_joins (run_at false ts) ts front others e) ∙ flatten-join front others; opened = omega arith }

  shallow_outcome : (front others : Trees) → cut_run ts ≡ Some (front, others) → (found : Option Span) → first_too_deep (marks_of w.level front) ≡ found →
      Licensed 0 w ts (behind_run others (if_shallow found (record { trees = front; limit = w.limit })))
  shallow_outcome front others e None f = run_behind front others e
  shallow_outcome front others e (Some span) f =
      subst (λ us. IsRefusedAt w.level w.limit (deep_by span) us) (sym (split_joins (run_at false ts) ts front others e))
      (marks_deep w.level w.limit span front others f)

  cut_outcome : (found : Option (Trees × Trees)) → cut_run ts ≡ found → Licensed 0 w ts (if_cut w ts found)
  cut_outcome None e = refused_outcome Opaque 0 w ts
  cut_outcome (Some r) e = shallow_outcome r.0 r.1 e (first_too_deep (marks_of w.level r.0)) refl

licensed_run : (w : Where) → Licenses 0 w (read_run w)
licensed_run w = record { at = λ ts. cut_outcome w ts (cut_run ts) refl }

-- ---- small parts

licensed_name : (w : Where) → Licenses 0 w (read_name w)
licensed_name w = licensed_ident is_name w

licensed_word_at : (word : List ℕ) (w : Where) → Licenses 0 w (read_word_at word w)
licensed_word_at word w = licensed_gives (licensed_ident (is_word word) w) (λ i. i.span)

licensed_listed : {A : Type 0} (ends : Trees → Bool) (item : Where → Parser A) (w : Where) → Licenses 0 w (item w) → Licenses 0 w (read_listed ends item w)
licensed_listed ends item w h = licensed_gives (licensed_list 44 ends h) to_listed

-- a list in a group
licensed_enclosed : {A : Type 0} (d : Delim) (item : Where → Parser A) → ((w : Where) → Licenses 0 w (item w)) → (w : Where) →
    Licenses 0 w (read_group d (read_listed at_end item) w)
licensed_enclosed d item h w =
    licensed_any (licensed_group d (read_listed at_end item) w (λ limit. licensed_listed at_end item (inside_at w limit) (h (inside_at w limit))))

licensed_bound_list : (one : Where → Parser BoundTree) (w : Where) → Licenses 0 w (one w) → Licenses 0 w (read_bound_list one w)
licensed_bound_list one w h = licensed_gives (licensed_list 43 ends_bounds h) to_listed

licensed_lifetime_bounds : (w : Where) → Licenses 0 w (read_lifetime_bounds w)
licensed_lifetime_bounds w = licensed_gives (licensed_list 43 ends_lifetimes (licensed_lifetime w)) punctuated

-- the parts of a declaration are licensed
record AreLicensed (p : Parts) : Type 0 where
  types : (w : Where) → Licenses 0 w (p.types w)
  bounds : (w : Where) → Licenses 0 w (p.bounds w)
  attributes : (w : Where) → Licenses 0 w (p.attributes w)
  visibility : (w : Where) → Licenses 0 w (p.visibility w)
  lifetimes : (w : Where) → Licenses 0 w (p.lifetimes w)
  constant : (w : Where) → Licenses 0 w (p.constant w)
  run : (w : Where) → Licenses 0 w (p.run w)

module _ (p : Parts) (h : AreLicensed p) where
  -- ---- generics

  licensed_lifetime_param : (attrs : List Attribute) (w : Where) → Licenses 0 w (read_lifetime_param p attrs w)
  licensed_lifetime_param attrs w =
      licensed_gives (licensed_and (licensed_lifetime w) (licensed_perhaps sees_colon (licensed_next (licensed_colon w) (licensed_lifetime_bounds w))))
      (λ v. lifetime_param attrs v.0 v.1)

  licensed_const_param : (attrs : List Attribute) (w : Where) → Licenses 0 w (read_const_param p attrs w)
  licensed_const_param attrs w =
      licensed_gives
      (licensed_next (licensed_word (codes "const") w)
      (licensed_and (licensed_name w)
      (licensed_next (licensed_colon w) (licensed_and (h.types w) (licensed_perhaps sees_equals (licensed_next (licensed_equals w) (h.constant w)))))))
      (λ v. const_param attrs v.0 v.1.0 v.1.1)

  licensed_type_param : (attrs : List Attribute) (w : Where) → Licenses 0 w (read_type_param p attrs w)
  licensed_type_param attrs w =
      licensed_gives
      (licensed_and (licensed_name w)
      (licensed_and (licensed_perhaps sees_colon (licensed_next (licensed_colon w) (h.bounds w)))
      (licensed_perhaps sees_equals (licensed_next (licensed_equals w) (h.types w)))))
      (λ v. type_param attrs v.0 v.1.0 v.1.1)

  licensed_param_behind : (attrs : List Attribute) (w : Where) → Licenses 0 w (read_param_behind p attrs w)
  licensed_param_behind attrs w =
      licensed_either sees_lifetime (licensed_lifetime_param attrs w)
      (licensed_either (sees_word (codes "const")) (licensed_const_param attrs w) (licensed_type_param attrs w))

  licensed_param : (w : Where) → Licenses 0 w (read_param p w)
  licensed_param w =
      record {
        at = λ ts. licensed_bind w ts (p.attributes w ts) (λ attrs. read_param_behind p attrs w) ((h.attributes w).at ts)
            (λ attrs. (licensed_param_behind attrs w).at);
      }

  licensed_generics : (w : Where) → Licenses 0 w (read_generics p w)
  licensed_generics w =
      licensed_gives
      (licensed_perhaps (sees 60) (licensed_any (licensed_angles (read_listed (sees 62) (read_param p)) w
      (licensed_listed (sees 62) (read_param p) (deeper w) (licensed_param (deeper w))))))
      to_params

  -- ---- predicates

  licensed_lifetime_predicate : (w : Where) → Licenses 0 w (read_lifetime_predicate p w)
  licensed_lifetime_predicate w =
      licensed_gives (licensed_and (licensed_lifetime w) (licensed_next (licensed_colon w) (licensed_lifetime_bounds w))) (λ v. lifetime_predicate v.0 v.1)

  licensed_type_predicate : (w : Where) → Licenses 0 w (read_type_predicate p w)
  licensed_type_predicate w =
      licensed_gives (licensed_and (h.lifetimes w) (licensed_and (h.types w) (licensed_next (licensed_colon w) (h.bounds w))))
      (λ v. type_predicate v.0 v.1.0 v.1.1)

  licensed_predicate : (w : Where) → Licenses 0 w (read_predicate p w)
  licensed_predicate w = licensed_either sees_lifetime (licensed_lifetime_predicate w) (licensed_type_predicate w)

  licensed_where : (w : Where) → Licenses 0 w (read_where p w)
  licensed_where w =
      licensed_perhaps (sees_word (codes "where"))
      (licensed_next (licensed_word (codes "where") w) (licensed_listed ends_where (read_predicate p) w (licensed_predicate w)))

  -- ---- fields and variants

  licensed_field : (w : Where) → Licenses 0 w (read_field p w)
  licensed_field w =
      licensed_gives
      (licensed_ranged
      (licensed_and (h.attributes w) (licensed_and (h.visibility w) (licensed_and (licensed_till (licensed_name w) (licensed_colon w)) (h.types w))))) to_field

  licensed_slot : (w : Where) → Licenses 0 w (read_slot p w)
  licensed_slot w = licensed_gives (licensed_ranged (licensed_and (h.attributes w) (licensed_and (h.visibility w) (h.types w)))) to_slot

  licensed_fields : (w : Where) → Licenses 0 w (read_fields p w)
  licensed_fields = licensed_enclosed Brace (read_field p) licensed_field

  licensed_slots : (w : Where) → Licenses 0 w (read_slots p w)
  licensed_slots = licensed_enclosed Paren (read_slot p) licensed_slot

  licensed_variant_fields : (w : Where) → Licenses 0 w (read_variant_fields p w)
  licensed_variant_fields w =
      licensed_either (sees_group Brace) (licensed_gives (licensed_fields w) named)
      (licensed_either (sees_group Paren) (licensed_gives (licensed_slots w) unnamed) (licensed_nothing unit))

  licensed_discriminant : (w : Where) → Licenses 0 w (read_discriminant p w)
  licensed_discriminant w = licensed_perhaps sees_equals (licensed_next (licensed_equals w) (h.run w))

  licensed_variant : (w : Where) → Licenses 0 w (read_variant p w)
  licensed_variant w =
      licensed_gives
      (licensed_ranged
      (licensed_and (h.attributes w)
      (licensed_and (h.visibility w) (licensed_and (licensed_name w) (licensed_and (licensed_variant_fields w) (licensed_discriminant w)))))) to_variant

  licensed_variants : (w : Where) → Licenses 0 w (read_variants p w)
  licensed_variants = licensed_enclosed Brace (read_variant p) licensed_variant

  -- ---- the three shapes

  licensed_named_or_unit : (w : Where) → Licenses 0 w (read_named_or_unit p w)
  licensed_named_or_unit w =
      licensed_either (sees_group Brace) (licensed_gives (licensed_fields w) named) (licensed_gives (licensed_punct 59 w) (λ _. unit))

  licensed_struct_body : (w : Where) → Licenses 0 w (read_struct_body p w)
  licensed_struct_body w =
      licensed_either (sees_group Paren)
      (licensed_gives (licensed_and (licensed_slots w) (licensed_till (licensed_where w) (licensed_punct 59 w))) (λ v. (unnamed v.0, v.1)))
      (licensed_gives (licensed_and (licensed_where w) (licensed_named_or_unit w)) (λ v. (v.1, v.0)))

  licensed_struct : (w : Where) → Licenses 0 w (read_struct p w)
  licensed_struct w =
      licensed_gives
      (licensed_and (licensed_word_at (codes "struct") w) (licensed_and (licensed_name w)
      (licensed_and (licensed_generics w) (licensed_struct_body w)))) to_struct

  licensed_braced : {A : Type 0} (word : List ℕ) (body : Where → Parser A) (build : Span → A → ShapeTree) (w : Where) → Licenses 0 w (body w) →
      Licenses 0 w (read_braced p word body build w)
  licensed_braced word body build w g =
      licensed_gives
      (licensed_and (licensed_word_at word w) (licensed_and (licensed_name w) (licensed_and (licensed_generics w) (licensed_and (licensed_where w) g))))
      (to_braced build)

  licensed_shape : (w : Where) → Licenses 0 w (read_shape p w)
  licensed_shape w =
      licensed_either (sees_word (codes "struct")) (licensed_struct w)
      (licensed_either (sees_word (codes "enum")) (licensed_braced (codes "enum") (read_variants p) enum_shape w (licensed_variants w))
      (licensed_braced (codes "union") (read_fields p) union_shape w (licensed_fields w)))

  licensed_front : (w : Where) → Licenses 0 w (read_front p w)
  licensed_front w = licensed_gives (licensed_and (h.attributes w) (licensed_and (h.visibility w) (licensed_shape w))) to_declaration

  -- ---- the whole declaration

  ended_outcome : {A : Type 0} (w : Where) (x : A) (left : Trees) → Licensed 0 w left (ended w no_trees x left)
  ended_outcome {A} w x left = licensed_test 0 w left (at_end left) (Ok (pair x no_trees)) (refuse w left) (λ _. all_behind left)
      (λ _. refused_outcome A 0 w left)

  value_outcome : {A : Type 0} (w : Where) (ts : Trees) (o : Outcome A) → Licensed 0 w ts o → (r : Refusal) → value_of o ≡ Err r →
      IsRefusedAt w.level w.limit r ts
  value_outcome w ts (Ok v) g r e = absurd (cc)
  value_outcome w ts (Err q) g r e =
      let same : q ≡ r = cc in
      subst (λ x. IsRefusedAt w.level w.limit x ts) same g

  declaration_refused_by : (limit : ℕ) (ts : Trees) (r : Refusal) → read_declaration p limit ts ≡ Err r → IsRefusedAt 0 limit r ts
  declaration_refused_by limit ts =
      let w : Where = record { level = 0; limit = limit } in
      value_outcome w ts (and_then (read_front p w ts) (ended w no_trees))
      (licensed_bind w ts (read_front p w ts) (ended w no_trees) ((licensed_front w).at ts) (λ x. ended_outcome w x))

-- ---- types, bounds and declarations of the program

licensed_whole_type : (w : Where) → Licenses 0 w (whole_type w)
unfolding whole_type
licensed_whole_type w = licensed_type 129 Whole w (omega arith)

licensed_whole_bound : (w : Where) → Licenses 0 w (whole_bound w)
unfolding whole_bound
licensed_whole_bound w =
    licensed_bound (read_type 129) (inner_path (read_type 129)) w (λ v _. licensed_inner_path (read_type 129) v (licensed_type 129 PathOnly v (omega arith)))

pub refused_there : {A : Type 0} {w : Where} {p : Parser A} → Licenses 0 w p → (ts : Trees) (r : Refusal) → p ts ≡ Err r → IsRefusedAt w.level w.limit r ts
refused_there {A} {w} {p} h ts r e = subst (λ o. Licensed 0 w ts o) e (h.at ts)

pub type_refused_at : (w : Where) (ts : Trees) (r : Refusal) → whole_type w ts ≡ Err r → IsRefusedAt w.level w.limit r ts
type_refused_at w = refused_there (licensed_whole_type w)

pub bound_refused_at : (w : Where) (ts : Trees) (r : Refusal) → whole_bound w ts ≡ Err r → IsRefusedAt w.level w.limit r ts
bound_refused_at w = refused_there (licensed_whole_bound w)

whole_parts : AreLicensed parts
whole_parts =
    record {
      types = licensed_whole_type;
      bounds = λ w. licensed_bound_list whole_bound w (licensed_whole_bound w);
      attributes = licensed_attributes;
      visibility = licensed_visibility;
      lifetimes = licensed_for;
      constant = licensed_constant;
      run = licensed_run;
    }

pub declaration_refused_at : (limit : ℕ) (ts : Trees) (r : Refusal) → read_declaration parts limit ts ≡ Err r → IsRefusedAt 0 limit r ts
declaration_refused_at = declaration_refused_by parts whole_parts

pub licensed_predicates : (w : Where) → Licenses 0 w (read_listed at_end (read_predicate parts) w)
licensed_predicates w = licensed_listed at_end (read_predicate parts) w (licensed_predicate parts whole_parts w)
