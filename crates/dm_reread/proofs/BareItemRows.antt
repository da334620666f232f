-- Implementations are read the same of the same tokens, ranges aside.
use Rattle.std.specs.Prelude.{◌≡◌, ℕ, zero, suc, Bool, true, false, List, [], ◌∷◌, map, option_map, refl}
use Rattle.std.proofs.Common.{ap, ◌∙◌}
use Rattle.dm_stream.specs.declared.tokens.Token.TheVariants as t
use Rattle.dm_stream.specs.Trees.{Trees, no_trees, token, group}
use Rattle.dm_lexer.specs.Written.{unplaced}
use Rattle.dm_ast.specs.Keywords.{is_name}
use Rattle.dm_output.specs.Output.{AssocTree}
use Rattle.dm_output.specs.declared.item.ItemAttr.{ItemAttr}
use Rattle.dm_output.specs.declared.item.Receiver.{Receiver}
use Rattle.dm_output.specs.declared.item.Receiver.TheVariants as receiver
use Rattle.dm_type_eq.specs.Unplaced.{unplaced_type}
use Rattle.dm_reread.specs.Bare.{bare_block, bare_assoc, bare_param_of, bare_method, bare_item}
use Rattle.dm_reread.specs.BareReading.{bare_next, bare_rest, bare_answer, bare_inputs, bare_head, NaturalLeaves, NaturalItems}
use Rattle.dm_reread.specs.Unplaced.{bare_items}
use Rattle.dm_reread.specs.Next.{k_const, k_mut, k_type, k_fn, k_impl, Next, ended, amp, hash, comma, arrow, in_parens, in_braces, in_brackets, a_name, a_word, next}
use Rattle.dm_reread.specs.Leaves.{Answer, Leaves}
use Rattle.dm_reread.specs.Whole.{size}
use Rattle.dm_reread.specs.Items.{HeadTree, ItemLeaves, same_words, attr_among, attr_bracket, attrs_from, read_attrs, assoc_from, assocs_from, read_assocs, param_from, behind_receiver, self_from, ref_input, read_inputs, inputs_after, output_after, body_after, name_of_method, fn_from, const_or_fn, read_method, read_methods, impl_after, members_of, braces_of_item, read_item, items_with, read_items}
use Rattle.dm_reread.proofs.BareNext.{next-bare, size-bare, passing, chained, either, whole-bare, semicolon-bare, assigns-bare, colon-bare}
use Rattle.dm_reread.proofs.BareBlockRows.{read-inside-bare}
use Rattle.dm_reread.proofs.PartLists.{parts-bare}

-- ---- attributes

same-words-bare : (us ts : Trees) → same_words us (unplaced ts) ≡ same_words us ts
same-words-bare no_trees no_trees = refl
same-words-bare (token (t.Ident i) us) (token (t.Ident j) ts) = simp (same-words-bare us ts)
same-words-bare (token (t.Punct p) us) (token (t.Punct q) ts) = simp (same-words-bare us ts)
same-words-bare (token k us) (token j ts) = refl
same-words-bare (group d from inside upto us) (group e start behind stop ts) = simp (same-words-bare inside behind, same-words-bare us ts)
same-words-bare _ _ = refl

among-bare : (as' : List ItemAttr) (ts : Trees) → attr_among as' (unplaced ts) ≡ attr_among as' ts
among-bare [] ts = refl
among-bare (a ∷ as') ts = simp (same-words-bare, among-bare as' ts)

-- attributes behind the first
abbrev More : (Trees → Answer (List ItemAttr)) → Type 0
More more = (ts : Trees) → more (unplaced ts) ≡ option_map bare_rest (more ts)

bracket-bare : (more : Trees → Answer (List ItemAttr)) → More more → (n : Next) →
    attr_bracket more (bare_next n) ≡ option_map bare_rest (attr_bracket more n)
bracket-bare more h (in_brackets inside ts) = simp (among-bare, h, passing)
bracket-bare more h _ = refl

attrs-from-bare : (more : Trees → Answer (List ItemAttr)) → More more → (ts : Trees) (n : Next) →
    attrs_from more (unplaced ts) (bare_next n) ≡ option_map bare_rest (attrs_from more ts n)
attrs-from-bare more h ts (hash us) = rw (next-bare us) (bracket-bare more h (next us))
attrs-from-bare more h ts _ = refl

attrs-bare : (n : ℕ) (ts : Trees) → read_attrs n (unplaced ts) ≡ option_map bare_rest (read_attrs n ts)
attrs-bare zero ts = refl
attrs-bare (suc n) ts = rw (next-bare ts) (attrs-from-bare (read_attrs n) (attrs-bare n) ts (next ts))

all-attrs-bare : (ts : Trees) → read_attrs (suc (size (unplaced ts))) (unplaced ts) ≡ option_map bare_rest (read_attrs (suc (size ts)) ts)
all-attrs-bare ts = ap (λ n. read_attrs (suc n) (unplaced ts)) (size-bare ts) ∙ attrs-bare (suc (size ts)) ts

module _ (l : Leaves) (N : NaturalLeaves l) where
  -- ---- associated types

  assoc-bare : (n : Next) → assoc_from l (bare_next n) ≡ bare_answer bare_assoc (assoc_from l n)
  assoc-bare (a_name i ts) = simp (assigns-bare, N.type, semicolon-bare, passing)
  assoc-bare _ = refl

  assocs-from-bare : (more : Trees → Answer (List AssocTree)) →
      ((ts : Trees) → more (unplaced ts) ≡ bare_answer (map bare_assoc) (more ts)) →
      (ts : Trees) (n : Next) → assocs_from l more (unplaced ts) (bare_next n) ≡ bare_answer (map bare_assoc) (assocs_from l more ts n)
  assocs-from-bare more h ts (a_word k_type us) = simp (assoc-bare, h, passing)
  assocs-from-bare more h ts _ = refl

  pub assocs-bare : (n : ℕ) (ts : Trees) → read_assocs l n (unplaced ts) ≡ bare_answer (map bare_assoc) (read_assocs l n ts)
  assocs-bare zero ts = refl
  assocs-bare (suc n) ts = rw (next-bare ts) (assocs-from-bare (read_assocs l n) (assocs-bare n) ts (next ts))

  -- ---- methods

  param-bare : (n : Next) → param_from l (bare_next n) ≡ option_map bare_param_of (param_from l n)
  param-bare (a_name i ts) = simp (colon-bare, N.type, whole-bare, passing)
  param-bare _ = refl

  behind-bare : (r : Receiver) (n : Next) → behind_receiver l r (bare_next n) ≡ option_map bare_inputs (behind_receiver l r n)
  behind-bare r ended = refl
  behind-bare r (comma ts) = simp (param-bare, passing)
  behind-bare r _ = refl

  self-bare : (r : Receiver) (n : Next) → self_from l r (bare_next n) ≡ option_map bare_inputs (self_from l r n)
  self-bare r (a_name i ts) = simp (behind-bare, passing)
  self-bare r _ = refl

  ref-bare : (n : Next) → ref_input l (bare_next n) ≡ option_map bare_inputs (ref_input l n)
  ref-bare (a_word k_mut ts) = rw (next-bare ts) (self-bare receiver.RefMut (next ts))
  ref-bare n = self-bare receiver.Ref n

  inputs-bare : (n : Next) → read_inputs l (bare_next n) ≡ option_map bare_inputs (read_inputs l n)
  inputs-bare ended = refl
  inputs-bare (amp ts) = rw (next-bare ts) (ref-bare (next ts))
  inputs-bare (a_name i ts) =
      either _ (is_name i) _ _ _ _ (chained _ _ _ _ _ _ (param-bare (a_name i ts)) (λ p. refl)) (self-bare receiver.Value (a_name i ts))
  inputs-bare _ = refl

  inputs-after-bare : (n : Next) → inputs_after l (bare_next n) ≡ bare_answer bare_inputs (inputs_after l n)
  inputs-after-bare (in_parens inside ts) = simp (inputs-bare, passing)
  inputs-after-bare _ = refl

  output-bare : (ts : Trees) (n : Next) →
      output_after l (unplaced ts) (bare_next n) ≡ bare_answer (option_map unplaced_type) (output_after l ts n)
  output-bare ts (arrow us) = simp (N.type, passing)
  output-bare ts _ = refl

  body-bare : (n : Next) → body_after l (bare_next n) ≡ bare_answer bare_block (body_after l n)
  body-bare (in_braces inside ts) = simp (read-inside-bare l N, passing)
  body-bare _ = refl

  name-bare : (as' : List ItemAttr) (b : Bool) (n : Next) →
      name_of_method l as' b (bare_next n) ≡ bare_answer bare_method (name_of_method l as' b n)
  name-bare as' b (a_name i ts) = simp (inputs-after-bare, output-bare, body-bare, passing)
  name-bare as' b _ = refl

  fn-bare : (as' : List ItemAttr) (b : Bool) (n : Next) → fn_from l as' b (bare_next n) ≡ bare_answer bare_method (fn_from l as' b n)
  fn-bare as' b (a_word k_fn ts) = rw (next-bare ts) (name-bare as' b (next ts))
  fn-bare as' b _ = refl

  const-bare : (as' : List ItemAttr) (n : Next) → const_or_fn l as' (bare_next n) ≡ bare_answer bare_method (const_or_fn l as' n)
  const-bare as' (a_word k_const ts) = rw (next-bare ts) (fn-bare as' true (next ts))
  const-bare as' n = fn-bare as' false n

  method-bare : (ts : Trees) → read_method l (unplaced ts) ≡ bare_answer bare_method (read_method l ts)
  method-bare ts = chained _ _ _ _ _ _ (all-attrs-bare ts) (λ a. rw (next-bare a.1) (const-bare a.0 (next a.1)))

  pub methods-bare : (n : ℕ) (ts : Trees) → read_methods l n (unplaced ts) ≡ option_map (map bare_method) (read_methods l n ts)
  methods-bare = parts-bare (read_method l) bare_method method-bare

-- ---- implementations

impl-bare : (n : Next) → impl_after (bare_next n) ≡ option_map unplaced (impl_after n)
impl-bare (a_word k_impl ts) = refl
impl-bare _ = refl

module _ (l : ItemLeaves) (N : NaturalItems l) where
  -- with the fuel of the text
  all-assocs-bare : (ts : Trees) →
      read_assocs l.parts (suc (size (unplaced ts))) (unplaced ts) ≡ bare_answer (map bare_assoc) (read_assocs l.parts (suc (size ts)) ts)
  all-assocs-bare ts =
      ap (λ n. read_assocs l.parts (suc n) (unplaced ts)) (size-bare ts) ∙ assocs-bare l.parts N.parts (suc (size ts)) ts

  all-methods-bare : (ts : Trees) →
      read_methods l.parts (suc (size (unplaced ts))) (unplaced ts) ≡ option_map (map bare_method) (read_methods l.parts (suc (size ts)) ts)
  all-methods-bare ts =
      ap (λ n. read_methods l.parts (suc n) (unplaced ts)) (size-bare ts) ∙ methods-bare l.parts N.parts (suc (size ts)) ts

  members-bare : (as' : List ItemAttr) (h : HeadTree) (ts : Trees) →
      members_of l as' (bare_head h) (unplaced ts) ≡ option_map bare_item (members_of l as' h ts)
  members-bare as' h ts = chained _ _ _ _ _ _ (all-assocs-bare ts) (λ x. chained _ _ _ _ _ _ (all-methods-bare x.1) (λ ms. refl))

  braces-bare : (as' : List ItemAttr) (h : HeadTree) (n : Next) →
      braces_of_item l as' (bare_head h) (bare_next n) ≡ bare_answer bare_item (braces_of_item l as' h n)
  braces-bare as' h (in_braces inside ts) = chained _ _ _ _ _ _ (members-bare as' h inside) (λ i. refl)
  braces-bare as' h _ = refl

  item-bare : (ts : Trees) → read_item l (unplaced ts) ≡ bare_answer bare_item (read_item l ts)
  item-bare ts =
      chained _ _ _ _ _ _ (all-attrs-bare ts) (λ a. rw (next-bare a.1) (chained _ _ _ _ _ _ (impl-bare (next a.1)) (λ us.
      chained _ _ _ _ _ _ (N.head us) (λ h. rw (next-bare h.1) (braces-bare a.0 h.0 (next h.1))))))

  -- implementations are read the same of the same tokens, ranges aside
  pub read-items-bare : (ts : Trees) → read_items l (unplaced ts) ≡ option_map bare_items (read_items l ts)
  read-items-bare ts =
      ap (λ n. items_with l (suc n) (unplaced ts)) (size-bare ts) ∙ parts-bare (read_item l) bare_item item-bare (suc (size ts)) ts
