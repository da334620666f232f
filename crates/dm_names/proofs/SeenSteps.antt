-- Steps of the loops that look for a name that is declared again among those that were seen.
use Rattle.std.proofs.Common.{◌≡◌, ℕ, suc, ◌+◌, ◌<◌, Bool, true, false, ◌||◌, List, [], ◌∷◌, ◌++◌, length, get_or, map, take, drop, Option, Some, None, refl, sym, ap, ◌∙◌, add-one}
use Rattle.std.proofs.lemmas.List.{map-append}
use Rattle.std.proofs.lemmas.List.Folds.{list_any-append}
use Rattle.std.proofs.Math.Seq.{take-suc, drop-cons}
use Rattle.std.specs.List.{list_any}
use Rattle.std.specs.Option.{option_or}
use Rattle.std.specs.Str.{bytes_eq}
use Rattle.dm_stream.specs.declared.tokens.Span.{Span}
use Rattle.dm_stream.specs.declared.tokens.Ident.{Ident}
use Rattle.dm_ast.specs.Declarations.{FieldTree, ParamTree, lifetime_param, type_param, const_param}
use Rattle.dm_repeats.specs.Repeats.{repeats, place_if, is_field_called, label_again, is_lifetime_called, is_type_called, param_again}
use Rattle.dm_names.specs.SeenNames.{label_seen, param_seen}

-- ---- one item more

module _ {A B : Type 0} (view : B → A) (all : List B) (i : ℕ) (x : B) (h : i < length all) (e : x ≡ get_or all i x) where
  items_more : map view (take (i + 1) all) ≡ map view (take i all) ++ view x ∷ []
  items_more =
      let front : take (i + 1) all ≡ take i all ++ x ∷ [] = rw add-one (take-suc all i x h ∙ ap (λ y. take i all ++ y ∷ []) (sym e)) in
      ap (map view) front ∙ map-append view (take i all) (x ∷ [])

  items_left : map view (drop i all) ≡ view x ∷ map view (drop (i + 1) all)
  items_left =
      let parts : drop i all ≡ x ∷ drop (i + 1) all = rw add-one (drop-cons all i x h ∙ ap (λ y. y ∷ drop (suc i) all) (sym e)) in
      ap (map view) parts

  -- a search that passes the item goes on behind it
  pub repeats_pass : (again : List A → A → Option Span) → again (map view (take i all)) (view x) ≡ None →
      repeats again [] (map view all) ≡ repeats again (map view (take i all)) (map view (drop i all)) →
      repeats again [] (map view all) ≡ repeats again (map view (take (i + 1) all)) (map view (drop (i + 1) all))
  repeats_pass again none so_far =
      so_far ∙ ap (repeats again (map view (take i all))) items_left ∙
      ap (λ o. option_or o (repeats again (map view (take i all) ++ view x ∷ []) (map view (drop (i + 1) all)))) none ∙
      ap (λ xs. repeats again xs (map view (drop (i + 1) all))) (sym items_more)

  or_last : (b c : Bool) → (b || c) ≡ (c || (b || false))
  or_last true true = refl
  or_last true false = refl
  or_last false true = refl
  or_last false false = refl

  -- what was seen stays so, with the item
  pub seen_more : (test : A → Bool) (before after : Bool) → before ≡ list_any test (map view (take i all)) → after ≡ (test (view x) || before) →
      after ≡ list_any test (map view (take (i + 1) all))
  seen_more test before after b a =
      a ∙ ap (λ t. test (view x) || t) b ∙ or_last (test (view x)) (list_any test (map view (take i all))) ∙
      sym (list_any-append test (map view (take i all)) (view x ∷ [])) ∙ ap (list_any test) (sym items_more)

  or_first : (a b c : Bool) → (b || (a || c)) ≡ (a || (c || (b || false)))
  or_first true true c = refl
  or_first true false c = refl
  or_first false b c = or_last b c

  -- the same beside another test
  pub seen_more_or : (other : Bool) (test : A → Bool) (before after : Bool) → before ≡ (other || list_any test (map view (take i all))) →
      after ≡ (test (view x) || before) → after ≡ (other || list_any test (map view (take (i + 1) all)))
  seen_more_or other test before after b a =
      a ∙ ap (λ t. test (view x) || t) b ∙ or_first other (test (view x)) (list_any test (map view (take i all))) ∙
      ap (λ t. other || t) (sym (list_any-append test (map view (take i all)) (view x ∷ [])) ∙ ap (list_any test) (sym items_more))

-- ---- fields

pub label_seen_is : (before : List ℕ → Bool) (earlier : List FieldTree) (o : Option Ident) →
    ((q : List ℕ) → before q ≡ list_any (is_field_called q) earlier) → label_seen before o ≡ label_again earlier o
label_seen_is before earlier None h = refl
label_seen_is before earlier (Some i) h = ap (λ b. place_if b i.span) (h i.name)

-- ---- parameters

pub param_seen_is : (whole : Ident) (of_lifetimes of_types : List ℕ → Bool) (earlier : List ParamTree) (p : ParamTree) →
    ((q : List ℕ) → of_lifetimes q ≡ list_any (is_lifetime_called q) earlier) →
    ((q : List ℕ) → of_types q ≡ (bytes_eq whole.name q || list_any (is_type_called q) earlier)) →
    param_seen of_lifetimes of_types p ≡ param_again whole earlier p
param_seen_is whole of_lifetimes of_types earlier (lifetime_param attrs l bs) h k = ap (λ b. place_if b l.span) (h l.name)
param_seen_is whole of_lifetimes of_types earlier (type_param attrs i bs default) h k = ap (λ b. place_if b i.span) (k i.name)
param_seen_is whole of_lifetimes of_types earlier (const_param attrs i t default) h k = ap (λ b. place_if b i.span) (k i.name)
