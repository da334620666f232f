-- The lists of the grammar of types are lists.
use Rattle.std.proofs.Common.{◌≡◌, ℕ, Bool, false, List, [], ◌∷◌, refl, sym, ap, ◌∙◌, subst}
use Rattle.dm_stream.specs.Trees.{Trees}
use Rattle.dm_ast.specs.Spelling.{Where, Marks, Spelling, ◌then◌, at_end, sees, sees_colons, colons, punct, repeated, chain, items, items_left}
use Rattle.dm_ast.specs.Tree.{TypeTrees, no_types, type_then, types_of, BoundTree, BoundTrees, no_bounds, bound_then, bounds_of, InputTree, InputTrees, no_inputs, input_then, inputs_of, SegmentTree, SegmentTrees, no_segments, segment_then, segments_of, ArgumentTrees, no_arguments, argument_then, arguments_of}
use Rattle.dm_ast.specs.TypeGrammar.{type_spelled, types, types_left, input_spelled, inputs, inputs_left, bound, bounds, bounds_left, ends_bounds, segment_spelled, segments, segments_left, argument, arguments, arguments_left}
use Rattle.dm_ast.specs.Readers.{Parser, ◌gives◌, read_list}
use Rattle.dm_read.proofs.Deciding.{Reader, pair}
use Rattle.dm_read_paths.proofs.Sequences.{then_right, then_left, then_map}
use Rattle.dm_read_paths.proofs.Listing.{reads_list}
use Rattle.dm_read_paths.proofs.PlainParts.{reads_by}

-- ---- trees that are made of a list

pub record AsList {A L : Type 0} (of : List A → L) (xs : L) : Type 0 where
  pub list : List A
  pub again : of list ≡ xs

module _ {A L : Type 0} (of : List A → L) where
  abbrev pub none_listed : AsList of (of [])
  none_listed = record { list = []; again = refl }

  abbrev pub one_listed : (more : A → L → L) (one : (x : A) (xs : List A) → of (x ∷ xs) ≡ more x (of xs)) (x : A) (ys : L) → AsList of ys → AsList of (more x ys)
  one_listed more one x ys l = record { list = x ∷ l.list; again = one x l.list ∙ ap (more x) l.again }

-- ---- any list of the grammar, with separators between and perhaps behind the last

pub record SpelledLists {A L : Type 0} (of : List A → L) (w : Where) (separator : ℕ) (ends : Trees → Bool) (Item : A → Spelling) (Whole : L → Bool → Spelling) : Type 1 where
  pub listed : (xs : L) → AsList of xs
  pub left : L → Bool → Spelling
  pub left_none : (u : Bool) → left (of []) u ≡ items_left w separator ends Item [] u
  pub left_one : (x : A) (xs : List A) (u : Bool) → left (of (x ∷ xs)) u ≡ (punct w separator then (Item x then left (of xs) u))
  pub none : (u : Bool) → Whole (of []) u ≡ items w separator ends Item [] u
  pub one : (x : A) (xs : List A) (u : Bool) → Whole (of (x ∷ xs)) u ≡ (Item x then left (of xs) u)

module _ {A L : Type 0} {of : List A → L} {w : Where} {separator : ℕ} {ends : Trees → Bool} {Item : A → Spelling} {Whole : L → Bool → Spelling}
    (k : SpelledLists of w separator ends Item Whole) where
  left_is : (u : Bool) (xs : List A) → k.left (of xs) u ≡ items_left w separator ends Item xs u
  left_is u [] = k.left_none u
  left_is u (x ∷ xs) = k.left_one x xs u ∙ ap (λ S. punct w separator then (Item x then S)) (left_is u xs)

  whole_is : (u : Bool) (xs : List A) → Whole (of xs) u ≡ items w separator ends Item xs u
  whole_is u [] = k.none u
  whole_is u (x ∷ xs) = k.one x xs u ∙ ap (λ S. Item x then S) (left_is u xs)

  listed_to : (u : Bool) (xs : List A) (ts o : Trees) (m : Marks) → items w separator ends Item xs u ts o m → Whole (of xs) u ts o m
  listed_to u xs ts o m s = subst (λ S. S ts o m) (sym (whole_is u xs)) s

  listed_back : (u : Bool) (xs : L) (ts o : Trees) (m : Marks) → Whole xs u ts o m → items w separator ends Item (k.listed xs).list u ts o m
  listed_back u xs ts o m s = subst (λ S. S ts o m) (whole_is u (k.listed xs).list) (subst (λ y. Whole y u ts o m) (sym (k.listed xs).again) s)

  pub reads_lists : (item : Parser A) → ((x : A) (ts o : Trees) (m : Marks) → Item x ts o m → ends ts ≡ false) → Reader Item item →
      Reader (λ r. Whole r.0 r.1) (read_list w separator ends item gives (λ r. pair (of r.0) r.1))
  reads_lists item starts h =
      reads_by (λ r. pair (of r.0) r.1) (λ r. items w separator ends Item r.0 r.1) (λ r. Whole r.0 r.1) (read_list w separator ends item)
      (λ r ts o m s. listed_to r.1 r.0 ts o m s)
      (λ y ts o m s. record { value = pair (k.listed y.0).list y.1; is_it = sym (ap (λ x. pair x y.1) (k.listed y.0).again); spelled = listed_back y.1 y.0 ts o m s })
      (reads_list w separator ends Item item starts h)

-- ---- any chain of the grammar, with a separator before each other part

module _ {A L : Type 0} (of : List A → L) (listed : (xs : L) → AsList of xs) (Separator : Spelling) (begins : Trees → Bool) (Item : A → Spelling)
    (Left Whole : L → Spelling) (left_none : Left (of []) ≡ repeated begins (λ y. Separator then Item y) [])
    (left_one : (x : A) (xs : List A) → Left (of (x ∷ xs)) ≡ (Separator then (Item x then Left (of xs))))
    (none : Whole (of []) ≡ chain Separator begins Item []) (one : (x : A) (xs : List A) → Whole (of (x ∷ xs)) ≡ (Item x then Left (of xs))) where
  abbrev Apart : A → Spelling
  Apart y = Separator then Item y

  pub apart_to : (xs : List A) (ts o : Trees) (m : Marks) → repeated begins Apart xs ts o m → Left (of xs) ts o m
  apart_to [] ts o m s = subst (λ S. S ts o m) (sym left_none) s
  apart_to (x ∷ xs) ts o m s =
      subst (λ S. S ts o m) (sym (left_one x xs))
      (then_map (λ mid k r. then_map (λ a b q. apart_to xs a o b q) r) (then_right Separator (Item x) (repeated begins Apart xs) ts o m s))

  apart_from : (xs : List A) (ts o : Trees) (m : Marks) → Left (of xs) ts o m → repeated begins Apart xs ts o m
  apart_from [] ts o m s = subst (λ S. S ts o m) left_none s
  apart_from (x ∷ xs) ts o m s =
      then_left Separator (Item x) (repeated begins Apart xs) ts o m
      (then_map (λ mid k r. then_map (λ a b q. apart_from xs a o b q) r) (subst (λ S. S ts o m) (left_one x xs) s))

  pub apart_back : (xs : L) (ts o : Trees) (m : Marks) → Left xs ts o m → repeated begins Apart (listed xs).list ts o m
  apart_back xs ts o m s = apart_from (listed xs).list ts o m (subst (λ y. Left y ts o m) (sym (listed xs).again) s)

  pub chained_to : (xs : List A) (ts o : Trees) (m : Marks) → chain Separator begins Item xs ts o m → Whole (of xs) ts o m
  chained_to [] ts o m s = subst (λ S. S ts o m) (sym none) s
  chained_to (x ∷ xs) ts o m s = subst (λ S. S ts o m) (sym (one x xs)) (then_map (λ a b q. apart_to xs a o b q) s)

  chained_from : (xs : List A) (ts o : Trees) (m : Marks) → Whole (of xs) ts o m → chain Separator begins Item xs ts o m
  chained_from [] ts o m s = subst (λ S. S ts o m) none s
  chained_from (x ∷ xs) ts o m s = then_map (λ a b q. apart_from xs a o b q) (subst (λ S. S ts o m) (one x xs) s)

  pub chained_back : (xs : L) (ts o : Trees) (m : Marks) → Whole xs ts o m → chain Separator begins Item (listed xs).list ts o m
  chained_back xs ts o m s = chained_from (listed xs).list ts o m (subst (λ y. Whole y ts o m) (sym (listed xs).again) s)

-- ---- types

abbrev pub types_listed : (xs : TypeTrees) → AsList types_of xs
types_listed no_types = none_listed types_of
types_listed (type_then x xs) = one_listed types_of type_then (λ y ys. refl) x xs (types_listed xs)

abbrev pub type_lists : (w : Where) → SpelledLists types_of w 44 at_end (λ t. type_spelled t false w) (λ xs u. types xs u w)
type_lists w =
    record { listed = types_listed; left = λ xs u. types_left xs u w; left_none = λ u. refl; left_one = λ x xs u. refl; none = λ u. refl; one = λ x xs u. refl }

-- ---- parameters of functions

abbrev pub inputs_listed : (xs : InputTrees) → AsList inputs_of xs
inputs_listed no_inputs = none_listed inputs_of
inputs_listed (input_then x xs) = one_listed inputs_of input_then (λ y ys. refl) x xs (inputs_listed xs)

abbrev pub input_lists : (w : Where) → SpelledLists inputs_of w 44 at_end (λ i. input_spelled i w) (λ xs u. inputs xs u w)
input_lists w =
    record { listed = inputs_listed; left = λ xs u. inputs_left xs u w; left_none = λ u. refl; left_one = λ x xs u. refl; none = λ u. refl; one = λ x xs u. refl }

abbrev pub input_list : InputTrees → List InputTree
input_list xs = (inputs_listed xs).list

pub inputs_to : (w : Where) (u : Bool) (xs : List InputTree) (ts o : Trees) (m : Marks) → items w 44 at_end (λ i. input_spelled i w) xs u ts o m → inputs (inputs_of xs) u w ts o m
inputs_to w = listed_to (input_lists w)

pub inputs_back : (w : Where) (u : Bool) (xs : InputTrees) (ts o : Trees) (m : Marks) → inputs xs u w ts o m → items w 44 at_end (λ i. input_spelled i w) (input_list xs) u ts o m
inputs_back w = listed_back (input_lists w)

pub inputs_again : (xs : InputTrees) → inputs_of (input_list xs) ≡ xs
inputs_again xs = (inputs_listed xs).again

-- ---- generic arguments

abbrev pub arguments_listed : (xs : ArgumentTrees) → AsList arguments_of xs
arguments_listed no_arguments = none_listed arguments_of
arguments_listed (argument_then x xs) = one_listed arguments_of argument_then (λ y ys. refl) x xs (arguments_listed xs)

abbrev pub argument_lists : (w : Where) → SpelledLists arguments_of w 44 (sees 62) (λ a. argument a w) (λ xs u. arguments xs u w)
argument_lists w =
    record { listed = arguments_listed; left = λ xs u. arguments_left xs u w; left_none = λ u. refl; left_one = λ x xs u. refl; none = λ u. refl; one = λ x xs u. refl }

-- ---- bounds

abbrev pub bounds_listed : (xs : BoundTrees) → AsList bounds_of xs
bounds_listed no_bounds = none_listed bounds_of
bounds_listed (bound_then x xs) = one_listed bounds_of bound_then (λ y ys. refl) x xs (bounds_listed xs)

abbrev pub bound_lists : (w : Where) → SpelledLists bounds_of w 43 ends_bounds (λ b. bound b w) (λ xs u. bounds xs u w)
bound_lists w =
    record { listed = bounds_listed; left = λ xs u. bounds_left xs u w; left_none = λ u. refl; left_one = λ x xs u. refl; none = λ u. refl; one = λ x xs u. refl }

abbrev pub bound_list : BoundTrees → List BoundTree
bound_list xs = (bounds_listed xs).list

pub bounds_to : (w : Where) (u : Bool) (xs : List BoundTree) (ts o : Trees) (m : Marks) → items w 43 ends_bounds (λ b. bound b w) xs u ts o m → bounds (bounds_of xs) u w ts o m
bounds_to w = listed_to (bound_lists w)

pub bounds_back : (w : Where) (u : Bool) (xs : BoundTrees) (ts o : Trees) (m : Marks) → bounds xs u w ts o m → items w 43 ends_bounds (λ b. bound b w) (bound_list xs) u ts o m
bounds_back w = listed_back (bound_lists w)

-- ---- segments

abbrev pub segments_listed : (xs : SegmentTrees) → AsList segments_of xs
segments_listed no_segments = none_listed segments_of
segments_listed (segment_then x xs) = one_listed segments_of segment_then (λ y ys. refl) x xs (segments_listed xs)

module _ (w : Where) where
  abbrev SegmentApart : SegmentTree → Spelling
  SegmentApart t = colons w then segment_spelled t w

  pub segments_left_to : (xs : List SegmentTree) (ts o : Trees) (m : Marks) → repeated sees_colons SegmentApart xs ts o m → segments_left (segments_of xs) w ts o m
  segments_left_to =
      apart_to segments_of segments_listed (colons w) sees_colons (λ t. segment_spelled t w) (λ xs. segments_left xs w) (λ xs. segments xs w) refl
      (λ x xs. refl) refl (λ x xs. refl)

  pub segments_left_back : (xs : SegmentTrees) (ts o : Trees) (m : Marks) → segments_left xs w ts o m → repeated sees_colons SegmentApart (segments_listed xs).list ts o m
  segments_left_back =
      apart_back segments_of segments_listed (colons w) sees_colons (λ t. segment_spelled t w) (λ xs. segments_left xs w) (λ xs. segments xs w) refl
      (λ x xs. refl) refl (λ x xs. refl)
