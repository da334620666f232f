-- No macro call comes next where an end stands behind a type that is none: what stands behind a word of it goes on with no `!` and a group.
-- Nor does it go on with `-`, which would be an arrow before a `>`.
use Rattle.std.proofs.Common.{◌≡◌, ℕ, zero, suc, Bool, true, false, cond, nat_eq, List, [], ◌∷◌, codes, Option, Some, None, IsTrue, refl, sym, ap, ◌∙◌}
use Rattle.std.proofs.lemmas.Bool.{or_parts}
use Rattle.dm_stream.specs.declared.tokens.Ident.{Ident}
use Rattle.dm_stream.specs.declared.tokens.Literal.{Literal}
use Rattle.dm_stream.specs.declared.tokens.Punct.{Punct}
use Rattle.dm_stream.specs.declared.tokens.Token.TheVariants as t
use Rattle.dm_stream.specs.Trees.{Trees, no_trees, token, group, join}
use Rattle.dm_ast.specs.declared.plain.ConstArg.{ConstArg}
use Rattle.dm_ast.specs.declared.plain.ConstArg.TheVariants as constant
use Rattle.dm_ast.specs.Tree.{Lifetimes, TypeNode, paren, tuple, slice, array, reference, pointer, bare_fn, trait_object, impl_trait, infer, never, path, macro_type, no_self, some_self, BoundTree, outlives, implements, BoundTrees, no_bounds, bound_then, trait_bound, FnTree, fn_tree, PathTree, path_tree, segment, SegmentTrees, no_segments, segment_then, ArgumentsTree, absent, angle, parens}
use Rattle.dm_ast.specs.Spelling.{Where, Marks, deeper, ◌then◌, one_of, sees, sees_word, sees_literal, sees_colons, literal, punct, keyword, colons, flag, perhaps}
use Rattle.dm_ast.specs.TypeGrammar.{behind_colons, behind_idents, behind_first, is_call, sees_macro, is_macro, not_named, constant_spelled, for_lifetimes, node, function, bound, some_bounds, more_bounds, path_spelled, segments, segments_left, trait_segments, qualified, arguments_of_segment}
use Rattle.dm_read.proofs.MacroSeeing.{no_colons}
use Rattle.dm_type_eq.proofs.Cutting.{same_front, are_colons}
use Rattle.dm_type_eq.proofs.CutMacros.{macro_front}
use Rattle.dm_reread.proofs.TypeLeafEnds.{stops, Stop, stop_end, stop_punct, stop_brace, stop_word, apart}
use Rattle.dm_reread.proofs.TypeLeafParts.{Listed}

-- ---- puncts that begin no path

no_pair : (p : Punct) (ts : Trees) → nat_eq p.ch 58 ≡ false → sees_colons (token (t.Punct p) ts) ≡ false
no_pair p ts h = rw h refl

pub idents_stay : (ts : Trees) → sees_colons ts ≡ false → behind_idents ts ≡ ts
idents_stay (token (t.Punct a) (token (t.Punct b) (token (t.Ident i) rest))) e =
    ap (λ x. cond x (behind_idents rest) (token (t.Punct a) (token (t.Punct b) (token (t.Ident i) rest)))) e
idents_stay _ e = refl

pub no_mark : (p : Punct) (ts : Trees) → nat_eq p.ch 33 ≡ false → is_call (Some (token (t.Punct p) ts)) ≡ false
no_mark p (group d from inside upto rest) e = e
no_mark p _ e = refl

pub no_call : (p : Punct) (ts : Trees) → nat_eq p.ch 58 ≡ false → nat_eq p.ch 33 ≡ false →
    is_call (Some (behind_idents (token (t.Punct p) ts))) ≡ false
no_call p ts h k = ap (λ x. is_call (Some x)) (idents_stay (token (t.Punct p) ts) (no_pair p ts h)) ∙ no_mark p ts k

no_macro : (p : Punct) (ts : Trees) → nat_eq p.ch 58 ≡ false → sees_macro (token (t.Punct p) ts) ≡ false
no_macro p ts h = ap (λ x. is_call (behind_first x)) (no_colons (token (t.Punct p) ts) (no_pair p ts h))

module _ (rest : Trees) (stop : Stop rest) where
  -- behind a word of a path they go on with no `!` and a group, and with no `-`
  abbrev pub Calm : Trees → Type 0
  Calm ts = (is_call (Some (behind_idents (join ts rest))) ≡ false) × (sees 45 (join ts rest) ≡ false)

  abbrev Uncalled : Trees → Type 0
  Uncalled ts = sees_macro (join ts rest) ≡ false

  pub calm_as : {ts us : Trees} → ts ≡ us → Calm us → Calm ts
  calm_as e c = (ap (λ x. is_call (Some (behind_idents (join x rest)))) e ∙ c.0, ap (λ x. sees 45 (join x rest)) e ∙ c.1)

  uncalled_as : {ts us : Trees} → ts ≡ us → Uncalled us → Uncalled ts
  uncalled_as e c = ap (λ x. sees_macro (join x rest)) e ∙ c

  pub calm_end : Calm no_trees
  calm_end = by rest stop
    where
      by : (us : Trees) → Stop us → (is_call (Some (behind_idents us)) ≡ false) × (sees 45 us ≡ false)
      by _ stop_end = (refl, refl)
      by _ (stop_punct p ts a h) =
          (no_call p ts (apart stops p.ch 58 h refl) (apart stops p.ch 33 h refl), apart stops p.ch 45 h refl)
      by _ (stop_brace f g us ts) = (refl, refl)
      by _ (stop_word i ts h) = (refl, refl)

  pub calm_listed : (ts : Trees) → Listed ts → Calm ts
  calm_listed no_trees h = absurd (cc)
  calm_listed (token (t.Punct p) ts) h =
      let by : (c : ℕ) → one_of (43 ∷ 44 ∷ 62 ∷ []) c ≡ false → nat_eq p.ch c ≡ false = λ c k. apart (43 ∷ 44 ∷ 62 ∷ []) p.ch c h k in
      (no_call p (join ts rest) (by 58 refl) (by 33 refl), by 45 refl)
  calm_listed (token (t.Ident i) ts) h = absurd (cc)
  calm_listed (token (t.Literal l) ts) h = absurd (cc)
  calm_listed (token (t.Lifetime l) ts) h = absurd (cc)
  calm_listed (group d f us g ts) h = absurd (cc)

  -- no `:`, `!` or `-`
  pub calm_punct : (w : Where) (c : ℕ) → one_of (58 ∷ 33 ∷ 45 ∷ []) c ≡ false → (ts others : Trees) (m : Marks) → punct w c ts others m →
      Calm ts
  calm_punct w c h ts others m s =
      let e = or_parts (nat_eq c 58) (one_of (33 ∷ 45 ∷ []) c) h in
      let f = or_parts (nat_eq c 33) (one_of (45 ∷ []) c) e.1 in
      let g = or_parts (nat_eq c 45) false f.1 in
      let is_no : (d : ℕ) → nat_eq c d ≡ false → nat_eq s.punct.ch d ≡ false = λ d k. ap (λ x. nat_eq x d) s.is ∙ k in
      calm_as s.there.spelled (no_call s.punct (join others rest) (is_no 58 e.0) (is_no 33 f.0), is_no 45 g.0)

  pub calm_word : (w : Where) (word : List ℕ) (ts others : Trees) (m : Marks) → keyword w word ts others m → Calm ts
  calm_word w word ts others m s = calm_as s.there.spelled (refl, refl)

  uncalled_punct : (w : Where) (c : ℕ) → nat_eq c 58 ≡ false → (ts others : Trees) (m : Marks) → punct w c ts others m → Uncalled ts
  uncalled_punct w c h ts others m s = uncalled_as s.there.spelled (no_macro s.punct (join others rest) (ap (λ x. nat_eq x 58) s.is ∙ h))

  uncalled_word : (w : Where) (word : List ℕ) (ts others : Trees) (m : Marks) → keyword w word ts others m → Calm others → Uncalled ts
  uncalled_word w word ts others m s c = uncalled_as s.there.spelled c.0

  -- ---- paths

  spelled_colons : (w : Where) (ts us : Trees) (m : Marks) (f : colons w ts us m) → true ≡ are_colons f.first.ch f.first.spacing f.second.ch
  spelled_colons w ts us m f = same_front are_colons 58 58 f.first f.second f.is_first f.is_joint f.is_second

  calm_linked : (w : Where) (i : Ident) (ts mid us : Trees) (m : Marks) → colons w ts mid m → mid ≡ token (t.Ident i) us → Calm us → Calm ts
  calm_linked w i ts mid us m s e c =
      let front : Trees → Trees = λ x. token (t.Punct s.first) (token (t.Punct s.second) x) in
      let called : is_call (Some (behind_idents (front (token (t.Ident i) (join us rest))))) ≡ false =
      sym (ap (λ b. is_call (Some (cond b (behind_idents (join us rest)) (front (token (t.Ident i) (join us rest))))))
      (spelled_colons w ts mid m s)) ∙ c.0 in
      calm_as (s.spelled ∙ ap front e) (called, ap (λ x. nat_eq x 45) s.is_first)

  calm_arguments : (a : ArgumentsTree) (w : Where) (ts others : Trees) (m : Marks) → arguments_of_segment a w ts others m → Calm others →
      Calm ts
  calm_arguments absent w ts others m s c = calm_as s.part.spelled c
  calm_arguments (angle true gs u) w ts others m s c =
      calm_as (s.first.spelled ∙ ap (λ x. token (t.Punct s.first.first) (token (t.Punct s.first.second) x)) s.rest.first.there.spelled)
      (refl, ap (λ x. nat_eq x 45) s.first.is_first)
  calm_arguments (angle false gs u) w ts others m s c =
      calm_as s.first.part.spelled (calm_punct w 60 refl s.middle s.rest.middle s.rest.first_marks s.rest.first)
  calm_arguments (parens xs u out) w ts others m s c = calm_as s.first.spelled (refl, refl)

  pub calm_left : (ss : SegmentTrees) (w : Where) (ts others : Trees) (m : Marks) → segments_left ss w ts others m → Calm others → Calm ts
  calm_left no_segments w ts others m s c = calm_as s.part.spelled c
  calm_left (segment_then (segment i a) ss) w ts others m s c =
      let x = s.rest.first in
      calm_linked w i ts s.middle x.middle s.first_marks s.first x.first.part.spelled
      (calm_arguments a w x.middle s.rest.middle x.rest_marks x.rest (calm_left ss w s.rest.middle others s.rest.rest_marks s.rest.rest c))

  calm_segment : (ss : SegmentTrees) (w : Where) (ts mid others : Trees) (k m : Marks) → colons w ts mid k → segments ss w mid others m →
      Calm others →
      Calm ts
  calm_segment no_segments w ts mid others k m f s c = absurd s.fact
  calm_segment (segment_then (segment i a) ss) w ts mid others k m f s c =
      let x = s.first in
      calm_linked w i ts mid x.middle k f x.first.part.spelled
      (calm_arguments a w x.middle s.middle x.rest_marks x.rest (calm_left ss w s.middle others s.rest_marks s.rest c))

  calm_segments : (ss : SegmentTrees) (w : Where) (ts others : Trees) (m : Marks) → segments ss w ts others m → Calm ts
  calm_segments no_segments w ts others m s = absurd s.fact
  calm_segments (segment_then (segment i a) ss) w ts others m s = calm_as s.first.first.part.spelled (refl, refl)

  calm_path : (p : PathTree) (w : Where) (ts others : Trees) (m : Marks) → path_spelled p w ts others m → Calm others → Calm ts
  calm_path (path_tree true ss) w ts others m s c = calm_segment ss w ts s.middle others s.first_marks s.rest_marks s.first s.rest c
  calm_path (path_tree false ss) w ts others m s c = calm_as s.first.part.spelled (calm_segments ss w s.middle others s.rest_marks s.rest)

  uncalled_segments : (ss : SegmentTrees) (w : Where) (ts others : Trees) (m : Marks) → segments ss w ts others m → Calm others →
      is_call (behind_first (join ts rest)) ≡ false
  uncalled_segments no_segments w ts others m s c = absurd s.fact
  uncalled_segments (segment_then (segment i a) ss) w ts others m s c =
      let x = s.first in
      ap (λ z. is_call (behind_first (join z rest))) x.first.part.spelled ∙
      (calm_arguments a w x.middle s.middle x.rest_marks x.rest (calm_left ss w s.middle others s.rest_marks s.rest c)).0

  no_leading : (ss : SegmentTrees) (w : Where) (ts others : Trees) (m : Marks) → segments ss w ts others m →
      behind_colons (join ts rest) ≡ join ts rest
  no_leading no_segments w ts others m s = absurd s.fact
  no_leading (segment_then (segment i a) ss) w ts others m s =
      let e = ap (λ x. join x rest) s.first.first.part.spelled in ap behind_colons e ∙ sym e

  pub uncalled_path : (p : PathTree) (w : Where) (ts others : Trees) (m : Marks) → path_spelled p w ts others m → Calm others → Uncalled ts
  uncalled_path (path_tree true ss) w ts others m s c =
      let front : Trees → Trees = λ x. token (t.Punct s.first.first) (token (t.Punct s.first.second) x) in
      uncalled_as s.first.spelled
      (sym (ap (λ b. is_call (behind_first (cond b (join s.middle rest) (front (join s.middle rest)))))
      (spelled_colons w ts s.middle s.first_marks s.first)) ∙
      uncalled_segments ss w s.middle others s.rest_marks s.rest c)
  uncalled_path (path_tree false ss) w ts others m s c =
      uncalled_as s.first.part.spelled
      (ap (λ x. is_call (behind_first x)) (no_leading ss w s.middle others s.rest_marks s.rest) ∙
      uncalled_segments ss w s.middle others s.rest_marks s.rest c)

  -- `::` and the segments of a trait, behind which `>` stands
  pub calm_trait : (n : ℕ) (ss : SegmentTrees) (v w : Where) (ts mid others : Trees) (k m : Marks) → colons v ts mid k →
      trait_segments n ss w mid others m →
      Calm ts
  calm_trait zero no_segments v w ts mid others k m f s = absurd s.fact
  calm_trait (suc n) no_segments v w ts mid others k m f s = absurd s.fact
  calm_trait zero (segment_then (segment i a) ss) v w ts mid others k m f s =
      let x = s.first in
      calm_linked v i ts mid x.middle k f x.first.part.spelled
      (calm_arguments a (deeper w) x.middle s.middle x.rest_marks x.rest
      (calm_punct w 62 refl s.middle s.rest.middle s.rest.first_marks s.rest.first))
  calm_trait (suc n) (segment_then (segment i a) ss) v w ts mid others k m f s =
      let x = s.first in
      calm_linked v i ts mid x.middle k f x.first.part.spelled
      (calm_arguments a (deeper w) x.middle s.middle x.rest_marks x.rest
      (calm_trait n ss (deeper w) w s.middle s.rest.middle others s.rest.first_marks s.rest.rest_marks s.rest.first s.rest.rest))

  -- what stands behind the type of a qualified path
  pub calm_qualified : (n : ℕ) (p : PathTree) (w : Where) (ts others : Trees) (m : Marks) → qualified n p w ts others m → Calm ts
  calm_qualified zero (path_tree b ss) w ts others m s = calm_punct w 62 refl ts s.part.middle s.part.first_marks s.part.first
  calm_qualified (suc n) (path_tree b ss) w ts others m s = calm_word (deeper w) (codes "as") ts s.middle s.first_marks s.first

  -- ---- bounds

  calm_for : (ls : Lifetimes) (p : PathTree) (w : Where) (ts others : Trees) (m : Marks) →
      (for_lifetimes w ls then path_spelled p w) ts others m →
      Calm others → Calm ts
  calm_for None p w ts others m s c = calm_as s.first.part.spelled (calm_path p w s.middle others s.rest_marks s.rest c)
  calm_for (Some l) p w ts others m s c = calm_word w (codes "for") ts s.first.middle s.first.first_marks s.first.first

  calm_bound : (b : BoundTree) (w : Where) (ts others : Trees) (m : Marks) → bound b w ts others m → Calm others → Calm ts
  calm_bound (outlives l) w ts others m s c = calm_as s.spelled (refl, refl)
  calm_bound (implements (trait_bound true maybe ls p)) w ts others m s c = calm_as s.spelled (refl, refl)
  calm_bound (implements (trait_bound false true ls p)) w ts others m s c = calm_punct w 63 refl ts s.middle s.first_marks s.first
  calm_bound (implements (trait_bound false false ls p)) w ts others m s c =
      calm_as s.first.part.spelled (calm_for ls p w s.middle others s.rest_marks s.rest c)

  pub calm_more : (bs : BoundTrees) (single : Bool) (w : Where) (ts others : Trees) (m : Marks) → more_bounds bs single w ts others m →
      Calm others → Calm ts
  calm_more no_bounds single w ts others m s c = calm_as s.part.spelled c
  calm_more (bound_then b bs) single w ts others m s c = calm_punct w 43 refl ts s.part.middle s.part.first_marks s.part.first

  calm_bounds : (bs : BoundTrees) (single : Bool) (w : Where) (ts others : Trees) (m : Marks) → some_bounds bs single w ts others m →
      Calm others → Calm ts
  calm_bounds no_bounds single w ts others m s c = absurd s.fact
  calm_bounds (bound_then b bs) single w ts others m s c =
      calm_bound b w ts s.middle s.first_marks s.first (calm_more bs single w s.middle others s.rest_marks s.rest c)

  -- ---- `for<..> unsafe extern ".." fn`

  abbrev pub Extern : Where → Option (Option Literal) → Trees → Trees → Marks → Type 0
  Extern w abi =
      perhaps (sees_word (codes "extern")) abi (λ called. keyword w (codes "extern") then perhaps sees_literal called (literal w))

  calm_called : (called : Option Literal) (w : Where) (ts mid others : Trees) (m k : Marks) →
      perhaps sees_literal called (literal w) ts mid m →
      keyword w (codes "fn") mid others k → Calm ts
  calm_called None w ts mid others m k s f = calm_as s.part.spelled (calm_word w (codes "fn") mid others k f)
  calm_called (Some l) w ts mid others m k s f = calm_as s.spelled (refl, refl)

  calm_extern : (abi : Option (Option Literal)) (w : Where) (ts mid others : Trees) (m k : Marks) → Extern w abi ts mid m →
      keyword w (codes "fn") mid others k → Calm ts
  calm_extern None w ts mid others m k s f = calm_as s.part.spelled (calm_word w (codes "fn") mid others k f)
  calm_extern (Some called) w ts mid others m k s f = calm_word w (codes "extern") ts s.middle s.first_marks s.first

  uncalled_extern : (abi : Option (Option Literal)) (w : Where) (ts mid others : Trees) (m k : Marks) → Extern w abi ts mid m →
      keyword w (codes "fn") mid others k → Calm others → Uncalled ts
  uncalled_extern None w ts mid others m k s f c = uncalled_as s.part.spelled (uncalled_word w (codes "fn") mid others k f c)
  uncalled_extern (Some called) w ts mid others m k s f c =
      uncalled_word w (codes "extern") ts s.middle s.first_marks s.first (calm_called called w s.middle mid others s.rest_marks k s.rest f)

  uncalled_unsafe : (b : Bool) (abi : Option (Option Literal)) (w : Where) (ts us mid others : Trees) (n m k : Marks) →
      flag (sees_word (codes "unsafe")) b (keyword w (codes "unsafe")) ts us n → Extern w abi us mid m →
      keyword w (codes "fn") mid others k →
      Calm others → Uncalled ts
  uncalled_unsafe true abi w ts us mid others n m k u s f c =
      uncalled_word w (codes "unsafe") ts us n u (calm_extern abi w us mid others m k s f)
  uncalled_unsafe false abi w ts us mid others n m k u s f c = uncalled_as u.part.spelled (uncalled_extern abi w us mid others m k s f c)

  uncalled_function : (f : FnTree) (w : Where) (ts others : Trees) (m : Marks) → function f w ts others m → Uncalled ts
  uncalled_function (fn_tree (Some l) b abi is u out) w ts others m s =
      uncalled_word w (codes "for") ts s.first.middle s.first.first_marks s.first.first
      (calm_punct w 60 refl s.first.middle s.first.rest.middle s.first.rest.first_marks s.first.rest.first)
  uncalled_function (fn_tree None b abi is u out) w ts others m s =
      let x = s.rest in
      let y = x.rest in
      let z = y.rest in
      uncalled_as s.first.part.spelled
      (uncalled_unsafe b abi w s.middle x.middle y.middle z.middle x.first_marks y.first_marks z.first_marks x.first y.first z.first
      (calm_as z.rest.first.spelled (refl, refl)))

  -- ---- types and constants

  uncalled : (n : TypeNode) (single : Bool) (w : Where) (ts others : Trees) (m : Marks) → node n single w ts others m → is_macro n ≡ false →
      Calm others → Uncalled ts
  uncalled (paren x) single w ts others m s e c = uncalled_as s.spelled refl
  uncalled (tuple xs u) single w ts others m s e c = uncalled_as s.part.spelled refl
  uncalled (slice x) single w ts others m s e c = uncalled_as s.spelled refl
  uncalled (array x o) single w ts others m s e c = uncalled_as s.spelled refl
  uncalled (reference l b x) single w ts others m s e c = uncalled_punct w 38 refl ts s.middle s.first_marks s.first
  uncalled (pointer true x) single w ts others m s e c = uncalled_punct w 42 refl ts s.middle s.first_marks s.first
  uncalled (pointer false x) single w ts others m s e c = uncalled_punct w 42 refl ts s.middle s.first_marks s.first
  uncalled (bare_fn f) single w ts others m s e c = uncalled_function f w ts others m s
  uncalled (trait_object bs u) single w ts others m s e c =
      uncalled_word w (codes "dyn") ts s.part.middle s.part.first_marks s.part.first
      (calm_bounds bs single (deeper w) s.part.middle others s.part.rest_marks s.part.rest c)
  uncalled (impl_trait bs u) single w ts others m s e c =
      uncalled_word w (codes "impl") ts s.part.middle s.part.first_marks s.part.first
      (calm_bounds bs single (deeper w) s.part.middle others s.part.rest_marks s.part.rest c)
  uncalled infer single w ts others m s e c = uncalled_word w (codes "_") ts others m s c
  uncalled never single w ts others m s e c = uncalled_punct w 33 refl ts others m s
  uncalled (path no_self p) single w ts others m s e c = uncalled_path p w ts others m s c
  uncalled (path (some_self x n) p) single w ts others m s e c = uncalled_punct w 60 refl ts s.middle s.first_marks s.first
  uncalled (macro_type p d o) single w ts others m s e c = absurd (cc)

  -- a macro call comes next as it did
  pub same_call : (n : TypeNode) (single : Bool) (w : Where) (ts others : Trees) (m : Marks) → node n single w ts others m → Calm others →
      node n single w (join ts rest) (join others rest) m → sees_macro (join ts rest) ≡ is_macro n
  same_call (macro_type p d o) single w ts others m s c x =
      macro_front w p (join ts rest) x.middle x.rest.middle (join others rest) x.first_marks x.rest.first_marks x.rest.rest_marks d _
      x.first x.rest.first
      x.rest.rest
  same_call n single w ts others m s c x = uncalled n single w ts others m s refl c

  pub uncalled_constant : (k : ConstArg) (w : Where) (ts others : Trees) (m : Marks) → constant_spelled w k ts others m →
      IsTrue (not_named k) →
      Calm others → Uncalled ts
  uncalled_constant (constant.Literal true l) w ts others m s e c = uncalled_punct w 45 refl ts s.middle s.first_marks s.first
  uncalled_constant (constant.Literal false l) w ts others m s e c = uncalled_as (s.first.part.spelled ∙ s.rest.spelled) refl
  uncalled_constant (constant.Bool i) w ts others m s e c = uncalled_as s.part.spelled c.0
  uncalled_constant (constant.Block o) w ts others m s e c = uncalled_as s.spelled refl
  uncalled_constant (constant.Name i) w ts others m s e c = absurd (cc)
