-- What a type begins with: which rule reads it, and the mark of its first token.
use Rattle.std.proofs.Common.{◌≡◌, ℕ, Bool, true, false, if◌then◌else◌, nat_lt, List, [], ◌∷◌, ◌++◌, codes, Some, None, refl, sym, ap, ◌∙◌}
use Rattle.dm_stream.specs.declared.tokens.Span.{Span}
use Rattle.dm_stream.specs.declared.tokens.Ident.{Ident}
use Rattle.dm_stream.specs.Trees.{Trees}
use Rattle.dm_stream.specs.Cursors.{front_span}
use Rattle.dm_read_paths.specs.declared.kind.NodeKind.{NodeKind}
use Rattle.dm_read_paths.specs.declared.kind.NodeKind.TheVariants as kind
use Rattle.dm_ast.specs.Keywords.{is_keyword}
use Rattle.dm_ast.specs.Spelling.{Where, Marks, Spelling, deepest, first_too_deep, ◌then◌, Nothing, Before, Facing, PairAt, punct, keyword, ident, colons, is_word, sees_colons, flag, chain}
use Rattle.dm_ast.specs.TypeGrammar.{sees_macro, is_macro, is_path_word, node, function, path_spelled, segments}
use Rattle.dm_ast.specs.Tree.{TypeNode, paren, tuple, slice, array, reference, pointer, bare_fn, trait_object, impl_trait, infer, never, path, macro_type, no_self, some_self, FnTree, fn_tree, PathTree, path_tree, segment, SegmentTrees, no_segments, segment_then}
use Rattle.dm_read_paths.specs.TypeReaders.{punct_kind, word_kind, front_kind, node_kind}
use Rattle.dm_read.proofs.Tokens.{the_word, word_is, deep_mark}

-- ---- which rule

abbrev pub kind_of : TypeNode → NodeKind
kind_of (paren t) = kind.Round
kind_of (tuple ts trailing) = kind.Round
kind_of (slice t) = kind.Square
kind_of (array t o) = kind.Square
kind_of (reference l is_mut t) = kind.Reference
kind_of (pointer is_mut t) = kind.Pointer
kind_of (bare_fn f) = kind.Function
kind_of (trait_object bs trailing) = kind.Object
kind_of (impl_trait bs trailing) = kind.Implied
kind_of infer = kind.Infer
kind_of never = kind.Never
kind_of (path no_self p) = kind.Path
kind_of (path (some_self t n) p) = kind.Qualified
kind_of (macro_type p d inside) = kind.Call

punct_first : (w : Where) (c : ℕ) (ts o : Trees) (m : Marks) → punct w c ts o m → front_kind ts ≡ punct_kind c
punct_first w c ts o m s = ap front_kind s.there.spelled ∙ ap punct_kind s.is

-- a word of a path is none of the words that begin other types
no_word : (c : List ℕ) → ((range : Span) → is_path_word (the_word c range) ≡ false) → (i : Ident) → is_path_word i ≡ true → (b : Bool) → is_word c i ≡ b → b ≡ false
no_word c h i p false e = refl
no_word c h i p true e =
    let f : is_path_word i ≡ false = ap is_path_word (word_is i c e) ∙ h i.span in
    absurd (cc)

module _ (i : Ident) (p : is_path_word i ≡ true) where
  pub not_word : (c : List ℕ) → ((range : Span) → is_path_word (the_word c range) ≡ false) → is_word c i ≡ false
  not_word c h = no_word c h i p (is_word c i) refl

  path_word_kind : word_kind i ≡ kind.Path
  unfolding is_keyword
  path_word_kind =
      let a = not_word (codes "for") (λ range. refl) in
      let b = not_word (codes "unsafe") (λ range. refl) in
      let c = not_word (codes "extern") (λ range. refl) in
      let d = not_word (codes "fn") (λ range. refl) in
      let e = not_word (codes "dyn") (λ range. refl) in
      let f = not_word (codes "impl") (λ range. refl) in
      let g = not_word (codes "_") (λ range. refl) in
      rw (a, b, c, d, e, f, g) refl

segments_first : (w : Where) (ss : SegmentTrees) (ts o : Trees) (m : Marks) → segments ss w ts o m → front_kind ts ≡ kind.Path
segments_first w no_segments ts o m s = absurd s.fact
segments_first w (segment_then (segment i as') ss) ts o m s = ap front_kind s.first.first.part.spelled ∙ path_word_kind i s.first.first.fact

path_first : (w : Where) (p : PathTree) (ts o : Trees) (m : Marks) → path_spelled p w ts o m → front_kind ts ≡ kind.Path
path_first w (path_tree true ss) ts o m s = ap front_kind s.first.spelled ∙ ap punct_kind s.first.is_first
path_first w (path_tree false ss) ts o m s = ap front_kind s.first.part.spelled ∙ segments_first w ss s.middle o s.rest_marks s.rest

function_first : (w : Where) (f : FnTree) (ts o : Trees) (m : Marks) → function f w ts o m → front_kind ts ≡ kind.Function
function_first w (fn_tree (Some ls) is_unsafe abi is trailing out) ts o m s = ap front_kind s.first.first.there.spelled
function_first w (fn_tree None true abi is trailing out) ts o m s =
    ap front_kind s.first.part.spelled ∙ ap front_kind s.rest.first.there.spelled
function_first w (fn_tree None false (Some called) is trailing out) ts o m s =
    ap front_kind s.first.part.spelled ∙ ap front_kind s.rest.first.part.spelled ∙ ap front_kind s.rest.rest.first.first.there.spelled
function_first w (fn_tree None false None is trailing out) ts o m s =
    ap front_kind s.first.part.spelled ∙ ap front_kind s.rest.first.part.spelled ∙ ap front_kind s.rest.rest.first.part.spelled ∙
    ap front_kind s.rest.rest.rest.first.there.spelled

pub node_first : (n : TypeNode) (single : Bool) (w : Where) (ts o : Trees) (m : Marks) → node n single w ts o m → is_macro n ≡ false → front_kind ts ≡ kind_of n
node_first (paren t) single w ts o m s e = ap front_kind s.spelled
node_first (tuple xs trailing) single w ts o m s e = ap front_kind s.part.spelled
node_first (slice t) single w ts o m s e = ap front_kind s.spelled
node_first (array t x) single w ts o m s e = ap front_kind s.spelled
node_first (reference l is_mut t) single w ts o m s e = punct_first w 38 ts s.middle s.first_marks s.first
node_first (pointer true t) single w ts o m s e = punct_first w 42 ts s.middle s.first_marks s.first
node_first (pointer false t) single w ts o m s e = punct_first w 42 ts s.middle s.first_marks s.first
node_first (bare_fn f) single w ts o m s e = function_first w f ts o m s
node_first (trait_object bs trailing) single w ts o m s e = ap front_kind s.part.first.there.spelled
node_first (impl_trait bs trailing) single w ts o m s e = ap front_kind s.part.first.there.spelled
node_first infer single w ts o m s e = ap front_kind s.there.spelled
node_first never single w ts o m s e = punct_first w 33 ts o m s
node_first (path no_self p) single w ts o m s e = path_first w p ts o m s
node_first (path (some_self t n) p) single w ts o m s e = punct_first w 60 ts s.middle s.first_marks s.first
node_first (macro_type p d inside) single w ts o m s e = absurd (cc)

kind_by : (n : TypeNode) (single : Bool) (w : Where) (ts o : Trees) (m : Marks) → node n single w ts o m → (b : Bool) → is_macro n ≡ b → sees_macro ts ≡ b → node_kind ts ≡ kind_of n
kind_by n single w ts o m s false e f = ap (λ b. if b then kind.Call else front_kind ts) f ∙ node_first n single w ts o m s e
kind_by (macro_type p d inside) single w ts o m s true e f = ap (λ b. if b then kind.Call else front_kind ts) f
kind_by _ single w ts o m s true e f = absurd (cc)

-- the rule of a type is that of what it begins with
pub kind_is : (n : TypeNode) (single : Bool) (w : Where) (ts o : Trees) (m : Marks) → Facing (λ us. sees_macro us ≡ is_macro n) (node n single w) ts o m → node_kind ts ≡ kind_of n
kind_is n single w ts o m s = kind_by n single w ts o m s.part (is_macro n) refl s.fact

-- ---- the first mark

pub record Begins (w : Where) (ts : Trees) (m : Marks) : Type 0 where
  pub others : Marks
  pub marks : m ≡ (w.level, front_span ts w.limit) ∷ others

begins_then : {P Q : Spelling} (w : Where) {ts o : Trees} {m : Marks} (s : (P then Q) ts o m) → Begins w ts s.first_marks → Begins w ts m
begins_then w s b = record { others = b.others ++ s.rest_marks; marks = s.marks ∙ ap (λ l. l ++ s.rest_marks) b.marks }

-- behind a part that is missing
begins_behind : {Q : Spelling} {Fact : Trees → Type 0} (w : Where) {ts o : Trees} {m : Marks} (s : (Before Fact Nothing then Q) ts o m) → Begins w s.middle s.rest_marks → Begins w ts m
begins_behind w {ts} s b =
    record { others = b.others; marks = s.marks ∙ ap (λ l. l ++ s.rest_marks) s.first.part.marks ∙ b.marks ∙ ap (λ x. (w.level, front_span x w.limit) ∷ b.others) (sym s.first.part.spelled) }

punct_begins : (w : Where) (c : ℕ) {ts o : Trees} {m : Marks} → punct w c ts o m → Begins w ts m
punct_begins w c s = record { others = []; marks = s.there.marks ∙ ap (λ x. (w.level, front_span x w.limit) ∷ []) (sym s.there.spelled) }

keyword_begins : (w : Where) (c : List ℕ) {ts o : Trees} {m : Marks} → keyword w c ts o m → Begins w ts m
keyword_begins w c s = record { others = []; marks = s.there.marks ∙ ap (λ x. (w.level, front_span x w.limit) ∷ []) (sym s.there.spelled) }

ident_begins : (w : Where) (i : Ident) {ts o : Trees} {m : Marks} → ident w i ts o m → Begins w ts m
ident_begins w i s = record { others = []; marks = s.marks ∙ ap (λ x. (w.level, front_span x w.limit) ∷ []) (sym s.spelled) }

pair_begins : (w : Where) (a b : ℕ) {ts o : Trees} {m : Marks} → PairAt w a b ts o m → Begins w ts m
pair_begins w a b s =
    record { others = (w.level, s.second.span) ∷ []; marks = s.marks ∙ ap (λ x. (w.level, front_span x w.limit) ∷ (w.level, s.second.span) ∷ []) (sym s.spelled) }

segments_begin : (w : Where) (ss : SegmentTrees) (ts o : Trees) (m : Marks) → segments ss w ts o m → Begins w ts m
segments_begin w no_segments ts o m s = absurd s.fact
segments_begin w (segment_then (segment i as') ss) ts o m s = begins_then w s (begins_then w s.first (ident_begins w i s.first.first.part))

pub path_begins : (w : Where) (p : PathTree) (ts o : Trees) (m : Marks) → path_spelled p w ts o m → Begins w ts m
path_begins w (path_tree true ss) ts o m s = begins_then w s (pair_begins w 58 58 s.first)
path_begins w (path_tree false ss) ts o m s = begins_behind w s (segments_begin w ss s.middle o s.rest_marks s.rest)

idents_begin : (w : Where) (is : List Ident) (ts o : Trees) (m : Marks) → chain (colons w) sees_colons (ident w) is ts o m → Begins w ts m
idents_begin w [] ts o m s = absurd s.fact
idents_begin w (i ∷ is) ts o m s = begins_then w s (ident_begins w i s.first)

plain_by : (w : Where) (b : Bool) (is : List Ident) (ts o : Trees) (m : Marks) →
    (flag sees_colons b (colons w) then chain (colons w) sees_colons (ident w) is) ts o m → Begins w ts m
plain_by w true is ts o m s = begins_then w s (pair_begins w 58 58 s.first)
plain_by w false is ts o m s = begins_behind w s (idents_begin w is s.middle o s.rest_marks s.rest)

function_begins : (w : Where) (f : FnTree) (ts o : Trees) (m : Marks) → function f w ts o m → Begins w ts m
function_begins w (fn_tree (Some ls) is_unsafe abi is trailing out) ts o m s = begins_then w s (begins_then w s.first (keyword_begins w (codes "for") s.first.first))
function_begins w (fn_tree None true abi is trailing out) ts o m s = begins_behind w s (begins_then w s.rest (keyword_begins w (codes "unsafe") s.rest.first))
function_begins w (fn_tree None false (Some called) is trailing out) ts o m s =
    begins_behind w s (begins_behind w s.rest (begins_then w s.rest.rest (begins_then w s.rest.rest.first (keyword_begins w (codes "extern") s.rest.rest.first.first))))
function_begins w (fn_tree None false None is trailing out) ts o m s =
    begins_behind w s (begins_behind w s.rest (begins_behind w s.rest.rest (begins_then w s.rest.rest.rest (keyword_begins w (codes "fn") s.rest.rest.rest.first))))

pub node_begins : (n : TypeNode) (single : Bool) (w : Where) (ts o : Trees) (m : Marks) → node n single w ts o m → Begins w ts m
node_begins (paren t) single w ts o m s = record { others = s.inner_marks ++ (w.level, s.closer) ∷ []; marks = s.marks ∙ ap (λ x. (w.level, front_span x w.limit) ∷ (s.inner_marks ++ (w.level, s.closer) ∷ [])) (sym s.spelled) }
node_begins (tuple xs trailing) single w ts o m s = record { others = s.part.inner_marks ++ (w.level, s.part.closer) ∷ []; marks = s.part.marks ∙ ap (λ x. (w.level, front_span x w.limit) ∷ (s.part.inner_marks ++ (w.level, s.part.closer) ∷ [])) (sym s.part.spelled) }
node_begins (slice t) single w ts o m s = record { others = s.inner_marks ++ (w.level, s.closer) ∷ []; marks = s.marks ∙ ap (λ x. (w.level, front_span x w.limit) ∷ (s.inner_marks ++ (w.level, s.closer) ∷ [])) (sym s.spelled) }
node_begins (array t x) single w ts o m s = record { others = s.inner_marks ++ (w.level, s.closer) ∷ []; marks = s.marks ∙ ap (λ x. (w.level, front_span x w.limit) ∷ (s.inner_marks ++ (w.level, s.closer) ∷ [])) (sym s.spelled) }
node_begins (reference l is_mut t) single w ts o m s = begins_then w s (punct_begins w 38 s.first)
node_begins (pointer true t) single w ts o m s = begins_then w s (punct_begins w 42 s.first)
node_begins (pointer false t) single w ts o m s = begins_then w s (punct_begins w 42 s.first)
node_begins (bare_fn f) single w ts o m s = function_begins w f ts o m s
node_begins (trait_object bs trailing) single w ts o m s = begins_then w s.part (keyword_begins w (codes "dyn") s.part.first)
node_begins (impl_trait bs trailing) single w ts o m s = begins_then w s.part (keyword_begins w (codes "impl") s.part.first)
node_begins infer single w ts o m s = keyword_begins w (codes "_") s
node_begins never single w ts o m s = punct_begins w 33 s
node_begins (path no_self p) single w ts o m s = path_begins w p ts o m s
node_begins (path (some_self t n) p) single w ts o m s = begins_then w s (punct_begins w 60 s.first)
node_begins (macro_type p d inside) single w ts o m s = begins_then w s (plain_by w p.leading_colon p.segments ts s.middle s.first_marks s.first)

-- what begins at a level that is too deep is too deep there
pub begins_deep : (w : Where) (ts : Trees) (m : Marks) → Begins w ts m → nat_lt deepest w.level ≡ true → first_too_deep m ≡ Some (front_span ts w.limit)
begins_deep w ts m b e = ap first_too_deep b.marks ∙ deep_mark w (front_span ts w.limit) b.others e
