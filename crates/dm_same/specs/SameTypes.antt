-- Types that are spelled alike: part for part they have the same tokens, wherever these stand. Spacing counts only between tokens
-- that are not read.
use Rattle.std.specs.Prelude.{ℕ, Bool, true, false, not, ◌&&◌, nat_eq, List, [], ◌∷◌, Option, Some, None}
use Rattle.std.specs.Str.{bytes_eq}
use Rattle.dm_stream.specs.declared.seq.Punctuated.{Punctuated}
use Rattle.dm_stream.specs.declared.tokens.Ident.{Ident}
use Rattle.dm_stream.specs.declared.tokens.Lifetime.{Lifetime}
use Rattle.dm_stream.specs.declared.tokens.Literal.{Literal}
use Rattle.dm_stream.specs.declared.tokens.LitKind.{LitKind}
use Rattle.dm_stream.specs.declared.tokens.LitKind.TheVariants as lit
use Rattle.dm_stream.specs.declared.tokens.Spacing.{Spacing}
use Rattle.dm_stream.specs.declared.tokens.Spacing.TheVariants.{Joint, Alone}
use Rattle.dm_stream.specs.declared.tokens.Token.{Token}
use Rattle.dm_stream.specs.declared.tokens.Token.TheVariants as t
use Rattle.dm_stream.specs.declared.tokens.Entry.{Entry}
use Rattle.dm_stream.specs.declared.tokens.Entry.TheVariants as entry
use Rattle.dm_stream.specs.Trees.{flatten, Stream}
use Rattle.dm_stream.specs.Cursors.{same_delim}
use Rattle.dm_ast.specs.declared.plain.PlainPath.{PlainPath}
use Rattle.dm_ast.specs.declared.plain.AttrArgs.{AttrArgs}
use Rattle.dm_ast.specs.declared.plain.AttrArgs.TheVariants as args
use Rattle.dm_ast.specs.declared.plain.Attribute.{Attribute}
use Rattle.dm_ast.specs.declared.plain.ConstArg.{ConstArg}
use Rattle.dm_ast.specs.declared.plain.ConstArg.TheVariants as constant
use Rattle.dm_ast.specs.Tree.{Lifetimes, TypeTree, type_tree, TypeNode, paren, tuple, slice, array, reference, pointer, bare_fn, trait_object, impl_trait, infer, never, path, macro_type, TypeTrees, no_types, type_then, MaybeType, no_type, some_type, MaybeSelf, no_self, some_self, BoundTree, outlives, implements, BoundTrees, no_bounds, bound_then, TraitBoundTree, trait_bound, FnTree, fn_tree, InputTree, input, InputTrees, no_inputs, input_then, PathTree, path_tree, SegmentTree, segment, SegmentTrees, no_segments, segment_then, ArgumentsTree, absent, angle, parens, ArgumentTree, lifetime_arg, type_arg, const_arg, assoc_type, assoc_const, constraint, ArgumentTrees, no_arguments, argument_then, MaybeArguments, arguments_absent, some_arguments}

-- ---- truth values, options and lists

abbrev pub same_flag : Bool → Bool → Bool
same_flag true b = b
same_flag false b = not b

abbrev pub same_option : {A B : Type 0} → (A → B → Bool) → Option A → Option B → Bool
same_option same None None = true
same_option same (Some a) (Some b) = same a b
same_option same None (Some b) = false
same_option same (Some a) None = false

abbrev pub all_same : {A B : Type 0} → (A → B → Bool) → List A → List B → Bool
all_same same [] [] = true
all_same same (x ∷ xs) (y ∷ ys) = same x y && all_same same xs ys
all_same same [] (y ∷ ys) = false
all_same same (x ∷ xs) [] = false

abbrev pub same_list : {A B : Type 0} → (A → B → Bool) → Punctuated A → Punctuated B → Bool
same_list same a b = all_same same a.items b.items && same_flag a.trailing b.trailing

-- ---- tokens

abbrev pub same_name : Ident → Ident → Bool
same_name i j = same_flag i.raw j.raw && bytes_eq i.name j.name

abbrev pub same_lifetime : Lifetime → Lifetime → Bool
same_lifetime l k = bytes_eq l.name k.name

abbrev pub kind_number : LitKind → ℕ
kind_number lit.Str = 0
kind_number lit.RawStr = 1
kind_number lit.ByteStr = 2
kind_number lit.RawByteStr = 3
kind_number lit.CStr = 4
kind_number lit.RawCStr = 5
kind_number lit.Char = 6
kind_number lit.Byte = 7
kind_number lit.Int = 8

abbrev pub same_literal : Literal → Literal → Bool
same_literal l k = nat_eq (kind_number l.kind) (kind_number k.kind) && bytes_eq l.text k.text

abbrev pub same_spacing : Spacing → Spacing → Bool
same_spacing Joint Joint = true
same_spacing Alone Alone = true
same_spacing _ _ = false

abbrev pub same_token : Token → Token → Bool
same_token (t.Ident i) (t.Ident j) = same_name i j
same_token (t.Lifetime l) (t.Lifetime k) = same_lifetime l k
same_token (t.Literal l) (t.Literal k) = same_literal l k
same_token (t.Punct p) (t.Punct q) = nat_eq p.ch q.ch && same_spacing p.spacing q.spacing
same_token _ _ = false

abbrev pub same_entry : Entry → Entry → Bool
same_entry (entry.Token k) (entry.Token l) = same_token k l
same_entry (entry.Open d from n) (entry.Open e upto m) = same_delim d e
same_entry (entry.Close d from) (entry.Close e upto) = same_delim d e
same_entry _ _ = false

abbrev pub same_stream : Stream → Stream → Bool
same_stream s u = all_same same_entry (flatten s.trees) (flatten u.trees)

-- ---- the parts that hold no types

abbrev pub same_lifetimes : Lifetimes → Lifetimes → Bool
same_lifetimes a b = same_option (same_list same_lifetime) a b

abbrev pub same_plain : PlainPath → PlainPath → Bool
same_plain p q = same_flag p.leading_colon q.leading_colon && all_same same_name p.segments q.segments

abbrev pub same_args : AttrArgs → AttrArgs → Bool
same_args args.Absent args.Absent = true
same_args (args.List d s) (args.List e u) = same_delim d e && same_stream s u
same_args (args.Value o) (args.Value p) = same_stream o.tokens p.tokens
same_args _ _ = false

abbrev pub same_attribute : Attribute → Attribute → Bool
same_attribute a b = same_plain a.path b.path && same_args a.args b.args

abbrev pub same_constant : ConstArg → ConstArg → Bool
same_constant (constant.Literal m l) (constant.Literal n k) = same_flag m n && same_literal l k
same_constant (constant.Bool i) (constant.Bool j) = same_name i j
same_constant (constant.Block s) (constant.Block u) = same_stream s u
same_constant (constant.Name i) (constant.Name j) = same_name i j
same_constant _ _ = false

abbrev pub same_abi : Option (Option Literal) → Option (Option Literal) → Bool
same_abi a b = same_option (same_option same_literal) a b

-- ---- types

abbrev mutual
  pub same_type : TypeTree → TypeTree → Bool
  same_type (type_tree n s) (type_tree k r) = same_node n k

  pub same_node : TypeNode → TypeNode → Bool
  same_node (paren t) (paren u) = same_type t u
  same_node (tuple ts a) (tuple us b) = same_types ts us && same_flag a b
  same_node (slice t) (slice u) = same_type t u
  same_node (array t o) (array u p) = same_type t u && same_stream o.tokens p.tokens
  same_node (reference l m t) (reference k n u) = same_option same_lifetime l k && same_flag m n && same_type t u
  same_node (pointer m t) (pointer n u) = same_flag m n && same_type t u
  same_node (bare_fn f) (bare_fn g) = same_fn f g
  same_node (trait_object bs a) (trait_object cs b) = same_bounds bs cs && same_flag a b
  same_node (impl_trait bs a) (impl_trait cs b) = same_bounds bs cs && same_flag a b
  same_node infer infer = true
  same_node never never = true
  same_node (path q p) (path r o) = same_self q r && same_path p o
  same_node (macro_type p d s) (macro_type o e u) = same_plain p o && same_delim d e && same_stream s u
  same_node _ _ = false

  pub same_types : TypeTrees → TypeTrees → Bool
  same_types no_types no_types = true
  same_types (type_then t ts) (type_then u us) = same_type t u && same_types ts us
  same_types _ _ = false

  pub same_maybe_type : MaybeType → MaybeType → Bool
  same_maybe_type no_type no_type = true
  same_maybe_type (some_type t) (some_type u) = same_type t u
  same_maybe_type _ _ = false

  pub same_self : MaybeSelf → MaybeSelf → Bool
  same_self no_self no_self = true
  same_self (some_self t n) (some_self u k) = same_type t u && nat_eq n k
  same_self _ _ = false

  pub same_bound : BoundTree → BoundTree → Bool
  same_bound (outlives l) (outlives k) = same_lifetime l k
  same_bound (implements b) (implements c) = same_trait_bound b c
  same_bound _ _ = false

  pub same_bounds : BoundTrees → BoundTrees → Bool
  same_bounds no_bounds no_bounds = true
  same_bounds (bound_then b bs) (bound_then c cs) = same_bound b c && same_bounds bs cs
  same_bounds _ _ = false

  pub same_trait_bound : TraitBoundTree → TraitBoundTree → Bool
  same_trait_bound (trait_bound a m ls p) (trait_bound b n ks o) = same_flag a b && same_flag m n && same_lifetimes ls ks && same_path p o

  pub same_fn : FnTree → FnTree → Bool
  same_fn (fn_tree ls m abi is a out) (fn_tree ks n called js b into) =
      same_lifetimes ls ks && same_flag m n && same_abi abi called && same_inputs is js && same_flag a b && same_maybe_type out into

  pub same_input : InputTree → InputTree → Bool
  same_input (input xs i t) (input ys j u) = all_same same_attribute xs ys && same_option same_name i j && same_type t u

  pub same_inputs : InputTrees → InputTrees → Bool
  same_inputs no_inputs no_inputs = true
  same_inputs (input_then i is) (input_then j js) = same_input i j && same_inputs is js
  same_inputs _ _ = false

  pub same_path : PathTree → PathTree → Bool
  same_path (path_tree a ss) (path_tree b us) = same_flag a b && same_segments ss us

  pub same_segments : SegmentTrees → SegmentTrees → Bool
  same_segments no_segments no_segments = true
  same_segments (segment_then s ss) (segment_then u us) = same_segment s u && same_segments ss us
  same_segments _ _ = false

  pub same_segment : SegmentTree → SegmentTree → Bool
  same_segment (segment i a) (segment j b) = same_name i j && same_arguments_of a b

  pub same_arguments_of : ArgumentsTree → ArgumentsTree → Bool
  same_arguments_of absent absent = true
  same_arguments_of (angle c gs a) (angle d hs b) = same_flag c d && same_arguments gs hs && same_flag a b
  same_arguments_of (parens ts a out) (parens us b into) = same_types ts us && same_flag a b && same_maybe_type out into
  same_arguments_of _ _ = false

  pub same_argument : ArgumentTree → ArgumentTree → Bool
  same_argument (lifetime_arg l) (lifetime_arg k) = same_lifetime l k
  same_argument (type_arg t) (type_arg u) = same_type t u
  same_argument (const_arg c) (const_arg d) = same_constant c d
  same_argument (assoc_type i gs t) (assoc_type j hs u) = same_name i j && same_maybe_arguments gs hs && same_type t u
  same_argument (assoc_const i gs c) (assoc_const j hs d) = same_name i j && same_maybe_arguments gs hs && same_constant c d
  same_argument (constraint i gs bs a) (constraint j hs cs b) = same_name i j && same_maybe_arguments gs hs && (same_bounds bs cs && same_flag a b)
  same_argument _ _ = false

  pub same_arguments : ArgumentTrees → ArgumentTrees → Bool
  same_arguments no_arguments no_arguments = true
  same_arguments (argument_then g gs) (argument_then h hs) = same_argument g h && same_arguments gs hs
  same_arguments _ _ = false

  pub same_maybe_arguments : MaybeArguments → MaybeArguments → Bool
  same_maybe_arguments arguments_absent arguments_absent = true
  same_maybe_arguments (some_arguments gs a) (some_arguments hs b) = same_arguments gs hs && same_flag a b
  same_maybe_arguments _ _ = false
