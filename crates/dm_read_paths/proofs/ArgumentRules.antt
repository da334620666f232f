-- Generic arguments: what their reader decides, where the readers of the types and bounds in them decide those.
use Rattle.std.proofs.Common.{◌≡◌, ℕ, ◌<◌, Bool, true, false, not, if◌then◌else◌, cond, ◌&&◌, ◌||◌, nat_eq, List, [], ◌∷◌, ◌++◌, codes, Option, Some, None, Ok, refl, sym, ap, ◌∙◌, subst, append-nil}
use Rattle.dm_stream.specs.declared.tokens.Delim.TheVariants.{Paren, Brace}
use Rattle.dm_stream.specs.declared.tokens.Ident.{Ident}
use Rattle.dm_stream.specs.declared.tokens.Punct.{Punct}
use Rattle.dm_stream.specs.declared.tokens.Token.TheVariants as t
use Rattle.dm_stream.specs.Trees.{Trees, no_trees, token, group}
use Rattle.dm_ast.specs.declared.plain.ConstArg.{ConstArg}
use Rattle.dm_ast.specs.declared.plain.ConstArg.TheVariants as constant
use Rattle.dm_read_paths.specs.declared.kind.NodeKind.TheVariants as kind
use Rattle.dm_read_paths.specs.declared.kind.Mode.{Mode}
use Rattle.dm_read_paths.specs.declared.kind.Mode.TheVariants.{Whole}
use Rattle.dm_ast.specs.Keywords.{is_name}
use Rattle.dm_ast.specs.Spelling.{Where, Marks, Spelling, Nothing, ◌then◌, Provided, Before, is_joint, sees, sees_one, sees_group, sees_literal, sees_lifetime, sees_colons, sees_colon, sees_equals, is_word, ident, lifetime, punct, colons, colon, equals, flag, chain, range_of}
use Rattle.dm_ast.specs.TypeGrammar.{name, is_path_word, is_truth, sees_macro, is_call, behind_idents, behind_colons, sees_arguments, constant_spelled, constant_argument, not_named, is_macro, node, type_spelled, segments, segment_spelled, argument, arguments, maybe_angled, bounds, between_angles}
use Rattle.dm_ast.specs.Tree.{TypeTree, type_tree, TypeNode, path, macro_type, no_self, some_self, path_tree, no_segments, segment_then, segment, ArgumentsTree, absent, angle, parens, ArgumentTree, lifetime_arg, type_arg, const_arg, assoc_type, assoc_const, constraint, MaybeArguments, arguments_absent, some_arguments}
use Rattle.dm_ast.specs.Readers.{Parser, and_then, mapped, ◌next◌, read_lifetime, read_colon, read_equals}
use Rattle.dm_ast.specs.PlainReaders.{read_constant, sees_truth}
use Rattle.dm_read_paths.specs.TypeReaders.{front_kind, sees_constant, named_by, binding_of, type_value, constant_value, constraint_of, lifetime_of, constant_of, inner_path, read_bounds, read_binding_value, behind_name, behind_type, read_argument, read_arguments}
use Rattle.dm_read.proofs.Deciding.{Same, Decides, Reader, Image, Bound, pair, decides_bind, decides_by, decides_iff, decides_test, covers_none, reads_next}
use Rattle.dm_read.proofs.Tokens.{reads_lifetime, lifetime_seen, punct_seen}
use Rattle.dm_read.proofs.Groups.{reads_lone, lone_seen}
use Rattle.dm_read_paths.proofs.Constants.{reads_constant, truth_no_name}
use Rattle.dm_read_paths.proofs.NodeKinds.{kind_of, node_first}
use Rattle.dm_read_paths.proofs.TypeEnds.{constant_front, type_no_angle, type_no_constant}
use Rattle.dm_read_paths.proofs.Sequences.{then_right, then_left, then_map, then_nothing, then_with}
use Rattle.dm_read_paths.proofs.TypeLists.{reads_lists, argument_lists}
use Rattle.dm_read_paths.proofs.TypeRules.{ReadsDeeper}
use Rattle.dm_read_paths.proofs.Paths.{or_first, or_second}
use Rattle.dm_read_paths.proofs.BoundRules.{path_no_lifetime, reads_bounds, paths_deeper}

-- ---- a type doesn't begin with a lifetime

lifetime_kind : (ts : Trees) → sees_lifetime ts ≡ true → front_kind ts ≡ kind.Path
lifetime_kind (token (t.Lifetime l) rest) e = refl
lifetime_kind _ e = absurd (cc)

path_by : (n : TypeNode) (single : Bool) (w : Where) (ts o : Trees) (m : Marks) → node n single w ts o m → kind_of n ≡ kind.Path → sees_lifetime ts ≡ false
path_by (path no_self p) single w ts o m s e = path_no_lifetime w p ts o m s
path_by (path (some_self t n) p) single w ts o m s e = absurd (cc)
path_by _ single w ts o m s e = absurd (cc)

node_by_front : (n : TypeNode) (single : Bool) (w : Where) (ts o : Trees) (m : Marks) → node n single w ts o m → is_macro n ≡ false → (b : Bool) → sees_lifetime ts ≡ b → b ≡ false
node_by_front n single w ts o m s e false f = refl
node_by_front n single w ts o m s e true f =
    let g = path_by n single w ts o m s (sym (node_first n single w ts o m s e) ∙ lifetime_kind ts f) in
    absurd (cc)

plain_no_lifetime : (w : Where) (b : Bool) (is : List Ident) (ts o : Trees) (m : Marks) →
    (flag sees_colons b (colons w) then chain (colons w) sees_colons (ident w) is) ts o m → sees_lifetime ts ≡ false
plain_no_lifetime w true is ts o m s = ap sees_lifetime s.first.spelled
plain_no_lifetime w false [] ts o m s = absurd s.rest.fact
plain_no_lifetime w false (i ∷ is) ts o m s = ap sees_lifetime (s.first.part.spelled ∙ s.rest.first.spelled)

node_no_lifetime : (n : TypeNode) (single : Bool) (w : Where) (ts o : Trees) (m : Marks) → node n single w ts o m → (b : Bool) → is_macro n ≡ b → sees_lifetime ts ≡ false
node_no_lifetime n single w ts o m s false e = node_by_front n single w ts o m s e (sees_lifetime ts) refl
node_no_lifetime (macro_type p d inside) single w ts o m s true e = plain_no_lifetime w p.leading_colon p.segments ts s.middle s.first_marks s.first
node_no_lifetime _ single w ts o m s true e = absurd (cc)

pub type_no_lifetime : (x : TypeTree) (single : Bool) (w : Where) (ts o : Trees) (m : Marks) → type_spelled x single w ts o m → sees_lifetime ts ≡ false
type_no_lifetime (type_tree n range) single w ts o m s = node_no_lifetime n single w ts o m s.part.part (is_macro n) refl

-- ---- constants

-- neither a lifetime nor `>`, and what a constant begins with
record ConstantFront (ts : Trees) : Type 0 where
  no_lifetime : sees_lifetime ts ≡ false
  no_angle : sees 62 ts ≡ false
  seen : constant_front ts ≡ true

constant_fronts : (w : Where) (c : ConstArg) (ts o : Trees) (m : Marks) → not_named c ≡ true → constant_spelled w c ts o m → ConstantFront ts
constant_fronts w (constant.Literal true l) ts o m e s =
    let q = s.first.there.spelled in
    record {
      no_lifetime = ap sees_lifetime q;
      no_angle = ap (sees 62) q ∙ ap (λ c. nat_eq c 62) s.first.is;
      seen = or_first (sees 45 ts) (sees_literal ts || (sees_group Brace ts || sees_truth ts)) (punct_seen 45 w ts s.middle s.first_marks s.first);
    }
constant_fronts w (constant.Literal false l) ts o m e s =
    let q = s.first.part.spelled ∙ s.rest.spelled in
    record { no_lifetime = ap sees_lifetime q; no_angle = ap (sees 62) q; seen = ap constant_front q }
constant_fronts w (constant.Bool i) ts o m e s =
    let q = s.part.spelled in
    record { no_lifetime = ap sees_lifetime q; no_angle = ap (sees 62) q; seen = ap constant_front q ∙ s.fact }
constant_fronts w (constant.Block inside) ts o m e s =
    let q = s.spelled in
    record { no_lifetime = ap sees_lifetime q; no_angle = ap (sees 62) q; seen = ap constant_front q }
constant_fronts w (constant.Name i) ts o m e s = absurd (cc)

constant_seen : (w : Where) (c : ConstArg) (ts o : Trees) (m : Marks) → constant_argument c w ts o m → sees_constant ts ≡ true
constant_seen w c ts o m s =
    ap (λ b. not b && constant_front ts) s.fact ∙ (constant_fronts w c ts o m s.part.fact s.part.part).seen

no_call : (b c : Bool) → (not b && c) ≡ true → (b ≡ false) × (c ≡ true)
no_call true c e = absurd (cc)
no_call false c e = (refl, e)

-- what begins as a constant is no name
front_named : (w : Where) (c : ConstArg) (ts o : Trees) (m : Marks) → constant_front ts ≡ true → constant_spelled w c ts o m → not_named c ≡ true
front_named w (constant.Name i) ts o m e s =
    let a : is_truth i ≡ true = sym (ap constant_front s.part.spelled) ∙ e in
    let b : is_name i ≡ false = truth_no_name i a in
    let c : is_name i ≡ true = s.fact in
    absurd (cc)
front_named w (constant.Literal minus l) ts o m e s = refl
front_named w (constant.Bool i) ts o m e s = refl
front_named w (constant.Block inside) ts o m e s = refl

reads_constant_argument : (w : Where) (ts : Trees) → sees_constant ts ≡ true → Decides (λ c. constant_argument c w) ts (read_constant w ts)
reads_constant_argument w ts e =
    let a = no_call (sees_macro ts) (constant_front ts) e in
    decides_iff (constant_spelled w) (λ c. constant_argument c w) ts
    (λ c o m s. record { fact = a.0; part = record { fact = front_named w c ts o m a.1 s; part = s } })
    (λ c o m s. s.part.part) (read_constant w ts) (reads_constant w ts)

-- ---- parts that hold no token

-- a flag that isn't there, and a part behind it
drop_flag : (begins : Trees → Bool) (part Q : Spelling) (ts o : Trees) (m : Marks) → (flag begins false part then Q) ts o m → Q ts o m
drop_flag begins part Q ts o m s =
    let a : Q ts o s.rest_marks = subst (λ x. Q x o s.rest_marks) (sym s.first.part.spelled) s.rest in
    subst (λ k. Q ts o k) (sym (s.marks ∙ ap (λ l. l ++ s.rest_marks) s.first.part.marks)) a

add_flag : (begins : Trees → Bool) (part Q : Spelling) (ts o : Trees) (m : Marks) → begins ts ≡ false → Q ts o m → (flag begins false part then Q) ts o m
add_flag begins part Q ts o m e s =
    record { middle = ts; first_marks = []; rest_marks = m; first = record { part = record { spelled = refl; marks = refl }; fact = e }; rest = s; marks = refl }

-- a part, and nothing behind it
drop_end : (P : Spelling) (Fact : Trees → Type 0) (ts o : Trees) (m : Marks) → (P then Before Fact Nothing) ts o m → P ts o m
drop_end P Fact ts o m s =
    let a : P ts o s.first_marks = subst (λ x. P ts x s.first_marks) s.rest.part.spelled s.first in
    subst (λ k. P ts o k) (sym (s.marks ∙ ap (λ l. s.first_marks ++ l) s.rest.part.marks ∙ append-nil s.first_marks)) a

add_end : (P : Spelling) (Fact : Trees → Type 0) (ts o : Trees) (m : Marks) → Fact o → P ts o m → (P then Before Fact Nothing) ts o m
add_end P Fact ts o m e s =
    then_nothing s (record { part = record { spelled = refl; marks = refl }; fact = e })

-- ---- what follows the name of a binding: `<`, or a lone `=` or `:`

record Marked (ts : Trees) : Type 0 where
  no_colons : sees_colons ts ≡ false
  no_call : is_call (Some ts) ≡ false
  no_group : sees_group Paren ts ≡ false

one_is : (c : ℕ) (ts : Trees) → sees_one (c ∷ []) ts ≡ false → sees c ts ≡ false
one_is c (token (t.Punct p) rest) e = by (nat_eq p.ch c) e
  where
    by : (b : Bool) → (b || false) ≡ false → b ≡ false
    by true f = f
    by false f = refl
one_is c _ e = refl

both_no : (a b c : Bool) → (a && b) ≡ false → (b ≡ false → c ≡ false) → (a && c) ≡ false
both_no true b c e f = f e
both_no false b c e f = refl

punct_no_call : (p : Punct) (rest : Trees) → nat_eq p.ch 33 ≡ false → is_call (Some (token (t.Punct p) rest)) ≡ false
punct_no_call p (group d from inside upto rest) e = e
punct_no_call p no_trees e = refl
punct_no_call p (token k rest) e = refl

angle_marked : (w : Where) (ts o : Trees) (m : Marks) → punct w 60 ts o m → Marked ts
angle_marked w ts o m s =
    let e = s.there.spelled in
    record {
      no_colons = ap sees_colons e ∙ ap (λ c. (nat_eq c 58 && is_joint s.punct.spacing) && sees 58 o) s.is;
      no_call = ap (λ x. is_call (Some x)) e ∙ punct_no_call s.punct o (ap (λ c. nat_eq c 33) s.is);
      no_group = ap (sees_group Paren) e;
    }

-- the end of a name: no arguments follow
record NameEnd (ts : Trees) : Type 0 where
  marked : Marked ts
  no_arguments : sees_arguments ts ≡ false

all_no : (a b c d : Bool) → a ≡ false → b ≡ false → d ≡ false → (a || (b && c) || d) ≡ false
all_no a b c d e f g = rw (e, f, g) refl

name_end : (ts : Trees) → Marked ts → sees 60 ts ≡ false → NameEnd ts
name_end ts h e = record { marked = h; no_arguments = all_no (sees 60 ts) (sees_colons ts) (sees 60 (behind_colons ts)) (sees_group Paren ts) e h.no_colons h.no_group }

equals_end : (w : Where) (ts o : Trees) (m : Marks) → equals w ts o m → NameEnd ts
equals_end w ts o m s =
    let e = s.there.spelled in
    name_end ts
    (record {
      no_colons = ap sees_colons e ∙ ap (λ c. (nat_eq c 58 && is_joint s.punct.spacing) && sees 58 o) s.is;
      no_call = ap (λ x. is_call (Some x)) e ∙ punct_no_call s.punct o (ap (λ c. nat_eq c 33) s.is);
      no_group = ap (sees_group Paren) e;
    })
    (ap (sees 60) e ∙ ap (λ c. nat_eq c 60) s.is)

colon_end : (w : Where) (ts o : Trees) (m : Marks) → colon w ts o m → NameEnd ts
colon_end w ts o m s =
    let e = s.there.spelled in
    name_end ts
    (record {
      no_colons = ap sees_colons e ∙ ap (λ c. (nat_eq c 58 && is_joint s.punct.spacing) && sees 58 o) s.is ∙
          both_no (is_joint s.punct.spacing) (sees_one (58 ∷ []) o) (sees 58 o) s.lone (one_is 58 o);
      no_call = ap (λ x. is_call (Some x)) e ∙ punct_no_call s.punct o (ap (λ c. nat_eq c 33) s.is);
      no_group = ap (sees_group Paren) e;
    })
    (ap (sees 60) e ∙ ap (λ c. nat_eq c 60) s.is)

colon_no_equals : (w : Where) (ts o : Trees) (m : Marks) → colon w ts o m → sees_equals ts ≡ false
colon_no_equals w ts o m s =
    ap sees_equals s.there.spelled ∙ ap (λ c. nat_eq c 61 && not (is_joint s.punct.spacing && sees_one (61 ∷ 62 ∷ []) o)) s.is

-- ---- the name and the arguments of a binding, read as a type

abbrev Binding : Where → Ident → MaybeArguments → Spelling
Binding w i gs = name w i then maybe_angled gs w

abbrev named_arguments : MaybeArguments → ArgumentsTree
named_arguments arguments_absent = absent
named_arguments (some_arguments gs u) = angle false gs u

abbrev named_type : Ident → MaybeArguments → Marks → TypeTree
named_type i gs m = type_tree (path no_self (path_tree false (segment_then (segment i (named_arguments gs)) no_segments))) (range_of m)

named_is : (i : Ident) (gs : MaybeArguments) (m : Marks) → is_name i ≡ true → binding_of (named_type i gs m) ≡ Some (pair i gs)
named_is i arguments_absent m e = ap (λ b. if b then Some (pair i arguments_absent) else None) e
named_is i (some_arguments gs u) m e = ap (λ b. if b then Some (pair i (some_arguments gs u)) else None) e

-- what follows an identifier that `::` doesn't follow
idents_end : (ts : Trees) → sees_colons ts ≡ false → behind_idents ts ≡ ts
idents_end (token (t.Punct a) (token (t.Punct b) (token (t.Ident i) rest))) e =
    ap (λ x. cond x (behind_idents rest) (token (t.Punct a) (token (t.Punct b) (token (t.Ident i) rest)))) e
idents_end _ e = refl

name_macro : (i : Ident) (ts mid : Trees) → ts ≡ token (t.Ident i) mid → Marked mid → sees_macro ts ≡ false
name_macro i ts mid e h = ap sees_macro e ∙ ap (λ x. is_call (Some x)) (idents_end mid h.no_colons) ∙ h.no_call

path_word : (i : Ident) → is_name i ≡ true → is_path_word i ≡ true
path_word i e = ap (λ x. x || (is_word (codes "self") i || is_word (codes "Self") i || is_word (codes "super") i || is_word (codes "crate") i)) e

module _ (w : Where) (i : Ident) where
  segment_to : (gs : MaybeArguments) (ts o : Trees) (m : Marks) → NameEnd o → Binding w i gs ts o m → segment_spelled (segment i (named_arguments gs)) w ts o m
  segment_to arguments_absent ts o m h s =
      record {
        middle = s.middle;
        first_marks = s.first_marks;
        rest_marks = s.rest_marks;
        first = record { fact = path_word i s.first.fact; part = s.first.part };
        rest = record { part = s.rest; fact = h.no_arguments };
        marks = s.marks;
      }
  segment_to (some_arguments gs u) ts o m h s =
      record {
        middle = s.middle;
        first_marks = s.first_marks;
        rest_marks = s.rest_marks;
        first = record { fact = path_word i s.first.fact; part = s.first.part };
        rest = add_flag sees_colons (colons w) (between_angles w (λ v. arguments gs u v)) s.middle o s.rest_marks
            (angle_marked w s.middle s.rest.middle s.rest.first_marks s.rest.first).no_colons s.rest;
        marks = s.marks;
      }

  behind_name_marked : (gs : MaybeArguments) (ts o : Trees) (m : Marks) → Marked o → (s : Binding w i gs ts o m) → Marked s.middle
  behind_name_marked arguments_absent ts o m h s = subst Marked (sym s.rest.spelled) h
  behind_name_marked (some_arguments gs u) ts o m h s = angle_marked w s.middle s.rest.middle s.rest.first_marks s.rest.first

  named_to : (gs : MaybeArguments) (ts o : Trees) (m : Marks) → NameEnd o → Binding w i gs ts o m → type_spelled (named_type i gs m) false w ts o m
  named_to gs ts o m h s =
      record {
        part = record {
          fact = name_macro i ts s.middle s.first.part.spelled (behind_name_marked gs ts o m h.marked s);
          part = add_flag sees_colons (colons w) (λ us p k. segments (segment_then (segment i (named_arguments gs)) no_segments) w us p k) ts o m
              (ap sees_colons s.first.part.spelled)
              (add_end (λ us p k. segment_spelled (segment i (named_arguments gs)) w us p k) (λ others. sees_colons others ≡ false) ts o m h.marked.no_colons (segment_to gs ts o m h s));
        };
        is_range = refl;
      }

if_some : {A : Type 0} (a : Bool) (x y : A) → (if a then Some x else None) ≡ Some y → (a ≡ true) × (x ≡ y)
if_some true x y e = (refl, cc)
if_some false x y e = absurd (cc)

module _ (w : Where) (b : Ident × MaybeArguments) (ts o : Trees) (m : Marks) where
  segment_from : (i : Ident) (as' : ArgumentsTree) → named_by i as' ≡ Some b → segment_spelled (segment i as') w ts o m → Binding w b.0 b.1 ts o m
  segment_from i absent e s =
      let f = if_some (is_name i) (pair i arguments_absent) b e in
      subst (λ v. Binding w v.0 v.1 ts o m) f.1
      (record { middle = s.middle; first_marks = s.first_marks; rest_marks = s.rest_marks; first = record { fact = f.0; part = s.first.part }; rest = s.rest.part; marks = s.marks })
  segment_from i (angle false gs u) e s =
      let f = if_some (is_name i) (pair i (some_arguments gs u)) b e in
      subst (λ v. Binding w v.0 v.1 ts o m) f.1
      (record {
        middle = s.middle;
        first_marks = s.first_marks;
        rest_marks = s.rest_marks;
        first = record { fact = f.0; part = s.first.part };
        rest = drop_flag sees_colons (colons w) (between_angles w (λ v. arguments gs u v)) s.middle o s.rest_marks s.rest;
        marks = s.marks;
      })
  segment_from i (angle true gs u) e s = absurd (cc)
  segment_from i (parens xs u out) e s = absurd (cc)

  named_from : (x : TypeTree) → binding_of x ≡ Some b → type_spelled x false w ts o m → Binding w b.0 b.1 ts o m
  named_from (type_tree (path no_self (path_tree false (segment_then (segment i as') no_segments))) range) e s =
      segment_from i as' e
      (drop_end (λ us p k. segment_spelled (segment i as') w us p k) (λ others. sees_colons others ≡ false) ts o m
      (drop_flag sees_colons (colons w) (λ us p k. segments (segment_then (segment i as') no_segments) w us p k) ts o m s.part.part))
  named_from (type_tree (path no_self (path_tree false (segment_then g (segment_then h ss)))) range) e s = absurd (cc)
  named_from (type_tree (path no_self (path_tree false no_segments)) range) e s = absurd (cc)
  named_from (type_tree (path no_self (path_tree true ss)) range) e s = absurd (cc)
  named_from (type_tree (path (some_self x n) p) range) e s = absurd (cc)
  named_from (type_tree _ range) e s = absurd (cc)

-- ---- what stands behind a type of an argument

abbrev Behind : Where → TypeTree → ArgumentTree → Spelling
Behind w x (type_arg y) = Provided (y ≡ x) (Before (λ others. (sees_equals others || sees_colon others) ≡ false) Nothing)
Behind w x (assoc_type i gs y) = Provided (binding_of x ≡ Some (pair i gs)) (equals w then type_spelled y false w)
Behind w x (assoc_const i gs c) = Provided (binding_of x ≡ Some (pair i gs)) (equals w then constant_argument c w)
Behind w x (constraint i gs bs u) = Provided (binding_of x ≡ Some (pair i gs)) (colon w then bounds bs u w)
Behind w x (lifetime_arg l) = Provided ⊥ Nothing
Behind w x (const_arg c) = Provided ⊥ Nothing

abbrev InParts : Where → ArgumentTree → Spelling
InParts w = Bound (λ x. type_spelled x false w) (Behind w)

module _ (w : Where) (ts o : Trees) (m : Marks) where
  binding_to : (i : Ident) (gs : MaybeArguments) (Rest : Spelling) (x : TypeTree) → binding_of x ≡ Some (pair i gs) → (type_spelled x false w then Rest) ts o m →
      (name w i then (maybe_angled gs w then Rest)) ts o m
  binding_to i gs Rest x e s =
      then_right (name w i) (maybe_angled gs w) Rest ts o m
      (record {
        middle = s.middle;
        first_marks = s.first_marks;
        rest_marks = s.rest_marks;
        first = named_from w (pair i gs) ts s.middle s.first_marks x e s.first;
        rest = s.rest;
        marks = s.marks;
      })

  parts_to : (y : ArgumentTree) → InParts w y ts o m → argument y w ts o m
  parts_to (type_arg y) s =
      let p = s.parts in
      record {
        part = subst (λ v. type_spelled v false w ts o m) (sym p.rest.fact)
            (drop_end (λ us q k. type_spelled s.value false w us q k) (λ others. (sees_equals others || sees_colon others) ≡ false) ts o m
            (then_with p p.rest.part));
        fact = p.rest.part.fact;
      }
  parts_to (assoc_type i gs y) s = binding_to i gs (equals w then type_spelled y false w) s.value s.parts.rest.fact (then_map (λ mid k r. r.part) s.parts)
  parts_to (assoc_const i gs c) s = binding_to i gs (equals w then constant_argument c w) s.value s.parts.rest.fact (then_map (λ mid k r. r.part) s.parts)
  parts_to (constraint i gs bs u) s = binding_to i gs (colon w then bounds bs u w) s.value s.parts.rest.fact (then_map (λ mid k r. r.part) s.parts)
  parts_to (lifetime_arg l) s = absurd s.parts.rest.fact
  parts_to (const_arg c) s = absurd s.parts.rest.fact

  abbrev Parted : Ident → MaybeArguments → Spelling → Type 0
  Parted i gs Rest = (x : TypeTree) × (type_spelled x false w then Provided (binding_of x ≡ Some (pair i gs)) Rest) ts o m

  binding_back : (i : Ident) (gs : MaybeArguments) (Rest : Spelling) → ((us p : Trees) (k : Marks) → Rest us p k → NameEnd us) →
      (name w i then (maybe_angled gs w then Rest)) ts o m → Parted i gs Rest
  binding_back i gs Rest ends s =
      let q = then_left (name w i) (maybe_angled gs w) Rest ts o m s in (
        named_type i gs q.first_marks,
        record {
          middle = q.middle;
          first_marks = q.first_marks;
          rest_marks = q.rest_marks;
          first = named_to w i gs ts q.middle q.first_marks (ends q.middle o q.rest_marks q.rest) q.first;
          rest = record { fact = named_is i gs q.first_marks q.first.first.fact; part = q.rest };
          marks = q.marks;
        },
      )

  parts_back : sees_lifetime ts ≡ false → sees_constant ts ≡ false → (y : ArgumentTree) → argument y w ts o m → InParts w y ts o m
  parts_back d e (lifetime_arg l) s = let f = lifetime_seen w l ts o m s in absurd (cc)
  parts_back d e (const_arg c) s = let f = constant_seen w c ts o m s in absurd (cc)
  parts_back d e (type_arg y) s =
      record {
        value = y;
        parts = then_nothing s.part (record { fact = refl; part = record { part = record { spelled = refl; marks = refl }; fact = s.fact } });
      }
  parts_back d e (assoc_type i gs y) s =
      let q = binding_back i gs (equals w then type_spelled y false w) (λ us p k r. equals_end w us r.middle r.first_marks r.first) s in
      record { value = q.0; parts = q.1 }
  parts_back d e (assoc_const i gs c) s =
      let q = binding_back i gs (equals w then constant_argument c w) (λ us p k r. equals_end w us r.middle r.first_marks r.first) s in
      record { value = q.0; parts = q.1 }
  parts_back d e (constraint i gs bs u) s =
      let q = binding_back i gs (colon w then bounds bs u w) (λ us p k r. colon_end w us r.middle r.first_marks r.first) s in
      record { value = q.0; parts = q.1 }

-- ---- what is read there

-- behind `=`
abbrev Value : Where → Ident × MaybeArguments → ArgumentTree → Spelling
Value w b (assoc_type i gs y) = Provided (pair i gs ≡ b) (type_spelled y false w)
Value w b (assoc_const i gs c) = Provided (pair i gs ≡ b) (constant_argument c w)
Value w b _ = Provided ⊥ Nothing

some_is : {A : Type 0} (o : Option A) (x y : A) → o ≡ Some x → o ≡ Some y → x ≡ y
some_is None x y e f = absurd (cc)
some_is (Some z) x y e f = cc

module _ (w : Where) (b : Ident × MaybeArguments) (ts : Trees) where
  constant_value_back : sees_constant ts ≡ true → (y : ArgumentTree) (o : Trees) (m : Marks) → Value w b y ts o m → Image (constant_value b) (λ c. constant_argument c w) y ts o m
  constant_value_back e (assoc_type i gs y) o m s = let f = type_no_constant y false w ts o m s.part in absurd (cc)
  constant_value_back e (assoc_const i gs c) o m s = record { value = c; is_it = ap (λ v. assoc_const v.0 v.1 c) s.fact; spelled = s.part }
  constant_value_back e _ o m s = absurd s.fact

  type_value_back : sees_constant ts ≡ false → (y : ArgumentTree) (o : Trees) (m : Marks) → Value w b y ts o m → Image (type_value b) (λ x. type_spelled x false w) y ts o m
  type_value_back e (assoc_type i gs y) o m s = record { value = y; is_it = ap (λ v. assoc_type v.0 v.1 y) s.fact; spelled = s.part }
  type_value_back e (assoc_const i gs c) o m s = let f = constant_seen w c ts o m s.part in absurd (cc)
  type_value_back e _ o m s = absurd s.fact

  value_to : (x : TypeTree) → binding_of x ≡ Some b → (y : ArgumentTree) (o : Trees) (m : Marks) → (equals w then Value w b y) ts o m → Behind w x y ts o m
  value_to x f (assoc_type i gs y) o m s = record { fact = f ∙ ap (λ v. Some v) (sym s.rest.fact); part = then_map (λ mid k r. r.part) s }
  value_to x f (assoc_const i gs c) o m s = record { fact = f ∙ ap (λ v. Some v) (sym s.rest.fact); part = then_map (λ mid k r. r.part) s }
  value_to x f (type_arg y) o m s = absurd s.rest.fact
  value_to x f (lifetime_arg l) o m s = absurd s.rest.fact
  value_to x f (const_arg c) o m s = absurd s.rest.fact
  value_to x f (constraint i gs bs u) o m s = absurd s.rest.fact

  value_back : sees_equals ts ≡ true → (x : TypeTree) → binding_of x ≡ Some b → (y : ArgumentTree) (o : Trees) (m : Marks) → Behind w x y ts o m → (equals w then Value w b y) ts o m
  value_back e x f (assoc_type i gs y) o m s = then_map (λ mid k r. record { fact = some_is (binding_of x) (pair i gs) b s.fact f; part = r }) s.part
  value_back e x f (assoc_const i gs c) o m s = then_map (λ mid k r. record { fact = some_is (binding_of x) (pair i gs) b s.fact f; part = r }) s.part
  value_back e x f (type_arg y) o m s =
      let g : (sees_equals ts || sees_colon ts) ≡ true = or_first (sees_equals ts) (sees_colon ts) e in
      let h : (sees_equals ts || sees_colon ts) ≡ false = ap (λ us. sees_equals us || sees_colon us) s.part.part.spelled ∙ s.part.fact in
      absurd (cc)
  value_back e x f (lifetime_arg l) o m s = absurd s.fact
  value_back e x f (const_arg c) o m s = absurd s.fact
  value_back e x f (constraint i gs bs u) o m s = let g = colon_no_equals w ts s.part.middle s.part.first_marks s.part.first in absurd (cc)

  constraint_back : sees_equals ts ≡ false → (sees_equals ts || sees_colon ts) ≡ true → (x : TypeTree) → binding_of x ≡ Some b → (y : ArgumentTree) (o : Trees) (m : Marks) →
      Behind w x y ts o m → Image (constraint_of b) (λ r. colon w then bounds r.0 r.1 w) y ts o m
  constraint_back e d x f (assoc_type i gs y) o m s = let g = lone_seen 61 (61 ∷ 62 ∷ []) w ts s.part.middle s.part.first_marks s.part.first in absurd (cc)
  constraint_back e d x f (assoc_const i gs c) o m s = let g = lone_seen 61 (61 ∷ 62 ∷ []) w ts s.part.middle s.part.first_marks s.part.first in absurd (cc)
  constraint_back e d x f (type_arg y) o m s =
      let h : (sees_equals ts || sees_colon ts) ≡ false = ap (λ us. sees_equals us || sees_colon us) s.part.part.spelled ∙ s.part.fact in
      absurd (cc)
  constraint_back e d x f (lifetime_arg l) o m s = absurd s.fact
  constraint_back e d x f (const_arg c) o m s = absurd s.fact
  constraint_back e d x f (constraint i gs bs u) o m s =
      record { value = pair bs u; is_it = ap (λ v. constraint v.0 v.1 bs u) (some_is (binding_of x) (pair i gs) b s.fact f); spelled = s.part }

-- where neither `=` nor `:` follows the argument is the type
module _ (w : Where) (x : TypeTree) (ts : Trees) where
  type_only : (sees_equals ts || sees_colon ts) ≡ false → (y : ArgumentTree) (o : Trees) (m : Marks) → Behind w x y ts o m → Same (type_arg x) ts [] y o m
  type_only e (type_arg y) o m s = record { value = ap (λ v. type_arg v) s.fact; left = sym s.part.part.spelled; marks = s.part.part.marks }
  type_only e (assoc_type i gs y) o m s =
      let f = or_first (sees_equals ts) (sees_colon ts) (lone_seen 61 (61 ∷ 62 ∷ []) w ts s.part.middle s.part.first_marks s.part.first) in
      absurd (cc)
  type_only e (assoc_const i gs c) o m s =
      let f = or_first (sees_equals ts) (sees_colon ts) (lone_seen 61 (61 ∷ 62 ∷ []) w ts s.part.middle s.part.first_marks s.part.first) in
      absurd (cc)
  type_only e (constraint i gs bs u) o m s =
      let f = or_second (sees_equals ts) (sees_colon ts) (lone_seen 58 (58 ∷ []) w ts s.part.middle s.part.first_marks s.part.first) in
      absurd (cc)
  type_only e (lifetime_arg l) o m s = absurd s.fact
  type_only e (const_arg c) o m s = absurd s.fact

  -- a type that is no name is followed by neither
  none_behind : (sees_equals ts || sees_colon ts) ≡ true → binding_of x ≡ None → (y : ArgumentTree) (o : Trees) (m : Marks) → Behind w x y ts o m → ⊥
  none_behind e f (type_arg y) o m s =
      let h : (sees_equals ts || sees_colon ts) ≡ false = ap (λ us. sees_equals us || sees_colon us) s.part.part.spelled ∙ s.part.fact in
      absurd (cc)
  none_behind e f (assoc_type i gs y) o m s = let g = s.fact in absurd (cc)
  none_behind e f (assoc_const i gs c) o m s = let g = s.fact in absurd (cc)
  none_behind e f (constraint i gs bs u) o m s = let g = s.fact in absurd (cc)
  none_behind e f (lifetime_arg l) o m s = absurd s.fact
  none_behind e f (const_arg c) o m s = absurd s.fact

module _ (inner : Mode → Where → Parser TypeTree) (w : Where) (types : Reader (λ x. type_spelled x false w) (inner Whole w))
    (some : Reader (λ r. bounds r.0 r.1 w) (read_bounds inner (inner_path inner) w)) where
  reads_binding_value : (b : Ident × MaybeArguments) → Reader (Value w b) (read_binding_value inner b w)
  reads_binding_value b ts =
      decides_test (Value w b) ts (sees_constant ts) (mapped (constant_value b) (read_constant w ts)) (mapped (type_value b) (inner Whole w ts))
      (λ e. decides_by (constant_value b) (λ c. constant_argument c w) (Value w b) ts (λ c o m s. record { fact = refl; part = s }) (constant_value_back w b ts e) (read_constant w ts)
      (reads_constant_argument w ts e))
      (λ e. decides_by (type_value b) (λ x. type_spelled x false w) (Value w b) ts (λ x o m s. record { fact = refl; part = s }) (type_value_back w b ts e) (inner Whole w ts) (types ts))

  name_decides : (x : TypeTree) (ts : Trees) → (sees_equals ts || sees_colon ts) ≡ true → (b : Option (Ident × MaybeArguments)) → binding_of x ≡ b →
      Decides (Behind w x) ts (behind_name inner w b ts)
  name_decides x ts e None f = none_behind w x ts e f
  name_decides x ts e (Some b) f =
      decides_test (Behind w x) ts (sees_equals ts) ((read_equals w next read_binding_value inner b w) ts)
      (mapped (constraint_of b) ((read_colon w next read_bounds inner (inner_path inner) w) ts))
      (λ g. decides_iff (λ y. equals w then Value w b y) (Behind w x) ts (value_to w b ts x f) (value_back w b ts g x f) ((read_equals w next read_binding_value inner b w) ts)
      (reads_next (equals w) (Value w b) (read_equals w) (read_binding_value inner b w) (reads_lone 61 (61 ∷ 62 ∷ []) w) (reads_binding_value b) ts))
      (λ g. decides_by (constraint_of b) (λ r. colon w then bounds r.0 r.1 w) (Behind w x) ts (λ r o m s. record { fact = f; part = s }) (constraint_back w b ts g e x f)
      ((read_colon w next read_bounds inner (inner_path inner) w) ts)
      (reads_next (colon w) (λ r. bounds r.0 r.1 w) (read_colon w) (read_bounds inner (inner_path inner) w) (reads_lone 58 (58 ∷ []) w) some ts))

  behind_decides : (x : TypeTree) → Reader (Behind w x) (behind_type inner w x)
  behind_decides x ts =
      decides_test (Behind w x) ts (sees_equals ts || sees_colon ts) (behind_name inner w (binding_of x) ts) (Ok (type_arg x, ts))
      (λ e. name_decides x ts e (binding_of x) refl)
      (λ e. record {
        marks = [];
        spelled = record { fact = refl; part = record { part = record { spelled = refl; marks = refl }; fact = e } };
        within = refl;
        covers = covers_none ts;
        only = type_only w x ts e;
      })

  -- ---- one argument

  name_no_constant : (i : Ident) (ts o : Trees) (m : Marks) → sees_constant ts ≡ true → name w i ts o m → ⊥
  name_no_constant i ts o m e s =
      let a : is_truth i ≡ true = sym (ap constant_front s.part.spelled) ∙ (no_call (sees_macro ts) (constant_front ts) e).1 in
      let b : is_name i ≡ false = truth_no_name i a in
      let c : is_name i ≡ true = s.fact in
      absurd (cc)

  lifetime_back : (ts : Trees) → sees_lifetime ts ≡ true → (y : ArgumentTree) (o : Trees) (m : Marks) → argument y w ts o m → Image lifetime_of (lifetime w) y ts o m
  lifetime_back ts e (lifetime_arg l) o m s = record { value = l; is_it = refl; spelled = s }
  lifetime_back ts e (type_arg x) o m s = let f = type_no_lifetime x false w ts o m s.part in absurd (cc)
  lifetime_back ts e (const_arg c) o m s = let f = (constant_fronts w c ts o m s.part.fact s.part.part).no_lifetime in absurd (cc)
  lifetime_back ts e (assoc_type i gs x) o m s = let f : sees_lifetime ts ≡ false = ap sees_lifetime s.first.part.spelled in absurd (cc)
  lifetime_back ts e (assoc_const i gs c) o m s = let f : sees_lifetime ts ≡ false = ap sees_lifetime s.first.part.spelled in absurd (cc)
  lifetime_back ts e (constraint i gs bs u) o m s = let f : sees_lifetime ts ≡ false = ap sees_lifetime s.first.part.spelled in absurd (cc)

  constant_back : (ts : Trees) → sees_lifetime ts ≡ false → sees_constant ts ≡ true → (y : ArgumentTree) (o : Trees) (m : Marks) → argument y w ts o m →
      Image constant_of (λ c. constant_argument c w) y ts o m
  constant_back ts d e (lifetime_arg l) o m s = let f = lifetime_seen w l ts o m s in absurd (cc)
  constant_back ts d e (type_arg x) o m s = let f = type_no_constant x false w ts o m s.part in absurd (cc)
  constant_back ts d e (const_arg c) o m s = record { value = c; is_it = refl; spelled = s }
  constant_back ts d e (assoc_type i gs x) o m s = absurd (name_no_constant i ts s.middle s.first_marks e s.first)
  constant_back ts d e (assoc_const i gs c) o m s = absurd (name_no_constant i ts s.middle s.first_marks e s.first)
  constant_back ts d e (constraint i gs bs u) o m s = absurd (name_no_constant i ts s.middle s.first_marks e s.first)

  pub reads_argument : Reader (λ y. argument y w) (read_argument inner w)
  reads_argument ts =
      decides_test (λ y. argument y w) ts (sees_lifetime ts) (mapped lifetime_of (read_lifetime w ts))
      (if sees_constant ts then mapped constant_of (read_constant w ts) else and_then (inner Whole w ts) (behind_type inner w))
      (λ e. decides_by lifetime_of (lifetime w) (λ y. argument y w) ts (λ l o m s. s) (lifetime_back ts e) (read_lifetime w ts) (reads_lifetime w ts))
      (λ d.
      decides_test (λ y. argument y w) ts (sees_constant ts) (mapped constant_of (read_constant w ts)) (and_then (inner Whole w ts) (behind_type inner w))
      (λ e. decides_by constant_of (λ c. constant_argument c w) (λ y. argument y w) ts (λ c o m s. s) (constant_back ts d e) (read_constant w ts) (reads_constant_argument w ts e))
      (λ e. decides_iff (InParts w) (λ y. argument y w) ts (λ y o m s. parts_to w ts o m y s) (λ y o m s. parts_back w ts o m d e y s)
      (and_then (inner Whole w ts) (behind_type inner w))
      (decides_bind (λ x. type_spelled x false w) (Behind w) ts (inner Whole w ts) (behind_type inner w) (types ts) (λ x mid _. behind_decides x mid))))

-- ---- lists of arguments

pub argument_no_angle : (w : Where) (y : ArgumentTree) (ts o : Trees) (m : Marks) → argument y w ts o m → sees 62 ts ≡ false
argument_no_angle w (lifetime_arg l) ts o m s = ap (sees 62) s.spelled
argument_no_angle w (type_arg x) ts o m s = type_no_angle x false w ts o m s.part
argument_no_angle w (const_arg c) ts o m s = (constant_fronts w c ts o m s.part.fact s.part.part).no_angle
argument_no_angle w (assoc_type i gs x) ts o m s = ap (sees 62) s.first.part.spelled
argument_no_angle w (assoc_const i gs c) ts o m s = ap (sees 62) s.first.part.spelled
argument_no_angle w (constraint i gs bs u) ts o m s = ap (sees 62) s.first.part.spelled

module _ (inner : Mode → Where → Parser TypeTree) where
  pub reads_arguments_by : (v : Where) → Reader (λ y. argument y v) (read_argument inner v) → Reader (λ r. arguments r.0 r.1 v) (read_arguments inner v)
  reads_arguments_by v h = reads_lists (argument_lists v) (read_argument inner v) (λ g ts o m s. argument_no_angle v g ts o m s) h

  pub reads_arguments : (n : ℕ) (v : Where) → n < v.level → ReadsDeeper inner n → Reader (λ r. arguments r.0 r.1 v) (read_arguments inner v)
  reads_arguments n v h deep =
      reads_arguments_by v (reads_argument inner v (deep Whole v h) (reads_bounds inner (inner_path inner) v (paths_deeper inner n v.level h deep)))
