-- `(..)`, `[..]` and `&`: what the readers of these types decide, where the readers of the types in them decide those.
use Rattle.std.proofs.Common.{◌≡◌, Bool, true, false, not, [], ◌++◌, codes, Option, Some, None, refl, sym, ap, ◌∙◌, subst, append-nil, arith}
use Rattle.dm_stream.specs.declared.tokens.Delim.TheVariants.{Paren, Bracket}
use Rattle.dm_stream.specs.declared.tokens.Lifetime.{Lifetime}
use Rattle.dm_stream.specs.Trees.{Trees, no_trees}
use Rattle.dm_ast.specs.declared.plain.Opaque.{Opaque}
use Rattle.dm_read_paths.specs.declared.kind.NodeKind.TheVariants as kind
use Rattle.dm_read_paths.specs.declared.kind.Mode.{Mode}
use Rattle.dm_read_paths.specs.declared.kind.Mode.TheVariants.{Whole, Single}
use Rattle.dm_ast.specs.Spelling.{Where, deeper, Marks, Spelling, ◌then◌, GroupAt, sees, sees_word, sees_lifetime, lifetime, punct, keyword, flag, perhaps}
use Rattle.dm_ast.specs.TypeGrammar.{type_spelled, node, types, opaque, is_tuple, is_macro, sees_macro}
use Rattle.dm_ast.specs.Tree.{TypeTree, TypeNode, paren, tuple, slice, array, reference, path, no_self, some_self, TypeTrees, no_types, type_then}
use Rattle.dm_ast.specs.Readers.{Parser, ◌and◌, ◌next◌, read_flag, read_perhaps, read_lifetime, read_punct, read_word, read_group, inside_at}
use Rattle.dm_ast.specs.PlainReaders.{read_opaque}
use Rattle.dm_read_paths.specs.TypeReaders.{node_kind, read_types, round_by, round_of, read_round, square_by, square_of, read_length, read_square, reference_of, read_reference}
use Rattle.dm_read.proofs.Deciding.{Decides, Reader, Image, pair, reads_and, reads_next, reads_flag, reads_perhaps}
use Rattle.dm_read.proofs.Tokens.{reads_lifetime, lifetime_seen, reads_punct, punct_seen, reads_word, word_seen}
use Rattle.dm_read.proofs.Groups.{reads_group}
use Rattle.dm_read_paths.proofs.PlainParts.{reads_opaque}
use Rattle.dm_read_paths.proofs.NodeKinds.{kind_of}
use Rattle.dm_read_paths.proofs.TypeRules.{ReadsDeeper, NodeAt, reads_types, rule_by}
use Rattle.dm_read_paths.proofs.Sequences.{group_with, then_nothing}

module _ (inner : Mode → Where → Parser TypeTree) where
  -- ---- `(..)`: a type in parentheses, or a tuple

  abbrev Round : Where → TypeTrees × Bool → Spelling
  Round w r = GroupAt w Paren (λ v. types r.0 r.1 v)

  -- a type alone in a list
  alone_to : (t : TypeTree) (v : Where) (ts o : Trees) (m : Marks) → types (type_then t no_types) false v ts o m → type_spelled t false v ts o m
  alone_to t v ts o m s =
      let a : type_spelled t false v ts o s.first_marks = subst (λ x. type_spelled t false v ts x s.first_marks) s.rest.part.spelled s.first in
      subst (λ k. type_spelled t false v ts o k) (sym (s.marks ∙ ap (λ l. s.first_marks ++ l) s.rest.part.marks ∙ append-nil s.first_marks)) a

  alone_back : (t : TypeTree) (v : Where) (ts o : Trees) (m : Marks) → type_spelled t false v ts o m → sees 44 o ≡ false → types (type_then t no_types) false v ts o m
  alone_back t v ts o m s e =
      then_nothing s (record { part = record { spelled = refl; marks = refl }; fact = e })

  -- whether a list in parentheses is a tuple
  round_to : (w : Where) (single : Bool) (xs : TypeTrees) (u : Bool) (ts o : Trees) (m : Marks) → Round w (pair xs u) ts o m → node (round_by xs u) single w ts o m
  round_to w single no_types u ts o m s = record { fact = ap not s.whole.fact; part = s }
  round_to w single (type_then t no_types) true ts o m s = record { fact = refl; part = s }
  round_to w single (type_then t no_types) false ts o m s =
      group_with s (alone_to t (inside_at w s.closer.start) s.inside no_trees s.inner_marks s.whole)
  round_to w single (type_then t (type_then x xs)) u ts o m s = record { fact = refl; part = s }

  no_macro : (xs : TypeTrees) (u : Bool) → is_macro (round_by xs u) ≡ false
  no_macro no_types u = refl
  no_macro (type_then t no_types) true = refl
  no_macro (type_then t no_types) false = refl
  no_macro (type_then t (type_then x xs)) u = refl

  tuple_is : (xs : TypeTrees) (u : Bool) → is_tuple xs u ≡ true → tuple xs u ≡ round_by xs u
  tuple_is no_types u e = refl
  tuple_is (type_then t no_types) true e = refl
  tuple_is (type_then t no_types) false e = absurd (cc)
  tuple_is (type_then t (type_then x xs)) u e = refl

  round_back : (w : Where) (single : Bool) (y : TypeNode) (ts o : Trees) (m : Marks) → NodeAt single w y ts o m → kind_of y ≡ kind.Round → Image round_of (Round w) y ts o m
  round_back w single (paren t) ts o m s e =
      let p = s.part in
      record {
        value = pair (type_then t no_types) false;
        is_it = refl;
        spelled = group_with p (alone_back t (inside_at w p.closer.start) p.inside no_trees p.inner_marks p.whole refl);
      }
  round_back w single (tuple xs u) ts o m s e = record { value = pair xs u; is_it = tuple_is xs u s.part.fact; spelled = s.part.part }
  round_back w single (path no_self p) ts o m s e = absurd (cc)
  round_back w single (path (some_self t n) p) ts o m s e = absurd (cc)
  round_back w single _ ts o m s e = absurd (cc)

  pub round_rule : (single : Bool) (w : Where) → ReadsDeeper inner w.level → (ts : Trees) → node_kind ts ≡ kind.Round → sees_macro ts ≡ false →
      Decides (NodeAt single w) ts (read_round inner w ts)
  round_rule single w h =
      rule_by inner round_of (Round w) single w kind.Round (read_group Paren (read_types inner) w)
      (λ x ts o m s. round_to w single x.0 x.1 ts o m s) (λ x. no_macro x.0 x.1) (round_back w single)
      (reads_group Paren (λ r v. types r.0 r.1 v) (read_types inner) w (λ limit. reads_types inner (inside_at w limit) (h Whole (inside_at w limit) (omega arith))))

  -- ---- `[..]`: a slice, or an array with its length

  abbrev Length : Where → Opaque → Spelling
  Length v x = punct v 59 then opaque v x

  abbrev Square : Where → TypeTree × Option Opaque → Spelling
  Square w r = GroupAt w Bracket (λ v. type_spelled r.0 false v then perhaps (sees 59) r.1 (Length v))

  slice_to : (t : TypeTree) (v : Where) (ts : Trees) (m : Marks) → (type_spelled t false v then perhaps (sees 59) None (Length v)) ts no_trees m → type_spelled t false v ts no_trees m
  slice_to t v ts m s =
      let a : type_spelled t false v ts no_trees s.first_marks = subst (λ x. type_spelled t false v ts x s.first_marks) s.rest.part.spelled s.first in
      subst (λ k. type_spelled t false v ts no_trees k) (sym (s.marks ∙ ap (λ l. s.first_marks ++ l) s.rest.part.marks ∙ append-nil s.first_marks)) a

  square_to : (w : Where) (single : Bool) (t : TypeTree) (x : Option Opaque) (ts o : Trees) (m : Marks) → Square w (pair t x) ts o m → node (square_by t x) single w ts o m
  square_to w single t None ts o m s =
      group_with s (slice_to t (inside_at w s.closer.start) s.inside s.inner_marks s.whole)
  square_to w single t (Some x) ts o m s = s

  no_call : (t : TypeTree) (x : Option Opaque) → is_macro (square_by t x) ≡ false
  no_call t None = refl
  no_call t (Some x) = refl

  square_back : (w : Where) (single : Bool) (y : TypeNode) (ts o : Trees) (m : Marks) → NodeAt single w y ts o m → kind_of y ≡ kind.Square → Image square_of (Square w) y ts o m
  square_back w single (slice t) ts o m s e =
      let p = s.part in
      record {
        value = pair t None;
        is_it = refl;
        spelled = group_with p (record { middle = no_trees; first_marks = p.inner_marks; rest_marks = []; first = p.whole; rest = record { part = record { spelled = refl; marks = refl }; fact = refl }; marks = sym (append-nil p.inner_marks) });
      }
  square_back w single (array t x) ts o m s e = record { value = pair t (Some x); is_it = refl; spelled = s.part }
  square_back w single (path no_self p) ts o m s e = absurd (cc)
  square_back w single (path (some_self t n) p) ts o m s e = absurd (cc)
  square_back w single _ ts o m s e = absurd (cc)

  reads_length : (v : Where) → Reader (λ x. perhaps (sees 59) x (Length v)) (read_length inner v)
  reads_length v =
      reads_perhaps (sees 59) (Length v) (read_punct 59 v next read_opaque v) (λ x ts o m s. punct_seen 59 v ts s.middle s.first_marks s.first)
      (reads_next (punct v 59) (opaque v) (read_punct 59 v) (read_opaque v) (reads_punct 59 v) (reads_opaque v))

  pub square_rule : (single : Bool) (w : Where) → ReadsDeeper inner w.level → (ts : Trees) → node_kind ts ≡ kind.Square → sees_macro ts ≡ false →
      Decides (NodeAt single w) ts (read_square inner w ts)
  square_rule single w h =
      rule_by inner square_of (Square w) single w kind.Square (read_group Bracket (λ v. inner Whole v and read_length inner v) w)
      (λ x ts o m s. square_to w single x.0 x.1 ts o m s) (λ x. no_call x.0 x.1) (square_back w single)
      (reads_group Bracket (λ r v. type_spelled r.0 false v then perhaps (sees 59) r.1 (Length v)) (λ v. inner Whole v and read_length inner v) w
      (λ limit. reads_and (λ t. type_spelled t false (inside_at w limit)) (λ x. perhaps (sees 59) x (Length (inside_at w limit))) (inner Whole (inside_at w limit)) (read_length inner (inside_at w limit))
      (h Whole (inside_at w limit) (omega arith)) (reads_length (inside_at w limit))))

  -- ---- `&`

  abbrev Behind : Where → Option Lifetime × (Bool × TypeTree) → Spelling
  Behind w r =
      perhaps sees_lifetime r.0 (lifetime (deeper w)) then (flag (sees_word (codes "mut")) r.1.0 (keyword (deeper w) (codes "mut")) then type_spelled r.1.1 true (deeper w))

  reference_back : (w : Where) (single : Bool) (y : TypeNode) (ts o : Trees) (m : Marks) → NodeAt single w y ts o m → kind_of y ≡ kind.Reference →
      Image reference_of (λ r. punct w 38 then Behind w r) y ts o m
  reference_back w single (reference l b t) ts o m s e = record { value = pair l (pair b t); is_it = refl; spelled = s.part }
  reference_back w single (path no_self p) ts o m s e = absurd (cc)
  reference_back w single (path (some_self t n) p) ts o m s e = absurd (cc)
  reference_back w single _ ts o m s e = absurd (cc)

  abbrev read_behind : Where → Parser (Option Lifetime × (Bool × TypeTree))
  read_behind w =
      read_perhaps sees_lifetime (read_lifetime (deeper w)) and (read_flag (sees_word (codes "mut")) (read_word (codes "mut") (deeper w)) and inner Single (deeper w))

  reads_behind : (w : Where) → Reader (λ t. type_spelled t true (deeper w)) (inner Single (deeper w)) → Reader (Behind w) (read_behind w)
  reads_behind w h =
      reads_and (λ l. perhaps sees_lifetime l (lifetime (deeper w))) (λ r. flag (sees_word (codes "mut")) r.0 (keyword (deeper w) (codes "mut")) then type_spelled r.1 true (deeper w))
      (read_perhaps sees_lifetime (read_lifetime (deeper w))) (read_flag (sees_word (codes "mut")) (read_word (codes "mut") (deeper w)) and inner Single (deeper w))
      (reads_perhaps sees_lifetime (lifetime (deeper w)) (read_lifetime (deeper w)) (lifetime_seen (deeper w)) (reads_lifetime (deeper w)))
      (reads_and (λ b. flag (sees_word (codes "mut")) b (keyword (deeper w) (codes "mut"))) (λ t. type_spelled t true (deeper w)) (read_flag (sees_word (codes "mut")) (read_word (codes "mut") (deeper w))) (inner Single (deeper w))
      (reads_flag (sees_word (codes "mut")) (keyword (deeper w) (codes "mut")) (read_word (codes "mut") (deeper w)) (word_seen (codes "mut") (deeper w)) (reads_word (codes "mut") (deeper w))) h)

  pub reference_rule : (single : Bool) (w : Where) → ReadsDeeper inner w.level → (ts : Trees) → node_kind ts ≡ kind.Reference → sees_macro ts ≡ false →
      Decides (NodeAt single w) ts (read_reference inner w ts)
  reference_rule single w h =
      rule_by inner reference_of (λ r. punct w 38 then Behind w r) single w kind.Reference (read_punct 38 w next read_behind w)
      (λ x ts o m s. s) (λ x. refl) (reference_back w single)
      (reads_next (punct w 38) (Behind w) (read_punct 38 w) (read_behind w) (reads_punct 38 w) (reads_behind w (h Single (deeper w) (omega arith))))
