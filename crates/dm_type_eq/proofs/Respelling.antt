-- What is spelled is spelled again by its own tokens without places, at the same level or a lower one, before whatever is cut from what
-- followed it. The parts that grammars are made of, and the parts of types that hold no types.
use Rattle.std.proofs.Common.{◌≡◌, ◌≢◌, ◌≤◌, ℕ, ◌+◌, cond, nat_lt, Bool, true, false, ◌&&◌, ◌||◌, nat_eq, IsTrue, List, [], ◌∷◌, ◌++◌, map, codes, Option, Some, None, refl, sym, ap, ◌∙◌, subst, arith, option_map}
use Rattle.std.proofs.lemmas.Bool.{ltb-true, lt-ltb}
use Rattle.dm_stream.specs.declared.tokens.Span.{Span}
use Rattle.dm_stream.specs.declared.tokens.Delim.{Delim}
use Rattle.dm_stream.specs.declared.tokens.Delim.TheVariants.{Bracket, Brace}
use Rattle.dm_stream.specs.declared.tokens.Ident.{Ident}
use Rattle.dm_stream.specs.declared.tokens.Lifetime.{Lifetime}
use Rattle.dm_stream.specs.declared.tokens.Literal.{Literal}
use Rattle.dm_stream.specs.declared.tokens.Spacing.{Spacing}
use Rattle.dm_stream.specs.declared.tokens.Spacing.TheVariants.{Joint, Alone}
use Rattle.dm_stream.specs.declared.tokens.Token.TheVariants as t
use Rattle.dm_stream.specs.Layout.{nowhere}
use Rattle.dm_stream.specs.Trees.{Trees, no_trees, token, group, join, join-no_trees, join_assoc, Stream}
use Rattle.dm_stream.specs.Cursors.{token_span}
use Rattle.dm_ast.specs.declared.plain.Opaque.{Opaque}
use Rattle.dm_ast.specs.declared.plain.PlainPath.{PlainPath}
use Rattle.dm_ast.specs.declared.plain.AttrArgs.{AttrArgs}
use Rattle.dm_ast.specs.declared.plain.AttrArgs.TheVariants as args
use Rattle.dm_ast.specs.declared.plain.Attribute.{Attribute}
use Rattle.dm_ast.specs.declared.plain.ConstArg.{ConstArg}
use Rattle.dm_ast.specs.declared.plain.ConstArg.TheVariants as constant
use Rattle.dm_ast.specs.Tree.{Lifetimes}
use Rattle.dm_ast.specs.Spelling.{Where, deeper, Marks, Spelling, deepest, first_too_deep, last_end, range_of, marks_of, at_end, sees, sees_word, sees_lifetime, sees_literal, sees_colons, Nothing, Facing, ◌then◌, Provided, Before, TokenAt, ident, lifetime, literal, punct, keyword, PairAt, LoneAt, colons, arrow, colon, equals, is_joint, sees_one, GroupAt, flag, perhaps, repeated, chain, no_items, last_item, items_left, items, RangedAt, AllAt}
use Rattle.dm_ast.specs.TypeGrammar.{name, plain_path, opaque, kept, attribute_args, attribute, attributes, between_angles, for_lifetimes, constant_spelled, constant_argument, not_named}
use Rattle.dm_ast.specs.TypeTokens as spell
use Rattle.dm_read_paths.proofs.PlainParts.{nothing_left}
use Rattle.dm_lexer.specs.Written.{unplaced, unplaced_token}
use Rattle.dm_type_eq.specs.Unplaced.{unplaced_abi, unplaced_args, unplaced_attribute, unplaced_constant, unplaced_ident, unplaced_lifetime, unplaced_lifetimes, unplaced_literal, unplaced_opaque, unplaced_plain, unplaced_stream}
use Rattle.dm_type_eq.proofs.Cutting.{IsAlone, Cut, cut_end, cut_ident, cut_lifetime, cut_literal, cut_punct, cut_pair, cut_group, Unseen, closed, unseen_sees, unseen_word, unseen_lifetime, unseen_literal, unseen_colons}
use Rattle.dm_type_eq.proofs.CutMacros.{unseen_macro}

-- marks of no higher levels, each at the range 0..0
abbrev pub Lowered : Marks → Marks → Type 0
Lowered [] [] = Unit {0}
Lowered (k ∷ ks) (l ∷ ls) = (k.0 ≤ l.0) × (k.1 ≡ nowhere) × Lowered ks ls
Lowered [] (l ∷ ls) = ⊥
Lowered (k ∷ ks) [] = ⊥

lowered_append : (a b m n : Marks) → Lowered a m → Lowered b n → Lowered (a ++ b) (m ++ n)
lowered_append [] b [] n h g = g
lowered_append (k ∷ ks) b (l ∷ ls) n h g = (h.0, h.1, lowered_append ks b ls n h.2 g)
lowered_append [] b (l ∷ ls) n h g = absurd h
lowered_append (k ∷ ks) b [] n h g = absurd h

-- a place whose level is no higher, in a list that ends at 0
pub record Lower (v w : Where) : Type 0 where
  pub level : v.level ≤ w.level
  pub limit : v.limit ≡ 0

pub below : {v w : Where} → Lower v w → Lower (deeper v) (deeper w)
below {v} {w} h = record { level = omega (arith, h.level); limit = h.limit }

pub record Again (S : Spelling) (own ts o : Trees) (m : Marks) : Type 0 where
  pub marks : Marks
  pub spelled : S (join own o) o marks
  pub lower : Lowered marks m
  pub cut : Cut (join own o) ts

-- the one part is spelled again as the other, with these tokens, before what such a relation has to the others
abbrev pub RespellsIf : (Trees → Trees → Type 0) → Spelling → Spelling → Trees → Type 0
RespellsIf G S R own = (ts others : Trees) (m : Marks) → S ts others m → (o : Trees) → Cut o others → G o others → Again R own ts o m

-- before anything
abbrev pub Anything : Trees → Trees → Type 0
Anything o others = Unit {0}

abbrev pub Respells : Spelling → Spelling → Trees → Type 0
Respells S R own = RespellsIf Anything S R own

-- before an end wherever there was one
abbrev pub Ending : (Trees → Bool) → Trees → Trees → Type 0
Ending ends o others = ends others ≡ true → ends o ≡ true

-- ---- parts one after another

again_then : {A B C D : Spelling} {a b ts others o : Trees} {m : Marks} → (s : (A then B) ts others m) → Again C a ts (join b o) s.first_marks →
    Again D b s.middle o s.rest_marks →
    Again (C then D) (join a b) ts o m
again_then {A} {B} {C} {D} {a} {b} {ts} {others} {o} {m} s x y =
    let e : join a (join b o) ≡ join (join a b) o = sym (join_assoc a b o) in
    record {
      marks = x.marks ++ y.marks;
      spelled = record {
        middle = join b o;
        first_marks = x.marks;
        rest_marks = y.marks;
        first = subst (λ z. C z (join b o) x.marks) e x.spelled;
        rest = y.spelled;
        marks = refl;
      };
      lower = subst (Lowered (x.marks ++ y.marks)) (sym s.marks) (lowered_append x.marks y.marks s.first_marks s.rest_marks x.lower y.lower);
      cut = subst (λ z. Cut z ts) e x.cut;
    }

pub respells_then : {G : Trees → Trees → Type 0} {A B C D : Spelling} {a b : Trees} → Respells A C a → RespellsIf G B D b →
    RespellsIf G (A then B) (C then D) (join a b)
respells_then {G} {A} {B} {C} {D} {a} {b} f g ts others m s o c h =
    let y : Again D b s.middle o s.rest_marks = g s.middle others s.rest_marks s.rest o c h in
    again_then s (f ts s.middle s.first_marks s.first (join b o) y.cut tt) y

-- the same tokens, put together in another way
pub respells_as : {G : Trees → Trees → Type 0} {A C : Spelling} {a b : Trees} → a ≡ b → RespellsIf G A C a → RespellsIf G A C b
respells_as {G} {A} {C} {a} {b} e f = subst (λ z. RespellsIf G A C z) e f

pub respells_nothing : Respells Nothing Nothing no_trees
respells_nothing ts others m s o c h =
    record {
      marks = [];
      spelled = record { spelled = refl; marks = refl };
      lower = subst (Lowered []) (sym s.marks) tt;
      cut = subst (λ z. Cut o z) (sym s.spelled) c;
    }

pub respells_before : {G : Trees → Trees → Type 0} {F : Trees → Type 0} {A C : Spelling} {a : Trees} →
    ((o others : Trees) → Cut o others → G o others → F others → F o) → Respells A C a → RespellsIf G (Before F A) (Before F C) a
respells_before {G} {F} {A} {C} {a} k f ts others m s o c h =
    let x : Again C a ts o m = f ts others m s.part o c tt in
    record { marks = x.marks; spelled = record { part = x.spelled; fact = k o others c h s.fact }; lower = x.lower; cut = x.cut }

pub respells_facing : {F : Trees → Type 0} {A C : Spelling} {a : Trees} → ((us ts : Trees) → Cut us ts → F ts → F us) → Respells A C a →
    Respells (Facing F A) (Facing F C) a
respells_facing {F} {A} {C} {a} k f ts others m s o c h =
    let x : Again C a ts o m = f ts others m s.part o c h in
    record { marks = x.marks; spelled = record { fact = k (join a o) ts x.cut s.fact; part = x.spelled }; lower = x.lower; cut = x.cut }

pub respells_provided : {G : Trees → Trees → Type 0} {E F : Type 0} {A C : Spelling} {a : Trees} → (E → F) → (E → RespellsIf G A C a) →
    RespellsIf G (Provided E A) (Provided F C) a
respells_provided {G} {E} {F} {A} {C} {a} k f ts others m s o c h =
    let x : Again C a ts o m = f s.fact ts others m s.part o c h in
    record { marks = x.marks; spelled = record { fact = k s.fact; part = x.spelled }; lower = x.lower; cut = x.cut }

-- no part, where the test isn't met
pub respells_absent : {test : Trees → Bool} → Unseen test → Respells (Before (λ x. test x ≡ false) Nothing) (Before (λ x. test x ≡ false) Nothing) no_trees
respells_absent u = respells_before (λ o others c h e. u o others c e) respells_nothing

pub respells_flag : {test : Trees → Bool} {A C : Spelling} {a : Trees} (b : Bool) → Unseen test → Respells A C a →
    Respells (flag test b A) (flag test b C) (spell.given b a)
respells_flag true u f = f
respells_flag false u f = respells_absent u

-- ---- tokens

-- the mark of a token, again
mark_lower : (n k : ℕ) (s : Span) (m : Marks) → n ≤ k → m ≡ (k, s) ∷ [] → Lowered ((n, nowhere) ∷ []) m
mark_lower n k s m h e = subst (Lowered ((n, nowhere) ∷ [])) (sym e) (h, refl, tt)

token_again : (v w : Where) (k : t.the_data) (ts others o : Trees) (m : Marks) → Lower v w → TokenAt w k ts others m → token_span (unplaced_token k) ≡ nowhere →
    Cut (token (unplaced_token k) o) (token k others) → Again (TokenAt v (unplaced_token k)) (token (unplaced_token k) no_trees) ts o m
token_again v w k ts others o m h s e c =
    record {
      marks = (v.level, nowhere) ∷ [];
      spelled = record { spelled = refl; marks = ap (λ z. (v.level, z) ∷ []) (sym e) };
      lower = mark_lower v.level w.level (token_span k) m h.level s.marks;
      cut = subst (λ z. Cut (token (unplaced_token k) o) z) (sym s.spelled) c;
    }

pub respells_ident : {v w : Where} → Lower v w → (i : Ident) → Respells (ident w i) (ident v (unplaced_ident i)) (spell.name (unplaced_ident i))
respells_ident {v} {w} l i ts others m s o c h = token_again v w (t.Ident i) ts others o m l s refl (cut_ident i o others c)

pub respells_lifetime : {v w : Where} → Lower v w → (i : Lifetime) → Respells (lifetime w i) (lifetime v (unplaced_lifetime i)) (spell.lifetime (unplaced_lifetime i))
respells_lifetime {v} {w} l i ts others m s o c h = token_again v w (t.Lifetime i) ts others o m l s refl (cut_lifetime (unplaced_lifetime i) i o others)

pub respells_literal : {v w : Where} → Lower v w → (i : Literal) → Respells (literal w i) (literal v (unplaced_literal i)) (spell.literal (unplaced_literal i))
respells_literal {v} {w} l i ts others m s o c h = token_again v w (t.Literal i) ts others o m l s refl (cut_literal (unplaced_literal i) i o others)

pub respells_word : {v w : Where} → Lower v w → (word : List ℕ) → Respells (keyword w word) (keyword v word) (spell.word word nowhere)
respells_word {v} {w} l word ts others m s o c h =
    let i : Ident = record { name = word; raw = false; span = s.range } in
    let x = token_again v w (t.Ident i) ts others o m l s.there refl (cut_ident i o others c) in
    record { marks = x.marks; spelled = record { range = nowhere; there = x.spelled }; lower = x.lower; cut = x.cut }

-- a character that is no `:` and no `=`
pub record IsPlain (c : ℕ) : Type 0 where
  pub no_colon : c ≡ 58 → ⊥
  pub no_equals : c ≡ 61 → ⊥

either_true : (b c : Bool) → c ≡ true → (b || c) ≡ false → ⊥
either_true true c e h = cc
either_true false c e h = cc

first_false : (b c : Bool) → b ≡ true → (b || c) ≡ false → ⊥
first_false true c e h = cc
first_false false c e h = cc

pub plain : (c : ℕ) → (nat_eq c 58 || nat_eq c 61) ≡ false → IsPlain c
plain c h =
    record {
      no_colon = λ e. first_false (nat_eq c 58) (nat_eq c 61) (ap (λ x. nat_eq x 58) e) h;
      no_equals = λ e. either_true (nat_eq c 58) (nat_eq c 61) (ap (λ x. nat_eq x 61) e) h;
    }

plain_alone : (c : ℕ) → IsPlain c → (s : Spacing) (ts : Trees) → IsAlone c s ts
plain_alone c h s ts = record { colon = λ e. absurd (h.no_colon e); equals = λ e. absurd (h.no_equals e) }

pub respells_punct : (c : ℕ) → IsPlain c → {v w : Where} → Lower v w → Respells (punct w c) (punct v c) (spell.punct c nowhere)
respells_punct c p {v} {w} l ts others m s o k h =
    record {
      marks = (v.level, nowhere) ∷ [];
      spelled = record {
        punct = record { ch = c; spacing = Alone; span = nowhere };
        is = refl;
        there = record { spelled = refl; marks = refl };
      };
      lower = mark_lower v.level w.level s.punct.span m l.level s.there.marks;
      cut = subst (λ z. Cut (join (spell.punct c nowhere) o) z) (sym s.there.spelled)
          (cut_punct c s.punct o others s.is (plain_alone c p s.punct.spacing others) (λ _. k));
    }

respells_lone : (c : ℕ) (stops : List ℕ) → ((s : Spacing) (ts : Trees) → (is_joint s && sees_one stops ts) ≡ false → IsAlone c s ts) →
    {v w : Where} → Lower v w → Respells (LoneAt w c stops) (LoneAt v c stops) (spell.punct c nowhere)
respells_lone c stops p {v} {w} l ts others m s o k h =
    record {
      marks = (v.level, nowhere) ∷ [];
      spelled = record {
        punct = record { ch = c; spacing = Alone; span = nowhere };
        is = refl;
        lone = refl;
        there = record { spelled = refl; marks = refl };
      };
      lower = mark_lower v.level w.level s.punct.span m l.level s.there.marks;
      cut = subst (λ z. Cut (join (spell.punct c nowhere) o) z) (sym s.there.spelled)
          (cut_punct c s.punct o others s.is (p s.punct.spacing others s.lone) (λ _. k));
    }

pub respells_colon : {v w : Where} → Lower v w → Respells (colon w) (colon v) (spell.punct 58 nowhere)
respells_colon l = respells_lone 58 (58 ∷ []) (λ s ts e. record { colon = λ _. e; equals = λ f. absurd (omega (arith, f)) }) l

pub respells_equals : {v w : Where} → Lower v w → Respells (equals w) (equals v) (spell.punct 61 nowhere)
respells_equals l = respells_lone 61 (61 ∷ 62 ∷ []) (λ s ts e. record { colon = λ f. absurd (omega (arith, f)); equals = λ _. e }) l

respells_pair : (a b : ℕ) {v w : Where} → Lower v w → Respells (PairAt w a b) (PairAt v a b) (spell.joint a b nowhere)
respells_pair a b {v} {w} l ts others m s o k h =
    record {
      marks = (v.level, nowhere) ∷ (v.level, nowhere) ∷ [];
      spelled = record {
        first = record { ch = a; spacing = Joint; span = nowhere };
        second = record { ch = b; spacing = Alone; span = nowhere };
        is_first = refl;
        is_joint = refl;
        is_second = refl;
        spelled = refl;
        marks = refl;
      };
      lower = subst (Lowered ((v.level, nowhere) ∷ (v.level, nowhere) ∷ [])) (sym s.marks) (l.level, refl, (l.level, refl, tt));
      cut = subst (λ z. Cut (join (spell.joint a b nowhere) o) z) (sym s.spelled)
          (cut_pair a b s.first s.second o others s.is_first s.is_joint s.is_second k);
    }

pub respells_colons : {v w : Where} → Lower v w → Respells (colons w) (colons v) (spell.colons nowhere)
respells_colons l = respells_pair 58 58 l

pub respells_arrow : {v w : Where} → Lower v w → Respells (arrow w) (arrow v) (spell.arrow nowhere)
respells_arrow l = respells_pair 45 62 l

-- ---- groups

-- the place inside a group, without the group's
abbrev inside_of : Where → Where
inside_of v = record { level = v.level + 1; limit = 0 }

-- the inside of a group, again
group_again : {v w : Where} → Lower v w → (d : Delim) (Inside Other : Where → Spelling) (own ts others o : Trees) (m k : Marks) (s : GroupAt w d Inside ts others m) →
    Other (inside_of v) own no_trees k →
    Lowered k s.inner_marks →
    Again (GroupAt v d Other) (spell.grouped d own) ts o m
group_again {v} {w} l d Inside Other own ts others o m k s x g =
    let all : Marks = (v.level, nowhere) ∷ (k ++ (v.level, nowhere) ∷ []) in
    record {
      marks = all;
      spelled = record { opener = nowhere; inside = own; closer = nowhere; inner_marks = k; spelled = refl; whole = x; marks = refl };
      lower = subst (Lowered all) (sym s.marks)
          (l.level, refl, lowered_append k ((v.level, nowhere) ∷ []) s.inner_marks ((w.level, s.closer) ∷ []) g (l.level, refl, tt));
      cut = subst (λ z. Cut (join (spell.grouped d own) o) z) (sym s.spelled) (cut_group d nowhere s.opener nowhere s.closer own o s.inside others);
    }

pub respells_group : (Inside Other : Where → Spelling) {a : Trees} {v w : Where} → Lower v w → (d : Delim) →
    ((x y : Where) → Lower x y → Respells (Inside y) (Other x) a) →
    Respells (GroupAt w d Inside) (GroupAt v d Other) (spell.grouped d a)
respells_group Inside Other {a} {v} {w} l d f ts others m s o c h =
    let y : Where = record { level = w.level + 1; limit = s.closer.start } in
    let x : Again (Other (inside_of v)) a s.inside no_trees s.inner_marks =
    f (inside_of v) y (record { level = omega (arith, l.level); limit = refl }) s.inside no_trees s.inner_marks s.whole no_trees (cut_end no_trees) tt in
    group_again l d Inside Other a ts others o m x.marks s (subst (λ z. Other (inside_of v) z no_trees x.marks) (join-no_trees a) x.spelled) x.lower

-- ---- trees that are not read

lower_levels : (n k : ℕ) (ts : Trees) → n ≤ k → Lowered (marks_of n (unplaced ts)) (marks_of k ts)
lower_levels n k no_trees h = tt
lower_levels n k (token (t.Ident i) rest) h = (h, refl, lower_levels n k rest h)
lower_levels n k (token (t.Lifetime i) rest) h = (h, refl, lower_levels n k rest h)
lower_levels n k (token (t.Literal i) rest) h = (h, refl, lower_levels n k rest h)
lower_levels n k (token (t.Punct i) rest) h = (h, refl, lower_levels n k rest h)
lower_levels n k (group d from inside upto rest) h = (
  h,
  refl,
  lowered_append (marks_of (n + 1) (unplaced inside)) ((n, nowhere) ∷ marks_of n (unplaced rest)) (marks_of (k + 1) inside) ((k, upto) ∷ marks_of k rest)
      (lower_levels (n + 1) (k + 1) inside (omega (arith, h))) (h, refl, lower_levels n k rest h),
)

pub respells_kept : {v w : Where} → Lower v w → (d : Delim) (x : Stream) →
    Respells (GroupAt w d (kept x)) (GroupAt v d (kept (unplaced_stream x))) (spell.grouped d (unplaced x.trees))
respells_kept {v} {w} l d x ts others m s o c h =
    group_again l d (kept x) (kept (unplaced_stream x)) (unplaced x.trees) ts others o m (marks_of (v.level + 1) (unplaced x.trees)) s
    (record { fact = refl; part = record { spelled = refl; none_left = refl; marks = refl } })
    (subst (Lowered (marks_of (v.level + 1) (unplaced x.trees))) (sym s.whole.part.marks) (lower_levels (v.level + 1) (w.level + 1) x.trees (omega (arith, l.level))))

some_unplaced : (ts : Trees) → ts ≢ no_trees → unplaced ts ≢ no_trees
some_unplaced no_trees h e = h refl
some_unplaced (token k rest) h e = absurd (cc)
some_unplaced (group d from inside upto rest) h e = absurd (cc)

-- the marks of what isn't read
abbrev Kept : Where → Opaque → Marks
Kept v x = marks_of v.level (unplaced x.tokens.trees)

opaque_again : {v w : Where} → Lower v w → (x : Opaque) (ts others : Trees) (m : Marks) → opaque w x ts others m → (o : Trees) → Cut o others →
    opaque v (unplaced_opaque x) (join (unplaced x.tokens.trees) o) o (Kept v x)
opaque_again {v} {w} l x ts others m s o c =
    let e : no_trees ≡ o = sym (closed o others c s.part.part.none_left) in
    record {
      fact = some_unplaced x.tokens.trees s.fact;
      part = record {
        fact = sym l.limit;
        part = subst (λ z. AllAt v (unplaced x.tokens.trees) (join (unplaced x.tokens.trees) z) z (Kept v x)) e
            (record { spelled = join-no_trees (unplaced x.tokens.trees); none_left = refl; marks = refl });
      };
    }

opaque_lower : {v w : Where} → Lower v w → (x : Opaque) (ts others : Trees) (m : Marks) → opaque w x ts others m → Lowered (Kept v x) m
opaque_lower {v} {w} l x ts others m s = subst (Lowered (Kept v x)) (sym s.part.part.marks) (lower_levels v.level w.level x.tokens.trees l.level)

-- what stands behind one punct, too
closing_lower : {v w : Where} → Lower v w → (x : Opaque) (ts others : Trees) (r : Span) (first rest m : Marks) → m ≡ first ++ rest →
    first ≡ (w.level, r) ∷ [] → opaque w x ts others rest → Lowered ((v.level, nowhere) ∷ Kept v x) m
closing_lower {v} {w} l x ts others r first rest m e f s =
    subst (Lowered ((v.level, nowhere) ∷ Kept v x)) (sym e)
    (lowered_append ((v.level, nowhere) ∷ []) (Kept v x) first rest (mark_lower v.level w.level r first l.level f) (opaque_lower l x ts others rest s))

-- a punct and all that is left behind it
abbrev Closing : ℕ → Opaque → Trees
Closing c x = join (spell.punct c nowhere) (unplaced x.tokens.trees)

-- behind a part of one mark
closed_again : {v w : Where} → Lower v w → (x : Opaque) (First : Spelling) (mid others : Trees) (m : Marks) → opaque w x mid others m → (ts o : Trees) → Cut o others →
    First ts (join (unplaced x.tokens.trees) o) ((v.level, nowhere) ∷ []) → (First then opaque v (unplaced_opaque x)) ts o ((v.level, nowhere) ∷ Kept v x)
closed_again {v} {w} l x First mid others m s ts o c first = record {
  middle = join (unplaced x.tokens.trees) o;
  first_marks = (v.level, nowhere) ∷ [];
  rest_marks = Kept v x;
  first = first;
  rest = opaque_again l x mid others m s o c;
  marks = refl;
}

pub respells_length : {v w : Where} → Lower v w → (x : Opaque) →
    Respells (punct w 59 then opaque w x) (punct v 59 then opaque v (unplaced_opaque x)) (Closing 59 x)
respells_length {v} {w} l x ts others m s o c h =
    let p = s.first in
    record {
      marks = (v.level, nowhere) ∷ Kept v x;
      spelled = closed_again l x (punct v 59) s.middle others s.rest_marks s.rest (join (Closing 59 x) o) o c
          (record { punct = record { ch = 59; spacing = Alone; span = nowhere }; is = refl; there = record { spelled = refl; marks = refl } });
      lower = closing_lower l x s.middle others p.punct.span s.first_marks s.rest_marks m s.marks p.there.marks s.rest;
      cut = subst (λ z. Cut (join (Closing 59 x) o) z) (sym p.there.spelled)
          (cut_punct 59 p.punct (join (unplaced x.tokens.trees) o) s.middle p.is
          (record { colon = λ e. absurd (omega (arith, e)); equals = λ e. absurd (omega (arith, e)) }) (λ e. absurd (omega (arith, e))));
    }

respells_value : {v w : Where} → Lower v w → (x : Opaque) →
    Respells (equals w then opaque w x) (equals v then opaque v (unplaced_opaque x)) (Closing 61 x)
respells_value {v} {w} l x ts others m s o c h =
    let p = s.first in
    record {
      marks = (v.level, nowhere) ∷ Kept v x;
      spelled = closed_again l x (equals v) s.middle others s.rest_marks s.rest (join (Closing 61 x) o) o c
          (record { punct = record { ch = 61; spacing = Alone; span = nowhere }; is = refl; lone = refl; there = record { spelled = refl; marks = refl } });
      lower = closing_lower l x s.middle others p.punct.span s.first_marks s.rest_marks m s.marks p.there.marks s.rest;
      cut = subst (λ z. Cut (join (Closing 61 x) o) z) (sym p.there.spelled)
          (cut_punct 61 p.punct (join (unplaced x.tokens.trees) o) s.middle p.is
          (record { colon = λ e. absurd (omega (arith, e)); equals = λ _. p.lone }) (λ e. absurd (omega (arith, e))));
    }

-- ---- lists

-- the trees of a list behind its first item
abbrev pub Left : ℕ → List Trees → Bool → Trees
Left c xs u = join (spell.spaced (spell.punct c nowhere) false xs) (spell.given u (spell.punct c nowhere))

module _ (c : ℕ) (p : IsPlain c) (ends : Trees → Bool) {v w : Where} (l : Lower v w) where
  pub respells_last : (u : Bool) → RespellsIf (Ending ends) (last_item w c ends u) (last_item v c ends u) (Left c [] u)
  respells_last true = respells_then (respells_punct c p l) (respells_before (λ o others k h e. h e) respells_nothing)
  respells_last false = respells_before (λ o others k h e. unseen_sees c o others k e) respells_nothing

  pub respells_none : (u : Bool) → RespellsIf (Ending ends) (no_items w c ends u) (no_items v c ends u) (spell.listed c nowhere [] u)
  respells_none true = λ ts others m s. absurd (cc)
  respells_none false = respells_provided (λ e. e) (λ _. respells_before (λ o others k h e. h e) respells_nothing)

  -- an item, and the others
  pub respells_first : {A C B D : Spelling} {x : Trees} (xs : List Trees) (u : Bool) → Respells A C x → RespellsIf (Ending ends) B D (Left c xs u) →
      RespellsIf (Ending ends) (A then B) (C then D) (spell.listed c nowhere (x ∷ xs) u)
  respells_first {A} {C} {B} {D} {x} xs u f g =
      respells_as (sym (join_assoc x (spell.spaced (spell.punct c nowhere) false xs) (spell.given u (spell.punct c nowhere)))) (respells_then f g)

  pub respells_next : {A C B D : Spelling} {x : Trees} (xs : List Trees) (u : Bool) → Respells A C x → RespellsIf (Ending ends) B D (Left c xs u) →
      RespellsIf (Ending ends) (punct w c then (A then B)) (punct v c then (C then D)) (Left c (x ∷ xs) u)
  respells_next {A} {C} {B} {D} {x} xs u f g =
      respells_as
      (ap (λ z. join (spell.punct c nowhere) z) (sym (join_assoc x (spell.spaced (spell.punct c nowhere) false xs) (spell.given u (spell.punct c nowhere)))))
      (respells_then (respells_punct c p l) (respells_then f g))

-- a list that ends where its trees end
pub respells_to_end : {A C : Spelling} {a : Trees} → RespellsIf (Ending at_end) A C a → Respells A C a
respells_to_end {A} {C} {a} f ts others m s o c h = f ts others m s o c (λ e. ap at_end (closed o others c (nothing_left others e)))

-- a list that `>` ends
closed_by : {A C : Spelling} {a : Trees} {v w : Where} → Lower v w → RespellsIf (Ending (sees 62)) A C a →
    Respells (A then punct w 62) (C then punct v 62) (join a (spell.punct 62 nowhere))
closed_by {A} {C} {a} {v} {w} l f ts others m s o c h =
    let y : Again (punct v 62) (spell.punct 62 nowhere) s.middle o s.rest_marks =
    respells_punct 62 (plain 62 refl) l s.middle others s.rest_marks s.rest o c tt in
    again_then s (f ts s.middle s.first_marks s.first (join (spell.punct 62 nowhere) o) y.cut (λ _. refl)) y

pub respells_angles : (Inside Other : Where → Spelling) {a : Trees} {v w : Where} → Lower v w →
    RespellsIf (Ending (sees 62)) (Inside (deeper w)) (Other (deeper v)) a →
    Respells (between_angles w Inside) (between_angles v Other) (join (spell.punct 60 nowhere) (join a (spell.punct 62 nowhere)))
respells_angles Inside Other {a} l f = respells_then (respells_punct 60 (plain 60 refl) l) (closed_by l f)

-- ---- the parts that hold no types

idents_left : {v w : Where} → Lower v w → (is : List Ident) →
    Respells (repeated sees_colons (λ y. colons w then ident w y) is)
    (repeated sees_colons (λ y. colons v then ident v y) (map unplaced_ident is))
    (spell.spaced (spell.colons nowhere) false (map spell.name (map unplaced_ident is)))
idents_left l [] = respells_absent unseen_colons
idents_left l (i ∷ is) =
    respells_as (join_assoc (spell.colons nowhere) (spell.name (unplaced_ident i)) (spell.spaced (spell.colons nowhere) false (map spell.name (map unplaced_ident is))))
    (respells_then (respells_then (respells_colons l) (respells_ident l i)) (idents_left l is))

idents_again : {v w : Where} → Lower v w → (is : List Ident) →
    Respells (chain (colons w) sees_colons (ident w) is) (chain (colons v) sees_colons (ident v) (map unplaced_ident is))
    (spell.spaced (spell.colons nowhere) true (map spell.name (map unplaced_ident is)))
idents_again l [] = λ ts others m s. absurd s.fact
idents_again l (i ∷ is) = respells_then (respells_ident l i) (idents_left l is)

pub respells_plain : {v w : Where} → Lower v w → (p : PlainPath) →
    Respells (plain_path w p) (plain_path v (unplaced_plain p)) (spell.plain_trees nowhere (unplaced_plain p))
respells_plain l p = respells_then (respells_flag p.leading_colon unseen_colons (respells_colons l)) (idents_again l p.segments)

args_again : {v w : Where} → Lower v w → (a : AttrArgs) →
    Respells (attribute_args w a) (attribute_args v (unplaced_args a)) (spell.attr_args_trees nowhere (unplaced_args a))
args_again l args.Absent = respells_to_end (respells_before (λ o others k h e. h e) respells_nothing)
args_again l (args.List d x) = respells_kept l d x
args_again l (args.Value x) = respells_value l x

lowered_last : (ks ls : Marks) → Lowered ks ls → last_end 0 ks ≡ 0
lowered_last [] [] h = refl
lowered_last (k ∷ ks) (l ∷ ls) h = ap (λ s. last_end s.«end» ks) h.1 ∙ lowered_last ks ls h.2
lowered_last [] (l ∷ ls) h = absurd h
lowered_last (k ∷ ks) [] h = absurd h

lowered_range : (ks ls : Marks) → Lowered ks ls → nowhere ≡ range_of ks
lowered_range [] ls h = refl
lowered_range (k ∷ ks) [] h = absurd h
lowered_range (k ∷ ks) (l ∷ ls) h =
    ap (λ n. record { start = 0; «end» = n }) (sym (lowered_last ks ls h.2)) ∙
    ap (λ s. record { start = s.start; «end» = last_end s.«end» ks }) (sym h.1)

pub respells_ranged : {A C : Spelling} {a : Trees} (range : Span) → Respells A C a → Respells (RangedAt range A) (RangedAt nowhere C) a
respells_ranged {A} {C} {a} range f ts others m s o c h =
    let x : Again C a ts o m = f ts others m s.part o c h in
    record { marks = x.marks; spelled = record { part = x.spelled; is_range = lowered_range x.marks m x.lower }; lower = x.lower; cut = x.cut }

attribute_again : {v w : Where} → Lower v w → (a : Attribute) →
    Respells (attribute w a) (attribute v (unplaced_attribute a)) (spell.attribute_trees (unplaced_attribute a))
attribute_again l a =
    respells_ranged a.span
    (respells_then (respells_punct 35 (plain 35 refl) l)
    (respells_group (λ v. plain_path v a.path then attribute_args v a.args) (λ v. plain_path v (unplaced_plain a.path) then attribute_args v (unplaced_args a.args)) l Bracket
    (λ x y k. respells_then (respells_plain k a.path) (args_again k a.args))))

pub respells_attributes : {v w : Where} → Lower v w → (as' : List Attribute) →
    Respells (attributes w as') (attributes v (map unplaced_attribute as')) (spell.attributes_trees (map unplaced_attribute as'))
respells_attributes l [] = respells_absent (unseen_sees 35)
respells_attributes l (a ∷ as') = respells_then (attribute_again l a) (respells_attributes l as')

lifetimes_left : {v w : Where} → Lower v w → (ls : List Lifetime) (u : Bool) →
    RespellsIf (Ending (sees 62)) (items_left w 44 (sees 62) (lifetime w) ls u)
    (items_left v 44 (sees 62) (lifetime v) (map unplaced_lifetime ls) u)
    (Left 44 (map spell.lifetime (map unplaced_lifetime ls)) u)
lifetimes_left l [] u = respells_last 44 (plain 44 refl) (sees 62) l u
lifetimes_left l (x ∷ ls) u =
    respells_next 44 (plain 44 refl) (sees 62) l (map spell.lifetime (map unplaced_lifetime ls)) u (respells_lifetime l x) (lifetimes_left l ls u)

lifetimes_again : {v w : Where} → Lower v w → (ls : List Lifetime) (u : Bool) →
    RespellsIf (Ending (sees 62)) (items w 44 (sees 62) (lifetime w) ls u)
    (items v 44 (sees 62) (lifetime v) (map unplaced_lifetime ls) u)
    (spell.listed 44 nowhere (map spell.lifetime (map unplaced_lifetime ls)) u)
lifetimes_again l [] u = respells_none 44 (plain 44 refl) (sees 62) l u
lifetimes_again l (x ∷ ls) u =
    respells_first 44 (plain 44 refl) (sees 62) l (map spell.lifetime (map unplaced_lifetime ls)) u (respells_lifetime l x) (lifetimes_left l ls u)

pub respells_for : {v w : Where} → Lower v w → (f : Lifetimes) →
    Respells (for_lifetimes w f) (for_lifetimes v (unplaced_lifetimes f)) (spell.for_trees nowhere (unplaced_lifetimes f))
respells_for l None = respells_absent (unseen_word (codes "for"))
respells_for l (Some ls) =
    respells_then (respells_word l (codes "for"))
    (respells_angles (λ v. items v 44 (sees 62) (lifetime v) ls.items ls.trailing)
    (λ v. items v 44 (sees 62) (lifetime v) (map unplaced_lifetime ls.items) ls.trailing) l (lifetimes_again (below l) ls.items ls.trailing))

constant_again : {v w : Where} → Lower v w → (c : ConstArg) →
    Respells (constant_spelled w c) (constant_spelled v (unplaced_constant c)) (spell.const_trees nowhere (unplaced_constant c))
constant_again l (constant.Literal minus x) =
    respells_then (respells_flag minus (unseen_sees 45) (respells_punct 45 (plain 45 refl) l)) (respells_literal l x)
constant_again l (constant.Bool i) = respells_provided (λ e. e) (λ _. respells_ident l i)
constant_again l (constant.Block x) = respells_kept l Brace x
constant_again l (constant.Name i) = respells_provided (λ e. e) (λ _. respells_ident l i)

not_named_again : (c : ConstArg) → IsTrue (not_named c) → IsTrue (not_named (unplaced_constant c))
not_named_again (constant.Literal minus l) h = h
not_named_again (constant.Bool i) h = h
not_named_again (constant.Block x) h = h
not_named_again (constant.Name i) h = h

pub respells_constant : {v w : Where} → Lower v w → (c : ConstArg) →
    Respells (constant_argument c w) (constant_argument (unplaced_constant c) v) (spell.const_trees nowhere (unplaced_constant c))
respells_constant l c = respells_facing unseen_macro (respells_provided (not_named_again c) (λ _. constant_again l c))

pub respells_name : {v w : Where} → Lower v w → (i : Ident) → Respells (name w i) (name v (unplaced_ident i)) (spell.name (unplaced_ident i))
respells_name l i = respells_provided (λ e. e) (λ _. respells_ident l i)

-- ---- what types may have

pub respells_maybe_lifetime : {v w : Where} → Lower v w → (l : Option Lifetime) →
    Respells (perhaps sees_lifetime l (lifetime w)) (perhaps sees_lifetime (option_map unplaced_lifetime l) (lifetime v))
    (spell.maybe_lifetime (option_map unplaced_lifetime l))
respells_maybe_lifetime l None = respells_absent unseen_lifetime
respells_maybe_lifetime l (Some x) = respells_lifetime l x

maybe_literal_again : {v w : Where} → Lower v w → (l : Option Literal) →
    Respells (perhaps sees_literal l (literal w)) (perhaps sees_literal (option_map unplaced_literal l) (literal v))
    (spell.maybe_literal (option_map unplaced_literal l))
maybe_literal_again l None = respells_absent unseen_literal
maybe_literal_again l (Some x) = respells_literal l x

pub respells_abi : {v w : Where} → Lower v w → (a : Option (Option Literal)) →
    Respells (perhaps (sees_word (codes "extern")) a (λ called. keyword w (codes "extern") then perhaps sees_literal called (literal w)))
    (perhaps (sees_word (codes "extern")) (unplaced_abi a)
    (λ called. keyword v (codes "extern") then perhaps sees_literal called (literal v))) (spell.abi_trees nowhere (unplaced_abi a))
respells_abi l None = respells_absent (unseen_word (codes "extern"))
respells_abi l (Some x) = respells_then (respells_word l (codes "extern")) (maybe_literal_again l x)

-- ---- levels

lower_deep : (n k : ℕ) (s r : Span) (a b : Option Span) → n ≤ k → cond (nat_lt deepest k) (Some s) a ≡ None → (a ≡ None → b ≡ None) →
    cond (nat_lt deepest n) (Some r) b ≡ None
lower_deep n k s r a b h e f = by (nat_lt deepest k) refl (nat_lt deepest n) refl
  where
    not_deep : nat_lt deepest k ≡ true → ⊥
    not_deep q = let g : Some s ≡ None = sym (ap (λ z. cond z (Some s) a) q) ∙ e in cc

    by : (x : Bool) → nat_lt deepest k ≡ x → (y : Bool) → nat_lt deepest n ≡ y → cond (nat_lt deepest n) (Some r) b ≡ None
    by true p y q = absurd (not_deep p)
    by false p true q = absurd (not_deep (lt-ltb deepest k (omega (arith, h, ltb-true deepest n q))))
    by false p false q = ap (λ z. cond z (Some r) b) q ∙ f (sym (ap (λ z. cond z (Some s) a) p) ∙ e)

-- what isn't too deep isn't so at lower levels
pub lowered_within : (ks ls : Marks) → Lowered ks ls → first_too_deep ls ≡ None → first_too_deep ks ≡ None
lowered_within [] [] h e = refl
lowered_within (k ∷ ks) (l ∷ ls) h e = lower_deep k.0 l.0 l.1 k.1 (first_too_deep ls) (first_too_deep ks) h.0 e (lowered_within ks ls h.2)
lowered_within [] (l ∷ ls) h e = absurd h
lowered_within (k ∷ ks) [] h e = absurd h
