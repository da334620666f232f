-- The parts that hold no types: what their readers decide.
use Rattle.std.proofs.Common.{◌≡◌, ◌<◌, Bool, true, false, cond, if◌then◌else◌, List, [], ◌∷◌, length, codes, Some, Ok, refl, sym, ap, ◌∙◌, subst, length-append, arith}
use Rattle.dm_stream.specs.declared.seq.Punctuated.{Punctuated}
use Rattle.dm_stream.specs.declared.tokens.Span.{Span}
use Rattle.dm_stream.specs.declared.tokens.Delim.{Delim}
use Rattle.dm_stream.specs.declared.tokens.Delim.TheVariants.{Bracket}
use Rattle.dm_stream.specs.declared.tokens.Ident.{Ident}
use Rattle.dm_stream.specs.declared.tokens.Lifetime.{Lifetime}
use Rattle.dm_stream.specs.declared.tokens.Token.TheVariants as t
use Rattle.dm_stream.specs.Trees.{Trees, no_trees, token, group, Stream}
use Rattle.dm_ast.specs.declared.plain.PlainPath.{PlainPath}
use Rattle.dm_ast.specs.declared.plain.Attribute.{Attribute}
use Rattle.dm_ast.specs.declared.plain.AttrArgs.{AttrArgs}
use Rattle.dm_ast.specs.declared.plain.AttrArgs.TheVariants as args
use Rattle.dm_ast.specs.Spelling.{Where, deeper, Marks, Spelling, ◌then◌, RangedAt, GroupAt, at_end, sees, sees_word, sees_colons, sees_equals, ident, lifetime, punct, keyword, colons, equals, flag, repeated, chain, items}
use Rattle.dm_ast.specs.TypeGrammar.{behind_idents, behind_colons, behind_first, behind_plain, plain_path, opaque, kept, attribute_args, attribute, attributes, between_angles, for_lifetimes}
use Rattle.dm_ast.specs.Readers.{Parser, mapped, ◌and◌, ◌till◌, ◌gives◌, refuse, read_any, read_lifetime, read_punct, read_word, read_colons, read_equals, read_group, inside_at, read_rest, read_list, ranged}
use Rattle.dm_ast.specs.PlainReaders.{plain_path_of, read_leading, read_idents, read_plain, with_delim, read_kept, opaque_of, read_opaque, list_args, value_args, read_value, read_args, read_inside, attribute_of, read_bracketed, read_attribute, read_attributes, read_angles, punctuated, read_lifetimes, read_some_for, read_for}
use Rattle.dm_read.proofs.Deciding.{Same, Decides, Reader, Image, Both, pair, decides_by, decides_test, covers_none, reads_and, reads_next, reads_till, reads_flag, reads_perhaps}
use Rattle.dm_read.proofs.Tokens.{reads_any, reads_lifetime, reads_punct, punct_seen, reads_word, word_seen}
use Rattle.dm_read.proofs.Groups.{reads_pair, pair_seen, reads_lone, lone_seen, reads_group, reads_rest}
use Rattle.dm_read_paths.proofs.Listing.{reads_list, reads_repeated, reads_chain, reads_ranged}

-- nothing is read
pub decides_nothing : {A : Type 0} (S : A → Spelling) (x : A) (ts : Trees) → S x ts ts [] → ((y : A) (o : Trees) (m : Marks) → S y ts o m → Same x ts [] y o m) →
    Decides S ts (Ok (x, ts))
decides_nothing S x ts s only = record { marks = []; spelled = s; within = refl; covers = covers_none ts; only = only }

-- a reader whose value is made of parts
pub reads_by : {A B : Type 0} (f : A → B) (P : A → Spelling) (S : B → Spelling) (p : Parser A) →
    ((x : A) (ts o : Trees) (m : Marks) → P x ts o m → S (f x) ts o m) → ((y : B) (ts o : Trees) (m : Marks) → S y ts o m → Image f P y ts o m) →
    Reader P p → Reader S (p gives f)
reads_by f P S p to back h ts = decides_by f P S ts (λ x o m s. to x ts o m s) (λ y o m s. back y ts o m s) (p ts) (h ts)

-- ---- plain paths

pub colons_some : (w : Where) (ts o : Trees) (m : Marks) → colons w ts o m → 0 < length m
colons_some w ts o m s = omega (arith, ap length s.marks)

pub reads_leading : (w : Where) → Reader (λ b. flag sees_colons b (colons w)) (read_leading w)
reads_leading w = reads_flag sees_colons (colons w) (read_colons w) (pair_seen 58 58 w) (reads_pair 58 58 w)

pub reads_idents : (w : Where) → Reader (chain (colons w) sees_colons (ident w)) (read_idents w)
reads_idents w = reads_chain w (colons w) (read_colons w) sees_colons (ident w) (read_any w) (pair_seen 58 58 w) (colons_some w) (reads_pair 58 58 w) (reads_any w)

pub reads_plain : (w : Where) → Reader (plain_path w) (read_plain w)
reads_plain w =
    reads_by plain_path_of (Both (λ b. flag sees_colons b (colons w)) (chain (colons w) sees_colons (ident w))) (plain_path w) (read_leading w and read_idents w)
    (λ v ts o m s. s) (λ p ts o m s. record { value = pair p.leading_colon p.segments; is_it = refl; spelled = s })
    (reads_and (λ b. flag sees_colons b (colons w)) (chain (colons w) sees_colons (ident w)) (read_leading w) (read_idents w) (reads_leading w) (reads_idents w))

-- what follows a plain path
stays : (ts : Trees) → sees_colons ts ≡ false → behind_idents ts ≡ ts
stays (token (t.Punct a) (token (t.Punct b) (token (t.Ident i) rest))) e =
    ap (λ x. cond x (behind_idents rest) (token (t.Punct a) (token (t.Punct b) (token (t.Ident i) rest)))) e
stays _ e = refl

idents_behind : (w : Where) (is : List Ident) (ts o : Trees) (m : Marks) → repeated sees_colons (λ y. colons w then ident w y) is ts o m → behind_idents ts ≡ o
idents_behind w [] ts o m s = ap behind_idents s.part.spelled ∙ stays o s.fact
idents_behind w (x ∷ xs) ts o m s =
    let c = s.first.first in
    let i = s.first.rest in
    let there : ts ≡ token (t.Punct c.first) (token (t.Punct c.second) (token (t.Ident x) s.middle)) =
    c.spelled ∙ ap (λ v. token (t.Punct c.first) (token (t.Punct c.second) v)) i.spelled in
    let seen : sees_colons (token (t.Punct c.first) (token (t.Punct c.second) (token (t.Ident x) s.middle))) ≡ true =
    ap sees_colons (sym there) ∙ pair_seen 58 58 w ts s.first.middle s.first.first_marks c in
    ap behind_idents there ∙ ap (λ v. cond v (behind_idents s.middle) (token (t.Punct c.first) (token (t.Punct c.second) (token (t.Ident x) s.middle)))) seen ∙
    idents_behind w xs s.middle o s.rest_marks s.rest

no_colons : (ts : Trees) → sees_colons ts ≡ false → behind_colons ts ≡ ts
no_colons (token (t.Punct a) (token (t.Punct b) rest)) e = ap (λ x. cond x rest (token (t.Punct a) (token (t.Punct b) rest))) e
no_colons _ e = refl

pub leading_behind : (w : Where) (b : Bool) (ts o : Trees) (m : Marks) → flag sees_colons b (colons w) ts o m → behind_colons ts ≡ o
leading_behind w false ts o m s = ap behind_colons s.part.spelled ∙ no_colons o s.fact
leading_behind w true ts o m s =
    let seen : sees_colons (token (t.Punct s.first) (token (t.Punct s.second) o)) ≡ true = ap sees_colons (sym s.spelled) ∙ pair_seen 58 58 w ts o m s in
    ap behind_colons s.spelled ∙ ap (λ x. cond x o (token (t.Punct s.first) (token (t.Punct s.second) o))) seen

chain_behind : (w : Where) (is : List Ident) (ts o : Trees) (m : Marks) → chain (colons w) sees_colons (ident w) is ts o m → behind_first ts ≡ Some o
chain_behind w [] ts o m s = absurd s.fact
chain_behind w (x ∷ xs) ts o m s = ap behind_first s.first.spelled ∙ ap (λ v. Some v) (idents_behind w xs s.middle o s.rest_marks s.rest)

pub plain_behind : (w : Where) (p : PlainPath) (ts o : Trees) (m : Marks) → plain_path w p ts o m → behind_plain ts ≡ Some o
plain_behind w p ts o m s =
    ap behind_first (leading_behind w p.leading_colon ts s.middle s.first_marks s.first) ∙ chain_behind w p.segments s.middle o s.rest_marks s.rest

-- ---- groups of any delimiter, and what is not read

abbrev Kept : Where → Delim × Stream → Spelling
Kept w v = GroupAt w v.0 (kept v.1)

kept_back : (w : Where) (d : Delim) (from : Span) (inside : Trees) (upto : Span) (rest : Trees) (v : Delim × Stream) (o : Trees) (m : Marks) →
    Kept w v (group d from inside upto rest) o m → Image (with_delim d) (λ s. GroupAt w d (kept s)) v (group d from inside upto rest) o m
kept_back w d from inside upto rest v o m s =
    let q = s.spelled in
    let e : v.0 ≡ d = cc in
    record { value = v.1; is_it = ap (λ x. pair x v.1) e; spelled = subst (λ x. GroupAt w x (kept v.1) (group d from inside upto rest) o m) e s }

pub reads_kept : (w : Where) → Reader (Kept w) (read_kept w)
reads_kept w (group d from inside upto rest) =
    decides_by (with_delim d) (λ s. GroupAt w d (kept s)) (Kept w) (group d from inside upto rest) (λ x o m s. s) (kept_back w d from inside upto rest)
    (read_group d read_rest w (group d from inside upto rest)) (reads_group d (λ s v. kept s v) read_rest w (λ limit. reads_rest (inside_at w limit)) (group d from inside upto rest))
reads_kept w no_trees = λ v o m s. let e = s.spelled in absurd (cc)
reads_kept w (token k rest) = λ v o m s. let e = s.spelled in absurd (cc)

some_left : (ts : Trees) → at_end ts ≡ false → ts ≡ no_trees → ⊥
some_left ts e n = let f : at_end ts ≡ true = ap at_end n in absurd (cc)

pub nothing_left : (ts : Trees) → at_end ts ≡ true → ts ≡ no_trees
nothing_left no_trees e = refl
nothing_left (token k rest) e = absurd (cc)
nothing_left (group d from inside upto rest) e = absurd (cc)

pub reads_opaque : (w : Where) → Reader (opaque w) (read_opaque w)
reads_opaque w ts =
    decides_test (opaque w) ts (at_end ts) (refuse w ts) (mapped opaque_of (read_rest w ts))
    (λ e x o m s. s.fact (sym s.part.part.spelled ∙ nothing_left ts e))
    (λ e.
    decides_by opaque_of (λ s. kept s w) (opaque w) ts
    (λ x o m s. record { fact = λ n. some_left ts e (s.part.spelled ∙ n); part = record { fact = s.fact; part = s.part } })
    (λ x o m s. record { value = x.tokens; is_it = refl; spelled = record { fact = s.part.fact; part = s.part.part } })
    (read_rest w ts) (reads_rest w ts))

-- ---- attributes

value_back : (w : Where) (ts : Trees) → at_end ts ≡ false → sees_equals ts ≡ true → (y : AttrArgs) (o : Trees) (m : Marks) → attribute_args w y ts o m →
    Image value_args (λ x. equals w then opaque w x) y ts o m
value_back w ts e f args.Absent o m s = let g : at_end ts ≡ true = ap at_end s.part.spelled ∙ s.fact in absurd (cc)
value_back w ts e f (args.List d inside) o m s = let g : sees_equals ts ≡ false = ap sees_equals s.spelled in absurd (cc)
value_back w ts e f (args.Value x) o m s = record { value = x; is_it = refl; spelled = s }

list_back : (w : Where) (ts : Trees) → at_end ts ≡ false → sees_equals ts ≡ false → (y : AttrArgs) (o : Trees) (m : Marks) → attribute_args w y ts o m →
    Image list_args (Kept w) y ts o m
list_back w ts e f args.Absent o m s = let g : at_end ts ≡ true = ap at_end s.part.spelled ∙ s.fact in absurd (cc)
list_back w ts e f (args.List d inside) o m s = record { value = pair d inside; is_it = refl; spelled = s }
list_back w ts e f (args.Value x) o m s = let g = lone_seen 61 (61 ∷ 62 ∷ []) w ts s.middle s.first_marks s.first in absurd (cc)

absent_only : (w : Where) (ts : Trees) → at_end ts ≡ true → (y : AttrArgs) (o : Trees) (m : Marks) → attribute_args w y ts o m → Same args.Absent ts [] y o m
absent_only w ts e args.Absent o m s = record { value = refl; left = sym s.part.spelled; marks = s.part.marks }
absent_only w ts e (args.List d inside) o m s = let g : at_end ts ≡ false = ap at_end s.spelled in absurd (cc)
absent_only w ts e (args.Value x) o m s = let g : at_end ts ≡ false = ap at_end s.first.there.spelled in absurd (cc)

pub reads_value : (w : Where) → Reader (λ x. equals w then opaque w x) (read_value w)
reads_value w = reads_next (equals w) (opaque w) (read_equals w) (read_opaque w) (reads_lone 61 (61 ∷ 62 ∷ []) w) (reads_opaque w)

pub reads_args : (w : Where) → Reader (attribute_args w) (read_args w)
reads_args w ts =
    decides_test (attribute_args w) ts (at_end ts) (Ok (args.Absent, ts)) (if sees_equals ts then mapped value_args (read_value w ts) else mapped list_args (read_kept w ts))
    (λ e. decides_nothing (attribute_args w) args.Absent ts (record { part = record { spelled = refl; marks = refl }; fact = e }) (absent_only w ts e))
    (λ e.
    decides_test (attribute_args w) ts (sees_equals ts) (mapped value_args (read_value w ts)) (mapped list_args (read_kept w ts))
    (λ f. decides_by value_args (λ x. equals w then opaque w x) (attribute_args w) ts (λ x o m s. s) (value_back w ts e f) (read_value w ts) (reads_value w ts))
    (λ f. decides_by list_args (Kept w) (attribute_args w) ts (λ x o m s. s) (list_back w ts e f) (read_kept w ts) (reads_kept w ts)))

abbrev Bracketed : Where → PlainPath × AttrArgs → Spelling
Bracketed w v = punct w 35 then GroupAt w Bracket (λ u. plain_path u v.0 then attribute_args u v.1)

pub reads_bracketed : (w : Where) → Reader (Bracketed w) (read_bracketed w)
reads_bracketed w =
    reads_next (punct w 35) (λ v. GroupAt w Bracket (λ u. plain_path u v.0 then attribute_args u v.1)) (read_punct 35 w) (read_group Bracket read_inside w) (reads_punct 35 w)
    (reads_group Bracket (λ v u. plain_path u v.0 then attribute_args u v.1) read_inside w
    (λ limit. reads_and (plain_path (inside_at w limit)) (attribute_args (inside_at w limit)) (read_plain (inside_at w limit)) (read_args (inside_at w limit))
    (reads_plain (inside_at w limit)) (reads_args (inside_at w limit))))

pub reads_attribute : (w : Where) → Reader (attribute w) (read_attribute w)
reads_attribute w =
    reads_by attribute_of (λ v. RangedAt v.1 (Bracketed w v.0)) (attribute w) (ranged (read_bracketed w))
    (λ v ts o m s. s) (λ a ts o m s. record { value = pair (pair a.path a.args) a.span; is_it = refl; spelled = s })
    (reads_ranged (Bracketed w) (read_bracketed w) (reads_bracketed w))

pub attribute_begins : (w : Where) (a : Attribute) (ts o : Trees) (m : Marks) → attribute w a ts o m → sees 35 ts ≡ true
attribute_begins w a ts o m s = punct_seen 35 w ts s.part.middle s.part.first_marks s.part.first

attribute_some : (w : Where) (a : Attribute) (ts o : Trees) (m : Marks) → attribute w a ts o m → 0 < length m
attribute_some w a ts o m s =
    let one : length s.part.first_marks ≡ 1 = ap length s.part.first.there.marks in
    omega (arith, ap length s.part.marks, length-append s.part.first_marks s.part.rest_marks, one)

pub reads_attributes : (w : Where) → Reader (attributes w) (read_attributes w)
reads_attributes w = reads_repeated w (sees 35) (attribute w) (read_attribute w) (attribute_begins w) (attribute_some w) (reads_attribute w)

-- ---- `<..>` and `for<..>`

pub reads_angles : {A : Type 0} (Inside : A → Where → Spelling) (inner : Where → Parser A) (w : Where) → Reader (λ x. Inside x (deeper w)) (inner (deeper w)) →
    Reader (λ x. between_angles w (Inside x)) (read_angles inner w)
reads_angles Inside inner w h =
    reads_next (punct w 60) (λ x. Inside x (deeper w) then punct w 62) (read_punct 60 w) (inner (deeper w) till read_punct 62 w) (reads_punct 60 w)
    (reads_till (λ x. Inside x (deeper w)) (punct w 62) (inner (deeper w)) (read_punct 62 w) h (reads_punct 62 w))

abbrev LifetimesAt : Punctuated Lifetime → Where → Spelling
LifetimesAt ls v = items v 44 (sees 62) (lifetime v) ls.items ls.trailing

pub reads_lifetimes : (v : Where) → Reader (λ ls. LifetimesAt ls v) (read_lifetimes v)
reads_lifetimes v =
    reads_by punctuated (λ r. items v 44 (sees 62) (lifetime v) r.0 r.1) (λ ls. LifetimesAt ls v) (read_list v 44 (sees 62) (read_lifetime v))
    (λ r ts o m s. s) (λ ls ts o m s. record { value = pair ls.items ls.trailing; is_it = refl; spelled = s })
    (reads_list v 44 (sees 62) (lifetime v) (read_lifetime v) (λ l ts o m s. ap (sees 62) s.spelled) (reads_lifetime v))

abbrev SomeFor : Where → Punctuated Lifetime → Spelling
SomeFor w ls = keyword w (codes "for") then between_angles w (LifetimesAt ls)

pub reads_for : (w : Where) → Reader (for_lifetimes w) (read_for w)
reads_for w =
    reads_perhaps (sees_word (codes "for")) (SomeFor w) (read_some_for w) (λ ls ts o m s. word_seen (codes "for") w ts s.middle s.first_marks s.first)
    (reads_next (keyword w (codes "for")) (λ ls. between_angles w (LifetimesAt ls)) (read_word (codes "for") w) (read_angles read_lifetimes w) (reads_word (codes "for") w)
    (reads_angles LifetimesAt read_lifetimes w (reads_lifetimes (deeper w))))
