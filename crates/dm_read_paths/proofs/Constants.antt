-- Constants and visibilities: what their readers decide.
use Rattle.std.proofs.Common.{◌≡◌, ℕ, Bool, true, false, if◌then◌else◌, ◌||◌, List, [], codes, Some, Ok, IsTrue, refl, sym, ap, ◌∙◌}
use Rattle.std.specs.Str.{bytes_eq}
use Rattle.dm_stream.specs.declared.tokens.Span.{Span}
use Rattle.dm_stream.specs.declared.tokens.Delim.TheVariants.{Paren, Brace}
use Rattle.dm_stream.specs.declared.tokens.Ident.{Ident}
use Rattle.dm_stream.specs.declared.tokens.Literal.{Literal}
use Rattle.dm_stream.specs.declared.tokens.Token.TheVariants as t
use Rattle.dm_stream.specs.Trees.{Trees, no_trees, token, group, Stream}
use Rattle.dm_ast.specs.declared.plain.ConstArg.{ConstArg}
use Rattle.dm_ast.specs.declared.plain.ConstArg.TheVariants as constant
use Rattle.dm_ast.specs.declared.plain.Vis.{Vis}
use Rattle.dm_ast.specs.declared.plain.Vis.TheVariants as vis
use Rattle.dm_ast.specs.Keywords.{is_name, is_keyword}
use Rattle.dm_ast.specs.Spelling.{Where, Marks, Spelling, Nothing, ◌then◌, Provided, GroupAt, sees, sees_word, sees_literal, sees_group, is_word, ident, literal, punct, keyword, flag}
use Rattle.dm_ast.specs.TypeGrammar.{plain_path, behind_plain, kept, constant_spelled, is_truth, name}
use Rattle.dm_ast.specs.DeclarationGrammar.{is_whole, is_restriction, sees_restriction, restriction, visibility}
use Rattle.dm_ast.specs.Readers.{Parser, mapped, ◌next◌, read_flag, read_ident, read_literal, read_punct, read_word, read_group, inside_at, read_rest}
use Rattle.dm_ast.specs.PlainReaders.{read_plain, literal_of, read_signed, truth_of, block_of, name_of, sees_truth, read_constant, as_crate, as_self, as_super, as_in, read_within, read_restriction, read_visibility}
use Rattle.dm_read.proofs.Deciding.{Same, Reader, Image, Both, pair, decides_by, decides_iff, decides_test, covers_none, reads_and, reads_next, reads_flag, reads_perhaps}
use Rattle.dm_read.proofs.Tokens.{reads_ident, reads_literal, literal_seen, reads_punct, punct_seen, reads_word, word_seen, the_word, word_is}
use Rattle.dm_read.proofs.Groups.{reads_group, group_seen, reads_rest}
use Rattle.dm_read_paths.proofs.PlainParts.{reads_plain, plain_behind}

-- ---- constants

or_right : (a b : Bool) → b ≡ true → (a || b) ≡ true
or_right true b e = refl
or_right false b e = e

or_left : (a b : Bool) → a ≡ true → (a || b) ≡ true
or_left a b e = ap (λ x. x || b) e

abbrev signed : Trees → Bool
signed ts = sees 45 ts || sees_literal ts

signed_seen : (w : Where) (minus : Bool) (l : Literal) (ts o : Trees) (m : Marks) → constant_spelled w (constant.Literal minus l) ts o m → signed ts ≡ true
signed_seen w true l ts o m s = or_left (sees 45 ts) (sees_literal ts) (punct_seen 45 w ts s.middle s.first_marks s.first)
signed_seen w false l ts o m s =
    or_right (sees 45 ts) (sees_literal ts) (ap sees_literal s.first.part.spelled ∙ literal_seen w l s.middle o s.rest_marks s.rest)

-- what is an identifier is nothing else
ident_else : (w : Where) (i : Ident) (ts o : Trees) (m : Marks) → ident w i ts o m → (signed ts ≡ false) × (sees_group Brace ts ≡ false)
ident_else w i ts o m s = (ap signed s.spelled, ap (sees_group Brace) s.spelled)

block_else : (w : Where) (inside : Stream) (ts o : Trees) (m : Marks) → GroupAt w Brace (kept inside) ts o m → signed ts ≡ false
block_else w inside ts o m s = ap signed s.spelled

-- `true` and `false` are no names
true_no_name : (i : Ident) → is_word (codes "true") i ≡ true → is_name i ≡ false
unfolding is_keyword
true_no_name i e = ap is_name (word_is i (codes "true") e)

false_no_name : (i : Ident) → is_word (codes "false") i ≡ true → is_name i ≡ false
unfolding is_keyword
false_no_name i e = ap is_name (word_is i (codes "false") e)

truth_by : (i : Ident) (a : Bool) → is_word (codes "true") i ≡ a → (a || is_word (codes "false") i) ≡ true → is_name i ≡ false
truth_by i true e f = true_no_name i e
truth_by i false e f = false_no_name i f

pub truth_no_name : (i : Ident) → is_truth i ≡ true → is_name i ≡ false
truth_no_name i e = truth_by i (is_word (codes "true") i) refl e

truth_seen : (w : Where) (i : Ident) (ts o : Trees) (m : Marks) → ident w i ts o m → sees_truth ts ≡ is_truth i
truth_seen w i ts o m s = ap sees_truth s.spelled

signed_back : (w : Where) (ts : Trees) → signed ts ≡ true → (y : ConstArg) (o : Trees) (m : Marks) → constant_spelled w y ts o m →
    Image literal_of (Both (λ b. flag (sees 45) b (punct w 45)) (literal w)) y ts o m
signed_back w ts e (constant.Literal minus l) o m s = record { value = pair minus l; is_it = refl; spelled = s }
signed_back w ts e (constant.Bool i) o m s = let f = (ident_else w i ts o m s.part).0 in absurd (cc)
signed_back w ts e (constant.Block inside) o m s = let f = block_else w inside ts o m s in absurd (cc)
signed_back w ts e (constant.Name i) o m s = let f = (ident_else w i ts o m s.part).0 in absurd (cc)

block_back : (w : Where) (ts : Trees) → signed ts ≡ false → sees_group Brace ts ≡ true → (y : ConstArg) (o : Trees) (m : Marks) → constant_spelled w y ts o m →
    Image block_of (λ x. GroupAt w Brace (kept x)) y ts o m
block_back w ts d e (constant.Literal minus l) o m s = let f = signed_seen w minus l ts o m s in absurd (cc)
block_back w ts d e (constant.Bool i) o m s = let f = (ident_else w i ts o m s.part).1 in absurd (cc)
block_back w ts d e (constant.Block inside) o m s = record { value = inside; is_it = refl; spelled = s }
block_back w ts d e (constant.Name i) o m s = let f = (ident_else w i ts o m s.part).1 in absurd (cc)

truth_back : (w : Where) (ts : Trees) → signed ts ≡ false → sees_group Brace ts ≡ false → sees_truth ts ≡ true → (y : ConstArg) (o : Trees) (m : Marks) →
    constant_spelled w y ts o m → Image truth_of (λ i. Provided (IsTrue (is_truth i)) (ident w i)) y ts o m
truth_back w ts d e f (constant.Literal minus l) o m s = let g = signed_seen w minus l ts o m s in absurd (cc)
truth_back w ts d e f (constant.Bool i) o m s = record { value = i; is_it = refl; spelled = s }
truth_back w ts d e f (constant.Block inside) o m s = let g = group_seen w Brace (kept inside) ts o m s in absurd (cc)
truth_back w ts d e f (constant.Name i) o m s =
    let g : is_truth i ≡ true = sym (truth_seen w i ts o m s.part) ∙ f in
    let h : is_name i ≡ false = truth_no_name i g in
    let k : is_name i ≡ true = s.fact in
    absurd (cc)

name_back : (w : Where) (ts : Trees) → signed ts ≡ false → sees_group Brace ts ≡ false → sees_truth ts ≡ false → (y : ConstArg) (o : Trees) (m : Marks) →
    constant_spelled w y ts o m → Image name_of (name w) y ts o m
name_back w ts d e f (constant.Literal minus l) o m s = let g = signed_seen w minus l ts o m s in absurd (cc)
name_back w ts d e f (constant.Bool i) o m s =
    let g : is_truth i ≡ false = sym (truth_seen w i ts o m s.part) ∙ f in
    let k : is_truth i ≡ true = s.fact in
    absurd (cc)
name_back w ts d e f (constant.Block inside) o m s = let g = group_seen w Brace (kept inside) ts o m s in absurd (cc)
name_back w ts d e f (constant.Name i) o m s = record { value = i; is_it = refl; spelled = s }

reads_signed : (w : Where) → Reader (Both (λ b. flag (sees 45) b (punct w 45)) (literal w)) (read_signed w)
reads_signed w =
    reads_and (λ b. flag (sees 45) b (punct w 45)) (literal w) (read_flag (sees 45) (read_punct 45 w)) (read_literal w)
    (reads_flag (sees 45) (punct w 45) (read_punct 45 w) (punct_seen 45 w) (reads_punct 45 w)) (reads_literal w)

pub reads_constant : (w : Where) → Reader (constant_spelled w) (read_constant w)
reads_constant w ts =
    decides_test (constant_spelled w) ts (signed ts) (mapped literal_of (read_signed w ts))
    (if sees_group Brace ts then mapped block_of (read_group Brace read_rest w ts) else (if sees_truth ts then mapped truth_of (read_ident is_truth w ts) else mapped name_of (read_ident is_name w ts)))
    (λ e.
    decides_by literal_of (Both (λ b. flag (sees 45) b (punct w 45)) (literal w)) (constant_spelled w) ts (λ x o m s. s) (signed_back w ts e) (read_signed w ts) (reads_signed w ts))
    (λ d.
    decides_test (constant_spelled w) ts (sees_group Brace ts) (mapped block_of (read_group Brace read_rest w ts))
    (if sees_truth ts then mapped truth_of (read_ident is_truth w ts) else mapped name_of (read_ident is_name w ts))
    (λ e.
    decides_by block_of (λ x. GroupAt w Brace (kept x)) (constant_spelled w) ts (λ x o m s. s) (block_back w ts d e) (read_group Brace read_rest w ts)
    (reads_group Brace (λ x v. kept x v) read_rest w (λ limit. reads_rest (inside_at w limit)) ts))
    (λ e.
    decides_test (constant_spelled w) ts (sees_truth ts) (mapped truth_of (read_ident is_truth w ts)) (mapped name_of (read_ident is_name w ts))
    (λ f.
    decides_by truth_of (λ i. Provided (IsTrue (is_truth i)) (ident w i)) (constant_spelled w) ts (λ x o m s. s) (truth_back w ts d e f) (read_ident is_truth w ts) (reads_ident is_truth w ts))
    (λ f. decides_by name_of (name w) (constant_spelled w) ts (λ x o m s. s) (name_back w ts d e f) (read_ident is_name w ts) (reads_ident is_name w ts))))

-- ---- visibility

-- the inside of `pub (..)`
abbrev pub within : Vis → Where → Spelling
within vis.Public v = Provided ⊥ Nothing
within vis.Crate v = keyword v (codes "crate")
within vis.SelfOnly v = keyword v (codes "self")
within vis.Super v = keyword v (codes "super")
within (vis.In p) v = keyword v (codes "in") then plain_path v p

other_word : (v : Where) (word other : List ℕ) (ts o : Trees) (m : Marks) → keyword v word ts o m → bytes_eq word other ≡ false → sees_word other ts ≡ false
other_word v word other ts o m s e = ap (sees_word other) s.there.spelled ∙ e

module _ (v : Where) (ts : Trees) where
  crate_back : sees_word (codes "crate") ts ≡ true → (y : Vis) (o : Trees) (m : Marks) → within y v ts o m → Image as_crate (λ _. keyword v (codes "crate")) y ts o m
  crate_back e vis.Public o m s = absurd s.fact
  crate_back e vis.Crate o m s = record { value = tt; is_it = refl; spelled = s }
  crate_back e vis.SelfOnly o m s = let f = other_word v (codes "self") (codes "crate") ts o m s refl in absurd (cc)
  crate_back e vis.Super o m s = let f = other_word v (codes "super") (codes "crate") ts o m s refl in absurd (cc)
  crate_back e (vis.In p) o m s = let f = other_word v (codes "in") (codes "crate") ts s.middle s.first_marks s.first refl in absurd (cc)

  self_back : sees_word (codes "crate") ts ≡ false → sees_word (codes "self") ts ≡ true → (y : Vis) (o : Trees) (m : Marks) → within y v ts o m →
      Image as_self (λ _. keyword v (codes "self")) y ts o m
  self_back d e vis.Public o m s = absurd s.fact
  self_back d e vis.Crate o m s = let f = word_seen (codes "crate") v ts o m s in absurd (cc)
  self_back d e vis.SelfOnly o m s = record { value = tt; is_it = refl; spelled = s }
  self_back d e vis.Super o m s = let f = other_word v (codes "super") (codes "self") ts o m s refl in absurd (cc)
  self_back d e (vis.In p) o m s = let f = other_word v (codes "in") (codes "self") ts s.middle s.first_marks s.first refl in absurd (cc)

  super_back : sees_word (codes "crate") ts ≡ false → sees_word (codes "self") ts ≡ false → sees_word (codes "super") ts ≡ true → (y : Vis) (o : Trees) (m : Marks) →
      within y v ts o m → Image as_super (λ _. keyword v (codes "super")) y ts o m
  super_back c d e vis.Public o m s = absurd s.fact
  super_back c d e vis.Crate o m s = let f = word_seen (codes "crate") v ts o m s in absurd (cc)
  super_back c d e vis.SelfOnly o m s = let f = word_seen (codes "self") v ts o m s in absurd (cc)
  super_back c d e vis.Super o m s = record { value = tt; is_it = refl; spelled = s }
  super_back c d e (vis.In p) o m s = let f = other_word v (codes "in") (codes "super") ts s.middle s.first_marks s.first refl in absurd (cc)

  in_back : sees_word (codes "crate") ts ≡ false → sees_word (codes "self") ts ≡ false → sees_word (codes "super") ts ≡ false → (y : Vis) (o : Trees) (m : Marks) →
      within y v ts o m → Image as_in (λ p. keyword v (codes "in") then plain_path v p) y ts o m
  in_back c d e vis.Public o m s = absurd s.fact
  in_back c d e vis.Crate o m s = let f = word_seen (codes "crate") v ts o m s in absurd (cc)
  in_back c d e vis.SelfOnly o m s = let f = word_seen (codes "self") v ts o m s in absurd (cc)
  in_back c d e vis.Super o m s = let f = word_seen (codes "super") v ts o m s in absurd (cc)
  in_back c d e (vis.In p) o m s = record { value = p; is_it = refl; spelled = s }

abbrev by_in : Where → Parser Vis
by_in v ts = mapped as_in ((read_word (codes "in") v next read_plain v) ts)

abbrev by_super : Where → Parser Vis
by_super v ts = if sees_word (codes "super") ts then mapped as_super (read_word (codes "super") v ts) else by_in v ts

abbrev by_self : Where → Parser Vis
by_self v ts = if sees_word (codes "self") ts then mapped as_self (read_word (codes "self") v ts) else by_super v ts

pub reads_within : (v : Where) → Reader (λ y. within y v) (read_within v)
reads_within v ts =
    decides_test (λ y. within y v) ts (sees_word (codes "crate") ts) (mapped as_crate (read_word (codes "crate") v ts)) (by_self v ts)
    (λ c. decides_by as_crate (λ _. keyword v (codes "crate")) (λ y. within y v) ts (λ x o m s. s) (crate_back v ts c) (read_word (codes "crate") v ts) (reads_word (codes "crate") v ts))
    (λ c. decides_test (λ y. within y v) ts (sees_word (codes "self") ts) (mapped as_self (read_word (codes "self") v ts)) (by_super v ts)
    (λ d. decides_by as_self (λ _. keyword v (codes "self")) (λ y. within y v) ts (λ x o m s. s) (self_back v ts c d) (read_word (codes "self") v ts) (reads_word (codes "self") v ts))
    (λ d. decides_test (λ y. within y v) ts (sees_word (codes "super") ts) (mapped as_super (read_word (codes "super") v ts)) (by_in v ts)
    (λ e. decides_by as_super (λ _. keyword v (codes "super")) (λ y. within y v) ts (λ x o m s. s) (super_back v ts c d e) (read_word (codes "super") v ts) (reads_word (codes "super") v ts))
    (λ e. decides_by as_in (λ p. keyword v (codes "in") then plain_path v p) (λ y. within y v) ts (λ x o m s. s) (in_back v ts c d e)
    ((read_word (codes "in") v next read_plain v) ts)
    (reads_next (keyword v (codes "in")) (plain_path v) (read_word (codes "in") v) (read_plain v) (reads_word (codes "in") v) (reads_plain v) ts))))

whole_by : (range : Span) (rest : Trees) → behind_plain rest ≡ Some no_trees → is_restriction (token (t.Ident (the_word (codes "in") range)) rest) ≡ true
whole_by range no_trees e = absurd (cc)
whole_by range (token k rest) e = ap is_whole e
whole_by range (group d from inside upto rest) e = absurd (cc)

within_seen : (y : Vis) (v : Where) (ts : Trees) (m : Marks) → within y v ts no_trees m → is_restriction ts ≡ true
within_seen vis.Public v ts m s = absurd s.fact
within_seen vis.Crate v ts m s = ap is_restriction s.there.spelled
within_seen vis.SelfOnly v ts m s = ap is_restriction s.there.spelled
within_seen vis.Super v ts m s = ap is_restriction s.there.spelled
within_seen (vis.In p) v ts m s =
    ap is_restriction s.first.there.spelled ∙ whole_by s.first.range s.middle (plain_behind v p s.middle no_trees s.rest_marks s.rest)

restricted_seen : (w : Where) (y : Vis) (ts o : Trees) (m : Marks) → GroupAt w Paren (within y) ts o m → sees_restriction ts ≡ true
restricted_seen w y ts o m s = ap sees_restriction s.spelled ∙ within_seen y (inside_at w s.closer.start) s.inside s.inner_marks s.whole

restriction_back : (w : Where) (ts : Trees) → sees_restriction ts ≡ true → (y : Vis) (o : Trees) (m : Marks) → restriction w y ts o m → GroupAt w Paren (within y) ts o m
restriction_back w ts e vis.Public o m s = let f : sees_restriction ts ≡ false = ap sees_restriction s.part.spelled ∙ s.fact in absurd (cc)
restriction_back w ts e vis.Crate o m s = s
restriction_back w ts e vis.SelfOnly o m s = s
restriction_back w ts e vis.Super o m s = s
restriction_back w ts e (vis.In p) o m s = s

restriction_to : (w : Where) (ts : Trees) (y : Vis) (o : Trees) (m : Marks) → GroupAt w Paren (within y) ts o m → restriction w y ts o m
restriction_to w ts vis.Public o m s = absurd s.whole.fact
restriction_to w ts vis.Crate o m s = s
restriction_to w ts vis.SelfOnly o m s = s
restriction_to w ts vis.Super o m s = s
restriction_to w ts (vis.In p) o m s = s

public_only : (w : Where) (ts : Trees) → sees_restriction ts ≡ false → (y : Vis) (o : Trees) (m : Marks) → restriction w y ts o m → Same vis.Public ts [] y o m
public_only w ts e vis.Public o m s = record { value = refl; left = sym s.part.spelled; marks = s.part.marks }
public_only w ts e vis.Crate o m s = let f = restricted_seen w vis.Crate ts o m s in absurd (cc)
public_only w ts e vis.SelfOnly o m s = let f = restricted_seen w vis.SelfOnly ts o m s in absurd (cc)
public_only w ts e vis.Super o m s = let f = restricted_seen w vis.Super ts o m s in absurd (cc)
public_only w ts e (vis.In p) o m s = let f = restricted_seen w (vis.In p) ts o m s in absurd (cc)

pub reads_restriction : (w : Where) → Reader (restriction w) (read_restriction w)
reads_restriction w ts =
    decides_test (restriction w) ts (sees_restriction ts) (read_group Paren read_within w ts) (Ok (vis.Public, ts))
    (λ e.
    decides_iff (λ y. GroupAt w Paren (within y)) (restriction w) ts (restriction_to w ts) (restriction_back w ts e) (read_group Paren read_within w ts)
    (reads_group Paren within read_within w (λ limit. reads_within (inside_at w limit)) ts))
    (λ e. record {
      marks = [];
      spelled = record { part = record { spelled = refl; marks = refl }; fact = e };
      within = refl;
      covers = covers_none ts;
      only = public_only w ts e;
    })

pub reads_visibility : (w : Where) → Reader (visibility w) (read_visibility w)
reads_visibility w =
    reads_perhaps (sees_word (codes "pub")) (λ v. keyword w (codes "pub") then restriction w v) (read_word (codes "pub") w next read_restriction w)
    (λ v ts o m s. word_seen (codes "pub") w ts s.middle s.first_marks s.first)
    (reads_next (keyword w (codes "pub")) (restriction w) (read_word (codes "pub") w) (read_restriction w) (reads_word (codes "pub") w) (reads_restriction w))
