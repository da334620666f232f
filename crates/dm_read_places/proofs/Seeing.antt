-- What comes first, by what the calls of a cursor say.
use Rattle.std.proofs.Common.{◌≡◌, ℕ, ◌==◌, Bool, true, false, cond, ◌&&◌, ◌||◌, Some, None, refl, sym, ap, ◌∙◌, subst}
use Rattle.std.proofs.lemmas.Grind.{common_steps}
use Rattle.dm_stream.specs.declared.tokens.Delim.{Delim}
use Rattle.dm_stream.specs.declared.tokens.Delim.TheVariants.{Paren, Bracket, Brace}
use Rattle.dm_stream.specs.declared.tokens.Span.{Span}
use Rattle.dm_stream.specs.declared.tokens.Spacing.{Spacing}
use Rattle.dm_stream.specs.declared.tokens.Spacing.TheVariants.{Joint, Alone}
use Rattle.dm_stream.specs.declared.tokens.Ident.{Ident}
use Rattle.dm_stream.specs.declared.tokens.Literal.{Literal}
use Rattle.dm_stream.specs.declared.tokens.Punct.{Punct}
use Rattle.dm_stream.specs.declared.tokens.Token.TheVariants as t
use Rattle.dm_stream.specs.Trees.{Trees, no_trees, token, group}
use Rattle.dm_stream.specs.Cursors.{first_ident, first_punct, first_literal, first_group, group_if, same_delim}
use Rattle.dm_read.proofs.Seeing.{punct_front, ident_front}
use Rattle.dm_read_places.specs.declared.front.Sign.{Sign}
use Rattle.dm_read_places.specs.declared.front.Sign.TheVariants as sign
use Rattle.dm_read_places.specs.declared.front.Keyword.{Keyword}
use Rattle.dm_read_places.specs.declared.front.Keyword.TheVariants as keyword
use Rattle.dm_read_places.specs.declared.front.Kind.{Kind}
use Rattle.dm_read_places.specs.declared.front.Kind.TheVariants as kinds
use Rattle.dm_reread.specs.Next.{Word, of_path, Next, ended, in_parens, in_braces, in_brackets, literal, a_name, a_word, other, word_next, alone_next, pair_next, last_next, joint_next, punct_next, group_next, next}
use Rattle.dm_reread.specs.Next as words
use Rattle.dm_read_places.specs.Fronts.{number, sign_next, same_sign, is_sign, is_any_sign, keyword_word, word_of, is_path_kind, same_keyword, is_keyword, is_name_next, is_literal_next, is_group_next}

-- ---- one sign and another

sign_found : (f s : Sign) (ts : Trees) → is_sign s (sign_next f ts) ≡ same_sign f s
sign_found sign.OrOr s ts = refl
sign_found _ s ts = refl

pub other_sign : (f s : Sign) (n : Next) (ts : Trees) → n ≡ sign_next f ts → (number f == number s) ≡ false → is_sign s n ≡ false
other_sign f s n ts e h = ap (is_sign s) e ∙ sign_found f s ts ∙ h

-- what is seen is this sign where both are one
pub seen_sign : (f s : Sign) (n : Next) (ts : Trees) (b : Bool) → n ≡ sign_next f ts → b ≡ same_sign f s → b ≡ is_sign s n
seen_sign f s n ts b e h = h ∙ sym (sign_found f s ts) ∙ ap (is_sign s) (sym e)

pub no_sign : (s : Sign) (n : Next) → is_any_sign n ≡ false → is_sign s n ≡ false
no_sign s ended e = refl
no_sign s (in_parens inside ts) e = refl
no_sign s (in_braces inside ts) e = refl
no_sign s (in_brackets inside ts) e = refl
no_sign s (literal l ts) e = refl
no_sign s (a_name i ts) e = refl
no_sign s (a_word w ts) e = refl
no_sign s other e = refl
no_sign s _ e = absurd (cc)

pub unseen_sign : (s : Sign) (n : Next) → is_any_sign n ≡ false → false ≡ is_sign s n
unseen_sign s n e = sym (no_sign s n e)

-- ---- puncts

pub second_punct : (a : ℕ) (ts us : Trees) (p : Punct) → first_punct ts ≡ Some (p, us) → joint_next a ts ≡ last_next p.spacing a p.ch us
second_punct a ts us p e = ap (joint_next a) (punct_front ts us p e)

pub no_second_punct : (a : ℕ) (ts : Trees) → first_punct ts ≡ None → is_any_sign (joint_next a ts) ≡ false
no_second_punct a (token (t.Punct p) us) e = absurd (cc)
no_second_punct a _ e = refl

pub punct_first : (ts us : Trees) (p : Punct) → first_punct ts ≡ Some (p, us) → next ts ≡ punct_next p.spacing p.ch us
punct_first ts us p e = ap next (punct_front ts us p e)

word_signs : (w : Word) (i : Ident) (ts : Trees) → is_any_sign (word_next w i ts) ≡ false
word_signs of_path i ts = refl
word_signs _ i ts = refl

group_signs : (d : Delim) (us ts : Trees) → is_any_sign (group_next d us ts) ≡ false
group_signs Paren us ts = refl
group_signs _ us ts = refl

pub no_punct_first : (ts : Trees) → first_punct ts ≡ None → is_any_sign (next ts) ≡ false
no_punct_first (token (t.Punct p) us) e = absurd (cc)
no_punct_first (token (t.Ident i) us) e = word_signs (words.kind i) i us
no_punct_first (token (t.Literal l) us) e = refl
no_punct_first (token (t.Lifetime l) us) e = refl
no_punct_first no_trees e = refl
no_punct_first (group d from inside upto us) e = group_signs d inside us

abbrev is_other : Next → Bool
is_other other = true
is_other _ = false

-- a punct is a sign, or nothing that is read
abbrev is_mark : Next → Bool
is_mark n = is_any_sign n || is_other n

either_mark : (b : Bool) (m n : Next) → is_mark m ≡ true → is_mark n ≡ true → is_mark (cond b m n) ≡ true
either_mark true m n h k = h
either_mark false m n h k = k

alone_mark : (ch : ℕ) (ts : Trees) → is_mark (alone_next ch ts) ≡ true
alone_mark ch ts =
    either_mark (ch == 42) _ _ refl (either_mark (ch == 38) _ _ refl (either_mark (ch == 46) _ _ refl (either_mark (ch == 63) _ _ refl
    (either_mark (ch == 33) _ _ refl (either_mark (ch == 43) _ _ refl (either_mark (ch == 60) _ _ refl (either_mark (ch == 44) _ _ refl
    (either_mark (ch == 58) _ _ refl (either_mark (ch == 59) _ _ refl (either_mark (ch == 61) _ _ refl (either_mark (ch == 124) _ _ refl
    (either_mark (ch == 35) _ _ refl refl))))))))))))

pair_mark : (a b : ℕ) (ts : Trees) → is_mark (pair_next a b ts) ≡ true
pair_mark a b ts =
    either_mark ((a == 58) && (b == 58)) _ _ refl (either_mark ((a == 61) && (b == 62)) _ _ refl (either_mark ((a == 61) && (b == 61)) _ _ refl
    (either_mark ((a == 33) && (b == 61)) _ _ refl (either_mark ((a == 38) && (b == 38)) _ _ refl (either_mark ((a == 124) && (b == 124)) _ _ refl
    (either_mark ((a == 46) && (b == 46)) _ _ refl (either_mark ((a == 45) && (b == 62)) _ _ refl refl)))))))

last_mark : (s : Spacing) (a b : ℕ) (ts : Trees) → is_mark (last_next s a b ts) ≡ true
last_mark Alone a b ts = pair_mark a b ts
last_mark Joint a b ts = refl

joint_mark : (a : ℕ) (ts : Trees) → is_mark (joint_next a ts) ≡ true
joint_mark a (token (t.Punct p) us) = last_mark p.spacing a p.ch us
joint_mark a (token (t.Ident i) us) = refl
joint_mark a (token (t.Literal l) us) = refl
joint_mark a (token (t.Lifetime l) us) = refl
joint_mark a no_trees = refl
joint_mark a (group d from inside upto us) = refl

punct_mark : (s : Spacing) (ch : ℕ) (ts : Trees) → is_mark (punct_next s ch ts) ≡ true
punct_mark Alone ch ts = alone_mark ch ts
punct_mark Joint ch ts = joint_mark ch ts

mark_keyword : (k : Keyword) (n : Next) → is_mark n ≡ true → is_keyword k n ≡ false
mark_keyword k (a_word w ts) e = absurd (cc)
mark_keyword k _ e = refl

mark_name : (n : Next) → is_mark n ≡ true → is_name_next n ≡ false
mark_name (a_name i ts) e = absurd (cc)
mark_name _ e = refl

mark_literal : (n : Next) → is_mark n ≡ true → is_literal_next n ≡ false
mark_literal (literal l ts) e = absurd (cc)
mark_literal _ e = refl

mark_group : (d : Delim) (n : Next) → is_mark n ≡ true → is_group_next d n ≡ false
mark_group Paren (in_parens inside ts) e = absurd (cc)
mark_group Paren _ e = refl
mark_group Brace (in_braces inside ts) e = absurd (cc)
mark_group Brace _ e = refl
mark_group Bracket (in_brackets inside ts) e = absurd (cc)
mark_group Bracket _ e = refl

-- ---- words

pub word_first : (ts us : Trees) (i : Ident) → first_ident ts ≡ Some (i, us) → next ts ≡ word_next (words.kind i) i us
word_first ts us i e = ap next (ident_front ts us i e)

word_keyword : (k : Keyword) (i : Ident) (ts : Trees) → word_next (keyword_word k) i ts ≡ a_word (keyword_word k) ts
word_keyword keyword.Match i ts = refl
word_keyword _ i ts = refl

pub keyword_first : (ts us : Trees) (i : Ident) (w : Kind) (k : Keyword) → first_ident ts ≡ Some (i, us) → word_of w ≡ words.kind i →
    w ≡ kinds.Keyword k →
    next ts ≡ a_word (keyword_word k) us
keyword_first ts us i w k e h f =
    word_first ts us i e ∙ ap (λ x. word_next x i us) (sym h ∙ ap word_of f) ∙ word_keyword k i us

keyword_not : (k : Keyword) (w : Word) (i : Ident) (ts : Trees) → same_keyword k w ≡ false → is_keyword k (word_next w i ts) ≡ false
keyword_not k of_path i ts h = refl
keyword_not k _ i ts h = h

pub other_first : (ts us : Trees) (i : Ident) (w : Kind) (k : Keyword) → first_ident ts ≡ Some (i, us) → word_of w ≡ words.kind i →
    same_keyword k (word_of w) ≡ false →
    is_keyword k (next ts) ≡ false
other_first ts us i w k e h f =
    ap (is_keyword k) (word_first ts us i e) ∙ keyword_not k (words.kind i) i us (subst (λ x. same_keyword k x ≡ false) h f)

pub no_keyword : (k : Keyword) (ts : Trees) → first_ident ts ≡ None → is_keyword k (next ts) ≡ false
no_keyword k (token (t.Punct p) us) e = mark_keyword k (punct_next p.spacing p.ch us) (punct_mark p.spacing p.ch us)
no_keyword k (token (t.Ident i) us) e = absurd (cc)
no_keyword k (token (t.Literal l) us) e = refl
no_keyword k (token (t.Lifetime l) us) e = refl
no_keyword k no_trees e = refl
no_keyword k (group Paren from inside upto us) e = refl
no_keyword k (group Brace from inside upto us) e = refl
no_keyword k (group Bracket from inside upto us) e = refl

pub name_first : (ts us : Trees) (i : Ident) (w : Kind) → first_ident ts ≡ Some (i, us) → word_of w ≡ words.kind i → w ≡ kinds.Name →
    next ts ≡ a_name i us
name_first ts us i w e h f = word_first ts us i e ∙ ap (λ x. word_next x i us) (sym h ∙ ap word_of f)

not_name : (w : Kind) (i : Ident) (ts : Trees) → is_path_kind w ≡ false → is_name_next (word_next (word_of w) i ts) ≡ false
not_name kinds.Name i ts h = absurd (cc)
not_name (kinds.Keyword k) i ts h = ap is_name_next (word_keyword k i ts)
not_name kinds.Other i ts h = refl

pub no_path_word : (ts us : Trees) (i : Ident) (w : Kind) → first_ident ts ≡ Some (i, us) → word_of w ≡ words.kind i →
    is_path_kind w ≡ false →
    is_name_next (next ts) ≡ false
no_path_word ts us i w e h f =
    ap is_name_next (word_first ts us i e ∙ ap (λ x. word_next x i us) (sym h)) ∙ not_name w i us f

pub no_name : (ts : Trees) → first_ident ts ≡ None → is_name_next (next ts) ≡ false
no_name (token (t.Punct p) us) e = mark_name (punct_next p.spacing p.ch us) (punct_mark p.spacing p.ch us)
no_name (token (t.Ident i) us) e = absurd (cc)
no_name (token (t.Literal l) us) e = refl
no_name (token (t.Lifetime l) us) e = refl
no_name no_trees e = refl
no_name (group Paren from inside upto us) e = refl
no_name (group Brace from inside upto us) e = refl
no_name (group Bracket from inside upto us) e = refl

-- ---- literals and groups

literal_front : (ts us : Trees) (l : Literal) → first_literal ts ≡ Some (l, us) → ts ≡ token (t.Literal l) us
literal_front (token (t.Literal k) rest) us l e = let f : (k, rest) ≡ (l, us) = cc in ap (λ (v : Literal × Trees). token (t.Literal v.0) v.1) f
literal_front _ us l e = absurd (cc)

pub literal_first : (ts us : Trees) (l : Literal) → first_literal ts ≡ Some (l, us) → next ts ≡ literal l us
literal_first ts us l e = ap next (literal_front ts us l e)

word_literal : (w : Word) (i : Ident) (ts : Trees) → is_literal_next (word_next w i ts) ≡ false
word_literal of_path i ts = refl
word_literal _ i ts = refl

pub no_literal : (ts : Trees) → first_literal ts ≡ None → is_literal_next (next ts) ≡ false
no_literal (token (t.Punct p) us) e = mark_literal (punct_next p.spacing p.ch us) (punct_mark p.spacing p.ch us)
no_literal (token (t.Ident i) us) e = word_literal (words.kind i) i us
no_literal (token (t.Literal l) us) e = absurd (cc)
no_literal (token (t.Lifetime l) us) e = refl
no_literal no_trees e = refl
no_literal (group Paren from inside upto us) e = refl
no_literal (group Brace from inside upto us) e = refl
no_literal (group Bracket from inside upto us) e = refl

delim_found : (d e : Delim) (inside us : Trees) (upto : Span) (vs : Trees × ℕ × Trees) →
    group_if (same_delim e d) inside upto us ≡ Some vs →
    group_next e inside us ≡ group_next d vs.0 vs.2
delim_found Paren Paren inside us upto vs h =
    let f : (inside, upto.start, us) ≡ vs = cc in ap (λ (v : Trees × ℕ × Trees). in_parens v.0 v.2) f
delim_found Bracket Bracket inside us upto vs h =
    let f : (inside, upto.start, us) ≡ vs = cc in ap (λ (v : Trees × ℕ × Trees). in_brackets v.0 v.2) f
delim_found Brace Brace inside us upto vs h =
    let f : (inside, upto.start, us) ≡ vs = cc in ap (λ (v : Trees × ℕ × Trees). in_braces v.0 v.2) f
delim_found _ _ inside us upto vs h = absurd (cc)

pub group_first : (d : Delim) (ts inside us : Trees) (n : ℕ) → first_group d ts ≡ Some (inside, n, us) → next ts ≡ group_next d inside us
group_first d (group e from i upto rest) inside us n h = delim_found d e i rest upto (inside, n, us) h
group_first d (token k rest) inside us n h = absurd (cc)
group_first d no_trees inside us n h = absurd (cc)

word_group : (d : Delim) (w : Word) (i : Ident) (ts : Trees) → is_group_next d (word_next w i ts) ≡ false
word_group Paren of_path i ts = refl
word_group Paren _ i ts = refl
word_group Brace of_path i ts = refl
word_group Brace _ i ts = refl
word_group Bracket of_path i ts = refl
word_group Bracket _ i ts = refl

literal_group : (d : Delim) (l : Literal) (ts : Trees) → is_group_next d (literal l ts) ≡ false
literal_group Paren l ts = refl
literal_group _ l ts = refl

other_group : (d : Delim) → is_group_next d other ≡ false
other_group Paren = refl
other_group _ = refl

ended_group : (d : Delim) → is_group_next d ended ≡ false
ended_group Paren = refl
ended_group _ = refl

delim_other : (d e : Delim) (inside us : Trees) (upto : Span) → group_if (same_delim e d) inside upto us ≡ None →
    is_group_next d (group_next e inside us) ≡ false
delim_other Paren Paren inside us upto h = absurd (cc)
delim_other Bracket Bracket inside us upto h = absurd (cc)
delim_other Brace Brace inside us upto h = absurd (cc)
delim_other _ _ inside us upto h = refl

pub no_group : (d : Delim) (ts : Trees) → first_group d ts ≡ None → is_group_next d (next ts) ≡ false
no_group d (token (t.Punct p) us) e = mark_group d (punct_next p.spacing p.ch us) (punct_mark p.spacing p.ch us)
no_group d (token (t.Ident i) us) e = word_group d (words.kind i) i us
no_group d (token (t.Literal l) us) e = literal_group d l us
no_group d (token (t.Lifetime l) us) e = other_group d
no_group d no_trees e = ended_group d
no_group d (group f from inside upto us) e = delim_other d f inside us upto e

pub ruleset pair_steps = (common_steps, second_punct, no_second_punct)

pub ruleset sign_steps = (common_steps, punct_first, no_punct_first)

pub ruleset place_steps = (common_steps, seen_sign, unseen_sign, other_sign, no_sign, keyword_first, other_first, no_keyword, name_first, no_path_word, no_name, literal_first, no_literal, group_first, no_group)
