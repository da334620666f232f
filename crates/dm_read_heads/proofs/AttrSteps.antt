-- The words of attributes, one test after another.
use Rattle.std.proofs.Common.{◌≡◌, ℕ, ◌&&◌, ◌||◌, ◌==◌, not, Bool, true, false, List, codes, Option, Some, None, refl, ap, ◌∙◌}
use Rattle.std.proofs.lemmas.Grind.{common_steps}
use Rattle.std.specs.Str.{bytes_eq}
use Rattle.dm_stream.specs.declared.tokens.Delim.TheVariants.{Paren, Bracket, Brace}
use Rattle.dm_stream.specs.declared.tokens.Ident.{Ident}
use Rattle.dm_stream.specs.declared.tokens.Span.{Span}
use Rattle.dm_stream.specs.declared.tokens.Spacing.{Spacing}
use Rattle.dm_stream.specs.declared.tokens.Spacing.TheVariants.{Joint, Alone}
use Rattle.dm_stream.specs.declared.tokens.Token.TheVariants as t
use Rattle.dm_stream.specs.Layout.{nowhere}
use Rattle.dm_stream.specs.Trees.{Trees, no_trees, token, group, join}
use Rattle.dm_ast.specs.Spelling.{at_end}
use Rattle.dm_output.specs.Tokens as spell
use Rattle.dm_reread.specs.Next.{Next, hash, in_brackets}
use Rattle.dm_reread.specs.Reading.{then, provided, is_alone}
use Rattle.dm_reread.specs.Items.{same_words}
use Rattle.dm_read_places.specs.declared.front.Sign.TheVariants as sign
use Rattle.dm_read_places.specs.declared.list.Turn.TheVariants.{End}
use Rattle.dm_read_places.specs.Fronts.{is_sign, is_group_next}
use Rattle.dm_read_heads.proofs.AttrLists.{attrs_are}
use Rattle.dm_read_heads.specs.Attrs.{behind_word, is_spaced, behind_punct, in_last_parens, inside_of, behind_dead_code, behind_clippy, holds, attr_at, attr_turn_at}

-- ---- a tree in front of others

kept : (b : Bool) (ts : Trees) (test : Trees → Bool) → (b && test ts) ≡ holds (provided b (Some ts)) test
kept true ts test = refl
kept false ts test = refl

word_then : (w : List ℕ) (us ts : Trees) → same_words (join (spell.word w) us) ts ≡ holds (behind_word w ts) (same_words us)
word_then w us no_trees = refl
word_then w us (token (t.Ident i) ts) = kept (not i.raw && bytes_eq w i.name) ts (same_words us)
word_then w us (token (t.Punct p) ts) = refl
word_then w us (token (t.Literal l) ts) = refl
word_then w us (token (t.Lifetime l) ts) = refl
word_then w us (group d from inside upto ts) = refl

or_false : (x : Bool) → (x || false) ≡ x
or_false true = refl
or_false false = refl

spaced_same : (s q : Spacing) → ((is_alone s && is_alone q) || not (is_alone s || is_alone q)) ≡ is_spaced s q
spaced_same Alone q = or_false (is_alone q)
spaced_same Joint q = refl

punct_then : (s : Spacing) (ch : ℕ) (at : Span) (us ts : Trees) →
    same_words (token (t.Punct (record { ch = ch; spacing = s; span = at })) us) ts ≡ holds (behind_punct s ch ts) (same_words us)
punct_then s ch at us no_trees = refl
punct_then s ch at us (token (t.Ident i) ts) = refl
punct_then s ch at us (token (t.Punct p) ts) =
    ap (λ x. (x && (ch == p.ch)) && same_words us ts) (spaced_same s p.spacing) ∙
    kept (is_spaced s p.spacing && (ch == p.ch)) ts (same_words us)
punct_then s ch at us (token (t.Literal l) ts) = refl
punct_then s ch at us (token (t.Lifetime l) ts) = refl
punct_then s ch at us (group d from inside upto ts) = refl

and_true : (x : Bool) → (x && true) ≡ x
and_true true = refl
and_true false = refl

and_false : (x : Bool) → (x && false) ≡ false
and_false true = refl
and_false false = refl

-- what is left behind one tree is what another test is of
module _ (us : Trees) where
  lone_behind : (ch : ℕ) (o : Option Trees) → holds o (same_words (join (spell.punct ch) us)) ≡ holds (then o (behind_punct Alone ch)) (same_words us)
  lone_behind ch None = refl
  lone_behind ch (Some ts) = punct_then Alone ch nowhere us ts

  parens_last : (ts : Trees) → same_words (spell.enclosed Paren us) ts ≡ holds (in_last_parens ts) (same_words us)
  parens_last no_trees = refl
  parens_last (token k ts) = refl
  parens_last (group Paren from inside upto no_trees) = and_true (same_words us inside)
  parens_last (group Paren from inside upto (token k ts)) = and_false (same_words us inside)
  parens_last (group Paren from inside upto (group d f i g ts)) = and_false (same_words us inside)
  parens_last (group Bracket from inside upto ts) = refl
  parens_last (group Brace from inside upto ts) = refl

  parens_behind : (o : Option Trees) → holds o (same_words (spell.enclosed Paren us)) ≡ holds (then o in_last_parens) (same_words us)
  parens_behind None = refl
  parens_behind (Some ts) = parens_last ts

  joint_behind : (o : Option Trees) →
      holds o (same_words (join (spell.joint 58 58) us)) ≡ holds (then o (λ x. then (behind_punct Joint 58 x) (behind_punct Alone 58))) (same_words us)
  joint_behind None = refl
  joint_behind (Some ts) = punct_then Joint 58 nowhere (join (spell.punct 58) us) ts ∙ lone_behind 58 (behind_punct Joint 58 ts)

-- ---- a word alone

nothing_left : (ts : Trees) → same_words no_trees ts ≡ at_end ts
nothing_left no_trees = refl
nothing_left (token k ts) = refl
nothing_left (group d from inside upto ts) = refl

last_behind : (o : Option Trees) → holds o (same_words no_trees) ≡ holds o at_end
last_behind None = refl
last_behind (Some ts) = nothing_left ts

word_last : (w : List ℕ) (ts : Trees) → same_words (spell.word w) ts ≡ holds (behind_word w ts) at_end
word_last w ts = word_then w no_trees ts ∙ last_behind (behind_word w ts)

pub word_found : (w : List ℕ) (ts us : Trees) → behind_word w ts ≡ Some us → same_words (spell.word w) ts ≡ at_end us
word_found w ts us e = word_last w ts ∙ ap (λ o. holds o at_end) e

pub word_missing : (w : List ℕ) (ts : Trees) → behind_word w ts ≡ None → same_words (spell.word w) ts ≡ false
word_missing w ts e = word_last w ts ∙ ap (λ o. holds o at_end) e

-- ---- words in parentheses

listed : (w : List ℕ) (us ts : Trees) → same_words (join (spell.word w) (spell.enclosed Paren us)) ts ≡ holds (inside_of w ts) (same_words us)
listed w us ts = word_then w (spell.enclosed Paren us) ts ∙ parens_behind us (behind_word w ts)

pub listed_found : (w : List ℕ) (us ts inside : Trees) → inside_of w ts ≡ Some inside →
    same_words (join (spell.word w) (spell.enclosed Paren us)) ts ≡ same_words us inside
listed_found w us ts inside e = listed w us ts ∙ ap (λ o. holds o (same_words us)) e

pub listed_missing : (w : List ℕ) (us ts : Trees) → inside_of w ts ≡ None → same_words (join (spell.word w) (spell.enclosed Paren us)) ts ≡ false
listed_missing w us ts e = listed w us ts ∙ ap (λ o. holds o (same_words us)) e

-- ---- lints of several tokens

dead_code_is : (ts : Trees) →
    same_words (join spell.dead_code (join spell.comma spell.private_bounds)) ts ≡ holds (behind_dead_code ts) (same_words (spell.word (codes "private_bounds")))
unfolding spell.dead_code spell.private_bounds
dead_code_is ts =
    let us : Trees = spell.word (codes "private_bounds") in
    word_then (codes "dead_code") (join spell.comma us) ts ∙ lone_behind us 44 (behind_word (codes "dead_code") ts)

pub dead_code_found : (ts us : Trees) → behind_dead_code ts ≡ Some us →
    same_words (join spell.dead_code (join spell.comma spell.private_bounds)) ts ≡ same_words (spell.word (codes "private_bounds")) us
dead_code_found ts us e = dead_code_is ts ∙ ap (λ o. holds o (same_words (spell.word (codes "private_bounds")))) e

pub dead_code_missing : (ts : Trees) → behind_dead_code ts ≡ None →
    same_words (join spell.dead_code (join spell.comma spell.private_bounds)) ts ≡ false
dead_code_missing ts e = dead_code_is ts ∙ ap (λ o. holds o (same_words (spell.word (codes "private_bounds")))) e

unit_is : (ts : Trees) → same_words spell.unused_unit ts ≡ holds (behind_clippy ts) (same_words (spell.word (codes "unused_unit")))
unfolding spell.unused_unit
unit_is ts =
    let us : Trees = spell.word (codes "unused_unit") in
    word_then (codes "clippy") (join (spell.joint 58 58) us) ts ∙ joint_behind us (behind_word (codes "clippy") ts)

pub unit_found : (ts us : Trees) → behind_clippy ts ≡ Some us → same_words spell.unused_unit ts ≡ same_words (spell.word (codes "unused_unit")) us
unit_found ts us e = unit_is ts ∙ ap (λ o. holds o (same_words (spell.word (codes "unused_unit")))) e

pub unit_missing : (ts : Trees) → behind_clippy ts ≡ None → same_words spell.unused_unit ts ≡ false
unit_missing ts e = unit_is ts ∙ ap (λ o. holds o (same_words (spell.word (codes "unused_unit")))) e

-- ---- the names of lints

pub bounds_word : spell.private_bounds ≡ spell.word (codes "private_bounds")
unfolding spell.private_bounds
bounds_word = refl

pub deprecated_word : spell.deprecated ≡ spell.word (codes "deprecated")
unfolding spell.deprecated
deprecated_word = refl

pub unreachable_word : spell.unreachable_code ≡ spell.word (codes "unreachable_code")
unfolding spell.unreachable_code
unreachable_word = refl

pub globals_word : spell.non_upper_case_globals ≡ spell.word (codes "non_upper_case_globals")
unfolding spell.non_upper_case_globals
globals_word = refl

pub derived_word : spell.automatically_derived ≡ spell.word (codes "automatically_derived")
unfolding spell.automatically_derived
derived_word = refl

pub track_word : spell.track_caller ≡ spell.word (codes "track_caller")
unfolding spell.track_caller
track_word = refl

-- ---- attributes in brackets

pub no_attr : (m : Next) → is_group_next Bracket m ≡ false → attr_at m ≡ None
no_attr (in_brackets inside ts) e = absurd (cc)
no_attr _ e = refl

pub no_attrs : (ts : Trees) (m : Next) → is_sign sign.Hash m ≡ false → attr_turn_at ts m ≡ Some (End tt, ts)
no_attrs ts (hash us) e = absurd (cc)
no_attrs ts _ e = refl

pub ruleset attr_steps = (common_steps, word_found, word_missing, listed_found, listed_missing, dead_code_found, dead_code_missing, unit_found, unit_missing, no_attr, no_attrs, attrs_are)

pub ruleset name_steps = (common_steps, bounds_word, deprecated_word, unreachable_word, globals_word, derived_word, track_word)
