-- Trees that fit in a text by what they are made of.
use Rattle.std.specs.Prelude.{◌≡◌, ℕ, ◌-◌, ◌<◌, Bool, true, false, not, List, [], ◌∷◌, map, refl}
use Rattle.std.proofs.Common.{arith}
use Rattle.std.proofs.lemmas.Bool.{and_from}
use Rattle.dm_stream.specs.declared.tokens.Delim.{Delim}
use Rattle.dm_stream.specs.declared.tokens.Ident.{Ident}
use Rattle.dm_stream.specs.declared.tokens.Lifetime.{Lifetime}
use Rattle.dm_stream.specs.declared.tokens.Literal.{Literal}
use Rattle.dm_stream.specs.declared.tokens.Spacing.TheVariants.{Joint, Alone}
use Rattle.dm_stream.specs.declared.tokens.Token.{Token}
use Rattle.dm_stream.specs.declared.tokens.Token.TheVariants as t
use Rattle.dm_stream.specs.Layout.{nowhere}
use Rattle.dm_stream.specs.Trees.{Trees, no_trees, join}
use Rattle.dm_lexer.specs.Lexemes.{is_punct}
use Rattle.dm_lexer.specs.Rows.{begins_comment}
use Rattle.dm_lexer.specs.Written.{IsSpellable, is_spaced}
use Rattle.dm_lexer.proofs.Writables.{writable-join, writable-none, writable-group, punct-spellable, is_ascii_word, ascii_word-spellable}
use Rattle.dm_ast.specs.TypeTokens.{one, name, literal, lifetime, grouped, given, spaced}
use Rattle.dm_output.specs.Tokens.{punct, comma, colon, semicolon, assigns, joint, word, ended, in_turn}
use Rattle.dm_written.specs.Fitting.{Fits, Each}
use Rattle.dm_written.proofs.Depths.{shallow_from, within_from, within_join, within_deeper}

-- ---- no trees, one list behind another, and a group

pub none_fits : (n : ℕ) → Fits n no_trees
none_fits n = record { writable = writable-none; shallow = refl }

pub join_fits : {n : ℕ} {ts us : Trees} → Fits n ts → Fits n us → Fits n (join ts us)
join_fits {n} {ts} {us} h k = record {
  writable = writable-join ts us h.writable k.writable;
  shallow = shallow_from n (join ts us) (within_join n 0 ts us (within_from n ts h.shallow) (within_from n us k.shallow));
}

pub group_fits : (n : ℕ) (d : Delim) {inside : Trees} → 0 < n → Fits (n - 1) inside → Fits n (grouped d inside)
group_fits n d {inside} some h = record {
  writable = writable-group d nowhere nowhere inside no_trees h.writable writable-none;
  shallow =
      shallow_from n (grouped d inside)
      (omega arith, within_deeper (n - 1) n 0 (omega arith) inside (within_from (n - 1) inside h.shallow), tt);
}

-- ---- single tokens

-- a token that touches nothing
pub one_fits : (n : ℕ) (k : Token) → is_spaced k no_trees ≡ true → IsSpellable k → Fits n (one k)
one_fits n k alone h = record {
  writable = record { spellable = (h, tt); spaced = and_from (is_spaced k no_trees) true alone refl };
  shallow = shallow_from n (one k) (omega arith, tt);
}

pub name_fits : (n : ℕ) (i : Ident) → IsSpellable (t.Ident i) → Fits n (name i)
name_fits n i h = one_fits n (t.Ident i) refl h

pub literal_fits : (n : ℕ) (l : Literal) → IsSpellable (t.Literal l) → Fits n (literal l)
literal_fits n l h = one_fits n (t.Literal l) refl h

pub lifetime_fits : (n : ℕ) (l : Lifetime) → IsSpellable (t.Lifetime l) → Fits n (lifetime l)
lifetime_fits n l h = one_fits n (t.Lifetime l) refl h

pub word_fits : (n : ℕ) (letters : List ℕ) → is_ascii_word letters ≡ true → Fits n (word letters)
word_fits n letters h =
    one_fits n (t.Ident record { name = letters; raw = false; span = nowhere }) refl (ascii_word-spellable letters nowhere h)

pub punct_fits : (n c : ℕ) → is_punct c ≡ true → Fits n (punct c)
punct_fits n c h = one_fits n (t.Punct record { ch = c; spacing = Alone; span = nowhere }) refl (punct-spellable c Alone nowhere h)

pub comma_fits : (n : ℕ) → Fits n comma
comma_fits n = punct_fits n 44 refl

pub colon_fits : (n : ℕ) → Fits n colon
colon_fits n = punct_fits n 58 refl

pub semicolon_fits : (n : ℕ) → Fits n semicolon
semicolon_fits n = punct_fits n 59 refl

pub assigns_fits : (n : ℕ) → Fits n assigns
assigns_fits n = punct_fits n 61 refl

-- two puncts that are read as one, and begin no comment
pub joint_fits : (n a b : ℕ) → is_punct a ≡ true → is_punct b ≡ true → not (begins_comment (a ∷ b ∷ [])) ≡ true → Fits n (joint a b)
joint_fits n a b h k apart = record {
  writable = record {
    spellable = (punct-spellable a Joint nowhere h, (punct-spellable b Alone nowhere k, tt));
    spaced = and_from (not (begins_comment (a ∷ b ∷ []))) true apart refl;
  };
  shallow = shallow_from n (joint a b) (omega arith, (omega arith, tt));
}

pub colons_fit : (n : ℕ) → Fits n (joint 58 58)
colons_fit n = joint_fits n 58 58 refl refl refl

pub arrow_fits : (n : ℕ) → Fits n (joint 45 62)
arrow_fits n = joint_fits n 45 62 refl refl refl

-- ---- what may be missing, and lists

pub given_fits : {n : ℕ} {ts : Trees} (here : Bool) → Fits n ts → Fits n (given here ts)
given_fits true h = h
given_fits {n} false h = none_fits n

pub spaced_fits : {n : ℕ} {between : Trees} (first : Bool) (parts : List Trees) → Fits n between → Each (Fits n) parts →
    Fits n (spaced between first parts)
spaced_fits {n} first [] b h = none_fits n
spaced_fits true (ts ∷ more) b h = join_fits h.0 (spaced_fits false more b h.1)
spaced_fits false (ts ∷ more) b h = join_fits b (join_fits h.0 (spaced_fits false more b h.1))

-- with commas between
pub listed_fits : (n : ℕ) (parts : List Trees) → Each (Fits n) parts → Fits n (spaced comma true parts)
listed_fits n parts h = spaced_fits true parts (comma_fits n) h

pub ended_fits : (n : ℕ) (parts : List Trees) → Each (Fits n) parts → Fits n (ended parts)
ended_fits n [] h = none_fits n
ended_fits n (ts ∷ more) h = join_fits h.0 (join_fits (comma_fits n) (ended_fits n more h.1))

pub in_turn_fits : (n : ℕ) (parts : List Trees) → Each (Fits n) parts → Fits n (in_turn parts)
in_turn_fits n [] h = none_fits n
in_turn_fits n (ts ∷ more) h = join_fits h.0 (in_turn_fits n more h.1)

-- the trees of each of a list
pub map_fits : {A : Type 0} (n : ℕ) (P : A → Type 0) (trees : A → Trees) → ((a : A) → P a → Fits n (trees a)) →
    (all : List A) → Each P all → Each (Fits n) (map trees all)
map_fits n P trees f [] h = tt
map_fits n P trees f (a ∷ more) h = (f a h.0, map_fits n P trees f more h.1)
