-- What a list of trees begins with, as the reader sees it. Nothing else of the reader looks at tokens, but for the names of arguments.
use Rattle.std.specs.Prelude.{ℕ, List, [], ◌∷◌, cond, ◌==◌, ◌&&◌, codes}
use Rattle.std.specs.Str.{bytes_eq}
use Rattle.dm_stream.specs.declared.tokens.Delim.{Delim}
use Rattle.dm_stream.specs.declared.tokens.Delim.TheVariants.{Paren, Bracket, Brace}
use Rattle.dm_stream.specs.declared.tokens.Spacing.{Spacing}
use Rattle.dm_stream.specs.declared.tokens.Spacing.TheVariants.{Joint, Alone}
use Rattle.dm_stream.specs.declared.tokens.Ident.{Ident}
use Rattle.dm_stream.specs.declared.tokens.Literal.{Literal}
use Rattle.dm_stream.specs.declared.tokens.Token.{Token}
use Rattle.dm_stream.specs.declared.tokens.Token.TheVariants as t
use Rattle.dm_stream.specs.Trees.{Trees, no_trees, token, group}
use Rattle.dm_ast.specs.TypeGrammar.{is_path_word}

-- words of a path, and the keywords that are none: those that the grammar uses, and others
pub data Word : Type 0 where
  of_path : Word
  k_match : Word
  k_unsafe : Word
  k_true : Word
  k_false : Word
  k_let : Word
  k_if : Word
  k_ref : Word
  k_mut : Word
  k_wild : Word
  k_return : Word
  k_use : Word
  k_as : Word
  k_const : Word
  k_type : Word
  k_fn : Word
  k_impl : Word
  k_other : Word

abbrev pub used_keywords : List (List ℕ × Word)
used_keywords =
    (codes "match", k_match) ∷ (codes "unsafe", k_unsafe) ∷ (codes "true", k_true) ∷ (codes "false", k_false) ∷ (codes "let", k_let) ∷
    (codes "if", k_if) ∷ (codes "ref", k_ref) ∷ (codes "mut", k_mut) ∷ (codes "_", k_wild) ∷ (codes "return", k_return) ∷ (codes "use", k_use) ∷
    (codes "as", k_as) ∷ (codes "const", k_const) ∷ (codes "type", k_type) ∷ (codes "fn", k_fn) ∷ (codes "impl", k_impl) ∷ []

-- the keyword of a table, and else what is given
abbrev pub keyword_of : List (List ℕ × Word) → List ℕ → Word → Word
keyword_of [] l w = w
keyword_of (x ∷ xs) l w = cond (bytes_eq l x.0) x.1 (keyword_of xs l w)

abbrev pub path_or_other : Ident → Word
path_or_other i = cond (is_path_word i) of_path k_other

abbrev pub kind : Ident → Word
kind i = cond i.raw (path_or_other i) (keyword_of used_keywords i.name (path_or_other i))

-- what comes first, and the trees behind it
pub data Next : Type 0 where
  ended : Next
  oror : Trees → Next
  andand : Trees → Next
  equals : Trees → Next
  differs : Trees → Next
  star : Trees → Next
  amp : Trees → Next
  dot : Trees → Next
  asks : Trees → Next
  bangs : Trees → Next
  plus : Trees → Next
  less : Trees → Next
  hash : Trees → Next
  bar : Trees → Next
  comma : Trees → Next
  colon : Trees → Next
  semicolon : Trees → Next
  assigns : Trees → Next
  leads : Trees → Next
  arrow : Trees → Next
  colons : Trees → Next
  dots : Trees → Next
  in_parens : Trees → Trees → Next
  in_braces : Trees → Trees → Next
  in_brackets : Trees → Trees → Next
  literal : Literal → Trees → Next
  a_name : Ident → Trees → Next
  a_word : Word → Trees → Next
  other : Next

abbrev pub word_next : Word → Ident → Trees → Next
word_next of_path i ts = a_name i ts
word_next w i ts = a_word w ts

abbrev pub alone_next : ℕ → Trees → Next
alone_next ch ts =
    cond (ch == 42) (star ts) (cond (ch == 38) (amp ts) (cond (ch == 46) (dot ts) (cond (ch == 63) (asks ts) (cond (ch == 33) (bangs ts)
    (cond (ch == 43) (plus ts) (cond (ch == 60) (less ts) (cond (ch == 44) (comma ts) (cond (ch == 58) (colon ts) (cond (ch == 59) (semicolon ts)
    (cond (ch == 61) (assigns ts) (cond (ch == 124) (bar ts) (cond (ch == 35) (hash ts) other))))))))))))

abbrev pub pair_next : ℕ → ℕ → Trees → Next
pair_next a b ts =
    cond ((a == 58) && (b == 58)) (colons ts) (cond ((a == 61) && (b == 62)) (leads ts) (cond ((a == 61) && (b == 61)) (equals ts)
    (cond ((a == 33) && (b == 61)) (differs ts) (cond ((a == 38) && (b == 38)) (andand ts) (cond ((a == 124) && (b == 124)) (oror ts)
    (cond ((a == 46) && (b == 46)) (dots ts) (cond ((a == 45) && (b == 62)) (arrow ts) other)))))))

-- the second punct of two stands alone
abbrev pub last_next : Spacing → ℕ → ℕ → Trees → Next
last_next Alone a b ts = pair_next a b ts
last_next Joint a b ts = other

abbrev pub second_next : ℕ → Token → Trees → Next
second_next a (t.Punct p) ts = last_next p.spacing a p.ch ts
second_next a k ts = other

abbrev pub joint_next : ℕ → Trees → Next
joint_next a (token k ts) = second_next a k ts
joint_next a ts = other

abbrev pub punct_next : Spacing → ℕ → Trees → Next
punct_next Alone ch ts = alone_next ch ts
punct_next Joint ch ts = joint_next ch ts

abbrev pub token_next : Token → Trees → Next
token_next (t.Ident i) ts = word_next (kind i) i ts
token_next (t.Punct p) ts = punct_next p.spacing p.ch ts
token_next (t.Literal l) ts = literal l ts
token_next (t.Lifetime l) ts = other

abbrev pub group_next : Delim → Trees → Trees → Next
group_next Paren inside ts = in_parens inside ts
group_next Brace inside ts = in_braces inside ts
group_next Bracket inside ts = in_brackets inside ts

abbrev pub next : Trees → Next
next no_trees = ended
next (token k ts) = token_next k ts
next (group d from inside upto ts) = group_next d inside ts
