-- Signs, keywords and kinds of words of the program, as what a list of trees begins with.
use Rattle.std.specs.Prelude.{ℕ, ◌==◌, List, [], ◌∷◌, codes, Bool, true, false, Option, Some, None}
use Rattle.dm_stream.specs.declared.tokens.Delim.{Delim}
use Rattle.dm_stream.specs.declared.tokens.Delim.TheVariants.{Paren, Bracket, Brace}
use Rattle.dm_stream.specs.Trees.{Trees}
use Rattle.dm_read_places.specs.declared.front.Sign.{Sign}
use Rattle.dm_read_places.specs.declared.front.Sign.TheVariants as sign
use Rattle.dm_read_places.specs.declared.front.Keyword.{Keyword}
use Rattle.dm_read_places.specs.declared.front.Keyword.TheVariants as keyword
use Rattle.dm_read_places.specs.declared.front.Kind.{Kind}
use Rattle.dm_read_places.specs.declared.front.Kind.TheVariants as kind
use Rattle.dm_reread.specs.Next.{Word, of_path, k_match, k_unsafe, k_true, k_false, k_let, k_if, k_ref, k_mut, k_wild, k_return, k_use, k_as, k_const, k_type, k_fn, k_impl, k_other, Next, ended, oror, andand, equals, differs, star, amp, dot, asks, bangs, plus, less, hash, bar, comma, colon, semicolon, assigns, leads, arrow, colons, dots, in_parens, in_braces, in_brackets, literal, a_name, a_word, other}

-- ---- signs

-- a sign in front, and the trees behind it
abbrev pub sign_next : Sign → Trees → Next
sign_next sign.OrOr ts = oror ts
sign_next sign.AndAnd ts = andand ts
sign_next sign.Equals ts = equals ts
sign_next sign.Differs ts = differs ts
sign_next sign.Star ts = star ts
sign_next sign.Amp ts = amp ts
sign_next sign.Dot ts = dot ts
sign_next sign.Asks ts = asks ts
sign_next sign.Bangs ts = bangs ts
sign_next sign.Plus ts = plus ts
sign_next sign.Less ts = less ts
sign_next sign.Hash ts = hash ts
sign_next sign.Bar ts = bar ts
sign_next sign.Comma ts = comma ts
sign_next sign.Colon ts = colon ts
sign_next sign.Semicolon ts = semicolon ts
sign_next sign.Assigns ts = assigns ts
sign_next sign.Leads ts = leads ts
sign_next sign.Arrow ts = arrow ts
sign_next sign.Colons ts = colons ts
sign_next sign.Dots ts = dots ts

abbrev pub number : Sign → ℕ
number sign.OrOr = 0
number sign.AndAnd = 1
number sign.Equals = 2
number sign.Differs = 3
number sign.Star = 4
number sign.Amp = 5
number sign.Dot = 6
number sign.Asks = 7
number sign.Bangs = 8
number sign.Plus = 9
number sign.Less = 10
number sign.Hash = 11
number sign.Bar = 12
number sign.Comma = 13
number sign.Colon = 14
number sign.Semicolon = 15
number sign.Assigns = 16
number sign.Leads = 17
number sign.Arrow = 18
number sign.Colons = 19
number sign.Dots = 20

-- whether both are one sign
abbrev pub same_sign : Sign → Sign → Bool
same_sign s t = number s == number t

-- whether this sign comes first
abbrev pub is_sign : Sign → Next → Bool
is_sign s (oror ts) = same_sign sign.OrOr s
is_sign s (andand ts) = same_sign sign.AndAnd s
is_sign s (equals ts) = same_sign sign.Equals s
is_sign s (differs ts) = same_sign sign.Differs s
is_sign s (star ts) = same_sign sign.Star s
is_sign s (amp ts) = same_sign sign.Amp s
is_sign s (dot ts) = same_sign sign.Dot s
is_sign s (asks ts) = same_sign sign.Asks s
is_sign s (bangs ts) = same_sign sign.Bangs s
is_sign s (plus ts) = same_sign sign.Plus s
is_sign s (less ts) = same_sign sign.Less s
is_sign s (hash ts) = same_sign sign.Hash s
is_sign s (bar ts) = same_sign sign.Bar s
is_sign s (comma ts) = same_sign sign.Comma s
is_sign s (colon ts) = same_sign sign.Colon s
is_sign s (semicolon ts) = same_sign sign.Semicolon s
is_sign s (assigns ts) = same_sign sign.Assigns s
is_sign s (leads ts) = same_sign sign.Leads s
is_sign s (arrow ts) = same_sign sign.Arrow s
is_sign s (colons ts) = same_sign sign.Colons s
is_sign s (dots ts) = same_sign sign.Dots s
is_sign s _ = false

-- whether a sign comes first
abbrev pub is_any_sign : Next → Bool
is_any_sign ended = false
is_any_sign (in_parens inside ts) = false
is_any_sign (in_braces inside ts) = false
is_any_sign (in_brackets inside ts) = false
is_any_sign (literal l ts) = false
is_any_sign (a_name i ts) = false
is_any_sign (a_word w ts) = false
is_any_sign other = false
is_any_sign _ = true

-- ---- words

abbrev pub keyword_word : Keyword → Word
keyword_word keyword.Match = k_match
keyword_word keyword.Unsafe = k_unsafe
keyword_word keyword.True = k_true
keyword_word keyword.False = k_false
keyword_word keyword.Let = k_let
keyword_word keyword.If = k_if
keyword_word keyword.Ref = k_ref
keyword_word keyword.Mut = k_mut
keyword_word keyword.Wild = k_wild
keyword_word keyword.Return = k_return
keyword_word keyword.Use = k_use
keyword_word keyword.As = k_as
keyword_word keyword.Const = k_const
keyword_word keyword.Type = k_type
keyword_word keyword.Fn = k_fn
keyword_word keyword.Impl = k_impl

abbrev pub word_of : Kind → Word
word_of kind.Name = of_path
word_of (kind.Keyword k) = keyword_word k
word_of kind.Other = k_other

abbrev pub is_path_kind : Kind → Bool
is_path_kind kind.Name = true
is_path_kind _ = false

-- the table of keywords in four parts
abbrev pub last_keywords : List (List ℕ × Word)
last_keywords = (codes "const", k_const) ∷ (codes "type", k_type) ∷ (codes "fn", k_fn) ∷ (codes "impl", k_impl) ∷ []

abbrev pub third_keywords : List (List ℕ × Word)
third_keywords = (codes "_", k_wild) ∷ (codes "return", k_return) ∷ (codes "use", k_use) ∷ (codes "as", k_as) ∷ last_keywords

abbrev pub second_keywords : List (List ℕ × Word)
second_keywords = (codes "let", k_let) ∷ (codes "if", k_if) ∷ (codes "ref", k_ref) ∷ (codes "mut", k_mut) ∷ third_keywords

abbrev pub first_keywords : List (List ℕ × Word)
first_keywords = (codes "match", k_match) ∷ (codes "unsafe", k_unsafe) ∷ (codes "true", k_true) ∷ (codes "false", k_false) ∷ second_keywords

-- a keyword, or what is given
abbrev pub keyword_or : Word → Option Keyword → Word
keyword_or w None = w
keyword_or w (Some k) = keyword_word k

abbrev pub keyword_number : Keyword → ℕ
keyword_number keyword.Match = 0
keyword_number keyword.Unsafe = 1
keyword_number keyword.True = 2
keyword_number keyword.False = 3
keyword_number keyword.Let = 4
keyword_number keyword.If = 5
keyword_number keyword.Ref = 6
keyword_number keyword.Mut = 7
keyword_number keyword.Wild = 8
keyword_number keyword.Return = 9
keyword_number keyword.Use = 10
keyword_number keyword.As = 11
keyword_number keyword.Const = 12
keyword_number keyword.Type = 13
keyword_number keyword.Fn = 14
keyword_number keyword.Impl = 15

abbrev pub same_keyword : Keyword → Word → Bool
same_keyword k k_match = keyword_number keyword.Match == keyword_number k
same_keyword k k_unsafe = keyword_number keyword.Unsafe == keyword_number k
same_keyword k k_true = keyword_number keyword.True == keyword_number k
same_keyword k k_false = keyword_number keyword.False == keyword_number k
same_keyword k k_let = keyword_number keyword.Let == keyword_number k
same_keyword k k_if = keyword_number keyword.If == keyword_number k
same_keyword k k_ref = keyword_number keyword.Ref == keyword_number k
same_keyword k k_mut = keyword_number keyword.Mut == keyword_number k
same_keyword k k_wild = keyword_number keyword.Wild == keyword_number k
same_keyword k k_return = keyword_number keyword.Return == keyword_number k
same_keyword k k_use = keyword_number keyword.Use == keyword_number k
same_keyword k k_as = keyword_number keyword.As == keyword_number k
same_keyword k k_const = keyword_number keyword.Const == keyword_number k
same_keyword k k_type = keyword_number keyword.Type == keyword_number k
same_keyword k k_fn = keyword_number keyword.Fn == keyword_number k
same_keyword k k_impl = keyword_number keyword.Impl == keyword_number k
same_keyword k of_path = false
same_keyword k k_other = false

-- whether this keyword comes first
abbrev pub is_keyword : Keyword → Next → Bool
is_keyword k (a_word w ts) = same_keyword k w
is_keyword k _ = false

-- a keyword in front, and the trees behind it
abbrev pub keyword_next : Keyword → Trees → Next
keyword_next k ts = a_word (keyword_word k) ts

-- ---- names, literals and groups

abbrev pub is_name_next : Next → Bool
is_name_next (a_name i ts) = true
is_name_next _ = false

abbrev pub is_literal_next : Next → Bool
is_literal_next (literal l ts) = true
is_literal_next _ = false

abbrev pub is_group_next : Delim → Next → Bool
is_group_next Paren (in_parens inside ts) = true
is_group_next Brace (in_braces inside ts) = true
is_group_next Bracket (in_brackets inside ts) = true
is_group_next d _ = false
