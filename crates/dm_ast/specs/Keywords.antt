-- Which identifiers are names.
use Rattle.std.specs.Prelude.{ℕ, Bool, not, ◌&&◌, ◌||◌, List, [], ◌∷◌, codes}
use Rattle.std.specs.Str.{bytes_eq}
use Rattle.std.specs.List.{list_any}
use Rattle.dm_stream.specs.declared.tokens.Ident.{Ident}

-- the words that are no name, but for where `r#` stands before them
abbrev pub keywords : List (List ℕ)
keywords =
    codes "abstract" ∷ codes "as" ∷ codes "async" ∷ codes "await" ∷ codes "become" ∷ codes "box" ∷ codes "break" ∷
    codes "const" ∷ codes "continue" ∷ codes "crate" ∷ codes "do" ∷ codes "dyn" ∷ codes "else" ∷ codes "enum" ∷
    codes "extern" ∷ codes "false" ∷ codes "final" ∷ codes "fn" ∷ codes "for" ∷ codes "if" ∷ codes "impl" ∷ codes "in" ∷
    codes "let" ∷ codes "loop" ∷ codes "macro" ∷ codes "match" ∷ codes "mod" ∷ codes "move" ∷ codes "mut" ∷
    codes "override" ∷ codes "priv" ∷ codes "pub" ∷ codes "ref" ∷ codes "return" ∷ codes "Self" ∷ codes "self" ∷
    codes "static" ∷ codes "struct" ∷ codes "super" ∷ codes "trait" ∷ codes "true" ∷ codes "try" ∷ codes "type" ∷
    codes "typeof" ∷ codes "unsafe" ∷ codes "unsized" ∷ codes "use" ∷ codes "virtual" ∷ codes "where" ∷ codes "while" ∷
    codes "yield" ∷ []

abbrev pub is_one_of : List (List ℕ) → List ℕ → Bool
is_one_of words name = list_any (λ w. bytes_eq name w) words

unfoldable pub is_keyword : List ℕ → Bool
is_keyword name = is_one_of keywords name

-- whether an identifier is a Name
abbrev pub is_name : Ident → Bool
is_name i = not (bytes_eq i.name (codes "_")) && (i.raw || not (is_keyword i.name))
