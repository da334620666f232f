-- What a trait's name and the text of a declaration are answered with.
use Rattle.std.specs.Prelude.{◌≡◌, ℕ, List, length, None, Some, Result, Ok, Err, ◌⊎◌, String, string_bytes}
use Rattle.std.specs.declared.alloc.Global.{Global}
use Rattle.dm_stream.specs.declared.error.Kind.TheVariants.{UnknownTrait}
use Rattle.dm_stream.specs.declared.error.Refusal.{Refusal}
use Rattle.dm_stream.specs.declared.error.Error.{Error}
use Rattle.dm_stream.specs.declared.error.Error.TheVariants.{NoMemory, Refused}
use Rattle.dm_stream.specs.Trees.{Trees}
use Rattle.dm_lexer.specs.Nesting.{IsTreesOf, IsWhole, IsRefused}
use Rattle.dm_ast.specs.declared.decl.DeriveInput.{DeriveInput}
use Rattle.dm_ast.specs.Declarations.{Declaration, declaration_view}
use Rattle.dm_ast.specs.Spelling.{Marks, first_too_deep}
use Rattle.dm_ast.specs.Parsed.{SpelledBy, IsTheDeclaration, IsUnread}
use Rattle.dm_ast.specs.Names.{Named, names_refusal}
use Rattle.dm_output.specs.Output.{ItemTree}
use Rattle.dm_printed.specs.Traits.{Trait, trait_named, refusal, IsValid, IsExpanded, IsText}

-- the name of a trait that is derived
abbrev pub Names : List ℕ → Trait → Type 0
Names name t = trait_named name ≡ Some t

abbrev pub IsKnown : List ℕ → Type 0
IsKnown name = (t : Trait) × Names name t

-- the text has these tokens, none of which is too deep in groups
pub record AreTrees (text : List ℕ) (ts : Trees) : Type 0 where
  pub whole : IsWhole text
  pub are_trees : IsTreesOf text ts

-- the text is that of the declaration, however deep its tokens stand
pub record Spells (text : List ℕ) (d : Declaration) : Type 0 where
  pub trees : Trees
  pub are_trees : IsTreesOf text trees
  pub marks : Marks
  pub spelled : SpelledBy d (length text) trees marks

-- the text is that of the declaration, and none of its tokens is too deep
pub record Grammar (text : List ℕ) (d : Declaration) : Type 0 where
  pub trees : Trees
  pub are_trees : AreTrees text trees
  pub marks : Marks
  pub spelled : SpelledBy d (length text) trees marks
  pub within : first_too_deep marks ≡ None

-- d is the declaration of the text, whose tokens aren't too deep
pub record IsRead (text : List ℕ) (d : Declaration) : Type 0 where
  pub trees : Trees
  pub are_trees : AreTrees text trees
  pub is_the_one : IsTheDeclaration d (length text) trees
  pub only : (e : Declaration) → Spells text e → e ≡ d

-- the implementations that the trait of this name derives for the text, and their text
pub record Expands (name text : List ℕ) (items : List ItemTree) (written : List ℕ) : Type 0 where
  pub derived : Trait
  pub is_known : Names name derived
  pub declaration : Declaration
  pub is_read : IsRead text declaration
  pub named : Named declaration
  pub expanded : IsExpanded derived declaration items written

-- this text is that of the trait's implementations
unfoldable pub Answers : List ℕ → List ℕ → List ℕ → Type 0
Answers name text written = (items : List ItemTree) × Expands name text items written

-- ---- the refusals, in their order: each comes only where no earlier one does

-- the name is none of a trait that is derived
pub record IsUnknown (name : List ℕ) (r : Refusal) : Type 0 where
  pub unknown : IsKnown name → ⊥
  pub is : r ≡ record { kind = UnknownTrait; span = record { start = 0; «end» = 0 } }

-- the text isn't made of tokens, or groups nest too deep
pub record IsNotLexed (text : List ℕ) (r : Refusal) : Type 0 where
  pub refused : IsRefused text r.kind r.span

-- its trees are none of a declaration, or one of their tokens is too deep
pub record IsNotParsed (text : List ℕ) (r : Refusal) : Type 0 where
  pub trees : Trees
  pub are_trees : AreTrees text trees
  pub unread : IsUnread r.kind r.span (length text) trees

-- the declaration holds what may not stand: a macro type, a name declared twice, or a reserved one
pub record IsMisnamed (text : List ℕ) (r : Refusal) : Type 0 where
  pub declaration : Declaration
  pub is_read : IsRead text declaration
  pub misnamed : names_refusal declaration ≡ Some r

-- the trait refuses the declaration
pub record IsNotDerived (t : Trait) (text : List ℕ) (r : Refusal) : Type 0 where
  pub declaration : Declaration
  pub is_read : IsRead text declaration
  pub named : Named declaration
  pub refused : refusal t declaration ≡ Some r

-- what reading a text answers, want of memory aside
abbrev pub Reads : List ℕ → Result DeriveInput Error → Type 0
Reads text (Ok d) = IsRead text (declaration_view d) × Named (declaration_view d)
Reads text (Err NoMemory) = Unit {0}
Reads text (Err (Refused r)) = IsNotLexed text r ⊎ IsNotParsed text r ⊎ IsMisnamed text r

-- the text is refused so
unfoldable pub Refuses : List ℕ → List ℕ → Refusal → Type 0
Refuses name text r =
    IsUnknown name r ⊎ ((t : Trait) × Names name t × (IsNotLexed text r ⊎ IsNotParsed text r ⊎ IsMisnamed text r ⊎ IsNotDerived t text r))

-- the trait is derived, and the text is that of a declaration that is valid
pub record IsDerivable (name text : List ℕ) : Type 0 where
  pub derived : Trait
  pub known : Names name derived
  pub declaration : Declaration
  pub grammar : Grammar text declaration
  pub named : Named declaration
  pub valid : IsValid derived declaration

-- nothing but want of memory stops a call
abbrev pub IsUnrefused : {A : Type 0} → Result A Error → Type 0
IsUnrefused (Ok x) = Unit {0}
IsUnrefused (Err NoMemory) = Unit {0}
IsUnrefused (Err (Refused r)) = ⊥

-- what a derive answers where the text alone is wanted, want of memory aside
abbrev pub Prints : List ℕ → List ℕ → Result (String Global) Error → Type 0
Prints name text (Ok written) = Answers name text (string_bytes written)
Prints name text (Err NoMemory) = Unit {0}
Prints name text (Err (Refused r)) = Refuses name text r

-- ---- laws

-- a text has one declaration
abbrev pub DeclarationIsOne : Type 0
DeclarationIsOne = (text : List ℕ) (d e : Declaration) → IsRead text d → IsRead text e → e ≡ d

-- the implementations of a trait for a declaration have one text
abbrev pub TextIsOne : Type 0
TextIsOne = (t : Trait) (d : Declaration) (x y : List ℕ) → IsText t d x → IsText t d y → x ≡ y

-- a trait and a text have one answer
abbrev pub AnswerIsOne : Type 0
AnswerIsOne = (name text x y : List ℕ) → Answers name text x → Answers name text y → x ≡ y
